-- The partition that a loop reads of the bytes is that of the definition.
use Rattle.std.proofs.Common.{◌≡◌, ℕ, List, [], Result, Ok, Err, refl, sym, ap, subst, ◌∙◌}
use Rattle.std.specs.Int.{w32}
use Rattle.wire_parts.specs.declared.refusal.WireRefused.{WireRefused}
use Rattle.wire_parts.specs.Places.{Place, start}
use Rattle.wire_parts.specs.Parts.{◌>>=◌, Fails, number_at, end_at}
use Rattle.wire_parts.proofs.Refusals.{Fails-bind}
use Rattle.object_store.specs.Partitions.{Partition, partition_of}
use Rattle.object_store.specs.Names.{objects_at, partition_in}
use Rattle.object_store.specs.Reading.{stored_at, snapshot_in}
use Rattle.object_store.proofs.SnapshotLaws.{bind_assoc}

bind_same : {A B : Type 0} (r : Result A WireRefused) (f g : A → Result B WireRefused) → ((x : A) → f x ≡ g x) → (r >>= f) ≡ (r >>= g)
bind_same (Ok x) f g same = same x
bind_same (Err e) f g same = refl

abbrev ending : Partition × Place → Result Partition WireRefused
ending s = end_at s.1 >>= λ end. Ok s.0

pub same_partition_in : (bytes : List ℕ) → partition_in bytes ≡ snapshot_in bytes
unfolding partition_in objects_at snapshot_in
same_partition_in bytes =
    bind_same (number_at w32 (start bytes))
    (λ count. (stored_at [] count.0 count.1 >>= λ stored. Ok (partition_of stored.0, stored.1)) >>= ending)
    (λ count. stored_at [] count.0 count.1 >>= λ stored. end_at stored.1 >>= λ end. Ok (partition_of stored.0))
    (λ count. bind_assoc (stored_at [] count.0 count.1) (λ stored. Ok (partition_of stored.0, stored.1)) ending)

-- ---- the last step

bind_step : {A B : Type 0} (r : Result A WireRefused) (x : A) (f : A → Result B WireRefused) → r ≡ Ok x → (r >>= f) ≡ f x
bind_step r x f e = ap (λ (read : Result _ WireRefused). read >>= f) e

module _ (bytes : List ℕ) (from p q : Place) (count : ℕ) (s : Partition) (from_start : from ≡ start bytes) (counted : number_at w32 from ≡ Ok (count, p)) (read : objects_at count p ≡ Ok (s, q)) where
  up_to_end : partition_in bytes ≡ (end_at q >>= λ end. Ok s)
  unfolding partition_in
  up_to_end =
      bind_step (number_at w32 (start bytes)) (count, p) (λ n. objects_at n.0 n.1 >>= ending) (ap (number_at w32) (sym from_start) ∙ counted)
      ∙ bind_step (objects_at count p) (s, q) ending read

  pub partition_read : (end : Place) → end_at q ≡ Ok end → partition_in bytes ≡ Ok s
  partition_read end e = up_to_end ∙ bind_step (end_at q) end (λ end. Ok s) e

  pub partition_fails : (e : WireRefused) → Fails e (end_at q) → Fails e (partition_in bytes)
  partition_fails e fails = subst (Fails e) (sym up_to_end) (Fails-bind e (end_at q) (λ end. Ok s) fails)
