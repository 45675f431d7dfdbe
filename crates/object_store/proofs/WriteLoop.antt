-- The objects of a partition one after the other, as a loop writes them.
use Rattle.std.proofs.Common.{◌≡◌, ℕ, ◌+◌, ◌<◌, true, List, [], ◌∷◌, ◌++◌, length, map, get_or, take, sym, ap, subst, ◌∙◌, append_assoc, arith}
use Rattle.std.specs.List.{flat_map}
use Rattle.std.proofs.lemmas.List.{get_or-map, length-map, take_more, append-nil}
use Rattle.std.proofs.lemmas.List.Concat.{flat_map-cons}
use Rattle.std.proofs.lemmas.Grind.{flat_map-append}
use Rattle.grid_base.specs.declared.names.ObjectKey.{ObjectKey}
use Rattle.object_store.specs.Records.{Record}
use Rattle.object_store.specs.Partitions.{Partition, stored_in, record_at, is_kept}
use Rattle.object_store.specs.Spelling.{stored_bytes, IsSpelledObject, IsSpelledRecord, IsSpelledPartition}
use Rattle.object_store.proofs.PartitionLaws.{stored_kept}

abbrev Stored : Type 0
Stored = ObjectKey × Record

module _ (s : Partition) (names : List ObjectKey) (i : ℕ) (name : ObjectKey) (are : names ≡ map (λ (one : Stored). one.0) (stored_in s)) (lt : i < length names) (is : name ≡ get_or names i name) where
  abbrev here : Stored
  here = (name, record_at s name)

  abbrev there : Stored
  there = get_or (stored_in s) i here

  within : i < length (stored_in s)
  within = omega (arith, lt, ap length are, length-map (stored_in s) (λ (one : Stored). one.0))

  name_there : there.0 ≡ name
  name_there = sym (get_or-map (λ (one : Stored). one.0) (stored_in s) i here name within) ∙ ap (λ (ns : List ObjectKey). get_or ns i name) (sym are) ∙ sym is

  is_there : there ≡ here
  is_there =
      let kept : record_at s there.0 ≡ there.1 = (stored_kept s i here within).1 in
      let same : record_at s name ≡ there.1 = ap (record_at s) (sym name_there) ∙ kept in
      λ j. (name_there j, sym same j)

  pub keeps_here : is_kept (name, record_at s name) ≡ true
  keeps_here = subst (λ (one : Stored). is_kept one ≡ true) is_there (stored_kept s i here within).0

  pub spelled_here : IsSpelledPartition s → IsSpelledObject name × IsSpelledRecord (record_at s name)
  spelled_here fits = subst (λ (one : Stored). IsSpelledObject one.0 × IsSpelledRecord one.1) is_there (fits.each i here within)

  pub written_on : (out before after : List ℕ) → before ≡ out ++ flat_map stored_bytes (take i (stored_in s)) → after ≡ before ++ stored_bytes (name, record_at s name) → after ≡ out ++ flat_map stored_bytes (take (i + 1) (stored_in s))
  written_on out before after so_far written =
      let front = flat_map stored_bytes (take i (stored_in s)) in
      let one : flat_map stored_bytes (here ∷ []) ≡ stored_bytes here = flat_map-cons stored_bytes here [] ∙ append-nil (stored_bytes here) in
      let more : flat_map stored_bytes (take (i + 1) (stored_in s)) ≡ front ++ stored_bytes here =
      ap (flat_map stored_bytes) (take_more (stored_in s) i here within ∙ ap (λ (x : Stored). take i (stored_in s) ++ x ∷ []) is_there)
      ∙ flat_map-append stored_bytes (take i (stored_in s)) (here ∷ []) ∙ ap (λ (t : List ℕ). front ++ t) one in
      written ∙ ap (λ (t : List ℕ). t ++ stored_bytes here) so_far ∙ append_assoc out front (stored_bytes here) ∙ ap (λ (t : List ℕ). out ++ t) (sym more)
