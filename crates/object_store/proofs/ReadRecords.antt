-- What is read of an object is kept.
use Rattle.std.proofs.Common.{◌≡◌, ℕ, zero, suc, ◌+◌, Bool, true, false, cond, ◌==◌, List, [], ◌∷◌, ◌++◌, length, Result, Ok, Err, refl, sym, ap, subst, arith, length-append}
use Rattle.std.specs.Prelude.{if◌then◌else◌}
use Rattle.std.specs.Int.{w32}
use Rattle.std.proofs.lemmas.Bool.{eqb-false}
use Rattle.grid_base.specs.declared.names.ObjectKey.{ObjectKey}
use Rattle.grid_base.specs.declared.names.ObjectKey.TheVariants as object
use Rattle.map_records.specs.declared.records.MapRecord.{MapRecord}
use Rattle.wire_parts.specs.declared.refusal.WireRefused.{WireRefused}
use Rattle.wire_parts.specs.declared.refusal.WireRefused.TheVariants.{Order}
use Rattle.wire_parts.specs.Places.{Place}
use Rattle.wire_parts.specs.Parts.{number_at, sized_at}
use Rattle.wire_parts.proofs.Formats.{ok_is}
use Rattle.wire_parts.proofs.Following.{bind_ok}
use Rattle.object_store.specs.Records.{Record, Map, Queue, has_value_or_lock}
use Rattle.object_store.specs.Partitions.{is_kept}
use Rattle.object_store.specs.Reading.{entry_at, kept_entry_at, items_at, kept_queue_at, record_of}
use Rattle.object_store.proofs.QueueFormat.{has_some}
use Rattle.object_store.proofs.StoredFormat.{kept_entry, kept_queue}

test_ok : {A : Type 0} (b : Bool) (d : WireRefused) (x y : A) → cond b (Ok x) (Err d) ≡ Ok y → (b ≡ true) × (x ≡ y)
test_ok true d x y e = (refl, cc)
test_ok false d x y e = absurd cc

not_refused : {A : Type 0} (b : Bool) (d : WireRefused) (r : Result A WireRefused) (y : A) → cond b (Err d) r ≡ Ok y → (b ≡ false) × (r ≡ Ok y)
not_refused true d r y e = absurd cc
not_refused false d r y e = (refl, e)

entry_is_kept : (p q : Place) (entry : MapRecord) → kept_entry_at p ≡ Ok (entry, q) → has_value_or_lock entry ≡ true
unfolding kept_entry_at
entry_is_kept p q entry is =
    let x = bind_ok (entry_at p) (λ e. if has_value_or_lock e.0 then Ok e else Err (Order p.at)) (entry, q) is in
    let g = test_ok (has_value_or_lock x.0.0) (Order p.at) x.0 (entry, q) x.2 in
    subst (λ (e : MapRecord × Place). has_value_or_lock e.0 ≡ true) g.1 g.0

items_counted : (n : ℕ) (items all : List (List ℕ)) (p q : Place) → items_at items n p ≡ Ok (all, q) → length all ≡ length items + n
unfolding items_at
items_counted zero items all p q is =
    let same : items ≡ all = ap (λ (got : List (List ℕ) × Place). got.0) (ok_is (items, p) (all, q) is) in
    omega (arith, ap length same)
items_counted (suc n) items all p q is =
    let x = bind_ok (sized_at p) (λ item. items_at (items ++ item.0 ∷ []) n item.1) (all, q) is in
    let rest = items_counted n (items ++ x.0.0 ∷ []) all x.0.1 q x.2 in
    omega (arith, rest, length-append items (x.0.0 ∷ []))

some_of_length : (items : List (List ℕ)) (n : ℕ) → length items ≡ n → (n == 0) ≡ false → has_some items ≡ true
some_of_length [] n len more = absurd (eqb-false n 0 more (sym len))
some_of_length (item ∷ items) n len more = refl

queue_is_kept : (p q : Place) (items : List (List ℕ)) → kept_queue_at p ≡ Ok (items, q) → has_some items ≡ true
unfolding kept_queue_at
queue_is_kept p q items is =
    let x = bind_ok (number_at w32 p) (λ count. if count.0 == 0 then Err (Order p.at) else items_at [] count.0 count.1) (items, q) is in
    let g = not_refused (x.0.0 == 0) (Order p.at) (items_at [] x.0.0 x.0.1) (items, q) x.2 in
    let counted = items_counted x.0.0 [] items x.0.1 q g.1 in
    let len : length items ≡ x.0.0 = omega (arith, counted) in
    some_of_length items x.0.0 len g.0

pub kept_of_read : (name : ObjectKey) (p q : Place) (kept : Record) → record_of name p ≡ Ok (kept, q) → is_kept (name, kept) ≡ true
unfolding record_of
kept_of_read (object.Entry map key) p q kept is =
    let x = bind_ok (kept_entry_at p) (λ entry. Ok (Map entry.0, entry.1)) (kept, q) is in
    let same : Map x.0.0 ≡ kept = ap (λ (got : Record × Place). got.0) (ok_is (Map x.0.0, x.0.1) (kept, q) x.2) in
    subst (λ (k : Record). is_kept (object.Entry map key, k) ≡ true) same (kept_entry map key x.0.0 (entry_is_kept p x.0.1 x.0.0 x.1))
kept_of_read (object.Queue name) p q kept is =
    let x = bind_ok (kept_queue_at p) (λ items. Ok (Queue items.0, items.1)) (kept, q) is in
    let same : Queue x.0.0 ≡ kept = ap (λ (got : Record × Place). got.0) (ok_is (Queue x.0.0, x.0.1) (kept, q) x.2) in
    subst (λ (k : Record). is_kept (object.Queue name, k) ≡ true) same (kept_queue name x.0.0 (queue_is_kept p x.0.1 x.0.0 x.1))
