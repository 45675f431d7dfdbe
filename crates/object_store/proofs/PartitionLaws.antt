-- The laws of partitions: the order of objects, what is kept of each object after a change, and when two partitions are one.
use Rattle.std.proofs.Common.{◌≡◌, ℕ, ◌+◌, ◌-◌, ◌≤◌, Bool, true, false, cond, not, ◌&&◌, T, List, [], ◌∷◌, length, Option, Some, None, is_some, All, unwrap_or, refl, ap, sym, subst, ◌∙◌, arith, true≢false, ◌⊎◌, inl, inr, ⊎_elim, if◌then◌else◌}
use Rattle.std.proofs.lemmas.List.Elements.{All-nil, All-cons, All-head, All-tail}
use Rattle.std.specs.List.{list_all}
use Rattle.std.specs.Ordering.{nat_cmp, ordering_then, eq_by_cmp, is_eq, is_lt, ordering_reverse}
use Rattle.std.specs.declared.cmp.Ordering.{Ordering}
use Rattle.std.specs.declared.cmp.Ordering.TheVariants.{Less, Equal, Greater}
use Rattle.std.specs.Cmp.{IsTotalOrder, then_total, on_total, tied_itself, Equal-is}
use Rattle.std.specs.Cmp.Lexicographic.{slice_cmp, nat_list_cmp_total, texts_ties}
use Rattle.std.specs.FinMap as finite
use Rattle.std.specs.FinMap.{IsAntisymmetric, nat_cmp-IsAntisymmetric, slice_cmp-IsAntisymmetric}
use Rattle.std.specs.FinMap.Entries.{below_all, is_sorted}
use Rattle.key_locks.specs.declared.locks.Lock.{Lock}
use Rattle.map_records.specs.declared.records.Idle.{Idle}
use Rattle.map_records.specs.MapEntries.{empty_entry}
use Rattle.grid_base.specs.declared.names.ObjectKey.{ObjectKey}
use Rattle.grid_base.specs.declared.names.ObjectKey.TheVariants.{Entry, Queue}
use Rattle.grid_base.specs.Names.{is_same}
use Rattle.object_store.specs.Records.{Record, suits, is_nothing, nothing_of}
use Rattle.object_store.specs.Records.{Map as OfMap, Queue as OfQueue}
use Rattle.object_store.specs.Codes.{same_objects}
use Rattle.object_store.specs.Partitions.{Partition, object_cmp, is_kept, stored_in, record_at, checked, objects_with, with_record, nothing_stored, partition_of}

-- tests

pub true_or_false : (b : Bool) → (b ≡ true) ⊎ (b ≡ false)
true_or_false true = inl refl
true_or_false false = inr refl

pub both_true : (a b : Bool) → a ≡ true → b ≡ true → (a && b) ≡ true
both_true true b p q = q
both_true false b p q = p

pub first_true : (a b : Bool) → (a && b) ≡ true → a ≡ true
first_true true b p = refl
first_true false b p = p

pub second_true : (a b : Bool) → (a && b) ≡ true → b ≡ true
second_true true b p = p
second_true false b p = absurd (true≢false (sym p))

second_false : (a b : Bool) → a ≡ true → (a && not b) ≡ false → b ≡ true
second_false true true p q = refl
second_false true false p q = absurd (true≢false q)
second_false false b p q = absurd (true≢false (sym p))

pub is_true : (b : Bool) → T b → b ≡ true
is_true true t = refl
is_true false t = absurd t

-- the order of objects

abbrev Names : Type 0
Names = List ℕ × List ℕ

entries_total : IsTotalOrder (λ (a b : Names). ordering_then (slice_cmp nat_cmp a.0 b.0) (slice_cmp nat_cmp a.1 b.1))
entries_total = then_total (on_total (λ (a : Names). a.0) nat_list_cmp_total) (on_total (λ (a : Names). a.1) nat_list_cmp_total)

pub object_cmp_total : IsTotalOrder object_cmp
object_cmp_total = record { antisymm = antisymm; trans = trans; congr = congr }
  where
    antisymm : (a b : ObjectKey) → object_cmp a b ≡ ordering_reverse (object_cmp b a)
    antisymm (Entry map key) (Entry map' key') = entries_total.antisymm (map, key) (map', key')
    antisymm (Entry map key) (Queue name) = refl
    antisymm (Queue name) (Entry map key) = refl
    antisymm (Queue name) (Queue name') = nat_list_cmp_total.antisymm name name'

    trans : (a b c : ObjectKey) → object_cmp a b ≡ Less → object_cmp b c ≡ Less → object_cmp a c ≡ Less
    trans (Entry map key) (Entry map' key') (Entry map'' key'') p q = entries_total.trans (map, key) (map', key') (map'', key'') p q
    trans (Entry map key) b (Queue name) p q = refl
    trans (Entry map key) (Queue name) (Entry map' key') p q = cc
    trans (Queue name) (Entry map key) c p q = cc
    trans (Queue name) (Queue name') (Entry map key) p q = cc
    trans (Queue name) (Queue name') (Queue name'') p q = nat_list_cmp_total.trans name name' name'' p q

    congr : (a b c : ObjectKey) → object_cmp a b ≡ Equal → object_cmp a c ≡ object_cmp b c
    congr (Entry map key) (Entry map' key') (Entry map'' key'') p = entries_total.congr (map, key) (map', key') (map'', key'') p
    congr (Entry map key) (Entry map' key') (Queue name) p = refl
    congr (Entry map key) (Queue name) c p = cc
    congr (Queue name) (Entry map key) c p = cc
    congr (Queue name) (Queue name') (Entry map key) p = refl
    congr (Queue name) (Queue name') (Queue name'') p = nat_list_cmp_total.congr name name' name'' p

names_apart : IsAntisymmetric (slice_cmp nat_cmp)
names_apart = slice_cmp-IsAntisymmetric nat_cmp-IsAntisymmetric

both_equal : (r o : Ordering) → ordering_then r o ≡ Equal → (r ≡ Equal) × (o ≡ Equal)
both_equal Less o e = cc
both_equal Equal o e = (refl, e)
both_equal Greater o e = cc

pub object_cmp_apart : IsAntisymmetric object_cmp
object_cmp_apart (Entry map key) (Entry map' key') e =
    let parts = both_equal (slice_cmp nat_cmp map map') (slice_cmp nat_cmp key key') e in
    λ i. Entry (names_apart map map' parts.0 i) (names_apart key key' parts.1 i)
object_cmp_apart (Entry map key) (Queue name) e = cc
object_cmp_apart (Queue name) (Entry map key) e = cc
object_cmp_apart (Queue name) (Queue name') e = ap Queue (names_apart name name' e)

both_tied : (r o : Ordering) → is_eq (ordering_then r o) ≡ (is_eq r && is_eq o)
both_tied Less o = refl
both_tied Equal o = refl
both_tied Greater o = refl

-- The order ties an object with the same object alone.
pub same_object : (a b : ObjectKey) → eq_by_cmp object_cmp a b ≡ is_same a b
same_object (Entry map key) (Entry map' key') =
    both_tied (slice_cmp nat_cmp map map') (slice_cmp nat_cmp key key') ∙ (λ i. sym (texts_ties map map') i && sym (texts_ties key key') i)
same_object (Entry map key) (Queue name) = refl
same_object (Queue name) (Entry map key) = refl
same_object (Queue name) (Queue name') = sym (texts_ties name name')

pub is_same_self : (name : ObjectKey) → is_same name name ≡ true
is_same_self name = sym (same_object name name) ∙ ap is_eq (tied_itself object_cmp_total name)

pub same_name : (a b : ObjectKey) → is_same a b ≡ true → a ≡ b
same_name a b e = object_cmp_apart a b ((Equal-is (object_cmp a b)).0 (same_object a b ∙ e))

-- lists of objects in their order

abbrev Objects : Type 0
Objects = finite.FinMap object_cmp Record

abbrev found : List (ObjectKey × Record) → ObjectKey → Option Record
found stored name = finite.find object_cmp name stored

found_first : (stored : ObjectKey × Record) (more : List (ObjectKey × Record)) → found (stored ∷ more) stored.0 ≡ Some stored.1
found_first stored more = ap (λ same. if same then Some stored.1 else found more stored.0) (same_object stored.0 stored.0 ∙ is_same_self stored.0)

less : (r : Ordering) → is_lt r ≡ true → is_eq r ≡ false
less Less e = refl
less Equal e = cc
less Greater e = cc

none_below : (name : ObjectKey) (stored : List (ObjectKey × Record)) → below_all object_cmp name stored ≡ true → found stored name ≡ None
none_below name [] h = refl
none_below name (first ∷ more) h =
    ap (λ same. if same then Some first.1 else found more name) (less (object_cmp name first.0) (first_true _ (below_all object_cmp name more) h))
    ∙ none_below name more (second_true (is_lt (object_cmp name first.0)) _ h)

-- what is found behind the first is found
found_behind : (first : ObjectKey × Record) (more : List (ObjectKey × Record)) (name : ObjectKey) (kept : Record) → below_all object_cmp first.0 more ≡ true → found more name ≡ Some kept → found (first ∷ more) name ≡ Some kept
found_behind first more name kept below e = ⊎_elim
    (λ same. let none : found more name ≡ None = subst (λ other. found more other ≡ None) (sym (same_name name first.0 same)) (none_below first.0 more below) in cc)
    (λ other. ap (λ same. if same then Some first.1 else found more name) (same_object name first.0 ∙ other) ∙ e)
    (true_or_false (is_same name first.0))

module _ (P : ObjectKey × Record → Type 0) where
  all_found : (stored : List (ObjectKey × Record)) → is_sorted object_cmp stored ≡ true → ((name : ObjectKey) (kept : Record) → found stored name ≡ Some kept → P (name, kept)) → All P stored
  all_found [] sorted each = All-nil P
  all_found (first ∷ more) sorted each = All-cons P first more
      (each first.0 first.1 (found_first first more))
      (all_found more (second_true (below_all object_cmp first.0 more) _ sorted) (λ name kept e. each name kept (found_behind first more name kept (first_true _ (is_sorted object_cmp more) sorted) e)))

  found_of_all : (stored : List (ObjectKey × Record)) → All P stored → (name : ObjectKey) (kept : Record) → found stored name ≡ Some kept → P (name, kept)
  found_of_all [] all name kept e = absurd (true≢false (sym (ap is_some e)))
  found_of_all (first ∷ more) all name kept e = ⊎_elim
      (λ same.
      let here : Some first.1 ≡ Some kept = sym (ap (λ tied. if tied then Some first.1 else found more name) (same_object name first.0 ∙ same)) ∙ e in
      let is : first.1 ≡ kept = cc in
      subst (λ name. P (name, kept)) (sym (same_name name first.0 same)) (subst (λ kept. P (first.0, kept)) is (All-head P first more all)))
      (λ other. found_of_all more (All-tail P first more all) name kept (sym (ap (λ tied. if tied then Some first.1 else found more name) (same_object name first.0 ∙ other)) ∙ e))
      (true_or_false (is_same name first.0))

  -- a fact of each object of a map, by what the map has of each name
  pub all_of_objects : (objects : Objects) → ((name : ObjectKey) (kept : Record) → finite.get objects name ≡ Some kept → P (name, kept)) → All P (finite.entries objects)
  all_of_objects objects each = all_found (finite.entries objects) (is_true _ (finite.entries_sorted objects)) (λ name kept e. each name kept (finite.get-entries objects name ∙ e))

  pub of_all_objects : (objects : Objects) → All P (finite.entries objects) → (name : ObjectKey) (kept : Record) → finite.get objects name ≡ Some kept → P (name, kept)
  of_all_objects objects all name kept e = found_of_all (finite.entries objects) all name kept (sym (finite.get-entries objects name) ∙ e)

abbrev pub IsKept : ObjectKey × Record → Type 0
IsKept one = is_kept one ≡ true

all_kept : (stored : List (ObjectKey × Record)) → All IsKept stored → list_all is_kept stored ≡ true
all_kept [] h = refl
all_kept (first ∷ more) h = both_true (is_kept first) (list_all is_kept more) (All-head IsKept first more h) (all_kept more (All-tail IsKept first more h))

each_kept : (stored : List (ObjectKey × Record)) → list_all is_kept stored ≡ true → All IsKept stored
each_kept [] h = All-nil IsKept
each_kept (first ∷ more) h = All-cons IsKept first more (first_true _ (list_all is_kept more) h) (each_kept more (second_true (is_kept first) _ h))

pub all_is_kept : (s : Partition) → All IsKept (stored_in s)
all_is_kept s = each_kept (stored_in s) (is_true _ s.kept)

pub got_is_kept : (s : Partition) (name : ObjectKey) (kept : Record) → finite.get s.objects name ≡ Some kept → is_kept (name, kept) ≡ true
got_is_kept s name kept e = of_all_objects IsKept s.objects (all_is_kept s) name kept e

-- what a change stores

abbrev pub one_kept : Bool → Record → Option Record
one_kept keeps kept = if keeps then Some kept else None

get_with : (keeps : Bool) (s : Partition) (name : ObjectKey) (kept : Record) (other : ObjectKey) → finite.get (if keeps then finite.insert s.objects name kept else finite.remove s.objects name) other ≡ (if is_same other name then one_kept keeps kept else finite.get s.objects other)
get_with true s name kept other =
    finite.get-insert object_cmp_total s.objects name kept other ∙ ap (λ same. if same then Some kept else finite.get s.objects other) (same_object other name)
get_with false s name kept other =
    finite.get-remove object_cmp_total s.objects name other ∙ ap (λ same. if same then None else finite.get s.objects other) (same_object other name)

module _ (P : ObjectKey × Record → Type 0) where
  p_of_one : (keeps : Bool) (name : ObjectKey) (kept found : Record) → is_kept (name, kept) ≡ keeps → one_kept keeps kept ≡ Some found → (is_kept (name, kept) ≡ true → P (name, kept)) → P (name, found)
  p_of_one true name kept found keeps e p = let is : kept ≡ found = cc in subst (λ record'. P (name, record')) is (p keeps)
  p_of_one false name kept found keeps e p = absurd (true≢false (sym (ap is_some e)))

  p_of_got : (same : Bool) (s : Partition) (name other : ObjectKey) (kept found : Record) → is_same other name ≡ same
      → (if same then one_kept (is_kept (name, kept)) kept else finite.get s.objects other) ≡ Some found → All P (stored_in s) → (is_kept (name, kept) ≡ true → P (name, kept)) → P (other, found)
  p_of_got true s name other kept found same e all p = subst (λ one. P (one, found)) (sym (same_name other name same)) (p_of_one (is_kept (name, kept)) name kept found refl e p)
  p_of_got false s name other kept found same e all p = of_all_objects P s.objects all other found e

  all_objects_with : (s : Partition) (name : ObjectKey) (kept : Record) → All P (stored_in s) → (is_kept (name, kept) ≡ true → P (name, kept)) → All P (finite.entries (objects_with s name kept))
  all_objects_with s name kept all p = all_of_objects P (objects_with s name kept) (λ other found e.
      p_of_got (is_same other name) s name other kept found refl (sym (get_with (is_kept (name, kept)) s name kept other) ∙ e) all p)

objects-checked : (objects : Objects) (b : Bool) (e : list_all is_kept (finite.entries objects) ≡ b) (s : Partition) → b ≡ true → (checked objects b e s).objects ≡ objects
objects-checked objects true e s h = refl
objects-checked objects false e s h = absurd (true≢false (sym h))

pub objects-with_record : (s : Partition) (name : ObjectKey) (kept : Record) → (with_record s name kept).objects ≡ objects_with s name kept
objects-with_record s name kept = objects-checked (objects_with s name kept) _ refl s (all_kept _ (all_objects_with IsKept s name kept (all_is_kept s) (λ keeps. keeps)))

-- a fact of each stored object after a change
pub all-with_record : (P : ObjectKey × Record → Type 0) (s : Partition) (name : ObjectKey) (kept : Record) → All P (stored_in s) → (is_kept (name, kept) ≡ true → P (name, kept)) → All P (stored_in (with_record s name kept))
all-with_record P s name kept all p = subst (λ objects. All P (finite.entries objects)) (sym (objects-with_record s name kept)) (all_objects_with P s name kept all p)

length_with : (keeps : Bool) (objects : Objects) (name : ObjectKey) (kept : Record) → length (finite.entries (if keeps then finite.insert objects name kept else finite.remove objects name)) ≤ length (finite.entries objects) + 1
length_with true objects name kept = by (finite.contains_key objects name) _ _ (sym (finite.len-entries (finite.insert objects name kept)) ∙ finite.len-insert object_cmp_total objects name kept) (finite.len-entries objects)
  where
    by : (has : Bool) (after before : ℕ) → after ≡ cond has (finite.len objects) (finite.len objects + 1) → finite.len objects ≡ before → after ≤ before + 1
    by true after before e f = omega arith
    by false after before e f = omega arith
length_with false objects name kept = by (finite.contains_key objects name) _ _ (sym (finite.len-entries (finite.remove objects name)) ∙ finite.len-remove object_cmp_total objects name) (finite.len-entries objects)
  where
    by : (has : Bool) (after before : ℕ) → after ≡ cond has (finite.len objects - 1) (finite.len objects) → finite.len objects ≡ before → after ≤ before + 1
    by true after before e f = omega arith
    by false after before e f = omega arith

pub length-with_record : (s : Partition) (name : ObjectKey) (kept : Record) → length (stored_in (with_record s name kept)) ≤ length (stored_in s) + 1
length-with_record s name kept = subst (λ objects. length (finite.entries objects) ≤ length (stored_in s) + 1) (sym (objects-with_record s name kept)) (length_with (is_kept (name, kept)) s.objects name kept)

-- what is kept of each object after a change

empty_of : (value : Option (List ℕ)) (expires : Option ℕ) (idle : Option Idle) (lock : Option Lock) → (not (is_some value) && not (is_some expires) && not (is_some idle) && not (is_some lock)) ≡ true
    → OfMap (record { value = value; expires = expires; idle = idle; lock = lock }) ≡ OfMap empty_entry
empty_of None None None None e = refl
empty_of None None None (Some lock) e = absurd (true≢false (sym e))
empty_of None None (Some idle) lock e = absurd (true≢false (sym e))
empty_of None (Some expires) idle lock e = absurd (true≢false (sym e))
empty_of (Some value) expires idle lock e = absurd (true≢false (sym e))

-- What suits an object and is nothing is what is kept of it at first.
pub nothing_that_suits : (name : ObjectKey) (kept : Record) → suits name kept ≡ true → is_nothing kept ≡ true → kept ≡ nothing_of name
nothing_that_suits (Entry map key) (OfMap entry) h e = empty_of entry.value entry.expires entry.idle entry.lock e
nothing_that_suits (Entry map key) (OfQueue items) h e = absurd (true≢false (sym h))
nothing_that_suits (Queue name) (OfMap entry) h e = absurd (true≢false (sym h))
nothing_that_suits (Queue name) (OfQueue []) h e = refl
nothing_that_suits (Queue name) (OfQueue (item ∷ items)) h e = absurd (true≢false (sym e))

pub suits-nothing_of : (name : ObjectKey) → suits name (nothing_of name) ≡ true
suits-nothing_of (Entry map key) = refl
suits-nothing_of (Queue name) = refl

pub is_nothing-nothing_of : (name : ObjectKey) → is_nothing (nothing_of name) ≡ true
is_nothing-nothing_of (Entry map key) = refl
is_nothing-nothing_of (Queue name) = refl

-- of each object, whatever the record
pub record_at-with_record : (s : Partition) (name : ObjectKey) (kept : Record) (other : ObjectKey)
    → record_at (with_record s name kept) other ≡ (if is_same other name then unwrap_or (one_kept (is_kept (name, kept)) kept) (nothing_of other) else record_at s other)
record_at-with_record s name kept other =
    ap (λ objects. unwrap_or (finite.get objects other) (nothing_of other)) (objects-with_record s name kept)
    ∙ ap (λ got. unwrap_or got (nothing_of other)) (get_with (is_kept (name, kept)) s name kept other)
    ∙ inside (is_same other name) (one_kept (is_kept (name, kept)) kept) (finite.get s.objects other) (nothing_of other)
  where
    inside : (same : Bool) (a b : Option Record) (c : Record) → unwrap_or (if same then a else b) c ≡ (if same then unwrap_or a c else unwrap_or b c)
    inside true a b c = refl
    inside false a b c = refl

pub record_at-with : (s : Partition) (name : ObjectKey) (kept : Record) → suits name kept ≡ true → record_at (with_record s name kept) name ≡ kept
record_at-with s name kept h =
    record_at-with_record s name kept name
    ∙ ap (λ same. if same then unwrap_or (one_kept (is_kept (name, kept)) kept) (nothing_of name) else record_at s name) (is_same_self name)
    ∙ by (is_kept (name, kept)) refl
  where
    by : (keeps : Bool) → is_kept (name, kept) ≡ keeps → unwrap_or (one_kept keeps kept) (nothing_of name) ≡ kept
    by true e = refl
    by false e = sym (nothing_that_suits name kept h (second_false (suits name kept) (is_nothing kept) h e))

pub record_at-other : (s : Partition) (name : ObjectKey) (kept : Record) (other : ObjectKey) → is_same other name ≡ false → record_at (with_record s name kept) other ≡ record_at s other
record_at-other s name kept other e =
    record_at-with_record s name kept other
    ∙ ap (λ same. if same then unwrap_or (one_kept (is_kept (name, kept)) kept) (nothing_of other) else record_at s other) e

pub record_at-suits : (s : Partition) (name : ObjectKey) → suits name (record_at s name) ≡ true
record_at-suits s name = by (finite.get s.objects name) refl
  where
    by : (got : Option Record) → finite.get s.objects name ≡ got → suits name (unwrap_or got (nothing_of name)) ≡ true
    by None e = suits-nothing_of name
    by (Some kept) e = first_true _ (not (is_nothing kept)) (got_is_kept s name kept e)

get_nothing : (name : ObjectKey) → finite.get nothing_stored.objects name ≡ None
get_nothing name = finite.get-from_sorted object_cmp [] name tt

pub record_at-nothing : (name : ObjectKey) → record_at nothing_stored name ≡ nothing_of name
record_at-nothing name = ap (λ got. unwrap_or got (nothing_of name)) (get_nothing name)

-- when two partitions are one

not_nothing : (name : ObjectKey) (kept : Record) → is_kept (name, kept) ≡ true → nothing_of name ≡ kept → ⊥
not_nothing name kept keeps e =
    let nothing : is_nothing kept ≡ true = sym (ap is_nothing e) ∙ is_nothing-nothing_of name in
    true≢false (sym (second_true (suits name kept) (not (is_nothing kept)) keeps) ∙ ap not nothing)

same_got : (s t : Partition) (name : ObjectKey) (in_s in_t : Option Record) → finite.get s.objects name ≡ in_s → finite.get t.objects name ≡ in_t → unwrap_or in_s (nothing_of name) ≡ unwrap_or in_t (nothing_of name) → in_s ≡ in_t
same_got s t name None None p q e = refl
same_got s t name None (Some kept) p q e = absurd (not_nothing name kept (got_is_kept t name kept q) e)
same_got s t name (Some kept) None p q e = absurd (not_nothing name kept (got_is_kept s name kept p) (sym e))
same_got s t name (Some kept) (Some kept') p q e = ap Some e

pub same_partition : (s t : Partition) → ((name : ObjectKey) → record_at s name ≡ record_at t name) → s ≡ t
same_partition s t each = same_objects s t (finite.same_map object_cmp_total object_cmp_apart s.objects t.objects (λ name. same_got s t name _ _ refl refl (each name)))

-- A record that is kept already changes nothing, and a second change of an object leaves what it leaves alone.

pub with_same_record : (s : Partition) (name : ObjectKey) → with_record s name (record_at s name) ≡ s
with_same_record s name = same_partition (with_record s name (record_at s name)) s (λ other. ⊎_elim
    (λ same. subst (λ one. record_at (with_record s name (record_at s name)) one ≡ record_at s one) (sym (same_name other name same)) (record_at-with s name (record_at s name) (record_at-suits s name)))
    (λ apart. record_at-other s name (record_at s name) other apart)
    (true_or_false (is_same other name)))

pub with_twice : (s : Partition) (name : ObjectKey) (first second : Record) → with_record (with_record s name first) name second ≡ with_record s name second
with_twice s name first second = same_partition (with_record (with_record s name first) name second) (with_record s name second) (λ other.
    record_at-with_record (with_record s name first) name second other
    ∙ by (is_same other name) _ (record_at (with_record s name first) other) (record_at s other) (λ apart. record_at-other s name first other apart)
    ∙ sym (record_at-with_record s name second other))
  where
    by : (same : Bool) (a b c : Record) → (same ≡ false → b ≡ c) → (if same then a else b) ≡ (if same then a else c)
    by true a b c e = refl
    by false a b c e = e refl

-- what is stored

abbrev pub IsStored : Partition → ObjectKey × Record → Type 0
IsStored s one = (is_kept one ≡ true) × (record_at s one.0 ≡ one.1)

pub stored_kept : (s : Partition) → All (IsStored s) (stored_in s)
stored_kept s = all_of_objects (IsStored s) s.objects (λ name kept e. (got_is_kept s name kept e, ap (λ got. unwrap_or got (nothing_of name)) e))

-- lists of objects with their records

abbrev pub IsSuited : ObjectKey × Record → Type 0
IsSuited one = suits one.0 one.1 ≡ true

pub record_at-partition_of : (stored : List (ObjectKey × Record)) (name : ObjectKey) → All IsSuited stored → record_at (partition_of stored) name ≡ unwrap_or (finite.find object_cmp name stored) (nothing_of name)
record_at-partition_of [] name h = record_at-nothing name
record_at-partition_of (first ∷ more) name h = ⊎_elim
    (λ same.
    subst (λ one. record_at (partition_of (first ∷ more)) one ≡ first.1) (sym (same_name name first.0 same)) (record_at-with (partition_of more) first.0 first.1 (All-head IsSuited first more h))
    ∙ sym (tied true same))
    (λ apart.
    record_at-other (partition_of more) first.0 first.1 name apart
    ∙ record_at-partition_of more name (All-tail IsSuited first more h)
    ∙ sym (tied false apart))
    (true_or_false (is_same name first.0))
  where
    tied : (same : Bool) → is_same name first.0 ≡ same → unwrap_or (found (first ∷ more) name) (nothing_of name) ≡ unwrap_or (if same then Some first.1 else found more name) (nothing_of name)
    tied same e = ap (λ tie. unwrap_or (if tie then Some first.1 else found more name) (nothing_of name)) (same_object name first.0 ∙ e)

suited_of_kept : (stored : List (ObjectKey × Record)) → All IsKept stored → All IsSuited stored
suited_of_kept [] h = All-nil IsSuited
suited_of_kept (first ∷ more) h = All-cons IsSuited first more (first_true _ (not (is_nothing first.1)) (All-head IsKept first more h)) (suited_of_kept more (All-tail IsKept first more h))

pub partition_of-stored : (s : Partition) → partition_of (stored_in s) ≡ s
partition_of-stored s = same_partition (partition_of (stored_in s)) s (λ name.
    record_at-partition_of (stored_in s) name (suited_of_kept (stored_in s) (all_is_kept s))
    ∙ ap (λ got. unwrap_or got (nothing_of name)) (sym (finite.get-entries s.objects name)))
