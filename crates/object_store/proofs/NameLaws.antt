-- The names of the objects of the tables, sorted, are those of what is stored.
use Rattle.std.proofs.Common.{◌≡◌, ℕ, ◌+◌, Bool, true, false, cond, ◌&&◌, ◌||◌, not, T, List, [], ◌∷◌, ◌++◌, map as each, bytes_eq, All, Option, Some, None, is_some, unwrap_or, refl, ap, sym, subst, ◌∙◌, arith, get_or, if◌then◌else◌, true≢false, IsPermutation, IsSorted}
use Rattle.std.proofs.lemmas.List.Elements.{All-nil, All-cons, All-head, All-tail}
use Rattle.std.proofs.lemmas.List.Sorted.{list_any-IsPermutation}
use Rattle.std.proofs.lemmas.Map.{lookup-none}
use Rattle.std.proofs.lemmas.Map.Entries.{none_past_head}
use Rattle.std.proofs.lemmas.Map.Keys.{IsDistinct-cons, IsDistinct-head, IsDistinct-tail, IsDistinct-IsPermutation, apart_from_distinct, sorted_from_all_adjacent}
use Rattle.std.proofs.lemmas.Map.Views.{All-values_from_lookup}
use Rattle.std.specs.List.{flat_map, IsDistinct, list_any, AllByRecursion}
use Rattle.std.specs.List.Sorted.{IsStrictlySortedBy}
use Rattle.std.specs.Option.{option_map, option_and_then}
use Rattle.std.specs.Ordering.{eq_by_cmp, is_eq, is_lt, ordering_reverse}
use Rattle.std.specs.declared.cmp.Ordering.{Ordering}
use Rattle.std.specs.declared.cmp.Ordering.TheVariants.{Less, Equal, Greater}
use Rattle.std.specs.Cmp.{eq_by_cmp_equiv, tied_itself}
use Rattle.std.specs.Cmp.Lexicographic.{nat_list_eq_equiv}
use Rattle.std.specs.Map.{lookup, keys_of, values_of}
use Rattle.std.specs.HashMap.{HashMap, get}
use Rattle.std.specs.FinMap as finite
use Rattle.std.specs.FinMap.Entries.{below_all, is_sorted, same_entries, is_some-find}
use Rattle.grid_base.specs.declared.names.ObjectKey.{ObjectKey}
use Rattle.grid_base.specs.declared.names.ObjectKey.TheVariants.{Entry, Queue}
use Rattle.map_records.specs.declared.records.MapRecord.{MapRecord}
use Rattle.object_store.specs.Records.{Record, is_nothing, suits, entry_in, items_in, nothing_of}
use Rattle.object_store.specs.Records.{Map as OfMap, Queue as OfQueue}
use Rattle.object_store.specs.Partitions.{Partition, object_cmp, record_at, stored_in}
use Rattle.object_store.specs.Tables.{Entries, Maps, Queues, entries_stored, queue_stored, tables_stored, names_of, partition_in, entry_at, AreMapsKept, AreQueuesKept, IsMapKept}
use Rattle.object_store.proofs.PartitionLaws.{is_true, both_true, second_true, object_cmp_total, object_cmp_apart, same_object, is_nothing-nothing_of, got_is_kept}
use Rattle.object_store.proofs.TableLaws.{found, entry_of, found_entries, found_maps, found_maps_queue, found_queues_entry, found_tables_entry, found_tables_queue, entry_looked_up, queue_looked_up}

abbrev same : ObjectKey → ObjectKey → Bool
same = eq_by_cmp object_cmp

-- the names in the lists of the tables

pub names_of_entries : (name : List ℕ) (entries : List (List ℕ × MapRecord)) → names_of (each (entry_of name) entries) ≡ each (Entry name) (keys_of entries)
names_of_entries name [] = refl
names_of_entries name (first ∷ more) = ap (λ rest. Entry name first.0 ∷ rest) (names_of_entries name more)

pub names_of_queues : (queues : List (List ℕ × List (List ℕ))) → names_of (each queue_stored queues) ≡ each Queue (keys_of queues)
names_of_queues [] = refl
names_of_queues (first ∷ more) = ap (λ rest. Queue first.0 ∷ rest) (names_of_queues more)

pub names_of-append : (stored more : List (ObjectKey × Record)) → names_of (stored ++ more) ≡ names_of stored ++ names_of more
names_of-append [] more = refl
names_of-append (first ∷ stored) more = ap (λ rest. first.0 ∷ rest) (names_of-append stored more)

-- names that differ

none_any : {K : Type 0} (test : K → Bool) (ks : List K) → list_any test ks ≡ false → AllByRecursion (λ y. test y ≡ false) ks
none_any test [] h = tt
none_any test (k ∷ ks) h = (first_false (test k) _ h, none_any test ks (second_false' (test k) _ h))
  where
    first_false : (a b : Bool) → (a || b) ≡ false → a ≡ false
    first_false true b e = e
    first_false false b e = refl

    second_false' : (a b : Bool) → (a || b) ≡ false → b ≡ false
    second_false' true b e = absurd (true≢false e)
    second_false' false b e = e

any_none : {K : Type 0} (test : K → Bool) (ks : List K) → AllByRecursion (λ y. test y ≡ false) ks → list_any test ks ≡ false
any_none test [] h = refl
any_none test (k ∷ ks) h = ap (λ first. first || list_any test ks) h.0 ∙ any_none test ks h.1

any-append : {K : Type 0} (test : K → Bool) (xs ys : List K) → list_any test (xs ++ ys) ≡ (list_any test xs || list_any test ys)
any-append test [] ys = refl
any-append test (x ∷ xs) ys = ap (λ rest. test x || rest) (any-append test xs ys) ∙ or_or (test x) (list_any test xs) (list_any test ys)
  where
    or_or : (a b c : Bool) → (a || (b || c)) ≡ ((a || b) || c)
    or_or true b c = refl
    or_or false b c = refl

distinct_append : (xs ys : List ObjectKey) → IsDistinct same xs → IsDistinct same ys → ((name : ObjectKey) → list_any (same name) xs ≡ true → list_any (same name) ys ≡ false) → IsDistinct same (xs ++ ys)
distinct_append [] ys h k apart = k
distinct_append (x ∷ xs) ys h k apart = IsDistinct-cons same x (xs ++ ys)
    (none_any (same x) (xs ++ ys)
    (any-append (same x) xs ys
    ∙ ap (λ rest. rest || list_any (same x) ys) (any_none (same x) xs (IsDistinct-head same x xs h))
    ∙ apart x (ap (λ first. first || list_any (same x) xs) (ap is_eq (tied_itself object_cmp_total x)))))
    (distinct_append xs ys (IsDistinct-tail same x xs h) k (λ name any. apart name (or_true (same name x) (list_any (same name) xs) any)))
  where
    or_true : (a b : Bool) → b ≡ true → (a || b) ≡ true
    or_true true b e = refl
    or_true false b e = e

distinct_each : (make : List ℕ → ObjectKey) → ((a b : List ℕ) → bytes_eq a b ≡ false → same (make a) (make b) ≡ false) → (keys : List (List ℕ)) → IsDistinct bytes_eq keys → IsDistinct same (each make keys)
unfolding IsDistinct
distinct_each make apart [] h = tt
distinct_each make apart (key ∷ keys) h = (others keys h.0, distinct_each make apart keys h.1)
  where
    others : (rest : List (List ℕ)) → AllByRecursion (λ other. bytes_eq key other ≡ false) rest → AllByRecursion (λ other. same (make key) other ≡ false) (each make rest)
    others [] k = tt
    others (other ∷ rest) k = (apart key other k.0, others rest k.1)

entries_apart : (name a b : List ℕ) → bytes_eq a b ≡ false → same (Entry name a) (Entry name b) ≡ false
entries_apart name a b e = same_object (Entry name a) (Entry name b) ∙ ap (λ test. bytes_eq name name && test) e ∙ and_false (bytes_eq name name)
  where
    and_false : (test : Bool) → (test && false) ≡ false
    and_false true = refl
    and_false false = refl

queues_apart : (a b : List ℕ) → bytes_eq a b ≡ false → same (Queue a) (Queue b) ≡ false
queues_apart a b e = same_object (Queue a) (Queue b) ∙ e

any_names : (stored : List (ObjectKey × Record)) (name : ObjectKey) → list_any (same name) (names_of stored) ≡ is_some (found stored name)
any_names stored name = sym (is_some-find object_cmp name stored)

module _ {S : Type 0} where
  abbrev AreKeysApart : List ℕ × HashMap (List ℕ) MapRecord S → Type 0
  AreKeysApart one = IsDistinct bytes_eq (keys_of one.1.entries)

  apart_from_more : (first : List ℕ × Entries S) (more : List (List ℕ × Entries S)) → IsDistinct bytes_eq (keys_of (first ∷ more)) → (name : ObjectKey)
      → is_some (found (entries_stored first) name) ≡ true → is_some (found (flat_map entries_stored more) name) ≡ false
  apart_from_more first more distinct (Queue name) some = ap is_some (found_maps_queue more name)
  apart_from_more first more distinct (Entry name key) some = by (bytes_eq name first.0) refl (sym (ap is_some (found_entries first.1.entries first.0 name key)) ∙ some)
    where
      by : (test : Bool) → bytes_eq name first.0 ≡ test → is_some (if test then option_map OfMap (lookup (bytes_eq key) first.1.entries) else None) ≡ true → is_some (found (flat_map entries_stored more) (Entry name key)) ≡ false
      by true e h =
          let none : lookup (bytes_eq name) more ≡ None = lookup-none (bytes_eq name) more (none_past_head nat_list_eq_equiv name first more distinct e) in
          ap is_some (found_maps more name key (IsDistinct-tail bytes_eq first.0 (keys_of more) distinct))
          ∙ ap (λ got. is_some (option_map OfMap (option_and_then (λ (entries : Entries S). get bytes_eq entries key) got))) none
      by false e h = absurd (true≢false (sym h))

  distinct_maps : (maps : List (List ℕ × Entries S)) → IsDistinct bytes_eq (keys_of maps) → All AreKeysApart maps → IsDistinct same (names_of (flat_map entries_stored maps))
  unfolding IsDistinct
  distinct_maps [] distinct all = tt
  distinct_maps (first ∷ more) distinct all =
      subst (IsDistinct same) (sym (names_of-append (entries_stored first) (flat_map entries_stored more)))
      (distinct_append (names_of (entries_stored first)) (names_of (flat_map entries_stored more))
      (subst (IsDistinct same) (sym (names_of_entries first.0 first.1.entries)) (distinct_each (Entry first.0) (entries_apart first.0) (keys_of first.1.entries) (All-head AreKeysApart first more all)))
      (distinct_maps more distinct.1 (All-tail AreKeysApart first more all))
      (λ name any. any_names (flat_map entries_stored more) name ∙ apart_from_more first more distinct name (sym (any_names (entries_stored first) name) ∙ any)))

  apart_from_queues : (maps : List (List ℕ × Entries S)) (queues : List (List ℕ × List (List ℕ))) (name : ObjectKey) → is_some (found (flat_map entries_stored maps) name) ≡ true → is_some (found (each queue_stored queues) name) ≡ false
  apart_from_queues maps queues (Entry name key) some = ap is_some (found_queues_entry queues name key)
  apart_from_queues maps queues (Queue name) some = absurd (true≢false (sym some ∙ ap is_some (found_maps_queue maps name)))

  all_apart : (maps : Maps S) → AreMapsKept maps → All AreKeysApart maps.entries
  all_apart maps kept = from_values maps.entries (All-values_from_lookup nat_list_eq_equiv (λ (entries : Entries S). IsMapKept entries) maps.entries kept.0 kept.1)
    where
      from_values : (list : List (List ℕ × Entries S)) → All (λ (entries : Entries S). IsMapKept entries) (values_of list) → All AreKeysApart list
      from_values [] h = All-nil AreKeysApart
      from_values (first ∷ more) h = All-cons AreKeysApart first more
          (All-head (λ (entries : Entries S). IsMapKept entries) first.1 (values_of more) h).1.0
          (from_values more (All-tail (λ (entries : Entries S). IsMapKept entries) first.1 (values_of more) h))

  distinct_tables : (maps : Maps S) (queues : Queues S) → AreMapsKept maps → AreQueuesKept queues → IsDistinct same (names_of (tables_stored maps queues))
  distinct_tables maps queues maps_kept queues_kept =
      let in_maps = flat_map entries_stored maps.entries in
      let in_queues = each queue_stored queues.entries in
      subst (IsDistinct same) (sym (names_of-append in_maps in_queues))
      (distinct_append (names_of in_maps) (names_of in_queues)
      (distinct_maps maps.entries maps_kept.0 (all_apart maps maps_kept))
      (subst (IsDistinct same) (sym (names_of_queues queues.entries)) (distinct_each Queue queues_apart (keys_of queues.entries) queues_kept.0))
      (λ name any. any_names in_queues name ∙ apart_from_queues maps.entries queues.entries name (sym (any_names in_maps name) ∙ any)))

-- names in order

abbrev paired : List ObjectKey → List (ObjectKey × Bool)
paired names = each (λ name. (name, true)) names

below_paired : (name : ObjectKey) (names : List ObjectKey) → AllByRecursion (λ other. object_cmp name other ≡ Less) names → below_all object_cmp name (paired names) ≡ true
below_paired name [] h = refl
below_paired name (first ∷ more) h = both_true (is_lt (object_cmp name first)) (below_all object_cmp name (paired more)) (ap is_lt h.0) (below_paired name more h.1)

sorted_paired : (names : List ObjectKey) → IsStrictlySortedBy object_cmp names → is_sorted object_cmp (paired names) ≡ true
unfolding IsStrictlySortedBy
sorted_paired [] h = refl
sorted_paired (first ∷ more) h = both_true (below_all object_cmp first (paired more)) (is_sorted object_cmp (paired more)) (below_paired first more h.0) (sorted_paired more h.1)

below_stored : (name : ObjectKey) (stored : List (ObjectKey × Record)) → below_all object_cmp name (paired (names_of stored)) ≡ below_all object_cmp name stored
below_stored name [] = refl
below_stored name (first ∷ more) = ap (λ rest. is_lt (object_cmp name first.0) && rest) (below_stored name more)

sorted_stored : (stored : List (ObjectKey × Record)) → is_sorted object_cmp (paired (names_of stored)) ≡ is_sorted object_cmp stored
sorted_stored [] = refl
sorted_stored (first ∷ more) = λ i. below_stored first.0 more i && sorted_stored more i

find_paired : (names : List ObjectKey) (name : ObjectKey) → finite.find object_cmp name (paired names) ≡ (if list_any (same name) names then Some true else None)
find_paired [] name = refl
find_paired (first ∷ more) name = ap (λ rest. cond (same name first) (Some true) rest) (find_paired more name) ∙ by (same name first) (list_any (same name) more)
  where
    by : (a b : Bool) → cond a (Some true) (if b then Some true else None) ≡ (if a || b then Some true else None)
    by true b = refl
    by false b = refl

names_paired : (names : List ObjectKey) → each (λ pair. pair.0) (paired names) ≡ names
names_paired [] = refl
names_paired (first ∷ more) = ap (λ rest. first ∷ rest) (names_paired more)

same_names : (xs ys : List ObjectKey) → is_sorted object_cmp (paired xs) ≡ true → is_sorted object_cmp (paired ys) ≡ true → ((name : ObjectKey) → list_any (same name) xs ≡ list_any (same name) ys) → xs ≡ ys
same_names xs ys sorted_xs sorted_ys any =
    let pairs : paired xs ≡ paired ys =
    same_entries object_cmp object_cmp_total object_cmp_apart (paired xs) (paired ys) (subst T (sym sorted_xs) tt) (subst T (sym sorted_ys) tt)
    (λ name. find_paired xs name ∙ ap (λ test. if test then Some true else None) (any name) ∙ sym (find_paired ys name)) in
    sym (names_paired xs) ∙ ap (λ list. each (λ (pair : ObjectKey × Bool). pair.0) list) pairs ∙ names_paired ys

less_of : (r : Ordering) → is_lt (ordering_reverse r) ≡ false → is_eq r ≡ false → r ≡ Less
less_of Less h e = refl
less_of Equal h e = absurd (true≢false e)
less_of Greater h e = absurd (true≢false h)

strictly_sorted : (names : List ObjectKey) → IsSorted object_cmp names → IsDistinct same names → IsStrictlySortedBy object_cmp names
unfolding IsStrictlySortedBy
strictly_sorted [] sorted distinct = tt
strictly_sorted (first ∷ more) sorted distinct = sorted_from_all_adjacent object_cmp_total (first ∷ more) first (λ k lt.
    let a = get_or (first ∷ more) k first in
    let b = get_or (first ∷ more) (k + 1) first in
    less_of (object_cmp a b)
    (sym (ap is_lt (object_cmp_total.antisymm b a)) ∙ sorted k first (omega arith) lt)
    (apart_from_distinct same (first ∷ more) k (k + 1) first distinct (omega arith) lt))

-- the names that are found

is_some_if : {X : Type 0} (nothing : Bool) (x : X) → is_some (if nothing then None else Some x) ≡ not nothing
is_some_if true x = refl
is_some_if false x = refl

is_some-option_map : {X Y : Type 0} (f : X → Y) (o : Option X) → is_some (option_map f o) ≡ is_some o
is_some-option_map f None = refl
is_some-option_map f (Some x) = refl

found_kept : (s : Partition) (name : ObjectKey) → is_some (finite.get s.objects name) ≡ not (is_nothing (record_at s name))
found_kept s name = by (finite.get s.objects name) refl
  where
    by : (got : Option Record) → finite.get s.objects name ≡ got → is_some got ≡ not (is_nothing (unwrap_or got (nothing_of name)))
    by None e = sym (ap not (is_nothing-nothing_of name))
    by (Some kept) e = sym (second_true (suits name kept) (not (is_nothing kept)) (got_is_kept s name kept e))

module _ {S : Type 0} where
  tables_found : (s : Partition) (maps : Maps S) (queues : Queues S) → partition_in maps queues ≡ s → AreMapsKept maps → AreQueuesKept queues → (name : ObjectKey)
      → is_some (found (tables_stored maps queues) name) ≡ not (is_nothing (record_at s name))
  tables_found s maps queues is maps_kept queues_kept (Entry name key) =
      ap is_some (found_tables_entry maps queues name key maps_kept.0)
      ∙ is_some-option_map OfMap (entry_at maps name key)
      ∙ ap is_some (entry_looked_up s maps queues name key is maps_kept)
      ∙ is_some_if (is_nothing (record_at s (Entry name key))) (entry_in (record_at s (Entry name key)))
  tables_found s maps queues is maps_kept queues_kept (Queue name) =
      ap is_some (found_tables_queue maps queues name)
      ∙ is_some-option_map OfQueue (get bytes_eq queues name)
      ∙ ap is_some (queue_looked_up s maps queues name is queues_kept)
      ∙ is_some_if (is_nothing (record_at s (Queue name))) (items_in (record_at s (Queue name)))

  pub names_sorted : (s : Partition) (maps : Maps S) (queues : Queues S) (names : List ObjectKey) → partition_in maps queues ≡ s → AreMapsKept maps → AreQueuesKept queues
      → IsPermutation (names_of (tables_stored maps queues)) names → IsSorted object_cmp names → names ≡ names_of (stored_in s)
  names_sorted s maps queues names is maps_kept queues_kept permutation sorted =
      let distinct = IsDistinct-IsPermutation same (eq_by_cmp_equiv object_cmp_total).symm (names_of (tables_stored maps queues)) names permutation (distinct_tables maps queues maps_kept queues_kept) in
      same_names names (names_of (stored_in s))
      (sorted_paired names (strictly_sorted names sorted distinct))
      (sorted_stored (stored_in s) ∙ is_true _ (finite.entries_sorted s.objects))
      (λ name.
      sym (list_any-IsPermutation (same name) (names_of (tables_stored maps queues)) names permutation)
      ∙ any_names (tables_stored maps queues) name
      ∙ tables_found s maps queues is maps_kept queues_kept name
      ∙ sym (found_kept s name)
      ∙ ap is_some (finite.get-entries s.objects name)
      ∙ sym (any_names (stored_in s) name))
