-- Values and objects one after the other, as loops read them.
use Rattle.std.proofs.Common.{◌≡◌, ℕ, suc, ◌-◌, ◌+◌, ◌≤◌, ◌<◌, Bool, true, false, cond, not, List, [], ◌∷◌, ◌++◌, Option, Some, None, All, unwrap_or, Ok, Err, refl, sym, ap, subst, ◌∙◌, ⊎_elim, arith}
use Rattle.std.specs.Prelude.{if◌then◌else◌}
use Rattle.std.specs.Ordering.{is_lt, is_eq, eq_by_cmp, ordering_reverse}
use Rattle.std.specs.FinMap as finite
use Rattle.std.specs.FinMap.Entries.{find-append}
use Rattle.std.proofs.lemmas.List.Elements.{All-nil, All-push}
use Rattle.grid_base.specs.declared.names.ObjectKey.{ObjectKey}
use Rattle.grid_base.specs.Names.{is_same}
use Rattle.wire_parts.specs.declared.refusal.WireRefused.{WireRefused}
use Rattle.wire_parts.specs.declared.refusal.WireRefused.TheVariants.{Order}
use Rattle.wire_parts.specs.Places.{Place}
use Rattle.wire_parts.specs.Parts.{◌>>=◌, Fails, sized_at}
use Rattle.wire_parts.proofs.Refusals.{Fails-bind}
use Rattle.object_store.specs.Records.{Record, suits, is_nothing, nothing_of}
use Rattle.object_store.specs.Partitions.{Partition, object_cmp, is_kept, record_at, with_record, nothing_stored, partition_of}
use Rattle.object_store.specs.Names.{is_past, past_at, objects_at}
use Rattle.object_store.specs.Reading.{Read, items_at, object_at, is_behind, next_object_at, record_of, stored_at}
use Rattle.object_store.proofs.PartitionLaws.{object_cmp_total, same_object, same_name, true_or_false, record_at-with, record_at-other, record_at-partition_of, same_partition}
use Rattle.object_store.proofs.SnapshotLaws.{first_true, is_behind-push, is_less}

-- ---- the values of a queue

abbrev pub Items : Type 0
Items = List (List ℕ)

pub item_goes_on : (items : Items) (count i : ℕ) (p after : Place) (item : List ℕ) (total : Read Items) → i < count → sized_at p ≡ Ok (item, after)
    → items_at items (count - i) p ≡ total → items_at (items ++ item ∷ []) (count - (i + 1)) after ≡ total
unfolding items_at
item_goes_on items count i p after item total lt read so_far =
    let left : count - i ≡ suc (count - (i + 1)) = omega arith in
    let one : items_at items (count - i) p ≡ items_at (items ++ item ∷ []) (count - (i + 1)) after = rw (left, read) refl in
    sym one ∙ so_far

pub items_end : (e : WireRefused) (items : Items) (count i : ℕ) (p : Place) (total : Read Items) → i < count → Fails e (sized_at p) → items_at items (count - i) p ≡ total → Fails e total
unfolding items_at
items_end e items count i p total lt fails so_far =
    let left : count - i ≡ suc (count - (i + 1)) = omega arith in
    let first : items_at items (count - i) p ≡ (sized_at p >>= λ item. items_at (items ++ item.0 ∷ []) (count - (i + 1)) item.1) = rw left refl in
    rw (← so_far, first) (Fails-bind e (sized_at p) (λ item. items_at (items ++ item.0 ∷ []) (count - (i + 1)) item.1) fails)

pub items_done : (items : Items) (count i : ℕ) (p : Place) (total : Read Items) → count ≤ i → items_at items (count - i) p ≡ total → total ≡ Ok (items, p)
unfolding items_at
items_done items count i p total le so_far =
    let left : count - i ≡ 0 = omega arith in
    let one : items_at items (count - i) p ≡ Ok (items, p) = rw left refl in
    sym so_far ∙ one

-- ---- the objects of a snapshot

abbrev Stored : Type 0
Stored = ObjectKey × Record

abbrev IsSuited : Stored → Type 0
IsSuited one = suits one.0 one.1 ≡ true

-- what was read so far, and that what is left gives the whole
pub record ReadSoFar (last : Option ObjectKey) (s : Partition) (left : ℕ) (p : Place) (total : Read (List Stored)) : Type 0 where
  pub before : List Stored
  pub is : s ≡ partition_of before
  pub behind : (name : ObjectKey) → is_behind before name ≡ is_past last name
  pub new : (name : ObjectKey) → is_past last name ≡ true → finite.find object_cmp name before ≡ None
  pub suited : All IsSuited before
  pub rest : stored_at before left p ≡ total

pub at_first : (count : ℕ) (p : Place) → ReadSoFar None nothing_stored count p (stored_at [] count p)
at_first count p = record { before = []; is = refl; behind = λ name. refl; new = λ name past. refl; suited = All-nil IsSuited; rest = refl }

-- ---- an object behind all others

push_at : (before : List Stored) (one : Stored) (name : ObjectKey) → finite.find object_cmp one.0 before ≡ None → finite.find object_cmp name (before ++ one ∷ []) ≡ cond (eq_by_cmp object_cmp name one.0) (Some one.1) (finite.find object_cmp name before)
push_at before one name none = find-append object_cmp object_cmp_total before one.0 one.1 name none

pub partition_of-push : (before : List Stored) (one : Stored) → finite.find object_cmp one.0 before ≡ None → All IsSuited before → suits one.0 one.1 ≡ true → with_record (partition_of before) one.0 one.1 ≡ partition_of (before ++ one ∷ [])
partition_of-push before one none suited suits_it = same_partition (with_record (partition_of before) one.0 one.1) (partition_of (before ++ one ∷ [])) each
  where
    all : All IsSuited (before ++ one ∷ [])
    all = All-push IsSuited before one suited suits_it

    after : (name : ObjectKey) (same : Bool) → is_same name one.0 ≡ same → record_at (partition_of (before ++ one ∷ [])) name ≡ unwrap_or (cond same (Some one.1) (finite.find object_cmp name before)) (nothing_of name)
    after name same e =
        record_at-partition_of (before ++ one ∷ []) name all
        ∙ ap (λ (o : Option Record). unwrap_or o (nothing_of name)) (push_at before one name none ∙ ap (λ (b : Bool). cond b (Some one.1) (finite.find object_cmp name before)) (same_object name one.0 ∙ e))

    each : (name : ObjectKey) → record_at (with_record (partition_of before) one.0 one.1) name ≡ record_at (partition_of (before ++ one ∷ [])) name
    each name = ⊎_elim
        (λ same.
        subst (λ (n : ObjectKey). record_at (with_record (partition_of before) one.0 one.1) n ≡ one.1) (sym (same_name name one.0 same)) (record_at-with (partition_of before) one.0 one.1 suits_it)
        ∙ sym (after name true same))
        (λ apart.
        record_at-other (partition_of before) one.0 one.1 name apart
        ∙ record_at-partition_of before name suited
        ∙ sym (after name false apart))
        (true_or_false (is_same name one.0))

-- what is behind an object isn't the same, and is behind what that one is behind
not_tied : (a b : ObjectKey) → is_lt (object_cmp a b) ≡ true → eq_by_cmp object_cmp b a ≡ false
not_tied a b less = ap is_eq (object_cmp_total.antisymm b a ∙ ap ordering_reverse (is_less _ less))

past_both : (last : Option ObjectKey) (a b : ObjectKey) → is_past last a ≡ true → is_lt (object_cmp a b) ≡ true → is_past last b ≡ true
past_both None a b past less = refl
past_both (Some last) a b past less = ap is_lt (object_cmp_total.trans last a b (is_less _ past) (is_less _ less))

pub new_behind : (last : Option ObjectKey) (before : List Stored) (one : Stored) → ((name : ObjectKey) → is_past last name ≡ true → finite.find object_cmp name before ≡ None) → is_past last one.0 ≡ true
    → (name : ObjectKey) → is_past (Some one.0) name ≡ true → finite.find object_cmp name (before ++ one ∷ []) ≡ None
new_behind last before one new past name behind =
    push_at before one name (new one.0 past)
    ∙ ap (λ (b : Bool). cond b (Some one.1) (finite.find object_cmp name before)) (not_tied one.0 name behind)
    ∙ new name (past_both last one.0 name past behind)

-- ---- the next object, by the last one before it

if_same : {A : Type 0} (b c : Bool) (x y : A) → b ≡ c → (if b then x else y) ≡ (if c then x else y)
if_same b c x y e = ap (λ (t : Bool). if t then x else y) e

by_last : (last : Option ObjectKey) (before : List Stored) (at : ℕ) (read : Read ObjectKey) → ((name : ObjectKey) → is_behind before name ≡ is_past last name)
    → (read >>= λ name. if is_behind before name.0 then Ok name else Err (Order at)) ≡ (read >>= λ name. if is_past last name.0 then Ok name else Err (Order at))
by_last last before at (Ok name) same = if_same (is_behind before name.0) (is_past last name.0) (Ok name) (Err (Order at)) (same name.0)
by_last last before at (Err e) same = refl

next_is_past : (last : Option ObjectKey) (before : List Stored) (p : Place) → ((name : ObjectKey) → is_behind before name ≡ is_past last name) → next_object_at before p ≡ past_at last p
unfolding next_object_at past_at
next_is_past last before p same = by_last last before p.at (object_at p) same

passed : (b : Bool) (at : ℕ) (x y : ObjectKey × Place) → (if b then Ok x else Err (Order at)) ≡ Ok y → (b ≡ true) × (x ≡ y)
passed true at x y e = (refl, cc)
passed false at x y e = absurd cc

is_past_read : (last : Option ObjectKey) (at : ℕ) (read : Read ObjectKey) (name : ObjectKey) (after : Place) → (read >>= λ n. if is_past last n.0 then Ok n else Err (Order at)) ≡ Ok (name, after) → is_past last name ≡ true
is_past_read last at (Ok n) name after e = let g = passed (is_past last n.0) at n (name, after) e in subst (λ (x : ObjectKey × Place). is_past last x.0 ≡ true) g.1 g.0
is_past_read last at (Err d) name after e = absurd cc

past_is : (last : Option ObjectKey) (p after : Place) (name : ObjectKey) → past_at last p ≡ Ok (name, after) → is_past last name ≡ true
unfolding past_at
past_is last p after name e = is_past_read last p.at (object_at p) name after e

-- ---- the steps of the loop

abbrev stored_behind : List Stored → ℕ → ObjectKey × Place → Read (List Stored)
stored_behind before n name = record_of name.0 name.1 >>= λ kept. stored_at (before ++ (name.0, kept.0) ∷ []) n kept.1

first_step : (before : List Stored) (n : ℕ) (p : Place) → stored_at before (suc n) p ≡ (next_object_at before p >>= stored_behind before n)
unfolding stored_at
first_step before n p = refl

module _ (last : Option ObjectKey) (s : Partition) (count i : ℕ) (p : Place) (total : Read (List Stored)) (so_far : ReadSoFar last s (count - i) p total) where
  opened : i < count → (past_at last p >>= stored_behind so_far.before (count - (i + 1))) ≡ total
  opened lt =
      let left : count - i ≡ suc (count - (i + 1)) = omega arith in
      let here : (next_object_at so_far.before p >>= stored_behind so_far.before (count - (i + 1))) ≡ stored_at so_far.before (count - i) p = sym (first_step so_far.before (count - (i + 1)) p) ∙ ap (λ (n : ℕ). stored_at so_far.before n p) (sym left) in
      ap (λ (r : Read ObjectKey). r >>= stored_behind so_far.before (count - (i + 1))) (sym (next_is_past last so_far.before p so_far.behind)) ∙ here ∙ so_far.rest

  pub name_ends : (e : WireRefused) → i < count → Fails e (past_at last p) → Fails e total
  name_ends e lt fails = subst (Fails e) (opened lt) (Fails-bind e (past_at last p) (stored_behind so_far.before (count - (i + 1))) fails)

  module _ (name : ObjectKey) (next : Place) (lt : i < count) (read : past_at last p ≡ Ok (name, next)) where
    behind_name : stored_behind so_far.before (count - (i + 1)) (name, next) ≡ total
    behind_name = ap (λ (r : Read ObjectKey). r >>= stored_behind so_far.before (count - (i + 1))) (sym read) ∙ opened lt

    pub record_ends : (e : WireRefused) → Fails e (record_of name next) → Fails e total
    record_ends e fails = subst (Fails e) behind_name (Fails-bind e (record_of name next) (λ kept. stored_at (so_far.before ++ (name, kept.0) ∷ []) (count - (i + 1)) kept.1) fails)

    pub stored_goes_on : (kept : Record) (after : Place) → record_of name next ≡ Ok (kept, after) → suits name kept ≡ true → ReadSoFar (Some name) (with_record s name kept) (count - (i + 1)) after total
    stored_goes_on kept after kept_read suits_it =
        let past = past_is last p next name read in
        let one : Stored = (name, kept) in
        record {
          before = so_far.before ++ one ∷ [];
          is = ap (λ (x : Partition). with_record x name kept) so_far.is ∙ partition_of-push so_far.before one (so_far.new name past) so_far.suited suits_it;
          behind = λ other. is_behind-push so_far.before one other;
          new = new_behind last so_far.before one so_far.new past;
          suited = All-push IsSuited so_far.before one so_far.suited suits_it;
          rest = ap (λ (r : Read Record). r >>= λ k. stored_at (so_far.before ++ (name, k.0) ∷ []) (count - (i + 1)) k.1) (sym kept_read) ∙ behind_name;
        }

  pub stored_done : count ≤ i → total ≡ Ok (so_far.before, p)
  unfolding stored_at
  stored_done le =
      let left : count - i ≡ 0 = omega arith in
      sym so_far.rest ∙ ap (λ (n : ℕ). stored_at so_far.before n p) left

-- ---- what the loop gives

pub objects_fail : (e : WireRefused) (count : ℕ) (p : Place) → Fails e (stored_at [] count p) → Fails e (objects_at count p)
unfolding objects_at
objects_fail e count p fails = Fails-bind e (stored_at [] count p) (λ stored. Ok (partition_of stored.0, stored.1)) fails

pub objects_done : (count : ℕ) (p after : Place) (before : List Stored) (s : Partition) → s ≡ partition_of before → stored_at [] count p ≡ Ok (before, after) → objects_at count p ≡ Ok (s, after)
unfolding objects_at
objects_done count p after before s is all =
    ap (λ (r : Read (List Stored)). r >>= λ stored. Ok (partition_of stored.0, stored.1)) all ∙ ap (λ (x : Partition). Ok (x, after)) (sym is)

pub suits_kept : (name : ObjectKey) (kept : Record) → is_kept (name, kept) ≡ true → suits name kept ≡ true
suits_kept name kept keeps = first_true (suits name kept) (not (is_nothing kept)) keeps
