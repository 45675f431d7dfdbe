-- What a client keeps of a map, as it is kept: the entries of a near cache, and its look-ups by the numbers of their gets.
use Rattle.std.proofs.Common.{◌≡◌, ◌≢◌, ℕ, Bool, true, false, not, cond, ◌==◌, List, [], ◌∷◌, ◌++◌, map, filter, take, Option, Some, None, IsSome, option_map, option_and_then, refl, ap, sym, ◌∙◌, subst}
use Rattle.std.specs.List.{find, filter_map, cons_option, AllByRecursion}
use Rattle.std.specs.Option.{option_map_or, is_some}
use Rattle.std.specs.Cmp.{nat_cmp_total}
use Rattle.std.specs.FinMap.{get, insert, remove, get-insert, get-remove}
use Rattle.near_protocol.specs.Client.{Overtaking}
use Rattle.near_cache.specs.LookUps.{LookUps, all_overtaken, overtaking as cache_overtaking}
use Rattle.near_cache.specs.Caches.{Cache}
use Rattle.near_cache.specs.Caches as cache
use Rattle.near_cache.specs.declared.look_up.LookUp as kept_look_up
use Rattle.near_cache.specs.declared.look_up.Overtaking as kept_overtaking
use Rattle.near_cache.proofs.Waiting.{ties, tie_not, get_overtaken}
use Rattle.grid_client.specs.Lists.{erased_by}
use Rattle.grid_client.specs.Nears.{Near, Value, Entry, Look, is_for, hit, others, used, opened, has_number, look_up, closed, kept, filled, answered, outcome_of, outcome, overtaking, dropping, entry_of, overtaking_of, look_of, seen, near_of, AreOpen}
use Rattle.grid_client.specs.declared.near.Awaited.{Awaited}
use Rattle.grid_client.proofs.Lists.{find_map, filter_map_each, take_map, none_erased}

-- ---- entries

pub hit_seen : (key : List ℕ) (name : List ℕ) (c : Cache) (awaited : List Awaited) → cache.hit key c ≡ hit key (near_of name c awaited)
hit_seen key name c awaited = by (find (cache.is_for key) c.entries) (find_map entry_of (is_for key) c.entries)
  where
    by : (o : Option cache.Kept) → find (is_for key) (map entry_of c.entries) ≡ option_map entry_of o → option_map (λ (e : cache.Kept). e.1) o ≡ option_map (λ (e : Entry). e.value) (find (is_for key) (map entry_of c.entries))
    by None is = ap (option_map (λ (e : Entry). e.value)) (sym is)
    by (Some e) is = ap (option_map (λ (e : Entry). e.value)) (sym is)

others_kept : (key : List ℕ) (es : List cache.Kept) → others key (map entry_of es) ≡ map entry_of (cache.others key es)
others_kept key es = filter_map_each entry_of (λ (e : Entry). not (is_for key e)) es

used_entries : (key : List ℕ) (es : List cache.Kept)
    → map entry_of (option_map_or (λ e. e ∷ cache.others key es) (find (cache.is_for key) es) es)
    ≡ option_map_or (λ e. e ∷ others key (map entry_of es)) (find (is_for key) (map entry_of es)) (map entry_of es)
used_entries key es = by (find (cache.is_for key) es) (find_map entry_of (is_for key) es)
  where
    by : (o : Option cache.Kept) → find (is_for key) (map entry_of es) ≡ option_map entry_of o
        → map entry_of (option_map_or (λ e. e ∷ cache.others key es) o es)
        ≡ option_map_or (λ e. e ∷ others key (map entry_of es)) (find (is_for key) (map entry_of es)) (map entry_of es)
    by None is = sym (ap (λ (o : Option Entry). option_map_or (λ e. e ∷ others key (map entry_of es)) o (map entry_of es)) is)
    by (Some e) is =
        ap (λ (l : List Entry). entry_of e ∷ l) (sym (others_kept key es))
        ∙ sym (ap (λ (o : Option Entry). option_map_or (λ e. e ∷ others key (map entry_of es)) o (map entry_of es)) is)

pub used_seen : (key name : List ℕ) (c : Cache) (awaited : List Awaited) → near_of name (cache.used key c) awaited ≡ used key (near_of name c awaited)
used_seen key name c awaited = ap (λ (es : List Entry). record (near_of name c awaited) { entries = es }) (used_entries key c.entries)

-- a look at what isn't kept changes nothing
pub used_missed : (key : List ℕ) (n : Near) → hit key n ≡ None → used key n ≡ n
used_missed key n none = by (find (is_for key) n.entries) none
  where
    by : (o : Option Entry) → option_map (λ (e : Entry). e.value) o ≡ None → record n { entries = option_map_or (λ e. e ∷ others key n.entries) o n.entries } ≡ n
    by None h = refl
    by (Some e) h = absurd cc

kept_entries : (capacity : ℕ) (key : List ℕ) (value : Value) (es : List cache.Kept)
    → map entry_of (take capacity ((key, value) ∷ cache.others key es)) ≡ take capacity (record { key = key; value = value } ∷ others key (map entry_of es))
kept_entries capacity key value es =
    sym (take_map entry_of capacity ((key, value) ∷ cache.others key es))
    ∙ ap (λ (l : List Entry). take capacity (record { key = key; value = value } ∷ l)) (sym (others_kept key es))

dropped_entries : (test : List ℕ → Bool) (es : List cache.Kept) → map entry_of (filter (λ e. not (test e.0)) es) ≡ filter (λ (e : Entry). not (test e.key)) (map entry_of es)
dropped_entries test es = sym (filter_map_each entry_of (λ (e : Entry). not (test e.key)) es)

-- ---- look-ups

abbrev pub has : ℕ → Awaited → Bool
has number a = a.number == number

get_insert_other : (w : LookUps) (n m : ℕ) (r : kept_look_up.LookUp) → m ≢ n → get (insert w n r) m ≡ get w m
get_insert_other w n m r ne = get-insert nat_cmp_total w n r m ∙ ap (λ b. cond b (Some r) (get w m)) (tie_not m n ne)

get_insert_same : (w : LookUps) (n : ℕ) (r : kept_look_up.LookUp) → get (insert w n r) n ≡ Some r
get_insert_same w n r = get-insert nat_cmp_total w n r n ∙ ap (λ b. cond b (Some r) (get w n)) (ties n)

get_remove_other : (w : LookUps) (n m : ℕ) → m ≢ n → get (remove w n) m ≡ get w m
get_remove_other w n m ne = get-remove nat_cmp_total w n m ∙ ap (λ b. cond b None (get w m)) (tie_not m n ne)

-- an open look-up isn't a new one
apart : (w : LookUps) (n m : ℕ) → IsSome (get w m) → get w n ≡ None → m ≢ n
apart w n m some none same = absurd (let it = ap (λ (k : ℕ). is_some (get w k)) (sym same) ∙ some in let that = ap (λ (o : Option kept_look_up.LookUp). is_some o) none in cc)

-- what is seen of the same look-ups
seen_alike : (v w : LookUps) (a : Awaited) → get v a.reservation ≡ get w a.reservation → seen v a ≡ seen w a
seen_alike v w a same = ap (option_map (look_of a.number)) same

some_is : {X : Type 0} (o : Option X) → IsSome o → (x : X) × (o ≡ Some x)
some_is None some = absurd cc
some_is (Some x) some = (x, refl)

cons_append : (o : Option Look) (xs ys : List Look) → cons_option o (xs ++ ys) ≡ cons_option o xs ++ ys
cons_append None xs ys = refl
cons_append (Some x) xs ys = refl

-- what holds of each, and of one more, or of those that are left

All-more : (P : Awaited → Type 0) (as_ : List Awaited) (a : Awaited) → AllByRecursion P as_ → P a → AllByRecursion P (as_ ++ a ∷ [])
All-more P [] a all h = (h, tt)
All-more P (x ∷ as_) a all h = (all.0, All-more P as_ a all.1 h)

All-erased : (P : Awaited → Type 0) (test : Awaited → Bool) (as_ : List Awaited) → AllByRecursion P as_ → AllByRecursion P (erased_by test as_)
All-erased P test [] all = tt
All-erased P test (x ∷ as_) all = by (test x) (All-erased P test as_ all.1)
  where
    by : (b : Bool) → AllByRecursion P (erased_by test as_) → AllByRecursion P (cond b as_ (x ∷ erased_by test as_))
    by true ih = all.1
    by false ih = (all.0, ih)

All-found : (P : Awaited → Type 0) (test : Awaited → Bool) (as_ : List Awaited) (a : Awaited) → AllByRecursion P as_ → find test as_ ≡ Some a → P a
All-found P test [] a all found = absurd cc
All-found P test (x ∷ as_) a all found = by (test x) found (All-found P test as_ a all.1)
  where
    by : (b : Bool) → cond b (Some x) (find test as_) ≡ Some a → (find test as_ ≡ Some a → P a) → P a
    by true is ih = let same : x ≡ a = cc in subst P same all.0
    by false is ih = ih is

open_found : (w : LookUps) (test : Awaited → Bool) (as_ : List Awaited) (a : Awaited) → AreOpen w as_ → find test as_ ≡ Some a → IsSome (get w a.reservation)
open_found w test [] a are found = absurd cc
open_found w test (x ∷ as_) a are found = by (test x) found (open_found w test as_ a are.2)
  where
    by : (b : Bool) → cond b (Some x) (find test as_) ≡ Some a → (find test as_ ≡ Some a → IsSome (get w a.reservation)) → IsSome (get w a.reservation)
    by true is ih = let same : x ≡ a = cc in subst (λ (y : Awaited). IsSome (get w y.reservation)) same are.0
    by false is ih = ih is

-- ---- a new one

seen_before : (w : LookUps) (n : ℕ) (r : kept_look_up.LookUp) (as_ more : List Awaited) → get w n ≡ None → AreOpen w as_
    → filter_map (seen (insert w n r)) (as_ ++ more) ≡ filter_map (seen w) as_ ++ filter_map (seen (insert w n r)) more
seen_before w n r [] more none are = refl
seen_before w n r (a ∷ as_) more none are =
    ap (λ (o : Option Look). cons_option o (filter_map (seen (insert w n r)) (as_ ++ more))) (seen_alike (insert w n r) w a (get_insert_other w n a.reservation r (apart w n a.reservation are.0 none)))
    ∙ ap (cons_option (seen w a)) (seen_before w n r as_ more none are.2)
    ∙ cons_append (seen w a) (filter_map (seen w) as_) (filter_map (seen (insert w n r)) more)

seen_one : (v : LookUps) (a : Awaited) (r : kept_look_up.LookUp) → get v a.reservation ≡ Some r → filter_map (seen v) (a ∷ []) ≡ look_of a.number r ∷ []
seen_one v a r is = ap (λ (o : Option kept_look_up.LookUp). cons_option (option_map (look_of a.number) o) []) is

pub opened_seen : (number n : ℕ) (key name : List ℕ) (c : Cache) (as_ : List Awaited) → cache.IsNew n c → AreOpen c.waiting as_
    → near_of name (cache.opened n key c) (as_ ++ record { number = number; reservation = n } ∷ []) ≡ opened number key (near_of name c as_)
opened_seen number n key name c as_ none are =
    let r : kept_look_up.LookUp = record { key = key; overtaken = None } in
    let a : Awaited = record { number = number; reservation = n } in
    ap (λ (w : List Look). record (near_of name c as_) { waiting = w })
    (seen_before c.waiting n r as_ (a ∷ []) none are ∙ ap (λ (l : List Look). filter_map (seen c.waiting) as_ ++ l) (seen_one (insert c.waiting n r) a r (get_insert_same c.waiting n r)))

pub opened_open : (number n : ℕ) (r : kept_look_up.LookUp) (w : LookUps) (as_ : List Awaited) → get w n ≡ None → AreOpen w as_
    → AreOpen (insert w n r) (as_ ++ record { number = number; reservation = n } ∷ [])
opened_open number n r w [] none are = (subst (λ (o : Option kept_look_up.LookUp). IsSome o) (sym (get_insert_same w n r)) refl, tt, tt)
opened_open number n r w (a ∷ as_) none are =
    let ne = apart w n a.reservation are.0 none in (
      subst (λ (o : Option kept_look_up.LookUp). IsSome o) (sym (get_insert_other w n a.reservation r ne)) are.0,
      All-more (λ (b : Awaited). b.reservation ≢ a.reservation) as_ (record { number = number; reservation = n }) are.1 (λ e. ne (sym e)),
      opened_open number n r w as_ none are.2,
    )

-- ---- one that is closed

seen_left : (w : LookUps) (n : ℕ) (as_ : List Awaited) → AllByRecursion (λ (b : Awaited). b.reservation ≢ n) as_ → filter_map (seen (remove w n)) as_ ≡ filter_map (seen w) as_
seen_left w n [] all = refl
seen_left w n (a ∷ as_) all =
    ap (λ (o : Option Look). cons_option o (filter_map (seen (remove w n)) as_)) (seen_alike (remove w n) w a (get_remove_other w n a.reservation all.0))
    ∙ ap (cons_option (seen w a)) (seen_left w n as_ all.1)

erased_front : (number : ℕ) (x : Awaited) (o : Option kept_look_up.LookUp) (rest : List Look) → IsSome o
    → erased_by (has_number number) (cons_option (option_map (look_of x.number) o) rest)
    ≡ cond (has number x) rest (cons_option (option_map (look_of x.number) o) (erased_by (has_number number) rest))
erased_front number x None rest some = absurd cc
erased_front number x (Some r) rest some = refl

find_front : (number : ℕ) (x : Awaited) (o : Option kept_look_up.LookUp) (rest : List Look) → IsSome o
    → find (has_number number) (cons_option (option_map (look_of x.number) o) rest)
    ≡ cond (has number x) (option_map (look_of x.number) o) (find (has_number number) rest)
find_front number x None rest some = absurd cc
find_front number x (Some r) rest some = refl

erased_seen : (w : LookUps) (number : ℕ) (as_ : List Awaited) (a : Awaited) → AreOpen w as_ → find (has number) as_ ≡ Some a
    → filter_map (seen (remove w a.reservation)) (erased_by (has number) as_) ≡ erased_by (has_number number) (filter_map (seen w) as_)
erased_seen w number [] a are found = absurd cc
erased_seen w number (x ∷ as_) a are found =
    by (has number x) found (erased_seen w number as_ a are.2) ∙ sym (erased_front number x (get w x.reservation) (filter_map (seen w) as_) are.0)
  where
    by : (b : Bool) → cond b (Some x) (find (has number) as_) ≡ Some a
        → (find (has number) as_ ≡ Some a → filter_map (seen (remove w a.reservation)) (erased_by (has number) as_) ≡ erased_by (has_number number) (filter_map (seen w) as_))
        → filter_map (seen (remove w a.reservation)) (cond b as_ (x ∷ erased_by (has number) as_))
        ≡ cond b (filter_map (seen w) as_) (cons_option (seen w x) (erased_by (has_number number) (filter_map (seen w) as_)))
    by true is ih = let same : x ≡ a = cc in subst (λ (y : Awaited). filter_map (seen (remove w y.reservation)) as_ ≡ filter_map (seen w) as_) same (seen_left w x.reservation as_ are.1)
    by false is ih =
        let ne : a.reservation ≢ x.reservation = All-found (λ (b : Awaited). b.reservation ≢ x.reservation) (has number) as_ a are.1 is in
        ap (λ (o : Option Look). cons_option o (filter_map (seen (remove w a.reservation)) (erased_by (has number) as_))) (seen_alike (remove w a.reservation) w x (get_remove_other w a.reservation x.reservation (λ e. ne (sym e))))
        ∙ ap (cons_option (seen w x)) (ih is)

erased_none : (w : LookUps) (number : ℕ) (as_ : List Awaited) → AreOpen w as_ → find (has number) as_ ≡ None
    → filter_map (seen w) (erased_by (has number) as_) ≡ erased_by (has_number number) (filter_map (seen w) as_)
erased_none w number [] are none = refl
erased_none w number (x ∷ as_) are none =
    by (has number x) none (erased_none w number as_ are.2) ∙ sym (erased_front number x (get w x.reservation) (filter_map (seen w) as_) are.0)
  where
    by : (b : Bool) → cond b (Some x) (find (has number) as_) ≡ None
        → (find (has number) as_ ≡ None → filter_map (seen w) (erased_by (has number) as_) ≡ erased_by (has_number number) (filter_map (seen w) as_))
        → filter_map (seen w) (cond b as_ (x ∷ erased_by (has number) as_))
        ≡ cond b (filter_map (seen w) as_) (cons_option (seen w x) (erased_by (has_number number) (filter_map (seen w) as_)))
    by true is ih = absurd cc
    by false is ih = ap (cons_option (seen w x)) (ih is)

look_up_seen : (w : LookUps) (number : ℕ) (as_ : List Awaited) → AreOpen w as_ → find (has_number number) (filter_map (seen w) as_) ≡ option_and_then (seen w) (find (has number) as_)
look_up_seen w number [] are = refl
look_up_seen w number (x ∷ as_) are =
    find_front number x (get w x.reservation) (filter_map (seen w) as_) are.0 ∙ by (has number x) (look_up_seen w number as_ are.2)
  where
    by : (b : Bool) → find (has_number number) (filter_map (seen w) as_) ≡ option_and_then (seen w) (find (has number) as_)
        → cond b (seen w x) (find (has_number number) (filter_map (seen w) as_)) ≡ option_and_then (seen w) (cond b (Some x) (find (has number) as_))
    by true ih = refl
    by false ih = ih

pub open_erased : (w : LookUps) (test : Awaited → Bool) (as_ : List Awaited) → AreOpen w as_ → AreOpen w (erased_by test as_)
open_erased w test [] are = tt
open_erased w test (x ∷ as_) are = by (test x) (open_erased w test as_ are.2)
  where
    by : (b : Bool) → AreOpen w (erased_by test as_) → AreOpen w (cond b as_ (x ∷ erased_by test as_))
    by true ih = are.2
    by false ih = (are.0, All-erased (λ (b : Awaited). b.reservation ≢ x.reservation) test as_ are.1, ih)

open_left : (w : LookUps) (n : ℕ) (as_ : List Awaited) → AllByRecursion (λ (b : Awaited). b.reservation ≢ n) as_ → AreOpen w as_ → AreOpen (remove w n) as_
open_left w n [] all are = tt
open_left w n (a ∷ as_) all are =
    (subst (λ (o : Option kept_look_up.LookUp). IsSome o) (sym (get_remove_other w n a.reservation all.0)) are.0, are.1, open_left w n as_ all.1 are.2)

pub open_closed : (w : LookUps) (number : ℕ) (as_ : List Awaited) (a : Awaited) → AreOpen w as_ → find (has number) as_ ≡ Some a
    → AreOpen (remove w a.reservation) (erased_by (has number) as_)
open_closed w number [] a are found = absurd cc
open_closed w number (x ∷ as_) a are found = by (has number x) found (open_closed w number as_ a are.2)
  where
    by : (b : Bool) → cond b (Some x) (find (has number) as_) ≡ Some a
        → (find (has number) as_ ≡ Some a → AreOpen (remove w a.reservation) (erased_by (has number) as_))
        → AreOpen (remove w a.reservation) (cond b as_ (x ∷ erased_by (has number) as_))
    by true is ih = let same : x ≡ a = cc in subst (λ (y : Awaited). AreOpen (remove w y.reservation) as_) same (open_left w x.reservation as_ are.1 are.2)
    by false is ih =
        let ne : a.reservation ≢ x.reservation = All-found (λ (b : Awaited). b.reservation ≢ x.reservation) (has number) as_ a are.1 is in (
          subst (λ (o : Option kept_look_up.LookUp). IsSome o) (sym (get_remove_other w a.reservation x.reservation (λ e. ne (sym e)))) are.0,
          All-erased (λ (b : Awaited). b.reservation ≢ x.reservation) (has number) as_ are.1,
          ih is,
        )

-- the look-up of a number is closed, where one is open

pub closed_seen : (number : ℕ) (name : List ℕ) (c : Cache) (as_ : List Awaited) (a : Awaited) → AreOpen c.waiting as_ → find (has number) as_ ≡ Some a
    → near_of name (cache.closed a.reservation c) (erased_by (has number) as_) ≡ closed number (near_of name c as_)
closed_seen number name c as_ a are found = ap (λ (w : List Look). record (near_of name c as_) { waiting = w }) (erased_seen c.waiting number as_ a are found)

pub closed_none : (number : ℕ) (name : List ℕ) (c : Cache) (as_ : List Awaited) → AreOpen c.waiting as_ → find (has number) as_ ≡ None
    → near_of name c (erased_by (has number) as_) ≡ closed number (near_of name c as_)
closed_none number name c as_ are none = ap (λ (w : List Look). record (near_of name c as_) { waiting = w }) (erased_none c.waiting number as_ are none)

-- its look-up, as it is seen
pub look_seen : (number : ℕ) (name : List ℕ) (c : Cache) (as_ : List Awaited) (a : Awaited) (r : kept_look_up.LookUp)
    → AreOpen c.waiting as_ → find (has number) as_ ≡ Some a → get c.waiting a.reservation ≡ Some r → look_up number (near_of name c as_) ≡ Some (look_of a.number r)
look_seen number name c as_ a r are found is =
    look_up_seen c.waiting number as_ are ∙ ap (option_and_then (seen c.waiting)) found ∙ ap (option_map (look_of a.number)) is

pub look_none : (number : ℕ) (name : List ℕ) (c : Cache) (as_ : List Awaited) → AreOpen c.waiting as_ → find (has number) as_ ≡ None → look_up number (near_of name c as_) ≡ None
look_none number name c as_ are none = look_up_seen c.waiting number as_ are ∙ ap (option_and_then (seen c.waiting)) none

-- ---- an answer

filled_seen : (number : ℕ) (name : List ℕ) (value : Value) (c : Cache) (as_ : List Awaited) (a : Awaited) (r : kept_look_up.LookUp)
    → AreOpen c.waiting as_ → find (has number) as_ ≡ Some a → (o : Option kept_overtaking.Overtaking)
    → near_of name (cache.closed a.reservation (option_map_or (λ (by : kept_overtaking.Overtaking). c) o (cache.kept r.key value c))) (erased_by (has number) as_)
    ≡ closed number (option_map_or (λ (by : Overtaking). near_of name c as_) (option_map overtaking_of o) (kept r.key value (near_of name c as_)))
filled_seen number name value c as_ a r are found (Some by) = closed_seen number name c as_ a are found
filled_seen number name value c as_ a r are found None =
    ap (λ (w : List Look). record (near_of name (cache.kept r.key value c) as_) { waiting = w }) (erased_seen c.waiting number as_ a are found)
    ∙ ap (λ (es : List Entry). closed number (record (near_of name c as_) { entries = es })) (kept_entries c.capacity r.key value c.entries)

pub answered_seen : (number : ℕ) (name : List ℕ) (value : Value) (c : Cache) (as_ : List Awaited) (a : Awaited)
    → AreOpen c.waiting as_ → find (has number) as_ ≡ Some a
    → near_of name (cache.answered a.reservation value c) (erased_by (has number) as_) ≡ answered number (Some value) (near_of name c as_)
answered_seen number name value c as_ a are found =
    let it = some_is (get c.waiting a.reservation) (open_found c.waiting (has number) as_ a are found) in
    let r = it.0 in
    let n = near_of name c as_ in
    ap (λ (o : Option kept_look_up.LookUp). near_of name (option_map_or (λ (q : kept_look_up.LookUp). cache.closed a.reservation (cache.filled q value c)) o c) (erased_by (has number) as_)) it.1
    ∙ filled_seen number name value c as_ a r are found r.overtaken
    ∙ sym (ap (λ (o : Option Look). option_map_or (λ (q : Look). closed number (filled q value n)) o n) (look_seen number name c as_ a r are found it.1))

pub answered_none : (number : ℕ) (name : List ℕ) (value : Value) (c : Cache) (as_ : List Awaited) → AreOpen c.waiting as_ → find (has number) as_ ≡ None
    → answered number (Some value) (near_of name c as_) ≡ near_of name c as_
answered_none number name value c as_ are none =
    let n = near_of name c as_ in
    ap (λ (o : Option Look). option_map_or (λ (q : Look). closed number (filled q value n)) o n) (look_none number name c as_ are none)

outcome_alike : (o : Option kept_overtaking.Overtaking) → cache.outcome_of o ≡ outcome_of (option_map overtaking_of o)
outcome_alike None = refl
outcome_alike (Some by) = refl

pub outcome_seen : (number : ℕ) (name : List ℕ) (value : Value) (c : Cache) (as_ : List Awaited) (a : Awaited) → AreOpen c.waiting as_ → find (has number) as_ ≡ Some a
    → Some (cache.outcome_of (cache.overtaken a.reservation c)) ≡ outcome number (Some value) (near_of name c as_)
outcome_seen number name value c as_ a are found =
    let it = some_is (get c.waiting a.reservation) (open_found c.waiting (has number) as_ a are found) in
    let r = it.0 in
    ap (λ (o : Option kept_look_up.LookUp). Some (cache.outcome_of (option_and_then (λ (q : kept_look_up.LookUp). q.overtaken) o))) it.1
    ∙ ap Some (outcome_alike r.overtaken)
    ∙ sym (ap (option_map (λ (q : Look). outcome_of q.overtaken)) (look_seen number name c as_ a r are found it.1))

pub outcome_none : (number : ℕ) (name : List ℕ) (value : Value) (c : Cache) (as_ : List Awaited) → AreOpen c.waiting as_ → find (has number) as_ ≡ None
    → outcome number (Some value) (near_of name c as_) ≡ None
outcome_none number name value c as_ are none = ap (option_map (λ (q : Look). outcome_of q.overtaken)) (look_none number name c as_ are none)

-- what is open of the cache stays so, but for the answered one
pub waiting_answered : (n : ℕ) (value : Value) (c : Cache) → (cache.answered n value c).waiting ≡ cond (is_some (get c.waiting n)) (remove c.waiting n) c.waiting
waiting_answered n value c = by (get c.waiting n)
  where
    fills : (r : kept_look_up.LookUp) (o : Option kept_overtaking.Overtaking) → (option_map_or (λ (by : kept_overtaking.Overtaking). c) o (cache.kept r.key value c)).waiting ≡ c.waiting
    fills r None = refl
    fills r (Some by) = refl

    by : (o : Option kept_look_up.LookUp) → (option_map_or (λ (r : kept_look_up.LookUp). cache.closed n (cache.filled r value c)) o c).waiting ≡ cond (is_some o) (remove c.waiting n) c.waiting
    by None = refl
    by (Some r) = ap (λ (w : LookUps). remove w n) (fills r r.overtaken)

-- ---- what is dropped

map_cons : (f : Look → Look) (o : Option Look) (xs : List Look) → map f (cons_option o xs) ≡ cons_option (option_map f o) (map f xs)
map_cons f None xs = refl
map_cons f (Some x) xs = refl

look_dropped : (test : List ℕ → Bool) (by : kept_overtaking.Overtaking) (number : ℕ) (o : Option kept_look_up.LookUp)
    → option_map (look_of number) (option_map (cache_overtaking test by) o) ≡ option_map (overtaking test (overtaking_of by)) (option_map (look_of number) o)
look_dropped test by number None = refl
look_dropped test by number (Some r) = go (test r.key)
  where
    go : (b : Bool) → Some (look_of number (cond b (record r { overtaken = Some by }) r)) ≡ Some (cond b (record (look_of number r) { overtaken = Some (overtaking_of by) }) (look_of number r))
    go true = refl
    go false = refl

seen_dropped : (test : List ℕ → Bool) (by : kept_overtaking.Overtaking) (w : LookUps) (as_ : List Awaited)
    → filter_map (seen (all_overtaken test by w)) as_ ≡ map (overtaking test (overtaking_of by)) (filter_map (seen w) as_)
seen_dropped test by w [] = refl
seen_dropped test by w (a ∷ as_) =
    ap (λ (o : Option kept_look_up.LookUp). cons_option (option_map (look_of a.number) o) (filter_map (seen (all_overtaken test by w)) as_)) (get_overtaken test by w a.reservation)
    ∙ ap (λ (o : Option Look). cons_option o (filter_map (seen (all_overtaken test by w)) as_)) (look_dropped test by a.number (get w a.reservation))
    ∙ ap (cons_option (option_map (overtaking test (overtaking_of by)) (seen w a))) (seen_dropped test by w as_)
    ∙ sym (map_cons (overtaking test (overtaking_of by)) (seen w a) (filter_map (seen w) as_))

pub dropping_seen : (test : List ℕ → Bool) (by : kept_overtaking.Overtaking) (name : List ℕ) (c : Cache) (as_ : List Awaited)
    → near_of name (cache.dropping test by c) as_ ≡ dropping test (overtaking_of by) (near_of name c as_)
dropping_seen test by name c as_ =
    ap (λ (es : List Entry). record (near_of name (cache.dropping test by c) as_) { entries = es }) (dropped_entries test c.entries)
    ∙ ap (λ (w : List Look). record (dropping test (overtaking_of by) (near_of name c as_)) { waiting = w }) (seen_dropped test by c.waiting as_)

still_open : (o : Option kept_look_up.LookUp) (f : kept_look_up.LookUp → kept_look_up.LookUp) → IsSome o → IsSome (option_map f o)
still_open None f some = some
still_open (Some r) f some = refl

pub dropping_open : (test : List ℕ → Bool) (by : kept_overtaking.Overtaking) (w : LookUps) (as_ : List Awaited) → AreOpen w as_ → AreOpen (all_overtaken test by w) as_
dropping_open test by w [] are = tt
dropping_open test by w (a ∷ as_) are =
    (subst (λ (o : Option kept_look_up.LookUp). IsSome o) (sym (get_overtaken test by w a.reservation)) (still_open (get w a.reservation) (cache_overtaking test by) are.0), are.1, dropping_open test by w as_ are.2)

-- what was taken out under a number
pub taken_is : (number : ℕ) (as_ : List Awaited) (n : ℕ) → Some n ≡ option_map (λ (a : Awaited). a.reservation) (find (has number) as_)
    → (a : Awaited) × ((find (has number) as_ ≡ Some a) × (a.reservation ≡ n))
taken_is number as_ n taken = by (find (has number) as_) refl taken
  where
    by : (o : Option Awaited) → find (has number) as_ ≡ o → Some n ≡ option_map (λ (a : Awaited). a.reservation) o → (a : Awaited) × ((find (has number) as_ ≡ Some a) × (a.reservation ≡ n))
    by None is h = absurd cc
    by (Some a) is h = let same : a.reservation ≡ n = cc in (a, (is, same))

pub taken_none : (number : ℕ) (as_ : List Awaited) → None ≡ option_map (λ (a : Awaited). a.reservation) (find (has number) as_) → find (has number) as_ ≡ None
taken_none number as_ taken = by (find (has number) as_) refl taken
  where
    by : (o : Option Awaited) → find (has number) as_ ≡ o → None ≡ option_map (λ (a : Awaited). a.reservation) o → find (has number) as_ ≡ None
    by None is h = is
    by (Some a) is h = absurd cc

pub is_open_taken : (w : LookUps) (number : ℕ) (as_ : List Awaited) (n : ℕ) → AreOpen w as_ → Some n ≡ option_map (λ (a : Awaited). a.reservation) (find (has number) as_) → IsSome (get w n)
is_open_taken w number as_ n are taken =
    let it = taken_is number as_ n taken in
    subst (λ (m : ℕ). IsSome (get w m)) it.1.1 (open_found w (has number) as_ it.0 are it.1.0)

-- those that are left are open, also where the one that was taken out is closed
pub open_after : (w : LookUps) (number : ℕ) (as_ : List Awaited) (n : ℕ) → AreOpen w as_ → Some n ≡ option_map (λ (a : Awaited). a.reservation) (find (has number) as_)
    → AreOpen (remove w n) (erased_by (has number) as_)
open_after w number as_ n are taken =
    let it = taken_is number as_ n taken in
    subst (λ (m : ℕ). AreOpen (remove w m) (erased_by (has number) as_)) it.1.1 (open_closed w number as_ it.0 are it.1.0)

waiting_after : (c : Cache) (n : ℕ) (value : Value) → IsSome (get c.waiting n) → (cache.answered n value c).waiting ≡ remove c.waiting n
waiting_after c n value some = waiting_answered n value c ∙ ap (λ (b : Bool). cond b (remove c.waiting n) c.waiting) some

pub open_answered : (c : Cache) (number : ℕ) (as_ : List Awaited) (n : ℕ) (value : Value) → AreOpen c.waiting as_ → Some n ≡ option_map (λ (a : Awaited). a.reservation) (find (has number) as_)
    → AreOpen (cache.answered n value c).waiting (erased_by (has number) as_)
open_answered c number as_ n value are taken =
    subst (λ (w : LookUps). AreOpen w (erased_by (has number) as_)) (sym (waiting_after c n value (is_open_taken c.waiting number as_ n are taken))) (open_after c.waiting number as_ n are taken)

pub filled_after : (number : ℕ) (name : List ℕ) (value : Value) (c : Cache) (as_ : List Awaited) (n : ℕ) → AreOpen c.waiting as_ → Some n ≡ option_map (λ (a : Awaited). a.reservation) (find (has number) as_)
    → near_of name (cache.answered n value c) (erased_by (has number) as_) ≡ answered number (Some value) (near_of name c as_)
filled_after number name value c as_ n are taken =
    let it = taken_is number as_ n taken in
    subst (λ (m : ℕ). near_of name (cache.answered m value c) (erased_by (has number) as_) ≡ answered number (Some value) (near_of name c as_)) it.1.1 (answered_seen number name value c as_ it.0 are it.1.0)

pub outcome_after : (number : ℕ) (name : List ℕ) (value : Value) (c : Cache) (as_ : List Awaited) (n : ℕ) → AreOpen c.waiting as_ → Some n ≡ option_map (λ (a : Awaited). a.reservation) (find (has number) as_)
    → Some (cache.outcome_of (cache.overtaken n c)) ≡ outcome number (Some value) (near_of name c as_)
outcome_after number name value c as_ n are taken =
    let it = taken_is number as_ n taken in
    subst (λ (m : ℕ). Some (cache.outcome_of (cache.overtaken m c)) ≡ outcome number (Some value) (near_of name c as_)) it.1.1 (outcome_seen number name value c as_ it.0 are it.1.0)

pub closed_after : (number : ℕ) (name : List ℕ) (c : Cache) (as_ : List Awaited) (n : ℕ) → AreOpen c.waiting as_ → Some n ≡ option_map (λ (a : Awaited). a.reservation) (find (has number) as_)
    → near_of name (cache.closed n c) (erased_by (has number) as_) ≡ closed number (near_of name c as_)
closed_after number name c as_ n are taken =
    let it = taken_is number as_ n taken in
    subst (λ (m : ℕ). near_of name (cache.closed m c) (erased_by (has number) as_) ≡ closed number (near_of name c as_)) it.1.1 (closed_seen number name c as_ it.0 are it.1.0)

-- where nothing waits under the number
pub nothing_after : (number : ℕ) (name : List ℕ) (value : Value) (c : Cache) (as_ : List Awaited) → AreOpen c.waiting as_ → None ≡ option_map (λ (a : Awaited). a.reservation) (find (has number) as_)
    → near_of name c (erased_by (has number) as_) ≡ answered number (Some value) (near_of name c as_)
nothing_after number name value c as_ are taken =
    let none = taken_none number as_ taken in
    ap (near_of name c) (none_erased (has number) as_ none) ∙ sym (answered_none number name value c as_ are none)

pub no_outcome : (number : ℕ) (name : List ℕ) (value : Value) (c : Cache) (as_ : List Awaited) → AreOpen c.waiting as_ → None ≡ option_map (λ (a : Awaited). a.reservation) (find (has number) as_)
    → None ≡ outcome number (Some value) (near_of name c as_)
no_outcome number name value c as_ are taken = sym (outcome_none number name value c as_ are (taken_none number as_ taken))

pub nothing_closed : (number : ℕ) (name : List ℕ) (c : Cache) (as_ : List Awaited) → AreOpen c.waiting as_ → None ≡ option_map (λ (a : Awaited). a.reservation) (find (has number) as_)
    → near_of name c (erased_by (has number) as_) ≡ closed number (near_of name c as_)
nothing_closed number name c as_ are taken = closed_none number name c as_ are (taken_none number as_ taken)
