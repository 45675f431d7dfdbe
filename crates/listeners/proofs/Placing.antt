-- A listener among others in order.
use Rattle.std.proofs.Common.{◌≡◌, ℕ, suc, ◌+◌, ◌<◌, ◌≤◌, Bool, true, false, not, cond, nat_lt, List, [], ◌∷◌, filter, length, Option, Some, None, unwrap_or, ap, sym, ◌∙◌, refl, arith}
use Rattle.std.specs.List.{AllByRecursion, position_or_len, insert}
use Rattle.std.proofs.lemmas.Bool.{ltb-true, ltb-false, lt-ltb}
use Rattle.std.proofs.lemmas.List.Sums.{prefix_len-le-length}
use Rattle.listeners.specs.Standing.{placed}
use Rattle.listeners.specs.Tables.{AreInOrder}
use Rattle.listeners.specs.declared.listener.Listener.{Listener}

-- it goes to a later connection than that of the new one
abbrev pub is_later : Listener → Listener → Bool
is_later new other = nat_lt new.conn other.conn

-- the place before the first of a later connection
pub insert-placed : (new : Listener) (xs : List Listener) → insert xs (position_or_len (is_later new) xs) new ≡ placed new xs
insert-placed new [] = refl
insert-placed new (x ∷ xs) = by (is_later new x) (insert-placed new xs)
  where
    by : (b : Bool) → insert xs (position_or_len (is_later new) xs) new ≡ placed new xs
        → insert (x ∷ xs) (cond (not b) (1 + position_or_len (is_later new) xs) 0) new ≡ cond b (new ∷ x ∷ xs) (x ∷ placed new xs)
    by true ih = refl
    by false ih = let e : 1 + position_or_len (is_later new) xs ≡ suc (position_or_len (is_later new) xs) = omega arith in rw e (ap (λ l. x ∷ l) ih)

-- the place that is found, or the end

pub place-within : (p : Listener → Bool) (xs : List Listener) → position_or_len p xs ≤ length xs
place-within p xs = prefix_len-le-length (λ (x : Listener). not (p x)) xs

found_or_end : (p : Listener → Bool) (xs : List Listener) → unwrap_or (cond (nat_lt (position_or_len p xs) (length xs)) (Some (position_or_len p xs)) None) (length xs) ≡ position_or_len p xs
found_or_end p xs = by (nat_lt (position_or_len p xs) (length xs)) refl
  where
    by : (b : Bool) → nat_lt (position_or_len p xs) (length xs) ≡ b → unwrap_or (cond b (Some (position_or_len p xs)) None) (length xs) ≡ position_or_len p xs
    by true t = refl
    by false t =
        let least : length xs ≤ position_or_len p xs = ltb-false (position_or_len p xs) (length xs) t in
        let most : position_or_len p xs ≤ length xs = place-within p xs in
        omega (arith, least, most)

pub place-found : (p : Listener → Bool) (xs : List Listener) (found : Option ℕ) (n : ℕ)
    → found ≡ cond (nat_lt (position_or_len p xs) (length xs)) (Some (position_or_len p xs)) None → n ≡ length xs → unwrap_or found n ≡ position_or_len p xs
place-found p xs found n is len = ap (λ o. unwrap_or o n) is ∙ ap (λ m. unwrap_or (cond (nat_lt (position_or_len p xs) (length xs)) (Some (position_or_len p xs)) None) m) len ∙ found_or_end p xs

-- what holds of each, of some of them, and of one more

pub All-filter : (P : Listener → Type 0) (p : Listener → Bool) (xs : List Listener) → AllByRecursion P xs → AllByRecursion P (filter p xs)
All-filter P p [] all = tt
All-filter P p (x ∷ xs) all = by (p x) (All-filter P p xs all.1)
  where
    by : (b : Bool) → AllByRecursion P (filter p xs) → AllByRecursion P (cond b (x ∷ filter p xs) (filter p xs))
    by true ih = (all.0, ih)
    by false ih = ih

pub All-placed : (P : Listener → Type 0) (new : Listener) (xs : List Listener) → P new → AllByRecursion P xs → AllByRecursion P (placed new xs)
All-placed P new [] h all = (h, tt)
All-placed P new (x ∷ xs) h all = by (is_later new x) (All-placed P new xs h all.1)
  where
    by : (b : Bool) → AllByRecursion P (placed new xs) → AllByRecursion P (cond b (new ∷ x ∷ xs) (x ∷ placed new xs))
    by true ih = (h, all)
    by false ih = (all.0, ih)

pub All-weaker : (P Q : Listener → Type 0) (xs : List Listener) → ((x : Listener) → P x → Q x) → AllByRecursion P xs → AllByRecursion Q xs
All-weaker P Q [] weaker all = tt
All-weaker P Q (x ∷ xs) weaker all = (weaker x all.0, All-weaker P Q xs weaker all.1)

-- the order stays

pub order-filter : (p : Listener → Bool) (xs : List Listener) → AreInOrder xs → AreInOrder (filter p xs)
order-filter p [] order = tt
order-filter p (x ∷ xs) order = by (p x) (order-filter p xs order.1)
  where
    by : (b : Bool) → AreInOrder (filter p xs) → AreInOrder (cond b (x ∷ filter p xs) (filter p xs))
    by true ih = (All-filter _ p xs order.0, ih)
    by false ih = ih

le_through : (a b c : ℕ) → a ≤ b → b ≤ c → a ≤ c
le_through a b c h k = omega (arith, h, k)

le_from_test : (a b : ℕ) → nat_lt a b ≡ true → a ≤ b
le_from_test a b t = let less : a < b = ltb-true a b t in omega (arith, less)

lt_test : (a b c : ℕ) → nat_lt a b ≡ true → b ≤ c → nat_lt a c ≡ true
lt_test a b c t h = let less : a < b = ltb-true a b t in lt-ltb a c (omega (arith, less, h))

pub order-placed : (new : Listener) (xs : List Listener) → AreInOrder xs → AreInOrder (placed new xs)
order-placed new [] order = (tt, tt)
order-placed new (x ∷ xs) order = by (is_later new x) refl (order-placed new xs order.1)
  where
    by : (b : Bool) → is_later new x ≡ b → AreInOrder (placed new xs) → AreInOrder (cond b (new ∷ x ∷ xs) (x ∷ placed new xs))
    by true e ih =
        let before = le_from_test new.conn x.conn e in
        ((before, All-weaker (λ (o : Listener). x.conn ≤ o.conn) (λ (o : Listener). new.conn ≤ o.conn) xs (λ o h. le_through new.conn x.conn o.conn before h) order.0), order)
    by false e ih = (All-placed (λ (o : Listener). x.conn ≤ o.conn) new xs (ltb-false new.conn x.conn e) order.0, ih)

-- some of them, with the new one and without it

first-placed : (new : Listener) (xs : List Listener) → AllByRecursion (λ (o : Listener). is_later new o ≡ true) xs → placed new xs ≡ new ∷ xs
first-placed new [] all = refl
first-placed new (x ∷ xs) all = let e : is_later new x ≡ true = all.0 in ap (λ b. cond b (new ∷ x ∷ xs) (x ∷ placed new xs)) e

pub filter-placed_other : (p : Listener → Bool) (new : Listener) (xs : List Listener) → p new ≡ false → filter p (placed new xs) ≡ filter p xs
filter-placed_other p new [] e = ap (λ b. cond b (new ∷ []) []) e
filter-placed_other p new (x ∷ xs) e = by (is_later new x) (filter-placed_other p new xs e)
  where
    by : (b : Bool) → filter p (placed new xs) ≡ filter p xs → filter p (cond b (new ∷ x ∷ xs) (x ∷ placed new xs)) ≡ filter p (x ∷ xs)
    by true ih = ap (λ b. cond b (new ∷ filter p (x ∷ xs)) (filter p (x ∷ xs))) e
    by false ih = ap (λ l. cond (p x) (x ∷ l) l) ih

later_all : (new x : Listener) (xs : List Listener) → AreInOrder (x ∷ xs) → is_later new x ≡ true → AllByRecursion (λ (o : Listener). is_later new o ≡ true) (x ∷ xs)
later_all new x xs order t = (t, All-weaker (λ (o : Listener). x.conn ≤ o.conn) (λ (o : Listener). is_later new o ≡ true) xs (λ o h. lt_test new.conn x.conn o.conn t h) order.0)

placed_behind : (p : Listener → Bool) (new x : Listener) (xs : List Listener) → is_later new x ≡ false → (b : Bool)
    → cond b (x ∷ placed new (filter p xs)) (placed new (filter p xs)) ≡ placed new (cond b (x ∷ filter p xs) (filter p xs))
placed_behind p new x xs t true = sym (ap (λ b. cond b (new ∷ x ∷ filter p xs) (x ∷ placed new (filter p xs))) t)
placed_behind p new x xs t false = refl

pub filter-placed : (p : Listener → Bool) (new : Listener) (xs : List Listener) → AreInOrder xs → p new ≡ true → filter p (placed new xs) ≡ placed new (filter p xs)
filter-placed p new [] order e = ap (λ b. cond b (new ∷ []) []) e
filter-placed p new (x ∷ xs) order e = by (is_later new x) refl (filter-placed p new xs order.1 e)
  where
    by : (b : Bool) → is_later new x ≡ b → filter p (placed new xs) ≡ placed new (filter p xs)
        → filter p (cond b (new ∷ x ∷ xs) (x ∷ placed new xs)) ≡ placed new (filter p (x ∷ xs))
    by true t ih =
        ap (λ b. cond b (new ∷ filter p (x ∷ xs)) (filter p (x ∷ xs))) e
        ∙ sym (first-placed new (filter p (x ∷ xs)) (All-filter (λ (o : Listener). is_later new o ≡ true) p (x ∷ xs) (later_all new x xs order t)))
    by false t ih = ap (λ l. cond (p x) (x ∷ l) l) ih ∙ placed_behind p new x xs t (p x)

-- two tests in either order
pub filter-filter : (p q : Listener → Bool) (xs : List Listener) → filter p (filter q xs) ≡ filter q (filter p xs)
filter-filter p q [] = refl
filter-filter p q (x ∷ xs) = by (p x) (q x) refl refl (filter-filter p q xs)
  where
    by : (a b : Bool) → p x ≡ a → q x ≡ b → filter p (filter q xs) ≡ filter q (filter p xs)
        → filter p (cond b (x ∷ filter q xs) (filter q xs)) ≡ filter q (cond a (x ∷ filter p xs) (filter p xs))
    by true true ep eq ih = ap (λ t. cond t (x ∷ filter p (filter q xs)) (filter p (filter q xs))) ep ∙ ap (λ l. x ∷ l) ih ∙ sym (ap (λ t. cond t (x ∷ filter q (filter p xs)) (filter q (filter p xs))) eq)
    by true false ep eq ih = ih ∙ sym (ap (λ t. cond t (x ∷ filter q (filter p xs)) (filter q (filter p xs))) eq)
    by false true ep eq ih = ap (λ t. cond t (x ∷ filter p (filter q xs)) (filter p (filter q xs))) ep ∙ ih
    by false false ep eq ih = ih
