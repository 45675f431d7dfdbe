-- A connection among others in order.
use Rattle.std.proofs.Common.{◌≡◌, ℕ, suc, ◌+◌, ◌≤◌, Bool, true, false, not, cond, ◌||◌, nat_lt, List, [], ◌∷◌, length, Option, Some, None, unwrap_or, ap, ◌∙◌, refl, arith, eq-eqb}
use Rattle.std.specs.List.{list_any, position, position_or_len, insert}
use Rattle.std.proofs.lemmas.Bool.{ltb-false}
use Rattle.std.proofs.lemmas.List.Sums.{prefix_len-le-length}
use Rattle.grid_client.specs.Connections.{is_conn, new_connection, placed}
use Rattle.grid_client.specs.declared.connections.Connection.{Connection}

-- it has a greater number than the new one
abbrev pub is_later : ℕ → Connection → Bool
is_later conn c = nat_lt conn c.conn

-- the place before the first of a greater number
pub insert-placed : (new : Connection) (xs : List Connection) → insert xs (position_or_len (is_later new.conn) xs) new ≡ placed new xs
insert-placed new [] = refl
insert-placed new (x ∷ xs) = by (is_later new.conn x) (insert-placed new xs)
  where
    by : (b : Bool) → insert xs (position_or_len (is_later new.conn) xs) new ≡ placed new xs
        → insert (x ∷ xs) (cond (not b) (1 + position_or_len (is_later new.conn) xs) 0) new ≡ cond b (new ∷ x ∷ xs) (x ∷ placed new xs)
    by true ih = refl
    by false ih = let e : 1 + position_or_len (is_later new.conn) xs ≡ suc (position_or_len (is_later new.conn) xs) = omega arith in rw e (ap (λ l. x ∷ l) ih)

pub place-within : (p : Connection → Bool) (xs : List Connection) → position_or_len p xs ≤ length xs
place-within p xs = prefix_len-le-length (λ (x : Connection). not (p x)) xs

found_or_end : (p : Connection → Bool) (xs : List Connection) → unwrap_or (position p xs) (length xs) ≡ position_or_len p xs
found_or_end p xs = by (nat_lt (position_or_len p xs) (length xs)) refl
  where
    by : (b : Bool) → nat_lt (position_or_len p xs) (length xs) ≡ b → unwrap_or (cond b (Some (position_or_len p xs)) None) (length xs) ≡ position_or_len p xs
    by true t = refl
    by false t =
        let least : length xs ≤ position_or_len p xs = ltb-false (position_or_len p xs) (length xs) t in
        let most : position_or_len p xs ≤ length xs = place-within p xs in
        omega (arith, least, most)

pub place-found : (p : Connection → Bool) (xs : List Connection) (found : Option ℕ) (n : ℕ) → found ≡ position p xs → n ≡ length xs → unwrap_or found n ≡ position_or_len p xs
place-found p xs found n is len = ap (λ o. unwrap_or o n) is ∙ ap (λ m. unwrap_or (position p xs) m) len ∙ found_or_end p xs

-- a new one is there
pub placed_there : (conn : ℕ) (xs : List Connection) → list_any (is_conn conn) (placed (new_connection conn) xs) ≡ true
placed_there conn [] = let on : is_conn conn (new_connection conn) ≡ true = eq-eqb conn conn refl in ap (λ (b : Bool). b || false) on
placed_there conn (x ∷ xs) = by (nat_lt conn x.conn) (placed_there conn xs)
  where
    by : (b : Bool) → list_any (is_conn conn) (placed (new_connection conn) xs) ≡ true
        → list_any (is_conn conn) (cond b (new_connection conn ∷ x ∷ xs) (x ∷ placed (new_connection conn) xs)) ≡ true
    by true ih = let on : is_conn conn (new_connection conn) ≡ true = eq-eqb conn conn refl in ap (λ (b : Bool). b || list_any (is_conn conn) (x ∷ xs)) on
    by false ih = ap (λ (b : Bool). is_conn conn x || b) ih ∙ or_true (is_conn conn x)
      where
        or_true : (b : Bool) → (b || true) ≡ true
        or_true true = refl
        or_true false = refl
