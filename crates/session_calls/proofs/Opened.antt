-- For callers: which numbers passes have once they were split or joined, and what a session has that was opened.
use Rattle.std.proofs.Common.{◌≡◌, ◌≢◌, ℕ, ◌+◌, ◌<◌, ◌≤◌, eqb, Bool, true, false, not, ◌||◌, if◌then◌else◌, List, [], ◌∷◌, Some, slice_get, map, sym, refl, ap, ◌∙◌, subst, arith}
use Rattle.std.proofs.lemmas.Bool.Decides.{nat_tests}
use Rattle.hand_cell.specs.declared.cell.Cell.{Cell}
use Rattle.hand_cell.specs.declared.names.Key.{Key}
use Rattle.hand_cell.specs.declared.names.Key.TheVariants.{Call}
use Rattle.hand_cell.specs.declared.names.Names.TheVariants.{One, Block, Every}
use Rattle.hand_cell.specs.declared.names.Numbers.{Numbers}
use Rattle.hand_cell.specs.declared.names.Numbers.TheVariants.{Only, AllBut}
use Rattle.hand_cell.specs.Calls.{first_pass}
use Rattle.hand_cell.specs.Names.{has_number, listed, removed, without}
use Rattle.hand_cell.specs.Told.{Told}
use Rattle.hand_cell.proofs.Naming.{has_both, block_named, left_named}
use Rattle.partition_threads.specs.declared.workplace.Workplace.{Workplace}
use Rattle.session_calls.specs.declared.session.SessionPass.{SessionPass}
use Rattle.session_calls.specs.Openings.{IsOpened}
use Rattle.session_calls.specs.Passes.{HaveNumber, IsJoinedWith, giving_up, given}
use Rattle.session_calls.specs.Sessions.{pass_at}
use Rattle.session_calls.proofs.OfCells.{came_from, mapped}

itself : (n : ℕ) → eqb n n ≡ true
itself n = grind (arith, nat_tests)

another : (n m : ℕ) → n ≢ m → eqb n m ≡ false
another n m ne = grind (arith, nat_tests)

same_number : (y n : ℕ) → eqb y n ≡ true → y ≡ n
same_number y n e = grind (arith, nat_tests)

-- a number stays listed where another one is removed
still_listed : (n m : ℕ) (xs : List ℕ) → n ≢ m → listed m xs ≡ true → listed m (removed (n ∷ []) xs) ≡ true
still_listed n m [] ne e = e
still_listed n m (y ∷ ys) ne e = go (eqb n y) refl (eqb y m) refl (still_listed n m ys ne)
  where
    go : (b : Bool) → eqb n y ≡ b → (d : Bool) → eqb y m ≡ d → (listed m ys ≡ true → listed m (removed (n ∷ []) ys) ≡ true) → listed m (if (b || false) then removed (n ∷ []) ys else (y ∷ removed (n ∷ []) ys)) ≡ true
    go true f d h more = let mine : n ≡ y = same_number n y f in more (sym (ap (λ (z : Bool). z || listed m ys) (another y m (λ k. ne (mine ∙ k)))) ∙ e)
    go false f true h more = ap (λ (z : Bool). z || listed m (removed (n ∷ []) ys)) h
    go false f false h more = ap (λ (z : Bool). z || listed m (removed (n ∷ []) ys)) h ∙ more (sym (ap (λ (z : Bool). z || listed m ys) h) ∙ e)

still_there : (n m : ℕ) (s : Numbers) → n ≢ m → has_number s m ≡ true → has_number (without n s) m ≡ true
still_there n m (Only xs) ne e = still_listed n m xs ne e
still_there n m (AllBut xs) ne e = ap (λ (z : Bool). not (z || listed m xs)) (another n m ne) ∙ e

module _ {E : Type 0} where
  -- passes that give up a number keep every other
  pub still_named : (n m : ℕ) (passes : List (Told E)) → n ≢ m → HaveNumber m passes → HaveNumber m (map (giving_up (One n)) passes)
  still_named n m passes ne have k q e = let was = came_from (giving_up (One n)) passes k q e in
      ap (λ (p : Told E). has_number p.names.numbers m) was.2 ∙ still_there n m was.0.names.numbers ne (have k was.0 was.1)

  -- a second pass that gets every number has those of the first
  pub all_named : (m : ℕ) (passes : List (Told E)) → HaveNumber m passes → HaveNumber m (map (given Every) passes)
  all_named m passes have k q e = let was = came_from (given Every) passes k q e in ap (λ (p : Told E). has_number p.names.numbers m) was.2 ∙ have k was.0 was.1

  -- second passes that get a block of numbers have these
  pub block_is_named : (first count m : ℕ) (passes : List (Told E)) → first ≤ m → m < first + count → HaveNumber m (map (given (Block first count)) passes)
  block_is_named first count m passes from below k q e = let was = came_from (given (Block first count)) passes k q e in
      ap (λ (p : Told E). has_number p.names.numbers m) was.2 ∙ block_named first count m was.0.names from below

  -- and the first keep every other
  pub rest_is_named : (first count m : ℕ) (passes : List (Told E)) → ¬ ((first ≤ m) × (m < first + count)) → HaveNumber m passes → HaveNumber m (map (giving_up (Block first count)) passes)
  rest_is_named first count m passes outside have k q e = let was = came_from (giving_up (Block first count)) passes k q e in
      ap (λ (p : Told E). has_number p.names.numbers m) was.2 ∙ left_named first count m was.0.names outside (have k was.0 was.1)

  -- a pass that took another in has both's numbers
  pub joined_has : (key_of : E → Key) (m : ℕ) (pass other joined : Told E) → IsJoinedWith key_of pass other joined → has_number joined.names.numbers m ≡ (has_number pass.names.numbers m || has_number other.names.numbers m)
  joined_has key_of m pass other joined is = ap (λ (p : Told E). has_number p.names.numbers m) is.pass_is ∙ has_both pass.names other.names (Call (record { conn = m; number = 0 }))

module _ {T P E O : Type 0} where
  -- the first passes of cells have every number
  pub first_named : (m : ℕ) (cells : List (Cell T P E O)) → HaveNumber m (map (λ cell. first_pass cell) cells)
  first_named m cells k q e = ap (λ (p : Told E). has_number p.names.numbers m) (came_from (λ (c : Cell T P E O). first_pass c) cells k q e).2

  -- What a session has at a place that was opened: a pass that has seen as much as the one there, and has the connection's number
  pub record HasOpenedAt (session : SessionPass T P E O) (place : ℕ) (pass : Told E) : Type 0 where
    pub part : Told E
    pub there : pass_at session place ≡ Some (Some part)
    pub seen_is : part.seen ≡ pass.seen
    pub named : has_number part.names.numbers session.conn ≡ true

  pub opened_at : (place : Workplace T P E O) (passes : List (Told E)) (conn member : ℕ) (session : SessionPass T P E O) → IsOpened place passes conn member session
      → (p : ℕ) (pass : Told E) → slice_get passes p ≡ Some pass → HasOpenedAt session p pass
  opened_at place passes conn member session is p pass there = record {
    part = given (One conn) pass;
    there = ap (λ z. slice_get z p) is.passes_are ∙ mapped (λ (q : Told E). Some (given (One conn) q)) passes p pass there;
    seen_is = refl;
    named = subst (λ (n : ℕ). (eqb conn n || false) ≡ true) (sym is.conn_is) (ap (λ (z : Bool). z || false) (itself conn));
  }
