-- That the pass which is handed back may run an operator's events.
use Rattle.std.proofs.Common.{◌≡◌, ℕ, zero, suc, ◌<◌, Bool, true, ◌||◌, List, [], ◌∷◌, map, length, Some, slice_get, sym, refl, ap, ◌∙◌, subst, arith}
use Rattle.std.proofs.lemmas.List.{length-map}
use Rattle.std.proofs.lemmas.Option.{slice_get_within}
use Rattle.hand_cell.specs.declared.cell.Cell.{Cell}
use Rattle.hand_cell.specs.declared.names.Key.{Key}
use Rattle.hand_cell.specs.declared.names.Key.TheVariants.{Control}
use Rattle.hand_cell.specs.Names.{has}
use Rattle.hand_cell.specs.Told.{Told}
use Rattle.job_queues.specs.Roster.{roster_of}
use Rattle.session_calls.specs.Passes.{ArePassesOf, AreJoinedWith}
use Rattle.session_calls.proofs.OfCells.{came_from, mapped}
use Rattle.session_calls.proofs.Places.{same_some}

-- lists are the same that have the same at each place
same_lists : {A : Type 0} (xs ys : List A) → length xs ≡ length ys → ((k : ℕ) (x : A) → slice_get xs k ≡ Some x → slice_get ys k ≡ Some x) → xs ≡ ys
same_lists [] [] long there = refl
same_lists [] (y ∷ ys) long there = absurd (omega (arith, long))
same_lists (x ∷ xs) [] long there = absurd (omega (arith, long))
same_lists (x ∷ xs) (y ∷ ys) long there =
    let first = same_some y x (there zero x refl) in
    let rest = same_lists xs ys (omega (arith, long)) (λ k z e. there (suc k) z e) in
    ap (λ zs. x ∷ zs) rest ∙ ap (λ z. z ∷ ys) (sym first)

there_is : {A : Type 0} (xs : List A) (k : ℕ) → k < length xs → (x : A) × (slice_get xs k ≡ Some x)
there_is [] k less = absurd (omega (arith, less))
there_is (x ∷ xs) zero less = (x, refl)
there_is (x ∷ xs) (suc k) less = there_is xs k (omega (arith, less))

-- passes of cells have the cells' tables
pub tables_of : {T P E O : Type 0} (cells : List (Cell T P E O)) (passes : List (Told E)) → ArePassesOf cells passes → map (λ (p : Told E). p.table) passes ≡ (roster_of cells).tables
tables_of {E = E} cells passes are = same_lists (map (λ (p : Told E). p.table) passes) (roster_of cells).tables
    (length-map passes (λ p. p.table) ∙ (are.as_long ∙ sym (length-map cells (λ c. c.table.shared.table_id))))
    (λ k t e. let was = came_from (λ (p : Told E). p.table) passes k t e in are.each k was.0 was.1 ∙ ap Some (sym was.2))

-- A pass that had Control has it still once it has taken another in
pub still_controls : {E : Type 0} (key_of : E → Key) (old others new : List (Told E)) → length others ≡ length old
    → ((k : ℕ) (p : Told E) → slice_get old k ≡ Some p → has p.names Control ≡ true)
    → AreJoinedWith key_of old (map (λ pass. Some pass) others) new
    → (k : ℕ) (p : Told E) → slice_get new k ≡ Some p → has p.names Control ≡ true
still_controls {E = E} key_of old others new long controls joined k p e =
    let within : k < length new = slice_get_within new k p e in
    let as_long = joined.as_long in
    let was = there_is old k (omega (arith, within, as_long)) in
    let other = there_is others k (omega (arith, within, as_long, long)) in
    let is = joined.each k was.0 other.0 p was.1 (mapped (λ (pass : Told E). Some pass) others k other.0 other.1) e in
    subst (λ (q : Told E). has q.names Control ≡ true) (sym is.pass_is) (ap (λ (c : Bool). c || other.0.names.control) (controls k was.0 was.1))
