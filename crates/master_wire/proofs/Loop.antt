-- The decisions of a log one after the other, as a loop reads them.
use Rattle.std.proofs.Common.{◌≡◌, ℕ, suc, ◌-◌, ◌+◌, ◌≤◌, ◌<◌, List, [], ◌∷◌, ◌++◌, Result, Ok, refl, sym, ◌∙◌, arith}
use Rattle.wire_parts.specs.declared.refusal.WireRefused.{WireRefused}
use Rattle.wire_parts.specs.Places.{Place}
use Rattle.wire_parts.specs.Parts.{◌>>=◌, Fails}
use Rattle.wire_parts.proofs.Refusals.{Fails-bind}
use Rattle.master_wire.specs.declared.decision.Decision.{Decision}
use Rattle.master_wire.specs.Reading.{decision_at, decisions_at}

pub goes_on : (log : List Decision) (count i : ℕ) (p after : Place) (decision : Decision) (total : Result (List Decision × Place) WireRefused) → i < count → decision_at p ≡ Ok (decision, after)
    → decisions_at log (count - i) p ≡ total → decisions_at (log ++ decision ∷ []) (count - (i + 1)) after ≡ total
unfolding decisions_at
goes_on log count i p after decision total lt read so_far =
    let left : count - i ≡ suc (count - (i + 1)) = omega arith in
    let one : decisions_at log (count - i) p ≡ decisions_at (log ++ decision ∷ []) (count - (i + 1)) after = rw (left, read) refl in
    sym one ∙ so_far

pub ends : (e : WireRefused) (log : List Decision) (count i : ℕ) (p : Place) (total : Result (List Decision × Place) WireRefused) → i < count → Fails e (decision_at p)
    → decisions_at log (count - i) p ≡ total → Fails e total
unfolding decisions_at
ends e log count i p total lt fails so_far =
    let left : count - i ≡ suc (count - (i + 1)) = omega arith in
    let first : decisions_at log (count - i) p ≡ (decision_at p >>= λ d. decisions_at (log ++ d.0 ∷ []) (count - (i + 1)) d.1) = rw left refl in
    rw (← so_far, first) (Fails-bind e (decision_at p) (λ d. decisions_at (log ++ d.0 ∷ []) (count - (i + 1)) d.1) fails)

pub is_done : (log : List Decision) (count i : ℕ) (p : Place) (total : Result (List Decision × Place) WireRefused) → count ≤ i → decisions_at log (count - i) p ≡ total → total ≡ Ok (log, p)
unfolding decisions_at
is_done log count i p total le so_far =
    let left : count - i ≡ 0 = omega arith in
    let one : decisions_at log (count - i) p ≡ Ok (log, p) = rw left refl in
    sym so_far ∙ one
