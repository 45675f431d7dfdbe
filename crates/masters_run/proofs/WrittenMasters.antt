-- The masters of the code keep decisions as they are written: their run is that of the machine, so written.
use Rattle.std.proofs.Common.{◌≡◌, ℕ, List, [], ◌∷◌, map, refl, ap, ◌∙◌}
use Rattle.masters_protocol.specs.Machine.{Event, Told, Crash, Propose, Deliver, Lose, Resend, start, run}
use Rattle.masters_world.specs.Decisions.{Decision}
use Rattle.masters_run.specs.Written.{as_written, written_event, written_events}
use Rattle.masters_run.proofs.Natural.{masters_by, event_by, natural}

pub written_so : (e : Event Decision) → written_event e ≡ event_by as_written e
written_so (Told m x) = refl
written_so (Crash m) = refl
written_so (Propose d) = refl
written_so (Deliver f t i) = refl
written_so (Lose f t i) = refl
written_so (Resend m) = refl

all_written : (es : List (Event Decision)) → written_events es ≡ map (event_by as_written) es
all_written [] = refl
all_written (e ∷ es) = ap (λ x. x ∷ written_events es) (written_so e) ∙ ap (λ xs. event_by as_written e ∷ xs) (all_written es)

pub kept_run : (size : ℕ) (es : List (Event Decision)) → run (start size) (written_events es) ≡ masters_by as_written (run (start size) es)
kept_run size es = ap (λ xs. run (start size) xs) (all_written es) ∙ natural as_written size es
