-- The sessions of the example, as they are opened.
use Rattle.std.proofs.Common.{◌≡◌, ℕ, true, List, [], Some, slice_get, length, ◌∙◌, subst}
use Rattle.hand_cell.specs.Names.{has_number}
use Rattle.hand_cell.specs.Told.{Told}
use Rattle.session_calls.specs.Openings.{IsOpened}
use Rattle.session_calls.proofs.Opened.{opened_at}
use Rattle.job_examples.specs.declared.relay.Event.{Event}
use Rattle.job_examples.specs.Serving.{Place}
use Rattle.job_examples.specs.Sessions.{Session, IsNewSession}

module _ (place : Place) (one : length place.cells.items ≡ 1) where
  -- a session that was opened, with a pass that has seen nothing
  pub new_session : (passes : List (Told Event)) (conn member : ℕ) (session : Session) → IsOpened place passes conn member session → (pass : Told Event) → slice_get passes 0 ≡ Some pass → pass.seen ≡ [] → IsNewSession place conn session
  new_session passes conn member session is pass there none = let at = opened_at place passes conn member session is 0 pass there in record {
    session_is = is.of_place;
    one = is.of_place.each ∙ one;
    pass = at.part;
    there = at.there;
    pass_is = record {
      cell = is.of_place.passes 0 at.part at.there;
      named = subst (λ (n : ℕ). has_number at.part.names.numbers n ≡ true) is.conn_is at.named;
      unused = at.seen_is ∙ none;
    };
  }
