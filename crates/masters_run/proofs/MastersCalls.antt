-- A call of the masters runs the event that a line asks of them: they stand for one line more, and answer as the masters of the run.
use Rattle.std.proofs.Common.{◌≡◌, ℕ, List, [], ◌∷◌, ◌++◌, map, refl, ap, sym, ◌∙◌, subst, append-nil}
use Rattle.std.proofs.lemmas.List.{map-append}
use Rattle.grid_base.specs.Objects.{Object}
use Rattle.partition_protocol.specs.Events.{Event, Call, Deliver, Lose, Repeat, Resend, Crash, Detect, BeginMove, BeginJoin, BeginHandover, Advance, Reopen}
use Rattle.masters_protocol.specs.Members.{Outcome}
use Rattle.masters_protocol.specs.Machine as masters
use Rattle.masters_protocol.specs.Machine.{Masters as Machine, Happened, happens}
use Rattle.masters_world.specs.Decisions.{Decision}
use Rattle.masters_world.specs.Machine.{Ruled, Line, Asks, start, proposals, asked_by, masters_say, after, asked}
use Rattle.master_wire.specs.declared.decision.Decision.{Decision as Written}
use Rattle.master_log.specs.declared.masters.Masters.{Masters}
use Rattle.master_log.specs.Standing.{StandsFor, HasRun, IsKept}
use Rattle.masters_run.specs.Written.{as_written, written_event, written_events}
use Rattle.masters_run.proofs.Natural.{masters_by, happened_by, happens_same}
use Rattle.masters_run.proofs.WrittenMasters.{written_so}
use Rattle.masters_run.proofs.AskedLines.{asked_more}
use Rattle.masters_run.proofs.KeptMasters.{asked_in_code, StandForLines, machine_is}

-- The masters were asked what this line asks, and answered so.
pub record HasAnswered {C State : Type 0} (o : Object C State) (p n b : ℕ) (lines : List (Line C)) (l : Line C) (new : Masters) (answer : Outcome) : Type 0 where
  pub stand : StandForLines o p n b (lines ++ l ∷ []) new
  pub outcome : let j = after o (start p n b) lines in masters_say j.masters (asked_by j l) ≡ answer ∷ []

-- what a line more asks, as the code keeps it
asked_next : {C State : Type 0} (o : Object C State) (p n b : ℕ) (lines : List (Line C)) (l : Line C) (es : List (masters.Event Decision)) → asked_by (after o (start p n b) lines) l ≡ es
    → asked_in_code o p n b lines ++ written_events es ≡ asked_in_code o p n b (lines ++ l ∷ [])
asked_next o p n b lines l es by =
    sym (map-append written_event (asked o (start p n b) lines) es)
    ∙ ap written_events (ap (λ xs. asked o (start p n b) lines ++ xs) (sym by) ∙ sym (asked_more o (start p n b) lines l))

module _ {C State : Type 0} (o : Object C State) (p n b : ℕ) (lines : List (Line C)) (kept new : Masters) (k : StandForLines o p n b lines kept) (l : Line C) where
  -- One event was asked, and it has run.
  pub answered_so : (e : masters.Event Decision) (answer : Outcome) → asked_by (after o (start p n b) lines) l ≡ e ∷ [] → HasRun kept new (asked_in_code o p n b lines) (written_event e) answer → HasAnswered o p n b lines l new answer
  answered_so e answer by ran =
      let w : Machine Decision = (after o (start p n b) lines).masters in
      let same : happens (masters_by as_written w) (written_event e) ≡ happened_by as_written (happens w e) = ap (happens (masters_by as_written w)) (written_so e) ∙ happens_same as_written w e in
      let came : answer ≡ (happens w e).outcome = ran.outcome ∙ ap (λ (v : Machine Written). (happens v (written_event e)).outcome) (machine_is o p n b lines kept k) ∙ ap (λ (h : Happened Written). h.outcome) same in
      record {
        stand = record { size = ran.size ∙ k.size; stands = subst (StandsFor new) (asked_next o p n b lines l (e ∷ []) by) ran.stands };
        outcome = ap (masters_say w) by ∙ ap (λ x. x ∷ []) (sym came);
      }

  -- Nothing was asked.
  pub asked_nothing : asked_by (after o (start p n b) lines) l ≡ [] → StandForLines o p n b (lines ++ l ∷ []) kept
  asked_nothing by = record { size = k.size; stands = subst (StandsFor kept) (sym (append-nil (asked_in_code o p n b lines)) ∙ asked_next o p n b lines l [] by) k.stands }

-- Want of memory, or a refusal, leaves them as they were.
pub kept_so : {C State : Type 0} (o : Object C State) (p n b : ℕ) (lines : List (Line C)) (kept new : Masters) → StandForLines o p n b lines kept → IsKept kept new (asked_in_code o p n b lines) → StandForLines o p n b lines new
kept_so o p n b lines kept new k is = record { size = is.size ∙ k.size; stands = is.stands }

-- a proposal

-- the one decision that this event proposes, as the code keeps it
pub record ProposesOne {C : Type 0} (j : Ruled C) (e : Event C) (kept : Written) : Type 0 where
  pub decision : Decision
  pub is : kept ≡ as_written decision
  pub one : proposals j e ≡ decision ∷ []
  pub asked : asked_by j (Asks e) ≡ masters.Propose decision ∷ []

only_one : (ds : List Decision) (kept : Written) → map as_written ds ≡ kept ∷ [] → (d : Decision) × (kept ≡ as_written d) × (ds ≡ d ∷ [])
only_one [] kept e = absurd cc
only_one (d ∷ []) kept e = (d, cc, refl)
only_one (d ∷ c ∷ ds) kept e = absurd cc

pub proposes_one : {C : Type 0} (j : Ruled C) (e : Event C) (kept : Written) → map as_written (proposals j e) ≡ kept ∷ [] → ProposesOne j e kept
proposes_one {C} j e kept by =
    let h = only_one (proposals j e) kept by in
    record { decision = h.0; is = h.1; one = h.2; asked = asked_so e h.2 }
  where
    asked_so : (x : Event C) → proposals j x ≡ (only_one (proposals j e) kept by).0 ∷ [] → asked_by j (Asks x) ≡ masters.Propose (only_one (proposals j e) kept by).0 ∷ []
    asked_so (Crash m) one = absurd cc
    asked_so (Call m conn number call now) one = absurd cc
    asked_so (Lose f t i) one = absurd cc
    asked_so (Repeat f t i) one = absurd cc
    asked_so (Resend end) one = absurd cc
    asked_so (Deliver f t i) one = ap (map (λ d. masters.Propose d)) one
    asked_so (Detect m) one = ap (map (λ d. masters.Propose d)) one
    asked_so (BeginMove f t) one = ap (map (λ d. masters.Propose d)) one
    asked_so (BeginJoin m) one = ap (map (λ d. masters.Propose d)) one
    asked_so (BeginHandover f t) one = ap (map (λ d. masters.Propose d)) one
    asked_so Advance one = ap (map (λ d. masters.Propose d)) one
    asked_so Reopen one = ap (map (λ d. masters.Propose d)) one

module _ {C State : Type 0} (o : Object C State) (p n b : ℕ) (lines : List (Line C)) (kept new : Masters) (k : StandForLines o p n b lines kept) where
  pub proposed_so : (e : Event C) (decision : Written) (answer : Outcome) → map as_written (proposals (after o (start p n b) lines) e) ≡ decision ∷ []
      → HasRun kept new (asked_in_code o p n b lines) (masters.Propose decision) answer → HasAnswered o p n b lines (Asks e) new answer
  proposed_so e decision answer by ran =
      let h = proposes_one (after o (start p n b) lines) e decision by in
      answered_so o p n b lines kept new k (Asks e) (masters.Propose h.decision) answer h.asked (subst (λ d. HasRun kept new (asked_in_code o p n b lines) (masters.Propose d) answer) h.is ran)
