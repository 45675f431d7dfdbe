-- What an event of a partition proposes.
use Rattle.std.proofs.Common.{◌≡◌, Bool, true, false, not, ◌&&◌, ◌==◌, cond, List, [], ◌∷◌, map, slice_get, refl, ap, sym, ◌∙◌}
use Rattle.grid_base.specs.declared.calls.Request.{Request}
use Rattle.partition_protocol.specs.Events.{Event, Call, Deliver, Lose, Repeat, Resend, Crash, Detect, BeginMove, BeginJoin, BeginHandover, Advance, Reopen}
use Rattle.partition_protocol.specs.Links.{link}
use Rattle.masters_protocol.specs.Machine as masters
use Rattle.masters_protocol.specs.Machine.{pending}
use Rattle.masters_world.specs.Decisions.{Decision}
use Rattle.masters_world.specs.Machine.{Ruled, Asks, asked_by, at_once, proposals, taking}
use Rattle.master_wire.specs.declared.decision.Decision.{Decision as Written}
use Rattle.masters_run.specs.Written.{as_written}

-- What an event proposes is asked, and then nothing happens at once.

pub record IsProposed (j : Ruled Request) (e : Event Request) (d : Decision) : Type 0 where
  pub asked : asked_by j (Asks e) ≡ masters.Propose d ∷ []
  pub later : at_once j (Asks e) ≡ []

nothing_put : {X : Type 0} {x : X} → [] ≡ x ∷ [] → ⊥
nothing_put e = absurd cc

pub is_proposed : (j : Ruled Request) (e : Event Request) (d : Decision) → proposals j e ≡ d ∷ [] → IsProposed j e d
is_proposed j (Call m conn number call now) d is = absurd (nothing_put is)
is_proposed j (Deliver f t i) d is = go (t == j.world.members) refl
  where
    go : (b : Bool) → (t == j.world.members) ≡ b → IsProposed j (Deliver f t i) d
    go true at = record { asked = ap (λ ds. map (λ x. masters.Propose x) ds) is; later = ap (λ b. cond b [] (Deliver f t i ∷ [])) at }
    go false at = absurd (nothing_put (sym (ap (λ b. cond (b && not (pending j.masters)) (taking f i (slice_get (link f t j.world.packets) i)) []) at) ∙ is))
is_proposed j (Lose f t i) d is = absurd (nothing_put is)
is_proposed j (Repeat f t i) d is = absurd (nothing_put is)
is_proposed j (Resend end) d is = absurd (nothing_put is)
is_proposed j (Crash m) d is = absurd (nothing_put is)
is_proposed j (Detect m) d is = record { asked = ap (λ ds. map (λ x. masters.Propose x) ds) is; later = refl }
is_proposed j (BeginMove a b) d is = record { asked = ap (λ ds. map (λ x. masters.Propose x) ds) is; later = refl }
is_proposed j (BeginJoin a) d is = record { asked = ap (λ ds. map (λ x. masters.Propose x) ds) is; later = refl }
is_proposed j (BeginHandover a b) d is = record { asked = ap (λ ds. map (λ x. masters.Propose x) ds) is; later = refl }
is_proposed j Advance d is = record { asked = ap (λ ds. map (λ x. masters.Propose x) ds) is; later = refl }
is_proposed j Reopen d is = record { asked = ap (λ ds. map (λ x. masters.Propose x) ds) is; later = refl }

-- of a list that is written as one decision
pub record IsWrittenAs (ds : List Decision) (kept : Written) : Type 0 where
  pub decision : Decision
  pub one : ds ≡ decision ∷ []
  pub so : as_written decision ≡ kept

pub one_written : (ds : List Decision) (kept : Written) → map as_written ds ≡ kept ∷ [] → IsWrittenAs ds kept
one_written [] kept is = absurd (nothing_put is)
one_written (d ∷ []) kept is = record { decision = d; one = refl; so = cc }
one_written (d ∷ c ∷ ds) kept is = absurd cc
