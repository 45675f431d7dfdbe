-- A member takes a log that another one tells it, as whole steps.
use Rattle.std.proofs.Common.{◌≡◌, ℕ, true, false, ◌&&◌, ◌==◌, List, [], refl, ap, sym, ◌∙◌, subst}
use Rattle.std.specs.List.{list_all}
use Rattle.masters_protocol.specs.Members.{Member, Gathering, Store, Tell, Step, TellKept, quiet, with_role, with_tell, longest, peers, taking, tells_of, has_told, is_gathering, server}
use Rattle.master_wire.specs.declared.decision.Decision.{Decision}
use Rattle.master_wire.specs.Spelling.{spelling, IsSpelled}
use Rattle.master_member.specs.declared.taking.Taken.{Taken}
use Rattle.master_member.specs.Outcomes.{outcome_of}
use Rattle.master_member.specs.Steps.{HasStepped, HasTaken}
use Rattle.master_member.proofs.Sending.{each, none_written, single_none}
use Rattle.master_member.proofs.WholeSteps.{stepped_resting, stepped_serving}

-- a step that is taken, with the member, the messages and the word as the code has them
taken_so : (size m : ℕ) (step : Step Decision) (then new : Member Decision) (out : List (ℕ × List ℕ)) (taken : Taken) → HasStepped size m step then out → new ≡ then → taken.sent.items ≡ out → outcome_of taken.took ≡ step.outcome → HasTaken size m step new taken
taken_so size m step then new out taken stepped same wrote word = record {
  stepped = subst (λ (x : Member Decision). HasStepped size m step x taken.sent.items) (sym same) (subst (HasStepped size m step then) (sym wrote) stepped);
  took = word;
}

module _ (size m from : ℕ) (n : Member Decision) (t : ℕ) (l : List Decision) (gathers : (is_gathering n.role && (t == m)) ≡ true) where
  -- it keeps the log
  abbrev pub told : Member Decision
  told = with_role (Gathering (with_tell from l (tells_of n.role))) n

  -- the longest log then
  abbrev pub most : List Decision
  most = longest n.log (with_tell from l (tells_of n.role))

  kept : taking m from (Tell t l) n ≡ quiet told TellKept
  kept = rw gathers refl

  -- and not all have told
  pub tell_done : (new : Member Decision) (taken : Taken) → list_all (has_told (with_tell from l (tells_of n.role))) (peers size m n) ≡ false → new ≡ told → taken.sent.items ≡ [] → outcome_of taken.took ≡ TellKept → HasTaken size m (taking m from (Tell t l) n) new taken
  tell_done new taken more same none word =
      subst (λ (s : Step Decision). HasTaken size m s new taken) (sym kept) (taken_so size m (quiet told TellKept) told new [] taken (stepped_resting size m (quiet told TellKept) more told [] refl none_written (single_none size)) same none word)

  -- or it was the last one, and the member serves
  pub tell_ended : (then new : Member Decision) (taken : Taken) → list_all (has_told (with_tell from l (tells_of n.role))) (peers size m n) ≡ true → IsSpelled (Store m most) → then ≡ told → new ≡ server then
      → taken.sent.items ≡ each (spelling (Store m most)) (peers size m n) → outcome_of taken.took ≡ TellKept → HasTaken size m (taking m from (Tell t l) n) new taken
  tell_ended then new taken all good same is wrote word =
      subst (λ (s : Step Decision). HasTaken size m s new taken) (sym kept)
      (taken_so size m (quiet told TellKept) (server told) new (each (spelling (Store m most)) (peers size m n)) taken (stepped_serving size m told TellKept all good) (is ∙ ap (λ (x : Member Decision). server x) same) wrote word)
