use Rattle.std.proofs.Common.{◌∙◌, ◌++◌, List, refl, ap, sym, inl, inr, w64, rules}
use mir.Val.{SFits}
use Rattle.std.proofs.lemmas.Int.{to_z-of_z}
use Rattle.replay_run.specs.Runs.{Appended, refused_by}
use Rattle.replay_run.specs.Tallies.{received}
use Rattle.replay_run.specs.WorldCalls.{arrival_to}
use Rattle.replay_run.proofs.Asking.{call_comes}
use Rattle.replay_run.proofs.calls.call.Goals as goal
use Rattle.replay_run.specs.LineTold.{all_told}

-- The call may come next.
pub step-requires : goal.step-requires
step-requires g c = (
  c.requires.stands.0,
  call_comes _ c.args.world.now c.requires.stands.0 (arrival_to c.args.at.line c.args.at.member c.args.at.now c.args.request) c.requires.stands.1 c.requires.room (c.requires.limits, c.numbers_fit.ensures) c.requires.stands.2,
)

-- The call was run, or refused, as one event of its world.
pub returns-in_ok-tell_refusal-in-Ok : goal.returns-in_ok-tell_refusal-in-Ok
returns-in_ok-tell_refusal-in-Ok g c =
    let fits : SFits w64 c.args.request.correlation = search rules in
    λ events s once.
    let comes = call_comes _ c.args.world.now events (arrival_to c.args.at.line c.args.at.member c.args.at.now c.args.request) s c.requires.room (c.requires.limits, c.numbers_fit.ensures) once in (
      _,
      c.in_ok-tell_refusal-in-Ok.ensures c.args.request refl (sym (to_z-of_z w64 c.args.request.correlation fits))
          ∙ ap (λ (ms : List Appended). c.args.out.now.items ++ all_told ms) (c.refusal_of-refusal.ensures c.args.at.line c.args.request ∙ ap (refused_by c.args.at.line c.args.request) (c.in-Ok.ensures.outcome events comes)),
      inl (record {
        called = record { stands = c.in-Ok.ensures.stands events comes; setup = c.in-Ok.ensures.setup; waiting = c.in-Ok.ensures.waiting events comes; told = refl };
        so = c.reception_of.ensures c.args.at.line c.args.request ∙ ap received (c.refusal_of-refusal.ensures c.args.at.line c.args.request ∙ ap (refused_by c.args.at.line c.args.request) (c.in-Ok.ensures.outcome events comes));
      }),
    )

-- The call found no memory.
pub returns-in_ok-tell_refusal-in-Err : goal.returns-in_ok-tell_refusal-in-Err
returns-in_ok-tell_refusal-in-Err g c =
    let fits : SFits w64 c.args.request.correlation = search rules in
    λ events s once.
    let comes = call_comes _ c.args.world.now events (arrival_to c.args.at.line c.args.at.member c.args.at.now c.args.request) s c.requires.room (c.requires.limits, c.numbers_fit.ensures) once in (
      _,
      c.in_ok-tell_refusal-in-Err.ensures c.args.request refl (sym (to_z-of_z w64 c.args.request.correlation fits)),
      inr (record {
        skipped = record { stands = c.in-Err.ensures.err events comes; setup = c.in-Err.ensures.setup; waiting = c.in-Err.ensures.err_waiting; told = refl };
        so = refl;
      }),
    )
