use Rattle.std.proofs.Common.{Result, Ok, Err, ap}
use Rattle.std.specs.Prelude.{IfOk, IsErrAnd}
use Rattle.std.proofs.lemmas.Result.{IfOk-weaker}
use Rattle.replay_run.specs.declared.run_end.RunEnd.TheVariants.{InFlight}
use Rattle.replay_run.proofs.Asking.{handed_on}
use Rattle.script_run.specs.Runs.{ruled_of}
use Rattle.script_run.proofs.Playing.{may_run_as, has_told_as, given_up_as, may_play, is_grids, told_grids, given_up_grids}
use Rattle.script_run.proofs.Spoken.{are_spoken_as}
use Rattle.script_run.proofs.grid.ScriptGrid.run_line.Goals as goal

pub begin_near-requires : goal.begin_near-requires
begin_near-requires g c = may_run_as c.in-Near.is c.requires

pub returns-in-Near-clause-ok : goal.returns-in-Near-clause-ok
returns-in-Near-clause-ok g c = λ settings s stands. IfOk-weaker c.begin_near.result _ _ (λ it. has_told_as c.in-Near.is) (c.begin_near.ensures.ok settings s stands)

pub returns-in-Near-clause-full : goal.returns-in-Near-clause-full
returns-in-Near-clause-full g c = λ settings s stands full. given_up_as c.in-Near.is (c.begin_near.ensures.full settings s stands full)

pub look_up-requires : goal.look_up-requires
look_up-requires g c = may_run_as c.in-NearGet.is c.requires

pub returns-in-NearGet-clause-ok : goal.returns-in-NearGet-clause-ok
returns-in-NearGet-clause-ok g c = λ settings s stands. IfOk-weaker c.look_up.result _ _ (λ it. has_told_as c.in-NearGet.is) (c.look_up.ensures.ok settings s stands)

pub returns-in-NearGet-clause-full : goal.returns-in-NearGet-clause-full
returns-in-NearGet-clause-full g c = λ settings s stands full. given_up_as c.in-NearGet.is (c.look_up.ensures.full settings s stands full)

pub feed-requires : goal.feed-requires
feed-requires g c = may_run_as c.in-NearFeed.is c.requires

pub returns-in_ok-feed-in-NearFeed-clause-ok : goal.returns-in_ok-feed-in-NearFeed-clause-ok
returns-in_ok-feed-in-NearFeed-clause-ok g c = λ settings s stands. has_told_as c.in-NearFeed.is (c.in_ok-feed-in-NearFeed.ensures settings s stands)

pub arrive-requires : goal.arrive-requires
arrive-requires g c = (c.in-Arrive.bytes, c.in-Arrive.is, c.requires)

pub returns-in-Arrive-clause-ok : goal.returns-in-Arrive-clause-ok
returns-in-Arrive-clause-ok g c = λ settings s stands. c.arrive.ensures.ok settings s c.in-Arrive.bytes c.in-Arrive.is stands

pub returns-in-Arrive-clause-full : goal.returns-in-Arrive-clause-full
returns-in-Arrive-clause-full g c = λ settings s stands full. c.arrive.ensures.full settings s c.in-Arrive.bytes c.in-Arrive.is stands full

pub run_on_grid-requires : goal.run_on_grid-requires
run_on_grid-requires g c = may_play c.requires

pub returns-in_ok-ready-in_default : goal.returns-in_ok-ready-in_default
returns-in_ok-ready-in_default g c = record {
  ok = λ settings s stands.
      (let line = c.args.line.now in
      let grids = is_grids settings s line c.in_default.not-Near c.in_default.not-NearGet c.in_default.not-NearFeed c.in_default.not-Arrive in
      let ran = c.in_ok-ready-in_default.ensures.ok settings s stands.goes in
      told_grids c.run_on_grid.new.self s line grids c.in_ok-ready-in_default.ready _ c.by_grid.ensures ran
      (are_spoken_as settings ran.skips (ruled_of s) c.args.self.now.spoken c.run_on_grid.new.self.spoken line c.in_default.not-Arrive c.run_on_grid.ensures.spoken stands.spoken));
  full = λ settings s stands was. absurd cc;
}

-- Of an error nothing is asked.
of_error : {X E : Type 0} (Q : E → Type 0) (r : Result X E) (P : X → Type 0) → IsErrAnd r Q → IfOk r P
of_error Q (Ok x) P h = absurd h
of_error Q (Err e) P h = tt

pub returns-in_err-ready-in_default : goal.returns-in_err-ready-in_default
returns-in_err-ready-in_default g c = record {
  ok = λ settings s stands. of_error _ c.from_residual-in_err-ready-in_default.result _ c.from_residual-in_err-ready-in_default.ensures.1;
  full = λ settings s stands was.
      (let line = c.args.line.now in
      let grids = is_grids settings s line c.in_default.not-Near c.in_default.not-NearGet c.in_default.not-NearFeed c.in_default.not-Arrive in
      let why = handed_on c.from_residual-in_err-ready-in_default.result c.in_err-ready-in_default.field-0.0 InFlight c.from_residual-in_err-ready-in_default.ensures.1 was in
      given_up_grids s line grids (c.in_err-ready-in_default.ensures.full settings s stands.goes (ap Err why)));
}
