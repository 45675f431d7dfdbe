use Rattle.std.proofs.Common.{Err, is_some, ap, sym, ◌∙◌}
use Rattle.replay_run.specs.declared.run_end.RunEnd.TheVariants.{InFlight}
use Rattle.replay_run.proofs.Asking.{handed_on}
use Rattle.script_run.proofs.Nears.{near_here, not_near_here}
use Rattle.script_run.proofs.Playing.{may_run_as, may_count, may_play, may_play_as, goes_as, told_bytes, given_up_bytes, told_refused}
use Rattle.script_run.proofs.grid.ScriptGrid.arrive.Goals as goal

pub pass-requires : goal.pass-requires
pass-requires g c = may_count c.requires.2

pub returns-then-is_some-clause-ok : goal.returns-then-is_some-clause-ok
returns-then-is_some-clause-ok g c = λ settings s bytes is stands.
    let all = c.args.self.now in
    let near = near_here c.args.conn all.nears.items s.nears stands.goes.nears (sym (c.is_some.ensures ∙ ap is_some c.place_of.ensures) ∙ c.if-is_some.true) in
    told_refused c.pass.new.self all s c.args.line.now c.args.conn bytes is stands near c.pass.ensures.spoken (c.pass.ensures.goes settings s stands.goes) _ c.in_ok-pass.ensures.told

pub mark_spoken-requires : goal.mark_spoken-requires
mark_spoken-requires g c = (c.requires.2.settings, c.requires.2.run, c.requires.2.stands, (may_run_as c.requires.1 c.requires.2).read.0)

pub run_on_grid-requires : goal.run_on_grid-requires
run_on_grid-requires g c = may_play_as c.mark_spoken.ensures.rest (may_play c.requires.2)

pub returns-clause-ok : goal.returns-clause-ok
returns-clause-ok g c = λ settings s bytes is stands.
    let all = c.args.self.now in
    let free = not_near_here c.args.conn all.nears.items s.nears stands.goes.nears (sym (c.is_some.ensures ∙ ap is_some c.place_of.ensures) ∙ c.if-is_some.false) in
    let some = (may_run_as is c.requires.2).read.1 in
    told_bytes c.run_on_grid.new.self c.mark_spoken.new.self s c.args.line.now c.args.conn bytes is free (λ skips. c.mark_spoken.ensures.spoken settings s bytes skips stands some) c.run_on_grid.ensures.spoken
    c.in_ok-ready.ready _ c.by_grid.ensures (c.in_ok-ready.ensures.ok settings s (goes_as c.mark_spoken.ensures.rest stands.goes))

pub returns-in_err-ready-clause-full : goal.returns-in_err-ready-clause-full
returns-in_err-ready-clause-full g c = λ settings s bytes is stands was.
    let all = c.args.self.now in
    let free = not_near_here c.args.conn all.nears.items s.nears stands.goes.nears (sym (c.is_some.ensures ∙ ap is_some c.place_of.ensures) ∙ c.if-is_some.false) in
    let why = handed_on c.from_residual-in_err-ready.result c.in_err-ready.field-0.0 InFlight c.from_residual-in_err-ready.ensures.1 was in
    given_up_bytes s c.args.line.now c.args.conn bytes is free (c.in_err-ready.ensures.full settings s (goes_as c.mark_spoken.ensures.rest stands.goes) (ap Err why))
