use Rattle.std.proofs.Common.{Some, arith}
use Rattle.script_run.specs.declared.told.NearOutcome.TheVariants as near
use Rattle.script_run.proofs.NearLines.{has_missed, some_told}
use Rattle.script_run.proofs.grid.ScriptGrid.miss.Goals as goal

pub remove-requires : goal.remove-requires
remove-requires g c =
    let some = some_told (c.in_ok-grid.ensures.ok c.requires.settings c.requires.run c.requires.stands) in
    omega (arith, some, c.in_ok-grid.grid.told.ok.0)

pub returns-clause-ok : goal.returns-clause-ok
returns-clause-ok g c = λ settings s stands.
    has_missed c.send.new.self s c.args.conn c.args.get c.in_ok-grid.grid (c.in_ok-grid.ensures.ok settings s stands) _
    (λ i. record { near = Some near.Miss; heard = c.new.ensures.items i; grid = c.remove.ensures.items i; printed = c.in_ok-grid.grid.printed.items })
