use Rattle.script_run.proofs.Playing.{next_number}
use Rattle.script_run.proofs.ToldTexts.{printed_line}
use Rattle.script_run.proofs.grid.ScriptGrid.print_line.Goals as goal

pub returns-clause-ok : goal.returns-clause-ok
returns-clause-ok g c = λ settings s stands.
    printed_line c.run_line.new.self s c.args.line.now c.args.number c.in_ok-told.told c.args.out.now.items c.push_script_told.new.out.items (next_number c.args.self.now c.args.number c.args.line.now c.requires s stands)
    c.in_ok-push_script_told.ensures (c.in_ok-told.ensures.ok settings s stands)
