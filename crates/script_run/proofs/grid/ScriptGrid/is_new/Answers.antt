use Rattle.std.proofs.Common.{sym, ◌∙◌, arith}
use Rattle.replay_run.specs.Runs.{connection_of}
use Rattle.script_run.specs.Runs.{ruled_of}
use Rattle.script_run.proofs.Spoken.{spoken_within, is_read, new_if, not_new}
use Rattle.script_run.proofs.grid.ScriptGrid.is_new.Goals as goal

pub index-requires : goal.index-requires
index-requires g c =
    let within = spoken_within c.args.self.now.spoken.items c.requires.1.run c.args.conn c.requires.2.spoken c.requires.3 in
    omega (arith, within, c.args.self.now.spoken.ok.0)

pub returns-then-is_open : goal.returns-then-is_open
returns-then-is_open g c = λ settings s stands.
    new_if (connection_of s.run c.args.conn) c.index.result.now (sym (c.is_open.ensures settings (ruled_of s) stands.goes.grid) ∙ c.if-is_open.true)
    (is_read c.args.self.now.spoken.items s.run c.args.conn c.index.result.now stands.spoken c.requires.3 c.index.ensures)

pub returns-else-is_open : goal.returns-else-is_open
returns-else-is_open g c = λ settings s stands.
    c.if-is_open.false ∙ not_new (connection_of s.run c.args.conn) (sym (c.is_open.ensures settings (ruled_of s) stands.goes.grid) ∙ c.if-is_open.false)
