use Rattle.std.proofs.Common.{sym, ◌∙◌, arith}
use Rattle.call_engine.specs.Objects.{partition_object}
use Rattle.script_run.specs.Runs.{ruled_of}
use Rattle.script_run.proofs.Spoken.{takes_is, spoken_within, are_spoken_taking, are_spoken_refusing}
use Rattle.script_run.proofs.grid.ScriptGrid.mark_spoken.Goals as goal

pub takes_bytes-requires : goal.takes_bytes-requires
takes_bytes-requires g c = (c.requires.0, ruled_of c.requires.1, c.requires.2.goes.grid)

pub index_mut-requires : goal.index_mut-requires
index_mut-requires g c =
    let within = spoken_within c.args.self.now.spoken.items c.requires.1.run c.args.conn c.requires.2.spoken c.requires.3 in
    omega (arith, within, c.args.self.now.spoken.ok.0)

pub returns-then-not-takes_bytes-clause-spoken : goal.returns-then-not-takes_bytes-clause-spoken
returns-then-not-takes_bytes-clause-spoken g c = λ settings s bytes skips stands some.
    are_spoken_refusing (partition_object settings) skips (ruled_of s) c.args.self.now.spoken.items c.args.conn bytes some
    (sym (takes_is settings s.run c.args.conn) ∙ sym (c.takes_bytes.ensures settings (ruled_of s) stands.goes.grid) ∙ c.if-not-takes_bytes.true) stands.spoken

pub returns-clause-spoken : goal.returns-clause-spoken
returns-clause-spoken g c = λ settings s bytes skips stands some.
    are_spoken_taking (partition_object settings) skips (ruled_of s) c.args.self.now.spoken.items c.args.conn bytes some
    (sym (takes_is settings s.run c.args.conn) ∙ sym (c.takes_bytes.ensures settings (ruled_of s) stands.goes.grid) ∙ c.if-not-takes_bytes.false) stands.spoken
