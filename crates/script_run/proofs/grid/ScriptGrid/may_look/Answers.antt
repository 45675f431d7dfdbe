use Rattle.std.proofs.Common.{◌∙◌}
use Rattle.call_engine.specs.Objects.{partition_object}
use Rattle.script_run.specs.Runs.{ruled_of}
use Rattle.script_run.proofs.LookUps.{looks_if}
use Rattle.script_run.proofs.Spoken.{takes_is}
use Rattle.script_run.proofs.grid.ScriptGrid.may_look.Goals as goal

pub returns-then-len-ge-SHORTEST_KEY : goal.returns-then-len-ge-SHORTEST_KEY
returns-then-len-ge-SHORTEST_KEY g c = λ settings s stands.
    looks_if (partition_object settings) s c.args.conn c.args.key.now c.len.result c.takes_bytes.result c.len.ensures c.if-len-ge-SHORTEST_KEY.true
    (c.takes_bytes.ensures settings (ruled_of s) stands.goes.grid ∙ takes_is settings s.run c.args.conn)
