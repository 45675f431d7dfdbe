use Rattle.std.proofs.Common.{None, sym, ◌∙◌}
use Rattle.call_engine.specs.Objects.{partition_object}
use Rattle.script_run.specs.Runs.{may_look}
use Rattle.script_run.specs.Grids.{place_in}
use Rattle.script_run.proofs.Playing.{if_true, if_false}
use Rattle.script_run.proofs.grid.ScriptGrid.place_asked.Goals as goal

pub may_look-requires : goal.may_look-requires
may_look-requires g c = c.requires

pub returns-then-not-may_look : goal.returns-then-not-may_look
returns-then-not-may_look g c = λ settings s stands.
    sym (if_false (may_look (partition_object settings) s c.args.conn c.args.key.now) (place_in c.args.self.now c.args.conn) None (sym (c.may_look.ensures settings s stands) ∙ c.if-not-may_look.true))

pub returns : goal.returns
returns g c = λ settings s stands.
    c.place_of.ensures
    ∙ sym (if_true (may_look (partition_object settings) s c.args.conn c.args.key.now) (place_in c.args.self.now c.args.conn) None (sym (c.may_look.ensures settings s stands) ∙ c.if-not-may_look.false))
