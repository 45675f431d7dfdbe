use Rattle.std.proofs.Common.{refl, sym, ◌∙◌, arith}
use Rattle.partition_protocol.specs.Events.{Detect}
use Rattle.masters_world.specs.Machine.{Asks}
use Rattle.masters_run.proofs.MastersAsked.{are_there}
use Rattle.masters_run.proofs.Quietly.{quiet_follows, detection_proposes, untold_asks_nothing}
use Rattle.masters_run.proofs.grid.RuledGrid.detect.Goals as goal

pub propose-requires : goal.propose-requires
propose-requires g c =
    let may = c.requires in
    record { may = may; event = Detect c.args.member; proposes = detection_proposes may.settings may.run c.args.partition c.args.member (sym (c.is_told.ensures may.settings may.run may.amid) ∙ c.if-is_told.true) }

pub returns-in_ok-propose-clause-ok : goal.returns-in_ok-propose-clause-ok
returns-in_ok-propose-clause-ok g c = λ settings s amid.
    (c.in_ok-propose.ensures.ok settings s (Detect c.args.member) amid (detection_proposes settings s c.args.partition c.args.member (sym (c.is_told.ensures settings s amid) ∙ c.if-is_told.true))).on

pub returns-else-is_told-clause-ok : goal.returns-else-is_told-clause-ok
returns-else-is_told-clause-ok g c = λ settings s amid.
    let there = are_there _ c.args.self.now c.args.partition c.requires settings s amid in
    let low = there.placed in
    let whole = there.whole in
    quiet_follows _ settings c.args.self.now s c.args.partition (Asks (Detect c.args.member)) amid (omega (arith, low, whole))
    (untold_asks_nothing settings s c.args.partition c.args.member (sym (c.is_told.ensures settings s amid) ∙ c.if-is_told.false)) refl c.args.out.now.items
