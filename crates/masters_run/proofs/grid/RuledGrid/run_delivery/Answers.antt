use Rattle.std.proofs.Common.{◌∙◌, ◌++◌, Err, refl, ap, arith}
use Rattle.master_member.specs.Outcomes.{outcome_of}
use Rattle.masters_world.specs.Machine.{MasterDeliver}
use Rattle.script_lang.specs.declared.line.Line.TheVariants.{MasterDeliver as DeliverLine}
use Rattle.replay_run.specs.declared.run_end.RunEnd.TheVariants.{InFlight}
use Rattle.replay_run.specs.LineTold.{came_to}
use Rattle.replay_run.proofs.Asking.{handed_on}
use Rattle.masters_run.specs.Runs.{counted}
use Rattle.masters_run.proofs.LineParts.{may_count, few_lines, counted_amid, may_ask}
use Rattle.masters_run.proofs.OneAsked.{asked_ran, asked_up}
use Rattle.masters_run.proofs.grid.RuledGrid.run_delivery.Goals as goal

pub count-requires : goal.count-requires
count-requires g c = may_count c.args.self.now c.args.number (DeliverLine c.args.partition c.args.from c.args.to c.args.place) c.requires.may

pub hand_over-requires : goal.hand_over-requires
hand_over-requires g c =
    let all = c.args.self.now in
    let line = DeliverLine c.args.partition c.args.from c.args.to c.args.place in
    let may = c.requires.may in
    let placed = may.read.0 in
    let limit = few_lines all c.args.number line may may.run may.stands in
    may_ask all may.run may.stands limit c.count.new.self (c.requires.ruled may.settings may.run may.stands)
    (counted_amid all may.run may.stands c.count.new.self c.count.ensures.masters (c.count.ensures.amid may.settings may.run.run may.stands.grid)) c.args.partition (omega (arith, placed))

pub returns-in_err-took-clause-full : goal.returns-in_err-took-clause-full
returns-in_err-took-clause-full g c = λ settings s stands was.
    let all = c.args.self.now in
    let amid = counted_amid all s stands c.count.new.self c.count.ensures.masters (c.count.ensures.amid settings s.run stands.grid) in
    let why = handed_on c.from_residual.result c.in_err-took.field-0.0 InFlight c.from_residual.ensures.1 was in
    asked_up all s stands (c.requires.ruled settings s stands) (DeliverLine c.args.partition c.args.from c.args.to c.args.place) c.args.partition (MasterDeliver c.args.from c.args.to c.args.place) (record { after = λ k. refl; tells = λ k next. refl })
    (c.in_err-took.ensures.full settings (counted s) amid (ap Err why))

pub returns-clause-ok : goal.returns-clause-ok
returns-clause-ok g c = λ settings s stands.
    let all = c.args.self.now in
    let line = DeliverLine c.args.partition c.args.from c.args.to c.args.place in
    let may = c.requires.may in
    let placed = may.read.0 in
    let amid = counted_amid all s stands c.count.new.self c.count.ensures.masters (c.count.ensures.amid settings s.run stands.grid) in
    asked_ran all s stands (c.requires.ruled settings s stands) line c.args.partition (MasterDeliver c.args.from c.args.to c.args.place) (record { after = λ k. refl; tells = λ k next. refl })
    (few_lines all c.args.number line may s stands) (omega (arith, placed)) c.hand_over.new.self (outcome_of c.in_ok-took.took) c.new-followed.result.items c.hand_over.new.out.items (c.in_ok-took.ensures.ok settings (counted s) amid)
    c.args.out.now.items c.tell_with.new.out.items c.new-followed.ensures.items
    (c.in_ok-tell_with.ensures ∙ ap (λ x. c.args.out.now.items ++ came_to x ++ c.hand_over.new.out.items) c.of_message.ensures)
