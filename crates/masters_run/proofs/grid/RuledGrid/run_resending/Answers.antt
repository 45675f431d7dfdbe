use Rattle.std.proofs.Common.{[], ◌++◌, Err, refl, ap, sym, ◌∙◌, append-nil, arith}
use Rattle.master_log.specs.Outcomes.{done_if}
use Rattle.masters_world.specs.Machine.{MasterResend}
use Rattle.script_lang.specs.declared.line.Line.TheVariants.{MasterResend as ResendLine}
use Rattle.replay_run.specs.declared.run_end.RunEnd.TheVariants.{InFlight}
use Rattle.replay_run.proofs.Asking.{handed_on}
use Rattle.line_told.specs.Happenings.{master_told}
use Rattle.replay_run.specs.LineTold.{came_to}
use Rattle.masters_run.specs.Runs.{counted}
use Rattle.masters_run.proofs.LineParts.{may_count, few_lines, counted_amid, may_ask}
use Rattle.masters_run.proofs.OneAsked.{asked_ran, asked_up}
use Rattle.masters_run.proofs.grid.RuledGrid.run_resending.Goals as goal

pub count-requires : goal.count-requires
count-requires g c = may_count c.args.self.now c.args.number (ResendLine c.args.partition c.args.member) c.requires.may

pub resend-requires : goal.resend-requires
resend-requires g c =
    let all = c.args.self.now in
    let line = ResendLine c.args.partition c.args.member in
    let may = c.requires.may in
    let placed = may.read.0 in
    let limit = few_lines all c.args.number line may may.run may.stands in
    may_ask all may.run may.stands limit c.count.new.self (c.requires.ruled may.settings may.run may.stands)
    (counted_amid all may.run may.stands c.count.new.self c.count.ensures.masters (c.count.ensures.amid may.settings may.run.run may.stands.grid)) c.args.partition (omega (arith, placed))

pub returns-in_err-done-clause-full : goal.returns-in_err-done-clause-full
returns-in_err-done-clause-full g c = λ settings s stands was.
    let all = c.args.self.now in
    let amid = counted_amid all s stands c.count.new.self c.count.ensures.masters (c.count.ensures.amid settings s.run stands.grid) in
    let why = handed_on c.from_residual.result c.in_err-done.field-0.0 InFlight c.from_residual.ensures.1 was in
    asked_up all s stands (c.requires.ruled settings s stands) (ResendLine c.args.partition c.args.member) c.args.partition (MasterResend c.args.member) (record { after = λ k. refl; tells = λ k next. refl })
    (c.in_err-done.ensures.full settings (counted s) amid (ap Err why))

pub returns-clause-ok : goal.returns-clause-ok
returns-clause-ok g c = λ settings s stands.
    let all = c.args.self.now in
    let line = ResendLine c.args.partition c.args.member in
    let may = c.requires.may in
    let placed = may.read.0 in
    let amid = counted_amid all s stands c.count.new.self c.count.ensures.masters (c.count.ensures.amid settings s.run stands.grid) in
    asked_ran all s stands (c.requires.ruled settings s stands) line c.args.partition (MasterResend c.args.member) (record { after = λ k. refl; tells = λ k next. refl })
    (few_lines all c.args.number line may s stands) (omega (arith, placed)) c.resend.new.self (done_if c.in_ok-done.done) [] [] (c.in_ok-done.ensures.ok settings (counted s) amid)
    c.args.out.now.items c.tell_outcome.new.out.items refl
    (c.in_ok-tell_outcome.ensures ∙ ap (λ x. c.args.out.now.items ++ came_to x) c.done_outcome.ensures ∙ sym (append-nil (c.args.out.now.items ++ came_to (master_told (done_if c.in_ok-done.done)))))
