use Rattle.std.proofs.Common.{◌≡◌, Err, refl, ap, arith}
use Rattle.grid_base.specs.declared.calls.Request.{Request}
use Rattle.partition_protocol.specs.Events.{Detect}
use Rattle.masters_world.specs.Machine.{Line, Asks}
use Rattle.script_lang.specs.declared.line.Line.TheVariants.{Detect as DetectLine}
use Rattle.replay_run.specs.Runs.{partitions}
use Rattle.line_told.specs.declared.told.LineOutcome.TheVariants.{Ran}
use Rattle.replay_run.specs.LineTold.{came_to}
use Rattle.replay_run.specs.declared.run_end.RunEnd.TheVariants.{InFlight, Memory}
use Rattle.replay_run.proofs.Asking.{handed_on}
use Rattle.masters_run.specs.Runs.{counted}
use Rattle.masters_run.proofs.EachPartition.{at_last, may_ask_next, up_next, in_all_ran_on}
use Rattle.masters_run.proofs.LineParts.{few_lines, counted_amid}
use Rattle.masters_run.proofs.Loops.{going_in, gone_in_none, gone_in_more}
use Rattle.masters_run.proofs.grid.RuledGrid.run_detection.Goals as goal

pub returns-in_err-tell_outcome-clause-full : goal.returns-in_err-tell_outcome-clause-full
returns-in_err-tell_outcome-clause-full g c = λ settings s stands was.
    let clash : Memory ≡ InFlight = handed_on c.from_residual.result Memory InFlight c.from_residual.ensures.1 was in
    absurd cc

pub loop-partition-init : goal.loop-partition-init
loop-partition-init g c = λ settings s stands.
    gone_in_none c.count.new.self (counted s) (Asks (Detect c.args.member)) c.tell_outcome.new.out.items
    (counted_amid c.args.self.now s stands c.count.new.self c.count.ensures.masters (c.count.ensures.amid settings s.run stands.grid))

pub detect-requires : goal.detect-requires
detect-requires g c =
    let may = c.requires.may in
    let low = c.loop-partition-test.true in
    may_ask_next c.args.self.now may.run may.stands (c.requires.ruled may.settings may.run may.stands) (Asks (Detect c.args.member)) c.loop-partition.self c.loop-partition.partition (omega (arith, low))
    c.tell_outcome.new.out.items c.loop-partition.out.items (c.loop-partition.invariant may.settings may.run may.stands) (few_lines c.args.self.now c.args.number (DetectLine c.args.member) may may.run may.stands)

pub returns-in_err-detect-clause-full : goal.returns-in_err-detect-clause-full
returns-in_err-detect-clause-full g c = λ settings s stands was.
    let low = c.loop-partition-test.true in
    let a = c.loop-partition.invariant settings s stands in
    let l = Asks (Detect c.args.member) in
    let why = handed_on c.from_residual-in_err-detect.result c.in_err-detect.field-0.0 InFlight c.from_residual-in_err-detect.ensures.1 was in
    up_next c.args.self.now s stands (c.requires.ruled settings s stands) l c.loop-partition.self c.loop-partition.partition (omega (arith, low)) c.tell_outcome.new.out.items c.loop-partition.out.items a
    refl (DetectLine c.args.member) (λ k. refl)
    (c.in_err-detect.ensures.full settings (going_in settings (counted s) l c.loop-partition.partition a.skips) a.amid (ap Err why))

pub loop-partition-preserved : goal.loop-partition-preserved
loop-partition-preserved g c = λ settings s stands.
    let a = c.loop-partition.invariant settings s stands in
    let l = Asks (Detect c.args.member) in
    gone_in_more settings (counted s) l refl c.loop-partition.self c.detect.new.self c.loop-partition.partition c.tell_outcome.new.out.items c.loop-partition.out.items a c.detect.new.out.items
    (c.in_ok-detect.ensures.ok settings (going_in settings (counted s) l c.loop-partition.partition a.skips) a.amid)

pub returns-clause-ok : goal.returns-clause-ok
returns-clause-ok g c = λ settings s stands.
    let all = c.args.self.now in
    let may = c.requires.may in
    let line = DetectLine c.args.member in
    let l : Line Request = Asks (Detect c.args.member) in
    let past = c.loop-partition-test.false in
    let end = c.loop-partition.auto.partition-end in
    let last : c.loop-partition.partition ≡ partitions = omega (arith, past, end) in
    let ruled = c.requires.ruled settings s stands in
    let on = at_last all s stands ruled l last (c.loop-partition.invariant settings s stands) in
    in_all_ran_on all s stands ruled l (few_lines all c.args.number line may s stands) line (λ k. refl) c.loop-partition.self c.tell_outcome.new.out.items c.loop-partition.out.items on (came_to Ran) c.args.out.now.items refl
    c.in_ok-tell_outcome.ensures

pub returns-clause-full : goal.returns-clause-full
returns-clause-full g c = λ settings s stands was. absurd cc
