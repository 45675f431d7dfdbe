use Rattle.std.proofs.Common.{◌≡◌, ◌++◌, [], ◌∷◌, Err, refl, ap, sym, ◌∙◌, arith}
use Rattle.call_engine.specs.Objects.{partition_object}
use Rattle.masters_world.specs.Machine.{Told}
use Rattle.master_log.specs.Outcomes.{done_if}
use Rattle.script_lang.specs.declared.line.Line.TheVariants.{Told as ToldLine}
use Rattle.replay_run.specs.Runs.{partitions}
use Rattle.replay_run.specs.LineTold.{came_to}
use Rattle.replay_run.specs.declared.run_end.RunEnd.TheVariants.{InFlight}
use Rattle.replay_run.proofs.Asking.{handed_on}
use Rattle.line_told.specs.Happenings.{master_told}
use Rattle.masters_run.specs.LineTold.{said, asked_outcome}
use Rattle.masters_run.specs.Runs.{ruled_at, counted}
use Rattle.masters_run.proofs.EachPartition.{at_last, may_ask_next, up_next, in_all_ran, first_says}
use Rattle.masters_run.proofs.LineParts.{few_lines, counted_amid}
use Rattle.masters_run.proofs.Loops.{going_in, following_in, gone_in_none, gone_in_more}
use Rattle.masters_run.proofs.grid.RuledGrid.run_told.Goals as goal
use Rattle.masters_run.proofs.grid.RuledGrid.run_told.Goals.{then-partition-eq0, else-partition-eq0}

pub loop-partition-init : goal.loop-partition-init
loop-partition-init g c = record {
  on = λ settings s stands.
      gone_in_none c.count.new.self (counted s) (Told c.args.member c.args.crashed) c.new-followed.result.items
      (counted_amid c.args.self.now s stands c.count.new.self c.count.ensures.masters (c.count.ensures.amid settings s.run stands.grid));
  first = λ settings s stands some. absurd (omega (arith, some));
}

pub tell-requires : goal.tell-requires
tell-requires g c =
    let may = c.requires.may in
    let low = c.loop-partition-test.true in
    may_ask_next c.args.self.now may.run may.stands (c.requires.ruled may.settings may.run may.stands) (Told c.args.member c.args.crashed) c.loop-partition.self c.loop-partition.partition (omega (arith, low))
    c.new-followed.result.items c.loop-partition.followed.items (c.loop-partition.invariant.on may.settings may.run may.stands) (few_lines c.args.self.now c.args.number (ToldLine c.args.member c.args.crashed) may may.run may.stands)

pub returns-in_err-told-clause-full : goal.returns-in_err-told-clause-full
returns-in_err-told-clause-full g c = λ settings s stands was.
    let low = c.loop-partition-test.true in
    let a = c.loop-partition.invariant.on settings s stands in
    let l = Told c.args.member c.args.crashed in
    let why = handed_on c.from_residual.result c.in_err-told.field-0.0 InFlight c.from_residual.ensures.1 was in
    up_next c.args.self.now s stands (c.requires.ruled settings s stands) l c.loop-partition.self c.loop-partition.partition (omega (arith, low)) c.new-followed.result.items c.loop-partition.followed.items a
    tt (ToldLine c.args.member c.args.crashed) (λ k. refl)
    (c.in_err-told.ensures.full settings (going_in settings (counted s) l c.loop-partition.partition a.skips) a.amid (ap Err why))

pub loop-partition-preserved : goal.loop-partition-preserved
loop-partition-preserved g c = record {
  on = λ settings s stands.
      let a = c.loop-partition.invariant.on settings s stands in
      let l = Told c.args.member c.args.crashed in
      gone_in_more settings (counted s) l tt c.loop-partition.self c.tell.new.self c.loop-partition.partition c.new-followed.result.items c.loop-partition.followed.items a c.tell.new.out.items
      (c.in_ok-told.ensures.ok settings (going_in settings (counted s) l c.loop-partition.partition a.skips) a.amid).on;
  first = λ settings s stands some.
      let a = c.loop-partition.invariant.on settings s stands in
      let l = Told c.args.member c.args.crashed in
      elim c.if-partition-eq0.branch [
        | then-partition-eq0 w ↦
            first_says settings s l c.loop-partition.partition a.skips (done_if c.in_ok-told.told) w.if-partition-eq0.true
            (c.in_ok-told.ensures.ok settings (going_in settings (counted s) l c.loop-partition.partition a.skips) a.amid).outcome
            ∙ ap (λ b. done_if b ∷ []) (sym w.done-is)
        | else-partition-eq0 w ↦
            (let other = w.if-partition-eq0.false in
            c.loop-partition.invariant.first settings s stands (omega (arith, other)))
            ∙ ap (λ b. done_if b ∷ []) (sym w.done-is)
      ];
}

pub returns-clause-ok : goal.returns-clause-ok
returns-clause-ok g c = λ settings s stands.
    let all = c.args.self.now in
    let may = c.requires.may in
    let line = ToldLine c.args.member c.args.crashed in
    let l = Told c.args.member c.args.crashed in
    let o = partition_object settings in
    let past = c.loop-partition-test.false in
    let end = c.loop-partition.auto.partition-end in
    let last : c.loop-partition.partition ≡ partitions = omega (arith, past, end) in
    let ruled = c.requires.ruled settings s stands in
    let on = at_last all s stands ruled l last (c.loop-partition.invariant.on settings s stands) in
    let came : asked_outcome o (ruled_at o s 0) l ≡ master_told (done_if c.loop-partition.done) = ap (λ xs. said xs []) (c.loop-partition.invariant.first settings s stands (omega (arith, last))) in
    in_all_ran all s stands ruled l (few_lines all c.args.number line may s stands) line (λ k. refl) c.loop-partition.self c.new-followed.result.items c.loop-partition.followed.items on
    (came_to (master_told (done_if c.loop-partition.done))) c.args.out.now.items c.tell_with.new.out.items
    (λ i. came_to (came i) ++ following_in settings (counted s) l partitions on.skips)
    c.new-followed.ensures.items (c.in_ok-tell_with.ensures ∙ ap (λ x. c.args.out.now.items ++ came_to x ++ c.loop-partition.followed.items) c.done_outcome.ensures)
