use Rattle.std.proofs.Common.{[], ◌++◌, length, refl, ap, sym, ◌∙◌, append-nil, arith}
use Rattle.std.specs.Vec.{with_item}
use Rattle.call_engine.specs.Objects.{partition_object}
use Rattle.master_log.specs.Outcomes.{done_if}
use Rattle.masters_protocol.specs.Machine.{Lose}
use Rattle.masters_world.specs.Machine.{MasterLose}
use Rattle.script_lang.specs.declared.line.Line.TheVariants.{MasterLose as LoseLine}
use Rattle.line_told.specs.Happenings.{master_told}
use Rattle.replay_run.specs.LineTold.{came_to}
use Rattle.masters_run.specs.Runs.{masters_at, ruled_at, counted}
use Rattle.masters_run.proofs.AskedLines.{loss_publishes_nothing}
use Rattle.masters_run.proofs.LineParts.{may_count, few_lines, counted_amid, may_ask}
use Rattle.masters_run.proofs.MastersAsked.{are_there, masters_read, have_asked}
use Rattle.masters_run.proofs.OneAsked.{asked_ran}
use Rattle.masters_run.proofs.PublishedEvents.{none_follows}
use Rattle.masters_run.proofs.RuledMasters.{events_of, asked_so}
use Rattle.masters_run.proofs.grid.RuledGrid.run_loss.Goals as goal

pub count-requires : goal.count-requires
count-requires g c = may_count c.args.self.now c.args.number (LoseLine c.args.partition c.args.from c.args.to c.args.place) c.requires.may

pub lose-done-requires : goal.lose-done-requires
lose-done-requires g c =
    let all = c.args.self.now in
    let line = LoseLine c.args.partition c.args.from c.args.to c.args.place in
    let may = c.requires.may in
    let placed = may.read.0 in
    let amid = counted_amid all may.run may.stands c.count.new.self c.count.ensures.masters (c.count.ensures.amid may.settings may.run.run may.stands.grid) in
    let ask = may_ask all may.run may.stands (few_lines all c.args.number line may may.run may.stands) c.count.new.self (c.requires.ruled may.settings may.run may.stands) amid c.args.partition (omega (arith, placed)) in
    let are = masters_read _ c.count.new.self c.args.partition ask may.settings (counted may.run) amid c.from.result c.index_mut.result.now c.from.ensures c.index_mut.ensures.value in
    (events_of are, are.stands)

pub returns-clause-ok : goal.returns-clause-ok
returns-clause-ok g c = λ settings s stands.
    let all = c.args.self.now in
    let line = LoseLine c.args.partition c.args.from c.args.to c.args.place in
    let p = c.args.partition in
    let l = MasterLose c.args.from c.args.to c.args.place in
    let may = c.requires.may in
    let placed = may.read.0 in
    let limit = few_lines all c.args.number line may s stands in
    let ruled = c.requires.ruled settings s stands in
    let mid = c.count.new.self in
    let amid = counted_amid all s stands mid c.count.ensures.masters (c.count.ensures.amid settings s.run stands.grid) in
    let ask = may_ask all s stands limit mid ruled amid p (omega (arith, placed)) in
    let kept = c.index_mut.result.now in
    let next = c.lose-done.new.self in
    let new = record mid { masters = with_item mid.masters c.from.result next } in
    let there = are_there _ mid p ask settings (counted s) amid in
    let are = masters_read _ mid p ask settings (counted s) amid c.from.result kept c.from.ensures c.index_mut.ensures.value in
    let so = asked_so are l (Lose c.args.from c.args.to c.args.place) (done_if c.lose-done.result) refl (c.lose-done.ensures (events_of are) are.stands) in
    let h = have_asked _ settings mid (counted s) p l amid there kept next are c.from.result c.from.ensures c.index_mut.ensures.value new refl refl refl refl so.0 so.1 (length (masters_at s p).published) refl in
    let on = none_follows _ settings new (counted s) p l (length (masters_at s p).published) h (loss_publishes_nothing (ruled_at (partition_object settings) s p) c.args.from c.args.to c.args.place) [] in
    asked_ran all s stands ruled line p l (record { after = λ k. refl; tells = λ k next. refl })
    limit (omega (arith, placed)) new (done_if c.lose-done.result) [] [] (record { on = on; outcome = so.2 })
    c.args.out.now.items c.tell_outcome.new.out.items refl
    (c.in_ok-tell_outcome.ensures ∙ ap (λ x. c.args.out.now.items ++ came_to x) c.done_outcome.ensures ∙ sym (append-nil (c.args.out.now.items ++ came_to (master_told (done_if c.lose-done.result)))))
