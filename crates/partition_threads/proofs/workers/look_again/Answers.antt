use Rattle.std.proofs.Common.{◌<◌, length, sym, subst, ap, ◌∙◌, arith, All}
use Rattle.std.proofs.lemmas.Grind.{common_steps}
use Rattle.std.proofs.lemmas.List.Elements.{All-push}
use Rattle.job_queues.specs.Roster.{roster_of}
use Rattle.partition_threads.specs.Calls.{IsHeld}
use Rattle.partition_threads.proofs.Removed.{all_removed, removed_one}
use Rattle.partition_threads.proofs.workers.look_again.Goals as goal

pub go_on-requires-clause-call : goal.go_on-requires-clause-call
go_on-requires-clause-call g c κs within =
    let less : c.loop.next < length c.loop.held.items = grind (arith, common_steps) in
    removed_one (IsHeld g.T.Stands.key_of g.T.Served.tells g.T.Served.call_of (roster_of c.args.place.now.cells.items)) c.loop.held.items c.loop.next c.remove-call.result c.loop.invariant less c.remove-call.ensures.value

pub loop-preserved : goal.loop-preserved
loop-preserved g c =
    let Held = IsHeld g.T.Stands.key_of g.T.Served.tells g.T.Served.call_of (roster_of c.args.place.now.cells.items) in
    let left = all_removed Held c.loop.held.items c.loop.next c.loop.invariant in
    elim c.if-has_news.branch [
      | goal.then-has_news+in-Some w ↦ subst (All Held) (sym (ap (λ v. v.items) w.held-is ∙ w.push_reserved.ensures.items))
          (All-push Held w.remove-call.new.self.items w.in-Some.call (subst (All Held) (sym w.remove-call.ensures.items) left) w.in-Some.ensures)
      | goal.then-has_news+in-None w ↦ subst (All Held) (sym (ap (λ v. v.items) w.held-is ∙ w.remove-call.ensures.items)) left
      | goal.else-has_news w ↦ subst (All Held) (sym (ap (λ v. v.items) w.held-is)) c.loop.invariant
    ]
