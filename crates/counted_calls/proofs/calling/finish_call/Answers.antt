use Rattle.std.proofs.Common.{◌∙◌}
use Rattle.session_calls.proofs.WholeCalls.{same_call, unfinished_may_finish}
use Rattle.live_grid.specs.Histories.{live_key}
use Rattle.counted_calls.proofs.calling.finish_call.Goals as goal

pub loop-preserved : goal.loop-preserved
loop-preserved g c =
    let place = c.args.place.now in
    let was = c.loop.invariant in
    let some = was.some in
    let not_yet = c.in-NotYet.ensures.ended some.0 some.1.under_way in
    record {
      of_grid = c.in-NotYet.ensures.kept;
      same = not_yet.same_session ∙ was.same;
      call = same_call _ _ _ was.call not_yet.same_call;
      may = λ terms may. (
          let now = was.may terms may in
          unfinished_may_finish live_key place terms c.loop.session c.finish.new.self c.loop.going c.in-NotYet.again now (c.in-NotYet.ensures.ended terms now.under_way)
          );
      some = (some.0, unfinished_may_finish live_key place some.0 c.loop.session c.finish.new.self c.loop.going c.in-NotYet.again some.1 not_yet);
    }
