use Rattle.std.proofs.Common.{◌∙◌, ◌+◌, length, slice_get, ap, sym}
use Rattle.std.proofs.lemmas.List.{length_push}
use Rattle.masters_run.proofs.Passing.{opened_more}
use Rattle.masters_run.proofs.grid.opening_masters.Goals as goal

pub loop-preserved : goal.loop-preserved
loop-preserved c =
    let before = c.loop.masters.items in
    let new = c.in_ok-new.field-0 in
    record {
      count = ap (λ ms. length ms) c.in_ok-push.ensures.items ∙ length_push before new ∙ ap (λ n. n + 1) c.loop.invariant.count;
      each = λ p masters there. opened_more before new c.args.members c.loop.invariant.each c.in_ok-new.ensures.size c.in_ok-new.ensures.stands p masters (ap (λ ms. slice_get ms p) (sym c.in_ok-push.ensures.items) ∙ there);
    }
