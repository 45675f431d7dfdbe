use Rattle.std.proofs.Common.{◌+◌, ◌∙◌, List, length, slice_get, ap, sym, arith}
use Rattle.std.proofs.lemmas.List.{length_push}
use Rattle.listeners.specs.declared.listeners.Listeners.{Listeners}
use Rattle.replay_run.proofs.Listening.{nobody_more, nobody_listening}
use Rattle.replay_run.proofs.grid.nobody.Goals as goal

pub loop-preserved : goal.loop-preserved
loop-preserved c =
    let before = c.loop.listeners.items in
    record {
      size = ap (λ (xs : List Listeners). length xs) c.in_ok-push.ensures.items ∙ length_push before c.new.result ∙ ap (λ n. n + 1) c.loop.invariant.size;
      none = λ member here there. nobody_more before c.new.result c.loop.invariant.none c.new.ensures member here (ap (λ (xs : List Listeners). slice_get xs member) (sym c.in_ok-push.ensures.items) ∙ there);
    }

pub returns : goal.returns
returns c = λ backups. nobody_listening c.loop.listeners.items c.args.members backups (c.loop.invariant.size ∙ omega arith) c.loop.invariant.none
