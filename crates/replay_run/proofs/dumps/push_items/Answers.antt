use Rattle.std.proofs.Common.{◌∙◌, ◌++◌, ◌-◌, length, take, drop, ap, arith}
use Rattle.replay_run.specs.Dumps.{hex_word}
use Rattle.replay_run.proofs.DumpTexts.{items_split, items_whole}
use Rattle.replay_run.proofs.dumps.push_items.Goals as goal

pub returns : goal.returns
returns c =
    let items = c.args.items.now in
    items_whole c.first-item.result (take (length items - 1) (drop 1 items)) items c.loop-item.item-index c.args.out.now.items c.push_hex_word.new.out.items c.loop-item.out.items
    (items_split items c.first-item.result c.in-len1-up.len_at_least c.first-item.is)
    (omega (arith, c.loop-item-test.false))
    (c.in_ok-push_hex_word.ensures ∙ ap (λ x. c.args.out.now.items ++ hex_word x) c.as_slice.ensures)
    c.loop-item.invariant
