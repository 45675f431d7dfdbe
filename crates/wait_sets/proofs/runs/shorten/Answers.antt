use Rattle.std.proofs.Common.{◌<◌, set, length, ap, ◌∙◌, ◌-◌, rules}
use Rattle.std.specs.List.{remove}
use Rattle.wait_sets.proofs.Parts.{one_less, none_left, passed_by}
use Rattle.wait_sets.proofs.runs.shorten.Goals as goal

pub returns-else-run-eq1 : goal.returns-else-run-eq1
returns-else-run-eq1 c =
    let same = c.loop-i.invariant.0 in
    let there : c.loop-i.i < length c.args.runs.now.items = search rules in
    let is = rw same at c.index-run.ensures in
    ap (λ ns. set ns c.loop-i.i (c.index-run.result.now - 1)) same ∙ one_less _ _ _ _ _ there c.loop-i.invariant.1 is c.if-left-run.true c.if-run-eq1.false

pub returns-then-run-eq1 : goal.returns-then-run-eq1
returns-then-run-eq1 c =
    let same = c.loop-i.invariant.0 in
    let there : c.loop-i.i < length c.args.runs.now.items = search rules in
    let is = rw same at c.index-run.ensures in
    c.remove.ensures.items ∙ ap (λ ns. remove ns c.loop-i.i) same ∙ none_left _ _ _ _ _ there c.loop-i.invariant.1 is c.if-left-run.true c.if-run-eq1.true

pub loop-i-preserved : goal.loop-i-preserved
loop-i-preserved c =
    let same = c.loop-i.invariant.0 in
    let there : c.loop-i.i < length c.args.runs.now.items = search rules in
    let is = rw same at c.index-run.ensures in
    (same, c.loop-i.invariant.1 ∙ passed_by _ _ _ _ there is c.if-left-run.false)
