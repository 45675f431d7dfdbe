use Rattle.std.proofs.Common.{◌≡◌, List, length, Some, slice_get, get_or, ap, sym, ◌∙◌, subst, arith}
use Rattle.std.proofs.lemmas.List.{take_at}
use Rattle.std.proofs.lemmas.Option.{slice_get-get_or, slice_get_within}
use Rattle.master_log.specs.declared.masters.Masters.{Masters}
use Rattle.master_log.specs.Outcomes.{done_if}
use Rattle.masters_run.specs.Parts.{HaveCrashed}
use Rattle.masters_run.proofs.Crashing.{stand_there, crashed_so, count_set, crash_more, rest_still}
use Rattle.masters_run.proofs.grid.RuledGrid.crash.Goals as goal

pub crash-requires : goal.crash-requires
crash-requires g c =
    let items = c.loop-masters.masters-items in
    let i = c.loop-masters.masters-index in
    let kept = get_or items i c.masters-item.result in
    let low = c.loop-masters-test.true in
    let size = c.loop-masters.auto.masters-items in
    let read : slice_get items i ≡ Some kept = slice_get-get_or items i c.masters-item.result (omega (arith, low, size)) in
    let there : slice_get c.args.self.now.masters.items i ≡ Some kept = ap (λ ms. slice_get ms i) (sym c.deref_mut-masters-items.ensures.value) ∙ sym (c.loop-masters.invariant.rest i (omega arith)) ∙ read in
    stand_there c.requires.0 c.args.self.now.masters.items c.requires.1 c.requires.2.masters i kept there

pub loop-masters-preserved : goal.loop-masters-preserved
loop-masters-preserved g c =
    let items = c.loop-masters.masters-items in
    let old = c.deref_mut-masters-items.result.now in
    let i = c.loop-masters.masters-index in
    let kept = get_or items i c.masters-item.result in
    let new = c.crash.new.self in
    let low = c.loop-masters-test.true in
    let size = c.loop-masters.auto.masters-items in
    let read : slice_get items i ≡ Some kept = slice_get-get_or items i c.masters-item.result (omega (arith, low, size)) in
    let still = c.loop-masters.invariant.rest i (omega arith) in
    let there : slice_get c.args.self.now.masters.items i ≡ Some kept = ap (λ ms. slice_get ms i) (sym c.deref_mut-masters-items.ensures.value) ∙ sym still ∙ read in
    let stands = stand_there c.requires.0 c.args.self.now.masters.items c.requires.1 c.requires.2.masters i kept there in
    let crashed = crashed_so c.args.member kept new (done_if c.crash.result) stands.0 stands.1 c.crash.ensures in
    record {
      count = count_set items i new ∙ size;
      crashed = crash_more c.args.member old items i kept new read crashed still c.loop-masters.invariant.crashed;
      rest = rest_still c.args.member old items i kept new read crashed c.loop-masters.invariant.rest;
    }

pub returns-clause-masters : goal.returns-clause-masters
returns-clause-masters g c =
    let items = c.loop-masters.masters-items in
    let old = c.args.self.now.masters.items in
    let value = c.deref_mut-masters-items.ensures.value in
    let past = c.loop-masters-test.false in
    let size : length items ≡ c.args.self.now.masters.len = c.loop-masters.auto.masters-items ∙ c.deref_mut-masters-items.ensures.len in
    subst (λ (xs : List Masters). HaveCrashed c.args.member old xs) (sym (take_at items _ _ size)) (record {
      count = c.loop-masters.auto.masters-items ∙ ap length value;
      each = λ p masters there.
          let here : slice_get c.deref_mut-masters-items.result.now p ≡ Some masters = ap (λ ms. slice_get ms p) value ∙ there in
          let within = slice_get_within c.deref_mut-masters-items.result.now p masters here in
          c.loop-masters.invariant.crashed p masters (omega (arith, past, within)) here;
    })
