use Rattle.std.proofs.Common.{◌≡◌, length, refl, sym, ap, ◌∙◌, slice_get, subst, arith, rules}
use Rattle.std.proofs.lemmas.Option.{slice_get_read}
use Rattle.counted_calls.specs.Callers.{HasMadeAll}
use Rattle.counted_calls.specs.declared.threads.Caller.{Caller}
use Rattle.counted_calls.proofs.Joined.{read_there, sliced, within_all}
use Rattle.counted_calls.proofs.threads.call_each.Goals as goal

pub for_each_mut-requires-clause-accepts : goal.for_each_mut-requires-clause-accepts
for_each_mut-requires-clause-accepts g c κs within i p less is =
    let slice = c.as_mut_slice.result.now in
    let there = ap (λ callers. slice_get callers i) (sym c.as_mut_slice.ensures.value) ∙ slice_get_read slice (length slice) i p.now refl less is in
    ((c.requires.key, c.requires.callers i p.now there), search rules)

pub returns-clause-made : goal.returns-clause-made
returns-clause-made g c conn caller e =
    let new = c.for_each_mut.new.s in
    let items = c.args.callers.now.items in
    let ok = c.args.callers.now.ok.0 in
    let long = c.for_each_mut.auto.s in
    let same = ap length c.as_mut_slice.ensures.value in
    let len_is : c.args.callers.now.len ≡ length new = omega (arith, ok, long, same) in
    let there = sliced new items c.args.callers.now.len conn caller len_is e in
    let less = within_all new c.as_mut_slice.result.now conn caller long there in
    let change = (c.for_each_mut.ensures conn caller less).1 in
    let made = subst (λ (one : Caller). HasMadeAll c.args.stage.now.grid c.args.stage.now.key conn one) change.left change.call in
    subst (λ (one : Caller). HasMadeAll c.args.stage.now.grid c.args.stage.now.key conn one) (read_there new conn caller there) made
