use Rattle.std.proofs.Common.{List, Bor, ℕ, rules, tests, refl, ◌∙◌}
use Rattle.std.proofs.lemmas.Iterator.{YieldsList-from_slice}
use Rattle.std.proofs.lemmas.Iterator.Search.{any_from_yields_List}
use Rattle.script_lang.specs.Words.{are_same}
use Rattle.live_control.proofs.orders.is_known.Goals as goal

pub returns : goal.returns
returns c =
    let table : List (Bor (List ℕ)) = c.iter.result.rest.now in
    let word = c.args.word.now in
    let any = any_from_yields_List (λ (x : Bor (List ℕ)). are_same x.now word) _ _ c.any.result c.any.ensures.ran (YieldsList-from_slice table cc) (λ x b q k. search (rules, tests)) in
    any ∙ rw c.iter.ensures.rest refl
