-- The place of the first of that member, or the length.
use Rattle.std.proofs.Common.{◌≡◌, ◌==◌, List, length, rules, tests, ap, sym, ◌∙◌}
use Rattle.std.specs.List.{position_or_len}
use Rattle.std.proofs.lemmas.Iterator.{YieldsList-from_slice}
use Rattle.std.proofs.lemmas.Iterator.Search.{position_from_yields_List}
use Rattle.masters_protocol.specs.Members.{ToldLog}
use Rattle.master_wire.specs.declared.decision.Decision.{Decision}
use Rattle.master_member.proofs.Keeping.{place_found}
use Rattle.master_member.proofs.tells.Tells.place_of.Goals as goal

pub returns : goal.returns
returns c =
    let test = λ (told : ToldLog Decision). told.member == c.args.member in
    let list = c.deref.result.now in
    let found = position_from_yields_List test _ _ c.position.result c.position.ensures.ran (YieldsList-from_slice list c.iter.ensures.rest) (λ x b q k. search (rules, tests)) in
    let len : c.len.result ≡ length list = c.len.ensures ∙ c.self.invariant ∙ ap (λ (xs : List (ToldLog Decision)). length xs) (sym c.deref.ensures.value) in
    c.unwrap_or.ensures ∙ place_found test list c.position.result c.len.result found len ∙ ap (position_or_len test) (c.deref.ensures.value ∙ c.self.view_is)
