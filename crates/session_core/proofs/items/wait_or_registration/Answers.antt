use Rattle.std.proofs.Common.{rules, ap, ◌∙◌}
use Rattle.std.specs.Int.{w64}
use Rattle.std.specs.Int.RustNames.{FitsSigned}
use Rattle.std.proofs.lemmas.Int.{to_z-of_z}
use Rattle.session_core.specs.Items.{waiting}
use Rattle.session_core.proofs.CallItems.{wait_given}
use Rattle.session_core.proofs.CallsRead.{wait_read}
use Rattle.session_core.proofs.items.wait_or_registration.Goals as goal

pub call_item-requires-clause-place : goal.call_item-requires-clause-place
call_item-requires-clause-place c = (wait_read c.args.client c.args.message.now _ c.in-Ok.ensures).where_is

pub returns-in_ok-item-in-Ok : goal.returns-in_ok-item-in-Ok
returns-in_ok-item-in-Ok c =
    let item = c.in_ok-item-in-Ok.item in
    let fits : FitsSigned w64 c.in-Ok.timeout = search rules in
    wait_given c.args.id c.args.client c.args.message.now c.in-Ok.call c.in-Ok.timeout item c.waiting.result c.in-Ok.ensures c.in_ok-item-in-Ok.ensures
    (c.waiting.ensures ∙ ap (λ timeout. waiting timeout item) (to_z-of_z w64 c.in-Ok.timeout fits))
