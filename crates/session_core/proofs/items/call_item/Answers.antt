use Rattle.std.proofs.Common.{◌≡◌, rules, pos, Ok, refl, ap, sym, ◌∙◌, subst}
use Rattle.std.specs.Int.{w32}
use Rattle.std.specs.Int.RustNames.{FitsSigned}
use Rattle.std.proofs.lemmas.Int.{to_z-of_z}
use Rattle.grid_base.specs.Errors.{wrong_partition}
use Rattle.fixed_fields.specs.Responses.{error_bytes}
use Rattle.session_core.specs.Items.{correlation_of, stated_partition}
use Rattle.session_core.specs.Places.{partition_of_call, SaysWhere}
use Rattle.session_core.specs.declared.item.Item.TheVariants.{Reply}
use Rattle.session_core.proofs.CallItems.{different, ok_same, wrong_item}
use Rattle.session_core.proofs.items.call_item.Goals as goal

pub partition_of_call-partition-requires : goal.partition_of_call-partition-requires
partition_of_call-partition-requires c =
    let fits : FitsSigned w32 c.stated_partition-stated.result = search rules in
    subst (λ stated. SaysWhere stated c.args.call) (sym (to_z-of_z w32 c.stated_partition-stated.result fits ∙ c.stated_partition-stated.ensures)) c.requires.place

pub returns-then-stated-from : goal.returns-then-stated-from
returns-then-stated-from c =
    let message = c.args.message.now in
    let call = c.args.call in
    let stated = c.stated_partition-stated.ensures in
    let fits : FitsSigned w32 c.stated_partition-stated.result = search rules in
    let its = ap (λ z. partition_of_call z call) (to_z-of_z w32 c.stated_partition-stated.result fits ∙ stated) in
    let own : pos c.partition_of_call-partition.result ≡ pos (partition_of_call (stated_partition message) call) = ap pos (c.partition_of_call-partition.ensures ∙ its) in
    let second : c.from-then-stated-from.result ≡ pos (partition_of_call (stated_partition message) call) = c.from-then-stated-from.ensures ∙ own in
    let from : c.from.result ≡ pos (partition_of_call (stated_partition message) call) = c.from.ensures ∙ own in
    let apart = different c.stated_partition-stated.result c.from.result (stated_partition message) (partition_of_call (stated_partition message) call) stated from c.if-stated-from.true in
    ok_same c.error_to.result _ _
    (ap (λ z. Reply (error_bytes (correlation_of message) (pos wrong_partition) z c.from-then-stated-from.result)) stated
    ∙ ap (λ z. Reply (error_bytes (correlation_of message) (pos wrong_partition) (stated_partition message) z)) second
    ∙ sym (wrong_item c.args.id message (Ok call) call refl apart)) (search rules)
