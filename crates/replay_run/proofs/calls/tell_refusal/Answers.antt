use Rattle.std.proofs.Common.{◌≡◌, ◌∙◌, ◌++◌, List, pos, ap, w32, w64, rules}
use Rattle.std.specs.Int.{cast_signed}
use mir.Val.{SFits}
use Rattle.std.proofs.lemmas.Int.{to_z-of_z}
use Rattle.std.proofs.lemmas.Result.{on_ok_weaker}
use Rattle.fixed_fields.specs.Responses.{error_bytes}
use Rattle.replay_run.proofs.Refusing.{refusal_told}
use Rattle.replay_run.proofs.calls.tell_refusal.Goals as goal
use Rattle.line_told.specs.declared.told.Told.{Told}

pub returns : goal.returns
returns c =
    let asked : SFits w64 c.args.to.correlation = search rules in
    let code : SFits w32 c.in-Some.field-0.code = search rules in
    let version : SFits w32 c.cast_signed.result = search rules in
    let bytes : c.in_ok-error.error ≡ error_bytes c.args.to.correlation c.in-Some.field-0.code (cast_signed w32 c.in-Some.field-0.version) (pos 0) =
    c.in_ok-error.ensures
    ∙ (λ i. error_bytes (to_z-of_z w64 c.args.to.correlation asked i) (to_z-of_z w32 c.in-Some.field-0.code code i) ((to_z-of_z w32 c.cast_signed.result version ∙ c.cast_signed.ensures) i) (pos 0)) in
    λ request its correlation. on_ok_weaker c.tell_message.result
    (λ e. e ∙ ap (λ (xs : List Told). c.args.out.now.items ++ xs) (refusal_told c.args.to.line c.args.to.id c.args.to.correlation c.in-Some.field-0 c.args.refusal c.in_ok-error.error request its correlation c.in-Some.is bytes))
    c.tell_message.ensures
