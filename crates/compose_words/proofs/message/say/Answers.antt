use Rattle.std.proofs.Common.{subst, sym, ◌∙◌}
use Rattle.std.proofs.lemmas.Result.{on_ok_weaker}
use Rattle.compose_words.specs.Sayings.{FitMessage}
use Rattle.compose_words.proofs.Streams.{can_be_said, laid_out_same, laid_out_is, laid_out_says, same_payload}
use Rattle.compose_words.proofs.message.say.Goals as goal

pub returns-clause-bytes : goal.returns-clause-bytes
returns-clause-bytes c =
    laid_out_is c.laid_out.result c.args.correlation c.args.saying.now c.as_slice.result.now c.as_slice-2.result.now
    (c.as_slice.ensures.value ∙ c.in_ok-payload.ensures ∙ same_payload c.args.correlation c.args.saying.now c.ranges.correlation) (c.as_slice-2.ensures.value ∙ c.in_ok-parts.ensures) c.laid_out.ensures.bytes

pub returns-clause-heard : goal.returns-clause-heard
returns-clause-heard c =
    let checked = c.in_ok-check.ensures.ok in
    laid_out_says c.laid_out.result c.args.correlation c.args.saying.now c.as_slice.result.now c.as_slice-2.result.now
    c.ranges.correlation c.requires (can_be_said c.args.saying.now checked.0 checked.1 c.numbers_fit.ensures)
    (c.as_slice.ensures.value ∙ c.in_ok-payload.ensures ∙ same_payload c.args.correlation c.args.saying.now c.ranges.correlation) (c.as_slice-2.ensures.value ∙ c.in_ok-parts.ensures) c.laid_out.ensures.bytes c.laid_out.ensures.fit

pub returns-clause-fit : goal.returns-clause-fit
returns-clause-fit c =
    let payload = c.as_slice.ensures.value ∙ c.in_ok-payload.ensures ∙ same_payload c.args.correlation c.args.saying.now c.ranges.correlation in
    let same = laid_out_same c.args.correlation c.args.saying.now c.as_slice.result.now c.as_slice-2.result.now payload (c.as_slice-2.ensures.value ∙ c.in_ok-parts.ensures) in
    on_ok_weaker c.laid_out.result (λ fit. subst FitMessage same fit) c.laid_out.ensures.fit

pub returns-clause-long : goal.returns-clause-long
returns-clause-long c e fit =
    let payload = c.as_slice.ensures.value ∙ c.in_ok-payload.ensures ∙ same_payload c.args.correlation c.args.saying.now c.ranges.correlation in
    let same = laid_out_same c.args.correlation c.args.saying.now c.as_slice.result.now c.as_slice-2.result.now payload (c.as_slice-2.ensures.value ∙ c.in_ok-parts.ensures) in
    c.laid_out.ensures.long e (subst FitMessage (sym same) fit)
