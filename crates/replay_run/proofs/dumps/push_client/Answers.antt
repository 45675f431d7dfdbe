use Rattle.std.proofs.Common.{◌∙◌, ◌++◌, List, ℕ, ap, sym}
use Rattle.std.proofs.lemmas.Result.{on_ok_weaker}
use Rattle.uuid.specs.Text.{lower, hyphenated_text}
use Rattle.replay_run.specs.Dumps.{client_text}
use Rattle.replay_run.proofs.dumps.push_client.Goals as goal

pub returns-in-Known : goal.returns-in-Known
returns-in-Known c =
    let text = c.as_bytes.ensures.value ∙ c.encode_lower.ensures.text ∙ ap (hyphenated_text lower) (c.hyphenated.ensures ∙ c.from_u128.ensures) in
    on_ok_weaker c.push_text.result (λ e. e ∙ ap (λ (xs : List ℕ). c.args.out.now.items ++ xs) (text ∙ sym (ap client_text c.in-Known.is))) c.push_text.ensures
