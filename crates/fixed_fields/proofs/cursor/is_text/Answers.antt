use Rattle.std.proofs.Common.{◌≡◌, ◌∙◌}
use Rattle.fixed_fields.proofs.Texts.{text_tested}
use Rattle.fixed_fields.proofs.cursor.is_text.Goals as goal

pub returns : goal.returns
returns c = c.is_ok.ensures.value ∙ text_tested c.args.bytes.now c.from_utf8.result (λ s. s.now ≡ c.args.bytes.now) c.from_utf8.ensures
