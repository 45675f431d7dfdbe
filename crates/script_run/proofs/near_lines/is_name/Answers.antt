use Rattle.std.proofs.Common.{◌≡◌, ◌∙◌, ap}
use Rattle.std.specs.Str.{is_utf8}
use Rattle.fixed_fields.proofs.Texts.{text_tested}
use Rattle.script_run.proofs.near_lines.is_name.Goals as goal

pub returns : goal.returns
returns c = c.is_ok.ensures.value ∙ text_tested c.as_slice.result.now c.from_utf8.result (λ s. s.now ≡ c.as_slice.result.now) c.from_utf8.ensures ∙ ap is_utf8 c.as_slice.ensures
