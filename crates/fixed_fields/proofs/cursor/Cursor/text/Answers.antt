use Rattle.std.proofs.Common.{◌≡◌, Ok, subst}
use Rattle.fixed_fields.specs.Frames.{next_data}
use Rattle.fixed_fields.proofs.Texts.{text_from, no_text_from}
use Rattle.fixed_fields.proofs.cursor.Cursor.text.Goals as goal

pub returns-then-not-is_text-clause-not_utf8 : goal.returns-then-not-is_text-clause-not_utf8
returns-then-not-is_text-clause-not_utf8 c _ =
    let found = subst (λ frames. next_data frames ≡ Ok c.in_ok-bytes.bytes.now) c.self.view_is c.in_ok-bytes.ensures.bytes in
    no_text_from c.args.self.now c.in_ok-bytes.bytes.now c.as_slice.result.now found c.as_slice.ensures c.if-not-is_text.ensures

pub returns-clause-utf8 : goal.returns-clause-utf8
returns-clause-utf8 c = text_from c.in_ok-bytes.bytes.now c.as_slice.result.now c.as_slice.ensures c.if-not-is_text.ensures
