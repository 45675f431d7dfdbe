-- What the test of a text says of its bytes.
use Rattle.std.proofs.Common.{◌≡◌, List, ℕ, Result, Ok, Err, MatchResult, IfOk, is_ok, true, false, sym, ap, ◌∙◌}
use Rattle.std.specs.Str.{IsUtf8, is_utf8}
use Rattle.std.proofs.lemmas.Str.{is_utf8-from_IsUtf8, IsUtf8-from_is_utf8}
use Rattle.std.proofs.lemmas.Bool.{false_from_ne_true, both_ways}
use Rattle.frame_codec.specs.declared.frames.Frame.{Frame}
use Rattle.fixed_fields.specs.Frames.{next_data}

pub text_tested : {T E : Type 0} (bytes : List ℕ) (r : Result T E) (P : T → Type 0) → MatchResult r (λ x. P x × IsUtf8 bytes) (λ _. ¬ (IsUtf8 bytes)) → is_ok r ≡ is_utf8 bytes
text_tested bytes (Ok x) P h = sym (is_utf8-from_IsUtf8 bytes h.1)
text_tested bytes (Err e) P h = sym (false_from_ne_true (is_utf8 bytes) (λ t. h (IsUtf8-from_is_utf8 bytes t)))

pub text_from : (bytes tested : List ℕ) → tested ≡ bytes → true ≡ is_utf8 tested → IsUtf8 bytes
text_from bytes tested same passed = IsUtf8-from_is_utf8 bytes (ap is_utf8 (sym same) ∙ sym passed)

pub no_text_from : (frames : List Frame) (bytes tested : List ℕ) → next_data frames ≡ Ok bytes → tested ≡ bytes → false ≡ is_utf8 tested → IfOk (next_data frames) (λ found. ¬ (IsUtf8 found))
no_text_from frames bytes tested found same failed =
    rw found (λ text. both_ways (is_utf8 bytes) (ap is_utf8 (sym same) ∙ sym failed) (is_utf8-from_IsUtf8 bytes text))
