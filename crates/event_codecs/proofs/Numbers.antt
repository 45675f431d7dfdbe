-- Numbers without a sign, and marks, are read as they are spelled.
use Rattle.std.proofs.Common.{◌≡◌, ℕ, zero, suc, ◌+◌, ◌^◌, ◌<◌, ◌≤◌, ℤ, Bool, true, false, List, ◌++◌, length, take, drop, Option, Some, None, option_map, refl, sym, ap, subst, ◌∙◌}
use Rattle.std.specs.Int.{w32, cast_signed, cast_unsigned, to_le_bytes}
use Rattle.std.proofs.Math.Facts.{Fits-of_z}
use Rattle.std.proofs.lemmas.Int.{of_z-to_z}
use Rattle.std.proofs.lemmas.Nat.{from_le_bytes-to_le_bytes_4}
use Rattle.frame_codec.specs.Laws.{IsBytes}
use Rattle.fixed_fields.specs.Fields.{int32_at, int32_of}
use Rattle.fixed_fields.specs.Replies.{flag_byte}
use Rattle.fixed_fields.proofs.ReadFields.{int32_is}
use Rattle.fixed_fields.proofs.Written.{field_at-written}
use Rattle.event_codecs.specs.Events.{number_at, mark_of}

-- a number that was appended is read back
pub number_read : (old behind : List ℕ) (n : ℕ) → n < 2 ^ 32 → number_at ((old ++ to_le_bytes w32 n) ++ behind) (length old) ≡ Some n
number_read old behind n fits =
    let same : cast_unsigned w32 (int32_of (to_le_bytes w32 n)) ≡ n = ap (λ (k : ℕ). cast_unsigned w32 (cast_signed w32 k)) (from_le_bytes-to_le_bytes_4 n fits) ∙ of_z-to_z w32 n fits in
    ap (λ (field : Option (List ℕ)). option_map (cast_unsigned w32) (option_map int32_of field)) (field_at-written old (to_le_bytes w32 n) behind) ∙ ap Some same

-- what a number at a place says
pub record IsNumber (payload : List ℕ) (at n : ℕ) : Type 0 where
  pub room : at + 4 ≤ length payload
  pub fits : n < 2 ^ 32
  pub spelled : to_le_bytes w32 n ≡ take 4 (drop at payload)

pub number_is : (payload : List ℕ) (at n : ℕ) → IsBytes payload → number_at payload at ≡ Some n → IsNumber payload at n
number_is payload at n bytes e = go (int32_at payload at) refl e
  where
    go : (read : Option ℤ) → int32_at payload at ≡ read → option_map (cast_unsigned w32) read ≡ Some n → IsNumber payload at n
    go None r s = absurd cc
    go (Some z) r s =
        let is = int32_is payload at z bytes r in
        let same : cast_unsigned w32 z ≡ n = cc in
        record {
          room = is.room;
          fits = subst (λ (k : ℕ). k < 2 ^ 32) same (Fits-of_z is.fits).fits;
          spelled = ap (to_le_bytes w32) (sym same) ∙ is.spelled;
        }

pub mark_read : (mark : Bool) → mark_of (flag_byte mark) ≡ Some mark
mark_read true = refl
mark_read false = refl

pub mark_is : (byte : ℕ) (mark : Bool) → mark_of byte ≡ Some mark → byte ≡ flag_byte mark
mark_is zero mark e = let same : false ≡ mark = cc in ap flag_byte same
mark_is (suc zero) mark e = let same : true ≡ mark = cc in ap flag_byte same
mark_is (suc (suc more)) mark e = absurd cc
