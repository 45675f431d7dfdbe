-- A field that is read is in range, and spelled where it stands.
use Rattle.std.proofs.Common.{◌≡◌, ℕ, zero, suc, ◌+◌, ◌*◌, ◌/◌, ◌%◌, ◌^◌, ◌<◌, ◌≤◌, ℤ, SFits, Bool, true, false, cond, leb, List, [], ◌∷◌, ◌++◌, length, take, drop, get_or, Option, Some, None, option_map, refl, sym, ap, subst, ◌∙◌, arith, ⊎_elim, lit<}
use Rattle.std.specs.Prelude.{IfSome}
use Rattle.std.specs.Int.{w32, w64, from_le_bytes, to_le_bytes, cast_unsigned}
use Rattle.std.proofs.lemmas.Bool.{leb-true, cases_lt}
use Rattle.std.proofs.lemmas.Int.{of_z-to_z}
use Rattle.std.proofs.lemmas.List.{get_or_past, length-take, length-drop, take-append-drop, take-take, drop-take}
use Rattle.std.proofs.lemmas.List.Elements.{All-get_or, All-take, All-drop, All-tail}
use Rattle.std.proofs.lemmas.Nat.{le_bytes_4, le_bytes_8}
use Rattle.std.proofs.Math.Facts.{sfits_to_z}
use Rattle.frame_codec.specs.Laws.{IsBytes}
use Rattle.fixed_fields.specs.Fields.{int32_at, int32_of, int32_bytes, int64_at, int64_of, int64_bytes, uuid_at, uuid_of}
use Rattle.fixed_fields.specs.Requests.{kind_of}
use Rattle.fixed_fields.specs.Spelled.{SpellsUuid}

byte_at : (text : List ℕ) → IsBytes text → (i : ℕ) → get_or text i 0 < 256
byte_at text bytes i = ⊎_elim (λ h. All-get_or (λ byte. byte < 256) text i 0 h bytes) (λ h. rw (get_or_past text i 0 h) (lit< tt)) (cases_lt i (length text))

field_is_bytes : (size at : ℕ) (payload : List ℕ) → IsBytes payload → IsBytes (take size (drop at payload))
field_is_bytes size at payload bytes = All-take (λ byte. byte < 256) size (drop at payload) (All-drop (λ byte. byte < 256) at payload bytes)

field_bytes_at : (size at : ℕ) (payload : List ℕ) → IsBytes payload → (i : ℕ) → get_or (take size (drop at payload)) i 0 < 256
field_bytes_at size at payload bytes = byte_at (take size (drop at payload)) (field_is_bytes size at payload bytes)

below_32 : (field : List ℕ) → ((i : ℕ) → get_or field i 0 < 256) → from_le_bytes w32 field < 2 ^ 32
below_32 field each = omega (arith, each 0, each 1, each 2, each 3)

below_64 : (field : List ℕ) → ((i : ℕ) → get_or field i 0 < 256) → from_le_bytes w64 field < 2 ^ 64
below_64 field each = omega (arith, each 0, each 1, each 2, each 3, each 4, each 5, each 6, each 7)

-- what a number at a place says
pub record Is64 (payload : List ℕ) (at : ℕ) (n : ℤ) : Type 0 where
  pub room : at + 8 ≤ length payload
  pub fits : SFits w64 n
  pub spelled : int64_bytes n ≡ take 8 (drop at payload)

spelled_32 : (field : List ℕ) → length field ≡ 4 → ((i : ℕ) → get_or field i 0 < 256) → int32_bytes (int32_of field) ≡ field
spelled_32 field four each = ap (to_le_bytes w32) (of_z-to_z w32 (from_le_bytes w32 field) (below_32 field each)) ∙ le_bytes_4 field (from_le_bytes w32 field) four each refl

spelled_64 : (field : List ℕ) → length field ≡ 8 → ((i : ℕ) → get_or field i 0 < 256) → int64_bytes (int64_of field) ≡ field
spelled_64 field eight each = ap (to_le_bytes w64) (of_z-to_z w64 (from_le_bytes w64 field) (below_64 field each)) ∙ le_bytes_8 field (from_le_bytes w64 field) eight each refl

field_length : (size at : ℕ) (payload : List ℕ) → leb (at + size) (length payload) ≡ true → length (take size (drop at payload)) ≡ size
field_length size at payload there =
    let within : at + size ≤ length payload = leb-true (at + size) (length payload) there in
    omega (arith, length-take size (drop at payload), length-drop at payload)

pub int64_is : (payload : List ℕ) (at : ℕ) (n : ℤ) → IsBytes payload → int64_at payload at ≡ Some n → Is64 payload at n
int64_is payload at n bytes e = go (leb (at + 8) (length payload)) refl e
  where
    field : List ℕ
    field = take 8 (drop at payload)

    each : (i : ℕ) → get_or field i 0 < 256
    each = field_bytes_at 8 at payload bytes

    go : (b : Bool) → leb (at + 8) (length payload) ≡ b → option_map int64_of (cond b (Some field) None) ≡ Some n → Is64 payload at n
    go true there s =
        let same : int64_of field ≡ n = cc in
        subst (Is64 payload at) same (record { room = leb-true (at + 8) (length payload) there; fits = sfits_to_z (record { fits = below_64 field each }); spelled = spelled_64 field (field_length 8 at payload there) each })
    go false there s = absurd cc

pub record Is32 (payload : List ℕ) (at : ℕ) (n : ℤ) : Type 0 where
  pub room : at + 4 ≤ length payload
  pub fits : SFits w32 n
  pub spelled : int32_bytes n ≡ take 4 (drop at payload)

pub int32_is : (payload : List ℕ) (at : ℕ) (n : ℤ) → IsBytes payload → int32_at payload at ≡ Some n → Is32 payload at n
int32_is payload at n bytes e = go (leb (at + 4) (length payload)) refl e
  where
    field : List ℕ
    field = take 4 (drop at payload)

    each : (i : ℕ) → get_or field i 0 < 256
    each = field_bytes_at 4 at payload bytes

    go : (b : Bool) → leb (at + 4) (length payload) ≡ b → option_map int32_of (cond b (Some field) None) ≡ Some n → Is32 payload at n
    go true there s =
        let same : int32_of field ≡ n = cc in
        subst (Is32 payload at) same (record { room = leb-true (at + 4) (length payload) there; fits = sfits_to_z (record { fits = below_32 field each }); spelled = spelled_32 field (field_length 4 at payload there) each })
    go false there s = absurd cc

-- the type at the beginning of a payload
pub kind_is : (payload : List ℕ) (kind : ℕ) → IsBytes payload → kind_of payload ≡ Some kind → to_le_bytes w32 kind ≡ take 4 payload
kind_is payload kind bytes e = go (leb 4 (length payload)) refl e
  where
    field : List ℕ
    field = take 4 payload

    go : (b : Bool) → leb 4 (length payload) ≡ b → option_map (cast_unsigned w32) (option_map int32_of (cond b (Some field) None)) ≡ Some kind → to_le_bytes w32 kind ≡ field
    go true there s =
        let same : cast_unsigned w32 (int32_of field) ≡ kind = cc in
        ap (to_le_bytes w32) (sym same) ∙ spelled_32 field (field_length 4 0 payload there) (field_bytes_at 4 0 payload bytes)
    go false there s = absurd cc

-- what a UUID at a place says
pub record IsUuid (payload : List ℕ) (at : ℕ) (uuid : Option ℕ) : Type 0 where
  pub room : at + 17 ≤ length payload
  pub fits : IfSome uuid (λ n. n < 2 ^ 128)
  pub spelled : SpellsUuid uuid (take 17 (drop at payload))

-- halves that were joined come apart again
halves_of : (high low : ℕ) → high < 2 ^ 64 → low < 2 ^ 64 → ((high * 2 ^ 64 + low) / 2 ^ 64 ≡ high) × ((high * 2 ^ 64 + low) % 2 ^ 64 ≡ low)
halves_of high low h l = (omega arith, omega arith)

half_spelled : (half : List ℕ) → length half ≡ 8 → IsBytes half → to_le_bytes w64 (from_le_bytes w64 half) ≡ half
half_spelled half eight bytes = le_bytes_8 half (from_le_bytes w64 half) eight (byte_at half bytes) refl

uuid_spelled : (field : List ℕ) → length field ≡ 17 → IsBytes field → IfSome (uuid_of field) (λ n. n < 2 ^ 128) × SpellsUuid (uuid_of field) field
uuid_spelled [] sized bytes = absurd cc
uuid_spelled (suc m ∷ halves) sized bytes = (tt, ((λ z. cc), omega (arith, sized)))
uuid_spelled (zero ∷ halves) sized bytes =
    let rest : IsBytes halves = All-tail (λ byte. byte < 256) zero halves bytes in
    let front : IsBytes (take 8 halves) = All-take (λ byte. byte < 256) 8 halves rest in
    let back : IsBytes (drop 8 halves) = All-drop (λ byte. byte < 256) 8 halves rest in
    let high : ℕ = from_le_bytes w64 (take 8 halves) in
    let low : ℕ = from_le_bytes w64 (drop 8 halves) in
    let h : high < 2 ^ 64 = below_64 (take 8 halves) (byte_at (take 8 halves) front) in
    let l : low < 2 ^ 64 = below_64 (drop 8 halves) (byte_at (drop 8 halves) back) in
    let apart = halves_of high low h l in
    let first = ap (to_le_bytes w64) apart.0 ∙ half_spelled (take 8 halves) (omega (arith, sized, length-take 8 halves)) front in
    let second = ap (to_le_bytes w64) apart.1 ∙ half_spelled (drop 8 halves) (omega (arith, sized, length-drop 8 halves)) back in
    (omega (arith, h, l), sym ((λ i. (0 ∷ first i) ++ second i) ∙ ap (λ (t : List ℕ). 0 ∷ t) (take-append-drop 8 halves)))

pub uuid_is : (payload : List ℕ) (at : ℕ) (uuid : Option ℕ) → IsBytes payload → uuid_at payload at ≡ Some uuid → IsUuid payload at uuid
uuid_is payload at uuid bytes e = go (leb (at + 17) (length payload)) refl e
  where
    field : List ℕ
    field = take 17 (drop at payload)

    go : (b : Bool) → leb (at + 17) (length payload) ≡ b → option_map uuid_of (cond b (Some field) None) ≡ Some uuid → IsUuid payload at uuid
    go true there s =
        let same : uuid_of field ≡ uuid = cc in
        let is = uuid_spelled field (field_length 17 at payload there) (field_is_bytes 17 at payload bytes) in
        subst (IsUuid payload at) same (record { room = leb-true (at + 17) (length payload) there; fits = is.0; spelled = is.1 })
    go false there s = absurd cc

-- a front and the part after it
pub take_on : (i k : ℕ) (bytes : List ℕ) → take i bytes ++ take k (drop i bytes) ≡ take (i + k) bytes
take_on i k bytes =
    ap (λ (t : List ℕ). t ++ take k (drop i bytes)) (sym (take-take i (i + k) bytes (omega arith)))
    ∙ ap (λ (t : List ℕ). take i (take (i + k) bytes) ++ t) (sym (drop-take i k bytes))
    ∙ take-append-drop i (take (i + k) bytes)
