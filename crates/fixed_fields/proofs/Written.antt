-- A field that was appended is read back.
use Rattle.std.proofs.Common.{◌≡◌, ℕ, zero, suc, ◌+◌, ◌/◌, ◌%◌, ◌^◌, ◌<◌, ◌≤◌, ℤ, pos, SFits, List, [], ◌∷◌, ◌++◌, length, take, drop, Option, Some, None, option_map, refl, sym, ap, ◌∙◌, append_assoc, arith, length-append}
use Rattle.std.specs.Prelude.{IfSome}
use Rattle.std.specs.Int.{w32, w64, cast_unsigned, to_le_bytes}
use Rattle.std.proofs.Math.Facts.{Fits-of_z}
use Rattle.std.proofs.Math.Nat.{div-add-mod, mod-lt}
use Rattle.std.proofs.lemmas.Int.{to_z-of_z}
use Rattle.std.proofs.lemmas.Nat.{from_le_bytes-to_le_bytes_4, from_le_bytes-to_le_bytes_8}
use Rattle.std.proofs.Math.Seq.{drop-append_seam, take-append_seam}
use Rattle.std.proofs.lemmas.Bool.{le-leb}
use Rattle.fixed_fields.specs.Fields.{field_at, int32_at, int32_of, int32_bytes, int64_at, int64_of, int64_bytes, uuid_at, uuid_of, uuid_bytes, joined_halves, ReadsBack}
use Rattle.fixed_fields.specs.Requests.{kind_of}
use Rattle.fixed_fields.specs.Spelled.{SpellsUuid}

pub field_at-written : (old bytes behind : List ℕ) → field_at (length bytes) ((old ++ bytes) ++ behind) (length old) ≡ Some bytes
field_at-written old bytes behind =
    let room : length old + length bytes ≤ length ((old ++ bytes) ++ behind) = omega (arith, length-append (old ++ bytes) behind, length-append old bytes) in
    let fits = le-leb (length old + length bytes) (length ((old ++ bytes) ++ behind)) room in
    let found : take (length bytes) (drop (length old) ((old ++ bytes) ++ behind)) ≡ bytes = rw (append_assoc, drop-append_seam, take-append_seam) refl in
    rw (fits, found) refl

pub int64_read : (old new bytes : List ℕ) (n : ℤ) → SFits w64 n → new ≡ old ++ bytes → bytes ≡ int64_bytes n → ReadsBack int64_at old new n
int64_read old new bytes n fits appended spelled behind =
    let same : int64_of (int64_bytes n) ≡ n = rw (from_le_bytes-to_le_bytes_8 (cast_unsigned w64 n) (Fits-of_z fits).fits) (to_z-of_z w64 n fits) in
    rw (appended, spelled) (ap (option_map int64_of) (field_at-written old (int64_bytes n) behind) ∙ ap Some same)

pub int32_read : (old behind : List ℕ) (n : ℤ) → SFits w32 n → int32_at ((old ++ int32_bytes n) ++ behind) (length old) ≡ Some n
int32_read old behind n fits =
    let same : int32_of (int32_bytes n) ≡ n = rw (from_le_bytes-to_le_bytes_4 (cast_unsigned w32 n) (Fits-of_z fits).fits) (to_z-of_z w32 n fits) in
    ap (option_map int32_of) (field_at-written old (int32_bytes n) behind) ∙ ap Some same

-- a message's type, at its beginning
pub kind_read : (kind : ℕ) (behind : List ℕ) → kind < 2 ^ 31 → kind_of (to_le_bytes w32 kind ++ behind) ≡ Some kind
kind_read kind behind small = ap (option_map (cast_unsigned w32)) (int32_read [] behind (pos kind) (record { sfits = small }))

joined-halves : (uuid : ℕ) → uuid < 2 ^ 128 → joined_halves (to_le_bytes w64 (uuid / 2 ^ 64) ++ to_le_bytes w64 (uuid % 2 ^ 64)) ≡ uuid
joined-halves uuid fits =
    let high : uuid / 2 ^ 64 < 2 ^ 64 = omega (arith, fits, div-add-mod uuid (2 ^ 64)) in
    let low : uuid % 2 ^ 64 < 2 ^ 64 = mod-lt uuid (omega arith) in
    rw (from_le_bytes-to_le_bytes_8 (uuid / 2 ^ 64) high, from_le_bytes-to_le_bytes_8 (uuid % 2 ^ 64) low) (omega (arith, div-add-mod uuid (2 ^ 64)))

-- a UUID, or that there is none, however that is spelled
pub uuid_read : (old field behind : List ℕ) (uuid : Option ℕ) → IfSome uuid (λ n. n < 2 ^ 128) → SpellsUuid uuid field → uuid_at ((old ++ field) ++ behind) (length old) ≡ Some uuid
uuid_read old field behind (Some n) fits spelled =
    ap (λ (f : List ℕ). uuid_at ((old ++ f) ++ behind) (length old)) spelled
    ∙ ap (option_map uuid_of) (field_at-written old (uuid_bytes (Some n)) behind)
    ∙ ap (λ (k : ℕ). Some (Some k)) (joined-halves n fits)
uuid_read old [] behind None fits spelled = absurd spelled
uuid_read old (zero ∷ halves) behind None fits spelled = absurd (spelled.0 refl)
uuid_read old (suc m ∷ halves) behind None fits spelled =
    let field : List ℕ = suc m ∷ halves in
    let sized : length field ≡ 17 = omega (arith, spelled.1) in
    ap (λ (size : ℕ). option_map uuid_of (field_at size ((old ++ field) ++ behind) (length old))) (sym sized)
    ∙ ap (option_map uuid_of) (field_at-written old field behind)
