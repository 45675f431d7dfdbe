-- Numbers of eight and of sixteen bytes are read as they are spelled.
use Rattle.std.proofs.Common.{◌≡◌, ℕ, ◌+◌, ◌^◌, ◌<◌, ◌≤◌, false, ltb, List, ◌++◌, length, take, drop, Ok, refl, sym, ap, subst, ◌∙◌, length-append, arith}
use Rattle.std.specs.Int.{Width, w64, w128, byte_len, to_le_bytes, from_le_bytes}
use Rattle.std.proofs.lemmas.Bool.{ltb-false, le-ltb}
use Rattle.std.proofs.lemmas.List.{take_at, drop_at, take-append-drop, length-take}
use Rattle.wire_parts.specs.declared.refusal.WireRefused.TheVariants.{Short}
use Rattle.wire_parts.specs.Places.{Place}
use Rattle.wire_parts.specs.Parts.{number_at}
use Rattle.wire_parts.proofs.Formats.{IsBytes, place, Takes, Reads, Spells}
use Rattle.wire_parts.proofs.PartFormats.{IsBytes-take, IsBytes-drop, guard_ok}
use Rattle.wire_parts.proofs.LowFirst.{summed_fits, written-summed, summed-written}

-- what a width's bytes and numbers have to do with one another
record IsBytewise (w : Width) (top : ℕ) : Type 0 where
  fits : (bytes : List ℕ) → IsBytes bytes → length bytes ≡ byte_len w → from_le_bytes w bytes < top
  written : (bytes : List ℕ) → IsBytes bytes → length bytes ≡ byte_len w → to_le_bytes w (from_le_bytes w bytes) ≡ bytes
  back : (n : ℕ) → n < top → from_le_bytes w (to_le_bytes w n) ≡ n
  long : (n : ℕ) → length (to_le_bytes w n) ≡ byte_len w

module _ (w : Width) (top : ℕ) (b : IsBytewise w top) where
  abbrev SpellsIt : ℕ → List ℕ → Type 0
  SpellsIt = Spells (λ n. n < top) (to_le_bytes w)

  taken : (p q : Place) (n : ℕ) → IsBytes p.rest → number_at w p ≡ Ok (n, q) → Takes SpellsIt p n q
  taken p q n bytes e =
      let front = take (byte_len w) p.rest in
      let g = guard_ok (ltb (length p.rest) (byte_len w)) (Short p.at) (from_le_bytes w front, place (p.at + byte_len w) (drop (byte_len w) p.rest)) (n, q) e in
      let enough : byte_len w ≤ length p.rest = ltb-false _ _ g.0 in
      let len : length front ≡ byte_len w = omega (arith, length-take (byte_len w) p.rest) in
      let are = IsBytes-take (byte_len w) p.rest bytes in
      subst (λ (got : ℕ × Place). Takes SpellsIt p got.0 got.1) g.1
      (record {
        text = front;
        spells = record { fits = b.fits front are len; is = sym (b.written front are len) };
        parts = sym (take-append-drop (byte_len w) p.rest);
        moved = omega (arith, len);
        bytes = IsBytes-drop (byte_len w) p.rest bytes;
      })

  text_again : (at n : ℕ) (text rest : List ℕ) → length text ≡ byte_len w → from_le_bytes w text ≡ n → number_at w (place at (text ++ rest)) ≡ Ok (n, place (at + byte_len w) rest)
  text_again at n text rest len is =
      let enough : ltb (length (text ++ rest)) (byte_len w) ≡ false = le-ltb _ _ (omega (arith, length-append text rest)) in
      rw (enough, take_at text rest (byte_len w) len, drop_at text rest (byte_len w) len, is) refl

  again : (at n : ℕ) (text rest : List ℕ) → SpellsIt n text → number_at w (place at (text ++ rest)) ≡ Ok (n, place (at + length text) rest)
  again at n text rest s =
      let len : length text ≡ byte_len w = ap length s.is ∙ b.long n in
      let back : from_le_bytes w text ≡ n = ap (from_le_bytes w) s.is ∙ b.back n s.fits in
      rw len (text_again at n text rest len back)

  reads_bytewise : Reads (number_at w) SpellsIt
  reads_bytewise = record { takes = taken; again = again }

-- ---- the two widths

long_bytewise : IsBytewise w64 (2 ^ 64)
long_bytewise = record {
  fits = λ bytes are len. summed_fits 7 bytes are len;
  written = λ bytes are len. written-summed 7 bytes are len;
  back = λ n small. summed-written 7 n small;
  long = λ n. refl;
}

wide_bytewise : IsBytewise w128 (2 ^ 128)
wide_bytewise = record {
  fits = λ bytes are len. summed_fits 15 bytes are len;
  written = λ bytes are len. written-summed 15 bytes are len;
  back = λ n small. summed-written 15 n small;
  long = λ n. refl;
}

abbrev pub SpellsLong : ℕ → List ℕ → Type 0
SpellsLong = Spells (λ n. n < 2 ^ 64) (to_le_bytes w64)

pub reads_long : Reads (number_at w64) SpellsLong
reads_long = reads_bytewise w64 (2 ^ 64) long_bytewise

abbrev pub SpellsWide : ℕ → List ℕ → Type 0
SpellsWide = Spells (λ n. n < 2 ^ 128) (to_le_bytes w128)

pub reads_wide : Reads (number_at w128) SpellsWide
reads_wide = reads_bytewise w128 (2 ^ 128) wide_bytewise
