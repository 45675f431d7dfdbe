-- Bytes behind their length are a format.
use Rattle.std.proofs.Common.{◌≡◌, ℕ, ◌+◌, ◌-◌, ◌<◌, ◌≤◌, false, ltb, List, [], ◌++◌, length, take, drop, Result, Ok, Err, refl, sym, ap, subst, ◌∙◌, ⊎_elim, append_assoc, length-append, arith}
use Rattle.std.specs.Prelude.{if◌then◌else◌}
use Rattle.std.specs.Int.{w32}
use Rattle.std.proofs.lemmas.Bool.{ltb-false, ltb-true, le-ltb}
use Rattle.std.proofs.lemmas.List.{take_at, drop_at, take-append-drop, length-take}
use Rattle.wire_parts.specs.declared.refusal.WireRefused.{WireRefused}
use Rattle.wire_parts.specs.declared.refusal.WireRefused.TheVariants.{Short}
use Rattle.wire_parts.specs.Places.{Place}
use Rattle.wire_parts.specs.Parts.{IsNumber, number_at, number, sized, sized_at}
use Rattle.wire_parts.proofs.Formats.{IsBytes, place, gives, Begins, Fault, Takes, IsFormat, Spells}
use Rattle.wire_parts.proofs.Following.{bind_ok, bind_err}
use Rattle.wire_parts.proofs.PartFormats.{IsBytes-drop, zeros, length-zeros, guard_ok, guard_err, SpellsNumber, number_begun, number_taken, number_again}

abbrev pub SpellsSized : List ℕ → List ℕ → Type 0
SpellsSized = Spells (λ bytes. IsNumber (length bytes)) sized

-- so many bytes behind their number
counted : (n : ℕ) (head bytes : List ℕ) → SpellsNumber n head → length bytes ≡ n → SpellsSized bytes (head ++ bytes)
counted n head bytes s len = record { fits = rw len s.fits; is = ap (λ (h : List ℕ). h ++ bytes) (s.is ∙ ap number (sym len)) }

-- the bytes of a length that is spelled so
abbrev behind : Place → ℕ × Place → Result (List ℕ × Place) WireRefused
behind p n = if ltb (length n.1.rest) n.0 then Err (Short p.at) else Ok (take n.0 n.1.rest, place (n.1.at + n.0) (drop n.0 n.1.rest))

behind_taken : (p : Place) (n : ℕ × Place) (t : Takes SpellsNumber p n.0 n.1) → n.0 ≤ length n.1.rest → Takes SpellsSized p (take n.0 n.1.rest) (place (n.1.at + n.0) (drop n.0 n.1.rest))
behind_taken p n t enough =
    let bytes = take n.0 n.1.rest in
    let len : length bytes ≡ n.0 = omega (arith, length-take n.0 n.1.rest) in
    record {
      text = t.text ++ bytes;
      spells = counted n.0 t.text bytes t.spells len;
      parts = t.parts ∙ ap (λ (r : List ℕ). t.text ++ r) (sym (take-append-drop n.0 n.1.rest)) ∙ sym (append_assoc t.text bytes (drop n.0 n.1.rest));
      moved = omega (arith, t.moved, len, length-append t.text bytes);
      bytes = IsBytes-drop n.0 n.1.rest t.bytes;
    }

sized_taken : (p q : Place) (bytes : List ℕ) → IsBytes p.rest → sized_at p ≡ Ok (bytes, q) → Takes SpellsSized p bytes q
unfolding sized_at
sized_taken p q bytes are e =
    let n = bind_ok (number_at w32 p) (behind p) (bytes, q) e in
    let t = number_taken p n.0.1 n.0.0 are n.1 in
    let g = guard_ok (ltb (length n.0.1.rest) n.0.0) (Short p.at) (take n.0.0 n.0.1.rest, place (n.0.1.at + n.0.0) (drop n.0.0 n.0.1.rest)) (bytes, q) n.2 in
    subst (λ (got : List ℕ × Place). Takes SpellsSized p got.0 got.1) g.1 (behind_taken p n.0 t (ltb-false _ _ g.0))

sized_behind : (at n : ℕ) (head bytes rest : List ℕ) → SpellsNumber n head → length bytes ≡ n → sized_at (place at (head ++ (bytes ++ rest))) ≡ Ok (bytes, place (at + length head + n) rest)
unfolding sized_at
sized_behind at n head bytes rest s len =
    let enough : ltb (length (bytes ++ rest)) n ≡ false = le-ltb _ _ (omega (arith, length-append bytes rest)) in
    rw (number_again at n head (bytes ++ rest) s, enough, take_at bytes rest n len, drop_at bytes rest n len) refl

sized_again : (at : ℕ) (bytes text rest : List ℕ) → SpellsSized bytes text → sized_at (place at (text ++ rest)) ≡ Ok (bytes, place (at + length text) rest)
sized_again at bytes text rest s =
    let head = number (length bytes) in
    let grouped : text ++ rest ≡ head ++ (bytes ++ rest) = ap (λ (t : List ℕ). t ++ rest) s.is ∙ append_assoc head bytes rest in
    let ends : at + length head + length bytes ≡ at + length text = omega (arith, ap length s.is, length-append head bytes) in
    ap (λ (t : List ℕ). sized_at (place at t)) grouped ∙ sized_behind at (length bytes) head bytes rest (record { fits = s.fits; is = refl }) refl ∙ ap (λ (k : ℕ). gives bytes (place k rest)) ends

-- where the length ends early, zeros complete it and the bytes that it counts
short_length : (rest : List ℕ) → IsBytes rest → length rest < 4 → Begins SpellsSized rest
short_length rest are few =
    let b = number_begun rest are few in
    let more = zeros b.value in
    record { value = more; text = b.text ++ more; spells = counted b.value b.text more b.spells (length-zeros b.value); rest = b.rest ++ more; whole = sym (append_assoc rest b.rest more) ∙ ap (λ (t : List ℕ). t ++ more) b.whole }

-- and where the bytes end early, they complete those
short_bytes : (p : Place) (n : ℕ × Place) (t : Takes SpellsNumber p n.0 n.1) → length n.1.rest < n.0 → Begins SpellsSized p.rest
short_bytes p n t few =
    let more = zeros (n.0 - length n.1.rest) in
    let bytes = n.1.rest ++ more in
    let len : length bytes ≡ n.0 = omega (arith, length-append n.1.rest more, length-zeros (n.0 - length n.1.rest)) in
    record { value = bytes; text = t.text ++ bytes; spells = counted n.0 t.text bytes t.spells len; rest = more; whole = ap (λ (r : List ℕ). r ++ more) t.parts ∙ append_assoc t.text n.1.rest more }

is_short : (p : Place) (e : WireRefused) → Short p.at ≡ e → Begins SpellsSized p.rest → Fault SpellsSized p e
is_short p e same begins = subst (Fault SpellsSized p) same (record { from = omega arith; to = omega arith; begins = begins })

sized_fault : (p : Place) (e : WireRefused) → IsBytes p.rest → sized_at p ≡ Err e → Fault SpellsSized p e
unfolding sized_at
sized_fault p e are is =
    ⊎_elim (λ first.
    let g = guard_err (ltb (length p.rest) 4) (Short p.at) e _ first in
    is_short p e g.1 (short_length p.rest are (ltb-true _ _ g.0)))
    (λ second.
    let g = guard_err (ltb (length second.0.1.rest) second.0.0) (Short p.at) e _ second.2 in
    is_short p e g.1 (short_bytes p second.0 (number_taken p second.0.1 second.0.0 are second.1) (ltb-true _ _ g.0)))
    (bind_err (number_at w32 p) (behind p) e is)

pub sized_format : IsFormat sized_at SpellsSized
sized_format = record {
  reads = record { takes = sized_taken; again = sized_again };
  some = short_length [] (λ i. omega arith) (omega arith);
  faults = sized_fault;
}
