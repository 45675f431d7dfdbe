-- A byte that passes a test is a format.
use Rattle.std.proofs.Common.{◌≡◌, ℕ, ◌+◌, Bool, true, false, cond, List, [], ◌∷◌, ◌++◌, length, take, Result, Ok, Err, refl, sym, ap, subst, ◌∙◌, ⊎_elim, add-zero, length-append, arith}
use Rattle.std.specs.Prelude.{if◌then◌else◌}
use Rattle.std.proofs.lemmas.Bool.{false≢true}
use Rattle.wire_parts.specs.declared.refusal.WireRefused.{WireRefused}
use Rattle.wire_parts.specs.declared.refusal.WireRefused.TheVariants.{Order}
use Rattle.wire_parts.specs.Places.{Place}
use Rattle.wire_parts.specs.Parts.{IsByte, byte_at}
use Rattle.member_wire.specs.Reading.{fitting_at}
use Rattle.wire_parts.proofs.Formats.{IsBytes, place, Begins, BeginsNone, FailsAt, Fault, Takes, IsFormat, Spells}
use Rattle.wire_parts.proofs.Following.{bind_ok, bind_err}
use Rattle.wire_parts.proofs.PartFormats.{SpellsByte, byte_format, no_byte}

-- ---- a byte that passes a test

abbrev pub Fitting : (ℕ → Bool) → ℕ → Type 0
Fitting fits byte = IsByte byte × (fits byte ≡ true)

abbrev pub SpellsFitting : (ℕ → Bool) → ℕ → List ℕ → Type 0
SpellsFitting fits = Spells (Fitting fits) (λ byte. byte ∷ [])

test_ok : {A : Type 0} (b : Bool) (d : WireRefused) (x y : A) → cond b (Ok x) (Err d) ≡ Ok y → (b ≡ true) × (x ≡ y)
test_ok true d x y e = (refl, cc)
test_ok false d x y e = absurd cc

test_err : {A : Type 0} (b : Bool) (d e : WireRefused) (x : A) → cond b (Ok x) (Err d) ≡ Err e → (b ≡ false) × (d ≡ e)
test_err true d e x is = absurd cc
test_err false d e x is = (refl, cc)

module _ (fits : ℕ → Bool) (some : (byte : ℕ) × IsByte byte × (fits byte ≡ true)) where
  abbrev tested : Place → ℕ × Place → Result (ℕ × Place) WireRefused
  tested p byte = if fits byte.0 then Ok byte else Err (Order p.at)

  some_fitting : Begins (SpellsFitting fits) []
  some_fitting = record { value = some.0; text = some.0 ∷ []; spells = record { fits = (some.1, some.2); is = refl }; rest = some.0 ∷ []; whole = refl }

  fitting_taken : (p q : Place) (byte : ℕ) → IsBytes p.rest → fitting_at fits p ≡ Ok (byte, q) → Takes (SpellsFitting fits) p byte q
  fitting_taken p q byte are e =
      let x = bind_ok (byte_at p) (tested p) (byte, q) e in
      let t = byte_format.reads.takes p x.0.1 x.0.0 are x.1 in
      let g = test_ok (fits x.0.0) (Order p.at) x.0 (byte, q) x.2 in
      subst (λ (got : ℕ × Place). Takes (SpellsFitting fits) p got.0 got.1) g.1
      (record { text = t.text; spells = record { fits = (t.spells.fits, g.0); is = t.spells.is }; parts = t.parts; moved = t.moved; bytes = t.bytes })

  fitting_again : (at byte : ℕ) (text rest : List ℕ) → SpellsFitting fits byte text → fitting_at fits (place at (text ++ rest)) ≡ Ok (byte, place (at + length text) rest)
  fitting_again at byte text rest s = let passes : fits byte ≡ true = s.fits.1 in rw s.is (rw passes refl)

  -- a byte that fails the test begins nothing
  none_fitting : (p q : Place) (byte : ℕ) → fits byte ≡ false → Takes SpellsByte p byte q → BeginsNone (SpellsFitting fits) (take 1 p.rest)
  none_fitting p q byte fails t c text u w s same =
      let front : take 1 p.rest ≡ byte ∷ [] = ap (take 1) (t.parts ∙ ap (λ (x : List ℕ). x ++ q.rest) t.spells.is) in
      let whole : byte ∷ u ≡ c ∷ w = ap (λ (x : List ℕ). x ++ u) (sym front) ∙ same ∙ ap (λ (x : List ℕ). x ++ w) s.is in
      let one : byte ≡ c = cc in
      false≢true (sym fails ∙ ap fits one ∙ s.fits.1)

  out_of_order : (p q : Place) (byte : ℕ) → fits byte ≡ false → Takes SpellsByte p byte q → FailsAt (SpellsFitting fits) p p.at
  out_of_order p q byte fails t = record {
    before = 0;
    is_at = sym (add-zero p.at);
    within = omega (arith, ap length t.parts, length-append t.text q.rest, ap length t.spells.is);
    begins = some_fitting;
    no_more = none_fitting p q byte fails t;
  }

  fitting_fault : (p : Place) (e : WireRefused) → IsBytes p.rest → fitting_at fits p ≡ Err e → Fault (SpellsFitting fits) p e
  fitting_fault p e are is =
      ⊎_elim (λ first. no_byte (SpellsFitting fits) some_fitting p.at p.rest e first)
      (λ second.
      let t = byte_format.reads.takes p second.0.1 second.0.0 are second.1 in
      let g = test_err (fits second.0.0) (Order p.at) e second.0 second.2 in
      subst (Fault (SpellsFitting fits) p) g.1 (out_of_order p second.0.1 second.0.0 g.0 t))
      (bind_err (byte_at p) (tested p) e is)

  pub fitting_format : IsFormat (fitting_at fits) (SpellsFitting fits)
  fitting_format = record { reads = record { takes = fitting_taken; again = fitting_again }; some = some_fitting; faults = fitting_fault }
