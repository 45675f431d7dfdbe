-- A kind, whose byte has to be that of one, is read as it is spelled.
use Rattle.std.proofs.Common.{◌≡◌, ℕ, ◌+◌, ◌==◌, List, [], ◌∷◌, ◌++◌, length, Option, Some, None, Result, Ok, Err, refl, sym, ap, subst, ◌∙◌, arith}
use Rattle.std.specs.Prelude.{true}
use Rattle.std.specs.List.{find}
use Rattle.std.proofs.lemmas.Bool.{cond_both}
use Rattle.std.proofs.lemmas.Bool.Decides.{nat_tests}
use Rattle.wire_parts.specs.declared.refusal.WireRefused.{WireRefused}
use Rattle.wire_parts.specs.Places.{Place}
use Rattle.wire_parts.specs.Parts.{◌>>=◌, byte_at}
use Rattle.wire_parts.proofs.Formats.{IsBytes, place, ok_is, Takes, Reads, Spells}
use Rattle.wire_parts.proofs.Following.{bind_ok}
use Rattle.wire_parts.proofs.PartFormats.{byte_format}
use Rattle.master_wire.specs.Reading.{known, kind_at}

module _ {K : Type 0} (byte_of : K → ℕ) (all : List K) where
  abbrev pub SpellsKind : K → List ℕ → Type 0
  SpellsKind = Spells (λ _. Unit {0}) (λ kind. byte_of kind ∷ [])

  -- the kind that a byte stands for
  abbrev pub of_byte : ℕ → Option K
  of_byte byte = find (λ kind. byte_of kind == byte) all

  find_passes : (byte : ℕ) (ks : List K) (k : K) → find (λ kind. byte_of kind == byte) ks ≡ Some k → (byte_of k == byte) ≡ true
  find_passes byte [] k found = cc
  find_passes byte (x ∷ ks) k found =
      let later = find_passes byte ks k in
      cond_both (byte_of x == byte) (Some x) (find (λ kind. byte_of kind == byte) ks) (λ o. o ≡ Some k → (byte_of k == byte) ≡ true) (λ passes e. let same : k ≡ x = cc in ap (λ z. byte_of z == byte) same ∙ passes) (λ _ e. later e) found

  byte_is : (byte : ℕ) (k : K) → of_byte byte ≡ Some k → byte ≡ byte_of k
  byte_is byte k e = let same = find_passes byte all k e in grind (arith, nat_tests)

  known_ok : (at : ℕ) (o : Option K) (p q : Place) (k : K) → known at o p ≡ Ok (k, q) → (o ≡ Some k) × (p ≡ q)
  known_ok at None p q k e = absurd cc
  known_ok at (Some kind) p q k e =
      let pair = ok_is (kind, p) (k, q) e in
      (ap (λ (got : K × Place). Some got.0) pair, ap (λ (got : K × Place). got.1) pair)

  kind_taken : (p q : Place) (k : K) → IsBytes p.rest → kind_at of_byte p ≡ Ok (k, q) → Takes SpellsKind p k q
  kind_taken p q k are e =
      let x = bind_ok (byte_at p) (λ byte. known p.at (of_byte byte.0) byte.1) (k, q) e in
      let t = byte_format.reads.takes p x.0.1 x.0.0 are x.1 in
      let is = known_ok p.at (of_byte x.0.0) x.0.1 q k x.2 in
      subst (Takes SpellsKind p k) is.1
      (record { text = t.text; spells = record { fits = tt; is = t.spells.is ∙ ap (λ (b : ℕ). b ∷ []) (byte_is x.0.0 k is.0) }; parts = t.parts; moved = t.moved; bytes = t.bytes })

  -- each kind stands among all
  pub reads_kind : ((k : K) → of_byte (byte_of k) ≡ Some k) → Reads (kind_at of_byte) SpellsKind
  reads_kind each = record { takes = kind_taken; again = again }
    where
      again : (at : ℕ) (k : K) (text rest : List ℕ) → SpellsKind k text → kind_at of_byte (place at (text ++ rest)) ≡ Ok (k, place (at + length text) rest)
      again at k text rest s = rw (s.is, each k) refl
