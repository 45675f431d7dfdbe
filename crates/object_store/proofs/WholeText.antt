-- What is read of the whole of some bytes, up to their end.
use Rattle.std.proofs.Common.{◌≡◌, ℕ, ◌+◌, Bool, true, false, cond, eqb, List, [], ◌++◌, length, Result, Ok, Err, refl, sym, ap, subst, ◌∙◌}
use Rattle.std.proofs.lemmas.Bool.{eqb-true}
use Rattle.std.proofs.lemmas.List.{append-nil, nil_from_length}
use Rattle.wire_parts.specs.declared.refusal.WireRefused.{WireRefused}
use Rattle.wire_parts.specs.declared.refusal.WireRefused.TheVariants.{Rest}
use Rattle.wire_parts.specs.Places.{Place, start}
use Rattle.wire_parts.specs.Parts.{◌>>=◌, end_at}
use Rattle.wire_parts.proofs.Formats.{IsBytes, Reader, Reads, place, ok_is}
use Rattle.wire_parts.proofs.Following.{bind_ok}

ended_ok : (b : Bool) (at : ℕ) (p q : Place) → cond b (Ok p) (Err (Rest at)) ≡ Ok q → b ≡ true
ended_ok true at p q e = refl
ended_ok false at p q e = absurd cc

module _ {C D : Type 0} (make : C → D) (R : Reader C) (S : C → List ℕ → Type 0) (r : Reads R S) where
  abbrev ending : C × Place → Result D WireRefused
  ending c = end_at c.1 >>= λ end. Ok (make c.0)

  abbrev whole : List ℕ → Result D WireRefused
  whole bytes = R (start bytes) >>= ending

  pub whole_found : (bytes : List ℕ) (d : D) → IsBytes bytes → whole bytes ≡ Ok d → (c : C) × (make c ≡ d) × S c bytes
  whole_found bytes d are e =
      let x = bind_ok (R (start bytes)) ending d e in
      let end = bind_ok (end_at x.0.1) (λ p. Ok (make x.0.0)) d x.2 in
      let nothing : x.0.1.rest ≡ [] = nil_from_length x.0.1.rest (eqb-true _ _ (ended_ok (eqb (length x.0.1.rest) 0) x.0.1.at x.0.1 end.0 end.1)) in
      let t = r.takes (start bytes) x.0.1 x.0.0 are x.1 in
      let same : bytes ≡ t.text = t.parts ∙ ap (λ (rest : List ℕ). t.text ++ rest) nothing ∙ append-nil t.text in
      (x.0.0, ok_is (make x.0.0) d end.2, subst (S x.0.0) (sym same) t.spells)

  pub whole_again : (c : C) (text : List ℕ) → S c text → whole text ≡ Ok (make c)
  whole_again c text s =
      let read : R (place 0 text) ≡ Ok (c, place (0 + length text) []) = ap (λ (t : List ℕ). R (place 0 t)) (sym (append-nil text)) ∙ r.again 0 c text [] s in
      ap (λ (got : Result (C × Place) WireRefused). got >>= ending) read
