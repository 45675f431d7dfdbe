-- Reading by a test: one way or another, or a value that has to pass.
use Rattle.std.proofs.Common.{◌≡◌, ℕ, Bool, true, false, List, [], ◌++◌, Ok, Err, refl, sym, ap, subst, ◌∙◌, ◌⊎◌, ⊎_elim, inl, inr}
use Rattle.std.specs.Prelude.{if◌then◌else◌}
use Rattle.std.proofs.lemmas.List.{append-nil}
use Rattle.wire_parts.specs.declared.refusal.WireRefused.{WireRefused}
use Rattle.wire_parts.specs.Parts.{◌>>=◌}
use Rattle.wire_parts.proofs.Formats.{Reader, Reads, reads_as}
use Rattle.wire_parts.proofs.Following.{Follows, IsDone, reads_ended, reads_behind}

-- nothing is read
pub reads_refused : {C : Type 0} (e : WireRefused) → Reads {C = C} (λ p. Err e) (λ c text. ⊥)
reads_refused e = record { takes = λ p q c bytes is. absurd cc; again = λ at c text rest s. absurd s }

-- the way that the test leads
abbrev pub Either : {C : Type 0} → Bool → (C → List ℕ → Type 0) → (C → List ℕ → Type 0) → C → List ℕ → Type 0
Either b S T c text = ((b ≡ true) × S c text) ⊎ ((b ≡ false) × T c text)

pub reads_if : {C : Type 0} (b : Bool) (R : Reader C) (S : C → List ℕ → Type 0) (Q : Reader C) (T : C → List ℕ → Type 0) → Reads R S → Reads Q T → Reads (λ p. if b then R p else Q p) (Either b S T)
reads_if true R S Q T r q = reads_as R S (Either true S T) (λ c text s. inl (refl, s)) (λ c text s. ⊎_elim (λ h. h.1) (λ h. absurd cc) s) r
reads_if false R S Q T r q = reads_as Q T (Either false S T) (λ c text s. inr (refl, s)) (λ c text s. ⊎_elim (λ h. absurd cc) (λ h. h.1) s) q

-- a value that passes a test
pub record Passes {C : Type 0} (passes : C → Bool) (S : C → List ℕ → Type 0) (c : C) (text : List ℕ) : Type 0 where
  pub spells : S c text
  pub test : passes c ≡ true

module _ {C : Type 0} (passes : C → Bool) (refused : ℕ → WireRefused) (R : Reader C) (S : C → List ℕ → Type 0) where
  abbrev checked : Reader C
  checked p = R p >>= λ x. if passes x.0 then Ok x else Err (refused p.at)

  abbrev Parts : C → List ℕ → Type 0
  Parts = Follows S (λ a. Either (passes a) (IsDone a) (λ c text. ⊥))

  to_passes : (c : C) (text : List ℕ) → Parts c text → Passes passes S c text
  to_passes c text s =
      ⊎_elim
      (λ one.
      let same : text ≡ s.front = s.whole ∙ ap (λ (t : List ℕ). s.front ++ t) one.1.empty ∙ append-nil s.front in
      subst (λ (x : C). Passes passes S x text) (sym one.1.value) (record { spells = subst (S s.first) (sym same) s.is_front; test = one.0 }))
      (λ two. absurd two.1) s.is_back

  from_passes : (c : C) (text : List ℕ) → Passes passes S c text → Parts c text
  from_passes c text s = record { first = c; front = text; back = []; is_front = s.spells; is_back = inl (s.test, record { value = refl; empty = refl }); whole = sym (append-nil text) }

  pub reads_checked : Reads R S → Reads (λ p. R p >>= λ x. if passes x.0 then Ok x else Err (refused p.at)) (Passes passes S)
  reads_checked r =
      reads_as checked Parts (Passes passes S) to_passes from_passes
      (reads_behind R S (λ at a q. if passes a then Ok (a, q) else Err (refused at)) (λ a. Either (passes a) (IsDone a) (λ c text. ⊥)) r
      (λ at a text s. reads_if (passes a) (λ q. Ok (a, q)) (IsDone a) (λ q. Err (refused at)) (λ c text. ⊥) (reads_ended a) (reads_refused (refused at))))
