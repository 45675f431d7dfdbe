-- Numbers of eight bytes in a payload, one behind the other.
use Rattle.std.proofs.Common.{◌≡◌, ℕ, ◌+◌, ◌≤◌, ℤ, List, [], ◌∷◌, ◌++◌, length, take, drop, All, Some, refl, sym, ap, subst, ◌∙◌, arith, length-append, append_assoc}
use Rattle.std.specs.List.{flat_map}
use Rattle.std.specs.Int.{w64}
use Rattle.std.specs.Int.RustNames.{FitsSigned}
use Rattle.std.proofs.lemmas.List.{drop-drop}
use Rattle.std.proofs.lemmas.List.Elements.{All-nil, All-cons, All-head, All-tail}
use Rattle.frame_codec.specs.Laws.{IsBytes}
use Rattle.fixed_fields.specs.Fields.{int64_at, int64_bytes}
use Rattle.fixed_fields.proofs.ReadFields.{int64_is, take_on}
use Rattle.fixed_fields.proofs.Written.{int64_read}

abbrev pub spelled : List ℤ → List ℕ
spelled numbers = flat_map int64_bytes numbers

-- The numbers are read at a place and behind it.
abbrev pub StandAt : List ℕ → ℕ → List ℤ → Type 0
StandAt payload at [] = Unit {0}
StandAt payload at (number ∷ numbers) = (int64_at payload at ≡ Some number) × StandAt payload (at + 8) numbers

-- ---- read, so spelled

pub record AreSpelled (payload : List ℕ) (at : ℕ) (numbers : List ℤ) : Type 0 where
  pub room : at + length (spelled numbers) ≤ length payload
  pub fit : All (FitsSigned w64) numbers
  pub fields : spelled numbers ≡ take (length (spelled numbers)) (drop at payload)

pub spelled_at : (payload : List ℕ) → IsBytes payload → (at : ℕ) (numbers : List ℤ) → at ≤ length payload → StandAt payload at numbers → AreSpelled payload at numbers
spelled_at payload bytes at [] room stand = record { room = omega (arith, room); fit = All-nil (FitsSigned w64); fields = refl }
spelled_at payload bytes at (number ∷ numbers) room stand =
    let first = int64_is payload at number bytes stand.0 in
    let others = spelled_at payload bytes (at + 8) numbers first.room stand.1 in
    let size : ℕ = length (spelled numbers) in
    let joined : int64_bytes number ++ spelled numbers ≡ take (8 + size) (drop at payload) =
    (λ i. first.spelled i ++ others.fields i) ∙ ap (λ (t : List ℕ). take 8 (drop at payload) ++ take size t) (sym (drop-drop 8 at payload)) ∙ take_on 8 size (drop at payload)
    in
    record {
      room = omega (arith, others.room, length-append (int64_bytes number) (spelled numbers));
      fit = All-cons (FitsSigned w64) number numbers first.fits others.fit;
      fields = joined ∙ ap (λ (n : ℕ). take n (drop at payload)) (sym (length-append (int64_bytes number) (spelled numbers)));
    }

-- ---- spelled, so read

pub stand_at : (front : List ℕ) (numbers : List ℤ) (more : List ℕ) → All (FitsSigned w64) numbers → StandAt ((front ++ spelled numbers) ++ more) (length front) numbers
stand_at front [] more fit = tt
stand_at front (number ∷ numbers) more fit =
    let here : List ℕ = front ++ int64_bytes number in
    let apart : (here ++ spelled numbers) ++ more ≡ (front ++ (int64_bytes number ++ spelled numbers)) ++ more = ap (λ (t : List ℕ). t ++ more) (append_assoc front (int64_bytes number) (spelled numbers)) in
    let next : length here ≡ length front + 8 = length-append front (int64_bytes number) in
    let others = stand_at here numbers more (All-tail (FitsSigned w64) number numbers fit) in
    let first : int64_at ((here ++ spelled numbers) ++ more) (length front) ≡ Some number =
    ap (λ (t : List ℕ). int64_at t (length front)) (append_assoc here (spelled numbers) more)
    ∙ int64_read front here (int64_bytes number) number (All-head (FitsSigned w64) number numbers fit) refl refl (spelled numbers ++ more)
    in
    let moved : StandAt ((here ++ spelled numbers) ++ more) (length front + 8) numbers = subst (λ (at : ℕ). StandAt ((here ++ spelled numbers) ++ more) at numbers) next others in
    subst (λ (payload : List ℕ). StandAt payload (length front) (number ∷ numbers)) apart (first, moved)
