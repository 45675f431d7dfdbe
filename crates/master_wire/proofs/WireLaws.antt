-- What is read is spelled so, and what is spelled so is read.
use Rattle.std.proofs.Common.{◌≡◌, ℕ, ◌+◌, Bool, true, false, cond, eqb, List, [], ◌++◌, length, Result, Ok, Err, refl, sym, ap, subst, ◌∙◌, arith}
use Rattle.std.specs.Prelude.{IfOk}
use Rattle.std.proofs.lemmas.Bool.{eqb-true}
use Rattle.std.proofs.lemmas.List.{append-nil, nil_from_length}
use Rattle.masters_protocol.specs.Members.{Message}
use Rattle.wire_parts.specs.declared.refusal.WireRefused.{WireRefused}
use Rattle.wire_parts.specs.declared.refusal.WireRefused.TheVariants.{Rest}
use Rattle.wire_parts.specs.Places.{Place, start}
use Rattle.wire_parts.specs.Parts.{◌>>=◌, end_at, Gives}
use Rattle.master_wire.specs.declared.decision.Decision.{Decision}
use Rattle.master_wire.specs.declared.message.MasterMessage.{MasterMessage}
use Rattle.master_wire.specs.Said.{said}
use Rattle.master_wire.specs.Reading.{message_at, reading}
use Rattle.master_wire.specs.Spelling.{spelling, IsSpelled}
use Rattle.wire_parts.proofs.Formats.{IsBytes, place, ok_is, one_text}
use Rattle.wire_parts.proofs.Following.{bind_ok}
use Rattle.master_wire.proofs.MessageFormat.{SpellsMessage, message_read}

abbrev ending : Message Decision × Place → Result (Message Decision) WireRefused
ending message = end_at message.1 >>= λ end. Ok message.0

ended_ok : (b : Bool) (at : ℕ) (p q : Place) → cond b (Ok p) (Err (Rest at)) ≡ Ok q → b ≡ true
ended_ok true at p q e = refl
ended_ok false at p q e = absurd cc

reading_takes : (bytes : List ℕ) (m : Message Decision) → IsBytes bytes → reading bytes ≡ Ok m → IsSpelled m × (bytes ≡ spelling m)
unfolding reading
reading_takes bytes m are e =
    let x = bind_ok (message_at (start bytes)) ending m e in
    let end = bind_ok (end_at x.0.1) (λ p. Ok x.0.0) m x.2 in
    let nothing : x.0.1.rest ≡ [] = nil_from_length x.0.1.rest (eqb-true _ _ (ended_ok (eqb (length x.0.1.rest) 0) x.0.1.at x.0.1 end.0 end.1)) in
    let t = message_read.takes (start bytes) x.0.1 x.0.0 are x.1 in
    let whole : bytes ≡ spelling x.0.0 = t.parts ∙ ap (λ (r : List ℕ). t.text ++ r) nothing ∙ append-nil t.text ∙ t.spells.is in
    subst (λ (y : Message Decision). IsSpelled y × (bytes ≡ spelling y)) (ok_is x.0.0 m end.2) (t.spells.fits, whole)

pub reading_again : (m : Message Decision) → IsSpelled m → reading (spelling m) ≡ Ok m
unfolding reading
reading_again m fits =
    let text = spelling m in
    let read : message_at (place 0 text) ≡ Ok (m, place (0 + length text) []) = ap (λ (t : List ℕ). message_at (place 0 t)) (sym (append-nil text)) ∙ message_read.again 0 m text [] (record { fits = fits; is = refl }) in
    ap (λ (r : Result (Message Decision × Place) WireRefused). r >>= ending) read

pub is_found : (bytes : List ℕ) (r : Result MasterMessage WireRefused) → IsBytes bytes → Gives said r (reading bytes) → IfOk r (λ m. IsSpelled (said m) × (bytes ≡ spelling (said m)))
is_found bytes (Ok m) are given = reading_takes bytes (said m) are given
is_found bytes (Err e) are given = tt

pub is_only : (bytes : List ℕ) (r : Result MasterMessage WireRefused) → Gives said r (reading bytes) → (m : Message Decision) → IsSpelled m → bytes ≡ spelling m → Gives said r (Ok m)
is_only bytes r given m fits is = subst (Gives said r) (ap reading is ∙ reading_again m fits) given

pub stay_apart : (m n : Message Decision) (x y : List ℕ) → IsSpelled m → IsSpelled n → spelling m ++ x ≡ spelling n ++ y → (m ≡ n) × (x ≡ y)
stay_apart m n x y one two same = one_text message_at SpellsMessage message_read m n (spelling m) (spelling n) x y (record { fits = one; is = refl }) (record { fits = two; is = refl }) same
