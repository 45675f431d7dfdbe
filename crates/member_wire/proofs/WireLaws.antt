-- What is read is spelled so, what is spelled so is read, and a refusal names the first place that fails.
use Rattle.std.proofs.Common.{◌≡◌, ◌≢◌, ℕ, ◌+◌, ◌<◌, Bool, true, false, cond, eqb, List, [], ◌++◌, length, take, Result, Ok, Err, refl, sym, ap, subst, ◌∙◌, ⊎_elim, length-append, arith}
use Rattle.std.specs.Prelude.{IfOk, IfErr}
use Rattle.std.proofs.lemmas.Bool.{eqb-true, eqb-false}
use Rattle.std.proofs.lemmas.List.{append-nil, nil_from_length, take_at}
use Rattle.partition_table.specs.declared.Row.{Row}
use Rattle.member_wire.specs.declared.message.MemberMessage.{MemberMessage}
use Rattle.member_wire.specs.declared.message.MemberMessage.TheVariants as said
use Rattle.wire_parts.specs.declared.refusal.WireRefused.{WireRefused}
use Rattle.wire_parts.specs.declared.refusal.WireRefused.TheVariants.{Short, Tag, Order, Rest, Memory}
use Rattle.wire_parts.specs.Places.{Place, start}
use Rattle.wire_parts.specs.Parts.{◌>>=◌, end_at, IsByte, IsUnlessMemory}
use Rattle.member_wire.specs.Reading.{message_at, reading}
use Rattle.member_wire.specs.Spelling.{spelling, IsSpelledRow, IsSpelled, LengthsFit}
use Rattle.member_wire.specs.Faults as faults
use Rattle.wire_parts.proofs.Formats.{IsBytes, place, ok_is, Begins, FailsAt, Fault, Takes, one_text}
use Rattle.wire_parts.proofs.Following.{bind_ok, bind_err}
use Rattle.member_wire.proofs.RowFormat.{few_members}
use Rattle.member_wire.proofs.MessageFormat.{SpellsMessage, message_format}

abbrev ending : MemberMessage × Place → Result MemberMessage WireRefused
ending message = end_at message.1 >>= λ end. Ok message.0

ended_ok : (b : Bool) (at : ℕ) (p q : Place) → cond b (Ok p) (Err (Rest at)) ≡ Ok q → b ≡ true
ended_ok true at p q e = refl
ended_ok false at p q e = absurd cc

ended_err : (b : Bool) (at : ℕ) (p : Place) (e : WireRefused) → cond b (Ok p) (Err (Rest at)) ≡ Err e → (b ≡ false) × (Rest at ≡ e)
ended_err true at p e is = absurd cc
ended_err false at p e is = (refl, cc)

pub reading_takes : (bytes : List ℕ) (m : MemberMessage) → IsBytes bytes → reading bytes ≡ Ok m → IsSpelled m × (bytes ≡ spelling m)
unfolding reading
reading_takes bytes m are e =
    let x = bind_ok (message_at (start bytes)) ending m e in
    let end = bind_ok (end_at x.0.1) (λ p. Ok x.0.0) m x.2 in
    let nothing : x.0.1.rest ≡ [] = nil_from_length x.0.1.rest (eqb-true _ _ (ended_ok (eqb (length x.0.1.rest) 0) x.0.1.at x.0.1 end.0 end.1)) in
    let t = message_format.reads.takes (start bytes) x.0.1 x.0.0 are x.1 in
    let whole : bytes ≡ spelling x.0.0 = t.parts ∙ ap (λ (r : List ℕ). t.text ++ r) nothing ∙ append-nil t.text ∙ t.spells.is in
    subst (λ (y : MemberMessage). IsSpelled y × (bytes ≡ spelling y)) (ok_is x.0.0 m end.2) (t.spells.fits, whole)

pub reading_again : (m : MemberMessage) → IsSpelled m → reading (spelling m) ≡ Ok m
unfolding reading
reading_again m fits =
    let text = spelling m in
    let read : message_at (place 0 text) ≡ Ok (m, place (0 + length text) []) = ap (λ (t : List ℕ). message_at (place 0 t)) (sym (append-nil text)) ∙ message_format.reads.again 0 m text [] (record { fits = fits; is = refl }) in
    ap (λ (r : Result (MemberMessage × Place) WireRefused). r >>= ending) read

begins_message : (front : List ℕ) → Begins SpellsMessage front → faults.BeginsMessage front
begins_message front b = (b.rest, (b.value, b.spells.fits, b.whole ∙ b.spells.is))

fails_at : (bytes : List ℕ) (at : ℕ) → FailsAt SpellsMessage (start bytes) at → faults.FailsAt bytes at
fails_at bytes at f =
    let here : at ≡ f.before = omega (arith, f.is_at) in
    subst (faults.FailsAt bytes) (sym here)
    (record {
      within = f.within;
      before = begins_message (take f.before bytes) f.begins;
      there = λ b. f.no_more b.1.0 (spelling b.1.0) b.0 [] (record { fits = b.1.1; is = refl }) (b.1.2 ∙ sym (append-nil (spelling b.1.0)));
    })

message_fault : (bytes : List ℕ) (e : WireRefused) → reading bytes ≡ Err e → Fault SpellsMessage (start bytes) e → faults.IsFirstFault bytes e
message_fault bytes (Short at) is f = record {
  within = omega (arith, f.to);
  begins = begins_message bytes f.begins;
  ends = λ m. let clash : Err (Short at) ≡ Ok m.0 = sym is ∙ ap reading m.2 ∙ reading_again m.0 m.1 in absurd cc;
}
message_fault bytes (Tag at) is f = fails_at bytes at f
message_fault bytes (Order at) is f = fails_at bytes at f
message_fault bytes (Rest at) is f = absurd f
message_fault bytes Memory is f = tt

goes_on : (bytes : List ℕ) (m : MemberMessage) (q : Place) → Takes SpellsMessage (start bytes) m q → eqb (length q.rest) 0 ≡ false → faults.GoesOnAt bytes q.at
goes_on bytes m q t more =
    let here : q.at ≡ length t.text = omega (arith, t.moved) in
    let apart : length q.rest ≢ 0 = eqb-false (length q.rest) 0 more in
    let some : 0 < length q.rest = omega (arith, apart) in
    let front : take q.at bytes ≡ t.text = ap (take q.at) t.parts ∙ take_at t.text q.rest q.at (sym here) in
    record { within = omega (arith, here, some, ap length t.parts, length-append t.text q.rest); before = (m, t.spells.fits, front ∙ t.spells.is) }

pub reading_faults : (bytes : List ℕ) (e : WireRefused) → IsBytes bytes → reading bytes ≡ Err e → faults.IsFirstFault bytes e
unfolding reading
reading_faults bytes e are is =
    ⊎_elim (λ first. message_fault bytes e is (message_format.faults (start bytes) e are first))
    (λ second.
    ⊎_elim
    (λ end.
    let t = message_format.reads.takes (start bytes) second.0.1 second.0.0 are second.1 in
    let g = ended_err (eqb (length second.0.1.rest) 0) second.0.1.at second.0.1 e end in
    subst (faults.IsFirstFault bytes) g.1 (goes_on bytes second.0.0 second.0.1 t g.0))
    (λ past. let clash : Ok second.0.0 ≡ Err e = past.2 in absurd cc)
    (bind_err (end_at second.0.1) (λ p. Ok second.0.0) e second.2))
    (bind_err (message_at (start bytes)) ending e is)

-- ---- what the code's reader gives

pub is_found : (bytes : List ℕ) (r : Result MemberMessage WireRefused) → IsBytes bytes → IsUnlessMemory r (reading bytes) → IfOk r (λ m. IsSpelled m × (bytes ≡ spelling m))
is_found bytes (Ok m) are given = reading_takes bytes m are given
is_found bytes (Err e) are given = tt

pub is_first : (bytes : List ℕ) (r : Result MemberMessage WireRefused) → IsBytes bytes → IsUnlessMemory r (reading bytes) → IfErr r (faults.IsFirstFault bytes)
is_first bytes (Ok m) are given = tt
is_first bytes (Err (Short at)) are given = reading_faults bytes (Short at) are given
is_first bytes (Err (Tag at)) are given = reading_faults bytes (Tag at) are given
is_first bytes (Err (Order at)) are given = reading_faults bytes (Order at) are given
is_first bytes (Err (Rest at)) are given = reading_faults bytes (Rest at) are given
is_first bytes (Err Memory) are given = tt

pub is_only : (bytes : List ℕ) (r : Result MemberMessage WireRefused) → IsUnlessMemory r (reading bytes) → (m : MemberMessage) → IsSpelled m → bytes ≡ spelling m → IsUnlessMemory r (Ok m)
is_only bytes r given m fits is = subst (IsUnlessMemory r) (ap reading is ∙ reading_again m fits) given

pub stay_apart : (m n : MemberMessage) (x y : List ℕ) → IsSpelled m → IsSpelled n → spelling m ++ x ≡ spelling n ++ y → (m ≡ n) × (x ≡ y)
stay_apart m n x y one two same = one_text message_at SpellsMessage message_format.reads m n (spelling m) (spelling n) x y (record { fits = one; is = refl }) (record { fits = two; is = refl }) same

few_in_row : (row : Row) → IsSpelledRow row → IsByte (length row.members)
few_in_row row fits = few_members row.lost (length row.members) fits.count

pub lengths_fit : (m : MemberMessage) → IsSpelled m → LengthsFit m
lengths_fit (said.NewRow row) fits = few_in_row row fits
lengths_fit (said.Sync row count snapshot) fits = (few_in_row row fits.0, fits.2)
lengths_fit (said.Effect version number effect) fits = fits.2
lengths_fit (said.Ack version count) fits = tt
lengths_fit (said.Joined version member) fits = tt
lengths_fit (said.Freeze version) fits = tt
lengths_fit (said.Frozen version) fits = tt
lengths_fit (said.Bridge row base count) fits = few_in_row row fits.0
