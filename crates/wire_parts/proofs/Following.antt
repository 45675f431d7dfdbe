-- A format behind another: the second may depend on what the first read.
use Rattle.std.proofs.Common.{◌≡◌, ℕ, ◌+◌, List, [], ◌++◌, length, take, Result, Ok, Err, refl, sym, ap, subst, ◌∙◌, ◌⊎◌, ⊎_elim, inl, inr, append_assoc, length-append, add-zero, arith}
use Rattle.std.proofs.Math.Seq.{take-append-add}
use Rattle.std.proofs.lemmas.List.{append-nil}
use Rattle.wire_parts.specs.declared.refusal.WireRefused.{WireRefused}
use Rattle.wire_parts.specs.declared.refusal.WireRefused.TheVariants.{Short, Tag, Order, Rest, Memory}
use Rattle.wire_parts.specs.Places.{Place}
use Rattle.wire_parts.specs.Parts.{◌>>=◌}
use Rattle.wire_parts.proofs.Formats.{IsBytes, Reader, place, gives, ok_is, Begins, BeginsNone, FailsAt, Fault, Takes, Reads, IsFormat, one_text, reads_as, said_as}

-- the value of a step that did not fail
pub bind_ok : {A B : Type 0} (r : Result A WireRefused) (f : A → Result B WireRefused) (y : B) → (r >>= f) ≡ Ok y → (x : A) × (r ≡ Ok x) × (f x ≡ Ok y)
bind_ok (Ok x) f y e = (x, refl, e)
bind_ok (Err d) f y e = absurd cc

-- a step failed, or what follows it
pub bind_err : {A B : Type 0} (r : Result A WireRefused) (f : A → Result B WireRefused) (e : WireRefused) → (r >>= f) ≡ Err e → (r ≡ Err e) ⊎ ((x : A) × (r ≡ Ok x) × (f x ≡ Err e))
bind_err (Ok x) f e is = inr (x, refl, is)
bind_err (Err d) f e is = inl (let same : d ≡ e = cc in ap Err same)

-- the value is spelled by one text behind another
pub record Follows {A C : Type 0} (SA : A → List ℕ → Type 0) (SB : A → C → List ℕ → Type 0) (c : C) (text : List ℕ) : Type 0 where
  pub first : A
  pub front : List ℕ
  pub back : List ℕ
  pub is_front : SA first front
  pub is_back : SB first c back
  pub whole : text ≡ front ++ back

-- ---- one behind another, as far as reading goes

-- The second may name the place of the first in its refusals.
module _ {A C : Type 0} (RA : Reader A) (SA : A → List ℕ → Type 0) (RB : ℕ → A → Reader C) (SB : A → C → List ℕ → Type 0) (ra : Reads RA SA) (rb : (at : ℕ) (a : A) (text : List ℕ) → SA a text → Reads (RB at a) (SB a)) where
  abbrev both : Reader C
  both p = RA p >>= λ x. RB p.at x.0 x.1

  abbrev S : C → List ℕ → Type 0
  S = Follows SA SB

  both_taken : (p q : Place) (c : C) → IsBytes p.rest → both p ≡ Ok (c, q) → Takes S p c q
  both_taken p q c bytes e =
      let x = bind_ok (RA p) (λ x. RB p.at x.0 x.1) (c, q) e in
      let one = ra.takes p x.0.1 x.0.0 bytes x.1 in
      let two = (rb p.at x.0.0 one.text one.spells).takes x.0.1 q c one.bytes x.2 in
      record {
        text = one.text ++ two.text;
        spells = record { first = x.0.0; front = one.text; back = two.text; is_front = one.spells; is_back = two.spells; whole = refl };
        parts = one.parts ∙ ap (λ (t : List ℕ). one.text ++ t) two.parts ∙ sym (append_assoc one.text two.text q.rest);
        moved = omega (arith, one.moved, two.moved, length-append one.text two.text);
        bytes = two.bytes;
      }

  both_again : (at : ℕ) (c : C) (text rest : List ℕ) → S c text → both (place at (text ++ rest)) ≡ Ok (c, place (at + length text) rest)
  both_again at c text rest s =
      let grouped : text ++ rest ≡ s.front ++ (s.back ++ rest) = ap (λ (t : List ℕ). t ++ rest) s.whole ∙ append_assoc s.front s.back rest in
      let one = ra.again at s.first s.front (s.back ++ rest) s.is_front in
      let two = (rb at s.first s.front s.is_front).again (at + length s.front) c s.back rest s.is_back in
      let ends : (at + length s.front) + length s.back ≡ at + length text = omega (arith, ap length s.whole, length-append s.front s.back) in
      ap (λ (t : List ℕ). both (place at t)) grouped ∙ ap (λ (r : Result (A × Place) WireRefused). r >>= λ x. RB at x.0 x.1) one ∙ two ∙ ap (λ (n : ℕ). gives c (place n rest)) ends

  pub reads_behind : Reads (λ p. RA p >>= λ x. RB p.at x.0 x.1) (Follows SA SB)
  reads_behind = record { takes = both_taken; again = both_again }

pub reads_followed : {A C : Type 0} (RA : Reader A) (SA : A → List ℕ → Type 0) (RB : A → Reader C) (SB : A → C → List ℕ → Type 0) → Reads RA SA → ((a : A) (text : List ℕ) → SA a text → Reads (RB a) (SB a)) → Reads (λ p. RA p >>= λ x. RB x.0 x.1) (Follows SA SB)
reads_followed RA SA RB SB ra rb = reads_behind RA SA (λ at. RB) SB ra (λ at a text s. rb a text s)

-- ---- and as formats

module _ {A C : Type 0} (RA : Reader A) (SA : A → List ℕ → Type 0) (RB : A → Reader C) (SB : A → C → List ℕ → Type 0) (fa : IsFormat RA SA) (fb : (a : A) (text : List ℕ) → SA a text → IsFormat (RB a) (SB a)) where
  abbrev together : Reader C
  together p = RA p >>= λ x. RB x.0 x.1

  abbrev Both : C → List ℕ → Type 0
  Both = Follows SA SB

  abbrev joined : (a : A) (c : C) (s t : List ℕ) → SA a s → SB a c t → Both c (s ++ t)
  joined a c s t one two = record { first = a; front = s; back = t; is_front = one; is_back = two; whole = refl }

  both_some : Begins Both []
  both_some =
      let a = fa.some in
      let b = (fb a.value a.text a.spells).some in
      record { value = b.value; text = a.text ++ b.text; spells = joined a.value b.value a.text b.text a.spells b.spells; rest = a.text ++ b.text; whole = refl }

  -- what begins the first begins both
  first_begins : (front : List ℕ) → Begins SA front → Begins Both front
  first_begins front a =
      let b = (fb a.value a.text a.spells).some in
      record {
        value = b.value;
        text = a.text ++ b.text;
        spells = joined a.value b.value a.text b.text a.spells b.spells;
        rest = a.rest ++ b.text;
        whole = sym (append_assoc front a.rest b.text) ∙ ap (λ (t : List ℕ). t ++ b.text) a.whole;
      }

  first_fails : (p : Place) (at : ℕ) → FailsAt SA p at → FailsAt Both p at
  first_fails p at f = record {
    before = f.before;
    is_at = f.is_at;
    within = f.within;
    begins = first_begins (take f.before p.rest) f.begins;
    no_more = λ c text t u s same. f.no_more s.first s.front t (s.back ++ u) s.is_front (same ∙ ap (λ (w : List ℕ). w ++ u) s.whole ∙ append_assoc s.front s.back u);
  }

  first_fault : (p : Place) (e : WireRefused) → Fault SA p e → Fault Both p e
  first_fault p (Short at) f = record { from = f.from; to = f.to; begins = first_begins p.rest f.begins }
  first_fault p (Tag at) f = first_fails p at f
  first_fault p (Order at) f = first_fails p at f
  first_fault p (Rest at) f = f
  first_fault p Memory f = f

  module _ (a : A) (p q : Place) (one : Takes SA p a q) where
    -- what begins the second begins both, behind the first
    second_begins : (front : List ℕ) → Begins (SB a) front → Begins Both (one.text ++ front)
    second_begins front b = record {
      value = b.value;
      text = one.text ++ b.text;
      spells = joined a b.value one.text b.text one.spells b.spells;
      rest = b.rest;
      whole = append_assoc one.text front b.rest ∙ ap (λ (t : List ℕ). one.text ++ t) b.whole;
    }

    front_is : (n : ℕ) → take (length one.text + n) p.rest ≡ one.text ++ take n q.rest
    front_is n = ap (take (length one.text + n)) one.parts ∙ take-append-add one.text q.rest n

    second_none : (n : ℕ) → BeginsNone (SB a) (take n q.rest) → BeginsNone Both (take (length one.text + n) p.rest)
    second_none n none c text t u s same =
        let left : take (length one.text + n) p.rest ++ t ≡ one.text ++ (take n q.rest ++ t) = ap (λ (w : List ℕ). w ++ t) (front_is n) ∙ append_assoc one.text (take n q.rest) t in
        let right : text ++ u ≡ s.front ++ (s.back ++ u) = ap (λ (w : List ℕ). w ++ u) s.whole ∙ append_assoc s.front s.back u in
        let apart = one_text RA SA fa.reads a s.first one.text s.front (take n q.rest ++ t) (s.back ++ u) one.spells s.is_front (sym left ∙ same ∙ right) in
        none c s.back t u (subst (λ (b : A). SB b c s.back) (sym apart.0) s.is_back) apart.1

    second_fails : (at : ℕ) → FailsAt (SB a) q at → FailsAt Both p at
    second_fails at f =
        let more : (length one.text + f.before) + 1 ≡ length one.text + (f.before + 1) = omega arith in
        record {
          before = length one.text + f.before;
          is_at = omega (arith, f.is_at, one.moved);
          within = omega (arith, f.within, ap length one.parts, length-append one.text q.rest);
          begins = subst (Begins Both) (sym (front_is f.before)) (second_begins (take f.before q.rest) f.begins);
          no_more = rw more (second_none (f.before + 1) f.no_more);
        }

    second_fault : (e : WireRefused) → Fault (SB a) q e → Fault Both p e
    second_fault (Short at) f = record {
      from = omega (arith, f.from, one.moved);
      to = omega (arith, f.to, one.moved, ap length one.parts, length-append one.text q.rest);
      begins = subst (Begins Both) (sym one.parts) (second_begins q.rest f.begins);
    }
    second_fault (Tag at) f = second_fails at f
    second_fault (Order at) f = second_fails at f
    second_fault (Rest at) f = f
    second_fault Memory f = f

  both_fault : (p : Place) (e : WireRefused) → IsBytes p.rest → together p ≡ Err e → Fault Both p e
  both_fault p e bytes is =
      ⊎_elim (λ first. first_fault p e (fa.faults p e bytes first))
      (λ second.
      let one = fa.reads.takes p second.0.1 second.0.0 bytes second.1 in
      second_fault second.0.0 p second.0.1 one e ((fb second.0.0 one.text one.spells).faults second.0.1 e one.bytes second.2))
      (bind_err (RA p) (λ x. RB x.0 x.1) e is)

  pub followed : IsFormat (λ p. RA p >>= λ x. RB x.0 x.1) (Follows SA SB)
  followed = record { reads = reads_followed RA SA RB SB fa.reads (λ a text s. (fb a text s).reads); some = both_some; faults = both_fault }

-- ---- nothing is read

pub record IsDone {C : Type 0} (is c : C) (text : List ℕ) : Type 0 where
  pub value : c ≡ is
  pub empty : text ≡ []

pub reads_ended : {C : Type 0} (is : C) → Reads (λ p. Ok (is, p)) (IsDone is)
reads_ended {C} is = record {
  takes = λ p q c bytes e. taken p q c bytes e;
  again = λ at c text rest done. rw (done.value, done.empty, add-zero) refl;
}
  where
    taken : (p q : Place) (c : C) → IsBytes p.rest → gives is p ≡ gives c q → Takes (IsDone is) p c q
    taken p q c bytes e =
        let pair = ok_is (is, p) (c, q) e in
        let value : is ≡ c = ap (λ (got : C × Place). got.0) pair in
        let stays : p ≡ q = ap (λ (got : C × Place). got.1) pair in
        subst (λ (r : Place). Takes (IsDone is) p c r) stays (record { text = []; spells = record { value = sym value; empty = refl }; parts = refl; moved = sym (add-zero p.at); bytes = bytes })

pub ended : {C : Type 0} (is : C) → IsFormat (λ p. Ok (is, p)) (IsDone is)
ended {C} is = record {
  reads = reads_ended is;
  some = record { value = is; text = []; spells = record { value = refl; empty = refl }; rest = []; whole = refl };
  faults = λ p e bytes is. absurd cc;
}

-- ---- a value is made of what is read

pub record Made {A C : Type 0} (make : A → C) (SA : A → List ℕ → Type 0) (c : C) (text : List ℕ) : Type 0 where
  pub first : A
  pub spells : SA first text
  pub value : c ≡ make first

module _ {A C : Type 0} (make : A → C) (RA : Reader A) (SA : A → List ℕ → Type 0) where
  to_made : (c : C) (text : List ℕ) → Follows SA (λ a. IsDone (make a)) c text → Made make SA c text
  to_made c text s =
      let same : text ≡ s.front = s.whole ∙ ap (λ (t : List ℕ). s.front ++ t) s.is_back.empty ∙ append-nil s.front in
      record { first = s.first; spells = subst (SA s.first) (sym same) s.is_front; value = s.is_back.value }

  from_made : (c : C) (text : List ℕ) → Made make SA c text → Follows SA (λ a. IsDone (make a)) c text
  from_made c text s = record { first = s.first; front = text; back = []; is_front = s.spells; is_back = record { value = s.value; empty = refl }; whole = sym (append-nil text) }

  abbrev making : Reader C
  making p = RA p >>= λ x. Ok (make x.0, x.1)

  pub reads_made : Reads RA SA → Reads (λ p. RA p >>= λ x. Ok (make x.0, x.1)) (Made make SA)
  reads_made r =
      reads_as making (Follows SA (λ a. IsDone (make a))) (Made make SA) to_made from_made
      (reads_followed RA SA (λ a p. Ok (make a, p)) (λ a. IsDone (make a)) r (λ a text s. reads_ended (make a)))

  pub made : IsFormat RA SA → IsFormat (λ p. RA p >>= λ x. Ok (make x.0, x.1)) (Made make SA)
  made f =
      said_as making (Follows SA (λ a. IsDone (make a))) (Made make SA) to_made from_made
      (followed RA SA (λ a p. Ok (make a, p)) (λ a. IsDone (make a)) f (λ a text s. ended (make a)))
