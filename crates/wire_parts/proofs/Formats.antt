-- Formats: what reading and spelling have to do with one another, and that formats may follow one another.
use Rattle.std.proofs.Common.{◌≡◌, ℕ, ◌+◌, ◌≤◌, ◌<◌, List, [], ◌++◌, length, get_or, take, Result, Ok, Err, sym, ap, ◌∙◌}
use Rattle.wire_parts.specs.declared.refusal.WireRefused.{WireRefused}
use Rattle.wire_parts.specs.declared.refusal.WireRefused.TheVariants.{Short, Tag, Order, Rest, Memory}
use Rattle.wire_parts.specs.Places.{Place}

abbrev pub IsBytes : List ℕ → Type 0
IsBytes bytes = (i : ℕ) → get_or bytes i 0 < 256

abbrev pub Reader : Type 0 → Type 0
Reader C = Place → Result (C × Place) WireRefused

abbrev pub place : ℕ → List ℕ → Place
place at rest = record { at = at; rest = rest }

abbrev pub gives : {C : Type 0} → C → Place → Result (C × Place) WireRefused
gives c p = Ok (c, p)

-- What a format spells is a relation between its values and texts.

-- each value that fits is spelled so
pub record Spells {C : Type 0} (Fits : C → Type 0) (spelled : C → List ℕ) (c : C) (text : List ℕ) : Type 0 where
  pub fits : Fits c
  pub is : text ≡ spelled c

-- the text of some value begins with these bytes
pub record Begins {C : Type 0} (S : C → List ℕ → Type 0) (front : List ℕ) : Type 0 where
  pub value : C
  pub text : List ℕ
  pub spells : S value text
  pub rest : List ℕ
  pub whole : front ++ rest ≡ text

-- and that of none does, whatever follows it
abbrev pub BeginsNone : {C : Type 0} → (C → List ℕ → Type 0) → List ℕ → Type 0
BeginsNone {C} S front = (c : C) (text t u : List ℕ) → S c text → front ++ t ≡ text ++ u → ⊥

pub record EndsInside {C : Type 0} (S : C → List ℕ → Type 0) (p : Place) (at : ℕ) : Type 0 where
  pub from : p.at ≤ at
  pub to : at ≤ p.at + length p.rest
  pub begins : Begins S p.rest

pub record FailsAt {C : Type 0} (S : C → List ℕ → Type 0) (p : Place) (at : ℕ) : Type 0 where
  pub before : ℕ
  pub is_at : at ≡ p.at + before
  pub within : before < length p.rest
  pub begins : Begins S (take before p.rest)
  pub no_more : BeginsNone S (take (before + 1) p.rest)

-- what a fault says of the bytes behind a place
abbrev pub Fault : {C : Type 0} → (C → List ℕ → Type 0) → Place → WireRefused → Type 0
Fault S p (Short at) = EndsInside S p at
Fault S p (Tag at) = FailsAt S p at
Fault S p (Order at) = FailsAt S p at
Fault S p (Rest at) = ⊥
Fault S p Memory = ⊥

-- a value was read between two places
pub record Takes {C : Type 0} (S : C → List ℕ → Type 0) (p : Place) (c : C) (q : Place) : Type 0 where
  pub text : List ℕ
  pub spells : S c text
  pub parts : p.rest ≡ text ++ q.rest
  pub moved : q.at ≡ p.at + length text
  pub bytes : IsBytes q.rest

-- what is spelled is read, and nothing else; which fault anything else is stays open
pub record Reads {C : Type 0} (R : Reader C) (S : C → List ℕ → Type 0) : Type 0 where
  -- what is read is spelled so
  pub takes : (p q : Place) (c : C) → IsBytes p.rest → R p ≡ Ok (c, q) → Takes S p c q
  -- what is spelled so is read
  pub again : (at : ℕ) (c : C) (text rest : List ℕ) → S c text → R (place at (text ++ rest)) ≡ Ok (c, place (at + length text) rest)

-- and each fault is at the first place that fails
pub record IsFormat {C : Type 0} (R : Reader C) (S : C → List ℕ → Type 0) : Type 0 where
  pub reads : Reads R S
  -- something is spelled
  pub some : Begins S []
  pub faults : (p : Place) (e : WireRefused) → IsBytes p.rest → R p ≡ Err e → Fault S p e

abbrev done : {A : Type 0} → A → Result A WireRefused
done x = Ok x

pub ok_is : {A : Type 0} (x y : A) → done x ≡ done y → x ≡ y
ok_is x y e = cc

-- a text is that of one value, whatever follows it
pub one_text : {C : Type 0} (R : Reader C) (S : C → List ℕ → Type 0) → Reads R S → (c d : C) (s t x y : List ℕ) → S c s → S d t → s ++ x ≡ t ++ y → (c ≡ d) × (x ≡ y)
one_text {C} R S f c d s t x y one two same =
    let both : gives c (place (0 + length s) x) ≡ gives d (place (0 + length t) y) = sym (f.again 0 c s x one) ∙ ap (λ (text : List ℕ). R (place 0 text)) same ∙ f.again 0 d t y two in
    let pair = ok_is (c, place (0 + length s) x) (d, place (0 + length t) y) both in
    (ap (λ (got : C × Place). got.0) pair, ap (λ (got : C × Place). got.1.rest) pair)

-- ---- the same format, said in other words

pub reads_as : {C : Type 0} (R : Reader C) (S T : C → List ℕ → Type 0) → ((c : C) (text : List ℕ) → S c text → T c text) → ((c : C) (text : List ℕ) → T c text → S c text) → Reads R S → Reads R T
reads_as {C} R S T to from r = record {
  takes = λ p q c bytes is. taken (r.takes p q c bytes is);
  again = λ at c text rest spells. r.again at c text rest (from c text spells);
}
  where
    taken : {p q : Place} {c : C} → Takes S p c q → Takes T p c q
    taken t = record { text = t.text; spells = to _ t.text t.spells; parts = t.parts; moved = t.moved; bytes = t.bytes }

pub said_as : {C : Type 0} (R : Reader C) (S T : C → List ℕ → Type 0) → ((c : C) (text : List ℕ) → S c text → T c text) → ((c : C) (text : List ℕ) → T c text → S c text) → IsFormat R S → IsFormat R T
said_as {C} R S T to from f = record {
  reads = reads_as R S T to from f.reads;
  some = begun [] f.some;
  faults = λ p e bytes is. fault p e (f.faults p e bytes is);
}
  where
    begun : (front : List ℕ) → Begins S front → Begins T front
    begun front b = record { value = b.value; text = b.text; spells = to b.value b.text b.spells; rest = b.rest; whole = b.whole }

    fails : (p : Place) (at : ℕ) → FailsAt S p at → FailsAt T p at
    fails p at f = record {
      before = f.before;
      is_at = f.is_at;
      within = f.within;
      begins = begun (take f.before p.rest) f.begins;
      no_more = λ c text t u spells same. f.no_more c text t u (from c text spells) same;
    }

    fault : (p : Place) (e : WireRefused) → Fault S p e → Fault T p e
    fault p (Short at) f = record { from = f.from; to = f.to; begins = begun p.rest f.begins }
    fault p (Tag at) f = fails p at f
    fault p (Order at) f = fails p at f
    fault p (Rest at) f = f
    fault p Memory f = f
