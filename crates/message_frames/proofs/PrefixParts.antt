-- A prefix that comes in two parts.
use Rattle.std.proofs.Common.{◌≡◌, ℕ, zero, suc, ◌+◌, ◌-◌, ◌<◌, ◌≤◌, min, true, false, List, [], ◌∷◌, ◌++◌, length, drop, sym, ◌∙◌, ap, ◌⊎◌, inl, inr, None, eqb, arith}
use Rattle.std.proofs.lemmas.Bool.{cases_Bool, cases_lt}
use Rattle.std.proofs.lemmas.List.{drop_all}
use Rattle.message_frames.specs.Messages.{differing}

-- numbers

none_of_none : (b : ℕ) → 0 ≡ min 0 b
none_of_none b = omega arith

none_with_none : (a : ℕ) → 0 ≡ min (suc a) 0
none_with_none a = omega arith

one_of_both : (a b : ℕ) → suc (min a b) ≡ min (suc a) (suc b)
one_of_both a b = omega arith

no_more : (a : ℕ) → a ≡ a + 0
no_more a = omega arith

one_on : (a b : ℕ) → a + 1 + b ≡ a + suc b
one_on a b = omega arith

none_left : (b c : ℕ) → 0 ≡ min 0 (min 0 b + c) - min 0 b
none_left b c = omega arith

left_of_both : (a b c : ℕ) → min a (min a b + c) - min a b ≡ min (suc a) (min (suc a) (suc b) + c) - min (suc a) (suc b)
left_of_both a b c = omega arith

left_of_none : (a c : ℕ) → a ≤ c → a ≡ min a (min a 0 + c) - min a 0
left_of_none a c enough = omega arith

past_few : (a c : ℕ) → c ≤ a → c ≤ min a (min a 0 + c) - min a 0
past_few a c few = omega arith

-- how many bytes of a prefix have come with a text
abbrev pub begun_of : List ℕ → List ℕ → ℕ
begun_of prefix text = min (length prefix) (length text)

pub differing_on : (at : ℕ) (prefix text piece : List ℕ) → differing at prefix text ≡ None →
    differing at prefix (text ++ piece) ≡ differing (at + begun_of prefix text) (drop (begun_of prefix text) prefix) piece
differing_on at [] text piece same = ap (λ k. differing (at + k) (drop k []) piece) (none_of_none (length text))
differing_on at (p ∷ prefix) [] piece same =
    ap (λ a. differing a (p ∷ prefix) piece) (no_more at) ∙ ap (λ k. differing (at + k) (drop k (p ∷ prefix)) piece) (none_with_none (length prefix))
differing_on at (p ∷ prefix) (b ∷ text) piece same = go (cases_Bool (eqb p b)) (differing_on (at + 1) prefix text piece)
  where
    go : (eqb p b ≡ true) ⊎ (eqb p b ≡ false) →
        (differing (at + 1) prefix text ≡ None → differing (at + 1) prefix (text ++ piece) ≡ differing (at + 1 + begun_of prefix text) (drop (begun_of prefix text) prefix) piece) →
        differing at (p ∷ prefix) (b ∷ text ++ piece) ≡ differing (at + begun_of (p ∷ prefix) (b ∷ text)) (drop (begun_of (p ∷ prefix) (b ∷ text)) (p ∷ prefix)) piece
    go (inl here) later =
        rw here (
        later (rw here at same)
        ∙ ap (λ a. differing a (drop (begun_of prefix text) prefix) piece) (one_on at (begun_of prefix text))
        ∙ ap (λ k. differing (at + k) (drop k (p ∷ prefix)) piece) (one_of_both (length prefix) (length text))
        )
    go (inr other) later = let clash = rw other at same in absurd (cc clash)

-- the bytes of a piece that come after the prefix
pub drop_on : (n : ℕ) (text piece : List ℕ) → drop n (text ++ piece) ≡ drop n text ++ drop (min n (min n (length text) + length piece) - min n (length text)) piece
drop_on zero text piece = ap (λ k. text ++ drop k piece) (none_left (length text) (length piece))
drop_on (suc n) [] piece = go (cases_lt (length piece) (suc n))
  where
    go : (length piece < suc n) ⊎ (suc n ≤ length piece) → drop (suc n) piece ≡ drop (min (suc n) (min (suc n) 0 + length piece) - min (suc n) 0) piece
    go (inr enough) = ap (λ k. drop k piece) (left_of_none (suc n) (length piece) enough)
    go (inl few) = drop_all (suc n) piece (omega arith) ∙ sym (drop_all (min (suc n) (min (suc n) 0 + length piece) - min (suc n) 0) piece (past_few (suc n) (length piece) (omega arith)))
drop_on (suc n) (b ∷ text) piece = drop_on n text piece ∙ ap (λ k. drop n text ++ drop k piece) (left_of_both n (length text) (length piece))
