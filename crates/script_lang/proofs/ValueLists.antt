-- Values that are read one after the other.
use Rattle.std.proofs.Common.{◌≡◌, ℕ, List, [], ◌∷◌, ◌++◌, Option, Some, None, Result, Ok, Err, Bor, ◌⊎◌, inl, inr, refl, sym, ap, subst, ◌∙◌, append_assoc, append-nil}
use Rattle.std.specs.Iterator.{YieldsFirstRef}
use Rattle.std.specs.Slice.Iter.{iter_rest}
use Rattle.std.specs.Iterator.Adapters.{zip_first, zip_second}
use Rattle.std.specs.declared.iter.Zip.{Zip}
use Rattle.std.proofs.Common.{Iter}
use Rattle.std.proofs.lemmas.Iterator.{zips}
use Rattle.std.proofs.lemmas.List.{nil_from_length}
use Rattle.std.proofs.iter.Yields.{fronts}
use Rattle.script_lang.specs.Lines.{value_of, values_of, ◌>>=◌}
use Rattle.script_lang.specs.declared.fields.Field.{Field}
use Rattle.script_lang.specs.declared.reading.Value.{Value}
use Rattle.script_lang.specs.declared.refusal.LineWhy.{LineWhy}

-- values that were read, and then others
abbrev pub after : List Value → Result (List Value) LineWhy → Result (List Value) LineWhy
after values read = read >>= (λ rest. Ok (values ++ rest))

-- one value more
pub after_value : (members : ℕ) (values : List Value) (field : Field) (fields : List Field) (word : List ℕ) (words : List (List ℕ)) (value : Value)
    → value_of members field word ≡ Ok value
    → after values (values_of members (field ∷ fields) (word ∷ words)) ≡ after (values ++ value ∷ []) (values_of members fields words)
after_value members values field fields word words value e = rw (e, values_of) (one (values_of members fields words))
  where
    one : (read : Result (List Value) LineWhy) → ((read >>= (λ rest. Ok (value ∷ rest))) >>= (λ rest. Ok (values ++ rest))) ≡ (read >>= (λ rest. Ok ((values ++ value ∷ []) ++ rest)))
    one (Err why) = refl
    one (Ok rest) = ap Ok (sym (append_assoc values (value ∷ []) rest))

-- the first that isn't read says why none is
pub refused_value : (members : ℕ) (values : List Value) (field : Field) (fields : List Field) (word : List ℕ) (words : List (List ℕ)) (why : LineWhy)
    → value_of members field word ≡ Err why → after values (values_of members (field ∷ fields) (word ∷ words)) ≡ Err why
refused_value members values field fields word words why e = rw (e, values_of) refl

-- nothing is read where there is no field or no word
pub no_more : (members : ℕ) (fields : List Field) (words : List (List ℕ)) → (fields ≡ []) ⊎ (words ≡ []) → values_of members fields words ≡ Ok []
no_more members [] words ended = refl
no_more members (field ∷ fields) [] ended = refl
no_more members (field ∷ fields) (word ∷ words) (inl e) = absurd (let no : field ∷ fields ≡ [] = e in cc)
no_more members (field ∷ fields) (word ∷ words) (inr e) = absurd (let no : word ∷ words ≡ [] = e in cc)

-- The fields and the words side by side.

abbrev pub Pairs : Type 0
Pairs = Zip (Iter Field) (List (List ℕ))

abbrev pub steps : Pairs → Option (Bor Field × Bor (List ℕ)) → Pairs → Type 0
steps = zips fronts (YieldsFirstRef (λ words. words))

pub next_pair : (s t : Pairs) (r : Option (Bor Field × Bor (List ℕ))) (p : Bor Field × Bor (List ℕ)) → r ≡ Some p → steps s r t
    → (iter_rest (zip_first s) ≡ p.0.now ∷ iter_rest (zip_first t)) × ((zip_second s) ≡ p.1.now ∷ (zip_second t))
next_pair s t r p e h = subst (λ o. steps s o t) e h

pub no_pair : (s t : Pairs) (r : Option (Bor Field × Bor (List ℕ))) → r ≡ None → steps s r t → (iter_rest (zip_first s) ≡ []) ⊎ ((zip_second s) ≡ [])
no_pair s t r e h = by (subst (λ o. steps s o t) e h)
  where
    by : ((u : Iter Field) × fronts (zip_first s) None u) ⊎ ((u : List (List ℕ)) × YieldsFirstRef (λ words. words) (zip_second s) None u) → (iter_rest (zip_first s) ≡ []) ⊎ ((zip_second s) ≡ [])
    by (inl a) = inl (nil_from_length _ a.1.0)
    by (inr b) = inr b.1.0

-- the values so far and those of the pairs that are left are those of all
abbrev pub Leaves : ℕ → List Value → Pairs → Result (List Value) LineWhy → Type 0
Leaves members values pairs whole = after values (values_of members (iter_rest (zip_first pairs)) (zip_second pairs)) ≡ whole

module _ (members : ℕ) (values : List Value) (s t : Pairs) (whole : Result (List Value) LineWhy) (left : Leaves members values s whole) (r : Option (Bor Field × Bor (List ℕ))) where
  -- after a pair
  module _ (p : Bor Field × Bor (List ℕ)) (is : r ≡ Some p) (step : steps s r t) where
    behind : after values (values_of members (p.0.now ∷ iter_rest (zip_first t)) (p.1.now ∷ (zip_second t))) ≡ whole
    behind =
        let pair = next_pair s t r p is step in
        ap (λ (fields : List Field). after values (values_of members fields (p.1.now ∷ (zip_second t)))) (sym pair.0)
        ∙ ap (λ (words : List (List ℕ)). after values (values_of members (iter_rest (zip_first s)) words)) (sym pair.1) ∙ left

    pub leaves_others : (value : Value) (more : List Value) → value_of members p.0.now p.1.now ≡ Ok value → more ≡ values ++ value ∷ [] → Leaves members more t whole
    leaves_others value more read pushed =
        ap (λ (vs : List Value). after vs (values_of members (iter_rest (zip_first t)) (zip_second t))) pushed
        ∙ sym (after_value members values p.0.now (iter_rest (zip_first t)) p.1.now (zip_second t) value read) ∙ behind

    pub refuses_whole : (why : LineWhy) → value_of members p.0.now p.1.now ≡ Err why → whole ≡ Err why
    refuses_whole why e = sym behind ∙ refused_value members values p.0.now (iter_rest (zip_first t)) p.1.now (zip_second t) why e

  -- after the last pair
  pub leaves_none : r ≡ None → steps s r t → whole ≡ Ok values
  leaves_none is step =
      sym left ∙ ap (after values) (no_more members (iter_rest (zip_first s)) (zip_second s) (no_pair s t r is step)) ∙ ap Ok (append-nil values)
