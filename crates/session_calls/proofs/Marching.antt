-- Lists that are written place by place.
use Rattle.std.proofs.Common.{◌≡◌, ℕ, zero, suc, ◌+◌, ◌≤◌, List, [], ◌∷◌, ◌++◌, Some, slice_get, set, take, drop, map, length, sym, refl, ap, ◌∙◌, append-nil, append_assoc}
use Rattle.std.proofs.lemmas.List.{take_all, drop_all, take_more, map-append, length-append, length-map, length-take-le}
use Rattle.std.proofs.lemmas.List.Edits.{map_over_more}
use Rattle.std.proofs.lemmas.Option.{slice_get_within, get_or_from_slice_get}

-- the first n of a list are by f, and the others are as they were
abbrev pub WrittenTo : {A : Type 0} → (A → A) → ℕ → List A → List A → Type 0
WrittenTo f n old now = now ≡ map f (take n old) ++ drop n old

module _ {A : Type 0} (f : A → A) where
  pub written_none : (xs : List A) → WrittenTo f 0 xs xs
  written_none xs = refl

  untouched_there : (n : ℕ) (xs : List A) → slice_get (map f (take n xs) ++ drop n xs) n ≡ slice_get xs n
  untouched_there zero xs = refl
  untouched_there (suc n) [] = refl
  untouched_there (suc n) (x ∷ xs) = untouched_there n xs

  -- what comes next is as it was
  pub untouched : (n : ℕ) (xs ys : List A) (x : A) → WrittenTo f n xs ys → slice_get ys n ≡ Some x → slice_get xs n ≡ Some x
  untouched n xs ys x is there = sym (ap (λ (z : List A). slice_get z n) is ∙ untouched_there n xs) ∙ there

  pub written_more : (n : ℕ) (xs ys zs : List A) (x : A) → WrittenTo f n xs ys → slice_get ys n ≡ Some x → zs ≡ set ys n (f x) → WrittenTo f (n + 1) xs zs
  written_more n xs ys zs x is there written = written ∙ map_over_more f xs ys n x (slice_get_within xs n x (untouched n xs ys x is there)) is (sym (get_or_from_slice_get ys n x x there))

  pub written_all : (n : ℕ) (xs ys : List A) → length xs ≤ n → WrittenTo f n xs ys → ys ≡ map f xs
  written_all n xs ys all is = is ∙ (ap (λ (z : List A). map f z ++ drop n xs) (take_all n xs all) ∙ (ap (λ (z : List A). map f xs ++ z) (drop_all n xs all) ∙ append-nil (map f xs)))

module _ {A B : Type 0} (g : A → B) where
  -- one more is made of what comes next
  pub made_more : (n : ℕ) (xs : List A) (ps qs : List B) (x : A) (y : B) → ps ≡ map g (take n xs) → slice_get xs n ≡ Some x → y ≡ g x → qs ≡ ps ++ y ∷ [] → qs ≡ map g (take (n + 1) xs)
  made_more n xs ps qs x y are there made pushed = pushed
      ∙ (ap (λ (z : B). ps ++ z ∷ []) made
      ∙ (ap (λ (z : List B). z ++ g x ∷ []) are
      ∙ (sym (map-append g (take n xs) (x ∷ []))
      ∙ ap (map g) (ap (λ (z : A). take n xs ++ z ∷ []) (sym (get_or_from_slice_get xs n x x there)) ∙ sym (take_more xs n x (slice_get_within xs n x there))))))

  pub made_all : (n : ℕ) (xs : List A) (ps : List B) → length xs ≤ n → ps ≡ map g (take n xs) → ps ≡ map g xs
  made_all n xs ps all are = are ∙ ap (map g) (take_all n xs all)

  pub made_count : (n : ℕ) (xs : List A) (ps : List B) → n ≤ length xs → ps ≡ map g (take n xs) → length ps ≡ n
  made_count n xs ps within are = ap length are ∙ (length-map (take n xs) g ∙ length-take-le n xs within)

module _ {A : Type 0} where
  after_these : (xs : List A) (x : A) (ys : List A) → slice_get (xs ++ x ∷ ys) (length xs) ≡ Some x
  after_these [] x ys = refl
  after_these (z ∷ zs) x ys = after_these zs x ys

  -- the last of a beginning was taken away
  module _ (all before after done : List A) (x : A) (cut : all ≡ before ++ done) (popped : before ≡ after ++ x ∷ []) where
    pub cut_next : all ≡ after ++ (x ∷ done)
    cut_next = cut ∙ (ap (λ (z : List A). z ++ done) popped ∙ append_assoc after (x ∷ []) done)

    pub last_there : slice_get all (length after) ≡ Some x
    last_there = ap (λ (z : List A). slice_get z (length after)) cut_next ∙ after_these after x done

    pub one_less : length before ≡ length after + 1
    one_less = ap length popped ∙ length-append after (x ∷ [])
