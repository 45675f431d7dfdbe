-- What a master keeps of its peers: where a member's log or length stands, and the longest log.
use Rattle.std.proofs.Common.{◌≡◌, ℕ, suc, ◌+◌, max, ◌<◌, ◌≤◌, Bool, true, false, not, ◌&&◌, ◌||◌, ◌==◌, nat_lt, List, [], ◌∷◌, ◌++◌, length, take, drop, get_or, refl, ap, sym, ◌∙◌, ⊎_elim, arith, add-one}
use Rattle.std.specs.Prelude.{slice_set, Option, unwrap_or}
use Rattle.std.specs.List.{list_all, position, position_or_len}
use Rattle.std.proofs.lemmas.List.Sums.{prefix_len-le-length}
use Rattle.partition_protocol.proofs.Lists.{cases}
use Rattle.partition_protocol.proofs.RowFacts.{same_number, not_less}
use Rattle.masters_protocol.specs.Members.{ToldLog, StoredLength, with_tell, has_told, longer, longest, with_count}

-- where an element stands, or would stand

pub here : {X : Type 0} (p : X → Bool) (x : X) (xs : List X) → p x ≡ true → position_or_len p (x ∷ xs) ≡ 0
here p x xs e = rw e refl

pub beyond : {X : Type 0} (p : X → Bool) (x : X) (xs : List X) → p x ≡ false → position_or_len p (x ∷ xs) ≡ suc (position_or_len p xs)
beyond p x xs e = rw e (omega arith)

twice : (a b : Bool) → (a || b) ≡ (a || (a || b))
twice true b = refl
twice false b = refl

swapped : (a b c : Bool) → (a || (b || c)) ≡ (b || (a || c))
swapped true true c = refl
swapped true false c = refl
swapped false true c = refl
swapped false false c = refl

module _ {D : Type 0} (m : ℕ) (l : List D) where
  abbrev pub is_of : ToldLog D → Bool
  is_of k = k.member == m

  abbrev pub one : ToldLog D
  one = record { member = m; log = l }

  pub told_here : (k : ToldLog D) (ks : List (ToldLog D)) → is_of k ≡ true → with_tell m l (k ∷ ks) ≡ one ∷ ks
  told_here k ks e = rw e refl

  pub told_beyond : (k : ToldLog D) (ks : List (ToldLog D)) → is_of k ≡ false → with_tell m l (k ∷ ks) ≡ k ∷ with_tell m l ks
  told_beyond k ks e = rw e refl

  -- who has told is told of anew in its place
  pub told_again : (ks : List (ToldLog D)) → position_or_len is_of ks < length ks → with_tell m l ks ≡ slice_set ks (position_or_len is_of ks) one
  told_again [] h = absurd (omega (arith, h))
  told_again (k ∷ ks) h = ⊎_elim
      (λ e. told_here k ks e ∙ sym (ap (λ i. slice_set (k ∷ ks) i one) (here is_of k ks e)))
      (λ e. let i : position_or_len is_of (k ∷ ks) ≡ suc (position_or_len is_of ks) = beyond is_of k ks e in
      told_beyond k ks e ∙ ap (λ zs. k ∷ zs) (told_again ks (omega (arith, h, i))) ∙ sym (ap (λ j. slice_set (k ∷ ks) j one) i))
      (cases (is_of k))

  -- and who hasn't comes last
  pub told_first : (ks : List (ToldLog D)) → length ks ≤ position_or_len is_of ks → with_tell m l ks ≡ ks ++ one ∷ []
  told_first [] h = refl
  told_first (k ∷ ks) h = ⊎_elim
      (λ e. absurd (let i = here is_of k ks e in omega (arith, h, i)))
      (λ e. let i : position_or_len is_of (k ∷ ks) ≡ suc (position_or_len is_of ks) = beyond is_of k ks e in
      told_beyond k ks e ∙ ap (λ zs. k ∷ zs) (told_first ks (omega (arith, h, i))))
      (cases (is_of k))

  -- the longest log then

  longest_from : (own : List D) (ks : List (ToldLog D)) → position_or_len is_of ks < length ks
      → longest (longer (longest own (take (position_or_len is_of ks) ks)) l) (drop (suc (position_or_len is_of ks)) ks) ≡ longest own (with_tell m l ks)
  longest_from own [] h = absurd (omega (arith, h))
  longest_from own (k ∷ ks) h = ⊎_elim
      (λ e. let i : position_or_len is_of (k ∷ ks) ≡ 0 = here is_of k ks e in
      ap (λ j. longest (longer (longest own (take j (k ∷ ks))) l) (drop (suc j) (k ∷ ks))) i ∙ sym (ap (longest own) (told_here k ks e)))
      (λ e. let i : position_or_len is_of (k ∷ ks) ≡ suc (position_or_len is_of ks) = beyond is_of k ks e in
      ap (λ j. longest (longer (longest own (take j (k ∷ ks))) l) (drop (suc j) (k ∷ ks))) i
      ∙ longest_from (longer own k.log) ks (omega (arith, h, i)) ∙ sym (ap (longest own) (told_beyond k ks e)))
      (cases (is_of k))

  pub longest_again : (own : List D) (ks : List (ToldLog D)) → position_or_len is_of ks < length ks
      → longest (longer (longest own (take (position_or_len is_of ks) ks)) l) (drop (position_or_len is_of ks + 1) ks) ≡ longest own (with_tell m l ks)
  longest_again own ks h = ap (λ j. longest (longer (longest own (take (position_or_len is_of ks) ks)) l) (drop j ks)) (add-one (position_or_len is_of ks)) ∙ longest_from own ks h

  pub longest_first : (own : List D) (ks : List (ToldLog D)) → length ks ≤ position_or_len is_of ks → longer (longest own ks) l ≡ longest own (with_tell m l ks)
  longest_first own [] h = refl
  longest_first own (k ∷ ks) h = ⊎_elim
      (λ e. absurd (let i = here is_of k ks e in omega (arith, h, i)))
      (λ e. let i : position_or_len is_of (k ∷ ks) ≡ suc (position_or_len is_of ks) = beyond is_of k ks e in
      longest_first (longer own k.log) ks (omega (arith, h, i)) ∙ sym (ap (longest own) (told_beyond k ks e)))
      (cases (is_of k))

  -- who has told then
  pub has_told_more : (ks : List (ToldLog D)) (p : ℕ) → has_told (with_tell m l ks) p ≡ ((m == p) || has_told ks p)
  has_told_more [] p = refl
  has_told_more (k ∷ ks) p = ⊎_elim
      (λ e. ap (λ zs. has_told zs p) (told_here k ks e) ∙ go k.member (same_number k.member m e))
      (λ e. ap (λ zs. has_told zs p) (told_beyond k ks e) ∙ ap (λ b. (k.member == p) || b) (has_told_more ks p) ∙ swapped (k.member == p) (m == p) (has_told ks p))
      (cases (is_of k))
    where
      go : (n : ℕ) → n ≡ m → ((m == p) || has_told ks p) ≡ ((m == p) || ((n == p) || has_told ks p))
      go n e = rw e (twice (m == p) (has_told ks p))

  -- all of them then
  pub all_told_more : (ks : List (ToldLog D)) (ps : List ℕ) → list_all (has_told (with_tell m l ks)) ps ≡ list_all (λ p. (m == p) || has_told ks p) ps
  all_told_more ks [] = refl
  all_told_more ks (p ∷ ps) = ap (λ b. b && list_all (has_told (with_tell m l ks)) ps) (has_told_more ks p) ∙ ap (λ b. ((m == p) || has_told ks p) && b) (all_told_more ks ps)

module _ (m c : ℕ) where
  abbrev pub is_from : StoredLength → Bool
  is_from k = k.member == m

  pub counted_here : (k : StoredLength) (ks : List StoredLength) → is_from k ≡ true → with_count m c (k ∷ ks) ≡ record { member = m; count = max c k.count } ∷ ks
  counted_here k ks e = rw e refl

  pub counted_beyond : (k : StoredLength) (ks : List StoredLength) → is_from k ≡ false → with_count m c (k ∷ ks) ≡ k ∷ with_count m c ks
  counted_beyond k ks e = rw e refl

  pub counted_again : (d : StoredLength) (ks : List StoredLength) → position_or_len is_from ks < length ks
      → with_count m c ks ≡ slice_set ks (position_or_len is_from ks) (record { member = m; count = max c (get_or ks (position_or_len is_from ks) d).count })
  counted_again d [] h = absurd (omega (arith, h))
  counted_again d (k ∷ ks) h = ⊎_elim
      (λ e. counted_here k ks e ∙ sym (ap (λ i. slice_set (k ∷ ks) i (record { member = m; count = max c (get_or (k ∷ ks) i d).count })) (here is_from k ks e)))
      (λ e. let i : position_or_len is_from (k ∷ ks) ≡ suc (position_or_len is_from ks) = beyond is_from k ks e in
      counted_beyond k ks e ∙ ap (λ zs. k ∷ zs) (counted_again d ks (omega (arith, h, i)))
      ∙ sym (ap (λ j. slice_set (k ∷ ks) j (record { member = m; count = max c (get_or (k ∷ ks) j d).count })) i))
      (cases (is_from k))

  pub counted_first : (ks : List StoredLength) → length ks ≤ position_or_len is_from ks → with_count m c ks ≡ ks ++ record { member = m; count = c } ∷ []
  counted_first [] h = refl
  counted_first (k ∷ ks) h = ⊎_elim
      (λ e. absurd (let i = here is_from k ks e in omega (arith, h, i)))
      (λ e. let i : position_or_len is_from (k ∷ ks) ≡ suc (position_or_len is_from ks) = beyond is_from k ks e in
      counted_beyond k ks e ∙ ap (λ zs. k ∷ zs) (counted_first ks (omega (arith, h, i))))
      (cases (is_from k))

-- the place of the first that passes, or the length
pub place_or_length : {X : Type 0} (p : X → Bool) (xs : List X) → unwrap_or (position p xs) (length xs) ≡ position_or_len p xs
place_or_length p xs = ⊎_elim
    (λ found. rw found refl)
    (λ none. rw none (let b = prefix_len-le-length (λ x. not (p x)) xs in let a = not_less (position_or_len p xs) (length xs) none in omega (arith, a, b)))
    (cases (nat_lt (position_or_len p xs) (length xs)))

pub place_found : {X : Type 0} (p : X → Bool) (xs : List X) (found : Option ℕ) (n : ℕ) → found ≡ position p xs → n ≡ length xs → unwrap_or found n ≡ position_or_len p xs
place_found p xs found n is len = ap (λ o. unwrap_or o n) is ∙ ap (λ k. unwrap_or (position p xs) k) len ∙ place_or_length p xs
