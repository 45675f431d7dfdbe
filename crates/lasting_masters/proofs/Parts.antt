-- What is kept and what is said stand for whole logs.
use Rattle.std.proofs.Common.{◌≡◌, ℕ, zero, suc, ◌+◌, ◌-◌, ◌<◌, ◌≤◌, false, nat_lt, nat_le, List, [], ◌∷◌, ◌++◌, length, drop, refl, ap, sym, ◌∙◌, subst, arith, append_assoc, append-nil, length-append}
use Rattle.std.proofs.lemmas.List.{drop_all}
use Rattle.std.proofs.Math.Seq.{drop-append_seam}
use Rattle.partition_protocol.proofs.Lists.{on_cond}
use Rattle.partition_protocol.proofs.RowFacts.{less, not_less, is_not_less}
use Rattle.partition_protocol.specs.Sequences.{IsFrontOf}
use Rattle.masters_protocol.specs.Members.{longer}
use Rattle.masters_protocol.proofs.Tests.{at_most, not_at_most}
use Rattle.masters_protocol.proofs.Fronts.{front_append, front_both}
use Rattle.masters_world.proofs.Lists.{append_same}
use Rattle.lasting_masters.specs.Kept.{Folding, folded, Kept, reach, state_of, Part, From, Whole, part_reach, behind, part_from, spliced, has_gap, with_part, shortened}
use Rattle.lasting_masters.specs.Stands.{Keeps, Says}

-- lists

pub folded_append : {D S : Type 0} (o : Folding D S) (s : S) (xs ys : List D) → folded o s (xs ++ ys) ≡ folded o (folded o s xs) ys
folded_append o s [] ys = refl
folded_append o s (x ∷ xs) ys = folded_append o (o.next s x) xs ys

pub length_one_more : {D : Type 0} (xs : List D) (d : D) → length (xs ++ d ∷ []) ≡ suc (length xs)
length_one_more xs d = let a = length-append xs (d ∷ []) in omega (arith, a)

-- the longer of two fronts of one list is the first with what lies past it in the second
pub joined : {D : Type 0} (l front ds lead : List D) → IsFrontOf l lead → IsFrontOf (front ++ ds) lead → length front ≤ length l → l ++ drop (length l - length front) ds ≡ longer l (front ++ ds)
joined {D} l front ds lead h k u = on_cond (λ us. l ++ drop (length l - length front) ds ≡ us) (nat_lt (length l) (length (front ++ ds))) (front ++ ds) l
    (λ e. past (less (length l) (length (front ++ ds)) e)) (λ e. within (not_less (length l) (length (front ++ ds)) e))
  where
    within : length (front ++ ds) ≤ length l → l ++ drop (length l - length front) ds ≡ l
    within v = let a = length-append front ds in let b : length ds ≤ length l - length front = omega (arith, a, v, u) in ap (λ us. l ++ us) (drop_all (length l - length front) ds b) ∙ append-nil l

    past : length l < length (front ++ ds) → l ++ drop (length l - length front) ds ≡ front ++ ds
    past v =
        let p : IsFrontOf l (front ++ ds) = front_both l (front ++ ds) lead h k (omega (arith, v)) in
        let q : IsFrontOf front l = front_both front l (front ++ ds) (front_append front ds) p u in
        let split : front ++ (q.0 ++ p.0) ≡ front ++ ds = sym (append_assoc front q.0 p.0) ∙ ap (λ us. us ++ p.0) q.1 ∙ p.1 in
        let same : q.0 ++ p.0 ≡ ds = append_same front (q.0 ++ p.0) ds split in
        let a : length q.0 ≡ length l - length front = (let b = length-append front q.0 in let c = ap (λ us. length us) q.1 in omega (arith, b, c)) in
        let r : drop (length l - length front) ds ≡ p.0 = subst (λ us. drop (length l - length front) us ≡ p.0) same (subst (λ i. drop i (q.0 ++ p.0) ≡ p.0) a (drop-append_seam q.0 p.0)) in
        ap (λ us. l ++ us) r ∙ p.1

module _ {D S : Type 0} (o : Folding D S) where
  pub kept_reach : (k : Kept D S) (l : List D) → Keeps o k l → reach k ≡ length l
  kept_reach k l h = let a = length-append h.front k.rest in let b = ap (λ us. length us) h.log in let c = h.cut in omega (arith, a, b, c)

  -- the state that is computed from what is kept is that of the whole log
  pub kept_state : (k : Kept D S) (l : List D) → Keeps o k l → state_of o k ≡ folded o o.opening l
  kept_state k l h = ap (λ s. folded o s k.rest) h.base ∙ sym (folded_append o o.opening h.front k.rest) ∙ ap (λ us. folded o o.opening us) h.log

  pub more_kept : (k : Kept D S) (l ds : List D) → Keeps o k l → Keeps o (record { cut = k.cut; base = k.base; rest = k.rest ++ ds }) (l ++ ds)
  more_kept k l ds h = record { front = h.front; log = sym (append_assoc h.front k.rest ds) ∙ ap (λ us. us ++ ds) h.log; cut = h.cut; base = h.base }

  -- what is said

  pub says_reach : (b : ℕ) (p : Part D S) (l : List D) → Says o b p l → part_reach p ≡ length l
  says_reach b (From i ds) l h = let a = length-append h.0 ds in let e = ap (λ us. length us) h.1 in let c = h.2 in omega (arith, a, e, c)
  says_reach b (Whole k) l h = kept_reach k l h.0

  pub says_behind : (b i : ℕ) (k : ℕ) (front ds l : List D) → front ++ ds ≡ l → i ≡ length front → Says o b (behind i k ds) l
  says_behind b i zero front ds l e c = (front, e, c)
  says_behind b i (suc k) front [] l e c = (front, e, c)
  says_behind b i (suc k) front (d ∷ ds) l e c = says_behind b (suc i) k (front ++ d ∷ []) ds l (append_assoc front (d ∷ []) ds ∙ e) (let a = length_one_more front d in omega (arith, a, c))

  pub says_part : (b p : ℕ) (k : Kept D S) (l : List D) → Keeps o k l → k.cut ≤ b → Says o b (part_from p k) l
  says_part b p k l h c = on_cond (λ x. Says o b x l) (nat_lt p k.cut) (Whole k) (behind k.cut (p - k.cut) k.rest) (λ e. (h, c)) (λ e. says_behind b k.cut (p - k.cut) h.front k.rest l h.log h.cut)

  pub says_later : (b c : ℕ) (p : Part D S) (l : List D) → b ≤ c → Says o b p l → Says o c p l
  says_later b c (From i ds) l u h = h
  says_later b c (Whole k) l u h = (h.0, let v = h.1 in omega (arith, u, v))

  -- what is taken

  pub spliced_keeps : (k : Kept D S) (l front ds lead : List D) (i : ℕ) → Keeps o k l → i ≡ length front → IsFrontOf l lead → IsFrontOf (front ++ ds) lead → i ≤ reach k → Keeps o (spliced k i ds) (longer l (front ++ ds))
  spliced_keeps k l front ds lead i h c p q u =
      let r = kept_reach k l h in
      let v : length front ≤ length l = omega (arith, r, c, u) in
      let same : reach k - i ≡ length l - length front = omega (arith, r, c) in
      subst (λ us. Keeps o (spliced k i ds) us) (joined l front ds lead p q v)
      (subst (λ j. Keeps o (record { cut = k.cut; base = k.base; rest = k.rest ++ drop j ds }) (l ++ drop (length l - length front) ds)) (sym same)
      (more_kept k l (drop (length l - length front) ds) h))

  pub longer_when : (xs ys : List D) → length xs < length ys → longer xs ys ≡ ys
  longer_when xs ys l = on_cond (λ us. us ≡ ys) (nat_lt (length xs) (length ys)) ys xs (λ e. refl) (λ e. absurd (let a = not_less (length xs) (length ys) e in omega (arith, a, l)))

  pub part_keeps : (b : ℕ) (k : Kept D S) (l j lead : List D) (p : Part D S) → Keeps o k l → Says o b p j → IsFrontOf l lead → IsFrontOf j lead → has_gap (reach k) p ≡ false → Keeps o (with_part k p) (longer l j)
  part_keeps b k l j lead (From i ds) h s p q g =
      subst (λ us. Keeps o (spliced k i ds) (longer l us)) s.1
      (spliced_keeps k l s.0 ds lead i h s.2 p (subst (λ us. IsFrontOf us lead) (sym s.1) q) (not_less (reach k) i g))
  part_keeps b k l j lead (Whole a) h s p q g = on_cond (λ x. Keeps o x (longer l j)) (nat_le a.cut (reach k)) (spliced k a.cut a.rest) a
      (λ e. subst (λ us. Keeps o (spliced k a.cut a.rest) (longer l us)) s.0.log
      (spliced_keeps k l s.0.front a.rest lead a.cut h s.0.cut p (subst (λ us. IsFrontOf us lead) (sym s.0.log) q) (at_most a.cut (reach k) e)))
      (λ e. let u = not_at_most a.cut (reach k) e in let r = kept_reach k l h in let t = kept_reach a j s.0 in
      subst (λ us. Keeps o a us) (sym (longer_when l j (omega (arith, u, r, t)))) s.0)

  pub part_reach_more : (k : Kept D S) (p : Part D S) → reach k ≤ reach (with_part k p)
  part_reach_more k (From i ds) = let a = length-append k.rest (drop (reach k - i) ds) in omega (arith, a)
  part_reach_more k (Whole a) = on_cond (λ x. reach k ≤ reach x) (nat_le a.cut (reach k)) (spliced k a.cut a.rest) a
      (λ e. let b = length-append k.rest (drop (reach k - a.cut) a.rest) in omega (arith, b)) (λ e. let u = not_at_most a.cut (reach k) e in omega (arith, u))

  pub part_cut : (b : ℕ) (k : Kept D S) (j : List D) (p : Part D S) → k.cut ≤ b → Says o b p j → (with_part k p).cut ≤ b
  part_cut b k j (From i ds) c s = c
  part_cut b k j (Whole a) c s = on_cond (λ (x : Kept D S). x.cut ≤ b) (nat_le a.cut (reach k)) (spliced k a.cut a.rest) a (λ e. c) (λ e. s.1)

  pub gap_later : (i j : ℕ) (p : Part D S) → i ≤ j → has_gap i p ≡ false → has_gap j p ≡ false
  gap_later i j (From q ds) u e = let a = not_less i q e in is_not_less j q (omega (arith, a, u))
  gap_later i j (Whole a) u e = refl

  -- what is cut

  pub cut_keeps : (n c : ℕ) (b : S) (front ds l : List D) → front ++ ds ≡ l → c ≡ length front → b ≡ folded o o.opening front → Keeps o (shortened o n c b ds) l
  cut_keeps zero c b front ds l e i f = record { front = front; log = e; cut = i; base = f }
  cut_keeps (suc n) c b front [] l e i f = record { front = front; log = e; cut = i; base = f }
  cut_keeps (suc n) c b front (d ∷ ds) l e i f = cut_keeps n (suc c) (o.next b d) (front ++ d ∷ []) ds l (append_assoc front (d ∷ []) ds ∙ e) (let a = length_one_more front d in omega (arith, a, i))
      (ap (λ s. o.next s d) f ∙ sym (folded_append o o.opening front (d ∷ [])))

  pub cut_most : (n c : ℕ) (b : S) (ds : List D) → (shortened o n c b ds).cut ≤ c + n
  cut_most zero c b ds = omega arith
  cut_most (suc n) c b [] = omega arith
  cut_most (suc n) c b (d ∷ ds) = let a = cut_most n (suc c) (o.next b d) ds in omega (arith, a)

  pub cut_reach : (n c : ℕ) (b : S) (ds : List D) → reach (shortened o n c b ds) ≡ c + length ds
  cut_reach zero c b ds = refl
  cut_reach (suc n) c b [] = refl
  cut_reach (suc n) c b (d ∷ ds) = let a = cut_reach n (suc c) (o.next b d) ds in omega (arith, a)
