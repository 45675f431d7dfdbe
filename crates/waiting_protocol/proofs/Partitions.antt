-- Each partition goes by its own lines alone.
use Rattle.std.proofs.Common.{◌≡◌, ◌≢◌, ℕ, zero, suc, ◌≤◌, ◌<◌, Bool, true, false, cond, ◌==◌, List, [], ◌∷◌, ◌++◌, map, refl, ap, sym, ◌∙◌, subst, ◌⊎◌, ⊎_elim, inl, inr, arith}
use Rattle.std.specs.List.{flat_map}
use Rattle.grid_base.specs.Objects.{Object}
use Rattle.partition_protocol.specs.Service.{numbers_below}
use Rattle.partition_protocol.proofs.Lists.{cases}
use Rattle.partition_protocol.proofs.RowFacts.{same_number, other_number, number_same, number_other, number_cases}
use Rattle.waiting_protocol.specs.Machine.{Waiting, Line, Terms, Gone, goes, gone_by, events_by, after}
use Rattle.waiting_protocol.specs.Partitions.{Grid, GridLine, In, InEach, Of, all_of, goes_in, goes_below, gone_below, events_below, grid_goes, grid_after, line_at, lines_at, EveryPartitionGoesByItself}

pub flat_map_last : {X Y : Type 0} (f : X → List Y) (xs : List X) (x : X) → flat_map f (xs ++ x ∷ []) ≡ flat_map f xs ++ f x
flat_map_last f [] x = nil (f x)
  where
    nil : {Z : Type 0} (zs : List Z) → zs ++ [] ≡ zs
    nil [] = refl
    nil (z ∷ zs) = ap (λ ys. z ∷ ys) (nil zs)
flat_map_last {X} {Y} f (y ∷ ys) x = ap (λ zs. f y ++ zs) (flat_map_last f ys x) ∙ sym (assoc (f y) (flat_map f ys) (f x))
  where
    assoc : (ks ls ms : List Y) → (ks ++ ls) ++ ms ≡ ks ++ (ls ++ ms)
    assoc [] ls ms = refl
    assoc (k ∷ ks) ls ms = ap (λ zs. k ∷ zs) (assoc ks ls ms)

pub yes : {X : Type 0} (b : Bool) (x y : X) → b ≡ true → cond b x y ≡ x
yes b x y e = rw e refl

pub other : {X : Type 0} (b : Bool) (x y : X) → b ≡ false → cond b x y ≡ y
other b x y e = rw e refl

module _ {C State : Type 0} (o : Object C State) (t : Terms C) where
  abbrev pub BelowAt : ℕ → Grid C → Line C → ℕ → Type 0
  BelowAt n grid l q = (q < n → goes_below o t n grid l q ≡ goes o t (grid q) l) × (n ≤ q → goes_below o t n grid l q ≡ grid q)

  pub below_step : (n : ℕ) (grid : Grid C) (l : Line C) (q : ℕ) → BelowAt n grid l q → goes_below o t n grid l n ≡ grid n → BelowAt (suc n) grid l q
  below_step n grid l q h here = ⊎_elim same differs (number_cases q n)
    where
      before : Grid C
      before = goes_below o t n grid l

      same : q ≡ n → BelowAt (suc n) grid l q
      same e = (
        λ k. yes (q == n) (goes o t (before n) l) (before q) (number_same q n e) ∙ ap (λ (z : Waiting C). goes o t z l) here ∙ ap (λ m. goes o t (grid m) l) (sym e),
        λ k. absurd (omega (arith, e, k)),
      )

      differs : q ≢ n → BelowAt (suc n) grid l q
      differs d = (
        λ k. other (q == n) (goes o t (before n) l) (before q) (number_other q n d) ∙ h.0 (omega (arith, k, d)),
        λ k. other (q == n) (goes o t (before n) l) (before q) (number_other q n d) ∙ h.1 (omega (arith, k)),
      )

  pub below_at : (n : ℕ) (grid : Grid C) (l : Line C) (q : ℕ) → BelowAt n grid l q
  below_at zero grid l q = (λ h. absurd (omega (arith, h)), λ h. refl)
  below_at (suc n) grid l q = below_step n grid l q (below_at n grid l q) ((below_at n grid l n).1 (omega arith))

  pub gone_by_part : (n : ℕ) (grid : Grid C) (l : Line C) → gone_below o t n grid l ≡ flat_map (λ p. all_of p (gone_by o t (grid p) l)) (numbers_below n)
  gone_by_part zero grid l = refl
  gone_by_part (suc n) grid l =
      ap (λ gs. gs ++ all_of n (gone_by o t (goes_below o t n grid l n) l)) (gone_by_part n grid l)
      ∙ ap (λ (z : Waiting C). flat_map (λ p. all_of p (gone_by o t (grid p) l)) (numbers_below n) ++ all_of n (gone_by o t z l)) ((below_at n grid l n).1 (omega arith))
      ∙ sym (flat_map_last (λ p. all_of p (gone_by o t (grid p) l)) (numbers_below n) n)

  pub events_by_part : (n : ℕ) (grid : Grid C) (l : Line C) → events_below o t n grid l ≡ flat_map (λ p. all_of p (events_by o t (grid p) l)) (numbers_below n)
  events_by_part zero grid l = refl
  events_by_part (suc n) grid l =
      ap (λ gs. gs ++ all_of n (events_by o t (goes_below o t n grid l n) l)) (events_by_part n grid l)
      ∙ ap (λ (z : Waiting C). flat_map (λ p. all_of p (events_by o t (grid p) l)) (numbers_below n) ++ all_of n (events_by o t z l)) ((below_at n grid l n).1 (omega arith))
      ∙ sym (flat_map_last (λ p. all_of p (events_by o t (grid p) l)) (numbers_below n) n)

  -- a line of a grid is one of a partition, or none
  pub line_by_itself : (count : ℕ) (grid : Grid C) (l : GridLine C) (p : ℕ) → p < count → (rest : List (Line C)) → after o t (grid_goes o t count grid l p) rest ≡ after o t (grid p) (line_at p l ++ rest)
  line_by_itself count grid (In q l) p h rest = ⊎_elim here there (cases (p == q))
    where
      here : (p == q) ≡ true → after o t (cond (p == q) (goes o t (grid q) l) (grid p)) rest ≡ after o t (grid p) (cond (p == q) (l ∷ []) [] ++ rest)
      here e =
          ap (λ (z : Waiting C). after o t z rest) (yes (p == q) (goes o t (grid q) l) (grid p) e ∙ ap (λ k. goes o t (grid k) l) (sym (same_number p q e)))
          ∙ sym (ap (λ ls. after o t (grid p) (ls ++ rest)) (yes (p == q) (l ∷ []) [] e))

      there : (p == q) ≡ false → after o t (cond (p == q) (goes o t (grid q) l) (grid p)) rest ≡ after o t (grid p) (cond (p == q) (l ∷ []) [] ++ rest)
      there e =
          ap (λ (z : Waiting C). after o t z rest) (other (p == q) (goes o t (grid q) l) (grid p) e)
          ∙ sym (ap (λ ls. after o t (grid p) (ls ++ rest)) (other (p == q) (l ∷ []) [] e))
  line_by_itself count grid (InEach l) p h rest = ap (λ (z : Waiting C). after o t z rest) ((below_at count grid l p).0 h)

  pub lines_by_themselves : (count : ℕ) (grid : Grid C) (ls : List (GridLine C)) (p : ℕ) → p < count → grid_after o t count grid ls p ≡ after o t (grid p) (lines_at p ls)
  lines_by_themselves count grid [] p h = refl
  lines_by_themselves count grid (l ∷ ls) p h = lines_by_themselves count (grid_goes o t count grid l) ls p h ∙ line_by_itself count grid l p h (lines_at p ls)

pub every_partition_goes_by_itself : {C State : Type 0} (o : Object C State) → EveryPartitionGoesByItself o
every_partition_goes_by_itself o t count grid = record {
  after = λ lines p h. lines_by_themselves o t count grid lines p h;
  gone = gone_by_part o t count grid;
  events = events_by_part o t count grid;
}
