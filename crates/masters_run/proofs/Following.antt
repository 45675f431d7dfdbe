-- What stands behind the old length of the code's published list is what the line published: no decision, or one, whose event then happens alone.
use Rattle.std.proofs.Common.{◌≡◌, ℕ, List, [], ◌∷◌, ◌++◌, map, length, Some, None, slice_get, refl, ap, sym, ◌∙◌, ◌⊎◌, ⊎_elim}
use Rattle.std.proofs.lemmas.List.{map-append, length-map}
use Rattle.std.proofs.lemmas.Option.{same_Some}
use Rattle.grid_base.specs.Objects.{Object}
use Rattle.masters_world.specs.Machine.{Ruled, Line, start, after, masters_after, published_by}
use Rattle.masters_world.specs.Claims.{Publishes}
use Rattle.masters_world.proofs.Theorem.{after_append, every_run_is_well_ruled}
use Rattle.master_wire.specs.declared.decision.Decision.{Decision as Written}
use Rattle.master_log.specs.declared.masters.Masters.{Masters}
use Rattle.master_log.specs.Laws.{published_of}
use Rattle.masters_run.specs.Written.{as_written}
use Rattle.masters_run.proofs.AskedLines.{published_goes}
use Rattle.masters_run.proofs.KeptMasters.{asked_in_code, StandForLines, some, most, published_is}

behind : {X : Type 0} (xs ys : List X) (k : ℕ) → k ≡ length xs → slice_get (xs ++ ys) k ≡ slice_get ys 0
behind {X} xs ys k e = ap (slice_get (xs ++ ys)) e ∙ go xs
  where
    go : (zs : List X) → slice_get (zs ++ ys) (length zs) ≡ slice_get ys 0
    go [] = refl
    go (z ∷ zs) = go zs

-- The published decision, as the code has it.
pub record HasPublished {C : Type 0} (n : ℕ) (j : Ruled C) (l : Line C) (kept : Written) : Type 0 where
  pub publishes : Publishes n j l
  pub is : kept ≡ as_written publishes.decision

module _ {C State : Type 0} (o : Object C State) (p n b : ℕ) (lines : List (Line C)) (l : Line C) (new : Masters) (k : StandForLines o p n b (lines ++ l ∷ []) new) where
  abbrev j : Ruled C
  j = after o (start p n b) lines

  abbrev published : List Written
  published = published_of new (asked_in_code o p n b (lines ++ l ∷ []))

  -- the published list after the line
  pub published_after : published ≡ map as_written (masters_after j l).published
  published_after = published_is o p n b (lines ++ l ∷ []) new k ∙ ap (λ (x : Ruled C). map as_written x.masters.published) (after_append o (start p n b) lines (l ∷ []))

  pub publishes_one_or_none : (published_by j l ≡ []) ⊎ Publishes n j l
  publishes_one_or_none = (every_run_is_well_ruled o p n b lines (some o p n b (lines ++ l ∷ []) new k) (most o p n b (lines ++ l ∷ []) new k)).next l

  -- what the code finds behind the old length
  found_is : (before : ℕ) → length j.masters.published ≡ before → slice_get published before ≡ slice_get (map as_written (published_by j l)) 0
  found_is before long =
      let old = j.masters.published in
      let goes = published_goes o p n b lines l (some o p n b (lines ++ l ∷ []) new k) (most o p n b (lines ++ l ∷ []) new k) in
      ap (λ ds. slice_get ds before) (published_after ∙ ap (map as_written) (sym goes) ∙ map-append as_written old (published_by j l))
      ∙ behind (map as_written old) (map as_written (published_by j l)) before (sym long ∙ sym (length-map old as_written))

  pub none_published : (before : ℕ) → length j.masters.published ≡ before → slice_get published before ≡ None → published_by j l ≡ []
  none_published before long none = ⊎_elim (λ e. e) (λ (r : Publishes n j l).
      absurd (let e : None ≡ Some (as_written r.decision) = sym none ∙ found_is before long ∙ ap (λ ds. slice_get (map as_written ds) 0) r.one in cc)) publishes_one_or_none

  pub one_published : (before : ℕ) (decision : Written) → length j.masters.published ≡ before → slice_get published before ≡ Some decision → HasPublished n j l decision
  one_published before decision long there = ⊎_elim
      (λ (e : published_by j l ≡ []). absurd (let e : Some decision ≡ None = sym there ∙ found_is before long ∙ ap (λ ds. slice_get (map as_written ds) 0) e in cc))
      (λ (r : Publishes n j l). record { publishes = r; is = same_Some decision (as_written r.decision) (sym there ∙ found_is before long ∙ ap (λ ds. slice_get (map as_written ds) 0) r.one) }) publishes_one_or_none
