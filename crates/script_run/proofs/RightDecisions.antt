-- Each published decision was right as the service took it.
use Rattle.std.proofs.Common.{◌≡◌, ℕ, zero, suc, ◌≤◌, List, [], ◌∷◌, ◌++◌, length, map, filter, Some, slice_get, ◌⊎◌, ⊎_elim, inl, inr, refl, ap, sym, ◌∙◌, subst, append_assoc, append-nil}
use Rattle.std.proofs.lemmas.List.{length-map}
use Rattle.grid_base.specs.Objects.{Object}
use Rattle.grid_base.specs.declared.calls.Request.{Request}
use Rattle.partition_protocol.specs.Events.{Event}
use Rattle.partition_protocol.specs.World.{World}
use Rattle.masters_world.specs.Decisions.{Decision, event_of, is_of_service}
use Rattle.masters_world.specs.Machine.{Ruled, Line, start, published_by, events_by, after, events}
use Rattle.masters_world.specs.Claims.{IsWellRuled, IsRight, Publishes}
use Rattle.masters_world.proofs.Theorem.{every_run_is_well_ruled, after_append, events_append}
use Rattle.masters_run.proofs.AskedLines.{published_goes, well_formed_after}
use Rattle.script_run.specs.Masters.{TookRightly}

-- what stands in a list with one more at its end stands in the list, or is that one
pushed : {A : Type 0} (xs : List A) (x : A) (k : ℕ) (y : A) → slice_get (xs ++ x ∷ []) k ≡ Some y → (slice_get xs k ≡ Some y) ⊎ ((k ≡ length xs) × (x ≡ y))
pushed [] x zero y e = inr (refl, cc)
pushed [] x (suc k) y e = absurd cc
pushed (z ∷ xs) x zero y e = inl e
pushed (z ∷ xs) x (suc k) y e = ⊎_elim (λ h. inl h) (λ (h : (k ≡ length xs) × (x ≡ y)). inr (ap suc h.0, h.1)) (pushed xs x k y e)

module _ {State : Type 0} (o : Object Request State) (p n b : ℕ) (some : 1 ≤ n) (most : n ≤ 8) where
  -- the partition after these lines, and what happened to it
  abbrev came : List (Line Request) → Ruled Request
  came lines = after o (start p n b) lines

  abbrev happened : List (Line Request) → List (Event Request)
  happened lines = events o (start p n b) lines

  abbrev AllRight : List Decision → List (Event Request) → Type 0
  AllRight ds es = (k : ℕ) (d : Decision) → slice_get ds k ≡ Some d → TookRightly o p n b es k d

  -- more happens
  longer : (es more : List (Event Request)) (k : ℕ) (d : Decision) → TookRightly o p n b es k d → TookRightly o p n b (es ++ more) k d
  longer es more k d took = record {
    before = took.before;
    rest = took.rest ++ more;
    whole = sym (append_assoc took.before (event_of n d ∷ took.rest) more) ∙ ap (λ xs. xs ++ more) took.whole;
    others = took.others;
    right = took.right;
  }

  -- one more line

  module _ (lines : List (Line Request)) (l : Line Request) (rights : AllRight (came lines).masters.published (happened lines)) where
    abbrev all_now : List Decision
    all_now = (came lines).masters.published ++ published_by (came lines) l

    whole_well : IsWellRuled o p n b lines (came lines) (happened lines)
    whole_well = every_run_is_well_ruled o p n b lines some most

    -- nothing is published by it
    quiet : published_by (came lines) l ≡ [] → AllRight all_now (happened lines ++ events_by (came lines) l)
    quiet none k d there =
        longer (happened lines) (events_by (came lines) l) k d (rights k d (ap (λ ds. slice_get ds k) (sym (append-nil (came lines).masters.published) ∙ ap (λ ds. (came lines).masters.published ++ ds) (sym none)) ∙ there))

    -- one decision is
    module _ (publishes : Publishes n (came lines) l) where
      abbrev one : Event Request
      one = event_of n publishes.decision

      happens : events_by (came lines) l ≡ one ∷ []
      happens =
          ap (λ es. es ++ map (event_of (came lines).world.members) (published_by (came lines) l)) publishes.alone ∙ ap (map (event_of (came lines).world.members)) publishes.one
          ∙ ap (λ m. event_of m publishes.decision ∷ []) (well_formed_after o p n b lines).same_members

      counted : length (filter (is_of_service n) (happened lines)) ≡ length (came lines).masters.published
      counted = ap length whole_well.listed ∙ length-map (came lines).masters.published (event_of n)

      last : TookRightly o p n b (happened lines ++ one ∷ []) (length (came lines).masters.published) publishes.decision
      last = record {
        before = happened lines;
        rest = [];
        whole = refl;
        others = counted;
        right = subst (λ (w : World Request). IsRight n w publishes.decision) (sym whole_well.of_events) publishes.right;
      }

      with_one : AllRight ((came lines).masters.published ++ publishes.decision ∷ []) (happened lines ++ one ∷ [])
      with_one k d there =
          ⊎_elim (λ (h : slice_get (came lines).masters.published k ≡ Some d). longer (happened lines) (one ∷ []) k d (rights k d h))
          (λ (h : (k ≡ length (came lines).masters.published) × (publishes.decision ≡ d)).
          subst (λ x. TookRightly o p n b (happened lines ++ one ∷ []) k x) h.1 (subst (λ i. TookRightly o p n b (happened lines ++ one ∷ []) i publishes.decision) (sym h.0) last))
          (pushed (came lines).masters.published publishes.decision k d there)

      published : AllRight all_now (happened lines ++ events_by (came lines) l)
      published =
          subst (λ ds. AllRight ((came lines).masters.published ++ ds) (happened lines ++ events_by (came lines) l)) (sym publishes.one)
          (subst (λ es. AllRight ((came lines).masters.published ++ publishes.decision ∷ []) (happened lines ++ es)) (sym happens) with_one)

    then : AllRight (came (lines ++ l ∷ [])).masters.published (happened (lines ++ l ∷ []))
    then =
        let list : all_now ≡ (came (lines ++ l ∷ [])).masters.published = published_goes o p n b lines l some most ∙ ap (λ (j : Ruled Request). j.masters.published) (sym (after_append o (start p n b) lines (l ∷ []))) in
        let all : happened lines ++ events_by (came lines) l ≡ happened (lines ++ l ∷ []) =
        ap (λ es. happened lines ++ es) (sym (append-nil (events_by (came lines) l))) ∙ sym (events_append o (start p n b) lines (l ∷ [])) in
        subst (λ ds. AllRight ds (happened (lines ++ l ∷ []))) list (subst (AllRight all_now) all (⊎_elim quiet published (whole_well.next l)))

  -- after these lines and more
  on : (lines more : List (Line Request)) → AllRight (came lines).masters.published (happened lines) → AllRight (came (lines ++ more)).masters.published (happened (lines ++ more))
  on lines [] rights = subst (λ ls. AllRight (came ls).masters.published (happened ls)) (sym (append-nil lines)) rights
  on lines (l ∷ more) rights = subst (λ ls. AllRight (came ls).masters.published (happened ls)) (append_assoc lines (l ∷ []) more) (on (lines ++ l ∷ []) more (then lines l rights))

  pub each_right : (lines : List (Line Request)) → AllRight (came lines).masters.published (happened lines)
  each_right lines = on [] lines (λ k d there. absurd cc)
