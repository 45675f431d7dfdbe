-- A member crashes as a master, partition after partition.
use Rattle.std.proofs.Common.{◌≡◌, ℕ, zero, suc, ◌+◌, ◌<◌, ◌≤◌, Bool, true, false, nat_lt, List, [], ◌∷◌, length, Some, slice_get, slice_set, refl, ap, sym, ◌∙◌, subst, arith}
use Rattle.std.proofs.lemmas.Option.{slice_get_within}
use Rattle.call_engine.specs.Calls.{Settings}
use Rattle.partition_protocol.proofs.Lists.{set_get_same, set_get_other}
use Rattle.partition_protocol.proofs.RowFacts.{less, not_less}
use Rattle.masters_protocol.specs.Members.{Outcome}
use Rattle.masters_protocol.specs.Machine as masters
use Rattle.masters_protocol.specs.Machine.{Crash}
use Rattle.masters_world.specs.Decisions.{Decision}
use Rattle.master_wire.specs.declared.decision.Decision.{Decision as Written}
use Rattle.master_log.specs.declared.masters.Masters.{Masters}
use Rattle.master_log.specs.Standing.{StandsFor, HasRun}
use Rattle.masters_run.specs.Runs.{RuledRun, are_some}
use Rattle.masters_run.specs.Grids.{Rules}
use Rattle.masters_run.specs.Parts.{HasCrashed, HasCrashedAt}
use Rattle.masters_run.proofs.RuledMasters.{events_of}

pub some_more : (ws : List (masters.Masters Decision)) → 1 ≤ length ws → are_some ws ≡ true
some_more [] e = absurd (omega (arith, e))
some_more (w ∷ ws) e = refl

-- The masters of a partition stand for what they were asked.
pub stand_there : (settings : Settings) (all : List Masters) (s : RuledRun) → Rules settings all s → (p : ℕ) (kept : Masters) → slice_get all p ≡ Some kept → (events : List (masters.Event Written)) × StandsFor kept events
stand_there settings all s rules p kept there =
    let within = slice_get_within all p kept there in
    let count = rules.count in
    let is : are_some s.masters ≡ true = some_more s.masters (omega (arith, within, count)) in
    let whole = rules.ruled is in
    let here = rules.each is p (omega (arith, within, count, whole)) in
    let same : here.masters ≡ kept = let e = sym here.there ∙ there in cc in
    (events_of here.are, subst (λ m. StandsFor m (events_of here.are)) same here.are.stands)

pub crashed_so : (m : ℕ) (kept new : Masters) (answer : Outcome) (events : List (masters.Event Written)) → StandsFor kept events → ((es : List (masters.Event Written)) → StandsFor kept es → HasRun kept new es (Crash m) answer) → HasCrashed m kept new
crashed_so m kept new answer events stands ran = record { stands = λ es at. (ran es at).stands; size = (ran events stands).size }

pub count_set : (ms : List Masters) (i : ℕ) (m : Masters) → length (slice_set ms i m) ≡ length ms
count_set [] i m = refl
count_set (x ∷ ms) zero m = refl
count_set (x ∷ ms) (suc i) m = ap (λ n. suc n) (count_set ms i m)

module _ (m : ℕ) (old items : List Masters) (i : ℕ) (kept new : Masters) (read : slice_get items i ≡ Some kept) (crashed : HasCrashed m kept new) where
  -- in one partition more
  pub crash_more : slice_get items i ≡ slice_get old i → ((p : ℕ) (before : Masters) → p < i → slice_get old p ≡ Some before → HasCrashedAt m before items p)
      → (p : ℕ) (before : Masters) → p < i + 1 → slice_get old p ≡ Some before → HasCrashedAt m before (slice_set items i new) p
  crash_more still so_far p before low there = go (nat_lt p i) refl
    where
      go : (b : Bool) → nat_lt p i ≡ b → HasCrashedAt m before (slice_set items i new) p
      go true is =
          let first = less p i is in
          let at = so_far p before first there in
          record { masters = at.masters; there = set_get_other items i p new (λ e. absurd (omega (arith, first, e))) ∙ at.there; crashed = at.crashed }
      go false is =
          let past = not_less p i is in
          let same : p ≡ i = omega (arith, past, low) in
          let its : kept ≡ before = let e = sym read ∙ still ∙ ap (slice_get old) (sym same) ∙ there in cc in
          record { masters = new; there = ap (slice_get (slice_set items i new)) same ∙ set_get_same items i new kept read; crashed = subst (λ x. HasCrashed m x new) its crashed }

  -- and the others are as they were
  pub rest_still : ((p : ℕ) → i ≤ p → slice_get items p ≡ slice_get old p) → (p : ℕ) → i + 1 ≤ p → slice_get (slice_set items i new) p ≡ slice_get old p
  rest_still rest p high = set_get_other items i p new (λ e. absurd (omega (arith, high, e))) ∙ rest p (omega (arith, high))
