-- A run that is given up stays so, whatever is to come.
use Rattle.std.proofs.Common.{◌≡◌, ℕ, zero, suc, ◌≤◌, List, ◌++◌, ap, sym, ◌∙◌, subst, ⊎_elim, arith}
use Rattle.std.proofs.lemmas.Bool.{cases_eq}
use Rattle.grid_base.specs.Objects.{Object}
use Rattle.grid_base.specs.declared.names.CallId.{CallId}
use Rattle.grid_base.specs.declared.calls.Request.{Request}
use Rattle.object_store.specs.Partitions.{Partition}
use Rattle.replay_run.specs.Endings.{new_arrivals, AreAmong}
use Rattle.replay_run.specs.Runs.{Run}
use Rattle.replay_run.specs.ScriptRuns.{IsRun}
use Rattle.replay_run.specs.WorldCalls.{Onward, GivesUpSo}
use Rattle.replay_run.proofs.Growing.{GoesBy}
use Rattle.replay_run.proofs.Midway.{among_more}
use Rattle.replay_run.proofs.RunFacts.{ArrivalsOk}
use Rattle.replay_run.proofs.RunsOfLines.{run_ok}
use Rattle.replay_run.proofs.SkipLaws.{both_go, both_among}

-- the same by another name of where that leads
pub up_as : (r : Run) (f g : Onward) → ((s : List CallId) → f s ≡ g s) → GivesUpSo r f → GivesUpSo r g
up_as r f g same a = record {
  skips = a.skips;
  own = subst (λ (x : Run). AreAmong (new_arrivals r x) a.skips) (same a.skips) a.own;
  full = sym (ap (λ (x : Run). x.full) (same a.skips)) ∙ a.full;
}

module _ (r : Run) (first : Onward) (then : Run → Onward) (g : GoesBy r first) (h : (x : Run) → GoesBy x (then x)) where
  -- at the first of two steps
  pub gives_up_first : GivesUpSo r first → GivesUpSo r (λ s. then (first s) s)
  gives_up_first a = record {
    skips = a.skips;
    own = among_more r (first a.skips) (then (first a.skips) a.skips) a.skips (g.grows a.skips) ((h (first a.skips)).grows a.skips) a.own;
    full = ((h (first a.skips)).grows a.skips).full a.full;
  }

  -- or at the other
  pub gives_up_then : {o : Object Request Partition} (s : List CallId) → AreAmong (new_arrivals r (first s)) s → GivesUpSo (first s) (then (first s)) → ((t : List CallId) → IsRun o (then (first s) t)) → GivesUpSo r (λ t. then (first t) t)
  gives_up_then s of_first b runs =
      let once : ArrivalsOk (then (first s) b.skips) = (run_ok (runs b.skips)).of_arrivals in
      record {
        skips = s ++ b.skips;
        own = both_among r first then g h s b.skips once of_first b.own;
        full = ap (λ (x : Run). x.full) (both_go r first then g h s b.skips once of_first b.own) ∙ b.full;
      }

-- What stays from one to the next stays to the end.
pub stays_on : (P : ℕ → Type 0) → ((k : ℕ) → P k → P (suc k)) → (n m : ℕ) → n ≤ m → P n → P m
stays_on P on n zero l has = let none : n ≡ 0 = omega (arith, l) in subst P none has
stays_on P on n (suc m) l has = ⊎_elim (λ e. subst P e has) (λ apart. on m (stays_on P on n m (omega (arith, l, apart)) has)) (cases_eq n (suc m))
