-- Each call that arrived is of one kind: answered, refused by a row, refused for want of memory, or none of these.
use Rattle.std.proofs.Common.{◌≡◌, ℕ, ◌+◌, Bool, true, false, cond, List, [], ◌∷◌, length, Option, Some, None, refl, ap, arith}
use Rattle.std.specs.Prelude.{count_by, is_some, not, ◌&&◌}
use Rattle.std.proofs.lemmas.Bool.Decides.{nat_tests}
use Rattle.std.proofs.lemmas.List.Sums.{sum_by-cons}
use Rattle.grid_base.specs.Objects.{Object}
use Rattle.grid_base.specs.declared.calls.Request.{Request}
use Rattle.partition_protocol.proofs.Lists.{In}
use Rattle.call_engine.specs.Objects.{partition_object}
use Rattle.replay_run.specs.Runs.{Run, Arrival, Appended, begun}
use Rattle.replay_run.specs.AfterLines.{after_lines}
use Rattle.replay_run.specs.ScriptRuns.{grid_begun}
use Rattle.replay_run.specs.Printing.{answer_of, is_answer_to}
use Rattle.replay_run.specs.Counts.{refusal_among, is_refusal_of, error_number, has_number, is_refused_with, is_of_row, is_of_memory, is_answered, is_refused, is_out_of_memory, is_waiting, one_if, IsOfOneKind, EveryCallCountsOnce}
use Rattle.replay_run.proofs.Answers.{named_answer}
use Rattle.replay_run.proofs.Tallies.{named_refusal}
use Rattle.replay_run.proofs.Trails.{find_some}
use Rattle.replay_run.proofs.RunFacts.{RunOk, id_name, given_executed}
use Rattle.replay_run.proofs.RunsOfLines.{run_ok}
use Rattle.replay_run.proofs.Lines.{lines_run}

-- a number is not both
one_number : (n : ℕ) → is_of_row n ≡ true → is_of_memory n ≡ true → ⊥
one_number n row memory = grind (arith, nat_tests, row, memory)

number_apart : (o : Option Appended) → has_number is_of_row o ≡ true → has_number is_of_memory o ≡ true → ⊥
number_apart None row memory = absurd cc
number_apart (Some m) row memory = one_number (error_number m.bytes) row memory

-- one that has a number is there
numbered : (test : ℕ → Bool) (o : Option Appended) → has_number test o ≡ true → (m : Appended) × (o ≡ Some m)
numbered test None e = absurd cc
numbered test (Some m) e = (m, refl)

module _ {State : Type 0} (o : Object Request State) (r : Run) (ok : RunOk o r) where
  -- a call that was answered isn't refused
  answered_unrefused : (test : ℕ → Bool) (a : Arrival) → is_answered r a ≡ true → is_refused_with test r.appended a ≡ true → ⊥
  answered_unrefused test a answered refused = go (answer_of r a.request.id) (λ m e. find_some (is_answer_to a.request.id) r.appended m e) answered
    where
      go : (answer : Option Appended) → ((m : Appended) → answer ≡ Some m → In m r.appended × (is_answer_to a.request.id m ≡ true)) → is_some answer ≡ true → ⊥
      go None f e = absurd cc
      go (Some m) f e =
          let there = f m refl in
          let given = ok.of_answers.given m a.request.id there.0 (named_answer a.request.id m there.1) in
          let told = numbered test (refusal_among r.appended a.request.id) refused in
          let turned = find_some (is_refusal_of a.request.id) r.appended told.0 told.1 in
          ok.of_refusals.unexecuted told.0 a.request.id turned.0 (named_refusal a.request.id told.0 turned.1) given.0 given.1.call (given_executed m a.request.id given.1) (ap id_name given.1.call_is)

  pub one_kind : (a : Arrival) → IsOfOneKind r a
  one_kind a = go (is_answered r a) (is_refused r a) (is_out_of_memory r a) (answered_unrefused is_of_row a) (answered_unrefused is_of_memory a) (number_apart (refusal_among r.appended a.request.id))
    where
      go : (answered refused memory : Bool) → (answered ≡ true → refused ≡ true → ⊥) → (answered ≡ true → memory ≡ true → ⊥) → (refused ≡ true → memory ≡ true → ⊥)
          → one_if answered + one_if refused + one_if memory + one_if (not answered && not refused && not memory) ≡ 1
      go true true memory f g h = absurd (f refl refl)
      go true false true f g h = absurd (g refl refl)
      go true false false f g h = refl
      go false true true f g h = absurd (h refl refl)
      go false true false f g h = refl
      go false false true f g h = refl
      go false false false f g h = refl

  all_kinds : (xs : List Arrival) → length xs ≡ count_by (is_answered r) xs + count_by (is_refused r) xs + count_by (is_out_of_memory r) xs + count_by (is_waiting r) xs
  all_kinds [] = refl
  all_kinds (a ∷ xs) =
      let rest = all_kinds xs in
      let one = one_kind a in
      let answered = sum_by-cons (λ (x : Arrival). cond (is_answered r x) 1 0) a xs in
      let refused = sum_by-cons (λ (x : Arrival). cond (is_refused r x) 1 0) a xs in
      let memory = sum_by-cons (λ (x : Arrival). cond (is_out_of_memory r x) 1 0) a xs in
      let waiting = sum_by-cons (λ (x : Arrival). cond (is_waiting r x) 1 0) a xs in
      omega (arith, rest, one, answered, refused, memory, waiting)

  pub kinds_of_all : length r.arrivals ≡ count_by (is_answered r) r.arrivals + count_by (is_refused r) r.arrivals + count_by (is_out_of_memory r) r.arrivals + count_by (is_waiting r) r.arrivals
  kinds_of_all = all_kinds r.arrivals

pub every_call_counts_once : EveryCallCountsOnce
every_call_counts_once settings members backups skips lines grid =
    let r = after_lines (partition_object settings) skips (begun members backups) lines in
    let ok : RunOk (partition_object settings) r = run_ok (lines_run skips (begun members backups) lines (grid_begun members backups grid)) in
    record { kinds = λ a there. one_kind (partition_object settings) r ok a; all = let all = kinds_of_all (partition_object settings) r ok in omega (arith, all) }
