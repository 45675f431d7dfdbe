-- The calls of a run, and those that lines of one partition's machine bring: what each step of a run does to both.
use Rattle.std.proofs.Common.{◌≡◌, ◌≢◌, ℕ, true, false, List, [], ◌∷◌, ◌++◌, map, filter, Option, refl, ap, sym, ◌∙◌, subst, ◌⊎◌, ⊎_elim, inl, inr, true≢false}
use Rattle.grid_base.specs.Objects.{Object}
use Rattle.grid_base.specs.declared.calls.Request.{Request}
use Rattle.object_store.specs.Partitions.{Partition}
use Rattle.partition_protocol.specs.Arrivals.{CallName, NamedOnce}
use Rattle.partition_protocol.proofs.Lists.{In, in_left, in_right, in_cases, in_contains, contains_in, cases}
use Rattle.partition_protocol.proofs.RowFacts.{not_false}
use Rattle.waiting_protocol.specs.Claims.{names_in, waits_in}
use Rattle.waiting_protocol.specs.Machine.{Line}
use Rattle.waiting_protocol.specs.Machine as machine
use Rattle.replay_run.specs.Runs.{Run, Arrival, Waiter, arrival_at, as_machine}
use Rattle.replay_run.specs.ScriptRuns.{IsNext, IsRun, call_arrived}
use Rattle.replay_run.proofs.EventRuns.{is_other}
use Rattle.replay_run.proofs.Parts.{in_filter, in_filtered, named_same, named_append}
use Rattle.replay_run.proofs.Places.{same_call}
use Rattle.replay_run.proofs.RunFacts.{arrival_name, waiter_name, id_name}
use Rattle.replay_run.proofs.RunsOfLines.{run_ok}
use Rattle.masters_run.specs.ByMachine.{as_it_waited, BringsItsCalls}

-- these calls of a run, those that wait no more and those that wait, are all that these waiting calls of one partition are; and these names are of some of them
pub record Called (q : ℕ) (come : List Arrival) (ws : List Waiter) (xs : List (machine.Waiter Request)) (names : List CallName) : Type 0 where
  pub no_other : (x : machine.Waiter Request) → In x xs → ((w : Waiter) × In w ws × (w.request.partition ≡ q) × (as_machine w ≡ x))
      ⊎ ((a : Arrival) × In a come × (a.waits ≡ true) × (a.request.partition ≡ q) × (as_machine (as_it_waited a x.deadline) ≡ x))
  pub waiting : (w : Waiter) → In w ws → w.request.partition ≡ q → In (as_machine w) xs
  pub arrived : (a : Arrival) → In a come → a.waits ≡ true → a.request.partition ≡ q → (d : Option ℕ) × In (as_machine (as_it_waited a d)) xs
  pub known : (k : CallName) → In k names → ((a : Arrival) × In a come × (arrival_name a ≡ k)) ⊎ ((w : Waiter) × In w ws × (waiter_name w ≡ k))
  pub once : NamedOnce names

pub none_called : (q : ℕ) → Called q [] [] [] []
none_called q = record { no_other = λ x i. absurd i; waiting = λ w i here. absurd i; arrived = λ a i w here. absurd i; known = λ k i. absurd i; once = tt }

-- a name more

once_more : (ks : List CallName) (k : CallName) → NamedOnce ks → ((m : CallName) → In m ks → m ≢ k) → NamedOnce (ks ++ k ∷ [])
once_more [] k once fresh = ((λ m c. absurd (in_contains m [] c)), tt)
once_more (a ∷ ks) k once fresh = ((λ m c. go m (in_cases m ks (k ∷ []) (in_contains m (ks ++ k ∷ []) c))), once_more ks k once.1 (λ m i. fresh m (inr i)))
  where
    go : (m : CallName) → In m ks ⊎ In m (k ∷ []) → m ≢ a
    go m (inl i) e = once.0 m (contains_in m ks i) e
    go m (inr (inl s)) e = fresh a (inl refl) (sym e ∙ sym s)
    go m (inr (inr i)) e = absurd i

-- One of those who wait leaves, however it does.

module _ (q : ℕ) (come : List Arrival) (ws : List Waiter) (xs : List (machine.Waiter Request)) (names : List CallName) (once : NamedOnce (map waiter_name ws)) (w : Waiter) (there : In w ws) (a : Arrival)
    (as_it : as_it_waited a w.deadline ≡ w) (waited : a.waits ≡ true) where
  -- another stays, or it is itself
  other_or : (v : Waiter) → In v ws → In v (filter (is_other w) ws) ⊎ (v ≡ w)
  other_or v i = ⊎_elim
      (λ e. inl (in_filter (is_other w) ws v i e))
      (λ e. inr (named_same waiter_name ws v w once i there (ap id_name (same_call v.request.id w.request.id (not_false _ e)))))
      (cases (is_other w v))

  pub ended_called : Called q come ws xs names → Called q (come ++ a ∷ []) (filter (is_other w) ws) xs names
  ended_called h = record {
    no_other = λ x i. ⊎_elim (λ s. by_waiter x s.0 s.1 s.2 s.3) (λ s. inr (s.0, in_left s.0 come (a ∷ []) s.1, s.2, s.3, s.4)) (h.no_other x i);
    waiting = λ v i here. h.waiting v (in_filtered (is_other w) ws v i).0 here;
    arrived = λ b i waits here. ⊎_elim (λ j. h.arrived b j waits here) (λ j. ⊎_elim (λ s. itself b s here) (λ k. absurd k) j) (in_cases b come (a ∷ []) i);
    known = λ k i. ⊎_elim (λ s. inl (s.0, in_left s.0 come (a ∷ []) s.1, s.2)) (λ s. by_name k s.0 s.1 s.2) (h.known k i);
    once = h.once;
  }
    where
      last : In a (come ++ a ∷ [])
      last = in_right a come (a ∷ []) (inl refl)

      place : (v : Waiter) → v ≡ w → a.request.partition ≡ v.request.partition
      place v s = ap (λ (y : Waiter). y.request.partition) (as_it ∙ sym s)

      by_waiter : (x : machine.Waiter Request) (v : Waiter) → In v ws → v.request.partition ≡ q → as_machine v ≡ x
          → ((y : Waiter) × In y (filter (is_other w) ws) × (y.request.partition ≡ q) × (as_machine y ≡ x))
          ⊎ ((b : Arrival) × In b (come ++ a ∷ []) × (b.waits ≡ true) × (b.request.partition ≡ q) × (as_machine (as_it_waited b x.deadline) ≡ x))
      by_waiter x v i here e = ⊎_elim
          (λ j. inl (v, j, here, e))
          (λ s. inr (a, last, waited, place v s ∙ here, ap (λ (y : machine.Waiter Request). as_machine (as_it_waited a y.deadline)) (sym e ∙ ap as_machine s) ∙ ap as_machine as_it ∙ ap as_machine (sym s) ∙ e))
          (other_or v i)

      itself : (b : Arrival) → a ≡ b → b.request.partition ≡ q → (d : Option ℕ) × In (as_machine (as_it_waited b d)) xs
      itself b s here =
          let whole : as_it_waited b w.deadline ≡ w = ap (λ c. as_it_waited c w.deadline) (sym s) ∙ as_it in
          (w.deadline, subst (λ y. In (as_machine y) xs) (sym whole) (h.waiting w there (ap (λ (y : Waiter). y.request.partition) (sym whole) ∙ here)))

      by_name : (k : CallName) (v : Waiter) → In v ws → waiter_name v ≡ k → ((b : Arrival) × In b (come ++ a ∷ []) × (arrival_name b ≡ k)) ⊎ ((y : Waiter) × In y (filter (is_other w) ws) × (waiter_name y ≡ k))
      by_name k v i e = ⊎_elim (λ j. inr (v, j, e)) (λ s. inl (a, last, ap waiter_name as_it ∙ ap waiter_name (sym s) ∙ e)) (other_or v i)

-- A call comes.

-- what isn't a call of the run has another name than those of the lines
fresh_name : (q : ℕ) (come : List Arrival) (ws : List Waiter) (xs : List (machine.Waiter Request)) (names : List CallName) (k : CallName) → ((a : Arrival) → In a come → arrival_name a ≢ k) → ((w : Waiter) → In w ws → waiter_name w ≢ k)
    → Called q come ws xs names → (m : CallName) → In m names → m ≢ k
fresh_name q come ws xs names k apart away h m i e = ⊎_elim (λ s. apart s.0 s.1 (s.2 ∙ e)) (λ s. away s.0 s.1 (s.2 ∙ e)) (h.known m i)

-- it doesn't wait: its line brings its name, or it has no line
pub call_called : (q : ℕ) (come : List Arrival) (ws : List Waiter) (xs : List (machine.Waiter Request)) (names : List CallName) (a : Arrival) → a.waits ≡ false → Called q come ws xs names → Called q (come ++ a ∷ []) ws xs names
call_called q come ws xs names a plain h = record {
  no_other = λ x i. ⊎_elim (λ s. inl s) (λ s. inr (s.0, in_left s.0 come (a ∷ []) s.1, s.2, s.3, s.4)) (h.no_other x i);
  waiting = h.waiting;
  arrived = λ b i waits here. ⊎_elim (λ j. h.arrived b j waits here) (λ j. ⊎_elim (λ s. absurd (true≢false (sym waits ∙ ap (λ (c : Arrival). c.waits) (sym s) ∙ plain))) (λ k. absurd k) j) (in_cases b come (a ∷ []) i);
  known = λ k i. ⊎_elim (λ s. inl (s.0, in_left s.0 come (a ∷ []) s.1, s.2)) (λ s. inr s) (h.known k i);
  once = h.once;
}

pub name_called : (q : ℕ) (come : List Arrival) (ws : List Waiter) (xs : List (machine.Waiter Request)) (names : List CallName) (k : CallName) → ((m : CallName) → In m names → m ≢ k)
    → ((a : Arrival) × In a come × (arrival_name a ≡ k)) ⊎ ((w : Waiter) × In w ws × (waiter_name w ≡ k)) → Called q come ws xs names → Called q come ws xs (names ++ k ∷ [])
name_called q come ws xs names k fresh its h = record {
  no_other = h.no_other;
  waiting = h.waiting;
  arrived = h.arrived;
  known = λ m i. ⊎_elim (λ j. h.known m j) (λ j. ⊎_elim (λ s. subst (λ n. ((a : Arrival) × In a come × (arrival_name a ≡ n)) ⊎ ((w : Waiter) × In w ws × (waiter_name w ≡ n))) s its) (λ z. absurd z) j) (in_cases m names (k ∷ []) i);
  once = once_more names k h.once fresh;
}

-- it waits in another partition
pub waiter_elsewhere : (q : ℕ) (come : List Arrival) (ws : List Waiter) (xs : List (machine.Waiter Request)) (names : List CallName) (w : Waiter) → w.request.partition ≢ q → Called q come ws xs names → Called q come (ws ++ w ∷ []) xs names
waiter_elsewhere q come ws xs names w apart h = record {
  no_other = λ x i. ⊎_elim (λ s. inl (s.0, in_left s.0 ws (w ∷ []) s.1, s.2, s.3)) (λ s. inr s) (h.no_other x i);
  waiting = λ v i here. ⊎_elim (λ j. h.waiting v j here) (λ j. ⊎_elim (λ s. absurd (apart (ap (λ (y : Waiter). y.request.partition) s ∙ here))) (λ z. absurd z) j) (in_cases v ws (w ∷ []) i);
  arrived = h.arrived;
  known = λ k i. ⊎_elim (λ s. inl s) (λ s. inr (s.0, in_left s.0 ws (w ∷ []) s.1, s.2)) (h.known k i);
  once = h.once;
}

-- and here
pub waiter_here : (q : ℕ) (come : List Arrival) (ws : List Waiter) (xs : List (machine.Waiter Request)) (names : List CallName) (w : Waiter) → w.request.partition ≡ q → Called q come ws xs names → Called q come (ws ++ w ∷ []) (xs ++ as_machine w ∷ []) names
waiter_here q come ws xs names w here h = record {
  no_other = λ x i. ⊎_elim
      (λ j. ⊎_elim (λ s. inl (s.0, in_left s.0 ws (w ∷ []) s.1, s.2, s.3)) (λ s. inr s) (h.no_other x j))
      (λ j. ⊎_elim (λ s. inl (w, last, here, s)) (λ z. absurd z) j) (in_cases x xs (as_machine w ∷ []) i);
  waiting = λ v i at. ⊎_elim (λ j. in_left (as_machine v) xs (as_machine w ∷ []) (h.waiting v j at))
      (λ j. ⊎_elim (λ s. in_right (as_machine v) xs (as_machine w ∷ []) (inl (ap as_machine s))) (λ z. absurd z) j) (in_cases v ws (w ∷ []) i);
  arrived = λ a i waits at. let it = h.arrived a i waits at in (it.0, in_left (as_machine (as_it_waited a it.0)) xs (as_machine w ∷ []) it.1);
  known = λ k i. ⊎_elim (λ s. inl s) (λ s. inr (s.0, in_left s.0 ws (w ∷ []) s.1, s.2)) (h.known k i);
  once = h.once;
}
  where
    last : In w (ws ++ w ∷ [])
    last = in_right w ws (w ∷ []) (inl refl)

-- of a run

abbrev pub CalledBy : ℕ → Run → List (Line Request) → Type 0
CalledBy q r lines = Called q r.arrivals r.waiters (waits_in lines) (names_in lines)

-- the call at hand is none that came before
module _ {o : Object Request Partition} (r : Run) (member : ℕ) (request : Request) (is : IsRun o r) (next : IsNext r request) where
  abbrev its_name : CallName
  its_name = id_name request.id

  abbrev as_arrival : Arrival
  as_arrival = arrival_at r member request

  pub new_name : (q : ℕ) (lines : List (Line Request)) → CalledBy q r lines → (m : CallName) → In m (names_in lines) → m ≢ its_name
  new_name q lines h =
      let ok = run_ok (call_arrived r member request is next) in
      fresh_name q r.arrivals r.waiters (waits_in lines) (names_in lines) its_name
      (λ a i. named_append arrival_name r.arrivals (as_arrival ∷ []) a as_arrival ok.of_arrivals.once i (inl refl))
      (λ w i e. ok.of_waiters.apart as_arrival w (in_right as_arrival r.arrivals (as_arrival ∷ []) (inl refl)) i (sym e)) h

-- as it is said
pub brings_its_calls : (q : ℕ) (r : Run) (lines : List (Line Request)) → CalledBy q r lines → BringsItsCalls r q lines
brings_its_calls q r lines h = record {
  no_other = λ x c. ⊎_elim (λ s. inl (s.0, contains_in s.0 r.waiters s.1, s.2, s.3)) (λ s. inr (s.0, contains_in s.0 r.arrivals s.1, s.2, s.3, s.4)) (h.no_other x (in_contains x (waits_in lines) c));
  waiting = λ w c here. contains_in (as_machine w) (waits_in lines) (h.waiting w (in_contains w r.waiters c) here);
  arrived = λ a c waits here. let it = h.arrived a (in_contains a r.arrivals c) waits here in (it.0, contains_in (as_machine (as_it_waited a it.0)) (waits_in lines) it.1);
  known = λ k c. ⊎_elim (λ s. inl (s.0, contains_in s.0 r.arrivals s.1, s.2)) (λ s. inr (s.0, contains_in s.0 r.waiters s.1, s.2)) (h.known k (in_contains k (names_in lines) c));
  once = h.once;
}

pub called_by : (q : ℕ) (r : Run) (lines : List (Line Request)) → BringsItsCalls r q lines → CalledBy q r lines
called_by q r lines h = record {
  no_other = λ x i. ⊎_elim (λ s. inl (s.0, in_contains s.0 r.waiters s.1, s.2, s.3)) (λ s. inr (s.0, in_contains s.0 r.arrivals s.1, s.2, s.3, s.4)) (h.no_other x (contains_in x (waits_in lines) i));
  waiting = λ w i here. in_contains (as_machine w) (waits_in lines) (h.waiting w (contains_in w r.waiters i) here);
  arrived = λ a i waits here. let it = h.arrived a (contains_in a r.arrivals i) waits here in (it.0, in_contains (as_machine (as_it_waited a it.0)) (waits_in lines) it.1);
  known = λ k i. ⊎_elim (λ s. inl (s.0, in_contains s.0 r.arrivals s.1, s.2)) (λ s. inr (s.0, in_contains s.0 r.waiters s.1, s.2)) (h.known k (contains_in k (names_in lines) i));
  once = h.once;
}
