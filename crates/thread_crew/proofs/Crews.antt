-- Threads that have done their work.
use Rattle.std.proofs.Common.{◌≡◌, ◌+◌, arith, All, List, [], ◌∷◌, ◌++◌, length, sym, ap, ◌∙◌, subst, append_assoc, append-nil}
use Rattle.std.proofs.lemmas.List.{map-append, length-append, length-map, nil_from_length}
use Rattle.std.proofs.lemmas.List.Elements.{All-nil, All-cons, All-append, All-head, All-tail}
use Rattle.std.specs.declared.thread.PromisedHandle.{PromisedHandle}
use Rattle.thread_crew.specs.declared.crew.Works.{Works}
use Rattle.thread_crew.specs.Crews.{workers_of, HaveThreads}

module _ {T L : Type 0} (labors : L → T → Type 0) where
  abbrev pub Thread : Type 0
  Thread = PromisedHandle (Unit {0}) (Works T L)

  abbrev pub HasWorked : Thread → Type 0
  HasWorked thread = labors thread.promise.work.value thread.promise.worker.value

  -- All but these have been joined
  pub record HaveJoined (threads rest : List Thread) : Type 0 where
    pub done : List Thread
    pub whole : done ++ rest ≡ threads
    pub worked : All HasWorked done

  pub none_joined : (threads rest : List Thread) → rest ≡ threads → HaveJoined threads rest
  none_joined threads rest same = record { done = []; whole = same; worked = All-nil HasWorked }

  pub one_joined : (threads rest later : List Thread) (thread : Thread) → HaveJoined threads rest → rest ≡ thread ∷ later → HasWorked thread → HaveJoined threads later
  one_joined threads rest later thread have first worked = record {
    done = have.done ++ thread ∷ [];
    whole = append_assoc have.done (thread ∷ []) later ∙ (ap (λ l. have.done ++ l) (sym first) ∙ have.whole);
    worked = All-append HasWorked have.done (thread ∷ []) have.worked (All-cons HasWorked thread [] worked (All-nil HasWorked));
  }

  pub all_joined : (threads rest : List Thread) → HaveJoined threads rest → rest ≡ [] → All HasWorked threads
  all_joined threads rest have none = subst (λ l. All HasWorked l) (sym (append-nil have.done) ∙ (ap (λ l. have.done ++ l) (sym none) ∙ have.whole)) have.worked

module _ {T L : Type 0} (can_labor : L → T → Type 0) (work : L) (workers : List T) where
  -- These threads were made, and these workers have none yet
  pub record AreMade (threads : List (PromisedHandle (Unit {0}) (Works T L))) (rest : List T) : Type 0 where
    pub first : workers_of threads ++ rest ≡ workers
    pub same_work : All (λ (thread : PromisedHandle (Unit {0}) (Works T L)). thread.promise.work.value ≡ work) threads
    pub can : All (can_labor work) rest

  pub none_made : (threads : List (PromisedHandle (Unit {0}) (Works T L))) (rest : List T) → threads ≡ [] → rest ≡ workers → All (can_labor work) workers → AreMade threads rest
  none_made threads rest none all can = record {
    first = ap (λ l. workers_of l ++ rest) none ∙ all;
    same_work = subst (λ l. All (λ (thread : PromisedHandle (Unit {0}) (Works T L)). thread.promise.work.value ≡ work) l) (sym none) (All-nil (λ (thread : PromisedHandle (Unit {0}) (Works T L)). thread.promise.work.value ≡ work));
    can = subst (λ l. All (can_labor work) l) (sym all) can;
  }

  pub can_next : (threads : List (PromisedHandle (Unit {0}) (Works T L))) (rest later : List T) (worker : T) → AreMade threads rest → rest ≡ worker ∷ later → can_labor work worker
  can_next threads rest later worker are next = All-head (can_labor work) worker later (subst (λ l. All (can_labor work) l) next are.can)

  pub one_made : (threads more : List (PromisedHandle (Unit {0}) (Works T L))) (rest later : List T) (worker : T) (thread : PromisedHandle (Unit {0}) (Works T L)) → AreMade threads rest → rest ≡ worker ∷ later
      → more ≡ threads ++ thread ∷ [] → thread.promise.worker.value ≡ worker → thread.promise.work.value ≡ work → AreMade more later
  one_made threads more rest later worker thread are next grown its_worker its_work = record {
    first = ap (λ l. workers_of l ++ later) grown ∙ (ap (λ l. l ++ later) (map-append (λ (t : PromisedHandle (Unit {0}) (Works T L)). t.promise.worker.value) threads (thread ∷ [])) ∙ (append_assoc (workers_of threads) (thread.promise.worker.value ∷ []) later
        ∙ (ap (λ (w : T). workers_of threads ++ w ∷ later) its_worker ∙ (ap (λ l. workers_of threads ++ l) (sym next) ∙ are.first))));
    same_work = subst (λ l. All (λ (t : PromisedHandle (Unit {0}) (Works T L)). t.promise.work.value ≡ work) l) (sym grown)
        (All-append (λ (t : PromisedHandle (Unit {0}) (Works T L)). t.promise.work.value ≡ work) threads (thread ∷ []) are.same_work
        (All-cons (λ (t : PromisedHandle (Unit {0}) (Works T L)). t.promise.work.value ≡ work) thread [] its_work (All-nil (λ (t : PromisedHandle (Unit {0}) (Works T L)). t.promise.work.value ≡ work))));
    can = All-tail (can_labor work) worker later (subst (λ l. All (can_labor work) l) next are.can);
  }

  pub have_threads : (threads : List (PromisedHandle (Unit {0}) (Works T L))) (rest : List T) → AreMade threads rest → HaveThreads work workers threads
  have_threads threads rest are = record { rest = rest; first = are.first; same_work = are.same_work }

module _ {T L : Type 0} (labors : L → T → Type 0) (work : L) where
  each_worked : (threads : List (PromisedHandle (Unit {0}) (Works T L))) → All (λ (t : PromisedHandle (Unit {0}) (Works T L)). t.promise.work.value ≡ work) threads → All (HasWorked labors) threads → All (labors work) (workers_of threads)
  each_worked [] same worked = All-nil (labors work)
  each_worked (thread ∷ threads) same worked = All-cons (labors work) thread.promise.worker.value (workers_of threads)
      (subst (λ (l : L). labors l thread.promise.worker.value) (All-head (λ (t : PromisedHandle (Unit {0}) (Works T L)). t.promise.work.value ≡ work) thread threads same) (All-head (HasWorked labors) thread threads worked))
      (each_worked threads (All-tail (λ (t : PromisedHandle (Unit {0}) (Works T L)). t.promise.work.value ≡ work) thread threads same) (All-tail (HasWorked labors) thread threads worked))

  -- where there are as many threads as workers, each worker's work is done
  pub whole_worked : (workers : List T) (threads : List (PromisedHandle (Unit {0}) (Works T L))) → HaveThreads work workers threads → length threads ≡ length workers → All (HasWorked labors) threads → All (labors work) workers
  whole_worked workers threads have many worked = subst (λ l. All (labors work) l) all (each_worked threads have.same_work worked)
    where
      none : have.rest ≡ []
      none =
          let whole : length (workers_of threads) + length have.rest ≡ length workers = sym (length-append (workers_of threads) have.rest) ∙ ap (λ l. length l) have.first in
          let front : length (workers_of threads) ≡ length threads = length-map threads (λ (t : PromisedHandle (Unit {0}) (Works T L)). t.promise.worker.value) in
          let empty : length have.rest ≡ 0 = omega (arith, whole, front, many) in
          nil_from_length have.rest empty

      all : workers_of threads ≡ workers
      all = sym (append-nil (workers_of threads)) ∙ (ap (λ l. workers_of threads ++ l) (sym none) ∙ have.first)
