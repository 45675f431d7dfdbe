-- The threads of a crew, by what they were made for.
use Rattle.std.specs.Prelude.{◌≡◌, All, List, ◌++◌, map}
use Rattle.std.specs.declared.thread.PromisedHandle.{PromisedHandle}
use Rattle.thread_crew.specs.declared.crew.Works.{Works}

module _ {T W : Type 0} where
  -- the workers of these threads, in their order
  abbrev pub workers_of : List (PromisedHandle (Unit {0}) (Works T W)) → List T
  workers_of threads = map (λ thread. thread.promise.worker.value) threads

  -- The first of these workers have threads, in their order, each of which does this work
  pub record HaveThreads (work : W) (workers : List T) (threads : List (PromisedHandle (Unit {0}) (Works T W))) : Type 0 where
    pub rest : List T
    pub first : workers_of threads ++ rest ≡ workers
    pub same_work : All (λ (thread : PromisedHandle (Unit {0}) (Works T W)). thread.promise.work.value ≡ work) threads
