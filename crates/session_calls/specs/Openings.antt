-- How a session is opened, and when it may be closed.
use Rattle.std.specs.Prelude.{◌≡◌, ℕ, List, map, Some, None}
use Rattle.hand_cell.specs.declared.names.Names.TheVariants.{One}
use Rattle.hand_cell.specs.Told.{Told}
use Rattle.partition_threads.specs.declared.workplace.Workplace.{Workplace}
use Rattle.session_calls.specs.declared.session.SessionPass.{SessionPass}
use Rattle.session_calls.specs.Passes.{given}
use Rattle.session_calls.specs.Sessions.{IsSessionOf, pass_at}

module _ {T P E O : Type 0} where
  -- A session of the connection to the member: its passes have seen as much as these, and the connection's number is their only name
  pub record IsOpened (place : Workplace T P E O) (passes : List (Told E)) (conn member : ℕ) (session : SessionPass T P E O) : Type 0 where
    pub of_place : IsSessionOf place session
    pub conn_is : session.conn ≡ conn
    pub member_is : session.member ≡ member
    pub passes_are : session.passes.items ≡ map (λ pass. Some (given (One conn) pass)) passes

  -- no call of the session is under way: it has a pass at each of its places
  abbrev pub HasAllPasses : SessionPass T P E O → Type 0
  HasAllPasses session = (partition : ℕ) → ¬ (pass_at session partition ≡ Some None)
