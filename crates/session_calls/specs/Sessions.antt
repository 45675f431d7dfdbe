-- What a session holds of a workplace.
use Rattle.std.specs.Prelude.{◌≡◌, ℕ, ◌+◌, ◌*◌, length, Option, Some, slice_get, slice_set}
use Rattle.hand_cell.specs.Told.{Told}
use Rattle.job_queues.specs.Roster.{roster_of}
use Rattle.job_queues.specs.Tokens.{Token}
use Rattle.partition_threads.specs.declared.workplace.Workplace.{Workplace}
use Rattle.partition_threads.specs.Workplaces.{IsTokenAt}
use Rattle.session_calls.specs.declared.session.SessionPass.{SessionPass}

module _ {T P E O : Type 0} where
  -- what is at a partition: a pass, or none
  abbrev pub pass_at : SessionPass T P E O → ℕ → Option (Option (Told E))
  pass_at session partition = slice_get session.passes.items partition

  -- The session has a place for a pass of each cell, what is there is a pass of that cell, and it has the tokens of its member's
  -- four workers
  pub record IsSessionOf (place : Workplace T P E O) (session : SessionPass T P E O) : Type 0 where
    pub each : length session.passes.items ≡ length place.cells.items
    pub passes : (partition : ℕ) (pass : Told E) → pass_at session partition ≡ Some (Some pass) → slice_get (roster_of place.cells.items).tables partition ≡ Some pass.table
    pub four : length session.tokens.items ≡ 4
    pub tokens : (thread : ℕ) (token : Token P) → slice_get session.tokens.items thread ≡ Some token → IsTokenAt place (4 * session.member + thread) token

  -- It is the same session, with this at the partition, and all else as before
  pub record HasPassAt (old new : SessionPass T P E O) (partition : ℕ) (pass : Option (Told E)) : Type 0 where
    pub passes : new.passes.items ≡ slice_set old.passes.items partition pass
    pub same_tokens : new.tokens.items ≡ old.tokens.items
    pub same_member : new.member ≡ old.member
    pub same_conn : new.conn ≡ old.conn
