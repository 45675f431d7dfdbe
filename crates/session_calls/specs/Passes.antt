-- Passes of the cells of a workplace, and tokens of its workers, in their order.
use Rattle.std.specs.Prelude.{◌≡◌, ℕ, ◌+◌, true, List, length, Option, Some, slice_get, slice_set}
use Rattle.hand_cell.specs.declared.cell.Cell.{Cell}
use Rattle.hand_cell.specs.declared.names.Key.{Key}
use Rattle.hand_cell.specs.declared.names.Names.{Names}
use Rattle.hand_cell.specs.Names.{has_number, left_names, given_names, both_names, MayGive}
use Rattle.hand_cell.specs.Rule.{longer_of, Extends}
use Rattle.hand_cell.specs.Told.{Told, with_names, having_seen}
use Rattle.job_queues.specs.Roster.{roster_of}
use Rattle.job_queues.specs.Tokens.{Token}
use Rattle.partition_threads.specs.declared.workplace.Workplace.{Workplace}
use Rattle.partition_threads.specs.Workplaces.{IsTokenAt}

module _ {T P E O : Type 0} where
  -- A pass of each cell, in their order
  pub record ArePassesOf (cells : List (Cell T P E O)) (passes : List (Told E)) : Type 0 where
    pub as_long : length passes ≡ length cells
    pub each : (place : ℕ) (pass : Told E) → slice_get passes place ≡ Some pass → slice_get (roster_of cells).tables place ≡ Some pass.table

  -- each token is of the worker of its place, counted from this one on
  abbrev pub AreTokensFrom : Workplace T P E O → ℕ → List (Token P) → Type 0
  AreTokensFrom place first tokens = (at : ℕ) (token : Token P) → slice_get tokens at ≡ Some token → IsTokenAt place (first + at) token

module _ {E : Type 0} where
  -- each pass has this number of a connection as a name
  abbrev pub HaveNumber : ℕ → List (Told E) → Type 0
  HaveNumber conn passes = (place : ℕ) (pass : Told E) → slice_get passes place ≡ Some pass → has_number pass.names.numbers conn ≡ true

  -- what a pass is that gave up these names, and what the pass is that got them: both have seen the same
  abbrev pub giving_up : Names → Told E → Told E
  giving_up names pass = with_names pass (left_names names pass.names)

  abbrev pub given : Names → Told E → Told E
  given names pass = with_names pass (given_names names pass.names)

  -- the pass at this place may give up these names
  abbrev pub MayGiveAt : Names → List (Told E) → ℕ → Type 0
  MayGiveAt names passes place = (pass : Told E) → slice_get passes place ≡ Some pass → MayGive names pass.names

  -- The pass at a place gave up these names to another pass
  pub record HasSplitAt (names : Names) (place : ℕ) (old new : List (Told E)) (part : Told E) : Type 0 where
    pub pass : Told E
    pub there : slice_get old place ≡ Some pass
    pub left : new ≡ slice_set old place (giving_up names pass)
    pub part_is : part ≡ given names pass

  -- A pass took another in: it has both's names, and has seen the longer of what the two had seen, one of which begins the other. None of
  -- what the longer has more has a name of the pass that hadn't seen it
  pub record IsJoinedWith (key_of : E → Key) (old other new : Told E) : Type 0 where
    pub pass_is : new ≡ with_names (having_seen old (longer_of old.seen other.seen)) (both_names old.names other.names)
    pub extends : Extends key_of old.seen old.names other.seen other.names

  -- The pass at a place took another in
  pub record HasJoinedAt (key_of : E → Key) (place : ℕ) (other : Told E) (old new : List (Told E)) : Type 0 where
    pub pass : Told E
    pub joined : Told E
    pub there : slice_get old place ≡ Some pass
    pub written : new ≡ slice_set old place joined
    pub is_joined : IsJoinedWith key_of pass other joined

  -- Each pass took in the other that is at its place
  pub record AreJoinedWith (key_of : E → Key) (old : List (Told E)) (others : List (Option (Told E))) (new : List (Told E)) : Type 0 where
    pub as_long : length new ≡ length old
    pub each : (place : ℕ) (pass other joined : Told E) → slice_get old place ≡ Some pass → slice_get others place ≡ Some (Some other) → slice_get new place ≡ Some joined
        → IsJoinedWith key_of pass other joined
