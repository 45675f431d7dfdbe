-- How large a history is: what it has are entries of the log, in order, so no more than the log has.
use Rattle.std.specs.Prelude.{ℕ, ◌≤◌, List, length, Contains}
use Rattle.grid_base.specs.Objects.{Object}
use Rattle.partition_protocol.specs.Node.{Pair}
use Rattle.partition_protocol.specs.History.{Executed, Entry, Called}
use Rattle.partition_protocol.specs.World.{World, start, pair_history}
use Rattle.partition_protocol.specs.Events.{Event, run}
use Rattle.partition_protocol.specs.Arrivals.{Asked, arrivals, calls_in}
use Rattle.partition_protocol.specs.Sequences.{IsSubsequence}

-- a history's entries are some of the log's, and so are its calls
pub record IsOfTheLog {C : Type 0} (w : World C) (es : List (Entry C)) : Type 0 where
  pub order : IsSubsequence es w.recorded.log
  pub entries : (x : Entry C) → Contains es x → Contains w.recorded.log x
  pub calls : (a : Asked C) → Contains (calls_in es) a → Contains (calls_in w.recorded.log) a
  pub size : length es ≤ length w.recorded.log
  pub calls_size : length (calls_in es) ≤ length (calls_in w.recorded.log)

-- of any number of members and backups, whatever the pair names
abbrev pub EveryHistoryIsOfTheLog : {C State : Type 0} → Object C State → Type 0
EveryHistoryIsOfTheLog {C} o =
    (partition members backups : ℕ) (events : List (Event C)) (p : Pair) → 1 ≤ members
    → let w = run o (start partition members backups) events in
    IsOfTheLog w (pair_history w p)

-- arrivals

-- the call as it arrived
abbrev pub asked_of : {C : Type 0} → Executed C → Asked C
asked_of x = record { conn = x.conn; number = x.number; now = x.now; call = x.call }

-- what is in the log are calls that arrived, in order of arrival, even where calls share a name
pub record HasArrived {C : Type 0} (events : List (Event C)) (w : World C) : Type 0 where
  pub order : IsSubsequence (calls_in w.recorded.log) (arrivals events)
  pub each : (x : Executed C) → Contains w.recorded.log (Called x) → Contains (arrivals events) (asked_of x)
  pub size : length (calls_in w.recorded.log) ≤ length (arrivals events)

abbrev pub EveryLoggedCallArrived : {C State : Type 0} → Object C State → Type 0
EveryLoggedCallArrived {C} o = (partition members backups : ℕ) (events : List (Event C)) → HasArrived events (run o (start partition members backups) events)
