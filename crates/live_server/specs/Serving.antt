-- What a server does with the connections that come through its doors.
use Rattle.std.specs.Prelude.{◌≡◌, ◌⊎◌, ℕ, ◌<◌, ◌≤◌, ◌==◌, Bool, true, List, [], ◌∷◌, ◌++◌, length, All, Some, IsSome, slice_get}
use Rattle.std.specs.List.{count_by}
use Rattle.grid_base.specs.declared.calls.Request.{Request}
use Rattle.grid_edge.specs.Doors.{Connection, Arrival, Return, Book}
use Rattle.grid_edge.specs.Faults.{Rose}
use Rattle.hand_cell.specs.declared.names.Key.{Key}
use Rattle.hand_cell.specs.declared.outcome.LiveOutcome.{LiveOutcome}
use Rattle.hand_cell.specs.declared.outcome.LiveOutcome.TheVariants.{MemberGone}
use Rattle.hand_cell.specs.Told.{Told}
use Rattle.loop_journal.specs.Journals.{own_of}
use Rattle.loop_journal.specs.declared.entry.Entry.{Entry}
use Rattle.message_frames.specs.Messages.{fault_of}
use Rattle.partition_threads.specs.declared.workplace.Workplace.{Workplace}
use Rattle.session_core.specs.declared.item.Item.{Item}
use Rattle.session_core.specs.declared.item.Item.TheVariants.{Call}
use Rattle.live_session.specs.Connections.{AreBelow, IsServed, HasAnswered}
use Rattle.live_session.specs.Starts.{Log, AreGiven}
use Rattle.live_session.specs.Times.{IsNotedWhole}

-- A connection was as the first, and is as the second: these bytes were read from it, and those were written to it. Its counts of
-- faults have not fallen
pub record HaveMoved (was is : Connection) (read written : List ℕ) : Type 0 where
  pub read_is : is.given.bytes ≡ was.given.bytes ++ read
  pub written_is : is.taken ≡ was.taken ++ written
  pub read_faults : was.read_faults ≤ is.read_faults
  pub write_faults : was.write_faults ≤ is.write_faults

-- Nothing is left to write or to answer, and a read found the end of what the client sent, or the client sent bytes at fault
pub record IsComplete (is : Connection) (read left : List ℕ) (rest : List Item) : Type 0 where
  pub none_left : left ≡ []
  pub all_answered : rest ≡ []
  pub no_more : (is.given.ended ≡ true) ⊎ IsSome (fault_of true read)

-- this was seen of each partition that there is a pass of
abbrev pub AreSeen : {E : Type 0} → List (Told E) → (ℕ → List E) → Type 0
AreSeen passes seen = (partition : ℕ) (pass : Told _) → slice_get passes partition ≡ Some pass → seen partition ≡ pass.seen

module _ {T P E O : Type 0} (key_of : E → Key) (tells : P → List E → E → LiveOutcome → Type 0) (call_of : ℕ → Request → ℕ → E) (place : Workplace T P E O) where
  -- The next message is a call whose member has crashed before it was answered
  pub record HasLostMember (member : ℕ) (log : Log) (seen : ℕ → List E) (rest : List Item) : Type 0 where
    pub request : Request
    pub behind : List Item
    pub next : rest ≡ Call request ∷ behind
    pub gone : IsServed key_of tells call_of log place member request (seen request.partition) MemberGone

  -- Why a connection ended before all was answered and written: there was no memory, its source or its sink had a fault, or its member is gone
  abbrev pub IsCutShort : ℕ → (was is : Connection) → (memory : Bool) → Log → (ℕ → List E) → List Item → Type 0
  IsCutShort member was is memory log seen rest =
      (memory ≡ true) ⊎ Rose was.read_faults is.read_faults ⊎ Rose was.write_faults is.write_faults ⊎ HasLostMember member log seen rest

-- The clock has given these moments by now, and so stands the journal of the thread that serves
module _ {T P E O : Type 0} (key_of : E → Key) (tells : P → List E → E → LiveOutcome → Type 0) (call_of : ℕ → Request → ℕ → E) (place : Workplace T P E O) (given : List ℕ) (journal : List Entry) where
  -- A connection of this number to this member was as the first, and has ended as the second. What was written are the answers to the messages
  -- that were read, in their order, by what was seen of each partition: the beginning of them, or all
  pub record WasAnswered (number member : ℕ) (was is : Connection) (memory : Bool) (seen : ℕ → List E) : Type 0 where
    pub read : List ℕ
    pub written : List ℕ
    pub moved : HaveMoved was is read written
    pub log : Log
    pub by_clock : AreGiven log.starts given
    pub by_journal : log.entries ≡ own_of number journal
    pub noted : IsNotedWhole number log.entries read written
    pub left : List ℕ
    pub rest : List Item
    pub answers : HasAnswered key_of tells call_of log place number member seen read written left rest
    pub ended : IsComplete is read left rest ⊎ IsCutShort key_of tells call_of place member was is memory log seen rest

  -- It came as one of these, and was answered before it was given back, by what these passes have seen
  pub record WasServed (passes : List (Told E)) (arrivals : List Arrival) (back : Return) : Type 0 where
    pub arrival : Arrival
    pub came : slice_get arrivals back.number ≡ Some arrival
    pub seen : ℕ → List E
    pub seen_is : AreSeen passes seen
    pub answered : WasAnswered back.number arrival.member arrival.at back.at back.memory seen

-- none of the passes has seen a call of a connection with this number
abbrev pub SawNone : {E : Type 0} → (E → Key) → ℕ → List (Told E) → Type 0
SawNone key_of number passes = (partition : ℕ) (pass : Told _) → slice_get passes partition ≡ Some pass → AreBelow key_of number 0 pass.seen

-- how many of these were the connection with this number
abbrev pub times_returned : ℕ → List Return → ℕ
times_returned number returns = count_by (λ back. back.number == number) returns

module _ {T P E O : Type 0} (key_of : E → Key) (tells : P → List E → E → LiveOutcome → Type 0) (call_of : ℕ → Request → ℕ → E) (place : Workplace T P E O) (given : List ℕ) (journal : List Entry) where
  -- Each connection that was accepted was served, and was given back once. No call of another number was seen
  pub record HasServedAll (passes : List (Told E)) (book : Book) : Type 0 where
    pub once : (number : ℕ) → number < length book.arrivals → times_returned number book.returns ≡ 1
    pub served : All (WasServed key_of tells call_of place given journal passes book.arrivals) book.returns
    pub no_other : (number : ℕ) → length book.arrivals ≤ number → SawNone key_of number passes
