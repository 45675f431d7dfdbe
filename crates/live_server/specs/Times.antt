-- In what order calls were run, by when their bytes came and went.
use Rattle.std.specs.Prelude.{◌≡◌, ℕ, ◌<◌, List, ◌++◌, length, take}
use Rattle.std.specs.List.{concat}
use Rattle.grid_base.specs.declared.calls.Request.{Request}
use Rattle.grid_edge.specs.Doors.{Book, Return}
use Rattle.hand_cell.specs.declared.names.Key.{Key}
use Rattle.hand_cell.specs.declared.outcome.LiveOutcome.{LiveOutcome}
use Rattle.hand_cell.specs.Told.{Told}
use Rattle.loop_journal.specs.Journals.{bytes_read, bytes_written}
use Rattle.loop_journal.specs.declared.entry.Entry.{Entry}
use Rattle.loop_journal.specs.declared.entry.NotedCall.{NotedCall}
use Rattle.partition_threads.specs.declared.workplace.Workplace.{Workplace}
use Rattle.live_session.specs.Times.{HasCome}
use Rattle.live_server.specs.Order.{WasSeenAt}
use Rattle.live_server.specs.Serving.{WasServed}

module _ {T P E O : Type 0} (key_of : E → Key) (tells : P → List E → E → LiveOutcome → Type 0) (call_of : ℕ → Request → ℕ → E) (place : Workplace T P E O) (given : List ℕ) (journal : List Entry) (passes : List (Told E)) (book : Book) where
  -- within what was done first, some byte was written of the answer to the message of this number
  abbrev pub IsAnsweredIn : List Entry → (back : Return) → WasServed key_of tells call_of place given journal passes book.arrivals back → ℕ → Type 0
  IsAnsweredIn first back served number = length (concat (take number served.answered.answers.replies)) < bytes_written back.number first

  -- within it, the message of this number was read whole
  abbrev pub IsReadIn : List Entry → (back : Return) → WasServed key_of tells call_of place given journal passes book.arrivals back → ℕ → Type 0
  IsReadIn first back served number = HasCome back.number served.arrival.member (take (bytes_read back.number first) served.answered.read) number

  -- Of two calls of one partition, on any of the connections: where some byte of the answer to the one was written before the last byte of the other
  -- was read, its event stands first
  abbrev pub AnswersStandFirst : Type 0
  AnswersStandFirst = (one two : Return) (served : WasServed key_of tells call_of place given journal passes book.arrivals one)
      (other : WasServed key_of tells call_of place given journal passes book.arrivals two) (first rest : List Entry) (call next : NotedCall) (at at' : ℕ)
      → journal ≡ first ++ rest → call.id.conn ≡ one.number → next.id.conn ≡ two.number → call.partition ≡ next.partition
      → IsAnsweredIn first one served call.id.number → ¬ IsReadIn first two other next.id.number
      → WasSeenAt key_of passes call at → WasSeenAt key_of passes next at' → at < at'
