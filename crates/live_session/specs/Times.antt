-- When a connection's messages came and were answered, by the journal of its thread.
use Rattle.std.specs.Prelude.{◌≡◌, ℕ, ◌<◌, ◌≤◌, true, List, ◌∷◌, ◌++◌, length, take}
use Rattle.std.specs.List.{concat}
use Rattle.loop_journal.specs.declared.entry.Entry.{Entry}
use Rattle.loop_journal.specs.declared.entry.Entry.TheVariants.{Started, Finished}
use Rattle.loop_journal.specs.declared.entry.NotedCall.{NotedCall}
use Rattle.loop_journal.specs.Journals.{bytes_read, bytes_written}
use Rattle.message_frames.specs.Messages.{messages_of}
use Rattle.session_core.specs.Items.{items_of}

-- the journal has all that was read from a connection and written to it
pub record IsNotedWhole (conn : ℕ) (entries : List Entry) (read written : List ℕ) : Type 0 where
  pub all_read : bytes_read conn entries ≡ length read
  pub all_written : bytes_written conn entries ≡ length written

-- the message of this number has come whole in these bytes: each message gives one item
abbrev pub HasCome : (conn member : ℕ) → List ℕ → ℕ → Type 0
HasCome conn member text number = number < length (items_of conn member (messages_of true text))

-- the message of this number has come whole within so many of the bytes that were read
pub record HasComeWithin (conn member : ℕ) (read : List ℕ) (count number : ℕ) : Type 0 where
  pub were_read : count ≤ length read
  pub come : HasCome conn member (take count read) number

-- of the answer to the message of this number no byte is among so many that were written
pub record IsUnansweredWithin (replies : List (List ℕ)) (count number : ℕ) : Type 0 where
  pub those_before : number ≤ length replies
  pub none_of_it : count ≤ length (concat (take number replies))

-- Before the start of a call its message had come whole, and before its finish no byte of its answer was written
pub record IsInTime (conn member : ℕ) (entries : List Entry) (read : List ℕ) (replies : List (List ℕ)) : Type 0 where
  pub started : (before after : List Entry) (call : NotedCall) → entries ≡ before ++ Started call ∷ after → HasComeWithin conn member read (bytes_read conn before) call.id.number
  pub finished : (before after : List Entry) (call : NotedCall) → entries ≡ before ++ Finished call ∷ after → IsUnansweredWithin replies (bytes_written conn before) call.id.number
