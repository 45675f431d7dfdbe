-- What a thread did for its connections, in one order.
use Rattle.std.specs.Prelude.{◌≡◌, ℕ, ◌==◌, List, All, filter, Option, Some, None}
use Rattle.std.specs.List.{sum_by}
use Rattle.loop_journal.specs.declared.entry.Entry.{Entry}
use Rattle.loop_journal.specs.declared.entry.Entry.TheVariants.{Read, Written, Started, Finished}
use Rattle.loop_journal.specs.declared.entry.NotedCall.{NotedCall}

-- the number of the connection that it was done for
abbrev pub conn_of : Entry → ℕ
conn_of (Read conn bytes) = conn
conn_of (Written conn bytes) = conn
conn_of (Started call) = call.id.conn
conn_of (Finished call) = call.id.conn

-- the call that was started or finished
abbrev pub call_in : Entry → Option NotedCall
call_in (Read conn bytes) = None
call_in (Written conn bytes) = None
call_in (Started call) = Some call
call_in (Finished call) = Some call

-- how many bytes a read gave
abbrev pub read_by : Entry → ℕ
read_by (Read conn bytes) = bytes
read_by (Written conn bytes) = 0
read_by (Started call) = 0
read_by (Finished call) = 0

-- how many bytes a write took
abbrev pub written_by : Entry → ℕ
written_by (Read conn bytes) = 0
written_by (Written conn bytes) = bytes
written_by (Started call) = 0
written_by (Finished call) = 0

-- what was done for this connection
abbrev pub own_of : ℕ → List Entry → List Entry
own_of conn journal = filter (λ entry. conn_of entry == conn) journal

-- it was all done for this connection
abbrev pub AreOf : ℕ → List Entry → Type 0
AreOf conn journal = All (λ entry. conn_of entry ≡ conn) journal

-- how many bytes reads from this connection gave
abbrev pub bytes_read : ℕ → List Entry → ℕ
bytes_read conn journal = sum_by read_by (own_of conn journal)

-- how many bytes writes to it took
abbrev pub bytes_written : ℕ → List Entry → ℕ
bytes_written conn journal = sum_by written_by (own_of conn journal)
