-- What became of the calls of a run, and how much stands in its partitions' histories, in numbers.
use Rattle.std.specs.Prelude.{◌≡◌, ◌≤◌, ℕ, ◌+◌, Bool, false, not, ◌&&◌, ◌==◌, nat_le, if◌then◌else◌, List, length, take, drop, count_by, Option, Some, None, is_some, Contains}
use Rattle.std.specs.Int.{w32, from_le_bytes}
use Rattle.std.specs.List.{find}
use Rattle.grid_base.specs.Errors.{partition_lost, migrating, want_of_memory}
use Rattle.grid_base.specs.Objects.{Object}
use Rattle.grid_base.specs.declared.names.CallId.{CallId}
use Rattle.grid_base.specs.declared.calls.Request.{Request}
use Rattle.partition_protocol.specs.Service.{numbers_below}
use Rattle.call_engine.specs.Calls.{Settings}
use Rattle.call_engine.specs.Objects.{partition_object}
use Rattle.script_lang.specs.declared.line.Line.{Line}
use Rattle.replay_run.specs.declared.counts.Counts.{Counts}
use Rattle.replay_run.specs.Runs.{Run, Arrival, Appended, partitions}
use Rattle.replay_run.specs.Printing.{is_named, answer_of, all_entries}
use Rattle.replay_run.specs.Rebalancing.{service_at}
use Rattle.replay_run.specs.SkippedCalls.{run_with}

-- an answer was appended for the call
abbrev pub is_answered : Run → Arrival → Bool
is_answered r a = is_some (answer_of r a.request.id)

abbrev pub is_refusal_of : CallId → Appended → Bool
is_refusal_of id m = is_named id m.refuses

-- the message that refuses the call, if one does
abbrev pub refusal_among : List Appended → CallId → Option Appended
refusal_among messages id = find (is_refusal_of id) messages

-- The number of an error stands in its bytes behind a frame's head of 6, the type of 4, the correlation of 8 and the count of acknowledgements.
abbrev pub error_number : List ℕ → ℕ
error_number bytes = from_le_bytes w32 (take 4 (drop 19 bytes))

abbrev pub has_number : (ℕ → Bool) → Option Appended → Bool
has_number test None = false
has_number test (Some m) = test (error_number m.bytes)

-- the call was refused with a number that passes
abbrev pub is_refused_with : (ℕ → Bool) → List Appended → Arrival → Bool
is_refused_with test messages a = has_number test (refusal_among messages a.request.id)

-- 7, 8 or 9: the partition is lost, the member is the wrong one, or the partition is migrating
abbrev pub is_of_row : ℕ → Bool
is_of_row number = nat_le partition_lost number && nat_le number migrating

-- 10
abbrev pub is_of_memory : ℕ → Bool
is_of_memory number = number == want_of_memory

abbrev pub is_refused : Run → Arrival → Bool
is_refused r a = is_refused_with is_of_row r.appended a

abbrev pub is_out_of_memory : Run → Arrival → Bool
is_out_of_memory r a = is_refused_with is_of_memory r.appended a

-- none of these
abbrev pub is_waiting : Run → Arrival → Bool
is_waiting r a = not (is_answered r a) && not (is_refused r a) && not (is_out_of_memory r a)

-- the newest row of a partition is lost
abbrev pub is_lost_at : {State : Type 0} → Object Request State → Run → ℕ → Bool
is_lost_at o r p = (service_at o r p).row.lost

abbrev pub counts_of : Settings → Run → Counts
counts_of settings r = record {
  arrived = length r.arrivals + length r.waiters;
  answered = count_by (is_answered r) r.arrivals;
  refused = count_by (is_refused r) r.arrivals;
  memory = count_by (is_out_of_memory r) r.arrivals;
  waiting = count_by (is_waiting r) r.arrivals + length r.waiters;
  -- those that `end` prints
  entries = length (all_entries (partition_object settings) r);
  lost = count_by (is_lost_at (partition_object settings) r) (numbers_below partitions);
}

-- the law

abbrev pub one_if : Bool → ℕ
one_if b = if b then 1 else 0

-- the call is of exactly one of the four kinds
abbrev pub IsOfOneKind : Run → Arrival → Type 0
IsOfOneKind r a = one_if (is_answered r a) + one_if (is_refused r a) + one_if (is_out_of_memory r a) + one_if (is_waiting r a) ≡ 1

pub record CountsOnce (settings : Settings) (r : Run) : Type 0 where
  pub kinds : (a : Arrival) → Contains r.arrivals a → IsOfOneKind r a
  pub all : let c = counts_of settings r in c.arrived ≡ c.answered + c.refused + c.memory + c.waiting

-- whatever the processors, the queues' capacity, the lines after the first, and the calls that find no memory
abbrev pub EveryCallCountsOnce : Type 0
EveryCallCountsOnce = (settings : Settings) (members backups : ℕ) (skips : List CallId) (lines : List Line) → 1 ≤ members → CountsOnce settings (run_with settings members backups skips lines)
