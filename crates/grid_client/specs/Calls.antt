-- The calls of a client that wait for their answers, or were refused by a member that doesn't lead their partition.
use Rattle.std.specs.Prelude.{ℕ, zero, suc, ◌+◌, Bool, true, false, not, ◌&&◌, ◌||◌, ◌==◌, ℤ, pos, negsuc, if◌then◌else◌, List, Option, Some, None, slice_get, slice_set}
use Rattle.std.specs.Ordering.{int_eq}
use Rattle.std.specs.List.{list_any, remove}
use Rattle.std.specs.Option.{option_map_or}
use Rattle.grid_base.specs.Errors.{wrong_target, migrating}
use Rattle.grid_base.specs.declared.calls.GridCall.{GridCall}
use Rattle.request_codecs.specs.Requests.{kind_of_call, request_bytes}
use Rattle.request_codecs.specs.Readdressing.{readdressed}
use Rattle.grid_client.specs.Lists.{erased_by, changed_by}
use Rattle.grid_client.specs.declared.calls.Call.{Call}
use Rattle.grid_client.specs.declared.heard.Sending.{Sending}
use Rattle.grid_client.specs.declared.messages.Head.{Head}

-- Calls have numbers, and correlations that are one more, since the first request on a connection has the correlation 1.
abbrev pub correlation_of : ℕ → ℤ
correlation_of number = pos (number + 1)

-- the number of a correlation above 0
abbrev pub number_in : ℤ → Option ℕ
number_in (pos zero) = None
number_in (pos (suc number)) = Some number
number_in (negsuc n) = None

-- It waits on that connection, and a message of that type is its answer: an error, or of the request's type plus 1
abbrev pub is_answered_by : ℕ → ℕ → ℕ → Call → Bool
is_answered_by conn number kind call =
    not call.refused && (call.conn == conn) && (call.number == number) && ((kind == 0) || (kind == call.kind + 1))

-- the member that was asked doesn't lead the partition, or gives it up
abbrev pub is_elsewhere : ℤ → Bool
is_elsewhere code = int_eq code (pos wrong_target) || int_eq code (pos migrating)

-- it was refused so, and not tried again
abbrev pub is_refused : ℕ → Call → Bool
is_refused number call = call.refused && (call.number == number)

abbrev pub refusing : Call → Call
refusing call = record call { refused = true }

-- An answer ends a call, unless it says that another member is to be asked: then the call may be tried again.
abbrev pub settled : (Call → Bool) → Option ℤ → List Call → List Call
settled test code calls = if option_map_or is_elsewhere code false then changed_by test refusing calls else erased_by test calls

-- the same for the call at a place
abbrev pub settled_at : ℕ → Option ℤ → List Call → List Call
settled_at place code calls =
    if option_map_or is_elsewhere code false
    then option_map_or (λ call. slice_set calls place (refusing call)) (slice_get calls place) calls
    else remove calls place

-- the number of the call that a message answers
abbrev pub awaited_number : ℕ → ℕ → List Call → Option ℕ → Option ℕ
awaited_number conn kind calls None = None
awaited_number conn kind calls (Some number) = if list_any (is_answered_by conn number kind) calls then Some number else None

abbrev pub answered_number : ℕ → Head → List Call → Option ℕ
answered_number conn head calls = awaited_number conn head.kind calls (number_in head.correlation)

abbrev pub settled_by : ℕ → Head → Option ℤ → Option ℕ → List Call → List Call
settled_by conn head code None calls = calls
settled_by conn head code (Some number) calls = settled (is_answered_by conn number head.kind) code calls

-- a call as it is asked for
abbrev pub asked_call : ℕ → ℕ → ℕ → GridCall → Call
asked_call number conn partition call = record {
  number = number;
  conn = conn;
  kind = kind_of_call call;
  partition = partition;
  request = request_bytes (correlation_of number) partition call;
  refused = false;
}

-- and as it is tried again
abbrev pub again : ℕ → ℕ → Call → Call
again number conn call = record call {
  number = number;
  conn = conn;
  request = readdressed (correlation_of number) call.request;
  refused = false;
}

-- what is sent for it
abbrev pub sending_of : Call → Sending
sending_of call = record { conn = call.conn; correlation = correlation_of call.number; bytes = call.request }
