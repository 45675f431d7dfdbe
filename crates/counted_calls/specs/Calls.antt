-- The calls that are counted: four sessions, each with 250 calls of the first processor on one key.
use Rattle.std.specs.Prelude.{ℕ, zero, suc, ◌+◌, pos, Bool, false, true, ◌==◌, nat_le, List, [], ◌∷◌, ◌++◌, codes, filter}
use Rattle.grid_base.specs.declared.calls.GridCall.TheVariants.{Map}
use Rattle.grid_base.specs.declared.calls.MapCall.TheVariants.{ExecuteOnKey}
use Rattle.grid_base.specs.declared.calls.Request.{Request}
use Rattle.grid_base.specs.declared.names.CallId.{CallId}
use Rattle.grid_base.specs.declared.names.ClientKey.TheVariants.{Known}
use Rattle.grid_base.specs.declared.names.ObjectKey.{ObjectKey}
use Rattle.grid_base.specs.declared.names.ObjectKey.TheVariants.{Entry}
use Rattle.grid_base.specs.declared.names.Owner.{Owner}
use Rattle.hand_cell.specs.declared.names.Key.{Key}
use Rattle.hand_cell.specs.declared.names.Key.TheVariants as key
use Rattle.partition_world.specs.declared.event.Event.{Event}
use Rattle.live_grid.specs.Histories.{live_key, live_call}
use Rattle.counted_calls.specs.declared.requests.TheConstants.{PARTITION, LEADER, KIND}

-- a connection's call of that number

abbrev pub id_of : ℕ → ℕ → CallId
id_of conn number = record { conn = conn; number = number }

abbrev pub owner_of : ℕ → Owner
owner_of conn = record { client = Known (100 + conn); thread = pos 0 }

-- the number 1, in eight bytes, the low byte first
abbrev pub one : List ℕ
one = 1 ∷ 0 ∷ 0 ∷ 0 ∷ 0 ∷ 0 ∷ 0 ∷ 0 ∷ []

abbrev pub request_of : List ℕ → ℕ → ℕ → Request
request_of key conn number = record {
  id = id_of conn number;
  correlation = pos number;
  kind = KIND;
  partition = PARTITION;
  call = Map (ExecuteOnKey (codes "m") key (owner_of conn) (pos 1) one);
}

-- it reaches the member that leads the partition, at moment 0
abbrev pub call_of : List ℕ → ℕ → ℕ → Event Request
call_of key conn number = live_call LEADER (request_of key conn number) 0

-- the entry that all of them are on
abbrev pub name_of : List ℕ → ObjectKey
name_of key = Entry (codes "m") key

-- calls among events

abbrev pub is_call_by : ℕ → Key → Bool
is_call_by conn (key.Call id) = id.conn == conn
is_call_by conn other = false

abbrev pub is_call_from : ℕ → Key → Bool
is_call_from from (key.Call id) = nat_le from id.conn
is_call_from from other = false

abbrev pub is_call : Key → Bool
is_call (key.Call id) = true
is_call other = false

-- those of a connection, in their order
abbrev pub calls_by : ℕ → List (Event Request) → List (Event Request)
calls_by conn events = filter (λ event. is_call_by conn (live_key event)) events

-- those of all connections from one on
abbrev pub calls_from : ℕ → List (Event Request) → List (Event Request)
calls_from from events = filter (λ event. is_call_from from (live_key event)) events

-- and all of them
abbrev pub calls_in : List (Event Request) → List (Event Request)
calls_in events = filter (λ event. is_call (live_key event)) events

-- the numbers below one, in their order
unfoldable pub numbers_below : ℕ → List ℕ
numbers_below zero = []
numbers_below (suc n) = numbers_below n ++ n ∷ []
