-- A client, and what its calls do to it.
use Rattle.std.specs.Prelude.{◌≡◌, ℕ, ◌+◌, nat_lt, Bool, true, false, if◌then◌else◌, pos, List, [], ◌∷◌, ◌++◌, length, Option, Some, None, option_map, slice_get, slice_set}
use Rattle.std.specs.Option.{is_none}
use Rattle.std.specs.List.{find, list_any}
use Rattle.grid_base.specs.declared.calls.GridCall.{GridCall}
use Rattle.grid_base.specs.declared.calls.GridCall.TheVariants.{Map}
use Rattle.grid_base.specs.declared.calls.MapCall.TheVariants.{Get}
use Rattle.grid_base.specs.declared.names.ClientKey.TheVariants.{Known}
use Rattle.session_core.specs.Places.{partition_of_key}
use Rattle.event_codecs.specs.declared.seen.SeenRow.{SeenRow}
use Rattle.grid_client.specs.Lists.{changed_by}
use Rattle.grid_client.specs.Nears.{Near, Value, new_near, hit, used, opened}
use Rattle.grid_client.specs.Calls.{asked_call, again, sending_of, is_refused}
use Rattle.grid_client.specs.Rows.{leader_in}
use Rattle.grid_client.specs.Connections.{is_conn, new_connection, placed, target_of}
use Rattle.grid_client.specs.declared.calls.Call.{Call}
use Rattle.grid_client.specs.declared.connections.Connection.{Connection}
use Rattle.grid_client.specs.declared.heard.Sending.{Sending}
use Rattle.grid_client.specs.declared.heard.ClientRefused.{ClientRefused}
use Rattle.grid_client.specs.declared.heard.ClientRefused.TheVariants.{ShortKey, NoNear, NoConnection}
use Rattle.grid_client.specs.declared.heard.NearLook.{NearLook}
use Rattle.grid_client.specs.declared.heard.NearLook.TheVariants.{Hit, Miss}

-- Its own number; what it keeps of the map that it listens to, if it does; its connections, in their order; the rows that
-- it heard of; the calls that wait, or may be tried again; the number of its next call
pub record State : Type 0 where
  pub client : ℕ
  pub near : Option Near
  pub connections : List Connection
  pub rows : List SeenRow
  pub calls : List Call
  pub next : ℕ

-- the correlations 1 to 3 are those of the opening
abbrev pub first_number : ℕ
first_number = 3

-- the near cache of a map, of so many entries
abbrev pub near_at_first : Option (List ℕ × ℕ) → Option Near
near_at_first near = option_map (λ n. new_near n.0 n.1) near

abbrev pub new_client : ℕ → Option (List ℕ × ℕ) → State
new_client client near = record {
  client = client;
  near = near_at_first near;
  connections = [];
  rows = [];
  calls = [];
  next = first_number;
}

abbrev pub IsAttached : ℕ → State → Type 0
IsAttached conn s = list_any (is_conn conn) s.connections ≡ true

abbrev pub attached : ℕ → State → State
attached conn s = record s { connections = placed (new_connection conn) s.connections }

-- asking

-- the connection on which the calls of a partition go
abbrev pub target : ℕ → State → Option ℕ
target partition s = target_of (leader_in partition s.rows) s.connections

abbrev pub asking : Call → State → State
asking call s = record s { calls = s.calls ++ call ∷ []; next = s.next + 1 }

-- A call was sent on its connection under the next number, and waits there.
pub record HasAsked (partition : ℕ) (call : GridCall) (old new : State) (sending : Sending) : Type 0 where
  pub conn : ℕ
  pub goes : target partition old ≡ Some conn
  pub sent : sending ≡ sending_of (asked_call old.next conn partition call)
  pub after : new ≡ asking (asked_call old.next conn partition call) old

-- looking up

-- the get of a key, by no thread
abbrev pub get_of : List ℕ → List ℕ → ℕ → GridCall
get_of name key client = Map (Get name key (record { client = Known client; thread = pos 0 }))

-- The value is the one that is kept for the key, whose entry comes to the front.
pub record HasHit (key : List ℕ) (value : Value) (old new : State) : Type 0 where
  pub near : Near
  pub listens : old.near ≡ Some near
  pub kept : hit key near ≡ Some value
  pub after : new ≡ record old { near = Some (used key near) }

-- Nothing was kept: a look-up is open under the number of its get, which was sent.
pub record HasMissed (key : List ℕ) (sending : Sending) (old new : State) : Type 0 where
  pub near : Near
  pub listens : old.near ≡ Some near
  pub none : hit key near ≡ None
  pub asked : HasAsked (partition_of_key key) (get_of near.name key old.client) (record old { near = Some (opened old.next key near) }) new sending

-- a look-up is open under the number of the next call
abbrev pub opening_look_up : List ℕ → State → State
opening_look_up key s = record s { near = option_map (opened s.next key) s.near }

-- A get was sent on that connection, and a look-up opened under its number.
pub record HasOpened (conn partition : ℕ) (key : List ℕ) (old new : State) (sending : Sending) : Type 0 where
  pub near : Near
  pub listens : old.near ≡ Some near
  pub sent : sending ≡ sending_of (asked_call old.next conn partition (get_of near.name key old.client))
  pub after : new ≡ asking (asked_call old.next conn partition (get_of near.name key old.client)) (opening_look_up key old)

abbrev pub HasLookedUp : List ℕ → State → State → NearLook → Type 0
HasLookedUp key old new (Hit value) = HasHit key value old new
HasLookedUp key old new (Miss sending) = HasMissed key sending old new

abbrev pub is_empty : {X : Type 0} → List X → Bool
is_empty [] = true
is_empty (x ∷ xs) = false

-- why a look-up isn't made, unless for want of memory
abbrev pub refusal_of : List ℕ → State → Option ClientRefused
refusal_of key s =
    if nat_lt (length key) 8 then Some ShortKey
    else if is_none s.near then Some NoNear
    else if is_empty s.connections then Some NoConnection
    else None

-- a look at a key, of which there may have been no memory to copy the value
abbrev pub looked : List ℕ → State → State
looked key s = record s { near = option_map (used key) s.near }

-- trying again

abbrev pub trying_again : ℕ → Call → State → State
trying_again number call s = record s { calls = changed_by (is_refused number) (λ (c : Call). call) s.calls; next = s.next + 1 }

-- The refused call of that number was sent again, to the member that leads now, under the next number.
pub record HasRetried (number : ℕ) (old new : State) (sending : Sending) : Type 0 where
  pub call : Call
  pub refused : find (is_refused number) old.calls ≡ Some call
  pub conn : ℕ
  pub goes : target call.partition old ≡ Some conn
  pub sent : sending ≡ sending_of (again old.next conn call)
  pub after : new ≡ trying_again number (again old.next conn call) old

-- the same of the call at a place
pub record HasRetriedAt (place : ℕ) (old new : State) (sending : Sending) : Type 0 where
  pub call : Call
  pub at : slice_get old.calls place ≡ Some call
  pub conn : ℕ
  pub goes : target call.partition old ≡ Some conn
  pub sent : sending ≡ sending_of (again old.next conn call)
  pub after : new ≡ record old { calls = slice_set old.calls place (again old.next conn call); next = old.next + 1 }

-- none of that number waits to be tried again
abbrev pub IsNotRefused : Option ℕ → State → Type 0
IsNotRefused None s = Unit {0}
IsNotRefused (Some number) s = find (is_refused number) s.calls ≡ None

abbrev pub MayHaveRetried : Option ℕ → State → State → Option Sending → Type 0
MayHaveRetried number old new None = IsNotRefused number old × (new ≡ old)
MayHaveRetried None old new (Some sending) = ⊥
MayHaveRetried (Some number) old new (Some sending) = HasRetried number old new sending
