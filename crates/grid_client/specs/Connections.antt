-- The connections of a client, in the order of their numbers.
use Rattle.std.specs.Prelude.{ℕ, ◌+◌, Bool, false, ◌==◌, nat_lt, if◌then◌else◌, List, [], ◌∷◌, Option, Some, None, option_map, slice_get}
use Rattle.std.specs.List.{find}
use Rattle.std.specs.Option.{option_or, option_map_or}
use Rattle.message_frames.specs.MessageReaders.{Hearing, standing}
use Rattle.grid_client.specs.Lists.{changed_by}
use Rattle.grid_client.specs.declared.connections.Connection.{Connection}

abbrev pub is_conn : ℕ → Connection → Bool
is_conn conn c = c.conn == conn

-- a connection on which nothing was heard
abbrev pub new_connection : ℕ → Connection
new_connection conn = record { conn = conn; uuid = None; reader = standing false [] }

-- A new one comes before the first of a greater number.
abbrev pub placed : Connection → List Connection → List Connection
placed new [] = new ∷ []
placed new (c ∷ cs) = if nat_lt new.conn c.conn then new ∷ c ∷ cs else c ∷ placed new cs

-- The member told its UUID, which is its number and 1.
abbrev pub is_to : Option ℕ → Connection → Bool
is_to None c = false
is_to (Some member) c = option_map_or (λ uuid. uuid == member + 1) c.uuid false

abbrev pub first_of : List Connection → Option ℕ
first_of cs = option_map (λ (c : Connection). c.conn) (slice_get cs 0)

-- the connection on which a call goes: the first to the member that leads, or else the first
abbrev pub target_of : Option ℕ → List Connection → Option ℕ
target_of leader cs = option_map (λ (c : Connection). c.conn) (option_or (find (is_to leader) cs) (slice_get cs 0))

-- the last UUID that its member told
abbrev pub with_uuid : ℕ → Option ℕ → List Connection → List Connection
with_uuid conn uuid cs = changed_by (is_conn conn) (λ (c : Connection). record c { uuid = uuid }) cs

abbrev pub with_reader : ℕ → Hearing → List Connection → List Connection
with_reader conn reader cs = changed_by (is_conn conn) (λ (c : Connection). record c { reader = reader }) cs
