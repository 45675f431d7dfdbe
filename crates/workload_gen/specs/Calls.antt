-- The calls of a script's clients.
use Rattle.std.specs.Prelude.{ℕ, ◌+◌, ◌%◌, ◌==◌, if◌then◌else◌, pos, List, [], ◌∷◌, ◌++◌, codes}
use Rattle.std.specs.Int.{w32, w64, to_be_bytes}
use Rattle.grid_base.specs.declared.names.Owner.{Owner}
use Rattle.grid_base.specs.declared.names.ClientKey.TheVariants.{Known}
use Rattle.grid_base.specs.declared.calls.GridCall.{GridCall}
use Rattle.grid_base.specs.declared.calls.GridCall.TheVariants.{Map}
use Rattle.grid_base.specs.declared.calls.MapCall.TheVariants.{Put, Get}

-- Connection c is that of the client 100 + c.
abbrev pub client_on : ℕ → ℕ
client_on conn = 100 + conn

-- The connection on which a partition's calls come.
abbrev pub conn_of : ℕ → ℕ
conn_of partition = partition % 4

abbrev pub owner_of : ℕ → Owner
owner_of partition = record { client = Known (client_on (conn_of partition)); thread = pos 0 }

-- The key of a partition: its number is the hash that the key states. A hash of 0 would state none, so 0 is written as 271.
abbrev pub stated_hash : ℕ → ℕ
stated_hash partition = if partition == 0 then 271 else partition

abbrev pub key_of : ℕ → List ℕ
key_of partition = to_be_bytes w32 (stated_hash partition) ++ 255 ∷ 255 ∷ 255 ∷ 245 ∷ []

-- A round puts its number.
abbrev pub put : ℕ → ℕ → GridCall
put round partition = Map (Put (codes "m") (key_of partition) (owner_of partition) (to_be_bytes w64 round) (pos 0))

abbrev pub get : ℕ → GridCall
get partition = Map (Get (codes "m") (key_of partition) (owner_of partition))
