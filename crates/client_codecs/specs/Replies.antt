-- How an authentication is answered, as bytes.
use Rattle.std.specs.Prelude.{ℕ, ◌+◌, Bool, true, false, ℤ, pos, List, ◌∷◌, ◌++◌, Option, Some, None}
use Rattle.fixed_fields.specs.Fields.{int32_bytes, uuid_bytes}
use Rattle.fixed_fields.specs.Responses.{response_of}
use Rattle.grid_base.specs.declared.TheConstants.{PARTITIONS}
use Rattle.client_codecs.specs.Authentications.{authentication_kind}

-- 0 says that the client is accepted
abbrev pub status_of : Bool → ℕ
status_of true = 0
status_of false = 1

-- a member's UUID is its number and 1, and only a client that is accepted is told it
abbrev pub uuid_told : Bool → ℕ → Option ℕ
uuid_told true member = Some (member + 1)
uuid_told false member = None

-- the status, the member's UUID and the number of partitions
abbrev pub authentication_reply : ℤ → Bool → ℕ → List ℕ
authentication_reply correlation accepted member =
    response_of authentication_kind correlation (status_of accepted ∷ uuid_bytes (uuid_told accepted member) ++ int32_bytes (pos PARTITIONS))
