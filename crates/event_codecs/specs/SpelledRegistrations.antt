-- Which registrations are read, and the messages that spell each of them.
use Rattle.std.specs.Prelude.{◌≡◌, ◌≢◌, ℕ, ℤ, Bool, true, false, List, [], ◌∷◌, ◌++◌, drop, All, Option, Some, None, IfSome}
use Rattle.std.specs.Str.{IsUtf8}
use Rattle.std.specs.Int.{w64}
use Rattle.std.specs.Int.RustNames.{FitsSigned}
use Rattle.fixed_fields.specs.Requests.{kind_of, kinds_in}
use Rattle.fixed_fields.specs.Spelled.{request_head, HoldParts}
use Rattle.message_frames.specs.Assembly.{first_payload}
use Rattle.message_frames.specs.declared.message.Message.{Message}
use Rattle.event_codecs.specs.Registrations.{entry_listener_kind, invalidation_listener_kind, cluster_view_kind, registrations}
use Rattle.event_codecs.specs.declared.registration.Registration.{Registration}
use Rattle.event_codecs.specs.declared.registration.Registration.TheVariants.{Entries, Invalidations, Rows}

-- ---- what a registration says

abbrev pub kind_of_registration : Registration → ℕ
kind_of_registration (Entries correlation name with_value) = entry_listener_kind
kind_of_registration (Invalidations correlation name) = invalidation_listener_kind
kind_of_registration (Rows correlation) = cluster_view_kind

abbrev pub correlation_of : Registration → ℤ
correlation_of (Entries correlation name with_value) = correlation
correlation_of (Invalidations correlation name) = correlation
correlation_of (Rows correlation) = correlation

-- the name of its map, where it is about one
abbrev pub map_of : Registration → Option (List ℕ)
map_of (Entries correlation name with_value) = Some name
map_of (Invalidations correlation name) = Some name
map_of (Rows correlation) = None

-- what the frames behind the first hold
abbrev pub parts_of : Registration → List (List ℕ)
parts_of (Entries correlation name with_value) = name ∷ []
parts_of (Invalidations correlation name) = name ∷ []
parts_of (Rows correlation) = []

-- ---- the registrations that are read

-- The correlation is a number of its size, and a name is a text.
pub record IsRegistration (registration : Registration) : Type 0 where
  pub correlation : FitsSigned w64 (correlation_of registration)
  pub name : IfSome (map_of registration) IsUtf8

-- ---- the messages that spell a registration

-- No is spelled by 0, and yes by any other byte.
abbrev pub SpellsFlag : Bool → ℕ → Type 0
SpellsFlag true byte = byte ≢ 0
SpellsFlag false byte = byte ≡ 0

-- the fields behind the head
abbrev pub SpellFields : Registration → List ℕ → Type 0
SpellFields (Entries correlation name with_value) fields = (byte : ℕ) × (fields ≡ byte ∷ []) × SpellsFlag with_value byte
SpellFields (Invalidations correlation name) fields = fields ≡ []
SpellFields (Rows correlation) fields = fields ≡ []

-- The first payload begins with the type, the correlation and any partition, and the registration's fields; the frames behind it hold the map's name.
-- What follows either doesn't count.
pub record Spells (message : Message) (registration : Registration) : Type 0 where
  pub partition : ℤ
  pub fields : List ℕ
  pub more : List ℕ
  pub said : SpellFields registration fields
  pub payload : first_payload message.frames ≡ (request_head (kind_of_registration registration) (correlation_of registration) partition ++ fields) ++ more
  pub parts : HoldParts (drop 1 message.frames) (parts_of registration)

-- the type is none of the three registrations'
abbrev pub HasOtherKind : Message → Type 0
HasOtherKind message = All (λ kind. kind_of (first_payload message.frames) ≢ Some kind) (kinds_in registrations)
