-- The messages of a near connection, and what each of them says to the machine of its client.
use Rattle.std.specs.Prelude.{◌≡◌, ℕ, ℤ, pos, ◌==◌, Bool, List, [], ◌∷◌, map, filter}
use Rattle.fixed_fields.specs.Responses.{error_bytes}
use Rattle.frame_codec.specs.Laws.{spelled}
use Rattle.partition_table.specs.declared.Row.{Row}
use Rattle.event_codecs.specs.Writing.{invalidation_frames, rows_frames}
use Rattle.event_codecs.specs.declared.registration.Registration.TheVariants as registration
use Rattle.listeners.specs.declared.listener.Listener.{Listener}
use Rattle.request_codecs.specs.Openings.{invalidations_correlation, rows_correlation}
use Rattle.near_protocol.specs.Client.{Said, Answer, Refusal, Invalidation, Rows, RowHeard}
use Rattle.grid_client.specs.Calls.{correlation_of}
use Rattle.replay_run.specs.Runs.{Appended}

abbrev pub is_to : ℕ → Appended → Bool
is_to c m = m.conn == c

-- the bytes of the messages to a connection, in order
abbrev pub sent_to : ℕ → List Appended → List (List ℕ)
sent_to c appended = map (λ (m : Appended). m.bytes) (filter (is_to c) appended)

-- to what a near client of a map listens
abbrev pub near_listeners : ℕ → List ℕ → List Listener
near_listeners c name =
    record { conn = c; registration = registration.Invalidations invalidations_correlation name }
    ∷ record { conn = c; registration = registration.Rows rows_correlation }
    ∷ []

abbrev pub row_said : ℕ × Row → RowHeard
row_said placed = record { partition = placed.0; version = placed.1.version }

-- what the machine says on the connection of the map's client, and its bytes
abbrev pub AreBytesOf : List ℕ → List ℕ → Said (List ℕ) → Type 0
AreBytesOf name bytes (Answer number reply) = bytes ≡ reply
AreBytesOf name bytes (Refusal number) = (code : ℤ) × ((first : ℤ) × (bytes ≡ error_bytes (correlation_of number) code first (pos 0)))
AreBytesOf name bytes (Invalidation key version number) = (p : ℕ) × (bytes ≡ spelled (invalidation_frames invalidations_correlation p version number name key))
AreBytesOf name bytes (Rows rows) = (known : List (ℕ × Row)) × ((bytes ≡ spelled (rows_frames rows_correlation known)) × (rows ≡ map row_said known))

-- message by message
abbrev pub AreSaidBy : (List ℕ → Said (List ℕ) → Type 0) → List (List ℕ) → List (Said (List ℕ)) → Type 0
AreSaidBy P [] [] = Unit {0}
AreSaidBy P [] (said ∷ rest) = ⊥
AreSaidBy P (bytes ∷ more) [] = ⊥
AreSaidBy P (bytes ∷ more) (said ∷ rest) = P bytes said × AreSaidBy P more rest

abbrev pub AreSaid : List ℕ → List (List ℕ) → List (Said (List ℕ)) → Type 0
AreSaid name bytes said = AreSaidBy (AreBytesOf name) bytes said
