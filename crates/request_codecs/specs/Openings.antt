-- What a client sends first on a connection.
use Rattle.std.specs.Prelude.{ℕ, ℤ, pos, negsuc, true, List, [], ◌∷◌, ◌++◌, Option, Some, None, codes}
use Rattle.frame_codec.specs.Laws.{spelled}
use Rattle.frame_codec.specs.declared.frames.Frame.{Frame}
use Rattle.fixed_fields.specs.Responses.{unfragmented, final, single}
use Rattle.fixed_fields.specs.Spelled.{request_head}
use Rattle.message_frames.specs.Messages.{prefix_of}
use Rattle.client_codecs.specs.SpelledAuthentications.{authentication_message}
use Rattle.event_codecs.specs.Registrations.{invalidation_listener_kind, cluster_view_kind}

abbrev pub authentication_correlation : ℤ
authentication_correlation = pos 1

abbrev pub invalidations_correlation : ℤ
invalidations_correlation = pos 2

abbrev pub rows_correlation : ℤ
rows_correlation = pos 3

abbrev pub first_correlation : ℤ
first_correlation = pos 4

-- A registration is in no partition.
abbrev pub registration_head : ℕ → ℤ → List ℕ
registration_head kind correlation = request_head kind correlation (negsuc 0)

-- the client makes itself known to the cluster `dev`, with the serialization's version 1
abbrev pub authentication_frames : ℤ → ℕ → List Frame
authentication_frames correlation client =
    (authentication_message correlation (negsuc 0) 1 (record { client = Some client; name = codes "dev" }) [] []).frames

-- it listens to the invalidations of its near map, where it has one
abbrev pub listener_frames : Option (List ℕ) → List Frame
listener_frames None = []
listener_frames (Some map) =
    record { flags = unfragmented; payload = registration_head invalidation_listener_kind invalidations_correlation }
    ∷ record { flags = final; payload = map } ∷ []

-- and to rows
abbrev pub view_frames : List Frame
view_frames = record { flags = single; payload = registration_head cluster_view_kind rows_correlation } ∷ []

abbrev pub opening : ℕ → Option (List ℕ) → List ℕ
opening client map = prefix_of true ++ spelled (authentication_frames authentication_correlation client ++ listener_frames map ++ view_frames)
