-- The frames of what the machine says on a near connection, and what they say to its client.
use Rattle.std.specs.Prelude.{◌≡◌, ℕ, ◌<◌, ℤ, pos, List, map}
use Rattle.std.specs.Int.{w32}
use Rattle.std.specs.Int.RustNames.{FitsSigned}
use Rattle.grid_base.specs.declared.calls.Answer.TheVariants.{Maybe}
use Rattle.frame_codec.specs.Laws.{spelled}
use Rattle.frame_codec.specs.declared.frames.Frame.{Frame}
use Rattle.fixed_fields.specs.Replies.{reply_bytes}
use Rattle.message_frames.specs.Assembly.{most_messages}
use Rattle.message_frames.specs.Writing.{IsWritable}
use Rattle.map_codecs.specs.Calls.{get_kind}
use Rattle.partition_table.specs.declared.Row.{Row}
use Rattle.event_codecs.specs.Sent.{FitMessage}
use Rattle.event_codecs.specs.SpelledEvents.{IsEvent}
use Rattle.event_codecs.specs.Writing.{invalidation_frames, rows_frames, seen}
use Rattle.event_codecs.specs.declared.events.ClientEvent.TheVariants as event
use Rattle.request_codecs.specs.Openings.{invalidations_correlation, rows_correlation}
use Rattle.near_protocol.specs.Client.{Said, Answer, Refusal, Invalidation, Rows}
use Rattle.grid_client.specs.Nears.{Value}
use Rattle.grid_client.specs.Calls.{correlation_of}
use Rattle.near_run_laws.specs.Messages.{row_said, AreBytesOf}
use Rattle.near_run_laws.specs.Hearings.{answer_frames, refusal_frames}
use Rattle.near_run_laws.specs.Clients.{SaysIt}

-- These frames say this, and their numbers and lengths are within their limits.
abbrev pub Speak : List ℕ → List Frame → Said (List ℕ) → Type 0
Speak name frames (Answer number reply) =
    (value : Value) × (frames ≡ answer_frames number value) × (number < most_messages) × IsWritable (answer_frames number value) × (reply ≡ reply_bytes get_kind (correlation_of number) (Maybe value))
Speak name frames (Refusal number) = (code : ℤ) × (first : ℤ) × (frames ≡ refusal_frames number code first) × (number < most_messages) × FitsSigned w32 code
Speak name frames (Invalidation key version number) =
    (partition : ℕ) × (frames ≡ invalidation_frames invalidations_correlation partition version number name key)
    × IsEvent (event.Invalidation invalidations_correlation (pos partition) version number name key) × FitMessage (invalidation_frames invalidations_correlation partition version number name key)
Speak name frames (Rows rows) =
    (known : List (ℕ × Row)) × (frames ≡ rows_frames rows_correlation known) × IsEvent (event.Rows rows_correlation (map seen known)) × FitMessage (rows_frames rows_correlation known) × (rows ≡ map row_said known)

-- Their bytes are those of what is said, and their message says it.
abbrev pub EveryMessageSaysIt : Type 0
EveryMessageSaysIt = (name : List ℕ) (frames : List Frame) (said : Said (List ℕ)) → Speak name frames said → AreBytesOf name (spelled frames) said × SaysIt name (record { frames = frames }) said
