-- What the frames of a message come to: all that its limits and its completion need to know of them.
use Rattle.std.specs.Prelude.{◌+◌, ◌==◌, if◌then◌else◌, List, length, sum_by, Option, Some, None, Result, Ok, Err, nat_lt}
use Rattle.frame_codec.specs.Frames.{frame_length}
use Rattle.frame_codec.specs.declared.frames.Frame.{Frame}
use Rattle.frame_codec.specs.declared.malformed.Why.{Why}
use Rattle.frame_codec.specs.declared.malformed.Why.TheVariants.{ManyFrames, LongMessage}
use Rattle.message_frames.specs.Assembly.{most_frames, most_length, first_payload}
use Rattle.message_frames.specs.declared.tally.Tally.{Tally}

abbrev pub tally_of : List Frame → Tally
tally_of frames = record { count = length frames; bytes = sum_by frame_length frames; first = length (first_payload frames) }

abbrev pub no_tally : Tally
no_tally = record { count = 0; bytes = 0; first = 0 }

-- with one frame more
abbrev pub tally_with : Frame → Tally → Tally
tally_with frame tally = record {
  count = tally.count + 1;
  bytes = tally.bytes + frame_length frame;
  first = if tally.count == 0 then length frame.payload else tally.first;
}

abbrev pub limit_fault : Tally → Option Why
limit_fault tally =
    if nat_lt most_frames tally.count then Some ManyFrames
    else if nat_lt most_length tally.bytes then Some LongMessage
    else None

-- one frame more, unless it goes past a limit
abbrev pub counted : Frame → Tally → Result Tally Why
counted frame tally = let all = tally_with frame tally in elim (limit_fault all) [ None ↦ Ok all | Some why ↦ Err why ]
