-- The laws of reading, by the names that the proofs here use.
use Rattle.std.proofs.Common.{length, Option, ◌∙◌, ap}
use Rattle.frame_codec.specs.Laws as frame_laws
use Rattle.frame_codec.specs.Reading.{reading}
use Rattle.frame_codec.specs.declared.malformed.Malformed.{Malformed}
use Rattle.frame_codec.proofs.GoingOn.{goes_on_by, reading-append}
use Rattle.frame_codec.proofs.Spelling.{written_read, read_spelled}

pub read : frame_laws.written_frames_are_read
read at frames rest limits none = written_read at frames rest limits none

pub spelled_by : frame_laws.read_frames_are_spelled
spelled_by at text bytes = read_spelled at text bytes

pub on : frame_laws.reading_goes_on
on at text more sound = reading-append at text more ∙ ap (λ (fault : Option Malformed). goes_on_by fault (reading at text) at (length text) more) sound

pub ends : frame_laws.a_fault_ends_reading
ends at text more fault faulty = reading-append at text more ∙ ap (λ (fault : Option Malformed). goes_on_by fault (reading at text) at (length text) more) faulty
