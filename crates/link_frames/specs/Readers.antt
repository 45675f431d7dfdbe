-- What a reader stands for: all bytes of its stream so far, however they were cut.
use Rattle.std.specs.Prelude.{◌≡◌, ℕ, List, [], Option, Some, None}
use Rattle.link_frames.specs.Reading.{Reading, reading}
use Rattle.link_frames.specs.declared.fault.LinkFault.{LinkFault}
use Rattle.link_frames.specs.declared.parts.LinkPart.{LinkPart}
use Rattle.link_frames.specs.declared.parts.Stage.{Stage}
use Rattle.link_frames.specs.declared.parts.Stage.TheVariants as stage

-- what part is the next, the fault if it has shown, and the bytes of the part in progress
pub record InProgress : Type 0 where
  pub stage : Stage
  pub fault : Option LinkFault
  pub bytes : List ℕ

-- After a fault no bytes are kept.
abbrev pub kept : Option LinkFault → List ℕ → List ℕ
kept None rest = rest
kept (Some fault) rest = []

abbrev pub after_feed : Reading → InProgress
after_feed r = record { stage = r.stage; fault = r.fault; bytes = kept r.fault r.rest }

-- what is read of all bytes

abbrev pub heard : List ℕ → Reading
heard text = reading stage.Hello text

abbrev pub parts_of : List ℕ → List LinkPart
parts_of text = (heard text).parts

abbrev pub fault_of : List ℕ → Option LinkFault
fault_of text = (heard text).fault

abbrev pub StandsFor : InProgress → List ℕ → Type 0
StandsFor reader text = reader ≡ after_feed (heard text)
