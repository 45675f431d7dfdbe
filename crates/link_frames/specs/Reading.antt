-- What is read of the bytes of a link: a function of all its bytes so far, however they were cut.
use Rattle.std.specs.Prelude.{ℕ, zero, suc, ◌+◌, ◌==◌, if◌then◌else◌, List, [], ◌∷◌, length, take, drop, get_or, Option, Some, None, nat_lt}
use Rattle.std.specs.Int.{w16, w32, w64, from_le_bytes}
use Rattle.grid_base.specs.declared.TheConstants.{PARTITIONS}
use Rattle.link_frames.specs.Spelling.{checksum}
use Rattle.link_frames.specs.declared.fault.LinkFault.{LinkFault}
use Rattle.link_frames.specs.declared.fault.LinkFault.TheVariants.{NotALink, NoPartition, TooLong, Checksum}
use Rattle.link_frames.specs.declared.fronts.Front.{Front}
use Rattle.link_frames.specs.declared.fronts.Front.TheVariants.{Partial, Whole, Wrong}
use Rattle.link_frames.specs.declared.parts.Batch.{Batch}
use Rattle.link_frames.specs.declared.parts.Hello.{Hello}
use Rattle.link_frames.specs.declared.parts.LinkPart.{LinkPart}
use Rattle.link_frames.specs.declared.parts.LinkPart.TheVariants.{Opens, Answers, Carries}
use Rattle.link_frames.specs.declared.parts.Stage.{Stage}
use Rattle.link_frames.specs.declared.parts.Stage.TheVariants as stage
use Rattle.link_frames.specs.declared.parts.TheConstants.{MAGIC, HELLO_LENGTH, ANSWER_LENGTH, BATCH_HEADER, MAX_BATCH}

-- numbers at a place

abbrev pub short_at : ℕ → List ℕ → ℕ
short_at at text = from_le_bytes w16 (take 2 (drop at text))

abbrev pub number_at : ℕ → List ℕ → ℕ
number_at at text = from_le_bytes w32 (take 4 (drop at text))

abbrev pub long_at : ℕ → List ℕ → ℕ
long_at at text = from_le_bytes w64 (take 8 (drop at text))

-- a hello

abbrev pub hello_of : List ℕ → Hello
hello_of text = record {
  grid = take 32 (drop 4 text);
  member = get_or text 36 0;
  peer = get_or text 37 0;
  process = long_at 38 text;
  challenge = take 32 (drop 46 text);
}

abbrev pub hello_front : List ℕ → Front
hello_front text =
    if nat_lt (length text) HELLO_LENGTH then Partial
    else if number_at 0 text == MAGIC then Whole (Opens (hello_of text)) HELLO_LENGTH
    else Wrong NotALink

-- an answer

abbrev pub answer_front : List ℕ → Front
answer_front text = if nat_lt (length text) ANSWER_LENGTH then Partial else Whole (Answers (take ANSWER_LENGTH (drop 0 text))) ANSWER_LENGTH

-- a batch

-- how many bytes it carries, as it says
abbrev pub stated_length : List ℕ → ℕ
stated_length text = number_at 2 text

-- and as many bytes behind its header
abbrev pub batch_of : List ℕ → Batch
batch_of text = record { partition = short_at 0 text; bytes = take (stated_length text) (drop BATCH_HEADER text) }

abbrev pub whole_batch : List ℕ → Front
whole_batch text =
    let batch = batch_of text in
    if checksum batch.partition batch.bytes == number_at 6 text then Whole (Carries batch) (BATCH_HEADER + stated_length text) else Wrong Checksum

-- A partition that there is not and a length past the limit show at the header, whatever follows.
abbrev pub batch_front : List ℕ → Front
batch_front text =
    if nat_lt (length text) BATCH_HEADER then Partial
    else if nat_lt (short_at 0 text) PARTITIONS then
    (if nat_lt MAX_BATCH (stated_length text) then Wrong TooLong
    else if nat_lt (length text) (BATCH_HEADER + stated_length text) then Partial
    else whole_batch text)
    else Wrong NoPartition

-- a stream

-- what a text begins with where that is the next part
abbrev pub front : Stage → List ℕ → Front
front stage.Hello text = hello_front text
front stage.Answer text = answer_front text
front stage.Batch text = batch_front text

-- a hello first, an answer then, and batches from then on
abbrev pub next_stage : Stage → Stage
next_stage stage.Hello = stage.Answer
next_stage stage.Answer = stage.Batch
next_stage stage.Batch = stage.Batch

-- what is read of a text: its whole parts, the fault, what part is the next, and the bytes after the last whole part
pub record Reading : Type 0 where
  pub parts : List LinkPart
  pub fault : Option LinkFault
  pub stage : Stage
  pub rest : List ℕ

abbrev pub ended : Option LinkFault → Stage → List ℕ → Reading
ended fault stage text = record { parts = []; fault = fault; stage = stage; rest = text }

abbrev pub with_part : LinkPart → Reading → Reading
with_part part r = record r { parts = part ∷ r.parts }

-- one step of a reading, by what the text begins with
abbrev pub read_by : Front → Stage → List ℕ → (Stage → List ℕ → Reading) → Reading
read_by Partial stage text next = ended None stage text
read_by (Wrong why) stage text next = ended (Some why) stage text
read_by (Whole part n) stage text next = with_part part (next (next_stage stage) (drop n text))

-- The first number bounds how many parts are looked for. A text has no more than bytes.
abbrev pub reading_within : ℕ → Stage → List ℕ → Reading
reading_within zero stage text = ended None stage text
reading_within (suc bound) stage text = read_by (front stage text) stage text (reading_within bound)

-- the reading of a text whose first part is that of a stage
unfoldable pub reading : Stage → List ℕ → Reading
reading stage text = reading_within (length text) stage text
