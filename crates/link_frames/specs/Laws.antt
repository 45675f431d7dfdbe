-- What holds of what goes over a link, as it is written and read.
use Rattle.std.specs.Prelude.{◌≡◌, ℕ, ◌^◌, ◌<◌, ◌≤◌, List, [], ◌∷◌, ◌++◌, length, All, Option, Some, None}
use Rattle.std.specs.List.{flat_map}
use Rattle.grid_base.specs.declared.TheConstants.{PARTITIONS}
use Rattle.link_frames.specs.Answers.{question}
use Rattle.link_frames.specs.Spelling.{part_bytes}
use Rattle.link_frames.specs.Reading.{Reading, front, next_stage, reading}
use Rattle.link_frames.specs.Feeding.{with_parts}
use Rattle.link_frames.specs.declared.answers.Role.{Role}
use Rattle.link_frames.specs.declared.fault.LinkFault.{LinkFault}
use Rattle.link_frames.specs.declared.fronts.Front.{Front}
use Rattle.link_frames.specs.declared.fronts.Front.TheVariants.{Partial, Whole, Wrong}
use Rattle.link_frames.specs.declared.parts.Batch.{Batch}
use Rattle.link_frames.specs.declared.parts.Hello.{Hello}
use Rattle.link_frames.specs.declared.parts.LinkPart.{LinkPart}
use Rattle.link_frames.specs.declared.parts.LinkPart.TheVariants.{Opens, Answers, Carries}
use Rattle.link_frames.specs.declared.parts.Stage.{Stage}
use Rattle.link_frames.specs.declared.parts.Stage.TheVariants as stage
use Rattle.link_frames.specs.declared.parts.TheConstants.{GRID_LENGTH, CHALLENGE_LENGTH, ANSWER_LENGTH, MAX_BATCH}

abbrev pub IsBytes : List ℕ → Type 0
IsBytes text = All (λ byte. byte < 256) text

-- limits

pub record IsHello (hello : Hello) : Type 0 where
  pub grid : length hello.grid ≡ GRID_LENGTH
  pub member : hello.member < 2 ^ 8
  pub peer : hello.peer < 2 ^ 8
  pub process : hello.process < 2 ^ 64
  pub challenge : length hello.challenge ≡ CHALLENGE_LENGTH

abbrev pub IsBatch : Batch → Type 0
IsBatch batch = (batch.partition < PARTITIONS) × (length batch.bytes ≤ MAX_BATCH)

abbrev pub IsPart : LinkPart → Type 0
IsPart (Opens hello) = IsHello hello
IsPart (Answers answer) = length answer ≡ ANSWER_LENGTH
IsPart (Carries batch) = IsBatch batch

-- which parts may follow one another, from a stage on, and the stage after them

abbrev pub stage_of : LinkPart → Stage
stage_of (Opens hello) = stage.Hello
stage_of (Answers answer) = stage.Answer
stage_of (Carries batch) = stage.Batch

abbrev pub AreInOrder : Stage → List LinkPart → Type 0
AreInOrder at [] = Unit {0}
AreInOrder at (part ∷ parts) = (stage_of part ≡ at) × AreInOrder (next_stage at) parts

abbrev pub stage_after : Stage → List LinkPart → Stage
stage_after at [] = at
stage_after at (part ∷ parts) = stage_after (next_stage at) parts

-- parts one after the other, as bytes
abbrev pub spelled : List LinkPart → List ℕ
spelled parts = flat_map part_bytes parts

-- the fault that a text shows that begins with no part, and there is none where it begins with one
abbrev pub shown : Front → Option LinkFault
shown Partial = None
shown (Wrong why) = Some why
shown (Whole part n) = None

abbrev pub IsWhole : Front → Type 0
IsWhole (Whole part n) = Unit {0}
IsWhole Partial = ⊥
IsWhole (Wrong why) = ⊥

-- Of parts in order and within the limits, and a rest that begins with none, exactly the parts are read.
abbrev pub written_parts_are_read : Type 0
written_parts_are_read =
    (at : Stage) (parts : List LinkPart) (rest : List ℕ) → All IsPart parts → AreInOrder at parts → (IsWhole (front (stage_after at parts) rest) → ⊥) →
    reading at (spelled parts ++ rest)
    ≡ record { parts = parts; fault = shown (front (stage_after at parts) rest); stage = stage_after at parts; rest = rest }

-- A text is the spellings of the parts that are read of it, which are in order and within the limits, and a rest.
pub record IsSpelledBy (at : Stage) (text : List ℕ) (r : Reading) : Type 0 where
  pub whole : text ≡ spelled r.parts ++ r.rest
  pub order : AreInOrder at r.parts
  pub stage : r.stage ≡ stage_after at r.parts
  pub limits : All IsPart r.parts
  pub fault : r.fault ≡ shown (front r.stage r.rest)
  pub rest_is_none : IsWhole (front r.stage r.rest) → ⊥

abbrev pub read_parts_are_spelled : Type 0
read_parts_are_spelled = (at : Stage) (text : List ℕ) → IsBytes text → IsSpelledBy at text (reading at text)

-- Without a fault the bytes after the last whole part are read on with those that follow.
abbrev pub reading_goes_on : Type 0
reading_goes_on =
    (at : Stage) (text more : List ℕ) → (reading at text).fault ≡ None →
    let r = reading at text in reading at (text ++ more) ≡ with_parts r.parts (reading r.stage (r.rest ++ more))

-- After a fault no more is read.
abbrev pub a_fault_ends_reading : Type 0
a_fault_ends_reading =
    (at : Stage) (text more : List ℕ) (fault : LinkFault) → (reading at text).fault ≡ Some fault →
    reading at (text ++ more) ≡ record (reading at text) { rest = (reading at text).rest ++ more }

-- What is asked of an end tells its role and both hellos.
abbrev pub questions_stay_apart : Type 0
questions_stay_apart =
    (r s : Role) (a b c d : Hello) → IsHello a → IsHello b → IsHello c → IsHello d →
    question r a b ≡ question s c d → (r ≡ s) × (a ≡ c) × (b ≡ d)
