-- What a recorder keeps, in the protocol's words.
use Rattle.std.specs.Prelude.{◌≡◌, ℕ, ◌+◌, ◌<◌, nat_lt, if◌then◌else◌, List, [], ◌∷◌, ◌++◌, map, length, reverse, Option, Some, None, vec_len, vec_capacity}
use Rattle.partition_table.specs.declared.Row.{Row}
use Rattle.partition_table.specs.Rows.{first_of}
use Rattle.partition_protocol.specs.Node.{Pair, no_pair}
use Rattle.partition_protocol.specs.History.{Entry, Reset, Base, Opening, opening_at, history}
use Rattle.partition_protocol.specs.Recorded.{Recorded}
use Rattle.partition_world.specs.declared.recorder.Recorder.{Recorder}
use Rattle.partition_world.specs.declared.standing_row.StandingRow.{StandingRow}
use Rattle.partition_world.specs.Places.{at_places, AreBelow}
use Rattle.partition_world.specs.RecordedEntries.{entry_of}
use Rattle.partition_world.specs.Openings.{opening_of}

-- what is recorded where nothing has happened since this row, the first one of the partition
abbrev pub first_record : {C : Type 0} → Row → Recorded C
first_record row = record { standing = row; log = []; bases = record { version = 1; reset = 0; pair = no_pair } ∷ []; openings = [] }

-- The history by which the partition stands, where its first member has that pair: until it has adopted a row with the standing reset, the history at the reopening
abbrev pub trail_by : {C : Type 0} → Recorded C → Option Pair → List (Entry C)
trail_by r None = []
trail_by r (Some p) = if nat_lt p.version r.standing.reset then opening_at r.standing.reset r.openings else history r.openings r.log r.bases p

-- what is recorded once the partition was reopened by the row of that version: the reset, with the history so far
abbrev pub with_reopening : {C : Type 0} → ℕ → Option Pair → Recorded C → Recorded C
with_reopening version leader r = record r {
  log = r.log ++ Reset version ∷ [];
  openings = record { reset = version; entries = trail_by r leader ++ Reset version ∷ [] } ∷ r.openings;
}

-- What is kept of a row by which the partition stands
pub record IsStandingBy (standing : StandingRow) (row : Row) : Type 0 where
  pub first : standing.first ≡ first_of row.members
  pub reset : standing.reset ≡ row.reset

-- nothing else is kept
abbrev pub KeepsStanding : {C : Type 0} → StandingRow → Recorded C → Type 0
KeepsStanding standing r = IsStandingBy standing r.standing

abbrev pub log_of : {C : Type 0} → Recorder C → List (Entry C)
log_of recorder = map entry_of recorder.log.items

-- the newest first
abbrev pub bases_of : {C : Type 0} → Recorder C → List Base
bases_of recorder = reverse recorder.bases.items

-- the newest first
abbrev pub openings_of : {C : Type 0} → Recorder C → List (Opening C)
openings_of recorder = map (opening_of (log_of recorder)) (reverse recorder.openings.items)

-- The recorder keeps all, and of the standing row no more than its first member and its reset
pub record KeepsAll {C : Type 0} (recorder : Recorder C) (r : Recorded C) : Type 0 where
  pub log : log_of recorder ≡ r.log
  pub bases : bases_of recorder ≡ r.bases
  pub openings : openings_of recorder ≡ r.openings
  pub standing : IsStandingBy recorder.standing r.standing

-- one entry more takes no memory
abbrev pub HasEntryRoom : {C : Type 0} → Recorder C → Type 0
HasEntryRoom recorder = vec_len recorder.log < vec_capacity recorder.log

-- one base more takes no memory
abbrev pub HasBaseRoom : {C : Type 0} → Recorder C → Type 0
HasBaseRoom recorder = vec_len recorder.bases < vec_capacity recorder.bases

abbrev pub HasRoom : {C : Type 0} → Recorder C → Type 0
HasRoom recorder = HasEntryRoom recorder × HasBaseRoom recorder

-- These places are those of a reopening, its reset last, where the contents of the standing row's first member have that pair; and the reopening takes no memory
pub record IsReopening {C : Type 0} (recorder : Recorder C) (places : List ℕ) (leader : Option Pair) : Type 0 where
  pub entry_room : HasEntryRoom recorder
  pub opening_room : vec_len recorder.openings < vec_capacity recorder.openings
  pub within : AreBelow (length recorder.log.items + 1) places
  pub told : (r : Recorded C) → KeepsAll recorder r → (version : ℕ) → at_places (r.log ++ Reset version ∷ []) places ≡ trail_by r leader ++ Reset version ∷ []
