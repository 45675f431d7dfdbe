-- What the code that reads a script has done: it has run the lines that are whole in the bytes so far.
use Rattle.std.specs.Prelude.{◌≡◌, ◌≢◌, ℕ, ◌-◌, ◌≤◌, ◌⊎◌, Bool, Option, List, [], ◌∷◌, ◌++◌, length, take}
use Rattle.grid_base.specs.declared.names.CallId.{CallId}
use Rattle.partition_protocol.specs.Sequences.{IsFrontOf}
use Rattle.entry_processors.specs.Processors.{ProcessorForm}
use Rattle.replay_run.specs.Grids.{FormOf}
use Rattle.script_lang.specs.Limits.{most_bytes, most_lines}
use Rattle.script_lang.specs.Words.{whole_lines, unfinished, newline, pieces_at}
use Rattle.grid_cli.specs.Scripts.{cut_pieces, behind}
use Rattle.grid_cli.specs.Statuses.{Writes}
use Rattle.grid_cli.specs.Transcribing.{Follows, HasRoomFor}
use Rattle.grid_cli.specs.declared.replay.Replay.{Replay}
use Rattle.grid_cli.specs.declared.status.Status.{Status}
use Rattle.grid_cli.specs.declared.status.Status.TheVariants.{Usage, ReadFault, DoorFault}

-- None of these bytes is past the limit of lines, or of a line: whatever follows them, the script's lines begin with those that are whole in them.
pub record IsWithin (read : List ℕ) : Type 0 where
  pub goes_on : (past : Bool) (rest : List ℕ)
      → cut_pieces past most_lines (pieces_at newline (read ++ rest)) ≡ behind (whole_lines read) (cut_pieces past (most_lines - length (whole_lines read)) (pieces_at newline (unfinished read ++ rest)))
  pub few : length (whole_lines read) ≤ most_lines
  pub room : (unfinished read ≡ []) ⊎ HasRoomFor (whole_lines read) (unfinished read)

-- These bytes were read and this was written: the text of the lines that are whole in them.
pub record HasRead {V : Type 0} {T : V → Type 0} (form : FormOf V T) (forms : List ProcessorForm) (replay : Replay V T) (skips : List CallId) (read : List ℕ) (written : List ℕ) : Type 0 where
  pub follows : Follows form forms replay.transcriber.stage skips (whole_lines read) written
  pub rest : replay.unfinished.items ≡ unfinished read
  pub within : IsWithin read

-- The run stopped with this status within these bytes, whatever the script has behind them, and whatever came with them.
pub record StopsWithin (forms : List ProcessorForm) (status : Status) (skips : List CallId) (read written : List ℕ) : Type 0 where
  pub writes : (script came : List ℕ) → IsFrontOf read (take most_bytes script) → Writes forms status skips script came written
  pub runs : status ≢ Usage
  pub doorless : status ≢ DoorFault
  pub reads : status ≢ ReadFault

-- From what was read and written these bytes lead there, whatever it was: some calls more may have found no memory, and the sink took what was added to the text.
abbrev pub LeadsTo : {V : Type 0} {T : V → Type 0} → FormOf V T → (List ProcessorForm → List CallId → List ℕ → List ℕ → Type 0) → Replay V T → List ℕ → List ℕ → List ℕ → Type 0
LeadsTo form There before bytes had has = (forms : List ProcessorForm) (skips : List CallId) (read written : List ℕ) → HasRead form forms before skips read written
    → (more : List CallId) × (added : List ℕ) × There forms (more ++ skips) (read ++ bytes) (written ++ added) × (has ≡ had ++ added)

-- The bytes were taken,
abbrev pub Takes : {V : Type 0} {T : V → Type 0} → FormOf V T → Replay V T → Replay V T → List ℕ → List ℕ → List ℕ → Type 0
Takes form before after bytes had has = LeadsTo form (λ forms. HasRead form forms after) before bytes had has

-- or the run stopped within them.
abbrev pub StopsIn : {V : Type 0} {T : V → Type 0} → FormOf V T → Replay V T → Status → List ℕ → List ℕ → List ℕ → Type 0
StopsIn form before status bytes had has = LeadsTo form (λ forms. StopsWithin forms status) before bytes had has

-- what stands after the last newline is a line if it has a byte
abbrev pub last_line : List ℕ → List (List ℕ)
last_line [] = []
last_line (byte ∷ bytes) = (byte ∷ bytes) ∷ []

-- the bytes of a line with its newline
abbrev pub ended_line : List ℕ → List ℕ
ended_line end = end ++ newline ∷ []
