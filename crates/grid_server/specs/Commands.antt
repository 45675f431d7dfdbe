-- The program's commands, and what each comes to.
use Rattle.std.specs.Prelude.{◌≡◌, ◌≢◌, ◌↔◌, ◌⊎◌, ℕ, Bool, false, if◌then◌else◌, List, [], ◌∷◌, Option, None, IfSome, IfNone, codes, string_bytes}
use Rattle.entry_processors.specs.declared.form.Form.{Form}
use Rattle.entry_processors.specs.Processors.{ProcessorForm}
use Rattle.script_lang.specs.Words.{are_same, number_within}
use Rattle.grid_cli.specs.Commands.{is_replay}
use Rattle.grid_cli.specs.Statuses.{ReadsAndWrites}
use Rattle.grid_cli.specs.declared.status.Status.{Status}
use Rattle.grid_cli.specs.declared.status.Status.TheVariants.{Usage, ReadFault, WriteFault, DoorFault, Memory}
use Rattle.grid_edge.specs.Doors.{Book}
use Rattle.grid_edge.specs.Faults.{Rose}
use Rattle.live_grid.specs.declared.grid.GridPass.{GridPass}
use Rattle.live_grid.specs.declared.grid.LiveGrid.{LiveGrid}
use Rattle.live_grid.specs.Grids.{place_of}
use Rattle.live_grid.specs.Histories.{live_key, live_call}
use Rattle.live_grid.specs.Outcomes.{LiveTells}
use Rattle.loop_journal.specs.declared.entry.Entry.{Entry}
use Rattle.live_server.specs.Times.{AnswersStandFirst}
use Rattle.served_history_laws.specs.Histories.{TellsHistories}
use Rattle.serve_options.specs.declared.options.ServeOptions.{ServeOptions}
use Rattle.serve_options.specs.Options.{Words, AreOptions, faults}
use Rattle.grid_sample.specs.Samples.{HasSampled}
use Rattle.grid_server.specs.declared.ended.Ended.{Ended}
use Rattle.grid_server.specs.Serving.{Operator, AtDoors, HasServed}

-- The first of the words after the program's name is `serve`.
abbrev pub is_serve : Words → Bool
is_serve [] = false
is_serve (word ∷ words) = are_same (string_bytes word) (codes "serve")

-- The words are `sample` and a number, which is this one.
abbrev pub sample_of : Words → Option ℕ
sample_of [] = None
sample_of (command ∷ []) = None
sample_of (command ∷ word ∷ []) = if are_same (string_bytes command) (codes "sample") then number_within 0 4294967295 (string_bytes word) else None
sample_of (command ∷ word ∷ other ∷ words) = None

-- What a command other than `serve` and `sample` comes to
pub record HasReplayedBy (words : Words) (forms : List ProcessorForm) (status : Status) (before after : Operator) : Type 0 where
  -- the words are no command exactly then, and nothing was read or written
  pub usage : (status ≡ Usage) ↔ (is_replay words ≡ false)
  pub untouched : status ≡ Usage → after ≡ before
  pub doorless : status ≢ DoorFault
  -- a fault is told only where the source or the sink had one
  pub read_fault : status ≡ ReadFault → Rose before.script.faults after.script.faults
  pub write_fault : status ≡ WriteFault → Rose before.out.faults after.out.faults
  -- what was written is the transcript of the script that was read, or as much of it as the status says
  pub text : ReadsAndWrites forms status before.script.given after.script.given before.out.bytes after.out.bytes

-- no connection has come through the doors since: they tell of none, or they are as they were
abbrev pub NoneCame : (outside closed : AtDoors) → Type 0
NoneCame outside closed = (closed.book.arrivals ≡ []) ⊎ (closed.book ≡ outside.book)

-- Why no grid was made
abbrev pub IsNoGridFor : Status → Words → (outside closed : AtDoors) → Type 0
IsNoGridFor Usage words outside closed = faults words ≢ []
IsNoGridFor DoorFault words outside closed = Rose outside.faults closed.faults
IsNoGridFor Memory words outside closed = Unit {0}
IsNoGridFor _ words outside closed = ⊥

-- Why no server begins at the doors: there was no room for its threads, and nobody touched the doors, or the doors had a fault
abbrev pub IsShut : Status → (outside closed : AtDoors) → Type 0
IsShut Memory outside closed = closed ≡ outside
IsShut DoorFault outside closed = Rose outside.faults closed.faults
IsShut _ outside closed = ⊥

-- No grid serves: the words are no options, or the doors had a fault when they were opened, or there was no memory. No script was read, and no client served
pub record IsNotBegun (words : Words) (status : Status) (before after : Operator) (outside closed : AtDoors) : Type 0 where
  pub untouched : after ≡ before
  pub none_came : NoneCame outside closed
  pub cause : IsNoGridFor status words outside closed

module _ {D : Type 0} (empty_looks : D → ℕ) where
  -- A grid was made by the options that the words give, and has served to its end
  pub record HasServedFrom (words : Words) (forms : List Form) (given : List ℕ) (before after : Operator) (outside closed : AtDoors)
      (status : Status) (grid : LiveGrid) (pass : GridPass) (journal : List Entry) (closing : Option D) : Type 0 where
    pub options : ServeOptions
    pub read : AreOptions words options
    pub served : HasServed empty_looks options forms given before after outside closed status grid pass journal closing

  -- How a server has ended that was to be started by these words: it made a grid, or it has not begun
  pub record HasEnded (words : Words) (forms : List Form) (given : List ℕ) (before after : Operator) (outside closed : AtDoors) (ended : Ended D) : Type 0 where
    pub served : IfSome ended.grid (λ held. HasServedFrom words forms given before after outside closed ended.status held.0 held.1 ended.journal ended.closed)
    pub not_begun : IfNone ended.grid (IsNotBegun words ended.status before after outside closed)

-- The grid, if one is handed back with a pass, has served clients whose calls stand in the histories that the pass has seen. By this journal stands what was
-- read from them and written to them
abbrev pub ServesHistories : (given : List ℕ) → List Entry → Book → Option (LiveGrid × GridPass) → Type 0
ServesHistories given journal book grid = IfSome grid (λ held. TellsHistories (place_of held.0) given journal held.1.passes.items book)

-- Of two calls of one partition, made by any clients of the grid, if one is handed back with a pass: where some byte of the answer to the one was written
-- before the last byte of the other was read, by this journal, its event stands first in what the pass has seen
abbrev pub ServesInOrder : (given : List ℕ) → List Entry → Book → Option (LiveGrid × GridPass) → Type 0
ServesInOrder given journal book grid = IfSome grid (λ held. AnswersStandFirst live_key LiveTells live_call (place_of held.0) given journal held.1.passes.items book)

-- What a sample of this number comes to: no script is read, and no door is opened
pub record HasSampledBy {D : Type 0} (number : ℕ) (forms : List Form) (before after : Operator) (outside closed : AtDoors) (ended : Ended D) : Type 0 where
  pub unread : after.script ≡ before.script
  pub unopened : closed ≡ outside
  pub sampled : HasSampled number forms ended.status ended.grid before.out.bytes after.out.bytes before.out.faults after.out.faults
