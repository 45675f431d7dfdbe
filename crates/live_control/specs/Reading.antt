-- What came of a script, as lines.
use Rattle.std.specs.Prelude.{◌≡◌, ◌⊎◌, ℕ, ◌≤◌, ◌<◌, Bool, true, false, List, [], ◌∷◌, ◌++◌, length, take, drop, Option, Some, None, Result, Ok, Err, vec_len, nat_lt}
use Rattle.partition_protocol.specs.Sequences.{IsFrontOf}
use Rattle.script_lang.specs.Limits.{most_bytes, most_lines}
use Rattle.script_lang.specs.Words.{whole_lines, unfinished}
use Rattle.grid_cli.specs.ReadScripts.{MayFollow}
use Rattle.grid_cli.specs.Replays.{IsWithin}
use Rattle.grid_cli.specs.Scripts.{cut, lines_of, limit_in}
use Rattle.grid_cli.specs.Statuses.{most_piece}
use Rattle.grid_cli.specs.Transcribing.{HasRoomFor}
use Rattle.grid_cli.specs.declared.status.LimitWhat.{LimitWhat}
use Rattle.grid_edge.specs.Given.{Given}
use Rattle.grid_edge.specs.declared.source.ReadFault.{ReadFault}
use Rattle.live_control.specs.declared.lines.Came.{Came}
use Rattle.live_control.specs.declared.lines.Came.TheVariants.{Line, Nothing, Limit, Fault, NoMemory}
use Rattle.live_control.specs.declared.lines.LineReader.{LineReader}

-- the bytes of the piece that weren't looked at yet
abbrev pub ahead : LineReader → List ℕ
ahead reader = drop reader.from (take reader.to reader.piece.items)

-- the lines begin those of each script that begins with what came of the source, and may go on so
abbrev pub AreFirst : List (List ℕ) → Given → List ℕ → Type 0
AreFirst lines source came = (rest : List ℕ) → MayFollow source rest → IsFrontOf lines (lines_of (came ++ rest))

-- Behind what came the script may go on. These lines are whole in what was looked at, behind which this is left
pub record IsAmid (reader : LineReader) (came : List ℕ) (given : List (List ℕ)) (rest : List ℕ) : Type 0 where
  pub looked : List ℕ
  pub whole : take most_bytes came ≡ looked ++ ahead reader
  pub within : IsWithin looked
  pub lines : whole_lines looked ≡ given
  pub left : unfinished looked ≡ rest
  pub bytes : reader.bytes ≡ length (take most_bytes came)
  pub over : reader.is_over ≡ nat_lt most_bytes (length came)

-- a script that is these bytes has these lines, and no byte past a limit
abbrev pub AreLinesOf : List (List ℕ) → List ℕ → Type 0
AreLinesOf lines script = cut script ≡ record { lines = lines; limit = None }

-- the script has ended with what came, or may go on
abbrev pub IsAt : Bool → LineReader → Given → List ℕ → List (List ℕ) → List ℕ → Type 0
IsAt true reader source came given rest = AreLinesOf given came × (source.ended ≡ true)
IsAt false reader source came given rest = IsAmid reader came given rest

-- These bytes came last of what the source gave. These lines were given of them, and this came of the next one
pub record HasCome (reader : LineReader) (source : Given) (came : List ℕ) (given : List (List ℕ)) (rest : List ℕ) : Type 0 where
  pub size : vec_len reader.piece ≡ most_piece
  pub placed : reader.from ≤ reader.to
  pub inside : reader.to ≤ most_piece
  pub few : reader.bytes ≤ most_bytes
  pub count : reader.lines ≡ length given
  pub at : IsAt reader.has_ended reader source came given rest

-- what else a reader is stays, but for its line and the place in its piece
pub record IsSameBut (old new : LineReader) : Type 0 where
  pub piece : new.piece ≡ old.piece
  pub to : new.to ≡ old.to
  pub lines : new.lines ≡ old.lines
  pub bytes : new.bytes ≡ old.bytes
  pub over : new.is_over ≡ old.is_over
  pub ended : new.has_ended ≡ old.has_ended

-- the bytes ahead up to a place of the piece
abbrev pub up_to : LineReader → ℕ → List ℕ
up_to reader end = drop reader.from (take end reader.piece.items)

-- The line has these bytes more
pub record HasLonger (old new : LineReader) (end : ℕ) : Type 0 where
  pub line : new.line.items ≡ old.line.items ++ up_to old end
  pub from : new.from ≡ end
  pub room : limit_in old.lines (old.line.items ++ up_to old end) ≡ None

-- The bytes were kept, or go past a limit, or there is no memory for them
abbrev pub IsKept : LineReader → LineReader → ℕ → Result (Unit {0}) Came → Type 0
IsKept old new end (Ok done) = HasLonger old new end
IsKept old new end (Err (Limit what)) = limit_in old.lines (old.line.items ++ up_to old end) ≡ Some what
IsKept old new end (Err NoMemory) = Unit {0}
IsKept old new end (Err _) = ⊥

pub record HasKept (old new : LineReader) (end : ℕ) (result : Result (Unit {0}) Came) : Type 0 where
  pub same : IsSameBut old new
  pub kept : IsKept old new end result

-- These lines stand before a byte past a limit, whatever follows, and were counted
pub record IsPast (what : LimitWhat) (reader : LineReader) (came : List ℕ) (given : List (List ℕ)) : Type 0 where
  pub count : reader.lines ≡ length given
  pub few : length given ≤ most_lines
  pub past : (rest : List ℕ) → cut (came ++ rest) ≡ record { lines = given; limit = Some what }

-- The script has ended behind these lines, which were counted
pub record IsOver (reader : LineReader) (source : Given) (came : List ℕ) (given : List (List ℕ)) : Type 0 where
  pub count : reader.lines ≡ length given
  pub all : AreLinesOf given came
  pub at_end : source.ended ≡ true

-- What a look at the piece found: the next line, or that no newline is in it, or why there is no line
abbrev pub HasLooked : Result Bool Came → LineReader → Given → List ℕ → List (List ℕ) → Type 0
HasLooked (Ok true) reader source came given = HasCome reader source came (given ++ reader.line.items ∷ []) [] × HasRoomFor given reader.line.items
HasLooked (Ok false) reader source came given = HasCome reader source came given reader.line.items × (reader.from ≡ reader.to)
HasLooked (Err (Limit what)) reader source came given = IsPast what reader came given
HasLooked (Err NoMemory) reader source came given = AreFirst given source came
HasLooked (Err _) reader source came given = ⊥

-- more came of a source, which led there
abbrev pub LeadsTo : Given → Given → (List ℕ → Type 0) → Type 0
LeadsTo before after There = (more : List ℕ) × (after.bytes ≡ before.bytes ++ more) × There more

-- A piece came, and less may come behind it
pub record HasComeOn (old new : LineReader) (source : Given) (came : List ℕ) (given : List (List ℕ)) : Type 0 where
  pub come : HasCome new source came given new.line.items
  pub going : new.has_ended ≡ false
  pub less : (old.bytes < new.bytes) ⊎ ((new.bytes ≡ old.bytes) × (new.is_over ≡ true))

-- The source has ended, and nothing more came
pub record HasNoMore (new : LineReader) (before after : Given) (came : List ℕ) (given : List (List ℕ)) : Type 0 where
  pub kept : after.bytes ≡ before.bytes
  pub at_end : after.ended ≡ true
  pub come : HasCome new after came given new.line.items
  pub going : new.has_ended ≡ false
  pub spent : new.from ≡ new.to
  pub within : new.is_over ≡ false

-- What was read behind what came: more, or nothing, as the source has ended, or nothing for a fault
abbrev pub HasRead : Result Bool ReadFault → LineReader → LineReader → Given → Given → List ℕ → List (List ℕ) → Type 0
HasRead (Ok true) old new before after came given = LeadsTo before after (λ more. HasComeOn old new after (came ++ more) given)
HasRead (Ok false) old new before after came given = HasNoMore new before after came given
HasRead (Err fault) old new before after came given = (after ≡ before) × (whole_lines came ≡ given) × AreFirst given after came

-- What came next: a line more, or why there is none
abbrev pub ComesNext : Came → LineReader → Given → List ℕ → List (List ℕ) → Type 0
ComesNext Line reader source came given = HasCome reader source came (given ++ reader.line.items ∷ []) [] × HasRoomFor given reader.line.items
ComesNext Nothing reader source came given = IsOver reader source came given
ComesNext (Limit what) reader source came given = IsPast what reader came given
ComesNext Fault reader source came given = (whole_lines came ≡ given) × AreFirst given source came
ComesNext NoMemory reader source came given = AreFirst given source came
