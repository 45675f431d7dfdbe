-- The lines of a script, and where it goes past a limit.
use Rattle.std.specs.Prelude.{ℕ, ◌-◌, ◌==◌, Bool, if◌then◌else◌, List, [], ◌∷◌, ◌++◌, length, take, Option, Some, None, nat_lt}
use Rattle.script_lang.specs.Limits.{most_bytes, most_lines, most_line_bytes}
use Rattle.script_lang.specs.Words.{newline, pieces_at}
use Rattle.grid_cli.specs.declared.status.LimitWhat.{LimitWhat}
use Rattle.grid_cli.specs.declared.status.LimitWhat.TheVariants.{Bytes, Lines, Line}

-- The lines up to the first byte past a limit, which is a byte of the line after them; or all lines, where there is none.
pub record Cut : Type 0 where
  pub lines : List (List ℕ)
  pub limit : Option LimitWhat

abbrev pub stops : LimitWhat → Cut
stops what = record { lines = []; limit = Some what }

abbrev pub onto : List ℕ → Cut → Cut
onto line cut = record { lines = line ∷ cut.lines; limit = cut.limit }

-- Lines before those of a cut.
abbrev pub behind : List (List ℕ) → Cut → Cut
behind lines cut = record { lines = lines ++ cut.lines; limit = cut.limit }

-- A line is cut off where it is past the limit of lines, where a newline is past it as any other byte is, or where it has too many bytes itself.
abbrev pub within : ℕ → List ℕ → Cut → Cut
within left line rest = if left == 0 then stops Lines else if nat_lt most_line_bytes (length line) then stops Line else rest

-- What stands after the last newline is a line if it has a byte. Behind it the script may go past the limit of bytes, and then it isn't whole.
abbrev pub last_cut : Bool → ℕ → List ℕ → Cut
last_cut past left [] = if past then stops Bytes else record { lines = []; limit = None }
last_cut past left (byte ∷ bytes) = within left (byte ∷ bytes) (if past then stops Bytes else record { lines = (byte ∷ bytes) ∷ []; limit = None })

-- the pieces between newlines, where so many lines are left
abbrev pub cut_pieces : Bool → ℕ → List (List ℕ) → Cut
cut_pieces past left [] = last_cut past left []
cut_pieces past left (piece ∷ []) = last_cut past left piece
cut_pieces past left (piece ∷ next ∷ pieces) = within left piece (onto piece (cut_pieces past (left - 1) (next ∷ pieces)))

-- A newline ends a line, or the end of the script does. No more bytes are looked at than a script may have.
abbrev pub cut : List ℕ → Cut
cut script = cut_pieces (nat_lt most_bytes (length script)) most_lines (pieces_at newline (take most_bytes script))

abbrev pub lines_of : List ℕ → List (List ℕ)
lines_of script = (cut script).lines

abbrev pub limit_of : List ℕ → Option LimitWhat
limit_of script = (cut script).limit

-- The limit that the next line of a script goes past when this much of it has come, which is a byte or its newline at least.
abbrev pub limit_in : ℕ → List ℕ → Option LimitWhat
limit_in lines line = if lines == most_lines then Some Lines else if nat_lt most_line_bytes (length line) then Some Line else None
