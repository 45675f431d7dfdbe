-- How large a script may be.
use Rattle.std.specs.Prelude.{ℕ}

abbrev pub most_bytes : ℕ
most_bytes = 16777216

abbrev pub most_lines : ℕ
most_lines = 200000

-- its newline not counted
abbrev pub most_line_bytes : ℕ
most_line_bytes = 65536
