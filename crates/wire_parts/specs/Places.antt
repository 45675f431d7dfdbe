-- A place in bytes that are read from left to right.
use Rattle.std.specs.Prelude.{ℕ, ◌+◌, List, drop}

-- how many bytes came before, and the bytes from there on
pub record Place : Type 0 where
  pub at : ℕ
  pub rest : List ℕ

-- the place before the first byte
abbrev pub start : List ℕ → Place
start bytes = record { at = 0; rest = bytes }

-- that many bytes further on
abbrev pub skipped : ℕ → Place → Place
skipped n p = record { at = p.at + n; rest = drop n p.rest }
