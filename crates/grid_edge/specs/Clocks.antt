-- What contracts see of a clock that stands still.
use Rattle.std.specs.Prelude.{ℕ, List, []}

-- its moment, and the moments that it gave
pub record Standing : Type 0 where
  pub now : ℕ
  pub given : List ℕ

-- before it was asked
abbrev pub standing_at : ℕ → Standing
standing_at now = record { now = now; given = [] }
