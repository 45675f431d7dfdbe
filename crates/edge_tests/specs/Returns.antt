-- Which connections were given back.
use Rattle.std.specs.Prelude.{ℕ, ◌<◌, List, All}
use Rattle.grid_edge.specs.Doors.{Return}

-- each of these has a number below this one
abbrev pub AreBelow : List Return → ℕ → Type 0
AreBelow returns number = All (λ given. given.number < number) returns
