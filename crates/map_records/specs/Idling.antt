-- How long a value may lie unused, in milliseconds.
use Rattle.std.specs.Prelude.{ℕ, ◌+◌, ◌-◌, ◌^◌, Bool, false, ◌==◌, min, ℤ, pos, negsuc, Option, Some, None, if◌then◌else◌}
use Rattle.std.specs.Option.{option_map}
use Rattle.key_locks.specs.Ends.{has_ended}
use Rattle.map_records.specs.declared.records.Idle.{Idle}

-- The end is now plus the span, and at most the last moment that there is.
abbrev pub idle_from : ℕ → ℕ → Idle
idle_from now span = record { span = span; end = min (now + span) (2 ^ 64 - 1) }

-- A max idle of 0 or less is none.
abbrev pub idle_of : ℕ → ℤ → Option Idle
idle_of now (negsuc n) = None
idle_of now (pos span) = if span == 0 then None else Some (idle_from now span)

abbrev pub has_idled : Option Idle → ℕ → Bool
has_idled None now = false
has_idled (Some idle) now = has_ended (Some idle.end) now

-- A use begins the span anew.
abbrev pub used : Option Idle → ℕ → Option Idle
used idle now = option_map (λ kept. idle_from now kept.span) idle
