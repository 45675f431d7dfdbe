-- When something ends, in milliseconds: a value, a lease.
use Rattle.std.specs.Prelude.{ℕ, ◌+◌, ◌^◌, Bool, false, nat_le, ◌==◌, ◌||◌, ℤ, pos, negsuc, Option, Some, None, if◌then◌else◌}

-- A span of 0 or less never ends. A longer one ends at now plus it, and never where that passes what a moment can be.
abbrev pub end_of : ℕ → ℤ → Option ℕ
end_of now (negsuc n) = None
end_of now (pos span) = if (span == 0) || nat_le (2 ^ 64) (now + span) then None else Some (now + span)

-- What has an end has ended from that moment on.
abbrev pub has_ended : Option ℕ → ℕ → Bool
has_ended None now = false
has_ended (Some end) now = nat_le end now
