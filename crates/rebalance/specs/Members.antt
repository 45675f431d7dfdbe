-- Members are the numbers below a bound. Some of them were detected as crashed.
use Rattle.std.specs.Prelude.{◌≡◌, ℕ, zero, suc, ◌+◌, ◌<◌, Bool, true, false, not, ◌==◌, List, Option, Some, None, count_by, slice_get, if◌then◌else◌}
use Rattle.partition_table.specs.Rows.{is_among}

-- the sum over the numbers below n
abbrev pub total : (ℕ → ℕ) → ℕ → ℕ
total f zero = 0
total f (suc n) = total f n + f n

-- how many of the numbers below n pass
abbrev pub how_many : (ℕ → Bool) → ℕ → ℕ
how_many p n = total (λ m. if p m then 1 else 0) n

abbrev pub is_undetected : List ℕ → ℕ → Bool
is_undetected detected member = not (is_among detected member)

-- a member that isn't detected
pub record IsUndetected (detected : List ℕ) (members member : ℕ) : Type 0 where
  pub in_range : member < members
  pub not_detected : is_undetected detected member ≡ true

abbrev pub undetected_count : List ℕ → ℕ → ℕ
undetected_count detected members = how_many (is_undetected detected) members

abbrev pub is_for : ℕ → Option ℕ → Bool
is_for member None = false
is_for member (Some primary) = primary == member

-- how many partitions have that member as their primary
abbrev pub load_of : List (Option ℕ) → ℕ → ℕ
load_of primaries member = count_by (is_for member) primaries

-- each primary is an undetected member
abbrev pub AreUndetected : List ℕ → ℕ → List (Option ℕ) → Type 0
AreUndetected detected members primaries = (p m : ℕ) → slice_get primaries p ≡ Some (Some m) → IsUndetected detected members m
