-- The bytes so far are masked.
use Rattle.std.proofs.Common.{◌≡◌, ℕ, ◌<◌, length, get_or, bit_xor}
use Rattle.link_frames.proofs.answers.masked.Given as goal

abbrev pub invariant-loop-at : goal.invariant-loop-at
invariant-loop-at l =
    (length l.masked ≡ 64) × (length l.key ≡ 64) × ((k : ℕ) → k < l.at → get_or l.masked k 0 ≡ bit_xor (get_or l.key k 0) l.mask)
