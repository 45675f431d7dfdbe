-- One block more goes into the hash.
use Rattle.std.proofs.Common.{◌≡◌, ℕ, ◌+◌, ◌≤◌, List, [], ◌∷◌, length, take, drop, refl, ap, ◌∙◌, arith}
use Rattle.std.specs.Int.{w32, from_le_bytes}
use Rattle.murmur_partition.specs.Murmur.{with_block, with_bytes, number_of}

pub with_bytes-block : (hash : ℕ) (bytes block behind : List ℕ) (n : ℕ) → 4 ≤ length bytes → block ≡ take 4 bytes → behind ≡ drop 4 bytes → n ≡ from_le_bytes w32 block
    → with_bytes (with_block hash n) behind ≡ with_bytes hash bytes
with_bytes-block hash [] block behind n h _ _ _ = absurd (omega arith)
with_bytes-block hash (a ∷ []) block behind n h _ _ _ = absurd (omega arith)
with_bytes-block hash (a ∷ b ∷ []) block behind n h _ _ _ = absurd (omega arith)
with_bytes-block hash (a ∷ b ∷ c ∷ []) block behind n h _ _ _ = absurd (omega arith)
with_bytes-block hash (a ∷ b ∷ c ∷ d ∷ bytes) block behind n h block-is behind-is n-is =
    let spelled : from_le_bytes w32 (a ∷ b ∷ c ∷ d ∷ []) ≡ number_of (a ∷ b ∷ c ∷ d ∷ []) = omega arith in
    let number : n ≡ number_of (a ∷ b ∷ c ∷ d ∷ []) = n-is ∙ ap (from_le_bytes w32) block-is ∙ spelled in
    ap (λ (k : ℕ). with_bytes (with_block hash k) behind) number ∙ ap (with_bytes (with_block hash (number_of (a ∷ b ∷ c ∷ d ∷ [])))) behind-is
