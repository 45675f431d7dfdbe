-- Murmur3, its form for 32 bits on x86: a hash of bytes and a seed. Products and sums are taken modulo 2^32.
use Rattle.std.specs.Prelude.{ℕ, ◌+◌, ◌*◌, ◌/◌, ◌%◌, ◌^◌, List, [], ◌∷◌, length, bit_xor}
use Rattle.std.specs.Int.{w32, rotate_left}

-- the number that bytes spell, the lowest first
abbrev pub number_of : List ℕ → ℕ
number_of [] = 0
number_of (byte ∷ bytes) = byte + 256 * number_of bytes

-- how a block's number is mixed before it goes in
abbrev pub mixed : ℕ → ℕ
mixed block = rotate_left w32 (block * 0xcc9e2d51 % 2 ^ 32) 15 * 0x1b873593 % 2 ^ 32

-- the hash with one more block in it
abbrev pub with_block : ℕ → ℕ → ℕ
with_block hash block = (rotate_left w32 (bit_xor hash (mixed block)) 13 * 5 + 0xe6546b64) % 2 ^ 32

-- the hash with the one to three bytes in it that are left behind the last block
abbrev pub with_tail : ℕ → ℕ → ℕ
with_tail hash tail = bit_xor hash (mixed tail)

-- Bytes go in four at a time from the front, and those that are left last.
abbrev pub with_bytes : ℕ → List ℕ → ℕ
with_bytes hash [] = hash
with_bytes hash (a ∷ b ∷ c ∷ d ∷ bytes) = with_bytes (with_block hash (number_of (a ∷ b ∷ c ∷ d ∷ []))) bytes
with_bytes hash tail = with_tail hash (number_of tail)

-- the hash xor itself, shifted right
abbrev pub folded : ℕ → ℕ → ℕ
folded shift hash = bit_xor hash (hash / 2 ^ shift)

-- At last the length goes in, and all bits are mixed.
abbrev pub finished : ℕ → ℕ → ℕ
finished hash len =
    let first = folded 16 (bit_xor hash (len % 2 ^ 32)) in
    let second = folded 13 (first * 0x85ebca6b % 2 ^ 32) in
    folded 16 (second * 0xc2b2ae35 % 2 ^ 32)

abbrev pub murmur3_of : List ℕ → ℕ → ℕ
murmur3_of bytes seed = finished (with_bytes seed bytes) (length bytes)
