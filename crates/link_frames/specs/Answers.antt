-- What an end of a link answers to the other's challenge: a code of both hellos under the secret, by HMAC over SHA-256.
use Rattle.std.specs.Prelude.{ℕ, ◌-◌, List, ◌∷◌, ◌++◌, length, map, replicate, bit_xor}
use Rattle.sha2.specs.Sha256.{sha256}
use Rattle.link_frames.specs.Spelling.{hello_bytes}
use Rattle.link_frames.specs.declared.answers.Role.{Role}
use Rattle.link_frames.specs.declared.answers.Role.TheVariants.{Calls, IsCalled}
use Rattle.link_frames.specs.declared.parts.Hello.{Hello}

-- A secret of at most 64 bytes is filled up to as many with zeros.
abbrev pub padded : List ℕ → List ℕ
padded secret = secret ++ replicate (64 - length secret) 0

abbrev pub masked : ℕ → List ℕ → List ℕ
masked mask key = map (λ byte. bit_xor byte mask) key

abbrev pub hmac : List ℕ → List ℕ → List ℕ
hmac key message = sha256 (masked 0x5c key ++ sha256 (masked 0x36 key ++ message))

abbrev pub role_byte : Role → ℕ
role_byte Calls = 1
role_byte IsCalled = 0

-- what an end is asked: its role, its own hello, and the other's, with the challenge
abbrev pub question : Role → Hello → Hello → List ℕ
question role own other = role_byte role ∷ (hello_bytes own ++ hello_bytes other)

abbrev pub answer_of : List ℕ → Role → Hello → Hello → List ℕ
answer_of key role own other = hmac key (question role own other)
