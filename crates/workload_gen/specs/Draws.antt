-- What the rounds of a script draw, from the generator of its number.
use Rattle.std.specs.Prelude.{ℕ, zero, suc, ◌%◌, ◌==◌, nat_lt, if◌then◌else◌}
use Rattle.rand_pcg.specs.Lcg.{Lcg, started, increment_of}
use Rattle.rand_pcg.specs.Pcg.{multiplier_64, pcg32}
use Rattle.workload_gen.specs.declared.steps.Step.{Step}
use Rattle.workload_gen.specs.declared.steps.Step.TheVariants.{Put, Get, Flow, Move, Advance, Resend}
use Rattle.workload_gen.specs.declared.steps.Draws.{Draws}

unfoldable pub generator_of : ℕ → Lcg
generator_of number = started 64 multiplier_64 number (increment_of 64 1)

-- the next word of a generator, and the generator behind it
unfoldable pub word_of : Lcg → ℕ
word_of generator = (pcg32 generator).0

unfoldable pub behind : Lcg → Lcg
behind generator = (pcg32 generator).1

-- A round takes four words, in this order.
abbrev pub draws_of : Lcg → Draws
draws_of generator = record {
  kind = word_of generator % 16;
  partition = word_of (behind generator) % 271;
  first = word_of (behind (behind generator)) % 4;
  second = word_of (behind (behind (behind generator))) % 4;
}

abbrev pub behind_round : Lcg → Lcg
behind_round generator = behind (behind (behind (behind generator)))

-- the generator before the round behind so many others
unfoldable pub generator_at : ℕ → ℕ → Lcg
generator_at number zero = generator_of number
generator_at number (suc rounds) = behind_round (generator_at number rounds)

-- Of sixteen rounds about eight put, four get, and one does each of the others.
abbrev pub step_of : Draws → Step
step_of draws =
    if nat_lt draws.kind 8 then Put draws.partition
    else if nat_lt draws.kind 12 then Get draws.partition
    else if draws.kind == 12 then Flow
    else if draws.kind == 13 then Move draws.partition draws.first draws.second
    else if draws.kind == 14 then Advance draws.partition
    else Resend draws.partition draws.first

-- the step of the round behind so many others
abbrev pub step_at : ℕ → ℕ → Step
step_at number rounds = step_of (draws_of (generator_at number rounds))
