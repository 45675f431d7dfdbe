-- Worked examples, which the definitions compute. On partition 5 of three members with one backup, member 2 leads and member 0 is its backup; 3 is the service.
use Rattle.std.specs.Prelude.{◌≡◌, ℕ, List, [], ◌∷◌, ◌++◌, map, length, refl}
use Rattle.partition_table.specs.declared.Row.{Row}
use Rattle.partition_table.specs.Rows.{initial_row, with_joiner, handed}
use Rattle.partition_protocol.specs.Messages.{NewRow, Sync, Effect, Ack}
use Rattle.partition_protocol.specs.Node.{Held}
use Rattle.partition_protocol.specs.Examples.{register}
use Rattle.apart_protocol.specs.Contents.{Cargo, Bare, Whole, Made, Parcel}
use Rattle.apart_protocol.specs.Member.{Member, Receives, Takes, Resends, opening, member_after}
use Rattle.apart_protocol.specs.Rulings.{BeginJoin, Detect, Reopen}
use Rattle.apart_protocol.specs.Machine.{Apart, Step, Acts, Rules, Crash, begin, after}

-- what there is to see: the contents of each member, the numbers of the answers that were given, and what went with each message
pub record Seen : Type 0 where
  pub contents : List ℕ
  pub answered : List ℕ
  pub sent : List (Cargo ℕ ℕ)

abbrev pub seen_after : List (Step ℕ ℕ) → Seen
seen_after ss = let a = after register 5 3 1 (begin register 5 3 1) ss in
    record {
      contents = map (λ (x : Member ℕ ℕ). x.state) a.members;
      answered = map (λ (h : Held). h.number) a.released;
      sent = map (λ (q : Parcel ℕ ℕ). q.cargo) a.sent;
    }

-- a write of 7, with number 4

abbrev pub effect : Cargo ℕ ℕ
effect = Made (record { before = 0; call = 7; now = 0 })

abbrev pub write : Step ℕ ℕ
write = Acts 2 (Receives 0 4 7 0)

abbrev pub apply : Step ℕ ℕ
apply = Acts 0 (Takes 2 (Effect 1 1) effect)

abbrev pub acknowledge : Step ℕ ℕ
acknowledge = Acts 2 (Takes 0 (Ack 1 1) Bare)

a_write_waits : seen_after (write ∷ []) ≡ record { contents = 0 ∷ 0 ∷ 7 ∷ []; answered = []; sent = effect ∷ [] }
a_write_waits = refl

its_backup_has_it : seen_after (write ∷ apply ∷ []) ≡ record { contents = 7 ∷ 0 ∷ 7 ∷ []; answered = []; sent = effect ∷ Bare ∷ [] }
its_backup_has_it = refl

it_is_answered : seen_after (write ∷ apply ∷ acknowledge ∷ [])
    ≡ record { contents = 7 ∷ 0 ∷ 7 ∷ []; answered = 4 ∷ []; sent = effect ∷ Bare ∷ [] }
it_is_answered = refl

-- a message that is taken again is acknowledged again, and nothing is done twice
abbrev pub twice : List (Step ℕ ℕ)
twice = write ∷ apply ∷ apply ∷ acknowledge ∷ acknowledge ∷ []

nothing_is_done_twice : seen_after twice ≡ record { contents = 7 ∷ 0 ∷ 7 ∷ []; answered = 4 ∷ []; sent = effect ∷ Bare ∷ Bare ∷ [] }
nothing_is_done_twice = refl

-- a primary sends again what may have been lost
it_sends_again : seen_after (write ∷ Acts 2 Resends ∷ []) ≡ record { contents = 0 ∷ 0 ∷ 7 ∷ []; answered = []; sent = effect ∷ effect ∷ [] }
it_sends_again = refl

-- member 1 joins, and is sent the whole contents

abbrev pub row : Row
row = with_joiner (initial_row 5 3 1) 1

abbrev pub join : List (Step ℕ ℕ)
join = write ∷ apply ∷ acknowledge ∷ Rules (BeginJoin 1) ∷ Acts 2 (Takes 3 (NewRow row) Bare) ∷ Acts 1 (Takes 2 (Sync row 1) (Whole 7)) ∷ []

it_has_the_contents : seen_after join
    ≡ record { contents = 7 ∷ 7 ∷ 7 ∷ []; answered = 4 ∷ []; sent = effect ∷ Bare ∷ Bare ∷ Bare ∷ Bare ∷ Bare ∷ Whole 7 ∷ Bare ∷ [] }
it_has_the_contents = refl

-- members 2 and 0 crash before member 1 may lead, and the loss is accepted: what member 1 has is from before the reset, and it drops it

abbrev pub after_all : List (Step ℕ ℕ) → Apart ℕ ℕ
after_all ss = after register 5 3 1 (begin register 5 3 1) ss

abbrev pub lost : List (Step ℕ ℕ)
lost = join ++ Crash 2 ∷ Rules (Detect 2) ∷ Crash 0 ∷ Rules (Detect 0) ∷ Rules Reopen ∷ []

abbrev pub reopened : Step ℕ ℕ
reopened = Acts 1 (Takes 3 (NewRow (after_all lost).service.row) Bare)

it_had_the_contents : (seen_after lost).contents ≡ 7 ∷ 7 ∷ 7 ∷ []
it_had_the_contents = refl

it_drops_them : (seen_after (lost ++ reopened ∷ [])).contents ≡ 7 ∷ 0 ∷ 7 ∷ []
it_drops_them = refl

-- the write and the reset
both_are_recorded : length (after_all lost).log ≡ 2
both_are_recorded = refl

-- a member that leads no more has none of the effects that it made

abbrev pub was_primary : Member ℕ ℕ
was_primary =
    member_after register 3 2 (opening register (initial_row 5 3 1) 2) (Receives 0 4 7 0 ∷ Takes 3 (NewRow (handed (initial_row 5 3 1) 2 0)) Bare ∷ [])

no_effect_is_kept : was_primary.recent ≡ []
no_effect_is_kept = refl
