-- Worked examples, which the definitions compute. On partition 5 of three members with one backup, member 2 leads and member 0 is its backup; member 0 is master.
use Rattle.std.specs.Prelude.{◌≡◌, ℕ, List, [], ◌∷◌, ◌++◌, map, length, refl}
use Rattle.masters_protocol.specs.Members.{Member, Store, Stored}
use Rattle.partition_protocol.specs.Examples.{register}
use Rattle.apart_protocol.specs.Rulings.{Ruling, BeginMove, Advance}
use Rattle.apart_masters.specs.Master.{Takes, Proposes}
use Rattle.apart_masters.specs.Machine.{Step, Leads, Says, begin, after}

-- what was published, the newest row's version, and how many messages of the partition were sent
pub record Seen : Type 0 where
  pub published : List Ruling
  pub version : ℕ
  pub sent : ℕ

abbrev pub seen_after : List (Step ℕ ℕ) → Seen
seen_after ss = let j = after register 5 3 1 (begin register 5 3 1) ss in
    record {
      published = j.masters.published;
      version = j.apart.service.row.version;
      sent = length j.apart.sent;
    }

abbrev pub move : Ruling
move = BeginMove 2 1

-- a move is stored at both others, and is the service's as the second answer comes
abbrev pub stored : List (Step ℕ ℕ)
stored =
    Leads 0 0 (Proposes move) ∷ Leads 1 0 (Takes 0 (Store 0 (move ∷ []))) ∷ Leads 2 0 (Takes 0 (Store 0 (move ∷ [])))
    ∷ Leads 0 0 (Takes 1 (Stored 0 1)) ∷ []

it_waits : seen_after stored ≡ record { published = []; version = 1; sent = 0 }
it_waits = refl

it_is_published : seen_after (stored ++ Leads 0 0 (Takes 2 (Stored 0 1)) ∷ []) ≡ record { published = move ∷ []; version = 2; sent = 0 }
it_is_published = refl

-- and its row is said to all
it_is_said : seen_after (stored ++ Leads 0 0 (Takes 2 (Stored 0 1)) ∷ Says 0 ∷ []) ≡ record { published = move ∷ []; version = 2; sent = 3 }
it_is_said = refl

-- before it is stored nothing is said, and nothing else is taken on

abbrev pub logs_after : List (Step ℕ ℕ) → List (List Ruling)
logs_after ss = map (λ (x : Member Ruling). x.log) (after register 5 3 1 (begin register 5 3 1) ss).masters.members

nothing_is_said : seen_after (stored ++ Says 0 ∷ []) ≡ record { published = []; version = 1; sent = 0 }
nothing_is_said = refl

one_at_a_time : logs_after (Leads 0 0 (Proposes move) ∷ Leads 0 0 (Proposes Advance) ∷ []) ≡ (move ∷ []) ∷ [] ∷ [] ∷ []
one_at_a_time = refl
