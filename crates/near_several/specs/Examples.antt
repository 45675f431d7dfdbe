-- Worked examples, which the definitions compute. Each partition has one key, its own number.
use Rattle.std.specs.Prelude.{◌≡◌, ℕ, List, [], ◌∷◌, map, Option, Some, None, refl}
use Rattle.partition_protocol.specs.Events.{Call, Deliver, Crash, Detect}
use Rattle.near_protocol.specs.Client.{Said, Answer, Refusal, hit}
use Rattle.near_protocol.specs.Near.{new_grid}
use Rattle.near_protocol.specs.Examples.{Op, register, keys}
use Rattle.near_several.specs.Several.{Port, Several, Move, Attaches, Occurs, LooksUp, Asks, Arrives, Hears, unattached, all_moved}

-- a client of two members of so many with so many backups, on the connections 1 and 2, which has heard of their rows. Six
-- partitions, two entries
abbrev pub client_of : ℕ → ℕ → ℕ → ℕ → List (Move Op ℕ) → Several Op ℕ ℕ
client_of members backups a b moves =
    all_moved register keys 6 (unattached 3 2 (new_grid members backups)) (Attaches 1 a ∷ Attaches 2 b ∷ Hears 1 ∷ Hears 2 ∷ moves)

-- another client writes the value to the key, at that member
abbrev pub write : ℕ → ℕ → ℕ → ℕ → Move Op ℕ
write m number k value = Occurs k (Call m 0 number (record { key = k; value = value }) 0)

-- what is hit for key 5, and what is unread on each connection
abbrev pub hit5 : Several Op ℕ ℕ → Option ℕ
hit5 s = hit keys 5 s.client

abbrev pub unread : Several Op ℕ ℕ → List (List (Said ℕ))
unread s = map (λ (port : Port ℕ). port.unread) s.ports

-- of three members without backups, member 2 leads partition 5

a_get_is_answered_on_its_connection : unread (client_of 3 0 0 2 (LooksUp 2 5 ∷ Arrives 3 0 ∷ [])) ≡ [] ∷ (Answer 3 (0 ∷ []) ∷ []) ∷ []
a_get_is_answered_on_its_connection = refl

and_refused_where_the_member_does_not_lead : unread (client_of 3 0 0 2 (LooksUp 1 5 ∷ Arrives 3 0 ∷ [])) ≡ (Refusal 3 ∷ []) ∷ [] ∷ []
and_refused_where_the_member_does_not_lead = refl

an_answer_is_kept : hit5 (client_of 3 0 0 2 (LooksUp 2 5 ∷ Arrives 3 0 ∷ Hears 2 ∷ [])) ≡ Some 0
an_answer_is_kept = refl

a_get_on_its_way_is_not_answered : unread (client_of 3 0 0 2 (LooksUp 2 5 ∷ [])) ≡ [] ∷ [] ∷ []
a_get_on_its_way_is_not_answered = refl

it_arrives_once : unread (client_of 3 0 0 2 (LooksUp 2 5 ∷ Arrives 3 0 ∷ Arrives 3 0 ∷ [])) ≡ [] ∷ (Answer 3 (0 ∷ []) ∷ []) ∷ []
it_arrives_once = refl

its_own_write_takes_out_what_it_kept :
    hit5 (client_of 3 0 0 2 (LooksUp 2 5 ∷ Arrives 3 0 ∷ Hears 2 ∷ Asks 2 5 (record { key = 5; value = 7 }) ∷ Arrives 4 0 ∷ Hears 2 ∷ [])) ≡ None
its_own_write_takes_out_what_it_kept = refl

a_connection_is_attached_once : unread (client_of 3 0 0 2 (Attaches 1 2 ∷ [])) ≡ [] ∷ [] ∷ []
a_connection_is_attached_once = refl

-- Of two members with one backup, member 1 leads partition 5 and answers a get. It crashes, and member 0 takes over, and a
-- write is answered there
abbrev pub taken_over : List (Move Op ℕ) → Several Op ℕ ℕ
taken_over moves =
    all_moved register keys 6 (client_of 2 1 1 0 (LooksUp 1 5 ∷ Arrives 3 0 ∷ Occurs 5 (Crash 1) ∷ Occurs 5 (Detect 1) ∷ Occurs 5 (Deliver 2 0 0) ∷ write 0 0 5 7 ∷ [])) moves

-- until it reads on at member 0, it hits what member 1 answered
the_answer_of_a_crashed_member_is_kept : hit5 (taken_over (Hears 1 ∷ [])) ≡ Some 0
the_answer_of_a_crashed_member_is_kept = refl

what_the_other_member_tells_takes_it_out : hit5 (taken_over (Hears 1 ∷ Hears 2 ∷ Hears 2 ∷ [])) ≡ None
what_the_other_member_tells_takes_it_out = refl

-- a look-up is overtaken on whichever connection its get waits
and_overtakes_it_where_that_is_read_first : hit5 (taken_over (Hears 2 ∷ Hears 2 ∷ Hears 1 ∷ [])) ≡ None
and_overtakes_it_where_that_is_read_first = refl
