-- Worked examples, which the definitions compute. Each partition has one key, its own number.
use Rattle.std.specs.Prelude.{◌≡◌, ℕ, not, ◌&&◌, ◌==◌, if◌then◌else◌, List, [], ◌∷◌, Option, Some, None, refl}
use Rattle.grid_base.specs.Objects.{Object}
use Rattle.partition_protocol.specs.Events.{Call, Deliver, Crash, Detect, BeginJoin}
use Rattle.near_protocol.specs.Keyed.{Keyed}
use Rattle.near_protocol.specs.Client.{Answer, Refusal, Invalidation, hit}
use Rattle.near_protocol.specs.Near.{Near, Move, Occurs, LooksUp, LooksUpInVain, Hears, new_grid, attached, all_moved}

-- a call above 0 writes that number to the key, and 0 reads. Each answers what was there
pub record Op : Type 0 where
  pub key : ℕ
  pub value : ℕ

abbrev pub register : Object Op ℕ
register = record {
  empty = 0;
  reply = λ s c now. s ∷ [];
  after = λ s c now. if c.value == 0 then s else c.value;
  changes = λ s c now. not (c.value == 0) && not (c.value == s);
}

abbrev pub first : List ℕ → Option ℕ
first [] = None
first (x ∷ xs) = Some x

abbrev pub keys : Keyed Op ℕ ℕ ℕ
keys = record {
  same = λ a b. a == b;
  partition = λ k. k;
  get = λ n k. record { key = k; value = 0 };
  value_in = first;
  altered = λ s c now. if not (c.value == 0) && not (c.value == s) then Some c.key else None;
}

-- a client at member m of that many members with so many backups, on connection 1. Six partitions, two entries
abbrev pub client_at : ℕ → ℕ → ℕ → List (Move Op ℕ) → Near Op ℕ ℕ
client_at members backups m moves = all_moved register keys (attached register 6 m 1 3 2 (new_grid members backups)) moves

-- another connection writes the value to the key, at that member
abbrev pub write : ℕ → ℕ → ℕ → ℕ → Move Op ℕ
write m number k value = Occurs k (Call m 0 number (record { key = k; value = value }) 0)

-- what is hit for key 5
abbrev pub hit5 : Near Op ℕ ℕ → Option ℕ
hit5 s = hit keys 5 s.client

-- of three members without backups, member 2 leads partition 5

a_first_row_clears_nothing_and_an_answer_is_kept : hit5 (client_at 3 0 2 (LooksUp 5 0 ∷ Hears ∷ Hears ∷ [])) ≡ Some 0
a_first_row_clears_nothing_and_an_answer_is_kept = refl

a_write_is_told :
    (client_at 3 0 2 (LooksUp 5 0 ∷ Hears ∷ Hears ∷ write 2 0 5 7 ∷ write 2 1 5 7 ∷ write 2 2 5 8 ∷ [])).unread
    ≡ Invalidation 5 1 1 ∷ Invalidation 5 1 2 ∷ []
a_write_is_told = refl

a_value_is_hit_until_its_invalidation_is_read :
    hit5 (client_at 3 0 2 (LooksUp 5 0 ∷ Hears ∷ Hears ∷ write 2 0 5 7 ∷ [])) ≡ Some 0
a_value_is_hit_until_its_invalidation_is_read = refl

and_then_no_more : hit5 (client_at 3 0 2 (LooksUp 5 0 ∷ Hears ∷ Hears ∷ write 2 0 5 7 ∷ Hears ∷ [])) ≡ None
and_then_no_more = refl

a_write_overtakes_an_open_look_up :
    hit5 (client_at 3 0 2 (Hears ∷ LooksUp 5 0 ∷ write 2 0 5 7 ∷ LooksUp 5 0 ∷ Hears ∷ Hears ∷ Hears ∷ [])) ≡ None
a_write_overtakes_an_open_look_up = refl

also_one_that_was_told_before_it :
    hit5 (client_at 3 0 2 (Hears ∷ write 2 0 5 7 ∷ LooksUp 5 0 ∷ Hears ∷ Hears ∷ [])) ≡ None
also_one_that_was_told_before_it = refl

the_next_look_up_is_kept :
    hit5 (client_at 3 0 2 (Hears ∷ write 2 0 5 7 ∷ LooksUp 5 0 ∷ Hears ∷ Hears ∷ LooksUp 5 0 ∷ Hears ∷ [])) ≡ Some 7
the_next_look_up_is_kept = refl

-- a later row reaches the member, and the client goes on
abbrev pub after_a_row : List (Move Op ℕ) → Near Op ℕ ℕ
after_a_row more = client_at 3 0 2 (LooksUp 5 0 ∷ Hears ∷ Hears ∷ Occurs 5 (BeginJoin 0) ∷ Occurs 5 (Deliver 3 2 0) ∷ more)

a_value_is_hit_until_a_later_row_is_read : hit5 (after_a_row []) ≡ Some 0
a_value_is_hit_until_a_later_row_is_read = refl

a_later_row_clears : hit5 (after_a_row (Hears ∷ [])) ≡ None
a_later_row_clears = refl

-- a member that isn't primary refuses the get
a_refused_look_up_keeps_nothing : (client_at 3 0 1 (Hears ∷ LooksUp 5 0 ∷ [])).unread ≡ Refusal 3 ∷ []
a_refused_look_up_keeps_nothing = refl

-- so does a get that finds no memory, and the next one brings the value
a_get_in_vain_is_refused : (client_at 3 0 2 (Hears ∷ LooksUpInVain 5 ∷ [])).unread ≡ Refusal 3 ∷ []
a_get_in_vain_is_refused = refl

and_the_next_one_brings_the_value : hit5 (client_at 3 0 2 (Hears ∷ LooksUpInVain 5 ∷ Hears ∷ LooksUp 5 0 ∷ Hears ∷ [])) ≡ Some 0
and_the_next_one_brings_the_value = refl

-- with one backup a write is told as it is released
a_held_write_is_not_told : (client_at 3 1 2 (Hears ∷ write 2 0 5 7 ∷ [])).unread ≡ []
a_held_write_is_not_told = refl

a_get_that_waits_for_a_write_is_answered_after_its_invalidation :
    (client_at 3 1 2 (Hears ∷ write 2 0 5 7 ∷ LooksUp 5 0 ∷ Occurs 5 (Deliver 2 0 0) ∷ Occurs 5 (Deliver 0 2 0) ∷ [])).unread
    ≡ Invalidation 5 1 1 ∷ Answer 3 (7 ∷ []) ∷ []
a_get_that_waits_for_a_write_is_answered_after_its_invalidation = refl

-- Of two members with one backup, member 1 leads partition 5. It crashes, and member 0 takes over: whoever reads on
-- at member 1 hears nothing of it, and hits the old value for ever
abbrev pub taken_over : List (Move Op ℕ)
taken_over =
    LooksUp 5 0 ∷ Hears ∷ Hears ∷ Occurs 5 (Crash 1) ∷ Occurs 5 (Detect 1) ∷ Occurs 5 (Deliver 2 0 0) ∷ write 0 0 5 7 ∷ Hears ∷ []

a_client_of_a_crashed_member_hits_what_it_kept : hit5 (client_at 2 1 1 taken_over) ≡ Some 0
a_client_of_a_crashed_member_hits_what_it_kept = refl

and_has_nothing_to_read : (client_at 2 1 1 taken_over).unread ≡ []
and_has_nothing_to_read = refl
