-- Worked examples, which the definitions compute: a queue with room for one.
use Rattle.std.specs.Prelude.{◌≡◌, ℕ, List, [], ◌∷◌, ◌++◌, map, length, Some, None, refl}
use Rattle.partition_protocol.specs.Events.{Call}
use Rattle.partition_protocol.specs.Arrivals.{Asked as Arrived, CallName, arrivals, name}
use Rattle.waiting_protocol.specs.Machine.{Waiting, Asks, Waits, Clock, Fate, Runs, Gone, start}
use Rattle.waiting_protocol.specs.Examples.{Asked, Offer, Poll, queue, ample}
use Rattle.live_waiting.specs.Cell.{Purpose, Calls, Brings, Drops, Looks, Visit, cell_after, cell_left, cell_events, cell_lines}
use Rattle.live_waiting.specs.LookClaims.{earliest}

-- a visit at member 0
abbrev pub at : ℕ → Purpose Asked → Visit Asked
at read p = record { member = 0; read = read; purpose = p }

-- who leaves, how, and at which moment
pub record Seen : Type 0 where
  pub conn : ℕ
  pub number : ℕ
  pub fate : Fate
  pub now : ℕ

abbrev pub seen : ℕ → ℕ → Fate → ℕ → Seen
seen c n f now = record { conn = c; number = n; fate = f; now = now }

abbrev pub begun : Waiting Asked
begun = start 100 1 0

abbrev pub left : List (Visit Asked) → List Seen
left vs = map (λ (g : Gone Asked). seen g.waiter.conn g.waiter.number g.fate g.now) (cell_left queue ample begun vs)

abbrev pub happened : List (Visit Asked) → List CallName
happened vs = map name (arrivals (cell_events queue ample begun vs))

abbrev pub called : ℕ → ℕ → CallName
called c n = record { conn = c; number = n }

-- The queue is full, and connection 1 waits to offer twice
abbrev pub full : List (Visit Asked)
full = at 10 (Calls 0 1 (Offer 76)) ∷ at 20 (Brings 1 1 (Offer 77) None) ∷ at 21 (Brings 1 2 (Offer 78) (Some 60)) ∷ []

nobody_left : left full ≡ []
nobody_left = refl

-- A poll makes room. The thread that comes next with an offer of its own finds one to be let go, and does just that: at the moment of the poll
abbrev pub between : List (Visit Asked)
between = full ++ at 30 (Calls 0 3 Poll) ∷ at 40 (Calls 2 1 (Offer 79)) ∷ []

it_goes_first : left between ≡ seen 1 1 Runs 30 ∷ []
it_goes_first = refl

-- it comes again, and does its own: nobody's call is between the poll and the offer that it let go
comes_again : happened (between ++ at 41 (Calls 2 1 (Offer 79)) ∷ []) ≡ called 0 1 ∷ called 0 3 ∷ called 1 1 ∷ called 2 1 ∷ []
comes_again = refl

-- a thread that read an earlier moment: the later of the two counts
abbrev pub late_reading : List (Visit Asked)
late_reading = full ++ at 30 (Calls 0 3 Poll) ∷ at 25 Looks ∷ at 26 Looks ∷ []

clock_stays : (cell_after queue ample begun late_reading).clock 0 ≡ 30
clock_stays = refl

-- one whose time has come goes before the call that a thread brings at that moment
due_first : left (full ++ at 60 (Calls 0 3 Poll) ∷ []) ≡ seen 1 2 Runs 60 ∷ []
due_first = refl

not_yet_polled : happened (full ++ at 60 (Calls 0 3 Poll) ∷ []) ≡ called 0 1 ∷ called 1 2 ∷ []
not_yet_polled = refl

-- the lines of which it is the run
lines_of_it : cell_lines queue ample begun (full ++ at 60 (Calls 0 3 Poll) ∷ at 59 (Calls 0 3 Poll) ∷ [])
    ≡ Clock 0 10 ∷ Asks (Call 0 0 1 (Offer 76) 10)
    ∷ Clock 0 20 ∷ Waits (record { member = 0; conn = 1; number = 1; call = Offer 77; deadline = None })
    ∷ Clock 0 21 ∷ Waits (record { member = 0; conn = 1; number = 2; call = Offer 78; deadline = Some 60 })
    ∷ Clock 0 60
    ∷ Clock 0 60 ∷ Asks (Call 0 0 3 Poll 60) ∷ []
lines_of_it = refl

-- once its connection has closed nobody of it goes
closed : left (full ++ at 30 (Drops 1) ∷ at 40 (Calls 0 3 Poll) ∷ at 90 Looks ∷ []) ≡ []
closed = refl

-- a call is made at the moment that counts, though its thread read an earlier one
abbrev pub moments : List (Visit Asked) → List ℕ
moments vs = map (λ (a : Arrived Asked). a.now) (arrivals (cell_events queue ample begun vs))

made_at_the_later : moments (late_reading ++ at 27 (Calls 2 1 Poll) ∷ []) ≡ 10 ∷ 30 ∷ 30 ∷ 30 ∷ []
made_at_the_later = refl

-- two are due at one moment, and one of them leaves in a turn. Until the earlier of the two ends nobody need look
abbrev pub two_wait : List (Visit Asked)
two_wait = at 10 (Calls 0 1 (Offer 76)) ∷ at 20 (Brings 1 1 (Offer 77) (Some 50)) ∷ at 21 (Brings 1 2 (Offer 78) (Some 60)) ∷ []

one_leaves : length (cell_after queue ample begun (two_wait ++ at 60 Looks ∷ [])).waiters ≡ 1
one_leaves = refl

earlier_of_two : earliest 0 (cell_after queue ample begun two_wait).waiters ≡ Some 50
earlier_of_two = refl
