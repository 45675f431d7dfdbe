-- Worked examples, which the definitions compute: a queue with room for one. They are those of the scripts of the same names.
use Rattle.std.specs.Prelude.{◌≡◌, ℕ, Bool, true, false, ◌==◌, List, [], ◌∷◌, ◌++◌, map, Option, Some, None, refl}
use Rattle.grid_base.specs.Objects.{Object}
use Rattle.partition_protocol.specs.Execution.{Migrating, WrongTarget}
use Rattle.partition_protocol.specs.Events.{Call, Deliver, Crash, BeginHandover, Advance}
use Rattle.partition_protocol.specs.Arrivals.{CallName, arrivals, name}
use Rattle.waiting_protocol.specs.Machine.{Waiting, Line, Asks, Waits, Clock, Closes, Test, Terms, Fate, Runs, Starves, IsRefused, Leaves, Gone, start, after, events, gone_by}

pub data Asked : Type 0 where
  Offer : (value : ℕ) → Asked
  Poll : Asked

abbrev pub answers : List ℕ → Asked → List ℕ
answers [] (Offer v) = 1 ∷ []
answers (x ∷ xs) (Offer v) = 0 ∷ []
answers [] Poll = []
answers (x ∷ xs) Poll = x ∷ []

abbrev pub leaves : List ℕ → Asked → List ℕ
leaves [] (Offer v) = v ∷ []
leaves (x ∷ xs) (Offer v) = x ∷ xs
leaves [] Poll = []
leaves (x ∷ xs) Poll = xs

abbrev pub alters : List ℕ → Asked → Bool
alters [] (Offer v) = true
alters (x ∷ xs) (Offer v) = false
alters [] Poll = false
alters (x ∷ xs) Poll = true

abbrev pub queue : Object Asked (List ℕ)
queue = record { empty = []; reply = λ s c now. answers s c; after = λ s c now. leaves s c; changes = λ s c now. alters s c }

-- an offer waits for true, a poll for a value
abbrev pub wished : Test Asked
wished (Offer v) [] = false
wished (Offer v) (x ∷ xs) = x == 1
wished Poll [] = false
wished Poll (x ∷ xs) = true

-- every call finds memory
abbrev pub ample : Terms Asked
ample = record { wished = wished; starves = λ x. false }

-- the call of that connection finds none
abbrev pub without_memory_for : ℕ → Terms Asked
without_memory_for conn = record { wished = wished; starves = λ x. x.conn == conn }

-- a waiting call, and a plain one at moment 0, by its member, connection and number
abbrev pub waits : ℕ → ℕ → ℕ → Asked → Option ℕ → Line Asked
waits m c n a d = Waits (record { member = m; conn = c; number = n; call = a; deadline = d })

-- who leaves, and how
pub record Left : Type 0 where
  pub conn : ℕ
  pub number : ℕ
  pub fate : Fate

abbrev pub left : ℕ → ℕ → Fate → Left
left c n f = record { conn = c; number = n; fate = f }

abbrev pub seen_by : Terms Asked → Waiting Asked → List (Line Asked) → Line Asked → List Left
seen_by t j ls l = map (λ (g : Gone Asked). left g.waiter.conn g.waiter.number g.fate) (gone_by queue t (after queue t j ls) l)

abbrev pub seen : Waiting Asked → List (Line Asked) → Line Asked → List Left
seen j ls l = seen_by ample j ls l

abbrev pub called : ℕ → ℕ → CallName
called c n = record { conn = c; number = n }

-- one run makes another ready: the list is looked at anew from its front after each

abbrev pub chain : List (Line Asked)
chain = Asks (Call 0 0 1 (Offer 76) 0) ∷ waits 0 1 1 (Offer 77) None ∷ waits 0 1 2 (Offer 78) None ∷ []

chain_of_runs : seen (start 100 1 0) chain (waits 0 0 3 Poll None) ≡ left 0 3 Runs ∷ left 1 1 Runs ∷ []
chain_of_runs = refl

chain_goes_on : map name (arrivals (events queue ample (start 100 1 0) (chain ++ waits 0 0 3 Poll None ∷ waits 0 0 4 Poll (Some 10) ∷ []))) ≡ called 0 1 ∷ called 0 3 ∷ called 1 1 ∷ called 0 4 ∷ called 1 2 ∷ []
chain_goes_on = refl

-- a later one that is ready runs first, and makes the earlier one ready
later_ready_before_earlier : seen (start 100 1 0) (waits 0 0 1 Poll None ∷ []) (waits 0 1 1 (Offer 7) None) ≡ left 1 1 Runs ∷ left 0 1 Runs ∷ []
later_ready_before_earlier = refl

-- a poll waits to its deadline

abbrev pub polls : List (Line Asked)
polls = Clock 0 5000 ∷ waits 0 1 1 Poll (Some 6000) ∷ []

it_waits : seen (start 100 1 0) polls (Clock 0 5999) ≡ []
it_waits = refl

it_is_due : seen (start 100 1 0) polls (Clock 0 6000) ≡ left 1 1 Runs ∷ []
it_is_due = refl

-- with the deadline at hand as it arrives it runs at once, also unready
timeout_zero : seen (start 100 1 0) (Clock 0 5000 ∷ []) (waits 0 1 1 Poll (Some 5000)) ≡ left 1 1 Runs ∷ []
timeout_zero = refl

-- On partition 5 of three members with one backup member 2 leads, and member 0 is its backup. As it is frozen, all are refused in order

abbrev pub waiting : List (Line Asked)
waiting = waits 2 0 1 Poll (Some 9) ∷ waits 2 1 1 Poll None ∷ []

refused_when_the_role_goes : seen (start 5 3 1) (waiting ++ Asks (BeginHandover 2 0) ∷ Asks Advance ∷ []) (Asks (Deliver 3 2 0)) ≡ left 0 1 (IsRefused (Migrating 1)) ∷ left 1 1 (IsRefused (Migrating 1)) ∷ []
refused_when_the_role_goes = refl

refused_at_arrival : seen (start 5 3 1) [] (waits 0 0 1 Poll None) ≡ left 0 1 (IsRefused (WrongTarget 1)) ∷ []
refused_at_arrival = refl

crashed_member : seen (start 5 3 1) waiting (Asks (Crash 2)) ≡ left 0 1 Leaves ∷ left 1 1 Leaves ∷ []
crashed_member = refl

closed_connection : (after queue ample (start 5 3 1) (waiting ++ Closes 0 ∷ [])).waiters ≡ record { member = 2; conn = 1; number = 1; call = Poll; deadline = None } ∷ []
closed_connection = refl

-- An offer that finds no memory leaves without an event, so there is room for the next one

abbrev pub two_offers : List (Line Asked)
two_offers = Asks (Call 0 0 1 (Offer 76) 0) ∷ waits 0 1 1 (Offer 77) None ∷ waits 0 2 1 (Offer 78) None ∷ []

the_first_finds_no_memory : seen_by (without_memory_for 1) (start 100 1 0) two_offers (Asks (Call 0 0 2 Poll 0)) ≡ left 1 1 Starves ∷ left 2 1 Runs ∷ []
the_first_finds_no_memory = refl

and_makes_no_event : map name (arrivals (events queue (without_memory_for 1) (start 100 1 0) (two_offers ++ Asks (Call 0 0 2 Poll 0) ∷ []))) ≡ called 0 1 ∷ called 0 2 ∷ called 2 1 ∷ []
and_makes_no_event = refl
