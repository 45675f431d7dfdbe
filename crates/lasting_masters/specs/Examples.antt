-- Worked examples, which the definitions compute.
use Rattle.std.specs.Prelude.{◌≡◌, ℕ, ◌+◌, Bool, true, false, List, [], ◌∷◌, map, refl}
use Rattle.masters_protocol.specs.Members.{Outcome, Proposed, RefusedBusy, StoreTaken, Counted}
use Rattle.masters_protocol.specs.Machine.{Masters, start}
use Rattle.lasting_masters.specs.Repeated as repeated
use Rattle.lasting_masters.specs.Stands.{events_of}
use Rattle.lasting_masters.specs.Kept.{Folding, Kept, From, Whole, with_part, part_from, shortened, state_of}
use Rattle.lasting_masters.specs.Members.{Member, Message, Store, Stored, Ask, Tell}
use Rattle.lasting_masters.specs.Machine.{Packet, Told, Crash, Propose, Take, Cut, Event, begin, run}

-- the state is the sum of the decisions
abbrev pub sums : Folding ℕ ℕ
sums = record { opening = 0; next = λ s d. s + d }

-- so many cut off, what they lead to, and the rest
abbrev pub keeping : ℕ → ℕ → List ℕ → Kept ℕ ℕ
keeping cut base rest = record { cut = cut; base = base; rest = rest }

-- six decisions, of which three are cut off: what one who has two, four and nine of them lacks

abbrev pub three_cut : Kept ℕ ℕ
three_cut = keeping 3 6 (4 ∷ 5 ∷ 6 ∷ [])

lacks_two : part_from 2 three_cut ≡ Whole three_cut
lacks_two = refl

lacks_four : part_from 4 three_cut ≡ From 4 (5 ∷ 6 ∷ [])
lacks_four = refl

lacks_none : part_from 9 three_cut ≡ From 6 []
lacks_none = refl

abbrev pub packets_after : ℕ → List (Event ℕ) → List (Message ℕ ℕ)
packets_after size es = map (λ (p : Packet ℕ ℕ). p.message) (run sums (begin sums size) es).packets

abbrev pub kept_after : ℕ → List (Event ℕ) → List (Kept ℕ ℕ)
kept_after size es = map (λ (n : Member ℕ ℕ). n.kept) (run sums (begin sums size) es).members

-- Two members. The first decision is stored, its Store comes again, and the second goes out alone
two_stores : packets_after 2 (Propose 0 7 ∷ Take 0 ∷ Take 0 ∷ Take 1 ∷ Propose 0 8 ∷ [])
    ≡ Store 0 0 (From 0 (7 ∷ [])) ∷ Stored 0 1 ∷ Stored 0 1 ∷ Store 0 1 (From 1 (8 ∷ [])) ∷ []
two_stores = refl

-- the second Store says that the first decision is published, and both cut it off
both_cut : kept_after 2 (Propose 0 7 ∷ Take 0 ∷ Take 1 ∷ Propose 0 8 ∷ Take 2 ∷ Cut 0 1 ∷ Cut 1 1 ∷ Cut 1 1 ∷ [])
    ≡ keeping 1 7 (8 ∷ []) ∷ keeping 1 7 (8 ∷ []) ∷ []
both_cut = refl

-- Three members. Member 0 crashes as member 2 has the second decision and member 1 hasn't. Member 1 gathers: it is told what it lacks alone, and stores what member 2 lacks: nothing

abbrev pub master_crashes : List (Event ℕ)
master_crashes =
    Propose 0 7 ∷ Take 0 ∷ Take 1 ∷ Take 2 ∷ Take 3 ∷ Propose 0 8 ∷ Take 5 ∷ Cut 2 1 ∷ Crash 0 ∷ Told 1 0 ∷ Take 7 ∷ Take 8 ∷ []

takes_over : packets_after 3 master_crashes
    ≡ Store 0 0 (From 0 (7 ∷ [])) ∷ Store 0 0 (From 0 (7 ∷ [])) ∷ Stored 0 1 ∷ Stored 0 1 ∷ Store 0 1 (From 1 (8 ∷ [])) ∷ Store 0 1 (From 1 (8 ∷ []))
    ∷ Stored 0 2 ∷ Ask 1 1 ∷ Tell 1 (From 1 (8 ∷ [])) ∷ Store 1 0 (From 2 []) ∷ []
takes_over = refl

kept_then : kept_after 3 master_crashes
    ≡ keeping 0 0 (7 ∷ 8 ∷ []) ∷ keeping 0 0 (7 ∷ 8 ∷ []) ∷ keeping 1 7 (8 ∷ []) ∷ []
kept_then = refl

-- a late Store of the crashed master finds the seen term higher, and is nothing
late : packets_after 3 (Propose 0 7 ∷ Take 0 ∷ Take 2 ∷ Crash 0 ∷ Told 1 0 ∷ Take 3 ∷ Take 1 ∷ Take 1 ∷ [])
    ≡ Store 0 0 (From 0 (7 ∷ [])) ∷ Store 0 0 (From 0 (7 ∷ [])) ∷ Stored 0 1 ∷ Ask 1 1 ∷ Tell 1 (From 0 []) ∷ []
late = refl

-- one who lacks what is cut off takes the base over
base_taken : with_part {D = ℕ} {S = ℕ} (keeping 0 0 (1 ∷ [])) (Whole (keeping 3 6 (4 ∷ []))) ≡ keeping 3 6 (4 ∷ [])
base_taken = refl

base_kept : with_part {D = ℕ} {S = ℕ} (keeping 2 3 (3 ∷ [])) (Whole (keeping 3 6 (4 ∷ []))) ≡ keeping 2 3 (3 ∷ 4 ∷ [])
base_kept = refl

two_cut : shortened sums 2 1 1 (2 ∷ 3 ∷ 4 ∷ []) ≡ keeping 3 6 (4 ∷ [])
two_cut = refl

same_state : state_of sums (shortened sums 2 1 1 (2 ∷ 3 ∷ 4 ∷ [])) ≡ 10
same_state = refl

-- masters with whole logs

abbrev pub outcomes : Masters ℕ → List (repeated.Event ℕ) → List Outcome
outcomes w [] = []
outcomes w (e ∷ es) = (repeated.happens w e).outcome ∷ outcomes (repeated.happens w e).world es

-- the same Store and the same answer, again and again
abbrev pub again_and_again : List (repeated.Event ℕ)
again_and_again =
    repeated.Propose 0 7 ∷ repeated.Take 0 ∷ repeated.Take 0 ∷ repeated.Propose 0 8
    ∷ repeated.Take 1 ∷ repeated.Take 2 ∷ repeated.Propose 0 8 ∷ repeated.Take 1 ∷ []

again : outcomes (start 2) again_and_again
    ≡ Proposed 1 ∷ StoreTaken ∷ StoreTaken ∷ RefusedBusy 1 ∷ Counted ∷ Counted ∷ Proposed 2 ∷ Counted ∷ []
again = refl

abbrev pub opens : List (repeated.Event ℕ) → Bool
opens es = repeated.is_open (repeated.run (start 2) es)

-- A decision whose master crashed may still come to hold, until the next master asks: it has a higher term then, and the Store is nothing for ever
still_open : opens (repeated.Propose 0 7 ∷ repeated.Crash 0 ∷ []) ≡ true
still_open = refl

open_no_more : opens (repeated.Propose 0 7 ∷ repeated.Crash 0 ∷ repeated.Told 1 0 ∷ []) ≡ false
open_no_more = refl

-- a run of those that keep a base and the rest, as masters with whole logs: to cut is no event of theirs
seen_whole : events_of sums (begin sums 2) (Propose 0 7 ∷ Take 0 ∷ Take 1 ∷ Cut 0 1 ∷ [])
    ≡ repeated.Propose 0 7 ∷ repeated.Take 0 ∷ repeated.Take 1 ∷ []
seen_whole = refl
