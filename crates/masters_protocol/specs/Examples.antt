-- Worked examples, which the definitions compute.
use Rattle.std.specs.Prelude.{◌≡◌, ℕ, List, [], ◌∷◌, refl}
use Rattle.masters_protocol.specs.Members.{Outcome, NothingDone, Done, Proposed, RefusedBusy, StoreTaken, Counted, Asked, TellKept, Other, Dropped}
use Rattle.masters_protocol.specs.Machine.{Masters, Event, Told, Crash, Propose, Deliver, Lose, Resend, happens, run, start}

abbrev pub outcomes : Masters ℕ → List (Event ℕ) → List Outcome
outcomes w [] = []
outcomes w (e ∷ es) = (happens w e).outcome ∷ outcomes (happens w e).world es

abbrev pub published_after : Masters ℕ → List (Event ℕ) → List ℕ
published_after w es = (run w es).published

-- three members; a decision is stored at both others, and then published
first_run : outcomes (start 3) (Propose 7 ∷ Propose 8 ∷ Deliver 0 1 0 ∷ Deliver 0 2 0 ∷ Deliver 1 0 0 ∷ Deliver 2 0 0 ∷ Propose 8 ∷ [])
    ≡ Proposed 1 ∷ RefusedBusy 1 ∷ StoreTaken ∷ StoreTaken ∷ Counted ∷ Counted ∷ Proposed 2 ∷ []
first_run = refl

first_published : published_after (start 3) (Propose 7 ∷ Deliver 0 1 0 ∷ Deliver 0 2 0 ∷ Deliver 1 0 0 ∷ Deliver 2 0 0 ∷ []) ≡ 7 ∷ []
first_published = refl

-- the master crashes before it publishes; the next one gathers the decision, and publishes it
second_run : outcomes (start 3) (Propose 7 ∷ Deliver 0 1 0 ∷ Crash 0 ∷ Told 1 0 ∷ Deliver 1 2 0 ∷ Propose 8 ∷ Deliver 2 1 0 ∷ Deliver 1 2 0 ∷ Deliver 2 1 0 ∷ Deliver 0 2 0 ∷ Deliver 1 0 0 ∷ Resend 1 ∷ [])
    ≡ Proposed 1 ∷ StoreTaken ∷ Done ∷ Done ∷ Asked ∷ NothingDone ∷ TellKept ∷ StoreTaken ∷ Counted ∷ Other ∷ Dropped ∷ NothingDone ∷ []
second_run = refl

second_published : published_after (start 3) (Propose 7 ∷ Deliver 0 1 0 ∷ Crash 0 ∷ Told 1 0 ∷ Deliver 1 2 0 ∷ Deliver 2 1 0 ∷ Deliver 1 2 0 ∷ Deliver 2 1 0 ∷ []) ≡ 7 ∷ []
second_published = refl

-- with no peer left a decision is published at once
alone : published_after (start 2) (Crash 0 ∷ Told 1 0 ∷ Propose 7 ∷ []) ≡ 7 ∷ []
alone = refl

-- a serving master that sent no Store has none to send again; a later one has, even of an empty log
again : outcomes (start 3) (Resend 0 ∷ Crash 0 ∷ Told 1 0 ∷ Resend 1 ∷ Deliver 1 2 1 ∷ Deliver 2 1 0 ∷ Resend 1 ∷ Lose 1 2 0 ∷ Deliver 1 2 0 ∷ Deliver 1 2 0 ∷ Deliver 2 1 0 ∷ Resend 1 ∷ [])
    ≡ NothingDone ∷ Done ∷ Done ∷ Done ∷ Asked ∷ TellKept ∷ Done ∷ Done ∷ StoreTaken ∷ StoreTaken ∷ Counted ∷ NothingDone ∷ []
again = refl
