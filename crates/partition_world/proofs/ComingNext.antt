-- What makes it that an event may come next: it brings no call, or it is the first.
use Rattle.std.proofs.Common.{◌≡◌, ℕ, ◌<◌, List, [], ◌∷◌, ◌++◌, map, Contains, ap, sym, ◌∙◌, subst, arith, append-nil}
use Rattle.partition_protocol.specs.Events.{Event, Call, Deliver, Lose, Repeat, Resend, Crash, Detect, BeginMove, BeginJoin, BeginHandover, Advance, Reopen}
use Rattle.partition_protocol.specs.Arrivals.{Asked, CallName, NamedOnce, arrivals, asked_by, name}
use Rattle.partition_world.specs.declared.world.World.{World}
use Rattle.grid_base.specs.Shelves.{Meaning}
use Rattle.partition_world.specs.Events.{EventWithin}
use Rattle.partition_world.specs.Worlds.{steps_of, StandsFor, MayCome, Comes}
use Rattle.partition_world.proofs.HeldAnswers.{arrivals_more}
-- without a call there is nothing to keep to
use Rattle.partition_protocol.specs.Recorded.{Recorded}

quiet_within : {C : Type 0} (limits : C → Type 0) (event : Event C) → asked_by event ≡ [] → EventWithin limits event
quiet_within limits (Call member conn number call now) quiet = absurd cc
quiet_within limits (Deliver from to place) quiet = tt
quiet_within limits (Lose from to place) quiet = tt
quiet_within limits (Repeat from to place) quiet = tt
quiet_within limits (Resend end) quiet = tt
quiet_within limits (Crash member) quiet = tt
quiet_within limits (Detect member) quiet = tt
quiet_within limits (BeginMove from to) quiet = tt
quiet_within limits (BeginJoin to) quiet = tt
quiet_within limits (BeginHandover from to) quiet = tt
quiet_within limits Advance quiet = tt
quiet_within limits Reopen quiet = tt

-- and no name is new
quiet_arrivals : {C : Type 0} (events : List (Event C)) (event : Event C) → asked_by event ≡ [] → arrivals (events ++ event ∷ []) ≡ arrivals events
quiet_arrivals events event quiet = arrivals_more events event ∙ ap (λ asked. arrivals events ++ asked) quiet ∙ append-nil (arrivals events)

may_come : {S R Plan C State : Type 0} (k : Meaning S C State) (records : R → Recorded C → Type 0) (limits : C → Type 0) (world : World S R Plan C) (events : List (Event C)) (event : Event C)
    → StandsFor k records limits world events → steps_of world < 1000 → asked_by event ≡ [] → MayCome limits events event
may_come {C = C} k records limits world events event stands few quiet = record {
  room = let steps = stands.steps in omega (arith, steps, few);
  within = quiet_within limits event quiet;
  once = subst (λ (asked : List (Asked C)). NamedOnce (map name asked)) (sym (quiet_arrivals events event quiet)) stands.once;
}

pub quiet_comes : {S R Plan C State : Type 0} (k : Meaning S C State) (records : R → Recorded C → Type 0) (limits : C → Type 0) (world : World S R Plan C) (event : Event C)
    (some : (events : List (Event C)) × StandsFor k records limits world events) → steps_of world < 1000 → asked_by event ≡ [] → Comes k records limits world some.0 event
quiet_comes k records limits world event some few quiet = record {
  stands = some.1;
  may = may_come k records limits world some.0 event some.1 few quiet;
}

nobody : (m : CallName) → Contains [] m → ⊥
nobody m (k, within, e) = absurd (omega (arith, within))

-- the first event of a world has its name for itself
pub first_comes : {S R Plan C State : Type 0} (k : Meaning S C State) (records : R → Recorded C → Type 0) (limits : C → Type 0) (world : World S R Plan C) (member conn number : ℕ) (call : C) (now : ℕ)
    → StandsFor k records limits world [] → limits call → Comes k records limits world [] (Call member conn number call now)
first_comes k records limits world member conn number call now stands small = record {
  stands = stands;
  may = record {
    room = omega arith;
    within = small;
    once = (λ m among. absurd (nobody m among), tt);
  };
}
