-- What is known of the world of a run whose calls keep to the limits of the shelf; and each effect in flight leads from the state before it to the state after it.
use Rattle.std.proofs.Common.{◌≡◌, ℕ, ◌+◌, ◌-◌, ◌<◌, ◌≤◌, ◌^◌, true, false, List, [], ◌∷◌, ◌++◌, length, Option, Some, None, is_some, unwrap_or, All, refl, ap, sym, ◌∙◌, subst, arith, length-append}
use Rattle.std.proofs.lemmas.List.Elements.{All-append}
use Rattle.grid_base.specs.Objects.{Object, IsSmall}
use Rattle.partition_protocol.specs.Messages.{Effect, Packet}
use Rattle.partition_protocol.specs.Node.{Pair, Node}
use Rattle.partition_protocol.specs.History.{Executed, Called}
use Rattle.partition_protocol.specs.World.{World as Machine, start, pair_state}
use Rattle.partition_protocol.specs.Events.{Event, happens, run}
use Rattle.partition_protocol.specs.Arrivals.{arrivals}
use Rattle.partition_protocol.specs.Claims.{IsLawful}
use Rattle.partition_protocol.specs.HistorySizes.{asked_of}
use Rattle.partition_protocol.specs.WellFormed.{IsRowOf, IsWellFormed}
use Rattle.partition_protocol.specs.NamedStates.{IsEffect}
use Rattle.partition_protocol.proofs.Lists.{In, Every, in_contains, contains_in, every_in}
use Rattle.partition_protocol.proofs.Invariant.{NodeAt}
use Rattle.partition_protocol.proofs.WellFormed.{every_run_is_well_formed}
use Rattle.partition_protocol.proofs.Events.{Good}
use Rattle.partition_protocol.proofs.EventFacts.{run_next}
use Rattle.partition_protocol.proofs.States.{Bridged, IsEmptied, emptied_step}
use Rattle.partition_protocol.proofs.NamedStates.{grid_bridged}
use Rattle.partition_protocol.proofs.Effects.{MessageLed, PacketLed, Led, grid_led}
use Rattle.partition_protocol.proofs.HistorySizes.{every_logged_call_arrived}
use Rattle.partition_protocol.proofs.Theorem.{grid_good}
use Rattle.grid_base.specs.Shelves.{Meaning}
use Rattle.partition_world.specs.InFlight.{state_at, bytes_by, effect_bytes}
use Rattle.partition_world.specs.Events.{EventWithin}
use Rattle.partition_world.proofs.Newest.{all_one}
use Rattle.partition_world.proofs.SmallStates.{AskedWithin, arrivals_within, every_of_all, state_small}
use Rattle.partition_world.specs.Shelves.{IsShelf, IsLeading}

-- a call that changes nothing has no effect, and leaves the state
pub lawful : {S C State : Type 0} (k : Meaning S C State) (limits : C → Type 0) (within : ℕ → State → Type 0) (applied : List ℕ → State → Option State) → IsShelf k limits within applied → IsLawful k.object
lawful {C = C} {State = State} k limits within applied shelf = record { unchanged = unchanged }
  where
    by_effect : (e : Option (List ℕ)) (s : State) (c : C) (now : ℕ) → k.effect_of s c now ≡ e → is_some e ≡ false → k.object.after s c now ≡ s
    by_effect None s c now e z = shelf.same_without_effect s c now e
    by_effect (Some bytes) s c now e z = absurd cc

    unchanged : (s : State) (c : C) (now : ℕ) → k.object.changes s c now ≡ false → k.object.after s c now ≡ s
    unchanged s c now e = by_effect (k.effect_of s c now) s c now refl (sym (shelf.changes_by_effect s c now) ∙ e)

pub run_emptied : {C State : Type 0} (o : Object C State) (w : Machine C) (es : List (Event C)) → Every (IsEmptied o) w.recorded.openings → Every (IsEmptied o) (run o w es).recorded.openings
run_emptied o w [] h = h
run_emptied o w (e ∷ es) h = run_emptied o (happens o w e).world es (emptied_step o w e h)

-- What is known of the world of a run
pub record Stood {C State : Type 0} (o : Object C State) (limits : C → Type 0) (within : ℕ → State → Type 0) (w : Machine C) : Type 0 where
  pub good : Good o w
  pub led : Led o w
  pub bridged : Bridged o w
  pub opened : Every (IsEmptied o) w.recorded.openings
  pub small : (p : Pair) → IsSmall within (pair_state o w p)
  pub kept : (x : Executed C) → In (Called x) w.recorded.log → limits x.call
  pub rows : (m : ℕ) (n : Node) → NodeAt w.nodes m n → IsRowOf w.members n.known

module _ {S C State : Type 0} (k : Meaning S C State) (limits : C → Type 0) (within : ℕ → State → Type 0) (applied : List ℕ → State → Option State) (shelf : IsShelf k limits within applied) where
  -- of any run of fewer than 2^32 events
  pub run_stood : (partition members backups : ℕ) (events : List (Event C)) → 1 ≤ members → length events < 2 ^ 32 → All (EventWithin limits) events → Stood k.object limits within (run k.object (start partition members backups) events)
  run_stood partition members backups events some few all = record {
    good = grid_good k.object partition members backups events some;
    led = grid_led k.object partition members backups events some;
    bridged = grid_bridged k.object (lawful k limits within applied shelf) partition members backups events some;
    opened = run_emptied k.object (start partition members backups) events tt;
    small = state_small k.object limits within shelf.begins_within shelf.grows_within shelf.widens partition members backups events some few all;
    kept = λ x i. every_in (AskedWithin limits) (arrivals events) (asked_of x) (arrivals_within limits events (every_of_all (EventWithin limits) events all))
        (in_contains (asked_of x) (arrivals events) ((every_logged_call_arrived k.object partition members backups events).each x (contains_in (Called x) w.recorded.log i)));
    rows = λ m n at. subst (λ j. IsRowOf j n.known) (sym formed.same_members) (formed.known m n at);
  }
    where
      w : Machine C
      w = run k.object (start partition members backups) events

      formed : IsWellFormed partition members backups (run k.object (start partition members backups) events)
      formed = every_run_is_well_formed k.object partition members backups events

  -- and of the world that one event more leaves
  pub next_stood : (partition members backups : ℕ) (events : List (Event C)) (event : Event C) → 1 ≤ members → length events + 1 < 2 ^ 32 → All (EventWithin limits) events → EventWithin limits event
      → Stood k.object limits within (happens k.object (run k.object (start partition members backups) events) event).world
  next_stood partition members backups events event some few all one =
      subst (Stood k.object limits within) (run_next k.object (start partition members backups) events event)
      (run_stood partition members backups (events ++ event ∷ []) some (let whole = length-append events (event ∷ []) in omega (arith, few, whole)) (All-append (EventWithin limits) events (event ∷ []) all (all_one (EventWithin limits) event one)))

  module _ (w : Machine C) (stood : Stood k.object limits within w) where
    -- the bytes of an effect that there is
    pub some_bytes : (s : State) (x : Executed C) → is_some (k.effect_of s x.call x.now) ≡ true → k.effect_of s x.call x.now ≡ Some (unwrap_or (k.effect_of s x.call x.now) [])
    some_bytes s x e = go (k.effect_of s x.call x.now) e
      where
        go : (b : Option (List ℕ)) → is_some b ≡ true → b ≡ Some (unwrap_or b [])
        go None e = absurd cc
        go (Some bytes) e = refl

    pub effect_leads : (v i : ℕ) → IsEffect k.object w v i → IsLeading k applied w v i
    effect_leads v i e = record { call = x; first = e.first; bytes = bytes; leads = leads }
      where
        x : Executed C
        x = e.executed

        same : effect_bytes k w v i ≡ unwrap_or (k.effect_of (state_at k w v (i - 1)) x.call x.now) []
        same = ap (bytes_by k (state_at k w v (i - 1))) e.first

        bytes : k.effect_of (state_at k w v (i - 1)) x.call x.now ≡ Some (effect_bytes k w v i)
        bytes = some_bytes (state_at k w v (i - 1)) x (sym (shelf.changes_by_effect (state_at k w v (i - 1)) x.call x.now) ∙ e.changes) ∙ ap Some (sym same)

        leads : applied (effect_bytes k w v i) (state_at k w v (i - 1)) ≡ Some (state_at k w v i)
        leads =
            shelf.made_by_effect (state_at k w v (i - 1)) x.call x.now (effect_bytes k w v i) (stood.small (record { version = v; count = i - 1 })) (stood.kept x (in_contains (Called x) w.recorded.log e.logged)) bytes
            ∙ ap Some (sym e.state)

    -- an Effect in flight
    pub flying_effect : (p : Packet) (v i : ℕ) → In p w.packets → p.message ≡ Effect v i → (1 ≤ i) × IsEffect k.object w v i
    flying_effect p v i j said =
        let led : MessageLed k.object w (Effect v i) = subst (MessageLed k.object w) said (every_in (PacketLed k.object w) w.packets p stood.led.packets j) in
        (led.0, led.1 (lawful k limits within applied shelf))

    pub flying_leads : (p : Packet) (v i : ℕ) → In p w.packets → p.message ≡ Effect v i → IsLeading k applied w v i
    flying_leads p v i j said = effect_leads v i (flying_effect p v i j said).1

    -- and a Sync in flight is of a small state
    pub sync_small : (v c : ℕ) → IsSmall within (state_at k w v c)
    sync_small v c = stood.small (record { version = v; count = c })
