-- A call that is executed: the state that it leaves, the effect that goes to the backups, and the ring of its primary.
use Rattle.std.proofs.Common.{◌≡◌, ℕ, ◌+◌, ◌-◌, ◌<◌, ◌≤◌, le_refl, Bool, true, false, not, nat_lt, List, [], ◌∷◌, map, Option, Some, None, is_some, unwrap_or, slice_get, refl, ap, sym, ◌∙◌, arith, ◌⊎◌, inl, inr}
use Rattle.partition_table.specs.declared.RowMember.{RowMember}
use Rattle.partition_table.specs.Rows.{is_primary, is_among, backups_of}
use Rattle.partition_protocol.specs.Messages.{Effect}
use Rattle.partition_protocol.specs.Node.{Node, settled}
use Rattle.partition_protocol.specs.CatchUp.{recent_limit}
use Rattle.partition_protocol.specs.Execution.{reached, Executes, executing, sent_on_executing}
use Rattle.partition_protocol.specs.History.{Executed}
use Rattle.partition_protocol.specs.World.{World as Machine, is_live, pair_state}
use Rattle.partition_protocol.specs.NamedStates.{effect_call}
use Rattle.partition_protocol.specs.Events.{Event, Call, Happened, entry_of, executed_with, executes, happens}
use Rattle.partition_protocol.specs.Claims.{IsLawful}
use Rattle.partition_protocol.proofs.Lists.{Every, set_get_same}
use Rattle.partition_protocol.proofs.Invariant.{NodeAt}
use Rattle.partition_protocol.proofs.RowFacts.{not_true, both_right, less, not_less}
use Rattle.partition_protocol.proofs.Forward.{le_cases}
use Rattle.partition_protocol.proofs.EventFacts.{call_executed, reached_leads}
use Rattle.partition_protocol.proofs.EffectCalls.{first_called}
use Rattle.partition_protocol.proofs.States.{state_executed}
use Rattle.partition_protocol.proofs.NamedStates.{node_known, state_after_event}
use Rattle.member_wire.specs.Said.{said_with}
use Rattle.grid_base.specs.Shelves.{Meaning}
use Rattle.partition_world.specs.InFlight.{state_at, bytes_by, effect_bytes, IsRing}
use Rattle.partition_world.proofs.Effects.{state_called}
use Rattle.partition_world.specs.Shelves.{IsShelf}
use Rattle.partition_world.specs.Sending.{carried_of, HasNewest, IsNamed}
use Rattle.partition_world.proofs.EffectsLead.{lawful, Stood}
use Rattle.partition_world.proofs.Rings as rings

module _ {S C State : Type 0} (k : Meaning S C State) (limits : C → Type 0) (within : ℕ → State → Type 0) (applied : List ℕ → State → Option State) (shelf : IsShelf k limits within applied)
    (w : Machine C) (stood : Stood k.object limits within w) (m conn number : ℕ) (call : C) (now : ℕ) (n : Node) (lives : is_live w m ≡ true) (there : NodeAt w.nodes m n) (executed : reached m n ≡ Executes) where
  abbrev pub event : Event C
  event = Call m conn number call now

  abbrev pub next : Machine C
  next = (happens k.object w event).world

  abbrev pub before : State
  before = pair_state k.object w n.pair

  abbrev pub changes : Bool
  changes = k.object.changes before call now

  abbrev pub after : Node
  after = executing changes conn number n

  pub law : IsLawful k.object
  law = lawful k limits within applied shelf

  pub leads : is_primary n.known m ≡ true
  leads = (reached_leads m n executed).1

  pub thawed : n.frozen ≡ false
  thawed = (reached_leads m n executed).2

  pub alive : is_among w.crashed m ≡ false
  alive = not_true (is_among w.crashed m) (both_right (nat_lt m w.members) (not (is_among w.crashed m)) lives)

  pub next_is : next ≡ (executes k.object w m conn number call now n).world
  next_is = ap (λ (h : Happened C). h.world) (call_executed k.object w m conn number call now n lives there executed)

  pub node_next : NodeAt next.nodes m (settled after)
  node_next = ap (λ (u : Machine C). slice_get u.nodes m) next_is ∙ set_get_same w.nodes m (settled after) n there

  pub other_stays : (q : ℕ) (x : Node) → NodeAt w.nodes q x → pair_state k.object next x.pair ≡ pair_state k.object w x.pair
  other_stays q x at = state_after_event k.object w stood.good.0 stood.good.1 law x.pair (node_known k.object w stood.good.0 stood.good.1 q x at) event

  -- the entry that is recorded, with an effect or without
  abbrev pub entry : Bool → Executed C
  entry b = entry_of k.object before conn number call now (executing b conn number n).pair

  abbrev pub run_with : Bool → Machine C
  run_with b = (executed_with k.object w m conn number call now before b (executing b conn number n)).world

  pub state_with : (b : Bool) → pair_state k.object (run_with b) (executing b conn number n).pair ≡ k.object.after before call now
  state_with true =
      state_executed k.object w stood.good.0 stood.good.1 m n there alive leads thawed (entry true) (n.pair.count + 1) (n.recent + 1)
      (record { conn = conn; number = number; seen = n.pair.count + 1 }) (omega arith) refl refl refl refl refl refl
  state_with false =
      state_executed k.object w stood.good.0 stood.good.1 m n there alive leads thawed (entry false) n.pair.count n.recent
      (record { conn = conn; number = number; seen = n.pair.count }) (le_refl n.pair.count) refl refl refl refl refl refl

  -- its pair names then what the call leaves
  pub state_next : pair_state k.object next (settled after).pair ≡ k.object.after before call now
  state_next = ap (λ (u : Machine C). pair_state k.object u after.pair) next_is ∙ state_with changes

  -- So a shelf that has what its effect makes, or is the same where there is none, has what the pair names
  pub called_named : limits call → (new : State) → ((bytes : List ℕ) → k.effect_of before call now ≡ Some bytes → applied bytes before ≡ Some new) → (k.effect_of before call now ≡ None → new ≡ before)
      → new ≡ pair_state k.object next (settled after).pair
  called_named kept new made same =
      state_called applied (k.effect_of before call now) before new (k.object.after before call now) made same
      (λ bytes e. shelf.made_by_effect before call now bytes (stood.small n.pair) kept e) (λ e. shelf.same_without_effect before call now e)
      ∙ sym state_next

  -- a call with an effect is the first of its number
  pub first_next : changes ≡ true → effect_call next n.pair.version (n.pair.count + 1) ≡ Some (entry true)
  first_next e =
      ap (λ (u : Machine C). effect_call u n.pair.version (n.pair.count + 1)) (next_is ∙ ap run_with e)
      ∙ first_called k.object w stood.good.0 stood.good.1 m n there alive leads thawed (entry true) (n.pair.count + 1) (n.recent + 1)
      (record { conn = conn; number = number; seen = n.pair.count + 1 }) (omega arith) refl refl refl refl refl refl (omega arith)

  -- and its bytes are those of the new number
  pub bytes_next : changes ≡ true → effect_bytes k next n.pair.version (n.pair.count + 1) ≡ unwrap_or (k.effect_of before call now) []
  bytes_next e =
      let back : n.pair.count + 1 - 1 ≡ n.pair.count = omega arith in
      ap (bytes_by k (state_at k next n.pair.version (n.pair.count + 1 - 1))) (first_next e)
      ∙ ap (λ c. bytes_by k (state_at k next n.pair.version c) (Some (entry true))) back
      ∙ ap (λ s. bytes_by k s (Some (entry true))) (other_stays m n there)

  pub effect_next : (bytes : List ℕ) → k.effect_of before call now ≡ Some bytes → (changes ≡ true) × (effect_bytes k next n.pair.version (n.pair.count + 1) ≡ bytes)
  effect_next bytes e =
      let changed : changes ≡ true = shelf.changes_by_effect before call now ∙ ap is_some e in
      (changed, bytes_next changed ∙ ap (λ b. unwrap_or b []) e)

  -- What the primary keeps then are the call's bytes, at the new count, and some of the effects that it kept
  pub record KeepsOn (kept then : ℕ → Option (List ℕ)) : Type 0 where
    pub newest : (i : ℕ) (bytes : List ℕ) → n.pair.count < i → i ≤ after.pair.count → then i ≡ Some bytes → k.effect_of before call now ≡ Some bytes
    pub older : (i : ℕ) (bytes : List ℕ) → i ≤ n.pair.count → then i ≡ Some bytes → kept i ≡ Some bytes

  pub ring_next : (kept then : ℕ → Option (List ℕ)) → IsRing k w n kept → KeepsOn kept then → IsRing k next (settled after) then
  ring_next kept then ring on = record {
    known = λ i bytes l r is. known i bytes l is (le_cases' i) r;
    earlier = λ e b i bytes z c s l r is. (rings.ring_stays k limits within applied shelf w stood event m n there leads kept ring).earlier e b i bytes z c s l r (on.older i bytes (let a = begins in omega (arith, r, a)) is);
  }
    where
      version : n.pair.version ≡ n.known.version
      version = (rings.begins k limits within applied shelf w stood event m n there leads).contents

      begins : n.adopted ≤ n.pair.count
      begins = (rings.begins k limits within applied shelf w stood event m n there leads).adopted

      le_cases' : (i : ℕ) → (i ≤ n.pair.count) ⊎ (n.pair.count < i)
      le_cases' i = go (nat_lt n.pair.count i) refl
        where
          go : (b : Bool) → nat_lt n.pair.count i ≡ b → (i ≤ n.pair.count) ⊎ (n.pair.count < i)
          go true e = inr (less n.pair.count i e)
          go false e = inl (not_less n.pair.count i e)

      next_one : (b : Bool) (i : ℕ) → n.pair.count < i → i ≤ (executing b conn number n).pair.count → i ≡ n.pair.count + 1
      next_one true i l r = omega (arith, l, r)
      next_one false i l r = absurd (omega (arith, l, r))

      known : (i : ℕ) (bytes : List ℕ) → n.adopted < i → then i ≡ Some bytes → (i ≤ n.pair.count) ⊎ (n.pair.count < i) → i ≤ after.pair.count → bytes ≡ effect_bytes k next n.known.version i
      known i bytes l is (inl old) r = (rings.ring_stays k limits within applied shelf w stood event m n there leads kept ring).known i bytes l old (on.older i bytes old is)
      known i bytes l is (inr new) r =
          sym (effect_next bytes (on.newest i bytes new r is)).1
          ∙ ap (λ v. effect_bytes k next v (n.pair.count + 1)) version ∙ ap (λ c. effect_bytes k next n.known.version c) (sym (next_one changes i new r))

  -- it has its newest ones, where the new one is kept and of the others only those that are no longer among the newest go
  pub newest_next : (kept then : ℕ → Option (List ℕ)) → HasNewest n kept
      → ((bytes : List ℕ) → k.effect_of before call now ≡ Some bytes → then (n.pair.count + 1) ≡ Some bytes)
      → ((i : ℕ) (bytes : List ℕ) → i ≤ n.pair.count → after.pair.count < i + recent_limit → kept i ≡ Some bytes → then i ≡ Some bytes) → HasNewest after then
  newest_next kept then newest made on = go changes refl
    where
      made_one : changes ≡ true → (bytes : List ℕ) × (then (n.pair.count + 1) ≡ Some bytes)
      made_one e = by_effect (k.effect_of before call now) refl (sym (shelf.changes_by_effect before call now) ∙ e)
        where
          by_effect : (x : Option (List ℕ)) → k.effect_of before call now ≡ x → is_some x ≡ true → (bytes : List ℕ) × (then (n.pair.count + 1) ≡ Some bytes)
          by_effect None s z = absurd cc
          by_effect (Some bytes) s z = (bytes, made bytes s)

      counted : (b : Bool) → changes ≡ b → after.pair.count ≡ (executing b conn number n).pair.count
      counted b e = ap (λ c. (executing c conn number n).pair.count) e

      go : (b : Bool) → changes ≡ b → HasNewest (executing b conn number n) then
      go false e i l r =
          let is = newest i l r in
          (is.0, on i is.0 r (let c = counted false e in omega (arith, c, l)) is.1)
      go true e i l r = by_number (le_cases i (n.pair.count + 1) r)
        where
          by_number : (i ≡ n.pair.count + 1) ⊎ (i < n.pair.count + 1) → (bytes : List ℕ) × (then i ≡ Some bytes)
          by_number (inl z) = let is = made_one e in (is.0, ap then z ∙ is.1)
          by_number (inr z) =
              let is = newest i (omega (arith, l)) (omega (arith, z)) in
              (is.0, on i is.0 (omega (arith, z)) (let c = counted true e in omega (arith, c, l)) is.1)

  -- what is sent is the call's effect, if it has one
  pub sent_named_next : (then : ℕ → Option (List ℕ)) (state : State) → IsRing k next (settled after) then → HasNewest after then → Every (IsNamed k next (carried_of k.snapshot_of state then)) (sent_on_executing changes after)
  sent_named_next then state ring newest = go changes refl
    where
      version : n.pair.version ≡ n.known.version
      version = (rings.begins k limits within applied shelf w stood event m n there leads).contents

      begins : n.adopted ≤ n.pair.count
      begins = (rings.begins k limits within applied shelf w stood event m n there leads).adopted

      right : (b : Bool) → changes ≡ b → b ≡ true → unwrap_or (then (n.pair.count + 1)) [] ≡ effect_bytes k next n.pair.version (n.pair.count + 1)
      right b e z =
          let counted : after.pair.count ≡ n.pair.count + 1 = ap (λ c. (executing c conn number n).pair.count) (e ∙ z) in
          let recent : after.recent ≡ n.recent + 1 = ap (λ c. (executing c conn number n).recent) (e ∙ z) in
          let is = newest (n.pair.count + 1) (omega (arith, counted, recent)) (omega (arith, counted)) in
          ap (λ x. unwrap_or x []) is.1 ∙ ring.known (n.pair.count + 1) is.0 (let a = begins in omega (arith, a)) (omega (arith, counted)) is.1
          ∙ ap (λ v. effect_bytes k next v (n.pair.count + 1)) (sym version)

      one : changes ≡ true → (to : ℕ) → IsNamed k next (carried_of k.snapshot_of state then) (record { to = to; message = Effect n.pair.version (n.pair.count + 1) })
      one e to = ap (λ bytes. said_with (record { snapshot = λ version count. []; effect = λ version number. bytes }) (Effect n.pair.version (n.pair.count + 1))) (right true e refl)

      each : changes ≡ true → (bs : List RowMember) → Every (IsNamed k next (carried_of k.snapshot_of state then)) (map (λ (b : RowMember). record { to = b.member; message = Effect n.pair.version (n.pair.count + 1) }) bs)
      each e [] = tt
      each e (b ∷ bs) = (one e b.member, each e bs)

      go : (b : Bool) → changes ≡ b → Every (IsNamed k next (carried_of k.snapshot_of state then)) (sent_on_executing b (executing b conn number n))
      go true e = each e (backups_of n.known)
      go false e = tt
