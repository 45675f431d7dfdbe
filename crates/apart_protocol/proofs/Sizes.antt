-- A state that a pair names was made by calls that arrived, each once: so it is small where these are few. Numbers are those of the protocol's world.
use Rattle.std.proofs.Common.{◌≡◌, ℕ, ◌+◌, ◌-◌, ◌≤◌, suc, List, [], ◌∷◌, map, length, Option, Some, None, is_some, true, slice_get, Contains, refl, ap, sym, ◌∙◌, subst, inl, inr, arith}
use Rattle.grid_base.specs.Objects.{Object, IsSmall}
use Rattle.partition_protocol.specs.Messages.{Message, NewRow, Sync, Effect, Bridge, Ack, Joined, Freeze, Frozen}
use Rattle.partition_protocol.specs.Node.{Pair}
use Rattle.partition_protocol.specs.History.{Executed, Entry, Called, Reset, state_after}
use Rattle.partition_protocol.specs.Service.{Service}
use Rattle.partition_protocol.specs.World.{World, start, pair_history, pair_state}
use Rattle.partition_protocol.specs.Events.{Event}
use Rattle.partition_protocol.specs.Arrivals as asked
use Rattle.partition_protocol.specs.Arrivals.{Asked, calls_in}
use Rattle.partition_protocol.specs.HistorySizes.{asked_of}
use Rattle.partition_protocol.specs.NamedStates.{IsEffect, effect_call}
use Rattle.partition_protocol.specs.Bounds.{IsRowWithin, AreHeldWithin, IsWithin}
use Rattle.partition_protocol.proofs.Lists.{In, in_contains, contains_in}
use Rattle.partition_protocol.proofs.RowFacts.{in_map}
use Rattle.partition_protocol.proofs.LinkFacts.{packet}
use Rattle.partition_protocol.proofs.Faithful.{part_in, run_part}
use Rattle.partition_protocol.proofs.Theorem.{map_get}
use Rattle.partition_protocol.proofs.Effects.{every_effect_leads}
use Rattle.partition_protocol.proofs.HistorySizes.{every_history_is_of_the_log, every_logged_call_arrived}
use Rattle.partition_protocol.proofs.Bounds.{row_more, node_more, message_more, held_more, every_run_is_within}
use Rattle.apart_protocol.specs.Contents.{Change, Cargo, Made, Parcel}
use Rattle.apart_protocol.specs.Machine.{Step, packet_of, arrivals}
use Rattle.apart_protocol.specs.Claims.{IsNamed, IsGiven, IsRun, node_of, world_after, whole_after}
use Rattle.apart_protocol.specs.Sizes.{AreFewCalls, IsSmallCargo, EveryApartStateIsSmall, EveryApartEffectApplies, EveryApartNumberIsBounded}
use Rattle.apart_protocol.proofs.Theorem.{every_apart_run_is_a_run}
use Rattle.apart_protocol.proofs.Fits.{every_effect_fits}

-- which states so many calls may have made: none the empty one, and each call within the limits adds one
pub record IsCounted {C State : Type 0} (o : Object C State) (limits : C → Type 0) (within : ℕ → State → Type 0) : Type 0 where
  pub begins : within 0 o.empty
  pub grows : (n : ℕ) (s : State) (call : C) (now : ℕ) → limits call → within n s → within (n + 1) (o.after s call now)
  pub widens : (m n : ℕ) (s : State) → m ≤ n → within m s → within n s

-- as the laws of a shelf say it
pub counted_by : {C State : Type 0} (o : Object C State) (limits : C → Type 0) (within : ℕ → State → Type 0) (empty : State) → o.empty ≡ empty → within 0 empty
    → ((n : ℕ) (s : State) (call : C) (now : ℕ) → limits call → within n s → within (n + 1) (o.after s call now))
    → ((m n : ℕ) (s : State) → m ≤ n → within m s → within n s) → IsCounted o limits within
counted_by o limits within empty e begins grows widens = record { begins = subst (within 0) (sym e) begins; grows = grows; widens = widens }

-- a reset begins again with nothing
pub within_after : {C State : Type 0} (o : Object C State) (limits : C → Type 0) (within : ℕ → State → Type 0) → IsCounted o limits within
    → (n : ℕ) (s : State) (es : List (Entry C)) → within n s → ((a : Asked C) → In a (calls_in es) → limits a.call) → within (n + length (calls_in es)) (state_after o s es)
within_after o limits within c n s [] made kept = c.widens n (n + 0) s (omega arith) made
within_after o limits within c n s (Called x ∷ es) made kept =
    c.widens (n + 1 + length (calls_in es)) (n + suc (length (calls_in es))) (state_after o (o.after s x.call x.now) es) (omega arith)
    (within_after o limits within c (n + 1) (o.after s x.call x.now) es (c.grows n s x.call x.now (kept (asked_of x) (inl refl)) made) (λ a i. kept a (inr i)))
within_after o limits within c n s (Reset r ∷ es) made kept = within_after o limits within c n o.empty es (c.widens 0 n o.empty (omega arith) c.begins) kept

-- a run that stands for a world of the protocol
module _ {C State : Type 0} (o : Object C State) (p n b : ℕ) (steps : List (Step C State)) (given : IsGiven o p n b steps) (events : List (Event C)) (r : IsRun o p n b steps events) where
  abbrev pub w : World C
  w = world_after o p n b events

  -- what a history has was asked for in the steps
  pub asked_for : (pair : Pair) (a : Asked C) → In a (calls_in (pair_history w pair)) → In a (arrivals steps)
  asked_for pair a i =
      let log = w.recorded.log in
      let logged = (every_history_is_of_the_log o p n b events pair given.some).calls a (contains_in a (calls_in (pair_history w pair)) i) in
      subst (In a) r.calls (part_in (calls_in log) (asked.arrivals events) a (run_part o (start p n b) events) (in_contains a (calls_in log) logged))

  pub no_more : (pair : Pair) → length (calls_in (pair_history w pair)) ≤ length (arrivals steps)
  no_more pair =
      let here = (every_history_is_of_the_log o p n b events pair given.some).calls_size in
      let there = (every_logged_call_arrived o p n b events).size in
      let same = ap length r.calls in
      omega (arith, here, there, same)

  -- each message that was sent is in flight
  pub flies : (q : Parcel C State) → Contains (whole_after o p n b steps).sent q → Contains w.packets q.packet
  flies q c =
      let sent = (whole_after o p n b steps).sent in
      r.stands.sent q.packet (contains_in q.packet (map packet_of sent) (in_map packet_of sent q (in_contains q sent c)))

  module _ (limits : C → Type 0) (within : ℕ → State → Type 0) (counted : IsCounted o limits within) (few : AreFewCalls limits (arrivals steps)) where
    pub pair_small : (pair : Pair) → IsSmall within (pair_state o w pair)
    pair_small pair = record {
      calls = 0 + length (calls_in (pair_history w pair));
      few = let l = no_more pair in let k = few.few in omega (arith, l, k);
      made = within_after o limits within counted 0 o.empty (pair_history w pair) counted.begins
          (λ a i. few.kept a (contains_in a (arrivals steps) (asked_for pair a i)));
    }

    -- the call of an effect in flight arrived
    pub kept_call : (q : Parcel C State) (v i : ℕ) (x : Executed C) → Contains (whole_after o p n b steps).sent q → q.packet.message ≡ Effect v i → effect_call w v i ≡ Some x → limits x.call
    kept_call q v i x sent e first =
        let effect : IsEffect o w v i = (every_effect_leads o p n b events q.packet v i given.some given.lawful (flies q sent) e).1 in
        let one : Some x ≡ Some effect.executed = sym first ∙ effect.first in
        let same : x ≡ effect.executed = cc in
        let arrived = (every_logged_call_arrived o p n b events).each effect.executed effect.logged in
        subst (λ (y : Executed C). limits y.call) (sym same) (few.kept (asked_of effect.executed) (subst (λ xs. Contains xs (asked_of effect.executed)) r.calls arrived))

    pub cargo_small : (q : Parcel C State) (msg : Message) (cargo : Cargo C State) → Contains (whole_after o p n b steps).sent q → q.packet.message ≡ msg → IsNamed o w msg cargo → IsSmallCargo limits within cargo
    cargo_small q (Sync row count) cargo c e named = subst (IsSmallCargo limits within) (sym named) (pair_small (record { version = row.version; count = count }))
    cargo_small q (Effect v i) cargo c e named =
        subst (IsSmallCargo limits within) (sym named.2) (pair_small (record { version = v; count = i - 1 }), kept_call q v i named.0 c e named.1)
    cargo_small q (NewRow row) cargo c e named = subst (IsSmallCargo limits within) (sym named) tt
    cargo_small q (Bridge row base count) cargo c e named = subst (IsSmallCargo limits within) (sym named) tt
    cargo_small q (Ack v count) cargo c e named = subst (IsSmallCargo limits within) (sym named) tt
    cargo_small q (Joined v m) cargo c e named = subst (IsSmallCargo limits within) (sym named) tt
    cargo_small q (Freeze v) cargo c e named = subst (IsSmallCargo limits within) (sym named) tt
    cargo_small q (Frozen v) cargo c e named = subst (IsSmallCargo limits within) (sym named) tt

pub every_apart_state_is_small : {C State : Type 0} (o : Object C State) (limits : C → Type 0) (within : ℕ → State → Type 0) → IsCounted o limits within → EveryApartStateIsSmall o limits within
every_apart_state_is_small o limits within counted p n b steps given few =
    let r = every_apart_run_is_a_run o p n b steps given in
    record {
      members = λ m x at. subst (IsSmall within) (sym (r.1.stands.contents m x at)) (pair_small o p n b steps given r.0 r.1 limits within counted few x.node.pair);
      sent = λ q c. cargo_small o p n b steps given r.0 r.1 limits within counted few q q.packet.message q.cargo c refl (r.1.stands.named q c);
    }

-- bytes

pub some_of : {X : Type 0} (x : Option X) → is_some x ≡ true → (y : X) × (x ≡ Some y)
some_of None e = absurd cc
some_of (Some y) e = (y, refl)

-- the laws of a shelf by one plan
pub record IsSpelled {C State : Type 0} (o : Object C State) (limits : C → Type 0) (within : ℕ → State → Type 0) (effect_of : State → C → ℕ → Option (List ℕ)) (applied : List ℕ → State → Option State) : Type 0 where
  pub counted : IsCounted o limits within
  pub changes : (s : State) (call : C) (now : ℕ) → o.changes s call now ≡ is_some (effect_of s call now)
  pub made : (s : State) (call : C) (now : ℕ) (effect : List ℕ) → IsSmall within s → limits call → effect_of s call now ≡ Some effect → applied effect s ≡ Some (o.after s call now)

pub every_apart_effect_applies : {C State : Type 0} (o : Object C State) (limits : C → Type 0) (within : ℕ → State → Type 0) (effect_of : State → C → ℕ → Option (List ℕ)) (applied : List ℕ → State → Option State)
    → IsSpelled o limits within effect_of applied → EveryApartEffectApplies o limits effect_of applied
every_apart_effect_applies {C} {State} o limits within effect_of applied laws p n b steps from m v i change x given few sent at took =
    let q : Parcel C State = record { packet = packet from m (Effect v i); cargo = Made change } in
    let small = every_apart_state_is_small o limits within laws.counted p n b steps given few in
    let fits = every_effect_fits o p n b steps from m v i (Made change) x given sent at took in
    let same : change ≡ fits.0 = let e = fits.1 in cc in
    let here : change.before ≡ x.state = ap (λ (c : Change C State). c.before) same ∙ fits.2 in
    let changes : o.changes x.state change.call change.now ≡ true = ap (λ (c : Change C State). o.changes x.state c.call c.now) same ∙ fits.3 in
    let bytes = some_of (effect_of x.state change.call change.now) (sym (laws.changes x.state change.call change.now) ∙ changes) in
    record {
      bytes = bytes.0;
      spelled = subst (λ s. effect_of s change.call change.now ≡ Some bytes.0) (sym here) bytes.1;
      applies = laws.made x.state change.call change.now bytes.0 (small.members m x at) (small.sent q sent).1 bytes.1;
    }

-- numbers

pub every_apart_number_is_bounded : {C State : Type 0} (o : Object C State) → EveryApartNumberIsBounded o
every_apart_number_is_bounded {C} {State} o p n b steps given =
    let r = every_apart_run_is_a_run o p n b steps given in
    let k = length steps + length steps in
    let w : World C = world_after o p n b r.0 in
    let bounds : IsWithin (length r.0) w = every_run_is_within o p n b r.0 in
    record {
      row = row_more (length r.0) k (whole_after o p n b steps).service.row r.1.few (subst (λ (s : Service). IsRowWithin (length r.0) s.row) (sym r.1.stands.service) bounds.row);
      members = λ m x at. node_more (length r.0) k x.node r.1.few
          (bounds.nodes m x.node (subst (λ ns. slice_get ns m ≡ Some x.node) r.1.stands.nodes (map_get node_of (whole_after o p n b steps).members m x at)));
      sent = λ q c. message_more (length r.0) k q.packet.message r.1.few (bounds.packets q.packet (flies o p n b steps given r.0 r.1 q c));
      released = held_more (length r.0) k (whole_after o p n b steps).released r.1.few (subst (AreHeldWithin (length r.0)) (sym r.1.stands.released) bounds.released);
    }
