-- What holds of a partition whose members are apart, after every list of steps that may happen.
use Rattle.std.specs.Prelude.{◌≡◌, ℕ, ◌+◌, ◌-◌, ◌≤◌, ◌<◌, ◌⊎◌, ◌==◌, true, List, [], ◌++◌, map, filter, length, Some, slice_get, Contains}
use Rattle.grid_base.specs.Objects.{Object}
use Rattle.partition_table.specs.declared.Row.{Row}
use Rattle.partition_table.specs.Rows.{initial_row}
use Rattle.partition_protocol.specs.Messages.{Message, Sync, Effect, Packet}
use Rattle.partition_protocol.specs.Took.{Applied}
use Rattle.partition_protocol.specs.Node.{Node, Held}
use Rattle.partition_protocol.specs.Replica.{taking}
use Rattle.partition_protocol.specs.Service.{NoMove}
use Rattle.partition_protocol.specs.History.{Executed, Entry, Called, IsLegal}
use Rattle.partition_protocol.specs.World as world
use Rattle.partition_protocol.specs.World.{World, pair_state, trail}
use Rattle.partition_protocol.specs.Events as protocol
use Rattle.partition_protocol.specs.Events.{run}
use Rattle.partition_protocol.specs.Arrivals as asked
use Rattle.partition_protocol.specs.Arrivals.{name, NamedOnce}
use Rattle.partition_protocol.specs.Sequences.{IsSubsequence, IsFrontOf}
use Rattle.partition_protocol.specs.Claims.{IsSafe, IsFaithful, IsLawful, Stands, is_reset}
use Rattle.partition_protocol.specs.NamedStates.{effect_call}
use Rattle.apart_protocol.specs.Contents.{Change, Cargo, Bare, Whole, Made, Parcel}
use Rattle.apart_protocol.specs.Member.{Member, Own, opening, member_after, sent_over, executed_over, released_over}
use Rattle.apart_protocol.specs.Rulings.{service_after}
use Rattle.apart_protocol.specs.Machine.{Apart, Step, begin, packet_of, after, MayHappen, arrivals, steps_of, rulings_of}

-- contents

-- the change that a call made as the effect of that number of a version
abbrev pub change_at : {C State : Type 0} → Object C State → World C → (version number : ℕ) → Executed C → Change C State
change_at o w version number x = record { before = pair_state o w (record { version = version; count = number - 1 }); call = x.call; now = x.now }

-- What goes with a message is what the message names: with a Sync the state of its pair, with an Effect the first call of that number, and the state before it
abbrev pub IsNamed : {C State : Type 0} → Object C State → World C → Message → Cargo C State → Type 0
IsNamed o w (Sync row count) cargo = cargo ≡ Whole (pair_state o w (record { version = row.version; count = count }))
IsNamed {C} o w (Effect version number) cargo = (x : Executed C) × (effect_call w version number ≡ Some x) × (cargo ≡ Made (change_at o w version number x))
IsNamed o w _ cargo = cargo ≡ Bare

abbrev pub node_of : {C State : Type 0} → Member C State → Node
node_of x = x.node

-- a run

-- The whole is the protocol's world, with the contents that the protocol only names
pub record StandsFor {C State : Type 0} (o : Object C State) (a : Apart C State) (w : World C) : Type 0 where
  pub nodes : map node_of a.members ≡ w.nodes
  pub crashed : a.crashed ≡ w.crashed
  pub service : a.service ≡ w.service
  pub released : a.released ≡ w.released
  pub log : a.log ≡ w.recorded.log
  -- all that was ever sent is in flight, and nothing else
  pub sent : (q : Packet) → Contains (map packet_of a.sent) q → Contains w.packets q
  pub flying : (q : Packet) → Contains w.packets q → Contains (map packet_of a.sent) q
  -- the contents of each member are the state that its pair names
  pub contents : (m : ℕ) (x : Member C State) → slice_get a.members m ≡ Some x → x.state ≡ pair_state o w x.node.pair
  -- and what goes with each message is what it names
  pub named : (q : Parcel C State) → Contains a.sent q → IsNamed o w q.packet.message q.cargo

-- the protocol's world after these events
abbrev pub world_after : {C State : Type 0} → Object C State → (partition n backups : ℕ) → List (protocol.Event C) → World C
world_after o p n b es = run o (world.start p n b) es

-- the whole after these steps
abbrev pub whole_after : {C State : Type 0} → Object C State → (partition n backups : ℕ) → List (Step C State) → Apart C State
whole_after o p n b ss = after o p n b (begin o p n b) ss

-- the steps are a run of the protocol, by these events
pub record IsRun {C State : Type 0} (o : Object C State) (p n b : ℕ) (steps : List (Step C State)) (events : List (protocol.Event C)) : Type 0 where
  pub calls : asked.arrivals events ≡ arrivals steps
  -- a step makes at most two
  pub few : length events ≤ length steps + length steps
  pub stands : StandsFor o (whole_after o p n b steps) (world_after o p n b events)

-- the steps may happen, from the start of a partition with members, for an object whose calls without an effect leave the state
pub record IsGiven {C State : Type 0} (o : Object C State) (p n b : ℕ) (steps : List (Step C State)) : Type 0 where
  pub some : 1 ≤ n
  pub lawful : IsLawful o
  pub may : MayHappen o p n b (begin o p n b) steps

abbrev pub EveryApartRunIsARun : {C State : Type 0} → Object C State → Type 0
EveryApartRunIsARun {C} {State} o =
    (partition n backups : ℕ) (steps : List (Step C State)) → IsGiven o partition n backups steps
    → (events : List (protocol.Event C)) × IsRun o partition n backups steps events

-- Steps that come later make events that come later: so whatever is claimed of a longer run of the protocol is claimed of more steps
abbrev pub EveryApartRunGoesOn : {C State : Type 0} → Object C State → Type 0
EveryApartRunGoesOn {C} {State} o =
    (partition n backups : ℕ) (steps more : List (Step C State)) → IsGiven o partition n backups (steps ++ more)
    → (events : List (protocol.Event C)) × (next : List (protocol.Event C))
    × IsRun o partition n backups steps events × IsRun o partition n backups (steps ++ more) (events ++ next)

-- safety

-- There is one history: that of one object used by one thread, and emptied at each reopening. What it has was executed, in order, and each answer that was given stands in it
pub record HasHistory {C State : Type 0} (o : Object C State) (a : Apart C State) : Type 0 where
  pub history : List (Entry C)
  pub legal : IsLegal o o.empty history
  pub in_order : IsSubsequence history a.log
  pub resets : filter is_reset history ≡ filter is_reset a.log
  pub answered : (h : Held) → Contains a.released h → Stands h history

-- what was executed are calls that arrived, in order of arrival, each at most once
pub record IsOfArrivals {C State : Type 0} (steps : List (Step C State)) (a : Apart C State) : Type 0 where
  pub arrived : IsSubsequence (asked.calls_in a.log) (arrivals steps)
  pub once : NamedOnce (map name (asked.calls_in a.log))

-- where no two calls have one name
abbrev pub EveryApartRunIsSafe : {C State : Type 0} → Object C State → Type 0
EveryApartRunIsSafe {C} {State} o =
    (partition n backups : ℕ) (steps : List (Step C State)) → IsGiven o partition n backups steps → NamedOnce (map name (arrivals steps))
    → let a = whole_after o partition n backups steps in
    HasHistory o a × IsOfArrivals steps a
    × (events : List (protocol.Event C)) × IsRun o partition n backups steps events
    × IsSafe o (world_after o partition n backups events) × IsFaithful events (world_after o partition n backups events)

-- What was executed and what was answered only grow, at the end.
-- So in a history, which keeps the order of execution, a call that was answered stands before each that arrives later
abbrev pub EveryApartRunExtends : {C State : Type 0} → Object C State → Type 0
EveryApartRunExtends {C} {State} o =
    (partition n backups : ℕ) (steps more : List (Step C State))
    → let a = whole_after o partition n backups steps in
    let next = whole_after o partition n backups (steps ++ more) in
    IsFrontOf a.log next.log × IsFrontOf a.released next.released

-- each one's own list

-- what member m sent
abbrev pub sent_by : {C State : Type 0} → ℕ → List (Parcel C State) → List (Parcel C State)
sent_by m ps = filter (λ (q : Parcel _ _). q.packet.from == m) ps

-- the answer is that of a call among these
abbrev pub IsAnswerOf : {C : Type 0} → Held → List (Executed C) → Type 0
IsAnswerOf {C} h xs = (x : Executed C) × Contains xs x × (x.conn ≡ h.conn) × (x.number ≡ h.number) × (x.seen ≡ h.seen)

-- A member is what its own list makes of it, and has sent what its own list sends; and so is the service
pub record IsByItself {C State : Type 0} (o : Object C State) (p n b : ℕ) (steps : List (Step C State)) (a : Apart C State) : Type 0 where
  pub member : (m : ℕ) → m < n → slice_get a.members m ≡ Some (member_after o n m (opening o (initial_row p n b) m) (steps_of m steps))
  pub sent : (m : ℕ) → m < n → sent_by m a.sent ≡ sent_over o n m (opening o (initial_row p n b) m) (steps_of m steps)
  -- what it executed and answered is in the log and among the answers of the whole
  pub executed : (m : ℕ) (x : Executed C) → m < n
      → Contains (executed_over o n m (opening o (initial_row p n b) m) (steps_of m steps)) x → Contains a.log (Called x)
  pub released : (m : ℕ) (h : Held) → m < n
      → Contains (released_over o n m (opening o (initial_row p n b) m) (steps_of m steps)) h → Contains a.released h
  pub service : a.service ≡ service_after p n b (record { row = initial_row p n b; move = NoMove; detected = [] }) (rulings_of steps)

abbrev pub EveryOneIsByItself : {C State : Type 0} → Object C State → Type 0
EveryOneIsByItself {C} {State} o =
    (partition n backups : ℕ) (steps : List (Step C State))
    → IsByItself o partition n backups steps (whole_after o partition n backups steps)

-- whatever it takes, in a run or not, a member holds and gives only answers of calls that it executed itself
abbrev pub EveryAnswerIsItsOwn : {C State : Type 0} → Object C State → Type 0
EveryAnswerIsItsOwn {C} {State} o =
    (row : Row) (n m : ℕ) (owns : List (Own C State)) (h : Held)
    → Contains (member_after o n m (opening o row m) owns).node.held h ⊎ Contains (released_over o n m (opening o row m) owns) h
    → IsAnswerOf h (executed_over o n m (opening o row m) owns)

-- An effect that a member takes next was made on the very contents that the member has, where it changes them. So the bytes of such an effect do there what they did first
abbrev pub EveryEffectFits : {C State : Type 0} → Object C State → Type 0
EveryEffectFits {C} {State} o =
    (partition n backups : ℕ) (steps : List (Step C State)) (from m version number : ℕ) (cargo : Cargo C State) (x : Member C State)
    → IsGiven o partition n backups steps
    → let a = whole_after o partition n backups steps in
    Contains a.sent (record { packet = record { from = from; to = m; message = Effect version number }; cargo = cargo }) → slice_get a.members m ≡ Some x
    → (taking n m from (Effect version number) x.node).took ≡ Applied
    → (change : Change C State) × (cargo ≡ Made change) × (change.before ≡ x.state) × (o.changes x.state change.call change.now ≡ true)
