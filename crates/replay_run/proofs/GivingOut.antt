-- A world that gives out the answers which wait at a member, one after another.
use Rattle.std.proofs.Common.{◌≡◌, ◌≢◌, ℕ, ◌<◌, ◌≤◌, map, slice_get, Bool, true, false, cond, Option, Some, None, arith, List, [], ◌∷◌, ◌++◌, refl, ap, sym, ◌∙◌, append_assoc, append-nil}
use Rattle.std.specs.List.{flat_map}
use Rattle.std.specs.Option.{option_and_then}
use Rattle.std.proofs.lemmas.List.{map-append, length-map}
use Rattle.std.proofs.lemmas.Option.{slice_get_past}
use Rattle.grid_base.specs.declared.calls.Request.{Request}
use Rattle.partition_protocol.specs.Events.{Event}
use Rattle.primary_hold.specs.declared.answer.CallAnswer.{CallAnswer}
use Rattle.partition_world.specs.declared.world.World.{World}
use Rattle.grid_base.specs.Shelves.{Meaning}
use Rattle.partition_world.specs.Worlds.{StandsFor, run_of, node_count, setup_of, waiting}
use Rattle.partition_world.proofs.Places.{there_at, get_map}
use Rattle.partition_table.specs.declared.Row.{Row}
use Rattle.partition_protocol.specs.Node.{Node as ProtocolNode}
use Rattle.partition_protocol.specs.World.{map_or}
use Rattle.replica_node.specs.declared.node.Node.{Node}
use Rattle.replica_node.specs.Nodes.{node_of, waiting as node_waiting}
use Rattle.call_engine.specs.Calls.{Settings}
use Rattle.call_engine.specs.Limits.{RequestFits}
use Rattle.listeners.specs.Telling.{Sent, events_of}
use Rattle.listeners.specs.declared.listener.Listener.{Listener}
use Rattle.replay_run.specs.Runs.{Run, Appended, message_of, event_to, events_to, goes_out, if_newer, adopted_since, row_messages, answer_messages, release_messages, messages_at}
use Rattle.replay_run.specs.Tables.{Table, with_answer}
use Rattle.replay_run.specs.Shelves.{grid_meaning}
use Rattle.replay_run.specs.Grids.{GridWorld, StandsForEvents, HasConnections}
use Rattle.replay_run.specs.WorldCalls.{with_answers, going_out, GivesOut}
use Rattle.replay_run.proofs.LineTexts.{told-append}
use Rattle.replay_run.proofs.TableRuns.{connections_answered}
use Rattle.partition_protocol.specs.Recorded.{Recorded}
use Rattle.partition_world.specs.Recorders.{KeepsAll}
use Rattle.replay_run.specs.LineTold.{message_told, all_told}
use Rattle.line_told.specs.declared.told.Told.{Told}

-- Some of the answers were given out.
pub record GaveOut {S R Plan C State : Type 0} (meaning_in : Plan → Meaning S C State) (records : R → Recorded C → Type 0) (limits : C → Type 0) (old new : World S R Plan C) (member : ℕ) : Type 0 where
  pub stands : (plan : Plan) (events : List (Event C)) → StandsFor (meaning_in plan) records limits old events → StandsFor (meaning_in plan) records limits new events
  pub setup : setup_of new ≡ setup_of old
  pub others : (other : ℕ) → other ≢ member → waiting new other ≡ waiting old other

-- what the answers that wait still are to what is told and to the table: of the first one, and of the others

module _ (r : Run) (own : Option ℕ) where
  -- what their releases tell
  abbrev pub told_out : ℕ → List Listener → List CallAnswer → List Told
  told_out p all answers = all_told (flat_map (release_messages r own p all) answers)

  -- the table once those went out that do
  abbrev pub table_out : ℕ → Table → List CallAnswer → Table
  table_out line table answers = with_answers table line (going_out r own answers)

  module _ (answer : CallAnswer) (answers rest : List CallAnswer) (first : answers ≡ answer ∷ rest) where
    pub more_told : (p : ℕ) (all : List Listener) (out : List Told) → (out ++ all_told (release_messages r own p all answer)) ++ told_out p all rest ≡ out ++ told_out p all answers
    more_told p all out =
        append_assoc out (all_told (release_messages r own p all answer)) (told_out p all rest)
        ∙ ap (λ xs. out ++ xs) (sym (told-append (release_messages r own p all answer) (flat_map (release_messages r own p all) rest)))
        ∙ ap (λ (xs : List CallAnswer). out ++ told_out p all xs) (sym first)

    pub more_table : (line : ℕ) (table : Table) → table_out line (table_out line table (answer ∷ [])) rest ≡ table_out line table answers
    more_table line table = go (goes_out r own answer) ∙ ap (table_out line table) (sym first)
      where
        go : (b : Bool) → with_answers (with_answers table line (cond b (answer ∷ []) [])) line (going_out r own rest) ≡ with_answers table line (cond b (answer ∷ going_out r own rest) (going_out r own rest))
        go true = refl
        go false = refl

  -- An answer that goes out, or doesn't, leaves the connections.
  pub connections_out : (line : ℕ) (table : Table) (answer : CallAnswer) → HasConnections table r → HasConnections (table_out line table (answer ∷ [])) r
  connections_out line table answer has = go (goes_out r own answer)
    where
      go : (b : Bool) → HasConnections (with_answers table line (cond b (answer ∷ []) [])) r
      go true = connections_answered table r answer.id line has
      go false = has

  -- one that goes out, and one that doesn't

  module _ (p line : ℕ) (all : List Listener) (answer : CallAnswer) (at_line : r.lines ≡ line) (out : List Told) where
    abbrev events : List Appended
    events = events_to r.lines (events_of p answer all)

    told : (b : Bool) → goes_out r own answer ≡ b → all_told (release_messages r own p all answer) ≡ all_told events ++ all_told (cond b (message_of r.lines answer ∷ []) [])
    told b goes = told-append events (answer_messages r own answer) ∙ ap (λ x. all_told events ++ all_told (cond x (message_of r.lines answer ∷ []) [])) goes

    pub went_told : goes_out r own answer ≡ true → (mid later : List Told) → mid ≡ out ++ all_told (events_to line (events_of p answer all)) → later ≡ mid ++ message_told (message_of line answer)
        → later ≡ out ++ all_told (release_messages r own p all answer)
    went_told goes mid later began is =
        is ∙ (λ i. (began ∙ ap (λ n. out ++ all_told (events_to n (events_of p answer all))) (sym at_line)) i ++ message_told (message_of (sym at_line i) answer))
        ∙ append_assoc out (all_told events) (message_told (message_of r.lines answer))
        ∙ ap (λ xs. out ++ (all_told events ++ xs)) (sym (append-nil (message_told (message_of r.lines answer))))
        ∙ ap (λ xs. out ++ xs) (sym (told true goes))

    pub stayed_told : goes_out r own answer ≡ false → (later : List Told) → later ≡ out ++ all_told (events_to line (events_of p answer all)) → later ≡ out ++ all_told (release_messages r own p all answer)
    stayed_told stays later is =
        is ∙ ap (λ n. out ++ all_told (events_to n (events_of p answer all))) (sym at_line)
        ∙ ap (λ xs. out ++ xs) (sym (append-nil (all_told events)) ∙ sym (told false stays))

  pub went_table : (line : ℕ) (answer : CallAnswer) (old new : Table) → goes_out r own answer ≡ true → new ≡ with_answer old answer.id line → new ≡ table_out line old (answer ∷ [])
  went_table line answer old new goes is = is ∙ ap (λ b. with_answers old line (cond b (answer ∷ []) [])) (sym goes)

  pub stayed_table : (line : ℕ) (answer : CallAnswer) (old : Table) → goes_out r own answer ≡ false → old ≡ table_out line old (answer ∷ [])
  stayed_table line answer old stays = ap (λ b. with_answers old line (cond b (answer ∷ []) [])) (sym stays)

-- one event more of those that are sent
pub events_on : (line : ℕ) (sent : List Sent) (x : Sent) (out before after : List Told) → before ≡ out ++ all_told (events_to line sent) → after ≡ before ++ message_told (event_to line x) → after ≡ out ++ all_told (events_to line (sent ++ x ∷ []))
events_on line sent x out before after so_far wrote =
    wrote ∙ ap (λ t. t ++ message_told (event_to line x)) so_far ∙ append_assoc out (all_told (events_to line sent)) (message_told (event_to line x))
    ∙ ap (λ t. out ++ t) (sym (told-append (events_to line sent) (event_to line x ∷ [])))
    ∙ ap (λ ms. out ++ all_told ms) (sym (map-append (event_to line) sent (x ∷ [])))

module _ {S R Plan C State : Type 0} {meaning_in : Plan → Meaning S C State} {records : R → Recorded C → Type 0} {limits : C → Type 0} where
  pub gave_none : (world : World S R Plan C) (member : ℕ) → GaveOut meaning_in records limits world world member
  gave_none world member = record { stands = λ plan events s. s; setup = refl; others = λ other apart. refl }

  pub gave_more : (first second third : World S R Plan C) (member : ℕ) → GaveOut meaning_in records limits first second member → GaveOut meaning_in records limits second third member → GaveOut meaning_in records limits first third member
  gave_more first second third member a b = record {
    stands = λ plan events s. b.stands plan events (a.stands plan events s);
    setup = b.setup ∙ a.setup;
    others = λ other apart. b.others other apart ∙ a.others other apart;
  }

  -- a world that gave out at most one answer
  pub popped : (old new : World S R Plan C) (member : ℕ) → ((plan : Plan) (events : List (Event C)) → StandsFor (meaning_in plan) records limits old events → StandsFor (meaning_in plan) records limits new events) → setup_of new ≡ setup_of old
      → ((other : ℕ) → other ≢ member → waiting new other ≡ waiting old other) → GaveOut meaning_in records limits old new member
  popped old new member stands setup others = record { stands = stands; setup = setup; others = others }

  pub gives_out : (old new : World S R Plan C) (member : ℕ) → GaveOut meaning_in records limits old new member → waiting new member ≡ [] → GivesOut meaning_in records limits old new member
  gives_out old new member gave given = record { stands = gave.stands; setup = gave.setup; given = given; others = gave.others }

-- where an event has reached a member, or the table service, which is none

-- Nothing waits for the table service.
pub none_waits : {S R Plan C : Type 0} (world : World S R Plan C) (member : ℕ) → node_count world ≤ member → waiting world member ≡ []
none_waits {S = S} world member past = ap (λ found. map_or found [] (λ (node : Node S). node_waiting node)) (slice_get_past world.nodes.items member (omega (arith, past, world.nodes.ok.0)))

module _ {S R Plan C State : Type 0} {k : Meaning S C State} {records : R → Recorded C → Type 0} {limits : C → Type 0} (world : World S R Plan C) (events : List (Event C)) (member : ℕ) where
  -- the node of a member
  pub its_node : StandsFor k records limits world events → member < node_count world → (node : ProtocolNode) × (slice_get (run_of k world events).nodes member ≡ Some node)
  its_node stands within =
      let here = there_at world.nodes.items member (omega (arith, within, world.nodes.ok.0)) in
      (node_of here.0, ap (λ ns. slice_get ns member) (sym stands.agrees.nodes) ∙ get_map node_of world.nodes.items member here.0 here.1)

  pub reached_told : StandsFor k records limits world events → member < node_count world → (row : Row) → ((node : ProtocolNode) → slice_get (run_of k world events).nodes member ≡ Some node → row ≡ node.known)
      → (r : Run) (own : Option ℕ) (p line known : ℕ) (all : List Listener) → r.lines ≡ line → (earlier mid later : List Told) → mid ≡ earlier ++ all_told (row_messages line p all (if_newer known row))
      → later ≡ mid ++ all_told (flat_map (release_messages r own p all) (waiting world member))
      → later ≡ earlier ++ all_told (messages_at r own p all (adopted_since known (run_of k world events) member) (waiting world member))
  reached_told stands within row told r own p line known all at_line earlier mid later began is =
      let node = its_node stands within in
      let same : if_newer known row ≡ adopted_since known (run_of k world events) member =
      ap (if_newer known) (told node.0 node.1) ∙ sym (ap (option_and_then (λ (n : ProtocolNode). if_newer known n.known)) node.1) in
      let rest = flat_map (release_messages r own p all) (waiting world member) in
      is ∙ ap (λ t. t ++ all_told rest) began ∙ append_assoc earlier (all_told (row_messages line p all (if_newer known row))) (all_told rest)
      ∙ ap (λ t. earlier ++ t) (sym (told-append (row_messages line p all (if_newer known row)) rest))
      ∙ (λ i. earlier ++ all_told (row_messages (sym at_line i) p all (same i) ++ rest))

  -- Nor is anything told of it.
  pub reached_none : StandsFor k records limits world events → node_count world ≤ member → (r : Run) (own : Option ℕ) (p known : ℕ) (all : List Listener) (out : List Told)
      → out ≡ out ++ all_told (messages_at r own p all (adopted_since known (run_of k world events) member) (waiting world member))
  reached_none stands past r own p known all out =
      let count = length-map world.nodes.items node_of in
      let none : slice_get (run_of k world events).nodes member ≡ None =
      ap (λ ns. slice_get ns member) (sym stands.agrees.nodes) ∙ slice_get_past (map node_of world.nodes.items) member (omega (arith, past, count, world.nodes.ok.0)) in
      let row : adopted_since known (run_of k world events) member ≡ None = ap (option_and_then (λ (n : ProtocolNode). if_newer known n.known)) none in
      sym (append-nil out) ∙ (λ i. out ++ all_told (messages_at r own p all (sym row i) (sym (none_waits world member past) i)))

-- the same of a grid's world that goes by settings
pub record HasGivenOut (settings : Settings) (old new : GridWorld) (member : ℕ) : Type 0 where
  pub stands : (events : List (Event Request)) → StandsForEvents settings old events → StandsForEvents settings new events
  pub setup : setup_of new ≡ setup_of old
  pub given : waiting new member ≡ []
  pub others : (other : ℕ) → other ≢ member → waiting new other ≡ waiting old other

pub has_given_out : (settings : Settings) (old new : GridWorld) (member : ℕ) → GivesOut grid_meaning KeepsAll RequestFits old new member → HasGivenOut settings old new member
has_given_out settings old new member out = record { stands = out.stands settings; setup = out.setup; given = out.given; others = out.others }
