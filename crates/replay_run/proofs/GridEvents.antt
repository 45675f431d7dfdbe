-- The grid after an event that is no call: its partition's world ran it and gave out what it released.
use Rattle.std.proofs.Common.{◌≡◌, ◌≢◌, ℕ, ◌==◌, ◌<◌, ◌+◌, ◌^◌, true, false, List, [], ◌∷◌, ◌++◌, length, map, Option, Some, None, slice_set, get_or, refl, ap, sym, ◌∙◌, subst, ⊎_elim, append-nil, arith, Vec, Global}
use Rattle.std.specs.Option.{option_map}
use Rattle.std.proofs.lemmas.Bool.{cases_eq, eq-eqb, ne_eqb}
use Rattle.grid_base.specs.Objects.{Object}
use Rattle.grid_base.specs.declared.calls.Change.{Change}
use Rattle.grid_base.specs.declared.calls.Request.{Request}
use Rattle.replay_run.specs.declared.outgoing.Reaching.{Reaching}
use Rattle.partition_protocol.specs.World.{World}
use Rattle.partition_protocol.specs.Events.{Event, Call, Deliver, Lose, Repeat, Resend, Crash, Detect, BeginMove, BeginJoin, BeginHandover, Advance, Reopen, Outcome, happens}
use Rattle.partition_protocol.specs.Arrivals.{asked_by, arrivals, name, NamedOnce}
use Rattle.partition_protocol.proofs.Lists.{set_get_same, set_get_other}
use Rattle.primary_hold.specs.declared.answer.CallAnswer.{CallAnswer}
use Rattle.partition_world.specs.Answers.{released_at, released_by as answers_by}
use Rattle.partition_world.specs.Events.{EventWithin, event_of, happened_of}
use Rattle.partition_world.specs.declared.event.Event.{Event as CodeEvent}
use Rattle.partition_world.specs.declared.event.Event.TheVariants as code
use Rattle.partition_world.specs.Worlds.{run_of, setup_of, waiting, Comes}
use Rattle.partition_world.specs.declared.event.Happened.{Happened}
use Rattle.call_engine.specs.declared.env.GridEnv.{GridEnv}
use Rattle.call_engine.specs.Calls.{Settings}
use Rattle.call_engine.specs.Changes.{change_of}
use Rattle.call_engine.specs.Env.{settings_of}
use Rattle.call_engine.specs.Limits.{RequestFits}
use Rattle.call_engine.specs.Objects.{partition_object}
use Rattle.object_store.specs.Partitions.{Partition}
use Rattle.replay_run.specs.declared.grid.Grid.{Grid}
use Rattle.replay_run.specs.Runs.{Run, Appended, Reopened, partitions, messages_on, events_at, world_at, listening, message_of, version_known, adopted_since, messages_at, taker_of, given_to, given_out, reopening_by, occurred, meets_full}
use Rattle.replay_run.specs.ScriptRuns.{event_occurred}
use Rattle.replay_run.specs.Shelves.{grid_meaning}
use Rattle.replay_run.specs.Tables.{Table}
use Rattle.replay_run.specs.Grids.{FormOf, GridWorld, StandsForEvents, IsWorld, HasTable, HasWaiters, IsSettled, IsTally, AreListening, HasWorld, Holds}
use Rattle.replay_run.specs.WorldCalls.{with_answers, going_out, messages_in, reaching_of, HasRoomAt, IsAmid, HasOccurred}
use Rattle.replay_run.proofs.Arriving.{arrivals-append, events_with_one, maybe_one}
use Rattle.replay_run.proofs.Asking.{world_there, world_is, stands_by}
use Rattle.replay_run.proofs.GivingOut.{HasGivenOut}
use Rattle.replay_run.proofs.Speaking.{spoken, spoken_more, alike_table}
use Rattle.replay_run.proofs.Releasing.{changes_are, spoken_at, given_refuse_none}
use Rattle.replay_run.proofs.TableRuns.{answers_table}
use Rattle.replay_run.proofs.Tallies.{quiet_tally}
use Rattle.replay_run.proofs.TableCounts.{counting_answers}
use Rattle.replay_run.proofs.WorldRuns.{same_events, run_is, ran_to}
use Rattle.partition_world.specs.Recorders.{KeepsAll}
use Rattle.replay_run.proofs.WaiterLists.{waiters_alike}
use Rattle.replay_run.specs.LineTold.{all_told}
use Rattle.line_told.specs.declared.told.Told.{Told}

-- what an event releases

module _ {State : Type 0} (o : Object Request State) (change_in : State → Request → ℕ → Option Change) (w : World Request) where
  -- No answer is released at another member.
  pub released_elsewhere : (event : Event Request) (member : ℕ) → asked_by event ≡ [] → taker_of event ≢ Some member → released_at o change_in w event member ≡ []
  released_elsewhere (Call m conn number call now) member quiet apart = absurd cc
  released_elsewhere (Deliver from to place) member quiet apart = let other : (to == member) ≡ false = ne_eqb to member (λ e. apart (ap Some e)) in rw other refl
  released_elsewhere (Lose from to place) member quiet apart = refl
  released_elsewhere (Repeat from to place) member quiet apart = refl
  released_elsewhere (Resend end) member quiet apart = refl
  released_elsewhere (Crash m) member quiet apart = refl
  released_elsewhere (Detect m) member quiet apart = refl
  released_elsewhere (BeginMove from to) member quiet apart = refl
  released_elsewhere (BeginJoin to) member quiet apart = refl
  released_elsewhere (BeginHandover from to) member quiet apart = refl
  released_elsewhere Advance member quiet apart = refl
  released_elsewhere Reopen member quiet apart = refl

  pub released_to : (event : Event Request) (member : ℕ) → taker_of event ≡ Some member → released_at o change_in w event member ≡ answers_by o change_in w (happens o w event).world
  released_to (Deliver from to place) member its = let same : (to == member) ≡ true = eq-eqb to member cc in rw same refl
  released_to (Call m conn number call now) member its = absurd cc
  released_to (Lose from to place) member its = absurd cc
  released_to (Repeat from to place) member its = absurd cc
  released_to (Resend end) member its = absurd cc
  released_to (Crash m) member its = absurd cc
  released_to (Detect m) member its = absurd cc
  released_to (BeginMove from to) member its = absurd cc
  released_to (BeginJoin to) member its = absurd cc
  released_to (BeginHandover from to) member its = absurd cc
  released_to Advance member its = absurd cc
  released_to Reopen member its = absurd cc

-- An event that is no call keeps to the limits.
unasked_within : (event : Event Request) → asked_by event ≡ [] → EventWithin RequestFits event
unasked_within (Call m conn number call now) quiet = absurd cc
unasked_within (Deliver from to place) quiet = tt
unasked_within (Lose from to place) quiet = tt
unasked_within (Repeat from to place) quiet = tt
unasked_within (Resend end) quiet = tt
unasked_within (Crash m) quiet = tt
unasked_within (Detect m) quiet = tt
unasked_within (BeginMove from to) quiet = tt
unasked_within (BeginJoin to) quiet = tt
unasked_within (BeginHandover from to) quiet = tt
unasked_within Advance quiet = tt
unasked_within Reopen quiet = tt

-- The partition may have one event more: four bytes count them.
abbrev pub HasEventRoom : Run → ℕ → Type 0
HasEventRoom r p = length (events_at p r.events) + 2 < 2 ^ 32

-- It may come next in its partition's world.
pub event_comes : (settings : Settings) (world : GridWorld) (r : Run) (p : ℕ) (event : Event Request) → asked_by event ≡ [] → HasEventRoom r p → StandsForEvents settings world (events_at p r.events)
    → Comes (grid_meaning settings) KeepsAll RequestFits world (events_at p r.events) event
event_comes settings world r p event quiet room stands = record {
  stands = stands;
  may = record {
    room = omega (arith, room);
    within = unasked_within event quiet;
    once = subst (λ ks. NamedOnce (map name ks)) (sym same_calls) stands.once;
  };
}
  where
    same_calls : arrivals (events_at p r.events ++ event ∷ []) ≡ arrivals (events_at p r.events)
    same_calls =
        arrivals-append (events_at p r.events) (event ∷ [])
        ∙ ap (λ ks. arrivals (events_at p r.events) ++ (ks ++ [])) quiet ∙ append-nil (arrivals (events_at p r.events))

-- what the code did

-- A world ran the event.
pub record HasStepped (settings : Settings) (old new : GridWorld) (events : List (Event Request)) (event : Event Request) (happened : Happened) : Type 0 where
  pub stands : StandsForEvents settings new (events ++ event ∷ [])
  pub setup : setup_of new ≡ setup_of old
  pub waits : (member : ℕ) → waiting new member ≡ waiting old member ++ released_at (partition_object settings) (change_of settings) (run_of (grid_meaning settings) old events) event member
  pub outcome : happened_of happened ≡ (happens (partition_object settings) (run_of (grid_meaning settings) old events) event).outcome

-- It gave out what waited where the event may release answers, and nowhere else.
pub record HasGivenAt (settings : Settings) (old new : GridWorld) (taker : Option ℕ) : Type 0 where
  pub stands : (events : List (Event Request)) → StandsForEvents settings old events → StandsForEvents settings new events
  pub setup : setup_of new ≡ setup_of old
  pub given : (member : ℕ) → taker ≡ Some member → waiting new member ≡ []
  pub others : (member : ℕ) → taker ≢ Some member → waiting new member ≡ waiting old member

pub gave_nothing : (settings : Settings) (world : GridWorld) → HasGivenAt settings world world None
gave_nothing settings world = record { stands = λ events s. s; setup = refl; given = λ member e. absurd cc; others = λ member apart. refl }

pub gave_at : (settings : Settings) (old new : GridWorld) (member : ℕ) → HasGivenOut settings old new member → HasGivenAt settings old new (Some member)
gave_at settings old new member out = record {
  stands = out.stands;
  setup = out.setup;
  given = λ m e. let same : member ≡ m = cc in subst (λ n. waiting new n ≡ []) same out.given;
  others = λ m apart. out.others m (λ e. apart (ap Some (sym e)));
}

abbrev pub waiting_at : GridWorld → Option ℕ → List CallAnswer
waiting_at world None = []
waiting_at world (Some member) = waiting world member

-- what is appended where the event reaches a member
abbrev pub said_at : Settings → Run → ℕ → Event Request → GridWorld → Option ℕ → List Appended
said_at settings r p event called None = []
said_at settings r p event called (Some member) = messages_in (grid_meaning settings) called (events_at p r.events ++ event ∷ []) (reaching_of settings r p member) r (listening r None member)

-- The table, the reopenings and the worlds after an event.
pub record IsAfterEvent {V : Type 0} {T : V → Type 0} (grid new : Grid V T) (partition : ℕ) (world : GridWorld) (answers : List CallAnswer) (more : List Reopened) : Type 0 where
  pub env : new.env ≡ grid.env
  pub lines : new.lines ≡ grid.lines
  pub members : new.members ≡ grid.members
  pub links : new.links.items ≡ grid.links.items
  pub moments : new.moments.items ≡ grid.moments.items
  pub table : new.connections ≡ with_answers grid.connections grid.lines answers
  pub waiters : new.waiters ≡ grid.waiters
  pub tally : new.tally ≡ grid.tally
  pub listeners : new.listeners.items ≡ grid.listeners.items
  pub reopened : new.reopened.items ≡ grid.reopened.items ++ more
  pub worlds : new.worlds.items ≡ slice_set grid.worlds.items partition world

-- Every message was handled, and no answer changes that.
settled_answers : (line : ℕ) (answers : List CallAnswer) (t : Table) (r : Run) → IsSettled t r → IsSettled (with_answers t line answers) r
settled_answers line answers t r settled c o k at there =
    (counting_answers line answers t r c (length (messages_on k)) (record { here = λ x e. settled c x k e there; others = λ d x j apart e found. settled d x j e found })).here o at

module _ {V : Type 0} {T : V → Type 0} {form : FormOf V T} {settings : Settings} (grid : Grid V T) (r : Run) (amid : IsAmid form settings grid r) (p : ℕ) (low : p < partitions) (event : Event Request) (quiet : asked_by event ≡ [])
    (taker : Option ℕ) (its_taker : taker ≡ taker_of event) (new : Grid V T) (called world : GridWorld) (happened : Happened)
    (did : HasStepped settings (amid.holds.worlds p low).world called (events_at p r.events) event happened) (out : HasGivenAt settings called world taker)
    (after : IsAfterEvent grid new p world (going_out r None (waiting_at called taker)) (reopening_by p grid.lines event (happened_of happened))) where
  abbrev o : Object Request Partition
  o = partition_object settings

  abbrev old : HasWorld settings grid.worlds.items r p
  old = amid.holds.worlds p low

  abbrev before : World Request
  before = world_at o r p

  abbrev next : Run
  next = occurred o r p event

  abbrev answers : List CallAnswer
  answers = going_out r None (waiting_at called taker)

  its_run : run_of (grid_meaning settings) old.world (events_at p r.events) ≡ before
  its_run = run_is old.world r p old.is

  waits_now : (member : ℕ) → waiting called member ≡ released_at o (change_of settings) before event member
  waits_now member =
      did.waits member ∙ ap (λ ws. ws ++ released_at o (change_of settings) (run_of (grid_meaning settings) old.world (events_at p r.events)) event member) (old.given member)
      ∙ ap (λ w. released_at o (change_of settings) w event member) its_run

  -- the messages

  -- as the code appended them
  abbrev said : Option ℕ → List Appended
  said x = said_at settings r p event called x

  messages_of : (x : Option ℕ) → x ≡ taker_of event → said x ≡ given_to o r p event x
  messages_of None e = refl
  messages_of (Some member) e =
      let change = ap (λ f. answers_by o f before (happens o before event).world) (sym (changes_are settings)) in
      let waits = waits_now member ∙ released_to o (change_of settings) before event member (sym e) ∙ change in
      λ i. messages_at r None p (listening r None member) (adopted_since (version_known before member) (ran_to old.world called r p event old.is did.setup i) member) (waits i)

  messages_are : said taker ≡ given_out o r p event
  messages_are = messages_of taker its_taker ∙ ap (given_to o r p event) its_taker

  said_alike : (x : Option ℕ) → spoken (map (message_of r.lines) (going_out r None (waiting_at called x))) ≡ spoken (said x)
  said_alike None = refl
  said_alike (Some member) =
      sym (spoken_at r None p (listening r None member) (adopted_since (version_known before member) (run_of (grid_meaning settings) called (events_at p r.events ++ event ∷ [])) member) (waiting called member))

  -- the worlds

  its_events : (q : ℕ) → events_at q next.events ≡ events_at q r.events ++ maybe_one (p == q) event
  its_events q = events_with_one q r.events (record { partition = p; event = event })

  not_elsewhere : (q : ℕ) → q ≢ p → events_at q next.events ≡ events_at q r.events
  not_elsewhere q apart =
      let other : (p == q) ≡ false = ne_eqb p q (λ e. apart (sym e)) in
      its_events q ∙ ap (λ b. events_at q r.events ++ maybe_one b event) other ∙ append-nil (events_at q r.events)

  is_here : IsWorld settings world next p
  is_here = record {
    stands = out.stands (events_at p next.events) (subst (λ es. StandsForEvents settings called es) (sym (its_events p ∙ ap (λ b. events_at p r.events ++ maybe_one b event) (eq-eqb p p refl))) did.stands);
    setup = out.setup ∙ did.setup ∙ old.is.setup;
  }

  none_waits : (x : Option ℕ) → x ≡ taker_of event → ((member : ℕ) → x ≡ Some member → waiting world member ≡ []) → ((member : ℕ) → x ≢ Some member → waiting world member ≡ waiting called member)
      → (member : ℕ) → waiting world member ≡ []
  none_waits None e given others member = others member (λ s. absurd cc) ∙ waits_now member ∙ released_elsewhere o (change_of settings) before event member quiet (λ s. let clash : None ≡ Some member = e ∙ s in cc)
  none_waits (Some m) e given others member = ⊎_elim (λ s. given member (ap Some (sym s))) elsewhere (cases_eq member m)
    where
      elsewhere : member ≢ m → waiting world member ≡ []
      elsewhere apart =
          others member (λ s. apart (let same : m ≡ member = cc in sym same)) ∙ waits_now member
          ∙ released_elsewhere o (change_of settings) before event member quiet (λ s. apart (let both : Some m ≡ Some member = e ∙ s in let same : m ≡ member = cc in sym same))

  pub worlds_now : (q : ℕ) → HasWorld settings grid.worlds.items r q → HasWorld settings (slice_set grid.worlds.items p world) next q
  worlds_now q has = ⊎_elim here elsewhere (cases_eq q p)
    where
      here : q ≡ p → HasWorld settings (slice_set grid.worlds.items p world) next q
      here e = subst (λ n. HasWorld settings (slice_set grid.worlds.items p world) next n) (sym e) (record {
        world = world;
        there = set_get_same grid.worlds.items p world old.world old.there;
        is = is_here;
        given = none_waits taker its_taker out.given out.others;
      })

      elsewhere : q ≢ p → HasWorld settings (slice_set grid.worlds.items p world) next q
      elsewhere apart = record {
        world = has.world;
        there = set_get_other grid.worlds.items p q world apart ∙ has.there;
        is = same_events has.world r next q has.is (not_elsewhere q apart) refl refl;
        given = has.given;
      }

  -- the table

  table_is : new.connections ≡ with_answers grid.connections r.lines answers
  table_is = after.table ∙ ap (λ n. with_answers grid.connections n answers) amid.holds.lines

  table_now : HasTable new.connections next
  table_now =
      let all = answers_table r.lines answers grid.connections r amid.holds.table in
      let same = spoken_more r.appended (map (message_of r.lines) answers) (given_out o r p event) (said_alike taker ∙ ap spoken messages_are) in
      let whole = alike_table (with_answers grid.connections r.lines answers) (record r { appended = r.appended ++ map (message_of r.lines) answers }) (r.appended ++ given_out o r p event) same all in
      subst (λ t. HasTable t next) (sym table_is) (record { size = whole.size; connections = whole.connections; calls = whole.calls })

  settled_now : IsSettled new.connections next
  settled_now = subst (λ t. IsSettled t next) (sym table_is) (settled_answers r.lines answers grid.connections r amid.settled)

  holds_now : Holds form settings new next
  holds_now = record {
    goes_by = ap (settings_of form) after.env ∙ amid.holds.goes_by;
    goes_on = amid.holds.goes_on;
    lines = after.lines ∙ amid.holds.lines;
    members = after.members ∙ amid.holds.members;
    links = after.links ∙ amid.holds.links;
    moments = after.moments ∙ amid.holds.moments;
    clocks = amid.holds.clocks;
    table = table_now;
    waiters = subst (λ ls. HasWaiters ls next) (sym after.waiters) (waiters_alike grid.waiters r next refl refl amid.holds.waiters);
    tally = subst (λ t. IsTally t next) (sym after.tally) (quiet_tally grid.tally r next (given_out o r p event) refl refl refl (given_refuse_none o r p event (taker_of event)) amid.holds.tally);
    reopened = after.reopened ∙ (λ i. amid.holds.reopened i ++ reopening_by p (amid.holds.lines i) event (its_outcome i));
    worlds = λ q below. subst (λ ws. HasWorld settings ws next q) (sym after.worlds) (worlds_now q (amid.holds.worlds q below));
  }
    where
      its_outcome : happened_of happened ≡ (happens o before event).outcome
      its_outcome = did.outcome ∙ ap (λ w. (happens o w event).outcome) its_run

  listening_now : AreListening new.listeners.items next None
  listening_now = subst (λ ls. AreListening ls next None) (sym after.listeners) (record { size = amid.listeners.size; each = amid.listeners.each })

  pub event_taken : meets_full before event ≡ false → (earlier later : List Told) → later ≡ earlier ++ all_told (said taker) → HasOccurred form settings new r p event happened earlier later
  event_taken goes earlier later wrote = record {
    goes = goes;
    on = record {
      amid = record { run = event_occurred r p event amid.run quiet; holds = holds_now; listeners = listening_now; settled = settled_now };
      messages = given_out o r p event;
      appended = refl;
      added = wrote ∙ ap (λ ms. earlier ++ all_told ms) messages_are;
    };
    outcome = did.outcome ∙ ap (λ w. (happens o w event).outcome) its_run;
  }

-- what the code reads of a partition's world

module _ {V : Type 0} {T : V → Type 0} {form : FormOf V T} {settings : Settings} (grid : Grid V T) (r : Run) (h : Holds form settings grid r) (p i : ℕ) (low : p < partitions) (same : i ≡ p) (world : GridWorld) (read : world ≡ get_or grid.worlds.items i world) where
  is_its : IsWorld settings world r p
  is_its = world_is grid r h p i low same world read

  pub event_room : HasRoomAt r p 1 → HasEventRoom r p
  event_room room = omega (arith, room)

  -- It has as much room in another run that it stands for.
  pub room_in : {form2 : FormOf V T} {settings2 : Settings} (r2 : Run) (h2 : Holds form2 settings2 grid r2) → HasEventRoom r p → HasEventRoom r2 p
  room_in r2 h2 room =
      let here = is_its.stands.steps in
      let there = (world_is grid r2 h2 p i low same world read).stands.steps in
      omega (arith, room, here, there)

  pub comes_in : (event : Event Request) → asked_by event ≡ [] → HasEventRoom r p → Comes (grid_meaning (settings_of form grid.env)) KeepsAll RequestFits world (events_at p r.events) event
  comes_in event quiet room = event_comes (settings_of form grid.env) world r p event quiet room (stands_by form grid.env settings h.goes_by world (events_at p r.events) is_its.stands)

-- A step in an environment that makes these settings
pub stepped_by : {V : Type 0} {T : V → Type 0} (form : FormOf V T) (env : GridEnv V T) (settings : Settings) → settings_of form env ≡ settings → (old new : GridWorld) (events : List (Event Request)) (event : Event Request) (happened : Happened)
    → HasStepped (settings_of form env) old new events event happened → HasStepped settings old new events event happened
stepped_by form env settings goes_by old new events event happened = subst (λ s. HasStepped s old new events event happened) goes_by

-- Of a grid its table and its worlds changed, and nothing else.
with_table : {V : Type 0} {T : V → Type 0} (grid : Grid V T) (p : ℕ) (world : GridWorld) (answers : List CallAnswer) (table : Table) (worlds : Vec GridWorld Global) → table ≡ with_answers grid.connections grid.lines answers → worlds.items ≡ slice_set grid.worlds.items p world
    → IsAfterEvent grid (record grid { connections = table; worlds = worlds }) p world answers []
with_table grid p world given table worlds answered placed = record {
  env = refl;
  lines = refl;
  members = refl;
  links = refl;
  moments = refl;
  table = answered;
  waiters = refl;
  tally = refl;
  listeners = refl;
  reopened = sym (append-nil grid.reopened.items);
  worlds = placed;
}

-- What an event did where it reached a member was appended.
pub record HasReleased {V : Type 0} {T : V → Type 0} (settings : Settings) (grid mid : Grid V T) (r : Run) (p : ℕ) (event : Event Request) (called : GridWorld) (taker : Option ℕ) (earlier later : List Told) : Type 0 where
  pub world : GridWorld
  pub out : HasGivenAt settings called world taker
  pub after : IsAfterEvent grid mid p world (going_out r None (waiting_at called taker)) []
  pub added : later ≡ earlier ++ all_told (said_at settings r p event called taker)

-- an event that reaches a member, and one that doesn't

pub reaches_some : (settings : Settings) (r : Run) (p : ℕ) (taker : Option ℕ) (at : Reaching) → Some at ≡ option_map (reaching_of settings r p) taker → (taker ≡ Some at.member) × (at ≡ reaching_of settings r p at.member)
reaches_some settings r p None at e = absurd cc
reaches_some settings r p (Some member) at e =
    let same : at ≡ reaching_of settings r p member = cc in
    let its : at.member ≡ member = ap (λ (x : Reaching). x.member) same in
    (ap Some (sym its), same ∙ ap (reaching_of settings r p) (sym its))

pub reaches_none : (settings : Settings) (r : Run) (p : ℕ) (taker : Option ℕ) → None ≡ option_map (reaching_of settings r p) taker → taker ≡ None
reaches_none settings r p None e = refl
reaches_none settings r p (Some member) e = absurd cc

module _ {V : Type 0} {T : V → Type 0} (settings : Settings) (grid mid : Grid V T) (r : Run) (p : ℕ) (event : Event Request) (called : GridWorld) (taker : Option ℕ) (earlier later : List Told) where
  pub released_some : (table : Table) (worlds : Vec GridWorld Global) (world : GridWorld) (at : Reaching) (made : List Told) → (taker ≡ Some at.member) × (at ≡ reaching_of settings r p at.member) → grid.lines ≡ r.lines
      → mid ≡ record grid { connections = table; worlds = worlds } → later ≡ made → HasGivenOut settings called world at.member
      → table ≡ with_answers grid.connections at.line (going_out r at.own (waiting called at.member)) → worlds.items ≡ slice_set grid.worlds.items p world
      → made ≡ earlier ++ all_told (messages_in (grid_meaning settings) called (events_at p r.events ++ event ∷ []) at r (listening r None at.member))
      → HasReleased settings grid mid r p event called taker earlier later
  released_some table worlds world at made (its, where_it) at_line same made_it out answered placed is =
      let own : at.own ≡ None = ap (λ (x : Reaching). x.own) where_it in
      let line : at.line ≡ grid.lines = ap (λ (x : Reaching). x.line) where_it ∙ sym at_line in
      let out_table : table ≡ with_answers grid.connections grid.lines (going_out r None (waiting called at.member)) = answered ∙ (λ i. with_answers grid.connections (line i) (going_out r (own i) (waiting called at.member))) in
      subst (λ t. HasReleased settings grid mid r p event called t earlier later) (sym its)
      (subst (λ m. HasReleased settings grid m r p event called (Some at.member) earlier later) (sym same)
      (record {
        world = world;
        out = gave_at settings called world at.member out;
        after = with_table grid p world (going_out r None (waiting called at.member)) table worlds out_table placed;
        added = made_it ∙ is ∙ ap (λ x. earlier ++ all_told (messages_in (grid_meaning settings) called (events_at p r.events ++ event ∷ []) x r (listening r None at.member))) where_it;
      }))

  pub released_none : (worlds : Vec GridWorld Global) → taker ≡ None → mid ≡ record grid { worlds = worlds } → later ≡ earlier → worlds.items ≡ slice_set grid.worlds.items p called → HasReleased settings grid mid r p event called taker earlier later
  released_none worlds its same is placed =
      subst (λ t. HasReleased settings grid mid r p event called t earlier later) (sym its)
      (subst (λ m. HasReleased settings grid m r p event called None earlier later) (sym same)
      (record { world = called; out = gave_nothing settings called; after = with_table grid p called [] grid.connections worlds refl placed; added = is ∙ sym (append-nil earlier) }))

-- It ran, and its answers were given out.
module _ {V : Type 0} {T : V → Type 0} {form : FormOf V T} {settings : Settings} (grid : Grid V T) (r : Run) (amid : IsAmid form settings grid r) (p i : ℕ) (low : p < partitions) (same : i ≡ p) (event : Event Request) (quiet : asked_by event ≡ [])
    (old : GridWorld) (read : old ≡ get_or grid.worlds.items i old) (goes : meets_full (world_at (partition_object settings) r p) event ≡ false)
    (taker : Option ℕ) (its_taker : taker ≡ taker_of event) (mid new : Grid V T) (called : GridWorld) (happened : Happened)
    (did : HasStepped settings old called (events_at p r.events) event happened) (earlier later : List Told) (gave : HasReleased settings grid mid r p event called taker earlier later) where
  same_world : old ≡ (amid.holds.worlds p low).world
  same_world =
      let both : Some old ≡ Some (amid.holds.worlds p low).world = sym (world_there grid r amid.holds p i low same old read) ∙ (amid.holds.worlds p low).there in
      cc

  pub has_taken : (more : List Reopened) → new.reopened.items ≡ mid.reopened.items ++ more → record new { reopened = mid.reopened } ≡ mid → more ≡ reopening_by p grid.lines event (happened_of happened)
      → HasOccurred form settings new r p event happened earlier later
  has_taken more reopened rest is =
      event_taken grid r amid p low event quiet taker its_taker new called gave.world happened
      (subst (λ w. HasStepped settings w called (events_at p r.events) event happened) same_world did) gave.out
      (record {
        env = ap (λ (g : Grid V T). g.env) rest ∙ gave.after.env;
        lines = ap (λ (g : Grid V T). g.lines) rest ∙ gave.after.lines;
        members = ap (λ (g : Grid V T). g.members) rest ∙ gave.after.members;
        links = ap (λ (g : Grid V T). g.links.items) rest ∙ gave.after.links;
        moments = ap (λ (g : Grid V T). g.moments.items) rest ∙ gave.after.moments;
        table = ap (λ (g : Grid V T). g.connections) rest ∙ gave.after.table;
        waiters = ap (λ (g : Grid V T). g.waiters) rest ∙ gave.after.waiters;
        tally = ap (λ (g : Grid V T). g.tally) rest ∙ gave.after.tally;
        listeners = ap (λ (g : Grid V T). g.listeners.items) rest ∙ gave.after.listeners;
        reopened = reopened ∙ (λ j. (gave.after.reopened ∙ append-nil grid.reopened.items) j ++ is j);
        worlds = ap (λ (g : Grid V T). g.worlds.items) rest ∙ gave.after.worlds;
      })
      goes earlier later gave.added

-- An event that is no reopening reopens nothing.
pub not_reopened : (p line : ℕ) (e : CodeEvent Request) (outcome : Outcome) → e ≢ code.Reopen → reopening_by p line (event_of e) outcome ≡ []
not_reopened p line (code.Call member id call now) outcome apart = refl
not_reopened p line (code.Deliver from to place) outcome apart = refl
not_reopened p line (code.Lose from to place) outcome apart = refl
not_reopened p line (code.Repeat from to place) outcome apart = refl
not_reopened p line (code.Resend end) outcome apart = refl
not_reopened p line (code.Crash member) outcome apart = refl
not_reopened p line (code.Detect member) outcome apart = refl
not_reopened p line (code.BeginMove from to) outcome apart = refl
not_reopened p line (code.BeginJoin to) outcome apart = refl
not_reopened p line (code.BeginHandover from to) outcome apart = refl
not_reopened p line code.Advance outcome apart = refl
not_reopened p line code.Reopen outcome apart = absurd (apart refl)
