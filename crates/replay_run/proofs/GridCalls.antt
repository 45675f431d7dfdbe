-- The grid after a call, one that arrives or one that waited, which its partition's world ran or which found no memory.
use Rattle.std.proofs.Common.{◌≡◌, ℕ, ◌<◌, true, false, cond, List, [], ◌∷◌, ◌++◌, length, count_by, map, pos, Option, None, slice_set, refl, ap, sym, ◌∙◌, subst, ⊎_elim, inl, inr, append-nil, append_assoc}
use Rattle.std.specs.List.{Contains}
use Rattle.std.proofs.lemmas.Bool.{eq-eqb}
use Rattle.grid_base.specs.Names.{is_same_call}
use Rattle.grid_base.specs.declared.names.CallId.{CallId}
use Rattle.grid_base.specs.declared.calls.Request.{Request}
use Rattle.partition_protocol.specs.World.{World}
use Rattle.partition_protocol.specs.Events.{Event, happens}
use Rattle.partition_protocol.proofs.Lists.{In, in_contains}
use Rattle.primary_hold.specs.declared.answer.CallAnswer.{CallAnswer}
use Rattle.partition_world.specs.Answers.{released_by as answers_by}
use Rattle.partition_world.specs.Worlds.{run_of, waiting}
use Rattle.partition_world.specs.Recorders.{KeepsAll}
use Rattle.listeners.specs.declared.listener.Listener.{Listener}
use Rattle.replay_run.specs.declared.outgoing.Reaching.{Reaching}
use Rattle.replay_run.specs.Shelves.{grid_meaning}
use Rattle.call_engine.specs.Limits.{RequestFits}
use Rattle.grid_base.specs.Objects.{Object}
use Rattle.object_store.specs.Partitions.{Partition}
use Rattle.partition_world.specs.LinkOrder.{links_of}
use Rattle.replay_run.specs.declared.grid.Grid.{Grid}
use Rattle.call_engine.specs.Calls.{Settings}
use Rattle.call_engine.specs.Changes.{change_of}
use Rattle.call_engine.specs.Objects.{partition_object}
use Rattle.call_engine.specs.Env.{settings_of}
use Rattle.grid_base.specs.Errors.{want_of_memory}
use Rattle.replay_run.specs.Runs.{Run, Arrival, Appended, events_at, call_of, world_at, listening, message_of, version_known, adopted_since, messages_at, messages_by, happening, refused_by, refusal, asked, arrived, is_skipped, partitions}
use Rattle.replay_run.specs.Printing.{new_messages}
use Rattle.replay_run.specs.Tables.{Table}
use Rattle.replay_run.specs.Tallies.{received}
use Rattle.replay_run.specs.Counts.{is_refused, is_out_of_memory}
use Rattle.replay_run.specs.declared.tally.Reception.{Reception}
use Rattle.replay_run.specs.Grids.{FormOf, GridWorld, HasTable, HasWaiters, IsTally, AreListening, HasWorld, Holds}
use Rattle.replay_run.specs.WorldCalls.{with_answers, going_out, messages_in, IsAppended, IsCalled, IsSkipped, IsCalledSo, IsSkippedSo}
use Rattle.replay_run.proofs.RunFacts.{RunOk}
use Rattle.replay_run.proofs.Arriving.{MayCome, its_event}
use Rattle.replay_run.proofs.WaiterLists.{waiters_alike}
use Rattle.replay_run.proofs.GivingOut.{HasGivenOut}
use Rattle.replay_run.proofs.Answering.{refusals_answer_none}
use Rattle.replay_run.proofs.Places.{same_call_refl}
use Rattle.replay_run.proofs.Tallies.{HasTallied, called_so, skipped_so}
use Rattle.replay_run.proofs.LineTexts.{new_with, told-append}
use Rattle.replay_run.proofs.Speaking.{spoken, spoken_more, alike_table}
use Rattle.replay_run.proofs.Releasing.{changes_are, none_adopted, spoken_at, messages_refuse_none}
use Rattle.replay_run.proofs.Listening.{still_listening}
use Rattle.replay_run.proofs.TableRuns.{refusals_table, answers_table}
use Rattle.replay_run.proofs.WorldRuns.{run_is, ran_to, released_here, called_worlds, nothing_waits, skipped_worlds}
use Rattle.replay_run.specs.LineTold.{all_told}
use Rattle.line_told.specs.declared.told.Told.{Told}

-- where the call reaches its member
abbrev pub reaching_to : Run → Option ℕ → Arrival → ℕ → Reaching
reaching_to r own a known = record { line = r.lines; partition = a.request.partition; member = a.member; known = known; own = own }

-- What a call tells: what answered it at once, and what its world appended.
abbrev pub HasSaid : Settings → GridWorld → Run → Option ℕ → Arrival → ℕ → List Told → List Told → List Told → Type 0
HasSaid settings called r own a known earlier added later =
    (events : List (Event Request)) → IsAppended (grid_meaning settings) KeepsAll RequestFits called events (reaching_to r own a known) r (listening r own a.member) (earlier ++ added) later

-- the same where the code says it of its own line
pub call_said : (settings : Settings) (called : GridWorld) (r : Run) (own : Option ℕ) (a : Arrival) (line known : ℕ) → r.lines ≡ line → (earlier added mid later : List Told) → mid ≡ earlier ++ added
    → ((events : List (Event Request)) → IsAppended (grid_meaning settings) KeepsAll RequestFits called events (record { line = line; partition = a.request.partition; member = a.member; known = known; own = own }) r (listening r own a.member) mid later)
    → HasSaid settings called r own a known earlier added later
call_said settings called r own a line known at_line earlier added mid later began is events stands =
    is events stands ∙ ap (λ xs. xs ++ all_told (messages_in (grid_meaning settings) called events (reaching_to r own a known) r (listening r own a.member))) began

-- All that the grid has of a run but for its table and its tally.
pub record HoldsApart {V : Type 0} {T : V → Type 0} (form : FormOf V T) (settings : Settings) (grid : Grid V T) (r : Run) : Type 0 where
  pub goes_by : settings_of form grid.env ≡ settings
  pub goes_on : r.full ≡ false
  pub lines : grid.lines ≡ r.lines
  pub members : grid.members ≡ r.members
  pub links : grid.links.items ≡ links_of r.members
  pub moments : grid.moments.items ≡ r.moments
  pub clocks : length r.moments ≡ r.members
  pub waiters : HasWaiters grid.waiters r
  pub reopened : grid.reopened.items ≡ r.reopened
  pub worlds : (p : ℕ) → p < partitions → HasWorld settings grid.worlds.items r p

-- The table and the worlds of the code after a call, whose table had it then.
pub record IsAfter {V : Type 0} {T : V → Type 0} (grid new : Grid V T) (line partition : ℕ) (table : Table) (world : GridWorld) (answers : List CallAnswer) : Type 0 where
  pub env : new.env ≡ grid.env
  pub lines : new.lines ≡ line
  pub members : new.members ≡ grid.members
  pub links : new.links.items ≡ grid.links.items
  pub moments : new.moments.items ≡ grid.moments.items
  pub answered : new.connections ≡ with_answers table line answers
  pub waiters : new.waiters ≡ grid.waiters
  pub listeners : new.listeners.items ≡ grid.listeners.items
  pub reopened : new.reopened.items ≡ grid.reopened.items
  pub worlds : new.worlds.items ≡ slice_set grid.worlds.items partition world

-- A call was made, or found no memory, and the messages that this appended were printed.
pub record HasMade {V : Type 0} {T : V → Type 0} (form : FormOf V T) (settings : Settings) (new : Grid V T) (r : Run) (own : Option ℕ) (a : Arrival) (earlier later : List Told) : Type 0 where
  pub skips : List CallId
  pub its_own : (id : CallId) → Contains skips id → a.request.id ≡ id
  pub holds : Holds form settings new (asked (partition_object settings) skips r own a)
  pub listeners : AreListening new.listeners.items (asked (partition_object settings) skips r own a) own
  pub added : later ≡ earlier ++ all_told (new_messages r (asked (partition_object settings) skips r own a))

module _ {V : Type 0} {T : V → Type 0} {form : FormOf V T} {settings : Settings} (grid : Grid V T) (r : Run) (ok : RunOk (partition_object settings) r) (h : HoldsApart form settings grid r) (own : Option ℕ) (a : Arrival) (may : MayCome r a)
    (are : AreListening grid.listeners.items r own) (low : a.request.partition < partitions) (table : Table) (come_table : HasTable table (record r { arrivals = r.arrivals ++ a ∷ [] }))
    (new : Grid V T) (called world : GridWorld) (known : ℕ) (knew : known ≡ version_known (world_at (partition_object settings) r a.request.partition) a.member) (reception : Reception) (added earlier later : List Told)
    (after : IsAfter grid new r.lines a.request.partition table world (going_out r own (waiting called a.member)))
    (out : HasGivenOut settings called world a.member)
    (wrote : HasSaid settings called r own a known earlier added later)
    (tally : (next : Run) → next.arrivals ≡ r.arrivals ++ a ∷ [] → next.waiters ≡ r.waiters → HasTallied reception grid.tally next → IsTally new.tally next)
    (rows : grid.tally.refused ≡ count_by (is_refused r) r.arrivals) (shortages : grid.tally.memory ≡ count_by (is_out_of_memory r) r.arrivals) where
  abbrev o : Object Request Partition
  o = partition_object settings

  abbrev p : ℕ
  p = a.request.partition

  abbrev old : HasWorld settings grid.worlds.items r p
  old = h.worlds p low

  abbrev before : World Request
  before = world_at o r p

  -- the answers that go out
  abbrev outgoing : List CallAnswer
  outgoing = going_out r own (waiting called a.member)

  -- the run once the call is counted
  abbrev counted : Run
  counted = record r { arrivals = r.arrivals ++ a ∷ [] }

  -- who listens is as before in each run of the same connections and registrations
  listening_in : (run_after : Run) → run_after.members ≡ r.members → listening r own ≡ listening run_after own → AreListening new.listeners.items run_after own
  listening_in run_after members same =
      subst (λ ls. AreListening ls run_after own) (sym after.listeners)
      (still_listening grid.listeners.items r run_after own own members (λ m. ap (λ (f : ℕ → List Listener). f m) same) are)

  waiters_in : (next : Run) → next.members ≡ r.members → next.waiters ≡ r.waiters → HasWaiters new.waiters next
  waiters_in next members same = subst (λ ls. HasWaiters ls next) (sym after.waiters) (waiters_alike grid.waiters r next members same h.waiters)

  -- the call was run
  module _ (did_so : IsCalledSo settings old.world called (events_at p r.events) a added reception) where
    abbrev did : IsCalled settings old.world called (events_at p r.events) a added
    did = did_so.called

    abbrev then_world : World Request
    then_world = (happens o before (call_of a)).world

    abbrev refused : List Appended
    refused = refused_by a.made a.request (happens o before (call_of a)).outcome

    -- what the call appends beside its refusal
    abbrev given : List Appended
    given = messages_by o r own p a.member before then_world

    abbrev called_run : Run
    called_run = arrived r a (its_event a ∷ []) (happening o r own a)

    released_is : waiting called a.member ≡ answers_by o (change_of settings) before then_world
    released_is =
        released_here grid.worlds.items r a world called_run old refl refl called added did out refl
        ∙ ap (λ b. cond b (answers_by o (change_of settings) before then_world) []) (eq-eqb a.member a.member refl)

    -- the row that its member knows then, and what it releases
    messages_are : messages_in (grid_meaning settings) called (events_at p r.events ++ call_of a ∷ []) (reaching_to r own a known) r (listening r own a.member) ≡ given
    messages_are =
        let all = listening r own a.member in
        let change = ap (λ f. answers_by o f before then_world) (sym (changes_are settings)) in
        λ i. messages_at r own p all (adopted_since (knew i) (ran_to old.world called r p (call_of a) old.is did.setup i) a.member) ((released_is ∙ change) i)

    said_alike : spoken (refused ++ map (message_of r.lines) outgoing) ≡ spoken (happening o r own a)
    said_alike = spoken_more refused (map (message_of r.lines) outgoing) given
        (sym (spoken_at r own p (listening r own a.member) (adopted_since known (run_of (grid_meaning settings) called (events_at p r.events ++ call_of a ∷ [])) a.member) (waiting called a.member))
        ∙ ap spoken messages_are)

    called_table : HasTable new.connections called_run
    called_table =
        let first = refusals_table refused table counted (refusals_answer_none a.made a.request (happens o before (call_of a)).outcome) come_table in
        let all = answers_table r.lines outgoing table (record counted { appended = r.appended ++ refused }) first in
        let same = ap spoken (append_assoc r.appended refused (map (message_of r.lines) outgoing)) ∙ spoken_more r.appended (refused ++ map (message_of r.lines) outgoing) (happening o r own a) said_alike in
        let whole = alike_table (with_answers table r.lines outgoing) (record counted { appended = (r.appended ++ refused) ++ map (message_of r.lines) outgoing }) (r.appended ++ happening o r own a) same all in
        subst (λ t. HasTable t called_run) (sym after.answered) (record { size = whole.size; connections = whole.connections; calls = whole.calls })

    so_received : reception ≡ received refused
    so_received = did_so.so ∙ ap (λ w. received (refused_by a.made a.request (happens o w (call_of a)).outcome)) (run_is old.world r p old.is)

    called_holds : Holds form settings new called_run
    called_holds = record {
      goes_by = ap (settings_of form) after.env ∙ h.goes_by;
      goes_on = h.goes_on;
      lines = after.lines;
      members = after.members ∙ h.members;
      links = after.links ∙ h.links;
      moments = after.moments ∙ h.moments;
      clocks = h.clocks;
      table = called_table;
      waiters = waiters_in called_run refl refl;
      tally = tally called_run refl refl
          (called_so r ok a may grid.tally rows shortages reception (its_event a ∷ []) (happens o before (call_of a)).outcome given (messages_refuse_none o r p own a.member before then_world) so_received);
      reopened = after.reopened ∙ h.reopened;
      worlds = λ q below. subst (λ ws. HasWorld settings ws called_run q) (sym after.worlds) (called_worlds grid.worlds.items r a world called_run old refl refl called added did out refl q (h.worlds q below));
    }

    added_is : added ≡ all_told refused
    added_is = did.told ∙ ap (λ w. all_told (refused_by a.made a.request (happens o w (call_of a)).outcome)) (run_is old.world r p old.is)

    called_told : later ≡ earlier ++ all_told (new_messages r called_run)
    called_told =
        wrote (events_at p r.events ++ call_of a ∷ []) did.stands ∙ (λ i. (earlier ++ added_is i) ++ all_told (messages_are i))
        ∙ append_assoc earlier (all_told refused) (all_told given)
        ∙ ap (λ xs. earlier ++ xs) (sym (ap all_told (new_with r called_run (happening o r own a) refl) ∙ told-append refused given))

    pub call_ran : HasMade form settings new r own a earlier later
    call_ran = record {
      skips = [];
      its_own = λ id there. absurd (in_contains id [] there);
      holds = called_holds;
      listeners = listening_in called_run refl refl;
      added = called_told;
    }

  -- the call found no memory
  module _ (missed_so : IsSkippedSo settings old.world called (events_at p r.events) a added reception) where
    abbrev missed : IsSkipped settings old.world called (events_at p r.events) a added
    missed = missed_so.skipped

    abbrev excuse : List Appended
    excuse = refusal a.made a.request (pos want_of_memory) 0 ∷ []

    abbrev skipped_run : Run
    skipped_run = arrived r a [] (refusal a.made a.request (pos want_of_memory) 0 ∷ [])

    skip_it : is_skipped (a.request.id ∷ []) a.request.id ≡ true
    skip_it = let same : is_same_call a.request.id a.request.id ≡ true = same_call_refl a.request.id in rw same refl

    asked_is : asked o (a.request.id ∷ []) r own a ≡ skipped_run
    asked_is = ap (λ b. cond b skipped_run (arrived r a (its_event a ∷ []) (happening o r own a))) skip_it

    none_go : outgoing ≡ []
    none_go = ap (going_out r own) (nothing_waits grid.worlds.items r a world skipped_run old refl refl called added missed out (append-nil r.events) a.member)

    excuse_answers_none : (m : Appended) → In m excuse → m.answers ≡ None
    excuse_answers_none m (inl e) = ap (λ (n : Appended). n.answers) (sym e)
    excuse_answers_none m (inr i) = absurd i

    skipped_table : HasTable new.connections skipped_run
    skipped_table =
        let whole = refusals_table excuse table counted excuse_answers_none come_table in
        subst (λ t. HasTable t skipped_run) (sym (after.answered ∙ ap (with_answers table r.lines) none_go))
        (record { size = whole.size; connections = whole.connections; calls = whole.calls })

    skipped_holds : Holds form settings new skipped_run
    skipped_holds = record {
      goes_by = ap (settings_of form) after.env ∙ h.goes_by;
      goes_on = h.goes_on;
      lines = after.lines;
      members = after.members ∙ h.members;
      links = after.links ∙ h.links;
      moments = after.moments ∙ h.moments;
      clocks = h.clocks;
      table = skipped_table;
      waiters = waiters_in skipped_run refl refl;
      tally = tally skipped_run refl refl (skipped_so r ok a may grid.tally rows shortages reception missed_so.so);
      reopened = after.reopened ∙ h.reopened;
      worlds = λ q below. subst (λ ws. HasWorld settings ws skipped_run q) (sym after.worlds)
          (skipped_worlds grid.worlds.items r a world skipped_run old refl refl called added missed out (append-nil r.events) q (h.worlds q below));
    }

    -- Its world has run nothing.
    nothing_said : messages_in (grid_meaning settings) called (events_at p r.events) (reaching_to r own a known) r (listening r own a.member) ≡ []
    nothing_said =
        let all = listening r own a.member in
        let world_is = run_is called r p (record { stands = missed.stands; setup = missed.setup ∙ old.is.setup }) in
        let waits = nothing_waits grid.worlds.items r a world skipped_run old refl refl called added missed out (append-nil r.events) a.member in
        (λ i. messages_at r own p all (adopted_since (knew i) (world_is i) a.member) (waits i))
        ∙ ap (λ row. messages_at r own p all row []) (none_adopted before a.member)

    skipped_told : later ≡ earlier ++ all_told (new_messages r skipped_run)
    skipped_told =
        wrote (events_at p r.events) missed.stands ∙ (λ i. (earlier ++ missed.told i) ++ all_told (nothing_said i))
        ∙ append-nil (earlier ++ all_told excuse)
        ∙ ap (λ ms. earlier ++ all_told ms) (sym (new_with r skipped_run excuse refl))

    its_own_call : (id : CallId) → Contains (a.request.id ∷ []) id → a.request.id ≡ id
    its_own_call id there = ⊎_elim (λ e. e) (λ i. absurd i) (in_contains id (a.request.id ∷ []) there)

    pub call_skipped : HasMade form settings new r own a earlier later
    call_skipped = record {
      skips = a.request.id ∷ [];
      its_own = its_own_call;
      holds = subst (Holds form settings new) (sym asked_is) skipped_holds;
      listeners = subst (λ x. AreListening new.listeners.items x own) (sym asked_is) (listening_in skipped_run refl refl);
      added = skipped_told ∙ ap (λ (n : Run). earlier ++ all_told (new_messages r n)) (sym asked_is);
    }
