-- A call that waited: it is made, or refused, or it leaves, and the grid follows.
use Rattle.std.proofs.Common.{◌≡◌, ℕ, ◌<◌, true, false, List, [], ◌∷◌, ◌++◌, length, drop, Option, None, Contains, refl, ap, sym, ◌∙◌, subst, inl, append-nil, arith}
use Rattle.std.proofs.lemmas.List.Sums.{count_by-le-length}
use Rattle.std.specs.Option.{option_map}
use Rattle.std.proofs.Math.Seq.{drop-append_seam}
use Rattle.grid_base.specs.Objects.{Object}
use Rattle.grid_base.specs.declared.names.CallId.{CallId}
use Rattle.grid_base.specs.declared.calls.Request.{Request}
use Rattle.object_store.specs.Partitions.{Partition}
use Rattle.partition_protocol.specs.Execution.{Reached}
use Rattle.partition_protocol.specs.Events.{Refused}
use Rattle.partition_protocol.proofs.Lists.{In, in_contains, contains_in, on_if}
use Rattle.waiting_protocol.specs.Machine.{Fate, Stays, Runs, Starves, IsRefused, Leaves, is_made}
use Rattle.call_engine.specs.Calls.{Settings}
use Rattle.call_engine.specs.Objects.{partition_object}
use Rattle.replay_run.specs.declared.grid.Grid.{Grid}
use Rattle.replay_run.specs.declared.tally.Tally.{Tally}
use Rattle.replay_run.specs.declared.tally.Reception.{Reception}
use Rattle.replay_run.specs.declared.tally.Reception.TheVariants.{Taken}
use Rattle.replay_run.specs.Runs.{Run, Waiter, Appended, events_at, world_at, is_full, is_skipped, refused_at, arrived, asked, asks, without, ending, leaves, leaves_so, fate_now}
use Rattle.replay_run.specs.Counts.{is_refused, is_out_of_memory}
use Rattle.replay_run.specs.Endings.{new_arrivals, AreAmong}
use Rattle.replay_run.specs.Printing.{new_messages}
use Rattle.replay_run.specs.ScriptRuns.{IsRun, waiter_asked, waiter_refused, waiter_left}
use Rattle.replay_run.specs.Tables.{opened_at}
use Rattle.replay_run.specs.Tallies.{received, tallied_later}
use Rattle.replay_run.specs.Grids.{FormOf, HasTable, IsTally, HasWorld, Holds, AreListening}
use Rattle.replay_run.specs.WorldCalls.{GivesUpSo}
use Rattle.replay_run.specs.WaiterCalls.{IsBetween, handled_count, SameCounts, HasServed, HoldsBut, by_leaving}
use Rattle.replay_run.proofs.Answering.{refusals_answer_none}
use Rattle.replay_run.proofs.Arriving.{without_ok, comes_later}
use Rattle.replay_run.proofs.EventRuns.{asks_here, asks_nothing, fewer}
use Rattle.replay_run.proofs.GridCalls.{HoldsApart, HasMade}
use Rattle.replay_run.proofs.LineTexts.{new_with}
use Rattle.replay_run.proofs.RunFacts.{RunOk}
use Rattle.replay_run.proofs.RunsOfLines.{run_ok}
use Rattle.replay_run.proofs.TableRuns.{came_ending, table_alike, refusals_table}
use Rattle.replay_run.proofs.Tallies.{HasTallied, called_so, left_so, ended_tally}
use Rattle.replay_run.proofs.WorldRuns.{same_events}
use Rattle.replay_run.specs.LineTold.{all_told}
use Rattle.line_told.specs.declared.told.Told.{Told}

-- whose call is to be made, leaves so
made_so : (o : Object Request Partition) (skips : List CallId) (r : Run) (own : Option ℕ) (w : Waiter) (fate : Fate) → is_made fate ≡ true → leaves_so o skips r own w fate ≡ asks o skips (without r w) own (ending r w)
made_so o skips r own w Stays made = absurd cc
made_so o skips r own w Runs made = refl
made_so o skips r own w Starves made = refl
made_so o skips r own w (IsRefused why) made = absurd cc
made_so o skips r own w Leaves made = absurd cc

-- it is the only arrival that is new
one_new : (o : Object Request Partition) (skips : List CallId) (r : Run) (own : Option ℕ) (w : Waiter) → (asked o skips (without r w) own (ending r w)).arrivals ≡ r.arrivals ++ ending r w ∷ []
one_new o skips r own w = on_if (λ (x : Run). x.arrivals ≡ r.arrivals ++ ending r w ∷ []) (is_skipped skips w.request.id) _ _ refl refl

module _ {V : Type 0} {T : V → Type 0} {form : FormOf V T} {settings : Settings} (grid : Grid V T) (r : Run) (w : Waiter) (run : IsRun (partition_object settings) r) (there : Contains r.waiters w) (h : HoldsBut form settings grid r w) where
  abbrev o : Object Request Partition
  o = partition_object settings

  i : In w r.waiters
  i = in_contains w r.waiters there

  ok : RunOk o r
  ok = run_ok run

  worlds_alike : (next : Run) → next.events ≡ r.events → next.members ≡ r.members → next.backups ≡ r.backups → (p : ℕ) → HasWorld settings grid.worlds.items r p → HasWorld settings grid.worlds.items next p
  worlds_alike next events members backups p has = record { world = has.world; there = has.there; is = same_events has.world r next p has.is (ap (events_at p) events) members backups; given = has.given }

  pub late_apart : HoldsApart form settings grid (without r w)
  late_apart = record {
    goes_by = h.goes_by;
    goes_on = h.goes_on;
    lines = h.lines;
    members = h.members;
    links = h.links;
    moments = h.moments;
    clocks = h.clocks;
    waiters = h.waiters;
    reopened = h.reopened;
    worlds = λ p low. worlds_alike (without r w) refl refl refl p (h.worlds p low);
  }

  -- the run in which it waits no more
  abbrev pub late_run : Run
  late_run = record (without r w) { arrivals = r.arrivals ++ ending r w ∷ [] }

  -- the table had the call as it came
  pub late_table : HasTable grid.connections (record (without r w) { arrivals = r.arrivals ++ ending r w ∷ [] })
  late_table = table_alike grid.connections r (record (without r w) { arrivals = r.arrivals ++ ending r w ∷ [] }) refl refl (came_ending r w ok.of_waiters i []) h.table

  pub late_tally : (tally : Tally) (reception : Reception) → tally ≡ tallied_later reception grid.tally
      → (next : Run) → next.arrivals ≡ (without r w).arrivals ++ ending r w ∷ [] → next.waiters ≡ (without r w).waiters → HasTallied reception grid.tally next → IsTally tally next
  late_tally tally reception is next come waiting has = subst (λ t. IsTally t next) (sym is) (ended_tally grid.tally r next w reception ok.of_waiters i h.tally come waiting has)

  -- The grid has this run, before anything becomes of the call.
  pub late_holds : Holds form settings grid (record (without r w) { arrivals = r.arrivals ++ ending r w ∷ [] })
  late_holds =
      let left = left_so (without r w) (without_ok o r w ok) (ending r w) (comes_later o r w ok i) grid.tally h.tally.refused h.tally.memory in
      let silent : HasTallied Taken grid.tally (record (without r w) { arrivals = r.arrivals ++ ending r w ∷ [] }) =
      subst (λ ms. HasTallied Taken grid.tally (record (without r w) { arrivals = r.arrivals ++ ending r w ∷ []; appended = ms })) (append-nil r.appended) (record { refused = left.refused; memory = left.memory }) in
      record {
        goes_by = h.goes_by;
        goes_on = h.goes_on;
        lines = h.lines;
        members = h.members;
        links = h.links;
        moments = h.moments;
        clocks = h.clocks;
        table = late_table;
        waiters = record { size = h.waiters.size; listed = h.waiters.listed; there = h.waiters.there; fit = h.waiters.fit };
        tally = late_tally grid.tally Taken refl late_run refl refl silent;
        reopened = h.reopened;
        worlds = λ p low. worlds_alike late_run refl refl refl p (h.worlds p low);
      }

  -- More calls came than were refused, since this one wasn't.
  pub late_few : (grid.tally.refused < grid.tally.arrived) × (grid.tally.memory < grid.tally.arrived)
  late_few =
      let refused = count_by-le-length (is_refused r) r.arrivals in
      let memory = count_by-le-length (is_out_of_memory r) r.arrivals in
      let less = fewer w r.waiters i in
      let all = h.tally.arrived in
      let its_refused = h.tally.refused in
      let its_memory = h.tally.memory in
      (omega (arith, refused, less, all, its_refused), omega (arith, memory, less, all, its_memory))

  -- Its plain call was made.
  pub late_made : (own : Option ℕ) (new : Grid V T) (earlier later : List Told) → is_made (fate_now o r w) ≡ true → is_full (world_at o (without r w) w.request.partition) ≡ false → SameCounts grid.connections new.connections
      → HasMade form settings new (without r w) own (ending r w) earlier later → HasServed form settings grid new r own (by_leaving settings r own w) earlier later
  late_made own new earlier later made room counts has =
      let next = asked o has.skips (without r w) own (ending r w) in
      let same : leaves_so o has.skips r own w (fate_now o r w) ≡ next = made_so o has.skips r own w (fate_now o r w) made ∙ asks_here o has.skips (without r w) own (ending r w) room in
      let come : new_arrivals r next ≡ ending r w ∷ [] = ap (drop (length r.arrivals)) (one_new o has.skips r own w) ∙ drop-append_seam r.arrivals (ending r w ∷ []) in
      record {
        skips = has.skips;
        among = subst (λ (x : Run). AreAmong (new_arrivals r x) has.skips) (sym same)
            (λ id c. (ending r w, subst (λ xs. Contains xs (ending r w)) (sym come) (contains_in (ending r w) (ending r w ∷ []) (inl refl)), has.its_own id c));
        between = subst (λ (x : Run). IsBetween form settings new x own) (sym same) (record { run = waiter_asked has.skips r own w run there; holds = has.holds; listeners = has.listeners });
        counts = counts;
        added = has.added ∙ ap (λ (x : Run). earlier ++ all_told (new_messages r x)) (sym same);
      }

  -- or meets a full partition
  pub late_full : (own : Option ℕ) → is_made (fate_now o r w) ≡ true → is_full (world_at o (without r w) w.request.partition) ≡ true → GivesUpSo r (by_leaving settings r own w)
  late_full own made full = record {
    skips = [];
    own = λ id c. absurd (in_contains id [] c);
    full = ap (λ (x : Run). x.full) (made_so o [] r own w (fate_now o r w) made) ∙ asks_nothing o [] (without r w) own (ending r w) full;
  }

  -- It leaves without an answer.

  left_holds : Holds form settings grid (leaves r w)
  left_holds = record {
    goes_by = h.goes_by;
    goes_on = h.goes_on;
    lines = h.lines;
    members = h.members;
    links = h.links;
    moments = h.moments;
    clocks = h.clocks;
    table = table_alike grid.connections r (leaves r w) refl (append-nil r.appended) (came_ending r w ok.of_waiters i []) h.table;
    waiters = record { size = h.waiters.size; listed = h.waiters.listed; there = h.waiters.there; fit = h.waiters.fit };
    tally = late_tally grid.tally Taken refl (leaves r w) refl refl (left_so (without r w) (without_ok o r w ok) (ending r w) (comes_later o r w ok i) grid.tally h.tally.refused h.tally.memory);
    reopened = h.reopened;
    worlds = λ p low. worlds_alike (leaves r w) (append-nil r.events) refl refl p (h.worlds p low);
  }

  pub late_left : (own : Option ℕ) (later : List Told) → AreListening grid.listeners.items r own → fate_now o r w ≡ Leaves → HasServed form settings grid grid r own (by_leaving settings r own w) later later
  late_left own later are fate =
      let same : leaves_so o [] r own w (fate_now o r w) ≡ leaves r w = ap (leaves_so o [] r own w) fate in
      record {
        skips = [];
        among = λ id c. absurd (in_contains id [] c);
        between = subst (λ (x : Run). IsBetween form settings grid x own) (sym same) (record { run = waiter_left r w run there; holds = left_holds; listeners = record { size = are.size; each = are.each } });
        counts = λ c. refl;
        added = sym (ap (λ (x : Run). later ++ all_told (new_messages r x)) same ∙ ap (λ ms. later ++ all_told ms) (new_with r (leaves r w) [] refl) ∙ append-nil later);
      }

  -- It is refused as its plain call would be.
  module _ (why : Reached) (reception : Reception) (counts_so : reception ≡ received (refused_at r.lines w.request why)) (new : Grid V T) (tally : Tally) (made : new ≡ record grid { tally = tally }) (is_tally : tally ≡ tallied_later reception grid.tally) where
    abbrev refused_run : Run
    refused_run = arrived (without r w) (ending r w) [] (refused_at r.lines w.request why)

    answer_none : (m : Appended) → In m (refused_at r.lines w.request why) → m.answers ≡ None
    answer_none = refusals_answer_none r.lines w.request (Refused why)

    refused_table : HasTable grid.connections refused_run
    refused_table =
        let all = refusals_table (refused_at r.lines w.request why) grid.connections (record (without r w) { arrivals = r.arrivals ++ ending r w ∷ [] }) answer_none late_table in
        record { size = all.size; connections = all.connections; calls = all.calls }

    tallied : HasTallied reception grid.tally refused_run
    tallied =
        let so = called_so (without r w) (without_ok o r w ok) (ending r w) (comes_later o r w ok i) grid.tally h.tally.refused h.tally.memory reception [] (Refused why) [] (λ m j. absurd j) counts_so in
        subst (λ ms. HasTallied reception grid.tally (arrived (without r w) (ending r w) [] ms)) (append-nil (refused_at r.lines w.request why)) so

    refused_holds : Holds form settings (record grid { tally = tally }) refused_run
    refused_holds = record {
      goes_by = h.goes_by;
      goes_on = h.goes_on;
      lines = h.lines;
      members = h.members;
      links = h.links;
      moments = h.moments;
      clocks = h.clocks;
      table = refused_table;
      waiters = record { size = h.waiters.size; listed = h.waiters.listed; there = h.waiters.there; fit = h.waiters.fit };
      tally = late_tally tally reception is_tally refused_run refl refl tallied;
      reopened = h.reopened;
      worlds = λ p low. worlds_alike refused_run (append-nil r.events) refl refl p (h.worlds p low);
    }

    pub late_refused : (own : Option ℕ) (earlier later : List Told) → AreListening grid.listeners.items r own → fate_now o r w ≡ IsRefused why → later ≡ earlier ++ all_told (refused_at r.lines w.request why) → HasServed form settings grid new r own (by_leaving settings r own w) earlier later
    late_refused own earlier later are fate is =
        let same : leaves_so o [] r own w (fate_now o r w) ≡ refused_run = ap (leaves_so o [] r own w) fate in
        record {
          skips = [];
          among = λ id c. absurd (in_contains id [] c);
          between = subst (λ (x : Run). IsBetween form settings new x own) (sym same)
              (subst (λ g. IsBetween form settings g refused_run own) (sym made) (record { run = waiter_refused r w why run there; holds = refused_holds; listeners = record { size = are.size; each = are.each } }));
          counts = λ c. ap (λ (g : Grid V T). option_map handled_count (opened_at g.connections c)) made;
          added = is ∙ ap (λ ms. earlier ++ all_told ms) (sym (new_with r refused_run (refused_at r.lines w.request why) refl)) ∙ ap (λ (x : Run). earlier ++ all_told (new_messages r x)) (sym same);
        }
