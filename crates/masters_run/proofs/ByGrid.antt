-- A line that the grid runs as it stands, with masters or without.
use Rattle.std.proofs.Common.{◌≡◌, ◌≢◌, ℕ, ◌<◌, ◌≤◌, true, false, true≢false, cond, ◌==◌, List, [], ◌∷◌, ◌++◌, length, Option, Some, None, refl, ap, sym, ◌∙◌, subst, arith}
use Rattle.std.proofs.lemmas.List.{map-append}
use Rattle.grid_base.specs.Objects.{Object}
use Rattle.grid_base.specs.declared.names.CallId.{CallId}
use Rattle.grid_base.specs.declared.calls.Request.{Request}
use Rattle.object_store.specs.Partitions.{Partition}
use Rattle.call_engine.specs.Calls.{Settings}
use Rattle.call_engine.specs.Objects.{partition_object}
use Rattle.partition_protocol.specs.Events.{Event}
use Rattle.partition_protocol.specs.Events as event
use Rattle.partition_protocol.specs.Service.{numbers_below}
use Rattle.partition_protocol.proofs.RowFacts.{number_other}
use Rattle.masters_protocol.specs.Machine as masters
use Rattle.masters_world.specs.Machine.{Line, Asks, start, proposals, asked}
use Rattle.master_log.specs.declared.masters.Masters.{Masters}
use Rattle.master_log.specs.Standing.{StandsFor}
use Rattle.script_lang.specs.declared.line.Line.{Line as ScriptLine}
use Rattle.script_lang.specs.declared.line.Line.TheVariants as ScriptLines
use Rattle.script_lang.specs.Lines.{IsWithin}
use Rattle.line_told.specs.declared.told.Told.{Told}
use Rattle.replay_run.specs.Runs.{Run, At, partitions, takes, takes_in, next_line, event_by}
use Rattle.replay_run.specs.Endings.{AreAmong, new_arrivals}
use Rattle.replay_run.specs.Grids.{FormOf, most_arriving}
use Rattle.replay_run.specs.Grids as alone
use Rattle.replay_run.specs.LineTold.{came_to, line_told as alone_told}
use Rattle.line_told.specs.declared.told.LineOutcome.TheVariants.{Ran, Idle}
use Rattle.line_told.specs.declared.told.Ready.{Ready}
use Rattle.replay_run.proofs.Bounds as bounds
use Rattle.replay_run.proofs.LineCounts as counts
use Rattle.masters_run.specs.declared.grid.RuledGrid.{RuledGrid}
use Rattle.masters_run.specs.Runs.{RuledRun, are_some, has_masters, ruled_at, takes_each, goes, goes_in, counted, opening_masters}
use Rattle.masters_run.specs.AfterLines.{by_grid, unruled, after_line}
use Rattle.masters_run.specs.LineTold.{grid_told, unruled_told, line_told}
use Rattle.masters_run.specs.Written.{written_event, written_events}
use Rattle.masters_run.specs.Grids.{HasMastersAt, Rules, Stands, HasRun, HasGiven, IsGivenUp}
use Rattle.masters_run.specs.Parts.{is_held_back, is_of_masters, HaveCrashed}
use Rattle.masters_run.proofs.AskedLines.{asked_more, crash_publishes_nothing, happens_at_once}
use Rattle.replay_run.proofs.EventLines.{of_event}
use Rattle.masters_run.proofs.AtOnce.{IsOwn, as_event, as_own, asks_none, event_goes, event_tells}
use Rattle.masters_run.proofs.Going.{goes_far}
use Rattle.masters_run.proofs.LineParts.{with_masters, told_with_masters, without_masters, told_without_masters}
use Rattle.masters_run.proofs.RuleLemmas.{own_rules, quiet_rules, counted_rules, WereAskedIn, goes_in_rules}

-- what the line is, to the grid's run and to the code's masters, which become these
pub record RunsAlone (settings : Settings) (s : RuledRun) (line : ScriptLine) (all new : List Masters) : Type 0 where
  pub next : List CallId → RuledRun
  pub after : (skips : List CallId) → after_line (partition_object settings) skips s line ≡ next skips
  pub run : (skips : List CallId) → (next skips).run ≡ (by_grid (partition_object settings) skips s line).run
  pub tells : (skips : List CallId) → line_told settings skips s line (next skips) ≡ grid_told settings skips s line (next skips)
  pub rules : (skips : List CallId) → (next skips).run.full ≡ false → Rules settings all s → Rules settings new (next skips)

module _ {V : Type 0} {T : V → Type 0} {form : FormOf V T} {settings : Settings} (all new : RuledGrid V T) (s : RuledRun) (stands : Stands form settings all s) (line : ScriptLine) (h : RunsAlone settings s line all.masters.items new.masters.items) where
  -- what the grid's run after it is, the run with masters has
  module _ (P : Run → Type 0) (skips : List CallId) where
    here : P (by_grid (partition_object settings) skips s line).run → P (after_line (partition_object settings) skips s line).run
    here is = subst P (sym (ap (λ (x : RuledRun). x.run) (h.after skips) ∙ h.run skips)) is

  pub alone_ran : (earlier later : List Told) → alone.HasRun form settings new.grid s.run line earlier later → HasRun form settings new s line earlier later
  alone_ran earlier later ran =
      let k = ran.skips in
      let lines = bounds.line_lines (partition_object settings) k s.run line in
      let some = stands.some in
      let there : Stands form settings new (h.next k) = record {
        grid = subst (alone.Stands form settings new.grid) (sym (h.run k)) ran.stands;
        masters = h.rules k (ap (λ (r : Run). r.full) (h.run k) ∙ ran.stands.holds.goes_on) stands.masters;
        some = subst (λ (r : Run). 1 ≤ r.lines) (sym (h.run k)) (omega (arith, lines));
        begun = λ one. absurd (let same = ap (λ (r : Run). r.lines) (h.run k) in omega (arith, lines, some, one, same));
      } in
      record {
        skips = k;
        of_line = here (λ r. AreAmong (new_arrivals s.run r) k) k ran.of_line;
        stands = subst (Stands form settings new) (sym (h.after k)) there;
        added = ran.added ∙ ap (λ xs. earlier ++ xs) (sym (ap (λ x. line_told settings k s line x) (h.after k) ∙ h.tells k ∙ ap (λ (r : Run). alone_told settings k s.run line r) (h.run k)));
      }

  -- with what it wrote
  pub alone_gave : (earlier later : Ready) → alone.HasGiven form settings new.grid s.run line earlier later → HasGiven form settings new s line earlier later
  alone_gave earlier later gave = record { told = alone_ran earlier.told.items later.told.items gave.told; printed = gave.printed }

  pub alone_up : alone.IsGivenUp settings s.run line → IsGivenUp settings s line
  alone_up up = record { skips = up.skips; of_line = here (λ r. AreAmong (new_arrivals s.run r) up.skips) up.skips up.of_line; full = here (λ r. r.full ≡ true) up.skips up.full }

-- with masters

module _ (settings : Settings) (s : RuledRun) (line : ScriptLine) (all : List Masters) (ruled : has_masters s ≡ true) where
  pub own_alone : IsOwn settings s line → RunsAlone settings s line all all
  own_alone own = record {
    next = λ k. by_grid (partition_object settings) k s line;
    after = λ k. with_masters (partition_object settings) k s line ruled ∙ own.after k;
    run = λ k. refl;
    tells = λ k. told_with_masters settings k s line (by_grid (partition_object settings) k s line) ruled ∙ own.tells k (by_grid (partition_object settings) k s line);
    rules = λ k full rules. own_rules settings all k s line own.plain own.none rules;
  }

  pub event_alone : (e : At) → event_by line ≡ Some e → proposals (ruled_at (partition_object settings) s e.partition) e.event ≡ [] → is_held_back settings s line ≡ false → e.partition < partitions → length s.masters ≡ partitions → RunsAlone settings s line all all
  event_alone e is nothing on placed whole =
      let low : e.partition < length s.masters = omega (arith, placed, whole) in
      let its = as_event settings s line e is in
      let goes_so = event_goes settings s line e is nothing on low in
      record {
        next = λ k. by_grid (partition_object settings) k s line;
        after = λ k. with_masters (partition_object settings) k s line ruled ∙ its.after k ∙ goes_so k;
        run = λ k. refl;
        tells = λ k. told_with_masters settings k s line (by_grid (partition_object settings) k s line) ruled ∙ its.tells k (by_grid (partition_object settings) k s line)
            ∙ event_tells settings s line e is nothing on low k (by_grid (partition_object settings) k s line) (sym (goes_so k));
        rules = λ k full rules. subst (Rules settings all) (goes_so k)
            (quiet_rules settings all k (counted s) e.partition (Asks e.event) ruled placed (asks_none settings s line e is nothing on low) (ap (λ (x : RuledRun). x.run.full) (goes_so k) ∙ full) (counted_rules settings all s rules));
      }

  -- a line that proposes nothing, isn't held back and isn't taken apart
  pub by_alone : ((e : At) → event_by line ≡ Some e → proposals (ruled_at (partition_object settings) s e.partition) e.event ≡ []) → ((p most : ℕ) → line ≢ ScriptLines.Flow p most) → ((most : ℕ) → line ≢ ScriptLines.FlowAll most) → ((member : ℕ) → line ≢ ScriptLines.Crash member) → ((member : ℕ) → line ≢ ScriptLines.Detect member)
      → is_held_back settings s line ≡ false → is_of_masters line ≡ false → IsWithin s.run.members most_arriving line → length s.masters ≡ partitions → RunsAlone settings s line all all
  by_alone nothing flow flow_all crash detect on other read whole = go (event_by line) refl
    where
      go : (e : Option At) → event_by line ≡ e → RunsAlone settings s line all all
      go None none = own_alone (as_own settings s line none flow flow_all crash detect on other)
      go (Some e) is = event_alone e is (nothing e is) on ((of_event settings s.run line e is).within s.run.members most_arriving read) whole

-- a crash

module _ (o : Object Request Partition) (skips : List CallId) (m : ℕ) where
  crash_run : (s : RuledRun) (p : ℕ) → (goes o skips s p (Asks (event.Crash m))).run ≡ takes o skips s.run p (event.Crash m)
  crash_run s p =
      let j = ruled_at o s p in
      ap (λ (x : RuledRun). x.run) (goes_far o skips s p (Asks (event.Crash m)) refl)
      ∙ ap (λ es. takes_each o skips s.run p es) (happens_at_once j (Asks (event.Crash m)) (crash_publishes_nothing j m))

  pub crash_runs : (s : RuledRun) (r : Run) (ps : List ℕ) → s.run ≡ r → (goes_in o skips s (Asks (event.Crash m)) ps).run ≡ takes_in o skips r (event.Crash m) ps
  crash_runs s r [] same = same
  crash_runs s r (p ∷ ps) same = crash_runs (goes o skips s p (Asks (event.Crash m))) (takes o skips r p (event.Crash m)) ps (crash_run s p ∙ ap (λ x. takes o skips x p (event.Crash m)) same)

module _ (settings : Settings) (s : RuledRun) (m : ℕ) (all new : List Masters) (crashed : HaveCrashed m all new) (ruled : has_masters s ≡ true) where
  abbrev l : Line Request
  l = Asks (event.Crash m)

  were_asked : (p : ℕ) → p < partitions → (at : HasMastersAt settings all (counted s) p) → WereAskedIn settings all new (counted s) l p at
  were_asked p low at =
      let its = crashed.each p at.masters at.there in
      let first = start p s.run.members s.run.backups in
      let events = asked (partition_object settings) first at.are.lines in
      let same : written_events (asked (partition_object settings) first (at.are.lines ++ l ∷ [])) ≡ written_events events ++ masters.Crash m ∷ [] = ap (λ es. written_events es) (asked_more (partition_object settings) first at.are.lines l) ∙ map-append written_event events (masters.Crash m ∷ []) in
      record {
        masters = its.masters;
        there = its.there;
        size = its.crashed.size ∙ at.are.size;
        stands = subst (λ es. StandsFor its.masters es) (sym same) (its.crashed.stands (written_events events) at.are.stands);
      }

  pub crash_alone : RunsAlone settings s (ScriptLines.Crash m) all new
  crash_alone = record {
    next = λ k. goes_in (partition_object settings) k (counted s) l (numbers_below partitions);
    after = λ k. with_masters (partition_object settings) k s (ScriptLines.Crash m) ruled;
    run = λ k. crash_runs (partition_object settings) k m (counted s) (next_line s.run) (numbers_below partitions) refl;
    tells = λ k. told_with_masters settings k s (ScriptLines.Crash m) (goes_in (partition_object settings) k (counted s) l (numbers_below partitions)) ruled;
    rules = λ k full rules. goes_in_rules settings all new k (counted s) l crashed.count were_asked ruled full (counted_rules settings all s rules);
  }

-- without masters

-- a line that is no `masters`, or comes later
pub record IsUnruled (settings : Settings) (s : RuledRun) (line : ScriptLine) : Type 0 where
  pub after : (skips : List CallId) → unruled (partition_object settings) skips s line ≡ by_grid (partition_object settings) skips s line
  pub tells : (skips : List CallId) (next : RuledRun) → unruled_told settings skips s line next ≡ grid_told settings skips s line next

module _ (settings : Settings) (s : RuledRun) (line : ScriptLine) (all : List Masters) (none : has_masters s ≡ false) where
  no_rules : (next : RuledRun) → next.masters ≡ s.masters → next.run.members ≡ s.run.members → Rules settings all s → Rules settings all next
  no_rules next same members rules =
      let still : has_masters next ≡ false = ap (λ ws. are_some ws) same ∙ none in
      record {
        count = rules.count ∙ ap (λ ws. length ws) (sym same);
        ruled = λ is. absurd (true≢false (sym is ∙ still));
        each = λ is. absurd (true≢false (sym is ∙ still));
        most = subst (λ n. n ≤ 8) (sym members) rules.most;
      }

  pub unruled_alone : IsUnruled settings s line → RunsAlone settings s line all all
  unruled_alone its = record {
    next = λ k. by_grid (partition_object settings) k s line;
    after = λ k. without_masters (partition_object settings) k s line none ∙ its.after k;
    run = λ k. refl;
    tells = λ k. told_without_masters settings k s line (by_grid (partition_object settings) k s line) none ∙ its.tells k (by_grid (partition_object settings) k s line);
    rules = λ k full rules. no_rules (by_grid (partition_object settings) k s line) refl ((counts.line_counted (partition_object settings) k s.run line).members) rules;
  }

pub masters_later : (settings : Settings) (s : RuledRun) → s.run.lines ≢ 1 → IsUnruled settings s ScriptLines.Masters
masters_later settings s later =
    let is : (s.run.lines == 1) ≡ false = number_other s.run.lines 1 later in
    record {
      after = λ k. ap (λ b. cond b (record (counted s) { masters = opening_masters s.run.members }) (by_grid (partition_object settings) k s ScriptLines.Masters)) is;
      tells = λ k next. ap (λ b. came_to (cond b Ran Idle)) is;
    }

-- each line but `masters` is the grid's
pub is_unruled : (settings : Settings) (s : RuledRun) (l : ScriptLine) → l ≢ ScriptLines.Masters → IsUnruled settings s l
is_unruled settings s ScriptLines.Masters other = absurd (other refl)
is_unruled settings s l other = record { after = λ k. refl; tells = λ k next. refl }

pub unruled_as : (settings : Settings) (s : RuledRun) (l : ScriptLine) → l ≡ ScriptLines.Masters → IsUnruled settings s ScriptLines.Masters → IsUnruled settings s l
unruled_as settings s l same = subst (IsUnruled settings s) (sym same)
