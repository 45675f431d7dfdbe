-- What the masters of a partition published has happened to it, and was told: the run has gone on by the line that they were asked.
use Rattle.std.proofs.Common.{◌≡◌, ℕ, ◌+◌, true, false, cond, List, [], ◌∷◌, ◌++◌, map, length, drop, slice_set, refl, ap, sym, ◌∙◌, subst, append_assoc, append-nil, arith}
use Rattle.std.specs.Prelude.{if◌then◌else◌}
use Rattle.std.proofs.lemmas.List.{drop_at, drop_all}
use Rattle.grid_base.specs.declared.names.CallId.{CallId}
use Rattle.grid_base.specs.declared.calls.Request.{Request}
use Rattle.call_engine.specs.Calls.{Settings}
use Rattle.call_engine.specs.Objects.{partition_object}
use Rattle.partition_protocol.specs.Events.{Event, Reopen, run}
use Rattle.partition_protocol.specs.World.{World, start}
use Rattle.partition_protocol.proofs.Lists.{in_contains}
use Rattle.partition_protocol.proofs.WellFormed.{run_size}
use Rattle.line_told.specs.Happenings.{event_told, fate_told}
use Rattle.line_told.specs.declared.told.LineOutcome.{LineOutcome}
use Rattle.line_told.specs.declared.told.Told.{Told}
use Rattle.partition_world.specs.declared.event.Happened.{Happened}
use Rattle.partition_world.specs.Events.{happened_of}
use Rattle.masters_world.specs.Decisions.{Decision, event_of}
use Rattle.masters_world.specs.Machine.{Line, asked_by, at_once, masters_after, published_by, events_by}
use Rattle.replay_run.specs.Runs.{Run, events_at, world_at, takes}
use Rattle.replay_run.specs.Appending.{new_messages}
use Rattle.replay_run.specs.LineTold.{came_to, all_told, is_advance}
use Rattle.replay_run.specs.declared.grid.Grid.{Grid}
use Rattle.replay_run.specs.Endings.{AreAmong, new_arrivals}
use Rattle.replay_run.specs.Grids.{FormOf}
use Rattle.replay_run.specs.WorldCalls as grid
use Rattle.replay_run.specs.WorldCalls.{GivesUpSo}
use Rattle.masters_run.specs.declared.grid.RuledGrid.{RuledGrid}
use Rattle.masters_run.specs.Runs.{RuledRun, masters_at, ruled_at, meets_full_link, takes_each, goes}
use Rattle.masters_run.specs.Runs as ruled
use Rattle.masters_run.specs.LineTold.{is_detection, number_told, published_outcome, all_published}
use Rattle.masters_run.specs.Grids.{Rules}
use Rattle.masters_run.specs.Steps.{HasGoneOn, GivesUp, going, following, HasAskedMasters, HasTaken}
use Rattle.masters_run.proofs.RuleLemmas.{rules_after}

-- each world of a run has as many members as its run
pub world_members : (settings : Settings) (r : Run) (p : ℕ) → (world_at (partition_object settings) r p).members ≡ r.members
world_members settings r p = (run_size (partition_object settings) (start p r.members r.backups) (events_at p r.events) Reopen).1

no_messages : (r : Run) → new_messages r r ≡ []
no_messages r = drop_all (length r.appended) r.appended (omega arith)

-- what was told earlier, and then what was published, what came of it and what was appended
told_together : (earlier said came sent : List Told) → ((earlier ++ said) ++ came) ++ sent ≡ earlier ++ (((said ++ came) ++ []) ++ sent)
told_together earlier said came sent = simp (append_assoc, append-nil)

-- The event has happened, and its outcome and what it appended were told.
pub taken_so : {V : Type 0} {T : V → Type 0} (form : FormOf V T) (settings : Settings) (new : Grid V T) (r : Run) (p : ℕ) (e : Event Request) (happened : Happened) (start messages : List Told) → start ≡ []
    → grid.HasTaken form settings new r p e happened start messages → (earlier later : List Told) (came : LineOutcome)
    → came ≡ (if is_detection e then fate_told (happened_of happened) else event_told (is_advance e) (happened_of happened)) → later ≡ earlier ++ came_to came ++ messages → HasTaken form settings new r p e earlier later
taken_so form settings new r p e happened start messages empty did earlier later came comes more =
    let o = partition_object settings in
    let next = takes o did.on.skips r p e in
    let sent : new_messages r next ≡ did.on.on.messages = ap (λ ms. drop (length r.appended) ms) did.on.on.appended ∙ drop_at r.appended did.on.on.messages (length r.appended) refl in
    let is : came ≡ published_outcome o (world_at o r p) e = comes ∙ ap (λ x. if is_detection e then fate_told x else event_told (is_advance e) x) did.outcome in
    record {
      skips = did.on.skips;
      own = did.on.own;
      amid = did.on.on.amid;
      added = more ∙ ap (λ xs. earlier ++ came_to came ++ xs) (did.on.on.added ∙ ap (λ xs. xs ++ all_told did.on.on.messages) empty ∙ ap (λ ms. all_told ms) (sym sent)) ∙ ap (λ x. earlier ++ came_to x ++ all_told (new_messages r next)) is;
    }

-- where an event met a full partition, or masters a full link

-- no call comes to its end as the masters aren't asked
pub full_link_gives_up : (settings : Settings) (s : RuledRun) (p : ℕ) (l : Line Request) → meets_full_link (masters_at s p) (asked_by (ruled_at (partition_object settings) s p) l) ≡ true → GivesUp s (going settings s p l)
full_link_gives_up settings s p l is =
    let o = partition_object settings in
    let j = ruled_at o s p in
    let next : RuledRun = record { run = takes_each o [] s.run p (events_by j l); masters = slice_set s.masters p (masters_after j l) } in
    record { skips = []; own = λ id c. absurd (in_contains id [] c); full = ap (λ b. (cond b (ruled.given_up s) next).run.full) is }

module _ (settings : Settings) (s : RuledRun) (p : ℕ) (l : Line Request) (goes_on : meets_full_link (masters_at s p) (asked_by (ruled_at (partition_object settings) s p) l) ≡ false)
    (later : at_once (ruled_at (partition_object settings) s p) l ≡ []) where
  its_run : (skips : List CallId) → (goes (partition_object settings) skips s p l).run ≡ takes_each (partition_object settings) skips s.run p (events_by (ruled_at (partition_object settings) s p) l)
  its_run skips =
      let o = partition_object settings in
      let j = ruled_at o s p in
      let next : RuledRun = record { run = takes_each o skips s.run p (events_by j l); masters = slice_set s.masters p (masters_after j l) } in
      ap (λ b. (cond b (ruled.given_up s) next).run) goes_on

  its_events : (ds : List Decision) → published_by (ruled_at (partition_object settings) s p) l ≡ ds → events_by (ruled_at (partition_object settings) s p) l ≡ map (event_of (ruled_at (partition_object settings) s p).world.members) ds
  its_events ds is =
      let j = ruled_at (partition_object settings) s p in
      ap (λ (es : List (Event Request)). es ++ map (event_of j.world.members) (published_by j l)) later ∙ ap (λ xs. map (event_of j.world.members) xs) is

  -- nothing was published
  none_run : published_by (ruled_at (partition_object settings) s p) l ≡ [] → (skips : List CallId) → (goes (partition_object settings) skips s p l).run ≡ s.run
  none_run is skips = its_run skips ∙ ap (λ es. takes_each (partition_object settings) skips s.run p es) (its_events [] is)

  -- one decision was
  one_run : (d : Decision) → published_by (ruled_at (partition_object settings) s p) l ≡ d ∷ [] → (e : Event Request) → e ≡ event_of s.run.members d
      → (skips : List CallId) → (goes (partition_object settings) skips s p l).run ≡ takes (partition_object settings) skips s.run p e
  one_run d is e its skips =
      let o = partition_object settings in
      its_run skips ∙ ap (λ es. takes_each o skips s.run p es) (its_events (d ∷ []) is)
      ∙ ap (λ n. takes o skips s.run p (event_of n d)) (world_members settings s.run p) ∙ ap (λ x. takes o skips s.run p x) (sym its)

  -- what is told

  -- of a run that so goes on, where these were published
  abbrev told_of : List Decision → World Request → Run → List Told
  told_of ds w r = all_published (partition_object settings) p (length (masters_at s p).published + 1) w ds ++ all_told (new_messages s.run r)

  told_so : (skips : List CallId) (ds : List Decision) (r : Run) → published_by (ruled_at (partition_object settings) s p) l ≡ ds → (goes (partition_object settings) skips s p l).run ≡ r
      → following settings s p l skips ≡ told_of ds (world_at (partition_object settings) s.run p) r
  told_so skips ds r is its =
      let o = partition_object settings in
      let j = ruled_at o s p in
      ap (λ es. told_of (published_by j l) (run o j.world es) (goes o skips s p l).run) later
      ∙ ap (λ xs. told_of xs j.world (goes o skips s p l).run) is
      ∙ ap (λ x. told_of ds j.world x) its

  none_told : published_by (ruled_at (partition_object settings) s p) l ≡ [] → (skips : List CallId) → following settings s p l skips ≡ []
  none_told is skips = told_so skips [] s.run is (none_run is skips) ∙ ap (λ ms. all_told ms) (no_messages s.run)

  one_told : (d : Decision) → published_by (ruled_at (partition_object settings) s p) l ≡ d ∷ [] → (e : Event Request) → e ≡ event_of s.run.members d → (skips : List CallId)
      → following settings s p l skips ≡ ((number_told p (length (masters_at s p).published + 1)
      ++ came_to (published_outcome (partition_object settings) (world_at (partition_object settings) s.run p) e)) ++ [])
      ++ all_told (new_messages s.run (takes (partition_object settings) skips s.run p e))
  one_told d is e its skips =
      let o = partition_object settings in
      let w = world_at o s.run p in
      let next = takes o skips s.run p e in
      told_so skips (d ∷ []) next is (one_run d is e its skips)
      ∙ ap (λ x. ((number_told p (length (masters_at s p).published + 1) ++ came_to (published_outcome o w x)) ++ []) ++ all_told (new_messages s.run next))
      (ap (λ n. event_of n d) (world_members settings s.run p) ∙ sym its)

-- With a line that asks the masters of a partition the run goes on.
module _ {V : Type 0} {T : V → Type 0} (form : FormOf V T) (settings : Settings) (all : RuledGrid V T) (s : RuledRun) (p : ℕ) (l : Line Request) (before : ℕ) (h : HasAskedMasters form settings all s p l before) where
  -- nothing was published
  pub none_follows : published_by (ruled_at (partition_object settings) s p) l ≡ [] → (earlier : List Told) → HasGoneOn form settings all s (going settings s p l) (following settings s p l) earlier earlier
  none_follows is earlier =
      let same = none_run settings s p l h.goes h.later is [] in
      record {
        skips = [];
        own = λ id c. absurd (in_contains id [] c);
        amid = record {
          grid = subst (λ r. grid.IsAmid form settings all.grid r) (sym same) h.grid;
          masters = rules_after settings all.masters.items s p l [] h.placed h.count h.whole h.most h.others h.masters h.there h.lines h.of_lines h.size h.stands (ap (λ (r : Run). r.full) same ∙ h.grid.holds.goes_on);
        };
        added = sym (append-nil earlier) ∙ ap (λ t. earlier ++ t) (sym (none_told settings s p l h.goes h.later is []));
      }

  -- one decision was, and its event has happened
  pub one_follows : (d : Decision) → published_by (ruled_at (partition_object settings) s p) l ≡ d ∷ [] → (e : Event Request) → e ≡ event_of s.run.members d
      → (new : RuledGrid V T) → new.masters ≡ all.masters → (earlier begun later : List Told) → begun ≡ earlier ++ number_told p (before + 1)
      → HasTaken form settings new.grid s.run p e begun later → HasGoneOn form settings new s (going settings s p l) (following settings s p l) earlier later
  one_follows d is e its new kept earlier begun later began took =
      let o = partition_object settings in
      let on = one_run settings s p l h.goes h.later d is e its took.skips in
      let said = number_told p (before + 1) in
      let came = came_to (published_outcome o (world_at o s.run p) e) in
      let sent = all_told (new_messages s.run (takes o took.skips s.run p e)) in
      record {
        skips = took.skips;
        own = subst (λ r. AreAmong (new_arrivals s.run r) took.skips) (sym on) took.own;
        amid = record {
          grid = subst (λ r. grid.IsAmid form settings new.grid r) (sym on) took.amid;
          masters = subst (λ ms. Rules settings ms (goes o took.skips s p l)) (sym (ap (λ ms. ms.items) kept))
              (rules_after settings all.masters.items s p l took.skips h.placed h.count h.whole h.most h.others h.masters h.there h.lines h.of_lines h.size h.stands (ap (λ (r : Run). r.full) on ∙ took.amid.holds.goes_on));
        };
        added = took.added ∙ ap (λ xs. (xs ++ came) ++ sent) began ∙ told_together earlier said came sent
            ∙ ap (λ t. earlier ++ t) (ap (λ n. ((number_told p (n + 1) ++ came) ++ []) ++ sent) (sym h.published) ∙ sym (one_told settings s p l h.goes h.later d is e its took.skips));
      }

  -- that event met a full partition
  pub full_follows : (d : Decision) → published_by (ruled_at (partition_object settings) s p) l ≡ d ∷ [] → (e : Event Request) → e ≡ event_of s.run.members d
      → GivesUpSo s.run (λ skips. takes (partition_object settings) skips s.run p e) → GivesUp s (going settings s p l)
  full_follows d is e its up =
      let on = one_run settings s p l h.goes h.later d is e its up.skips in
      record {
        skips = up.skips;
        own = subst (λ r. AreAmong (new_arrivals s.run r) up.skips) (sym on) up.own;
        full = ap (λ (r : Run). r.full) on ∙ up.full;
      }
