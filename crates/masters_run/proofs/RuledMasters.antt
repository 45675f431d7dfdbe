-- The code's masters of a partition, where they are those of the run: what they answer, what they come to, and what they have published.
use Rattle.std.proofs.Common.{◌≡◌, ℕ, true, false, List, [], ◌∷◌, ◌++◌, map, length, Some, None, slice_get, ap, sym, ◌∙◌, subst}
use Rattle.grid_base.specs.declared.calls.Request.{Request}
use Rattle.grid_base.specs.Shelves.{Meaning}
use Rattle.call_engine.specs.Calls.{Settings}
use Rattle.call_engine.specs.Objects.{partition_object}
use Rattle.link_net.specs.Links.{Net, HasLists, has_crowded_link, next_link}
use Rattle.partition_protocol.specs.Events as partition
use Rattle.partition_protocol.specs.World.{map_or}
use Rattle.partition_protocol.specs.WellFormed.{IsWellFormed}
use Rattle.partition_protocol.proofs.WellFormed.{every_run_is_well_formed}
use Rattle.partition_table.specs.Rows.{is_among}
use Rattle.partition_world.specs.Sending.{flying as flying_to}
use Rattle.masters_protocol.specs.Members.{Member, Outcome}
use Rattle.masters_protocol.specs.Machine as masters
use Rattle.masters_protocol.specs.Machine.{master, pending}
use Rattle.masters_world.specs.Decisions.{Decision, event_of}
use Rattle.masters_world.specs.Machine.{Ruled, Line, Asks, start, proposals, asked_by, masters_say, masters_after, published_by, events_by, after}
use Rattle.masters_world.specs.Machine as ruled
use Rattle.master_wire.specs.declared.decision.Decision.{Decision as Written}
use Rattle.master_wire.specs.declared.decision.Decision.TheVariants as written
use Rattle.master_log.specs.declared.masters.Masters.{Masters}
use Rattle.master_log.specs.Standing.{StandsFor, HasRun, IsKept, run_of, size_of, was_told, flying}
use Rattle.master_log.specs.Laws.{published_of}
use Rattle.replay_run.specs.Runs.{most_in_flight, events_at, world_at}
use Rattle.masters_run.specs.Runs.{RuledRun, masters_at, ruled_at, has_full_link, link_between}
use Rattle.masters_run.specs.Standing.{IsOfLines}
use Rattle.masters_run.specs.Written.{as_written, written_event}
use Rattle.masters_run.specs.Grids.{AreMasters}
use Rattle.masters_run.proofs.Natural.{masters_by}
use Rattle.masters_run.proofs.Going.{at_lines}
use Rattle.masters_run.proofs.AskedLines.{happens_published}
use Rattle.masters_run.proofs.KeptMasters.{asked_in_code, StandForLines, machine_is, published_is, published_long, pending_is, serving_is, told_is}
use Rattle.masters_run.proofs.MastersLinks.{crowded_is, next_is}
use Rattle.masters_run.proofs.MastersCalls.{answered_so, asked_nothing, proposed_so}
use Rattle.masters_run.proofs.ServiceLinks as service
use Rattle.masters_run.proofs.Following.{HasPublished, published_after, none_published, one_published}

-- what lines asked the masters of a partition of a run, as the code keeps it
abbrev pub asked_of : Settings → RuledRun → ℕ → List (Line Request) → List (masters.Event Written)
asked_of settings s p lines = asked_in_code (partition_object settings) p s.run.members s.run.backups lines

module _ {settings : Settings} {kept : Masters} {s : RuledRun} {p : ℕ} (are : AreMasters settings kept s p) where
  abbrev pub events_of : List (masters.Event Written)
  events_of = asked_of settings s p are.lines

  stand : StandForLines (partition_object settings) p s.run.members s.run.backups are.lines kept
  stand = record { size = are.size; stands = are.stands }

  here : ruled_at (partition_object settings) s p ≡ after (partition_object settings) (start p s.run.members s.run.backups) are.lines
  here = at_lines (partition_object settings) s p are.lines are.of_lines

  -- what they answer, of what their contracts say of the events

  pub kept_at : run_of kept events_of ≡ masters_by as_written (masters_at s p)
  kept_at = machine_is (partition_object settings) p s.run.members s.run.backups are.lines kept stand ∙ ap (masters_by as_written) are.of_lines.masters

  pub published_so : published_of kept events_of ≡ map as_written (masters_at s p).published
  published_so = published_is (partition_object settings) p s.run.members s.run.backups are.lines kept stand ∙ ap (λ (w : masters.Masters Decision). map as_written w.published) are.of_lines.masters

  pub published_long_so : length (published_of kept events_of) ≡ length (masters_at s p).published
  published_long_so = published_long (partition_object settings) p s.run.members s.run.backups are.lines kept stand ∙ ap (λ (w : masters.Masters Decision). length w.published) are.of_lines.masters

  pub pending_so : pending (run_of kept events_of) ≡ pending (masters_at s p)
  pending_so = pending_is (partition_object settings) p s.run.members s.run.backups are.lines kept stand ∙ ap pending are.of_lines.masters

  pub serving_so : master (run_of kept events_of) ≡ master (masters_at s p)
  serving_so = serving_is (partition_object settings) p s.run.members s.run.backups are.lines kept stand ∙ ap master are.of_lines.masters

  pub told_so : (m x : ℕ) → was_told (run_of kept events_of) m x ≡ map_or (slice_get (masters_at s p).members m) false (λ (y : Member Decision). is_among y.told x)
  told_so m x = told_is (partition_object settings) p s.run.members s.run.backups are.lines kept stand m x ∙ ap (λ (w : masters.Masters Decision). map_or (slice_get w.members m) false (λ (y : Member Decision). is_among y.told x)) are.of_lines.masters

  -- whether the serving master was told of a crash

  pub told_by_none : (x : ℕ) → master (run_of kept events_of) ≡ None → ruled.was_told (ruled_at (partition_object settings) s p) x ≡ false
  told_by_none x none = ap (λ l. map_or l false (λ m. map_or (slice_get (masters_at s p).members m) false (λ (y : Member Decision). is_among y.told x))) (sym serving_so ∙ none)

  pub told_by : (m x : ℕ) → master (run_of kept events_of) ≡ Some m → was_told (run_of kept events_of) m x ≡ ruled.was_told (ruled_at (partition_object settings) s p) x
  told_by m x serves = told_so m x ∙ ap (λ l. map_or l false (λ k. map_or (slice_get (masters_at s p).members k) false (λ (y : Member Decision). is_among y.told x))) (sym serves ∙ serving_so)

  -- links

  pub full_so : (links : Net) → HasLists links (flying (run_of kept events_of)) → links.ends ≡ size_of kept → has_crowded_link most_in_flight links ≡ has_full_link (masters_at s p)
  full_so links lists ends = crowded_is (partition_object settings) p s.run.members s.run.backups are.lines kept stand links lists ends most_in_flight ∙ ap has_full_link are.of_lines.masters

  pub next_so : (links : Net) → HasLists links (flying (run_of kept events_of)) → links.ends ≡ size_of kept → next_link links ≡ link_between (masters_at s p)
  next_so links lists ends = next_is (partition_object settings) p s.run.members s.run.backups are.lines kept stand links lists ends ∙ ap link_between are.of_lines.masters

  -- calls

  -- A line asks one event, which has run: they stand for one line more, and answered as the run's.
  pub asked_so : {new : Masters} (l : Line Request) (e : masters.Event Decision) (answer : Outcome) → asked_by (ruled_at (partition_object settings) s p) l ≡ e ∷ [] → HasRun kept new events_of (written_event e) answer
      → StandsFor new (asked_of settings s p (are.lines ++ l ∷ [])) × (size_of new ≡ s.run.members) × (masters_say (masters_at s p) (asked_by (ruled_at (partition_object settings) s p) l) ≡ answer ∷ [])
  asked_so {new} l e answer by ran =
      let h = answered_so (partition_object settings) p s.run.members s.run.backups are.lines kept new stand l e answer (ap (λ (j : Ruled Request). asked_by j l) (sym here) ∙ by) ran in
      (h.stand.stands, h.stand.size, ap (λ (j : Ruled Request). masters_say j.masters (asked_by j l)) here ∙ h.outcome)

  -- the same of an event that proposes this decision
  pub proposed_at : {new : Masters} (e : partition.Event Request) (decision : Written) (answer : Outcome) → map as_written (proposals (ruled_at (partition_object settings) s p) e) ≡ decision ∷ []
      → HasRun kept new events_of (masters.Propose decision) answer
      → StandsFor new (asked_of settings s p (are.lines ++ Asks e ∷ [])) × (size_of new ≡ s.run.members) × (masters_say (masters_at s p) (asked_by (ruled_at (partition_object settings) s p) (Asks e)) ≡ answer ∷ [])
  proposed_at {new} e decision answer by ran =
      let h = proposed_so (partition_object settings) p s.run.members s.run.backups are.lines kept new stand e decision answer (ap (λ (j : Ruled Request). map as_written (proposals j e)) (sym here) ∙ by) ran in
      (h.stand.stands, h.stand.size, ap (λ (j : Ruled Request). masters_say j.masters (asked_by j (Asks e))) here ∙ h.outcome)

  -- A line asks nothing: they stand for it too.
  pub nothing_asked : (l : Line Request) → asked_by (ruled_at (partition_object settings) s p) l ≡ [] → StandsFor kept (asked_of settings s p (are.lines ++ l ∷ []))
  nothing_asked l by = (asked_nothing (partition_object settings) p s.run.members s.run.backups are.lines kept kept stand l (ap (λ (j : Ruled Request). asked_by j l) (sym here) ∙ by)).stands

  -- want of memory, or a refusal, leaves them as they were
  pub still_masters : {new : Masters} → IsKept kept new events_of → AreMasters settings new s p
  still_masters is = record { lines = are.lines; of_lines = are.of_lines; size = is.size ∙ are.size; stands = is.stands }

-- what is published by a line, once its event has run

module _ (settings : Settings) {s : RuledRun} {p : ℕ} {lines : List (Line Request)} (of : IsOfLines (partition_object settings) s p lines) (l : Line Request)
    {new : Masters} (size : size_of new ≡ s.run.members) (stands : StandsFor new (asked_of settings s p (lines ++ l ∷ []))) where
  then_stand : StandForLines (partition_object settings) p s.run.members s.run.backups (lines ++ l ∷ []) new
  then_stand = record { size = size; stands = stands }

  same : after (partition_object settings) (start p s.run.members s.run.backups) lines ≡ ruled_at (partition_object settings) s p
  same = sym (at_lines (partition_object settings) s p lines of)

  pub published_then : published_of new (asked_of settings s p (lines ++ l ∷ [])) ≡ map as_written (masters_after (ruled_at (partition_object settings) s p) l).published
  published_then = published_after (partition_object settings) p s.run.members s.run.backups lines l new then_stand ∙ ap (λ (j : Ruled Request). map as_written (masters_after j l).published) same

  -- Nothing stands behind the old length: nothing is published.
  pub nothing_follows : (before : ℕ) → length (masters_at s p).published ≡ before → slice_get (published_of new (asked_of settings s p (lines ++ l ∷ []))) before ≡ None
      → published_by (ruled_at (partition_object settings) s p) l ≡ []
  nothing_follows before long none =
      ap (λ (j : Ruled Request). published_by j l) (sym same)
      ∙ none_published (partition_object settings) p s.run.members s.run.backups lines l new then_stand before (ap (λ (w : masters.Masters Decision). length w.published) of.masters ∙ long) none

  -- A decision stands there: it is the one that is published.
  pub decision_follows : (before : ℕ) (decision : Written) → length (masters_at s p).published ≡ before → slice_get (published_of new (asked_of settings s p (lines ++ l ∷ []))) before ≡ Some decision
      → HasPublished s.run.members (ruled_at (partition_object settings) s p) l decision
  decision_follows before decision long there =
      subst (λ (j : Ruled Request). HasPublished s.run.members j l decision) same
      (one_published (partition_object settings) p s.run.members s.run.backups lines l new then_stand before decision (ap (λ (w : masters.Masters Decision). length w.published) of.masters ∙ long) there)

-- the partition of the run

pub world_formed : (settings : Settings) (s : RuledRun) (p : ℕ) → IsWellFormed p s.run.members s.run.backups (ruled_at (partition_object settings) s p).world
world_formed settings s p = every_run_is_well_formed (partition_object settings) p s.run.members s.run.backups (events_at p s.run.events)

-- The published decision is the one event of the line.
pub event_follows : (settings : Settings) (s : RuledRun) (p : ℕ) (l : Line Request) (decision : Written) (h : HasPublished s.run.members (ruled_at (partition_object settings) s p) l decision)
    → events_by (ruled_at (partition_object settings) s p) l ≡ event_of s.run.members h.publishes.decision ∷ []
event_follows settings s p l decision h = happens_published s.run.members (ruled_at (partition_object settings) s p) l (world_formed settings s p).same_members h.publishes

module _ (settings : Settings) (s : RuledRun) (p from place : ℕ) {S State : Type 0} (k : Meaning S Request State) where
  -- The service is to take the message whose bytes stand at that place.
  pub taking_written : pending (masters_at s p) ≡ false → (bytes : List ℕ) → slice_get (flying_to k (world_at (partition_object settings) s.run p) from s.run.members) place ≡ Some bytes
      → map as_written (proposals (ruled_at (partition_object settings) s p) (partition.Deliver from s.run.members place)) ≡ written.Take from place bytes ∷ []
  taking_written is bytes at =
      let formed = world_formed settings s p in
      service.takes_written (ruled_at (partition_object settings) s p) s.run.members from place formed.same_members p s.run.backups formed is k bytes at

  -- There is none.
  pub taking_none : pending (masters_at s p) ≡ false → slice_get (flying_to k (world_at (partition_object settings) s.run p) from s.run.members) place ≡ None
      → proposals (ruled_at (partition_object settings) s p) (partition.Deliver from s.run.members place) ≡ []
  taking_none is none =
      let formed = world_formed settings s p in
      service.takes_nothing_there (ruled_at (partition_object settings) s p) s.run.members from place formed.same_members is
      (service.none_there p s.run.members s.run.backups (world_at (partition_object settings) s.run p) formed from place k none)

-- While something is pending, nothing is proposed.
pub taking_pending : (settings : Settings) (s : RuledRun) (p from place : ℕ) → pending (masters_at s p) ≡ true → proposals (ruled_at (partition_object settings) s p) (partition.Deliver from s.run.members place) ≡ []
taking_pending settings s p from place is = service.takes_nothing_pending (ruled_at (partition_object settings) s p) s.run.members from place (world_formed settings s p).same_members is
