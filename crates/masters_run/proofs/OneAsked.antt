-- A line that asks for something in one partition: what it comes to, and what is said of that.
use Rattle.std.proofs.Common.{◌≡◌, ℕ, ◌+◌, ◌<◌, ◌≤◌, true, List, [], ◌++◌, map, ap, ◌∙◌, arith}
use Rattle.grid_base.specs.Objects.{Object}
use Rattle.grid_base.specs.declared.names.CallId.{CallId}
use Rattle.grid_base.specs.declared.calls.Request.{Request}
use Rattle.object_store.specs.Partitions.{Partition}
use Rattle.call_engine.specs.Calls.{Settings}
use Rattle.call_engine.specs.Objects.{partition_object}
use Rattle.masters_protocol.specs.Members.{Outcome}
use Rattle.masters_world.specs.Machine.{Line, Asks, at_once}
use Rattle.script_lang.specs.Limits.{most_lines}
use Rattle.script_lang.specs.declared.line.Line.{Line as ScriptLine}
use Rattle.line_told.specs.declared.told.Told.{Told}
use Rattle.replay_run.specs.Runs.{At, partitions}
use Rattle.replay_run.specs.Grids.{FormOf}
use Rattle.line_told.specs.Happenings.{master_told}
use Rattle.replay_run.specs.LineTold.{came_to}
use Rattle.masters_run.specs.declared.grid.RuledGrid.{RuledGrid}
use Rattle.masters_run.specs.Runs.{RuledRun, has_masters, ruled_at, goes, counted}
use Rattle.masters_run.specs.AfterLines.{ruled_line, after_line}
use Rattle.masters_run.specs.LineTold.{event_outcome, said, asked_outcome, followed, asked_told, ruled_told}
use Rattle.masters_run.specs.Grids.{Stands, HasRun, IsGivenUp}
use Rattle.masters_run.specs.Steps.{HasAsked, GivesUp, going, following}
use Rattle.masters_run.proofs.AtOnce.{IsEvent}
use Rattle.masters_run.proofs.FewEvents.{goes_few}
use Rattle.masters_run.proofs.LineParts.{with_masters, told_with_masters, single, line_ran, line_given_up}

pub record IsAskedOf (settings : Settings) (s : RuledRun) (line : ScriptLine) (p : ℕ) (l : Line Request) : Type 0 where
  pub after : (skips : List CallId) → ruled_line (partition_object settings) skips s line ≡ goes (partition_object settings) skips (counted s) p l
  pub tells : (skips : List CallId) (next : RuledRun) → ruled_told settings skips s line next ≡ asked_told (partition_object settings) skips (counted s) p l

pub event_asked : (settings : Settings) (s : RuledRun) (line : ScriptLine) (e : At) → IsEvent settings s line e → IsAskedOf settings s line e.partition (Asks e.event)
event_asked settings s line e its = record { after = its.after; tells = its.tells }

module _ {V : Type 0} {T : V → Type 0} {form : FormOf V T} {settings : Settings} (all : RuledGrid V T) (s : RuledRun) (stands : Stands form settings all s) (ruled : has_masters s ≡ true) (line : ScriptLine) (p : ℕ) (l : Line Request) (its : IsAskedOf settings s line p l) where
  abbrev o : Object Request Partition
  o = partition_object settings

  after : (skips : List CallId) → after_line o skips s line ≡ going settings (counted s) p l skips
  after skips = with_masters o skips s line ruled ∙ its.after skips

  -- the masters answered
  pub asked_ran : s.run.lines + 1 ≤ most_lines → p < partitions → (new : RuledGrid V T) (answer : Outcome) (start said_then : List Told) → HasAsked form settings new (counted s) p l answer start said_then
      → (earlier later : List Told) → start ≡ [] → later ≡ earlier ++ came_to (master_told answer) ++ said_then → HasRun form settings new s line earlier later
  asked_ran limit placed new answer start said_then asked earlier later none is =
      let k = asked.on.skips in
      let next = going settings (counted s) p l k in
      let j = ruled_at o s p in
      let came : asked_outcome o j l ≡ master_told answer = ap (λ xs. said xs (map (event_outcome o j.world) (at_once j l))) asked.outcome in
      line_ran all s stands limit new line (going settings (counted s) p l) (following settings (counted s) p l) start said_then asked.on (after k)
      1 1 (goes_few o k (counted s) p l (single all s stands ruled p placed l)).few (omega arith) (omega arith)
      (came_to (master_told answer)) earlier later
      (told_with_masters settings k s line next ruled ∙ its.tells k next ∙ (λ i. came_to (came i) ++ followed o k (counted s) p l))
      none is

  pub asked_up : GivesUp (counted s) (going settings (counted s) p l) → IsGivenUp settings s line
  asked_up up = line_given_up all s stands line (going settings (counted s) p l) after up
