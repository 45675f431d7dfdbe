-- What holds of the run after each line.
use Rattle.std.proofs.Common.{◌≡◌, ℕ, ◌+◌, ◌*◌, ◌<◌, ◌≤◌, ◌^◌, false, List, [], length, refl, sym, subst, arith, lit≤}
use Rattle.grid_base.specs.declared.names.CallId.{CallId}
use Rattle.message_frames.specs.Assembly.{most_messages}
use Rattle.call_engine.specs.Calls.{Settings}
use Rattle.call_engine.specs.Objects.{partition_object}
use Rattle.script_lang.specs.Limits.{most_lines, most_line_bytes}
use Rattle.script_lang.specs.Lines.{IsWithin}
use Rattle.script_lang.specs.declared.line.Line.{Line}
use Rattle.script_lang.specs.declared.line.Line.TheVariants as line
use Rattle.replay_run.specs.Runs.{Run, begun}
use Rattle.replay_run.specs.ScriptRuns.{grid_begun}
use Rattle.replay_run.specs.Grids.{most_arriving}
use Rattle.replay_run.proofs.Bounds.{messages_fewer, arrivals_fewer, line_within}
use Rattle.masters_run.specs.Runs.{RuledRun}
use Rattle.masters_run.specs.AfterLines.{after_line}
use Rattle.masters_run.proofs.Coming.{AllHaveCome}
use Rattle.masters_run.proofs.FewEvents.{line_few}
use Rattle.masters_run.proofs.KeptLines.{line_lines}
use Rattle.masters_run.proofs.RuledRuns.{masters_run}
use Rattle.partition_protocol.proofs.Lists.{in_contains}
use Rattle.near_run_laws.specs.Messages.{sent_to}
use Rattle.near_run_laws.specs.Modest.{IsModest}
use Rattle.near_script_laws.proofs.Connections.{BringsSome}
use Rattle.near_script_laws.proofs.RuledLines.{still_small, still_unheard, still_as_many, crashes_together, still_proper}
use Rattle.near_script_laws.proofs.Facts.{Stands}

pub begun_stands : (settings : Settings) (members backups : ℕ) → 1 ≤ members → members < 2 ^ 8 → Stands settings (begun members backups)
begun_stands settings members backups some low = record {
  run = grid_begun members backups some;
  small = lit≤ tt;
  few = λ p. lit≤ tt;
  lines = lit≤ tt;
  together = λ p few. refl;
  listens = λ c unspoken. refl;
  proper = record { events = λ p e i. absurd (in_contains e [] i); waiters = λ w i. absurd (in_contains w [] i) };
  members = low;
}

brings_some : (members size : ℕ) (l : Line) → IsWithin members size l → BringsSome l
brings_some members size (line.Arrive c bytes) within = within.1
brings_some members size l within = tt

pub line_stands : (settings : Settings) (skips : List CallId) (s : RuledRun) (n members : ℕ) (l : Line) → AllHaveCome n s → IsWithin members most_arriving l → s.run.lines + 1 ≤ most_lines
    → (after_line (partition_object settings) skips s l).run.full ≡ false → Stands settings s.run → Stands settings (after_line (partition_object settings) skips s l).run
line_stands settings skips s n members l come within lines going stands =
    let o = partition_object settings in
    record {
      run = masters_run skips s stands.run l;
      small = still_small o skips s l stands.run (line_within members most_arriving l within) stands.small;
      few = line_few o skips n members most_arriving s come stands.few l within;
      lines = let counted = line_lines o skips s l in omega (arith, lines, counted);
      together = crashes_together o skips s l going stands.together;
      listens = still_unheard o skips s l (brings_some members most_arriving l within) stands.listens;
      proper = still_proper o skips s members most_arriving l within stands.proper;
      members = subst (λ (k : ℕ). k < 2 ^ 8) (sym (still_as_many o skips s l)) stands.members;
    }

-- All that was sent on a connection is within limits, where no more was sent than can be numbered.
pub modest : (settings : Settings) (r : Run) (c : ℕ) (name : List ℕ) → Stands settings r → 2 * length name ≤ most_line_bytes → length (sent_to c r.appended) ≤ most_messages → IsModest c name r
modest settings r c name s short room = record {
  members = s.members;
  few = λ p.
      let few = s.few p in
      let come = arrivals_fewer r s.run in
      let fewer = messages_fewer r in
      let small = s.small in
      let lines = s.lines in
      omega (arith, few, come, fewer, small, lines);
  proper = s.proper.events;
  short = omega (arith, short);
  room = room;
}
