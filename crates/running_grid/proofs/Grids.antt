-- The grid of a script stands for a run of as many members, before a line and behind it.
use Rattle.std.proofs.Common.{◌≡◌, ℕ, ◌+◌, ◌<◌, List, [], Option, Some, sym, ◌∙◌, ap, subst, arith}
use Rattle.call_engine.specs.Objects.{partition_object}
use Rattle.script_lang.specs.Limits.{most_lines, most_line_bytes}
use Rattle.script_lang.specs.Lines.{IsWithin}
use Rattle.script_lang.specs.declared.line.Line.{Line}
use Rattle.replay_run.specs.Grids.{FormOf}
use Rattle.script_run.specs.declared.grid.ScriptGrid.{ScriptGrid}
use Rattle.script_run.specs.Grids.{Stands, MayRun, HasRun as HasRunLine}
use Rattle.script_run.specs.AfterLines.{after_line}
use Rattle.script_run.specs.Runs.{ScriptRun, ruled_of, grid_line}
use Rattle.grid_cli.proofs.LineLimits.{within_more}
use Rattle.grid_cli.proofs.Members.{members_stay}
use Rattle.call_engine.specs.Calls.{Settings}
use Rattle.running_grid.specs.declared.running.RunningGrid.{RunningGrid}
use Rattle.running_grid.specs.Runs.{HasRun, RunsSo, StandsFor}

module _ {V : Type 0} {T : V → Type 0} {form : FormOf V T} where
  -- of a grid that wasn't given up
  pub not_given_up : (members : ℕ) (grid : Option (ScriptGrid V T)) (here : ScriptGrid V T) → grid ≡ Some here → RunsSo form members grid → HasRun form members here
  not_given_up members grid here same so = subst (RunsSo form members) same so

  -- It can run a line that its script can have.
  pub may_run : (members number lines : ℕ) (grid : ScriptGrid V T) (line : Line) (has : HasRun form members grid) → lines ≡ has.run.run.lines → number ≡ lines + 1 → lines < most_lines
      → IsWithin members most_line_bytes line → MayRun form grid number line
  may_run members number lines grid line has counted next room within = record {
    settings = has.settings;
    run = has.run;
    stands = has.stands;
    read = within_more line members has.run.run.members most_line_bytes most_line_bytes has.same (omega arith) within;
    next = next ∙ ap (λ n. n + 1) counted;
    within = omega (arith, next, room);
  }

  -- and stands for the run behind it, of as many members
  pub has_run : (members : ℕ) (old new : ScriptGrid V T) (line : Line) (written text : List ℕ) (has : HasRun form members old)
      → HasRunLine form has.settings new has.run line written text → HasRun form members new
  has_run members old new line written text has ran = record {
    settings = has.settings;
    run = after_line has.settings ran.skips has.run line;
    stands = ran.stands;
    same = has.same ∙ sym (members_stay (partition_object has.settings) ran.skips (ruled_of has.run) (grid_line (partition_object has.settings) has.run line));
  }

  -- The grid that is taken out is the one that stands for the run.
  pub same_grid : (settings : Settings) (running : RunningGrid V T) (s : ScriptRun) (here : ScriptGrid V T) → StandsFor form settings running s → running.grid ≡ Some here → Stands form settings here s
  same_grid settings running s here stands is =
      let both : Some stands.grid ≡ Some here = sym stands.there ∙ is in
      let same : stands.grid ≡ here = cc in
      subst (λ grid. Stands form settings grid s) same stands.stands

  -- A text that was begun empty is the line's alone.
  pub from_empty : (settings : Settings) (new : ScriptGrid V T) (s : ScriptRun) (line : Line) (written text : List ℕ) → written ≡ [] → HasRunLine form settings new s line written text → HasRunLine form settings new s line [] text
  from_empty settings new s line written text empty ran = subst (λ w. HasRunLine form settings new s line w text) empty ran
