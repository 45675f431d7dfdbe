-- What holds of the masters of the grid's runs holds of those of scripts.
use Rattle.std.proofs.Common.{◌≡◌, ℕ, List, [], ◌∷◌, ◌++◌, slice_get, refl, ap, sym, ◌∙◌, subst}
use Rattle.grid_base.specs.declared.names.CallId.{CallId}
use Rattle.call_engine.specs.Calls.{Settings}
use Rattle.call_engine.specs.Objects.{partition_object}
use Rattle.script_lang.specs.declared.line.Line.{Line}
use Rattle.masters_protocol.specs.Claims.{IsSound}
use Rattle.masters_protocol.specs.Machine.{Masters}
use Rattle.masters_world.specs.Decisions.{Decision}
use Rattle.masters_run.specs.Laws.{ruled_with, ServesAsPublished, GoesOn, MastersAgree}
use Rattle.masters_run.specs.Runs.{RuledRun, has_masters, masters_at}
use Rattle.masters_run.specs.Standing.{IsRuled}
use Rattle.masters_run.proofs.RuledLaws as ruled
use Rattle.script_run.specs.Runs.{ScriptRun, begun, ruled_of, grid_line}
use Rattle.script_run.specs.AfterLines.{after_line, after_lines}
use Rattle.script_run.specs.Laws.{run_with, grid_lines}
use Rattle.script_run.specs.Masters.{TookRightly, EveryRunIsRuled, EveryServiceServesAsPublished, EveryPublishedListGrows}
use Rattle.script_run.proofs.RightDecisions.{each_right}
use Rattle.script_run.proofs.ScriptLaws.{every_run_is_the_grids}

-- the lines that the grid runs, of a script's lines and then more

pub grid_lines-append : (settings : Settings) (skips : List CallId) (s : ScriptRun) (lines more : List Line)
    → grid_lines settings skips s (lines ++ more) ≡ grid_lines settings skips s lines ++ grid_lines settings skips (after_lines settings skips s lines) more
grid_lines-append settings skips s [] more = refl
grid_lines-append settings skips s (line ∷ lines) more =
    ap (λ ls. grid_line (partition_object settings) s line ∷ ls) (grid_lines-append settings skips (after_line settings skips s line) lines more)

module _ (settings : Settings) (members backups : ℕ) (skips : List CallId) (lines : List Line) where
  -- what the grid runs
  abbrev its_lines : List Line
  its_lines = grid_lines settings skips (begun members backups) lines

  as_grid : ruled_of (run_with settings members backups skips lines) ≡ ruled_with settings members backups skips its_lines
  as_grid = every_run_is_the_grids settings skips (begun members backups) lines

pub every_run_is_ruled : EveryRunIsRuled
every_run_is_ruled settings members backups skips lines some most has lasts =
    let same = as_grid settings members backups skips lines in
    subst (IsRuled (partition_object settings)) (sym same)
    (ruled.every_run_is_ruled settings members backups skips (its_lines settings members backups skips lines) some most (ap has_masters (sym same) ∙ has) (ap (λ (x : RuledRun). x.run.full) (sym same) ∙ lasts))

pub every_service_serves_as_published : EveryServiceServesAsPublished
every_service_serves_as_published settings members backups skips lines some most has lasts p low =
    let its = its_lines settings members backups skips lines in
    let same = as_grid settings members backups skips lines in
    let has_its = ap has_masters (sym same) ∙ has in
    let its_lasts = ap (λ (x : RuledRun). x.run.full) (sym same) ∙ lasts in
    let all = every_run_is_ruled settings members backups skips lines some most has lasts in
    let its_own = all.stands p low in
    record {
      right = λ k d there.
          let s = run_with settings members backups skips lines in
          subst (λ es. TookRightly (partition_object settings) p s.run.members s.run.backups es k d) its_own.happened
          (each_right (partition_object settings) p s.run.members s.run.backups all.some all.most (all.lines p low) k d (ap (λ (w : Masters Decision). slice_get w.published k) its_own.masters ∙ there));
      serves = subst (λ (x : RuledRun). ServesAsPublished settings x p) (sym same) (ruled.every_service_serves_as_published settings members backups skips its some most has_its its_lasts p low);
      sound = subst (λ (x : RuledRun). IsSound (masters_at x p)) (sym same) (ruled.every_mastership_is_sound settings members backups skips its some most has_its its_lasts p low);
    }

pub every_published_list_grows : EveryPublishedListGrows
every_published_list_grows settings members backups skips lines more some most has lasts p low =
    let first = its_lines settings members backups skips lines in
    let rest = grid_lines settings skips (run_with settings members backups skips lines) more in
    let before = as_grid settings members backups skips lines in
    let after : ruled_of (run_with settings members backups skips (lines ++ more)) ≡ ruled_with settings members backups skips (first ++ rest) =
    as_grid settings members backups skips (lines ++ more) ∙ ap (ruled_with settings members backups skips) (grid_lines-append settings skips (begun members backups) lines more) in
    let has_its = ap has_masters (sym before) ∙ has in
    let its_lasts = ap (λ (x : RuledRun). x.run.full) (sym after) ∙ lasts in
    let now = ruled_of (run_with settings members backups skips (lines ++ more)) in
    let then = ruled_with settings members backups skips first in
    record {
      goes_on = subst (λ (x : RuledRun). GoesOn settings x now p) (sym before)
          (subst (λ (x : RuledRun). GoesOn settings then x p) (sym after) (ruled.every_published_list_grows settings members backups skips first rest some most has_its its_lasts p low));
      agree = subst (λ (x : RuledRun). MastersAgree x now p) (sym before)
          (subst (λ (x : RuledRun). MastersAgree then x p) (sym after) (ruled.every_mastership_agrees settings members backups skips first rest some most has_its its_lasts p low));
    }
