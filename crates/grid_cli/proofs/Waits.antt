-- The calls of a replayed script wait by the rule.
use Rattle.std.proofs.Common.{◌≡◌, ℕ, zero, suc, ◌≤◌, true, false, List, [], ◌∷◌, ◌++◌, take, Option, Result, Ok, Err, refl, ap, sym, ◌∙◌, subst, arith}
use Rattle.grid_base.specs.declared.names.CallId.{CallId}
use Rattle.grid_edge.specs.Given.{Given}
use Rattle.entry_processors.specs.Processors.{ProcessorForm}
use Rattle.call_engine.specs.Calls.{Settings}
use Rattle.call_engine.specs.Objects.{partition_object}
use Rattle.script_lang.specs.Lines.{line_of}
use Rattle.script_lang.specs.declared.line.Line.{Line}
use Rattle.script_lang.specs.declared.line.Line.TheVariants.{Grid}
use Rattle.script_lang.specs.declared.refusal.LineWhy.{LineWhy}
use Rattle.masters_run.specs.Laws.{ruled_with}
use Rattle.masters_run.specs.Runs.{RuledRun}
use Rattle.masters_run.proofs.RuledWaiters.{every_waiter_stays}
use Rattle.script_run.specs.AfterLines.{after_lines}
use Rattle.script_run.specs.Laws.{grid_lines}
use Rattle.script_run.specs.Runs.{ScriptRun, begun, ruled_of}
use Rattle.script_run.proofs.MastersLaws.{grid_lines-append}
use Rattle.script_run.proofs.ScriptLaws.{every_run_is_the_grids}
use Rattle.masters_run.proofs.RuledLines.{every_partition_goes_by_its_machine, every_partition_goes_on}
use Rattle.masters_run.proofs.SilentWaiters.{every_waiter_changes_nothing}
use Rattle.grid_cli.specs.Progress.{run_after, begun_by, capacity_by, capacity_of, run_of}
use Rattle.grid_cli.specs.Scripts.{lines_of}
use Rattle.grid_cli.specs.Statuses.{HasReplayed, ReadsAndWrites}
use Rattle.grid_cli.specs.Transcripts.{settings}
use Rattle.grid_cli.specs.Waits.{WaitByTheRule, GoOnByTheRule, TellsWaits, PrintsWaits}
use Rattle.grid_cli.specs.declared.status.Status.{Status}
use Rattle.grid_cli.proofs.CommandLaws.{first_within, run_of_lines}
use Rattle.grid_cli.proofs.Decisions.{AreRunOn, are_run_on}
use Rattle.grid_cli.proofs.ReadLaws.{prints_also}

-- unless the run was given up
abbrev Waits : Settings → List CallId → ScriptRun → Type 0
Waits s skips r = r.run.full ≡ false → WaitByTheRule s skips r.run

ruled_waits : (s : Settings) (members backups : ℕ) (skips : List CallId) (lines : List Line) → 1 ≤ members → let r = ruled_with s members backups skips lines in r.run.full ≡ false → WaitByTheRule s skips r.run
ruled_waits s members backups skips lines some lasts = record {
  by_the_machine = λ p low. every_partition_goes_by_its_machine s members backups skips lines p some low lasts;
  stays = every_waiter_stays s members backups skips lines some lasts;
  silent = every_waiter_changes_nothing (partition_object s) skips (ruled_with s members backups skips lines).run;
}

-- To the grid what near clients do is bytes that arrive.
runs_wait : (s : Settings) (members backups : ℕ) (skips : List CallId) (texts : List (List ℕ)) → 1 ≤ members → Waits s skips (run_after s skips (begun members backups) texts)
runs_wait s members backups skips texts some =
    let run = run_of_lines s skips (begun members backups) texts in
    subst (Waits s skips) (sym run.1)
    (subst (λ (x : RuledRun). x.run.full ≡ false → WaitByTheRule s skips x.run) (sym (every_run_is_the_grids s skips (begun members backups) run.0))
    (ruled_waits s members backups skips (grid_lines s skips (begun members backups) run.0) some))

-- from one moment to a later one

abbrev GoOn : Settings → List CallId → ScriptRun → ScriptRun → Type 0
GoOn s skips first later = later.run.full ≡ false → GoOnByTheRule s skips first.run later.run

lines_go_on : (s : Settings) (members backups : ℕ) (skips : List CallId) (lines more : List Line) → 1 ≤ members
    → GoOn s skips (after_lines s skips (begun members backups) lines) (after_lines s skips (begun members backups) (lines ++ more))
lines_go_on s members backups skips lines more some =
    let began = begun members backups in
    let first = grid_lines s skips began lines in
    let rest = grid_lines s skips (after_lines s skips began lines) more in
    let before : ruled_of (after_lines s skips began lines) ≡ ruled_with s members backups skips first = every_run_is_the_grids s skips began lines in
    let after : ruled_of (after_lines s skips began (lines ++ more)) ≡ ruled_with s members backups skips (first ++ rest) =
    every_run_is_the_grids s skips began (lines ++ more) ∙ ap (ruled_with s members backups skips) (grid_lines-append s skips began lines more) in
    subst (λ (x : RuledRun). (after_lines s skips began (lines ++ more)).run.full ≡ false → GoOnByTheRule s skips x.run (after_lines s skips began (lines ++ more)).run) (sym before)
    (subst (λ (x : RuledRun). x.run.full ≡ false → GoOnByTheRule s skips (ruled_with s members backups skips first).run x.run) (sym after)
    (λ lasts p low. every_partition_goes_on s members backups skips first rest p some low lasts))

runs_go_on : (s : Settings) (members backups : ℕ) (skips : List CallId) (k n : ℕ) (texts : List (List ℕ)) → 1 ≤ members → k ≤ n
    → GoOn s skips (run_after s skips (begun members backups) (take k texts)) (run_after s skips (begun members backups) (take n texts))
runs_go_on s members backups skips k n texts some within = go (are_run_on s skips k n (begun members backups) texts within)
  where
    go : AreRunOn s skips (begun members backups) (take k texts) (take n texts) → GoOn s skips (run_after s skips (begun members backups) (take k texts)) (run_after s skips (begun members backups) (take n texts))
    go run =
        subst (λ (x : ScriptRun). GoOn s skips x (run_after s skips (begun members backups) (take n texts))) (sym run.first)
        (subst (λ (x : ScriptRun). GoOn s skips (after_lines s skips (begun members backups) run.lines) x) (sym run.then) (lines_go_on s members backups skips run.lines run.more some))

-- the first line makes the grid
module _ (forms : List ProcessorForm) (skips : List CallId) where
  abbrev by : Result Line LineWhy → Settings
  by line = settings forms (capacity_by line)

  module _ (first : List ℕ) (texts : List (List ℕ)) where
    abbrev Wait : Result Line LineWhy → Type 0
    Wait line = Waits (by line) skips (run_after (by line) skips (begun_by line) texts)

    one_waits : (x : Result Line LineWhy) → line_of true 0 first ≡ x → begun_by x ≡ begun 1 0 → Wait (line_of true 0 first)
    one_waits x read is = subst Wait (sym read) (subst (λ r. Waits (by x) skips (run_after (by x) skips r texts)) (sym is) (runs_wait (by x) 1 0 skips texts (omega arith)))

    run_waits : (x : Result Line LineWhy) → line_of true 0 first ≡ x → Wait (line_of true 0 first)
    run_waits (Ok (Grid members backups capacity)) read = let w = first_within first _ read in subst Wait (sym read) (runs_wait (settings forms capacity) members backups skips texts w.0)
    run_waits (Err why) read = one_waits _ read refl
    run_waits (Ok line) read = one_waits _ read refl

  module _ (first : List ℕ) (k n : ℕ) (texts : List (List ℕ)) (within : k ≤ n) where
    abbrev On : Result Line LineWhy → Type 0
    On line = GoOn (by line) skips (run_after (by line) skips (begun_by line) (take k texts)) (run_after (by line) skips (begun_by line) (take n texts))

    one_goes_on : (x : Result Line LineWhy) → line_of true 0 first ≡ x → begun_by x ≡ begun 1 0 → On (line_of true 0 first)
    one_goes_on x read is =
        subst On (sym read) (subst (λ r. GoOn (by x) skips (run_after (by x) skips r (take k texts)) (run_after (by x) skips r (take n texts))) (sym is) (runs_go_on (by x) 1 0 skips k n texts (omega arith) within))

    run_goes_on : (x : Result Line LineWhy) → line_of true 0 first ≡ x → On (line_of true 0 first)
    run_goes_on (Ok (Grid members backups capacity)) read = let w = first_within first _ read in subst On (sym read) (runs_go_on (settings forms capacity) members backups skips k n texts w.0 within)
    run_goes_on (Err why) read = one_goes_on _ read refl
    run_goes_on (Ok line) read = one_goes_on _ read refl

  -- however many of the lines run

  all_wait : (texts : List (List ℕ)) (lines : ℕ) → Waits (settings forms (capacity_of texts)) skips (run_of forms skips (take lines texts))
  all_wait [] zero = runs_wait (settings forms 0) 1 0 skips [] (omega arith)
  all_wait [] (suc lines) = runs_wait (settings forms 0) 1 0 skips [] (omega arith)
  all_wait (text ∷ texts) zero = runs_wait (settings forms (capacity_of (text ∷ texts))) 1 0 skips [] (omega arith)
  all_wait (text ∷ texts) (suc lines) = run_waits text (take lines texts) (line_of true 0 text) refl

  -- the first line has made the grid
  all_go_on : (texts : List (List ℕ)) (lines later : ℕ) → 1 ≤ lines → lines ≤ later → GoOn (settings forms (capacity_of texts)) skips (run_of forms skips (take lines texts)) (run_of forms skips (take later texts))
  all_go_on texts zero later some within = absurd (omega (arith, some))
  all_go_on texts (suc lines) zero some within = absurd (omega (arith, within))
  all_go_on [] (suc lines) (suc later) some within = runs_go_on (settings forms 0) 1 0 skips 0 0 [] (omega arith) (omega arith)
  all_go_on (text ∷ texts) (suc lines) (suc later) some within = run_goes_on text lines later texts (omega (arith, within)) (line_of true 0 text) refl

tells_waits : (forms : List ProcessorForm) (status : Status) (skips : List CallId) (script read text : List ℕ) → HasReplayed forms status skips script read text → TellsWaits forms status skips script read text
tells_waits forms status skips script read text replayed = record { replayed = replayed; waits = all_wait forms skips (lines_of script); goes_on = all_go_on forms skips (lines_of script) }

pub prints_waits : (forms : List ProcessorForm) (status : Status) (first now : Given) (before after : List ℕ) → ReadsAndWrites forms status first now before after → PrintsWaits forms status first now before after
prints_waits forms status = prints_also (HasReplayed forms status) (TellsWaits forms status) (tells_waits forms status)
