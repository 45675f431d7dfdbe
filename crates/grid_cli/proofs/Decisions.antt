-- What the masters of a replayed script publish is what its table service does.
use Rattle.std.proofs.Common.{◌≡◌, ℕ, zero, suc, ◌≤◌, true, false, List, [], ◌∷◌, ◌++◌, take, Option, Result, Ok, Err, refl, ap, sym, ◌∙◌, subst, arith}
use Rattle.grid_base.specs.declared.names.CallId.{CallId}
use Rattle.grid_edge.specs.Given.{Given}
use Rattle.entry_processors.specs.Processors.{ProcessorForm}
use Rattle.call_engine.specs.Calls.{Settings}
use Rattle.script_lang.specs.Lines.{line_of}
use Rattle.script_lang.specs.declared.line.Line.{Line}
use Rattle.script_lang.specs.declared.line.Line.TheVariants.{Grid}
use Rattle.script_lang.specs.declared.refusal.LineWhy.{LineWhy}
use Rattle.script_run.specs.AfterLines.{after_line, after_lines}
use Rattle.script_run.specs.Laws.{run_with}
use Rattle.script_run.specs.Masters.{AreRuled, AllAreServed, AllGoOn}
use Rattle.script_run.specs.Runs.{ScriptRun, begun}
use Rattle.script_run.proofs.MastersLaws.{every_run_is_ruled, every_service_serves_as_published, every_published_list_grows}
use Rattle.grid_cli.specs.Decisions.{TellsDecisions, PrintsDecisions}
use Rattle.grid_cli.specs.Progress.{run_after, begun_by, capacity_by, capacity_of, run_of}
use Rattle.grid_cli.specs.Scripts.{lines_of}
use Rattle.grid_cli.specs.Statuses.{HasReplayed, ReadsAndWrites}
use Rattle.grid_cli.specs.Transcripts.{settings}
use Rattle.grid_cli.specs.declared.status.Status.{Status}
use Rattle.grid_cli.proofs.CommandLaws.{first_within, run_of_lines}
use Rattle.grid_cli.proofs.Progress.{run_line}
use Rattle.grid_cli.proofs.ReadLaws.{prints_also}

-- The lines that run of some texts, and of more.
pub record AreRunOn (s : Settings) (skips : List CallId) (r : ScriptRun) (texts later : List (List ℕ)) : Type 0 where
  pub lines : List Line
  pub more : List Line
  pub first : run_after s skips r texts ≡ after_lines s skips r lines
  pub then : run_after s skips r later ≡ after_lines s skips r (lines ++ more)

pub are_run_on : (s : Settings) (skips : List CallId) (k n : ℕ) (r : ScriptRun) (texts : List (List ℕ)) → k ≤ n → AreRunOn s skips r (take k texts) (take n texts)
are_run_on s skips zero n r texts within = let all = run_of_lines s skips r (take n texts) in record { lines = []; more = all.0; first = refl; then = all.1 }
are_run_on s skips (suc k) zero r texts within = absurd (omega (arith, within))
are_run_on s skips (suc k) (suc n) r [] within = record { lines = []; more = []; first = refl; then = refl }
are_run_on s skips (suc k) (suc n) r (text ∷ texts) within = by (λ next. are_run_on s skips k n next texts (omega (arith, within))) (line_of false r.run.members text) refl
  where
    -- one that isn't in the grammar stops both
    stopped : (rest : List (List ℕ)) (why : LineWhy) → line_of false r.run.members text ≡ Err why → run_after s skips r (text ∷ rest) ≡ r
    stopped rest why read = ap (λ (x : Result Line LineWhy). elim x [ Err why ↦ r | Ok l ↦ run_after s skips (after_line s skips r l) rest ]) read

    by : ((next : ScriptRun) → AreRunOn s skips next (take k texts) (take n texts)) → (x : Result Line LineWhy) → line_of false r.run.members text ≡ x → AreRunOn s skips r (text ∷ take k texts) (text ∷ take n texts)
    by go (Err why) read = record { lines = []; more = []; first = stopped (take k texts) why read; then = stopped (take n texts) why read }
    by go (Ok line) read =
        let rest = go (after_line s skips r line) in
        record { lines = line ∷ rest.lines; more = rest.more; first = run_line s skips r text (take k texts) line read ∙ rest.first; then = run_line s skips r text (take n texts) line read ∙ rest.then }

-- at one moment

-- what holds of the run of whichever lines, and of the one before the second line
module _ (Holds : Settings → ScriptRun → Type 0) (every : (s : Settings) (members backups : ℕ) (skips : List CallId) (lines : List Line) → 1 ≤ members → members ≤ 8 → Holds s (run_with s members backups skips lines))
    (none : (s : Settings) → Holds s (begun 1 0)) where
  after_texts : (s : Settings) (members backups : ℕ) (skips : List CallId) (texts : List (List ℕ)) → 1 ≤ members → members ≤ 8 → Holds s (run_after s skips (begun members backups) texts)
  after_texts s members backups skips texts some most = let run = run_of_lines s skips (begun members backups) texts in subst (Holds s) (sym run.1) (every s members backups skips run.0 some most)

  module _ (forms : List ProcessorForm) (skips : List CallId) where
    module _ (first : List ℕ) (texts : List (List ℕ)) where
      -- the first line makes the grid
      abbrev So : Result Line LineWhy → Type 0
      So line = let s = settings forms (capacity_by line) in Holds s (run_after s skips (begun_by line) texts)

      one_member : (x : Result Line LineWhy) → line_of true 0 first ≡ x → begun_by x ≡ begun 1 0 → So (line_of true 0 first)
      one_member x read is =
          let s = settings forms (capacity_by x) in
          subst So (sym read) (subst (λ r. Holds s (run_after s skips r texts)) (sym is) (after_texts s 1 0 skips texts (omega arith) (omega arith)))

      by_first : (x : Result Line LineWhy) → line_of true 0 first ≡ x → So (line_of true 0 first)
      by_first (Ok (Grid members backups capacity)) read = let w = first_within first _ read in subst So (sym read) (after_texts (settings forms capacity) members backups skips texts w.0 w.1)
      by_first (Err why) read = one_member _ read refl
      by_first (Ok line) read = one_member _ read refl

    -- however many of the lines run
    holds_after : (texts : List (List ℕ)) (lines : ℕ) → Holds (settings forms (capacity_of texts)) (run_of forms skips (take lines texts))
    holds_after [] zero = none (settings forms 0)
    holds_after [] (suc lines) = none (settings forms 0)
    holds_after (text ∷ texts) zero = none (settings forms (capacity_of (text ∷ texts)))
    holds_after (text ∷ texts) (suc lines) = by_first text (take lines texts) (line_of true 0 text) refl

-- at two

runs_go_on : (s : Settings) (members backups : ℕ) (skips : List CallId) (k n : ℕ) (texts : List (List ℕ)) → 1 ≤ members → members ≤ 8 → k ≤ n
    → AllGoOn s (run_after s skips (begun members backups) (take k texts)) (run_after s skips (begun members backups) (take n texts))
runs_go_on s members backups skips k n texts some most within =
    let run = are_run_on s skips k n (begun members backups) texts within in
    subst (λ (x : ScriptRun). AllGoOn s x (run_after s skips (begun members backups) (take n texts))) (sym run.first)
    (subst (λ (x : ScriptRun). AllGoOn s (after_lines s skips (begun members backups) run.lines) x) (sym run.then) (every_published_list_grows s members backups skips run.lines run.more some most))

-- No masters are there before the second line.

none_ruled : (s : Settings) → AreRuled s (begun 1 0)
none_ruled s has lasts = absurd cc

none_served : (s : Settings) → AllAreServed s (begun 1 0)
none_served s has lasts p low = absurd cc

none_go_on : (s : Settings) (later : ScriptRun) → AllGoOn s (begun 1 0) later
none_go_on s later has lasts p low = absurd cc

module _ (forms : List ProcessorForm) (skips : List CallId) where
  -- the first line makes the grid
  abbrev by : Result Line LineWhy → Settings
  by line = settings forms (capacity_by line)

  module _ (first : List ℕ) (k n : ℕ) (texts : List (List ℕ)) (within : k ≤ n) where
    abbrev On : Result Line LineWhy → Type 0
    On line = AllGoOn (by line) (run_after (by line) skips (begun_by line) (take k texts)) (run_after (by line) skips (begun_by line) (take n texts))

    one_goes_on : (x : Result Line LineWhy) → line_of true 0 first ≡ x → begun_by x ≡ begun 1 0 → On (line_of true 0 first)
    one_goes_on x read is =
        subst On (sym read) (subst (λ r. AllGoOn (by x) (run_after (by x) skips r (take k texts)) (run_after (by x) skips r (take n texts))) (sym is) (runs_go_on (by x) 1 0 skips k n texts (omega arith) (omega arith) within))

    run_goes_on : (x : Result Line LineWhy) → line_of true 0 first ≡ x → On (line_of true 0 first)
    run_goes_on (Ok (Grid members backups capacity)) read = let w = first_within first _ read in subst On (sym read) (runs_go_on (settings forms capacity) members backups skips k n texts w.0 w.1 within)
    run_goes_on (Err why) read = one_goes_on _ read refl
    run_goes_on (Ok line) read = one_goes_on _ read refl

  -- however many of the lines run

  all_go_on : (texts : List (List ℕ)) (lines later : ℕ) → lines ≤ later → AllGoOn (settings forms (capacity_of texts)) (run_of forms skips (take lines texts)) (run_of forms skips (take later texts))
  all_go_on [] zero later within = none_go_on (settings forms 0) (run_of forms skips (take later []))
  all_go_on [] (suc lines) later within = none_go_on (settings forms 0) (run_of forms skips (take later []))
  all_go_on (text ∷ texts) zero later within = none_go_on (settings forms (capacity_of (text ∷ texts))) (run_of forms skips (take later (text ∷ texts)))
  all_go_on (text ∷ texts) (suc lines) zero within = absurd (omega (arith, within))
  all_go_on (text ∷ texts) (suc lines) (suc later) within = run_goes_on text lines later texts (omega (arith, within)) (line_of true 0 text) refl

tells_decisions : (forms : List ProcessorForm) (status : Status) (skips : List CallId) (script read text : List ℕ) → HasReplayed forms status skips script read text → TellsDecisions forms status skips script read text
tells_decisions forms status skips script read text replayed = record {
  replayed = replayed;
  ruled = holds_after AreRuled every_run_is_ruled none_ruled forms skips (lines_of script);
  served = holds_after AllAreServed every_service_serves_as_published none_served forms skips (lines_of script);
  goes_on = all_go_on forms skips (lines_of script);
}

pub prints_decisions : (forms : List ProcessorForm) (status : Status) (first now : Given) (before after : List ℕ) → ReadsAndWrites forms status first now before after → PrintsDecisions forms status first now before after
prints_decisions forms status = prints_also (HasReplayed forms status) (TellsDecisions forms status) (tells_decisions forms status)
