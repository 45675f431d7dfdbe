-- What a replay writes tells histories: a transcript that ends at the line `end` closes with those of its run.
use Rattle.std.proofs.Common.{◌≡◌, ℕ, zero, suc, ◌+◌, ◌≤◌, Bool, true, false, cond, List, [], ◌∷◌, ◌++◌, length, take, drop, Option, Some, None, Result, Ok, Err, refl, ap, sym, ◌∙◌, subst, arith, ◌⊎◌, inl, inr, ⊎_elim, append-nil, append_assoc}
use Rattle.std.specs.List.{flat_map}
use Rattle.grid_base.specs.declared.names.CallId.{CallId}
use Rattle.grid_edge.specs.Given.{Given}
use Rattle.script_lang.specs.Lines.{line_of, is_end, IsWithin}
use Rattle.script_lang.proofs.Ranges.{IsWithin-words_of}
use Rattle.script_lang.specs.declared.line.Line.{Line}
use Rattle.script_lang.specs.declared.line.Line.TheVariants.{Grid, End}
use Rattle.script_lang.specs.declared.refusal.LineWhy.{LineWhy}
use Rattle.script_lang.specs.declared.refusal.LineWhy.TheVariants.{NoGrid}
use Rattle.entry_processors.specs.Processors.{ProcessorForm}
use Rattle.call_engine.specs.Calls.{Settings}
use Rattle.call_engine.specs.Objects.{partition_object}
use Rattle.replay_run.specs.Runs.{Run, next_line}
use Rattle.replay_run.specs.Printing.{ok_text, appended_text, entry_text, all_entries}
use Rattle.replay_run.specs.Printing as grid
use Rattle.masters_run.specs.Runs.{RuledRun, has_masters}
use Rattle.masters_run.specs.AfterLines.{unruled, ruled_line}
use Rattle.masters_run.specs.AfterLines as ruled
use Rattle.masters_run.specs.Printing.{ruled_text, unruled_text}
use Rattle.masters_run.specs.Printing as told
use Rattle.script_run.specs.Runs.{ScriptRun, begun, ruled_of}
use Rattle.script_run.specs.AfterLines.{after_line, after_lines}
use Rattle.script_run.specs.Printing.{line_text}
use Rattle.replay_run.specs.Linearizability.{IsLinearizable}
use Rattle.grid_cli.specs.Scripts.{lines_of, limit_of}
use Rattle.grid_cli.specs.Transcripts.{Transcript, settings, Ending, Ended, Refused, TooLong, first_line, later_lines, after_first, following, refused, too_long}
use Rattle.grid_cli.specs.Progress.{run_of, run_after, begun_by, capacity_by, capacity_of}
use Rattle.grid_cli.specs.Statuses.{whole, Writes, HasReplayed, ReadsAndWrites}
use Rattle.grid_cli.specs.Commands.{ClosesWith, TellsHistories, PrintsHistories, settings_in}
use Rattle.grid_cli.specs.declared.status.LimitWhat.{LimitWhat}
use Rattle.grid_cli.specs.declared.status.LimitWhat.TheVariants.{InFlight}
use Rattle.grid_cli.specs.declared.status.Status.{Status}
use Rattle.grid_cli.specs.declared.status.Status.TheVariants.{Done, Usage}
use Rattle.grid_cli.proofs.Progress.{continued, later_line, run_line}
use Rattle.grid_cli.proofs.ReadLaws.{prints_also}
use Rattle.grid_cli.proofs.ReplayRuns.{nothing_said}
use Rattle.script_run.proofs.ScriptLaws.{every_run_is_linearizable}

abbrev has_ended : Ending → Bool
has_ended Ended = true
has_ended (Refused line why) = false
has_ended (TooLong line what) = false

abbrev ended_in : Transcript → Bool
ended_in t = has_ended t.ending

-- the text of the line `end`, which appends nothing

nothing_new : {X : Type 0} (xs : List X) → drop (length xs) xs ≡ []
nothing_new [] = refl
nothing_new (x ∷ xs) = nothing_new xs

abbrev histories : Settings → Run → List ℕ
histories s r = flat_map (entry_text r.lines) (all_entries (partition_object s) r)

closing_text : (s : Settings) (skips : List CallId) (r : Run) → grid.line_text s skips r End (next_line r) ≡ ok_text (next_line r).lines ++ histories s (next_line r)
closing_text s skips r =
    let next : Run = next_line r in
    ap (λ messages. ok_text next.lines ++ flat_map appended_text messages ++ [] ++ [] ++ [] ++ histories s next) (nothing_new r.appended)
    ∙ ap (λ text. text ++ histories s next)
    (append-nil (((ok_text next.lines ++ []) ++ []) ++ []) ∙ append-nil ((ok_text next.lines ++ []) ++ []) ∙ append-nil (ok_text next.lines ++ []) ∙ append-nil (ok_text next.lines))

end_is : (line : Line) → is_end line ≡ true → line ≡ End
end_is End e = refl
end_is line e = absurd (cc e)

-- with masters too
ruled_closes : (s : Settings) (skips : List CallId) (r : RuledRun) → let next = ruled.after_line (partition_object s) skips r End in ClosesWith s next.run (told.line_text s skips r End next)
ruled_closes s skips r = go (has_masters r)
  where
    go : (b : Bool) → let next = cond b (ruled_line (partition_object s) skips r End) (unruled (partition_object s) skips r End) in ClosesWith s next.run (cond b (ruled_text s skips r End next) (unruled_text s skips r End next))
    go true = ([], closing_text s skips r.run)
    go false = ([], closing_text s skips r.run)

last_closes : (s : Settings) (skips : List CallId) (r : ScriptRun) (line : Line) → line ≡ End
    → ClosesWith s (after_line s skips r line).run (line_text s skips r line (after_line s skips r line))
last_closes s skips r line is = subst (λ l. ClosesWith s (after_line s skips r l).run (line_text s skips r l (after_line s skips r l))) (sym is) (ruled_closes s skips (ruled_of r))

-- a text before one that closes
closes_after : (s : Settings) (r : Run) (before text : List ℕ) → ClosesWith s r text → ClosesWith s r (before ++ text)
closes_after s r before text closes = (
  before ++ closes.0,
  ap (λ t. before ++ t) closes.1
      ∙ sym (append_assoc before (closes.0 ++ ok_text r.lines) (histories s r))
      ∙ ap (λ t. t ++ histories s r) (sym (append_assoc before closes.0 (ok_text r.lines))),
)

-- The text closes with the histories of the run after some of these lines.
abbrev Closes : Settings → List CallId → ScriptRun → List (List ℕ) → Transcript → Type 0
Closes s skips r texts t = (lines : ℕ) × ClosesWith s (run_after s skips r (take lines texts)).run t.text

later_close : (s : Settings) (skips : List CallId) (limit : Option LimitWhat) (r : ScriptRun) (texts : List (List ℕ)) → ended_in (later_lines s skips limit r texts) ≡ true
    → Closes s skips r texts (later_lines s skips limit r texts)
later_close s skips (Some what) r [] e = absurd (cc e)
later_close s skips None r [] e = absurd (cc e)
later_close s skips limit r (text ∷ texts) e = by_line (λ next. later_close s skips limit next texts) (line_of false r.run.members text) refl
  where
    Rest : Type 0
    Rest = (next : ScriptRun) → ended_in (later_lines s skips limit next texts) ≡ true → Closes s skips next texts (later_lines s skips limit next texts)

    -- A run that is given up doesn't end.
    by_full : (line : Line) → line_of false r.run.members text ≡ Ok line → (after_line s skips r line).run.full ≡ true → Closes s skips r (text ∷ texts) (later_lines s skips limit r (text ∷ texts))
    by_full line read full =
        let shown : later_lines s skips limit r (text ∷ texts) ≡ too_long (r.run.lines + 1) InFlight = later_line s skips limit r text texts line read ∙ rw full refl in
        let clash : false ≡ true = sym (ap ended_in shown) ∙ e in
        absurd (cc clash)

    by_end : Rest → (line : Line) → line_of false r.run.members text ≡ Ok line → (after_line s skips r line).run.full ≡ false → (b : Bool) → is_end line ≡ b → Closes s skips r (text ∷ texts) (later_lines s skips limit r (text ∷ texts))
    by_end go line read lasts true ends =
        let next : ScriptRun = after_line s skips r line in
        let shown : later_lines s skips limit r (text ∷ texts) ≡ (record { text = line_text s skips r line next; ending = Ended }) = later_line s skips limit r text texts line read ∙ rw (lasts, ends) refl in (
          1,
          subst (λ (x : ScriptRun). ClosesWith s x.run (later_lines s skips limit r (text ∷ texts)).text) (sym (run_line s skips r text [] line read))
              (subst (λ (t : Transcript). ClosesWith s next.run t.text) (sym shown) (last_closes s skips r line (end_is line ends))),
        )
    by_end go line read lasts false ends =
        let next : ScriptRun = after_line s skips r line in
        let shown : later_lines s skips limit r (text ∷ texts) ≡ following (line_text s skips r line next) (later_lines s skips limit next texts) = later_line s skips limit r text texts line read ∙ rw (lasts, ends) refl in
        let rest = go next (sym (ap ended_in shown) ∙ e) in (
          suc rest.0,
          subst (λ (x : ScriptRun). ClosesWith s x.run (later_lines s skips limit r (text ∷ texts)).text) (sym (run_line s skips r text (take rest.0 texts) line read))
              (subst (λ (t : Transcript). ClosesWith s (run_after s skips next (take rest.0 texts)).run t.text) (sym shown)
              (closes_after s (run_after s skips next (take rest.0 texts)).run (line_text s skips r line next) _ rest.1)),
        )

    by_fullness : Rest → (line : Line) → line_of false r.run.members text ≡ Ok line → (b : Bool) → (after_line s skips r line).run.full ≡ b → Closes s skips r (text ∷ texts) (later_lines s skips limit r (text ∷ texts))
    by_fullness go line read true full = by_full line read full
    by_fullness go line read false lasts = by_end go line read lasts (is_end line) refl

    by_line : Rest → (x : Result Line LineWhy) → line_of false r.run.members text ≡ x → Closes s skips r (text ∷ texts) (later_lines s skips limit r (text ∷ texts))
    by_line go (Err why) read =
        let shown : later_lines s skips limit r (text ∷ texts) ≡ refused (r.run.lines + 1) why =
        ap (λ (x : Result Line LineWhy). elim x [ Err why ↦ refused (r.run.lines + 1) why | Ok l ↦ continued s skips limit texts r l (after_line s skips r l) ]) read in
        let clash : false ≡ true = sym (ap ended_in shown) ∙ e in
        absurd (cc clash)
    by_line go (Ok line) read = by_fullness go line read (after_line s skips r line).run.full refl

-- A whole script that ended closes with histories.
abbrev ClosesAll : List ProcessorForm → List CallId → List (List ℕ) → Transcript → Type 0
ClosesAll forms skips texts t = (lines : ℕ) × ClosesWith (settings forms (capacity_of texts)) (run_of forms skips (take lines texts)).run t.text

lines_close : (forms : List ProcessorForm) (skips : List CallId) (limit : Option LimitWhat) (texts : List (List ℕ)) → ended_in (first_line forms skips limit texts) ≡ true
    → ClosesAll forms skips texts (first_line forms skips limit texts)
lines_close forms skips (Some what) [] e = absurd (cc e)
lines_close forms skips None [] e = absurd (cc e)
lines_close forms skips limit (text ∷ texts) e = by_line (line_of true 0 text) refl
  where
    shown_as : (x : Result Line LineWhy) → line_of true 0 text ≡ x
        → first_line forms skips limit (text ∷ texts) ≡ elim x [ Err why ↦ refused 1 why | Ok line ↦ after_first forms skips limit texts line ]
    shown_as x read = ap (λ (x : Result Line LineWhy). elim x [ Err why ↦ refused 1 why | Ok line ↦ after_first forms skips limit texts line ]) read

    is_refused : (why : LineWhy) → first_line forms skips limit (text ∷ texts) ≡ refused 1 why → ClosesAll forms skips (text ∷ texts) (first_line forms skips limit (text ∷ texts))
    is_refused why shown = absurd (cc (sym (ap ended_in shown) ∙ e))

    by : Result Line LineWhy → Settings
    by line = settings forms (capacity_by line)

    of_grid : (members backups capacity : ℕ) → line_of true 0 text ≡ Ok (Grid members backups capacity) → ClosesAll forms skips (text ∷ texts) (first_line forms skips limit (text ∷ texts))
    of_grid members backups capacity read =
        let s : Settings = settings forms capacity in
        let t : Transcript = later_lines s skips limit (begun members backups) texts in
        let shown : first_line forms skips limit (text ∷ texts) ≡ following (ok_text 1) t = shown_as _ read in
        let rest = later_close s skips limit (begun members backups) texts (sym (ap ended_in shown) ∙ e) in
        let last : ScriptRun = run_after s skips (begun members backups) (take rest.0 texts) in (
          suc rest.0,
          subst (λ line. ClosesWith (by line) (run_after (by line) skips (begun_by line) (take rest.0 texts)).run (first_line forms skips limit (text ∷ texts)).text) (sym read)
              (subst (λ (t : Transcript). ClosesWith s last.run t.text) (sym shown) (closes_after s last.run (ok_text 1) _ rest.1)),
        )

    by_line : (x : Result Line LineWhy) → line_of true 0 text ≡ x → ClosesAll forms skips (text ∷ texts) (first_line forms skips limit (text ∷ texts))
    by_line (Err why) read = is_refused why (shown_as _ read)
    by_line (Ok (Grid members backups capacity)) read = of_grid members backups capacity read
    by_line (Ok line) read = is_refused NoGrid (shown_as _ read)

-- every run of a script's lines

pub run_of_lines : (o : Settings) (skips : List CallId) (r : ScriptRun) (texts : List (List ℕ)) → (lines : List Line) × (run_after o skips r texts ≡ after_lines o skips r lines)
run_of_lines o skips r [] = ([], refl)
run_of_lines o skips r (text ∷ texts) = by_line (λ next. run_of_lines o skips next texts) (line_of false r.run.members text) refl
  where
    by_line : ((next : ScriptRun) → (lines : List Line) × (run_after o skips next texts ≡ after_lines o skips next lines))
        → (x : Result Line LineWhy) → line_of false r.run.members text ≡ x → (lines : List Line) × (run_after o skips r (text ∷ texts) ≡ after_lines o skips r lines)
    by_line go (Err why) read = ([], ap (λ (x : Result Line LineWhy). elim x [ Err why ↦ r | Ok l ↦ run_after o skips (after_line o skips r l) texts ]) read)
    by_line go (Ok line) read = let rest = go (after_line o skips r line) in (line ∷ rest.0, run_line o skips r text texts line read ∙ rest.1)

runs_linearize : (s : Settings) (members backups : ℕ) (skips : List CallId) (texts : List (List ℕ)) → 1 ≤ members → IsLinearizable s (run_after s skips (begun members backups) texts).run
runs_linearize s members backups skips texts some =
    let run = run_of_lines s skips (begun members backups) texts in
    subst (λ (x : ScriptRun). IsLinearizable s x.run) (sym run.1) (every_run_is_linearizable s members backups skips run.0 some)

pub first_within : (text : List ℕ) (line : Line) → line_of true 0 text ≡ Ok line → IsWithin 0 (length text) line
first_within [] line e = IsWithin-words_of true 0 [] line (λ f. absurd (cc f)) e
first_within (byte ∷ bytes) line e = IsWithin-words_of true 0 (byte ∷ bytes) line (λ f. absurd (cc f)) e

-- the run of a script's lines, or of the first of them
first_lines : (texts : List (List ℕ)) (lines : ℕ) → (take lines texts ≡ []) ⊎ (capacity_of (take lines texts) ≡ capacity_of texts)
first_lines [] zero = inl refl
first_lines [] (suc lines) = inl refl
first_lines (text ∷ texts) zero = inl refl
first_lines (text ∷ texts) (suc lines) = inr refl

begins_linearizable : (s : Settings) (forms : List ProcessorForm) (skips : List CallId) (texts : List (List ℕ)) → texts ≡ [] → IsLinearizable s (run_of forms skips texts).run
begins_linearizable s forms skips texts none = subst (λ ts. IsLinearizable s (run_of forms skips ts).run) (sym none) (runs_linearize s 1 0 skips [] (omega arith))

run_is_linearizable : (forms : List ProcessorForm) (skips : List CallId) (texts : List (List ℕ)) → IsLinearizable (settings forms (capacity_of texts)) (run_of forms skips texts).run
run_is_linearizable forms skips [] = begins_linearizable (settings forms 0) forms skips [] refl
run_is_linearizable forms skips (first ∷ texts) =
    by_line (line_of true 0 first) refl
  where
    by : Result Line LineWhy → Settings
    by line = settings forms (capacity_by line)

    Linearizes : Result Line LineWhy → Type 0
    Linearizes line = IsLinearizable (by line) (run_after (by line) skips (begun_by line) texts).run

    one_member : (x : Result Line LineWhy) → line_of true 0 first ≡ x → begun_by x ≡ begun 1 0 → Linearizes (line_of true 0 first)
    one_member x read is =
        subst Linearizes (sym read)
        (subst (λ r. IsLinearizable (by x) (run_after (by x) skips r texts).run) (sym is) (runs_linearize (by x) 1 0 skips texts (omega arith)))

    by_line : (x : Result Line LineWhy) → line_of true 0 first ≡ x → Linearizes (line_of true 0 first)
    by_line (Ok (Grid members backups capacity)) read =
        let within = first_within first _ read in
        subst Linearizes (sym read) (runs_linearize (settings forms capacity) members backups skips texts (omega (arith, within)))
    by_line (Err why) read = one_member _ read refl
    by_line (Ok line) read = one_member _ read refl

-- however many of the lines run
first_linearize : (forms : List ProcessorForm) (skips : List CallId) (texts : List (List ℕ)) (lines : ℕ) → IsLinearizable (settings forms (capacity_of texts)) (run_of forms skips (take lines texts)).run
first_linearize forms skips texts lines =
    ⊎_elim (begins_linearizable (settings forms (capacity_of texts)) forms skips (take lines texts))
    (λ same. subst (λ capacity. IsLinearizable (settings forms capacity) (run_of forms skips (take lines texts)).run) same (run_is_linearizable forms skips (take lines texts))) (first_lines texts lines)

done_closes : (forms : List ProcessorForm) (skips : List CallId) (script read text : List ℕ) → Writes forms Done skips script read text → ClosesAll forms skips (lines_of script) (whole text Ended)
done_closes forms skips script read text is =
    let closes = lines_close forms skips (limit_of script) (lines_of script) (ap ended_in is) in
    (closes.0, subst (λ (t : Transcript). ClosesWith (settings_in forms script) (run_of forms skips (take closes.0 (lines_of script))).run t.text) is closes.1)

tells_histories : (forms : List ProcessorForm) (status : Status) (skips : List CallId) (script read text : List ℕ) → HasReplayed forms status skips script read text → TellsHistories forms status skips script read text
tells_histories forms status skips script read text replayed = record {
  replayed = replayed;
  linearizable = first_linearize forms skips (lines_of script);
  closes = λ done. done_closes forms skips script read text (subst (λ s. Writes forms s skips script read text) done replayed.writes);
}

pub prints_histories : (forms : List ProcessorForm) (status : Status) (first now : Given) (before after : List ℕ) → ReadsAndWrites forms status first now before after → PrintsHistories forms status first now before after
prints_histories forms status = prints_also (HasReplayed forms status) (TellsHistories forms status) (tells_histories forms status)

-- where the words are no command
pub nothing_printed : (forms : List ProcessorForm) (first : Given) (before : List ℕ) → PrintsHistories forms Usage first first before before
nothing_printed forms first before = prints_histories forms Usage first first before before (nothing_said forms first before)
