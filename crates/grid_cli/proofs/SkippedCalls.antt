-- A transcript that tells of no skip is followed line by line by the one without skips.
use Rattle.std.proofs.Common.{◌≡◌, ℕ, ◌+◌, Bool, true, false, cond, if◌then◌else◌, List, [], ◌∷◌, ◌++◌, Option, Result, Ok, Err, refl, ap, sym, ◌∙◌, subst, inl, inr, append_assoc}
use Rattle.grid_base.specs.declared.names.CallId.{CallId}
use Rattle.partition_protocol.proofs.Lists.{on_if}
use Rattle.entry_processors.specs.Processors.{ProcessorForm}
use Rattle.call_engine.specs.Calls.{Settings}
use Rattle.script_lang.specs.Lines.{line_of, is_end}
use Rattle.script_lang.specs.declared.line.Line.{Line}
use Rattle.script_lang.specs.declared.line.Line.TheVariants.{Grid}
use Rattle.script_lang.specs.declared.refusal.LineWhy.{LineWhy}
use Rattle.replay_run.specs.Printing.{ok_text}
use Rattle.script_run.specs.Runs.{ScriptRun, begun}
use Rattle.script_run.specs.AfterLines.{after_line}
use Rattle.script_run.specs.Printing.{line_text}
use Rattle.replay_run.specs.SkippedCalls.{TellsOfNoSkip}
use Rattle.replay_run.proofs.Growing.{Grows, goes_nowhere, grows_trans}
use Rattle.replay_run.proofs.Skipped.{none_before}
use Rattle.script_run.proofs.ScriptLaws.{whole_line_none, whole_line_grows, text_none}
use Rattle.grid_cli.specs.Scripts.{lines_of, limit_of}
use Rattle.grid_cli.specs.Transcripts.{Transcript, Ended, settings, first_line, later_lines, after_first, following, refused, too_long}
use Rattle.grid_cli.specs.PrintedRuns.{printed_after, printed_by_grid, printed_of}
use Rattle.grid_cli.specs.SkippedCalls.{Agree, EveryTranscriptThatTellsOfNoSkipHasNone}
use Rattle.grid_cli.specs.declared.status.LimitWhat.{LimitWhat}
use Rattle.grid_cli.specs.declared.status.LimitWhat.TheVariants.{InFlight}
use Rattle.grid_cli.proofs.Progress.{continued, later_line}
use Rattle.grid_cli.proofs.PrintedRuns.{printed_on, printed_at}

stays : (r : ScriptRun) → Grows r.run r.run
stays r = (goes_nowhere r.run).grows []

printed_grows : (o : Settings) (skips : List CallId) (r : ScriptRun) (texts : List (List ℕ)) → Grows r.run (printed_after o skips r texts).run
printed_grows o skips r [] = stays r
printed_grows o skips r (text ∷ texts) = by_line (λ next. printed_grows o skips next texts) (line_of false r.run.members text)
  where
    by_line : ((next : ScriptRun) → Grows next.run (printed_after o skips next texts).run) → (read : Result Line LineWhy) → Grows r.run (printed_at o skips r texts read).run
    by_line go (Err why) = stays r
    by_line go (Ok line) =
        let next = after_line o skips r line in
        let rest = printed_after o skips next texts in
        let grows = whole_line_grows o skips r line in
        let P : ScriptRun → Type 0 = λ (x : ScriptRun). Grows r.run x.run in
        on_if P next.run.full r (cond (is_end line) next rest) (stays r) (on_if P (is_end line) next rest grows (grows_trans r.run next.run rest.run grows (go next)))

agree_behind : (text : List ℕ) (t u : Transcript) → Agree t u → Agree (following text t) (following text u)
agree_behind text t u (inl e) = inl (ap (following text) e)
agree_behind text t u (inr a) = inr (record {
  text = text ++ a.text;
  line = a.line;
  stops = ap (following text) a.stops ∙ ap (λ all. record { text = all; ending = (too_long a.line InFlight).ending }) (sym (append_assoc text a.text (too_long a.line InFlight).text));
  stands = (a.stands.0, append_assoc text a.text a.stands.0 ∙ ap (λ all. text ++ all) a.stands.1);
})

agree_as : (t u x y : Transcript) → t ≡ x → u ≡ y → Agree x y → Agree t u
agree_as t u x y e f a = subst (λ z. Agree z u) (sym e) (subst (λ z. Agree x z) (sym f) a)

abbrev LaterAgree : Settings → List CallId → Option LimitWhat → ScriptRun → List (List ℕ) → Type 0
LaterAgree s skips limit r texts = TellsOfNoSkip (printed_after s skips r texts).run → Agree (later_lines s skips limit r texts) (later_lines s [] limit r texts)

-- a line that was read
module _ (s : Settings) (skips : List CallId) (limit : Option LimitWhat) (r : ScriptRun) (text : List ℕ) (texts : List (List ℕ)) (rest : (next : ScriptRun) → LaterAgree s skips limit next texts)
    (line : Line) (read : line_of false r.run.members text ≡ Ok line) where
  abbrev o : Settings
  o = s

  abbrev next : ScriptRun
  next = after_line o skips r line

  printed_here : printed_after o skips r (text ∷ texts) ≡ printed_on o skips r texts line
  printed_here = ap (printed_at o skips r texts) read

  ran : (k : List CallId) → after_line o k r line ≡ next → later_lines s k limit r (text ∷ texts) ≡ continued s k limit texts r line next
  ran k same = later_line s k limit r text texts line read ∙ ap (continued s k limit texts r line) same

  given_up_there : next.run.full ≡ true → Agree (later_lines s skips limit r (text ∷ texts)) (later_lines s [] limit r (text ∷ texts))
  given_up_there full = inr (record {
    text = [];
    line = r.run.lines + 1;
    stops = ran skips refl ∙ rw full refl;
    stands = ((later_lines s [] limit r (text ∷ texts)).text, refl);
  })

  -- The run goes on, and the line asks nothing of the skips, nor does its text.
  same_line : TellsOfNoSkip next.run → after_line o [] r line ≡ next
  same_line none = sym (whole_line_none o skips r line none)

  same_text : TellsOfNoSkip next.run → line_text s [] r line next ≡ line_text s skips r line next
  same_text none = sym (text_none s skips r line next none)

  -- what the line gives, where this is its text
  abbrev shows : List CallId → List ℕ → Transcript
  shows k shown =
      if next.run.full then too_long (r.run.lines + 1) InFlight
      else if is_end line then (record { text = shown; ending = Ended })
      else following shown (later_lines s k limit next texts)

  ran_without : TellsOfNoSkip next.run → later_lines s [] limit r (text ∷ texts) ≡ shows [] (line_text s skips r line next)
  ran_without none = ran [] (same_line none) ∙ ap (shows []) (same_text none)

  ended_there : next.run.full ≡ false → is_end line ≡ true → LaterAgree s skips limit r (text ∷ texts)
  ended_there lasts ends none =
      let shown : printed_after o skips r (text ∷ texts) ≡ next = printed_here ∙ rw (lasts, ends) refl in
      let here = subst (λ (x : ScriptRun). TellsOfNoSkip x.run) shown none in
      let last : Transcript = record { text = line_text s skips r line next; ending = Ended } in
      agree_as _ _ last last (ran skips refl ∙ rw (lasts, ends) refl) (ran_without here ∙ rw (lasts, ends) refl) (inl refl)

  went_on : next.run.full ≡ false → is_end line ≡ false → LaterAgree s skips limit r (text ∷ texts)
  went_on lasts goes none =
      let shown : printed_after o skips r (text ∷ texts) ≡ printed_after o skips next texts = printed_here ∙ rw (lasts, goes) refl in
      let later = subst (λ (x : ScriptRun). TellsOfNoSkip x.run) shown none in
      let here = none_before next.run (printed_after o skips next texts).run (printed_grows o skips next texts) later in
      agree_as _ _
      (following (line_text s skips r line next) (later_lines s skips limit next texts))
      (following (line_text s skips r line next) (later_lines s [] limit next texts))
      (ran skips refl ∙ rw (lasts, goes) refl) (ran_without here ∙ rw (lasts, goes) refl)
      (agree_behind (line_text s skips r line next) (later_lines s skips limit next texts) (later_lines s [] limit next texts) (rest next later))

  by_end : next.run.full ≡ false → (b : Bool) → is_end line ≡ b → LaterAgree s skips limit r (text ∷ texts)
  by_end lasts true ends none = ended_there lasts ends none
  by_end lasts false goes none = went_on lasts goes none

  by_full : (b : Bool) → next.run.full ≡ b → LaterAgree s skips limit r (text ∷ texts)
  by_full true full none = given_up_there full
  by_full false lasts none = by_end lasts (is_end line) refl none

  line_agrees : LaterAgree s skips limit r (text ∷ texts)
  line_agrees none = by_full next.run.full refl none

later_agree : (s : Settings) (skips : List CallId) (limit : Option LimitWhat) (r : ScriptRun) (texts : List (List ℕ)) → LaterAgree s skips limit r texts
later_agree s skips limit r [] none = inl refl
later_agree s skips limit r (text ∷ texts) none = by_line (λ next. later_agree s skips limit next texts) (line_of false r.run.members text) refl none
  where
    by_line : ((next : ScriptRun) → LaterAgree s skips limit next texts) → (x : Result Line LineWhy) → line_of false r.run.members text ≡ x → LaterAgree s skips limit r (text ∷ texts)
    by_line rest (Err why) read none =
        let shown : (k : List CallId) → later_lines s k limit r (text ∷ texts) ≡ refused (r.run.lines + 1) why =
        λ k. ap (λ (x : Result Line LineWhy). elim x [ Err why ↦ refused (r.run.lines + 1) why | Ok l ↦ continued s k limit texts r l (after_line s k r l) ]) read in
        inl (shown skips ∙ sym (shown []))
    by_line rest (Ok line) read none = line_agrees s skips limit r text texts rest line read none

first_agree : (forms : List ProcessorForm) (skips : List CallId) (limit : Option LimitWhat) (texts : List (List ℕ)) → TellsOfNoSkip (printed_of forms skips texts).run
    → Agree (first_line forms skips limit texts) (first_line forms [] limit texts)
first_agree forms skips limit [] none = inl refl
first_agree forms skips limit (text ∷ texts) none = by_line (line_of true 0 text) refl
  where
    shown : (k : List CallId) (x : Result Line LineWhy) → line_of true 0 text ≡ x → first_line forms k limit (text ∷ texts) ≡ elim x [ Err why ↦ refused 1 why | Ok line ↦ after_first forms k limit texts line ]
    shown k x read = ap (λ (x : Result Line LineWhy). elim x [ Err why ↦ refused 1 why | Ok line ↦ after_first forms k limit texts line ]) read

    by_line : (x : Result Line LineWhy) → line_of true 0 text ≡ x → Agree (first_line forms skips limit (text ∷ texts)) (first_line forms [] limit (text ∷ texts))
    by_line (Err why) read = inl (shown skips _ read ∙ sym (shown [] _ read))
    by_line (Ok (Grid members backups capacity)) read =
        let s : Settings = settings forms capacity in
        let later = later_agree s skips limit (begun members backups) texts (subst (λ x. TellsOfNoSkip (printed_by_grid forms skips texts x).run) read none) in
        agree_as _ _ _ _ (shown skips _ read) (shown [] _ read) (agree_behind (ok_text 1) (later_lines s skips limit (begun members backups) texts) (later_lines s [] limit (begun members backups) texts) later)
    by_line (Ok line) read = inl (shown skips _ read ∙ sym (shown [] _ read))

pub every_transcript_that_tells_of_no_skip_has_none : EveryTranscriptThatTellsOfNoSkipHasNone
every_transcript_that_tells_of_no_skip_has_none forms skips script = first_agree forms skips (limit_of script) (lines_of script)
