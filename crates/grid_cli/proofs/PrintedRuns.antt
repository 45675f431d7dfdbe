-- Each message that a line appends stands in the line's text, and each line's text in the transcript.
use Rattle.std.proofs.Common.{◌≡◌, ℕ, Bool, true, false, cond, if◌then◌else◌, List, [], ◌∷◌, ◌++◌, Option, Result, Ok, Err, refl, ap, sym, ◌∙◌, subst, ◌⊎◌, ⊎_elim, inl, inr, append-nil}
use Rattle.grid_base.specs.declared.names.CallId.{CallId}
use Rattle.partition_protocol.proofs.Lists.{In, in_contains}
use Rattle.entry_processors.specs.Processors.{ProcessorForm}
use Rattle.call_engine.specs.Calls.{Settings}
use Rattle.call_engine.specs.Objects.{partition_object}
use Rattle.script_lang.specs.Lines.{line_of, is_end}
use Rattle.script_lang.specs.declared.line.Line.{Line}
use Rattle.script_lang.specs.declared.line.Line.TheVariants.{Grid, Arrive, Near, NearGet, NearFeed, Comment}
use Rattle.script_lang.specs.declared.refusal.LineWhy.{LineWhy}
use Rattle.replay_run.specs.Runs.{Appended}
use Rattle.replay_run.specs.Appending.{appended_text}
use Rattle.replay_run.specs.Printing.{ok_text, nothing_text}
use Rattle.masters_run.specs.Runs.{RuledRun}
use Rattle.masters_run.specs.AfterLines as ruled
use Rattle.masters_run.specs.Printing as ruled_text
use Rattle.masters_run.proofs.KeptLines.{bytes_after, comment_after}
use Rattle.script_run.specs.Runs.{ScriptRun, Look, Unmade, Hit, Miss, begun, ruled_of, can_begin, is_near_connection, look, asked_line}
use Rattle.script_run.specs.NearClients.{opening_of, get_sent}
use Rattle.script_run.specs.AfterLines as script
use Rattle.script_run.specs.Printing.{brought, look_text}
use Rattle.script_run.specs.Printing as script_text
use Rattle.grid_cli.specs.Scripts.{lines_of, limit_of}
use Rattle.grid_cli.specs.Transcripts.{Transcript, Ended, settings, first_line, later_lines, after_first, following, refused}
use Rattle.grid_cli.specs.PrintedRuns.{printed_after, printed_by_grid, printed_of, HasPart, EveryMessageIsPrinted}
use Rattle.grid_cli.specs.declared.status.LimitWhat.{LimitWhat}
use Rattle.grid_cli.proofs.Parts.{part_left, part_right, behind_outcome}
use Rattle.grid_cli.proofs.GridPrints.{sent_prints}
use Rattle.grid_cli.proofs.RuledPrints.{line_shows}
use Rattle.grid_cli.proofs.Progress.{continued, later_line}

-- the run that is printed after a line that was read
abbrev pub printed_on : Settings → List CallId → ScriptRun → List (List ℕ) → Line → ScriptRun
printed_on o skips r texts line =
    let next = script.after_line o skips r line in
    if next.run.full then r
    else if is_end line then next
    else printed_after o skips next texts

abbrev pub printed_at : Settings → List CallId → ScriptRun → List (List ℕ) → Result Line LineWhy → ScriptRun
printed_at o skips r texts read = elim read [ Err why ↦ r | Ok line ↦ printed_on o skips r texts line ]

-- a line of a script

abbrev IsShown : Settings → List CallId → ScriptRun → Line → ScriptRun → Appended → Type 0
IsShown s skips r line next m = In m next.run.appended → In m r.run.appended ⊎ HasPart (script_text.line_text s skips r line next) (appended_text m)

module _ (s : Settings) (skips : List CallId) (r : RuledRun) (m : Appended) where
  abbrev after : Line → RuledRun
  after line = ruled.after_line (partition_object s) skips r line

  -- with masters too a comment is nothing to the grid, and bytes that a near client sends are the grid's

  comment_prints : (text : List ℕ) → In m (after Comment).run.appended → In m r.run.appended ⊎ HasPart text (appended_text m)
  comment_prints text i = inl (subst (λ (x : RuledRun). In m x.run.appended) (comment_after (partition_object s) skips r) i)

  bytes_sent : (c : ℕ) (bytes : List ℕ) → let next = after (Arrive c bytes) in In m next.run.appended → In m r.run.appended ⊎ HasPart (brought s skips r.run c bytes next.run) (appended_text m)
  bytes_sent c bytes =
      subst (λ (x : RuledRun). In m x.run.appended → In m r.run.appended ⊎ HasPart (brought s skips r.run c bytes x.run) (appended_text m))
      (sym (bytes_after (partition_object s) skips r c bytes)) (sent_prints s skips r.run c bytes m)

  look_prints : (c : ℕ) (key : List ℕ) (found : Look) → let next = after (asked_line c key found) in
      In m next.run.appended → In m r.run.appended ⊎ HasPart (look_text s skips r.run c key next.run found) (appended_text m)
  look_prints c key Unmade i = comment_prints _ i
  look_prints c key (Hit n value) i = comment_prints _ i
  look_prints c key (Miss n) i = behind_outcome _ _ (appended_text m) (bytes_sent c (get_sent n key).request i)

  begin_prints : (c : ℕ) (name : List ℕ) (begins : Bool) → let next = after (cond begins (Arrive c (opening_of c name)) Comment) in
      In m next.run.appended → In m r.run.appended ⊎ HasPart (cond begins (ok_text next.run.lines ++ brought s skips r.run c (opening_of c name) next.run) (nothing_text next.run.lines)) (appended_text m)
  begin_prints c name true i = behind_outcome _ _ (appended_text m) (bytes_sent c (opening_of c name) i)
  begin_prints c name false i = comment_prints _ i

  bytes_print : (c : ℕ) (bytes : List ℕ) (near : Bool) → let next = after (cond near Comment (Arrive c bytes)) in
      In m next.run.appended → In m r.run.appended ⊎ HasPart (cond near (nothing_text next.run.lines) (ruled_text.line_text s skips r (Arrive c bytes) next)) (appended_text m)
  bytes_print c bytes true i = comment_prints _ i
  bytes_print c bytes false i = line_shows m s skips r (Arrive c bytes) i

script_prints : (s : Settings) (skips : List CallId) (r : ScriptRun) (line : Line) (m : Appended) → IsShown s skips r line (script.after_line s skips r line) m
script_prints s skips r (Near c name capacity) m i = begin_prints s skips (ruled_of r) m c name (can_begin r c name) i
script_prints s skips r (NearGet c key) m i = look_prints s skips (ruled_of r) m c key (look (partition_object s) r c key) i
script_prints s skips r (NearFeed c most) m i = comment_prints s skips (ruled_of r) m _ i
script_prints s skips r (Arrive c bytes) m i = bytes_print s skips (ruled_of r) m c bytes (is_near_connection r c) i
script_prints s skips r line m i = line_shows m s skips (ruled_of r) line i

-- lines

abbrev LaterPrint : Settings → List CallId → Option LimitWhat → Appended → ScriptRun → List (List ℕ) → Type 0
LaterPrint s skips limit m r texts = In m (printed_after s skips r texts).run.appended → In m r.run.appended ⊎ HasPart (later_lines s skips limit r texts).text (appended_text m)

module _ (s : Settings) (skips : List CallId) (limit : Option LimitWhat) (m : Appended) (r : ScriptRun) (text : List ℕ) (texts : List (List ℕ)) (rest : (next : ScriptRun) → LaterPrint s skips limit m next texts)
    (line : Line) (read : line_of false r.run.members text ≡ Ok line) where
  abbrev o : Settings
  o = s

  abbrev next : ScriptRun
  next = script.after_line o skips r line

  abbrev shown : Transcript
  shown = later_lines s skips limit r (text ∷ texts)

  printed_here : printed_after o skips r (text ∷ texts) ≡ printed_on o skips r texts line
  printed_here = ap (printed_at o skips r texts) read

  ran : shown ≡ continued s skips limit texts r line next
  ran = later_line s skips limit r text texts line read

  -- what the line appended, where its text begins what is shown
  on_line : (more : List ℕ) → shown.text ≡ script_text.line_text s skips r line next ++ more → In m next.run.appended → In m r.run.appended ⊎ HasPart shown.text (appended_text m)
  on_line more is i =
      ⊎_elim (λ j. inl j) (λ has. inr (subst (λ all. HasPart all (appended_text m)) (sym is) (part_left (script_text.line_text s skips r line next) more (appended_text m) has)))
      (script_prints s skips r line m i)

  given_up_there : next.run.full ≡ true → LaterPrint s skips limit m r (text ∷ texts)
  given_up_there full i =
      let printed : printed_after o skips r (text ∷ texts) ≡ r = printed_here ∙ rw full refl in
      inl (subst (λ (x : ScriptRun). In m x.run.appended) printed i)

  ended_there : next.run.full ≡ false → is_end line ≡ true → LaterPrint s skips limit m r (text ∷ texts)
  ended_there lasts ends i =
      let printed : printed_after o skips r (text ∷ texts) ≡ next = printed_here ∙ rw (lasts, ends) refl in
      let is : shown ≡ (record { text = script_text.line_text s skips r line next; ending = Ended }) = ran ∙ rw (lasts, ends) refl in
      on_line [] (ap (λ (t : Transcript). t.text) is ∙ sym (append-nil (script_text.line_text s skips r line next))) (subst (λ (x : ScriptRun). In m x.run.appended) printed i)

  went_on : next.run.full ≡ false → is_end line ≡ false → LaterPrint s skips limit m r (text ∷ texts)
  went_on lasts goes i =
      let later : Transcript = later_lines s skips limit next texts in
      let printed : printed_after o skips r (text ∷ texts) ≡ printed_after o skips next texts = printed_here ∙ rw (lasts, goes) refl in
      let is : shown ≡ following (script_text.line_text s skips r line next) later = ran ∙ rw (lasts, goes) refl in
      let is_text : shown.text ≡ script_text.line_text s skips r line next ++ later.text = ap (λ (t : Transcript). t.text) is in
      ⊎_elim (on_line later.text is_text)
      (λ has. inr (subst (λ all. HasPart all (appended_text m)) (sym is_text) (part_right (script_text.line_text s skips r line next) later.text (appended_text m) has)))
      (rest next (subst (λ (x : ScriptRun). In m x.run.appended) printed i))

  by_end : next.run.full ≡ false → (b : Bool) → is_end line ≡ b → LaterPrint s skips limit m r (text ∷ texts)
  by_end lasts true ends i = ended_there lasts ends i
  by_end lasts false goes i = went_on lasts goes i

  by_full : (b : Bool) → next.run.full ≡ b → LaterPrint s skips limit m r (text ∷ texts)
  by_full true full i = given_up_there full i
  by_full false lasts i = by_end lasts (is_end line) refl i

  read_prints : LaterPrint s skips limit m r (text ∷ texts)
  read_prints i = by_full next.run.full refl i

later_print : (s : Settings) (skips : List CallId) (limit : Option LimitWhat) (m : Appended) (r : ScriptRun) (texts : List (List ℕ)) → LaterPrint s skips limit m r texts
later_print s skips limit m r [] i = inl i
later_print s skips limit m r (text ∷ texts) i = by_line (λ next. later_print s skips limit m next texts) (line_of false r.run.members text) refl i
  where
    by_line : ((next : ScriptRun) → LaterPrint s skips limit m next texts) → (x : Result Line LineWhy) → line_of false r.run.members text ≡ x → LaterPrint s skips limit m r (text ∷ texts)
    by_line rest (Err why) read j = inl (subst (λ (x : ScriptRun). In m x.run.appended) (ap (printed_at s skips r texts) read) j)
    by_line rest (Ok line) read j = read_prints s skips limit m r text texts rest line read j

first_print : (forms : List ProcessorForm) (skips : List CallId) (limit : Option LimitWhat) (m : Appended) (texts : List (List ℕ)) → In m (printed_of forms skips texts).run.appended
    → HasPart (first_line forms skips limit texts).text (appended_text m)
first_print forms skips limit m [] i = absurd i
first_print forms skips limit m (text ∷ texts) i = by_line (line_of true 0 text) refl i
  where
    by_line : (x : Result Line LineWhy) → line_of true 0 text ≡ x → In m (printed_by_grid forms skips texts x).run.appended → HasPart (first_line forms skips limit (text ∷ texts)).text (appended_text m)
    by_line (Ok (Grid members backups capacity)) read j =
        let s : Settings = settings forms capacity in
        let later : Transcript = later_lines s skips limit (begun members backups) texts in
        let shown : first_line forms skips limit (text ∷ texts) ≡ following (ok_text 1) later = ap (λ (x : Result Line LineWhy). elim x [ Err why ↦ refused 1 why | Ok line ↦ after_first forms skips limit texts line ]) read in
        subst (λ (t : Transcript). HasPart t.text (appended_text m)) (sym shown)
        (part_right (ok_text 1) later.text (appended_text m) (⊎_elim (λ k. absurd k) (λ has. has) (later_print s skips limit m (begun members backups) texts j)))
    by_line (Err why) read j = absurd j
    by_line (Ok line) read j = absurd j

pub every_message_is_printed : EveryMessageIsPrinted
every_message_is_printed forms skips script m there = first_print forms skips (limit_of script) m (lines_of script) (in_contains m _ there)
