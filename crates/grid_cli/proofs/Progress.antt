-- Running a script line by line: what each line adds to what was written, and how the run ends.
use Rattle.std.proofs.Common.{◌≡◌, ◌≢◌, ℕ, ◌+◌, Bool, true, false, ◌||◌, if◌then◌else◌, List, [], ◌∷◌, ◌++◌, length, Option, Result, Ok, Err, refl, ap, sym, ◌∙◌, subst, ⊎_elim, append_assoc, append-nil, length-append}
use Rattle.std.specs.Prelude.{Contains}
use Rattle.grid_base.specs.declared.names.CallId.{CallId}
use Rattle.partition_protocol.proofs.Lists.{In, in_contains, contains_in, in_cases, in_left, in_right}
use Rattle.script_lang.specs.Lines.{line_of, is_end}
use Rattle.grid_base.specs.Objects.{Object}
use Rattle.grid_base.specs.declared.calls.Request.{Request}
use Rattle.entry_processors.specs.Processors.{ProcessorForm}
use Rattle.object_store.specs.Partitions.{Partition}
use Rattle.call_engine.specs.Calls.{Settings}
use Rattle.call_engine.specs.Objects.{partition_object}
use Rattle.replay_run.specs.Runs.{Arrival, is_skipped}
use Rattle.replay_run.specs.Printing.{ok_text}
use Rattle.masters_run.specs.Grids.{AreOfLine}
use Rattle.masters_run.proofs.RuledRuns.{masters_run}
use Rattle.script_run.specs.Runs.{ScriptRun, begun, ruled_of, grid_line}
use Rattle.script_run.specs.AfterLines.{after_line}
use Rattle.script_run.specs.Printing.{line_text}
use Rattle.script_run.proofs.ScriptLaws.{whole_line_alike, whole_line_grows, text_alike}
use Rattle.replay_run.specs.Endings.{AreAmong, new_arrivals}
use Rattle.replay_run.specs.ScriptRuns.{IsRun}
use Rattle.replay_run.specs.Skips.{AgreeOn}
use Rattle.grid_cli.specs.Transcripts.{Transcript, settings, Ended, TooLong, first_line, later_lines, after_first, following, stopped, refused, limit_text, too_long}
use Rattle.grid_cli.specs.Statuses.{whole}
use Rattle.grid_cli.specs.Progress.{IsAt, run_after, run_of, begun_by, capacity_by, capacity_of}
use Rattle.script_lang.specs.declared.line.Line.{Line}
use Rattle.script_lang.specs.declared.line.Line.TheVariants.{Grid}
use Rattle.script_lang.specs.declared.refusal.LineWhy.{LineWhy}
use Rattle.grid_cli.specs.declared.status.LimitWhat.{LimitWhat}
use Rattle.grid_cli.specs.declared.status.LimitWhat.TheVariants.{InFlight}
use Rattle.replay_run.proofs.Fresh.{calls_are_new}
use Rattle.replay_run.proofs.Growing.{Grows}
use Rattle.replay_run.proofs.LineCounts.{IsCounted}
use Rattle.replay_run.proofs.SkipLaws.{new_of, skipped_by_either, not_skipped, unless_same}
use Rattle.grid_cli.proofs.Members.{ruled_line_counted}

following-following : (a b : List ℕ) (t : Transcript) → following a (following b t) ≡ following (a ++ b) t
following-following a b t = ap (λ text. record { text = text; ending = t.ending }) (sym (append_assoc a b t.text))

nothing_in : {X : Type 0} (x : X) → Contains [] x → ⊥
nothing_in x c = in_contains x [] c

or_false : (b : Bool) → (b || false) ≡ b
or_false true = refl
or_false false = refl

-- the first line makes the grid
pub at_first : (forms : List ProcessorForm) (text : List ℕ) (members backups capacity : ℕ) → line_of true 0 text ≡ Ok (Grid members backups capacity)
    → IsAt forms capacity (begun members backups) [] (text ∷ []) (ok_text 1)
at_first forms text members backups capacity e = record {
  goes_on = λ s agree limit texts. ap (λ (x : Result Line LineWhy). elim x [ Err why ↦ refused 1 why | Ok line ↦ after_first forms s limit texts line ]) e;
  runs = λ s agree texts. ap (λ line. run_after (settings forms (capacity_by line)) s (begun_by line) texts) e;
  keeps = λ texts. ap capacity_by e;
  skipped = λ id c. absurd (nothing_in id c);
  count = refl;
}

-- a first line that isn't read, or makes no grid, is refused
pub refused_first : (forms : List ProcessorForm) (text : List ℕ) (why : LineWhy) → line_of true 0 text ≡ Err why → (s : List CallId) (limit : Option LimitWhat) (texts : List (List ℕ))
    → first_line forms s limit (text ∷ texts) ≡ refused 1 why
refused_first forms text why e s limit texts = ap (λ (x : Result Line LineWhy). elim x [ Err why ↦ refused 1 why | Ok line ↦ after_first forms s limit texts line ]) e

-- what a line that was read gives, and the lines behind it
abbrev pub continued : Settings → List CallId → Option LimitWhat → List (List ℕ) → ScriptRun → Line → ScriptRun → Transcript
continued s k limit texts r line next =
    if next.run.full then too_long (r.run.lines + 1) InFlight
    else if is_end line then (record { text = line_text s k r line next; ending = Ended })
    else following (line_text s k r line next) (later_lines s k limit next texts)

pub later_line : (s : Settings) (k : List CallId) (limit : Option LimitWhat) (r : ScriptRun) (text : List ℕ) (texts : List (List ℕ)) (line : Line) → line_of false r.run.members text ≡ Ok line
    → later_lines s k limit r (text ∷ texts) ≡ continued s k limit texts r line (after_line s k r line)
later_line s k limit r text texts line read =
    ap (λ (x : Result Line LineWhy). elim x [ Err why ↦ refused (r.run.lines + 1) why | Ok l ↦ continued s k limit texts r l (after_line s k r l) ]) read

pub run_line : (o : Settings) (s : List CallId) (r : ScriptRun) (text : List ℕ) (texts : List (List ℕ)) (line : Line) → line_of false r.run.members text ≡ Ok line
    → run_after o s r (text ∷ texts) ≡ run_after o s (after_line o s r line) texts
run_line o s r text texts line read = ap (λ (x : Result Line LineWhy). elim x [ Err why ↦ r | Ok l ↦ run_after o s (after_line o s r l) texts ]) read

module _ (forms : List ProcessorForm) (capacity : ℕ) (r : ScriptRun) (skips : List CallId) (done : List (List ℕ)) (written text : List ℕ) (at : IsAt forms capacity r skips done written)
    (line : Line) (read : line_of false r.run.members text ≡ Ok line)
    (k : List CallId) (of_line : AreOfLine (settings forms capacity) (ruled_of r) (grid_line (partition_object (settings forms capacity)) r line) k) (next : ScriptRun) (after : after_line (settings forms capacity) k r line ≡ next)
    (is : IsRun (partition_object (settings forms capacity)) r.run) where
  abbrev by : Settings
  by = settings forms capacity

  abbrev o : Object Request Partition
  o = partition_object by

  abbrev asked : Line
  asked = grid_line o r line

  -- the calls that come to their end at the line
  abbrev come : List Arrival
  come = new_arrivals r.run next.run

  grows : Grows r.run next.run
  grows = subst (λ (x : ScriptRun). Grows r.run x.run) after (whole_line_grows by k r line)

  next_is : IsRun o next.run
  next_is = subst (λ (x : ScriptRun). IsRun o x.run) after (masters_run k (ruled_of r) is asked)

  counts : IsCounted r.run next.run
  counts = subst (λ (x : ScriptRun). IsCounted r.run x.run) after (ruled_line_counted o k (ruled_of r) asked)

  all_arrivals : r.run.arrivals ++ come ≡ next.run.arrivals
  all_arrivals = ap (λ xs. r.run.arrivals ++ xs) (new_of r.run next.run grows.arrivals) ∙ grows.arrivals.1

  own : AreAmong come k
  own = subst (λ (x : ScriptRun). AreAmong (new_arrivals r.run x.run) k) after of_line

  apart : (b a : Arrival) → In b r.run.arrivals → In a come → b.request.id ≢ a.request.id
  apart b a i j = calls_are_new r.run next.run next_is grows.arrivals b a i j

  stays : (a : Arrival) → In a r.run.arrivals → Contains next.run.arrivals a
  stays a i = contains_in a next.run.arrivals (subst (In a) all_arrivals (in_left a r.run.arrivals come i))

  comes : (a : Arrival) → In a come → Contains next.run.arrivals a
  comes a i = contains_in a next.run.arrivals (subst (In a) all_arrivals (in_right a r.run.arrivals come i))

  -- those that had come to their end are skipped or not as before
  before_line : (a : Arrival) → In a r.run.arrivals → is_skipped (k ++ skips) a.request.id ≡ is_skipped skips a.request.id
  before_line a i =
      skipped_by_either k skips a.request.id ∙ ap (λ b. b || is_skipped skips a.request.id)
      (not_skipped k a.request.id (λ x j. let b = own x (contains_in x k j) in unless_same a.request.id x (λ e. apart a b.0 i (in_contains b.0 come b.1) (e ∙ sym b.2))))

  -- and those that do so at the line by its own skips
  its_calls : (a : Arrival) → In a come → is_skipped (k ++ skips) a.request.id ≡ is_skipped k a.request.id
  its_calls a i =
      skipped_by_either k skips a.request.id ∙ ap (λ b. is_skipped k a.request.id || b)
      (not_skipped skips a.request.id (λ x j. let b = at.skipped x (contains_in x skips j) in unless_same a.request.id x (λ e. apart b.0 a (in_contains b.0 r.run.arrivals b.1) i (b.2 ∙ sym e))))
      ∙ or_false (is_skipped k a.request.id)

  agree_before : (s : List CallId) → AgreeOn next.run.arrivals s (k ++ skips) → AgreeOn r.run.arrivals s skips
  agree_before s agree a c = let i = in_contains a r.run.arrivals c in agree a (stays a i) ∙ before_line a i

  agree_here : (s : List CallId) → AgreeOn next.run.arrivals s (k ++ skips) → AgreeOn (new_arrivals r.run (after_line by k r line).run) k s
  agree_here s agree = subst (λ (x : ScriptRun). AgreeOn (new_arrivals r.run x.run) k s) (sym after)
      (λ a c. let i = in_contains a come c in sym (agree a (comes a i) ∙ its_calls a i))

  runs_alike : (s : List CallId) → AgreeOn next.run.arrivals s (k ++ skips) → after_line by s r line ≡ next
  runs_alike s agree = sym (whole_line_alike by k s r line (agree_here s agree)) ∙ after

  same_text : (s : List CallId) → AgreeOn next.run.arrivals s (k ++ skips) → line_text by s r line next ≡ line_text by k r line next
  same_text s agree = sym (text_alike by k s r line next (agree_here s agree))

  -- what a line gives, where this is its text
  abbrev told : List CallId → Option LimitWhat → List (List ℕ) → List ℕ → Transcript
  told s limit texts shown =
      if next.run.full then too_long (r.run.lines + 1) InFlight
      else if is_end line then (record { text = shown; ending = Ended })
      else following shown (later_lines by s limit next texts)

  line_ran : (s : List CallId) → AgreeOn next.run.arrivals s (k ++ skips) → (limit : Option LimitWhat) (texts : List (List ℕ))
      → later_lines by s limit r (text ∷ texts) ≡ told s limit texts (line_text by k r line next)
  line_ran s agree limit texts =
      later_line by s limit r text texts line read
      ∙ ap (continued by s limit texts r line) (runs_alike s agree)
      ∙ ap (told s limit texts) (same_text s agree)

  -- a line that isn't the last leads on, where the run isn't given up
  pub at_next : next.run.full ≡ false → is_end line ≡ false → IsAt forms capacity next (k ++ skips) (done ++ text ∷ []) (written ++ line_text by k r line next)
  at_next lasts going = record {
    goes_on = λ s agree limit texts.
        ap (first_line forms s limit) (append_assoc done (text ∷ []) texts)
        ∙ at.goes_on s (agree_before s agree) limit (text ∷ texts)
        ∙ ap (following written) (line_ran s agree limit texts ∙ on_going s limit texts)
        ∙ following-following written (line_text by k r line next) (later_lines by s limit next texts);
    runs = λ s agree texts.
        ap (run_of forms s) (append_assoc done (text ∷ []) texts)
        ∙ at.runs s (agree_before s agree) (text ∷ texts)
        ∙ run_line by s r text texts line read
        ∙ ap (λ x. run_after by s x texts) (runs_alike s agree);
    keeps = λ texts. ap capacity_of (append_assoc done (text ∷ []) texts) ∙ at.keeps (text ∷ texts);
    skipped = λ id c. ⊎_elim
        (λ i. let a = own id (contains_in id k i) in (a.0, comes a.0 (in_contains a.0 come a.1), a.2))
        (λ i. let a = at.skipped id (contains_in id skips i) in (a.0, stays a.0 (in_contains a.0 r.run.arrivals a.1), a.2))
        (in_cases id k skips (in_contains id (k ++ skips) c));
    count = counts.lines ∙ ap (λ n. n + 1) at.count ∙ sym (length-append done (text ∷ []));
  }
    where
      on_going : (s : List CallId) (limit : Option LimitWhat) (texts : List (List ℕ)) → told s limit texts (line_text by k r line next) ≡ following (line_text by k r line next) (later_lines by s limit next texts)
      on_going s limit texts = rw (lasts, going) refl

  agree_itself : AgreeOn next.run.arrivals (k ++ skips) (k ++ skips)
  agree_itself a c = refl

  -- where the run stops at the line
  stops_so : (limit : Option LimitWhat) (texts : List (List ℕ)) (t : Transcript) → told (k ++ skips) limit texts (line_text by k r line next) ≡ t
      → first_line forms (k ++ skips) limit (done ++ text ∷ texts) ≡ following written t
  stops_so limit texts t so =
      at.goes_on (k ++ skips) (agree_before (k ++ skips) agree_itself) limit (text ∷ texts)
      ∙ ap (following written) (line_ran (k ++ skips) agree_itself limit texts ∙ so)

  -- the line `end` ends the run
  pub at_end : next.run.full ≡ false → is_end line ≡ true → (limit : Option LimitWhat) (texts : List (List ℕ))
      → first_line forms (k ++ skips) limit (done ++ text ∷ texts) ≡ whole (written ++ line_text by k r line next) Ended
  at_end lasts ending limit texts = stops_so limit texts (whole (line_text by k r line next) Ended) (rw (lasts, ending) refl)

  -- a line at which the run is given up
  pub at_given_up : next.run.full ≡ true → (limit : Option LimitWhat) (texts : List (List ℕ))
      → first_line forms (k ++ skips) limit (done ++ text ∷ texts) ≡ whole (written ++ limit_text (r.run.lines + 1) InFlight) (TooLong (r.run.lines + 1) InFlight)
  at_given_up full limit texts = stops_so limit texts (too_long (r.run.lines + 1) InFlight) (rw full refl)

agree_with_itself : (come : List Arrival) (skips : List CallId) → AgreeOn come skips skips
agree_with_itself come skips a c = refl

-- a line that isn't read is refused
pub at_refused : (forms : List ProcessorForm) (capacity : ℕ) (r : ScriptRun) (skips : List CallId) (done : List (List ℕ)) (written text : List ℕ) → IsAt forms capacity r skips done written → (why : LineWhy) → line_of false r.run.members text ≡ Err why
    → (limit : Option LimitWhat) (texts : List (List ℕ)) → first_line forms skips limit (done ++ text ∷ texts) ≡ following written (refused (r.run.lines + 1) why)
at_refused forms capacity r skips done written text at why read limit texts =
    at.goes_on skips (agree_with_itself r.run.arrivals skips) limit (text ∷ texts)
    ∙ ap (following written) (ap (λ (x : Result Line LineWhy). elim x [ Err why ↦ refused (r.run.lines + 1) why | Ok l ↦ continued (settings forms capacity) skips limit texts r l (after_line (settings forms capacity) skips r l) ]) read)

-- where the lines stop
pub at_stop : (forms : List ProcessorForm) (capacity : ℕ) (r : ScriptRun) (skips : List CallId) (done : List (List ℕ)) (written : List ℕ) → IsAt forms capacity r skips done written → (limit : Option LimitWhat)
    → first_line forms skips limit done ≡ following written (stopped limit (length done))
at_stop forms capacity r skips done written at limit =
    ap (first_line forms skips limit) (sym (append-nil done))
    ∙ at.goes_on skips (agree_with_itself r.run.arrivals skips) limit []
    ∙ ap (λ n. following written (stopped limit n)) at.count
