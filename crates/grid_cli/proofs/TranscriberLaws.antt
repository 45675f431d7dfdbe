-- What the code that runs lines has done, line by line.
use Rattle.std.proofs.Common.{◌≡◌, ℕ, ◌+◌, ◌≤◌, true, false, List, [], ◌∷◌, ◌++◌, length, map, Option, Some, None, Ok, Err, refl, ap, sym, ◌∙◌, subst, append-nil, append_assoc, take, drop}
use Rattle.std.proofs.lemmas.List.{take-append-drop}
use Rattle.std.specs.declared.alloc.Global.{Global}
use Rattle.std.specs.declared.dyn_box.DynBox.{DynBox}
use Rattle.partition_protocol.specs.Sequences.{IsFrontOf}
use Rattle.grid_base.specs.Objects.{Object}
use Rattle.grid_base.specs.declared.calls.Request.{Request}
use Rattle.grid_base.specs.declared.names.CallId.{CallId}
use Rattle.script_lang.specs.Lines.{line_of, is_end}
use Rattle.script_lang.specs.declared.line.Line.{Line}
use Rattle.script_lang.specs.declared.line.Line.TheVariants.{Grid as GridLine}
use Rattle.script_lang.specs.declared.refusal.LineWhy.{LineWhy}
use Rattle.script_lang.specs.declared.refusal.LineWhy.TheVariants.{NoEnd}
use Rattle.entry_processors.specs.Processors.{ProcessorForm}
use Rattle.object_store.specs.Partitions.{Partition}
use Rattle.call_engine.specs.Calls.{Settings}
use Rattle.call_engine.specs.Objects.{partition_object}
use Rattle.script_run.specs.Runs.{ScriptRun, begun, ruled_of, grid_line}
use Rattle.script_run.specs.AfterLines.{after_line}
use Rattle.replay_run.specs.Printing.{ok_text}
use Rattle.replay_run.specs.Grids.{FormOf}
use Rattle.script_run.specs.Grids.{Stands, IsGivenUp, HasRun as RanLine}
use Rattle.script_run.specs.declared.grid.ScriptGrid.{ScriptGrid}
use Rattle.grid_cli.specs.Transcripts.{Transcript, settings, Ending, Ended, Refused, TooLong, first_line, later_lines, following, stopped, refused, refused_text, limit_text}
use Rattle.grid_cli.specs.Statuses.{whole}
use Rattle.grid_cli.specs.Progress.{IsAt}
use Rattle.grid_cli.specs.Transcribing.{HasRun, HasRunNone, Follows, RanAs, Continues}
use Rattle.grid_cli.specs.declared.status.LimitWhat.{LimitWhat}
use Rattle.grid_cli.specs.declared.status.LimitWhat.TheVariants.{InFlight}
use Rattle.grid_cli.specs.declared.transcriber.Stage.{Stage}
use Rattle.grid_cli.specs.declared.transcriber.Stage.TheVariants.{Waiting, Running}
use Rattle.grid_cli.specs.declared.transcriber.Ran.{Ran}
use Rattle.grid_cli.specs.declared.transcriber.Ran.TheVariants.{Goes, Ended as IsEnded, Refused as IsRefused, GivenUp}
use Rattle.grid_cli.proofs.Members.{members_stay}
use Rattle.grid_cli.proofs.Progress.{at_first, at_next, at_end, at_given_up, at_refused, at_stop}

-- a line that was read, and then ran
module _ {V : Type 0} {T : V → Type 0} {form : FormOf V T} {forms : List ProcessorForm} (old new : ScriptGrid V T) (skips : List CallId) (done : List (List ℕ)) (written text added : List ℕ) (follows : HasRun form forms old skips done written)
    (line : Line) (read : line_of false follows.run.run.members text ≡ Ok line) (ran : RanLine form (settings forms follows.capacity) new follows.run line [] added) where
  abbrev by : Settings
  by = settings forms follows.capacity

  abbrev o : Object Request Partition
  o = partition_object by

  pub line_goes : is_end line ≡ false → RanAs form forms Goes (Running new) skips done text written added
  line_goes going =
      let r : ScriptRun = follows.run in
      let next : ScriptRun = after_line by ran.skips r line in (
        ran.skips,
        record {
          capacity = follows.capacity;
          run = next;
          stands = ran.stands;
          few = subst (λ n. n ≤ 8) (sym (members_stay o ran.skips (ruled_of r) (grid_line o r line))) follows.few;
          at = subst (λ t. IsAt forms follows.capacity next (ran.skips ++ skips) (done ++ text ∷ []) (written ++ t)) (sym ran.added)
              (at_next forms follows.capacity r skips done written text follows.at line read ran.skips ran.of_line next refl follows.stands.goes.grid.grid.run ran.stands.goes.grid.grid.holds.goes_on going);
        },
      )

  pub line_ends : is_end line ≡ true → RanAs form forms IsEnded (Running new) skips done text written added
  line_ends ending =
      let r : ScriptRun = follows.run in
      let next : ScriptRun = after_line by ran.skips r line in (
        ran.skips,
        λ limit texts.
            at_end forms follows.capacity r skips done written text follows.at line read ran.skips ran.of_line next refl follows.stands.goes.grid.grid.run ran.stands.goes.grid.grid.holds.goes_on ending limit texts
            ∙ ap (λ t. whole (written ++ t) Ended) (sym ran.added),
      )

-- a line that was read, and at which the run is given up
pub line_given_up : {V : Type 0} {T : V → Type 0} {form : FormOf V T} {forms : List ProcessorForm} (old : ScriptGrid V T) (new : Stage V T) (skips : List CallId) (done : List (List ℕ)) (written text added : List ℕ) (number : ℕ) (follows : HasRun form forms old skips done written)
    (line : Line) → line_of false follows.run.run.members text ≡ Ok line → IsGivenUp (settings forms follows.capacity) follows.run line → number ≡ follows.run.run.lines + 1 → added ≡ limit_text number InFlight
    → RanAs form forms GivenUp new skips done text written added
line_given_up {forms = forms} old new skips done written text added number follows line read given counted shown = (
  given.skips,
  λ limit texts. (
    number,
    at_given_up forms follows.capacity follows.run skips done written text follows.at line read given.skips given.of_line (after_line (settings forms follows.capacity) given.skips follows.run line) refl
        follows.stands.goes.grid.grid.run given.full limit texts
        ∙ ap (λ n. whole (written ++ limit_text n InFlight) (TooLong n InFlight)) (sym counted)
        ∙ ap (λ t. whole (written ++ t) (TooLong number InFlight)) (sym shown),
  ),
)

-- a line that ran where no text was left before
pub from_nothing : {V : Type 0} {T : V → Type 0} {form : FormOf V T} {s : Settings} {new : ScriptGrid V T} {r : ScriptRun} {line : Line} {had added : List ℕ} → had ≡ [] → RanLine form s new r line had added → RanLine form s new r line [] added
from_nothing {form = form} {s = s} {new = new} {r = r} {line = line} {added = added} none ran = subst (λ t. RanLine form s new r line t added) none ran

-- a line that isn't read
pub line_refused : {V : Type 0} {T : V → Type 0} {form : FormOf V T} {forms : List ProcessorForm} (old : ScriptGrid V T) (new : Stage V T) (skips : List CallId) (done : List (List ℕ)) (written text added : List ℕ) (number : ℕ) (why : LineWhy)
    (follows : HasRun form forms old skips done written) → line_of false follows.run.run.members text ≡ Err why → number ≡ follows.run.run.lines + 1 → added ≡ refused_text number why
    → RanAs form forms (IsRefused number why) new skips done text written added
line_refused {forms = forms} old new skips done written text added number why follows read counted shown limit texts =
    at_refused forms follows.capacity follows.run skips done written text follows.at why read limit texts
    ∙ ap (λ n. following written (refused n why)) (sym counted)
    ∙ ap (λ t. whole (written ++ t) (Refused number why)) (sym shown)

-- the first line
pub first_goes : {V : Type 0} {T : V → Type 0} {form : FormOf V T} {forms : List ProcessorForm} (grid : ScriptGrid V T) (processors : List (DynBox V Global T)) (skips : List CallId) (done : List (List ℕ)) (written text added : List ℕ) (members backups capacity : ℕ)
    → HasRunNone form forms processors skips done written → line_of true 0 text ≡ Ok (GridLine members backups capacity) → members ≤ 8
    → Stands form (settings (map form processors) capacity) grid (begun members backups) → added ≡ ok_text 1 → RanAs form forms Goes (Running grid) skips done text written added
first_goes {form = form} {forms = forms} grid processors skips done written text added members backups capacity follows read few stands shown = (
  [],
  record {
    capacity = capacity;
    run = begun members backups;
    stands = subst (λ fs. Stands form (settings fs capacity) grid (begun members backups)) follows.waits stands;
    few = few;
    at =
        let P : List CallId → List (List ℕ) → List ℕ → Type 0 = λ s d t. IsAt forms capacity (begun members backups) s (d ++ text ∷ []) t in
        subst (λ s. P s done (written ++ added)) (sym follows.no_skips)
        (subst (λ d. P [] d (written ++ added)) (sym follows.no_lines)
        (subst (λ t. P [] [] t) (sym (ap (λ t. t ++ added) follows.no_text ∙ shown)) (at_first forms text members backups capacity read)));
  },
)

pub first_refused : {V : Type 0} {T : V → Type 0} {form : FormOf V T} {forms : List ProcessorForm} (new : Stage V T) (processors : List (DynBox V Global T)) (skips : List CallId) (done : List (List ℕ)) (written text added : List ℕ) (why : LineWhy)
    → HasRunNone form forms processors skips done written
    → ((s : List CallId) (limit : Option LimitWhat) (texts : List (List ℕ)) → first_line (map form processors) s limit (text ∷ texts) ≡ refused 1 why)
    → added ≡ refused_text 1 why → RanAs form forms (IsRefused 1 why) new skips done text written added
first_refused {forms = forms} new processors skips done written text added why follows refuses shown limit texts =
    ap (λ d. first_line forms skips limit (d ++ text ∷ texts)) follows.no_lines
    ∙ subst (λ fs. first_line fs skips limit (text ∷ texts) ≡ refused 1 why) follows.waits (refuses skips limit texts)
    ∙ sym (ap (λ t. whole t (Refused 1 why)) (ap (λ w. w ++ added) follows.no_text ∙ shown))

-- where no text of a line is written

front_of_whole : (text : List ℕ) (e : Ending) (t : Transcript) → t ≡ whole text e → IsFrontOf text t.text
front_of_whole text e t is = ([], append-nil text ∙ sym (ap (λ (u : Transcript). u.text) is))

front_of_following : (text : List ℕ) (rest t : Transcript) → t ≡ following text rest → IsFrontOf text t.text
front_of_following text rest t is = (rest.text, sym (ap (λ (u : Transcript). u.text) is))

-- a front of a front
front_taken : (written added text : List ℕ) (n : ℕ) → IsFrontOf (written ++ added) text → IsFrontOf (written ++ take n added) text
front_taken written added text n front = (
  drop n added ++ front.0,
  append_assoc written (take n added) (drop n added ++ front.0)
      ∙ ap (λ x. written ++ x) (sym (append_assoc (take n added) (drop n added) front.0) ∙ ap (λ x. x ++ front.0) (take-append-drop n added))
      ∙ sym (append_assoc written added front.0) ∙ front.1,
)

-- the stage that the code took out
pub took_out : {V : Type 0} {T : V → Type 0} (form : FormOf V T) (forms : List ProcessorForm) (stage taken : Stage V T) (skips : List CallId) (done : List (List ℕ)) (written : List ℕ) → stage ≡ taken
    → Follows form forms stage skips done written → Follows form forms taken skips done written
took_out form forms stage taken skips done written is follows = subst (λ s. Follows form forms s skips done written) is follows

pub ran_so : {V : Type 0} {T : V → Type 0} (form : FormOf V T) (forms : List ProcessorForm) (ran other : Ran) (stage : Stage V T) (skips : List CallId) (done : List (List ℕ)) (written text added : List ℕ) → ran ≡ other
    → RanAs form forms other stage skips done text written added → RanAs form forms ran stage skips done text written added
ran_so form forms ran other stage skips done written text added is h = subst (λ r. RanAs form forms r stage skips done text written added) (sym is) h

-- What was written begins the transcript, whatever lines follow.
pub begins_transcript : {V : Type 0} {T : V → Type 0} (form : FormOf V T) (forms : List ProcessorForm) (stage : Stage V T) (skips : List CallId) (done : List (List ℕ)) (written : List ℕ) → Follows form forms stage skips done written → (limit : Option LimitWhat) (texts : List (List ℕ))
    → IsFrontOf written (first_line forms skips limit (done ++ texts)).text
begins_transcript form forms (Waiting processors) skips done written follows limit texts =
    (t.text, ap (λ w. w ++ t.text) follows.no_text)
  where
    t : Transcript
    t = first_line forms skips limit (done ++ texts)
begins_transcript form forms (Running grid) skips done written follows limit texts =
    front_of_following written (later_lines (settings forms follows.capacity) skips limit follows.run texts) _ (follows.at.goes_on skips (λ a c. refl) limit texts)

pub stops_at_once : {V : Type 0} {T : V → Type 0} (form : FormOf V T) (forms : List ProcessorForm) (stage : Stage V T) (skips : List CallId) (done : List (List ℕ)) (written text : List ℕ) → Follows form forms stage skips done written
    → Continues forms skips done text (λ t. IsFrontOf (written ++ []) t.text)
stops_at_once form forms stage skips done written text follows =
    subst (λ w. Continues forms skips done text (λ t. IsFrontOf w t.text)) (sym (append-nil written)) (λ limit texts. begins_transcript form forms stage skips done written follows limit (text ∷ texts))

-- where a front of it is written
pub stops_in_text : {V : Type 0} {T : V → Type 0} (form : FormOf V T) (forms : List ProcessorForm) (ran : Ran) (stage : Stage V T) (skips : List CallId) (done : List (List ℕ)) (written text added : List ℕ) (n : ℕ) → RanAs form forms ran stage skips done text written added
    → (more : List CallId) × Continues forms (more ++ skips) done text (λ t. IsFrontOf (written ++ take n added) t.text)
stops_in_text form forms Goes stage skips done written text added n h = (
  h.0,
  λ limit texts.
      front_taken written added _ n
      (subst (λ lines. IsFrontOf (written ++ added) (first_line forms (h.0 ++ skips) limit lines).text) (append_assoc done (text ∷ []) texts)
      (begins_transcript form forms stage (h.0 ++ skips) (done ++ text ∷ []) (written ++ added) h.1 limit texts)),
)
stops_in_text form forms IsEnded stage skips done written text added n h = (h.0, λ limit texts. front_taken written added _ n (front_of_whole (written ++ added) Ended _ (h.1 limit texts)))
stops_in_text form forms (IsRefused line why) stage skips done written text added n h = ([], λ limit texts. front_taken written added _ n (front_of_whole (written ++ added) (Refused line why) _ (h limit texts)))
stops_in_text form forms GivenUp stage skips done written text added n h = (h.0, λ limit texts. let t = h.1 limit texts in front_taken written added _ n (front_of_whole (written ++ added) (TooLong t.0 InFlight) _ t.1))

-- where the lines stop

pub stop_of_lines : {V : Type 0} {T : V → Type 0} (form : FormOf V T) (forms : List ProcessorForm) (stage : Stage V T) (skips : List CallId) (done : List (List ℕ)) (written : List ℕ) → Follows form forms stage skips done written → (limit : Option LimitWhat)
    → first_line forms skips limit done ≡ following written (stopped limit (length done))
stop_of_lines form forms (Waiting processors) skips done written follows limit =
    ap (first_line forms skips limit) follows.no_lines
    ∙ ap (λ w. following w (stopped limit 0)) (sym follows.no_text)
    ∙ ap (λ n. following written (stopped limit n)) (sym (ap length follows.no_lines))
stop_of_lines form forms (Running grid) skips done written follows limit = at_stop forms follows.capacity follows.run skips done written follows.at limit

pub end_refused : {V : Type 0} {T : V → Type 0} (form : FormOf V T) (forms : List ProcessorForm) (stage : Stage V T) (skips : List CallId) (done : List (List ℕ)) (written text : List ℕ) (line : ℕ) → Follows form forms stage skips done written → line ≡ length done
    → text ≡ refused_text line NoEnd → first_line forms skips None done ≡ whole (written ++ text) (Refused line NoEnd)
end_refused form forms stage skips done written text line follows counted shown =
    stop_of_lines form forms stage skips done written follows None
    ∙ ap (λ n. following written (stopped None n)) (sym counted)
    ∙ ap (λ t. whole (written ++ t) (Refused line NoEnd)) (sym shown)

pub limit_passed : {V : Type 0} {T : V → Type 0} (form : FormOf V T) (forms : List ProcessorForm) (what : LimitWhat) (stage : Stage V T) (skips : List CallId) (done : List (List ℕ)) (written text : List ℕ) (line : ℕ) → Follows form forms stage skips done written → line ≡ length done + 1
    → text ≡ limit_text line what → first_line forms skips (Some what) done ≡ whole (written ++ text) (TooLong line what)
limit_passed form forms what stage skips done written text line follows counted shown =
    stop_of_lines form forms stage skips done written follows (Some what)
    ∙ ap (λ n. following written (record { text = limit_text n what; ending = TooLong n what })) (sym counted)
    ∙ ap (λ t. whole (written ++ t) (TooLong line what)) (sym shown)

pub front_written : (written text : List ℕ) (e : Ending) (t : Transcript) (n : ℕ) → t ≡ whole (written ++ text) e → IsFrontOf (written ++ take n text) t.text
front_written written text e t n is = front_taken written text t.text n (front_of_whole (written ++ text) e t is)

pub nothing_written : {V : Type 0} {T : V → Type 0} (form : FormOf V T) (forms : List ProcessorForm) (stage : Stage V T) (skips : List CallId) (done : List (List ℕ)) (written : List ℕ) → Follows form forms stage skips done written → (limit : Option LimitWhat)
    → IsFrontOf (written ++ []) (first_line forms skips limit done).text
nothing_written form forms stage skips done written follows limit =
    subst (λ w. IsFrontOf w (first_line forms skips limit done).text) (sym (append-nil written))
    (front_of_following written (stopped limit (length done)) _ (stop_of_lines form forms stage skips done written follows limit))
