-- Running the lines of a script on a grid, one after the other.
use Rattle.std.proofs.Common.{◌≡◌, ℕ, ◌+◌, ◌<◌, ◌≤◌, false, List, [], ◌∷◌, ◌++◌, length, map, take, drop, Ok, refl, ap, sym, ◌∙◌, subst, append-nil, append_assoc, arith, length-append}
use Rattle.std.proofs.lemmas.List.Elements.{All-head, All-tail}
use Rattle.grid_base.specs.declared.names.CallId.{CallId}
use Rattle.grid_base.specs.Objects.{Object}
use Rattle.grid_base.specs.declared.calls.Request.{Request}
use Rattle.object_store.specs.Partitions.{Partition}
use Rattle.call_engine.specs.Objects.{partition_object}
use Rattle.memchr.specs.Find.{Nowhere, NoneBefore, Passes, is_byte}
use Rattle.script_lang.specs.Limits.{most_lines}
use Rattle.script_lang.specs.Lines.{line_of, IsWithin}
use Rattle.script_lang.specs.Spelling.{spelled}
use Rattle.script_lang.specs.Words.{newline, whole_lines}
use Rattle.script_lang.specs.declared.line.Line.{Line}
use Rattle.replay_run.specs.declared.grid.Grid.{Grid}
use Rattle.replay_run.specs.Runs.{Run, begun}
use Rattle.line_told.specs.declared.told.Ready.{Ready}
use Rattle.replay_run.specs.Grids.{FormOf, Holds, Stands, MayRun, HasRun, HasGiven, IsGivenUp, most_arriving}
use Rattle.sample_run.specs.SampleRuns.{sample_settings, run_of, StopsAt, StopsBehind, IsLater, IsTextOf, StandsAfter, IsNext}
use Rattle.sample_run.proofs.SkippedRuns.{line_more, arrived_more}
use Rattle.sample_run.proofs.RunCounts.{lines_members, lines_counted}
use Rattle.sample_run.proofs.TextLines.{line_first, no_line, longer}

abbrev o : Object Request Partition
o = partition_object sample_settings

pub members_of : (skips : List CallId) (done : List Line) → (run_of skips done).members ≡ 4
members_of skips done = lines_members o skips (begun 4 1) done

pub count_of : (skips : List CallId) (done : List Line) → (run_of skips done).lines ≡ 1 + length done
count_of skips done = lines_counted o skips (begun 4 1) done

-- before the first of them
pub stands_first : {V : Type 0} {T : V → Type 0} (form : FormOf V T) (grid : Grid V T) → Stands form sample_settings grid (begun 4 1) → StandsAfter form grid []
stands_first form grid stands = record { skips = []; arrived = λ id (k, low, e). absurd (omega arith); stands = stands }

-- one line

module _ {V : Type 0} {T : V → Type 0} {form : FormOf V T} (grid : Grid V T) (number : ℕ) (text : List ℕ) (next : IsNext form grid number text) where
  abbrev r : Run
  r = run_of next.stands.skips next.done

  module _ (members : ℕ) (all : members ≡ r.members) where
    four : members ≡ 4
    four = all ∙ members_of next.stands.skips next.done

    -- the text is read as the next line
    pub reads : line_of false members text ≡ Ok next.line
    reads = ap (λ n. line_of false n text) four ∙ ap (line_of false 4) next.spells ∙ next.later.read

    module _ (line : Line) (read : line_of false members text ≡ Ok line) where
      pub same_line : line ≡ next.line
      same_line = let both : Ok line ≡ Ok next.line = sym read ∙ reads in cc

      pub may_run : IsWithin members (length text) line → MayRun form grid number line
      may_run within = record {
        settings = sample_settings;
        run = r;
        stands = next.stands.stands;
        read = subst (λ m. IsWithin m most_arriving line) all
            (longer line members (length text) most_arriving (subst (λ (n : ℕ). n ≤ most_arriving) (sym (ap length next.spells)) (omega (arith, next.later.short))) within);
        next = let lines = count_of next.stands.skips next.done in let its = next.counted in omega (arith, lines, its);
        within = next.within;
      }

  pub ran : (new : Grid V T) (line : Line) → line ≡ next.line → {earlier later : Ready} → HasGiven form sample_settings new r line earlier later → StandsAfter form new (next.done ++ next.line ∷ [])
  ran new line same {earlier} {later} had =
      let has = subst (λ l. HasRun form sample_settings new r l earlier.told.items later.told.items) same had.told in
      record {
        skips = next.stands.skips ++ has.skips;
        arrived = arrived_more o (begun 4 1) refl next.stands.skips next.done next.stands.arrived next.stands.stands.run next.line has.skips has.of_line;
        stands = subst (Stands form sample_settings new) (sym (line_more o (begun 4 1) refl next.stands.skips next.done next.stands.arrived next.stands.stands.run next.line has.skips has.of_line)) has.stands;
      }

  pub given_up : (line : Line) → line ≡ next.line → IsGivenUp sample_settings r line → StopsBehind next.done next.line number
  given_up line same is behind = record {
    before = next.done;
    line = next.line;
    behind = behind;
    cut = refl;
    counted = next.counted;
    skips = next.stands.skips;
    arrived = next.stands.arrived;
    given_up = subst (IsGivenUp sample_settings r) same is;
  }

-- the lines of a text

-- These lines ran, and the text has those that are left.
pub record HaveRun {V : Type 0} {T : V → Type 0} (form : FormOf V T) (grid : Grid V T) (lines : List Line) (rest : List ℕ) : Type 0 where
  pub done : List Line
  pub left : List Line
  pub cut : lines ≡ done ++ left
  pub stands : StandsAfter form grid done
  pub text : IsTextOf rest left

pub none_ran : {V : Type 0} {T : V → Type 0} {form : FormOf V T} (grid : Grid V T) (lines : List Line) (text : List ℕ) → StandsAfter form grid [] → IsTextOf text lines → HaveRun form grid lines text
none_ran grid lines text stands is = record { done = []; left = lines; cut = refl; stands = stands; text = is }

-- the first of the lines that are left
pub record HasFirst (rest : List ℕ) (k : ℕ) (left : List Line) : Type 0 where
  pub line : Line
  pub behind : List Line
  pub is : left ≡ line ∷ behind
  pub spells : take k rest ≡ spelled line
  pub later : IsLater line
  pub text : IsTextOf (drop (k + 1) rest) behind

abbrev pub IsFirstNewline : List ℕ → ℕ → Type 0
IsFirstNewline rest k = NoneBefore (Passes (is_byte newline) rest) 0 (length rest) k × Passes (is_byte newline) rest k

pub has_first : (rest : List ℕ) (k : ℕ) (left : List Line) → IsFirstNewline rest k → IsTextOf rest left → HasFirst rest k left
has_first rest k [] at is = absurd (let clash : take k rest ∷ whole_lines (drop (k + 1) rest) ≡ [] = sym (line_first rest k at.0 at.1) ∙ is.cut in cc)
has_first rest k (line ∷ behind) at is =
    let both : take k rest ∷ whole_lines (drop (k + 1) rest) ≡ spelled line ∷ map spelled behind = sym (line_first rest k at.0 at.1) ∙ is.cut in
    record {
      line = line;
      behind = behind;
      is = refl;
      spells = cc;
      later = All-head IsLater line behind is.later;
      text = record { cut = cc; later = All-tail IsLater line behind is.later };
    }

module _ {V : Type 0} {T : V → Type 0} {form : FormOf V T} (grid : Grid V T) (lines : List Line) (rest : List ℕ) (have : HaveRun form grid lines rest) (k : ℕ) (at : IsFirstNewline rest k) where
  pub first : HasFirst rest k have.left
  first = has_first rest k have.left at have.text

  -- its number, where so many lines were run
  module _ (ran : ℕ) (counted : (r : Run) → Holds form sample_settings grid r → ran ≡ r.lines) where
    pub its_number : ran + 1 ≡ length have.done + 2
    its_number =
        let its = counted (run_of have.stands.skips have.done) have.stands.stands.holds in
        let all = count_of have.stands.skips have.done in
        omega (arith, its, all)

    -- it is within the limit of lines
    pub in_limit : length lines < most_lines → ran + 1 ≤ most_lines
    in_limit few =
        let all = ap length have.cut ∙ length-append have.done have.left in
        let some = ap length first.is in
        let number = its_number in
        omega (arith, all, some, number, few)

    abbrev pub is_next : ran + 1 ≤ most_lines → IsNext form grid (ran + 1) (take k rest)
    is_next within = record {
      done = have.done;
      line = first.line;
      stands = have.stands;
      spells = first.spells;
      later = first.later;
      counted = its_number;
      within = within;
    }

  as_cut : have.done ++ first.line ∷ first.behind ≡ lines
  as_cut = sym (have.cut ∙ ap (λ left. have.done ++ left) first.is)

  pub one_more : (new : Grid V T) (then : List ℕ) → then ≡ drop (k + 1) rest → StandsAfter form new (have.done ++ first.line ∷ []) → HaveRun form new lines then
  one_more new then same stands = record {
    done = have.done ++ first.line ∷ [];
    left = first.behind;
    cut = sym as_cut ∙ sym (append_assoc have.done (first.line ∷ []) first.behind);
    stands = stands;
    text = subst (λ text. IsTextOf text first.behind) (sym same) first.text;
  }

  pub stops : (number : ℕ) → StopsBehind have.done first.line number → StopsAt lines number
  stops number so = subst (λ ls. StopsAt ls number) as_cut (so first.behind)

none_left : (left : List Line) → map spelled left ≡ [] → left ≡ []
none_left [] e = refl
none_left (line ∷ left) e = absurd cc

pub all_ran : {V : Type 0} {T : V → Type 0} {form : FormOf V T} (grid : Grid V T) (lines : List Line) (rest : List ℕ) → HaveRun form grid lines rest → Nowhere (Passes (is_byte newline) rest) 0 (length rest) → StandsAfter form grid lines
all_ran {form = form} grid lines rest have none =
    let left = none_left have.left (sym have.text.cut ∙ no_line rest none) in
    subst (StandsAfter form grid) (sym (have.cut ∙ ap (λ ls. have.done ++ ls) left ∙ append-nil have.done)) have.stands
