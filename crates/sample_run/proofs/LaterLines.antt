-- The lines of a script's text behind the first.
use Rattle.std.proofs.Common.{◌≡◌, ℕ, zero, suc, ◌+◌, ◌≤◌, ◌<◌, ◌==◌, Bool, true, false, nat_lt, List, [], ◌∷◌, ◌++◌, length, drop, Ok, All, ap, ◌∙◌, subst, refl, arith, length-append}
use Rattle.std.specs.Prelude.{if◌then◌else◌, slice_index_or}
use Rattle.std.proofs.lemmas.List.Elements.{All-nil, All-cons, All-append, All-tail}
use Rattle.script_lang.specs.Limits.{most_lines}
use Rattle.script_lang.specs.Lines.{line_of}
use Rattle.script_lang.specs.Spelling.{spelled, is_first}
use Rattle.script_lang.specs.Words.{newline, whole_lines}
use Rattle.script_lang.specs.declared.line.Line.{Line}
use Rattle.script_lang.specs.declared.line.Line.TheVariants as Lines
use Rattle.workload_gen.specs.Script.{each_below, connection_lines, step_line, round_lines, line_text, sample_script}
use Rattle.workload_gen.specs.Draws.{draws_of, generator_at, step_at}
use Rattle.workload_gen.specs.Laws.{IsReadAsItself}
use Rattle.workload_gen.proofs.ReadBack.{read_back}
use Rattle.workload_gen.proofs.Sizes.{short}
use Rattle.sample_run.specs.SampleRuns.{IsLater, IsTextOf, later_lines}

-- no line of a script behind the first makes a grid

abbrev MakesNone : Line → Type 0
MakesNone line = is_first line ≡ false

on_if : {X : Type 0} (P : X → Type 0) (b : Bool) (x y : X) → P x → P y → P (if b then x else y)
on_if P true x y p q = p
on_if P false x y p q = q

step_makes_none : (round number rounds : ℕ) → MakesNone (step_line round (step_at number rounds))
step_makes_none round number rounds =
    let draws = draws_of (generator_at number rounds) in
    on_if (λ step. MakesNone (step_line round step)) (nat_lt draws.kind 8) _ _ refl
    (on_if (λ step. MakesNone (step_line round step)) (nat_lt draws.kind 12) _ _ refl
    (on_if (λ step. MakesNone (step_line round step)) (draws.kind == 12) _ _ refl
    (on_if (λ step. MakesNone (step_line round step)) (draws.kind == 13) _ _ refl
    (on_if (λ step. MakesNone (step_line round step)) (draws.kind == 14) _ _ refl refl))))

two_make_none : (first second : Line) → MakesNone first → MakesNone second → All MakesNone (first ∷ second ∷ [])
two_make_none first second one two = All-cons MakesNone first (second ∷ []) one (All-cons MakesNone second [] two (All-nil MakesNone))

on_crash : (b : Bool) → All MakesNone (if b then Lines.Crash 3 ∷ Lines.Detect 3 ∷ [] else [])
on_crash true = two_make_none (Lines.Crash 3) (Lines.Detect 3) refl refl
on_crash false = All-nil MakesNone

each_makes_none : (n : ℕ) (f : ℕ → List Line) → ((k : ℕ) → All MakesNone (f k)) → All MakesNone (each_below n f)
unfolding each_below
each_makes_none zero f each = All-nil MakesNone
each_makes_none (suc n) f each = All-append MakesNone (each_below n f) (f n) (each_makes_none n f each) (each n)

later_make_none : (number : ℕ) → All MakesNone (later_lines number)
later_make_none number =
    let connections = each_below 4 connection_lines in
    let rounds = each_below 2000 (round_lines number) in
    All-append MakesNone (connections ++ rounds) (Lines.FlowAll 1000 ∷ Lines.End ∷ [])
    (All-append MakesNone connections rounds
    (each_makes_none 4 connection_lines (λ conn. two_make_none _ _ refl refl))
    (each_makes_none 2000 (round_lines number) (λ rounds. All-cons MakesNone _ _ (step_makes_none (rounds + 1) number rounds) (on_crash (rounds + 1 == 1000)))))
    (two_make_none (Lines.FlowAll 1000) Lines.End refl refl)

-- so that each is read

is_later : (line : Line) → MakesNone line → IsReadAsItself line → length (line_text line) ≤ 155 → IsLater line
is_later line none read few = record {
  read = subst (λ first. line_of first 4 (spelled line) ≡ Ok line) none read;
  short = let more = length-append (spelled line) (newline ∷ []) in omega (arith, more, few);
}

all_later : (lines : List Line) → All MakesNone lines → All IsReadAsItself lines → All (λ line. length (line_text line) ≤ 155) lines → All IsLater lines
all_later lines none read few k d low = is_later (slice_index_or lines k d) (none k d low) (read k d low) (few k d low)

later_are : (number : ℕ) → All IsLater (later_lines number)
later_are number =
    let first = Lines.Grid 4 1 100 in
    all_later (later_lines number) (later_make_none number)
    (All-tail IsReadAsItself first (later_lines number) (read_back number).read)
    (All-tail (λ line. length (line_text line) ≤ 155) first (later_lines number) (short number).each)

-- what a script's text has behind the first line
pub later_text : (number : ℕ) (script rest : List ℕ) → script ≡ sample_script number → whole_lines rest ≡ drop 1 (whole_lines script) → IsTextOf rest (later_lines number)
later_text number script rest made is = record {
  cut = is ∙ ap (λ text. drop 1 (whole_lines text)) made ∙ ap (drop 1) (read_back number).cut;
  later = later_are number;
}

pub later_few : (number : ℕ) → length (later_lines number) < most_lines
later_few number = let all = (short number).lines in omega (arith, all)
