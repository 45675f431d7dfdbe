-- How many lines and bytes a script has.
use Rattle.std.proofs.Common.{◌≡◌, ℕ, zero, suc, ◌+◌, ◌*◌, ◌≤◌, ◌==◌, Bool, true, false, nat_le, List, [], ◌∷◌, ◌++◌, length, All, refl, arith, length-append}
use Rattle.std.specs.Prelude.{if◌then◌else◌}
use Rattle.std.proofs.lemmas.Bool.Decides.{nat_tests}
use Rattle.std.proofs.lemmas.List.Elements.{All-head, All-tail, All-weaker}
use Rattle.script_lang.specs.Spelling.{spelled}
use Rattle.script_lang.specs.Words.{newline}
use Rattle.script_lang.specs.declared.line.Line.{Line}
use Rattle.script_lang.specs.declared.line.Line.TheVariants as Lines
use Rattle.workload_gen.specs.Laws.{EveryScriptIsShort}
use Rattle.workload_gen.specs.Script.{each_below, connection_lines, crash_lines, round_lines, line_text, text_of, sample_lines}
use Rattle.workload_gen.proofs.SampleLines.{IsReadable, all_are}

IsShortLine : Line → Type 0
IsShortLine line = length (line_text line) ≤ 155

is_short : (line : Line) → IsReadable line → length (line_text line) ≤ 155
is_short line is = omega (arith, is.short, length-append (spelled line) (newline ∷ []))

text_is_short : (lines : List Line) → All (λ line. length (line_text line) ≤ 155) lines → length (text_of lines) ≤ length lines * 155
text_is_short [] short = omega arith
text_is_short (line ∷ lines) short =
    let first = All-head (λ line. length (line_text line) ≤ 155) line lines short in
    let others = text_is_short lines (All-tail (λ line. length (line_text line) ≤ 155) line lines short) in
    omega (arith, first, others, length-append (line_text line) (text_of lines))

length-connections : (n : ℕ) → length (each_below n connection_lines) ≡ 2 * n
unfolding each_below
length-connections zero = refl
length-connections (suc n) = omega (arith, length-connections n, length-append (each_below n connection_lines) (connection_lines n))

-- how many lines of a crash there are in so many rounds
crashes : ℕ → ℕ
crashes n = if nat_le 1000 n then 2 else 0

length-if : (b : Bool) → length (if b then Lines.Crash 3 ∷ Lines.Detect 3 ∷ [] else []) ≡ (if b then 2 else 0)
length-if true = refl
length-if false = refl

crashes-more : (n : ℕ) → crashes n + length (crash_lines (n + 1)) ≡ crashes (suc n)
unfolding crashes
crashes-more n = let lines = length-if ((n + 1) == 1000) in grind (arith, nat_tests, lines)

length-rounds : (number n : ℕ) → length (each_below n (round_lines number)) ≡ n + crashes n
unfolding each_below crashes
length-rounds number zero = refl
length-rounds number (suc n) =
    let more = length-append (each_below n (round_lines number)) (round_lines number n) in
    omega (arith, more, length-rounds number n, crashes-more n)

count : (number : ℕ) → length (sample_lines number) ≡ 2013
unfolding crashes
count number =
    let connections = each_below 4 connection_lines in
    let rounds = each_below 2000 (round_lines number) in
    let grid = Lines.Grid 4 1 100 in
    let last = Lines.FlowAll 1000 ∷ Lines.End ∷ [] in
    omega (arith, length-append (grid ∷ connections ++ rounds) last, length-append (grid ∷ connections) rounds, length-connections 4, length-rounds number 2000)

pub short : EveryScriptIsShort
short number =
    let each = All-weaker IsReadable (λ line. length (line_text line) ≤ 155) is_short (sample_lines number) (all_are number) in
    record {
      lines = count number;
      each = each;
      bytes = omega (arith, text_is_short (sample_lines number) each, count number);
    }
