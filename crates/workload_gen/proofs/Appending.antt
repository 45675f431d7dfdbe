-- A script grows line by line.
use Rattle.std.proofs.Common.{◌≡◌, ℕ, ◌+◌, List, [], ◌∷◌, ◌++◌, map, decimal, flat_map, refl, ap, sym, ◌∙◌, append_assoc, append-nil, add-one}
use Rattle.std.specs.List.{join_with_byte}
use Rattle.std.proofs.lemmas.Grind.{flat_map-append}
use Rattle.script_lang.specs.Words.{space}
use Rattle.script_lang.specs.declared.line.Line.{Line}
use Rattle.workload_gen.specs.Draws.{behind_round, generator_at}
use Rattle.workload_gen.specs.Script.{each_below, line_text, text_of}

-- a keyword and numbers, each behind a space
pub joined : (keyword numbers : List ℕ) → join_with_byte space (keyword ∷ map decimal numbers) ≡ keyword ++ flat_map (λ number. space ∷ decimal number) numbers
joined keyword [] = sym (append-nil keyword)
joined keyword (number ∷ numbers) = ap (λ (rest : List ℕ). keyword ++ space ∷ rest) (joined (decimal number) numbers)

-- one text behind the other
pub both : (out mid new one two : List ℕ) → mid ≡ out ++ one → new ≡ mid ++ two → new ≡ out ++ (one ++ two)
both out mid new one two first second = second ∙ ap (λ (text : List ℕ). text ++ two) first ∙ append_assoc out one two

-- lines behind lines
pub more_lines : (out mid new : List ℕ) (before after : List Line) → mid ≡ out ++ text_of before → new ≡ mid ++ text_of after → new ≡ out ++ text_of (before ++ after)
more_lines out mid new before after first second =
    both out mid new (text_of before) (text_of after) first second ∙ ap (λ (text : List ℕ). out ++ text) (sym (flat_map-append line_text before after))

-- one line, and two

pub one_line : (out new : List ℕ) (line : Line) → new ≡ out ++ line_text line → new ≡ out ++ text_of (line ∷ [])
one_line out new line written = written ∙ ap (λ (text : List ℕ). out ++ text) (sym (append-nil (line_text line)))

pub two_lines : (out mid new : List ℕ) (first second : Line) → mid ≡ out ++ line_text first → new ≡ mid ++ line_text second → new ≡ out ++ text_of (first ∷ second ∷ [])
two_lines out mid new first second one two =
    both out mid new (line_text first) (text_of (second ∷ [])) one (one_line mid new second two)

-- all lines of a script: the grid's, the connections', the rounds', and the last two
pub all_lines : (empty one two three four five : List ℕ) (grid flow end : Line) (connections rounds : List Line)
    → empty ≡ [] → one ≡ empty ++ line_text grid → two ≡ one ++ text_of connections → three ≡ two ++ text_of rounds → four ≡ three ++ line_text flow → five ≡ four ++ line_text end
    → five ≡ text_of (grid ∷ connections ++ rounds ++ flow ∷ end ∷ [])
all_lines empty one two three four five grid flow end connections rounds none begun connected run flown ended =
    let first = one_line empty one grid begun in
    let second = more_lines empty one two (grid ∷ []) connections first connected in
    let third = more_lines empty two three (grid ∷ connections) rounds second run in
    let last = two_lines three four five flow end flown ended in
    more_lines empty three five (grid ∷ connections ++ rounds) (flow ∷ end ∷ []) third last
    ∙ ap (λ (text : List ℕ). text ++ text_of (grid ∷ connections ++ rounds ++ flow ∷ end ∷ [])) none

pub each_below-more : (n : ℕ) (f : ℕ → List Line) → each_below (n + 1) f ≡ each_below n f ++ f n
unfolding each_below
each_below-more n f = rw add-one refl

pub generator_at-more : (number n : ℕ) → generator_at number (n + 1) ≡ behind_round (generator_at number n)
unfolding generator_at
generator_at-more number n = rw add-one refl
