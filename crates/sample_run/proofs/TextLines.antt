-- The first line of a text, and the others.
use Rattle.std.proofs.Common.{◌≡◌, ℕ, ◌+◌, ◌≤◌, List, [], ◌∷◌, length, take, drop, ap, sym, ◌∙◌, arith}
use Rattle.memchr.specs.Find.{Nowhere, NoneBefore, Passes, is_byte}
use Rattle.script_lang.specs.Lines.{IsWithin}
use Rattle.script_lang.specs.Words.{newline, fronts, whole_lines}
use Rattle.script_lang.specs.declared.line.Line.{Line}
use Rattle.script_lang.specs.declared.line.Line.TheVariants as Lines
use Rattle.script_lang.proofs.Pieces.{cut, uncut, first_piece}

pub line_first : (xs : List ℕ) (k : ℕ) → NoneBefore (Passes (is_byte newline) xs) 0 (length xs) k → Passes (is_byte newline) xs k → whole_lines xs ≡ take k xs ∷ whole_lines (drop (k + 1) xs)
line_first xs k before here =
    let p = first_piece newline (drop (k + 1) xs) in
    ap fronts (cut newline xs k before here ∙ ap (λ (ps : List (List ℕ)). take k xs ∷ ps) p.2) ∙ ap (λ (ps : List (List ℕ)). take k xs ∷ fronts ps) (sym p.2)

pub no_line : (xs : List ℕ) → Nowhere (Passes (is_byte newline) xs) 0 (length xs) → whole_lines xs ≡ []
no_line xs none = ap fronts (uncut newline xs none)

-- a line of a longer text is within its limits
pub longer : (line : Line) (m a b : ℕ) → a ≤ b → IsWithin m a line → IsWithin m b line
longer (Lines.Arrive conn bytes) m a b more w = (w.0, w.1, omega (arith, more, w.2))
longer (Lines.Near conn name capacity) m a b more w = (w.0, w.1, omega (arith, more, w.2), w.3, w.4)
longer (Lines.NearGet conn key) m a b more w = (w.0, w.1, omega (arith, more, w.2))
longer line m a b more w = w
