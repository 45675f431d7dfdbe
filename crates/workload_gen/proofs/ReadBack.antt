-- A script is read back line by line.
use Rattle.std.proofs.Common.{◌≡◌, ℕ, ◌==◌, false, List, [], ◌∷◌, ◌++◌, map, All, refl, ap, sym, ◌∙◌, append_assoc, arith}
use Rattle.std.proofs.lemmas.List.Elements.{All-head, All-tail, All-weaker}
use Rattle.std.proofs.lemmas.List.Splits.{slice_split_at}
use Rattle.script_lang.specs.Spelling.{spelled}
use Rattle.script_lang.specs.Words.{newline, pieces_at, fronts, last_piece}
use Rattle.script_lang.specs.declared.line.Line.{Line}
use Rattle.script_lang.proofs.Pieces.{pieces_at-slice_split}
use Rattle.script_lang.proofs.ReadAgain.{read_again}
use Rattle.workload_gen.specs.Laws.{IsReadAsItself, EveryScriptIsReadBack}
use Rattle.workload_gen.specs.Script.{text_of, sample_lines}
use Rattle.workload_gen.proofs.SampleLines.{IsReadable, all_are}

-- a line, and what is behind its newline
line_cut : (text rest : List ℕ) → All (λ x. (x == newline) ≡ false) text → pieces_at newline (text ++ newline ∷ rest) ≡ text ∷ pieces_at newline rest
line_cut text rest none =
    pieces_at-slice_split newline (text ++ newline ∷ rest) ∙ slice_split_at (λ x. x == newline) text newline rest none refl ∙ ap (λ (pieces : List (List ℕ)). text ∷ pieces) (sym (pieces_at-slice_split newline rest))

-- the pieces of lines are their spellings, and nothing behind the last newline
lines_cut : (lines : List Line) → All IsReadable lines → pieces_at newline (text_of lines) ≡ map spelled lines ++ [] ∷ []
lines_cut [] are = refl
lines_cut (line ∷ lines) are =
    ap (pieces_at newline) (append_assoc (spelled line) (newline ∷ []) (text_of lines))
    ∙ line_cut (spelled line) (text_of lines) (All-head IsReadable line lines are).whole
    ∙ ap (λ (pieces : List (List ℕ)). spelled line ∷ pieces) (lines_cut lines (All-tail IsReadable line lines are))

fronts-ended : (pieces : List (List ℕ)) → fronts (pieces ++ [] ∷ []) ≡ pieces
fronts-ended [] = refl
fronts-ended (piece ∷ []) = refl
fronts-ended (piece ∷ next ∷ pieces) = ap (λ (more : List (List ℕ)). piece ∷ more) (fronts-ended (next ∷ pieces))

last_piece-ended : (pieces : List (List ℕ)) → last_piece (pieces ++ [] ∷ []) ≡ []
last_piece-ended [] = refl
last_piece-ended (piece ∷ []) = refl
last_piece-ended (piece ∷ next ∷ pieces) = last_piece-ended (next ∷ pieces)

read : (line : Line) → IsReadable line → IsReadAsItself line
read line is = read_again 4 line (omega arith) is.brings is.within

pub read_back : EveryScriptIsReadBack
read_back number =
    let lines = sample_lines number in
    let cut = lines_cut lines (all_are number) in
    record {
      cut = ap fronts cut ∙ fronts-ended (map spelled lines);
      read = All-weaker IsReadable IsReadAsItself read lines (all_are number);
      rest = ap last_piece cut ∙ last_piece-ended (map spelled lines);
    }
