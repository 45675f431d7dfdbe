use Rattle.std.proofs.Common.{◌≡◌, ℕ, ◌+◌, ◌-◌, List, ◌∷◌, length, take, drop, ap, sym, ◌∙◌}
use Rattle.std.proofs.Math.Seq.{take-length}
use Rattle.std.proofs.lemmas.List.{length-drop}
use Rattle.script_lang.specs.Words.{newline, pieces_at}
use Rattle.script_lang.proofs.Pieces.{uncut, cut}
use Rattle.transcript_checks.proofs.difference.first_line.Goals as goal

-- a text from a place on is all that is left of it
rest_whole : (xs : List ℕ) (k : ℕ) → take (length xs - k) (drop k xs) ≡ drop k xs
rest_whole xs k = rw (← length-drop k xs) (take-length (drop k xs))

pub returns-in-None-clause-lines : goal.returns-in-None-clause-lines
returns-in-None-clause-lines c = uncut newline c.args.text.now c.in-None.ensures

pub returns-in-Some-clause-lines : goal.returns-in-Some-clause-lines
returns-in-Some-clause-lines c =
    cut newline c.args.text.now c.in-Some.at c.in-Some.ensures.0 c.in-Some.ensures.1
    ∙ ap (λ rest. take c.in-Some.at c.args.text.now ∷ pieces_at newline rest) (sym (rest_whole c.args.text.now (c.in-Some.at + 1)))
