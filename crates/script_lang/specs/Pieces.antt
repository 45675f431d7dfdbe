-- Text without a newline.
use Rattle.std.specs.Prelude.{◌≡◌, ℕ, List, [], ◌∷◌}
use Rattle.script_lang.specs.Words.{newline, pieces_at}

abbrev pub IsOnePiece : List ℕ → Type 0
IsOnePiece text = pieces_at newline text ≡ text ∷ []
