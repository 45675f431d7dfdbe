-- The words of what is left of a line.
use Rattle.std.specs.Prelude.{ℕ, List, [], Option, Some, None}
use Rattle.std.specs.Borrow.{Bor}
use Rattle.script_lang.specs.Words.{words_of}

abbrev pub words_from : Option (Bor (List ℕ)) → List (List ℕ)
words_from None = []
words_from (Some text) = words_of text.now
