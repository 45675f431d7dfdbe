-- Words of a line's text.
use Rattle.std.specs.Prelude.{ℕ, List, [], ◌∷◌, ◌++◌, Option, Some, None, codes, decimal}
use Rattle.hex.specs.Hex.{encode_lower}

-- A word has a space behind it.
abbrev pub word : List ℕ → List ℕ
word text = text ++ 32 ∷ []

abbrev pub number : ℕ → List ℕ
number n = word (decimal n)

abbrev pub line_end : List ℕ
line_end = 10 ∷ []

-- bytes that may be none are `x` and their hexadecimal
abbrev pub hex_word : List ℕ → List ℕ
hex_word bytes = 120 ∷ encode_lower bytes

abbrev pub dash : List ℕ
dash = codes "-"

abbrev pub number_or_dash : Option ℕ → List ℕ
number_or_dash None = word dash
number_or_dash (Some n) = number n

abbrev pub value_text : Option (List ℕ) → List ℕ
value_text None = dash
value_text (Some value) = hex_word value

abbrev pub words_line : ℕ → List ℕ → List ℕ
words_line line words = number line ++ words ++ line_end
