-- Markup as a tree, and its bytes. What has the bytes of a sound tree is well formed: each element ends where it should and
-- has each attribute once, names and values are words and numbers, and a text has no character that begins markup.
use Rattle.std.specs.Prelude.{◌≡◌, ℕ, Bool, true, ◌&&◌, ◌||◌, not, IsTrue, ◌==◌, nat_le, bytes_eq, if◌then◌else◌, List, [], ◌∷◌, ◌++◌, map, codes, decimal}
use Rattle.std.specs.Char.{encode_utf8}
use Rattle.std.specs.List.{flat_map, list_any}
use Rattle.svg_picture.specs.declared.words.Tag.{Tag}
use Rattle.svg_picture.specs.declared.words.Tag.TheVariants.{Svg}
use Rattle.svg_picture.specs.declared.words.Attribute.{Attribute}
use Rattle.svg_picture.specs.declared.words.Value.{Value}
use Rattle.svg_picture.specs.declared.words.Value.TheVariants.{Number, Look, Anchor, Fixed}
use Rattle.svg_picture.specs.Words.{tag_text, field_text, look_text, anchor_text, fixed_text}

-- whether a character may stand in a text: a newline, or one that is no control character and that XML has
abbrev pub can_stand : ℕ → Bool
can_stand c = (c == 10) || (nat_le 32 c && not (c == 127) && not (c == 0xfffe) && not (c == 0xffff))

-- a character of a text
abbrev pub escaped_char : ℕ → List ℕ
escaped_char c =
    if c == 38 then codes "&amp;"
    else (if c == 60 then codes "&lt;"
    else (if c == 62 then codes "&gt;"
    else (if can_stand c then encode_utf8 c
    else encode_utf8 0xfffd)))

abbrev pub value_text : Value → List ℕ
value_text (Number number) = decimal number
value_text (Look look) = look_text look
value_text (Anchor anchor) = anchor_text anchor
value_text (Fixed fixed) = fixed_text fixed

-- ` NAME="VALUE"`
abbrev pub attribute_text : Attribute → List ℕ
attribute_text attribute = codes " " ++ field_text attribute.field ++ codes "=\"" ++ value_text attribute.value ++ codes "\""

-- `<NAME ATTRIBUTES>INSIDE</NAME>` and a newline
abbrev pub element_text : Tag → List Attribute → List ℕ → List ℕ
element_text tag attributes inside =
    codes "<" ++ tag_text tag ++ flat_map attribute_text attributes ++ codes ">" ++ inside ++ codes "</" ++ tag_text tag ++ codes ">\n"

-- what stands one behind another: texts by their characters, and elements with their attributes and what is inside
pub data Markup : Type 0 where
  nothing : Markup
  text : List ℕ → Markup → Markup
  element : Tag → List Attribute → Markup → Markup → Markup

abbrev pub markup_text : Markup → List ℕ
markup_text nothing = []
markup_text (text characters rest) = flat_map escaped_char characters ++ markup_text rest
markup_text (element tag attributes inside rest) = element_text tag attributes (markup_text inside) ++ markup_text rest

-- whether no name stands twice
abbrev pub are_distinct : List (List ℕ) → Bool
are_distinct [] = true
are_distinct (name ∷ names) = not (list_any (bytes_eq name) names) && are_distinct names

abbrev pub names_of : List Attribute → List (List ℕ)
names_of attributes = map (λ attribute. field_text attribute.field) attributes

abbrev pub HasEachOnce : List Attribute → Type 0
HasEachOnce attributes = IsTrue (are_distinct (names_of attributes))

-- Each element has each attribute once.
abbrev pub IsSound : Markup → Type 0
IsSound nothing = Unit {0}
IsSound (text characters rest) = IsSound rest
IsSound (element tag attributes inside rest) = HasEachOnce attributes × IsSound inside × IsSound rest

-- These bytes are those of a sound tree.
pub record IsMarkup (bytes : List ℕ) : Type 0 where
  pub markup : Markup
  pub sound : IsSound markup
  pub is : bytes ≡ markup_text markup

-- These bytes are one element `svg`.
pub record IsDocument (bytes : List ℕ) : Type 0 where
  pub attributes : List Attribute
  pub once : HasEachOnce attributes
  pub inside : List ℕ
  pub markup : IsMarkup inside
  pub is : bytes ≡ element_text Svg attributes inside
