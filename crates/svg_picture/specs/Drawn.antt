-- What is drawn, as the bytes of its elements.
use Rattle.std.specs.Prelude.{◌≡◌, ℕ, ◌+◌, ◌-◌, ◌^◌, ◌==◌, min, max, if◌then◌else◌, List, [], ◌∷◌, ◌++◌, length}
use Rattle.std.specs.List.{flat_map}
use Rattle.std.specs.Str.{chars}
use Rattle.svg_picture.specs.declared.picture.Point.{Point}
use Rattle.svg_picture.specs.declared.words.Tag.TheVariants.{Svg, Rect, Line, Text, Title}
use Rattle.svg_picture.specs.declared.words.Field.{Field}
use Rattle.svg_picture.specs.declared.words.Field.TheVariants.{Namespace, Class, X, Y, FromX, FromY, ToX, ToY, Width, Height, Anchor as AnchorField}
use Rattle.svg_picture.specs.declared.words.Look.{Look}
use Rattle.svg_picture.specs.declared.words.Look.TheVariants.{Cross}
use Rattle.svg_picture.specs.declared.words.Anchor.{Anchor}
use Rattle.svg_picture.specs.declared.words.Fixed.{Fixed}
use Rattle.svg_picture.specs.declared.words.Fixed.TheVariants.{Namespace as SvgNamespace}
use Rattle.svg_picture.specs.declared.words.Attribute.{Attribute}
use Rattle.svg_picture.specs.declared.words.Value.TheVariants.{Number, Look as LookValue, Anchor as AnchorValue, Fixed as FixedValue}
use Rattle.svg_picture.specs.Markup.{escaped_char, element_text}

abbrev pub number_of : Field → ℕ → Attribute
number_of field number = record { field = field; value = Number number }

abbrev pub class_of : Look → Attribute
class_of look = record { field = Class; value = LookValue look }

abbrev pub anchor_of : Anchor → Attribute
anchor_of anchor = record { field = AnchorField; value = AnchorValue anchor }

abbrev pub fixed_of : Field → Fixed → Attribute
fixed_of field fixed = record { field = field; value = FixedValue fixed }

abbrev pub line_text : Look → Point → Point → List ℕ
line_text look from to = element_text Line (class_of look ∷ number_of FromX from.x ∷ number_of FromY from.y ∷ number_of ToX to.x ∷ number_of ToY to.y ∷ []) []

abbrev pub rectangle_text : Look → Point → ℕ → ℕ → List ℕ
rectangle_text look at width height = element_text Rect (class_of look ∷ number_of X at.x ∷ number_of Y at.y ∷ number_of Width width ∷ number_of Height height ∷ []) []

-- eight pixels wide round a place, and no less than four high
abbrev pub bar_text : Look → Point → ℕ → List ℕ
bar_text look from until = rectangle_text look (record { x = from.x - 4; y = from.y }) 8 (max (until - from.y) 4)

-- what is behind a place by so many pixels, or the last place
abbrev pub behind : ℕ → ℕ → ℕ
behind place more = min (place + more) (2 ^ 64 - 1)

-- two lines, of six pixels round a place
abbrev pub cross_text : Point → List ℕ
cross_text at =
    line_text Cross (record { x = at.x - 6; y = at.y - 6 }) (record { x = behind at.x 6; y = behind at.y 6 })
    ++ line_text Cross (record { x = at.x - 6; y = behind at.y 6 }) (record { x = behind at.x 6; y = at.y - 6 })

abbrev pub escaped : List ℕ → List ℕ
escaped text = flat_map escaped_char (chars text)

-- a text, with what is shown when one points at it, if that isn't empty
abbrev pub words_text : List ℕ → List ℕ → List ℕ
words_text text more = if length more == 0 then escaped text else element_text Title [] (escaped more) ++ escaped text

abbrev pub text_text : Look → Point → Anchor → List ℕ → List ℕ → List ℕ
text_text look at anchor text more = element_text Text (class_of look ∷ number_of X at.x ∷ number_of Y at.y ∷ anchor_of anchor ∷ []) (words_text text more)

-- what stands behind all else, what is drawn over it, and the texts on top
pub record Drawn : Type 0 where
  pub back : List ℕ
  pub strokes : List ℕ
  pub texts : List ℕ

abbrev pub with_back : Drawn → List ℕ → Drawn
with_back drawn more = record drawn { back = drawn.back ++ more }

abbrev pub with_strokes : Drawn → List ℕ → Drawn
with_strokes drawn more = record drawn { strokes = drawn.strokes ++ more }

abbrev pub with_texts : Drawn → List ℕ → Drawn
with_texts drawn more = record drawn { texts = drawn.texts ++ more }

-- The picture of that size has what was drawn, behind a head that says how things look.
pub record HasDrawn (drawn : Drawn) (width height : ℕ) (bytes : List ℕ) : Type 0 where
  pub head : List ℕ
  pub is : bytes ≡ element_text Svg (fixed_of Namespace SvgNamespace ∷ number_of Width width ∷ number_of Height height ∷ []) (head ++ drawn.back ++ drawn.strokes ++ drawn.texts)
