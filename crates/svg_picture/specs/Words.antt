-- The words of SVG that a picture needs.
use Rattle.std.specs.Prelude.{ℕ, List, codes}
use Rattle.svg_picture.specs.declared.words.Tag.{Tag}
use Rattle.svg_picture.specs.declared.words.Tag.TheVariants.{Svg, Style, Defs, Marker, Path, Rect, Line, Text, Title}
use Rattle.svg_picture.specs.declared.words.Field.{Field}
use Rattle.svg_picture.specs.declared.words.Field.TheVariants.{Namespace, Class, Id, X, Y, FromX, FromY, ToX, ToY, Width, Height, View, Anchor as AnchorField, Shape, TipX, TipY, MarkerWidth, MarkerHeight, Orientation}
use Rattle.svg_picture.specs.declared.words.Look.{Look}
use Rattle.svg_picture.specs.declared.words.Look.TheVariants.{Label, Head, Small, Note, Bad, Good, Lane, Gone, Rule, Message, Untaken, Call, Answer, Lost, Cross, Bar, Open, Ground, Tip}
use Rattle.svg_picture.specs.declared.words.Anchor.{Anchor}
use Rattle.svg_picture.specs.declared.words.Anchor.TheVariants.{Start, Middle, End}
use Rattle.svg_picture.specs.declared.words.Fixed.{Fixed}
use Rattle.svg_picture.specs.declared.words.Fixed.TheVariants.{Namespace as SvgNamespace, TipName, TipView, TipShape, Turning}

abbrev pub tag_text : Tag → List ℕ
tag_text Svg = codes "svg"
tag_text Style = codes "style"
tag_text Defs = codes "defs"
tag_text Marker = codes "marker"
tag_text Path = codes "path"
tag_text Rect = codes "rect"
tag_text Line = codes "line"
tag_text Text = codes "text"
tag_text Title = codes "title"

abbrev pub field_text : Field → List ℕ
field_text Namespace = codes "xmlns"
field_text Class = codes "class"
field_text Id = codes "id"
field_text X = codes "x"
field_text Y = codes "y"
field_text FromX = codes "x1"
field_text FromY = codes "y1"
field_text ToX = codes "x2"
field_text ToY = codes "y2"
field_text Width = codes "width"
field_text Height = codes "height"
field_text View = codes "viewBox"
field_text AnchorField = codes "text-anchor"
field_text Shape = codes "d"
field_text TipX = codes "refX"
field_text TipY = codes "refY"
field_text MarkerWidth = codes "markerWidth"
field_text MarkerHeight = codes "markerHeight"
field_text Orientation = codes "orient"

abbrev pub look_text : Look → List ℕ
look_text Label = codes "label"
look_text Head = codes "head"
look_text Small = codes "small"
look_text Note = codes "note"
look_text Bad = codes "bad"
look_text Good = codes "good"
look_text Lane = codes "lane"
look_text Gone = codes "gone"
look_text Rule = codes "rule"
look_text Message = codes "message"
look_text Untaken = codes "untaken"
look_text Call = codes "call"
look_text Answer = codes "answer"
look_text Lost = codes "lost"
look_text Cross = codes "cross"
look_text Bar = codes "bar"
look_text Open = codes "open"
look_text Ground = codes "ground"
look_text Tip = codes "tip"

abbrev pub anchor_text : Anchor → List ℕ
anchor_text Start = codes "start"
anchor_text Middle = codes "middle"
anchor_text End = codes "end"

abbrev pub fixed_text : Fixed → List ℕ
fixed_text SvgNamespace = codes "http://www.w3.org/2000/svg"
fixed_text TipName = codes "tip"
fixed_text TipView = codes "0 0 10 10"
fixed_text TipShape = codes "M0 0 L10 5 L0 10 z"
fixed_text Turning = codes "auto"
