-- The grammar of a script's lines, and why a line is refused.
use Rattle.std.specs.Prelude.{ℕ, ◌-◌, ◌*◌, ◌==◌, ◌&&◌, ◌<◌, ◌≤◌, Bool, true, false, not, if◌then◌else◌, List, [], ◌∷◌, length, Option, Some, None, option_map, Result, Ok, Err, codes}
use Rattle.std.specs.List.{find}
use Rattle.script_lang.specs.Words.{are_same, words_of, number_within, bytes_of}
use Rattle.script_lang.specs.declared.fields.Field.{Field}
use Rattle.script_lang.specs.declared.fields.Field.TheVariants.{Members, Backups, Capacity, Connection, Member, LinkEnd, Partition, PartitionOrAll, Place, Moment, Deliveries, Steps, Entries, Amount, Hex as HexField}
use Rattle.script_lang.specs.declared.keywords.Keyword.{Keyword}
use Rattle.script_lang.specs.declared.keywords.Keyword.TheVariants as Keywords
use Rattle.script_lang.specs.declared.reading.Value.{Value}
use Rattle.script_lang.specs.declared.reading.Value.TheVariants as Values
use Rattle.script_lang.specs.declared.line.Line.{Line}
use Rattle.script_lang.specs.declared.line.Line.TheVariants.{Grid, OpenConn, Arrive, Clock, Deliver, Lose, Repeat, Flow, FlowAll, Resend, Crash, Detect, Move, Join, Handover, Advance, Reopen, Rebalance, Dump, Links, Trail, Near, NearGet, NearFeed, Masters, Told, MasterDeliver, MasterLose, MasterResend, MasterFlow, Comment, End}
use Rattle.script_lang.specs.declared.refusal.LineWhy.{LineWhy}
use Rattle.script_lang.specs.declared.refusal.LineWhy.TheVariants.{Word, NoGrid, Count, Number, Hex, NoEnd}

-- A step gives a value or says why the line is refused, and what follows is asked only where it gives one.
infixl 10 ◌>>=◌
abbrev pub ◌>>=◌ : {A B : Type 0} → Result A LineWhy → (A → Result B LineWhy) → Result B LineWhy
(Err why) >>= f = Err why
(Ok x) >>= f = f x

-- The first words of lines.

pub record Named : Type 0 where
  pub word : List ℕ
  pub keyword : Keyword

abbrev pub named : List ℕ → Keyword → Named
named word keyword = record { word = word; keyword = keyword }

abbrev pub keywords : List Named
keywords =
    named (codes "grid") Keywords.Grid ∷ named (codes "open") Keywords.Open ∷ named (codes "bytes") Keywords.Bytes
    ∷ named (codes "clock") Keywords.Clock ∷ named (codes "deliver") Keywords.Deliver ∷ named (codes "lose") Keywords.Lose
    ∷ named (codes "repeat") Keywords.Repeat ∷ named (codes "flow") Keywords.Flow ∷ named (codes "resend") Keywords.Resend
    ∷ named (codes "crash") Keywords.Crash ∷ named (codes "detect") Keywords.Detect ∷ named (codes "move") Keywords.Move
    ∷ named (codes "join") Keywords.Join ∷ named (codes "handover") Keywords.Handover ∷ named (codes "advance") Keywords.Advance
    ∷ named (codes "reopen") Keywords.Reopen ∷ named (codes "rebalance") Keywords.Rebalance ∷ named (codes "dump") Keywords.Dump
    ∷ named (codes "links") Keywords.Links ∷ named (codes "trail") Keywords.Trail ∷ named (codes "near") Keywords.Near ∷ named (codes "nearget") Keywords.NearGet
    ∷ named (codes "nearfeed") Keywords.NearFeed ∷ named (codes "masters") Keywords.Masters ∷ named (codes "told") Keywords.Told
    ∷ named (codes "mdeliver") Keywords.MasterDeliver ∷ named (codes "mlose") Keywords.MasterLose ∷ named (codes "mresend") Keywords.MasterResend
    ∷ named (codes "mflow") Keywords.MasterFlow ∷ named (codes "end") Keywords.End ∷ []

abbrev pub keyword_of : List ℕ → Option Keyword
keyword_of word = option_map (λ (entry : Named). entry.keyword) (find (λ (entry : Named). are_same entry.word word) keywords)

-- What the words behind the first say.
abbrev pub fields_of : Keyword → List Field
fields_of Keywords.Grid = Members ∷ Backups ∷ Capacity ∷ []
fields_of Keywords.Open = Connection ∷ Member ∷ []
fields_of Keywords.Bytes = Connection ∷ HexField ∷ []
fields_of Keywords.Clock = Member ∷ Moment ∷ []
fields_of Keywords.Deliver = Partition ∷ LinkEnd ∷ LinkEnd ∷ Place ∷ []
fields_of Keywords.Lose = Partition ∷ LinkEnd ∷ LinkEnd ∷ Place ∷ []
fields_of Keywords.Repeat = Partition ∷ LinkEnd ∷ LinkEnd ∷ Place ∷ []
fields_of Keywords.Flow = PartitionOrAll ∷ Deliveries ∷ []
fields_of Keywords.Resend = Partition ∷ LinkEnd ∷ []
fields_of Keywords.Crash = Member ∷ []
fields_of Keywords.Detect = Member ∷ []
fields_of Keywords.Move = Partition ∷ Member ∷ Member ∷ []
fields_of Keywords.Join = Partition ∷ Member ∷ []
fields_of Keywords.Handover = Partition ∷ Member ∷ Member ∷ []
fields_of Keywords.Advance = Partition ∷ []
fields_of Keywords.Reopen = Partition ∷ []
fields_of Keywords.Rebalance = Steps ∷ []
fields_of Keywords.Dump = Partition ∷ Member ∷ []
fields_of Keywords.Links = Partition ∷ []
fields_of Keywords.Trail = Partition ∷ []
fields_of Keywords.Near = Connection ∷ HexField ∷ Entries ∷ []
fields_of Keywords.NearGet = Connection ∷ HexField ∷ []
fields_of Keywords.NearFeed = Connection ∷ Amount ∷ []
fields_of Keywords.Masters = []
fields_of Keywords.Told = Member ∷ Member ∷ []
fields_of Keywords.MasterDeliver = Partition ∷ LinkEnd ∷ LinkEnd ∷ Place ∷ []
fields_of Keywords.MasterLose = Partition ∷ LinkEnd ∷ LinkEnd ∷ Place ∷ []
fields_of Keywords.MasterResend = Partition ∷ Member ∷ []
fields_of Keywords.MasterFlow = Partition ∷ Deliveries ∷ []
fields_of Keywords.End = []

-- the least and the greatest number that a field has
pub record Range : Type 0 where
  pub least : ℕ
  pub most : ℕ

abbrev pub from_to : ℕ → ℕ → Range
from_to least most = record { least = least; most = most }

-- Members have the numbers below theirs, and the table service has their number.
abbrev pub range_of : ℕ → Field → Range
range_of members Members = from_to 1 8
range_of members Backups = from_to 0 6
range_of members Capacity = from_to 0 2147483647
range_of members Connection = from_to 0 63
range_of members Member = from_to 0 (members - 1)
range_of members LinkEnd = from_to 0 members
range_of members Partition = from_to 0 270
range_of members PartitionOrAll = from_to 0 270
range_of members Place = from_to 0 18446744073709551615
range_of members Moment = from_to 0 18446744073709551615
range_of members Deliveries = from_to 1 1000
range_of members Steps = from_to 0 271
range_of members Entries = from_to 1 100000
range_of members Amount = from_to 1 1000000
range_of members HexField = from_to 0 0

-- The value of a word.

abbrev pub number_value : Range → List ℕ → Result Value LineWhy
number_value range word = elim (number_within range.least range.most word) [ None ↦ Err Number | Some n ↦ Ok (Values.Number n) ]

abbrev pub hex_value : List ℕ → Result Value LineWhy
hex_value word = elim (bytes_of word) [ None ↦ Err Hex | Some bytes ↦ Ok (Values.Bytes bytes) ]

abbrev pub value_of : ℕ → Field → List ℕ → Result Value LineWhy
value_of members HexField word = hex_value word
value_of members PartitionOrAll word = if are_same word (codes "all") then Ok Values.All else number_value (range_of members PartitionOrAll) word
value_of members field word = number_value (range_of members field) word

-- The words from left to right: the first that hasn't its field's form says why the line is refused.
abbrev pub values_of : ℕ → List Field → List (List ℕ) → Result (List Value) LineWhy
values_of members (field ∷ fields) (word ∷ words) =
    do
      value ← value_of members field word
      values ← values_of members fields words
      Ok (value ∷ values)
values_of members fields words = Ok []

-- The line that a keyword and its values are. Values that no line of the keyword has, which no words give, are too few or too many.
abbrev pub line_with : Keyword → List Value → Result Line LineWhy
line_with Keywords.Grid (Values.Number members ∷ Values.Number backups ∷ Values.Number capacity ∷ []) = Ok (Grid members backups capacity)
line_with Keywords.Open (Values.Number conn ∷ Values.Number member ∷ []) = Ok (OpenConn conn member)
line_with Keywords.Bytes (Values.Number conn ∷ Values.Bytes bytes ∷ []) = Ok (Arrive conn bytes)
line_with Keywords.Clock (Values.Number member ∷ Values.Number moment ∷ []) = Ok (Clock member moment)
line_with Keywords.Deliver (Values.Number partition ∷ Values.Number from ∷ Values.Number to ∷ Values.Number place ∷ []) = Ok (Deliver partition from to place)
line_with Keywords.Lose (Values.Number partition ∷ Values.Number from ∷ Values.Number to ∷ Values.Number place ∷ []) = Ok (Lose partition from to place)
line_with Keywords.Repeat (Values.Number partition ∷ Values.Number from ∷ Values.Number to ∷ Values.Number place ∷ []) = Ok (Repeat partition from to place)
line_with Keywords.Flow (Values.Number partition ∷ Values.Number most ∷ []) = Ok (Flow partition most)
line_with Keywords.Flow (Values.All ∷ Values.Number most ∷ []) = Ok (FlowAll most)
line_with Keywords.Resend (Values.Number partition ∷ Values.Number end ∷ []) = Ok (Resend partition end)
line_with Keywords.Crash (Values.Number member ∷ []) = Ok (Crash member)
line_with Keywords.Detect (Values.Number member ∷ []) = Ok (Detect member)
line_with Keywords.Move (Values.Number partition ∷ Values.Number from ∷ Values.Number to ∷ []) = Ok (Move partition from to)
line_with Keywords.Join (Values.Number partition ∷ Values.Number to ∷ []) = Ok (Join partition to)
line_with Keywords.Handover (Values.Number partition ∷ Values.Number from ∷ Values.Number to ∷ []) = Ok (Handover partition from to)
line_with Keywords.Advance (Values.Number partition ∷ []) = Ok (Advance partition)
line_with Keywords.Reopen (Values.Number partition ∷ []) = Ok (Reopen partition)
line_with Keywords.Rebalance (Values.Number most ∷ []) = Ok (Rebalance most)
line_with Keywords.Dump (Values.Number partition ∷ Values.Number member ∷ []) = Ok (Dump partition member)
line_with Keywords.Links (Values.Number partition ∷ []) = Ok (Links partition)
line_with Keywords.Trail (Values.Number partition ∷ []) = Ok (Trail partition)
line_with Keywords.Near (Values.Number conn ∷ Values.Bytes name ∷ Values.Number capacity ∷ []) = Ok (Near conn name capacity)
line_with Keywords.NearGet (Values.Number conn ∷ Values.Bytes key ∷ []) = Ok (NearGet conn key)
line_with Keywords.NearFeed (Values.Number conn ∷ Values.Number most ∷ []) = Ok (NearFeed conn most)
line_with Keywords.Masters [] = Ok Masters
line_with Keywords.Told (Values.Number member ∷ Values.Number crashed ∷ []) = Ok (Told member crashed)
line_with Keywords.MasterDeliver (Values.Number partition ∷ Values.Number from ∷ Values.Number to ∷ Values.Number place ∷ []) = Ok (MasterDeliver partition from to place)
line_with Keywords.MasterLose (Values.Number partition ∷ Values.Number from ∷ Values.Number to ∷ Values.Number place ∷ []) = Ok (MasterLose partition from to place)
line_with Keywords.MasterResend (Values.Number partition ∷ Values.Number member ∷ []) = Ok (MasterResend partition member)
line_with Keywords.MasterFlow (Values.Number partition ∷ Values.Number most ∷ []) = Ok (MasterFlow partition most)
line_with Keywords.End [] = Ok End
line_with keyword values = Err Count

-- Whether a keyword stands where it can't: the grid's line is the first one, and no other is.
abbrev pub is_grid : Keyword → Bool
is_grid Keywords.Grid = true
is_grid keyword = false

abbrev pub is_misplaced : Bool → Keyword → Bool
is_misplaced true keyword = not (is_grid keyword)
is_misplaced false keyword = is_grid keyword

-- The causes in their order: the number of words, then the words from left to right.
abbrev pub line_of_fields : ℕ → Keyword → List (List ℕ) → Result Line LineWhy
line_of_fields members keyword words =
    if length words == length (fields_of keyword) then values_of members (fields_of keyword) words >>= line_with keyword
    else Err Count

-- Before them come an unknown first word, and a grid's line that isn't the first or another line that is.
abbrev pub line_of_words : Bool → ℕ → List (List ℕ) → Result Line LineWhy
line_of_words first members [] = Err Word
line_of_words first members (word ∷ words) =
    elim (keyword_of word) [
      | None ↦ Err Word
      | Some keyword ↦ if is_misplaced first keyword then Err NoGrid else line_of_fields members keyword words
    ]

-- A line that begins with `#` is a comment, except as the first line.
abbrev pub is_comment : Bool → List ℕ → Bool
is_comment first [] = false
is_comment first (byte ∷ bytes) = not first && (byte == 35)

-- the line that a text is, without its newline, in a grid of so many members
abbrev pub line_of : Bool → ℕ → List ℕ → Result Line LineWhy
line_of first members text = if is_comment first text then Ok Comment else line_of_words first members (words_of text)

abbrev pub is_end : Line → Bool
is_end End = true
is_end line = false

-- What a line that was read keeps to: its numbers are in their ranges, and its bytes have two digits each in the text.
abbrev pub IsWithin : ℕ → ℕ → Line → Type 0
IsWithin members size (Grid n backups capacity) = (1 ≤ n) × (n ≤ 8) × (backups ≤ 6) × (capacity ≤ 2147483647)
IsWithin members size (OpenConn conn member) = (conn ≤ 63) × (member < members)
IsWithin members size (Arrive conn bytes) = (conn ≤ 63) × (1 ≤ length bytes) × (2 * length bytes ≤ size)
IsWithin members size (Clock member moment) = (member < members) × (moment ≤ 18446744073709551615)
IsWithin members size (Deliver partition from to place) = (partition ≤ 270) × (from ≤ members) × (to ≤ members) × (place ≤ 18446744073709551615)
IsWithin members size (Lose partition from to place) = (partition ≤ 270) × (from ≤ members) × (to ≤ members) × (place ≤ 18446744073709551615)
IsWithin members size (Repeat partition from to place) = (partition ≤ 270) × (from ≤ members) × (to ≤ members) × (place ≤ 18446744073709551615)
IsWithin members size (Flow partition most) = (partition ≤ 270) × (1 ≤ most) × (most ≤ 1000)
IsWithin members size (FlowAll most) = (1 ≤ most) × (most ≤ 1000)
IsWithin members size (Resend partition end) = (partition ≤ 270) × (end ≤ members)
IsWithin members size (Crash member) = member < members
IsWithin members size (Detect member) = member < members
IsWithin members size (Move partition from to) = (partition ≤ 270) × (from < members) × (to < members)
IsWithin members size (Join partition to) = (partition ≤ 270) × (to < members)
IsWithin members size (Handover partition from to) = (partition ≤ 270) × (from < members) × (to < members)
IsWithin members size (Advance partition) = partition ≤ 270
IsWithin members size (Reopen partition) = partition ≤ 270
IsWithin members size (Rebalance most) = most ≤ 271
IsWithin members size (Dump partition member) = (partition ≤ 270) × (member < members)
IsWithin members size (Links partition) = partition ≤ 270
IsWithin members size (Trail partition) = partition ≤ 270
IsWithin members size (Near conn name capacity) = (conn ≤ 63) × (1 ≤ length name) × (2 * length name ≤ size) × (1 ≤ capacity) × (capacity ≤ 100000)
IsWithin members size (NearGet conn key) = (conn ≤ 63) × (1 ≤ length key) × (2 * length key ≤ size)
IsWithin members size (NearFeed conn most) = (conn ≤ 63) × (1 ≤ most) × (most ≤ 1000000)
IsWithin members size Masters = Unit {0}
IsWithin members size (Told member crashed) = (member < members) × (crashed < members)
IsWithin members size (MasterDeliver partition from to place) = (partition ≤ 270) × (from ≤ members) × (to ≤ members) × (place ≤ 18446744073709551615)
IsWithin members size (MasterLose partition from to place) = (partition ≤ 270) × (from ≤ members) × (to ≤ members) × (place ≤ 18446744073709551615)
IsWithin members size (MasterResend partition member) = (partition ≤ 270) × (member < members)
IsWithin members size (MasterFlow partition most) = (partition ≤ 270) × (1 ≤ most) × (most ≤ 1000)
IsWithin members size Comment = Unit {0}
IsWithin members size End = Unit {0}

-- the word that a transcript has for each cause
abbrev pub why_text : LineWhy → List ℕ
why_text Word = codes "word"
why_text NoGrid = codes "nogrid"
why_text Count = codes "count"
why_text Number = codes "number"
why_text Hex = codes "hex"
why_text NoEnd = codes "noend"
