-- A line is read from its spelling.
use Rattle.std.proofs.Common.{◌≡◌, ℕ, ◌<◌, ◌≤◌, ◌^◌, ◌==◌, Bool, true, false, not, List, [], ◌∷◌, length, map, Result, Ok, refl, ap, ◌∙◌, arith}
use Rattle.std.specs.Prelude.{codes}
use Rattle.std.specs.Fmt.{decimal}
use Rattle.std.specs.List.{list_all, join_with_byte}
use Rattle.hex.specs.Hex.{encode_lower, IsBytes}
use Rattle.script_lang.specs.Words.{space}
use Rattle.script_lang.specs.Lines.{range_of, value_of, values_of, fields_of, line_with, line_of_words, is_comment, line_of, ◌>>=◌}
use Rattle.script_lang.specs.Spelling.{spelled, lines_are_read_as_spelled, comments_say_nothing}
use Rattle.script_lang.specs.declared.fields.Field.{Field}
use Rattle.script_lang.specs.declared.fields.Field.TheVariants.{Connection, Member, LinkEnd, Partition, PartitionOrAll, Place, Deliveries, Entries, Hex as HexField}
use Rattle.script_lang.specs.declared.keywords.Keyword.{Keyword}
use Rattle.script_lang.specs.declared.keywords.Keyword.TheVariants as Keywords
use Rattle.script_lang.specs.declared.line.Line.{Line}
use Rattle.script_lang.specs.declared.line.Line.TheVariants.{Grid, OpenConn, Arrive, Clock, Deliver, Lose, Repeat, Flow, FlowAll, Resend, Crash, Detect, Move, Join, Handover, Advance, Reopen, Rebalance, Dump, Links, Trail, Near, NearGet, NearFeed, Masters, Told, MasterDeliver, MasterLose, MasterResend, MasterFlow, Comment, End}
use Rattle.script_lang.specs.declared.reading.Value.{Value}
use Rattle.script_lang.specs.declared.reading.Value.TheVariants as Values
use Rattle.script_lang.specs.declared.refusal.LineWhy.{LineWhy}
use Rattle.script_lang.proofs.SpelledWords.{AreWords, words_of-joined, IsWord-literal, IsWord-decimal, number_value-decimal, no_number_is_all, IsWord-encode_lower, hex_value-encode_lower}

-- one value more in front
values_of-cons : (members : ℕ) (field : Field) (fields : List Field) (word : List ℕ) (words : List (List ℕ)) (value : Value) (values : List Value)
    → value_of members field word ≡ Ok value → values_of members fields words ≡ Ok values → values_of members (field ∷ fields) (word ∷ words) ≡ Ok (value ∷ values)
values_of-cons members field fields word words value values first others = rw (first, others, values_of) refl

-- the line of the words is that of the text that joins them
line_of-joined : (first : Bool) (members : ℕ) (word : List ℕ) (words : List (List ℕ)) (line : Line) → is_comment first (join_with_byte space (word ∷ words)) ≡ false → AreWords (word ∷ words)
    → line_of_words first members (word ∷ words) ≡ Ok line → line_of first members (join_with_byte space (word ∷ words)) ≡ Ok line
line_of-joined first members word words line other are e = rw other (ap (line_of_words first members) (words_of-joined word words are) ∙ e)

-- Numbers.

-- a field that is a number, or may be one
abbrev IsNumeric : Field → Type 0
IsNumeric HexField = ⊥
IsNumeric field = Unit {0}

abbrev IsNumberOf : ℕ → Field → ℕ → Type 0
IsNumberOf members field n = IsNumeric field × (n < 2 ^ 64) × (range_of members field).least ≤ n × n ≤ (range_of members field).most

abbrev AreNumbersOf : ℕ → List Field → List ℕ → Type 0
AreNumbersOf members [] [] = Unit {0}
AreNumbersOf members (field ∷ fields) (n ∷ ns) = IsNumberOf members field n × AreNumbersOf members fields ns
AreNumbersOf members fields ns = ⊥

value_of-decimal : (members : ℕ) (field : Field) (n : ℕ) → IsNumberOf members field n → value_of members field (decimal n) ≡ Ok (Values.Number n)
value_of-decimal members HexField n is = absurd is.0
value_of-decimal members PartitionOrAll n is = rw (no_number_is_all n is.1) (number_value-decimal (range_of members PartitionOrAll) n is.1 (is.2, is.3))
value_of-decimal members field n is = number_value-decimal (range_of members field) n is.1 (is.2, is.3)

values_of-decimals : (members : ℕ) (fields : List Field) (ns : List ℕ) → AreNumbersOf members fields ns → values_of members fields (map decimal ns) ≡ Ok (map Values.Number ns)
values_of-decimals members [] [] are = refl
values_of-decimals members [] (n ∷ ns) are = absurd are
values_of-decimals members (field ∷ fields) [] are = absurd are
values_of-decimals members (field ∷ fields) (n ∷ ns) are =
    values_of-cons members field fields (decimal n) (map decimal ns) (Values.Number n) (map Values.Number ns) (value_of-decimal members field n are.0) (values_of-decimals members fields ns are.1)

AreWords-decimals : (members : ℕ) (fields : List Field) (ns : List ℕ) → AreNumbersOf members fields ns → AreWords (map decimal ns)
AreWords-decimals members [] [] are = tt
AreWords-decimals members [] (n ∷ ns) are = absurd are
AreWords-decimals members (field ∷ fields) [] are = absurd are
AreWords-decimals members (field ∷ fields) (n ∷ ns) are = (IsWord-decimal n are.0.1, AreWords-decimals members fields ns are.1)

-- the line of a keyword and numbers
numbers_again : (first : Bool) (members : ℕ) (word : List ℕ) (keyword : Keyword) (ns : List ℕ) (line : Line) → is_comment first (join_with_byte space (word ∷ map decimal ns)) ≡ false
    → list_all (λ x. not (x == space)) word ≡ true → AreNumbersOf members (fields_of keyword) ns
    → line_of_words first members (word ∷ map decimal ns) ≡ values_of members (fields_of keyword) (map decimal ns) >>= line_with keyword → line_with keyword (map Values.Number ns) ≡ Ok line
    → line_of first members (join_with_byte space (word ∷ map decimal ns)) ≡ Ok line
numbers_again first members word keyword ns line other is are steps made =
    line_of-joined first members word (map decimal ns) line other (IsWord-literal word is, AreWords-decimals members (fields_of keyword) ns are)
    (steps ∙ ap (λ (read : Result (List Value) LineWhy). read >>= line_with keyword) (values_of-decimals members (fields_of keyword) ns are) ∙ made)

is_member : (members n : ℕ) → members ≤ 8 → n < members → IsNumberOf members Member n
is_member members n few within = (tt, omega arith, omega arith, omega arith)

is_end : (members n : ℕ) → members ≤ 8 → n ≤ members → IsNumberOf members LinkEnd n
is_end members n few within = (tt, omega arith, omega arith, omega arith)

is_partition : (members n : ℕ) → n ≤ 270 → IsNumberOf members Partition n
is_partition members n within = (tt, omega arith, omega arith, within)

is_place : (members n : ℕ) → n ≤ 18446744073709551615 → IsNumberOf members Place n
is_place members n within = (tt, omega arith, omega arith, within)

-- Lines.

-- the values of a connection and bytes, and of a connection, bytes and how many entries a near cache has
hex_values : (members : ℕ) (bytes : List ℕ) → IsBytes bytes → 1 ≤ length bytes → values_of members (HexField ∷ []) (encode_lower bytes ∷ []) ≡ Ok (Values.Bytes bytes ∷ [])
hex_values members bytes are some = values_of-cons members HexField [] (encode_lower bytes) [] (Values.Bytes bytes) [] (hex_value-encode_lower bytes are some) refl

conn_values : (members conn : ℕ) (fields : List Field) (words : List (List ℕ)) (values : List Value) → conn ≤ 63 → values_of members fields words ≡ Ok values
    → values_of members (Connection ∷ fields) (decimal conn ∷ words) ≡ Ok (Values.Number conn ∷ values)
conn_values members conn fields words values within others =
    values_of-cons members Connection fields (decimal conn) words (Values.Number conn) values (number_value-decimal (range_of members Connection) conn (omega (arith, within)) (omega arith, within)) others

-- a line of a connection and bytes
bytes_again : (members conn : ℕ) (bytes word : List ℕ) (keyword : Keyword) (line : Line) → IsBytes bytes → conn ≤ 63 → 1 ≤ length bytes
    → is_comment false (join_with_byte space (word ∷ decimal conn ∷ encode_lower bytes ∷ [])) ≡ false → list_all (λ x. not (x == space)) word ≡ true
    → line_of_words false members (word ∷ decimal conn ∷ encode_lower bytes ∷ []) ≡ values_of members (Connection ∷ HexField ∷ []) (decimal conn ∷ encode_lower bytes ∷ []) >>= line_with keyword
    → line_with keyword (Values.Number conn ∷ Values.Bytes bytes ∷ []) ≡ Ok line → line_of false members (join_with_byte space (word ∷ decimal conn ∷ encode_lower bytes ∷ [])) ≡ Ok line
bytes_again members conn bytes word keyword line are within some other is steps made =
    let values = conn_values members conn (HexField ∷ []) (encode_lower bytes ∷ []) (Values.Bytes bytes ∷ []) within (hex_values members bytes are some) in
    line_of-joined false members word (decimal conn ∷ encode_lower bytes ∷ []) line other
    (IsWord-literal word is, (IsWord-decimal conn (omega (arith, within)), (IsWord-encode_lower bytes are, tt)))
    (steps ∙ ap (λ (read : Result (List Value) LineWhy). read >>= line_with keyword) values ∙ made)

near_again : (members conn capacity : ℕ) (name : List ℕ) → IsBytes name → conn ≤ 63 → 1 ≤ length name → (1 ≤ capacity) × (capacity ≤ 100000)
    → line_of false members (spelled (Near conn name capacity)) ≡ Ok (Near conn name capacity)
near_again members conn capacity name are within some entries =
    let last = values_of-decimals members (Entries ∷ []) (capacity ∷ []) ((tt, omega (arith, entries.1), entries.0, entries.1), tt) in
    let behind = values_of-cons members HexField (Entries ∷ []) (encode_lower name) (decimal capacity ∷ []) (Values.Bytes name) (Values.Number capacity ∷ []) (hex_value-encode_lower name are some) last in
    let values = conn_values members conn (HexField ∷ Entries ∷ []) (encode_lower name ∷ decimal capacity ∷ []) (Values.Bytes name ∷ Values.Number capacity ∷ []) within behind in
    line_of-joined false members (codes "near") (decimal conn ∷ encode_lower name ∷ decimal capacity ∷ []) (Near conn name capacity) refl
    (IsWord-literal (codes "near") refl, (IsWord-decimal conn (omega (arith, within)), (IsWord-encode_lower name are, (IsWord-decimal capacity (omega (arith, entries.1)), tt))))
    (ap (λ (read : Result (List Value) LineWhy). read >>= line_with Keywords.Near) values)

all_again : (members most : ℕ) → (1 ≤ most) × (most ≤ 1000) → line_of false members (spelled (FlowAll most)) ≡ Ok (FlowAll most)
all_again members most within =
    let are : AreNumbersOf members (Deliveries ∷ []) (most ∷ []) = ((tt, omega (arith, within.1), within.0, within.1), tt) in
    let values : values_of members (PartitionOrAll ∷ Deliveries ∷ []) (codes "all" ∷ decimal most ∷ []) ≡ Ok (Values.All ∷ Values.Number most ∷ []) =
    values_of-cons members PartitionOrAll (Deliveries ∷ []) (codes "all") (decimal most ∷ []) Values.All (Values.Number most ∷ []) refl (values_of-decimals members (Deliveries ∷ []) (most ∷ []) are) in
    line_of-joined false members (codes "flow") (codes "all" ∷ decimal most ∷ []) (FlowAll most) refl
    (IsWord-literal (codes "flow") refl, (IsWord-literal (codes "all") refl, (IsWord-decimal most (omega (arith, within.1)), tt)))
    (ap (λ (read : Result (List Value) LineWhy). read >>= line_with Keywords.Flow) values)

pub read_again : lines_are_read_as_spelled
read_again members (Grid n backups capacity) few brings within =
    numbers_again true members (codes "grid") Keywords.Grid (n ∷ backups ∷ capacity ∷ []) (Grid n backups capacity) refl refl ((tt, omega (arith, within.1), within.0, within.1), ((tt, omega (arith, within.2), omega arith, within.2), ((tt, omega (arith, within.3), omega arith, within.3), tt))) refl refl
read_again members (OpenConn conn member) few brings within =
    numbers_again false members (codes "open") Keywords.Open (conn ∷ member ∷ []) (OpenConn conn member) refl refl ((tt, omega (arith, within.0), omega arith, within.0), (is_member members member few within.1, tt)) refl refl
read_again members (Arrive conn bytes) few brings within = bytes_again members conn bytes (codes "bytes") Keywords.Bytes (Arrive conn bytes) brings within.0 within.1 refl refl refl refl
read_again members (Clock member moment) few brings within =
    numbers_again false members (codes "clock") Keywords.Clock (member ∷ moment ∷ []) (Clock member moment) refl refl (is_member members member few within.0, ((tt, omega (arith, within.1), omega arith, within.1), tt)) refl refl
read_again members (Deliver partition from to place) few brings within =
    numbers_again false members (codes "deliver") Keywords.Deliver (partition ∷ from ∷ to ∷ place ∷ []) (Deliver partition from to place) refl refl (is_partition members partition within.0, (is_end members from few within.1, (is_end members to few within.2, (is_place members place within.3, tt)))) refl refl
read_again members (Lose partition from to place) few brings within =
    numbers_again false members (codes "lose") Keywords.Lose (partition ∷ from ∷ to ∷ place ∷ []) (Lose partition from to place) refl refl (is_partition members partition within.0, (is_end members from few within.1, (is_end members to few within.2, (is_place members place within.3, tt)))) refl refl
read_again members (Repeat partition from to place) few brings within =
    numbers_again false members (codes "repeat") Keywords.Repeat (partition ∷ from ∷ to ∷ place ∷ []) (Repeat partition from to place) refl refl (is_partition members partition within.0, (is_end members from few within.1, (is_end members to few within.2, (is_place members place within.3, tt)))) refl refl
read_again members (Flow partition most) few brings within =
    numbers_again false members (codes "flow") Keywords.Flow (partition ∷ most ∷ []) (Flow partition most) refl refl ((tt, omega (arith, within.0), omega arith, within.0), ((tt, omega (arith, within.2), within.1, within.2), tt)) refl refl
read_again members (FlowAll most) few brings within = all_again members most within
read_again members (Resend partition end) few brings within =
    numbers_again false members (codes "resend") Keywords.Resend (partition ∷ end ∷ []) (Resend partition end) refl refl (is_partition members partition within.0, (is_end members end few within.1, tt)) refl refl
read_again members (Crash member) few brings within =
    numbers_again false members (codes "crash") Keywords.Crash (member ∷ []) (Crash member) refl refl (is_member members member few within, tt) refl refl
read_again members (Detect member) few brings within =
    numbers_again false members (codes "detect") Keywords.Detect (member ∷ []) (Detect member) refl refl (is_member members member few within, tt) refl refl
read_again members (Move partition from to) few brings within =
    numbers_again false members (codes "move") Keywords.Move (partition ∷ from ∷ to ∷ []) (Move partition from to) refl refl (is_partition members partition within.0, (is_member members from few within.1, (is_member members to few within.2, tt))) refl refl
read_again members (Join partition to) few brings within =
    numbers_again false members (codes "join") Keywords.Join (partition ∷ to ∷ []) (Join partition to) refl refl (is_partition members partition within.0, (is_member members to few within.1, tt)) refl refl
read_again members (Handover partition from to) few brings within =
    numbers_again false members (codes "handover") Keywords.Handover (partition ∷ from ∷ to ∷ []) (Handover partition from to) refl refl (is_partition members partition within.0, (is_member members from few within.1, (is_member members to few within.2, tt))) refl refl
read_again members (Advance partition) few brings within =
    numbers_again false members (codes "advance") Keywords.Advance (partition ∷ []) (Advance partition) refl refl (is_partition members partition within, tt) refl refl
read_again members (Reopen partition) few brings within =
    numbers_again false members (codes "reopen") Keywords.Reopen (partition ∷ []) (Reopen partition) refl refl (is_partition members partition within, tt) refl refl
read_again members (Rebalance most) few brings within =
    numbers_again false members (codes "rebalance") Keywords.Rebalance (most ∷ []) (Rebalance most) refl refl ((tt, omega (arith, within), omega arith, within), tt) refl refl
read_again members (Dump partition member) few brings within =
    numbers_again false members (codes "dump") Keywords.Dump (partition ∷ member ∷ []) (Dump partition member) refl refl (is_partition members partition within.0, (is_member members member few within.1, tt)) refl refl
read_again members (Links partition) few brings within =
    numbers_again false members (codes "links") Keywords.Links (partition ∷ []) (Links partition) refl refl (is_partition members partition within, tt) refl refl
read_again members (Trail partition) few brings within =
    numbers_again false members (codes "trail") Keywords.Trail (partition ∷ []) (Trail partition) refl refl (is_partition members partition within, tt) refl refl
read_again members (Near conn name capacity) few brings within = near_again members conn capacity name brings within.0 within.1 (within.3, within.4)
read_again members (NearGet conn key) few brings within = bytes_again members conn key (codes "nearget") Keywords.NearGet (NearGet conn key) brings within.0 within.1 refl refl refl refl
read_again members (NearFeed conn most) few brings within =
    numbers_again false members (codes "nearfeed") Keywords.NearFeed (conn ∷ most ∷ []) (NearFeed conn most) refl refl ((tt, omega (arith, within.0), omega arith, within.0), ((tt, omega (arith, within.2), within.1, within.2), tt)) refl refl
read_again members Masters few brings within = line_of-joined false members (codes "masters") [] Masters refl (IsWord-literal (codes "masters") refl, tt) refl
read_again members (Told member crashed) few brings within =
    numbers_again false members (codes "told") Keywords.Told (member ∷ crashed ∷ []) (Told member crashed) refl refl (is_member members member few within.0, (is_member members crashed few within.1, tt)) refl refl
read_again members (MasterDeliver partition from to place) few brings within =
    numbers_again false members (codes "mdeliver") Keywords.MasterDeliver (partition ∷ from ∷ to ∷ place ∷ []) (MasterDeliver partition from to place) refl refl (is_partition members partition within.0, (is_end members from few within.1, (is_end members to few within.2, (is_place members place within.3, tt)))) refl refl
read_again members (MasterLose partition from to place) few brings within =
    numbers_again false members (codes "mlose") Keywords.MasterLose (partition ∷ from ∷ to ∷ place ∷ []) (MasterLose partition from to place) refl refl (is_partition members partition within.0, (is_end members from few within.1, (is_end members to few within.2, (is_place members place within.3, tt)))) refl refl
read_again members (MasterResend partition member) few brings within =
    numbers_again false members (codes "mresend") Keywords.MasterResend (partition ∷ member ∷ []) (MasterResend partition member) refl refl (is_partition members partition within.0, (is_member members member few within.1, tt)) refl refl
read_again members (MasterFlow partition most) few brings within =
    numbers_again false members (codes "mflow") Keywords.MasterFlow (partition ∷ most ∷ []) (MasterFlow partition most) refl refl (is_partition members partition within.0, ((tt, omega (arith, within.2), within.1, within.2), tt)) refl refl
read_again members Comment few brings within = refl
read_again members End few brings within = line_of-joined false members (codes "end") [] End refl (IsWord-literal (codes "end") refl, tt) refl

pub comments_again : comments_say_nothing
comments_again members text = refl
