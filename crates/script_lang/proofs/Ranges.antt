-- A line that was read keeps to its ranges.
use Rattle.std.proofs.Common.{◌≡◌, ℕ, ◌*◌, ◌≤◌, ◌==◌, Bool, true, false, not, cond, List, [], ◌∷◌, length, Option, Some, None, Result, Ok, Err, refl, sym, ap, subst, ◌∙◌, arith}
use Rattle.std.specs.Result.{result_ok}
use Rattle.std.proofs.lemmas.Bool.Decides.{nat_tests}
use Rattle.hex.specs.Hex.{decode_of}
use Rattle.hex.proofs.HexLemmas.{decode_of-ok}
use Rattle.hex.specs.declared.error.FromHexError.{FromHexError}
use Rattle.script_lang.specs.Words.{bytes_of, words_of, space}
use Rattle.script_lang.specs.Lines.{value_of, values_of, fields_of, keyword_of, line_with, is_grid, is_misplaced, line_of_fields, line_of_words, IsWithin, ◌>>=◌}
use Rattle.script_lang.specs.Readings.{Fit}
use Rattle.script_lang.proofs.Fitting.{Fits-value_of, Fit-values_of}
use Rattle.script_lang.proofs.Steps.{both_read}
use Rattle.script_lang.proofs.WordCounts.{AreShort, AreShort-pieces_at}
use Rattle.script_lang.specs.declared.fields.Field.{Field}
use Rattle.script_lang.specs.declared.fields.Field.TheVariants.{Hex as HexField}
use Rattle.script_lang.specs.declared.keywords.Keyword.{Keyword}
use Rattle.script_lang.specs.declared.keywords.Keyword.TheVariants as Keywords
use Rattle.script_lang.specs.declared.line.Line.{Line}
use Rattle.script_lang.specs.declared.line.Line.TheVariants.{Grid, OpenConn, Arrive, Clock, Deliver, Lose, Repeat, Flow, FlowAll, Resend, Crash, Detect, Move, Join, Handover, Advance, Reopen, Rebalance, Dump, Links, Trail, Near, NearGet, NearFeed, Masters, Told, MasterDeliver, MasterLose, MasterResend, MasterFlow, End}
use Rattle.script_lang.specs.declared.reading.Value.{Value}
use Rattle.script_lang.specs.declared.reading.Value.TheVariants as Values
use Rattle.script_lang.specs.declared.refusal.LineWhy.{LineWhy}
use Rattle.script_lang.specs.declared.refusal.LineWhy.TheVariants.{Word, NoGrid, Count, Hex}

-- Bytes have two digits each in the text, and there is one at least.
abbrev pub IsSized : ℕ → Value → Type 0
IsSized size (Values.Bytes bytes) = (1 ≤ length bytes) × (2 * length bytes ≤ size)
IsSized size value = Unit {0}

abbrev pub AreSized : ℕ → List Value → Type 0
AreSized size [] = Unit {0}
AreSized size (value ∷ values) = IsSized size value × AreSized size values

bytes_of-read : (size : ℕ) (word bytes : List ℕ) (decoded : Result (List ℕ) FromHexError) (b : Bool) → decode_of word ≡ decoded → (length word == 0) ≡ b → length word ≤ size
    → cond b None (result_ok decoded) ≡ Some bytes → (1 ≤ length bytes) × (2 * length bytes ≤ size)
bytes_of-read size word bytes decoded true is empty short e = absurd (let no : ◌≡◌ {A = Option (List ℕ)} None (Some bytes) = e in cc)
bytes_of-read size word bytes (Err why) false is empty short e = absurd (let no : ◌≡◌ {A = Option (List ℕ)} None (Some bytes) = e in cc)
bytes_of-read size word bytes (Ok read) false is empty short e =
    let same : read ≡ bytes = cc in
    let long = (decode_of-ok word read is).2 in
    (grind (arith, nat_tests, long, ap length same), omega (arith, long, ap length same))

abbrev as_bytes : Option (List ℕ) → Result Value LineWhy
as_bytes bytes = elim bytes [ None ↦ Err Hex | Some b ↦ Ok (Values.Bytes b) ]

as_bytes-read : (found : Option (List ℕ)) (bytes : List ℕ) → as_bytes found ≡ Ok (Values.Bytes bytes) → found ≡ Some bytes
as_bytes-read None bytes e = absurd (let no : ◌≡◌ {A = Result Value LineWhy} (Err Hex) (Ok (Values.Bytes bytes)) = e in cc)
as_bytes-read (Some read) bytes e = let whole : ◌≡◌ {A = Result Value LineWhy} (Ok (Values.Bytes read)) (Ok (Values.Bytes bytes)) = e in cc

IsSized-value_of : (members size : ℕ) (field : Field) (word : List ℕ) (value : Value) → length word ≤ size → value_of members field word ≡ Ok value → IsSized size value
IsSized-value_of members size field word (Values.Number n) short e = tt
IsSized-value_of members size field word Values.All short e = tt
IsSized-value_of members size HexField word (Values.Bytes bytes) short e = bytes_of-read size word bytes (decode_of word) (length word == 0) refl refl short (as_bytes-read (bytes_of word) bytes e)
IsSized-value_of members size field word (Values.Bytes bytes) short e = absurd (Fits-value_of members field word (Values.Bytes bytes) e)

AreSized-values_of : (members size : ℕ) (fields : List Field) (words : List (List ℕ)) (values : List Value) → AreShort size words → values_of members fields words ≡ Ok values → AreSized size values
AreSized-values_of members size [] words values short e = subst (AreSized size) (let none : [] ≡ values = cc in none) tt
AreSized-values_of members size (field ∷ fields) [] values short e = subst (AreSized size) (let none : [] ≡ values = cc in none) tt
AreSized-values_of members size (field ∷ fields) (word ∷ words) values short e =
    let first = both_read (value_of members field word) (λ (value : Value). values_of members fields words >>= (λ (rest : List Value). Ok (value ∷ rest))) values e in
    let others = both_read (values_of members fields words) (λ (rest : List Value). Ok (first.0 ∷ rest)) values first.2 in
    let whole : ◌≡◌ {A = Result (List Value) LineWhy} (Ok (first.0 ∷ others.0)) (Ok values) = others.2 in
    subst (AreSized size) (let is : first.0 ∷ others.0 ≡ values = cc in is)
    (IsSized-value_of members size field word first.0 short.0 first.1, AreSized-values_of members size fields words others.0 short.1 others.1)

-- the line of a keyword and its values

IsWithin-made : (members size : ℕ) (made line : Line) → ◌≡◌ {A = Result Line LineWhy} (Ok made) (Ok line) → IsWithin members size made → IsWithin members size line
IsWithin-made members size made line e within = subst (IsWithin members size) (let same : made ≡ line = cc in same) within

IsWithin-line_with : (members size : ℕ) (keyword : Keyword) (values : List Value) (line : Line) → (is_grid keyword ≡ false → 1 ≤ members) → Fit members (fields_of keyword) values → AreSized size values
    → line_with keyword values ≡ Ok line → IsWithin members size line
IsWithin-line_with members size Keywords.Grid (Values.Number n ∷ Values.Number backups ∷ Values.Number capacity ∷ []) line some fit sized e =
    IsWithin-made members size (Grid n backups capacity) line e (fit.0.0, fit.0.1, fit.1.0.1, fit.1.1.0.1)
IsWithin-line_with members size Keywords.Open (Values.Number conn ∷ Values.Number member ∷ []) line some fit sized e =
    IsWithin-made members size (OpenConn conn member) line e (fit.0.1, omega (arith, fit.1.0.1, some refl))
IsWithin-line_with members size Keywords.Bytes (Values.Number conn ∷ Values.Bytes bytes ∷ []) line some fit sized e =
    IsWithin-made members size (Arrive conn bytes) line e (fit.0.1, sized.1.0.0, sized.1.0.1)
IsWithin-line_with members size Keywords.Clock (Values.Number member ∷ Values.Number moment ∷ []) line some fit sized e =
    IsWithin-made members size (Clock member moment) line e (omega (arith, fit.0.1, some refl), fit.1.0.1)
IsWithin-line_with members size Keywords.Deliver (Values.Number partition ∷ Values.Number from ∷ Values.Number to ∷ Values.Number place ∷ []) line some fit sized e =
    IsWithin-made members size (Deliver partition from to place) line e (fit.0.1, fit.1.0.1, fit.1.1.0.1, fit.1.1.1.0.1)
IsWithin-line_with members size Keywords.Lose (Values.Number partition ∷ Values.Number from ∷ Values.Number to ∷ Values.Number place ∷ []) line some fit sized e =
    IsWithin-made members size (Lose partition from to place) line e (fit.0.1, fit.1.0.1, fit.1.1.0.1, fit.1.1.1.0.1)
IsWithin-line_with members size Keywords.Repeat (Values.Number partition ∷ Values.Number from ∷ Values.Number to ∷ Values.Number place ∷ []) line some fit sized e =
    IsWithin-made members size (Repeat partition from to place) line e (fit.0.1, fit.1.0.1, fit.1.1.0.1, fit.1.1.1.0.1)
IsWithin-line_with members size Keywords.Flow (Values.Number partition ∷ Values.Number most ∷ []) line some fit sized e =
    IsWithin-made members size (Flow partition most) line e (fit.0.1, fit.1.0.0, fit.1.0.1)
IsWithin-line_with members size Keywords.Flow (Values.All ∷ Values.Number most ∷ []) line some fit sized e =
    IsWithin-made members size (FlowAll most) line e (fit.1.0.0, fit.1.0.1)
IsWithin-line_with members size Keywords.Resend (Values.Number partition ∷ Values.Number end ∷ []) line some fit sized e =
    IsWithin-made members size (Resend partition end) line e (fit.0.1, fit.1.0.1)
IsWithin-line_with members size Keywords.Crash (Values.Number member ∷ []) line some fit sized e =
    IsWithin-made members size (Crash member) line e (omega (arith, fit.0.1, some refl))
IsWithin-line_with members size Keywords.Detect (Values.Number member ∷ []) line some fit sized e =
    IsWithin-made members size (Detect member) line e (omega (arith, fit.0.1, some refl))
IsWithin-line_with members size Keywords.Move (Values.Number partition ∷ Values.Number from ∷ Values.Number to ∷ []) line some fit sized e =
    IsWithin-made members size (Move partition from to) line e (fit.0.1, omega (arith, fit.1.0.1, some refl), omega (arith, fit.1.1.0.1, some refl))
IsWithin-line_with members size Keywords.Join (Values.Number partition ∷ Values.Number to ∷ []) line some fit sized e =
    IsWithin-made members size (Join partition to) line e (fit.0.1, omega (arith, fit.1.0.1, some refl))
IsWithin-line_with members size Keywords.Handover (Values.Number partition ∷ Values.Number from ∷ Values.Number to ∷ []) line some fit sized e =
    IsWithin-made members size (Handover partition from to) line e (fit.0.1, omega (arith, fit.1.0.1, some refl), omega (arith, fit.1.1.0.1, some refl))
IsWithin-line_with members size Keywords.Advance (Values.Number partition ∷ []) line some fit sized e =
    IsWithin-made members size (Advance partition) line e (fit.0.1)
IsWithin-line_with members size Keywords.Reopen (Values.Number partition ∷ []) line some fit sized e =
    IsWithin-made members size (Reopen partition) line e (fit.0.1)
IsWithin-line_with members size Keywords.Rebalance (Values.Number most ∷ []) line some fit sized e =
    IsWithin-made members size (Rebalance most) line e (fit.0.1)
IsWithin-line_with members size Keywords.Dump (Values.Number partition ∷ Values.Number member ∷ []) line some fit sized e =
    IsWithin-made members size (Dump partition member) line e (fit.0.1, omega (arith, fit.1.0.1, some refl))
IsWithin-line_with members size Keywords.Links (Values.Number partition ∷ []) line some fit sized e =
    IsWithin-made members size (Links partition) line e (fit.0.1)
IsWithin-line_with members size Keywords.Trail (Values.Number partition ∷ []) line some fit sized e =
    IsWithin-made members size (Trail partition) line e (fit.0.1)
IsWithin-line_with members size Keywords.Near (Values.Number conn ∷ Values.Bytes name ∷ Values.Number capacity ∷ []) line some fit sized e =
    IsWithin-made members size (Near conn name capacity) line e (fit.0.1, sized.1.0.0, sized.1.0.1, fit.1.1.0.0, fit.1.1.0.1)
IsWithin-line_with members size Keywords.NearGet (Values.Number conn ∷ Values.Bytes key ∷ []) line some fit sized e =
    IsWithin-made members size (NearGet conn key) line e (fit.0.1, sized.1.0.0, sized.1.0.1)
IsWithin-line_with members size Keywords.NearFeed (Values.Number conn ∷ Values.Number most ∷ []) line some fit sized e =
    IsWithin-made members size (NearFeed conn most) line e (fit.0.1, fit.1.0.0, fit.1.0.1)
IsWithin-line_with members size Keywords.Masters [] line some fit sized e = IsWithin-made members size Masters line e tt
IsWithin-line_with members size Keywords.Told (Values.Number member ∷ Values.Number crashed ∷ []) line some fit sized e =
    IsWithin-made members size (Told member crashed) line e (omega (arith, fit.0.1, some refl), omega (arith, fit.1.0.1, some refl))
IsWithin-line_with members size Keywords.MasterDeliver (Values.Number partition ∷ Values.Number from ∷ Values.Number to ∷ Values.Number place ∷ []) line some fit sized e =
    IsWithin-made members size (MasterDeliver partition from to place) line e (fit.0.1, fit.1.0.1, fit.1.1.0.1, fit.1.1.1.0.1)
IsWithin-line_with members size Keywords.MasterLose (Values.Number partition ∷ Values.Number from ∷ Values.Number to ∷ Values.Number place ∷ []) line some fit sized e =
    IsWithin-made members size (MasterLose partition from to place) line e (fit.0.1, fit.1.0.1, fit.1.1.0.1, fit.1.1.1.0.1)
IsWithin-line_with members size Keywords.MasterResend (Values.Number partition ∷ Values.Number member ∷ []) line some fit sized e =
    IsWithin-made members size (MasterResend partition member) line e (fit.0.1, omega (arith, fit.1.0.1, some refl))
IsWithin-line_with members size Keywords.MasterFlow (Values.Number partition ∷ Values.Number most ∷ []) line some fit sized e =
    IsWithin-made members size (MasterFlow partition most) line e (fit.0.1, fit.1.0.0, fit.1.0.1)
IsWithin-line_with members size Keywords.End [] line some fit sized e = IsWithin-made members size End line e tt
IsWithin-line_with members size keyword values line some fit sized e = absurd (let no : ◌≡◌ {A = Result Line LineWhy} (Err Count) (Ok line) = e in cc)

IsWithin-line_of_fields : (members size : ℕ) (keyword : Keyword) (words : List (List ℕ)) (line : Line) (b : Bool) → (length words == length (fields_of keyword)) ≡ b → (is_grid keyword ≡ false → 1 ≤ members) → AreShort size words
    → cond b (values_of members (fields_of keyword) words >>= line_with keyword) (Err Count) ≡ Ok line → IsWithin members size line
IsWithin-line_of_fields members size keyword words line false is some short e = absurd (let no : ◌≡◌ {A = Result Line LineWhy} (Err Count) (Ok line) = e in cc)
IsWithin-line_of_fields members size keyword words line true is some short e =
    let values = both_read (values_of members (fields_of keyword) words) (line_with keyword) line e in
    let fit = Fit-values_of members (fields_of keyword) words values.0 (grind (arith, nat_tests)) values.1 in
    IsWithin-line_with members size keyword values.0 line some fit (AreSized-values_of members size (fields_of keyword) words values.0 short values.1) values.2

-- a keyword that isn't the grid's stands behind the first line
not_first : (first : Bool) (keyword : Keyword) → is_misplaced first keyword ≡ false → is_grid keyword ≡ false → first ≡ false
not_first false keyword placed other = refl
not_first true keyword placed other = absurd (let no : true ≡ false = ap not (sym other) ∙ placed in cc)

abbrev with_keyword : Bool → ℕ → List (List ℕ) → Option Keyword → Result Line LineWhy
with_keyword first members words found = elim found [ None ↦ Err Word | Some keyword ↦ cond (is_misplaced first keyword) (Err NoGrid) (line_of_fields members keyword words) ]

IsWithin-placed : (first : Bool) (members size : ℕ) (keyword : Keyword) (words : List (List ℕ)) (line : Line) (b : Bool) → is_misplaced first keyword ≡ b → (first ≡ false → 1 ≤ members) → AreShort size words
    → cond b (Err NoGrid) (line_of_fields members keyword words) ≡ Ok line → IsWithin members size line
IsWithin-placed first members size keyword words line true is some short e = absurd (let no : ◌≡◌ {A = Result Line LineWhy} (Err NoGrid) (Ok line) = e in cc)
IsWithin-placed first members size keyword words line false is some short e =
    IsWithin-line_of_fields members size keyword words line (length words == length (fields_of keyword)) refl (λ other. some (not_first first keyword is other)) short e

IsWithin-with_keyword : (first : Bool) (members size : ℕ) (words : List (List ℕ)) (line : Line) (found : Option Keyword) → (first ≡ false → 1 ≤ members) → AreShort size words → with_keyword first members words found ≡ Ok line → IsWithin members size line
IsWithin-with_keyword first members size words line None some short e = absurd (let no : ◌≡◌ {A = Result Line LineWhy} (Err Word) (Ok line) = e in cc)
IsWithin-with_keyword first members size words line (Some keyword) some short e = IsWithin-placed first members size keyword words line (is_misplaced first keyword) refl some short e

IsWithin-line_of_words : (first : Bool) (members size : ℕ) (words : List (List ℕ)) (line : Line) → (first ≡ false → 1 ≤ members) → AreShort size words → line_of_words first members words ≡ Ok line → IsWithin members size line
IsWithin-line_of_words first members size [] line some short e = absurd (let no : ◌≡◌ {A = Result Line LineWhy} (Err Word) (Ok line) = e in cc)
IsWithin-line_of_words first members size (word ∷ words) line some short e = IsWithin-with_keyword first members size words line (keyword_of word) some short.1 e

-- the words of a text are a line within its ranges
pub IsWithin-words_of : (first : Bool) (members : ℕ) (text : List ℕ) (line : Line) → (first ≡ false → 1 ≤ members) → line_of_words first members (words_of text) ≡ Ok line → IsWithin members (length text) line
IsWithin-words_of first members text line some e = IsWithin-line_of_words first members (length text) (words_of text) line some (AreShort-pieces_at space text) e
