-- How a line is spelled, and that it is read so.
use Rattle.std.specs.Prelude.{◌≡◌, ℕ, ◌≤◌, Bool, true, false, List, [], ◌∷◌, length, Ok, codes, decimal}
use Rattle.std.specs.List.{join_with_byte}
use Rattle.hex.specs.Hex.{encode_lower, IsBytes}
use Rattle.script_lang.specs.Words.{space}
use Rattle.script_lang.specs.Lines.{IsWithin, line_of}
use Rattle.script_lang.specs.declared.line.Line.{Line}
use Rattle.script_lang.specs.declared.line.Line.TheVariants.{Grid, OpenConn, Arrive, Clock, Deliver, Lose, Repeat, Flow, FlowAll, Resend, Crash, Detect, Move, Join, Handover, Advance, Reopen, Rebalance, Dump, Links, Trail, Near, NearGet, NearFeed, Masters, Told, MasterDeliver, MasterLose, MasterResend, MasterFlow, Comment, End}

abbrev pub spelled_words : Line → List (List ℕ)
spelled_words (Grid members backups capacity) = codes "grid" ∷ decimal members ∷ decimal backups ∷ decimal capacity ∷ []
spelled_words (OpenConn conn member) = codes "open" ∷ decimal conn ∷ decimal member ∷ []
spelled_words (Arrive conn bytes) = codes "bytes" ∷ decimal conn ∷ encode_lower bytes ∷ []
spelled_words (Clock member moment) = codes "clock" ∷ decimal member ∷ decimal moment ∷ []
spelled_words (Deliver partition from to place) = codes "deliver" ∷ decimal partition ∷ decimal from ∷ decimal to ∷ decimal place ∷ []
spelled_words (Lose partition from to place) = codes "lose" ∷ decimal partition ∷ decimal from ∷ decimal to ∷ decimal place ∷ []
spelled_words (Repeat partition from to place) = codes "repeat" ∷ decimal partition ∷ decimal from ∷ decimal to ∷ decimal place ∷ []
spelled_words (Flow partition most) = codes "flow" ∷ decimal partition ∷ decimal most ∷ []
spelled_words (FlowAll most) = codes "flow" ∷ codes "all" ∷ decimal most ∷ []
spelled_words (Resend partition end) = codes "resend" ∷ decimal partition ∷ decimal end ∷ []
spelled_words (Crash member) = codes "crash" ∷ decimal member ∷ []
spelled_words (Detect member) = codes "detect" ∷ decimal member ∷ []
spelled_words (Move partition from to) = codes "move" ∷ decimal partition ∷ decimal from ∷ decimal to ∷ []
spelled_words (Join partition to) = codes "join" ∷ decimal partition ∷ decimal to ∷ []
spelled_words (Handover partition from to) = codes "handover" ∷ decimal partition ∷ decimal from ∷ decimal to ∷ []
spelled_words (Advance partition) = codes "advance" ∷ decimal partition ∷ []
spelled_words (Reopen partition) = codes "reopen" ∷ decimal partition ∷ []
spelled_words (Rebalance most) = codes "rebalance" ∷ decimal most ∷ []
spelled_words (Dump partition member) = codes "dump" ∷ decimal partition ∷ decimal member ∷ []
spelled_words (Links partition) = codes "links" ∷ decimal partition ∷ []
spelled_words (Trail partition) = codes "trail" ∷ decimal partition ∷ []
spelled_words (Near conn name capacity) = codes "near" ∷ decimal conn ∷ encode_lower name ∷ decimal capacity ∷ []
spelled_words (NearGet conn key) = codes "nearget" ∷ decimal conn ∷ encode_lower key ∷ []
spelled_words (NearFeed conn most) = codes "nearfeed" ∷ decimal conn ∷ decimal most ∷ []
spelled_words Masters = codes "masters" ∷ []
spelled_words (Told member crashed) = codes "told" ∷ decimal member ∷ decimal crashed ∷ []
spelled_words (MasterDeliver partition from to place) = codes "mdeliver" ∷ decimal partition ∷ decimal from ∷ decimal to ∷ decimal place ∷ []
spelled_words (MasterLose partition from to place) = codes "mlose" ∷ decimal partition ∷ decimal from ∷ decimal to ∷ decimal place ∷ []
spelled_words (MasterResend partition member) = codes "mresend" ∷ decimal partition ∷ decimal member ∷ []
spelled_words (MasterFlow partition most) = codes "mflow" ∷ decimal partition ∷ decimal most ∷ []
spelled_words Comment = codes "#" ∷ []
spelled_words End = codes "end" ∷ []

abbrev pub spelled : Line → List ℕ
spelled line = join_with_byte space (spelled_words line)

-- The grid's line is the first one.
abbrev pub is_first : Line → Bool
is_first (Grid members backups capacity) = true
is_first line = false

-- What a line brings are bytes.
abbrev pub BringsBytes : Line → Type 0
BringsBytes (Arrive conn bytes) = IsBytes bytes
BringsBytes (Near conn name capacity) = IsBytes name
BringsBytes (NearGet conn key) = IsBytes key
BringsBytes line = Unit {0}

-- Each line within its ranges is read from its spelling.
abbrev pub lines_are_read_as_spelled : Type 0
lines_are_read_as_spelled =
    (members : ℕ) (line : Line) → members ≤ 8 → BringsBytes line → IsWithin members (length (spelled line)) line →
    line_of (is_first line) members (spelled line) ≡ Ok line

-- Behind the first line whatever begins with `#` is a comment.
abbrev pub comments_say_nothing : Type 0
comments_say_nothing = (members : ℕ) (text : List ℕ) → line_of false members (35 ∷ text) ≡ Ok Comment
