-- In what order a loop's calls were run, by its journal.
use Rattle.std.specs.Prelude.{◌≡◌, ℕ, ◌<◌, ◌≤◌, List, [], length, map, Option, Some, None, IsSomeAnd, slice_get}
use Rattle.hand_cell.specs.declared.names.Key.{Key}
use Rattle.hand_cell.specs.Told.{Told, SeesMore, having_seen}
use Rattle.loop_journal.specs.Journals.{call_in}
use Rattle.loop_journal.specs.declared.entry.Entry.{Entry}
use Rattle.loop_journal.specs.declared.entry.Entry.TheVariants.{Started, Finished}
use Rattle.loop_journal.specs.declared.entry.NotedCall.{NotedCall}
use Rattle.live_session.specs.Connections.{StandsAt}

-- The start of a call and its finish are noted, in this order
pub record IsNoted (journal : List Entry) (call : NotedCall) : Type 0 where
  pub start : ℕ
  pub finish : ℕ
  pub started : slice_get journal start ≡ Some (Started call)
  pub finished : slice_get journal finish ≡ Some (Finished call)
  pub in_turn : start < finish

module _ {E : Type 0} (key_of : E → Key) where
  -- the event of the call stands at this place in what was seen of its partition
  pub record WasSeenAt (passes : List (Told E)) (call : NotedCall) (place : ℕ) : Type 0 where
    pub pass : Told E
    pub there : slice_get passes call.partition ≡ Some pass
    pub stands : StandsAt key_of call.id pass.seen place

  -- Each call whose event was seen is noted. Where it was finished before another one of its partition was started, its event stands first
  pub record KeepsOrder (journal : List Entry) (passes : List (Told E)) : Type 0 where
    pub noted : (call : NotedCall) (place : ℕ) → WasSeenAt passes call place → IsNoted journal call
    pub in_order : (first second : NotedCall) (place place' : ℕ) (one : WasSeenAt passes first place) (two : WasSeenAt passes second place') → first.partition ≡ second.partition
        → (noted first place one).finish < (noted second place' two).start → place < place'

-- What a loop keeps for it

-- an entry of the journal; and where it is of a call, how many events of the call's partition the loop's passes had seen then
pub record Mark : Type 0 where
  pub entry : Entry
  pub count : ℕ

-- the entries of which these are the marks
abbrev pub entries_of : List Mark → List Entry
entries_of marks = map (λ mark. mark.entry) marks

-- the mark is of a call of this partition
abbrev pub IsMarkIn : Mark → ℕ → Type 0
IsMarkIn mark partition = IsSomeAnd (call_in mark.entry) (λ call. call.partition ≡ partition)

-- The call's event stands at this place: behind all that was seen as the call was started, and among what was seen as it was finished
pub record IsBetween (marks : List Mark) (call : NotedCall) (place : ℕ) : Type 0 where
  pub start : ℕ
  pub finish : ℕ
  pub before : ℕ
  pub after : ℕ
  pub started : slice_get marks start ≡ Some (record { entry = Started call; count = before })
  pub finished : slice_get marks finish ≡ Some (record { entry = Finished call; count = after })
  pub in_turn : start < finish
  pub behind : before ≤ place
  pub within : place < after

-- The call was started, behind no more than this
pub record IsMarked (marks : List Mark) (call : NotedCall) (seen : ℕ) : Type 0 where
  pub start : ℕ
  pub before : ℕ
  pub started : slice_get marks start ≡ Some (record { entry = Started call; count = before })
  pub behind : before ≤ seen

-- of a call that is under way, if one is, the start is marked, behind no more than this was seen of its partition
abbrev pub StartIsMarked : {E : Type 0} → List Mark → (ℕ → List E) → Option NotedCall → Type 0
StartIsMarked marks seen None = Unit {0}
StartIsMarked marks seen (Some call) = IsMarked marks call (length (seen call.partition))

module _ {E : Type 0} (key_of : E → Key) where
  -- each event of a connection's calls that was seen stands between its marks
  abbrev pub KeepsMarks : List Mark → ℕ → (ℕ → List E) → Type 0
  KeepsMarks marks conn seen = (call : NotedCall) (place : ℕ) → call.id.conn ≡ conn → StandsAt key_of call.id (seen call.partition) place → IsBetween marks call place

  -- The marks are those of the journal. Of one partition none counts fewer than an earlier one, nor more than these passes have seen
  pub record AreMarks (marks : List Mark) (journal : List Entry) (passes : List (Told E)) : Type 0 where
    pub entries_are : journal ≡ entries_of marks
    pub rise : (partition earlier later : ℕ) (mark next : Mark) → earlier < later → slice_get marks earlier ≡ Some mark → slice_get marks later ≡ Some next
        → IsMarkIn mark partition → IsMarkIn next partition → mark.count ≤ next.count
    pub within : (partition at : ℕ) (mark : Mark) (pass : Told E) → slice_get marks at ≡ Some mark → IsMarkIn mark partition → slice_get passes partition ≡ Some pass
        → mark.count ≤ length pass.seen

  -- The passes at the same places have the same names, and have seen more. None of that has a name of theirs
  pub record HaveLearned (old new : List (Told E)) : Type 0 where
    pub as_long : length new ≡ length old
    pub each : (p : ℕ) (pass now : Told E) → slice_get old p ≡ Some pass → slice_get new p ≡ Some now → (now ≡ having_seen pass now.seen) × SeesMore key_of pass.names pass.seen now.seen

module _ {E : Type 0} where
  -- what a pass has seen, where there is one
  abbrev pub seen_at : Option (Told E) → List E
  seen_at None = []
  seen_at (Some pass) = pass.seen

  -- what passes have seen of each partition
  abbrev pub seen_of : List (Told E) → ℕ → List E
  seen_of passes partition = seen_at (slice_get passes partition)
