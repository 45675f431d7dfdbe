-- A list of bytes as a shelf: calls append to it, and each answers the bytes that it met.
use Rattle.std.specs.Prelude.{ℕ, Bool, true, false, List, [], ◌∷◌, ◌++◌, Option, Some, None}
use Rattle.grid_base.specs.Objects.{Object}
use Rattle.grid_base.specs.Shelves.{ShelfModel}
use Rattle.test_shelf.specs.declared.journal.JournalCall.{JournalCall}
use Rattle.test_shelf.specs.declared.journal.JournalCall.TheVariants.{Append, Read}

abbrev pub is_append : JournalCall → Bool
is_append (Append byte) = true
is_append Read = false

-- The effect of an append is its byte.
abbrev pub effect : JournalCall → Option (List ℕ)
effect (Append byte) = Some (byte ∷ [])
effect Read = None

abbrev pub after : List ℕ → JournalCall → List ℕ
after bytes (Append byte) = bytes ++ byte ∷ []
after bytes Read = bytes

-- the bytes after an effect, which is one byte
abbrev pub applied : List ℕ → List ℕ → Option (List ℕ)
applied (byte ∷ []) bytes = Some (bytes ++ byte ∷ [])
applied _ bytes = None

abbrev pub journal_object : Object JournalCall (List ℕ)
journal_object = record {
  empty = [];
  reply = λ bytes call now. bytes;
  after = λ bytes call now. after bytes call;
  changes = λ bytes call now. is_append call;
}

-- A snapshot is the bytes themselves. Every call is within the limits, and every list is: what calls it owes no proof of that.
abbrev pub journal_shelf : ShelfModel (List ℕ) Unit JournalCall (List ℕ)
journal_shelf = record {
  state = λ bytes. bytes;
  empty_state = [];
  object = λ plan. journal_object;
  effect_of = λ plan bytes call now. effect call;
  change_of = λ plan bytes call now. None;
  within_limits = λ call. Unit;
  within = λ calls bytes. Unit;
  applied = applied;
  snapshot_of = λ bytes. bytes;
}
