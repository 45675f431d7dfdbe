-- The kinds of message, and the byte that each begins with.
use Rattle.std.specs.Prelude.{ℕ, ◌==◌, List, [], ◌∷◌, Option}
use Rattle.std.specs.List.{find}
use Rattle.member_wire.specs.declared.kind.Kind.{Kind}
use Rattle.member_wire.specs.declared.kind.Kind.TheVariants.{NewRow, Sync, Effect, Ack, Joined, Freeze, Frozen, Bridge}

abbrev pub kind_byte : Kind → ℕ
kind_byte NewRow = 1
kind_byte Sync = 2
kind_byte Effect = 3
kind_byte Ack = 4
kind_byte Joined = 5
kind_byte Freeze = 6
kind_byte Frozen = 7
kind_byte Bridge = 8

abbrev pub all_kinds : List Kind
all_kinds = NewRow ∷ Sync ∷ Effect ∷ Ack ∷ Joined ∷ Freeze ∷ Frozen ∷ Bridge ∷ []

-- the kind that a byte stands for
abbrev pub kind_of : ℕ → Option Kind
kind_of byte = find (λ kind. kind_byte kind == byte) all_kinds
