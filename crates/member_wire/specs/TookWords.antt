-- The word for each way to take a message.
use Rattle.std.specs.Prelude.{ℕ, List, codes}
use Rattle.member_wire.specs.declared.took.Took.{Took}
use Rattle.member_wire.specs.declared.took.Took.TheVariants.{Adopted, Synced, Applied, Bridged, Acked, Frozen, Joined, Drained, Already, Gap, Other, Stale, Dropped}

abbrev pub word_of : Took → List ℕ
word_of Adopted = codes "adopted"
word_of Synced = codes "synced"
word_of Applied = codes "applied"
word_of Bridged = codes "bridged"
word_of Acked = codes "acked"
word_of Frozen = codes "frozen"
word_of Joined = codes "joined"
word_of Drained = codes "drained"
word_of Already = codes "already"
word_of Gap = codes "gap"
word_of Other = codes "other"
word_of Stale = codes "stale"
word_of Dropped = codes "dropped"
