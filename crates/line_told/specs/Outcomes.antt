-- What an event came to, and what masters answered, in words.
use Rattle.std.specs.Prelude.{ℕ, List, ◌++◌, codes, decimal}
use Rattle.masters_protocol.specs.Members as masters
use Rattle.partition_protocol.specs.Took.{Took, Adopted, Synced, Applied, Bridged, Acked, Frozen, Joined, Drained, Already, Gap, Other, Stale, Dropped}
use Rattle.partition_protocol.specs.Service.{MoveRefused, Lost, NotIdle, NotThere, AlreadyThere, NotLive, NotEligible, ReopenRefused, NotLost, NoMember}
use Rattle.partition_protocol.specs.Events.{Outcome, NothingDone, Done, TookMessage, RowMadeAt, MoveIsRefused, ReopenIsRefused}

-- a refusal for a reason
abbrev pub refusal_words : List ℕ → List ℕ
refusal_words why = codes "refused " ++ why

-- how a message was taken
abbrev pub took_word : Took → List ℕ
took_word Adopted = codes "adopted"
took_word Synced = codes "synced"
took_word Applied = codes "applied"
took_word Bridged = codes "bridged"
took_word Acked = codes "acked"
took_word Frozen = codes "frozen"
took_word Joined = codes "joined"
took_word Drained = codes "drained"
took_word Already = codes "already"
took_word Gap = codes "gap"
took_word Other = codes "other"
took_word Stale = codes "stale"
took_word Dropped = codes "dropped"

-- why a move, a join or a handover wasn't begun
abbrev pub move_refused_word : MoveRefused → List ℕ
move_refused_word Lost = codes "lost"
move_refused_word NotIdle = codes "notidle"
move_refused_word NotThere = codes "notthere"
move_refused_word AlreadyThere = codes "alreadythere"
move_refused_word NotLive = codes "notlive"
move_refused_word NotEligible = codes "noteligible"

-- why a partition wasn't reopened
abbrev pub reopen_refused_word : ReopenRefused → List ℕ
reopen_refused_word NotLost = codes "notlost"
reopen_refused_word NoMember = codes "nomember"

-- with the word of an event that is done
abbrev pub words_of : List ℕ → Outcome → List ℕ
words_of done NothingDone = codes "nothing"
words_of done Done = done
words_of done (TookMessage took) = codes "took " ++ took_word took
words_of done (RowMadeAt version) = codes "row " ++ decimal version
words_of done (MoveIsRefused why) = refusal_words (move_refused_word why)
words_of done (ReopenIsRefused why) = refusal_words (reopen_refused_word why)
words_of done outcome = codes "ok"

-- what masters answer
abbrev pub master_words : masters.Outcome → List ℕ
master_words masters.NothingDone = codes "nothing"
master_words masters.Done = codes "ok"
master_words (masters.Proposed n) = codes "proposed " ++ decimal n
master_words (masters.RefusedBusy length) = codes "refused busy"
master_words masters.RefusedFull = codes "refused full"
master_words masters.StoreTaken = codes "took stored"
master_words masters.Counted = codes "took counted"
master_words masters.Asked = codes "took asked"
master_words masters.TellKept = codes "took told"
master_words masters.Other = codes "took other"
master_words masters.Stale = codes "took stale"
master_words masters.Dropped = codes "took dropped"
