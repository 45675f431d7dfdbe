-- Random runs of another program, written from the rules alone, in which members crash: the definitions compute the same outcomes, answers and trails.
use Rattle.std.specs.Prelude.{◌≡◌, [], ◌∷◌, refl}
use Rattle.partition_protocol.specs.Took.{Adopted, Synced, Applied, Acked, Frozen, Already, Stale, Dropped}
use Rattle.partition_protocol.specs.Execution.{PartitionLost, WrongTarget}
use Rattle.partition_protocol.specs.Service.{Lost, NotIdle, NotThere, AlreadyThere, NotLive, NotLost}
use Rattle.partition_protocol.specs.World.{start}
use Rattle.partition_protocol.specs.Events.{Call, Deliver, Lose, Repeat, Resend, Crash, Detect, BeginMove, BeginJoin, BeginHandover, Advance, Reopen, NothingDone, Done, HeldAt, ReleasedAt, Refused, TookMessage, RowMadeAt, MoveIsRefused, ReopenIsRefused}
use Rattle.partition_protocol.specs.Examples.{seen}

run_2 : seen (start 0 2 0) (
    Detect 0 ∷ Resend 2 ∷ BeginMove 1 2 ∷ Call 0 0 1 1 0 ∷ Reopen ∷ Deliver 2 1 0 ∷ Deliver 2 0 0 ∷ Resend 1 ∷ Resend 2 ∷ Call 0 0 2 2 0 ∷
    Deliver 2 0 0 ∷ Deliver 2 1 0 ∷ Resend 1 ∷ Crash 1 ∷ Resend 1 ∷ Call 0 0 3 3 0 ∷ Resend 0 ∷ Resend 1 ∷ Resend 1 ∷ Resend 1 ∷
    BeginJoin 1 ∷ Deliver 2 1 0 ∷ Deliver 2 0 0 ∷ Deliver 0 1 0 ∷ Call 1 0 4 0 0 ∷ [])
    ≡ record {
      outcomes =
          NothingDone ∷ Done ∷ MoveIsRefused NotThere ∷ ReleasedAt 1 ∷ ReopenIsRefused NotLost ∷ TookMessage Stale ∷ TookMessage Stale ∷
          NothingDone ∷ Done ∷ ReleasedAt 2 ∷ TookMessage Stale ∷ TookMessage Stale ∷ NothingDone ∷ Done ∷ NothingDone ∷ ReleasedAt 3 ∷
          Done ∷ NothingDone ∷ NothingDone ∷ NothingDone ∷ RowMadeAt 2 ∷ TookMessage Dropped ∷ TookMessage Adopted ∷ TookMessage Dropped ∷
          NothingDone ∷ [];
      answered = 1 ∷ 2 ∷ 3 ∷ [];
      trail = 1 ∷ 2 ∷ 3 ∷ [];
    }
run_2 = refl

run_4 : seen (start 2 2 0) (
    Resend 0 ∷ Call 0 0 1 1 0 ∷ Resend 1 ∷ Detect 0 ∷ Crash 0 ∷ Resend 1 ∷ Resend 0 ∷ Detect 0 ∷ Call 0 0 2 0 0 ∷ Detect 0 ∷
    Call 1 0 3 0 0 ∷ Call 1 0 4 4 0 ∷ Deliver 2 1 0 ∷ Advance ∷ Detect 0 ∷ Call 1 0 5 0 0 ∷ Detect 0 ∷ Resend 2 ∷ Deliver 2 1 0 ∷
    Detect 0 ∷ Call 1 0 6 0 0 ∷ Resend 2 ∷ Deliver 2 1 0 ∷ Call 0 0 7 7 0 ∷ Resend 1 ∷ Resend 2 ∷ Lose 2 1 0 ∷ Resend 1 ∷ Crash 0 ∷
    Call 0 0 8 0 0 ∷ Resend 0 ∷ Resend 0 ∷ BeginJoin 1 ∷ Resend 1 ∷ Call 1 0 9 0 0 ∷ Advance ∷ Crash 1 ∷ BeginMove 2 2 ∷ Detect 0 ∷
    Resend 1 ∷ [])
    ≡ record {
      outcomes =
          Done ∷ ReleasedAt 1 ∷ NothingDone ∷ NothingDone ∷ Done ∷ NothingDone ∷ NothingDone ∷ RowMadeAt 2 ∷ NothingDone ∷ NothingDone ∷
          Refused (WrongTarget 1) ∷ Refused (WrongTarget 1) ∷ TookMessage Adopted ∷ NothingDone ∷ NothingDone ∷ Refused (PartitionLost 2) ∷
          NothingDone ∷ Done ∷ TookMessage Stale ∷ NothingDone ∷ Refused (PartitionLost 2) ∷ Done ∷ TookMessage Stale ∷ NothingDone ∷
          NothingDone ∷ Done ∷ Done ∷ NothingDone ∷ NothingDone ∷ NothingDone ∷ NothingDone ∷ NothingDone ∷ MoveIsRefused Lost ∷
          NothingDone ∷ Refused (PartitionLost 2) ∷ NothingDone ∷ Done ∷ MoveIsRefused Lost ∷ NothingDone ∷ NothingDone ∷ [];
      answered = 1 ∷ [];
      trail = 1 ∷ [];
    }
run_4 = refl

run_6 : seen (start 0 4 1) (
    Call 0 0 1 1 0 ∷ Advance ∷ Resend 2 ∷ Crash 2 ∷ Repeat 0 1 0 ∷ Deliver 0 1 0 ∷ Detect 2 ∷ Repeat 0 1 0 ∷ Deliver 1 0 0 ∷ Resend 2 ∷
    Call 0 0 2 2 0 ∷ Detect 2 ∷ Deliver 0 1 0 ∷ Deliver 1 0 0 ∷ Deliver 0 1 0 ∷ Call 2 0 3 3 0 ∷ Call 2 0 4 0 0 ∷ Deliver 0 1 0 ∷
    Deliver 1 0 0 ∷ Deliver 1 0 0 ∷ Resend 3 ∷ Call 0 0 5 5 0 ∷ Call 0 0 6 6 0 ∷ Detect 2 ∷ BeginJoin 3 ∷ [])
    ≡ record {
      outcomes =
          HeldAt 1 ∷ NothingDone ∷ NothingDone ∷ Done ∷ Done ∷ TookMessage Applied ∷ Done ∷ Done ∷ TookMessage Acked ∷ NothingDone ∷
          HeldAt 2 ∷ NothingDone ∷ TookMessage Already ∷ TookMessage Acked ∷ TookMessage Already ∷ NothingDone ∷ NothingDone ∷
          TookMessage Applied ∷ TookMessage Acked ∷ TookMessage Acked ∷ NothingDone ∷ HeldAt 3 ∷ HeldAt 4 ∷ NothingDone ∷ RowMadeAt 2 ∷ [];
      answered = 1 ∷ 2 ∷ [];
      trail = 1 ∷ 2 ∷ 5 ∷ 6 ∷ [];
    }
run_6 = refl

run_7 : seen (start 1 3 1) (
    Call 1 0 1 0 0 ∷ Resend 0 ∷ BeginJoin 1 ∷ Call 0 0 2 2 0 ∷ Call 1 0 3 3 0 ∷ Call 1 0 4 0 0 ∷ Advance ∷ Deliver 1 2 0 ∷ Reopen ∷
    Call 1 0 5 0 0 ∷ Deliver 2 1 0 ∷ Resend 0 ∷ Resend 1 ∷ Resend 0 ∷ Resend 1 ∷ Resend 3 ∷ Crash 1 ∷ Deliver 3 1 0 ∷ Call 1 0 6 0 0 ∷
    Deliver 3 2 0 ∷ Reopen ∷ Call 0 0 7 7 0 ∷ Resend 1 ∷ Advance ∷ Deliver 3 0 0 ∷ Resend 3 ∷ Deliver 3 1 0 ∷ Deliver 3 0 0 ∷
    Deliver 3 2 0 ∷ Resend 0 ∷ Advance ∷ Resend 0 ∷ Resend 1 ∷ Crash 0 ∷ Resend 3 ∷ Deliver 3 1 0 ∷ Deliver 3 0 0 ∷ Reopen ∷
    Deliver 3 2 0 ∷ Call 2 0 8 8 0 ∷ [])
    ≡ record {
      outcomes =
          ReleasedAt 0 ∷ NothingDone ∷ MoveIsRefused AlreadyThere ∷ Refused (WrongTarget 1) ∷ HeldAt 1 ∷ HeldAt 1 ∷ NothingDone ∷
          TookMessage Applied ∷ ReopenIsRefused NotLost ∷ HeldAt 1 ∷ TookMessage Acked ∷ NothingDone ∷ Done ∷ NothingDone ∷ Done ∷ Done ∷
          Done ∷ TookMessage Dropped ∷ NothingDone ∷ TookMessage Stale ∷ ReopenIsRefused NotLost ∷ Refused (WrongTarget 1) ∷ NothingDone ∷
          NothingDone ∷ TookMessage Stale ∷ Done ∷ TookMessage Dropped ∷ TookMessage Stale ∷ TookMessage Stale ∷ NothingDone ∷ NothingDone ∷
          NothingDone ∷ NothingDone ∷ Done ∷ Done ∷ TookMessage Dropped ∷ TookMessage Dropped ∷ ReopenIsRefused NotLost ∷ TookMessage Stale ∷
          Refused (WrongTarget 1) ∷ [];
      answered = 1 ∷ 3 ∷ 4 ∷ 5 ∷ [];
      trail = 1 ∷ 3 ∷ 4 ∷ 5 ∷ [];
    }
run_7 = refl

run_9 : seen (start 4 3 1) (
    Call 2 0 1 0 0 ∷ Resend 3 ∷ BeginJoin 0 ∷ Deliver 3 1 1 ∷ Advance ∷ Advance ∷ Deliver 3 1 0 ∷ Deliver 1 2 0 ∷ Crash 0 ∷
    BeginHandover 1 1 ∷ Resend 3 ∷ BeginMove 2 1 ∷ Deliver 2 1 0 ∷ Call 0 0 2 0 0 ∷ BeginJoin 3 ∷ Call 1 0 3 3 0 ∷ Resend 0 ∷ Advance ∷
    Call 1 0 4 4 0 ∷ BeginJoin 1 ∷ Repeat 3 2 0 ∷ Repeat 1 0 0 ∷ Deliver 3 1 0 ∷ Resend 1 ∷ Call 1 0 5 0 0 ∷ [])
    ≡ record {
      outcomes =
          Refused (WrongTarget 1) ∷ Done ∷ RowMadeAt 2 ∷ TookMessage Adopted ∷ NothingDone ∷ NothingDone ∷ TookMessage Stale ∷
          TookMessage Synced ∷ Done ∷ MoveIsRefused NotIdle ∷ Done ∷ MoveIsRefused NotIdle ∷ TookMessage Acked ∷ NothingDone ∷
          MoveIsRefused NotIdle ∷ HeldAt 1 ∷ NothingDone ∷ NothingDone ∷ HeldAt 2 ∷ MoveIsRefused NotIdle ∷ Done ∷ Done ∷ TookMessage Stale ∷
          Done ∷ HeldAt 2 ∷ [];
      answered = [];
      trail = 3 ∷ 4 ∷ 5 ∷ [];
    }
run_9 = refl

run_10 : seen (start 0 4 1) (
    Resend 1 ∷ Resend 3 ∷ Detect 0 ∷ Resend 1 ∷ Call 0 0 1 0 0 ∷ Call 2 0 2 0 0 ∷ Call 3 0 3 3 0 ∷ Resend 3 ∷ Resend 2 ∷ Resend 2 ∷
    Resend 1 ∷ Resend 1 ∷ Advance ∷ Resend 0 ∷ Resend 1 ∷ Call 0 0 4 0 0 ∷ Crash 1 ∷ Resend 4 ∷ Deliver 4 3 0 ∷ Detect 1 ∷ Detect 1 ∷
    Lose 4 0 0 ∷ Deliver 4 3 0 ∷ Deliver 4 0 0 ∷ Crash 0 ∷ [])
    ≡ record {
      outcomes =
          NothingDone ∷ NothingDone ∷ NothingDone ∷ NothingDone ∷ ReleasedAt 0 ∷ Refused (WrongTarget 1) ∷ Refused (WrongTarget 1) ∷
          NothingDone ∷ NothingDone ∷ NothingDone ∷ NothingDone ∷ NothingDone ∷ NothingDone ∷ Done ∷ NothingDone ∷ ReleasedAt 0 ∷ Done ∷
          Done ∷ TookMessage Stale ∷ RowMadeAt 2 ∷ NothingDone ∷ Done ∷ TookMessage Adopted ∷ TookMessage Adopted ∷ Done ∷ [];
      answered = 1 ∷ 4 ∷ [];
      trail = 1 ∷ 4 ∷ [];
    }
run_10 = refl

run_15 : seen (start 0 2 2) (
    Call 0 0 1 0 0 ∷ Call 0 0 2 0 0 ∷ Resend 1 ∷ Resend 1 ∷ Resend 1 ∷ Resend 0 ∷ BeginMove 1 0 ∷ Resend 2 ∷ Lose 2 0 0 ∷ Deliver 2 1 0 ∷
    Resend 2 ∷ Deliver 2 1 0 ∷ Advance ∷ Call 0 0 3 3 0 ∷ Deliver 2 0 0 ∷ BeginMove 0 0 ∷ Lose 0 1 0 ∷ Resend 1 ∷ BeginHandover 0 0 ∷
    Resend 2 ∷ Deliver 2 0 0 ∷ Lose 2 1 0 ∷ Crash 1 ∷ Resend 0 ∷ Lose 0 1 0 ∷ BeginHandover 2 0 ∷ Resend 0 ∷ Lose 0 1 0 ∷ Resend 1 ∷
    Call 0 0 4 4 0 ∷ Detect 1 ∷ Deliver 2 0 0 ∷ Call 0 0 5 0 0 ∷ Deliver 0 1 0 ∷ Advance ∷ Resend 1 ∷ Resend 0 ∷ Detect 1 ∷
    Call 0 0 6 6 0 ∷ BeginJoin 0 ∷ [])
    ≡ record {
      outcomes =
          ReleasedAt 0 ∷ ReleasedAt 0 ∷ NothingDone ∷ NothingDone ∷ NothingDone ∷ Done ∷ MoveIsRefused AlreadyThere ∷ Done ∷ Done ∷
          TookMessage Stale ∷ Done ∷ TookMessage Stale ∷ NothingDone ∷ HeldAt 1 ∷ TookMessage Stale ∷ MoveIsRefused AlreadyThere ∷ Done ∷
          NothingDone ∷ MoveIsRefused NotThere ∷ Done ∷ TookMessage Stale ∷ Done ∷ Done ∷ Done ∷ Done ∷ MoveIsRefused NotThere ∷ Done ∷
          Done ∷ NothingDone ∷ HeldAt 2 ∷ RowMadeAt 2 ∷ TookMessage Adopted ∷ ReleasedAt 2 ∷ TookMessage Dropped ∷ NothingDone ∷
          NothingDone ∷ Done ∷ NothingDone ∷ ReleasedAt 3 ∷ MoveIsRefused AlreadyThere ∷ [];
      answered = 1 ∷ 2 ∷ 3 ∷ 4 ∷ 5 ∷ 6 ∷ [];
      trail = 1 ∷ 2 ∷ 3 ∷ 4 ∷ 5 ∷ 6 ∷ [];
    }
run_15 = refl

run_16 : seen (start 3 3 1) (
    Resend 3 ∷ Call 2 0 1 0 0 ∷ Deliver 3 0 0 ∷ Deliver 3 1 0 ∷ Deliver 3 2 0 ∷ Resend 0 ∷ Resend 2 ∷ Reopen ∷ Crash 1 ∷ Resend 0 ∷
    Resend 3 ∷ Deliver 3 0 0 ∷ Deliver 3 1 0 ∷ Deliver 3 2 0 ∷ Resend 1 ∷ Resend 0 ∷ Resend 3 ∷ Call 0 0 2 0 0 ∷ Deliver 3 2 0 ∷ Advance ∷
    Resend 3 ∷ BeginJoin 0 ∷ Deliver 3 1 0 ∷ Deliver 3 0 0 ∷ Call 0 0 3 3 0 ∷ [])
    ≡ record {
      outcomes =
          Done ∷ Refused (WrongTarget 1) ∷ TookMessage Stale ∷ TookMessage Stale ∷ TookMessage Stale ∷ Done ∷ NothingDone ∷
          ReopenIsRefused NotLost ∷ Done ∷ Done ∷ Done ∷ TookMessage Stale ∷ TookMessage Dropped ∷ TookMessage Stale ∷ NothingDone ∷ Done ∷
          Done ∷ ReleasedAt 0 ∷ TookMessage Stale ∷ NothingDone ∷ Done ∷ MoveIsRefused AlreadyThere ∷ TookMessage Dropped ∷
          TookMessage Stale ∷ HeldAt 1 ∷ [];
      answered = 2 ∷ [];
      trail = 2 ∷ 3 ∷ [];
    }
run_16 = refl

run_18 : seen (start 0 2 2) (
    Resend 0 ∷ Advance ∷ Resend 0 ∷ Resend 1 ∷ BeginMove 0 1 ∷ BeginJoin 0 ∷ Resend 2 ∷ Crash 0 ∷ BeginMove 0 0 ∷ Deliver 2 1 0 ∷
    Deliver 2 0 0 ∷ Call 0 0 1 1 0 ∷ Crash 1 ∷ Resend 2 ∷ Deliver 2 1 0 ∷ Deliver 2 0 0 ∷ Detect 1 ∷ Call 0 0 2 2 0 ∷ Repeat 2 0 0 ∷
    Call 0 0 3 0 0 ∷ Detect 0 ∷ Call 0 0 4 4 0 ∷ Call 0 0 5 5 0 ∷ Repeat 2 0 0 ∷ Deliver 2 0 2 ∷ [])
    ≡ record {
      outcomes =
          Done ∷ NothingDone ∷ Done ∷ NothingDone ∷ MoveIsRefused AlreadyThere ∷ MoveIsRefused AlreadyThere ∷ Done ∷ Done ∷
          MoveIsRefused AlreadyThere ∷ TookMessage Stale ∷ TookMessage Dropped ∷ NothingDone ∷ Done ∷ Done ∷ TookMessage Dropped ∷
          TookMessage Dropped ∷ RowMadeAt 2 ∷ NothingDone ∷ Done ∷ NothingDone ∷ RowMadeAt 3 ∷ NothingDone ∷ NothingDone ∷ Done ∷
          TookMessage Dropped ∷ [];
      answered = [];
      trail = [];
    }
run_18 = refl

run_21 : seen (start 3 2 2) (
    Resend 1 ∷ Detect 0 ∷ Reopen ∷ Resend 2 ∷ Call 1 0 1 1 0 ∷ Crash 0 ∷ Deliver 1 0 0 ∷ Resend 0 ∷ Deliver 2 1 0 ∷ Call 1 0 2 2 0 ∷
    Deliver 1 0 0 ∷ Call 1 0 3 3 0 ∷ Call 1 0 4 4 0 ∷ Deliver 2 0 0 ∷ Detect 0 ∷ Crash 0 ∷ Deliver 2 1 0 ∷ Repeat 1 0 0 ∷ BeginMove 1 1 ∷
    Deliver 1 0 0 ∷ Deliver 1 0 0 ∷ Resend 1 ∷ Call 1 0 5 5 0 ∷ Deliver 1 0 0 ∷ Call 1 0 6 0 0 ∷ [])
    ≡ record {
      outcomes =
          Done ∷ NothingDone ∷ ReopenIsRefused NotLost ∷ Done ∷ HeldAt 1 ∷ Done ∷ TookMessage Dropped ∷ NothingDone ∷ TookMessage Stale ∷
          HeldAt 2 ∷ TookMessage Dropped ∷ HeldAt 3 ∷ HeldAt 4 ∷ TookMessage Dropped ∷ RowMadeAt 2 ∷ NothingDone ∷ TookMessage Adopted ∷
          Done ∷ MoveIsRefused AlreadyThere ∷ TookMessage Dropped ∷ TookMessage Dropped ∷ Done ∷ ReleasedAt 5 ∷ TookMessage Dropped ∷
          ReleasedAt 5 ∷ [];
      answered = 1 ∷ 2 ∷ 3 ∷ 4 ∷ 5 ∷ 6 ∷ [];
      trail = 1 ∷ 2 ∷ 3 ∷ 4 ∷ 5 ∷ 6 ∷ [];
    }
run_21 = refl

run_22 : seen (start 1 2 0) (
    Reopen ∷ Call 1 0 1 0 0 ∷ Detect 0 ∷ Call 1 0 2 0 0 ∷ Resend 2 ∷ Call 1 0 3 3 0 ∷ Resend 0 ∷ Deliver 2 0 0 ∷ Call 1 0 4 0 0 ∷
    Repeat 2 1 0 ∷ Deliver 2 1 0 ∷ Deliver 2 1 0 ∷ Call 1 0 5 0 0 ∷ Resend 1 ∷ Resend 0 ∷ Resend 1 ∷ Resend 0 ∷ Resend 2 ∷ Deliver 2 1 0 ∷
    Reopen ∷ Repeat 2 0 0 ∷ Advance ∷ Deliver 2 0 0 ∷ Call 1 0 6 6 0 ∷ Deliver 2 0 0 ∷ Call 1 0 7 7 0 ∷ Resend 0 ∷ Call 0 0 8 0 0 ∷
    Detect 0 ∷ BeginHandover 1 0 ∷ Detect 0 ∷ Resend 2 ∷ Call 1 0 9 9 0 ∷ Deliver 2 0 0 ∷ Crash 1 ∷ Advance ∷ Call 1 0 10 0 0 ∷
    Deliver 2 1 0 ∷ Resend 2 ∷ Deliver 2 0 0 ∷ [])
    ≡ record {
      outcomes =
          ReopenIsRefused NotLost ∷ ReleasedAt 0 ∷ NothingDone ∷ ReleasedAt 0 ∷ Done ∷ ReleasedAt 1 ∷ NothingDone ∷ TookMessage Stale ∷
          ReleasedAt 1 ∷ Done ∷ TookMessage Stale ∷ TookMessage Stale ∷ ReleasedAt 1 ∷ Done ∷ NothingDone ∷ Done ∷ NothingDone ∷ Done ∷
          TookMessage Stale ∷ ReopenIsRefused NotLost ∷ Done ∷ NothingDone ∷ TookMessage Stale ∷ ReleasedAt 2 ∷ TookMessage Stale ∷
          ReleasedAt 3 ∷ NothingDone ∷ Refused (WrongTarget 1) ∷ NothingDone ∷ MoveIsRefused NotThere ∷ NothingDone ∷ Done ∷ ReleasedAt 4 ∷
          TookMessage Stale ∷ Done ∷ NothingDone ∷ NothingDone ∷ TookMessage Dropped ∷ Done ∷ TookMessage Stale ∷ [];
      answered = 1 ∷ 2 ∷ 3 ∷ 4 ∷ 5 ∷ 6 ∷ 7 ∷ 9 ∷ [];
      trail = 1 ∷ 2 ∷ 3 ∷ 4 ∷ 5 ∷ 6 ∷ 7 ∷ 9 ∷ [];
    }
run_22 = refl

run_23 : seen (start 0 3 0) (
    Resend 3 ∷ Deliver 3 0 0 ∷ Deliver 3 2 0 ∷ Resend 3 ∷ Call 2 0 1 1 0 ∷ Deliver 3 1 0 ∷ Repeat 3 0 0 ∷ Deliver 3 2 0 ∷ Deliver 3 0 0 ∷
    Deliver 3 0 0 ∷ Detect 0 ∷ Deliver 3 1 0 ∷ Resend 2 ∷ Advance ∷ Resend 2 ∷ Call 0 0 2 0 0 ∷ BeginJoin 3 ∷ Resend 2 ∷ Call 1 0 3 0 0 ∷
    Resend 3 ∷ Deliver 3 2 0 ∷ Call 0 0 4 4 0 ∷ Deliver 3 0 0 ∷ Call 0 0 5 0 0 ∷ Advance ∷ Detect 0 ∷ Advance ∷ Deliver 3 1 0 ∷ Crash 1 ∷
    Call 0 0 6 0 0 ∷ Resend 1 ∷ Resend 3 ∷ Advance ∷ Call 0 0 7 7 0 ∷ Deliver 3 2 0 ∷ Call 0 0 8 8 0 ∷ Crash 2 ∷ BeginJoin 1 ∷
    BeginJoin 3 ∷ Call 2 0 9 9 0 ∷ [])
    ≡ record {
      outcomes =
          Done ∷ TookMessage Stale ∷ TookMessage Stale ∷ Done ∷ Refused (WrongTarget 1) ∷ TookMessage Stale ∷ Done ∷ TookMessage Stale ∷
          TookMessage Stale ∷ TookMessage Stale ∷ NothingDone ∷ TookMessage Stale ∷ NothingDone ∷ NothingDone ∷ NothingDone ∷ ReleasedAt 0 ∷
          MoveIsRefused NotLive ∷ NothingDone ∷ Refused (WrongTarget 1) ∷ Done ∷ TookMessage Stale ∷ ReleasedAt 1 ∷ TookMessage Stale ∷
          ReleasedAt 1 ∷ NothingDone ∷ NothingDone ∷ NothingDone ∷ TookMessage Stale ∷ Done ∷ ReleasedAt 1 ∷ NothingDone ∷ Done ∷
          NothingDone ∷ ReleasedAt 2 ∷ TookMessage Stale ∷ ReleasedAt 3 ∷ Done ∷ RowMadeAt 2 ∷ MoveIsRefused NotIdle ∷ NothingDone ∷ [];
      answered = 2 ∷ 4 ∷ 5 ∷ 6 ∷ 7 ∷ 8 ∷ [];
      trail = 2 ∷ 4 ∷ 5 ∷ 6 ∷ 7 ∷ 8 ∷ [];
    }
run_23 = refl

run_25 : seen (start 0 3 0) (
    Resend 0 ∷ BeginMove 2 0 ∷ Resend 3 ∷ Call 0 0 1 1 0 ∷ Repeat 3 2 0 ∷ Lose 3 2 0 ∷ Detect 0 ∷ Deliver 3 2 0 ∷ Call 0 0 2 2 0 ∷
    Call 0 0 3 0 0 ∷ Deliver 3 0 0 ∷ Call 1 0 4 4 0 ∷ Crash 2 ∷ Deliver 3 1 0 ∷ Resend 3 ∷ Deliver 3 0 0 ∷ Deliver 3 2 0 ∷ Deliver 3 1 0 ∷
    Resend 1 ∷ Call 0 0 5 0 0 ∷ Call 2 0 6 6 0 ∷ Resend 2 ∷ Resend 3 ∷ Deliver 3 1 0 ∷ Reopen ∷ [])
    ≡ record {
      outcomes =
          Done ∷ MoveIsRefused NotThere ∷ Done ∷ ReleasedAt 1 ∷ Done ∷ Done ∷ NothingDone ∷ TookMessage Stale ∷ ReleasedAt 2 ∷ ReleasedAt 2 ∷
          TookMessage Stale ∷ Refused (WrongTarget 1) ∷ Done ∷ TookMessage Stale ∷ Done ∷ TookMessage Stale ∷ TookMessage Dropped ∷
          TookMessage Stale ∷ NothingDone ∷ ReleasedAt 2 ∷ NothingDone ∷ NothingDone ∷ Done ∷ TookMessage Stale ∷ ReopenIsRefused NotLost ∷ [];
      answered = 1 ∷ 2 ∷ 3 ∷ 5 ∷ [];
      trail = 1 ∷ 2 ∷ 3 ∷ 5 ∷ [];
    }
run_25 = refl

run_31 : seen (start 3 2 0) (
    Call 1 0 1 1 0 ∷ Advance ∷ Resend 2 ∷ Resend 0 ∷ Reopen ∷ Call 1 0 2 2 0 ∷ Deliver 2 1 0 ∷ Repeat 2 0 0 ∷ Deliver 2 0 0 ∷
    Deliver 2 0 0 ∷ Resend 2 ∷ Call 1 0 3 3 0 ∷ Deliver 2 0 0 ∷ Deliver 2 1 0 ∷ Call 0 0 4 0 0 ∷ Call 1 0 5 5 0 ∷ Call 1 0 6 0 0 ∷
    Resend 1 ∷ Resend 2 ∷ Detect 0 ∷ Advance ∷ Reopen ∷ Reopen ∷ Crash 1 ∷ BeginJoin 2 ∷ [])
    ≡ record {
      outcomes =
          ReleasedAt 1 ∷ NothingDone ∷ Done ∷ NothingDone ∷ ReopenIsRefused NotLost ∷ ReleasedAt 2 ∷ TookMessage Stale ∷ Done ∷
          TookMessage Stale ∷ TookMessage Stale ∷ Done ∷ ReleasedAt 3 ∷ TookMessage Stale ∷ TookMessage Stale ∷ Refused (WrongTarget 1) ∷
          ReleasedAt 4 ∷ ReleasedAt 4 ∷ Done ∷ Done ∷ NothingDone ∷ NothingDone ∷ ReopenIsRefused NotLost ∷ ReopenIsRefused NotLost ∷ Done ∷
          MoveIsRefused NotLive ∷ [];
      answered = 1 ∷ 2 ∷ 3 ∷ 5 ∷ 6 ∷ [];
      trail = 1 ∷ 2 ∷ 3 ∷ 5 ∷ 6 ∷ [];
    }
run_31 = refl

run_32 : seen (start 1 2 0) (
    Resend 0 ∷ Resend 2 ∷ Call 1 0 1 0 0 ∷ Detect 0 ∷ Deliver 2 1 0 ∷ Resend 0 ∷ Lose 2 0 0 ∷ Advance ∷ Call 1 0 2 0 0 ∷ Call 1 0 3 0 0 ∷
    Resend 1 ∷ Call 1 0 4 0 0 ∷ Resend 0 ∷ Call 1 0 5 5 0 ∷ Call 1 0 6 0 0 ∷ Crash 1 ∷ Resend 1 ∷ Call 0 0 7 0 0 ∷ Resend 0 ∷ Detect 1 ∷
    Detect 1 ∷ Call 0 0 8 0 0 ∷ Call 1 0 9 0 0 ∷ Deliver 2 0 0 ∷ Call 0 0 10 0 0 ∷ [])
    ≡ record {
      outcomes =
          NothingDone ∷ Done ∷ ReleasedAt 0 ∷ NothingDone ∷ TookMessage Stale ∷ NothingDone ∷ Done ∷ NothingDone ∷ ReleasedAt 0 ∷
          ReleasedAt 0 ∷ Done ∷ ReleasedAt 0 ∷ NothingDone ∷ ReleasedAt 1 ∷ ReleasedAt 1 ∷ Done ∷ NothingDone ∷ Refused (WrongTarget 1) ∷
          NothingDone ∷ RowMadeAt 2 ∷ NothingDone ∷ Refused (WrongTarget 1) ∷ NothingDone ∷ TookMessage Adopted ∷ Refused (PartitionLost 2) ∷ [];
      answered = 1 ∷ 2 ∷ 3 ∷ 4 ∷ 5 ∷ 6 ∷ [];
      trail = 1 ∷ 2 ∷ 3 ∷ 4 ∷ 5 ∷ 6 ∷ [];
    }
run_32 = refl

run_35 : seen (start 2 4 0) (
    Resend 1 ∷ Resend 2 ∷ Resend 4 ∷ Resend 2 ∷ Repeat 4 0 0 ∷ Call 2 0 1 1 0 ∷ Deliver 4 0 0 ∷ Call 2 0 2 0 0 ∷ Call 2 0 3 0 0 ∷
    Deliver 4 3 0 ∷ Call 2 0 4 4 0 ∷ Advance ∷ Deliver 4 2 0 ∷ Crash 3 ∷ Deliver 4 1 0 ∷ Deliver 4 0 0 ∷ Call 0 0 5 0 0 ∷ Resend 4 ∷
    Resend 1 ∷ Crash 1 ∷ Call 2 0 6 0 0 ∷ Call 2 0 7 7 0 ∷ Call 2 0 8 8 0 ∷ Deliver 4 0 0 ∷ Resend 4 ∷ Deliver 4 0 0 ∷ Detect 3 ∷
    Deliver 4 2 0 ∷ Deliver 4 1 0 ∷ Deliver 4 2 0 ∷ BeginMove 3 0 ∷ Deliver 4 1 0 ∷ Advance ∷ Call 3 0 9 0 0 ∷ Call 0 0 10 0 0 ∷
    Deliver 4 3 0 ∷ Deliver 4 3 0 ∷ BeginMove 0 4 ∷ Resend 4 ∷ Advance ∷ [])
    ≡ record {
      outcomes =
          NothingDone ∷ Done ∷ Done ∷ Done ∷ Done ∷ ReleasedAt 1 ∷ TookMessage Stale ∷ ReleasedAt 1 ∷ ReleasedAt 1 ∷ TookMessage Stale ∷
          ReleasedAt 2 ∷ NothingDone ∷ TookMessage Stale ∷ Done ∷ TookMessage Stale ∷ TookMessage Stale ∷ Refused (WrongTarget 1) ∷ Done ∷
          NothingDone ∷ Done ∷ ReleasedAt 2 ∷ ReleasedAt 3 ∷ ReleasedAt 4 ∷ TookMessage Stale ∷ Done ∷ TookMessage Stale ∷ Done ∷
          TookMessage Stale ∷ TookMessage Dropped ∷ TookMessage Stale ∷ MoveIsRefused NotThere ∷ TookMessage Dropped ∷ NothingDone ∷
          NothingDone ∷ Refused (WrongTarget 1) ∷ TookMessage Dropped ∷ TookMessage Dropped ∷ MoveIsRefused NotThere ∷ Done ∷ NothingDone ∷ [];
      answered = 1 ∷ 2 ∷ 3 ∷ 4 ∷ 6 ∷ 7 ∷ 8 ∷ [];
      trail = 1 ∷ 2 ∷ 3 ∷ 4 ∷ 6 ∷ 7 ∷ 8 ∷ [];
    }
run_35 = refl

run_36 : seen (start 0 3 0) (
    BeginMove 0 1 ∷ Deliver 3 2 0 ∷ Lose 3 0 0 ∷ Reopen ∷ Deliver 3 1 0 ∷ Resend 1 ∷ Resend 1 ∷ Resend 2 ∷ Resend 1 ∷ Call 0 0 1 1 0 ∷
    Call 0 0 2 2 0 ∷ BeginJoin 1 ∷ BeginMove 2 0 ∷ Resend 3 ∷ Deliver 3 1 0 ∷ Detect 0 ∷ Deliver 3 0 0 ∷ Reopen ∷ Deliver 3 2 0 ∷
    Call 1 0 3 0 0 ∷ Call 2 0 4 4 0 ∷ Call 2 0 5 0 0 ∷ Advance ∷ Crash 0 ∷ Deliver 0 1 0 ∷ [])
    ≡ record {
      outcomes =
          RowMadeAt 2 ∷ TookMessage Adopted ∷ Done ∷ ReopenIsRefused NotLost ∷ TookMessage Adopted ∷ NothingDone ∷ NothingDone ∷
          NothingDone ∷ NothingDone ∷ ReleasedAt 1 ∷ ReleasedAt 2 ∷ MoveIsRefused NotIdle ∷ MoveIsRefused NotIdle ∷ Done ∷
          TookMessage Stale ∷ NothingDone ∷ TookMessage Adopted ∷ ReopenIsRefused NotLost ∷ TookMessage Stale ∷ Refused (WrongTarget 2) ∷
          Refused (WrongTarget 2) ∷ Refused (WrongTarget 2) ∷ NothingDone ∷ Done ∷ TookMessage Synced ∷ [];
      answered = 1 ∷ 2 ∷ [];
      trail = 1 ∷ 2 ∷ [];
    }
run_36 = refl

run_38 : seen (start 3 4 1) (
    Call 3 0 1 1 0 ∷ Deliver 3 0 0 ∷ Resend 4 ∷ Resend 3 ∷ Reopen ∷ Crash 3 ∷ Deliver 4 3 0 ∷ Deliver 4 0 0 ∷ Deliver 0 3 0 ∷
    Call 3 0 2 2 0 ∷ Call 3 0 3 3 0 ∷ Repeat 4 1 0 ∷ Deliver 3 0 0 ∷ Deliver 4 1 0 ∷ Deliver 4 1 0 ∷ Detect 3 ∷ Detect 3 ∷ Call 2 0 4 0 0 ∷
    BeginMove 4 0 ∷ Repeat 0 3 0 ∷ Call 1 0 5 0 0 ∷ Deliver 4 2 0 ∷ Deliver 0 3 0 ∷ Call 0 0 6 0 0 ∷ Deliver 4 0 0 ∷ Deliver 4 1 0 ∷
    Call 1 0 7 0 0 ∷ Resend 3 ∷ Call 1 0 8 0 0 ∷ Deliver 0 3 0 ∷ Deliver 4 2 0 ∷ Resend 3 ∷ Resend 1 ∷ Resend 0 ∷ Resend 2 ∷ Resend 1 ∷
    Call 1 0 9 9 0 ∷ Call 0 0 10 0 0 ∷ Advance ∷ Advance ∷ [])
    ≡ record {
      outcomes =
          HeldAt 1 ∷ TookMessage Applied ∷ Done ∷ Done ∷ ReopenIsRefused NotLost ∷ Done ∷ TookMessage Dropped ∷ TookMessage Stale ∷
          TookMessage Dropped ∷ NothingDone ∷ NothingDone ∷ Done ∷ TookMessage Already ∷ TookMessage Stale ∷ TookMessage Stale ∷
          RowMadeAt 2 ∷ NothingDone ∷ Refused (WrongTarget 1) ∷ MoveIsRefused NotThere ∷ Done ∷ Refused (WrongTarget 1) ∷ TookMessage Stale ∷
          TookMessage Dropped ∷ Refused (WrongTarget 1) ∷ TookMessage Adopted ∷ TookMessage Adopted ∷ Refused (WrongTarget 2) ∷ NothingDone ∷
          Refused (WrongTarget 2) ∷ TookMessage Dropped ∷ TookMessage Adopted ∷ NothingDone ∷ NothingDone ∷ Done ∷ NothingDone ∷
          NothingDone ∷ Refused (WrongTarget 2) ∷ ReleasedAt 1 ∷ NothingDone ∷ NothingDone ∷ [];
      answered = 10 ∷ [];
      trail = 1 ∷ 10 ∷ [];
    }
run_38 = refl

run_40 : seen (start 4 3 2) (
    Resend 1 ∷ Call 1 0 1 0 0 ∷ BeginMove 3 0 ∷ Resend 1 ∷ Call 1 0 2 2 0 ∷ Detect 0 ∷ Call 1 0 3 0 0 ∷ Call 1 0 4 4 0 ∷ Crash 2 ∷
    Detect 2 ∷ Deliver 1 2 1 ∷ Deliver 1 0 0 ∷ Repeat 3 0 0 ∷ BeginJoin 1 ∷ Deliver 0 1 0 ∷ [])
    ≡ record {
      outcomes =
          Done ∷ ReleasedAt 0 ∷ MoveIsRefused NotThere ∷ Done ∷ HeldAt 1 ∷ NothingDone ∷ HeldAt 1 ∷ HeldAt 2 ∷ Done ∷ RowMadeAt 2 ∷
          TookMessage Dropped ∷ TookMessage Applied ∷ Done ∷ MoveIsRefused AlreadyThere ∷ TookMessage Acked ∷ [];
      answered = 1 ∷ [];
      trail = 1 ∷ 2 ∷ 3 ∷ 4 ∷ [];
    }
run_40 = refl

run_42 : seen (start 0 4 0) (
    Resend 1 ∷ Call 0 0 1 0 0 ∷ Resend 0 ∷ Call 0 0 2 2 0 ∷ Resend 0 ∷ Resend 4 ∷ Lose 4 3 0 ∷ Call 3 0 3 3 0 ∷ Deliver 4 1 0 ∷ Crash 0 ∷
    Call 0 0 4 0 0 ∷ Detect 0 ∷ Detect 0 ∷ Deliver 4 2 0 ∷ Deliver 4 2 0 ∷ Call 1 0 5 0 0 ∷ Reopen ∷ BeginMove 0 3 ∷ Deliver 4 3 0 ∷
    Call 1 0 6 0 0 ∷ Deliver 4 1 0 ∷ Deliver 4 2 0 ∷ Detect 0 ∷ Deliver 4 0 0 ∷ Call 1 0 7 0 0 ∷ Call 0 0 8 8 0 ∷ BeginMove 3 1 ∷
    Deliver 4 1 0 ∷ Repeat 4 3 0 ∷ Call 0 0 9 0 0 ∷ Resend 0 ∷ Call 1 0 10 10 0 ∷ Repeat 4 3 0 ∷ Deliver 4 3 0 ∷ Call 1 0 11 0 0 ∷
    Crash 2 ∷ Call 0 0 12 12 0 ∷ Deliver 4 3 0 ∷ Call 2 0 13 0 0 ∷ Detect 2 ∷ [])
    ≡ record {
      outcomes =
          NothingDone ∷ ReleasedAt 0 ∷ Done ∷ ReleasedAt 1 ∷ Done ∷ Done ∷ Done ∷ Refused (WrongTarget 1) ∷ TookMessage Stale ∷ Done ∷
          NothingDone ∷ RowMadeAt 2 ∷ NothingDone ∷ TookMessage Stale ∷ TookMessage Adopted ∷ Refused (WrongTarget 1) ∷ RowMadeAt 3 ∷
          MoveIsRefused NotThere ∷ TookMessage Adopted ∷ Refused (WrongTarget 1) ∷ TookMessage Adopted ∷ TookMessage Adopted ∷ NothingDone ∷
          TookMessage Dropped ∷ Refused (PartitionLost 2) ∷ NothingDone ∷ MoveIsRefused NotThere ∷ TookMessage Adopted ∷ Done ∷ NothingDone ∷
          NothingDone ∷ ReleasedAt 1 ∷ Done ∷ TookMessage Adopted ∷ ReleasedAt 1 ∷ Done ∷ NothingDone ∷ TookMessage Stale ∷ NothingDone ∷
          Done ∷ [];
      answered = 1 ∷ 2 ∷ 10 ∷ 11 ∷ [];
      trail = 1 ∷ 2 ∷ 0 ∷ 10 ∷ 11 ∷ [];
    }
run_42 = refl

run_44 : seen (start 4 3 2) (
    BeginMove 1 3 ∷ Resend 0 ∷ Resend 0 ∷ Call 1 0 1 0 0 ∷ Resend 3 ∷ Deliver 3 2 0 ∷ Deliver 3 1 0 ∷ Call 1 0 2 0 0 ∷ Advance ∷
    Call 2 0 3 0 0 ∷ Call 0 0 4 0 0 ∷ Deliver 3 0 0 ∷ Resend 0 ∷ Call 2 0 5 5 0 ∷ Resend 2 ∷ Resend 3 ∷ Deliver 3 2 0 ∷ Repeat 3 1 0 ∷
    Resend 2 ∷ Call 1 0 6 0 0 ∷ Deliver 3 1 0 ∷ Reopen ∷ Deliver 3 0 0 ∷ Call 1 0 7 0 0 ∷ Reopen ∷ Crash 2 ∷ Repeat 3 1 0 ∷ Resend 0 ∷
    Deliver 3 1 0 ∷ Call 1 0 8 8 0 ∷ Lose 1 0 0 ∷ Reopen ∷ Call 0 0 9 0 0 ∷ Advance ∷ Reopen ∷ Resend 2 ∷ Deliver 1 2 0 ∷ Repeat 3 1 0 ∷
    Call 1 0 10 10 0 ∷ Advance ∷ [])
    ≡ record {
      outcomes =
          MoveIsRefused NotLive ∷ NothingDone ∷ NothingDone ∷ ReleasedAt 0 ∷ Done ∷ TookMessage Stale ∷ TookMessage Stale ∷ ReleasedAt 0 ∷
          NothingDone ∷ Refused (WrongTarget 1) ∷ Refused (WrongTarget 1) ∷ TookMessage Stale ∷ NothingDone ∷ Refused (WrongTarget 1) ∷
          NothingDone ∷ Done ∷ TookMessage Stale ∷ Done ∷ NothingDone ∷ ReleasedAt 0 ∷ TookMessage Stale ∷ ReopenIsRefused NotLost ∷
          TookMessage Stale ∷ ReleasedAt 0 ∷ ReopenIsRefused NotLost ∷ Done ∷ Done ∷ NothingDone ∷ TookMessage Stale ∷ HeldAt 1 ∷ Done ∷
          ReopenIsRefused NotLost ∷ Refused (WrongTarget 1) ∷ NothingDone ∷ ReopenIsRefused NotLost ∷ NothingDone ∷ TookMessage Dropped ∷
          Done ∷ HeldAt 2 ∷ NothingDone ∷ [];
      answered = 1 ∷ 2 ∷ 6 ∷ 7 ∷ [];
      trail = 1 ∷ 2 ∷ 6 ∷ 7 ∷ 8 ∷ 10 ∷ [];
    }
run_44 = refl

run_45 : seen (start 3 3 1) (
    Call 0 0 1 0 0 ∷ Call 0 0 2 0 0 ∷ Resend 0 ∷ Advance ∷ BeginMove 0 0 ∷ Call 2 0 3 3 0 ∷ Call 2 0 4 4 0 ∷ Call 0 0 5 5 0 ∷ Resend 0 ∷
    Call 0 0 6 0 0 ∷ Crash 1 ∷ Call 0 0 7 0 0 ∷ Resend 2 ∷ Crash 2 ∷ BeginMove 2 0 ∷ Deliver 0 1 1 ∷ Crash 0 ∷ Deliver 0 1 0 ∷ Detect 0 ∷
    Deliver 3 1 0 ∷ Deliver 3 2 0 ∷ Resend 2 ∷ Resend 1 ∷ Call 1 0 8 0 0 ∷ Call 1 0 9 0 0 ∷ [])
    ≡ record {
      outcomes =
          ReleasedAt 0 ∷ ReleasedAt 0 ∷ Done ∷ NothingDone ∷ MoveIsRefused AlreadyThere ∷ Refused (WrongTarget 1) ∷ Refused (WrongTarget 1) ∷
          HeldAt 1 ∷ Done ∷ HeldAt 1 ∷ Done ∷ HeldAt 1 ∷ NothingDone ∷ Done ∷ MoveIsRefused NotThere ∷ TookMessage Dropped ∷ Done ∷
          TookMessage Dropped ∷ RowMadeAt 2 ∷ TookMessage Dropped ∷ TookMessage Dropped ∷ NothingDone ∷ NothingDone ∷ NothingDone ∷
          NothingDone ∷ [];
      answered = 1 ∷ 2 ∷ [];
      trail = 1 ∷ 2 ∷ [];
    }
run_45 = refl

run_46 : seen (start 3 2 0) (
    Resend 0 ∷ Resend 0 ∷ Resend 0 ∷ Call 1 0 1 0 0 ∷ Detect 0 ∷ Call 1 0 2 0 0 ∷ Advance ∷ Advance ∷ Call 0 0 3 0 0 ∷ Call 0 0 4 0 0 ∷
    Resend 2 ∷ Deliver 2 0 0 ∷ Deliver 2 1 0 ∷ BeginMove 2 1 ∷ Resend 1 ∷ Call 1 0 5 0 0 ∷ Crash 0 ∷ Detect 0 ∷ Reopen ∷ Resend 2 ∷
    Deliver 2 1 0 ∷ Call 1 0 6 6 0 ∷ Resend 0 ∷ Call 1 0 7 0 0 ∷ Call 1 0 8 8 0 ∷ BeginMove 1 2 ∷ Resend 0 ∷ Resend 2 ∷ Call 1 0 9 0 0 ∷
    Advance ∷ Call 0 0 10 10 0 ∷ Call 0 0 11 0 0 ∷ Resend 1 ∷ Deliver 2 1 0 ∷ Resend 0 ∷ Call 1 0 12 12 0 ∷ Detect 0 ∷ Resend 2 ∷
    Detect 0 ∷ Call 1 0 13 0 0 ∷ [])
    ≡ record {
      outcomes =
          NothingDone ∷ NothingDone ∷ NothingDone ∷ ReleasedAt 0 ∷ NothingDone ∷ ReleasedAt 0 ∷ NothingDone ∷ NothingDone ∷
          Refused (WrongTarget 1) ∷ Refused (WrongTarget 1) ∷ Done ∷ TookMessage Stale ∷ TookMessage Stale ∷ MoveIsRefused NotThere ∷ Done ∷
          ReleasedAt 0 ∷ Done ∷ Done ∷ ReopenIsRefused NotLost ∷ Done ∷ TookMessage Stale ∷ ReleasedAt 1 ∷ NothingDone ∷ ReleasedAt 1 ∷
          ReleasedAt 2 ∷ MoveIsRefused NotLive ∷ NothingDone ∷ Done ∷ ReleasedAt 2 ∷ NothingDone ∷ NothingDone ∷ NothingDone ∷ Done ∷
          TookMessage Stale ∷ NothingDone ∷ ReleasedAt 3 ∷ NothingDone ∷ Done ∷ NothingDone ∷ ReleasedAt 3 ∷ [];
      answered = 1 ∷ 2 ∷ 5 ∷ 6 ∷ 7 ∷ 8 ∷ 9 ∷ 12 ∷ 13 ∷ [];
      trail = 1 ∷ 2 ∷ 5 ∷ 6 ∷ 7 ∷ 8 ∷ 9 ∷ 12 ∷ 13 ∷ [];
    }
run_46 = refl

run_47 : seen (start 0 3 1) (
    Resend 2 ∷ Resend 3 ∷ Repeat 3 0 0 ∷ Call 0 0 1 0 0 ∷ BeginHandover 2 3 ∷ Deliver 3 2 0 ∷ Deliver 3 0 0 ∷ Lose 3 1 0 ∷
    BeginHandover 0 1 ∷ Deliver 3 0 0 ∷ Detect 0 ∷ Call 0 0 2 0 0 ∷ Call 2 0 3 0 0 ∷ Crash 2 ∷ Resend 2 ∷ BeginMove 1 2 ∷ Resend 0 ∷
    Resend 3 ∷ Deliver 3 2 0 ∷ Call 0 0 4 4 0 ∷ Deliver 0 1 0 ∷ Reopen ∷ Deliver 3 0 0 ∷ Deliver 1 0 0 ∷ Resend 2 ∷ BeginJoin 3 ∷
    BeginHandover 2 0 ∷ Repeat 3 1 0 ∷ Advance ∷ Deliver 3 1 0 ∷ Call 2 0 5 0 0 ∷ Deliver 3 1 0 ∷ Call 0 0 6 0 0 ∷ Call 0 0 7 7 0 ∷
    Call 1 0 8 8 0 ∷ Call 0 0 9 9 0 ∷ Deliver 3 0 0 ∷ Call 1 0 10 0 0 ∷ Deliver 0 1 0 ∷ Deliver 0 1 0 ∷ [])
    ≡ record {
      outcomes =
          NothingDone ∷ Done ∷ Done ∷ ReleasedAt 0 ∷ MoveIsRefused NotThere ∷ TookMessage Stale ∷ TookMessage Stale ∷ Done ∷ Done ∷
          TookMessage Stale ∷ NothingDone ∷ ReleasedAt 0 ∷ Refused (WrongTarget 1) ∷ Done ∷ NothingDone ∷ MoveIsRefused NotIdle ∷ Done ∷
          Done ∷ TookMessage Dropped ∷ HeldAt 1 ∷ TookMessage Applied ∷ ReopenIsRefused NotLost ∷ TookMessage Stale ∷ TookMessage Acked ∷
          NothingDone ∷ MoveIsRefused NotIdle ∷ MoveIsRefused NotIdle ∷ Done ∷ Done ∷ TookMessage Stale ∷ NothingDone ∷ TookMessage Stale ∷
          ReleasedAt 1 ∷ HeldAt 2 ∷ Refused (WrongTarget 1) ∷ HeldAt 3 ∷ TookMessage Frozen ∷ Refused (WrongTarget 1) ∷ TookMessage Applied ∷
          TookMessage Applied ∷ [];
      answered = 1 ∷ 2 ∷ 4 ∷ 6 ∷ [];
      trail = 1 ∷ 2 ∷ 4 ∷ 6 ∷ 7 ∷ 9 ∷ [];
    }
run_47 = refl

run_49 : seen (start 2 2 1) (
    Resend 2 ∷ Deliver 2 0 0 ∷ Lose 2 1 0 ∷ Resend 2 ∷ Deliver 2 0 0 ∷ Deliver 2 1 0 ∷ Resend 2 ∷ Repeat 2 1 0 ∷ Call 0 0 1 0 0 ∷
    Deliver 2 1 0 ∷ Repeat 2 1 0 ∷ Deliver 2 1 0 ∷ Advance ∷ Crash 0 ∷ Repeat 2 0 0 ∷ [])
    ≡ record {
      outcomes =
          Done ∷ TookMessage Stale ∷ Done ∷ Done ∷ TookMessage Stale ∷ TookMessage Stale ∷ Done ∷ Done ∷ ReleasedAt 0 ∷ TookMessage Stale ∷
          Done ∷ TookMessage Stale ∷ NothingDone ∷ Done ∷ Done ∷ [];
      answered = 1 ∷ [];
      trail = 1 ∷ [];
    }
run_49 = refl

run_50 : seen (start 2 3 1) (
    BeginJoin 3 ∷ Crash 1 ∷ Call 2 0 1 1 0 ∷ Lose 2 0 0 ∷ Reopen ∷ Resend 1 ∷ Call 2 0 2 2 0 ∷ Lose 2 0 0 ∷ Detect 1 ∷ Call 2 0 3 0 0 ∷
    Detect 1 ∷ Resend 0 ∷ Call 0 0 4 0 0 ∷ BeginJoin 3 ∷ Call 1 0 5 5 0 ∷ Resend 0 ∷ Resend 0 ∷ BeginMove 3 3 ∷ BeginMove 1 3 ∷ Resend 2 ∷
    Call 2 0 6 6 0 ∷ Call 2 0 7 7 0 ∷ Deliver 2 0 0 ∷ Detect 1 ∷ Deliver 2 0 0 ∷ Call 2 0 8 8 0 ∷ Deliver 0 2 0 ∷ Deliver 2 0 0 ∷
    Deliver 2 0 0 ∷ Deliver 0 2 0 ∷ Deliver 0 2 0 ∷ Deliver 2 0 0 ∷ Call 2 0 9 0 0 ∷ Deliver 0 2 0 ∷ Deliver 0 2 0 ∷ Resend 3 ∷
    Deliver 3 0 0 ∷ Deliver 3 2 0 ∷ Resend 3 ∷ Deliver 3 0 0 ∷ [])
    ≡ record {
      outcomes =
          MoveIsRefused NotLive ∷ Done ∷ HeldAt 1 ∷ Done ∷ ReopenIsRefused NotLost ∷ NothingDone ∷ HeldAt 2 ∷ Done ∷ Done ∷ HeldAt 2 ∷
          NothingDone ∷ NothingDone ∷ Refused (WrongTarget 1) ∷ MoveIsRefused NotLive ∷ NothingDone ∷ NothingDone ∷ NothingDone ∷
          MoveIsRefused NotThere ∷ MoveIsRefused NotThere ∷ Done ∷ HeldAt 3 ∷ HeldAt 4 ∷ TookMessage Applied ∷ NothingDone ∷
          TookMessage Applied ∷ HeldAt 5 ∷ TookMessage Acked ∷ TookMessage Applied ∷ TookMessage Applied ∷ TookMessage Acked ∷
          TookMessage Acked ∷ TookMessage Applied ∷ HeldAt 5 ∷ TookMessage Acked ∷ TookMessage Acked ∷ Done ∷ TookMessage Stale ∷
          TookMessage Stale ∷ Done ∷ TookMessage Stale ∷ [];
      answered = 1 ∷ 2 ∷ 3 ∷ 6 ∷ 7 ∷ 8 ∷ 9 ∷ [];
      trail = 1 ∷ 2 ∷ 3 ∷ 6 ∷ 7 ∷ 8 ∷ 9 ∷ [];
    }
run_50 = refl

run_53 : seen (start 1 4 1) (
    Resend 4 ∷ Repeat 4 3 0 ∷ Reopen ∷ Deliver 4 1 0 ∷ Call 1 0 1 1 0 ∷ Deliver 4 2 0 ∷ Crash 2 ∷ Deliver 1 2 0 ∷ Call 3 0 2 2 0 ∷
    Deliver 4 0 0 ∷ Call 2 0 3 3 0 ∷ Lose 4 3 0 ∷ BeginJoin 0 ∷ Call 2 0 4 0 0 ∷ Detect 2 ∷ Crash 3 ∷ Deliver 4 3 0 ∷ Call 1 0 5 5 0 ∷
    Reopen ∷ Deliver 4 1 0 ∷ Deliver 4 3 0 ∷ Deliver 1 2 0 ∷ Lose 1 2 0 ∷ Deliver 4 0 0 ∷ BeginMove 3 3 ∷ Deliver 4 0 0 ∷ Call 0 0 6 0 0 ∷
    Resend 0 ∷ Advance ∷ Call 1 0 7 0 0 ∷ Resend 4 ∷ Crash 2 ∷ Repeat 4 1 1 ∷ BeginHandover 2 4 ∷ Advance ∷ Call 1 0 8 0 0 ∷
    Call 2 0 9 9 0 ∷ Repeat 4 2 0 ∷ Deliver 4 3 0 ∷ Deliver 4 0 0 ∷ [])
    ≡ record {
      outcomes =
          Done ∷ Done ∷ ReopenIsRefused NotLost ∷ TookMessage Stale ∷ HeldAt 1 ∷ TookMessage Stale ∷ Done ∷ TookMessage Dropped ∷
          Refused (WrongTarget 1) ∷ TookMessage Stale ∷ NothingDone ∷ Done ∷ RowMadeAt 2 ∷ NothingDone ∷ RowMadeAt 3 ∷ Done ∷
          TookMessage Dropped ∷ HeldAt 2 ∷ ReopenIsRefused NotLost ∷ TookMessage Adopted ∷ TookMessage Dropped ∷ TookMessage Dropped ∷ Done ∷
          TookMessage Adopted ∷ MoveIsRefused NotIdle ∷ TookMessage Adopted ∷ Refused (WrongTarget 3) ∷ NothingDone ∷ NothingDone ∷
          HeldAt 2 ∷ Done ∷ NothingDone ∷ Done ∷ MoveIsRefused NotIdle ∷ NothingDone ∷ HeldAt 2 ∷ NothingDone ∷ Done ∷ TookMessage Dropped ∷
          TookMessage Stale ∷ [];
      answered = [];
      trail = 1 ∷ 5 ∷ 7 ∷ 8 ∷ [];
    }
run_53 = refl

run_55 : seen (start 1 2 0) (
    Resend 0 ∷ Resend 1 ∷ Call 0 0 1 1 0 ∷ Resend 1 ∷ Resend 1 ∷ Reopen ∷ Crash 0 ∷ Resend 0 ∷ Advance ∷ Resend 0 ∷ Resend 0 ∷
    Call 1 0 2 0 0 ∷ Resend 2 ∷ Deliver 2 0 0 ∷ Repeat 2 1 0 ∷ Deliver 2 1 0 ∷ Call 1 0 3 3 0 ∷ Deliver 2 1 0 ∷ Call 0 0 4 4 0 ∷ Resend 2 ∷
    Call 1 0 5 0 0 ∷ Call 1 0 6 0 0 ∷ Deliver 2 0 0 ∷ Deliver 2 1 0 ∷ Resend 1 ∷ Resend 2 ∷ Deliver 2 0 0 ∷ Deliver 2 1 0 ∷ Resend 2 ∷
    Call 1 0 7 7 0 ∷ Repeat 2 1 0 ∷ Deliver 2 1 0 ∷ BeginMove 0 2 ∷ Call 1 0 8 8 0 ∷ Repeat 2 1 0 ∷ Deliver 2 1 0 ∷ Call 0 0 9 0 0 ∷
    Deliver 2 1 0 ∷ Call 1 0 10 10 0 ∷ Detect 0 ∷ [])
    ≡ record {
      outcomes =
          NothingDone ∷ Done ∷ Refused (WrongTarget 1) ∷ Done ∷ Done ∷ ReopenIsRefused NotLost ∷ Done ∷ NothingDone ∷ NothingDone ∷
          NothingDone ∷ NothingDone ∷ ReleasedAt 0 ∷ Done ∷ TookMessage Dropped ∷ Done ∷ TookMessage Stale ∷ ReleasedAt 1 ∷
          TookMessage Stale ∷ NothingDone ∷ Done ∷ ReleasedAt 1 ∷ ReleasedAt 1 ∷ TookMessage Dropped ∷ TookMessage Stale ∷ Done ∷ Done ∷
          TookMessage Dropped ∷ TookMessage Stale ∷ Done ∷ ReleasedAt 2 ∷ Done ∷ TookMessage Stale ∷ MoveIsRefused NotThere ∷ ReleasedAt 3 ∷
          Done ∷ TookMessage Stale ∷ NothingDone ∷ TookMessage Stale ∷ ReleasedAt 4 ∷ Done ∷ [];
      answered = 2 ∷ 3 ∷ 5 ∷ 6 ∷ 7 ∷ 8 ∷ 10 ∷ [];
      trail = 2 ∷ 3 ∷ 5 ∷ 6 ∷ 7 ∷ 8 ∷ 10 ∷ [];
    }
run_55 = refl

run_56 : seen (start 0 4 1) (
    Resend 4 ∷ Reopen ∷ Deliver 4 1 0 ∷ Deliver 4 2 0 ∷ Deliver 4 0 0 ∷ Call 0 0 1 1 0 ∷ BeginJoin 1 ∷ Call 0 0 2 2 0 ∷ Lose 0 1 0 ∷
    Reopen ∷ Crash 1 ∷ Call 0 0 3 3 0 ∷ Resend 2 ∷ Call 2 0 4 0 0 ∷ Deliver 4 3 0 ∷ Call 0 0 5 5 0 ∷ Deliver 0 1 0 ∷ Deliver 0 1 0 ∷
    Deliver 0 1 0 ∷ Call 0 0 6 6 0 ∷ Call 0 0 7 0 0 ∷ Deliver 0 1 0 ∷ Call 1 0 8 0 0 ∷ Resend 3 ∷ Resend 0 ∷ Deliver 0 1 0 ∷
    Deliver 0 1 0 ∷ Deliver 0 1 0 ∷ Deliver 0 1 0 ∷ Lose 0 1 0 ∷ Advance ∷ Crash 0 ∷ Reopen ∷ Resend 1 ∷ Call 0 0 9 0 0 ∷ Call 0 0 10 0 0 ∷
    BeginHandover 3 3 ∷ Resend 1 ∷ Crash 2 ∷ Call 1 0 11 0 0 ∷ [])
    ≡ record {
      outcomes =
          Done ∷ ReopenIsRefused NotLost ∷ TookMessage Stale ∷ TookMessage Stale ∷ TookMessage Stale ∷ HeldAt 1 ∷
          MoveIsRefused AlreadyThere ∷ HeldAt 2 ∷ Done ∷ ReopenIsRefused NotLost ∷ Done ∷ HeldAt 3 ∷ NothingDone ∷ Refused (WrongTarget 1) ∷
          TookMessage Stale ∷ HeldAt 4 ∷ TookMessage Dropped ∷ TookMessage Dropped ∷ TookMessage Dropped ∷ HeldAt 5 ∷ HeldAt 5 ∷
          TookMessage Dropped ∷ NothingDone ∷ NothingDone ∷ Done ∷ TookMessage Dropped ∷ TookMessage Dropped ∷ TookMessage Dropped ∷
          TookMessage Dropped ∷ Done ∷ NothingDone ∷ Done ∷ ReopenIsRefused NotLost ∷ NothingDone ∷ NothingDone ∷ NothingDone ∷
          MoveIsRefused NotThere ∷ NothingDone ∷ Done ∷ NothingDone ∷ [];
      answered = [];
      trail = 1 ∷ 2 ∷ 3 ∷ 5 ∷ 6 ∷ 7 ∷ [];
    }
run_56 = refl

run_58 : seen (start 1 4 0) (
    Resend 1 ∷ Call 0 0 1 1 0 ∷ Resend 2 ∷ Detect 0 ∷ Resend 3 ∷ Detect 0 ∷ Resend 4 ∷ Call 0 0 2 2 0 ∷ Deliver 4 0 0 ∷ Deliver 4 1 0 ∷
    Call 1 0 3 3 0 ∷ BeginMove 2 1 ∷ Deliver 4 2 0 ∷ Lose 4 3 0 ∷ Call 3 0 4 0 0 ∷ Resend 0 ∷ Resend 4 ∷ Deliver 4 2 0 ∷ Deliver 4 1 0 ∷
    Deliver 4 0 0 ∷ Deliver 4 3 0 ∷ Call 2 0 5 0 0 ∷ Call 1 0 6 6 0 ∷ Call 1 0 7 0 0 ∷ Call 1 0 8 0 0 ∷ Advance ∷ Resend 4 ∷ Advance ∷
    BeginMove 3 4 ∷ Repeat 4 0 0 ∷ Reopen ∷ Call 1 0 9 9 0 ∷ Deliver 4 2 0 ∷ Crash 3 ∷ Call 3 0 10 10 0 ∷ Resend 0 ∷ Call 3 0 11 0 0 ∷
    Lose 4 0 0 ∷ Call 2 0 12 0 0 ∷ BeginHandover 4 3 ∷ [])
    ≡ record {
      outcomes =
          Done ∷ Refused (WrongTarget 1) ∷ NothingDone ∷ NothingDone ∷ NothingDone ∷ NothingDone ∷ Done ∷ Refused (WrongTarget 1) ∷
          TookMessage Stale ∷ TookMessage Stale ∷ ReleasedAt 1 ∷ MoveIsRefused NotThere ∷ TookMessage Stale ∷ Done ∷
          Refused (WrongTarget 1) ∷ NothingDone ∷ Done ∷ TookMessage Stale ∷ TookMessage Stale ∷ TookMessage Stale ∷ TookMessage Stale ∷
          Refused (WrongTarget 1) ∷ ReleasedAt 2 ∷ ReleasedAt 2 ∷ ReleasedAt 2 ∷ NothingDone ∷ Done ∷ NothingDone ∷ MoveIsRefused NotThere ∷
          Done ∷ ReopenIsRefused NotLost ∷ ReleasedAt 3 ∷ TookMessage Stale ∷ Done ∷ NothingDone ∷ NothingDone ∷ NothingDone ∷ Done ∷
          Refused (WrongTarget 1) ∷ MoveIsRefused NotThere ∷ [];
      answered = 3 ∷ 6 ∷ 7 ∷ 8 ∷ 9 ∷ [];
      trail = 3 ∷ 6 ∷ 7 ∷ 8 ∷ 9 ∷ [];
    }
run_58 = refl
