-- Random runs of another program, written from the rules alone, in which no member crashes: the definitions compute the same outcomes, answers and trails.
use Rattle.std.specs.Prelude.{◌≡◌, [], ◌∷◌, refl}
use Rattle.partition_protocol.specs.Took.{Adopted, Synced, Applied, Acked, Joined, Already, Gap, Stale}
use Rattle.partition_protocol.specs.Execution.{WrongTarget}
use Rattle.partition_protocol.specs.Service.{NotIdle, NotThere, AlreadyThere, NotLive, NotLost}
use Rattle.partition_protocol.specs.World.{start}
use Rattle.partition_protocol.specs.Events.{Call, Deliver, Lose, Repeat, Resend, Detect, BeginMove, BeginJoin, BeginHandover, Advance, Reopen, NothingDone, Done, HeldAt, ReleasedAt, Refused, TookMessage, RowMadeAt, MoveIsRefused, ReopenIsRefused}
use Rattle.partition_protocol.specs.Examples.{seen}

run_0 : seen (start 3 3 0) (
    Advance ∷ Resend 2 ∷ Advance ∷ Resend 1 ∷ Resend 2 ∷ Call 0 0 1 0 0 ∷ Reopen ∷ Resend 1 ∷ Resend 0 ∷ BeginJoin 2 ∷ Deliver 3 0 0 ∷
    Deliver 3 1 0 ∷ Deliver 3 2 0 ∷ Detect 0 ∷ Resend 0 ∷ Deliver 0 2 0 ∷ BeginMove 1 1 ∷ Deliver 0 2 0 ∷ Reopen ∷ BeginMove 3 0 ∷
    Lose 2 0 1 ∷ Deliver 2 0 0 ∷ Deliver 0 3 0 ∷ Call 1 0 2 0 0 ∷ Resend 0 ∷ [])
    ≡ record {
      outcomes =
          NothingDone ∷ NothingDone ∷ NothingDone ∷ NothingDone ∷ NothingDone ∷ ReleasedAt 0 ∷ ReopenIsRefused NotLost ∷ NothingDone ∷ Done ∷
          RowMadeAt 2 ∷ TookMessage Adopted ∷ TookMessage Adopted ∷ TookMessage Adopted ∷ NothingDone ∷ Done ∷ TookMessage Synced ∷
          MoveIsRefused NotIdle ∷ TookMessage Already ∷ ReopenIsRefused NotLost ∷ MoveIsRefused NotIdle ∷ Done ∷ TookMessage Acked ∷
          TookMessage Joined ∷ Refused (WrongTarget 2) ∷ Done ∷ [];
      answered = 1 ∷ [];
      trail = 1 ∷ [];
    }
run_0 = refl

run_1 : seen (start 4 2 0) (
    Call 0 0 1 1 0 ∷ Resend 0 ∷ Call 0 0 2 2 0 ∷ Resend 0 ∷ Resend 1 ∷ Resend 0 ∷ Resend 0 ∷ BeginJoin 0 ∷ Call 1 0 3 0 0 ∷ Advance ∷
    Resend 0 ∷ Advance ∷ Resend 2 ∷ Deliver 2 1 0 ∷ Deliver 2 0 0 ∷ BeginHandover 2 0 ∷ Call 0 0 4 0 0 ∷ Resend 2 ∷ Advance ∷
    Repeat 2 1 0 ∷ Call 0 0 5 5 0 ∷ Detect 0 ∷ Deliver 2 1 1 ∷ Detect 0 ∷ Lose 2 0 0 ∷ [])
    ≡ record {
      outcomes =
          ReleasedAt 1 ∷ Done ∷ ReleasedAt 2 ∷ Done ∷ NothingDone ∷ Done ∷ Done ∷ MoveIsRefused AlreadyThere ∷ Refused (WrongTarget 1) ∷
          NothingDone ∷ Done ∷ NothingDone ∷ Done ∷ TookMessage Stale ∷ TookMessage Stale ∷ MoveIsRefused NotThere ∷ ReleasedAt 2 ∷ Done ∷
          NothingDone ∷ Done ∷ ReleasedAt 3 ∷ NothingDone ∷ TookMessage Stale ∷ NothingDone ∷ Done ∷ [];
      answered = 1 ∷ 2 ∷ 4 ∷ 5 ∷ [];
      trail = 1 ∷ 2 ∷ 4 ∷ 5 ∷ [];
    }
run_1 = refl

run_3 : seen (start 4 2 2) (
    Resend 2 ∷ Repeat 2 0 0 ∷ Repeat 2 0 0 ∷ Lose 2 0 0 ∷ Deliver 2 1 0 ∷ Repeat 2 0 0 ∷ Call 0 0 1 0 0 ∷ Deliver 2 0 1 ∷
    BeginHandover 1 2 ∷ Detect 0 ∷ Deliver 2 0 0 ∷ Deliver 2 0 0 ∷ BeginMove 1 2 ∷ Detect 0 ∷ Resend 2 ∷ [])
    ≡ record {
      outcomes =
          Done ∷ Done ∷ Done ∷ Done ∷ TookMessage Stale ∷ Done ∷ ReleasedAt 0 ∷ TookMessage Stale ∷ MoveIsRefused NotThere ∷ NothingDone ∷
          TookMessage Stale ∷ TookMessage Stale ∷ MoveIsRefused NotLive ∷ NothingDone ∷ Done ∷ [];
      answered = 1 ∷ [];
      trail = 1 ∷ [];
    }
run_3 = refl

run_5 : seen (start 2 4 2) (
    Detect 0 ∷ Advance ∷ Resend 4 ∷ Call 0 0 1 1 0 ∷ Deliver 4 1 0 ∷ Deliver 4 3 0 ∷ Resend 3 ∷ Deliver 4 2 0 ∷ Call 1 0 2 2 0 ∷
    Call 2 0 3 0 0 ∷ Call 2 0 4 4 0 ∷ BeginMove 2 2 ∷ Advance ∷ Deliver 2 0 0 ∷ Advance ∷ Call 0 0 5 0 0 ∷ Call 0 0 6 6 0 ∷ Advance ∷
    Deliver 2 3 0 ∷ Call 2 0 7 0 0 ∷ Call 2 0 8 0 0 ∷ Deliver 0 2 0 ∷ Call 2 0 9 0 0 ∷ Advance ∷ Deliver 3 2 0 ∷ [])
    ≡ record {
      outcomes =
          NothingDone ∷ NothingDone ∷ Done ∷ Refused (WrongTarget 1) ∷ TookMessage Stale ∷ TookMessage Stale ∷ NothingDone ∷
          TookMessage Stale ∷ Refused (WrongTarget 1) ∷ ReleasedAt 0 ∷ HeldAt 1 ∷ MoveIsRefused AlreadyThere ∷ NothingDone ∷
          TookMessage Applied ∷ NothingDone ∷ Refused (WrongTarget 1) ∷ Refused (WrongTarget 1) ∷ NothingDone ∷ TookMessage Applied ∷
          HeldAt 1 ∷ HeldAt 1 ∷ TookMessage Acked ∷ HeldAt 1 ∷ NothingDone ∷ TookMessage Acked ∷ [];
      answered = 3 ∷ 4 ∷ 7 ∷ 8 ∷ 9 ∷ [];
      trail = 3 ∷ 4 ∷ 7 ∷ 8 ∷ 9 ∷ [];
    }
run_5 = refl

run_8 : seen (start 2 2 1) (
    Call 0 0 1 0 0 ∷ Call 1 0 2 2 0 ∷ Resend 0 ∷ Resend 1 ∷ Resend 2 ∷ Call 0 0 3 0 0 ∷ Deliver 2 0 0 ∷ BeginHandover 2 0 ∷ Deliver 2 1 0 ∷
    Detect 0 ∷ Call 0 0 4 0 0 ∷ Resend 0 ∷ Resend 2 ∷ Deliver 2 0 0 ∷ Call 0 0 5 5 0 ∷ [])
    ≡ record {
      outcomes =
          ReleasedAt 0 ∷ Refused (WrongTarget 1) ∷ Done ∷ NothingDone ∷ Done ∷ ReleasedAt 0 ∷ TookMessage Stale ∷ MoveIsRefused NotThere ∷
          TookMessage Stale ∷ NothingDone ∷ ReleasedAt 0 ∷ Done ∷ Done ∷ TookMessage Stale ∷ HeldAt 1 ∷ [];
      answered = 1 ∷ 3 ∷ 4 ∷ [];
      trail = 1 ∷ 3 ∷ 4 ∷ 5 ∷ [];
    }
run_8 = refl

run_11 : seen (start 4 3 1) (
    Resend 1 ∷ Call 1 0 1 1 0 ∷ Deliver 1 2 0 ∷ Call 2 0 2 0 0 ∷ Deliver 2 1 0 ∷ Detect 0 ∷ Call 1 0 3 3 0 ∷ BeginMove 0 3 ∷
    Deliver 1 2 0 ∷ Deliver 2 1 0 ∷ Reopen ∷ Reopen ∷ Detect 0 ∷ Resend 2 ∷ Resend 2 ∷ Call 1 0 4 0 0 ∷ Resend 2 ∷ Resend 0 ∷ Detect 0 ∷
    Call 1 0 5 0 0 ∷ Resend 3 ∷ Deliver 3 2 0 ∷ Deliver 3 0 0 ∷ Deliver 3 1 0 ∷ Call 0 0 6 6 0 ∷ [])
    ≡ record {
      outcomes =
          Done ∷ HeldAt 1 ∷ TookMessage Applied ∷ Refused (WrongTarget 1) ∷ TookMessage Acked ∷ NothingDone ∷ HeldAt 2 ∷
          MoveIsRefused NotThere ∷ TookMessage Applied ∷ TookMessage Acked ∷ ReopenIsRefused NotLost ∷ ReopenIsRefused NotLost ∷
          NothingDone ∷ NothingDone ∷ NothingDone ∷ ReleasedAt 2 ∷ NothingDone ∷ NothingDone ∷ NothingDone ∷ ReleasedAt 2 ∷ Done ∷
          TookMessage Stale ∷ TookMessage Stale ∷ TookMessage Stale ∷ Refused (WrongTarget 1) ∷ [];
      answered = 1 ∷ 3 ∷ 4 ∷ 5 ∷ [];
      trail = 1 ∷ 3 ∷ 4 ∷ 5 ∷ [];
    }
run_11 = refl

run_12 : seen (start 2 3 2) (
    Resend 1 ∷ Resend 2 ∷ Resend 3 ∷ Deliver 3 2 0 ∷ Deliver 3 1 0 ∷ Call 1 0 1 1 0 ∷ Call 2 0 2 0 0 ∷ Deliver 3 0 0 ∷ BeginHandover 1 0 ∷
    Reopen ∷ Resend 3 ∷ Call 0 0 3 3 0 ∷ Repeat 3 2 0 ∷ BeginMove 1 0 ∷ Deliver 3 2 0 ∷ Deliver 3 2 0 ∷ Advance ∷ Reopen ∷ Deliver 3 1 0 ∷
    Call 2 0 4 0 0 ∷ Lose 3 0 0 ∷ Resend 0 ∷ Resend 3 ∷ Call 2 0 5 0 0 ∷ Resend 1 ∷ Call 2 0 6 0 0 ∷ Call 2 0 7 7 0 ∷ Deliver 3 0 0 ∷
    Repeat 2 1 0 ∷ Deliver 3 2 0 ∷ Call 2 0 8 8 0 ∷ BeginHandover 0 2 ∷ BeginHandover 2 1 ∷ Deliver 3 1 0 ∷ Call 2 0 9 9 0 ∷
    Call 2 0 10 0 0 ∷ Deliver 2 1 3 ∷ Deliver 2 0 2 ∷ Repeat 2 0 0 ∷ Deliver 2 0 0 ∷ [])
    ≡ record {
      outcomes =
          NothingDone ∷ Done ∷ Done ∷ TookMessage Stale ∷ TookMessage Stale ∷ Refused (WrongTarget 1) ∷ ReleasedAt 0 ∷ TookMessage Stale ∷
          MoveIsRefused NotThere ∷ ReopenIsRefused NotLost ∷ Done ∷ Refused (WrongTarget 1) ∷ Done ∷ MoveIsRefused AlreadyThere ∷
          TookMessage Stale ∷ TookMessage Stale ∷ NothingDone ∷ ReopenIsRefused NotLost ∷ TookMessage Stale ∷ ReleasedAt 0 ∷ Done ∷
          NothingDone ∷ Done ∷ ReleasedAt 0 ∷ NothingDone ∷ ReleasedAt 0 ∷ HeldAt 1 ∷ TookMessage Stale ∷ Done ∷ TookMessage Stale ∷
          HeldAt 2 ∷ MoveIsRefused NotThere ∷ Done ∷ TookMessage Stale ∷ HeldAt 3 ∷ HeldAt 3 ∷ TookMessage Gap ∷ TookMessage Gap ∷ Done ∷
          TookMessage Applied ∷ [];
      answered = 2 ∷ 4 ∷ 5 ∷ 6 ∷ [];
      trail = 2 ∷ 4 ∷ 5 ∷ 6 ∷ 7 ∷ 8 ∷ 9 ∷ 10 ∷ [];
    }
run_12 = refl

run_13 : seen (start 2 3 2) (
    Detect 0 ∷ BeginMove 1 1 ∷ BeginMove 1 1 ∷ Call 2 0 1 0 0 ∷ Call 2 0 2 0 0 ∷ Reopen ∷ Detect 0 ∷ Call 2 0 3 3 0 ∷ Resend 1 ∷ Detect 0 ∷
    Deliver 2 0 0 ∷ Lose 0 2 0 ∷ Deliver 2 1 0 ∷ Deliver 1 2 0 ∷ Resend 1 ∷ Resend 3 ∷ Deliver 3 1 0 ∷ Deliver 3 2 0 ∷ BeginMove 3 1 ∷
    Deliver 3 0 0 ∷ Resend 3 ∷ Lose 3 2 0 ∷ Deliver 3 1 0 ∷ Call 0 0 4 0 0 ∷ BeginMove 2 1 ∷ Resend 2 ∷ Deliver 3 0 0 ∷ Call 1 0 5 0 0 ∷
    Deliver 2 0 0 ∷ Deliver 0 2 0 ∷ Resend 1 ∷ Call 0 0 6 0 0 ∷ Advance ∷ Detect 0 ∷ Resend 0 ∷ Call 2 0 7 0 0 ∷ Resend 2 ∷ Resend 0 ∷
    Advance ∷ Resend 0 ∷ [])
    ≡ record {
      outcomes =
          NothingDone ∷ MoveIsRefused AlreadyThere ∷ MoveIsRefused AlreadyThere ∷ ReleasedAt 0 ∷ ReleasedAt 0 ∷ ReopenIsRefused NotLost ∷
          NothingDone ∷ HeldAt 1 ∷ NothingDone ∷ NothingDone ∷ TookMessage Applied ∷ Done ∷ TookMessage Applied ∷ TookMessage Acked ∷
          NothingDone ∷ Done ∷ TookMessage Stale ∷ TookMessage Stale ∷ MoveIsRefused NotThere ∷ TookMessage Stale ∷ Done ∷ Done ∷
          TookMessage Stale ∷ Refused (WrongTarget 1) ∷ MoveIsRefused AlreadyThere ∷ Done ∷ TookMessage Stale ∷ Refused (WrongTarget 1) ∷
          TookMessage Already ∷ TookMessage Acked ∷ NothingDone ∷ Refused (WrongTarget 1) ∷ NothingDone ∷ NothingDone ∷ NothingDone ∷
          ReleasedAt 1 ∷ Done ∷ NothingDone ∷ NothingDone ∷ NothingDone ∷ [];
      answered = 1 ∷ 2 ∷ 3 ∷ 7 ∷ [];
      trail = 1 ∷ 2 ∷ 3 ∷ 7 ∷ [];
    }
run_13 = refl

run_14 : seen (start 4 2 2) (
    Resend 0 ∷ Resend 1 ∷ Resend 0 ∷ Resend 1 ∷ Resend 1 ∷ Resend 0 ∷ Resend 1 ∷ Resend 1 ∷ Resend 2 ∷ Deliver 2 0 0 ∷ Deliver 2 1 0 ∷
    Resend 0 ∷ Resend 1 ∷ Resend 1 ∷ BeginJoin 0 ∷ BeginMove 2 0 ∷ Resend 2 ∷ Deliver 2 0 0 ∷ Call 0 0 1 1 0 ∷ Deliver 0 1 0 ∷ Detect 0 ∷
    Call 0 0 2 0 0 ∷ Call 0 0 3 0 0 ∷ Repeat 2 1 0 ∷ Call 0 0 4 4 0 ∷ Deliver 0 1 0 ∷ Call 0 0 5 5 0 ∷ Deliver 0 1 0 ∷ Deliver 2 1 0 ∷
    Resend 1 ∷ Call 1 0 6 0 0 ∷ Advance ∷ Deliver 1 0 0 ∷ Deliver 1 0 0 ∷ Call 0 0 7 0 0 ∷ Lose 1 0 0 ∷ Reopen ∷ Call 0 0 8 8 0 ∷
    Call 0 0 9 0 0 ∷ Call 0 0 10 0 0 ∷ [])
    ≡ record {
      outcomes =
          Done ∷ NothingDone ∷ Done ∷ NothingDone ∷ NothingDone ∷ Done ∷ NothingDone ∷ NothingDone ∷ Done ∷ TookMessage Stale ∷
          TookMessage Stale ∷ Done ∷ NothingDone ∷ NothingDone ∷ MoveIsRefused AlreadyThere ∷ MoveIsRefused NotThere ∷ Done ∷
          TookMessage Stale ∷ HeldAt 1 ∷ TookMessage Applied ∷ NothingDone ∷ HeldAt 1 ∷ HeldAt 1 ∷ Done ∷ HeldAt 2 ∷ TookMessage Applied ∷
          HeldAt 3 ∷ TookMessage Applied ∷ TookMessage Stale ∷ NothingDone ∷ Refused (WrongTarget 1) ∷ NothingDone ∷ TookMessage Acked ∷
          TookMessage Acked ∷ HeldAt 3 ∷ Done ∷ ReopenIsRefused NotLost ∷ HeldAt 4 ∷ HeldAt 4 ∷ HeldAt 4 ∷ [];
      answered = 1 ∷ 2 ∷ 3 ∷ 4 ∷ [];
      trail = 1 ∷ 2 ∷ 3 ∷ 4 ∷ 5 ∷ 7 ∷ 8 ∷ 9 ∷ 10 ∷ [];
    }
run_14 = refl

run_17 : seen (start 3 4 1) (
    Resend 4 ∷ Deliver 4 0 0 ∷ Resend 2 ∷ BeginMove 2 3 ∷ Call 1 0 1 0 0 ∷ Call 3 0 2 2 0 ∷ Call 2 0 3 3 0 ∷ Deliver 4 1 0 ∷
    Call 3 0 4 4 0 ∷ Deliver 4 3 0 ∷ Deliver 3 0 0 ∷ Call 3 0 5 0 0 ∷ Call 0 0 6 0 0 ∷ Deliver 4 2 0 ∷ Call 3 0 7 0 0 ∷ Call 3 0 8 0 0 ∷
    Call 1 0 9 9 0 ∷ Deliver 0 3 0 ∷ Call 1 0 10 0 0 ∷ Deliver 3 0 0 ∷ Resend 3 ∷ Deliver 0 3 0 ∷ Reopen ∷ BeginHandover 0 4 ∷
    Deliver 3 0 0 ∷ [])
    ≡ record {
      outcomes =
          Done ∷ TookMessage Stale ∷ NothingDone ∷ MoveIsRefused NotThere ∷ Refused (WrongTarget 1) ∷ HeldAt 1 ∷ Refused (WrongTarget 1) ∷
          TookMessage Stale ∷ HeldAt 2 ∷ TookMessage Stale ∷ TookMessage Applied ∷ HeldAt 2 ∷ Refused (WrongTarget 1) ∷ TookMessage Stale ∷
          HeldAt 2 ∷ HeldAt 2 ∷ Refused (WrongTarget 1) ∷ TookMessage Acked ∷ Refused (WrongTarget 1) ∷ TookMessage Applied ∷ Done ∷
          TookMessage Acked ∷ ReopenIsRefused NotLost ∷ MoveIsRefused NotThere ∷ TookMessage Already ∷ [];
      answered = 2 ∷ 4 ∷ 5 ∷ 7 ∷ 8 ∷ [];
      trail = 2 ∷ 4 ∷ 5 ∷ 7 ∷ 8 ∷ [];
    }
run_17 = refl

run_19 : seen (start 0 4 2) (
    Resend 3 ∷ Resend 4 ∷ Deliver 4 1 0 ∷ Lose 4 2 0 ∷ Call 1 0 1 1 0 ∷ BeginMove 1 0 ∷ Lose 4 3 0 ∷ Deliver 4 0 0 ∷ BeginMove 3 2 ∷
    Resend 4 ∷ Detect 0 ∷ Detect 0 ∷ Advance ∷ Deliver 4 0 0 ∷ Call 0 0 2 0 0 ∷ [])
    ≡ record {
      outcomes =
          NothingDone ∷ Done ∷ TookMessage Stale ∷ Done ∷ Refused (WrongTarget 1) ∷ MoveIsRefused AlreadyThere ∷ Done ∷ TookMessage Stale ∷
          MoveIsRefused NotThere ∷ Done ∷ NothingDone ∷ NothingDone ∷ NothingDone ∷ TookMessage Stale ∷ ReleasedAt 0 ∷ [];
      answered = 2 ∷ [];
      trail = 2 ∷ [];
    }
run_19 = refl

run_20 : seen (start 5 4 0) (
    Resend 0 ∷ BeginMove 4 1 ∷ Call 0 0 1 0 0 ∷ Call 1 0 2 2 0 ∷ Advance ∷ Resend 1 ∷ Call 2 0 3 0 0 ∷ Resend 0 ∷ Resend 3 ∷ Resend 1 ∷
    Resend 0 ∷ Call 1 0 4 4 0 ∷ Resend 2 ∷ Resend 2 ∷ Call 1 0 5 0 0 ∷ Resend 1 ∷ BeginMove 1 4 ∷ Resend 0 ∷ Detect 0 ∷ Resend 2 ∷
    Call 2 0 6 0 0 ∷ Resend 3 ∷ BeginJoin 2 ∷ Deliver 4 3 0 ∷ Resend 0 ∷ [])
    ≡ record {
      outcomes =
          NothingDone ∷ MoveIsRefused NotThere ∷ Refused (WrongTarget 1) ∷ ReleasedAt 1 ∷ NothingDone ∷ Done ∷ Refused (WrongTarget 1) ∷
          NothingDone ∷ NothingDone ∷ Done ∷ NothingDone ∷ ReleasedAt 2 ∷ NothingDone ∷ NothingDone ∷ ReleasedAt 2 ∷ Done ∷
          MoveIsRefused NotLive ∷ NothingDone ∷ NothingDone ∷ NothingDone ∷ Refused (WrongTarget 1) ∷ NothingDone ∷ RowMadeAt 2 ∷
          TookMessage Adopted ∷ NothingDone ∷ [];
      answered = 2 ∷ 4 ∷ 5 ∷ [];
      trail = 2 ∷ 4 ∷ 5 ∷ [];
    }
run_20 = refl

run_24 : seen (start 3 4 2) (
    Call 3 0 1 1 0 ∷ Call 2 0 2 0 0 ∷ Resend 1 ∷ Detect 0 ∷ Lose 3 0 0 ∷ Reopen ∷ Call 1 0 3 3 0 ∷ Advance ∷ Resend 3 ∷ Deliver 3 0 0 ∷
    Deliver 0 3 0 ∷ Deliver 3 1 0 ∷ Call 3 0 4 0 0 ∷ Deliver 3 1 0 ∷ Detect 0 ∷ [])
    ≡ record {
      outcomes =
          HeldAt 1 ∷ Refused (WrongTarget 1) ∷ NothingDone ∷ NothingDone ∷ Done ∷ ReopenIsRefused NotLost ∷ Refused (WrongTarget 1) ∷
          NothingDone ∷ Done ∷ TookMessage Applied ∷ TookMessage Acked ∷ TookMessage Applied ∷ HeldAt 1 ∷ TookMessage Already ∷ NothingDone ∷ [];
      answered = [];
      trail = 1 ∷ 4 ∷ [];
    }
run_24 = refl

run_26 : seen (start 1 4 2) (
    Resend 4 ∷ Call 3 0 1 1 0 ∷ Call 2 0 2 2 0 ∷ Deliver 4 1 0 ∷ Call 2 0 3 0 0 ∷ Deliver 4 0 0 ∷ Lose 4 3 0 ∷ Call 2 0 4 0 0 ∷ Detect 0 ∷
    Deliver 4 2 0 ∷ Resend 2 ∷ Detect 0 ∷ BeginMove 3 3 ∷ Detect 0 ∷ Call 1 0 5 5 0 ∷ [])
    ≡ record {
      outcomes =
          Done ∷ Refused (WrongTarget 1) ∷ Refused (WrongTarget 1) ∷ TookMessage Stale ∷ Refused (WrongTarget 1) ∷ TookMessage Stale ∷ Done ∷
          Refused (WrongTarget 1) ∷ NothingDone ∷ TookMessage Stale ∷ NothingDone ∷ NothingDone ∷ MoveIsRefused AlreadyThere ∷ NothingDone ∷
          HeldAt 1 ∷ [];
      answered = [];
      trail = 5 ∷ [];
    }
run_26 = refl

run_27 : seen (start 3 4 2) (
    Advance ∷ Call 3 0 1 0 0 ∷ Detect 0 ∷ Resend 2 ∷ Detect 0 ∷ Resend 1 ∷ BeginJoin 3 ∷ Detect 0 ∷ Resend 4 ∷ Deliver 4 3 0 ∷ Reopen ∷
    Call 3 0 2 2 0 ∷ Deliver 3 1 0 ∷ Repeat 4 0 0 ∷ Detect 0 ∷ Call 2 0 3 0 0 ∷ Call 2 0 4 4 0 ∷ Repeat 4 0 0 ∷ Call 3 0 5 5 0 ∷
    Repeat 4 0 0 ∷ BeginMove 3 2 ∷ Call 3 0 6 0 0 ∷ Call 3 0 7 0 0 ∷ Deliver 4 2 0 ∷ Deliver 4 0 0 ∷ [])
    ≡ record {
      outcomes =
          NothingDone ∷ ReleasedAt 0 ∷ NothingDone ∷ NothingDone ∷ NothingDone ∷ NothingDone ∷ MoveIsRefused AlreadyThere ∷ NothingDone ∷
          Done ∷ TookMessage Stale ∷ ReopenIsRefused NotLost ∷ HeldAt 1 ∷ TookMessage Applied ∷ Done ∷ NothingDone ∷
          Refused (WrongTarget 1) ∷ Refused (WrongTarget 1) ∷ Done ∷ HeldAt 2 ∷ Done ∷ RowMadeAt 2 ∷ HeldAt 2 ∷ HeldAt 2 ∷
          TookMessage Stale ∷ TookMessage Stale ∷ [];
      answered = 1 ∷ [];
      trail = 1 ∷ 2 ∷ 5 ∷ 6 ∷ 7 ∷ [];
    }
run_27 = refl

run_28 : seen (start 5 2 0) (
    Resend 0 ∷ Resend 2 ∷ Deliver 2 1 0 ∷ Call 1 0 1 1 0 ∷ Call 0 0 2 2 0 ∷ Call 0 0 3 0 0 ∷ Repeat 2 0 0 ∷ Repeat 2 0 0 ∷ Deliver 2 0 0 ∷
    Deliver 2 0 0 ∷ BeginHandover 2 0 ∷ Deliver 2 0 0 ∷ Resend 1 ∷ Resend 1 ∷ Detect 0 ∷ Detect 0 ∷ Resend 2 ∷ Deliver 2 0 0 ∷
    Deliver 2 1 0 ∷ BeginHandover 1 1 ∷ Resend 1 ∷ Call 1 0 4 4 0 ∷ Resend 2 ∷ Detect 0 ∷ Deliver 2 0 0 ∷ BeginMove 1 1 ∷ Deliver 2 1 0 ∷
    Resend 1 ∷ Call 1 0 5 0 0 ∷ Resend 1 ∷ Resend 1 ∷ Call 0 0 6 6 0 ∷ Resend 2 ∷ Call 1 0 7 7 0 ∷ Call 1 0 8 8 0 ∷ Detect 0 ∷
    BeginMove 1 2 ∷ Deliver 2 1 0 ∷ Deliver 2 0 0 ∷ Resend 2 ∷ [])
    ≡ record {
      outcomes =
          NothingDone ∷ Done ∷ TookMessage Stale ∷ ReleasedAt 1 ∷ Refused (WrongTarget 1) ∷ Refused (WrongTarget 1) ∷ Done ∷ Done ∷
          TookMessage Stale ∷ TookMessage Stale ∷ MoveIsRefused NotThere ∷ TookMessage Stale ∷ Done ∷ Done ∷ NothingDone ∷ NothingDone ∷
          Done ∷ TookMessage Stale ∷ TookMessage Stale ∷ MoveIsRefused NotThere ∷ Done ∷ ReleasedAt 2 ∷ Done ∷ NothingDone ∷
          TookMessage Stale ∷ MoveIsRefused AlreadyThere ∷ TookMessage Stale ∷ Done ∷ ReleasedAt 2 ∷ Done ∷ Done ∷ Refused (WrongTarget 1) ∷
          Done ∷ ReleasedAt 3 ∷ ReleasedAt 4 ∷ NothingDone ∷ MoveIsRefused NotLive ∷ TookMessage Stale ∷ TookMessage Stale ∷ Done ∷ [];
      answered = 1 ∷ 4 ∷ 5 ∷ 7 ∷ 8 ∷ [];
      trail = 1 ∷ 4 ∷ 5 ∷ 7 ∷ 8 ∷ [];
    }
run_28 = refl

run_29 : seen (start 0 4 1) (
    Detect 0 ∷ Resend 4 ∷ BeginHandover 3 3 ∷ Call 0 0 1 0 0 ∷ Detect 0 ∷ Deliver 4 2 0 ∷ BeginHandover 4 3 ∷ Detect 0 ∷ Call 0 0 2 2 0 ∷
    Deliver 0 1 0 ∷ Deliver 1 0 0 ∷ Call 0 0 3 3 0 ∷ Deliver 4 3 0 ∷ Lose 4 0 0 ∷ Deliver 0 1 0 ∷ Repeat 1 0 0 ∷ Deliver 1 0 0 ∷
    Call 3 0 4 0 0 ∷ Deliver 1 0 0 ∷ Deliver 4 1 0 ∷ Resend 2 ∷ Call 2 0 5 0 0 ∷ Advance ∷ Resend 0 ∷ Call 2 0 6 6 0 ∷ Resend 0 ∷
    Call 0 0 7 0 0 ∷ Resend 1 ∷ Call 2 0 8 8 0 ∷ Detect 0 ∷ Resend 3 ∷ BeginMove 1 1 ∷ Resend 4 ∷ Lose 4 2 0 ∷ Call 0 0 9 0 0 ∷
    Repeat 4 3 0 ∷ BeginJoin 3 ∷ Deliver 4 3 0 ∷ Deliver 4 0 0 ∷ Call 0 0 10 10 0 ∷ [])
    ≡ record {
      outcomes =
          NothingDone ∷ Done ∷ MoveIsRefused NotThere ∷ ReleasedAt 0 ∷ NothingDone ∷ TookMessage Stale ∷ MoveIsRefused NotThere ∷
          NothingDone ∷ HeldAt 1 ∷ TookMessage Applied ∷ TookMessage Acked ∷ HeldAt 2 ∷ TookMessage Stale ∷ Done ∷ TookMessage Applied ∷
          Done ∷ TookMessage Acked ∷ Refused (WrongTarget 1) ∷ TookMessage Acked ∷ TookMessage Stale ∷ NothingDone ∷
          Refused (WrongTarget 1) ∷ NothingDone ∷ Done ∷ Refused (WrongTarget 1) ∷ Done ∷ ReleasedAt 2 ∷ NothingDone ∷
          Refused (WrongTarget 1) ∷ NothingDone ∷ NothingDone ∷ MoveIsRefused AlreadyThere ∷ Done ∷ Done ∷ ReleasedAt 2 ∷ Done ∷
          RowMadeAt 2 ∷ TookMessage Stale ∷ TookMessage Stale ∷ HeldAt 3 ∷ [];
      answered = 1 ∷ 2 ∷ 3 ∷ 7 ∷ 9 ∷ [];
      trail = 1 ∷ 2 ∷ 3 ∷ 7 ∷ 9 ∷ 10 ∷ [];
    }
run_29 = refl

run_30 : seen (start 2 4 2) (
    Resend 1 ∷ Reopen ∷ Call 0 0 1 1 0 ∷ Reopen ∷ Resend 4 ∷ Reopen ∷ Repeat 4 0 0 ∷ Deliver 4 0 1 ∷ Detect 0 ∷ Deliver 4 3 0 ∷
    Repeat 4 0 0 ∷ Call 2 0 2 0 0 ∷ Deliver 4 0 0 ∷ Call 2 0 3 3 0 ∷ BeginHandover 4 2 ∷ [])
    ≡ record {
      outcomes =
          NothingDone ∷ ReopenIsRefused NotLost ∷ Refused (WrongTarget 1) ∷ ReopenIsRefused NotLost ∷ Done ∷ ReopenIsRefused NotLost ∷ Done ∷
          TookMessage Stale ∷ NothingDone ∷ TookMessage Stale ∷ Done ∷ ReleasedAt 0 ∷ TookMessage Stale ∷ HeldAt 1 ∷ MoveIsRefused NotThere ∷ [];
      answered = 2 ∷ [];
      trail = 2 ∷ 3 ∷ [];
    }
run_30 = refl

run_33 : seen (start 1 4 2) (
    Detect 0 ∷ Resend 4 ∷ BeginJoin 1 ∷ Reopen ∷ BeginJoin 4 ∷ Repeat 4 3 0 ∷ Deliver 4 2 0 ∷ BeginJoin 4 ∷ BeginMove 3 2 ∷
    BeginHandover 4 1 ∷ Call 1 0 1 0 0 ∷ Reopen ∷ Deliver 4 1 0 ∷ Call 1 0 2 2 0 ∷ Deliver 4 3 0 ∷ [])
    ≡ record {
      outcomes =
          NothingDone ∷ Done ∷ MoveIsRefused AlreadyThere ∷ ReopenIsRefused NotLost ∷ MoveIsRefused NotLive ∷ Done ∷ TookMessage Stale ∷
          MoveIsRefused NotLive ∷ MoveIsRefused AlreadyThere ∷ MoveIsRefused NotThere ∷ ReleasedAt 0 ∷ ReopenIsRefused NotLost ∷
          TookMessage Stale ∷ HeldAt 1 ∷ TookMessage Stale ∷ [];
      answered = 1 ∷ [];
      trail = 1 ∷ 2 ∷ [];
    }
run_33 = refl

run_34 : seen (start 2 4 2) (
    Detect 0 ∷ BeginJoin 3 ∷ Resend 0 ∷ Resend 2 ∷ Resend 4 ∷ Deliver 4 1 0 ∷ Call 2 0 1 0 0 ∷ Detect 0 ∷ Lose 4 3 0 ∷ Detect 0 ∷ Advance ∷
    Deliver 4 2 0 ∷ Call 1 0 2 2 0 ∷ Deliver 4 0 0 ∷ Resend 0 ∷ [])
    ≡ record {
      outcomes =
          NothingDone ∷ MoveIsRefused AlreadyThere ∷ NothingDone ∷ Done ∷ Done ∷ TookMessage Stale ∷ ReleasedAt 0 ∷ NothingDone ∷ Done ∷
          NothingDone ∷ NothingDone ∷ TookMessage Stale ∷ Refused (WrongTarget 1) ∷ TookMessage Stale ∷ NothingDone ∷ [];
      answered = 1 ∷ [];
      trail = 1 ∷ [];
    }
run_34 = refl

run_37 : seen (start 4 4 0) (
    Resend 4 ∷ Call 0 0 1 1 0 ∷ Deliver 4 0 0 ∷ Deliver 4 2 0 ∷ Advance ∷ Advance ∷ Detect 0 ∷ Call 0 0 2 0 0 ∷ BeginHandover 3 4 ∷
    Deliver 4 1 0 ∷ Call 0 0 3 0 0 ∷ Call 1 0 4 4 0 ∷ Call 0 0 5 5 0 ∷ Detect 0 ∷ Call 0 0 6 6 0 ∷ Resend 2 ∷ Deliver 4 3 0 ∷ Resend 3 ∷
    Call 0 0 7 0 0 ∷ Resend 0 ∷ Resend 0 ∷ Resend 1 ∷ Call 2 0 8 8 0 ∷ Resend 0 ∷ Call 0 0 9 0 0 ∷ Resend 4 ∷ Deliver 4 2 0 ∷
    Deliver 4 1 0 ∷ Call 1 0 10 0 0 ∷ Deliver 4 0 0 ∷ Resend 3 ∷ Repeat 4 3 0 ∷ Call 3 0 11 11 0 ∷ Resend 4 ∷ Resend 2 ∷ Resend 2 ∷
    BeginHandover 0 4 ∷ Deliver 4 3 1 ∷ Advance ∷ Repeat 4 3 0 ∷ [])
    ≡ record {
      outcomes =
          Done ∷ ReleasedAt 1 ∷ TookMessage Stale ∷ TookMessage Stale ∷ NothingDone ∷ NothingDone ∷ NothingDone ∷ ReleasedAt 1 ∷
          MoveIsRefused NotThere ∷ TookMessage Stale ∷ ReleasedAt 1 ∷ Refused (WrongTarget 1) ∷ ReleasedAt 2 ∷ NothingDone ∷ ReleasedAt 3 ∷
          NothingDone ∷ TookMessage Stale ∷ NothingDone ∷ ReleasedAt 3 ∷ Done ∷ Done ∷ NothingDone ∷ Refused (WrongTarget 1) ∷ Done ∷
          ReleasedAt 3 ∷ Done ∷ TookMessage Stale ∷ TookMessage Stale ∷ Refused (WrongTarget 1) ∷ TookMessage Stale ∷ NothingDone ∷ Done ∷
          Refused (WrongTarget 1) ∷ Done ∷ NothingDone ∷ NothingDone ∷ MoveIsRefused NotThere ∷ TookMessage Stale ∷ NothingDone ∷ Done ∷ [];
      answered = 1 ∷ 2 ∷ 3 ∷ 5 ∷ 6 ∷ 7 ∷ 9 ∷ [];
      trail = 1 ∷ 2 ∷ 3 ∷ 5 ∷ 6 ∷ 7 ∷ 9 ∷ [];
    }
run_37 = refl

run_39 : seen (start 2 2 1) (
    Call 0 0 1 0 0 ∷ Resend 1 ∷ Resend 2 ∷ Call 0 0 2 0 0 ∷ Deliver 2 0 0 ∷ Deliver 2 1 0 ∷ Call 0 0 3 0 0 ∷ Resend 2 ∷ Call 0 0 4 4 0 ∷
    BeginHandover 2 1 ∷ Deliver 0 1 0 ∷ Detect 0 ∷ Deliver 1 0 0 ∷ Deliver 2 0 0 ∷ Repeat 2 1 0 ∷ [])
    ≡ record {
      outcomes =
          ReleasedAt 0 ∷ NothingDone ∷ Done ∷ ReleasedAt 0 ∷ TookMessage Stale ∷ TookMessage Stale ∷ ReleasedAt 0 ∷ Done ∷ HeldAt 1 ∷
          MoveIsRefused NotThere ∷ TookMessage Applied ∷ NothingDone ∷ TookMessage Acked ∷ TookMessage Stale ∷ Done ∷ [];
      answered = 1 ∷ 2 ∷ 3 ∷ 4 ∷ [];
      trail = 1 ∷ 2 ∷ 3 ∷ 4 ∷ [];
    }
run_39 = refl

run_41 : seen (start 2 3 0) (
    BeginJoin 3 ∷ Resend 2 ∷ Resend 3 ∷ BeginMove 0 1 ∷ Deliver 3 0 0 ∷ Call 2 0 1 0 0 ∷ Call 2 0 2 0 0 ∷ Call 1 0 3 0 0 ∷ Deliver 3 2 0 ∷
    Deliver 3 1 0 ∷ Call 2 0 4 4 0 ∷ Call 2 0 5 5 0 ∷ Resend 1 ∷ Resend 0 ∷ Resend 1 ∷ [])
    ≡ record {
      outcomes =
          MoveIsRefused NotLive ∷ Done ∷ Done ∷ MoveIsRefused NotThere ∷ TookMessage Stale ∷ ReleasedAt 0 ∷ ReleasedAt 0 ∷
          Refused (WrongTarget 1) ∷ TookMessage Stale ∷ TookMessage Stale ∷ ReleasedAt 1 ∷ ReleasedAt 2 ∷ NothingDone ∷ NothingDone ∷
          NothingDone ∷ [];
      answered = 1 ∷ 2 ∷ 4 ∷ 5 ∷ [];
      trail = 1 ∷ 2 ∷ 4 ∷ 5 ∷ [];
    }
run_41 = refl

run_43 : seen (start 2 2 2) (
    Advance ∷ Resend 2 ∷ Detect 0 ∷ Deliver 2 1 0 ∷ Deliver 2 0 0 ∷ Call 0 0 1 1 0 ∷ Call 0 0 2 2 0 ∷ Call 0 0 3 0 0 ∷ Deliver 0 1 0 ∷
    Call 0 0 4 4 0 ∷ Deliver 0 1 0 ∷ BeginMove 2 2 ∷ Advance ∷ Deliver 1 0 1 ∷ BeginJoin 1 ∷ [])
    ≡ record {
      outcomes =
          NothingDone ∷ Done ∷ NothingDone ∷ TookMessage Stale ∷ TookMessage Stale ∷ HeldAt 1 ∷ HeldAt 2 ∷ HeldAt 2 ∷ TookMessage Applied ∷
          HeldAt 3 ∷ TookMessage Applied ∷ MoveIsRefused NotThere ∷ NothingDone ∷ TookMessage Acked ∷ MoveIsRefused AlreadyThere ∷ [];
      answered = 1 ∷ 2 ∷ 3 ∷ [];
      trail = 1 ∷ 2 ∷ 3 ∷ 4 ∷ [];
    }
run_43 = refl

run_48 : seen (start 2 4 0) (
    Resend 2 ∷ Detect 0 ∷ Resend 3 ∷ Call 3 0 1 0 0 ∷ Resend 1 ∷ Call 1 0 2 2 0 ∷ Resend 0 ∷ Call 2 0 3 3 0 ∷ Resend 1 ∷ Advance ∷
    Call 1 0 4 0 0 ∷ Advance ∷ Resend 0 ∷ Detect 0 ∷ Resend 0 ∷ Advance ∷ Resend 2 ∷ Resend 2 ∷ Resend 1 ∷ Call 3 0 5 0 0 ∷
    Call 2 0 6 0 0 ∷ Resend 4 ∷ Deliver 4 0 0 ∷ Deliver 4 3 0 ∷ Call 2 0 7 0 0 ∷ Deliver 4 2 0 ∷ Deliver 4 1 0 ∷ Call 2 0 8 8 0 ∷
    Resend 1 ∷ Detect 0 ∷ BeginHandover 1 1 ∷ Call 2 0 9 9 0 ∷ Resend 4 ∷ Reopen ∷ Repeat 4 3 0 ∷ Deliver 4 0 0 ∷ Resend 2 ∷ Lose 4 1 0 ∷
    Deliver 4 3 0 ∷ Repeat 4 3 0 ∷ [])
    ≡ record {
      outcomes =
          Done ∷ NothingDone ∷ NothingDone ∷ Refused (WrongTarget 1) ∷ NothingDone ∷ Refused (WrongTarget 1) ∷ NothingDone ∷ ReleasedAt 1 ∷
          NothingDone ∷ NothingDone ∷ Refused (WrongTarget 1) ∷ NothingDone ∷ NothingDone ∷ NothingDone ∷ NothingDone ∷ NothingDone ∷ Done ∷
          Done ∷ NothingDone ∷ Refused (WrongTarget 1) ∷ ReleasedAt 1 ∷ Done ∷ TookMessage Stale ∷ TookMessage Stale ∷ ReleasedAt 1 ∷
          TookMessage Stale ∷ TookMessage Stale ∷ ReleasedAt 2 ∷ NothingDone ∷ NothingDone ∷ MoveIsRefused NotThere ∷ ReleasedAt 3 ∷ Done ∷
          ReopenIsRefused NotLost ∷ Done ∷ TookMessage Stale ∷ Done ∷ Done ∷ TookMessage Stale ∷ Done ∷ [];
      answered = 3 ∷ 6 ∷ 7 ∷ 8 ∷ 9 ∷ [];
      trail = 3 ∷ 6 ∷ 7 ∷ 8 ∷ 9 ∷ [];
    }
run_48 = refl

run_51 : seen (start 4 2 2) (
    Resend 0 ∷ Detect 0 ∷ Resend 1 ∷ Resend 1 ∷ Resend 2 ∷ Deliver 2 1 0 ∷ Reopen ∷ Deliver 2 0 0 ∷ Call 0 0 1 0 0 ∷ Resend 1 ∷ Resend 2 ∷
    Call 0 0 2 2 0 ∷ Advance ∷ Call 0 0 3 0 0 ∷ Reopen ∷ [])
    ≡ record {
      outcomes =
          Done ∷ NothingDone ∷ NothingDone ∷ NothingDone ∷ Done ∷ TookMessage Stale ∷ ReopenIsRefused NotLost ∷ TookMessage Stale ∷
          ReleasedAt 0 ∷ NothingDone ∷ Done ∷ HeldAt 1 ∷ NothingDone ∷ HeldAt 1 ∷ ReopenIsRefused NotLost ∷ [];
      answered = 1 ∷ [];
      trail = 1 ∷ 2 ∷ 3 ∷ [];
    }
run_51 = refl

run_52 : seen (start 0 3 2) (
    Resend 2 ∷ Resend 1 ∷ Call 0 0 1 1 0 ∷ Advance ∷ Deliver 0 1 0 ∷ Call 0 0 2 2 0 ∷ Call 0 0 3 0 0 ∷ Lose 0 2 0 ∷ BeginJoin 3 ∷ Advance ∷
    Deliver 0 2 0 ∷ Call 1 0 4 4 0 ∷ Deliver 0 1 0 ∷ Detect 0 ∷ Deliver 1 0 0 ∷ Call 2 0 5 5 0 ∷ Deliver 1 0 0 ∷ Resend 1 ∷ Resend 3 ∷
    Call 0 0 6 6 0 ∷ Call 0 0 7 7 0 ∷ Deliver 3 1 0 ∷ Detect 0 ∷ Deliver 0 2 0 ∷ Call 2 0 8 8 0 ∷ Call 1 0 9 0 0 ∷ Deliver 3 0 0 ∷
    BeginHandover 0 3 ∷ Deliver 3 2 0 ∷ Call 1 0 10 10 0 ∷ Detect 0 ∷ Call 2 0 11 11 0 ∷ Deliver 0 1 0 ∷ Call 0 0 12 0 0 ∷ Resend 1 ∷
    Lose 0 2 0 ∷ Deliver 0 1 0 ∷ Deliver 1 0 0 ∷ Advance ∷ Deliver 1 0 0 ∷ [])
    ≡ record {
      outcomes =
          NothingDone ∷ NothingDone ∷ HeldAt 1 ∷ NothingDone ∷ TookMessage Applied ∷ HeldAt 2 ∷ HeldAt 2 ∷ Done ∷ MoveIsRefused NotLive ∷
          NothingDone ∷ TookMessage Gap ∷ Refused (WrongTarget 1) ∷ TookMessage Applied ∷ NothingDone ∷ TookMessage Acked ∷
          Refused (WrongTarget 1) ∷ TookMessage Acked ∷ NothingDone ∷ Done ∷ HeldAt 3 ∷ HeldAt 4 ∷ TookMessage Stale ∷ NothingDone ∷
          TookMessage Gap ∷ Refused (WrongTarget 1) ∷ Refused (WrongTarget 1) ∷ TookMessage Stale ∷ MoveIsRefused NotThere ∷
          TookMessage Stale ∷ Refused (WrongTarget 1) ∷ NothingDone ∷ Refused (WrongTarget 1) ∷ TookMessage Applied ∷ HeldAt 4 ∷
          NothingDone ∷ Done ∷ TookMessage Applied ∷ TookMessage Acked ∷ NothingDone ∷ TookMessage Acked ∷ [];
      answered = [];
      trail = 1 ∷ 2 ∷ 3 ∷ 6 ∷ 7 ∷ 12 ∷ [];
    }
run_52 = refl

run_54 : seen (start 3 2 2) (
    Resend 1 ∷ Resend 1 ∷ Resend 2 ∷ Deliver 2 0 0 ∷ Detect 0 ∷ Deliver 2 1 0 ∷ Advance ∷ Resend 0 ∷ Call 1 0 1 0 0 ∷ Reopen ∷ Resend 0 ∷
    Resend 0 ∷ Resend 0 ∷ Resend 0 ∷ Call 1 0 2 2 0 ∷ Deliver 1 0 0 ∷ Call 0 0 3 3 0 ∷ Deliver 0 1 0 ∷ Detect 0 ∷ Advance ∷ Resend 1 ∷
    BeginJoin 1 ∷ Resend 1 ∷ BeginHandover 1 1 ∷ Call 0 0 4 0 0 ∷ [])
    ≡ record {
      outcomes =
          Done ∷ Done ∷ Done ∷ TookMessage Stale ∷ NothingDone ∷ TookMessage Stale ∷ NothingDone ∷ NothingDone ∷ ReleasedAt 0 ∷
          ReopenIsRefused NotLost ∷ NothingDone ∷ NothingDone ∷ NothingDone ∷ NothingDone ∷ HeldAt 1 ∷ TookMessage Applied ∷
          Refused (WrongTarget 1) ∷ TookMessage Acked ∷ NothingDone ∷ NothingDone ∷ Done ∷ MoveIsRefused AlreadyThere ∷ Done ∷
          MoveIsRefused NotThere ∷ Refused (WrongTarget 1) ∷ [];
      answered = 1 ∷ 2 ∷ [];
      trail = 1 ∷ 2 ∷ [];
    }
run_54 = refl

run_57 : seen (start 2 2 2) (
    Call 1 0 1 0 0 ∷ Reopen ∷ Resend 1 ∷ Resend 1 ∷ Call 0 0 2 0 0 ∷ Resend 0 ∷ Resend 2 ∷ Lose 2 1 0 ∷ Deliver 2 0 0 ∷ Call 1 0 3 3 0 ∷
    Resend 0 ∷ Resend 1 ∷ Resend 2 ∷ Call 0 0 4 4 0 ∷ Deliver 2 1 0 ∷ Deliver 0 1 0 ∷ Deliver 2 0 0 ∷ Reopen ∷ Deliver 1 0 0 ∷
    Call 0 0 5 5 0 ∷ Call 0 0 6 0 0 ∷ Resend 0 ∷ Deliver 0 1 0 ∷ Call 0 0 7 0 0 ∷ Lose 0 1 0 ∷ Deliver 1 0 0 ∷ Call 0 0 8 8 0 ∷ Advance ∷
    Deliver 0 1 0 ∷ Detect 0 ∷ Deliver 1 0 0 ∷ Reopen ∷ Resend 0 ∷ Call 0 0 9 9 0 ∷ BeginMove 0 0 ∷ Deliver 0 1 0 ∷ Deliver 1 0 0 ∷
    Call 0 0 10 0 0 ∷ Resend 0 ∷ Resend 2 ∷ [])
    ≡ record {
      outcomes =
          Refused (WrongTarget 1) ∷ ReopenIsRefused NotLost ∷ NothingDone ∷ NothingDone ∷ ReleasedAt 0 ∷ Done ∷ Done ∷ Done ∷
          TookMessage Stale ∷ Refused (WrongTarget 1) ∷ Done ∷ NothingDone ∷ Done ∷ HeldAt 1 ∷ TookMessage Stale ∷ TookMessage Applied ∷
          TookMessage Stale ∷ ReopenIsRefused NotLost ∷ TookMessage Acked ∷ HeldAt 2 ∷ HeldAt 2 ∷ Done ∷ TookMessage Applied ∷ HeldAt 2 ∷
          Done ∷ TookMessage Acked ∷ HeldAt 3 ∷ NothingDone ∷ TookMessage Applied ∷ NothingDone ∷ TookMessage Acked ∷
          ReopenIsRefused NotLost ∷ Done ∷ HeldAt 4 ∷ MoveIsRefused AlreadyThere ∷ TookMessage Applied ∷ TookMessage Acked ∷ ReleasedAt 4 ∷
          Done ∷ Done ∷ [];
      answered = 2 ∷ 4 ∷ 5 ∷ 6 ∷ 7 ∷ 8 ∷ 9 ∷ 10 ∷ [];
      trail = 2 ∷ 4 ∷ 5 ∷ 6 ∷ 7 ∷ 8 ∷ 9 ∷ 10 ∷ [];
    }
run_57 = refl

run_59 : seen (start 0 2 2) (
    Call 0 0 1 0 0 ∷ Resend 0 ∷ BeginHandover 1 1 ∷ Resend 2 ∷ Repeat 2 0 0 ∷ Call 1 0 2 0 0 ∷ Call 0 0 3 0 0 ∷ Deliver 2 0 0 ∷
    Deliver 2 1 0 ∷ Deliver 2 0 0 ∷ Call 0 0 4 4 0 ∷ Deliver 0 1 0 ∷ Reopen ∷ Resend 2 ∷ Deliver 1 0 0 ∷ Deliver 2 1 0 ∷ Deliver 2 0 0 ∷
    Resend 1 ∷ Resend 2 ∷ Deliver 2 0 0 ∷ BeginJoin 1 ∷ Deliver 2 1 0 ∷ BeginMove 0 2 ∷ Resend 1 ∷ Resend 1 ∷ [])
    ≡ record {
      outcomes =
          ReleasedAt 0 ∷ Done ∷ MoveIsRefused NotThere ∷ Done ∷ Done ∷ Refused (WrongTarget 1) ∷ ReleasedAt 0 ∷ TookMessage Stale ∷
          TookMessage Stale ∷ TookMessage Stale ∷ HeldAt 1 ∷ TookMessage Applied ∷ ReopenIsRefused NotLost ∷ Done ∷ TookMessage Acked ∷
          TookMessage Stale ∷ TookMessage Stale ∷ NothingDone ∷ Done ∷ TookMessage Stale ∷ MoveIsRefused AlreadyThere ∷ TookMessage Stale ∷
          MoveIsRefused NotLive ∷ NothingDone ∷ NothingDone ∷ [];
      answered = 1 ∷ 3 ∷ 4 ∷ [];
      trail = 1 ∷ 3 ∷ 4 ∷ [];
    }
run_59 = refl
