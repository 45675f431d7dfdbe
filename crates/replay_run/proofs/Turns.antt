-- Whoever waits has a turn: what holds of a run however a waiter leaves it holds after the turns of a list, and after an event.
use Rattle.std.proofs.Common.{◌≡◌, ℕ, zero, suc, ◌==◌, Bool, true, false, ◌&&◌, List, [], ◌∷◌, length, pos, Option, Some, None, refl, ◌⊎◌, inl, inr}
use Rattle.std.specs.List.{find}
use Rattle.grid_base.specs.Objects.{Object}
use Rattle.grid_base.specs.Errors.{want_of_memory}
use Rattle.grid_base.specs.declared.names.CallId.{CallId}
use Rattle.grid_base.specs.declared.calls.Request.{Request}
use Rattle.object_store.specs.Partitions.{Partition}
use Rattle.partition_protocol.specs.Execution.{Reached}
use Rattle.partition_protocol.specs.Events.{Event}
use Rattle.partition_protocol.proofs.Lists.{In, on_if}
use Rattle.waiting_protocol.specs.Machine.{Fate, Stays, Runs, Starves, IsRefused, Leaves, is_over}
use Rattle.replay_run.specs.Runs.{Run, At, Arrival, Waiter, Appended, world_at, call_of, is_full, is_skipped, refusal, refused_at, happening, arrived, asked, asks, given_up, without, ending, leaves, leaves_so, fate_now, is_its_turn, next_in_turn, is_waiting_on, left_by, left_so_often, forsaken, connection_of, is_open, turn_of, served_so_often, served, served_at, stirred_by, meets_full, occurred, takes}
use Rattle.replay_run.proofs.Places.{same_number}
use Rattle.replay_run.proofs.Trails.{find_some}

-- the event of a call
abbrev pub its_event : Arrival → At
its_event a = record { partition = a.request.partition; event = call_of a }

-- it makes its event, or none
abbrev pub IsMade : Arrival → List At → Type 0
IsMade a events = (events ≡ []) ⊎ (events ≡ its_event a ∷ [])

first_holds : (a b : Bool) → a && b ≡ true → a ≡ true
first_holds true b e = refl
first_holds false b e = e

-- whose turn it is in a list waits in its partition
turn_here : (o : Object Request Partition) (r : Run) (p member : ℕ) (w : Waiter) → is_its_turn o r p member w ≡ true → w.request.partition ≡ p
turn_here o r p member w e =
    same_number w.request.partition p
    (first_holds (w.request.partition == p) (w.member == member) (first_holds ((w.request.partition == p) && (w.member == member)) (is_over (fate_now o r w)) e))

-- What holds of a run holds once it is given up, and once one of those who wait in a partition has left, however it did.
pub record KeepsTurns (o : Object Request Partition) (skips : List CallId) (p : ℕ) (P : Run → Type 0) : Type 0 where
  pub up : (r : Run) → P r → P (given_up r)
  pub asked : (r : Run) (own : Option ℕ) (w : Waiter) → In w r.waiters → w.request.partition ≡ p → P r → P (asked o skips (without r w) own (ending r w))
  pub refused : (r : Run) (w : Waiter) (why : Reached) → In w r.waiters → w.request.partition ≡ p → P r → P (arrived (without r w) (ending r w) [] (refused_at r.lines w.request why))
  pub left : (r : Run) (w : Waiter) → In w r.waiters → w.request.partition ≡ p → P r → P (leaves r w)

-- So it is where it holds whatever is appended as it leaves, with its event or none.
pub by_endings : (o : Object Request Partition) (skips : List CallId) (p : ℕ) (P : Run → Type 0) → ((r : Run) → P r → P (given_up r))
    → ((r : Run) (w : Waiter) (events : List At) (appended : List Appended) → In w r.waiters → IsMade (ending r w) events → w.request.partition ≡ p → P r → P (arrived (without r w) (ending r w) events appended)) → KeepsTurns o skips p P
by_endings o skips p P up ends = record {
  up = up;
  asked = λ r own w i here h. on_if P (is_skipped skips w.request.id) (arrived (without r w) (ending r w) [] (refusal r.lines w.request (pos want_of_memory) 0 ∷ [])) (arrived (without r w) (ending r w) (its_event (ending r w) ∷ []) (happening o (without r w) own (ending r w)))
      (ends r w [] (refusal r.lines w.request (pos want_of_memory) 0 ∷ []) i (inl refl) here h) (ends r w (its_event (ending r w) ∷ []) (happening o (without r w) own (ending r w)) i (inr refl) here h);
  refused = λ r w why i here h. ends r w [] (refused_at r.lines w.request why) i (inl refl) here h;
  left = λ r w i here h. ends r w [] [] i (inl refl) here h;
}

-- After the turns of a list it holds still.
module _ (o : Object Request Partition) (skips : List CallId) (p : ℕ) (P : Run → Type 0) (keeps : KeepsTurns o skips p P) where
  made_keeps : (r : Run) (own : Option ℕ) (w : Waiter) → In w r.waiters → w.request.partition ≡ p → P r → P (asks o skips (without r w) own (ending r w))
  made_keeps r own w i here h = on_if P (is_full (world_at o (without r w) w.request.partition)) (given_up (leaves r w)) (asked o skips (without r w) own (ending r w)) (keeps.up (leaves r w) (keeps.left r w i here h)) (keeps.asked r own w i here h)

  pub leaving_keeps : (r : Run) (own : Option ℕ) (w : Waiter) (fate : Fate) → In w r.waiters → w.request.partition ≡ p → P r → P (leaves_so o skips r own w fate)
  leaving_keeps r own w Stays i here h = h
  leaving_keeps r own w Runs i here h = made_keeps r own w i here h
  leaving_keeps r own w Starves i here h = made_keeps r own w i here h
  leaving_keeps r own w (IsRefused why) i here h = keeps.refused r w why i here h
  leaving_keeps r own w Leaves i here h = keeps.left r w i here h

  -- of the first of a list that has one
  pub turn_keeps : (r : Run) (own : Option ℕ) (member : ℕ) → P r → P (turn_of o skips r own (next_in_turn o r p member))
  turn_keeps r own member h = go (next_in_turn o r p member) (λ w e. find_some (is_its_turn o r p member) r.waiters w e)
    where
      go : (next : Option Waiter) → ((w : Waiter) → next ≡ Some w → In w r.waiters × (is_its_turn o r p member w ≡ true)) → P (turn_of o skips r own next)
      go None f = h
      go (Some w) f = let k = f w refl in leaving_keeps r own w (fate_now o r w) k.0 (turn_here o r p member w k.1) h

  pub so_often_keeps : (own : Option ℕ) (member turns : ℕ) (r : Run) → P r → P (served_so_often o skips own p member turns r)
  so_often_keeps own member zero r h = h
  so_often_keeps own member (suc turns) r h = so_often_keeps own member turns (turn_of o skips r own (next_in_turn o r p member)) (turn_keeps r own member h)

  pub served_keeps : (r : Run) (own : Option ℕ) (member : ℕ) → P r → P (served o skips r own p member)
  served_keeps r own member h = so_often_keeps own member (length r.waiters) r h

  pub served_at_keeps : (r : Run) (stirred : Option ℕ) → P r → P (served_at o skips r p stirred)
  served_at_keeps r None h = h
  served_at_keeps r (Some member) h = served_keeps r None member h

  -- and so it does after an event, where the event meets the partition
  pub takes_keeps : (r : Run) (event : Event Request) → P r → P (occurred o r p event) → P (takes o skips r p event)
  takes_keeps r event h on = on_if P (meets_full (world_at o r p) event) (given_up r) (served_at o skips (occurred o r p event) p (stirred_by event)) (keeps.up r h) (served_at_keeps (occurred o r p event) (stirred_by event) on)

-- And where a connection has closed.
module _ (P : Run → Type 0) (left : (r : Run) (w : Waiter) → In w r.waiters → P r → P (leaves r w)) (c : ℕ) where
  left_keeps : (r : Run) → P r → P (left_by r (find (is_waiting_on c) r.waiters))
  left_keeps r h = go (find (is_waiting_on c) r.waiters) (λ w e. (find_some (is_waiting_on c) r.waiters w e).0)
    where
      go : (next : Option Waiter) → ((w : Waiter) → next ≡ Some w → In w r.waiters) → P (left_by r next)
      go None f = h
      go (Some w) f = left r w (f w refl) h

  all_left_keep : (more : ℕ) (r : Run) → P r → P (left_so_often c more r)
  all_left_keep zero r h = h
  all_left_keep (suc more) r h = all_left_keep more (left_by r (find (is_waiting_on c) r.waiters)) (left_keeps r h)

  pub forsaken_keeps : (r : Run) → P r → P (forsaken r c)
  forsaken_keeps r h = on_if P (is_open (connection_of r c)) r (left_so_often c (length r.waiters) r) h (all_left_keep (length r.waiters) r h)
