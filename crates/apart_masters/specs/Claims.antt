-- What holds of a partition whose members are apart and whose service is run by masters, after every list of steps that may happen.
use Rattle.std.specs.Prelude.{◌≡◌, ℕ, ◌+◌, ◌<◌, ◌≤◌, true, List, ◌++◌, map, length, Some, slice_get, Contains}
use Rattle.grid_base.specs.Objects.{Object}
use Rattle.partition_table.specs.Rows.{initial_row}
use Rattle.partition_protocol.specs.Node.{Held}
use Rattle.partition_protocol.specs.History.{Executed, Called}
use Rattle.partition_protocol.specs.Arrivals.{name, NamedOnce}
use Rattle.partition_protocol.specs.Sequences.{IsFrontOf}
use Rattle.partition_protocol.specs.Claims.{IsLawful}
use Rattle.masters_protocol.specs.Members.{Member, is_stored}
use Rattle.masters_protocol.specs.Machine as masters
use Rattle.masters_protocol.specs.Claims.{IsSound}
use Rattle.apart_protocol.specs.Contents.{Parcel}
use Rattle.apart_protocol.specs.Member.{opening, member_after, sent_over, executed_over, released_over}
use Rattle.apart_protocol.specs.Rulings.{Ruling}
use Rattle.apart_protocol.specs.Machine as apart
use Rattle.apart_protocol.specs.Machine.{Apart}
use Rattle.apart_protocol.specs.Claims.{HasHistory, IsGiven as IsGivenApart, sent_by}
use Rattle.apart_protocol.specs.Sizes.{AreFewCalls, HasSmallStates, HasNumbersWithin}
use Rattle.apart_masters.specs.Master.{master_after, told_over, service_of}
use Rattle.apart_masters.specs.Machine.{Ruled, Step, begin, after, MayHappen, is_live, arrivals, acts_of, leads_of}

-- It is the other whole, but for messages that there nobody takes: all that was sent here was sent there
pub record IsPartOf {C State : Type 0} (a c : Apart C State) : Type 0 where
  pub members : a.members ≡ c.members
  pub crashed : a.crashed ≡ c.crashed
  pub service : a.service ≡ c.service
  pub released : a.released ≡ c.released
  pub log : a.log ≡ c.log
  pub sent : (q : Parcel C State) → Contains a.sent q → Contains c.sent q

-- the steps may happen, for 1 to 8 members and an object whose calls without an effect leave the state
pub record IsGiven {C State : Type 0} (o : Object C State) (p n b : ℕ) (steps : List (Step C State)) : Type 0 where
  pub some : 1 ≤ n
  pub most : n ≤ 8
  pub lawful : IsLawful o
  pub may : MayHappen o p n b (begin o p n b) steps

-- the whole after these steps
abbrev pub ruled_after : {C State : Type 0} → Object C State → (partition n backups : ℕ) → List (Step C State) → Ruled C State
ruled_after o p n b ss = after o p n b (begin o p n b) ss

pub record IsWellRuled {C State : Type 0} (o : Object C State) (p n b : ℕ) (steps : List (Step C State)) (j : Ruled C State) : Type 0 where
  -- the masters are those of a run of theirs, so all that is claimed of masters holds
  pub asked : List (masters.Event Ruling)
  pub of_asked : masters.run (masters.start n) asked ≡ j.masters
  pub sound : IsSound j.masters
  -- the members with the service are a run of members that are apart with one service, so all that is claimed of those holds
  pub made : List (apart.Step C State)
  pub given : IsGivenApart o p n b made
  pub part : IsPartOf j.apart (apart.after o p n b (apart.begin o p n b) made)
  pub calls : apart.arrivals made ≡ arrivals steps
  -- a step makes one at most
  pub few : length made ≤ length steps
  -- the service is what the published list makes
  pub service : j.apart.service ≡ service_of p n b j.masters.published
  -- and what a live master knows to be decided is the published list
  pub decided : (m : ℕ) (x : Member Ruling) → is_live n j m → slice_get j.masters.members m ≡ Some x → is_stored n m x ≡ true
      → x.log ≡ j.masters.published
  -- where no two calls have one name, there is one history, which has every answer
  pub safe : NamedOnce (map name (arrivals steps)) → HasHistory o j.apart

abbrev pub EveryRunIsWellRuled : {C State : Type 0} → Object C State → Type 0
EveryRunIsWellRuled {C} {State} o =
    (partition n backups : ℕ) (steps : List (Step C State)) → IsGiven o partition n backups steps
    → IsWellRuled o partition n backups steps (ruled_after o partition n backups steps)

-- where calls are few all states are small, of the members and in all that was ever sent
abbrev pub EveryStateIsSmall : {C State : Type 0} → Object C State → (C → Type 0) → (ℕ → State → Type 0) → Type 0
EveryStateIsSmall {C} {State} o limits within =
    (partition n backups : ℕ) (steps : List (Step C State)) → IsGiven o partition n backups steps → AreFewCalls limits (arrivals steps)
    → HasSmallStates limits within (ruled_after o partition n backups steps).apart

-- a step raises a number of the partition by two at most
abbrev pub EveryNumberIsBounded : {C State : Type 0} → Object C State → Type 0
EveryNumberIsBounded {C} {State} o =
    (partition n backups : ℕ) (steps : List (Step C State)) → IsGiven o partition n backups steps
    → HasNumbersWithin (length steps + length steps) (ruled_after o partition n backups steps).apart

-- the log of what was executed and the answers that were given only grow, at their ends
abbrev pub EveryRunExtends : {C State : Type 0} → Object C State → Type 0
EveryRunExtends {C} {State} o =
    (partition n backups : ℕ) (steps more : List (Step C State))
    → let a = (ruled_after o partition n backups steps).apart in
    let next = (ruled_after o partition n backups (steps ++ more)).apart in
    IsFrontOf a.log next.log × IsFrontOf a.released next.released

-- A member and a master are what their own lists make of them. What the member sent in the partition, executed and answered is what its own list sends, executes and answers
pub record IsByItself {C State : Type 0} (o : Object C State) (p n b : ℕ) (steps : List (Step C State)) (j : Ruled C State) (m : ℕ) : Type 0 where
  pub member : slice_get j.apart.members m ≡ Some (member_after o n m (opening o (initial_row p n b) m) (acts_of m steps))
  pub sent : sent_by m j.apart.sent ≡ sent_over o n m (opening o (initial_row p n b) m) (acts_of m steps)
  pub executed : (x : Executed C) → Contains (executed_over o n m (opening o (initial_row p n b) m) (acts_of m steps)) x → Contains j.apart.log (Called x)
  pub released : (h : Held) → Contains (released_over o n m (opening o (initial_row p n b) m) (acts_of m steps)) h → Contains j.apart.released h
  pub master : slice_get j.masters.members m ≡ Some (master_after n m (masters.opening_member m) (leads_of m steps))
  -- and what is in flight from it to another master its own list sent
  pub told : (q : masters.Packet Ruling) → Contains j.masters.packets q → q.from ≡ m
      → Contains (told_over n m (masters.opening_member m) (leads_of m steps)) (record { to = q.to; message = q.message })

abbrev pub EveryOneIsByItself : {C State : Type 0} → Object C State → Type 0
EveryOneIsByItself {C} {State} o =
    (partition n backups : ℕ) (steps : List (Step C State)) (m : ℕ) → m < n
    → IsByItself o partition n backups steps (ruled_after o partition n backups steps) m
