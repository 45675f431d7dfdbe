-- A partition whose members are apart, and whose table service is run by masters on those members: a list of steps, each named by who makes it.
-- Messages of the partition may be taken whenever they were sent, any number of times. One between masters is taken at most once, at any time and in any order.
use Rattle.std.specs.Prelude.{◌≡◌, ℕ, true, ◌&&◌, ◌==◌, if◌then◌else◌, List, [], ◌∷◌, ◌++◌, map, length, drop, Some, slice_get, slice_set, Contains}
use Rattle.grid_base.specs.Objects.{Object}
use Rattle.partition_table.specs.Rows.{is_among}
use Rattle.partition_protocol.specs.History.{Reset}
use Rattle.partition_protocol.specs.World.{map_or}
use Rattle.partition_protocol.specs.Arrivals.{Asked}
use Rattle.masters_protocol.specs.Members.{Member, is_stored}
use Rattle.masters_protocol.specs.Machine as masters
use Rattle.masters_protocol.specs.Machine.{Masters, is_ahead, link, taken_out, packets_from}
use Rattle.apart_protocol.specs.Member as partition
use Rattle.apart_protocol.specs.Rulings as rulings
use Rattle.apart_protocol.specs.Rulings.{Ruling, rules}
use Rattle.apart_protocol.specs.Machine as apart
use Rattle.apart_protocol.specs.Machine.{Apart, packet_of, bare}
use Rattle.apart_masters.specs.Master.{Own, IsTold, Takes, Proposes, Resends, Done, does, says}

-- The whole, which nobody sees. The service in it is the one that the published list makes
pub record Ruled (C State : Type 0) : Type 0 where
  pub apart : Apart C State
  pub masters : Masters Ruling

pub data Step (C State : Type 0) : Type 0 where
  -- a member makes a step of its own in the partition
  Acts : (member : ℕ) (own : partition.Own C State) → Step C State
  -- or as a master. A message that it takes is at that place of its link
  Leads : (member place : ℕ) (own : Own) → Step C State
  -- or says what the service has to say
  Says : (member : ℕ) → Step C State
  -- a member makes no further step
  Crash : (member : ℕ) → Step C State

abbrev pub begin : {C State : Type 0} → Object C State → (partition n backups : ℕ) → Ruled C State
begin o p n b = record { apart = apart.begin o p n b; masters = masters.start n }

-- what may come

abbrev pub is_live : {C State : Type 0} → ℕ → Ruled C State → ℕ → Type 0
is_live n j m = apart.is_live n j.apart m ≡ true

-- A member is told only of members that have crashed, a master takes what is in flight to it, and what the service is to take was sent to it
abbrev pub MayLead : {C State : Type 0} → ℕ → Ruled C State → ℕ → ℕ → Own → Type 0
MayLead n j m place (IsTold crashed) = is_among j.apart.crashed crashed ≡ true
MayLead n j m place (Takes from message) = slice_get (link from m j.masters.packets) place ≡ Some (record { from = from; to = m; message = message })
MayLead n j m place (Proposes (rulings.Takes from message)) = Contains (map packet_of j.apart.sent) (record { from = from; to = n; message = message })
MayLead n j m place (Proposes _) = Unit {0}
MayLead n j m place Resends = Unit {0}

abbrev pub MayCome : {C State : Type 0} → ℕ → Ruled C State → Step C State → Type 0
MayCome n j (Acts m own) = is_live n j m × apart.MayAct j.apart m own
MayCome n j (Leads m place own) = is_live n j m × MayLead n j m place own
MayCome n j (Says m) = is_live n j m
MayCome n j (Crash m) = is_live n j m

-- what a step does

-- a message that is taken is in flight no more
abbrev pub in_flight : ℕ → ℕ → Own → List (masters.Packet Ruling) → List (masters.Packet Ruling)
in_flight m place (Takes from message) ps = taken_out from m place ps
in_flight m place _ ps = ps

-- A master that has a log stored at each peer publishes it, where it is longer than what was published
abbrev pub published_by : Masters Ruling → ℕ → Member Ruling → List Ruling
published_by w m x = if is_stored w.size m x && is_ahead w x.log then x.log else w.published

abbrev pub led : Masters Ruling → ℕ → ℕ → Own → Done → Masters Ruling
led w m place own d = record {
  size = w.size;
  members = slice_set w.members m d.member;
  crashed = w.crashed;
  packets = in_flight m place own w.packets ++ packets_from m d.sent;
  published = published_by w m d.member;
}

-- a ruling that is published is the service's, and is said by nobody yet
abbrev pub ruled : {C State : Type 0} → Apart C State → rulings.Ruled → Apart C State
ruled a u = record {
  members = a.members;
  crashed = a.crashed;
  service = u.service;
  sent = a.sent;
  released = a.released;
  log = a.log ++ map Reset u.resets;
}

abbrev pub all_ruled : {C State : Type 0} → (partition n backups : ℕ) → Apart C State → List Ruling → Apart C State
all_ruled p n b a [] = a
all_ruled p n b a (r ∷ rs) = all_ruled p n b (ruled a (rules p n b r a.service)) rs

abbrev pub with_masters : {C State : Type 0} → (partition n backups : ℕ) → Ruled C State → Masters Ruling → Ruled C State
with_masters p n b j w = record { apart = all_ruled p n b j.apart (drop (length j.masters.published) w.published); masters = w }

-- nothing goes with what is said in the service's place, as from the service
abbrev pub said : {C State : Type 0} → (partition n backups : ℕ) → Apart C State → ℕ → Member Ruling → Apart C State
said p n b a m x = record a { sent = a.sent ++ map (bare n) (says p n b m x) }

abbrev pub goes : {C State : Type 0} → Object C State → (partition n backups : ℕ) → Ruled C State → Step C State → Ruled C State
goes o p n b j (Acts m own) = record { apart = apart.goes o p n b j.apart (apart.Acts m own); masters = j.masters }
goes o p n b j (Leads m place own) = map_or (slice_get j.masters.members m) j (λ x. with_masters p n b j (led j.masters m place own (does n m own x)))
goes o p n b j (Says m) = map_or (slice_get j.masters.members m) j (λ x. record { apart = said p n b j.apart m x; masters = j.masters })
goes o p n b j (Crash m) = record { apart = apart.goes o p n b j.apart (apart.Crash m); masters = record j.masters { crashed = j.masters.crashed ++ m ∷ [] } }

-- over a list of steps

abbrev pub after : {C State : Type 0} → Object C State → (partition n backups : ℕ) → Ruled C State → List (Step C State) → Ruled C State
after o p n b j [] = j
after o p n b j (s ∷ ss) = after o p n b (goes o p n b j s) ss

abbrev pub MayHappen : {C State : Type 0} → Object C State → (partition n backups : ℕ) → Ruled C State → List (Step C State) → Type 0
MayHappen o p n b j [] = Unit {0}
MayHappen o p n b j (s ∷ ss) = MayCome n j s × MayHappen o p n b (goes o p n b j s) ss

-- the calls that arrive, in order
abbrev pub asked_by : {C State : Type 0} → Step C State → List (Asked C)
asked_by (Acts m own) = apart.asked_by (apart.Acts m own)
asked_by _ = []

abbrev pub arrivals : {C State : Type 0} → List (Step C State) → List (Asked C)
arrivals [] = []
arrivals (s ∷ ss) = asked_by s ++ arrivals ss

-- the steps of member m as a master
abbrev pub leads_by : {C State : Type 0} → ℕ → Step C State → List Own
leads_by m (Leads k place own) = if k == m then own ∷ [] else []
leads_by m _ = []

abbrev pub leads_of : {C State : Type 0} → ℕ → List (Step C State) → List Own
leads_of m [] = []
leads_of m (s ∷ ss) = leads_by m s ++ leads_of m ss

-- and its steps of its own in the partition
abbrev pub acts_by : {C State : Type 0} → ℕ → Step C State → List (partition.Own C State)
acts_by m (Acts k own) = if k == m then own ∷ [] else []
acts_by m _ = []

abbrev pub acts_of : {C State : Type 0} → ℕ → List (Step C State) → List (partition.Own C State)
acts_of m [] = []
acts_of m (s ∷ ss) = acts_by m s ++ acts_of m ss
