-- The mastership of one partition: the members, the messages in flight and the published list, and what each event does.
use Rattle.std.specs.Prelude.{ℕ, zero, suc, Bool, false, not, ◌&&◌, ◌||◌, ◌==◌, nat_lt, nat_le, if◌then◌else◌, List, [], ◌∷◌, ◌++◌, map, length, filter, Option, Some, None, slice_get, slice_set}
use Rattle.std.specs.List.{list_any}
use Rattle.partition_protocol.specs.Service.{numbers_below}
use Rattle.partition_protocol.specs.World.{map_or}
use Rattle.partition_table.specs.Rows.{is_among, is_empty}
use Rattle.masters_protocol.specs.Members.{Role, Following, Serving, Member, ToldLog, Message, Sent, Step, Outcome, NothingDone, Done, RefusedFull, RefusedBusy, Dropped, log_of, tells_of, is_serving, is_gathered, is_stored, server, storing, hearing, taking, proposing, most_decisions, sent_again}

pub record Packet (Decision : Type 0) : Type 0 where
  pub from : ℕ
  pub to : ℕ
  pub message : Message Decision

pub record Masters (Decision : Type 0) : Type 0 where
  pub size : ℕ
  pub members : List (Member Decision)
  pub crashed : List ℕ
  pub packets : List (Packet Decision)  -- in flight, in the order in which they were sent
  pub published : List Decision  -- the longest list that was published

pub data Event (Decision : Type 0) : Type 0 where
  Told : (member crashed : ℕ) → Event Decision
  Crash : (member : ℕ) → Event Decision
  Propose : (decision : Decision) → Event Decision
  Deliver : (from to place : ℕ) → Event Decision
  Lose : (from to place : ℕ) → Event Decision
  Resend : (member : ℕ) → Event Decision

-- the start: member 0 is serving master of term 0

abbrev pub opening_role : {D : Type 0} → ℕ → Role D
opening_role m = if m == 0 then Serving [] else Following

abbrev pub opening_member : {D : Type 0} → ℕ → Member D
opening_member m = record { told = []; seen = 0; log = []; role = opening_role m }

abbrev pub start : {D : Type 0} → ℕ → Masters D
start size = record { size = size; members = map opening_member (numbers_below size); crashed = []; packets = []; published = [] }

abbrev pub is_live : {D : Type 0} → Masters D → ℕ → Bool
is_live w m = nat_lt m w.size && not (is_among w.crashed m)

-- links

abbrev pub is_on : {D : Type 0} → ℕ → ℕ → Packet D → Bool
is_on f t p = (p.from == f) && (p.to == t)

abbrev pub link : {D : Type 0} → ℕ → ℕ → List (Packet D) → List (Packet D)
link f t ps = filter (is_on f t) ps

-- without the packet at that place of the link
abbrev pub taken_out : {D : Type 0} → ℕ → ℕ → ℕ → List (Packet D) → List (Packet D)
taken_out f t i [] = []
taken_out f t zero (p ∷ ps) = if is_on f t p then ps else p ∷ taken_out f t zero ps
taken_out f t (suc i) (p ∷ ps) = if is_on f t p then p ∷ taken_out f t i ps else p ∷ taken_out f t (suc i) ps

abbrev pub packets_from : {D : Type 0} → ℕ → List (Sent D) → List (Packet D)
packets_from f ss = map (λ (s : Sent _). record { from = f; to = s.to; message = s.message }) ss

abbrev pub with_packets : {D : Type 0} → Masters D → List (Packet D) → Masters D
with_packets w ps = record w { packets = ps }

abbrev pub sending : {D : Type 0} → Masters D → ℕ → List (Sent D) → Masters D
sending w f ss = record w { packets = w.packets ++ packets_from f ss }

abbrev pub with_member : {D : Type 0} → Masters D → ℕ → Member D → Masters D
with_member w m n = record w { members = slice_set w.members m n }

-- whether a log is longer than the published list
abbrev pub is_ahead : {D : Type 0} → Masters D → List D → Bool
is_ahead w l = nat_lt (length w.published) (length l)

-- member m serves as soon as each peer has told, and publishes as soon as each peer has stored

abbrev pub serving_at : {D : Type 0} → Masters D → ℕ → Member D → Masters D
serving_at w m n = if is_gathered w.size m n then sending (with_member w m (server n)) m (storing w.size m (server n)) else w

abbrev pub publishing_at : {D : Type 0} → Masters D → ℕ → Member D → Masters D
publishing_at w m n = if is_stored w.size m n && is_ahead w n.log then record w { published = n.log } else w

abbrev pub serving : {D : Type 0} → Masters D → ℕ → Masters D
serving w m = map_or (slice_get w.members m) w (serving_at w m)

abbrev pub publishing : {D : Type 0} → Masters D → ℕ → Masters D
publishing w m = map_or (slice_get w.members m) w (publishing_at w m)

-- events

pub record Happened (Decision : Type 0) : Type 0 where
  pub world : Masters Decision
  pub outcome : Outcome

abbrev pub nothing : {D : Type 0} → Masters D → Happened D
nothing w = record { world = w; outcome = NothingDone }

abbrev pub done : {D : Type 0} → Masters D → Happened D
done w = record { world = w; outcome = Done }

abbrev pub refused : {D : Type 0} → Masters D → Outcome → Happened D
refused w x = record { world = w; outcome = x }

abbrev pub stepped : {D : Type 0} → Masters D → ℕ → Step D → Happened D
stepped w m s = record { world = publishing (serving (sending (with_member w m s.member) m s.sent) m) m; outcome = s.outcome }

abbrev pub at_member : {D : Type 0} → Masters D → ℕ → (Member D → Happened D) → Happened D
at_member w m f = if is_live w m then map_or (slice_get w.members m) (nothing w) f else nothing w

abbrev pub handed_over : {D : Type 0} → Masters D → Packet D → Happened D
handed_over w p = if is_live w p.to then at_member w p.to (λ n. stepped w p.to (taking p.to p.from p.message n)) else refused w Dropped

abbrev pub at_place : {D : Type 0} → Masters D → ℕ → ℕ → ℕ → (Packet D → Happened D) → Happened D
at_place w f t i g = map_or (slice_get (link f t w.packets) i) (nothing w) g

-- the live master that serves

abbrev pub serves : {D : Type 0} → Masters D → ℕ → Bool
serves w m = is_live w m && map_or (slice_get w.members m) false (λ n. is_serving n.role)

abbrev pub lowest_of : List ℕ → Option ℕ
lowest_of [] = None
lowest_of (m ∷ ms) = Some m

abbrev pub master : {D : Type 0} → Masters D → Option ℕ
master w = lowest_of (filter (serves w) (numbers_below w.size))

abbrev pub proposed_at : {D : Type 0} → Masters D → D → ℕ → Member D → Happened D
proposed_at w d m n =
    if is_ahead w n.log then refused w (RefusedBusy (length n.log))
    else if nat_le most_decisions (length n.log) then refused w RefusedFull
    else stepped w m (proposing w.size m d n)

abbrev pub resent : {D : Type 0} → Masters D → ℕ → Member D → Happened D
resent w m n = if is_empty (sent_again w.size m n) then nothing w else done (sending w m (sent_again w.size m n))

abbrev pub happens : {D : Type 0} → Masters D → Event D → Happened D
happens w (Told m x) = if is_among w.crashed x then at_member w m (λ n. stepped w m (hearing w.size m x n)) else nothing w
happens w (Crash m) = if is_live w m then done (record w { crashed = w.crashed ++ m ∷ [] }) else nothing w
happens w (Propose d) = map_or (master w) (nothing w) (λ m. at_member w m (proposed_at w d m))
happens w (Deliver f t i) = at_place w f t i (λ p. handed_over (with_packets w (taken_out f t i w.packets)) p)
happens w (Lose f t i) = at_place w f t i (λ p. done (with_packets w (taken_out f t i w.packets)))
happens w (Resend m) = at_member w m (resent w m)

-- a longer log than the published list is a live member's own, is kept by a live master from a Tell, or is in a Store or Tell in flight
abbrev pub is_pending_at : {D : Type 0} → Masters D → Member D → Bool
is_pending_at w n = is_ahead w n.log || list_any (λ (k : ToldLog _). is_ahead w k.log) (tells_of n.role)

abbrev pub is_pending_member : {D : Type 0} → Masters D → ℕ → Bool
is_pending_member w m = is_live w m && map_or (slice_get w.members m) false (is_pending_at w)

abbrev pub pending : {D : Type 0} → Masters D → Bool
pending w = list_any (is_pending_member w) (numbers_below w.size) || list_any (λ (p : Packet _). is_ahead w (log_of p.message)) w.packets

-- after a list of events
abbrev pub run : {D : Type 0} → Masters D → List (Event D) → Masters D
run w [] = w
run w (e ∷ es) = run (happens w e).world es
