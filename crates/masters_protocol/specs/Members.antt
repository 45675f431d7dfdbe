-- A member's part in the mastership of one partition: what it was told of, its log of decisions, and what it does as a master.
use Rattle.std.specs.Prelude.{ℕ, ◌+◌, max, Bool, true, false, not, ◌&&◌, ◌==◌, nat_lt, nat_le, if◌then◌else◌, List, [], ◌∷◌, ◌++◌, map, length, filter}
use Rattle.std.specs.List.{list_any, list_all}
use Rattle.partition_protocol.specs.Service.{numbers_below}
use Rattle.partition_table.specs.Rows.{is_among}

-- a log that a member told a gathering master
pub record ToldLog (Decision : Type 0) : Type 0 where
  pub member : ℕ
  pub log : List Decision

-- the greatest length that a member stored in a master's term
pub record StoredLength : Type 0 where
  pub member : ℕ
  pub count : ℕ

-- a master's term is its own number
pub data Role (Decision : Type 0) : Type 0 where
  Following : Role Decision
  Gathering : (tells : List (ToldLog Decision)) → Role Decision
  Serving : (counts : List StoredLength) → Role Decision

pub record Member (Decision : Type 0) : Type 0 where
  pub told : List ℕ  -- the members of which it was told that they crashed
  pub seen : ℕ  -- the seen term
  pub log : List Decision
  pub role : Role Decision

abbrev pub is_gathering : {D : Type 0} → Role D → Bool
is_gathering Following = false
is_gathering (Gathering tells) = true
is_gathering (Serving counts) = false

abbrev pub is_serving : {D : Type 0} → Role D → Bool
is_serving Following = false
is_serving (Gathering tells) = false
is_serving (Serving counts) = true

abbrev pub is_master : {D : Type 0} → Role D → Bool
is_master Following = false
is_master (Gathering tells) = true
is_master (Serving counts) = true

abbrev pub tells_of : {D : Type 0} → Role D → List (ToldLog D)
tells_of Following = []
tells_of (Gathering tells) = tells
tells_of (Serving counts) = []

abbrev pub counts_of : {D : Type 0} → Role D → List StoredLength
counts_of Following = []
counts_of (Gathering tells) = []
counts_of (Serving counts) = counts

-- the other members of which it wasn't told
abbrev pub peers : {D : Type 0} → ℕ → ℕ → Member D → List ℕ
peers size m n = filter (λ p. not (p == m) && not (is_among n.told p)) (numbers_below size)

-- what a gathering master keeps

abbrev pub with_tell : {D : Type 0} → ℕ → List D → List (ToldLog D) → List (ToldLog D)
with_tell m l [] = record { member = m; log = l } ∷ []
with_tell m l (k ∷ ks) = if k.member == m then record { member = m; log = l } ∷ ks else k ∷ with_tell m l ks

abbrev pub has_told : {D : Type 0} → List (ToldLog D) → ℕ → Bool
has_told ks m = list_any (λ (k : ToldLog _). k.member == m) ks

-- the longer list, the first among equals
abbrev pub longer : {D : Type 0} → List D → List D → List D
longer xs ys = if nat_lt (length xs) (length ys) then ys else xs

abbrev pub longest : {D : Type 0} → List D → List (ToldLog D) → List D
longest l [] = l
longest l (k ∷ ks) = longest (longer l k.log) ks

-- each of its peers of this moment has told
abbrev pub is_gathered : {D : Type 0} → ℕ → ℕ → Member D → Bool
is_gathered size m n = is_gathering n.role && list_all (has_told (tells_of n.role)) (peers size m n)

-- what a serving master keeps

abbrev pub with_count : ℕ → ℕ → List StoredLength → List StoredLength
with_count m c [] = record { member = m; count = c } ∷ []
with_count m c (k ∷ ks) = if k.member == m then record { member = m; count = max c k.count } ∷ ks else k ∷ with_count m c ks

abbrev pub has_stored : ℕ → List StoredLength → ℕ → Bool
has_stored c ks m = list_any (λ (k : StoredLength). (k.member == m) && nat_le c k.count) ks

-- each of its peers of this moment has stored the length of its log in its term
abbrev pub is_stored : {D : Type 0} → ℕ → ℕ → Member D → Bool
is_stored size m n = is_serving n.role && list_all (has_stored (length n.log) (counts_of n.role)) (peers size m n)

-- what members say to one another

pub data Message (Decision : Type 0) : Type 0 where
  Store : (term : ℕ) (log : List Decision) → Message Decision
  Stored : (term length : ℕ) → Message Decision
  Ask : (term : ℕ) → Message Decision
  Tell : (term : ℕ) (log : List Decision) → Message Decision

abbrev pub log_of : {D : Type 0} → Message D → List D
log_of (Store t l) = l
log_of (Stored t c) = []
log_of (Ask t) = []
log_of (Tell t l) = l

pub record Sent (Decision : Type 0) : Type 0 where
  pub to : ℕ
  pub message : Message Decision

abbrev pub to_each : {D : Type 0} → Message D → List ℕ → List (Sent D)
to_each x ms = map (λ m. record { to = m; message = x }) ms

pub data Outcome : Type 0 where
  NothingDone Done RefusedFull StoreTaken Counted Asked TellKept Other Stale Dropped : Outcome
  Proposed : (number : ℕ) → Outcome
  RefusedBusy : (length : ℕ) → Outcome

-- a member's next state, what it sends and what is answered
pub record Step (Decision : Type 0) : Type 0 where
  pub member : Member Decision
  pub sent : List (Sent Decision)
  pub outcome : Outcome

abbrev pub quiet : {D : Type 0} → Member D → Outcome → Step D
quiet n x = record { member = n; sent = []; outcome = x }

-- member m hears that x crashed. Told of every lower member, it takes its own number as term and gathers
abbrev pub with_one : ℕ → List ℕ → List ℕ
with_one x ms = if is_among ms x then ms else ms ++ x ∷ []

abbrev pub with_told : {D : Type 0} → ℕ → Member D → Member D
with_told x n = record n { told = with_one x n.told }

abbrev pub was_told_of_lower : {D : Type 0} → ℕ → Member D → Bool
was_told_of_lower m n = list_all (is_among n.told) (numbers_below m)

abbrev pub begins : {D : Type 0} → ℕ → Member D → Bool
begins m n = not (is_master n.role) && was_told_of_lower m n

abbrev pub gatherer : {D : Type 0} → ℕ → Member D → Member D
gatherer m n = record n { seen = m; role = Gathering [] }

abbrev pub going_on : {D : Type 0} → ℕ → ℕ → Member D → Step D
going_on size m n =
    if begins m n then record { member = gatherer m n; sent = to_each (Ask m) (peers size m n); outcome = Done } else quiet n Done

abbrev pub hearing : {D : Type 0} → ℕ → ℕ → ℕ → Member D → Step D
hearing size m x n = going_on size m (with_told x n)

-- member m ends its gathering
abbrev pub server : {D : Type 0} → Member D → Member D
server n = record n { log = longest n.log (tells_of n.role); role = Serving [] }

-- what its peers are to store
abbrev pub storing : {D : Type 0} → ℕ → ℕ → Member D → List (Sent D)
storing size m n = to_each (Store m n.log) (peers size m n)

abbrev pub with_log : {D : Type 0} → ℕ → List D → Member D → Member D
with_log t l n = record n { seen = t; log = l }

abbrev pub with_seen : {D : Type 0} → ℕ → Member D → Member D
with_seen t n = record n { seen = t }

abbrev pub with_role : {D : Type 0} → Role D → Member D → Member D
with_role r n = record n { role = r }

-- member m takes a message
abbrev pub taking : {D : Type 0} → ℕ → ℕ → Message D → Member D → Step D
taking m from (Store t l) n =
    if nat_lt t n.seen then quiet n Other
    else record { member = with_log t (longer n.log l) n; sent = record { to = from; message = Stored t (length (longer n.log l)) } ∷ []; outcome = StoreTaken }
taking m from (Stored t c) n = if is_serving n.role && (t == m) then quiet (with_role (Serving (with_count from c (counts_of n.role))) n) Counted else quiet n Stale
taking m from (Ask t) n = if nat_lt t n.seen then quiet n Other else record { member = with_seen t n; sent = record { to = from; message = Tell t n.log } ∷ []; outcome = Asked }
taking m from (Tell t l) n = if is_gathering n.role && (t == m) then quiet (with_role (Gathering (with_tell from l (tells_of n.role))) n) TellKept else quiet n Stale

-- the longest log
abbrev pub most_decisions : ℕ
most_decisions = 10000

abbrev pub with_decision : {D : Type 0} → D → Member D → Member D
with_decision d n = record n { log = n.log ++ d ∷ [] }

abbrev pub proposing : {D : Type 0} → ℕ → ℕ → D → Member D → Step D
proposing size m d n = record { member = with_decision d n; sent = storing size m (with_decision d n); outcome = Proposed (length n.log + 1) }

-- A master's Ask or Store once more, to each peer that hasn't answered it. Member 0 serves from the start, and has sent none before its first decision
abbrev pub has_sent : {D : Type 0} → ℕ → Member D → Bool
has_sent m n = nat_lt 0 (m + length n.log)

abbrev pub asking_again : {D : Type 0} → ℕ → ℕ → Member D → List (Sent D)
asking_again size m n = to_each (Ask m) (filter (λ p. not (has_told (tells_of n.role) p)) (peers size m n))

abbrev pub storing_again : {D : Type 0} → ℕ → ℕ → Member D → List (Sent D)
storing_again size m n = to_each (Store m n.log) (filter (λ p. not (has_stored (length n.log) (counts_of n.role) p)) (peers size m n))

abbrev pub sent_again : {D : Type 0} → ℕ → ℕ → Member D → List (Sent D)
sent_again size m n =
    if is_gathering n.role then asking_again size m n
    else if is_serving n.role && has_sent m n then storing_again size m n
    else []
