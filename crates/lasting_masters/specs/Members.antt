-- A member's part in the mastership, with what it keeps of its log. It is as in `masters_protocol`, but that a message carries a part of a log.
use Rattle.std.specs.Prelude.{ℕ, ◌+◌, max, Bool, true, false, not, ◌&&◌, ◌||◌, ◌==◌, nat_lt, nat_le, if◌then◌else◌, List, [], ◌∷◌, ◌++◌, map, filter}
use Rattle.std.specs.List.{list_any, list_all}
use Rattle.partition_protocol.specs.Service.{numbers_below}
use Rattle.partition_table.specs.Rows.{is_among}
use Rattle.masters_protocol.specs.Members.{StoredLength, with_one, with_count, has_stored}
use Rattle.lasting_masters.specs.Kept.{Folding, Kept, nothing_yet, reach, Part, part_reach, part_from, has_gap, with_part, shortened}

-- what a member told a gathering master of its log
pub record ToldPart (Decision State : Type 0) : Type 0 where
  pub member : ℕ
  pub part : Part Decision State

pub data Role (Decision State : Type 0) : Type 0 where
  Following : Role Decision State
  Gathering : (tells : List (ToldPart Decision State)) → Role Decision State
  -- how long the logs were that were told, and what was stored since
  Serving : (known counts : List StoredLength) → Role Decision State

pub record Member (Decision State : Type 0) : Type 0 where
  pub told : List ℕ  -- the members of which it was told that they crashed
  pub seen : ℕ  -- the seen term
  pub kept : Kept Decision State
  pub settled : ℕ  -- how many decisions it knows to be published: so each live member has them
  pub role : Role Decision State

abbrev pub is_gathering : {D S : Type 0} → Role D S → Bool
is_gathering Following = false
is_gathering (Gathering tells) = true
is_gathering (Serving known counts) = false

abbrev pub is_serving : {D S : Type 0} → Role D S → Bool
is_serving Following = false
is_serving (Gathering tells) = false
is_serving (Serving known counts) = true

abbrev pub is_master : {D S : Type 0} → Role D S → Bool
is_master Following = false
is_master (Gathering tells) = true
is_master (Serving known counts) = true

abbrev pub tells_of : {D S : Type 0} → Role D S → List (ToldPart D S)
tells_of Following = []
tells_of (Gathering tells) = tells
tells_of (Serving known counts) = []

abbrev pub known_of : {D S : Type 0} → Role D S → List StoredLength
known_of Following = []
known_of (Gathering tells) = []
known_of (Serving known counts) = known

abbrev pub counts_of : {D S : Type 0} → Role D S → List StoredLength
counts_of Following = []
counts_of (Gathering tells) = []
counts_of (Serving known counts) = counts

-- the other members of which it wasn't told
abbrev pub peers : ℕ → ℕ → List ℕ → List ℕ
peers size m told = filter (λ p. not (p == m) && not (is_among told p)) (numbers_below size)

-- what a gathering master keeps

abbrev pub with_tell : {D S : Type 0} → ℕ → Part D S → List (ToldPart D S) → List (ToldPart D S)
with_tell m p [] = record { member = m; part = p } ∷ []
with_tell m p (k ∷ ks) = if k.member == m then record { member = m; part = p } ∷ ks else k ∷ with_tell m p ks

abbrev pub has_told : {D S : Type 0} → List (ToldPart D S) → ℕ → Bool
has_told ks m = list_any (λ (k : ToldPart _ _). k.member == m) ks

-- one's own log with all that was told
abbrev pub gathered : {D S : Type 0} → Kept D S → List (ToldPart D S) → Kept D S
gathered k [] = k
gathered k (t ∷ ts) = gathered (with_part k t.part) ts

abbrev pub told_lengths : {D S : Type 0} → List (ToldPart D S) → List StoredLength
told_lengths ks = map (λ (k : ToldPart _ _). record { member = k.member; count = part_reach k.part }) ks

abbrev pub is_gathered : {D S : Type 0} → ℕ → ℕ → Member D S → Bool
is_gathered size m n = is_gathering n.role && list_all (has_told (tells_of n.role)) (peers size m n.told)

-- what a serving master keeps

abbrev pub length_of : ℕ → List StoredLength → ℕ
length_of p [] = 0
length_of p (k ∷ ks) = if k.member == p then max k.count (length_of p ks) else length_of p ks

-- how much of the log a peer has for certain
abbrev pub known_length : {D S : Type 0} → Role D S → ℕ → ℕ
known_length r p = max (length_of p (known_of r)) (length_of p (counts_of r))

-- each of its peers of this moment has stored the length of its log in its term
abbrev pub is_stored : {D S : Type 0} → ℕ → ℕ → Member D S → Bool
is_stored size m n = is_serving n.role && list_all (has_stored (reach n.kept) (counts_of n.role)) (peers size m n.told)

-- all that it has is published
abbrev pub is_clear : {D S : Type 0} → ℕ → ℕ → Member D S → Bool
is_clear size m n = is_serving n.role && (nat_le (reach n.kept) 0 || is_stored size m n)

-- what members say to one another

pub data Message (Decision State : Type 0) : Type 0 where
  -- how much is published, and what the peer lacks
  Store : (term settled : ℕ) (part : Part Decision State) → Message Decision State
  Stored : (term length : ℕ) → Message Decision State
  -- how long the asker's log is
  Ask : (term position : ℕ) → Message Decision State
  -- what the asker lacks
  Tell : (term : ℕ) (part : Part Decision State) → Message Decision State

pub record Sent (Decision State : Type 0) : Type 0 where
  pub to : ℕ
  pub message : Message Decision State

pub record Step (Decision State : Type 0) : Type 0 where
  pub member : Member Decision State
  pub sent : List (Sent Decision State)

abbrev pub quiet : {D S : Type 0} → Member D S → Step D S
quiet n = record { member = n; sent = [] }

-- member m hears that x crashed

abbrev pub with_told : {D S : Type 0} → ℕ → Member D S → Member D S
with_told x n = record { told = with_one x n.told; seen = n.seen; kept = n.kept; settled = n.settled; role = n.role }

abbrev pub begins : {D S : Type 0} → ℕ → Member D S → Bool
begins m n = not (is_master n.role) && list_all (is_among n.told) (numbers_below m)

abbrev pub gatherer : {D S : Type 0} → ℕ → Member D S → Member D S
gatherer m n = record { told = n.told; seen = m; kept = n.kept; settled = n.settled; role = Gathering [] }

abbrev pub to_each : {D S : Type 0} → (ℕ → Message D S) → List ℕ → List (Sent D S)
to_each x ms = map (λ m. record { to = m; message = x m }) ms

abbrev pub asks : {D S : Type 0} → ℕ → Member D S → ℕ → Message D S
asks m n p = Ask m (reach n.kept)

abbrev pub going_on : {D S : Type 0} → ℕ → ℕ → Member D S → Step D S
going_on size m n = if begins m n then record { member = gatherer m n; sent = to_each (asks m n) (peers size m n.told) } else quiet n

abbrev pub hearing : {D S : Type 0} → ℕ → ℕ → ℕ → Member D S → Step D S
hearing size m x n = going_on size m (with_told x n)

-- member m ends its gathering
abbrev pub server : {D S : Type 0} → Member D S → Member D S
server n = record {
  told = n.told;
  seen = n.seen;
  kept = gathered n.kept (tells_of n.role);
  settled = n.settled;
  role = Serving (told_lengths (tells_of n.role)) [];
}

-- each peer is to store what it lacks
abbrev pub stores : {D S : Type 0} → ℕ → Member D S → ℕ → Message D S
stores m n p = Store m n.settled (part_from (known_length n.role p) n.kept)

abbrev pub storing : {D S : Type 0} → ℕ → ℕ → Member D S → List (Sent D S)
storing size m n = to_each (stores m n) (peers size m n.told)

-- its log is stored at each peer: so it is published
abbrev pub settles : {D S : Type 0} → Member D S → Member D S
settles n = record { told = n.told; seen = n.seen; kept = n.kept; settled = reach n.kept; role = n.role }

-- member m takes a message

abbrev pub with_kept : {D S : Type 0} → (term settled : ℕ) → Kept D S → Member D S → Member D S
with_kept t s k n = record { told = n.told; seen = t; kept = k; settled = max n.settled s; role = n.role }

abbrev pub with_seen : {D S : Type 0} → ℕ → Member D S → Member D S
with_seen t n = record { told = n.told; seen = t; kept = n.kept; settled = n.settled; role = n.role }

abbrev pub with_role : {D S : Type 0} → Role D S → Member D S → Member D S
with_role r n = record { told = n.told; seen = n.seen; kept = n.kept; settled = n.settled; role = r }

-- Decisions that are missing in between may still come, in another message: one that doesn't fit is as if it were late
abbrev pub taking : {D S : Type 0} → ℕ → ℕ → Message D S → Member D S → Step D S
taking m from (Store t s p) n =
    if nat_lt t n.seen then quiet n
    else record { member = with_kept t s (with_part n.kept p) n; sent = record { to = from; message = Stored t (reach (with_part n.kept p)) } ∷ [] }
taking m from (Stored t c) n =
    if is_serving n.role && (t == m) then quiet (with_role (Serving (known_of n.role) (with_count from c (counts_of n.role))) n) else quiet n
taking m from (Ask t p) n =
    if nat_lt t n.seen then quiet n else record { member = with_seen t n; sent = record { to = from; message = Tell t (part_from p n.kept) } ∷ [] }
taking m from (Tell t p) n = if is_gathering n.role && (t == m) then quiet (with_role (Gathering (with_tell from p (tells_of n.role))) n) else quiet n

abbrev pub fits : {D S : Type 0} → Message D S → Member D S → Bool
fits (Store t s p) n = not (has_gap (reach n.kept) p)
fits (Stored t c) n = true
fits (Ask t p) n = true
fits (Tell t p) n = not (has_gap (reach n.kept) p)

-- a decision is proposed to it, as all that it has is published
abbrev pub with_decision : {D S : Type 0} → D → Member D S → Member D S
with_decision d n = record {
  told = n.told;
  seen = n.seen;
  kept = record { cut = n.kept.cut; base = n.kept.base; rest = n.kept.rest ++ d ∷ [] };
  settled = n.settled;
  role = n.role;
}

abbrev pub proposing : {D S : Type 0} → ℕ → ℕ → D → Member D S → Step D S
proposing size m d n = record { member = with_decision d n; sent = storing size m (with_decision d n) }

-- A master's Ask or Store once more, to each peer that hasn't answered it

abbrev pub has_sent : {D S : Type 0} → ℕ → Member D S → Bool
has_sent m n = nat_lt 0 (m + reach n.kept)

abbrev pub sent_again : {D S : Type 0} → ℕ → ℕ → Member D S → List (Sent D S)
sent_again size m n =
    if is_gathering n.role then to_each (asks m n) (filter (λ p. not (has_told (tells_of n.role) p)) (peers size m n.told))
    else if is_serving n.role && has_sent m n then
    to_each (stores m n) (filter (λ p. not (has_stored (reach n.kept) (counts_of n.role) p)) (peers size m n.told))
    else []

-- it cuts so many more decisions off
abbrev pub with_cut : {D S : Type 0} → Folding D S → ℕ → Member D S → Member D S
with_cut o c n = record { told = n.told; seen = n.seen; kept = shortened o c n.kept.cut n.kept.base n.kept.rest; settled = n.settled; role = n.role }

-- only what it knows to be published
abbrev pub may_cut : {D S : Type 0} → ℕ → Member D S → Bool
may_cut c n = nat_le (n.kept.cut + c) n.settled

abbrev pub opening_member : {D S : Type 0} → Folding D S → ℕ → Member D S
opening_member o m = record { told = []; seen = 0; kept = nothing_yet o; settled = 0; role = if m == 0 then Serving [] [] else Following }
