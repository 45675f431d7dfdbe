-- A near cache and its client: what it keeps of the answers to its look-ups, and what each message does to it.
use Rattle.std.specs.Prelude.{ℕ, Bool, not, ◌==◌, nat_lt, if◌then◌else◌, List, [], ◌∷◌, ◌++◌, map, filter, take, Option, Some, None}
use Rattle.std.specs.List.{find}
use Rattle.near_protocol.specs.Keyed.{Keyed}

-- a value that is kept for a key
pub record Kept (K V : Type 0) : Type 0 where
  pub key : K
  pub value : V

-- the version and the number of an invalidation; a row that cleared a partition has the number 0
pub record Overtaking : Type 0 where
  pub version : ℕ
  pub number : ℕ

-- A look-up that waits for its answer, by the number of its get. What overtook it last since it was opened, if anything did
pub record LookUp (K : Type 0) : Type 0 where
  pub number : ℕ
  pub key : K
  pub overtaken : Option Overtaking

-- the version of a partition's row that the client heard of
pub record RowHeard : Type 0 where
  pub partition : ℕ
  pub version : ℕ

-- The entries, the most recently used first; the open look-ups; the rows that it heard of, the newest first
pub record Client (K V : Type 0) : Type 0 where
  pub capacity : ℕ
  pub entries : List (Kept K V)
  pub waiting : List (LookUp K)
  pub rows : List RowHeard

-- what a member says on the client's connection
pub data Said (K : Type 0) : Type 0 where
  -- the reply to its get of that number
  Answer : (number : ℕ) (reply : List ℕ) → Said K
  -- that get wasn't executed
  Refusal : (number : ℕ) → Said K
  -- a call that changed the key's value was released: the version in which it was executed, and the count that it saw
  Invalidation : (key : K) (version number : ℕ) → Said K
  -- the member knows these rows
  Rows : (rows : List RowHeard) → Said K

-- a client at first
abbrev pub new_client : {K V : Type 0} → ℕ → Client K V
new_client capacity = record { capacity = capacity; entries = []; waiting = []; rows = [] }

-- looking up

abbrev pub is_for : {C State K V : Type 0} → Keyed C State K V → K → Kept K V → Bool
is_for l k e = l.same e.key k

-- the value that is kept for a key
abbrev pub hit : {C State K V : Type 0} → Keyed C State K V → K → Client K V → Option V
hit l k c = elim (find (is_for l k) c.entries) [ None ↦ None | Some e ↦ Some e.value ]

-- the entries of other keys
abbrev pub others : {C State K V : Type 0} → Keyed C State K V → K → List (Kept K V) → List (Kept K V)
others l k es = filter (λ (e : Kept _ _). not (is_for l k e)) es

-- a hit brings the entry to the front
abbrev pub used : {C State K V : Type 0} → Keyed C State K V → K → Client K V → Client K V
used l k c = record c { entries = elim (find (is_for l k) c.entries) [ None ↦ c.entries | Some e ↦ e ∷ others l k c.entries ] }

-- a miss opens a look-up
abbrev pub opened : {K V : Type 0} → ℕ → K → Client K V → Client K V
opened n k c = record c { waiting = c.waiting ++ record { number = n; key = k; overtaken = None } ∷ [] }

-- the look-up of that number is closed
abbrev pub closed : {K V : Type 0} → ℕ → Client K V → Client K V
closed n c = record c { waiting = filter (λ (r : LookUp _). not (r.number == n)) c.waiting }

-- a value is kept, in place of an older one of its key, and the least recently used entry goes where there are too many
abbrev pub kept : {C State K V : Type 0} → Keyed C State K V → K → V → Client K V → Client K V
kept l k v c = record c { entries = take c.capacity (record { key = k; value = v } ∷ others l k c.entries) }

-- unless the look-up was overtaken
abbrev pub filled : {C State K V : Type 0} → Keyed C State K V → LookUp K → V → Client K V → Client K V
filled l r v c = elim r.overtaken [ None ↦ kept l r.key v c | Some o ↦ c ]

-- an answer closes its look-up. Other answers do nothing
abbrev pub answered : {C State K V : Type 0} → Keyed C State K V → ℕ → List ℕ → Client K V → Client K V
answered l n reply c =
    elim (find (λ (r : LookUp _). r.number == n) c.waiting)
    [ None ↦ c | Some r ↦ closed n (elim (l.value_in reply) [ None ↦ c | Some v ↦ filled l r v c ]) ]

-- dropping

abbrev pub overtaking : {K : Type 0} → (K → Bool) → Overtaking → LookUp K → LookUp K
overtaking t o r = if t r.key then record r { overtaken = Some o } else r

-- the entries of some keys go, and their open look-ups are overtaken
abbrev pub dropping : {K V : Type 0} → (K → Bool) → Overtaking → Client K V → Client K V
dropping t o c = record c {
  entries = filter (λ (e : Kept _ _). not (t e.key)) c.entries;
  waiting = map (overtaking t o) c.waiting;
}

abbrev pub invalidated : {C State K V : Type 0} → Keyed C State K V → K → Overtaking → Client K V → Client K V
invalidated l k o c = dropping (λ q. l.same q k) o c

-- the version of a partition's row that the client knows
abbrev pub known_in : ℕ → List RowHeard → Option ℕ
known_in p rows = elim (find (λ (r : RowHeard). r.partition == p) rows) [ None ↦ None | Some r ↦ Some r.version ]

abbrev pub knowing : {K V : Type 0} → RowHeard → Client K V → Client K V
knowing row c = record c { rows = row ∷ c.rows }

abbrev pub cleared : {C State K V : Type 0} → Keyed C State K V → RowHeard → Client K V → Client K V
cleared l row c = dropping (λ q. l.partition q == row.partition) (record { version = row.version; number = 0 }) c

-- a row later than the known one clears its partition; the first row of a partition clears nothing
abbrev pub row_heard : {C State K V : Type 0} → Keyed C State K V → Client K V → RowHeard → Client K V
row_heard l c row =
    elim (known_in row.partition c.rows)
    [ None ↦ knowing row c | Some v ↦ if nat_lt v row.version then knowing row (cleared l row c) else c ]

abbrev pub rows_heard : {C State K V : Type 0} → Keyed C State K V → Client K V → List RowHeard → Client K V
rows_heard l c [] = c
rows_heard l c (row ∷ rows) = rows_heard l (row_heard l c row) rows

-- what a message does
abbrev pub handled : {C State K V : Type 0} → Keyed C State K V → Said K → Client K V → Client K V
handled l (Answer n reply) c = answered l n reply c
handled l (Refusal n) c = closed n c
handled l (Invalidation k v n) c = invalidated l k (record { version = v; number = n }) c
handled l (Rows rows) c = rows_heard l c rows
