-- A near cache, and what each call does to it.
use Rattle.std.specs.Prelude.{◌≡◌, ℕ, Bool, not, bytes_eq, List, [], ◌∷◌, filter, take, Option, Some, None, option_map, option_and_then, IsSome}
use Rattle.std.specs.List.{find}
use Rattle.std.specs.Option.{option_map_or}
use Rattle.std.specs.FinMap.{empty, get, insert, remove}
use Rattle.near_cache.specs.declared.look_up.LookUp.{LookUp}
use Rattle.near_cache.specs.declared.look_up.Overtaking.{Overtaking}
use Rattle.near_cache.specs.declared.look_up.Filled.{Filled}
use Rattle.near_cache.specs.declared.look_up.Filled.TheVariants as told
use Rattle.near_cache.specs.Scopes.{is_in_partition}
use Rattle.near_cache.specs.LookUps.{LookUps, all_overtaken}

-- a key, with the value that is kept for it
abbrev pub Kept : Type 0
Kept = List ℕ × Option (List ℕ)

-- how many entries there may be; the entries, the most recently used first; the open look-ups, by number
pub record Cache : Type 0 where
  pub capacity : ℕ
  pub entries : List Kept
  pub waiting : LookUps

-- a cache at first
abbrev pub new_cache : ℕ → Cache
new_cache capacity = record { capacity = capacity; entries = []; waiting = empty }

-- looking up

abbrev pub is_for : List ℕ → Kept → Bool
is_for key e = bytes_eq key e.0

-- the value that is kept for a key
abbrev pub hit : List ℕ → Cache → Option (Option (List ℕ))
hit key c = option_map (λ e. e.1) (find (is_for key) c.entries)

-- the entries of other keys
abbrev pub others : List ℕ → List Kept → List Kept
others key es = filter (λ e. not (is_for key e)) es

-- a hit brings the entry to the front
abbrev pub used : List ℕ → Cache → Cache
used key c = record c { entries = option_map_or (λ e. e ∷ others key c.entries) (find (is_for key) c.entries) c.entries }

-- a miss opens a look-up under a new number
abbrev pub opened : ℕ → List ℕ → Cache → Cache
opened n key c = record c { waiting = insert c.waiting n (record { key = key; overtaken = None }) }

-- a look-up of that number is open
abbrev pub IsOpen : ℕ → Cache → Type 0
IsOpen n c = IsSome (get c.waiting n)

-- none is
abbrev pub IsNew : ℕ → Cache → Type 0
IsNew n c = get c.waiting n ≡ None

-- the look-up of that number is closed
abbrev pub closed : ℕ → Cache → Cache
closed n c = record c { waiting = remove c.waiting n }

-- a value is kept, in place of an older one of its key, and the least recently used entry goes where there are too many
abbrev pub kept : List ℕ → Option (List ℕ) → Cache → Cache
kept key value c = record c { entries = take c.capacity ((key, value) ∷ others key c.entries) }

-- unless the look-up was overtaken
abbrev pub filled : LookUp → Option (List ℕ) → Cache → Cache
filled r value c = option_map_or (λ by. c) r.overtaken (kept r.key value c)

-- an answer closes its look-up
abbrev pub answered : ℕ → Option (List ℕ) → Cache → Cache
answered n value c = option_map_or (λ r. closed n (filled r value c)) (get c.waiting n) c

-- what overtook a look-up last since it was opened
abbrev pub overtaken : ℕ → Cache → Option Overtaking
overtaken n c = option_and_then (λ r. r.overtaken) (get c.waiting n)

abbrev pub outcome_of : Option Overtaking → Filled
outcome_of None = told.Kept
outcome_of (Some by) = told.Overtaken by.version by.number

-- dropping

-- the entries of some keys go, and their open look-ups are overtaken
abbrev pub dropping : (List ℕ → Bool) → Overtaking → Cache → Cache
dropping test by c = record c {
  entries = filter (λ e. not (test e.0)) c.entries;
  waiting = all_overtaken test by c.waiting;
}

abbrev pub invalidated : List ℕ → Overtaking → Cache → Cache
invalidated key by c = dropping (bytes_eq key) by c

-- a row of that version clears a partition
abbrev pub cleared : ℕ → ℕ → Cache → Cache
cleared p version c = dropping (is_in_partition p) (record { version = version; number = 0 }) c
