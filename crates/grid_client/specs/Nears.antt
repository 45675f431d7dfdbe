-- What a client keeps of the map that it listens to, and its look-ups that wait for answers.
use Rattle.std.specs.Prelude.{◌≢◌, ℕ, Bool, not, ◌==◌, bytes_eq, if◌then◌else◌, List, [], ◌∷◌, ◌++◌, filter, map, take, Option, Some, None, option_map, IsSome, ⊤}
use Rattle.std.specs.List.{find, filter_map, AllByRecursion}
use Rattle.std.specs.Option.{option_map_or}
use Rattle.std.specs.FinMap.{get}
use Rattle.near_protocol.specs.Client.{Kept, LookUp, Overtaking}
use Rattle.near_cache.specs.Scopes.{is_in_partition}
use Rattle.near_cache.specs.LookUps.{LookUps}
use Rattle.near_cache.specs.Caches.{Cache, outcome_of as told_of}
use Rattle.near_cache.specs.Caches as cache
use Rattle.near_cache.specs.declared.look_up.Filled.{Filled}
use Rattle.near_cache.specs.declared.look_up.Filled.TheVariants as told
use Rattle.near_cache.specs.declared.look_up.LookUp as kept_look_up
use Rattle.near_cache.specs.declared.look_up.Overtaking as kept_overtaking
use Rattle.grid_client.specs.Lists.{erased_by}
use Rattle.grid_client.specs.declared.near.Awaited.{Awaited}

-- a value that may be null
abbrev pub Value : Type 0
Value = Option (List ℕ)

abbrev pub Entry : Type 0
Entry = Kept (List ℕ) Value

abbrev pub Look : Type 0
Look = LookUp (List ℕ)

-- The map's name; how many entries there may be; the entries, the most recently used first; the open look-ups, by the
-- numbers of their gets
pub record Near : Type 0 where
  pub name : List ℕ
  pub capacity : ℕ
  pub entries : List Entry
  pub waiting : List Look

abbrev pub new_near : List ℕ → ℕ → Near
new_near name capacity = record { name = name; capacity = capacity; entries = []; waiting = [] }

-- looking up

abbrev pub is_for : List ℕ → Entry → Bool
is_for key e = bytes_eq key e.key

-- the value that is kept for a key
abbrev pub hit : List ℕ → Near → Option Value
hit key n = option_map (λ e. e.value) (find (is_for key) n.entries)

abbrev pub others : List ℕ → List Entry → List Entry
others key es = filter (λ e. not (is_for key e)) es

-- a hit brings the entry to the front
abbrev pub used : List ℕ → Near → Near
used key n = record n { entries = option_map_or (λ e. e ∷ others key n.entries) (find (is_for key) n.entries) n.entries }

-- a miss opens a look-up
abbrev pub opened : ℕ → List ℕ → Near → Near
opened number key n = record n { waiting = n.waiting ++ record { number = number; key = key; overtaken = None } ∷ [] }

abbrev pub has_number : ℕ → Look → Bool
has_number number r = r.number == number

abbrev pub look_up : ℕ → Near → Option Look
look_up number n = find (has_number number) n.waiting

abbrev pub closed : ℕ → Near → Near
closed number n = record n { waiting = erased_by (has_number number) n.waiting }

-- a value is kept, in place of an older one of its key, and the least recently used entry goes where there are too many
abbrev pub kept : List ℕ → Value → Near → Near
kept key value n = record n { entries = take n.capacity (record { key = key; value = value } ∷ others key n.entries) }

-- unless the look-up was overtaken
abbrev pub filled : Look → Value → Near → Near
filled r value n = option_map_or (λ by. n) r.overtaken (kept r.key value n)

-- An answer closes its look-up; where a value can be read of it, that is what the look-up brings
abbrev pub answered : ℕ → Option Value → Near → Near
answered number None n = closed number n
answered number (Some value) n = option_map_or (λ r. closed number (filled r value n)) (look_up number n) n

abbrev pub outcome_of : Option Overtaking → Filled
outcome_of None = told.Kept
outcome_of (Some by) = told.Overtaken by.version by.number

-- what became of the value that an answer brought, where it answers a look-up
abbrev pub outcome : ℕ → Option Value → Near → Option Filled
outcome number None n = None
outcome number (Some value) n = option_map (λ r. outcome_of r.overtaken) (look_up number n)

-- dropping

abbrev pub overtaking : (List ℕ → Bool) → Overtaking → Look → Look
overtaking test by r = if test r.key then record r { overtaken = Some by } else r

-- the entries of some keys go, and their open look-ups are overtaken
abbrev pub dropping : (List ℕ → Bool) → Overtaking → Near → Near
dropping test by n = record n {
  entries = filter (λ e. not (test e.key)) n.entries;
  waiting = map (overtaking test by) n.waiting;
}

abbrev pub invalidated : List ℕ → ℕ → ℕ → Near → Near
invalidated key version number n = dropping (bytes_eq key) (record { version = version; number = number }) n

abbrev pub cleared : ℕ → ℕ → Near → Near
cleared partition version n = dropping (is_in_partition partition) (record { version = version; number = 0 }) n

-- how it is kept

abbrev pub entry_of : cache.Kept → Entry
entry_of e = record { key = e.0; value = e.1 }

abbrev pub overtaking_of : kept_overtaking.Overtaking → Overtaking
overtaking_of by = record { version = by.version; number = by.number }

abbrev pub look_of : ℕ → kept_look_up.LookUp → Look
look_of number r = record { number = number; key = r.key; overtaken = option_map overtaking_of r.overtaken }

-- an awaited answer, with its look-up in the cache
abbrev pub seen : LookUps → Awaited → Option Look
seen waiting a = option_map (look_of a.number) (get waiting a.reservation)

abbrev pub near_of : List ℕ → Cache → List Awaited → Near
near_of name c awaited = record {
  name = name;
  capacity = c.capacity;
  entries = map entry_of c.entries;
  waiting = filter_map (seen c.waiting) awaited;
}

-- The awaited look-ups are open, each another one.
abbrev pub AreOpen : LookUps → List Awaited → Type 0
AreOpen waiting [] = ⊤
AreOpen waiting (a ∷ as_) =
    IsSome (get waiting a.reservation) × AllByRecursion (λ (b : Awaited). b.reservation ≢ a.reservation) as_ × AreOpen waiting as_
