-- The messages in flight. Each ordered pair of ends has a link, and a message on it is named by its place, from 0.
use Rattle.std.specs.Prelude.{◌≡◌, ℕ, ◌+◌, ◌-◌, ◌*◌, ◌≤◌, ◌<◌, Bool, not, ◌&&◌, ◌==◌, nat_lt, nat_le, if◌then◌else◌, List, [], ◌∷◌, ◌++◌, length, map, Option, Some, None, option_and_then, slice_get}
use Rattle.std.specs.List.{find, flat_map, list_any, range_with_len}
use Rattle.link_net.specs.declared.link.Link.{Link}

-- the messages on a link in the order in which they were sent, and how many more can be sent without memory
pub record Lane : Type 0 where
  pub list : List (List ℕ)
  pub spare : ℕ

-- how many ends there are, and the lanes of their links: those from the first end, to each end in order, and then those from the next
pub record Net : Type 0 where
  pub ends : ℕ
  pub lanes : List Lane

-- where the lane between two ends stands, if both are ends
abbrev pub place_of : ℕ → ℕ → ℕ → Option ℕ
place_of ends from to = if nat_lt from ends && nat_lt to ends then Some (from * ends + to) else None

abbrev pub lane_between : Net → ℕ → ℕ → Option Lane
lane_between net from to = option_and_then (slice_get net.lanes) (place_of net.ends from to)

abbrev pub list_in : Option Lane → List (List ℕ)
list_in None = []
list_in (Some lane) = lane.list

abbrev pub spare_in : Option Lane → ℕ
spare_in None = 0
spare_in (Some lane) = lane.spare

-- the messages from one end to another; for a number that is no end there are none
abbrev pub list_of : Net → ℕ → ℕ → List (List ℕ)
list_of net from to = list_in (lane_between net from to)

abbrev pub spare_of : Net → ℕ → ℕ → ℕ
spare_of net from to = spare_in (lane_between net from to)

-- the same for each pair but one
abbrev pub except : {X : Type 0} → ℕ → ℕ → X → (ℕ → ℕ → X) → ℕ → ℕ → X
except from to x others f t = if (f == from) && (t == to) then x else others f t

-- each pair of numbers has this list
abbrev pub HasLists : Net → (ℕ → ℕ → List (List ℕ)) → Type 0
HasLists net lists = (from to : ℕ) → list_of net from to ≡ lists from to

abbrev pub HasSpares : Net → (ℕ → ℕ → ℕ) → Type 0
HasSpares net spares = (from to : ℕ) → spare_of net from to ≡ spares from to

abbrev pub LowersNoSpare : Net → Net → Type 0
LowersNoSpare old new = (from to : ℕ) → spare_of old from to ≤ spare_of new from to

abbrev pub LowersByOneAtMost : Net → Net → Type 0
LowersByOneAtMost old new = (from to : ℕ) → spare_of old from to ≤ spare_of new from to + 1

-- what of these messages goes to that end, in order
abbrev pub sent_to : ℕ → List (ℕ × List ℕ) → List (List ℕ)
sent_to to [] = []
sent_to to (m ∷ ms) = if m.0 == to then m.1 ∷ sent_to to ms else sent_to to ms

-- the messages come last on the links from one end, each on the link to whom it is for
abbrev pub with_sent : ℕ → List (ℕ × List ℕ) → (ℕ → ℕ → List (List ℕ)) → ℕ → ℕ → List (List ℕ)
with_sent from sent lists f t = lists f t ++ (if f == from then sent_to t sent else [])

-- the room on the links from one end is less by what is sent there
abbrev pub less_sent : ℕ → List (ℕ × List ℕ) → (ℕ → ℕ → ℕ) → ℕ → ℕ → ℕ
less_sent from sent spares f t = spares f t - (if f == from then length (sent_to t sent) else 0)

-- each link from that end has room for so many messages more
abbrev pub HasRoom : Net → ℕ → ℕ → Type 0
HasRoom net from extra = (to : ℕ) → from < net.ends → to < net.ends → extra ≤ spare_of net from to

-- the links between so many ends, in order of their senders and takers

abbrev pub links_from : ℕ → ℕ → List Link
links_from ends from = map (λ to. record { from = from; to = to }) (range_with_len 0 ends)

abbrev pub links_of : ℕ → List Link
links_of ends = flat_map (links_from ends) (range_with_len 0 ends)

-- the first that has a message
abbrev pub is_busy : Net → Link → Bool
is_busy net l = not (length (list_of net l.from l.to) == 0)

abbrev pub next_link : Net → Option Link
next_link net = find (is_busy net) (links_of net.ends)

-- whether one has so many messages or more
abbrev pub is_crowded : ℕ → Net → Link → Bool
is_crowded most net l = nat_le most (length (list_of net l.from l.to))

abbrev pub has_crowded_link : ℕ → Net → Bool
has_crowded_link most net = list_any (is_crowded most net) (links_of net.ends)
