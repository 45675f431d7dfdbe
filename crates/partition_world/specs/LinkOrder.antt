-- A partition's links in order, and those of them that have messages in flight.
use Rattle.std.specs.Prelude.{ℕ, ◌+◌, Bool, not, ◌==◌, nat_le, List, map, length, Option}
use Rattle.std.specs.List.{find, flat_map, list_any}
use Rattle.partition_protocol.specs.Messages.{Packet}
use Rattle.partition_protocol.specs.Links.{link}
use Rattle.partition_protocol.specs.Service.{numbers_below}
use Rattle.partition_protocol.specs.World.{World}
use Rattle.link_net.specs.declared.link.Link.{Link}

-- in order of their senders and takers, which are the members and the table service
abbrev pub links_from : ℕ → ℕ → List Link
links_from members from = map (λ to. record { from = from; to = to }) (numbers_below (members + 1))

abbrev pub links_of : ℕ → List Link
links_of members = flat_map (links_from members) (numbers_below (members + 1))

-- the messages in flight on a link
abbrev pub packets_on : {C : Type 0} → World C → Link → List Packet
packets_on w l = link l.from l.to w.packets

-- the first link that has a message
abbrev pub is_busy : {C : Type 0} → World C → Link → Bool
is_busy w l = not (length (packets_on w l) == 0)

abbrev pub next_link : {C : Type 0} → World C → Option Link
next_link w = find (is_busy w) (links_of w.members)

-- whether a link has so many messages or more
abbrev pub is_crowded : {C : Type 0} → ℕ → World C → Link → Bool
is_crowded most w l = nat_le most (length (packets_on w l))

abbrev pub has_crowded_link : {C : Type 0} → ℕ → World C → Bool
has_crowded_link most w = list_any (is_crowded most w) (links_of w.members)
