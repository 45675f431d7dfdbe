-- The messages in flight. Each pair of a sender and a taker has a link, and a message on it is named by its place, from 0.
use Rattle.std.specs.Prelude.{ℕ, zero, suc, Bool, ◌&&◌, ◌==◌, if◌then◌else◌, List, [], ◌∷◌, ◌++◌, map, filter}
use Rattle.partition_protocol.specs.Messages.{Sent, Packet}
use Rattle.partition_protocol.specs.World.{World}

-- from f and to t
abbrev pub is_on : ℕ → ℕ → Packet → Bool
is_on f t p = (p.from == f) && (p.to == t)

-- the messages on a link, in the order in which they were sent
abbrev pub link : ℕ → ℕ → List Packet → List Packet
link f t ps = filter (is_on f t) ps

-- without the message at that place of the link
abbrev pub taken_out : ℕ → ℕ → ℕ → List Packet → List Packet
taken_out f t i [] = []
taken_out f t zero (p ∷ ps) = if is_on f t p then ps else p ∷ taken_out f t zero ps
taken_out f t (suc i) (p ∷ ps) = if is_on f t p then p ∷ taken_out f t i ps else p ∷ taken_out f t (suc i) ps

-- what is sent, with its sender
abbrev pub packets_from : ℕ → List Sent → List Packet
packets_from f ss = map (λ (s : Sent). record { from = f; to = s.to; message = s.message }) ss

-- other messages in flight
abbrev pub with_packets : {C : Type 0} → World C → List Packet → World C
with_packets w ps = record w { packets = ps }

-- what is sent comes last on its link
abbrev pub sending : {C : Type 0} → World C → ℕ → List Sent → World C
sending w f ss = record w { packets = w.packets ++ packets_from f ss }
