-- What a member knows and keeps beside its contents, in the protocol's words.
use Rattle.std.specs.Prelude.{ℕ, List, map}
use Rattle.partition_protocol.specs.Node.{Node}
use Rattle.primary_hold.specs.declared.facts.Facts.{Facts}
use Rattle.primary_hold.specs.Answering.{Answering, answering_of, held_of}

abbrev pub node_of : Facts → Node
node_of facts = record {
  known = facts.known;
  pair = facts.pair;
  opening = facts.opening;
  acks = facts.acks.list;
  earlier = facts.earlier;
  recent = facts.recent;
  adopted = facts.adopted;
  frozen = facts.frozen;
  held = map held_of facts.answers.held;
}

abbrev pub member_of : Facts → ℕ
member_of facts = facts.member

abbrev pub answers_of : Facts → Answering
answers_of facts = answering_of facts.answers

-- the newest effects of a primary, the oldest first
abbrev pub ring_of : Facts → List (List ℕ)
ring_of facts = facts.effects.items
