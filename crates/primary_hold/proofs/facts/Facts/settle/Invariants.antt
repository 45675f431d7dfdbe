use Rattle.std.proofs.Common.{◌≡◌, length}
use Rattle.partition_protocol.specs.Node.{settled}
use Rattle.primary_hold.specs.Answering.{all_of}
use Rattle.primary_hold.specs.Facts.{node_of, answers_of, ring_of, member_of}
use Rattle.primary_hold.proofs.facts.Facts.settle.Given as goal

-- what was released so far would be released
abbrev pub invariant-loop-self : goal.invariant-loop-self
invariant-loop-self l = record {
  node : settled (node_of l.self) ≡ settled (node_of l.initial.self);
  answers : all_of (answers_of l.self) ≡ all_of (answers_of l.initial.self);
  ring : ring_of l.self ≡ ring_of l.initial.self;
  member : member_of l.self ≡ member_of l.initial.self;
}

abbrev pub decreases-loop-self : goal.decreases-loop-self
decreases-loop-self l = length l.self.answers.held
