use Rattle.std.proofs.Common.{◌≡◌, ◌++◌, take, drop, vec_capacity}
use Rattle.partition_protocol.specs.Node.{acked_by, with_ack}
use Rattle.primary_hold.proofs.acks.keep_in.Given as goal

-- the acknowledgements before the place are of others
abbrev pub invariant-loop-place : goal.invariant-loop-place
invariant-loop-place l = record {
  same : l.acks.items ≡ l.initial.acks.items;
  capacity : vec_capacity l.acks ≡ vec_capacity l.initial.acks;
  kept : with_ack l.member l.count l.acks.items ≡ take l.place l.acks.items ++ with_ack l.member l.count (drop l.place l.acks.items);
  others : acked_by l.member l.acks.items ≡ acked_by l.member (drop l.place l.acks.items);
}
