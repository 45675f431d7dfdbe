-- What was appended, and the fragments of the frames that are left, are the fragments of the whole.
use Rattle.std.proofs.Common.{◌≡◌, ℕ, ◌++◌, List, All, length, flat_map, true}
use Rattle.frame_codec.specs.Laws.{IsWithinLimits}
use Rattle.message_frames.specs.Grammar.{piece_bytes}
use Rattle.message_frames.specs.Writing.{packed, chain_from}
use Rattle.message_frames.proofs.writing.write_chain.Given as goal

abbrev pub invariant-loop-rest : goal.invariant-loop-rest
invariant-loop-rest l = record {
  limits : All IsWithinLimits l.rest;
  appended : (written : List ℕ) × (l.out.items ≡ l.fn.out.items ++ written)
      × (written ++ flat_map piece_bytes (chain_from l.id l.first (packed l.size l.rest)) ≡ flat_map piece_bytes (chain_from l.id true (packed l.size l.frames)));
}

abbrev pub decreases-loop-rest : goal.decreases-loop-rest
decreases-loop-rest l = length l.rest
