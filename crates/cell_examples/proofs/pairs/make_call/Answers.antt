use Rattle.std.proofs.Common.{sym, ap, subst}
use Rattle.hand_cell.specs.declared.names.Key.TheVariants.{Call}
use Rattle.hand_cell.specs.Names.{Lacks}
use Rattle.hand_cell.proofs.Fresh.{still_new}
use Rattle.cell_examples.specs.Counting.{key_of}
use Rattle.cell_examples.proofs.pairs.make_call.Goals as goal

pub run-requires-clause-unused : goal.run-requires-clause-unused
run-requires-clause-unused g c κs = let t = c.enter-turn.ensures.turn in let p = c.args.pass in
    subst (λ es. Lacks key_of (Call c.args.call) es) (sym (ap (λ q. q.seen) t.pass)) (still_new key_of p.names (Call c.args.call) p.seen t.later c.requires.named c.requires.unused t.not_own)
