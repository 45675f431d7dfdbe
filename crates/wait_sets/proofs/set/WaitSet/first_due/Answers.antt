use Rattle.std.proofs.Common.{◌≡◌, take, rules, subst}
use Rattle.wait_sets.specs.WaitSets.{is_due, NoneIsDue}
use Rattle.wait_sets.proofs.Searches.{due_before}
use Rattle.wait_sets.proofs.set.WaitSet.first_due.Goals as goal

pub loop-place-init : goal.loop-place-init
loop-place-init c =
    let same : c.args.self.now ≡ c.self.inside.waiting.items = search rules in
    due_before (is_due c.args.now) c.self.inside.waiting.items c.args.undue c.args.end (subst (λ xs. NoneIsDue c.args.now (take c.args.undue xs)) same c.requires.undue)
