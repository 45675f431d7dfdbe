use Rattle.std.proofs.Common.{◌≡◌, ◌<◌, length, rules, subst, sym}
use Rattle.std.specs.List.{remove}
use Rattle.wait_sets.specs.WaitSets.{wish}
use Rattle.wait_sets.specs.Runs.{AreRuns}
use Rattle.wait_sets.proofs.Parts.{runs_shortened}
use Rattle.wait_sets.proofs.set.WaitSet.take.Goals as goal

pub invariant_of-self : goal.invariant_of-self
invariant_of-self c =
    let there : c.args.place < length c.self.inside.waiting.items = search rules in
    let left : c.remove.new.self.items ≡ remove c.self.inside.waiting.items c.args.place = search rules in
    let runs = runs_shortened wish c.self.inside.runs.items c.self.inside.waiting.items c.args.place there c.self.invariant.2 in
    (search rules, search rules, subst (AreRuns wish c.shorten.new.runs.items) (sym left) (subst (λ ns. AreRuns wish ns (remove c.self.inside.waiting.items c.args.place)) (sym c.shorten.ensures) runs))
