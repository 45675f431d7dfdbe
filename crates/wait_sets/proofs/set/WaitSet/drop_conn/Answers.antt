use Rattle.std.proofs.Common.{◌≡◌, Bool, filter, not, rules, subst, sym, ◌∙◌, ap}
use Rattle.std.specs.Prelude.{nat_lt}
use Rattle.std.proofs.lemmas.Fn.{filter_same}
use Rattle.wait_sets.specs.declared.waiter.Waiter.{Waiter}
use Rattle.wait_sets.specs.WaitSets.{is_of, wish}
use Rattle.wait_sets.specs.Runs.{AreRuns, stayed}
use Rattle.wait_sets.proofs.Parts.{runs_stayed, runs_of_some}
use Rattle.wait_sets.proofs.set.WaitSet.drop_conn.Goals as goal

pub invariant_of-self : goal.invariant_of-self
invariant_of-self c =
    let stays : Waiter → Bool = λ waiter. not (is_of c.args.conn waiter) in
    let left : c.retain.new.self.items ≡ filter stays c.self.inside.waiting.items = filter_same _ stays _ (λ x b f' k. search rules) c.self.inside.waiting.items c.retain.new.self.items c.retain.ensures.filtered in
    let some : c.retain-2.new.self.items ≡ filter (λ n. nat_lt 0 n) c.keep_others.new.runs.items = filter_same _ (λ n. nat_lt 0 n) _ (λ x b f' k. search rules) c.keep_others.new.runs.items c.retain-2.new.self.items c.retain-2.ensures.filtered in
    let runs = runs_of_some wish (stayed stays c.self.inside.runs.items c.self.inside.waiting.items) (filter stays c.self.inside.waiting.items) (runs_stayed wish stays c.self.inside.runs.items c.self.inside.waiting.items c.self.invariant.2) in
    let kept : c.retain-2.new.self.items ≡ filter (λ n. nat_lt 0 n) (stayed stays c.self.inside.runs.items c.self.inside.waiting.items) = some ∙ ap (filter (λ n. nat_lt 0 n)) c.keep_others.ensures in
    (search rules, search rules, subst (AreRuns wish c.retain-2.new.self.items) (sym left) (subst (λ ns. AreRuns wish ns (filter stays c.self.inside.waiting.items)) (sym kept) runs))

pub returns : goal.returns
returns c =
    let same : c.args.self.now ≡ c.self.inside.waiting.items = search rules in
    filter_same _ (λ waiter. not (is_of c.args.conn waiter)) _ (λ x b f' k. search rules) _ _ c.retain.ensures.filtered ∙ ap (filter (λ waiter. not (is_of c.args.conn waiter))) (sym same)
