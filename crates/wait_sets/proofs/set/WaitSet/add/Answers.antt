use Rattle.std.proofs.Common.{◌≡◌, ◌++◌, ◌∷◌, [], true, rules, subst, sym}
use Rattle.std.specs.Prelude.{if◌then◌else◌}
use Rattle.wait_sets.specs.WaitSets.{wish}
use Rattle.wait_sets.specs.Runs.{AreRuns, EndsAlike}
use Rattle.wait_sets.proofs.Parts.{Opened, opened}
use Rattle.wait_sets.proofs.set.WaitSet.add.Goals as goal

pub invariant_of-self-in_err-push_back : goal.invariant_of-self-in_err-push_back
invariant_of-self-in_err-push_back c =
    let same : c.args.self.now ≡ c.self.inside.waiting.items = search rules in
    let ends : c.ends_alike-joins.result ≡ true → EndsAlike wish c.self.inside.waiting.items c.args.waiter = subst (λ xs. c.ends_alike-joins.result ≡ true → EndsAlike wish xs c.args.waiter) same c.ends_alike-joins.ensures in
    let runs : c.begin_unless.new.runs.items ≡ (if c.ends_alike-joins.result then c.self.inside.runs.items else c.self.inside.runs.items ++ 0 ∷ []) = search rules in
    let is : Opened wish c.begin_unless.new.runs.items c.self.inside.waiting.items c.args.waiter = subst (λ ms. Opened wish ms c.self.inside.waiting.items c.args.waiter) (sym runs) (opened wish c.ends_alike-joins.result _ _ _ c.self.invariant.2 ends) in
    let items : c.push_back.new.self.items ≡ c.self.inside.waiting.items = search rules in
    (search rules, search rules, subst (AreRuns wish c.begin_unless.new.runs.items) (sym items) is.runs)

pub lengthen-requires-clause-room : goal.lengthen-requires-clause-room
lengthen-requires-clause-room c =
    let same : c.args.self.now ≡ c.self.inside.waiting.items = search rules in
    let ends : c.ends_alike-joins.result ≡ true → EndsAlike wish c.self.inside.waiting.items c.args.waiter = subst (λ xs. c.ends_alike-joins.result ≡ true → EndsAlike wish xs c.args.waiter) same c.ends_alike-joins.ensures in
    let runs : c.begin_unless.new.runs.items ≡ (if c.ends_alike-joins.result then c.self.inside.runs.items else c.self.inside.runs.items ++ 0 ∷ []) = search rules in
    let is : Opened wish c.begin_unless.new.runs.items c.self.inside.waiting.items c.args.waiter = subst (λ ms. Opened wish ms c.self.inside.waiting.items c.args.waiter) (sym runs) (opened wish c.ends_alike-joins.result _ _ _ c.self.invariant.2 ends) in
    let room = is.room in
    let long = c.self.invariant.0 in
    let longer = c.in_ok-push_back.ensures.len in
    search rules

pub invariant_of-self-2 : goal.invariant_of-self-2
invariant_of-self-2 c =
    let same : c.args.self.now ≡ c.self.inside.waiting.items = search rules in
    let ends : c.ends_alike-joins.result ≡ true → EndsAlike wish c.self.inside.waiting.items c.args.waiter = subst (λ xs. c.ends_alike-joins.result ≡ true → EndsAlike wish xs c.args.waiter) same c.ends_alike-joins.ensures in
    let runs : c.begin_unless.new.runs.items ≡ (if c.ends_alike-joins.result then c.self.inside.runs.items else c.self.inside.runs.items ++ 0 ∷ []) = search rules in
    let is : Opened wish c.begin_unless.new.runs.items c.self.inside.waiting.items c.args.waiter = subst (λ ms. Opened wish ms c.self.inside.waiting.items c.args.waiter) (sym runs) (opened wish c.ends_alike-joins.result _ _ _ c.self.invariant.2 ends) in
    let items : c.push_back.new.self.items ≡ c.self.inside.waiting.items ++ c.args.waiter ∷ [] = search rules in
    (search rules, search rules, subst (AreRuns wish c.lengthen.new.runs.items) (sym items) (subst (λ ms. AreRuns wish ms (c.self.inside.waiting.items ++ c.args.waiter ∷ [])) (sym c.lengthen.ensures) is.after))
