use Rattle.std.proofs.Common.{◌≡◌, ℕ, ◌≤◌, Bool, length, take, position, Option, Some, None, sym, ◌∙◌, subst}
use Rattle.std.proofs.lemmas.List.Quantifiers.{position-Some}
use Rattle.call_engine.specs.Calls.{Settings}
use Rattle.call_engine.specs.Env.{settings_of}
use Rattle.wait_sets.specs.declared.waiter.Waiter.{Waiter}
use Rattle.wait_sets.specs.Boxes.{boxed}
use Rattle.wait_sets.specs.WaitSets.{is_its_turn, NoneIsDue}
use Rattle.wait_sets.specs.Laws.{StayUndue}
use Rattle.wait_sets.specs.Turns.{AreUndue}
use Rattle.wait_sets.proofs.Looks.{all_undue, left_undue}
use Rattle.wait_sets.proofs.list.WaitList.take_next.Goals as goal

pub invariant_of-self : goal.invariant_of-self
invariant_of-self g c =
    let settings : Settings = settings_of (boxed (λ z. (goal.Processor-dyn g z).form z.1)) c.args.env.now in
    let next : Option ℕ = position (is_its_turn settings c.args.shelf.now c.args.now) c.self.inside.set in
    let none : next ≡ None = sym c.next_from.ensures ∙ c.in_default.is in
    let stays : StayUndue c.args.now c.self.inside.set next = c.every_look_says_who_is_undue.ensures settings c.args.shelf.now c.args.now c.self.inside.set in
    subst (λ n. AreUndue (Some c.args.now) n c.self.inside.set) (sym c.len-self-inside.ensures) (all_undue c.args.now c.self.inside.set next none stays)

pub invariant_of-self-2 : goal.invariant_of-self-2
invariant_of-self-2 g c =
    let settings : Settings = settings_of (boxed (λ z. (goal.Processor-dyn g z).form z.1)) c.args.env.now in
    let turn : Waiter → Bool = is_its_turn settings c.args.shelf.now c.args.now in
    let one : position turn c.self.inside.set ≡ Some c.in-Some.place = sym c.next_from.ensures ∙ c.in-Some.is in
    let there = position-Some turn c.self.inside.set c.in-Some.place c.take-waiter.result one in
    let stays : StayUndue c.args.now c.self.inside.set (position turn c.self.inside.set) = c.every_look_says_who_is_undue.ensures settings c.args.shelf.now c.args.now c.self.inside.set in
    let left = c.undue_without-self-inside in
    subst (λ ws. AreUndue (Some c.args.now) left.result ws) (sym c.take-waiter.ensures.others)
    (left_undue c.args.now c.known_undue-undue.result c.in-Some.place left.result c.self.inside.set (position turn c.self.inside.set) one there.0 stays
    (subst (λ ws. c.known_undue-undue.result ≤ length ws) (sym c.self.view_is) c.known_undue-undue.ensures.few)
    (subst (λ ws. NoneIsDue c.args.now (take c.known_undue-undue.result ws)) (sym c.self.view_is) c.known_undue-undue.ensures.none)
    left.ensures.among left.ensures.behind)
