use Rattle.std.proofs.Common.{◌≡◌, Bool, length, take, Some, ap, sym, ◌∙◌, arith, rules}
use Rattle.std.specs.List.{position_from}
use Rattle.std.specs.Option.{option_or}
use Rattle.wait_sets.specs.declared.waiter.Waiter.{Waiter}
use Rattle.call_engine.specs.Env.{settings_of}
use Rattle.wait_sets.specs.Boxes.{boxed}
use Rattle.wait_sets.specs.WaitSets.{is_ready_now, is_due}
use Rattle.wait_sets.proofs.Searches.{first_within, either_found, either_none, or_none}
use Rattle.wait_sets.proofs.set.WaitSet.next_from.Goals as goal

pub first_due-requires-clause-end : goal.first_due-requires-clause-end
first_due-requires-clause-end g c =
    let within = first_within _ c.args.self.now c.in-Some.ready (sym c.in-Some.ensures) in
    omega (arith, within)

pub returns-in-Some : goal.returns-in-Some
returns-in-Some g c =
    let ready : Waiter → Bool = is_ready_now (settings_of (boxed (λ z. (goal.Processor-dyn g z).form z.1)) c.args.env.now) c.args.shelf.now c.args.now in
    c.or.ensures ∙ ap (λ r. option_or r (Some c.in-Some.ready)) c.first_due.ensures ∙ sym (either_found ready (is_due c.args.now) c.args.self.now c.in-Some.ready (sym c.in-Some.ensures))

pub returns-in-None : goal.returns-in-None
returns-in-None g c =
    let ready : Waiter → Bool = is_ready_now (settings_of (boxed (λ z. (goal.Processor-dyn g z).form z.1)) c.args.env.now) c.args.shelf.now c.args.now in
    let all : c.len.result ≡ length c.args.self.now = search rules in
    c.first_due-in-None.ensures ∙ ap (λ n. position_from (is_due c.args.now) 0 (take n c.args.self.now)) all
    ∙ sym (either_none ready (is_due c.args.now) c.args.self.now (sym c.in-None.ensures) ∙ or_none (position_from (is_due c.args.now) 0 (take (length c.args.self.now) c.args.self.now)))
