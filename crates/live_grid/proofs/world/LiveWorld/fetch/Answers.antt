use Rattle.std.proofs.Common.{◌∙◌, refl, ◌≢◌, All, rules, sym, subst}
use Rattle.std.proofs.lemmas.List.Elements.{All-push}
use Rattle.primary_hold.specs.declared.answer.CallAnswer.{CallAnswer}
use Rattle.partition_world.specs.Worlds.{waiting}
use Rattle.live_grid.specs.Lives.{AreReleased}
use Rattle.live_grid.proofs.Kept.{opened, unmoved, fetched, set_aside}
use Rattle.live_grid.proofs.Popped.{still_world, replied, pushed_too}
use Rattle.live_grid.proofs.world.LiveWorld.fetch.Goals as goal

pub waiting-init : goal.waiting-init
waiting-init c = record {
  stands = λ plan history stands. stands;
  none = subst (All (λ (answer : CallAnswer). answer.id ≢ c.args.id)) (sym c.reserve.ensures.items) c.in_default.ensures.none;
  others = λ answer other there. there;
  elsewhere = λ other apart. refl;
  room = search rules;
}

pub returns-in_err-reserve-clause-others : goal.returns-in_err-reserve-clause-others
returns-in_err-reserve-clause-others c answer other there =
    opened answer (waiting c.args.self.now.world c.args.member) c.args.self.now.answers.items c.take_answer.new.answers.items c.reserve.new.self.items c.reserve.ensures.items (c.take_answer.ensures.others answer other) there

pub returns-then-eq-clause-kept : goal.returns-then-eq-clause-kept
returns-then-eq-clause-kept c plan history stands =
    let was = c.waiting.invariant.stands plan history (record { world = stands.world; answers = subst (AreReleased plan history) (sym c.reserve.ensures.items) (c.take_answer.ensures.kept plan history stands.answers) }) in record {
      world = still_world plan history c.waiting.self.world was.world c.pop_released.new.self c.pop_released.ensures.stands c.pop_released.ensures.setup;
      answers = was.answers;
    }

pub returns-then-eq-clause-replied : goal.returns-then-eq-clause-replied
returns-then-eq-clause-replied c plan history stands =
    let was = c.waiting.invariant.stands plan history (record { world = stands.world; answers = subst (AreReleased plan history) (sym c.reserve.ensures.items) (c.take_answer.ensures.kept plan history stands.answers) }) in
    replied plan history c.waiting.self.world was.world c.in-Some-pop_released.answer c.in-Some-pop_released.ensures.released c.args.id (search rules)

pub waiting-preserved : goal.waiting-preserved
waiting-preserved c = record {
  stands = λ plan history stands. (let was = c.waiting.invariant.stands plan history stands in record {
    world = still_world plan history c.waiting.self.world was.world c.pop_released.new.self c.pop_released.ensures.stands c.pop_released.ensures.setup;
    answers = subst (AreReleased plan history) (sym c.reserve-in-Some-pop_released.ensures.items)
        (pushed_too plan history c.waiting.self.world was.world c.in-Some-pop_released.answer c.in-Some-pop_released.ensures.released _ _ c.push_reserved.ensures.items was.answers);
  });
  none = subst (All (λ (answer : CallAnswer). answer.id ≢ c.args.id)) (sym c.reserve-in-Some-pop_released.ensures.items)
      (subst (All (λ (answer : CallAnswer). answer.id ≢ c.args.id)) (sym c.push_reserved.ensures.items) (All-push (λ (answer : CallAnswer). answer.id ≢ c.args.id) _ _ c.waiting.invariant.none (search rules)));
  others = λ answer other there. set_aside answer c.in-Some-pop_released.answer (waiting c.waiting.self.world c.args.member) (waiting c.pop_released.new.self c.args.member) c.waiting.self.answers.items c.push_reserved.new.self.items
      c.reserve-in-Some-pop_released.new.self.items c.in-Some-pop_released.ensures.given c.push_reserved.ensures.items c.reserve-in-Some-pop_released.ensures.items (c.waiting.invariant.others answer other there);
  elsewhere = λ other apart. c.pop_released.ensures.others other apart ∙ c.waiting.invariant.elsewhere other apart;
  room = search rules;
}

pub returns-in_err-reserve-2-clause-kept : goal.returns-in_err-reserve-2-clause-kept
returns-in_err-reserve-2-clause-kept c plan history stands =
    let was = c.waiting.invariant.stands plan history (record { world = stands.world; answers = subst (AreReleased plan history) (sym c.reserve.ensures.items) (c.take_answer.ensures.kept plan history stands.answers) }) in record {
      world = still_world plan history c.waiting.self.world was.world c.pop_released.new.self c.pop_released.ensures.stands c.pop_released.ensures.setup;
      answers = subst (AreReleased plan history) (sym c.reserve-in-Some-pop_released.ensures.items)
          (pushed_too plan history c.waiting.self.world was.world c.in-Some-pop_released.answer c.in-Some-pop_released.ensures.released _ _ c.push_reserved.ensures.items was.answers);
    }

pub returns-clause-kept : goal.returns-clause-kept
returns-clause-kept c plan history stands =
    let was = c.waiting.invariant.stands plan history (record { world = stands.world; answers = subst (AreReleased plan history) (sym c.reserve.ensures.items) (c.take_answer.ensures.kept plan history stands.answers) }) in record {
      world = still_world plan history c.waiting.self.world was.world c.pop_released.new.self c.pop_released.ensures.stands c.pop_released.ensures.setup;
      answers = was.answers;
    }

pub returns-then-eq-clause-others : goal.returns-then-eq-clause-others
returns-then-eq-clause-others c answer other there =
    let begun = opened answer (waiting c.args.self.now.world c.args.member) c.args.self.now.answers.items c.take_answer.new.answers.items c.reserve.new.self.items c.reserve.ensures.items (c.take_answer.ensures.others answer other) there in
    fetched answer c.args.id c.in-Some-pop_released.answer (waiting c.waiting.self.world c.args.member) (waiting c.pop_released.new.self c.args.member) c.waiting.self.answers.items c.in-Some-pop_released.ensures.given (search rules) other
    (c.waiting.invariant.others answer other begun)

pub returns-in_err-reserve-2-clause-others : goal.returns-in_err-reserve-2-clause-others
returns-in_err-reserve-2-clause-others c answer other there =
    let begun = opened answer (waiting c.args.self.now.world c.args.member) c.args.self.now.answers.items c.take_answer.new.answers.items c.reserve.new.self.items c.reserve.ensures.items (c.take_answer.ensures.others answer other) there in
    set_aside answer c.in-Some-pop_released.answer (waiting c.waiting.self.world c.args.member) (waiting c.pop_released.new.self c.args.member) c.waiting.self.answers.items c.push_reserved.new.self.items c.reserve-in-Some-pop_released.new.self.items
    c.in-Some-pop_released.ensures.given c.push_reserved.ensures.items c.reserve-in-Some-pop_released.ensures.items (c.waiting.invariant.others answer other begun)

pub returns-clause-others : goal.returns-clause-others
returns-clause-others c answer other there =
    let begun = opened answer (waiting c.args.self.now.world c.args.member) c.args.self.now.answers.items c.take_answer.new.answers.items c.reserve.new.self.items c.reserve.ensures.items (c.take_answer.ensures.others answer other) there in
    unmoved answer (waiting c.waiting.self.world c.args.member) (waiting c.pop_released.new.self c.args.member) c.waiting.self.answers.items c.in_default-pop_released.ensures.kept (c.waiting.invariant.others answer other begun)
