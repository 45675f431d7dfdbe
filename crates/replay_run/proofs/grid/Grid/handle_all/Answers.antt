use Rattle.std.proofs.Common.{rules, ◌+◌, ◌<◌, ◌∙◌, [], ◌∷◌, ◌++◌, Err, Some, refl, ap, sym, subst, length, drop}
use Rattle.std.specs.Int.{w64}
use Rattle.std.specs.Int.RustNames.{FitsSigned}
use Rattle.std.proofs.lemmas.Int.{to_z-of_z}
use Rattle.session_core.specs.declared.item.Item.{Item}
use Rattle.session_core.specs.declared.item.Item.TheVariants.{Call as Asks, Wait, Register, Reply}
use Rattle.replay_run.specs.Runs.{messages_on}
use Rattle.replay_run.specs.Grids.{IsCounting, AreListening}
use Rattle.replay_run.specs.WorldCalls.{Brings}
use Rattle.replay_run.specs.declared.run_end.RunEnd.TheVariants.{InFlight}
use Rattle.replay_run.proofs.Asking.{handed_on}
use Rattle.replay_run.proofs.LineCalls.{at_next_as, at_end, next_between, next_call, next_count, reached_now, to_now, to_as, registered_on, registered_one_more, handled_as, given_up_as, told_on, told_one_more, may_ask, asked_one_more, asked_full, may_wait_next, waited_one_more, waited_full}
use Rattle.replay_run.proofs.grid.Grid.handle_all.Goals as goal

-- A call that comes next may be handled.

pub ask-requires : goal.ask-requires
ask-requires g c =
    let gives = c.into_iter-item-iterator.ensures.into_iter_gives in
    let split = at_next_as c.into_iter-item-iterator.result c.args.items.items gives.0 (gives.1 ∙ c.args.items.ok.0) c.loop-item.yielded c.loop-item.item-iterator c.loop-item.yielded_by c.next.result c.next.new.self c.next.ensures.steps c.in-Some.item (Asks c.in-Call.request) c.in-Some.is c.in-Call.is in
    let so_far = c.loop-item.invariant c.requires.0 c.requires.1 c.requires.2 c.requires.3 c.requires.4 c.requires.6 c.requires.7 c.requires.5 in
    let may = may_ask c.loop-item.self c.requires.1 c.requires.2 c.requires.3 c.loop-item.yielded c.in-Call.request (drop (length c.loop-item.yielded + 1) c.args.items.items) (subst (Brings c.requires.0 c.requires.1 c.requires.2 c.requires.3) split c.requires.4) c.args.out.now.items c.loop-item.out.items so_far c.args.member c.requires.7 c.requires.8 c.requires.9 in
    record { limits = may.fits; placed = may.placed; member = may.reached; stands = may.stands }

pub wait-requires : goal.wait-requires
wait-requires g c =
    let gives = c.into_iter-item-iterator.ensures.into_iter_gives in
    let split = at_next_as c.into_iter-item-iterator.result c.args.items.items gives.0 (gives.1 ∙ c.args.items.ok.0) c.loop-item.yielded c.loop-item.item-iterator c.loop-item.yielded_by c.next.result c.next.new.self c.next.ensures.steps c.in-Some.item (Wait c.in-Wait.request c.in-Wait.timeout) c.in-Some.is c.in-Wait.is in
    let so_far = c.loop-item.invariant c.requires.0 c.requires.1 c.requires.2 c.requires.3 c.requires.4 c.requires.6 c.requires.7 c.requires.5 in
    let may = may_wait_next c.loop-item.self c.requires.1 c.requires.2 c.requires.3 c.loop-item.yielded c.in-Wait.request c.in-Wait.timeout (drop (length c.loop-item.yielded + 1) c.args.items.items) (subst (Brings c.requires.0 c.requires.1 c.requires.2 c.requires.3) split c.requires.4) c.args.out.now.items c.loop-item.out.items so_far c.args.member c.requires.7 c.in-Wait.timeout refl c.requires.8 c.requires.9 in
    record { limits = may.fits; placed = may.placed; member = may.reached; stands = may.stands }

-- The session answered the item itself.
pub loop-item-preserved-in-Continue-1 : goal.loop-item-preserved-in-Continue-1
loop-item-preserved-in-Continue-1 g c = λ settings r k bytes all_brings of_conn of_member begun.
    let gives = c.into_iter-item-iterator.ensures.into_iter_gives in
    let answer = c.in-Reply.answer in
    let done = c.loop-item.yielded in
    let split = at_next_as c.into_iter-item-iterator.result c.args.items.items gives.0 (gives.1 ∙ c.args.items.ok.0) c.loop-item.yielded c.loop-item.item-iterator c.loop-item.yielded_by c.next.result c.next.new.self c.next.ensures.steps c.in-Some.item (Reply answer) c.in-Some.is c.in-Reply.is in
    let so_far = c.loop-item.invariant settings r k bytes all_brings of_conn of_member begun in
    let number = length (messages_on k) + length done in
    handled_as (ap (λ (x : Item). done ++ x ∷ []) c.in-Reply.is)
    (told_one_more c.loop-item.self r k bytes done answer (drop (length c.loop-item.yielded + 1) c.args.items.items) (subst (Brings settings r k bytes) split all_brings) c.args.out.now.items c.loop-item.out.items so_far c.tell.new.self c.tell.new.out.items
    (told_on of_conn
    (c.in_ok-tell-in-Reply.ensures settings so_far.now number so_far.holds (subst (λ n. AreListening c.loop-item.self.listeners.items so_far.now (Some n)) of_conn so_far.listeners) (subst (λ n. IsCounting c.loop-item.self.connections so_far.now n number) of_conn so_far.counting))))

-- The item is a registration.
pub register-requires-clause-member : goal.register-requires-clause-member
register-requires-clause-member g c =
    let gives = c.into_iter-item-iterator.ensures.into_iter_gives in
    let item : Item = Register c.in-Register.registration in
    let done = c.loop-item.yielded in
    let split = at_next_as c.into_iter-item-iterator.result c.args.items.items gives.0 (gives.1 ∙ c.args.items.ok.0) done c.loop-item.item-iterator c.loop-item.yielded_by c.next.result c.next.new.self c.next.ensures.steps c.in-Some.item item c.in-Some.is c.in-Register.is in
    let so_far = c.loop-item.invariant c.requires.0 c.requires.1 c.requires.2 c.requires.3 c.requires.4 c.requires.6 c.requires.7 c.requires.5 in
    subst (λ m. m < c.loop-item.self.members) c.requires.7
    (reached_now c.loop-item.self c.requires.1 c.requires.2 c.requires.3 done item (drop (length done + 1) c.args.items.items) (subst (Brings c.requires.0 c.requires.1 c.requires.2 c.requires.3) split c.requires.4) c.args.out.now.items c.loop-item.out.items so_far)

pub register-requires-clause-stands : goal.register-requires-clause-stands
register-requires-clause-stands g c =
    let k = c.requires.2 in
    let so_far = c.loop-item.invariant c.requires.0 c.requires.1 c.requires.2 c.requires.3 c.requires.4 c.requires.6 c.requires.7 c.requires.5 in
    let number = length (messages_on k) + length c.loop-item.yielded in (
      c.requires.0,
      so_far.now,
      number,
      so_far.holds,
      subst (λ n. AreListening c.loop-item.self.listeners.items so_far.now (Some n)) c.requires.6 so_far.listeners,
      subst (λ n. IsCounting c.loop-item.self.connections so_far.now n number) c.requires.6 so_far.counting,
    )

pub loop-item-preserved-in-Continue-branch-3 : goal.loop-item-preserved-in-Continue-branch-3
loop-item-preserved-in-Continue-branch-3 g c = λ settings r k bytes all_brings of_conn of_member begun.
    let gives = c.into_iter-item-iterator.ensures.into_iter_gives in
    let registration = c.in-Register.registration in
    let item : Item = Register registration in
    let done = c.loop-item.yielded in
    let rest = drop (length done + 1) c.args.items.items in
    let grid = c.loop-item.self in
    let split = at_next_as c.into_iter-item-iterator.result c.args.items.items gives.0 (gives.1 ∙ c.args.items.ok.0) done c.loop-item.item-iterator c.loop-item.yielded_by c.next.result c.next.new.self c.next.ensures.steps c.in-Some.item item c.in-Some.is c.in-Register.is in
    let so_far = c.loop-item.invariant settings r k bytes all_brings of_conn of_member begun in
    let brings = subst (Brings settings r k bytes) split all_brings in
    let number = length (messages_on k) + length done in
    let to = to_now grid r k bytes done item rest brings c.args.out.now.items c.loop-item.out.items so_far in
    handled_as (ap (λ (x : Item). done ++ x ∷ []) c.in-Register.is)
    (registered_one_more grid r k bytes done registration rest brings c.args.out.now.items c.loop-item.out.items so_far c.register.new.self c.register.new.out.items
    (registered_on of_conn of_member
    (c.in_ok-register-in-Register.ensures settings so_far.now number so_far.holds (to_as of_conn of_member to)
    (subst (λ n. AreListening grid.listeners.items so_far.now (Some n)) of_conn so_far.listeners) (subst (λ n. IsCounting grid.connections so_far.now n number) of_conn so_far.counting))))

-- The item is a call, which is made,
pub loop-item-preserved : goal.loop-item-preserved
loop-item-preserved g c = λ settings r k bytes all_brings of_conn of_member begun.
    let gives = c.into_iter-item-iterator.ensures.into_iter_gives in
    let grid = c.loop-item.self in
    let done = c.loop-item.yielded in
    let q = c.in-Call.request in
    let item : Item = Asks q in
    let rest = drop (length done + 1) c.args.items.items in
    let split = at_next_as c.into_iter-item-iterator.result c.args.items.items gives.0 (gives.1 ∙ c.args.items.ok.0) c.loop-item.yielded c.loop-item.item-iterator c.loop-item.yielded_by c.next.result c.next.new.self c.next.ensures.steps c.in-Some.item item c.in-Some.is c.in-Call.is in
    let so_far = c.loop-item.invariant settings r k bytes all_brings of_conn of_member begun in
    let brings = subst (Brings settings r k bytes) split all_brings in
    let written = c.args.out.now.items in
    let mid = c.loop-item.out.items in
    handled_as (ap (λ (x : Item). done ++ x ∷ []) c.in-Call.is)
    (asked_one_more grid r k bytes done q rest brings written mid so_far c.args.member of_member c.ask.new.self c.ask.new.out.items
    (c.in_ok-ask-in-Call.ensures.ok settings so_far.now (next_between grid r k bytes done item q refl rest brings written mid so_far) (next_call grid r k bytes done item q refl rest brings written mid so_far) (next_count grid r k bytes done item q refl rest brings written mid so_far)))

-- or which waits.
pub loop-item-preserved-in-Continue-branch-2 : goal.loop-item-preserved-in-Continue-branch-2
loop-item-preserved-in-Continue-branch-2 g c = λ settings r k bytes all_brings of_conn of_member begun.
    let gives = c.into_iter-item-iterator.ensures.into_iter_gives in
    let grid = c.loop-item.self in
    let done = c.loop-item.yielded in
    let fits : FitsSigned w64 c.in-Wait.timeout = search rules in
    let q = c.in-Wait.request in
    let item : Item = Wait q c.in-Wait.timeout in
    let rest = drop (length done + 1) c.args.items.items in
    let split = at_next_as c.into_iter-item-iterator.result c.args.items.items gives.0 (gives.1 ∙ c.args.items.ok.0) c.loop-item.yielded c.loop-item.item-iterator c.loop-item.yielded_by c.next.result c.next.new.self c.next.ensures.steps c.in-Some.item item c.in-Some.is c.in-Wait.is in
    let so_far = c.loop-item.invariant settings r k bytes all_brings of_conn of_member begun in
    let brings = subst (Brings settings r k bytes) split all_brings in
    let written = c.args.out.now.items in
    let mid = c.loop-item.out.items in
    handled_as (ap (λ (x : Item). done ++ x ∷ []) c.in-Wait.is)
    (waited_one_more grid r k bytes done q c.in-Wait.timeout rest brings written mid so_far c.args.member of_member _ (to_z-of_z w64 c.in-Wait.timeout fits) c.wait.new.self c.wait.new.out.items
    (c.in_ok-wait-in-Wait.ensures.ok settings so_far.now (next_between grid r k bytes done item q refl rest brings written mid so_far) (next_call grid r k bytes done item q refl rest brings written mid so_far) (next_count grid r k bytes done item q refl rest brings written mid so_far)))

-- One meets a full partition.

pub returns-in_err-ask-in-Call-clause-full : goal.returns-in_err-ask-in-Call-clause-full
returns-in_err-ask-in-Call-clause-full g c = λ settings r k bytes all_brings of_conn of_member begun fails.
    let gives = c.into_iter-item-iterator.ensures.into_iter_gives in
    let grid = c.loop-item.self in
    let done = c.loop-item.yielded in
    let q = c.in-Call.request in
    let item : Item = Asks q in
    let rest = drop (length done + 1) c.args.items.items in
    let split = at_next_as c.into_iter-item-iterator.result c.args.items.items gives.0 (gives.1 ∙ c.args.items.ok.0) c.loop-item.yielded c.loop-item.item-iterator c.loop-item.yielded_by c.next.result c.next.new.self c.next.ensures.steps c.in-Some.item item c.in-Some.is c.in-Call.is in
    let so_far = c.loop-item.invariant settings r k bytes all_brings of_conn of_member begun in
    let brings = subst (Brings settings r k bytes) split all_brings in
    let written = c.args.out.now.items in
    let mid = c.loop-item.out.items in
    let why = handed_on c.from_residual-in_err-ask-in-Call.result c.in_err-ask-in-Call.field-0.0 InFlight c.from_residual-in_err-ask-in-Call.ensures.1 fails in
    given_up_as split
    (asked_full grid r k bytes done q rest brings written mid so_far c.args.member of_member
    (c.ask.ensures.full settings so_far.now (next_between grid r k bytes done item q refl rest brings written mid so_far) (next_call grid r k bytes done item q refl rest brings written mid so_far) (next_count grid r k bytes done item q refl rest brings written mid so_far) (c.in_err-ask-in-Call.was ∙ ap Err why)))

pub returns-in_err-wait-in-Wait-clause-full : goal.returns-in_err-wait-in-Wait-clause-full
returns-in_err-wait-in-Wait-clause-full g c = λ settings r k bytes all_brings of_conn of_member begun fails.
    let gives = c.into_iter-item-iterator.ensures.into_iter_gives in
    let grid = c.loop-item.self in
    let done = c.loop-item.yielded in
    let fits : FitsSigned w64 c.in-Wait.timeout = search rules in
    let q = c.in-Wait.request in
    let item : Item = Wait q c.in-Wait.timeout in
    let rest = drop (length done + 1) c.args.items.items in
    let split = at_next_as c.into_iter-item-iterator.result c.args.items.items gives.0 (gives.1 ∙ c.args.items.ok.0) c.loop-item.yielded c.loop-item.item-iterator c.loop-item.yielded_by c.next.result c.next.new.self c.next.ensures.steps c.in-Some.item item c.in-Some.is c.in-Wait.is in
    let so_far = c.loop-item.invariant settings r k bytes all_brings of_conn of_member begun in
    let brings = subst (Brings settings r k bytes) split all_brings in
    let written = c.args.out.now.items in
    let mid = c.loop-item.out.items in
    let why = handed_on c.from_residual-in_err-wait-in-Wait.result c.in_err-wait-in-Wait.field-0.0 InFlight c.from_residual-in_err-wait-in-Wait.ensures.1 fails in
    given_up_as split
    (waited_full grid r k bytes done q c.in-Wait.timeout rest brings written mid so_far c.args.member of_member _ (to_z-of_z w64 c.in-Wait.timeout fits)
    (c.wait.ensures.full settings so_far.now (next_between grid r k bytes done item q refl rest brings written mid so_far) (next_call grid r k bytes done item q refl rest brings written mid so_far) (next_count grid r k bytes done item q refl rest brings written mid so_far) (c.in_err-wait-in-Wait.was ∙ ap Err why)))

pub returns-clause-ok : goal.returns-clause-ok
returns-clause-ok g c = λ settings r k bytes brings of_conn of_member begun.
    let gives = c.into_iter-item-iterator.ensures.into_iter_gives in
    let whole = at_end c.into_iter-item-iterator.result c.args.items.items gives.0 (gives.1 ∙ c.args.items.ok.0) c.loop-item.yielded c.loop-item.item-iterator c.loop-item.yielded_by c.next.result c.next.new.self c.next.ensures.steps c.in-None.is in
    handled_as (sym whole) (c.loop-item.invariant settings r k bytes brings of_conn of_member begun)
