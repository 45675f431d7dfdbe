use Rattle.std.proofs.Common.{◌≡◌, ◌+◌, ◌≤◌, true, false, length, take, drop, sym, ◌∙◌, ap, subst, arith, vec_len, vec_capacity}
use Rattle.std.proofs.lemmas.List.{length-map}
use Rattle.message_frames.specs.Turns.{turned, is_failing, after_all, HasRoom, HaveRoom}
use Rattle.message_frames.specs.Lists.{rooms_in}
use Rattle.message_frames.specs.declared.control.Control.{Control}
use Rattle.message_frames.proofs.Planning.{planned_more, planned_to_fault, failing_stays, frames_with, frames_around, turn_lists}
use Rattle.message_frames.proofs.Rooms.{got_room_twice}
use Rattle.message_frames.proofs.assembler.plan.Goals as goal
use Rattle.message_frames.proofs.assembler.plan.Goals.{Then-is_failing}

abbrev Planned : Then-is_failing → Control → Type 0
Planned c after = HaveRoom c.args.shortest (rooms_in c.loop-new.lists.items) c.args.frames.now c.args.control.now × (after ≡ after_all c.args.shortest c.args.frames.now c.args.control.now)

-- what was planned up to the frame that fails
stopped : (c : Then-is_failing) → Planned c c.loop-new.after
stopped c =
    let fails : is_failing (turned c.args.shortest c.new-item.result c.loop-new.after).turn ≡ true = ap is_failing (sym c.next-turn.ensures.turn) ∙ sym c.is_failing.ensures ∙ c.if-is_failing.true in
    subst (λ frames. HaveRoom c.args.shortest (rooms_in c.loop-new.lists.items) frames c.args.control.now × (c.loop-new.after ≡ after_all c.args.shortest frames c.args.control.now))
    (frames_around c.args.frames.now c.loop-new.new-index c.new-item.result (omega arith) c.new-item.is)
    (planned_to_fault c.args.shortest (rooms_in c.loop-new.lists.items) (take c.loop-new.new-index c.args.frames.now) c.args.control.now c.loop-new.after c.new-item.result
    c.loop-new.invariant.planned (drop (c.loop-new.new-index + 1) c.args.frames.now) fails)

pub returns-then-is_failing-clause-after : goal.returns-then-is_failing-clause-after
returns-then-is_failing-clause-after c =
    let fails : is_failing (turned c.args.shortest c.new-item.result c.loop-new.after).turn ≡ true = ap is_failing (sym c.next-turn.ensures.turn) ∙ sym c.is_failing.ensures ∙ c.if-is_failing.true in
    c.next-turn.ensures.after ∙ failing_stays c.args.shortest c.new-item.result c.loop-new.after fails ∙ (stopped c).1

pub returns-then-is_failing-clause-room : goal.returns-then-is_failing-clause-room
returns-then-is_failing-clause-room c = (stopped c).0

pub make_room-requires-clause-one_more : goal.make_room-requires-clause-one_more
make_room-requires-clause-one_more c =
    let lists = turn_lists c.args.shortest c.new-item.result c.loop-new.after c.loop-new.invariant.planned.sound in
    let enough : c.loop-new.after.lists ≤ vec_len c.loop-new.lists = omega (arith, c.loop-new.invariant.planned.count, length-map c.loop-new.lists.items vec_capacity, c.loop-new.lists.ok) in
    rw c.next-turn.ensures.after (omega (arith, lists.0, enough))

pub make_room-requires-clause-below : goal.make_room-requires-clause-below
make_room-requires-clause-below c =
    rw (c.next-turn.ensures.after, c.next-turn.ensures.turn) ((turn_lists c.args.shortest c.new-item.result c.loop-new.after c.loop-new.invariant.planned.sound).1)

pub loop-new-preserved : goal.loop-new-preserved
loop-new-preserved c =
    let on : is_failing (turned c.args.shortest c.new-item.result c.loop-new.after).turn ≡ false = ap is_failing (sym c.next-turn.ensures.turn) ∙ sym c.is_failing.ensures ∙ c.if-is_failing.false in
    let got = c.in_ok-make_room.ensures.same in
    let longer : length (rooms_in c.loop-new.lists.items) ≤ length (rooms_in c.make_room.new.lists.items) =
    omega (arith, got.count, length-map c.loop-new.lists.items vec_capacity, length-map c.make_room.new.lists.items vec_capacity) in
    let enough : (turned c.args.shortest c.new-item.result c.loop-new.after).after.lists ≤ length (rooms_in c.make_room.new.lists.items) =
    subst (λ (after : Control). after.lists ≤ length (rooms_in c.make_room.new.lists.items)) c.next-turn.ensures.after
    (omega (arith, c.in_ok-make_room.ensures.count, length-map c.make_room.new.lists.items vec_capacity, c.make_room.new.lists.ok)) in
    let room : HasRoom (rooms_in c.make_room.new.lists.items) (turned c.args.shortest c.new-item.result c.loop-new.after).turn =
    subst (λ turn. HasRoom (rooms_in c.make_room.new.lists.items) turn) c.next-turn.ensures.turn c.in_ok-make_room.ensures.room in
    record {
      planned =
          rw (frames_with c.args.frames.now c.loop-new.new-index c.new-item.result (omega arith) c.new-item.is, c.next-turn.ensures.after)
          (planned_more c.args.shortest (rooms_in c.loop-new.lists.items) (take c.loop-new.new-index c.args.frames.now) c.args.control.now c.loop-new.after c.new-item.result
          c.loop-new.invariant.planned (rooms_in c.make_room.new.lists.items) on longer got.rooms enough room);
      same = got_room_twice _ _ _ c.loop-new.invariant.same got;
    }
