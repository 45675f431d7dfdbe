use Rattle.std.proofs.Common.{◌≡◌, List, [], ◌∷◌, ◌++◌, length, Some, ℕ, ◌+◌, ◌≤◌, refl, vec_len, vec_capacity, sym, ◌∙◌, ap, subst, arith}
use Rattle.std.proofs.lemmas.List.{length-map}
use Rattle.std.specs.Global.{Vec}
use Rattle.std.specs.Vec.Iter.{into_iter_items}
use Rattle.frame_codec.specs.declared.frames.Frame.{Frame}
use Rattle.message_frames.specs.declared.message.Message.{Message}
use Rattle.message_frames.specs.declared.assembler.Way.{Way}
use Rattle.message_frames.specs.declared.assembler.Way.TheVariants.{Apart}
use Rattle.message_frames.proofs.Backward.{IsTracked, apart, joined, joined_count, way_below, tracked_more, tracked_to_fault}
use Rattle.message_frames.specs.Assembly.{Assembled, assembled}
use Rattle.message_frames.specs.Turns.{Turned, turned, after_all}
use Rattle.message_frames.specs.Lists.{list_at, frames_in, assembly_of, IsSound, ended, given}
use Rattle.message_frames.specs.Tracks.{held_in, way_to}
use Rattle.frame_codec.specs.declared.malformed.Malformed.{Malformed}
use Rattle.message_frames.specs.declared.control.Control.{Control}
use Rattle.message_frames.specs.declared.control.Ending.{Ending}
use Rattle.message_frames.specs.declared.control.Turn.TheVariants.{Fails, Joins}
use Rattle.message_frames.proofs.Assembling.{IsUnderWay, CanJoin, stops, heads_on, joins_on, can_join}
use Rattle.message_frames.proofs.assembler.assemble.Goals as goal
use Rattle.message_frames.proofs.assembler.assemble.Goals.{In-Some}

abbrev whole : In-Some → Assembled
whole c = assembled c.args.shortest c.args.frames.items (assembly_of c.args.control.now (frames_in c.args.lists.now.items))

abbrev end : In-Some → Control
end c = after_all c.args.shortest c.args.frames.items c.args.control.now

-- the frame that was taken, and those after it
under_way : (c : In-Some) → IsUnderWay c.args.shortest c.args.messages.now.items (whole c) (end c) c.loop-new.control c.loop-new.lists.items c.loop-new.messages (c.in-Some.new ∷ into_iter_items c.next.new.self)
under_way c =
    subst (λ rest. IsUnderWay c.args.shortest c.args.messages.now.items (whole c) (end c) c.loop-new.control c.loop-new.lists.items c.loop-new.messages rest)
    c.in-Some.ensures.items c.loop-new.invariant.forward

-- where those before it went
tracked : (c : In-Some) → IsTracked c.args.frames.items (c.in-Some.new ∷ into_iter_items c.next.new.self) (held_in c.args.lists.now.items c.args.messages.now.items) (length c.args.lists.now.items)
    (held_in c.loop-new.lists.items c.loop-new.messages.items) (length c.loop-new.lists.items) c.loop-new.track
tracked c =
    subst (λ rest. IsTracked c.args.frames.items rest (held_in c.args.lists.now.items c.args.messages.now.items) (length c.args.lists.now.items)
    (held_in c.loop-new.lists.items c.loop-new.messages.items) (length c.loop-new.lists.items) c.loop-new.track)
    c.in-Some.ensures.items c.loop-new.invariant.tracked

-- it joins no list
tracked_apart : (c : In-Some) (more : Vec Way) → more.items ≡ c.loop-new.track.items ++ Apart c.in-Some.new.frame ∷ [] → vec_len more ≡ vec_len c.loop-new.track + 1 → vec_capacity more ≡ vec_capacity c.loop-new.track →
    IsTracked c.args.frames.items (into_iter_items c.next.new.self) (held_in c.args.lists.now.items c.args.messages.now.items) (length c.args.lists.now.items)
    (held_in c.loop-new.lists.items c.loop-new.messages.items) (length c.loop-new.lists.items) more
tracked_apart c more items len capacity =
    let now = held_in c.loop-new.lists.items c.loop-new.messages.items in
    tracked_more c.args.frames.items (into_iter_items c.next.new.self) c.in-Some.new (held_in c.args.lists.now.items c.args.messages.now.items) (length c.args.lists.now.items) now now
    (length c.loop-new.lists.items) (length c.loop-new.lists.items) c.loop-new.track more (Apart c.in-Some.new.frame) (tracked c) (apart now c.in-Some.new.frame) refl tt items len capacity

-- the control's turn of it
abbrev turn : In-Some → Turned
turn c = turned c.args.shortest c.in-Some.new c.loop-new.control

stopped : (c : In-Some) (fault : Malformed) → (turn c).turn ≡ Fails fault →
    (c.args.messages.now.items ++ (whole c).messages ≡ c.loop-new.messages.items) × ((whole c).fault ≡ Some fault) × ((whole c).after ≡ assembly_of c.loop-new.control (frames_in c.loop-new.lists.items))
    × (end c ≡ c.loop-new.control) × ((turn c).after ≡ c.loop-new.control)
stopped c = stops c.args.shortest c.args.messages.now.items (whole c) (end c) c.loop-new.control c.loop-new.lists.items c.loop-new.messages c.in-Some.new (into_iter_items c.next.new.self) (under_way c)

fits : (c : In-Some) (list count : ℕ) (ending : Ending) → (turn c).turn ≡ Joins list count ending → CanJoin list ending c.loop-new.lists.items c.loop-new.messages
fits c = can_join c.args.shortest c.args.messages.now.items (whole c) (end c) c.loop-new.control c.loop-new.lists.items c.loop-new.messages c.in-Some.new (into_iter_items c.next.new.self) (under_way c)

-- it joins one
tracked_joined : (c : In-Some) (list count : ℕ) (ending : Ending) (others : List (Vec Frame)) (messages : List Message) (more : Vec Way) → (turn c).turn ≡ Joins list count ending →
    frames_in others ≡ ended ending (frames_in c.loop-new.lists.items) list c.in-Some.new.frame →
    messages ≡ c.loop-new.messages.items ++ given ending (list_at (frames_in c.loop-new.lists.items) list ++ c.in-Some.new.frame ∷ []) →
    more.items ≡ c.loop-new.track.items ++ way_to list ending ∷ [] → vec_len more ≡ vec_len c.loop-new.track + 1 → vec_capacity more ≡ vec_capacity c.loop-new.track →
    IsTracked c.args.frames.items (into_iter_items c.next.new.self) (held_in c.args.lists.now.items c.args.messages.now.items) (length c.args.lists.now.items) (held_in others messages) (length others) more
tracked_joined c list count ending others messages more is frames given_now items len capacity =
    let within = (fits c list count ending is).within in
    let same = joined_count ending c.loop-new.lists.items others list c.in-Some.new.frame frames in
    tracked_more c.args.frames.items (into_iter_items c.next.new.self) c.in-Some.new (held_in c.args.lists.now.items c.args.messages.now.items) (length c.args.lists.now.items)
    (held_in c.loop-new.lists.items c.loop-new.messages.items) (held_in others messages) (length c.loop-new.lists.items) (length others) c.loop-new.track more (way_to list ending) (tracked c)
    (joined ending c.loop-new.lists.items others c.loop-new.messages.items messages list c.in-Some.new.frame within frames given_now) same
    (way_below (length others) list ending (omega (arith, within, same))) items len capacity

pub returns-in-Fails-clause-messages : goal.returns-in-Fails-clause-messages
returns-in-Fails-clause-messages c = sym ((stopped (goal.at.returns-in-Fails-clause-messages c).In-Some c.in-Fails.fault (sym c.in-Fails.ensures.turn)).0)

pub returns-in-Fails-clause-fault : goal.returns-in-Fails-clause-fault
returns-in-Fails-clause-fault c = sym ((stopped (goal.at.returns-in-Fails-clause-fault c).In-Some c.in-Fails.fault (sym c.in-Fails.ensures.turn)).1)

pub returns-in-Fails-clause-after : goal.returns-in-Fails-clause-after
returns-in-Fails-clause-after c =
    let at_fault = stopped (goal.at.returns-in-Fails-clause-after c).In-Some c.in-Fails.fault (sym c.in-Fails.ensures.turn) in
    ap (λ control. assembly_of control (frames_in c.loop-new.lists.items)) (c.next-in-Some.ensures.after ∙ at_fault.4) ∙ sym at_fault.2

pub returns-in-Fails-clause-sound : goal.returns-in-Fails-clause-sound
returns-in-Fails-clause-sound c =
    let at_fault = stopped (goal.at.returns-in-Fails-clause-sound c).In-Some c.in-Fails.fault (sym c.in-Fails.ensures.turn) in
    subst (λ control. IsSound control (frames_in c.loop-new.lists.items)) (sym (c.next-in-Some.ensures.after ∙ at_fault.4)) c.loop-new.invariant.forward.sound

pub returns-in-Fails-clause-control : goal.returns-in-Fails-clause-control
returns-in-Fails-clause-control c =
    let at_fault = stopped (goal.at.returns-in-Fails-clause-control c).In-Some c.in-Fails.fault (sym c.in-Fails.ensures.turn) in
    c.next-in-Some.ensures.after ∙ at_fault.4 ∙ sym at_fault.3

pub returns-in-Fails-clause-count : goal.returns-in-Fails-clause-count
returns-in-Fails-clause-count c =
    let d = (goal.at.returns-in-Fails-clause-count c).In-Some in
    let at_fault = stopped d c.in-Fails.fault (sym c.in-Fails.ensures.turn) in
    let enough : c.loop-new.control.lists ≤ vec_len c.loop-new.lists = omega (arith, (under_way d).room.0, length-map c.loop-new.lists.items vec_capacity, c.loop-new.lists.ok) in
    subst (λ (control : Control). control.lists ≤ vec_len c.loop-new.lists) (sym (c.next-in-Some.ensures.after ∙ at_fault.4)) enough

pub loop-new-preserved-in-Heads : goal.loop-new-preserved-in-Heads
loop-new-preserved-in-Heads c =
    let d = (goal.at.loop-new-preserved-in-Heads c).In-Some in
    record {
      forward = rw c.next-in-Some.ensures.after
          (heads_on c.args.shortest c.args.messages.now.items (whole d) (end d) c.loop-new.control c.loop-new.lists.items c.loop-new.messages c.in-Some.new (into_iter_items c.next.new.self) (under_way d)
          (sym c.in-Heads.ensures.turn));
      tracked = tracked_apart d c.push_reserved-in-Heads.new.self c.push_reserved-in-Heads.ensures.items c.push_reserved-in-Heads.ensures.len c.push_reserved-in-Heads.ensures.capacity;
    }

pub join-requires-clause-room : goal.join-requires-clause-room
join-requires-clause-room c = (fits (goal.at.join-requires-clause-room c).In-Some c.in-Joins.list c.in-Joins.count c.in-Joins.ending (sym c.in-Joins.ensures.turn)).room

pub join-requires-clause-number : goal.join-requires-clause-number
join-requires-clause-number c = (fits (goal.at.join-requires-clause-number c).In-Some c.in-Joins.list c.in-Joins.count c.in-Joins.ending (sym c.in-Joins.ensures.turn)).number

pub loop-new-preserved : goal.loop-new-preserved
loop-new-preserved c =
    let d = (goal.at.loop-new-preserved c).In-Some in
    record {
      forward = rw c.next-in-Some.ensures.after
          (joins_on c.args.shortest c.args.messages.now.items (whole d) (end d) c.loop-new.control c.loop-new.lists.items c.loop-new.messages c.in-Some.new (into_iter_items c.next.new.self) (under_way d)
          c.in-Joins.list c.in-Joins.count c.in-Joins.ending (sym c.in-Joins.ensures.turn) c.join.new.lists.items c.join.new.messages
          c.join.ensures.lists c.join.ensures.rooms c.join.ensures.given c.join.ensures.count c.join.ensures.capacity);
      tracked = tracked_joined d c.in-Joins.list c.in-Joins.count c.in-Joins.ending c.join.new.lists.items c.join.new.messages.items c.push_reserved-in-Joins.new.self (sym c.in-Joins.ensures.turn)
          c.join.ensures.lists c.join.ensures.given
          (c.push_reserved-in-Joins.ensures.items ∙ ap (λ way. c.loop-new.track.items ++ way ∷ []) c.way_to.ensures) c.push_reserved-in-Joins.ensures.len c.push_reserved-in-Joins.ensures.capacity;
    }

pub returns-in-Fails-clause-track : goal.returns-in-Fails-clause-track
returns-in-Fails-clause-track c =
    let d = (goal.at.returns-in-Fails-clause-track c).In-Some in
    tracked_to_fault c.args.frames.items (into_iter_items c.next.new.self) c.args.lists.now.items c.loop-new.lists.items c.args.messages.now.items c.loop-new.messages.items c.push_reserved.new.self
    c.loop-new.track.items (Apart c.in-Some.new.frame) c.push_reserved.ensures.items
    (tracked_apart d c.push_reserved.new.self c.push_reserved.ensures.items c.push_reserved.ensures.len c.push_reserved.ensures.capacity)
