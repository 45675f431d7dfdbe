use Rattle.std.proofs.Common.{◌∙◌, Err, ap, sym, refl, map, arith}
use Rattle.script_lang.specs.declared.line.Line.TheVariants.{Arrive}
use Rattle.replay_run.specs.declared.run_end.RunEnd.TheVariants.{InFlight}
use Rattle.replay_run.proofs.Asking.{handed_on}
use Rattle.replay_run.proofs.Bounds.{room}
use Rattle.replay_run.proofs.Feeding.{not_refused, has_begun, all_left, none_left}
use Rattle.replay_run.proofs.Leaving.{dropped}
use Rattle.replay_run.specs.Runs.{with_bytes}
use Rattle.replay_run.proofs.GridLines.{next_number, few_lines, idle_line, heard_within, heard_on, now_there, bytes_line}
use Rattle.replay_run.proofs.LineCalls.{given_up_as}
use Rattle.replay_run.proofs.Midway.{given_up_line}
use Rattle.replay_run.proofs.grid.Grid.arrive.Goals as goal

-- Bytes can't arrive on the connection.
pub returns-in_default-clause-ok : goal.returns-in_default-clause-ok
returns-in_default-clause-ok g c = λ settings r s.
    let at_line = next_number c.args.self.now c.args.number (Arrive c.args.conn c.args.bytes.now) c.requires r s in
    idle_line c.args.self.now c.pass.new.self r c.args.number c.args.conn c.args.bytes.now c.args.out.now.items c.pass.new.out.items s at_line c.requires.within (sym (c.open_member.ensures _ r s) ∙ c.in_default.is) c.pass.ensures.grid c.in_ok-pass.ensures.told

-- A connection that is open takes its bytes.
pub returns-in_default-2-clause-ok : goal.returns-in_default-2-clause-ok
returns-in_default-2-clause-ok g c = λ settings r s.
    absurd (not_refused c.args.self.now r s c.args.conn c.in-Some.member (sym (c.open_member.ensures _ r s) ∙ c.in-Some.is) c.args.bytes.now c.in_ok-fed.field-0 c.in_ok-fed.ensures.gives c.in_default-2.is)

-- A call of its items met a full partition.
pub returns-in_err-handle_all-clause-full : goal.returns-in_err-handle_all-clause-full
returns-in_err-handle_all-clause-full g c = λ settings r s fails.
    let begun = has_begun c.args.self.now r s c.args.conn c.in-Some.member (sym (c.open_member.ensures _ r s) ∙ c.in-Some.is) c.args.bytes.now c.in_ok-fed.field-0 c.in_ok-fed.ensures.gives
    c.count.new.self c.args.number c.count.new.out.items c.in-Some-2.fed c.feed.new.self (next_number c.args.self.now c.args.number (Arrive c.args.conn c.args.bytes.now) c.requires r s) c.in-Some-2.is c.in_ok-fed.ensures.stands c.count.ensures.grid in
    let its = begun.open_there in
    let why = handed_on c.from_residual-in_err-handle_all.result c.in_err-handle_all.field-0.0 InFlight c.from_residual-in_err-handle_all.ensures.1 fails in
    given_up_line settings r c.args.conn c.args.bytes.now its.connection its.there its.takes
    (given_up_as begun.brings.come (c.handle_all.ensures.full settings r its.connection c.args.bytes.now begun.brings its.numbered its.to begun.none_handled (c.in_err-handle_all.was ∙ ap Err why)))

pub handle_all-requires : goal.handle_all-requires
handle_all-requires g c =
    let r = c.requires.run in
    let s = c.requires.stands in
    let line = Arrive c.args.conn c.args.bytes.now in
    let at_line = next_number c.args.self.now c.args.number line c.requires r s in
    let begun = has_begun c.args.self.now r s c.args.conn c.in-Some.member (sym (c.open_member.ensures _ r s) ∙ c.in-Some.is) c.args.bytes.now c.in_ok-fed.field-0 c.in_ok-fed.ensures.gives
    c.count.new.self c.args.number c.count.new.out.items c.in-Some-2.fed c.feed.new.self at_line c.in-Some-2.is c.in_ok-fed.ensures.stands c.count.ensures.grid in
    let its = begun.open_there in (
      c.requires.settings,
      r,
      its.connection,
      c.args.bytes.now,
      begun.brings,
      begun.none_handled,
      its.numbered,
      its.to,
      room r its.connection c.args.bytes.now s.run its.itself s.small (few_lines c.args.self.now c.args.number line c.requires r s) c.requires.read.2,
      s.few,
    )

pub forget_closed-requires : goal.forget_closed-requires
forget_closed-requires g c =
    let r = c.requires.run in
    let s = c.requires.stands in
    let at_line = next_number c.args.self.now c.args.number (Arrive c.args.conn c.args.bytes.now) c.requires r s in
    let begun = has_begun c.args.self.now r s c.args.conn c.in-Some.member (sym (c.open_member.ensures _ r s) ∙ c.in-Some.is) c.args.bytes.now c.in_ok-fed.field-0 c.in_ok-fed.ensures.gives
    c.count.new.self c.args.number c.count.new.out.items c.in-Some-2.fed c.feed.new.self at_line c.in-Some-2.is c.in_ok-fed.ensures.stands c.count.ensures.grid in
    let its = begun.open_there in
    let did = c.in_ok-handle_all.ensures.ok c.requires.settings r its.connection c.args.bytes.now begun.brings its.numbered its.to begun.none_handled in
    let within = heard_within r c.args.conn its.connection its.there c.args.bytes.now c.in-Some-2.fed.items.items begun.brings c.handle_all.new.self c.count.new.out.items c.handle_all.new.out.items did in
    omega (arith, within, its.to, c.handle_all.new.self.listeners.ok.0)

-- Where its connection has closed, those who wait on it leave.
pub returns-clause-ok : goal.returns-clause-ok
returns-clause-ok g c = λ settings r s.
    let line = Arrive c.args.conn c.args.bytes.now in
    let at_line = next_number c.args.self.now c.args.number line c.requires r s in
    let begun = has_begun c.args.self.now r s c.args.conn c.in-Some.member (sym (c.open_member.ensures _ r s) ∙ c.in-Some.is) c.args.bytes.now c.in_ok-fed.field-0 c.in_ok-fed.ensures.gives
    c.count.new.self c.args.number c.count.new.out.items c.in-Some-2.fed c.feed.new.self at_line c.in-Some-2.is c.in_ok-fed.ensures.stands c.count.ensures.grid in
    let its = begun.open_there in
    let did = c.in_ok-handle_all.ensures.ok settings r its.connection c.args.bytes.now begun.brings its.numbered its.to begun.none_handled in
    let are = c.forget_closed.ensures did.now (with_bytes its.connection c.args.bytes.now)
    (now_there r c.args.conn its.connection its.there c.args.bytes.now c.in-Some-2.fed.items.items begun.brings c.handle_all.new.self c.count.new.out.items c.handle_all.new.out.items did) its.to begun.closed
    (heard_on r c.args.conn its.connection its.there c.args.bytes.now c.in-Some-2.fed.items.items begun.brings c.handle_all.new.self c.count.new.out.items c.handle_all.new.out.items did) in
    elim c.if-is_some.branch [
      | goal.then-is_some w ↦
          bytes_line r c.args.conn its.connection its.there c.args.bytes.now c.in-Some-2.fed.items.items begun.brings c.handle_all.new.self c.count.new.out.items c.handle_all.new.out.items did its.takes
          c.in-Some-2.fed.closed c.args.number c.args.out.now.items c.tell_close.new.out.items c.forget_closed.new.listeners w.drop_conn.new.self _ w.self-is are
          (all_left r c.args.conn its.connection its.there c.args.bytes.now c.in-Some-2.fed.items.items begun.brings c.handle_all.new.self c.count.new.out.items c.handle_all.new.out.items did c.in-Some-2.fed.closed begun.closed w.drop_conn.new.self (sym c.is_some.ensures ∙ w.if-is_some.true) (w.drop_conn.ensures ∙ ap (λ n. map (dropped n) c.handle_all.new.self.waiters) (sym its.numbered)))
          s.small s.few s.bounded s.reached c.requires.read.2 c.in_ok-count.ensures.told at_line c.requires.within begun.closed c.in_ok-tell_close.ensures
      | goal.else-is_some w ↦
          bytes_line r c.args.conn its.connection its.there c.args.bytes.now c.in-Some-2.fed.items.items begun.brings c.handle_all.new.self c.count.new.out.items c.handle_all.new.out.items did its.takes
          c.in-Some-2.fed.closed c.args.number c.args.out.now.items c.tell_close.new.out.items c.forget_closed.new.listeners c.handle_all.new.self.waiters _ w.self-is are
          (none_left r c.args.conn its.connection its.there c.args.bytes.now c.in-Some-2.fed.items.items begun.brings c.handle_all.new.self c.count.new.out.items c.handle_all.new.out.items did c.in-Some-2.fed.closed begun.closed c.handle_all.new.self.waiters (sym c.is_some.ensures ∙ w.if-is_some.false) refl)
          s.small s.few s.bounded s.reached c.requires.read.2 c.in_ok-count.ensures.told at_line c.requires.within begun.closed c.in_ok-tell_close.ensures
    ]
