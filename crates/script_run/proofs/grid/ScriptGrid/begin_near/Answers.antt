use Rattle.std.proofs.Common.{◌∷◌, ◌++◌, [], Err, ap, sym, ◌∙◌, subst, arith}
use Rattle.script_lang.specs.declared.line.Line.TheVariants.{Near, Arrive}
use Rattle.replay_run.specs.declared.run_end.RunEnd.TheVariants.{InFlight}
use Rattle.replay_run.proofs.Asking.{handed_on}
use Rattle.script_run.specs.NearClients.{new_near}
use Rattle.script_run.specs.Grids.{MaySend, IsGivenUpAt}
use Rattle.script_run.proofs.NearLines.{told_not_begun, told_begun, given_up_begun, stands_with, may_send, has_sent_as, some_told}
use Rattle.script_run.proofs.Playing.{may_count}
use Rattle.script_run.proofs.Sizes.{opening_fits}
use Rattle.script_run.proofs.grid.ScriptGrid.begin_near.Goals as goal

pub can_begin-requires : goal.can_begin-requires
can_begin-requires g c = (c.requires.settings, c.requires.run, c.requires.stands, c.requires.read.0)

pub pass-requires : goal.pass-requires
pass-requires g c = may_count c.requires

pub returns-then-not-can_begin-clause-ok : goal.returns-then-not-can_begin-clause-ok
returns-then-not-can_begin-clause-ok g c = λ settings s stands.
    told_not_begun s c.args.conn c.args.name.now c.args.capacity c.pass.new.self c.args.self.now stands (sym (c.can_begin.ensures settings s stands) ∙ c.if-not-can_begin.true) c.pass.ensures.spoken (c.pass.ensures.goes settings s stands.goes) _
    c.in_ok-pass.ensures.told

pub send-requires : goal.send-requires
send-requires g c =
    let all = c.args.self.now in
    let may = c.requires in
    let s = may.run in
    let name = c.args.name.now in
    let ns = s.nears ++ new_near c.args.conn name c.args.capacity ∷ [] in
    let are = c.in_ok-opening.ensures.nears s.nears may.stands.goes.nears in
    subst (MaySend _ (record all { nears = c.begin.new.nears }) c.args.number c.args.conn) (sym c.in_ok-opening.ensures.opening)
    (may_send (stands_with c.begin.new.nears ns may.stands are) may.read.0 (opening_fits c.args.conn name may.read.2) may.next may.within)

pub index_mut-requires : goal.index_mut-requires
index_mut-requires g c =
    let may = c.requires in
    let s = may.run in
    let ns = s.nears ++ new_near c.args.conn c.args.name.now c.args.capacity ∷ [] in
    let are = c.in_ok-opening.ensures.nears s.nears may.stands.goes.nears in
    let some = some_told (c.in_ok-grid.ensures.ok may.settings (record s { nears = ns }) (stands_with c.begin.new.nears ns may.stands are)) in
    omega (arith, some, c.in_ok-grid.grid.told.ok.0)

pub returns-clause-ok : goal.returns-clause-ok
returns-clause-ok g c = λ settings s stands.
    let name = c.args.name.now in
    let ns = s.nears ++ new_near c.args.conn name c.args.capacity ∷ [] in
    let are = c.in_ok-opening.ensures.nears s.nears stands.goes.nears in
    let can = sym (c.can_begin.ensures settings s stands) ∙ c.if-not-can_begin.false in
    let sent = has_sent_as c.in_ok-opening.ensures.opening (c.in_ok-grid.ensures.ok settings (record s { nears = ns }) (stands_with c.begin.new.nears ns stands are)) in
    told_begun s c.args.conn name c.args.capacity c.send.new.self can c.in_ok-grid.grid sent _ c.by_grid.ensures

pub returns-in_err-grid-clause-full : goal.returns-in_err-grid-clause-full
returns-in_err-grid-clause-full g c = λ settings s stands was.
    let name = c.args.name.now in
    let ns = s.nears ++ new_near c.args.conn name c.args.capacity ∷ [] in
    let are = c.in_ok-opening.ensures.nears s.nears stands.goes.nears in
    let can = sym (c.can_begin.ensures settings s stands) ∙ c.if-not-can_begin.false in
    let why = handed_on c.from_residual-in_err-grid.result c.in_err-grid.field-0.0 InFlight c.from_residual-in_err-grid.ensures.1 was in
    given_up_begun s c.args.conn name c.args.capacity can
    (subst (λ bytes. IsGivenUpAt settings (record s { nears = ns }) (Arrive c.args.conn bytes)) c.in_ok-opening.ensures.opening
    (c.in_err-grid.ensures.full settings (record s { nears = ns }) (stands_with c.begin.new.nears ns stands are) (ap Err why)))
