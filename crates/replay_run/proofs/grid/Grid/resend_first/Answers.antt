use Rattle.std.proofs.Common.{◌∙◌, [], Err, ap, sym, arith}
use Rattle.partition_table.specs.Rows.{first_of}
use Rattle.partition_protocol.specs.Events.{Resend}
use Rattle.call_engine.specs.Objects.{partition_object}
use Rattle.call_engine.specs.Env.{settings_of}
use Rattle.replay_run.specs.Runs.{takes}
use Rattle.replay_run.specs.Rebalancing.{first_resends}
use Rattle.replay_run.specs.declared.run_end.RunEnd.TheVariants.{InFlight}
use Rattle.replay_run.proofs.Asking.{handed_on, world_within, told_of}
use Rattle.replay_run.proofs.Flowing.{so_nowhere, so_as}
use Rattle.replay_run.proofs.GivingUp.{up_as}
use Rattle.replay_run.proofs.RebalanceLine.{none_resends, one_resends}
use Rattle.replay_run.proofs.grid.Grid.resend_first.Goals as goal

pub index-requires : goal.index-requires
index-requires g c =
    let within = world_within c.args.self.now c.requires.stands.1 c.requires.stands.2.holds c.args.partition c.from.result c.requires.placed c.from.ensures in
    omega (arith, within, c.args.self.now.worlds.ok.0)

pub returns-in_default-clause-ok : goal.returns-in_default-clause-ok
returns-in_default-clause-ok g c = λ settings r amid.
    let row = told_of _ c.args.self.now r amid.holds c.args.partition c.from.result c.requires.placed c.from.ensures c.index.result.now c.index.ensures (λ w. w.service.row) c.row.result.now (c.row.ensures (settings_of _ c.args.self.now.env)) in
    let first = c.primary-first.ensures ∙ ap (λ x. first_of x.members) row in
    let o = partition_object settings in
    let p = c.args.partition in
    let text = c.args.out.now.items in
    (so_as c.args.self.now r (λ s. r) (λ s. first_resends o s r p) text text (so_nowhere c.args.self.now r text amid) (sym (none_resends o [] r p c.primary-first.result first c.in_default.is))).0

pub returns-in_err-take-clause-full : goal.returns-in_err-take-clause-full
returns-in_err-take-clause-full g c = λ settings r amid was.
    let row = told_of _ c.args.self.now r amid.holds c.args.partition c.from.result c.requires.placed c.from.ensures c.index.result.now c.index.ensures (λ w. w.service.row) c.row.result.now (c.row.ensures (settings_of _ c.args.self.now.env)) in
    let first = c.primary-first.ensures ∙ ap (λ x. first_of x.members) row in
    let why = handed_on c.from_residual.result c.in_err-take.field-0.0 InFlight c.from_residual.ensures.1 was in
    let o = partition_object settings in
    let p = c.args.partition in
    up_as r (λ s. takes o s r p (Resend c.in-Some.end)) (λ s. first_resends o s r p) (λ s. sym (one_resends o s r p c.primary-first.result c.in-Some.end first c.in-Some.is)) (c.in_err-take.ensures.full settings r amid (ap Err why))

pub returns-clause-ok : goal.returns-clause-ok
returns-clause-ok g c = λ settings r amid.
    let row = told_of _ c.args.self.now r amid.holds c.args.partition c.from.result c.requires.placed c.from.ensures c.index.result.now c.index.ensures (λ w. w.service.row) c.row.result.now (c.row.ensures (settings_of _ c.args.self.now.env)) in
    let first = c.primary-first.ensures ∙ ap (λ x. first_of x.members) row in
    let o = partition_object settings in
    let p = c.args.partition in
    let taken = (c.in_ok-take.ensures.ok settings r amid).on in
    (so_as c.take.new.self r (λ s. takes o s r p (Resend c.in-Some.end)) (λ s. first_resends o s r p) c.args.out.now.items c.take.new.out.items taken (sym (one_resends o taken.skips r p c.primary-first.result c.in-Some.end first c.in-Some.is))).0
