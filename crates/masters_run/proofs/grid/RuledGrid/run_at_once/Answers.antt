use Rattle.std.proofs.Common.{refl, sym, subst}
use Rattle.std.proofs.lemmas.Result.{on_ok_weaker}
use Rattle.masters_run.specs.Grids.{IsGivenUp}
use Rattle.masters_run.proofs.LineParts.{may_run_as, gives_told}
use Rattle.masters_run.proofs.grid.RuledGrid.run_at_once.Goals as goal

pub run_told-requires-clause-may : goal.run_told-requires-clause-may
run_told-requires-clause-may g c = may_run_as c.in-Told.is c.requires.may

pub returns-in-Told-clause-ok : goal.returns-in-Told-clause-ok
returns-in-Told-clause-ok g c = λ settings s stands. on_ok_weaker c.run_told.result (gives_told c.in-Told.is refl c.args.out.now c.run_told.new.out) (c.run_told.ensures.ok settings s stands)

pub returns-in-Told-clause-full : goal.returns-in-Told-clause-full
returns-in-Told-clause-full g c = λ settings s stands full. subst (IsGivenUp settings s) (sym c.in-Told.is) (c.run_told.ensures.full settings s stands full)

pub run_delivery-requires-clause-may : goal.run_delivery-requires-clause-may
run_delivery-requires-clause-may g c = may_run_as c.in-MasterDeliver.is c.requires.may

pub returns-in-MasterDeliver-clause-ok : goal.returns-in-MasterDeliver-clause-ok
returns-in-MasterDeliver-clause-ok g c = λ settings s stands. on_ok_weaker c.run_delivery.result (gives_told c.in-MasterDeliver.is refl c.args.out.now c.run_delivery.new.out) (c.run_delivery.ensures.ok settings s stands)

pub run_loss-requires-clause-may : goal.run_loss-requires-clause-may
run_loss-requires-clause-may g c = may_run_as c.in-MasterLose.is c.requires.may

pub returns-in-MasterLose-clause-ok : goal.returns-in-MasterLose-clause-ok
returns-in-MasterLose-clause-ok g c = λ settings s stands. on_ok_weaker c.run_loss.result (gives_told c.in-MasterLose.is refl c.args.out.now c.run_loss.new.out) (c.run_loss.ensures.ok settings s stands)

pub run_resending-requires-clause-may : goal.run_resending-requires-clause-may
run_resending-requires-clause-may g c = may_run_as c.in-MasterResend.is c.requires.may

pub returns-in-MasterResend-clause-ok : goal.returns-in-MasterResend-clause-ok
returns-in-MasterResend-clause-ok g c = λ settings s stands. on_ok_weaker c.run_resending.result (gives_told c.in-MasterResend.is refl c.args.out.now c.run_resending.new.out) (c.run_resending.ensures.ok settings s stands)

pub run_master_flow-requires-clause-may : goal.run_master_flow-requires-clause-may
run_master_flow-requires-clause-may g c = may_run_as c.in-MasterFlow.is c.requires.may

pub returns-in-MasterFlow-clause-ok : goal.returns-in-MasterFlow-clause-ok
returns-in-MasterFlow-clause-ok g c = λ settings s stands. on_ok_weaker c.run_master_flow.result (gives_told c.in-MasterFlow.is refl c.args.out.now c.run_master_flow.new.out) (c.run_master_flow.ensures.ok settings s stands)
