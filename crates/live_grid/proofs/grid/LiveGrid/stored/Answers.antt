use Rattle.std.proofs.Common.{refl}
use Rattle.live_grid.proofs.PassPlaces.{looked_at, looked_of_grid, looked_control, looked_whole}
use Rattle.live_grid.proofs.grid.LiveGrid.stored.Goals as goal

pub returns-clause-looked : goal.returns-clause-looked
returns-clause-looked g c =
    looked_at c.args.self.now c.args.key.now c.args.pass.now (record { passes = c.put_pass.new.passes; tokens = c.args.pass.now.tokens }) c.args.partition c.from-slot.result c.take_pass-going.result c.look-back.result.0 c.look-back.result.1
    c.workplace.result.now c.take_pass-going.new.passes.items c.requires.pass c.requires.placed c.from-slot.ensures c.workplace.ensures c.take_pass-going.ensures.taken c.take_pass-going.ensures.left c.put_pass.ensures refl c.look-back.ensures

pub returns-clause-kept : goal.returns-clause-kept
returns-clause-kept g c =
    looked_of_grid c.args.self.now c.args.key.now c.args.pass.now (record { passes = c.put_pass.new.passes; tokens = c.args.pass.now.tokens }) c.args.partition c.look-back.result.1 (returns-clause-looked g c) c.requires.pass

pub returns-clause-control : goal.returns-clause-control
returns-clause-control g c = λ control.
    looked_control c.args.self.now c.args.key.now c.args.pass.now (record { passes = c.put_pass.new.passes; tokens = c.args.pass.now.tokens }) c.args.partition c.look-back.result.1 (returns-clause-looked g c) control

pub returns-clause-whole : goal.returns-clause-whole
returns-clause-whole g c = λ whole.
    looked_whole c.args.self.now c.args.key.now c.args.pass.now (record { passes = c.put_pass.new.passes; tokens = c.args.pass.now.tokens }) c.args.partition c.look-back.result.1 (returns-clause-looked g c) whole
