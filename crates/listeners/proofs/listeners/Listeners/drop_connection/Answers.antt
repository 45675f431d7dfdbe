use Rattle.std.proofs.Common.{subst, sym}
use Rattle.listeners.specs.Tables.{Keep}
use Rattle.listeners.specs.Standing.{without}
use Rattle.listeners.proofs.Keeping.{keep-dropped}
use Rattle.listeners.proofs.listeners.Listeners.drop_connection.Goals as goal

pub returns : goal.returns
returns c = λ all keep.
    subst (λ rows. Keep c.drop_connection.new.maps rows (without c.args.conn all)) (sym c.drop_connection-2.ensures)
    (keep-dropped c.args.self.now.maps c.drop_connection.new.maps c.args.self.now.rows all c.args.conn c.drop_connection.ensures keep)
