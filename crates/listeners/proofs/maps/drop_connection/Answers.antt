use Rattle.std.proofs.Common.{rules}
use Rattle.listeners.proofs.Keeping.{drops_from_retain}
use Rattle.listeners.proofs.maps.drop_connection.Goals as goal

pub returns : goal.returns
returns c = drops_from_retain _ _ c.args.conn c.args.maps.now c.retain.new.self (λ k v b w f' t. search rules) c.retain.ensures.was_unique c.retain.ensures.filtered
