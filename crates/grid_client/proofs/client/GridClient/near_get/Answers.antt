use Rattle.std.proofs.Common.{◌≡◌, Ok, Some, sym, ap, ◌∙◌, subst}
use Rattle.grid_client.specs.States.{State, target, HasOpened}
use Rattle.grid_client.proofs.Asking.{missed_is}
use Rattle.grid_client.proofs.client.GridClient.near_get.Goals as goal

pub returns-in_ok-sending-in-None-clause-ok : goal.returns-in_ok-sending-in-None-clause-ok
returns-in_ok-sending-in-None-clause-ok c =
    let s = c.args.self.now in
    let key = c.args.key.now in
    let partition = c.in_ok-route.route.partition in
    let conn = c.target_by-conn.result in
    let sending = c.in_ok-sending-in-None.sending in
    let same : c.look.new.self ≡ s = c.look.ensures.missed (c.in_ok-found.was ∙ ap Ok c.in-None.is) in
    let opened = subst (λ (x : State). HasOpened conn partition key x c.miss.new.self sending) same c.in_ok-sending-in-None.ensures.ok in
    let goes = subst (λ (x : State). target partition x ≡ Some conn) same c.target_by-conn.ensures in
    missed_is conn partition key s c.miss.new.self sending opened c.in_ok-route.ensures.partition goes (sym c.in-None.is ∙ c.in_ok-found.ensures.value)
