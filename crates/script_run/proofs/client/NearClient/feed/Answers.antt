use Rattle.std.proofs.Common.{◌≡◌, true, ℕ, ◌+◌, ◌-◌, List, take, drop, ap, sym, ◌∙◌, subst, arith}
use Rattle.std.specs.List.{list_any}
use Rattle.grid_client.specs.Connections.{is_conn}
use Rattle.grid_client.specs.States.{State}
use Rattle.grid_client.specs.Hearing.{HasHeard, HasFed}
use Rattle.script_run.specs.NearClients.{NearClient}
use Rattle.script_run.specs.Grids.{IsNear}
use Rattle.script_run.specs.declared.client.NearClient.{NearClient as KeptClient}
use Rattle.script_run.proofs.OneConnection.{attached_one, heard_one}
use Rattle.script_run.proofs.FedClients.{as_many, near_fed, told_fed}
use Rattle.script_run.proofs.client.NearClient.feed.Goals as goal

-- what its client has heard
its_heard : (kept : KeptClient) (n : NearClient) → IsNear kept n → HasHeard kept.conn n.read kept.client
its_heard kept n is =
    subst (λ (s : State). HasHeard kept.conn n.read s) (sym is.client)
    (subst (λ (k : ℕ). HasHeard k n.read n.state) (sym is.conn) (heard_one n.conn n.read n.state is.one))

pub feed-requires : goal.feed-requires
feed-requires c =
    let n = c.requires.0 in
    let is = c.requires.1 in
    subst (λ (s : State). list_any (is_conn c.args.self.now.conn) s.connections ≡ true) (sym is.client)
    (subst (λ (k : ℕ). list_any (is_conn k) n.state.connections ≡ true) (sym is.conn) (attached_one n.conn n.read n.state is.one))

-- the piece of the output that was handed over
the_piece : (handed bytes : ℕ) (text output : List ℕ) → text ≡ output → take (handed + bytes - handed) (drop handed text) ≡ take bytes (drop handed output)
the_piece handed bytes text output is =
    let same : handed + bytes - handed ≡ bytes = omega arith in
    ap (λ (k : ℕ). take k (drop handed text)) same ∙ ap (λ (xs : List ℕ). take bytes (drop handed xs)) is

pub returns-clause-after : goal.returns-clause-after
returns-clause-after c = λ n is.
    let kept = c.args.self.now in
    let bytes = c.min-bytes.result in
    let has =
    subst (λ (piece : List ℕ). HasFed kept.conn n.read piece kept.client c.feed.new.self c.in-Ok.field-0) (the_piece kept.handed bytes c.deref.result.now kept.output.items c.deref.ensures.value)
    (c.in-Ok.ensures.ok n.read (its_heard kept n is)) in
    near_fed c.args.most kept n bytes is (omega arith) c.feed.new.self c.in-Ok.field-0 has c.read_to.new.self
    (ap (λ (x : KeptClient). x.conn) c.read_to.ensures.rest) (ap (λ (x : KeptClient). x.client) c.read_to.ensures.rest) c.read_to.ensures.left c.read_to.ensures.within

pub returns-clause-bytes : goal.returns-clause-bytes
returns-clause-bytes c = λ n is. as_many c.args.most c.args.self.now n c.min-bytes.result is (omega arith)

pub returns-clause-heard : goal.returns-clause-heard
returns-clause-heard c = λ n is.
    let kept = c.args.self.now in
    let bytes = c.min-bytes.result in
    let has =
    subst (λ (piece : List ℕ). HasFed kept.conn n.read piece kept.client c.feed.new.self c.in-Ok.field-0) (the_piece kept.handed bytes c.deref.result.now kept.output.items c.deref.ensures.value)
    (c.in-Ok.ensures.ok n.read (its_heard kept n is)) in
    told_fed c.args.most kept n bytes is (omega arith) c.feed.new.self c.in-Ok.field-0 has
