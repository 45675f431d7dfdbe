-- The effects up to the bridge, the bridge, and the effects after it.
use Rattle.std.proofs.Common.{ℕ, ◌∷◌, ◌++◌, ap, ◌∙◌}
use Rattle.partition_table.specs.declared.Row.{Row}
use Rattle.partition_protocol.specs.Messages.{Bridge}
use Rattle.partition_protocol.specs.Node.{Pair}
use Rattle.partition_protocol.specs.CatchUp.{effects}
use Rattle.primary_hold.specs.declared.view.CatchUp.TheVariants.{Bridged}
use Rattle.primary_hold.specs.Views.{viewed, messages_of}
use Rattle.replica_node.specs.Sending.{all_to}
use Rattle.replica_node.proofs.SendLists.{bridged_sent, same_sends}
use Rattle.replica_node.proofs.node.Node.send_bridged.Goals as goal

pub returns : goal.returns
returns g c =
    let node = viewed c.args.view.now in
    let version = c.base.inside.version in
    let after = c.base.inside.count in
    let said = λ (begun : ℕ) (row row' : Row) (count : ℕ). all_to c.args.to (effects version after begun ++ (Bridge row version begun ∷ effects row'.version begun count)) in
    same_sends _ _ _ _ _
    (ap (λ n. said n c.row.result.now c.row-2.result.now c.count.result) c.adopted-begun.ensures ∙ ap (λ r. said node.adopted r c.row-2.result.now c.count.result) c.row.ensures
    ∙ ap (λ r. said node.adopted node.known r c.count.result) c.row-2.ensures ∙ ap (said node.adopted node.known node.known) c.count.ensures
    ∙ ap (λ (p : Pair). all_to c.args.to (messages_of (viewed c.args.view.now) (Bridged p))) c.base.view_is)
    (bridged_sent _ c.args.to _ _ _ _ _ _ _ c.in_ok-send_effects.ensures c.in_ok-write_bridge.ensures.ok c.in_ok-write_bridge.ensures.fits c.in_ok-send_effects-2.ensures)
