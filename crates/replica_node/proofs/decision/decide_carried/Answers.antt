-- A backup goes on in the row that it knows.
use Rattle.std.proofs.Common.{◌≡◌, true, ap, sym, ◌∙◌}
use Rattle.partition_table.specs.declared.Row.{Row}
use Rattle.partition_table.specs.Rows.{is_backup}
use Rattle.primary_hold.specs.Facts.{member_of, node_of}
use Rattle.replica_node.proofs.Reactions.{backup_reacts}
use Rattle.replica_node.proofs.Looking.{carried_here}
use Rattle.replica_node.proofs.decision.decide_carried.Goals as goal

pub returns-then-is_backup-2-clause-step : goal.returns-then-is_backup-2-clause-step
returns-then-is_backup-2-clause-step c = λ service from.
    let facts = c.args.facts.now in
    let m = member_of facts in
    let node = node_of facts in
    let same : c.args.row.now.version ≡ node.known.version = c.if-row-known-2.true ∙ ap (λ (r : Row). r.version) c.known-known.ensures in
    let backup : is_backup node.known m ≡ true =
    sym (c.is_backup-then-row-known-2.ensures ∙ ap (λ (r : Row). is_backup r c.member-member.result) c.known-known.ensures ∙ ap (is_backup node.known) c.member-member.ensures) ∙ c.if-is_backup-2.true in
    sym (backup_reacts service from c.decide.result node) ∙ c.decide.ensures.step from node (sym c.pair.ensures) ∙ carried_here m from c.args.row.now c.args.carried node same backup
