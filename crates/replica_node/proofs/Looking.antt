-- How a member takes a row that is sent with something for its backups, case by case.
use Rattle.std.proofs.Common.{◌≡◌, ℕ, true, false, nat_lt, if◌then◌else◌, refl, sym, ◌∙◌, arith}
use Rattle.std.proofs.lemmas.Bool.Decides.{nat_tests}
use Rattle.partition_table.specs.declared.Row.{Row}
use Rattle.partition_table.specs.Rows.{is_backup}
use Rattle.partition_protocol.specs.Took.{Other}
use Rattle.partition_protocol.specs.Node.{Node}
use Rattle.partition_protocol.specs.Replica.{Step, unanswered, with_sent, after_row, sent_by_row}
use Rattle.replica_node.specs.declared.decision.Carried.{Carried}
use Rattle.replica_node.specs.declared.decision.Carried.TheVariants.{Whole, Bridge}
use Rattle.replica_node.specs.Carried.{on_carried, backup_carries}

-- an earlier row is for nobody. Else the row is adopted where it is newer, and a backup goes on
abbrev looking : ℕ → Row → Node → (Node → Step) → Step
looking m row node here =
    if nat_lt row.version node.known.version then unanswered node Other
    else (let next = after_row m row node in
    with_sent (sent_by_row m row node) (if is_backup next.known m then here next else unanswered next Other))

carried_looks : (m from : ℕ) (row : Row) (carried : Carried) (node : Node) → on_carried m from row carried node ≡ looking m row node (backup_carries from row carried)
carried_looks m from row (Whole count snapshot) node = refl
carried_looks m from row (Bridge base count) node = refl

looked_here : (m : ℕ) (row : Row) (node : Node) (here : Node → Step) → row.version ≡ node.known.version → is_backup node.known m ≡ true
    → looking m row node here ≡ here node
looked_here m row node here same backup =
    let early : nat_lt row.version node.known.version ≡ false = grind (arith, nat_tests) in
    let newer : nat_lt node.known.version row.version ≡ false = grind (arith, nat_tests) in
    rw (early, newer, backup) refl

-- a backup goes on in the row that it knows
pub carried_here : (m from : ℕ) (row : Row) (carried : Carried) (node : Node) → row.version ≡ node.known.version → is_backup node.known m ≡ true
    → backup_carries from row carried node ≡ on_carried m from row carried node
carried_here m from row carried node same backup = sym (carried_looks m from row carried node ∙ looked_here m row node (backup_carries from row carried) same backup)
