-- A member has adopted a row, and has done in it what was decided.
use Rattle.std.proofs.Common.{◌≡◌, ℕ, Bool, true, false, if◌then◌else◌, List, [], ◌++◌, map, Option, refl, sym, ◌∙◌, ap, subst, ◌⊎◌, inl, inr}
use Rattle.std.proofs.lemmas.List.{append-nil}
use Rattle.std.proofs.lemmas.List.Elements.{All-nil}
use Rattle.partition_table.specs.declared.Row.{Row}
use Rattle.partition_table.specs.Rows.{is_primary}
use Rattle.partition_protocol.specs.Messages.{Sent}
use Rattle.partition_protocol.specs.Node.{Node as ProtocolNode, settled}
use Rattle.partition_protocol.specs.Adoption.{adopted_row, sent_on_adopting}
use Rattle.partition_protocol.specs.Replica.{Step}
use Rattle.partition_protocol.proofs.Lists.{cases}
use Rattle.member_wire.specs.Said.{Contents, took_of, written}
use Rattle.backup_apply.specs.declared.steps.BackupStep.{BackupStep}
use Rattle.backup_apply.specs.declared.steps.BackupStep.TheVariants.{Silent}
use Rattle.backup_apply.specs.Contents.{Does}
use Rattle.backup_apply.specs.Steps.{step_of as backup_step, took_by as took_by_backup, change_by}
use Rattle.primary_hold.specs.declared.answer.CallAnswer.{CallAnswer}
use Rattle.primary_hold.specs.declared.facts.Facts.{Facts}
use Rattle.primary_hold.specs.Adopting.{HasAdopted, ring_in}
use Rattle.primary_hold.specs.Changes.{Becomes}
use Rattle.primary_hold.specs.Facts as facts
use Rattle.replica_node.specs.declared.node.Node.{Node}
use Rattle.replica_node.specs.declared.reaction.Reaction.TheVariants.{Backup}
use Rattle.replica_node.specs.declared.taking.Taken.{Taken}
use Rattle.replica_node.specs.Decisions.{adoption_step, node_by, sent_by, IsSoundIn}
use Rattle.replica_node.specs.Nodes.{node_of, contents_of, waiting, held_answers, ring_of, Ends, member_of, carried_by}
use Rattle.replica_node.specs.Sending.{Fits, Sends, carried}
use Rattle.replica_node.specs.Taken.{HasTaken}
use Rattle.replica_node.specs.Takings.{state_in, DoesIn, answers_left}
use Rattle.replica_node.proofs.Adoptions.{adopted_known, sent_following}
use Rattle.replica_node.proofs.Reactions.{backup_reacts, backup_says, backup_took, known_by}
use Rattle.replica_node.proofs.SendLists.{same_sends, sends_append}

-- nothing is nothing, whatever contents there are
nothing_sent : (k k' : Contents) (xs : List Sent) (a b : List (ℕ × List ℕ)) → xs ≡ [] → Sends k xs a b → Sends k' xs a b
nothing_sent k k' xs a b none sends =
    let one : Sends k [] a b = same_sends k xs [] a b none sends in
    let two : Sends k' [] a b = record { out = one.out; fits = All-nil (Fits k') } in
    same_sends k' [] xs a b (sym none) two

left_at : (b : Bool) (waits held : List CallAnswer) → waits ++ (if b then held else []) ≡ answers_left b waits held
left_at true waits held = refl
left_at false waits held = append-nil waits

module _ {S State : Type 0} (within : ℕ → State → Type 0) (empty : State) (applied : List ℕ → State → Option State) (snapshot_of : State → List ℕ) (state : S → State)
    (old new : Node S) (from : ℕ) (row : Row) (next : BackupStep) (adopted noted : Facts) (taken : Taken) (before between : List (ℕ × List ℕ)) where
  abbrev m : ℕ
  m = member_of old

  abbrev node : ProtocolNode
  node = node_of old

  abbrev next_node : ProtocolNode
  next_node = adopted_row m row node

  abbrev left : State
  left = state_in empty m row node (state (contents_of old))

  abbrev written_with : Contents
  written_with = carried snapshot_of left (ring_in m row node (ring_of old)) next_node.pair.count

  node_is : HasAdopted old.facts adopted row → Becomes adopted noted (node_by from (Backup next) (facts.node_of adopted)) → Becomes noted new.facts (settled (facts.node_of noted))
      → node_of new ≡ settled (node_by from (Backup next) next_node)
  node_is has notes settles = settles.node ∙ ap settled (notes.node ∙ ap (node_by from (Backup next)) has.node)

  ring_is : HasAdopted old.facts adopted row → Becomes adopted noted (node_by from (Backup next) (facts.node_of adopted)) → Becomes noted new.facts (settled (facts.node_of noted))
      → ring_of new ≡ ring_in m row node (ring_of old)
  ring_is has notes settles = settles.ring ∙ notes.ring ∙ has.ring

  -- a primary does nothing more, so that its contents are those that the row leaves
  state_at : (b : BackupStep) → b ≡ Silent (took_by_backup b) → DoesIn within empty applied snapshot_of m row node (change_by b) (state (contents_of old)) (state (contents_of new)) → left ≡ state (contents_of new)
  state_at b is does = sym (subst (λ (x : BackupStep). Does within applied snapshot_of (change_by x) left (state (contents_of new))) is does)

  count_at : (b : BackupStep) → b ≡ Silent (took_by_backup b) → (settled (node_by from (Backup b) next_node)).pair.count ≡ next_node.pair.count
  count_at b is = ap (λ (x : BackupStep). (settled (node_by from (Backup x) next_node)).pair.count) is

  same_contents : next ≡ Silent (took_by_backup next) → node_of new ≡ settled (node_by from (Backup next) next_node) → ring_of new ≡ ring_in m row node (ring_of old)
      → DoesIn within empty applied snapshot_of m row node (change_by next) (state (contents_of old)) (state (contents_of new)) → written_with ≡ carried_by snapshot_of state new
  same_contents is node_is ring_is does =
      ap (λ s. carried snapshot_of s (ring_in m row node (ring_of old)) next_node.pair.count) (state_at next is does)
      ∙ ap (λ r. carried snapshot_of (state (contents_of new)) r next_node.pair.count) (sym ring_is)
      ∙ ap (carried snapshot_of (state (contents_of new)) (ring_of new)) (sym (ap (λ (n : ProtocolNode). n.pair.count) node_is ∙ count_at next is))

  sends_adopting : IsSoundIn m row next → node_of new ≡ settled (node_by from (Backup next) next_node) → ring_of new ≡ ring_in m row node (ring_of old)
      → DoesIn within empty applied snapshot_of m row node (change_by next) (state (contents_of old)) (state (contents_of new))
      → Sends written_with (sent_on_adopting m next_node) before between → Sends (carried_by snapshot_of state new) (sent_on_adopting m next_node) before between
  sends_adopting sound node_is ring_is does sends = go (cases (is_primary row m))
    where
      go : (is_primary row m ≡ true) ⊎ (is_primary row m ≡ false) → Sends (carried_by snapshot_of state new) (sent_on_adopting m next_node) before between
      go (inl p) = subst (λ (k : Contents). Sends k (sent_on_adopting m next_node) before between) (same_contents (sound.leads p) node_is ring_is does) sends
      go (inr p) = nothing_sent written_with (carried_by snapshot_of state new) (sent_on_adopting m next_node) before between (sent_following m row node p) sends

  pub has_taken : (service : ℕ) → HasAdopted old.facts adopted row → Becomes adopted noted (node_by from (Backup next) (facts.node_of adopted)) → Becomes noted new.facts (settled (facts.node_of noted))
      → new.service ≡ old.service → IsSoundIn m row next → DoesIn within empty applied snapshot_of m row node (change_by next) (state (contents_of old)) (state (contents_of new))
      → taken.took ≡ took_by_backup next → before ≡ [] → Sends written_with (sent_on_adopting m next_node) before between
      → ((k : Contents) → Sends k (sent_by service row.version from (Backup next)) between taken.sent)
      → HasTaken snapshot_of state (adoption_step m from row next node) (ring_in m row node (ring_of old)) (DoesIn within empty applied snapshot_of m row node (change_by next)) old new taken
  has_taken service has notes settles same sound does took none first second =
      let is = node_is has notes settles in
      let ring = ring_is has notes settles in
      let k = carried_by snapshot_of state new in
      let words : sent_by service row.version from (Backup next) ≡ (backup_step from next next_node).sent =
      backup_says service from row.version next_node.known.version next ∙ ap (λ (s : Step). s.sent) (sym (backup_reacts service from next next_node)) in
      let all = sends_append k (sent_on_adopting m next_node) (backup_step from next next_node).sent before between taken.sent
      (sends_adopting sound is ring does first) (same_sends k _ _ between taken.sent words (second k)) in
      let known : (node_of new).known ≡ row = ap (λ (n : ProtocolNode). n.known) is ∙ known_by from (Backup next) next_node ∙ adopted_known m row node in
      let member : member_of new ≡ m = settles.member ∙ notes.member ∙ has.member in
      record {
        node = is ∙ ap (λ (s : Step). settled s.node) (sym (backup_reacts service from next next_node));
        took = ap took_of took ∙ sym (backup_took from next next_node);
        sent = all.out ∙ ap (λ l. l ++ map (written k) (sent_on_adopting m next_node ++ (backup_step from next next_node).sent)) none;
        fits = all.fits;
        contents = does;
        answers = settles.answers ∙ notes.answers ∙ ap (λ r. r ++ (facts.answers_of adopted).held) has.released ∙ ap (λ h. waiting old ++ h) has.held
            ∙ left_at (is_primary row m) (waiting old) (held_answers old)
            ∙ ap (λ (r : Row). answers_left (is_primary r m) (waiting old) (held_answers old)) (sym known)
            ∙ ap (λ n. answers_left (is_primary (node_of new).known n) (waiting old) (held_answers old)) (sym member);
        ring = ring;
        ends = ap (λ n. let e : Ends = record { member = n; service = new.service } in e) member ∙ ap (λ n. let e : Ends = record { member = m; service = n } in e) same;
      }
