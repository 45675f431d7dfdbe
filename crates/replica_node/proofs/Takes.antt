-- A step that was taken, as the same step under another name.
use Rattle.std.proofs.Common.{◌≡◌, ℕ, List, map, All, Result, Ok, Err, IfOk, ◌∙◌, ap, subst}
use Rattle.partition_protocol.specs.Node.{settled}
use Rattle.partition_protocol.specs.Replica.{Step}
use Rattle.member_wire.specs.Said.{written}
use Rattle.replica_node.specs.declared.node.Node.{Node}
use Rattle.replica_node.specs.declared.taking.Taken.{Taken}
use Rattle.replica_node.specs.Nodes.{contents_of, carried_by}
use Rattle.replica_node.specs.Sending.{Fits}
use Rattle.replica_node.specs.Taken.{HasTaken}

pub if_ok : {A E : Type 0} (P Q : A → Type 0) (r : Result A E) → ((x : A) → P x → Q x) → IfOk r P → IfOk r Q
if_ok P Q (Ok x) f p = f x p
if_ok P Q (Err e) f p = p

pub taken_as : {S State : Type 0} (snapshot_of : State → List ℕ) (state : S → State) (step step' : Step) (effects effects' : List (List ℕ)) (leaves leaves' : State → State → Type 0) (old new : Node S) (taken : Taken)
    → step ≡ step' → effects ≡ effects' → (leaves (state (contents_of old)) (state (contents_of new)) → leaves' (state (contents_of old)) (state (contents_of new)))
    → HasTaken snapshot_of state step effects leaves old new taken → HasTaken snapshot_of state step' effects' leaves' old new taken
taken_as snapshot_of state step step' effects effects' leaves leaves' old new taken same ring left has = record {
  node = has.node ∙ ap (λ (s : Step). settled s.node) same;
  took = has.took ∙ ap (λ (s : Step). s.took) same;
  sent = has.sent ∙ ap (λ (s : Step). map (written (carried_by snapshot_of state new)) s.sent) same;
  fits = subst (λ (s : Step). All (Fits (carried_by snapshot_of state new)) s.sent) same has.fits;
  contents = left has.contents;
  answers = has.answers;
  ring = has.ring ∙ ring;
  ends = has.ends;
}
