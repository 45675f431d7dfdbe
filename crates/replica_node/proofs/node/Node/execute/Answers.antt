-- The call's effect makes the state after it, by the shelf's laws, and the answer is held behind the others.
use Rattle.std.proofs.Common.{◌≡◌, ℕ, List, [], ◌∷◌, ◌++◌, Option, is_some, option_copied, sym, ◌∙◌, ap}
use Rattle.grid_base.specs.declared.calls.Change.{Change}
use Rattle.partition_protocol.specs.Node.{Node as ProtocolNode, Pair, settled}
use Rattle.partition_protocol.specs.Execution.{executing}
use Rattle.primary_hold.specs.Answering.{all_of}
use Rattle.primary_hold.specs.Changes.{answer_at}
use Rattle.primary_hold.specs.Facts.{node_of, answers_of, ring_of}
use Rattle.primary_hold.specs.Rings.{ring_after}
use Rattle.replica_node.specs.Nodes.{Ends}
use Rattle.replica_node.proofs.Executing.{effect_leaves, effect_possible}
use Rattle.replica_node.proofs.node.Node.execute.Goals as goal

pub perform-requires : goal.perform-requires
perform-requires g c =
    let model = g.S.Shelf.model in
    let plan = g.S.Executes.plan_of c.args.env.now in
    let state = model.state c.args.self.now.shelf in
    effect_possible model.within model.applied model.snapshot_of _ c.of_effect-change.result state c.of_effect-change.ensures
    (λ bytes is. ap is_some (g.met.S.Shelf.made_by_effect plan state c.args.call.now c.args.now bytes c.requires.small c.requires.limits (sym c.in_ok-executed.ensures.effect ∙ sym c.as_ref-2.ensures.value ∙ is)))

pub returns-clause-ok : goal.returns-clause-ok
returns-clause-ok g c =
    let model = g.S.Shelf.model in
    let met = g.met.S.Shelf in
    let plan = g.S.Executes.plan_of c.args.env.now in
    let old = c.args.self.now in
    let state = model.state old.shelf in
    let call = c.args.call.now in
    let now = c.args.now in
    let id = c.args.id in
    let executed = c.in_ok-executed.executed in
    let says = c.in_ok-executed.ensures in
    let object = model.object plan in
    let node = node_of old.facts in
    let changes = object.changes state call now in
    let after : ProtocolNode = executing changes id.conn id.number node in
    let room = c.in_ok-reserve.ensures.same in
    let counts = c.count_call.ensures in
    let settles = c.settle.ensures in
    let effect : option_copied c.as_ref-2.result ≡ model.effect_of plan state call now = c.as_ref-2.ensures.value ∙ says.effect in
    let written : option_copied c.as_ref.result ≡ model.effect_of plan state call now = c.as_ref.ensures.value ∙ says.effect in
    let counted : node_of c.count_call.new.self ≡ after =
    counts.node ∙ ap (λ (n : ProtocolNode). executing (is_some executed.effect) id.conn id.number n) room.node
    ∙ ap (λ b. executing b id.conn id.number node) (ap is_some says.effect ∙ sym (met.changes_by_effect plan state call now)) in
    let answer = λ (n : ProtocolNode) (reply : List ℕ) (change : Option Change). all_of (answers_of old.facts) ++ answer_at n id reply change ∷ [] in
    record {
      reached = c.requires.reached;
      node = settles.node ∙ ap settled counted;
      contents = effect_leaves model.within model.applied model.snapshot_of _ c.of_effect-change.result state _ (object.after state call now) c.of_effect-change.ensures
          (λ none. met.same_without_effect plan state call now (sym effect ∙ none))
          (λ bytes is. met.made_by_effect plan state call now bytes c.requires.small c.requires.limits (sym effect ∙ is))
          c.in_ok-perform.ensures.ok;
      sent = λ k bytes is h. (c.in_ok-sent.ensures.sent k bytes id.conn id.number (written ∙ is) h).out;
      fits = λ k bytes is h. (c.in_ok-sent.ensures.sent k bytes id.conn id.number (written ∙ is) h).fits;
      silent = λ is. c.in_ok-sent.ensures.silent (written ∙ is);
      answers = settles.answers ∙ counts.answers ∙ ap (λ l. l ++ answer_at (node_of c.count_call.new.self) id executed.reply executed.change ∷ []) room.answers
          ∙ ap (λ n. answer n executed.reply executed.change) counted ∙ ap (λ r. answer after r executed.change) says.reply ∙ ap (answer after (object.reply state call now)) says.change;
      ring = settles.ring ∙ counts.ring ∙ ap (ring_after executed.effect) room.ring ∙ ap (λ e. ring_after e (ring_of old.facts)) says.effect;
      version = ap (λ (p : Pair). p.version) (c.pair.view_is ∙ c.pair-pair.ensures) ∙ ap (λ (n : ProtocolNode). n.pair.version) counted;
      seen = ap (λ (p : Pair). p.count) (c.pair.view_is ∙ c.pair-pair.ensures) ∙ ap (λ (n : ProtocolNode). n.pair.count) counted;
      reply = c.in_ok-reply.ensures ∙ says.reply;
      held = c.holds_any.ensures;
      ends = ap (λ n. let e : Ends = record { member = n; service = old.service } in e) (settles.member ∙ counts.member ∙ room.member);
    }
