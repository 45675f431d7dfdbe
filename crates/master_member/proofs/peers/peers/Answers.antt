-- One number more is a peer's, or isn't.
use Rattle.std.proofs.Common.{ℕ, Vec, Global, ◌==◌, ◌&&◌, ◌∷◌, ◌++◌, [], not, sym, ap, ◌∙◌}
use Rattle.partition_table.specs.Rows.{is_among}
use Rattle.master_member.proofs.Numbers.{filter_more, filter_same}
use Rattle.master_member.proofs.peers.peers.Goals as goal

pub loop-member-preserved : goal.loop-member-preserved
loop-member-preserved c =
    let m = c.loop-member.member in
    let test = λ (p : ℕ). not (p == c.args.number) && not (is_among c.args.told.now p) in
    elim c.if-is_peer.branch [
      | goal.then-is_peer+in_ok-push w ↦ ap (λ (v : Vec ℕ Global). v.items) w.peers-is ∙ w.in_ok-push.ensures.items ∙ ap (λ xs. xs ++ m ∷ []) c.loop-member.invariant ∙ sym (filter_more test m (sym c.is_peer.ensures ∙ w.if-is_peer.true))
      | goal.else-is_peer w ↦ ap (λ (v : Vec ℕ Global). v.items) w.peers-is ∙ c.loop-member.invariant ∙ sym (filter_same test m (sym c.is_peer.ensures ∙ w.if-is_peer.false))
    ]
