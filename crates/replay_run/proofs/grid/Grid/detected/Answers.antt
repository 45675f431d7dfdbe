use Rattle.std.proofs.Common.{◌∙◌, ◌++◌, ◌∷◌, [], ℕ, filter, Vec, Global, ap, sym, add-one}
use Rattle.partition_protocol.specs.Service.{numbers_below}
use Rattle.partition_protocol.proofs.Histories.{filter_keeps, filter_out}
use Rattle.call_engine.specs.Objects.{partition_object}
use Rattle.replay_run.specs.Rebalancing.{is_detected_in}
use Rattle.replay_run.proofs.grid.Grid.detected.Goals as goal
use Rattle.replay_run.proofs.grid.Grid.detected.Goals.{then-is_detected+in_ok-push, else-is_detected}

pub loop-member-preserved : goal.loop-member-preserved
loop-member-preserved g c = λ settings r amid.
    let t = is_detected_in (partition_object settings) r in
    let k = c.loop-member.member in
    let more = ap (λ n. filter t (numbers_below n)) (add-one k) in
    elim c.if-is_detected.branch [
      | then-is_detected+in_ok-push w ↦
          ap (λ (v : Vec ℕ Global). v.items) w.detected-is ∙ w.in_ok-push.ensures.items ∙ ap (λ xs. xs ++ k ∷ []) (c.loop-member.invariant settings r amid)
          ∙ sym (more ∙ filter_keeps t (numbers_below k) k (sym (c.is_detected.ensures settings r amid) ∙ w.if-is_detected.true))
      | else-is_detected w ↦
          ap (λ (v : Vec ℕ Global). v.items) w.detected-is ∙ c.loop-member.invariant settings r amid
          ∙ sym (more ∙ filter_out t (numbers_below k) k (sym (c.is_detected.ensures settings r amid) ∙ w.if-is_detected.false))
    ]
