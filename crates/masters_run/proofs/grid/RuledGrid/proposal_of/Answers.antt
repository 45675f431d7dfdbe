use Rattle.std.proofs.Common.{◌≡◌, ◌∙◌, Some, None, map, sym, ap, subst}
use Rattle.std.specs.Prelude.{option_to_list}
use Rattle.call_engine.specs.Objects.{partition_object}
use Rattle.masters_world.specs.Machine.{proposals}
use Rattle.partition_protocol.specs.Events.{Deliver}
use Rattle.partition_protocol.proofs.RowFacts.{number_other}
use Rattle.replay_run.specs.Grids.{boxed}
use Rattle.masters_run.specs.Parts.{IsProposalOf}
use Rattle.masters_run.specs.Runs.{ruled_at}
use Rattle.masters_run.specs.Written.{as_written}
use Rattle.masters_run.proofs.Proposals.{by_decision, takes_none, takes_some}
use Rattle.masters_run.proofs.grid.RuledGrid.proposal_of.Goals as goal
use Rattle.masters_run.proofs.grid.RuledGrid.proposal_of.Goals.{in_default-via-in-Deliver+else-to-members, in_default-via-in_default}

pub returns-in-Some : goal.returns-in-Some
returns-in-Some g c =
    let all = c.args.self.now in
    let p = c.in-Deliver.partition in
    let from = c.in-Deliver.from in
    let place = c.in-Deliver.place in
    subst (λ l. IsProposalOf (boxed (λ z. (goal.Processor-dyn g z).form z.1)) all l (Some (p, c.in-Some.decision))) (sym c.in-Deliver.is)
    (takes_some (boxed (λ z. (goal.Processor-dyn g z).form z.1)) all p from c.in-Deliver.to place c.in-Some.decision
    (λ settings s stands. ap option_to_list (sym c.in-Some.is) ∙ c.in_ok-decision-in-Deliver.ensures settings s stands
    ∙ ap (λ n. map as_written (proposals (ruled_at (partition_object settings) s p) (Deliver from n place))) (sym (c.if-to-members.true ∙ c.members.ensures settings s.run stands.grid.holds))))

pub returns-in-None : goal.returns-in-None
returns-in-None g c =
    let all = c.args.self.now in
    let p = c.in-Deliver.partition in
    let from = c.in-Deliver.from in
    let place = c.in-Deliver.place in
    subst (λ l. IsProposalOf (boxed (λ z. (goal.Processor-dyn g z).form z.1)) all l None) (sym c.in-Deliver.is)
    (takes_none (boxed (λ z. (goal.Processor-dyn g z).form z.1)) all p from c.in-Deliver.to place
    (λ settings s stands. ap option_to_list (sym c.in-None.is) ∙ c.in_ok-decision-in-Deliver.ensures settings s stands
    ∙ ap (λ n. map as_written (proposals (ruled_at (partition_object settings) s p) (Deliver from n place))) (sym (c.if-to-members.true ∙ c.members.ensures settings s.run stands.grid.holds))))

pub returns-in_default : goal.returns-in_default
returns-in_default g c =
    by_decision _ c.args.self.now c.args.line.now
    (λ settings s p f t i stands is. elim c.in_default.branch [
      | in_default-via-in-Deliver+else-to-members w ↦
          (let same : t ≡ w.in-Deliver.to = let e = sym is ∙ w.in-Deliver.is in cc in
          number_other t s.run.members (λ here. absurd (w.if-to-members.false (sym same ∙ here ∙ sym (w.members.ensures settings s.run stands.grid.holds)))))
      | in_default-via-in_default w ↦ absurd (w.in_default.not-Deliver p f t i is)
    ])
    c.decision_by.result c.decision_by.ensures
