use Rattle.std.proofs.Common.{◌∙◌, ◌++◌, Err, ap}
use Rattle.masters_world.specs.Machine.{Asks}
use Rattle.replay_run.specs.Runs.{At}
use Rattle.replay_run.specs.Grids.{most_arriving}
use Rattle.replay_run.specs.declared.run_end.RunEnd.TheVariants.{InFlight}
use Rattle.replay_run.specs.LineTold.{came_to}
use Rattle.replay_run.proofs.Asking.{handed_on}
use Rattle.replay_run.proofs.EventLines.{of_event}
use Rattle.masters_run.specs.Answers.{answer_of}
use Rattle.masters_run.specs.Runs.{counted}
use Rattle.masters_run.proofs.AtOnce.{as_event}
use Rattle.masters_run.proofs.LineParts.{may_count, few_lines, counted_amid, may_ask}
use Rattle.masters_run.proofs.OneAsked.{event_asked, asked_ran, asked_up}
use Rattle.masters_run.proofs.grid.RuledGrid.run_proposal.Goals as goal

pub count-requires : goal.count-requires
count-requires g c = may_count c.args.self.now c.args.number c.requires.may.0 c.requires.may.1

pub propose-requires : goal.propose-requires
propose-requires g c =
    let all = c.args.self.now in
    let line = c.requires.may.0 in
    let may = c.requires.may.1 in
    let by = c.requires.may.2 may.settings may.run may.stands in
    let e : At = record { partition = c.args.partition; event = by.0 } in
    let placed = (of_event may.settings may.run.run line e by.1).within may.run.run.members most_arriving may.read in
    record {
      may = may_ask all may.run may.stands (few_lines all c.args.number line may may.run may.stands) c.count.new.self (c.requires.ruled may.settings may.run may.stands)
          (counted_amid all may.run may.stands c.count.new.self c.count.ensures.masters (c.count.ensures.amid may.settings may.run.run may.stands.grid)) c.args.partition placed;
      event = by.0;
      proposes = by.2;
    }

pub returns-in_err-proposal-clause-full : goal.returns-in_err-proposal-clause-full
returns-in_err-proposal-clause-full g c = λ line proposes settings s stands was.
    let all = c.args.self.now in
    let by = proposes settings s stands in
    let e : At = record { partition = c.args.partition; event = by.0 } in
    let amid = counted_amid all s stands c.count.new.self c.count.ensures.masters (c.count.ensures.amid settings s.run stands.grid) in
    let why = handed_on c.from_residual.result c.in_err-proposal.field-0.0 InFlight c.from_residual.ensures.1 was in
    asked_up all s stands (c.requires.ruled settings s stands) line c.args.partition (Asks by.0) (event_asked settings s line e (as_event settings s line e by.1))
    (c.in_err-proposal.ensures.full settings (counted s) by.0 amid by.2 (ap Err why))

pub returns-clause-ok : goal.returns-clause-ok
returns-clause-ok g c = λ line proposes settings s stands.
    let all = c.args.self.now in
    let by = proposes settings s stands in
    let e : At = record { partition = c.args.partition; event = by.0 } in
    let old_line = c.requires.may.0 in
    let may = c.requires.may.1 in
    let old_by = c.requires.may.2 may.settings may.run may.stands in
    let placed = (of_event may.settings may.run.run old_line (record { partition = c.args.partition; event = old_by.0 }) old_by.1).within may.run.run.members most_arriving may.read in
    let amid = counted_amid all s stands c.count.new.self c.count.ensures.masters (c.count.ensures.amid settings s.run stands.grid) in
    asked_ran all s stands (c.requires.ruled settings s stands) line c.args.partition (Asks by.0) (event_asked settings s line e (as_event settings s line e by.1))
    (few_lines all c.args.number old_line may s stands) placed c.propose.new.self (answer_of c.in_ok-proposal.proposal) c.new-followed.result.items c.propose.new.out.items (c.in_ok-proposal.ensures.ok settings (counted s) by.0 amid by.2)
    c.args.out.now.items c.tell_with.new.out.items c.new-followed.ensures.items
    (c.in_ok-tell_with.ensures ∙ ap (λ x. c.args.out.now.items ++ came_to x ++ c.propose.new.out.items) c.proposal_outcome.ensures)
