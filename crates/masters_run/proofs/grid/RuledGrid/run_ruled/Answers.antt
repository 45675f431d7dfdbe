use Rattle.std.proofs.Common.{◌∙◌, refl, sym, subst}
use Rattle.std.proofs.lemmas.Result.{on_ok_weaker}
use Rattle.script_lang.specs.Lines.{IsWithin}
use Rattle.replay_run.specs.Grids.{most_arriving}
use Rattle.replay_run.proofs.LineCases.{event_writes_none}
use Rattle.masters_run.specs.Parts.{IsProposalOf}
use Rattle.masters_run.proofs.LineParts.{few_lines, gives_told}
use Rattle.masters_run.proofs.Passing.{passes, passed, held_writes_none}
use Rattle.masters_run.proofs.grid.RuledGrid.run_ruled.Goals as goal

pub returns-in-Some-clause-ok : goal.returns-in-Some-clause-ok
returns-in-Some-clause-ok g c = λ settings s stands.
    let line = c.args.line.now in
    let proposes = subst (IsProposalOf _ c.args.self.now line) c.in-Some.is c.in_ok-partition.ensures in
    on_ok_weaker c.run_proposal.result (gives_told refl (event_writes_none line _ (proposes settings s stands).1) c.args.out.now c.run_proposal.new.out) (c.run_proposal.ensures.ok line proposes settings s stands)

pub returns-in-Some-clause-full : goal.returns-in-Some-clause-full
returns-in-Some-clause-full g c = c.run_proposal.ensures.full c.args.line.now (subst (IsProposalOf _ c.args.self.now c.args.line.now) c.in-Some.is c.in_ok-partition.ensures)

pub returns-then-is_held_back-clause-ok : goal.returns-then-is_held_back-clause-ok
returns-then-is_held_back-clause-ok g c = λ settings s stands.
    let all = c.args.self.now in
    let line = c.args.line.now in
    let may = c.requires.may in
    let ruled = c.requires.ruled settings s stands in
    let nothing = subst (IsProposalOf _ all line) c.in_default.is c.in_ok-partition.ensures in
    let read = subst (λ n. IsWithin n most_arriving line) (sym may.stands.grid.holds.members ∙ stands.grid.holds.members) may.read in
    let held = sym (c.is_held_back.ensures settings s stands) ∙ c.if-is_held_back.true in
    let its = passes settings s (stands.masters.ruled ruled) line held (λ e is. nothing settings s e stands is) read in
    gives_told refl (held_writes_none settings s line held) c.args.out.now c.pass.new.out
    (passed all c.pass.new.self s stands (few_lines all c.args.number line may s stands) line ruled its c.pass.ensures.masters (c.pass.ensures.amid settings s.run stands.grid) c.args.out.now.told.items c.pass.new.out.items c.in_ok-pass.ensures.told)
