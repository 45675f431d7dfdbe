use Rattle.std.proofs.Common.{◌∙◌, length, slice_get, sym, ap, arith}
use Rattle.replay_run.proofs.RunsOfLines.{run_ok}
use Rattle.script_lang.specs.declared.line.Line.TheVariants.{Masters}
use Rattle.masters_run.proofs.LineParts.{next_number, few_lines}
use Rattle.masters_run.proofs.Passing.{begins}
use Rattle.masters_run.proofs.grid.RuledGrid.begin_masters.Goals as goal

pub opening_masters-requires-clause-some : goal.opening_masters-requires-clause-some
opening_masters-requires-clause-some g c =
    let may = c.requires.may in
    let some = (run_ok may.stands.grid.run).members in
    let is = c.members.ensures may.settings may.run.run may.stands.grid.holds in
    omega (arith, some, is)

pub opening_masters-requires-clause-most : goal.opening_masters-requires-clause-most
opening_masters-requires-clause-most g c =
    let may = c.requires.may in
    let most = may.stands.masters.most in
    let is = c.members.ensures may.settings may.run.run may.stands.grid.holds in
    omega (arith, most, is)

pub returns-clause-ok : goal.returns-clause-ok
returns-clause-ok g c = λ settings s stands.
    let all = c.args.self.now in
    let new = c.count.new.self in
    let may = c.requires.may in
    let at_line = next_number all c.args.number Masters may s stands in
    let second = c.requires.second in
    let is = c.members.ensures settings s.run stands.grid.holds in
    let same = ap (λ ms. ms.items) c.count.ensures.masters in
    begins all new s stands (few_lines all c.args.number Masters may s stands) (c.requires.none settings s stands) (omega (arith, at_line, second)) (c.count.ensures.amid settings s.run stands.grid)
    (ap (λ ms. length ms) same ∙ c.in_ok-self.ensures.count)
    (λ p kept there. let its = c.in_ok-self.ensures.each p kept (ap (λ ms. slice_get ms p) (sym same) ∙ there) in (its.0 ∙ is, its.1))
    c.args.out.now.items c.tell_outcome.new.out.items c.in_ok-tell_outcome.ensures
