use Rattle.std.proofs.Common.{◌≡◌, Err, ap, ◌+◌, ◌<◌, refl, sym, ◌∙◌, arith}
use Rattle.std.proofs.lemmas.Result.{err_from_is_err_and}
use Rattle.script_lang.specs.Limits.{most_lines}
use Rattle.running_grid.specs.declared.run_end.RunEnd.TheVariants as RunEnds
use Rattle.running_grid.proofs.Ends.{was_full}
use Rattle.running_grid.proofs.Grids.{not_given_up, may_run, has_run, same_grid, from_empty}
use Rattle.running_grid.proofs.running.RunningGrid.run.Goals as goal

pub print_line-requires : goal.print_line-requires
print_line-requires g c =
    let has = not_given_up c.args.self.now.members c.args.self.now.grid c.in-Some.grid (sym c.take.ensures.value ∙ c.in-Some.is) c.requires.stands.so in
    let counted = c.lines-number.ensures has.settings has.run has.stands in
    let room : c.lines-number.result < most_lines = omega (arith, counted, c.lines.ensures has.settings has.run has.stands, c.if-lines-ge-MOST_LINES.false) in
    may_run c.args.self.now.members (c.lines-number.result + 1) c.lines-number.result c.in-Some.grid c.args.line.now has counted refl room c.requires.within

pub returns-clause-stands : goal.returns-clause-stands
returns-clause-stands g c =
    let has = not_given_up c.args.self.now.members c.args.self.now.grid c.in-Some.grid (sym c.take.ensures.value ∙ c.in-Some.is) c.requires.stands.so in
    record {
      some = c.requires.stands.some;
      most = c.requires.stands.most;
      so = has_run c.args.self.now.members c.in-Some.grid c.print_line.new.self c.args.line.now _ _ has (c.in_ok-print_line.ensures.ok has.settings has.run has.stands);
    }

pub returns-clause-ran : goal.returns-clause-ran
returns-clause-ran g c = λ settings r stands.
    let here = same_grid settings c.args.self.now r c.in-Some.grid stands (sym c.take.ensures.value ∙ c.in-Some.is) in
    record {
      grid = c.print_line.new.self;
      there = refl;
      ran = from_empty settings c.print_line.new.self r c.args.line.now _ _ c.new-text.ensures.items (c.in_ok-print_line.ensures.ok settings r here);
    }

pub returns-in_err-print_line-clause-full : goal.returns-in_err-print_line-clause-full
returns-in_err-print_line-clause-full g c = λ settings r stands is.
    let here = same_grid settings c.args.self.now r c.in-Some.grid stands (sym c.take.ensures.value ∙ c.in-Some.is) in
    let p = err_from_is_err_and c.from_residual.result c.from_residual.ensures.1 in
    let told : p.0 ≡ RunEnds.InFlight = cc in
    c.in_err-print_line.ensures.full settings r here (ap Err (was_full _ (sym p.2 ∙ told)))
