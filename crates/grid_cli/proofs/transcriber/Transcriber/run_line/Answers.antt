use Rattle.std.proofs.Common.{◌+◌, ◌++◌, Err, sym, ◌∙◌, ap}
use Rattle.grid_cli.specs.Transcripts.{settings, limit_text}
use Rattle.grid_cli.specs.declared.status.LimitWhat.TheVariants.{InFlight}
use Rattle.grid_cli.proofs.TranscriberLaws.{line_goes, line_ends, line_given_up, from_nothing}
use Rattle.grid_cli.proofs.transcriber.Transcriber.run_line.Goals as goal

pub returns-then-is_end : goal.returns-then-is_end
returns-then-is_end g c = λ forms skips done written follows text read.
    let ran = from_nothing c.requires.empty (c.in-Ok.ensures.ok (settings forms follows.capacity) follows.run follows.stands) in
    line_ends c.args.grid c.print_line.new.self skips done written text c.print_line.new.out.items follows c.args.line.now read ran (sym c.is_end.ensures ∙ c.if-is_end.true)

pub returns-else-is_end : goal.returns-else-is_end
returns-else-is_end g c = λ forms skips done written follows text read.
    let ran = from_nothing c.requires.empty (c.in-Ok.ensures.ok (settings forms follows.capacity) follows.run follows.stands) in
    line_goes c.args.grid c.print_line.new.self skips done written text c.print_line.new.out.items follows c.args.line.now read ran (sym c.is_end.ensures ∙ c.if-is_end.false)

pub returns-in-Err-InFlight : goal.returns-in-Err-InFlight
returns-in-Err-InFlight g c = λ forms skips done written follows text read.
    let may = c.requires.may in
    line_given_up c.args.grid c.args.self.now.stage skips done written text c.push_limit.new.out.items c.args.number follows c.args.line.now read
    (c.in-Err-InFlight.ensures.full (settings forms follows.capacity) follows.run follows.stands (ap Err c.in-Err-InFlight.field-0-is))
    (may.next ∙ ap (λ n. n + 1) (sym may.stands.goes.grid.grid.holds.lines ∙ follows.stands.goes.grid.grid.holds.lines))
    (c.in_ok-push_limit-in-Err-InFlight.ensures ∙ ap (λ xs. xs ++ limit_text c.args.number InFlight) c.clear.ensures.items)
