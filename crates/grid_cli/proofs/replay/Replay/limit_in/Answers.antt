use Rattle.std.proofs.Common.{◌++◌, length, ap, arith, length-append}
use Rattle.script_lang.specs.Words.{whole_lines, unfinished}
use Rattle.grid_cli.proofs.Tests.{all_lines, long_line, no_limit}
use Rattle.grid_cli.proofs.replay.Replay.limit_in.Goals as goal

pub returns-then-lines-eq-MOST_LINES : goal.returns-then-lines-eq-MOST_LINES
returns-then-lines-eq-MOST_LINES g c = λ forms skips read written has.
    let lines = c.lines.ensures forms skips (whole_lines read) written has.follows in
    all_lines (length (whole_lines read)) (unfinished read ++ c.args.more.now) (omega (arith, lines, c.if-lines-eq-MOST_LINES.true))

pub returns-then-len-more-gt-MOST_LINE_BYTES : goal.returns-then-len-more-gt-MOST_LINE_BYTES
returns-then-len-more-gt-MOST_LINE_BYTES g c = λ forms skips read written has.
    let lines = c.lines.ensures forms skips (whole_lines read) written has.follows in
    long_line (length (whole_lines read)) (unfinished read ++ c.args.more.now) (λ all. c.if-lines-eq-MOST_LINES.false (omega (arith, lines, all)))
    (omega (arith, c.len.ensures, ap length has.rest, length-append (unfinished read) c.args.more.now, c.if-len-more-gt-MOST_LINE_BYTES.true))

pub returns-else-len-more-gt-MOST_LINE_BYTES : goal.returns-else-len-more-gt-MOST_LINE_BYTES
returns-else-len-more-gt-MOST_LINE_BYTES g c = λ forms skips read written has.
    let lines = c.lines.ensures forms skips (whole_lines read) written has.follows in
    no_limit (length (whole_lines read)) (unfinished read ++ c.args.more.now) (λ all. c.if-lines-eq-MOST_LINES.false (omega (arith, lines, all)))
    (omega (arith, c.len.ensures, ap length has.rest, length-append (unfinished read) c.args.more.now, c.if-len-more-gt-MOST_LINE_BYTES.false))
