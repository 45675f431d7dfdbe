use Rattle.std.proofs.Common.{◌≡◌, ◌-◌, ◌+◌, ◌++◌, ◌≤◌, ℕ, List, length, take, drop, arith, length-append}
use Rattle.std.proofs.lemmas.List.{length-take, length-drop}
use Rattle.grid_cli.proofs.Tests.{all_lines, long_line, no_limit}
use Rattle.live_control.specs.Reading.{up_to}
use Rattle.live_control.proofs.lines.LineReader.limit_at.Goals as goal

-- how long the line then is
longer : (line piece : List ℕ) (from end : ℕ) → end ≤ length piece → length (line ++ drop from (take end piece)) ≡ length line + (end - from)
longer line piece from end less = omega (arith, less, length-append line (drop from (take end piece)), length-drop from (take end piece), length-take end piece)

pub returns-then-self-eq-MOST_LINES : goal.returns-then-self-eq-MOST_LINES
returns-then-self-eq-MOST_LINES c = all_lines c.args.self.now.lines (c.args.self.now.line.items ++ up_to c.args.self.now c.args.end) c.if-self-eq-MOST_LINES.true

pub returns-then-len-end-gt-MOST_LINE_BYTES : goal.returns-then-len-end-gt-MOST_LINE_BYTES
returns-then-len-end-gt-MOST_LINE_BYTES c =
    let r = c.args.self.now in
    long_line r.lines (r.line.items ++ up_to r c.args.end) c.if-self-eq-MOST_LINES.false
    (omega (arith, c.len.ensures, r.line.ok.0, r.piece.ok.0, longer r.line.items r.piece.items r.from c.args.end (omega (arith, c.requires.inside, r.piece.ok.0)), c.if-len-end-gt-MOST_LINE_BYTES.true))

pub returns-else-len-end-gt-MOST_LINE_BYTES : goal.returns-else-len-end-gt-MOST_LINE_BYTES
returns-else-len-end-gt-MOST_LINE_BYTES c =
    let r = c.args.self.now in
    no_limit r.lines (r.line.items ++ up_to r c.args.end) c.if-self-eq-MOST_LINES.false
    (omega (arith, c.len.ensures, r.line.ok.0, r.piece.ok.0, longer r.line.items r.piece.items r.from c.args.end (omega (arith, c.requires.inside, r.piece.ok.0)), c.if-len-end-gt-MOST_LINE_BYTES.false))
