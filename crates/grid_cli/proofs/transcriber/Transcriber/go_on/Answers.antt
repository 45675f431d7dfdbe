use Rattle.std.proofs.Common.{false, ◌+◌, sym, ◌∙◌, ap, arith}
use Rattle.script_lang.specs.Lines.{line_of}
use Rattle.grid_cli.specs.Transcripts.{settings}
use Rattle.grid_cli.proofs.LineLimits.{within_more}
use Rattle.grid_cli.proofs.Members.{has_members}
use Rattle.grid_cli.proofs.transcriber.Transcriber.go_on.Goals as goal

pub read_line-requires : goal.read_line-requires
read_line-requires g c = λ later.
    let stands = c.requires.stands in
    let same = c.members.ensures (settings stands.0 stands.1) stands.2 stands.3 in
    let some = has_members stands.2.run stands.3.goes.grid.grid.run in
    (omega (arith, same, some), omega (arith, same, stands.5))

pub run_line-requires-clause-may : goal.run_line-requires-clause-may
run_line-requires-clause-may g c =
    let stands = c.requires.stands in
    let by = settings stands.0 stands.1 in
    let lines = c.lines-number.ensures by stands.2 stands.3 in
    record {
      settings = by;
      run = stands.2;
      stands = stands.3;
      read = within_more c.in-Ok.line _ _ _ _ (c.members.ensures by stands.2 stands.3) c.requires.room c.in-Ok.ensures.within;
      next = ap (λ n. n + 1) lines;
      within = omega (arith, lines, stands.4);
    }

pub returns-in-Ok : goal.returns-in-Ok
returns-in-Ok g c = λ forms skips done written follows.
    c.run_line.ensures forms skips done written follows c.args.text.now
    (ap (λ m. line_of false m c.args.text.now) (sym (c.members.ensures (settings forms follows.capacity) follows.run follows.stands)) ∙ c.in-Ok.ensures.line)
