use Rattle.transcript_checks.proofs.Lines.{is_same}
use Rattle.transcript_checks.proofs.difference.first_difference.Goals as goal

pub returns-clause-same : goal.returns-clause-same
returns-clause-same c = is_same c.compare_lines.result c.args.printed.now c.args.wanted.now c.compare_lines.ensures
