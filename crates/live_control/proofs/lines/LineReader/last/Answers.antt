use Rattle.std.proofs.Common.{◌≡◌, ◌==◌, false, length, ap, sym, ◌∙◌}
use Rattle.live_control.proofs.Looking.{ended_without, ended_with, last_room}
use Rattle.live_control.proofs.lines.LineReader.last.Goals as goal

pub returns-then-is_empty-clause-came : goal.returns-then-is_empty-clause-came
returns-then-is_empty-clause-came c = λ source came given h at_end.
    record {
      count = h.count;
      all = ended_without c.args.self.now source came given h c.requires.going c.requires.spent c.requires.within (ap (λ n. n == 0) (sym c.args.self.now.line.ok.0) ∙ (sym c.is_empty.ensures ∙ c.if-is_empty.true));
      at_end = at_end;
    }

pub returns-clause-came : goal.returns-clause-came
returns-clause-came c = λ source came given h at_end.
    let some : (length c.args.self.now.line.items == 0) ≡ false = ap (λ n. n == 0) (sym c.args.self.now.line.ok.0) ∙ (sym c.is_empty.ensures ∙ c.if-is_empty.false) in
    (ended_with c.args.self.now source came given h c.requires.going c.requires.spent c.requires.within some at_end, last_room c.args.self.now source came given h c.requires.going c.requires.spent c.requires.within some)
