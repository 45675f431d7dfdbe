use Rattle.std.proofs.Common.{refl}
use Rattle.std.proofs.lemmas.Result.{on_ok_weaker}
use Rattle.script_lang.specs.declared.line.Line.TheVariants.{End}
use Rattle.replay_run.specs.Runs.{next_line}
use Rattle.replay_run.proofs.GridLines.{stands_as, counted_stands, counted_line, next_number}
use Rattle.replay_run.proofs.grid.Grid.end.Goals as goal

pub push_histories-requires : goal.push_histories-requires
push_histories-requires g c =
    let r = c.requires.run in
    let at_line = next_number c.args.self.now c.args.number End c.requires r c.requires.stands in
    (c.requires.settings, next_line r, stands_as c.count.ensures.grid (counted_stands c.args.self.now r c.args.number c.requires.stands at_line c.requires.within))

pub returns : goal.returns
returns g c = λ settings r s.
    let at_line = next_number c.args.self.now c.args.number End c.requires r s in
    let stands = stands_as c.count.ensures.grid (counted_stands c.args.self.now r c.args.number s at_line c.requires.within) in
    on_ok_weaker c.push_histories.result
    (λ e. record {
      told = counted_line c.args.self.now c.count.new.self r c.args.number End s at_line c.requires.within refl c.count.ensures.grid c.args.out.now.told.items c.count.new.out.items refl refl refl c.in_ok-count.ensures.told;
      printed = e;
    })
    (c.push_histories.ensures settings (next_line r) stands)
