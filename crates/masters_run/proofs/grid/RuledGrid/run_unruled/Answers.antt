use Rattle.std.proofs.Common.{refl, arith}
use Rattle.std.proofs.lemmas.Result.{on_ok_weaker}
use Rattle.masters_run.proofs.ByGrid.{IsUnruled, alone_gave, alone_up, unruled_alone, masters_later, is_unruled, unruled_as}
use Rattle.masters_run.proofs.LineParts.{next_number, gives_told}
use Rattle.masters_run.proofs.grid.RuledGrid.run_unruled.Goals as goal
use Rattle.masters_run.proofs.grid.RuledGrid.run_unruled.Goals.{in_default-via-in-Masters+else-number-eq2, in_default-via-in_default}

pub returns-in-Masters-clause-ok : goal.returns-in-Masters-clause-ok
returns-in-Masters-clause-ok g c = λ settings s stands. on_ok_weaker c.begin_masters.result (gives_told c.in-Masters.is refl c.args.out.now c.begin_masters.new.out) (c.begin_masters.ensures.ok settings s stands)

pub returns-in_default-clause-ok : goal.returns-in_default-clause-ok
returns-in_default-clause-ok g c = λ settings s stands.
    let all = c.args.self.now in
    let new = record all { grid = c.run_line.new.self } in
    let line = c.args.line.now in
    let at_line = next_number all c.args.number line c.requires.may s stands in
    let its : IsUnruled settings s line = elim c.in_default.branch [
      | in_default-via-in-Masters+else-number-eq2 w ↦ unruled_as settings s line w.in-Masters.is (masters_later settings s (λ one. absurd (w.if-number-eq2.false (omega (arith, at_line, one)))))
      | in_default-via-in_default w ↦ is_unruled settings s line w.in_default.not-Masters
    ] in
    on_ok_weaker c.run_line.result (alone_gave all new s stands line (unruled_alone settings s line all.masters.items (c.requires.none settings s stands) its) c.args.out.now c.run_line.new.out) (c.run_line.ensures.ok settings s.run stands.grid)

pub returns-in_default-clause-full : goal.returns-in_default-clause-full
returns-in_default-clause-full g c = λ settings s stands full.
    let all = c.args.self.now in
    let new = record all { grid = c.run_line.new.self } in
    let line = c.args.line.now in
    let at_line = next_number all c.args.number line c.requires.may s stands in
    let its : IsUnruled settings s line = elim c.in_default.branch [
      | in_default-via-in-Masters+else-number-eq2 w ↦ unruled_as settings s line w.in-Masters.is (masters_later settings s (λ one. absurd (w.if-number-eq2.false (omega (arith, at_line, one)))))
      | in_default-via-in_default w ↦ is_unruled settings s line w.in_default.not-Masters
    ] in
    alone_up all new s stands line (unruled_alone settings s line all.masters.items (c.requires.none settings s stands) its) (c.run_line.ensures.full settings s.run stands.grid full)
