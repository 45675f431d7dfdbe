use Rattle.std.proofs.Common.{◌∙◌, refl, sym, subst}
use Rattle.std.proofs.lemmas.Result.{on_ok_weaker}
use Rattle.script_lang.specs.Lines.{IsWithin}
use Rattle.replay_run.specs.Grids.{most_arriving}
use Rattle.replay_run.specs.Grids as alone
use Rattle.masters_run.specs.Grids.{IsGivenUp}
use Rattle.masters_run.proofs.ByGrid.{RunsAlone, alone_gave, alone_up, by_alone, crash_alone}
use Rattle.masters_run.proofs.LineParts.{alone_may, may_run_as, gives_told}
use Rattle.masters_run.proofs.grid.RuledGrid.run_unasked.Goals as goal

pub run_flow-requires-clause-may : goal.run_flow-requires-clause-may
run_flow-requires-clause-may g c = may_run_as c.in-Flow.is c.requires.may

pub returns-in-Flow-clause-ok : goal.returns-in-Flow-clause-ok
returns-in-Flow-clause-ok g c = λ settings s stands. on_ok_weaker c.run_flow.result (gives_told c.in-Flow.is refl c.args.out.now c.run_flow.new.out) (c.run_flow.ensures.ok settings s stands)

pub run_flow_all-requires-clause-may : goal.run_flow_all-requires-clause-may
run_flow_all-requires-clause-may g c = may_run_as c.in-FlowAll.is c.requires.may

pub returns-in-FlowAll-clause-ok : goal.returns-in-FlowAll-clause-ok
returns-in-FlowAll-clause-ok g c = λ settings s stands. on_ok_weaker c.run_flow_all.result (gives_told c.in-FlowAll.is refl c.args.out.now c.run_flow_all.new.out) (c.run_flow_all.ensures.ok settings s stands)

pub run_detection-requires-clause-may : goal.run_detection-requires-clause-may
run_detection-requires-clause-may g c = may_run_as c.in-Detect.is c.requires.may

pub returns-in-Detect-clause-ok : goal.returns-in-Detect-clause-ok
returns-in-Detect-clause-ok g c = λ settings s stands. on_ok_weaker c.run_detection.result (gives_told c.in-Detect.is refl c.args.out.now c.run_detection.new.out) (c.run_detection.ensures.ok settings s stands)

pub returns-in-Detect-clause-full : goal.returns-in-Detect-clause-full
returns-in-Detect-clause-full g c = λ settings s stands full. subst (IsGivenUp settings s) (sym c.in-Detect.is) (c.run_detection.ensures.full settings s stands full)

pub run_line-requires : goal.run_line-requires
run_line-requires g c = alone_may c.args.self.now c.crash.new.self c.crash.ensures.grid c.args.number c.args.line.now c.requires.may

pub returns-in-Crash-clause-ok : goal.returns-in-Crash-clause-ok
returns-in-Crash-clause-ok g c = λ settings s stands.
    let all = c.args.self.now in
    let new = record c.crash.new.self { grid = c.run_line.new.self } in
    let line = c.args.line.now in
    let h : RunsAlone settings s line all.masters.items new.masters.items = subst (λ l. RunsAlone settings s l all.masters.items new.masters.items) (sym c.in-Crash.is)
    (crash_alone settings s c.in-Crash.member all.masters.items new.masters.items c.crash.ensures.masters (c.requires.ruled settings s stands)) in
    on_ok_weaker c.run_line.result (alone_gave all new s stands line h c.args.out.now c.run_line.new.out)
    (c.run_line.ensures.ok settings s.run (subst (λ x. alone.Stands (alone.boxed (λ z. (goal.Processor-dyn g z).form z.1)) settings x s.run) (sym c.crash.ensures.grid) stands.grid))

pub returns-in-Crash-clause-full : goal.returns-in-Crash-clause-full
returns-in-Crash-clause-full g c = λ settings s stands full.
    let all = c.args.self.now in
    let new = record c.crash.new.self { grid = c.run_line.new.self } in
    let line = c.args.line.now in
    let h : RunsAlone settings s line all.masters.items new.masters.items = subst (λ l. RunsAlone settings s l all.masters.items new.masters.items) (sym c.in-Crash.is)
    (crash_alone settings s c.in-Crash.member all.masters.items new.masters.items c.crash.ensures.masters (c.requires.ruled settings s stands)) in
    alone_up all new s stands line h (c.run_line.ensures.full settings s.run (subst (λ x. alone.Stands (alone.boxed (λ z. (goal.Processor-dyn g z).form z.1)) settings x s.run) (sym c.crash.ensures.grid) stands.grid) full)

pub returns-in_default : goal.returns-in_default
returns-in_default g c =
    let all = c.args.self.now in
    let line = c.args.line.now in
    let may = c.requires.may in
    let new = record all { grid = c.run_line-in_default.new.self } in
    record {
      ok = λ settings s stands.
          (let ruled = c.requires.ruled settings s stands in
          let same = sym may.stands.grid.holds.members ∙ stands.grid.holds.members in
          let h = by_alone settings s line all.masters.items ruled (λ e is. c.requires.nothing settings s e stands is) c.in_default.not-Flow c.in_default.not-FlowAll c.in_default.not-Crash c.in_default.not-Detect
          (c.requires.goes_on settings s stands) c.requires.other (subst (λ n. IsWithin n most_arriving line) same may.read) (stands.masters.ruled ruled) in
          on_ok_weaker c.run_line-in_default.result (alone_gave all new s stands line h c.args.out.now c.run_line-in_default.new.out) (c.run_line-in_default.ensures.ok settings s.run stands.grid));
      full = λ settings s stands full.
          (let ruled = c.requires.ruled settings s stands in
          let same = sym may.stands.grid.holds.members ∙ stands.grid.holds.members in
          let h = by_alone settings s line all.masters.items ruled (λ e is. c.requires.nothing settings s e stands is) c.in_default.not-Flow c.in_default.not-FlowAll c.in_default.not-Crash c.in_default.not-Detect
          (c.requires.goes_on settings s stands) c.requires.other (subst (λ n. IsWithin n most_arriving line) same may.read) (stands.masters.ruled ruled) in
          alone_up all new s stands line h (c.run_line-in_default.ensures.full settings s.run stands.grid full));
    }
