use Rattle.std.proofs.Common.{◌≡◌, ◌<◌, ◌∙◌, ap, sym, subst, true, false, None, arith, rules}
use Rattle.std.specs.Option.{is_some}
use Rattle.std.proofs.lemmas.Result.{on_ok_weaker}
use Rattle.script_lang.specs.declared.line.Line.TheVariants.{OpenConn}
use Rattle.call_engine.specs.Objects.{partition_object}
use Rattle.replay_run.specs.Runs.{can_open}
use Rattle.replay_run.specs.Tables.{Table, most_connections, opened_at}
use Rattle.replay_run.proofs.GridLines.{with_table, next_number, same_members, unopened, opened_line}
use Rattle.replay_run.proofs.LineFacts.{cannot_twice, can_once}
use Rattle.replay_run.proofs.grid.Grid.open.Goals as goal
use Rattle.replay_run.proofs.grid.Grid.open.Goals.{then-is_some-via-then-is_some, then-is_some-via-else-is_some+then-not-is_live}

-- It was opened before, or its member has crashed.
pub returns-then-is_some : goal.returns-then-is_some
returns-then-is_some g c = λ settings r s.
    let grid = c.args.self.now in
    let conn = c.args.conn in
    let member = c.args.member in
    let at_line = next_number grid c.args.number (OpenConn conn member) c.requires r s in
    let cannot : can_open (partition_object settings) r conn member ≡ false =
    elim c.then-is_some.branch [
      | then-is_some-via-then-is_some w ↦
          (let some : is_some (opened_at c.args.self.now.connections c.args.conn) ≡ true = search rules in
          cannot_twice (partition_object settings) grid.connections r s.holds.table conn member some)
      | then-is_some-via-else-is_some+then-not-is_live w ↦
          (let closed : opened_at c.args.self.now.connections c.args.conn ≡ None = search rules in
          can_once (partition_object settings) grid.connections r s.holds.table conn member closed ∙ sym (w.is_live.ensures settings r s) ∙ w.if-not-is_live.true)
    ] in
    on_ok_weaker c.pass.result
    (λ e. unopened grid c.pass.new.self r c.args.number conn member c.args.out.now.items c.pass.new.out.items s at_line c.requires.within cannot c.pass.ensures.grid e)
    c.pass.ensures.told

pub returns : goal.returns
returns g c = λ settings r s.
    let grid = c.args.self.now in
    let conn = c.args.conn in
    let member = c.args.member in
    let closed : opened_at c.args.self.now.connections c.args.conn ≡ None = search rules in
    let within : c.args.conn < most_connections = omega (arith, c.requires.read.0) in
    let at_line = next_number grid c.args.number (OpenConn conn member) c.requires r s in
    let there : c.args.member < r.members = subst (λ n. c.args.member < n) (same_members grid c.args.number (OpenConn conn member) c.requires r s) c.requires.read.1 in
    let can : can_open (partition_object settings) r conn member ≡ true =
    can_once (partition_object settings) grid.connections r s.holds.table conn member closed ∙ sym (c.is_live.ensures settings r s) ∙ c.if-not-is_live.false in
    on_ok_weaker c.count.result
    (λ e. opened_line grid c.count.new.self r c.args.number conn member c.args.out.now.items c.count.new.out.items s at_line c.requires.within within there closed can
    (c.count.ensures.grid ∙ ap (λ (t : Table). with_table grid c.args.number t) c.open.ensures) e)
    c.count.ensures.told
