use Rattle.std.proofs.Common.{◌≡◌, ◌<◌, ◌+◌, ◌∙◌, [], ◌++◌, append-nil, ap, sym, subst, refl, arith}
use Rattle.std.proofs.lemmas.Result.{on_ok_weaker}
use Rattle.script_lang.specs.declared.line.Line.TheVariants.{Dump}
use Rattle.partition_world.specs.ContentsOf.{pair_at, contents_at}
use Rattle.table_service.specs.Services.{Setup}
use Rattle.partition_world.specs.Worlds.{run_of}
use Rattle.call_engine.specs.Calls.{Settings}
use Rattle.call_engine.specs.Objects.{partition_object}
use Rattle.replay_run.specs.Dumps.{dumped_text}
use Rattle.replay_run.specs.Runs.{next_line, events_at, world_at, partitions}
use Rattle.replay_run.specs.LineTold.{came_to}
use Rattle.line_told.specs.declared.told.LineOutcome.TheVariants.{Dumped}
use Rattle.partition_protocol.specs.Node.{Pair}
use Rattle.replay_run.specs.Shelves.{grid_meaning}
use Rattle.replay_run.specs.Grids.{StandsForEvents}
use Rattle.replay_run.proofs.Asking.{world_within, world_is, told_of}
use Rattle.replay_run.proofs.WorldRuns.{run_is}
use Rattle.replay_run.proofs.GridLines.{counted, counted_stands, counted_line, next_number}
use Rattle.replay_run.proofs.grid.Grid.dump.Goals as goal
use Rattle.call_engine.specs.Env.{settings_of}

pub index-requires : goal.index-requires
index-requires g c =
    let low : c.args.partition < partitions = omega (arith, c.requires.read.0) in
    let within = world_within c.args.self.now c.requires.run c.requires.stands.holds c.args.partition c.from.result low c.from.ensures in
    omega (arith, within, c.args.self.now.worlds.ok.0)

pub contents-pair-requires : goal.contents-pair-requires
contents-pair-requires g c =
    let low : c.args.partition < partitions = omega (arith, c.requires.read.0) in
    let is = world_is c.args.self.now c.requires.run c.requires.stands.holds c.args.partition c.from.result low c.from.ensures c.index.result.now c.index.ensures in
    let members = ap (λ (x : Setup). x.members) is.setup in
    let own = ap (λ (x : Setup). x.members) is.stands.agrees.setup in
    omega (arith, c.requires.read.1, members, own, is.stands.agrees.size)

pub returns : goal.returns
returns g c = λ settings r s.
    let p = c.args.partition in
    let number = c.args.number in
    let member = c.args.member in
    let grid = c.args.self.now in
    let low : p < partitions = omega (arith, c.requires.read.0) in
    let at_line = next_number grid number (Dump p member) c.requires r s in
    let stands = counted_stands grid r number s at_line c.requires.within in
    let world = c.index.result.now in
    let is = world_is (counted grid number) (next_line r) stands.holds p c.from.result low c.from.ensures world c.index.ensures in
    let events = events_at p r.events in
    let o = partition_object settings in
    let pair : c.contents-pair.result.pair ≡ pair_at (world_at o (next_line r) p) member =
    told_of _ (counted grid number) (next_line r) stands.holds p c.from.result low c.from.ensures world c.index.ensures (λ w. pair_at w member) c.contents-pair.result.pair (c.contents-pair.ensures.pair (settings_of _ grid.env)) in
    let shown : c.contents-pair.result.shelf.now ≡ contents_at o (world_at o (next_line r) p) member =
    subst (λ (x : Settings). StandsForEvents x world events → c.contents-pair.result.shelf.now ≡ contents_at (partition_object x) (run_of (grid_meaning x) world events) member) s.holds.goes_by (c.contents-pair.ensures.state (settings_of _ grid.env) events) is.stands
    ∙ ap (λ w. contents_at o w member) (run_is world (next_line r) p is) in
    let dumped = dumped_text (r.lines + 1) (contents_at o (world_at o (next_line r) p) member) in
    on_ok_weaker c.push_dumped.result
    (λ e. record {
      told = counted_line grid (counted grid number) r number (Dump p member) s at_line c.requires.within refl refl c.args.out.now.told.items c.tell_outcome.new.out.items refl refl refl
          (c.in_ok-tell_outcome.ensures ∙ ap (λ (x : Pair). c.args.out.now.told.items ++ came_to (Dumped x)) pair);
      printed = e ∙ (λ i. c.args.out.now.printed.items ++ dumped_text (at_line i) (shown i)) ∙ ap (λ xs. c.args.out.now.printed.items ++ xs) (sym (append-nil (dumped ++ []) ∙ append-nil dumped));
    })
    c.push_dumped.ensures
