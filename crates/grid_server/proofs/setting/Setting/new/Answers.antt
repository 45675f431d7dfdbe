use Rattle.std.proofs.Common.{◌≡◌, ◌*◌, map, length, sym, ap, ◌∙◌, subst, arith}
use Rattle.hand_cell.specs.declared.names.Names.TheVariants.{Every}
use Rattle.session_calls.specs.Passes.{giving_up, given, HaveNumber, ArePassesOf}
use Rattle.partition_threads.specs.Workplaces.{AreTokensAt}
use Rattle.live_grid.specs.Grids.{place_of}
use Rattle.grid_server.specs.Settings.{AreNew}
use Rattle.grid_server.proofs.Beginning.{first_new, second_new, second_named, may_control}
use Rattle.grid_server.proofs.setting.Setting.new.Goals as goal

pub returns-clause-setting : goal.returns-clause-setting
returns-clause-setting g c =
    let cells = (place_of c.in_ok-grid.grid).cells.items in
    let before = c.workers_of.ensures.passes_stay ∙ c.in_ok-grid.ensures.passes in
    let left = c.in_ok-passes.ensures.left ∙ ap (map (giving_up Every)) before in
    let theirs = c.in-Ok.ensures.passes ∙ (c.in_ok-passes.ensures.parts ∙ ap (map (given Every)) before) in
    let long = c.in_ok-grid.pass.tokens.ok.0 in
    let four = c.in_ok-grid.ensures.workers in
    let as_many : length c.in_ok-grid.pass.tokens.items ≡ 4 * c.args.options.members = omega (arith, long, four) in
    record {
      cells = c.in_ok-grid.ensures.cells;
      may_control = may_control c.in_ok-grid.grid c.split.new.pass c.in_ok-grid.ensures.of_grid.as_many left;
      unseen = subst AreNew (sym left) (first_new cells);
      tokens = c.in_ok-passes.ensures.kept.workers;
      workers = c.in_ok-workers.ensures.workers;
      connections = record {
        none_came = c.in-Ok.ensures.none_came;
        no_clients = c.in-Ok.ensures.no_clients;
        room = c.in-Ok.ensures.room;
        of_grid = record {
          cells = subst (ArePassesOf cells) (sym c.in-Ok.ensures.passes) c.in_ok-passes.ensures.other.cells;
          workers = subst (AreTokensAt (place_of c.in_ok-grid.grid)) (sym c.in-Ok.ensures.tokens) c.in_ok-passes.ensures.other.workers;
        };
        named = λ number. subst (HaveNumber number) (sym theirs) (second_named cells number);
        unseen = subst AreNew (sym theirs) (second_new cells);
        workers = ap length c.in-Ok.ensures.tokens ∙ (c.in_ok-passes.ensures.workers ∙ (ap length c.workers_of.ensures.tokens_stay ∙ as_many));
      };
    }
