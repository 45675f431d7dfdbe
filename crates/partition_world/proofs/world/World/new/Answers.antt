-- The members' nodes are those of the initial row, and nothing has happened.
use Rattle.std.proofs.Common.{refl}
use Rattle.partition_world.specs.declared.world.World.{World}
use Rattle.grid_base.specs.Shelves.{meaning}
use Rattle.partition_world.proofs.Starts.{IsNew, starts, none_waits}
use Rattle.partition_world.proofs.world.World.new.Goals as goal

pub returns-clause-stands : goal.returns-clause-stands
returns-clause-stands g c plan =
    let S = g.S.Shelf in
    let world : World _ _ _ _ = record {
      members = c.args.members;
      nodes = c.in_ok-nodes.nodes;
      crashed = c.new-4.result;
      service = c.in_ok-service.service;
      links = c.in_ok-links.links;
      recorder = c.in_ok-recorder.recorder;
      steps = 0;
    } in
    let opened = c.in_ok-nodes.ensures in
    let k = meaning S.model plan in
    let is : IsNew k g.R.Records.records world c.args.partition c.args.members c.args.backups = record {
      first = c.row.result.now;
      standing = c.row-2.result.now;
      nothing = S.model.empty_state;
      setup = c.in_ok-service.ensures.setup;
      number = refl;
      size = opened.len;
      nodes = opened.nodes;
      begins = g.met.S.Shelf.begins_empty plan;
      empty = opened.empty;
      waiting = opened.waiting;
      held = opened.held;
      ends = opened.ends;
      crashed = c.new-4.ensures.items;
      service = c.in_ok-service.ensures.service;
      links_ends = c.in_ok-links.ensures.ends;
      links = c.in_ok-links.ensures.lists;
      first_row = c.row.ensures;
      standing_row = c.row-2.ensures;
      recorded = c.in_ok-recorder.ensures;
      steps = refl;
    } in
    starts k g.R.Records.records S.model.within_limits world c.args.partition c.args.members c.args.backups is c.requires.some c.requires.most

pub returns-clause-waiting : goal.returns-clause-waiting
returns-clause-waiting g c m =
    let world : World _ _ g.row.S-Plan.Denot g.row.S-Call.Denot = record {
      members = c.args.members;
      nodes = c.in_ok-nodes.nodes;
      crashed = c.new-4.result;
      service = c.in_ok-service.service;
      links = c.in_ok-links.links;
      recorder = c.in_ok-recorder.recorder;
      steps = 0;
    } in
    none_waits world c.in_ok-nodes.ensures.waiting m
