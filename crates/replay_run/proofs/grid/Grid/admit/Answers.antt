use Rattle.std.proofs.Common.{◌≡◌, ◌≤◌, ◌∙◌, false, ap, sym, subst, arith}
use Rattle.call_engine.specs.Env.{settings_of}
use Rattle.call_engine.specs.Objects.{partition_object}
use Rattle.replay_run.specs.declared.tally.Tally.{Tally}
use Rattle.replay_run.specs.Runs.{world_at, is_full}
use Rattle.replay_run.specs.Tallies.{tallied}
use Rattle.replay_run.proofs.Asking.{world_within, told_of}
use Rattle.replay_run.proofs.NewCalls.{counted_as}
use Rattle.replay_run.proofs.Tallies.{tally_room}
use Rattle.replay_run.proofs.grid.Grid.admit.Goals as goal

pub index-requires : goal.index-requires
index-requires g c =
    let within = world_within c.args.self.now c.requires.stands.1 c.requires.stands.2 c.args.request.partition c.from.result c.requires.placed c.from.ensures in
    omega (arith, within, c.args.self.now.worlds.ok.0)

-- The tally was left as it was.

pub count-requires-clause-room : goal.count-requires-clause-room
count-requires-clause-room g c =
    let arrived = c.requires.stands.2.tally.arrived in
    let same = ap (λ (t : Tally). t.arrived) c.reach.ensures.tally in
    omega (arith, arrived, same, c.requires.stands.3)

pub count-requires-clause-refused : goal.count-requires-clause-refused
count-requires-clause-refused g c = subst (λ (t : Tally). t.refused ≤ t.arrived) (sym c.reach.ensures.tally) (tally_room c.args.self.now.tally c.requires.stands.1 c.requires.stands.2.tally).0

pub count-requires-clause-memory : goal.count-requires-clause-memory
count-requires-clause-memory g c = subst (λ (t : Tally). t.memory ≤ t.arrived) (sym c.reach.ensures.tally) (tally_room c.args.self.now.tally c.requires.stands.1 c.requires.stands.2.tally).1

-- The partition is full.
pub returns-then-has_crowded_link-clause-full : goal.returns-then-has_crowded_link-clause-full
returns-then-has_crowded_link-clause-full g c = λ settings r h fails.
    sym (told_of _ c.args.self.now r h c.args.request.partition c.from.result c.requires.placed c.from.ensures c.index.result.now c.index.ensures is_full c.has_crowded_link.result (c.has_crowded_link.ensures (settings_of _ c.args.self.now.env)))
    ∙ c.if-has_crowded_link.true

pub returns-clause-ok : goal.returns-clause-ok
returns-clause-ok g c = λ settings r run h next are count.
    let grid = c.args.self.now in
    let request = c.args.request in
    let goes : is_full (world_at (partition_object settings) r c.args.request.partition) ≡ false =
    sym (told_of _ grid r h request.partition c.from.result c.requires.placed c.from.ensures c.index.result.now c.index.ensures is_full c.has_crowded_link.result (c.has_crowded_link.ensures (settings_of _ grid.env)))
    ∙ c.if-has_crowded_link.false in
    counted_as c.reach.new.self c.count.new.self _ (c.count.ensures ∙ ap (tallied c.in_ok-reception.reception) c.reach.ensures.tally)
    (c.in_ok-reception.ensures.ok settings r run h next are count goes)
