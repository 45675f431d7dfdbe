use Rattle.std.proofs.Common.{◌≡◌, ◌<◌, ◌∙◌, ◌++◌, ap, sym, length, map, refl, arith}
use Rattle.std.proofs.lemmas.List.{length-map}
use Rattle.std.proofs.lemmas.Result.{on_ok_weaker}
use Rattle.script_lang.specs.declared.line.Line.TheVariants.{Trail}
use Rattle.partition_protocol.specs.World.{trail}
use Rattle.call_engine.specs.Objects.{partition_object}
use Rattle.partition_world.specs.RecordedEntries.{entry_of}
use Rattle.replay_run.specs.Runs.{next_line, world_at, partitions}
use Rattle.replay_run.specs.LineTold.{came_to}
use Rattle.line_told.specs.declared.told.LineOutcome.TheVariants.{Trail as Entries}
use Rattle.replay_run.proofs.Asking.{world_within, told_history}
use Rattle.replay_run.proofs.GridLines.{counted, counted_stands, counted_line, next_number}
use Rattle.replay_run.proofs.grid.Grid.trail.Goals as goal
use Rattle.call_engine.specs.Env.{settings_of}

pub index-requires : goal.index-requires
index-requires g c =
    let low : c.args.partition < partitions = omega (arith, c.requires.read) in
    let within = world_within c.args.self.now c.requires.run c.requires.stands.holds c.args.partition c.from.result low c.from.ensures in
    omega (arith, within, c.args.self.now.worlds.ok.0)

pub returns : goal.returns
returns g c = λ settings r s.
    let p = c.args.partition in
    let number = c.args.number in
    let low : p < partitions = omega (arith, c.requires.read) in
    let at_line = next_number c.args.self.now number (Trail p) c.requires r s in
    let stands = counted_stands c.args.self.now r number s at_line c.requires.within in
    let es = trail (world_at (partition_object settings) (next_line r) p) in
    let told : map entry_of c.in_ok-trail.trail ≡ es = told_history _ (counted c.args.self.now number) (next_line r) stands p c.from.result low c.from.ensures c.index.result.now c.index.ensures c.in_ok-trail.trail (c.in_ok-trail.ensures (settings_of _ c.args.self.now.env)) in
    let count : c.len-entries.result ≡ length es = c.len-entries.ensures ∙ sym (length-map c.in_ok-trail.trail entry_of) ∙ ap length told in
    on_ok_weaker c.push_entries.result
    (λ e. record {
      told = counted_line c.args.self.now (counted c.args.self.now number) r number (Trail p) s at_line c.requires.within refl refl c.args.out.now.told.items c.tell_outcome.new.out.items refl refl refl
          (c.in_ok-tell_outcome.ensures ∙ ap (λ n. c.args.out.now.told.items ++ came_to (Entries n)) count);
      printed = e;
    })
    (c.push_entries.ensures settings (next_line r) stands told)
