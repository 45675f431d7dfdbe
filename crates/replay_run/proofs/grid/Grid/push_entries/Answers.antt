use Rattle.std.proofs.Common.{◌≡◌, ◌+◌, ◌∙◌, ◌++◌, suc, List, ℕ, length, take, drop, slice_get, Some, ap, sym, arith}
use Rattle.std.proofs.lemmas.List.{length-map}
use Rattle.partition_protocol.specs.World.{trail}
use Rattle.call_engine.specs.Objects.{partition_object}
use Rattle.partition_world.specs.RecordedEntries.{entry_of}
use Rattle.replay_run.specs.Runs.{reopened_at, world_at}
use Rattle.replay_run.specs.Printing.{first_line}
use Rattle.replay_run.specs.PrintedEntries.{resets_in}
use Rattle.replay_run.proofs.HistoryTexts.{mapped_at, resets_more, resets_of_one, text_more, text_whole}
use Rattle.replay_run.proofs.grid.Grid.push_entries.Goals as goal

pub loop-place-preserved : goal.loop-place-preserved
loop-place-preserved g c = (
  (let few = c.loop-place.invariant.0 in let one = resets_of_one c.at-entry.result.now in let its = c.resets_of-resets.ensures in omega (arith, few, one, its)),
  λ settings r s told.
      let grid = c.args.self.now in
      let place = c.loop-place.place in
      let es = trail (world_at (partition_object settings) r c.args.partition) in
      let so_far = c.loop-place.invariant.1 settings r s told in
      let there : slice_get es place ≡ Some (entry_of c.at-entry.result.now) = ap (λ xs. slice_get xs place) (sym told) ∙ mapped_at c.args.history.now place c.at-entry.result.now c.at-entry.ensures in
      let lines : c.in_ok-lines.lines.items ≡ reopened_at c.args.partition r.reopened = c.in_ok-lines.ensures ∙ ap (reopened_at c.args.partition) s.holds.reopened in
      let line : c.line_at-reopened.result ≡ first_line (drop (resets_in (take place es)) (reopened_at c.args.partition r.reopened)) =
      c.line_at-reopened.ensures ∙ ap (λ ls. first_line (drop c.loop-place.resets ls)) (c.as_slice.ensures.value ∙ lines) ∙ ap (λ n. first_line (drop n (reopened_at c.args.partition r.reopened))) so_far.0 in
      let next : place + 1 ≡ suc place = omega arith in (
        ap (λ n. n + c.resets_of-resets.result) so_far.0 ∙ ap (λ n. resets_in (take place es) + n) c.resets_of-resets.ensures
            ∙ sym (resets_more place es c.at-entry.result.now there) ∙ ap (λ n. resets_in (take n es)) (sym next),
        text_more r s.run grid.connections s.holds.table c.args.partition grid.lines place c.line_at-reopened.result es c.at-entry.result.now c.args.out.now.items c.loop-place.out.items c.push_entry.new.out.items
            there s.holds.lines line so_far.1 c.in_ok-push_entry.ensures,
      ),
)

pub returns : goal.returns
returns g c = λ settings r s told.
    let es = trail (world_at (partition_object settings) r c.args.partition) in
    let whole : length es ≡ c.loop-place.place = omega (arith, ap length told, length-map c.args.history.now entry_of, c.len-place-end.ensures) in
    (c.loop-place.invariant.1 settings r s told).1 ∙ ap (λ (xs : List ℕ). c.args.out.now.items ++ xs) (text_whole r c.args.partition c.loop-place.place es whole)
