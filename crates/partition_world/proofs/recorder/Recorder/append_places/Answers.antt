-- The place is appended exactly where the entry there is in the pair.
use Rattle.std.proofs.Common.{◌≡◌, ◌<◌, ◌∙◌, ◌++◌, ◌∷◌, [], length, get_or, sym, ap, subst, arith}
use Rattle.partition_protocol.specs.History.{is_in_pair}
use Rattle.partition_world.specs.Places.{at_places, AreBelow}
use Rattle.partition_world.specs.RecordedEntries.{entry_of}
use Rattle.partition_world.specs.Recorders.{log_of}
use Rattle.partition_world.proofs.AtPlaces.{passes, fails, read_map, below_more}
use Rattle.partition_world.proofs.recorder.Recorder.append_places.Goals as goal
use Rattle.partition_world.proofs.recorder.Recorder.append_places.Goals.{then-is_in+in_ok-push, else-is_in}

pub loop-place-preserved : goal.loop-place-preserved
loop-place-preserved g c =
    let entries = c.args.self.now.log.items in
    let log = log_of c.args.self.now in
    let before = c.args.places.now.items in
    let so_far = c.loop-place.places.items in
    let i = c.loop-place.place in
    let entry = c.entry-item.result in
    let kept = c.loop-place.invariant in
    let inside : i < length entries = omega (arith, ap length c.deref-entry-items.ensures.value) in
    let there = read_map entry_of entries i entry inside (c.entry-item.is ∙ ap (λ es. get_or es i entry) c.deref-entry-items.ensures.value) in
    elim c.if-is_in.branch [
      | then-is_in+in_ok-push w ↦
          let grown : c.if-is_in.places.items ≡ so_far ++ i ∷ [] = cc (w.in_ok-push.ensures.items, w.places-is) in
          record {
            places = ap (at_places log) grown ∙ passes log (is_in_pair c.args.pair) before so_far i (entry_of entry) there kept.places (sym c.is_in.ensures ∙ w.if-is_in.true);
            within = subst (AreBelow (length entries)) (sym grown) (below_more (length entries) so_far i kept.within inside);
          }
      | else-is_in w ↦
          let same : c.if-is_in.places.items ≡ so_far = cc (w.places-is) in
          record {
            places = ap (at_places log) same ∙ fails log (is_in_pair c.args.pair) before so_far i (entry_of entry) there kept.places (sym c.is_in.ensures ∙ w.if-is_in.false);
            within = subst (AreBelow (length entries)) (sym same) kept.within;
          }
    ]
