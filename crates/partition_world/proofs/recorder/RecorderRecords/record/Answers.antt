-- The openings of the longer log are the same.
use Rattle.std.proofs.Common.{◌≡◌, ◌∙◌, ◌++◌, ◌∷◌, [], length, map, reverse, ap, sym, subst}
use Rattle.std.proofs.lemmas.List.{map-append, length-map}
use Rattle.partition_world.specs.Openings.{opening_of, AreWithin}
use Rattle.partition_world.specs.RecordedEntries.{entry_of}
use Rattle.partition_world.specs.Recorders.{log_of}
use Rattle.partition_world.proofs.RecordedOpenings.{openings_grown}
use Rattle.partition_world.proofs.recorder.RecorderRecords.record.Goals as goal

pub returns : goal.returns
returns g c r kept =
    let log = log_of c.args.self.now in
    let openings = c.args.self.now.openings.items in
    let more = entry_of c.args.entry ∷ [] in
    let longer : map entry_of c.push_reserved.new.self.items ≡ log ++ more = ap (map entry_of) c.push_reserved.ensures.items ∙ map-append entry_of c.args.self.now.log.items (c.args.entry ∷ []) in
    let within : AreWithin (length log) openings = subst (λ n. AreWithin n openings) (sym (length-map c.args.self.now.log.items entry_of)) c.args.self.now.within in
    record {
      log = longer ∙ ap (λ es. es ++ more) kept.log;
      bases = kept.bases;
      openings = ap (λ es. map (opening_of es) (reverse openings)) longer ∙ openings_grown log more openings within ∙ kept.openings;
      standing = kept.standing;
    }
