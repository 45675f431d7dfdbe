-- The new opening stands at these places of the longer log.
use Rattle.std.proofs.Common.{◌≡◌, ◌∙◌, ◌++◌, ◌∷◌, [], length, map, reverse, ap, sym, subst}
use Rattle.std.proofs.lemmas.List.{map-append, length-map, reverse-append}
use Rattle.partition_protocol.specs.History.{Opening as ProtocolOpening, Reset}
use Rattle.partition_world.specs.declared.opening.Opening.{Opening}
use Rattle.partition_world.specs.declared.entry.Entry.TheVariants.{Reset as ResetEntry}
use Rattle.partition_world.specs.Places.{at_places}
use Rattle.partition_world.specs.Openings.{opening_of, AreWithin}
use Rattle.partition_world.specs.RecordedEntries.{entry_of}
use Rattle.partition_world.specs.Recorders.{log_of}
use Rattle.partition_world.proofs.RecordedOpenings.{openings_grown}
use Rattle.partition_world.proofs.recorder.RecorderRecords.reopen.Goals as goal

pub returns : goal.returns
returns g c r leader opens kept =
    let entries = c.args.self.now.log.items in
    let openings = c.args.self.now.openings.items in
    let log = log_of c.args.self.now in
    let more = Reset c.args.version ∷ [] in
    let new : Opening = record { reset = c.args.version; places = c.args.places } in
    let longer : map entry_of c.push_reserved.new.self.items ≡ log ++ more =
    ap (map entry_of) c.push_reserved.ensures.items ∙ map-append entry_of entries (ResetEntry c.args.version ∷ []) in
    let within : AreWithin (length log) openings = subst (λ n. AreWithin n openings) (sym (length-map entries entry_of)) c.args.self.now.within in
    record {
      log = longer ∙ ap (λ es. es ++ more) kept.log;
      bases = kept.bases;
      openings =
          ap (λ es. map (opening_of es) (reverse c.push_reserved-2.new.self.items)) longer
          ∙ ap (λ os. map (opening_of (log ++ more)) (reverse os)) c.push_reserved-2.ensures.items
          ∙ ap (map (opening_of (log ++ more))) (reverse-append openings (new ∷ []))
          ∙ ap (λ os. opening_of (log ++ more) new ∷ os) (openings_grown log more openings within ∙ kept.openings)
          ∙ ap (λ es. let o : ProtocolOpening _ = record { reset = c.args.version; entries = at_places (es ++ more) c.args.places.items } in o ∷ r.openings) kept.log
          ∙ ap (λ es. let o : ProtocolOpening _ = record { reset = c.args.version; entries = es } in o ∷ r.openings) (opens.told r kept c.args.version);
      standing = kept.standing;
    }
