-- The trail so far and the reset stand at these places of the longer log.
use Rattle.std.proofs.Common.{◌≡◌, ◌∙◌, ◌++◌, ◌∷◌, [], length, ap, sym, subst, arith}
use Rattle.std.proofs.lemmas.List.{length-map}
use Rattle.partition_protocol.specs.History.{Reset}
use Rattle.partition_world.specs.Places.{at_places, AreBelow}
use Rattle.partition_world.specs.RecordedEntries.{entry_of}
use Rattle.partition_world.specs.Recorders.{log_of}
use Rattle.partition_world.proofs.RecordedOpenings.{reopened}
use Rattle.partition_world.proofs.recorder.Recorder.reset_places.Goals as goal

pub returns-clause-places : goal.returns-clause-places
returns-clause-places g c r kept version =
    let places = c.in_ok-places.places.items in
    let log = log_of c.args.self.now in
    let more = Reset version ∷ [] in
    let same_length : length log ≡ length c.args.self.now.log.items = length-map c.args.self.now.log.items entry_of in
    let last : c.len.result ≡ length log = omega arith in
    let below : AreBelow (length log) places = subst (λ n. AreBelow n places) (sym same_length) c.in_ok-places.ensures.within in
    ap (λ es. at_places (es ++ more) c.push.new.self.items) (sym kept.log)
    ∙ ap (at_places (log ++ more)) (c.in_ok-push.ensures.items ∙ ap (λ k. places ++ k ∷ []) last)
    ∙ reopened log places (Reset version) below
    ∙ ap (λ es. es ++ more) (c.in_ok-places.ensures.places r kept)
