-- One part more, or none.
use Rattle.std.proofs.Common.{◌≡◌, ◌∙◌, ◌+◌, ◌++◌, ◌∷◌, [], List, drop, ap, sym, arith}
use Rattle.std.proofs.lemmas.List.{length-drop, take_rest}
use Rattle.link_frames.specs.Reading.{front, ended, reading}
use Rattle.link_frames.specs.Feeding.{with_parts}
use Rattle.link_frames.specs.declared.fronts.Front.{Front}
use Rattle.link_frames.specs.declared.fronts.Front.TheVariants.{Partial, Whole, Wrong}
use Rattle.link_frames.specs.declared.parts.LinkPart.{LinkPart}
use Rattle.link_frames.specs.declared.parts.Stage.{Stage}
use Rattle.link_frames.proofs.Feeds.{whole_within, one_more, no_more}
use Rattle.link_frames.proofs.Readings.{read_as}
use Rattle.link_frames.proofs.reader.Read.take_part.Goals as goal

pub overflow_add-self : goal.overflow_add-self
overflow_add-self c =
    let old = c.args.self.now in
    let bytes = c.args.bytes.now in
    let whole = ap (front old.stage) (sym (take_rest bytes old.length)) ∙ sym c.in_ok-read_front.ensures ∙ c.in-Whole.is in
    let within = whole_within old.stage (drop old.length bytes) c.in-Whole.part c.in-Whole.length whole in
    omega (arith, within.1, length-drop old.length bytes, c.requires.within)

pub returns-in-Partial-clause-reads : goal.returns-in-Partial-clause-reads
returns-in-Partial-clause-reads c = λ stage on.
    let old = c.args.self.now in
    let bytes = c.args.bytes.now in
    let partial = ap (front old.stage) (sym (take_rest bytes old.length)) ∙ sym c.in_ok-read_front.ensures ∙ c.in-Partial.is in
    record {
      within = on.within;
      reads =
          no_more stage old.stage bytes old.parts.items old.length old.fault on.reads
          (read_as old.stage (drop old.length bytes) Partial partial ∙ ap (λ f. ended f old.stage (drop old.length bytes)) (sym c.requires.sound));
    }

pub returns-in-Wrong-clause-reads : goal.returns-in-Wrong-clause-reads
returns-in-Wrong-clause-reads c = λ stage on.
    let old = c.args.self.now in
    let bytes = c.args.bytes.now in
    let why = c.in-Wrong.fault in
    let wrong = ap (front old.stage) (sym (take_rest bytes old.length)) ∙ sym c.in_ok-read_front.ensures ∙ c.in-Wrong.is in
    record {
      within = on.within;
      reads = no_more stage old.stage bytes old.parts.items old.length _ on.reads (read_as old.stage (drop old.length bytes) (Wrong why) wrong);
    }

pub returns-in_ok-push-in-Whole-clause-reads : goal.returns-in_ok-push-in-Whole-clause-reads
returns-in_ok-push-in-Whole-clause-reads c = λ stage on.
    let old = c.args.self.now in
    let bytes = c.args.bytes.now in
    let part = c.in-Whole.part in
    let n = c.in-Whole.length in
    let whole = ap (front old.stage) (sym (take_rest bytes old.length)) ∙ sym c.in_ok-read_front.ensures ∙ c.in-Whole.is in
    let within = whole_within old.stage (drop old.length bytes) part n whole in
    record {
      within = omega (arith, within.1, length-drop old.length bytes, c.requires.within);
      sound = on.sound;
      reads =
          one_more stage old.stage bytes old.parts.items old.length part n on.reads whole
          ∙ ap (λ (s : Stage). with_parts (old.parts.items ++ part ∷ []) (reading s (drop (old.length + n) bytes))) (sym c.next-self.ensures)
          ∙ ap (λ (ps : List LinkPart). with_parts ps (reading c.next-self.result (drop (old.length + n) bytes))) (sym c.in_ok-push-in-Whole.ensures.items);
    }
