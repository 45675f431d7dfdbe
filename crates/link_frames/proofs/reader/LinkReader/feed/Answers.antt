-- A feed goes on with what is read of the bytes in progress and the piece, or changes nothing after a fault.
use Rattle.std.proofs.Common.{◌≡◌, ◌∙◌, ◌++◌, ℕ, List, ap, sym}
use Rattle.std.proofs.lemmas.Result.{IfOk-weaker, on_ok_weaker}
use Rattle.link_frames.specs.Reading.{reading}
use Rattle.link_frames.specs.Readers.{InProgress, StandsFor, parts_of, fault_of, after_feed}
use Rattle.link_frames.specs.declared.parts.LinkPart.{LinkPart}
use Rattle.link_frames.proofs.Feeds.{a_fault, no_fault, stands_on, given_on, fault_on, stands_still, given_none, fault_stays}
use Rattle.link_frames.proofs.reader.LinkReader.feed.Goals as goal

pub returns-then-is_some-clause-stands : goal.returns-then-is_some-clause-stands
returns-then-is_some-clause-stands c = λ text stands.
    let found = a_fault c.self.inside.fault (sym c.is_some.ensures ∙ c.if-is_some.true) in
    let faulty = sym (ap (λ (r : InProgress). r.fault) c.self.view_is) ∙ found.1 in
    stands_still c.args.self.now text c.args.piece.now stands found.0 faulty

pub returns-then-is_some-clause-parts : goal.returns-then-is_some-clause-parts
returns-then-is_some-clause-parts c = λ text stands.
    let found = a_fault c.self.inside.fault (sym c.is_some.ensures ∙ c.if-is_some.true) in
    let faulty = sym (ap (λ (r : InProgress). r.fault) c.self.view_is) ∙ found.1 in
    ap (λ (ps : List LinkPart). parts_of text ++ ps) c.new.ensures.items
    ∙ given_none c.args.self.now text c.args.piece.now stands found.0 faulty

pub returns-then-is_some-clause-fault : goal.returns-then-is_some-clause-fault
returns-then-is_some-clause-fault c = λ text stands.
    let found = a_fault c.self.inside.fault (sym c.is_some.ensures ∙ c.if-is_some.true) in
    let faulty = sym (ap (λ (r : InProgress). r.fault) c.self.view_is) ∙ found.1 in
    ap (λ (r : InProgress). r.fault) c.self.view_is
    ∙ fault_stays c.args.self.now text c.args.piece.now stands found.0 faulty

pub returns-clause-stands : goal.returns-clause-stands
returns-clause-stands c =
    let old = c.args.self.now in
    let piece = c.args.piece.now in
    let sound = sym (ap (λ (r : InProgress). r.fault) c.self.view_is) ∙ no_fault c.self.inside.fault (sym c.is_some.ensures ∙ c.if-is_some.false) in
    on_ok_weaker {P = c.read_on.new.self ≡ after_feed (reading old.stage (old.bytes ++ piece))}
    {Q = (text : List ℕ) → StandsFor old text → StandsFor c.read_on.new.self (text ++ piece)} c.read_on.result
    (λ is text stands. is ∙ stands_on old text piece stands sound) c.read_on.ensures.reader

pub returns-clause-parts : goal.returns-clause-parts
returns-clause-parts c =
    let old = c.args.self.now in
    let piece = c.args.piece.now in
    let sound = sym (ap (λ (r : InProgress). r.fault) c.self.view_is) ∙ no_fault c.self.inside.fault (sym c.is_some.ensures ∙ c.if-is_some.false) in
    IfOk-weaker c.read_on.result (λ fed. fed.parts.items ≡ (reading old.stage (old.bytes ++ piece)).parts)
    (λ fed. (text : List ℕ) → StandsFor old text → parts_of text ++ fed.parts.items ≡ parts_of (text ++ piece))
    (λ fed is text stands. ap (λ (ps : List LinkPart). parts_of text ++ ps) is ∙ given_on old text piece stands sound) c.read_on.ensures.parts

pub returns-clause-fault : goal.returns-clause-fault
returns-clause-fault c =
    let old = c.args.self.now in
    let piece = c.args.piece.now in
    let sound = sym (ap (λ (r : InProgress). r.fault) c.self.view_is) ∙ no_fault c.self.inside.fault (sym c.is_some.ensures ∙ c.if-is_some.false) in
    IfOk-weaker c.read_on.result (λ fed. fed.fault ≡ (reading old.stage (old.bytes ++ piece)).fault)
    (λ fed. (text : List ℕ) → StandsFor old text → fed.fault ≡ fault_of (text ++ piece))
    (λ fed is text stands. is ∙ fault_on old text piece stands sound) c.read_on.ensures.fault
