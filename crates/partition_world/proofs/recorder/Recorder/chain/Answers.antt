-- Each base is another version's, or the history goes on from it.
use Rattle.std.proofs.Common.{◌≡◌, ◌≤◌, ◌∙◌, length, ap, sym, arith}
use Rattle.partition_protocol.specs.Node.{Pair}
use Rattle.partition_protocol.specs.History.{Base}
use Rattle.partition_world.specs.Recorders.{log_of, openings_of}
use Rattle.partition_world.proofs.Chains.{at_first, at_last, passed, goes_on, begins}
use Rattle.partition_world.proofs.recorder.Recorder.chain.Goals as goal

pub loop-older-init : goal.loop-older-init
loop-older-init g c =
    let bases = c.args.self.now.bases.items in
    let whole : length bases ≤ c.len-older.result = omega arith in
    at_first (openings_of c.args.self.now) (log_of c.args.self.now) bases c.len-older.result c.args.leader c.new-pairs.result.items whole c.new-pairs.ensures.items

pub returns-then-begins_anew : goal.returns-then-begins_anew
returns-then-begins_anew g c =
    let bases = c.args.self.now.bases.items in
    let base = c.index-base.result.now in
    let within : c.loop-older.older ≤ length bases = omega arith in
    let same : base.version ≡ c.loop-older.pair.version = sym (ap (λ (b : Base). b.version) c.base.view_is) ∙ c.if-base-pair.true ∙ ap (λ (p : Pair). p.version) c.pair.view_is in
    sym (c.loop-older.invariant ∙ begins (openings_of c.args.self.now) (log_of c.args.self.now) bases c.loop-older.older c.loop-older-test.true within base c.index-base.ensures
    c.loop-older.pair c.loop-older.pairs.items c.base-then-base-pair.inside.reset c.push.new.self.items same (sym c.begins_anew.ensures ∙ c.if-begins_anew.true)
    (ap (λ (b : Base). b.reset) c.base-then-base-pair.view_is) c.in_ok-push.ensures.items)

pub loop-older-preserved-then-base-pair : goal.loop-older-preserved-then-base-pair
loop-older-preserved-then-base-pair g c =
    let bases = c.args.self.now.bases.items in
    let base = c.index-base.result.now in
    let within : c.loop-older.older ≤ length bases = omega arith in
    let same : base.version ≡ c.loop-older.pair.version = sym (ap (λ (b : Base). b.version) c.base.view_is) ∙ c.if-base-pair.true ∙ ap (λ (p : Pair). p.version) c.pair.view_is in
    c.loop-older.invariant ∙ goes_on (openings_of c.args.self.now) (log_of c.args.self.now) bases c.loop-older.older c.loop-older-test.true within base c.index-base.ensures
    c.loop-older.pair c.loop-older.pairs.items c.pair-pair.result c.push.new.self.items same (sym c.begins_anew.ensures ∙ c.if-begins_anew.false)
    c.pair-pair.ensures c.in_ok-push.ensures.items

pub loop-older-preserved : goal.loop-older-preserved
loop-older-preserved g c =
    let bases = c.args.self.now.bases.items in
    let base = c.index-base.result.now in
    let within : c.loop-older.older ≤ length bases = omega arith in
    c.loop-older.invariant ∙ passed (openings_of c.args.self.now) (log_of c.args.self.now) bases c.loop-older.older c.loop-older-test.true within base c.index-base.ensures
    c.loop-older.pair c.loop-older.pairs.items (λ same. c.if-base-pair.false (ap (λ (b : Base). b.version) c.base.view_is ∙ same ∙ sym (ap (λ (p : Pair). p.version) c.pair.view_is)))

pub returns : goal.returns
returns g c =
    sym (c.loop-older.invariant ∙ at_last (openings_of c.args.self.now) (log_of c.args.self.now) c.args.self.now.bases.items c.loop-older.older c.loop-older.pair c.loop-older.pairs.items c.loop-older-test.false)
