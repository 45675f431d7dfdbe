use Rattle.std.proofs.Common.{◌≤◌, Some, ◌∷◌, [], slice_get, map, length, sym, ap, ◌∙◌, subst, append-nil, arith}
use Rattle.std.proofs.lemmas.List.{length-map}
use Rattle.session_calls.proofs.Joining.{AreJoinedFrom, joined_none, joined_down, joined_all}
use Rattle.session_calls.proofs.Marching.{cut_next, last_there, one_less}
use Rattle.session_calls.proofs.OfCells.{kept_joined, mapped}
use Rattle.session_calls.proofs.Places.{nothing_left}
use Rattle.session_calls.proofs.sharing.join_passes.Goals as goal

pub loop-other-init : goal.loop-other-init
loop-other-init g c =
    let others = c.args.others.items in
    let all : length (map (λ part. Some part) others) ≤ length others = let same = length-map others (λ part. Some part) in omega arith in record {
      done = [];
      cut = sym (append-nil others);
      joined = joined_none g.T.Stands.key_of c.args.passes.now.items (map (λ part. Some part) others) (length others) all;
      of_cells = c.requires.passes;
    }

pub join_at-requires-clause-other : goal.join_at-requires-clause-other
join_at-requires-clause-other g c κs within =
    let others = c.args.others.items in
    let left = c.pop.new.self.items in
    let there = last_there others c.loop-other.left.items left c.loop-other.invariant.done c.in-Some.other c.loop-other.invariant.cut c.in-Some.ensures.items in
    c.requires.others.each c.len.result c.in-Some.other (ap (slice_get others) (c.len.ensures ∙ c.pop.new.self.ok.0) ∙ there)

pub loop-other-preserved : goal.loop-other-preserved
loop-other-preserved g c =
    let key_of = g.T.Stands.key_of in
    let was = c.loop-other.invariant in
    let others = c.args.others.items in
    let now = c.loop-other.passes.items in
    let before = c.loop-other.left.items in
    let left = c.pop.new.self.items in
    let other = c.in-Some.other in
    let popped = c.in-Some.ensures.items in
    let there = last_there others before left was.done other was.cut popped in record {
      done = other ∷ was.done;
      cut = cut_next others before left was.done other was.cut popped;
      joined = joined_down key_of c.args.passes.now.items (map (λ part. Some part) others) c.len.result (length before) (length left) now _ other
          (one_less others before left was.done other was.cut popped) (c.len.ensures ∙ c.pop.new.self.ok.0) was.joined (mapped (λ part. Some part) others (length left) other there) c.join_at.ensures;
      of_cells = kept_joined c.args.place.now.cells.items key_of now _ c.len.result other was.of_cells c.join_at.ensures;
    }

pub returns-clause-joined : goal.returns-clause-joined
returns-clause-joined g c =
    let key_of = g.T.Stands.key_of in
    let old = c.args.passes.now.items in
    let others = map (λ part. Some part) c.args.others.items in
    let left = c.loop-other.left in
    joined_all key_of old others _ (subst (λ n. AreJoinedFrom key_of old others n c.loop-other.passes.items) (sym left.ok.0 ∙ nothing_left c.pop.result _ c.in_default.not-Some c.pop.ensures.variant.1) c.loop-other.invariant.joined)
