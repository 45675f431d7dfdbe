use Rattle.std.proofs.Common.{◌≤◌, Some, ◌∷◌, [], slice_get, length, sym, ap, ◌∙◌, subst, append-nil, arith}
use Rattle.session_calls.proofs.Joining.{AreJoinedFrom, joined_none, joined_down, joined_all}
use Rattle.session_calls.proofs.Marching.{cut_next, last_there, one_less}
use Rattle.session_calls.proofs.OfCells.{kept_joined}
use Rattle.session_calls.proofs.Places.{is_there, nothing_left}
use Rattle.session_calls.proofs.session.SessionPass.close.Goals as goal

pub loop-part-init : goal.loop-part-init
loop-part-init g c =
    let others = c.args.self.passes.items in
    let all : length others ≤ length others = omega arith in record {
      done = [];
      cut = sym (append-nil others);
      joined = joined_none g.T.Stands.key_of c.args.passes.now.items others (length others) all;
      of_cells = c.requires.passes;
    }

pub unwrap-requires : goal.unwrap-requires
unwrap-requires g c =
    let others = c.args.self.passes.items in
    let left = c.pop.new.self.items in
    let part = c.in-Some.part in
    let there = last_there others c.loop-part.left.items left c.loop-part.invariant.done part c.loop-part.invariant.cut c.in-Some.ensures.items in
    is_there part (λ none. c.requires.rests (length left) (there ∙ ap Some none))

pub join_at-requires-clause-other : goal.join_at-requires-clause-other
join_at-requires-clause-other g c κs within =
    let others = c.args.self.passes.items in
    let left = c.pop.new.self.items in
    let there = last_there others c.loop-part.left.items left c.loop-part.invariant.done c.in-Some.part c.loop-part.invariant.cut c.in-Some.ensures.items in
    c.requires.session.passes c.len.result c.unwrap.result (ap (slice_get others) (c.len.ensures ∙ c.pop.new.self.ok.0) ∙ (there ∙ ap Some c.unwrap.ensures))

pub loop-part-preserved : goal.loop-part-preserved
loop-part-preserved g c =
    let key_of = g.T.Stands.key_of in
    let was = c.loop-part.invariant in
    let others = c.args.self.passes.items in
    let now = c.loop-part.passes.items in
    let before = c.loop-part.left.items in
    let left = c.pop.new.self.items in
    let part = c.in-Some.part in
    let other = c.unwrap.result in
    let popped = c.in-Some.ensures.items in
    let there = last_there others before left was.done part was.cut popped in record {
      done = part ∷ was.done;
      cut = cut_next others before left was.done part was.cut popped;
      joined = joined_down key_of c.args.passes.now.items others c.len.result (length before) (length left) now _ other
          (one_less others before left was.done part was.cut popped) (c.len.ensures ∙ c.pop.new.self.ok.0) was.joined (there ∙ ap Some c.unwrap.ensures) c.join_at.ensures;
      of_cells = kept_joined c.args.place.now.cells.items key_of now _ c.len.result other was.of_cells c.join_at.ensures;
    }

pub returns-clause-joined : goal.returns-clause-joined
returns-clause-joined g c =
    let key_of = g.T.Stands.key_of in
    let old = c.args.passes.now.items in
    let others = c.args.self.passes.items in
    let left = c.loop-part.left in
    joined_all key_of old others _ (subst (λ n. AreJoinedFrom key_of old others n c.loop-part.passes.items) (sym left.ok.0 ∙ nothing_left c.pop.result _ c.in_default.not-Some c.pop.ensures.variant.1) c.loop-part.invariant.joined)
