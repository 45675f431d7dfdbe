use Rattle.std.proofs.Common.{◌≡◌, ℕ, List, [], ◌∷◌, None, drop, refl, ◌∙◌, ap}
use Rattle.std.proofs.lemmas.List.{drop_all}
use Rattle.message_frames.specs.Messages.{prefix_of, differing}
use Rattle.message_frames.proofs.stream.past_prefix.Goals as goal

-- No byte differs where none has come.
none_differs : (at : ℕ) (wanted : List ℕ) → differing at wanted [] ≡ None
none_differs at [] = refl
none_differs at (byte ∷ wanted) = refl

pub returns-clause-same : goal.returns-clause-same
returns-clause-same c =
    let wanted = drop c.loop-byte.now (prefix_of c.args.prefix) in
    c.loop-byte.invariant.left
    ∙ ap (differing c.loop-byte.now wanted) (drop_all c.loop-byte.byte-index c.args.piece.now c.loop-byte-test.false)
    ∙ none_differs c.loop-byte.now wanted
