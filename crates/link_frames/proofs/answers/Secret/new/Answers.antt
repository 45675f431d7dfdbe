-- The bytes were copied over the first zeros.
use Rattle.std.proofs.Common.{◌∙◌, ◌++◌, ℕ, List, length, drop, replicate, ap}
use Rattle.std.proofs.lemmas.List.{drop-replicate}
use Rattle.link_frames.proofs.answers.Secret.new.Goals as goal

pub returns-clause-key : goal.returns-clause-key
returns-clause-key c =
    ap (λ (xs : List ℕ). xs ++ drop (length c.args.bytes.now) (replicate 64 0)) c.copy_from_slice.ensures.after
    ∙ ap (λ (xs : List ℕ). c.args.bytes.now ++ xs) (drop-replicate (length c.args.bytes.now) 64 0)
