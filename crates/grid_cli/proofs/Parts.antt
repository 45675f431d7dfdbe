-- The parts of a text, among them the messages that a run appended since.
use Rattle.std.proofs.Common.{◌≡◌, ℕ, List, [], ◌∷◌, ◌++◌, length, drop, ap, sym, ◌∙◌, subst, ◌⊎◌, ⊎_elim, inl, inr, append_assoc}
use Rattle.std.proofs.Math.Seq.{drop-append_seam}
use Rattle.std.specs.List.{flat_map}
use Rattle.partition_protocol.specs.Sequences.{IsFrontOf}
use Rattle.partition_protocol.proofs.Lists.{In, in_cases}
use Rattle.replay_run.specs.Runs.{Run, Appended}
use Rattle.replay_run.specs.Appending.{appended_text, new_messages}
use Rattle.grid_cli.specs.PrintedRuns.{HasPart}

pub part_left : (text more part : List ℕ) → HasPart text part → HasPart (text ++ more) part
part_left text more part (before, behind, e) = (before, behind ++ more, ap (λ t. t ++ more) e ∙ append_assoc (before ++ part) behind more)

pub part_right : (more text part : List ℕ) → HasPart text part → HasPart (more ++ text) part
part_right more text part (before, behind, e) =
    (more ++ before, behind, ap (λ t. more ++ t) e ∙ sym (append_assoc more (before ++ part) behind) ∙ ap (λ t. t ++ behind) (sym (append_assoc more before part)))

pub part_of_all : (m : Appended) (ms : List Appended) → In m ms → HasPart (flat_map appended_text ms) (appended_text m)
part_of_all m [] i = absurd i
part_of_all m (n ∷ ms) (inl e) = ([], flat_map appended_text ms, ap (λ x. appended_text x ++ flat_map appended_text ms) e)
part_of_all m (n ∷ ms) (inr i) = part_right (appended_text n) (flat_map appended_text ms) (appended_text m) (part_of_all m ms i)

pub behind_outcome : (before text part : List ℕ) {X : Type 0} → X ⊎ HasPart text part → X ⊎ HasPart (before ++ text) part
behind_outcome before text part (inl x) = inl x
behind_outcome before text part (inr has) = inr (part_right before text part has)

-- what was appended had been before, or is new
pub old_or_new : (m : Appended) (r next : Run) → IsFrontOf r.appended next.appended → In m next.appended → In m r.appended ⊎ In m (new_messages r next)
old_or_new m r next grown i =
    let new : new_messages r next ≡ grown.0 = ap (drop (length r.appended)) (sym grown.1) ∙ drop-append_seam r.appended grown.0 in
    ⊎_elim (λ j. inl j) (λ j. inr (subst (In m) (sym new) j)) (in_cases m r.appended grown.0 (subst (In m) (sym grown.1) i))

pub new_part : (m : Appended) (r next : Run) → IsFrontOf r.appended next.appended → In m next.appended → In m r.appended ⊎ HasPart (flat_map appended_text (new_messages r next)) (appended_text m)
new_part m r next grown i = ⊎_elim (λ j. inl j) (λ j. inr (part_of_all m (new_messages r next) j)) (old_or_new m r next grown i)
