-- One thing told after another.
use Rattle.std.proofs.Common.{◌≡◌, List, [], ◌∷◌, ◌++◌, ap, sym, ◌∙◌, append_assoc, append-nil}
use Rattle.grid_client.specs.States.{State}
use Rattle.grid_client.specs.Hearing.{Told, nothing, followed, HasTold}
use Rattle.grid_client.specs.declared.heard.Heard.{Heard}

-- what is left to be told comes to what all does
pub record IsLeft (left all : Told) (before heard : List Heard) : Type 0 where
  pub state : left.after ≡ all.after
  pub said : heard ++ left.heard ≡ before ++ all.heard

module _ {X : Type 0} (one : X → State → Told) (all : List X → State → Told) (next : (x : X) (xs : List X) (s : State) → all (x ∷ xs) s ≡ followed (one x s) (all xs)) where
  pub one_more : (whole : Told) (start : List Heard) (left rest : List X) (x : X) (s new : State) (before after : List Heard)
      → left ≡ x ∷ rest → HasTold (one x s) new before after → IsLeft (all left s) whole start before → IsLeft (all rest new) whole start after
  one_more whole start left rest x s new before after is told was =
      let t = one x s in
      let split : all left s ≡ followed t (all rest) = ap (λ (l : List X). all l s) is ∙ next x rest s in
      record {
        state = ap (λ (n : State). (all rest n).after) told.state ∙ sym (ap (λ (u : Told). u.after) split) ∙ was.state;
        said =
            ap (λ (h : List Heard). h ++ (all rest new).heard) told.heard
            ∙ ap (λ (n : State). (before ++ t.heard) ++ (all rest n).heard) told.state
            ∙ append_assoc before t.heard (all rest t.after).heard
            ∙ sym (ap (λ (u : Told). before ++ u.heard) split)
            ∙ was.said;
      }

  pub none_left : (whole : Told) (start : List Heard) (left : List X) (s : State) (heard : List Heard)
      → left ≡ [] → ((t : State) → all [] t ≡ nothing t) → IsLeft (all left s) whole start heard → HasTold whole s start heard
  none_left whole start left s heard is empty was =
      let none : all left s ≡ nothing s = ap (λ (l : List X). all l s) is ∙ empty s in
      record {
        state = sym (ap (λ (u : Told). u.after) none) ∙ was.state;
        heard = sym (append-nil heard) ∙ sym (ap (λ (u : Told). heard ++ u.heard) none) ∙ was.said;
      }
