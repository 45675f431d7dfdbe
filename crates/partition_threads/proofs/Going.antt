-- What a pass has seen after a turn.
use Rattle.std.proofs.Common.{◌≡◌, List, [], ◌∷◌, ◌++◌, refl, ap, ◌∙◌, append_assoc, Option, Some, None}
use Rattle.hand_cell.specs.declared.names.Key.{Key}
use Rattle.hand_cell.specs.declared.names.NameSet.{NameSet}
use Rattle.hand_cell.specs.Names.{has, NoneOf}
use Rattle.hand_cell.specs.Told.{Told, Taken, having_seen, so_far, after_ran}
use Rattle.hand_cell.specs.Calls.{Enters}
use Rattle.partition_threads.specs.Turns.{Follows, IsFree}

module _ {E : Type 0} (key_of : E → Key) where
  pub none_append : (s : NameSet) (xs ys : List E) → NoneOf key_of s xs → NoneOf key_of s ys → NoneOf key_of s (xs ++ ys)
  none_append s [] ys p q = q
  none_append s (x ∷ xs) ys p q = (p.0, none_append s xs ys p.1 q)

  -- a turn in which nothing was run, or an event with no name
  pub follows_turn : {T P : Type 0} (p : Told E) (t u : Taken T E P) (r : Told E) → Enters key_of p t → u.pass ≡ t.pass → IsFree key_of u.ran → r ≡ having_seen u.pass (so_far u) → Follows key_of p r
  follows_turn p t u r en same free left = go u.ran refl free
    where
      go : (o : Option E) → u.ran ≡ o → IsFree key_of o → Follows key_of p r
      go None is free = record {
        later = en.later;
        pass = left ∙ (ap (λ (z : Option E). having_seen u.pass (after_ran u.pass.seen z)) is ∙ ap (λ (z : Told E). having_seen z z.seen) (same ∙ en.pass));
        not_own = en.not_own;
      }
      go (Some x) is free = record {
        later = en.later ++ x ∷ [];
        pass = left ∙ (ap (λ (z : Option E). having_seen u.pass (after_ran u.pass.seen z)) is
            ∙ (ap (λ (z : Told E). having_seen z (z.seen ++ x ∷ [])) (same ∙ en.pass) ∙ ap (having_seen p) (append_assoc p.seen en.later (x ∷ []))));
        not_own = none_append p.names en.later (x ∷ []) en.not_own (ap (has p.names) free, tt);
      }
