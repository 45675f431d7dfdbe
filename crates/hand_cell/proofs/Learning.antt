-- What a pass has seen that took in a part of another, one with no name.
use Rattle.std.proofs.Common.{◌≡◌, ℕ, ⊎_elim, ◌||◌, Bool, true, false, List, [], ◌∷◌, sym, refl, ap, ◌∙◌, subst, append-nil}
use Rattle.hand_cell.specs.declared.names.Key.{Key}
use Rattle.hand_cell.specs.declared.names.NameSet.{NameSet}
use Rattle.hand_cell.specs.declared.names.Numbers.{Numbers}
use Rattle.hand_cell.specs.declared.names.Numbers.TheVariants.{Only, AllBut}
use Rattle.hand_cell.specs.Calls.{HasLearned}
use Rattle.hand_cell.specs.Names.{removed, union, no_name, both_names}
use Rattle.hand_cell.specs.Rule.{longer_of, Extends}
use Rattle.hand_cell.specs.Told.{Told, with_names, having_seen, SeesMore}
use Rattle.hand_cell.proofs.Prefixes.{longer_left, longer_right}

none_removed : (xs : List ℕ) → removed [] xs ≡ xs
none_removed [] = refl
none_removed (x ∷ xs) = ap (λ (z : List ℕ). x ∷ z) (none_removed xs)

no_numbers_more : (s : Numbers) → union s (Only []) ≡ s
no_numbers_more (Only xs) = ap Only (append-nil xs)
no_numbers_more (AllBut xs) = ap AllBut (none_removed xs)

none_or : (b : Bool) → (b || false) ≡ b
none_or true = refl
none_or false = refl

no_names_more : (s : NameSet) → both_names s no_name ≡ s
no_names_more s i = record { control = none_or s.control i; numbers = no_numbers_more s.numbers i }

module _ {E : Type 0} (key_of : E → Key) (old from new : Told E) (is : new ≡ with_names (having_seen old (longer_of old.seen from.seen)) (both_names old.names no_name)) where
  sees : new.seen ≡ longer_of old.seen from.seen
  sees = ap (λ (p : Told E). p.seen) is

  same : new ≡ having_seen old (longer_of old.seen from.seen)
  same = is ∙ ap (with_names (having_seen old (longer_of old.seen from.seen))) (no_names_more old.names)

  has_learned : Extends key_of old.seen old.names from.seen no_name → HasLearned key_of old from new
  has_learned extends = ⊎_elim
      (λ (more : SeesMore key_of old.names old.seen from.seen).
      let whole : new.seen ≡ from.seen = sees ∙ (ap (longer_of old.seen) more.1 ∙ (longer_right old.seen more.0 ∙ sym more.1)) in record {
        pass_is = same;
        sees_more = (more.0, whole ∙ more.1, more.2);
        others = [];
        knows = whole ∙ sym (append-nil from.seen);
      })
      (λ (less : SeesMore key_of no_name from.seen old.seen).
      let whole : new.seen ≡ old.seen = sees ∙ (ap (λ (z : List E). longer_of z from.seen) less.1 ∙ (longer_left from.seen less.0 ∙ sym less.1)) in record {
        pass_is = same;
        sees_more = ([], whole ∙ sym (append-nil old.seen), tt);
        others = less.0;
        knows = whole ∙ less.1;
      })
      extends

-- so it is where the part was cut off the other just before
module _ {E : Type 0} (key_of : E → Key) (old from part new : Told E) (cut : part ≡ with_names from no_name) where
  pub has_learned_by : new ≡ with_names (having_seen old (longer_of old.seen part.seen)) (both_names old.names part.names)
      → Extends key_of old.seen old.names part.seen part.names → HasLearned key_of old from new
  has_learned_by is extends = has_learned key_of old from new
      (subst (λ (p : Told E). new ≡ with_names (having_seen old (longer_of old.seen p.seen)) (both_names old.names p.names)) cut is)
      (subst (λ (p : Told E). Extends key_of old.seen old.names p.seen p.names) cut extends)
