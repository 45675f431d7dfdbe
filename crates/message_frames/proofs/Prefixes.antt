-- A stream's prefix: a text differs from it, or is a front of it, or goes on behind it.
use Rattle.std.proofs.Common.{◌≡◌, ℕ, ◌+◌, Bool, true, false, List, [], ◌∷◌, ◌++◌, length, drop, Some, None, refl, sym, ◌∙◌, ap, ◌⊎◌, inl, inr, eqb}
use Rattle.std.proofs.lemmas.Bool.{cases_Bool, eq-eqb, eqb-true, true≢false}
use Rattle.frame_codec.specs.Reading.{reading}
use Rattle.frame_codec.specs.declared.malformed.Why.TheVariants.{Prefix}
use Rattle.message_frames.specs.Messages.{prefix_of, shortest_start, differing, heard, heard_of_frames}

-- how a text begins, against a prefix
pub data Begins (at : ℕ) (prefix text : List ℕ) : Type 0 where
  Differs : (place : ℕ) → ((more : List ℕ) → differing at prefix (text ++ more) ≡ Some place) → ((bytes : List ℕ) → text ≡ prefix ++ bytes → ⊥) → Begins at prefix text
  Shorter : differing at prefix text ≡ None → drop (length prefix) text ≡ [] → ((bytes : List ℕ) → text ≡ prefix ++ bytes → ⊥) → Begins at prefix text
  Follows : (bytes : List ℕ) → text ≡ prefix ++ bytes → Begins at prefix text

begins_later : (at p : ℕ) (prefix text : List ℕ) → Begins (at + 1) prefix text → Begins at (p ∷ prefix) (p ∷ text)
begins_later at p prefix text (Differs place differs apart) =
    Differs place (λ more. rw (eq-eqb p p refl) (differs more)) (λ bytes e. apart bytes (let tails : text ≡ prefix ++ bytes = cc in tails))
begins_later at p prefix text (Shorter agrees short apart) =
    Shorter (rw (eq-eqb p p refl) agrees) short (λ bytes e. apart bytes (let tails : text ≡ prefix ++ bytes = cc in tails))
begins_later at p prefix text (Follows bytes e) = Follows bytes (ap (λ t. p ∷ t) e)

pub begins : (at : ℕ) (prefix text : List ℕ) → Begins at prefix text
begins at [] text = Follows text refl
begins at (p ∷ prefix) [] = Shorter refl refl (λ bytes e. absurd (cc))
begins at (p ∷ prefix) (b ∷ text) = go (cases_Bool (eqb p b)) (begins (at + 1) prefix text)
  where
    go : (eqb p b ≡ true) ⊎ (eqb p b ≡ false) → Begins (at + 1) prefix text → Begins at (p ∷ prefix) (b ∷ text)
    go (inl same) later = rw (sym (eqb-true p b same)) (begins_later at p prefix text later)
    go (inr other) later =
        Differs at (λ more. rw other refl) (λ bytes e. let heads : p ≡ b = cc in true≢false (sym (eq-eqb p b heads) ∙ other))

pub agrees_behind : (at : ℕ) (prefix bytes : List ℕ) → differing at prefix (prefix ++ bytes) ≡ None
agrees_behind at [] bytes = refl
agrees_behind at (p ∷ prefix) bytes = rw (eq-eqb p p refl) (agrees_behind (at + 1) prefix bytes)

pub drop_front : (front bytes : List ℕ) → drop (length front) (front ++ bytes) ≡ bytes
drop_front [] bytes = refl
drop_front (b ∷ front) bytes = drop_front front bytes

-- what is heard

-- the place of the first byte behind the prefix
abbrev pub behind : Bool → ℕ
behind prefix = length (prefix_of prefix)

pub heard_behind : (prefix : Bool) (bytes : List ℕ) → heard prefix (prefix_of prefix ++ bytes) ≡ heard_of_frames (shortest_start prefix) (reading (behind prefix) bytes)
unfolding heard
heard_behind prefix bytes = rw (agrees_behind 0 (prefix_of prefix) bytes, heard) (ap (λ t. heard_of_frames (shortest_start prefix) (reading (behind prefix) t)) (drop_front (prefix_of prefix) bytes))

pub heard_of_other : (prefix : Bool) (text : List ℕ) (place : ℕ) → differing 0 (prefix_of prefix) text ≡ Some place →
    heard prefix text ≡ record { messages = []; fault = Some (record { at = place; why = Prefix }) }
unfolding heard
heard_of_other prefix text place differs = rw (differs, heard) refl

pub heard_of_less : (prefix : Bool) (text : List ℕ) → differing 0 (prefix_of prefix) text ≡ None → drop (behind prefix) text ≡ [] →
    heard prefix text ≡ record { messages = []; fault = None }
unfolding heard reading
heard_of_less prefix text agrees short = rw (agrees, heard) (ap (λ t. heard_of_frames (shortest_start prefix) (reading (behind prefix) t)) short)
