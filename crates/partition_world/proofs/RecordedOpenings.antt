-- Openings of a log that has grown, and the newest one of a reset.
use Rattle.std.proofs.Common.{◌≡◌, ℕ, zero, suc, ◌==◌, true, false, Bool, cond, if◌then◌else◌, List, [], ◌∷◌, ◌++◌, map, length, reverse, Option, Some, None, refl, ap, sym, ◌∙◌, arith}
use Rattle.std.specs.List.{find}
use Rattle.std.proofs.lemmas.List.{reverse-append, map-append}
use Rattle.partition_protocol.specs.History.{Entry, opening_at}
use Rattle.partition_world.specs.declared.opening.Opening.{Opening}
use Rattle.partition_world.specs.Places.{at_places, AreBelow}
use Rattle.partition_world.specs.Openings.{opening_of, AreWithin, has_reset}
use Rattle.partition_world.proofs.AtPlaces.{at_front, at_more, get_last}

-- mapped and turned around

pub map_reverse : {X Y : Type 0} (f : X → Y) (xs : List X) → map f (reverse xs) ≡ reverse (map f xs)
map_reverse f [] = refl
map_reverse f (x ∷ xs) =
    ap (map f) (reverse-append (x ∷ []) xs) ∙ map-append f (reverse xs) (x ∷ [])
    ∙ ap (λ ys. ys ++ f x ∷ []) (map_reverse f xs) ∙ sym (reverse-append (f x ∷ []) (map f xs))

-- places within a log

pub within_first : (n : ℕ) (o : Opening) (os : List Opening) → AreWithin n (o ∷ os) → AreBelow n o.places.items
within_first n o os all = all zero o (omega arith)

pub within_rest : (n : ℕ) (o : Opening) (os : List Opening) → AreWithin n (o ∷ os) → AreWithin n os
within_rest n o os all i d within = all (suc i) d (omega (arith, within))

module _ {C : Type 0} (log more : List (Entry C)) where
  same_openings : (os : List Opening) → AreWithin (length log) os → map (opening_of (log ++ more)) os ≡ map (opening_of log) os
  same_openings [] all = refl
  same_openings (o ∷ os) all = rw (at_front log more o.places.items (within_first (length log) o os all), same_openings os (within_rest (length log) o os all)) refl

  -- a log that has grown has the same openings
  pub openings_grown : (os : List Opening) → AreWithin (length log) os → map (opening_of (log ++ more)) (reverse os) ≡ map (opening_of log) (reverse os)
  openings_grown os all = map_reverse (opening_of (log ++ more)) os ∙ ap reverse (same_openings os all) ∙ sym (map_reverse (opening_of log) os)

-- what comes last in the log comes last at the places too
pub reopened : {X : Type 0} (log : List X) (places : List ℕ) (x : X) → AreBelow (length log) places → at_places (log ++ x ∷ []) (places ++ length log ∷ []) ≡ at_places log places ++ x ∷ []
reopened log places x all = at_more (log ++ x ∷ []) places (length log) x (get_last log x) ∙ ap (λ es. es ++ x ∷ []) (at_front log (x ∷ []) places all)

-- the newest opening with a reset

abbrev pub entries_of : {C : Type 0} → List (Entry C) → Option Opening → List (Entry C)
entries_of log None = []
entries_of log (Some o) = at_places log o.places.items

pub opening_found : {C : Type 0} (log : List (Entry C)) (reset : ℕ) (os : List Opening) → opening_at reset (map (opening_of log) os) ≡ entries_of log (find (has_reset reset) os)
opening_found log reset [] = refl
opening_found {C = C} log reset (o ∷ os) = go (o.reset == reset) (opening_found log reset os)
  where
    go : (b : Bool) → opening_at reset (map (opening_of log) os) ≡ entries_of log (find (has_reset reset) os)
        → (if b then at_places log o.places.items else opening_at reset (map (opening_of log) os)) ≡ entries_of log (cond b (Some o) (find (has_reset reset) os))
    go true e = refl
    go false e = e
