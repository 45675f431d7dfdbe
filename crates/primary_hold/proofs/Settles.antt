-- Answers released from the front of those that are held.
use Rattle.std.proofs.Common.{◌≡◌, ◌<◌, Bool, true, false, ◌&&◌, List, [], ◌∷◌, ◌++◌, Some, length, map, drop, take, slice_get, refl, ap, sym, ◌∙◌, append_assoc, arith}
use Rattle.std.specs.List.{list_all}
use Rattle.std.proofs.lemmas.List.{take-append-drop}
use Rattle.partition_table.specs.Rows.{is_empty}
use Rattle.partition_protocol.specs.Node.{Node, Held, is_released, still_held, settled}
use Rattle.primary_hold.specs.declared.answer.CallAnswer.{CallAnswer}
use Rattle.primary_hold.specs.Answering.{held_of, releases_first}

still_passes : (n : Node) (h : Held) (hs : List Held) → is_released n h.seen ≡ true → still_held n (h ∷ hs) ≡ still_held n hs
still_passes n h hs e = rw (still_held, e) refl

still_stops : (n : Node) (h : Held) (hs : List Held) → is_released n h.seen ≡ false → still_held n (h ∷ hs) ≡ h ∷ hs
still_stops n h hs e = rw (still_held, e) refl

abbrev holding : Node → List Held → Node
holding n hs = record n { held = hs }

still_other_at : (n : Node) (xs : List Held) (h : Held) (hs : List Held) (b : Bool) → is_released n h.seen ≡ b → still_held (holding n xs) hs ≡ still_held n hs → still_held (holding n xs) (h ∷ hs) ≡ still_held n (h ∷ hs)
still_other_at n xs h hs true e k = still_passes (holding n xs) h hs e ∙ k ∙ sym (still_passes n h hs e)
still_other_at n xs h hs false e k = still_stops (holding n xs) h hs e ∙ sym (still_stops n h hs e)

-- what is held plays no part in what is released
still_other : (n : Node) (xs hs : List Held) → still_held (holding n xs) hs ≡ still_held n hs
still_other n xs [] = refl
still_other n xs (h ∷ hs) = still_other_at n xs h hs (is_released n h.seen) refl (still_other n xs hs)

-- the first answer is released, and the others settle as all do
pub settled_on : (n : Node) (answers : List CallAnswer) → releases_first n (map held_of answers) ≡ true → settled (holding n (map held_of (drop 1 answers))) ≡ settled (holding n (map held_of answers))
settled_on n [] e = absurd (let no : false ≡ true = e in cc)
settled_on n (a ∷ as') e =
    let hs = map held_of as' in
    ap (holding n) (still_other n hs hs ∙ sym (still_passes n (held_of a) hs e) ∙ sym (still_other n (held_of a ∷ hs) (held_of a ∷ hs)))

-- nothing is released
pub settled_there : (n : Node) (hs : List Held) → releases_first n hs ≡ false → settled (holding n hs) ≡ holding n hs
settled_there n [] e = refl
settled_there n (h ∷ hs) e = ap (holding n) (still_other n (h ∷ hs) (h ∷ hs) ∙ still_stops n h hs e)

pub some_held : (n : Node) (answers : List CallAnswer) → releases_first n (map held_of answers) ≡ true → 0 < length answers
some_held n [] e = absurd (let no : false ≡ true = e in cc)
some_held n (a ∷ as') e = omega arith

-- the test of the first answer
pub first_is : (n : Node) (answers : List CallAnswer) (a : CallAnswer) → Some a ≡ slice_get answers 0 → is_released n a.seen ≡ releases_first n (map held_of answers)
first_is n [] a e = absurd (cc)
first_is n (b ∷ bs) a e = let same : a ≡ b = cc in ap (λ (x : CallAnswer). is_released n x.seen) same

-- released and held answers together stay as the first held one is released
pub all_stay : (released held : List CallAnswer) → (released ++ take 1 held) ++ drop 1 held ≡ released ++ held
all_stay released held = append_assoc released (take 1 held) (drop 1 held) ∙ ap (λ xs. released ++ xs) (take-append-drop 1 held)

-- nothing stays held where each answer may be released

none_left_at : (n : Node) (a : CallAnswer) (rest : List CallAnswer) (b : Bool) → is_released n a.seen ≡ b
    → list_all (λ (x : CallAnswer). is_released n x.seen) rest ≡ is_empty (still_held n (map held_of rest))
    → list_all (λ (x : CallAnswer). is_released n x.seen) (a ∷ rest) ≡ is_empty (still_held n (map held_of (a ∷ rest)))
none_left_at n a rest true e tail = ap (λ b. b && list_all (λ (x : CallAnswer). is_released n x.seen) rest) e ∙ tail ∙ ap is_empty (sym (still_passes n (held_of a) (map held_of rest) e))
none_left_at n a rest false e tail = ap (λ b. b && list_all (λ (x : CallAnswer). is_released n x.seen) rest) e ∙ ap is_empty (sym (still_stops n (held_of a) (map held_of rest) e))

pub none_left : (n : Node) (answers : List CallAnswer) → list_all (λ (a : CallAnswer). is_released n a.seen) answers ≡ is_empty (still_held n (map held_of answers))
none_left n [] = refl
none_left n (a ∷ rest) = none_left_at n a rest (is_released n a.seen) refl (none_left n rest)
