-- The lines of a text that grows: what a newline ends, and what is left.
use Rattle.std.proofs.Common.{◌≡◌, ℕ, ◌+◌, ◌==◌, Bool, true, false, cond, List, [], ◌∷◌, ◌++◌, length, take, drop, refl, ap, sym, ◌∙◌, subst}
use Rattle.memchr.specs.Find.{Nowhere, NoneBefore, Passes, is_byte}
use Rattle.script_lang.specs.Words.{newline, pieces_at, onto_first, fronts, last_piece, whole_lines, unfinished}
use Rattle.script_lang.specs.Pieces.{IsOnePiece}
use Rattle.script_lang.proofs.Pieces.{first_piece, cut, uncut}

-- pieces after a text that no separator ends: the first goes on from it
abbrev pub joined : List ℕ → List (List ℕ) → List (List ℕ)
joined text [] = text ∷ []
joined text (piece ∷ pieces) = (text ++ piece) ∷ pieces

onto_joined : (x : ℕ) (p : List ℕ) (ps : List (List ℕ)) (q : List ℕ) (qs : List (List ℕ))
    → onto_first x (fronts (p ∷ ps) ++ joined (last_piece (p ∷ ps)) (q ∷ qs)) ≡ fronts (onto_first x (p ∷ ps)) ++ joined (last_piece (onto_first x (p ∷ ps))) (q ∷ qs)
onto_joined x p [] q qs = refl
onto_joined x p (r ∷ rs) q qs = refl

-- the pieces of a text and of more of it
pub pieces-append : (sep : ℕ) (xs ys : List ℕ) → pieces_at sep (xs ++ ys) ≡ fronts (pieces_at sep xs) ++ joined (last_piece (pieces_at sep xs)) (pieces_at sep ys)
pieces-append sep [] ys = let q = first_piece sep ys in q.2 ∙ sym (ap (joined []) q.2)
pieces-append sep (x ∷ xs) ys = by_test (pieces-append sep xs ys) (x == sep)
  where
    p : (piece : List ℕ) × (rest : List (List ℕ)) × (pieces_at sep xs ≡ piece ∷ rest)
    p = first_piece sep xs

    q : (piece : List ℕ) × (rest : List (List ℕ)) × (pieces_at sep ys ≡ piece ∷ rest)
    q = first_piece sep ys

    ended : (ps : List (List ℕ)) → ps ≡ p.0 ∷ p.1 → [] ∷ (fronts ps ++ joined (last_piece ps) (pieces_at sep ys)) ≡ fronts ([] ∷ ps) ++ joined (last_piece ([] ∷ ps)) (pieces_at sep ys)
    ended ps e = let P : List (List ℕ) → Type 0 = λ zs. [] ∷ (fronts zs ++ joined (last_piece zs) (pieces_at sep ys)) ≡ fronts ([] ∷ zs) ++ joined (last_piece ([] ∷ zs)) (pieces_at sep ys) in subst P (sym e) refl

    going : (ps qs : List (List ℕ)) → ps ≡ p.0 ∷ p.1 → qs ≡ q.0 ∷ q.1
        → onto_first x (fronts ps ++ joined (last_piece ps) qs) ≡ fronts (onto_first x ps) ++ joined (last_piece (onto_first x ps)) qs
    going ps qs e f = rw (e, f) (onto_joined x p.0 p.1 q.0 q.1)

    by_test : pieces_at sep (xs ++ ys) ≡ fronts (pieces_at sep xs) ++ joined (last_piece (pieces_at sep xs)) (pieces_at sep ys) → (b : Bool) → cond b ([] ∷ pieces_at sep (xs ++ ys)) (onto_first x (pieces_at sep (xs ++ ys)))
        ≡ fronts (cond b ([] ∷ pieces_at sep xs) (onto_first x (pieces_at sep xs))) ++ joined (last_piece (cond b ([] ∷ pieces_at sep xs) (onto_first x (pieces_at sep xs)))) (pieces_at sep ys)
    by_test ih true = ap (λ zs. [] ∷ zs) ih ∙ ended (pieces_at sep xs) p.2
    by_test ih false = ap (onto_first x) ih ∙ going (pieces_at sep xs) (pieces_at sep ys) p.2 q.2

fronts-append : (fs : List (List ℕ)) (z : List ℕ) (zs : List (List ℕ)) → fronts (fs ++ z ∷ zs) ≡ fs ++ fronts (z ∷ zs)
fronts-append [] z zs = refl
fronts-append (f ∷ []) z zs = refl
fronts-append (f ∷ g ∷ gs) z zs = ap (λ hs. f ∷ hs) (fronts-append (g ∷ gs) z zs)

last_piece-append : (fs : List (List ℕ)) (z : List ℕ) (zs : List (List ℕ)) → last_piece (fs ++ z ∷ zs) ≡ last_piece (z ∷ zs)
last_piece-append [] z zs = refl
last_piece-append (f ∷ []) z zs = refl
last_piece-append (f ∷ g ∷ gs) z zs = last_piece-append (g ∷ gs) z zs

-- what no newline ends has none
pub unfinished_is_one : (xs : List ℕ) → IsOnePiece (unfinished xs)
unfinished_is_one [] = refl
unfinished_is_one (x ∷ xs) = by_test (unfinished_is_one xs) (x == newline) refl
  where
    p : (piece : List ℕ) × (rest : List (List ℕ)) × (pieces_at newline xs ≡ piece ∷ rest)
    p = first_piece newline xs

    single : (x == newline) ≡ false → (piece : List ℕ) (rest : List (List ℕ)) → IsOnePiece (last_piece (piece ∷ rest)) → IsOnePiece (last_piece (onto_first x (piece ∷ rest)))
    single e piece [] h = ap (λ b. cond b ([] ∷ pieces_at newline piece) (onto_first x (pieces_at newline piece))) e ∙ ap (onto_first x) h
    single e piece (r ∷ rs) h = h

    by_test : IsOnePiece (unfinished xs) → (b : Bool) → (x == newline) ≡ b → IsOnePiece (last_piece (cond b ([] ∷ pieces_at newline xs) (onto_first x (pieces_at newline xs))))
    by_test ih true e = let P : List (List ℕ) → Type 0 = λ ps. IsOnePiece (last_piece ps) → IsOnePiece (last_piece ([] ∷ ps)) in subst P (sym p.2) (λ h. h) ih
    by_test ih false e = let P : List (List ℕ) → Type 0 = λ ps. IsOnePiece (last_piece ps) → IsOnePiece (last_piece (onto_first x ps)) in subst P (sym p.2) (single e p.0 p.1) ih

-- the pieces of a text that was one piece, and of more
pub one-append : (text ys : List ℕ) → IsOnePiece text → pieces_at newline (text ++ ys) ≡ joined text (pieces_at newline ys)
one-append text ys one = pieces-append newline text ys ∙ ap (λ ps. fronts ps ++ joined (last_piece ps) (pieces_at newline ys)) one

-- more of a text: the lines that were whole stay, and the rest goes on
pub whole_lines-append : (xs ys : List ℕ) → whole_lines (xs ++ ys) ≡ whole_lines xs ++ whole_lines (unfinished xs ++ ys)
whole_lines-append xs ys =
    let q = first_piece newline ys in
    let after : pieces_at newline (unfinished xs ++ ys) ≡ (unfinished xs ++ q.0) ∷ q.1 = one-append (unfinished xs) ys (unfinished_is_one xs) ∙ ap (joined (unfinished xs)) q.2 in
    ap fronts (pieces-append newline xs ys ∙ ap (λ ps. whole_lines xs ++ joined (unfinished xs) ps) q.2)
    ∙ fronts-append (whole_lines xs) (unfinished xs ++ q.0) q.1
    ∙ ap (λ ps. whole_lines xs ++ fronts ps) (sym after)

pub unfinished-append : (xs ys : List ℕ) → unfinished (xs ++ ys) ≡ unfinished (unfinished xs ++ ys)
unfinished-append xs ys =
    let q = first_piece newline ys in
    let after : pieces_at newline (unfinished xs ++ ys) ≡ (unfinished xs ++ q.0) ∷ q.1 = one-append (unfinished xs) ys (unfinished_is_one xs) ∙ ap (joined (unfinished xs)) q.2 in
    ap last_piece (pieces-append newline xs ys ∙ ap (λ ps. whole_lines xs ++ joined (unfinished xs) ps) q.2)
    ∙ last_piece-append (whole_lines xs) (unfinished xs ++ q.0) q.1
    ∙ ap last_piece (sym after)

-- a newline ends the line that was begun
pub line_ends : (text ys : List ℕ) (k : ℕ) → IsOnePiece text → NoneBefore (Passes (is_byte newline) ys) 0 (length ys) k → Passes (is_byte newline) ys k
    → (whole_lines (text ++ ys) ≡ (text ++ take k ys) ∷ whole_lines (drop (k + 1) ys)) × (unfinished (text ++ ys) ≡ unfinished (drop (k + 1) ys))
line_ends text ys k one before here = (ap fronts pieces ∙ rw q.2 refl, ap last_piece pieces ∙ rw q.2 refl)
  where
    q : (piece : List ℕ) × (rest : List (List ℕ)) × (pieces_at newline (drop (k + 1) ys) ≡ piece ∷ rest)
    q = first_piece newline (drop (k + 1) ys)

    pieces : pieces_at newline (text ++ ys) ≡ (text ++ take k ys) ∷ pieces_at newline (drop (k + 1) ys)
    pieces = one-append text ys one ∙ ap (joined text) (cut newline ys k before here)

-- without a newline the line goes on
pub line_goes_on : (text ys : List ℕ) → IsOnePiece text → Nowhere (Passes (is_byte newline) ys) 0 (length ys) → IsOnePiece (text ++ ys)
line_goes_on text ys one none = one-append text ys one ∙ ap (joined text) (uncut newline ys none)

pub one_piece_lines : (text : List ℕ) → IsOnePiece text → (whole_lines text ≡ []) × (unfinished text ≡ text)
one_piece_lines text one = (ap fronts one, ap last_piece one)
