-- A header and a payload as one list.
use Rattle.std.proofs.Common.{◌≡◌, ℕ, ◌+◌, ◌-◌, ◌*◌, ◌<◌, ◌≤◌, List, [], ◌++◌, length, take, drop, get_or, lit<, refl, arith, sym, ◌∙◌, ap, length-append, ⊎_elim}
use Rattle.std.proofs.lemmas.List.{get_or-take, length-take-le, take_all, drop_at, take_at, take-append-le, take-take, append-nil, append_assoc, take-append-drop, drop_all}
use Rattle.std.proofs.lemmas.Bool.{cases_lt}
use Rattle.std.proofs.lemmas.Slice.{take-put_mid}
use borrow.Rule.Slice.PartMut.{put_mid}
use Rattle.std.specs.Int.{w32, from_le_bytes}
use Rattle.frame_codec.specs.Layout.{IsLaidOut, laid_out}

pub drop-laid_out : (header : List ℕ) (count : ℕ) (payload : List ℕ) → IsLaidOut header count payload → drop 6 (laid_out header count payload) ≡ payload
drop-laid_out header count payload h = ⊎_elim early late (cases_lt count 6)
  where
    early : count < 6 → drop 6 (laid_out header count payload) ≡ payload
    early lt =
        let e : payload ≡ [] = h.header_first lt in
        rw (e, append-nil) (drop_all 6 (take count header) (omega (arith, length-take-le count header (omega (arith, h.room, h.within)))))

    late : 6 ≤ count → drop 6 (laid_out header count payload) ≡ payload
    late le = drop_at (take count header) payload 6 (omega (arith, h.room, h.within, length-take-le count header (omega (arith, h.room, h.within))))

pub take-laid_out : (header : List ℕ) (count : ℕ) (payload : List ℕ) → IsLaidOut header count payload → take 6 (laid_out header count payload) ≡ take count header
take-laid_out header count payload h = ⊎_elim early late (cases_lt count 6)
  where
    early : count < 6 → take 6 (laid_out header count payload) ≡ take count header
    early lt =
        let e : payload ≡ [] = h.header_first lt in
        rw (e, append-nil) (take_all 6 (take count header) (omega (arith, length-take-le count header (omega (arith, h.room, h.within)))))

    late : 6 ≤ count → take 6 (laid_out header count payload) ≡ take count header
    late le = take_at (take count header) payload 6 (omega (arith, h.room, h.within, length-take-le count header (omega (arith, h.room, h.within))))

pub length-laid_out : (header : List ℕ) (count : ℕ) (payload : List ℕ) → IsLaidOut header count payload → length (laid_out header count payload) ≡ count + length payload
length-laid_out header count payload h = omega (arith, length-append (take count header) payload, length-take-le count header (omega (arith, h.room, h.within)))

-- the length, once it is there
pub take_4-laid_out : (header : List ℕ) (count : ℕ) (payload : List ℕ) → IsLaidOut header count payload → 4 ≤ length (laid_out header count payload) → take 4 (laid_out header count payload) ≡ take 4 header
take_4-laid_out header count payload h long = ⊎_elim early late (cases_lt count 4)
  where
    early : count < 4 → take 4 (laid_out header count payload) ≡ take 4 header
    early lt =
        let e : length payload ≡ 0 = ap length (h.header_first (omega arith)) in
        absurd (omega (arith, e, length-laid_out header count payload h))

    late : 4 ≤ count → take 4 (laid_out header count payload) ≡ take 4 header
    late le =
        take-append-le 4 (take count header) payload (omega (arith, length-take-le count header (omega (arith, h.room, h.within))))
        ∙ take-take 4 count header le

pub from_le_bytes-take : (header : List ℕ) → from_le_bytes w32 (take 4 header) ≡ get_or header 0 0 + get_or header 1 0 * 256 + get_or header 2 0 * 65536 + get_or header 3 0 * 16777216
from_le_bytes-take header =
    rw (get_or-take 4 header 0 0 (lit< tt), get_or-take 4 header 1 0 (lit< tt), get_or-take 4 header 2 0 (lit< tt), get_or-take 4 header 3 0 (lit< tt)) refl

-- the next bytes, of which the first fill the header up and the others are payload
pub laid_out-append : (header : List ℕ) (count : ℕ) (payload bytes : List ℕ) (n k : ℕ) → IsLaidOut header count payload → n ≤ 6 - count →
    laid_out (put_mid count k header (take n bytes)) (count + length (take n bytes)) (payload ++ drop n bytes) ≡ laid_out header count payload ++ bytes
laid_out-append header count payload bytes n k h few =
    rw (take-put_mid count k header (take n bytes) (count + length (take n bytes)) refl (omega (arith, h.room, h.within)))
    (⊎_elim early late (cases_lt count 6))
  where
    early : count < 6 → (take count header ++ take n bytes) ++ (payload ++ drop n bytes) ≡ (take count header ++ payload) ++ bytes
    early lt =
        let e : payload ≡ [] = h.header_first lt in
        rw (e, append-nil, append_assoc, take-append-drop n bytes) refl

    late : 6 ≤ count → (take count header ++ take n bytes) ++ (payload ++ drop n bytes) ≡ (take count header ++ payload) ++ bytes
    late le =
        let z : n ≡ 0 = omega (arith, few) in
        rw (z, append-nil) (sym (append_assoc (take count header) payload bytes))

-- the same as the code has it: the front is copied into the header, the back goes on the payload
pub appended : (header : List ℕ) (count : ℕ) (payload bytes front back part items : List ℕ) (n k : ℕ) → IsLaidOut header count payload → n ≤ 6 - count →
    front ≡ take n bytes → back ≡ drop n bytes → part ≡ front → items ≡ payload ++ back →
    laid_out (put_mid count k header part) (count + length front) items ≡ laid_out header count payload ++ bytes
appended header count payload bytes front back part items n k h few f b p i =
    rw (p, i, f, b) (laid_out-append header count payload bytes n k h few)
