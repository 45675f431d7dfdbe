-- Bytes of a piece, and bytes that came.
use Rattle.std.proofs.Common.{◌≡◌, ℕ, ◌+◌, ◌-◌, ◌≤◌, ◌<◌, Bool, true, false, nat_lt, List, [], ◌++◌, length, take, drop, slice_range, refl, ap, sym, ◌∙◌, arith, append-nil, append_assoc}
use Rattle.std.proofs.lemmas.List.{length-take, take-take, drop-drop, drop-take, drop_all, take-append-le, take_all}
use Rattle.std.proofs.lemmas.Bool.Decides.{nat_tests}
use Rattle.std.proofs.Math.Seq.{take-append-add}
use Rattle.partition_protocol.specs.Sequences.{IsFrontOf}
use Rattle.script_lang.specs.Limits.{most_bytes}

-- from a place of a piece to another
abbrev pub between : List ℕ → ℕ → ℕ → List ℕ
between piece from to = drop from (take to piece)

pub range_is : (piece : List ℕ) (from to : ℕ) → from ≤ to → slice_range piece from to ≡ between piece from to
range_is piece from to less = sym (drop-take from (to - from) piece) ∙ ap (λ k. drop from (take k piece)) (let is : from + (to - from) ≡ to = omega (arith, less) in is)

pub between_front : (piece : List ℕ) (from to n : ℕ) → from + n ≤ to → between piece from (from + n) ≡ take n (between piece from to)
between_front piece from to n less =
    drop-take from n piece
    ∙ (sym (take-take n (to - from) (drop from piece) (omega (arith, less)))
    ∙ ap (take n) (sym (drop-take from (to - from) piece) ∙ ap (λ k. drop from (take k piece)) (back from to (omega (arith, less)))))
  where
    back : (a b : ℕ) → a ≤ b → a + (b - a) ≡ b
    back a b less = omega arith

pub between_rest : (piece : List ℕ) (from to n : ℕ) → between piece (from + n) to ≡ drop n (between piece from to)
between_rest piece from to n = sym (drop-drop n from (take to piece))

pub between_none : (piece : List ℕ) (from to : ℕ) → to ≤ from → between piece from to ≡ []
between_none piece from to less = drop_all from (take to piece) (omega (arith, length-take to piece))

pub is_past : (n limit : ℕ) → nat_lt limit n ≡ true → limit < n
is_past n limit h = grind (arith, nat_tests)

pub is_within : (n limit : ℕ) → nat_lt limit n ≡ false → n ≤ limit
is_within n limit h = grind (arith, nat_tests)

-- as much of what came as is looked at is a front of as much of more
pub front_of_more : (came rest : List ℕ) → IsFrontOf (take most_bytes came) (take most_bytes (came ++ rest))
front_of_more came rest = go (nat_lt most_bytes (length came)) refl
  where
    many : most_bytes ≤ length came → IsFrontOf (take most_bytes came) (take most_bytes (came ++ rest))
    many less = ([], append-nil (take most_bytes came) ∙ sym (take-append-le most_bytes came rest less))

    few : length came ≤ most_bytes → IsFrontOf (take most_bytes came) (take most_bytes (came ++ rest))
    few less =
        let room : ℕ = most_bytes - length came in
        let is : length came + room ≡ most_bytes = omega (arith, less) in
        (take room rest, ap (λ (bytes : List ℕ). bytes ++ take room rest) (take_all most_bytes came less) ∙ (sym (take-append-add came rest room) ∙ ap (λ n. take n (came ++ rest)) is))

    go : (b : Bool) → nat_lt most_bytes (length came) ≡ b → IsFrontOf (take most_bytes came) (take most_bytes (came ++ rest))
    go true e = many (let past = is_past (length came) most_bytes e in omega (arith, past))
    go false e = few (is_within (length came) most_bytes e)

pub front_then : (xs ys zs : List ℕ) → IsFrontOf xs ys → IsFrontOf ys zs → IsFrontOf xs zs
front_then xs ys zs a b = (a.0 ++ b.0, sym (append_assoc xs a.0 b.0) ∙ (ap (λ (l : List ℕ). l ++ b.0) a.1 ∙ b.1))

-- more came behind what had come
pub more_given : (first now later read more : List ℕ) → now ≡ first ++ read → later ≡ now ++ more → later ≡ first ++ (read ++ more)
more_given first now later read more before came = came ∙ (ap (λ (l : List ℕ). l ++ more) before ∙ append_assoc first read more)
