-- Which words are those of a sample.
use Rattle.std.proofs.Common.{◌≡◌, ℕ, ◌≤◌, ◌&&◌, Bool, true, false, cond, nat_le, List, [], ◌∷◌, Option, Some, None, option_and_then, slice_index, string_bytes, codes, refl, sym, ap, ◌∙◌, arith}
use Rattle.std.proofs.lemmas.Bool.Decides.{nat_tests}
use Rattle.std.specs.Cmp.Lexicographic.{same_text}
use Rattle.script_lang.specs.Words.{are_same, number_of, number_within}
use Rattle.serve_options.specs.Options.{Words}
use Rattle.grid_server.specs.Commands.{is_serve, sample_of}

pub some_none : (n : ℕ) → ◌≡◌ {A = Option ℕ} (Some n) None → ⊥
some_none n e = cc

pub same_some : (m n : ℕ) → ◌≡◌ {A = Option ℕ} (Some m) (Some n) → m ≡ n
same_some m n e = cc

-- a number that was read is no larger than the largest
most_in : (most : ℕ) (number : Option ℕ) (n : ℕ) → option_and_then (λ n. cond (nat_le 0 n && nat_le n most) (Some n) None) number ≡ Some n → n ≤ most
most_in most None n e = absurd (some_none n (sym e))
most_in most (Some m) n e = either (nat_le 0 m && nat_le m most) refl e
  where
    either : (b : Bool) → nat_le 0 m && nat_le m most ≡ b → cond b (Some m) None ≡ Some n → n ≤ most
    either true is e = let same : m ≡ n = cc in grind (arith, nat_tests)
    either false is e = absurd (some_none n (sym e))

pub within_most : (most : ℕ) (word : List ℕ) (n : ℕ) → Some n ≡ number_within 0 most word → n ≤ most
within_most most word n e = most_in most (number_of word) n (sym e)

-- No words are those of a sample and of a server
pub sample_is_no_server : (words : Words) (number : ℕ) → sample_of words ≡ Some number → is_serve words ≡ true → ⊥
sample_is_no_server [] number e s = some_none number (sym e)
sample_is_no_server (command ∷ []) number e s = some_none number (sym e)
sample_is_no_server (command ∷ word ∷ []) number e s = either (are_same (string_bytes command) (codes "sample")) refl e
  where
    either : (b : Bool) → are_same (string_bytes command) (codes "sample") ≡ b → cond b (number_within 0 4294967295 (string_bytes word)) None ≡ Some number → ⊥
    either true is e =
        let first = same_text (string_bytes command) (codes "sample") (sym is) in
        let second = same_text (string_bytes command) (codes "serve") (sym s) in
        let letter : 97 ≡ 101 = ap (λ bytes. slice_index bytes 1) (sym first ∙ second) in
        absurd (omega (arith, letter))
    either false is e = some_none number (sym e)
sample_is_no_server (command ∷ word ∷ other ∷ words) number e s = some_none number (sym e)
