-- Readings made of steps.
use Rattle.std.proofs.Common.{◌≡◌, ℕ, ◌==◌, true, List, length, Result, Ok, Err, MatchResult, IsErrAnd, refl, sym, subst, arith}
use Rattle.std.proofs.lemmas.Bool.Decides.{nat_tests}
use Rattle.script_lang.specs.Lines.{fields_of, values_of, line_with, line_of_fields, ◌>>=◌}
use Rattle.script_lang.specs.Readings.{Reads}
use Rattle.script_lang.specs.declared.keywords.Keyword.{Keyword}
use Rattle.script_lang.specs.declared.line.Line.{Line}
use Rattle.script_lang.specs.declared.reading.Value.{Value}
use Rattle.script_lang.specs.declared.refusal.LineWhy.{LineWhy}
use Rattle.script_lang.specs.declared.refusal.LineRefused.{LineRefused}
use Rattle.script_lang.specs.declared.refusal.LineRefused.TheVariants.{Why}

-- Where two steps give a value, the first gave one, and the second gave the value of it.
pub both_read : {A B : Type 0} (first : Result A LineWhy) (second : A → Result B LineWhy) (y : B) → first >>= second ≡ Ok y → (x : A) × (first ≡ Ok x) × (second x ≡ Ok y)
both_read {A} {B} (Err why) second y e = absurd (let no : ◌≡◌ {A = Result B LineWhy} (Err why) (Ok y) = e in cc)
both_read {A} {B} (Ok x) second y e = (x, refl, e)

-- Where there is a word for each field and all were read, the line is that of the values.
pub line_of_fields-read : (members : ℕ) (keyword : Keyword) (words : List (List ℕ)) (values : List Value) → length words ≡ length (fields_of keyword) → values_of members (fields_of keyword) words ≡ Ok values
    → line_of_fields members keyword words ≡ line_with keyword values
line_of_fields-read members keyword words values count read = let same : (length words == length (fields_of keyword)) ≡ true = grind (arith, nat_tests) in rw (same, read) refl

-- what a last step makes is told as it is
pub told_as_made : (made : Result Line LineWhy) (result : Result Line LineRefused) → MatchResult made (λ line. result ≡ Ok line) (λ why. IsErrAnd result (λ refused. refused ≡ Why why)) → Reads (λ (line : Line). line) result made
told_as_made (Ok line) result is = subst (λ (told : Result Line LineRefused). Reads (λ (line : Line). line) told (Ok line)) (sym is) refl
told_as_made (Err why) (Ok line) is = absurd is
told_as_made (Err why) (Err refused) is = subst (λ (told : LineRefused). Reads (λ (line : Line). line) (Err told) (Err why)) (sym is) refl
