-- A table of names and keywords, looked through for a word.
use Rattle.std.proofs.Common.{◌≡◌, ℕ, Bool, true, false, cond, List, [], ◌∷◌, map, Some, option_map, Bor, refl}
use Rattle.std.specs.List.{find}
use Rattle.script_lang.specs.Words.{are_same}
use Rattle.script_lang.specs.Lines.{Named, named}
use Rattle.script_lang.specs.declared.keywords.Keyword.{Keyword}

abbrev pub Entry : Type 0
Entry = Bor (List ℕ) × Keyword

abbrev pub named_by : Entry → Named
named_by entry = named entry.0.now entry.1

abbrev pub has_name : List ℕ → Entry → Bool
has_name word entry = are_same entry.0.now word

-- the keyword of the entry that is found
pub found_by_name : (word : List ℕ) (table : List Entry)
    → option_map (λ (entry : Entry). entry.1) (find (has_name word) table) ≡ option_map (λ (entry : Named). entry.keyword) (find (λ (entry : Named). are_same entry.word word) (map named_by table))
found_by_name word [] = refl
found_by_name word (entry ∷ table) = either (are_same entry.0.now word) (found_by_name word table)
  where
    either : (b : Bool) → option_map (λ (entry : Entry). entry.1) (find (has_name word) table) ≡ option_map (λ (entry : Named). entry.keyword) (find (λ (entry : Named). are_same entry.word word) (map named_by table))
        → option_map (λ (entry : Entry). entry.1) (cond b (Some entry) (find (has_name word) table))
        ≡ option_map (λ (entry : Named). entry.keyword) (cond b (Some (named_by entry)) (find (λ (entry : Named). are_same entry.word word) (map named_by table)))
    either true ih = refl
    either false ih = ih
