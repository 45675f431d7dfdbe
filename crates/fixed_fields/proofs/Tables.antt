-- What a table of requests has.
use Rattle.std.proofs.Common.{◌≡◌, ◌≢◌, ◌↔◌, ℕ, ◌==◌, Bool, true, false, cond, List, [], ◌∷◌, Option, Some, None, All, refl, sym, ap, subst}
use Rattle.std.proofs.lemmas.Bool.{eqb-true, eqb-false}
use Rattle.std.proofs.lemmas.List.Elements.{All-nil, All-cons, All-head, All-tail}
use Rattle.fixed_fields.specs.Requests.{Row, kinds_in, reader_of, reader_in}

-- Each row of a table keeps a rule.
abbrev pub EachRow : {Reader : Type 0} → (ℕ → Reader → Type 0) → List (Row Reader) → Type 0
EachRow Rule [] = Unit {0}
EachRow Rule (row ∷ rows) = Rule row.kind row.reader × EachRow Rule rows

row_keeps : {Reader : Type 0} (Rule : ℕ → Reader → Type 0) (row : Row Reader) (later : Option Reader) (kind : ℕ) (reader : Reader) → Rule row.kind row.reader → (later ≡ Some reader → Rule kind reader) → cond (kind == row.kind) (Some row.reader) later ≡ Some reader → Rule kind reader
row_keeps {Reader} Rule row later kind reader its others e = go (kind == row.kind) refl e
  where
    go : (b : Bool) → (kind == row.kind) ≡ b → cond b (Some row.reader) later ≡ Some reader → Rule kind reader
    go true same s =
        let reader_is : row.reader ≡ reader = cc in
        let kind_is : row.kind ≡ kind = sym (eqb-true kind row.kind same) in
        subst (λ (k : ℕ). Rule k reader) kind_is (subst (λ (r : Reader). Rule row.kind r) reader_is its)
    go false other s = others s

-- what reads a type keeps the rule of its row
pub reader_keeps : {Reader : Type 0} (Rule : ℕ → Reader → Type 0) (rows : List (Row Reader)) → EachRow Rule rows → (kind : ℕ) (reader : Reader) → reader_of kind rows ≡ Some reader → Rule kind reader
reader_keeps Rule [] each kind reader e = absurd cc
reader_keeps Rule (row ∷ rows) each kind reader e = row_keeps Rule row (reader_of kind rows) kind reader each.0 (reader_keeps Rule rows each.1 kind reader) e

-- none of these types
abbrev pub IsAnother : Option ℕ → List ℕ → Type 0
IsAnother kind kinds = All (λ other. kind ≢ Some other) kinds

not_first : {Reader : Type 0} (kind : ℕ) (row : Row Reader) (kinds : List ℕ) (later : Option Reader) → (later ≡ None) ↔ IsAnother (Some kind) kinds → (cond (kind == row.kind) (Some row.reader) later ≡ None) ↔ IsAnother (Some kind) (row.kind ∷ kinds)
not_first kind row kinds later others = go (kind == row.kind) refl
  where
    go : (b : Bool) → (kind == row.kind) ≡ b → (cond b (Some row.reader) later ≡ None) ↔ IsAnother (Some kind) (row.kind ∷ kinds)
    go true same = ((λ e. absurd cc), (λ all. absurd (All-head (λ other. Some kind ≢ Some other) row.kind kinds all (ap Some (eqb-true kind row.kind same)))))
    go false other = (
      (λ e. All-cons (λ other. Some kind ≢ Some other) row.kind kinds (λ same. let is : kind ≡ row.kind = cc in eqb-false kind row.kind other is) (others.0 e)),
      (λ all. others.1 (All-tail (λ other. Some kind ≢ Some other) row.kind kinds all)),
    )

-- A table has nothing for the types that it doesn't name.
not_among : {Reader : Type 0} (kind : ℕ) (rows : List (Row Reader)) → (reader_of kind rows ≡ None) ↔ IsAnother (Some kind) (kinds_in rows)
not_among kind [] = ((λ e. All-nil (λ other. Some kind ≢ Some other)), (λ all. refl))
not_among kind (row ∷ rows) = not_first kind row (kinds_in rows) (reader_of kind rows) (not_among kind rows)

all_others : (kinds : List ℕ) → IsAnother None kinds
all_others [] = All-nil (λ other. None ≢ Some other)
all_others (kind ∷ kinds) = All-cons (λ other. None ≢ Some other) kind kinds (λ same. cc) (all_others kinds)

pub none_in : {Reader : Type 0} (kind : Option ℕ) (rows : List (Row Reader)) → (reader_in kind rows ≡ None) ↔ IsAnother kind (kinds_in rows)
none_in None rows = ((λ e. all_others (kinds_in rows)), (λ all. refl))
none_in (Some kind) rows = not_among kind rows
