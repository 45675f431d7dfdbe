-- The members of a row, each new behind those before it, are distinct.
use Rattle.std.proofs.Common.{◌≡◌, ℕ, Bool, true, false, not, ◌==◌, ◌||◌, List, [], ◌∷◌, ◌++◌, map, refl, sym, ap, ◌∙◌, ⊎_elim, arith}
use Rattle.std.specs.List.{AllByRecursion}
use Rattle.std.proofs.lemmas.Bool.{and_from, and_parts, or_from, or_parts, not-true, not_from_false, false≢true}
use Rattle.std.proofs.lemmas.Bool.Decides.{nat_tests}
use Rattle.partition_table.specs.declared.RowMember.{RowMember}
use Rattle.partition_table.specs.Rows.{is_among, number_of}
use Rattle.partition_table.specs.RowFacts.{are_distinct}
use Rattle.wire_parts.specs.Parts.{IsByte}
use Rattle.member_wire.proofs.NewNumbers.{true_or_false}

abbrev pub has : List RowMember → ℕ → Bool
has rs m = is_among (map number_of rs) m

-- a member whose number those before it don't have
abbrev pub NewMember : List RowMember → RowMember → Type 0
NewMember listed r = IsByte r.member × (has listed r.member ≡ false)

-- each is new behind those listed and those before it
abbrev pub AllNew : List RowMember → List RowMember → Type 0
AllNew listed [] = Unit {0}
AllNew listed (r ∷ rs) = NewMember listed r × AllNew (listed ++ r ∷ []) rs

abbrev pub AllBytes : List RowMember → Type 0
AllBytes rs = AllByRecursion (λ (r : RowMember). IsByte r.member) rs

-- none of these is listed
abbrev Apart : List RowMember → List RowMember → Type 0
Apart listed rs = (m : ℕ) → has rs m ≡ true → has listed m ≡ false

or_assoc : (a b c : Bool) → a || (b || c) ≡ (a || b) || c
or_assoc true b c = refl
or_assoc false b c = refl

or_false : (a : Bool) → a || false ≡ a
or_false true = refl
or_false false = refl

has-push : (rs : List RowMember) (r : RowMember) (m : ℕ) → has (rs ++ r ∷ []) m ≡ (has rs m || (m == r.member))
has-push [] r m = or_false (m == r.member)
has-push (x ∷ rs) r m = ap (λ b. (m == x.member) || b) (has-push rs r m) ∙ or_assoc (m == x.member) (has rs m) (m == r.member)

out_of_pushed : (rs : List RowMember) (r : RowMember) (m : ℕ) → has (rs ++ r ∷ []) m ≡ false → (has rs m ≡ false) × ((m == r.member) ≡ false)
out_of_pushed rs r m out = or_parts (has rs m) (m == r.member) (sym (has-push rs r m) ∙ out)

same_number : (a : ℕ) → (a == a) ≡ true
same_number a = grind (arith, nat_tests)

equal_numbers : (a b : ℕ) → (a == b) ≡ true → a ≡ b
equal_numbers a b e = grind (arith, nat_tests)

-- the number is the first's, or a later one's
has_first : (r : RowMember) (rs : List RowMember) (m : ℕ) → (m == r.member) ≡ true → has (r ∷ rs) m ≡ true
has_first r rs m e = rw e refl

or_true : (a : Bool) → a || true ≡ true
or_true true = refl
or_true false = refl

has_later : (r : RowMember) (rs : List RowMember) (m : ℕ) → has rs m ≡ true → has (r ∷ rs) m ≡ true
has_later r rs m e = ap (λ b. (m == r.member) || b) e ∙ or_true (m == r.member)

pub bytes_of_new : (listed rs : List RowMember) → AllNew listed rs → AllBytes rs
bytes_of_new listed [] new = tt
bytes_of_new listed (r ∷ rs) new = (new.0.0, bytes_of_new (listed ++ r ∷ []) rs new.1)

-- new ones are distinct, and apart from those listed
pub distinct_of_new : (listed rs : List RowMember) → AllNew listed rs → (are_distinct (map number_of rs) ≡ true) × Apart listed rs
distinct_of_new listed [] new = (refl, λ m e. cc)
distinct_of_new listed (r ∷ rs) new =
    let later = distinct_of_new (listed ++ r ∷ []) rs new.1 in
    let once : has rs r.member ≡ false =
    ⊎_elim (λ there. absurd (false≢true (sym (out_of_pushed listed r r.member (later.1 r.member there)).1 ∙ same_number r.member))) (λ out. out) (true_or_false (has rs r.member)) in (
      and_from _ _ (not_from_false _ once) later.0,
      λ m there.
          ⊎_elim (λ same. ap (has listed) (equal_numbers m r.member same) ∙ new.0.1)
          (λ other. (out_of_pushed listed r m (later.1 m (rw other at there))).0) (true_or_false (m == r.member)),
    )

-- distinct ones that are apart from those listed are new
pub new_of_distinct : (listed rs : List RowMember) → AllBytes rs → are_distinct (map number_of rs) ≡ true → Apart listed rs → AllNew listed rs
new_of_distinct listed [] bytes once apart = tt
new_of_distinct listed (r ∷ rs) bytes once apart =
    let parts = and_parts (not (has rs r.member)) (are_distinct (map number_of rs)) once in
    let alone : has rs r.member ≡ false = not-true _ parts.0 in
    let later = new_of_distinct (listed ++ r ∷ []) rs bytes.1 parts.1 in (
      (bytes.0, apart r.member (has_first r rs r.member (same_number r.member))),
      later (λ m there.
          let other : (m == r.member) ≡ false =
          ⊎_elim (λ same. absurd (false≢true (sym alone ∙ ap (has rs) (sym (equal_numbers m r.member same)) ∙ there))) (λ apart. apart) (true_or_false (m == r.member)) in
          has-push listed r m ∙ or_from _ _ (apart m (has_later r rs m there)) other),
    )

pub all_new : (rs : List RowMember) → AllBytes rs → are_distinct (map number_of rs) ≡ true → AllNew [] rs
all_new rs bytes once = new_of_distinct [] rs bytes once (λ m there. refl)
