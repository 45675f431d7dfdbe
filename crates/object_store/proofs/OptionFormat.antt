-- What may be missing is read as it is spelled.
use Rattle.std.proofs.Common.{◌≡◌, ℕ, Bool, true, false, List, [], ◌++◌, Option, Some, None, refl, sym, ap, subst, ◌∙◌}
use Rattle.std.specs.Prelude.{IfSome}
use Rattle.wire_parts.specs.Parts.{mark, mark_at}
use Rattle.object_store.specs.Spelling.{option_bytes}
use Rattle.object_store.specs.Reading.{present_at, option_at}
use Rattle.wire_parts.proofs.Formats.{Reader, Reads, Spells, reads_as}
use Rattle.wire_parts.proofs.Following.{Follows, reads_followed, IsDone, reads_ended, Made, reads_made}
use Rattle.wire_parts.proofs.PartFormats.{SpellsMark, mark_format}

-- a value that fits, in its one spelling
pub itself : {C : Type 0} {Fits : C → Type 0} (spelled : C → List ℕ) (c : C) → Fits c → Spells Fits spelled c (spelled c)
itself spelled c fits = record { fits = fits; is = refl }

pub both : {a b c d : List ℕ} → a ≡ b → c ≡ d → a ++ c ≡ b ++ d
both {a} {b} {c} {d} one two = ap (λ (x : List ℕ). x ++ c) one ∙ ap (λ (x : List ℕ). b ++ x) two

module _ {X : Type 0} (R : Reader X) (Fits : X → Type 0) (spelled : X → List ℕ) where
  abbrev Present : Bool → Option X → List ℕ → Type 0
  Present false = IsDone None
  Present true = Made Some (Spells Fits spelled)

  present : Reads R (Spells Fits spelled) → (b : Bool) → Reads (present_at R b) (Present b)
  present r false = reads_ended None
  present r true = reads_made Some R (Spells Fits spelled) r

  abbrev SpellsOption : Option X → List ℕ → Type 0
  SpellsOption = Spells (λ o. IfSome o Fits) (option_bytes spelled)

  to_option : (b : Bool) (o : Option X) (text front back : List ℕ) → text ≡ front ++ back → front ≡ mark b → Present b o back → SpellsOption o text
  to_option false o text front back whole is s = subst (λ (x : Option X). SpellsOption x text) (sym s.value) (record { fits = tt; is = whole ∙ both is s.empty })
  to_option true o text front back whole is s = subst (λ (x : Option X). SpellsOption x text) (sym s.value) (record { fits = s.spells.fits; is = whole ∙ both is s.spells.is })

  from_option : (o : Option X) → IfSome o Fits → Follows SpellsMark Present o (option_bytes spelled o)
  from_option None fits = record { first = false; front = mark false; back = []; is_front = itself mark false tt; is_back = record { value = refl; empty = refl }; whole = refl }
  from_option (Some x) fits = record { first = true; front = mark true; back = spelled x; is_front = itself mark true tt; is_back = record { first = x; spells = itself spelled x fits; value = refl }; whole = refl }

  pub reads_option : Reads R (Spells Fits spelled) → Reads (option_at R) (Spells (λ o. IfSome o Fits) (option_bytes spelled))
  reads_option r =
      reads_as (option_at R) (Follows SpellsMark Present) SpellsOption
      (λ o text s. to_option s.first o text s.front s.back s.whole s.is_front.is s.is_back)
      (λ o text s. subst (Follows SpellsMark Present o) (sym s.is) (from_option o s.fits))
      (reads_followed mark_at SpellsMark (present_at R) Present mark_format.reads (λ b text s. present r b))
