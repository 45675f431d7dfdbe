-- The laws of a shelf, for a list of bytes. They stand here since an `impl` takes the proofs of its laws from specs/ alone.
use Rattle.std.proofs.Common.{◌≡◌, ◌≢◌, ℕ, List, [], ◌∷◌, length, Some, None, is_some, refl, ap, sym, arith, length-append}
use Rattle.test_shelf.specs.declared.journal.JournalCall.{JournalCall}
use Rattle.test_shelf.specs.declared.journal.JournalCall.TheVariants.{Append, Read}
use Rattle.test_shelf.specs.Journals.{is_append, effect, after, applied}

pub changes_by_effect : (call : JournalCall) → is_append call ≡ is_some (effect call)
changes_by_effect (Append byte) = refl
changes_by_effect Read = refl

pub same_without_effect : (bytes : List ℕ) (call : JournalCall) → effect call ≡ None → after bytes call ≡ bytes
same_without_effect bytes (Append byte) e = cc
same_without_effect bytes Read e = refl

pub differs_by_effect : (bytes : List ℕ) (call : JournalCall) (made : List ℕ) → effect call ≡ Some made → after bytes call ≢ bytes
differs_by_effect bytes (Append byte) made e same = let lengths = ap length same in omega (arith, length-append bytes (byte ∷ []), lengths)
differs_by_effect bytes Read made e same = cc

pub made_by_effect : (bytes : List ℕ) (call : JournalCall) (made : List ℕ) → effect call ≡ Some made → applied made bytes ≡ Some (after bytes call)
made_by_effect bytes (Append byte) made e =
    let is : byte ∷ [] ≡ made = cc in
    ap (λ it. applied it bytes) (sym is)
made_by_effect bytes Read made e = cc
