-- The names of objects are read as they are spelled.
use Rattle.std.proofs.Common.{◌≡◌, ℕ, ◌<◌, true, ◌==◌, List, [], ◌∷◌, ◌++◌, Ok, refl, sym, ap, subst, ◌∙◌, arith}
use Rattle.std.proofs.lemmas.List.{append-nil}
use Rattle.std.proofs.lemmas.Bool.Decides.{nat_tests}
use Rattle.wire_parts.specs.declared.refusal.WireRefused.TheVariants.{Tag}
use Rattle.wire_parts.specs.Parts.{◌>>=◌, byte_at, sized_at, sized}
use Rattle.object_store.specs.Spelling.{IsSized, entry_kind, queue_kind}
use Rattle.object_store.specs.Reading.{names_at, keyless, lone_name_at, kind_at, map_key_at, queue_at}
use Rattle.wire_parts.proofs.Formats.{Reader, Reads, Spells, reads_as}
use Rattle.wire_parts.proofs.Following.{Follows, reads_behind, reads_followed, IsDone, reads_ended, Made, reads_made}
use Rattle.wire_parts.proofs.Choices.{Passes, reads_checked, reads_refused}
use Rattle.wire_parts.proofs.PartFormats.{SpellsByte, byte_format}
use Rattle.wire_parts.proofs.SizedFormat.{SpellsSized, sized_format}
use Rattle.object_store.proofs.OptionFormat.{itself, both}

-- ---- a map and a key

abbrev pub Names : Type 0
Names = List ℕ × List ℕ

abbrev names_of : List ℕ → List ℕ → Names
names_of map key = (map, key)

abbrev pub AreNames : Names → Type 0
AreNames names = IsSized names.0 × IsSized names.1

abbrev pub names_bytes : Names → List ℕ
names_bytes names = sized names.0 ++ sized names.1

abbrev pub SpellsNames : Names → List ℕ → Type 0
SpellsNames = Spells AreNames names_bytes

abbrev NamesParts : Names → List ℕ → Type 0
NamesParts = Follows SpellsSized (λ map. Made (names_of map) SpellsSized)

names_parts : Reads names_at NamesParts
unfolding names_at
names_parts =
    reads_followed sized_at SpellsSized (λ map p. sized_at p >>= λ key. Ok (names_of map key.0, key.1)) (λ map. Made (names_of map) SpellsSized) sized_format.reads
    (λ map text s. reads_made (names_of map) sized_at SpellsSized sized_format.reads)

to_names : (names : Names) (text : List ℕ) → NamesParts names text → SpellsNames names text
to_names names text s =
    let k = s.is_back in
    subst (λ (x : Names). SpellsNames x text) (sym k.value) (record { fits = (s.is_front.fits, k.spells.fits); is = s.whole ∙ both s.is_front.is k.spells.is })

from_names : (names : Names) (text : List ℕ) → SpellsNames names text → NamesParts names text
from_names names text s = record {
  first = names.0;
  front = sized names.0;
  back = sized names.1;
  is_front = itself sized names.0 s.fits.0;
  is_back = record { first = names.1; spells = itself sized names.1 s.fits.1; value = refl };
  whole = s.is;
}

pub reads_names : Reads names_at SpellsNames
reads_names = reads_as names_at NamesParts SpellsNames to_names from_names names_parts

-- ---- a queue's name, and no key

abbrev pub name_bytes : List ℕ → List ℕ
name_bytes name = sized name ++ sized []

abbrev pub SpellsLoneName : List ℕ → List ℕ → Type 0
SpellsLoneName = Spells IsSized name_bytes

abbrev NoKey : List ℕ → List ℕ → List ℕ → List ℕ → Type 0
NoKey name [] = IsDone name
NoKey name (byte ∷ key) = λ c text. ⊥

no_key : (name : List ℕ) (at : ℕ) (key : List ℕ) → Reads (keyless name at key) (NoKey name key)
no_key name at [] = reads_ended name
no_key name at (byte ∷ key) = reads_refused (Tag at)

abbrev LoneParts : List ℕ → List ℕ → Type 0
LoneParts = Follows SpellsSized (λ name. Follows SpellsSized (NoKey name))

lone_parts : Reads lone_name_at LoneParts
unfolding lone_name_at
lone_parts =
    reads_followed sized_at SpellsSized (λ name p. sized_at p >>= λ key. keyless name p.at key.0 key.1) (λ name. Follows SpellsSized (NoKey name)) sized_format.reads
    (λ name text s. reads_behind sized_at SpellsSized (λ at key p. keyless name at key p) (NoKey name) sized_format.reads (λ at key text s. no_key name at key))

to_lone : (name c key text front middle back : List ℕ) → text ≡ front ++ middle → SpellsSized name front → SpellsSized key back → (tail : List ℕ) → middle ≡ back ++ tail → NoKey name key c tail → SpellsLoneName c text
to_lone name c [] text front middle back whole one two tail rest s =
    subst (λ (x : List ℕ). SpellsLoneName x text) (sym s.value)
    (record { fits = one.fits; is = whole ∙ both one.is (rest ∙ both two.is s.empty ∙ append-nil (sized [])) })
to_lone name c (byte ∷ key) text front middle back whole one two tail rest s = absurd s

from_lone : (name text : List ℕ) → SpellsLoneName name text → LoneParts name text
from_lone name text s = record {
  first = name;
  front = sized name;
  back = sized [];
  is_front = itself sized name s.fits;
  is_back = record { first = []; front = sized []; back = []; is_front = itself sized [] (omega arith); is_back = record { value = refl; empty = refl }; whole = sym (append-nil (sized [])) };
  whole = s.is;
}

pub reads_lone_name : Reads lone_name_at SpellsLoneName
reads_lone_name =
    reads_as lone_name_at LoneParts SpellsLoneName
    (λ c text s. to_lone s.first c s.is_back.first text s.front s.back s.is_back.front s.whole s.is_front s.is_back.is_front s.is_back.back s.is_back.whole s.is_back.is_back) from_lone lone_parts

-- ---- a kind that has to be the one given

abbrev pub SpellsKind : ℕ → ℕ → List ℕ → Type 0
SpellsKind kind = Passes (λ byte. byte == kind) SpellsByte

pub reads_kind : (kind : ℕ) → Reads (kind_at kind) (SpellsKind kind)
unfolding kind_at
reads_kind kind = reads_checked (λ byte. byte == kind) (λ at. Tag at) byte_at SpellsByte byte_format.reads

pub same_number : (a b : ℕ) → (a == b) ≡ true → a ≡ b
same_number a b e = grind (arith, nat_tests)

itself_same : (a : ℕ) → (a == a) ≡ true
itself_same a = grind (arith, nat_tests)

-- names behind their kind
module _ {C : Type 0} (kind : ℕ) (small : kind < 256) (R : Reader C) (Fits : C → Type 0) (spelled : C → List ℕ) where
  abbrev KindParts : C → List ℕ → Type 0
  KindParts = Follows (SpellsKind kind) (λ byte. Spells Fits spelled)

  abbrev SpellsIt : C → List ℕ → Type 0
  SpellsIt = Spells Fits (λ c. kind ∷ spelled c)

  to_it : (c : C) (text : List ℕ) → KindParts c text → SpellsIt c text
  to_it c text s =
      let same = same_number s.first kind s.is_front.test in
      record { fits = s.is_back.fits; is = s.whole ∙ both (s.is_front.spells.is ∙ ap (λ (b : ℕ). b ∷ []) same) s.is_back.is }

  from_it : (c : C) (text : List ℕ) → SpellsIt c text → KindParts c text
  from_it c text s = record { first = kind; front = kind ∷ []; back = spelled c; is_front = record { spells = itself (λ b. b ∷ []) kind small; test = itself_same kind }; is_back = itself spelled c s.fits; whole = s.is }

  pub reads_of_kind : Reads R (Spells Fits spelled) → Reads (λ p. kind_at kind p >>= λ k. R k.1) SpellsIt
  reads_of_kind r =
      reads_as (λ p. kind_at kind p >>= λ k. R k.1) KindParts SpellsIt to_it from_it
      (reads_followed (kind_at kind) (SpellsKind kind) (λ byte. R) (λ byte. Spells Fits spelled) (reads_kind kind) (λ byte text s. r))

abbrev pub SpellsMapKey : Names → List ℕ → Type 0
SpellsMapKey = Spells AreNames (λ names. entry_kind ∷ names_bytes names)

pub reads_map_key : Reads map_key_at SpellsMapKey
unfolding map_key_at
reads_map_key = reads_of_kind entry_kind (omega arith) names_at AreNames names_bytes reads_names

abbrev pub SpellsQueue : List ℕ → List ℕ → Type 0
SpellsQueue = Spells IsSized (λ name. queue_kind ∷ name_bytes name)

pub reads_queue : Reads queue_at SpellsQueue
unfolding queue_at
reads_queue = reads_of_kind queue_kind (omega arith) lone_name_at IsSized name_bytes reads_lone_name
