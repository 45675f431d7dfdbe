-- Effects are read as they are spelled.
use Rattle.std.proofs.Common.{◌≡◌, ℕ, ◌<◌, true, ◌==◌, List, [], ◌∷◌, ◌++◌, Ok, Err, refl, sym, ap, subst, ◌∙◌, ⊎_elim, inl, inr, arith}
use Rattle.std.specs.Prelude.{if◌then◌else◌}
use Rattle.map_records.specs.declared.records.MapRecord.{MapRecord}
use Rattle.wire_parts.specs.declared.refusal.WireRefused.TheVariants.{Tag}
use Rattle.wire_parts.specs.Parts.{◌>>=◌, byte_at, sized_at, sized}
use Rattle.object_store.specs.declared.effects.Effect.{Effect}
use Rattle.object_store.specs.declared.effects.Effect.TheVariants.{SetEntry, DropEntry, Push, Pop, Clear}
use Rattle.object_store.specs.Spelling.{entry_kind, queue_kind, entry_bytes, effect_bytes, IsSpelledEffect}
use Rattle.object_store.specs.Reading.{map_key_at, queue_at, kept_entry_at, set_entry_at, drop_entry_at, push_at, pop_at, clear_at, effect_behind, effect_at}
use Rattle.wire_parts.proofs.Formats.{Reader, Reads, Spells, reads_as}
use Rattle.wire_parts.proofs.Following.{Follows, reads_behind, reads_followed, Made, reads_made}
use Rattle.wire_parts.proofs.Choices.{Either, reads_if, reads_refused}
use Rattle.wire_parts.proofs.PartFormats.{SpellsByte, byte_format}
use Rattle.wire_parts.proofs.SizedFormat.{SpellsSized, sized_format}
use Rattle.object_store.proofs.OptionFormat.{itself, both}
use Rattle.object_store.proofs.EntryFormat.{SpellsKeptEntry, reads_kept_entry}
use Rattle.object_store.proofs.ObjectFormat.{Names, names_bytes, name_bytes, SpellsMapKey, reads_map_key, SpellsQueue, reads_queue, same_number}

-- ---- what stands behind each tag

abbrev set_of : Names → MapRecord → Effect
set_of names entry = SetEntry names.0 names.1 entry

abbrev drop_of : Names → Effect
drop_of names = DropEntry names.0 names.1

abbrev SetParts : Effect → List ℕ → Type 0
SetParts = Follows SpellsMapKey (λ names. Made (set_of names) SpellsKeptEntry)

set_parts : Reads set_entry_at SetParts
unfolding set_entry_at
set_parts =
    reads_followed map_key_at SpellsMapKey (λ names p. kept_entry_at p >>= λ entry. Ok (set_of names entry.0, entry.1)) (λ names. Made (set_of names) SpellsKeptEntry) reads_map_key
    (λ names text s. reads_made (set_of names) kept_entry_at SpellsKeptEntry reads_kept_entry)

abbrev DropParts : Effect → List ℕ → Type 0
DropParts = Made drop_of SpellsMapKey

drop_parts : Reads drop_entry_at DropParts
unfolding drop_entry_at
drop_parts = reads_made drop_of map_key_at SpellsMapKey reads_map_key

abbrev PushParts : Effect → List ℕ → Type 0
PushParts = Follows SpellsQueue (λ queue. Made (Push queue) SpellsSized)

push_parts : Reads push_at PushParts
unfolding push_at
push_parts =
    reads_followed queue_at SpellsQueue (λ queue p. sized_at p >>= λ value. Ok (Push queue value.0, value.1)) (λ queue. Made (Push queue) SpellsSized) reads_queue
    (λ queue text s. reads_made (Push queue) sized_at SpellsSized sized_format.reads)

abbrev PopParts : Effect → List ℕ → Type 0
PopParts = Made Pop SpellsQueue

pop_parts : Reads pop_at PopParts
unfolding pop_at
pop_parts = reads_made Pop queue_at SpellsQueue reads_queue

abbrev ClearParts : Effect → List ℕ → Type 0
ClearParts = Made Clear SpellsQueue

clear_parts : Reads clear_at ClearParts
unfolding clear_at
clear_parts = reads_made Clear queue_at SpellsQueue reads_queue

-- ---- the tag

abbrev None : Effect → List ℕ → Type 0
None effect text = ⊥

-- what the tags from this one on lead to
abbrev From5 : ℕ → Effect → List ℕ → Type 0
From5 tag = Either (tag == 5) ClearParts None

abbrev From4 : ℕ → Effect → List ℕ → Type 0
From4 tag = Either (tag == 4) PopParts (From5 tag)

abbrev From3 : ℕ → Effect → List ℕ → Type 0
From3 tag = Either (tag == 3) PushParts (From4 tag)

abbrev From2 : ℕ → Effect → List ℕ → Type 0
From2 tag = Either (tag == 2) DropParts (From3 tag)

abbrev Behind : ℕ → Effect → List ℕ → Type 0
Behind tag = Either (tag == 1) SetParts (From2 tag)

module _ (at tag : ℕ) where
  abbrev from5 : Reader Effect
  from5 p = if tag == 5 then clear_at p else Err (Tag at)

  abbrev from4 : Reader Effect
  from4 p = if tag == 4 then pop_at p else from5 p

  abbrev from3 : Reader Effect
  from3 p = if tag == 3 then push_at p else from4 p

  abbrev from2 : Reader Effect
  from2 p = if tag == 2 then drop_entry_at p else from3 p

  reads_from4 : Reads from4 (From4 tag)
  reads_from4 = reads_if (tag == 4) pop_at PopParts from5 (From5 tag) pop_parts (reads_if (tag == 5) clear_at ClearParts (λ p. Err (Tag at)) None clear_parts (reads_refused (Tag at)))

  reads_from2 : Reads from2 (From2 tag)
  reads_from2 = reads_if (tag == 2) drop_entry_at DropParts from3 (From3 tag) drop_parts (reads_if (tag == 3) push_at PushParts from4 (From4 tag) push_parts reads_from4)

  reads_by_tag : Reads (effect_behind at tag) (Behind tag)
  reads_by_tag = reads_if (tag == 1) set_entry_at SetParts from2 (From2 tag) set_parts reads_from2

-- ---- an effect

abbrev EffectParts : Effect → List ℕ → Type 0
EffectParts = Follows SpellsByte Behind

effect_parts : Reads effect_at EffectParts
unfolding effect_at
effect_parts = reads_behind byte_at SpellsByte effect_behind Behind byte_format.reads (λ at tag text s. reads_by_tag at tag)

abbrev pub SpellsEffect : Effect → List ℕ → Type 0
SpellsEffect = Spells IsSpelledEffect effect_bytes

-- the text of a tag and of what stands behind it
tagged : (tag k : ℕ) (text front back rest : List ℕ) → text ≡ front ++ back → SpellsByte tag front → (tag == k) ≡ true → back ≡ rest → text ≡ k ∷ rest
tagged tag k text front back rest whole s is behind = whole ∙ both (s.is ∙ ap (λ (b : ℕ). b ∷ []) (same_number tag k is)) behind

module _ (tag : ℕ) (e : Effect) (text front back : List ℕ) (whole : text ≡ front ++ back) (s : SpellsByte tag front) where
  set_case : (tag == 1) ≡ true → SetParts e back → SpellsEffect e text
  set_case is parts =
      let r = parts.is_back in
      subst (λ (x : Effect). SpellsEffect x text) (sym r.value)
      (record {
        fits = (parts.is_front.fits.0, parts.is_front.fits.1, r.spells.spells.fits, r.spells.test);
        is = tagged tag 1 text front back ((entry_kind ∷ names_bytes parts.first) ++ entry_bytes r.first) whole s is (parts.whole ∙ both parts.is_front.is r.spells.spells.is);
      })

  drop_case : (tag == 2) ≡ true → DropParts e back → SpellsEffect e text
  drop_case is parts =
      subst (λ (x : Effect). SpellsEffect x text) (sym parts.value)
      (record { fits = (parts.spells.fits.0, parts.spells.fits.1); is = tagged tag 2 text front back (entry_kind ∷ names_bytes parts.first) whole s is parts.spells.is })

  push_case : (tag == 3) ≡ true → PushParts e back → SpellsEffect e text
  push_case is parts =
      let r = parts.is_back in
      subst (λ (x : Effect). SpellsEffect x text) (sym r.value)
      (record { fits = (parts.is_front.fits, r.spells.fits); is = tagged tag 3 text front back ((queue_kind ∷ name_bytes parts.first) ++ sized r.first) whole s is (parts.whole ∙ both parts.is_front.is r.spells.is) })

  pop_case : (tag == 4) ≡ true → PopParts e back → SpellsEffect e text
  pop_case is parts =
      subst (λ (x : Effect). SpellsEffect x text) (sym parts.value) (record { fits = parts.spells.fits; is = tagged tag 4 text front back (queue_kind ∷ name_bytes parts.first) whole s is parts.spells.is })

  clear_case : (tag == 5) ≡ true → ClearParts e back → SpellsEffect e text
  clear_case is parts =
      subst (λ (x : Effect). SpellsEffect x text) (sym parts.value) (record { fits = parts.spells.fits; is = tagged tag 5 text front back (queue_kind ∷ name_bytes parts.first) whole s is parts.spells.is })

  to_effect : Behind tag e back → SpellsEffect e text
  to_effect behind =
      ⊎_elim (λ h. set_case h.0 h.1)
      (λ from2. ⊎_elim (λ h. drop_case h.0 h.1)
      (λ from3. ⊎_elim (λ h. push_case h.0 h.1)
      (λ from4. ⊎_elim (λ h. pop_case h.0 h.1)
      (λ from5. ⊎_elim (λ h. clear_case h.0 h.1) (λ h. absurd h.1) from5.1) from4.1) from3.1) from2.1) behind

-- a tag, which is a byte
a_tag : (tag : ℕ) → tag < 256 → SpellsByte tag (tag ∷ [])
a_tag tag small = itself (λ byte. byte ∷ []) tag small

from_effect : (e : Effect) → IsSpelledEffect e → EffectParts e (effect_bytes e)
from_effect (SetEntry map key entry) fits = record {
  first = 1;
  front = 1 ∷ [];
  back = (entry_kind ∷ names_bytes (map, key)) ++ entry_bytes entry;
  is_front = a_tag 1 (omega arith);
  is_back = inl (
    refl,
    record {
      first = (map, key);
      front = entry_kind ∷ names_bytes (map, key);
      back = entry_bytes entry;
      is_front = itself (λ names. entry_kind ∷ names_bytes names) (map, key) (fits.0, fits.1);
      is_back = record { first = entry; spells = record { spells = itself entry_bytes entry fits.2; test = fits.3 }; value = refl };
      whole = refl;
    },
  );
  whole = refl;
}
from_effect (DropEntry map key) fits = record {
  first = 2;
  front = 2 ∷ [];
  back = entry_kind ∷ names_bytes (map, key);
  is_front = a_tag 2 (omega arith);
  is_back = inr (refl, inl (refl, record { first = (map, key); spells = itself (λ names. entry_kind ∷ names_bytes names) (map, key) (fits.0, fits.1); value = refl }));
  whole = refl;
}
from_effect (Push queue value) fits = record {
  first = 3;
  front = 3 ∷ [];
  back = (queue_kind ∷ name_bytes queue) ++ sized value;
  is_front = a_tag 3 (omega arith);
  is_back = inr (
    refl,
    inr (
      refl,
      inl (
        refl,
        record {
          first = queue;
          front = queue_kind ∷ name_bytes queue;
          back = sized value;
          is_front = itself (λ name. queue_kind ∷ name_bytes name) queue fits.0;
          is_back = record { first = value; spells = itself sized value fits.1; value = refl };
          whole = refl;
        },
      ),
    ),
  );
  whole = refl;
}
from_effect (Pop queue) fits = record {
  first = 4;
  front = 4 ∷ [];
  back = queue_kind ∷ name_bytes queue;
  is_front = a_tag 4 (omega arith);
  is_back = inr (refl, inr (refl, inr (refl, inl (refl, record { first = queue; spells = itself (λ name. queue_kind ∷ name_bytes name) queue fits; value = refl }))));
  whole = refl;
}
from_effect (Clear queue) fits = record {
  first = 5;
  front = 5 ∷ [];
  back = queue_kind ∷ name_bytes queue;
  is_front = a_tag 5 (omega arith);
  is_back = inr (refl, inr (refl, inr (refl, inr (refl, inl (refl, record { first = queue; spells = itself (λ name. queue_kind ∷ name_bytes name) queue fits; value = refl })))));
  whole = refl;
}

pub reads_effect : Reads effect_at SpellsEffect
reads_effect =
    reads_as effect_at EffectParts SpellsEffect
    (λ e text s. to_effect s.first e text s.front s.back s.whole s.is_front s.is_back)
    (λ e text s. subst (EffectParts e) (sym s.is) (from_effect e s.fits)) effect_parts
