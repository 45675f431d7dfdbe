-- Locks, idle spans and the records of maps' entries are read as they are spelled.
use Rattle.std.proofs.Common.{◌≡◌, ℕ, List, ◌++◌, Option, Ok, refl, sym, subst, ◌∙◌, append_assoc}
use Rattle.std.specs.Prelude.{IfSome}
use Rattle.std.specs.Int.{w32, w64}
use Rattle.grid_base.specs.declared.names.Owner.{Owner}
use Rattle.key_locks.specs.declared.locks.Lock.{Lock}
use Rattle.map_records.specs.declared.records.Idle.{Idle}
use Rattle.map_records.specs.declared.records.MapRecord.{MapRecord}
use Rattle.wire_parts.specs.declared.refusal.WireRefused.TheVariants.{Order}
use Rattle.wire_parts.specs.Parts.{◌>>=◌, number_at, number, sized_at, sized}
use Rattle.object_store.specs.Records.{has_value_or_lock}
use Rattle.object_store.specs.Spelling.{option_bytes, long, owner_bytes, lock_bytes, idle_bytes, entry_bytes, IsLong, IsSized, IsSpelledLock, IsSpelledIdle, IsSpelledEntry}
use Rattle.object_store.specs.Reading.{option_at, owner_at, lock_at, idle_at, entry_at, kept_entry_at}
use Rattle.wire_parts.proofs.Formats.{Reads, Spells, reads_as}
use Rattle.wire_parts.proofs.Following.{Follows, reads_followed, Made, reads_made}
use Rattle.wire_parts.proofs.Choices.{Passes, reads_checked}
use Rattle.wire_parts.proofs.PartFormats.{SpellsNumber, number_format}
use Rattle.wire_parts.proofs.SizedFormat.{sized_format}
use Rattle.wire_parts.proofs.WideNumbers.{SpellsLong, reads_long}
use Rattle.object_store.proofs.OptionFormat.{itself, both, reads_option}
use Rattle.object_store.proofs.OwnerFormat.{SpellsOwner, reads_owner}

-- four texts one behind another, which `++` joins from the left
three : (a b c : List ℕ) → (a ++ b) ++ c ≡ a ++ (b ++ c)
three a b c = append_assoc a b c

four : (a b c d : List ℕ) → ((a ++ b) ++ c) ++ d ≡ a ++ (b ++ (c ++ d))
four a b c d = append_assoc (a ++ b) c d ∙ append_assoc a b (c ++ d)

-- ---- a moment that may be missing

abbrev SpellsMoment : Option ℕ → List ℕ → Type 0
SpellsMoment = Spells (λ o. IfSome o IsLong) (option_bytes long)

reads_moment : Reads (option_at (number_at w64)) SpellsMoment
reads_moment = reads_option (number_at w64) IsLong long reads_long

-- ---- a lock

abbrev pub SpellsLock : Lock → List ℕ → Type 0
SpellsLock = Spells IsSpelledLock lock_bytes

abbrev lock_of : Owner → ℕ → Option ℕ → Lock
lock_of owner count until = record { owner = owner; count = count; until = until }

abbrev LockParts : Lock → List ℕ → Type 0
LockParts = Follows SpellsOwner (λ owner. Follows SpellsNumber (λ count. Made (lock_of owner count) SpellsMoment))

lock_parts : Reads lock_at LockParts
unfolding lock_at
lock_parts =
    reads_followed owner_at SpellsOwner (λ owner p. number_at w32 p >>= λ count. option_at (number_at w64) count.1 >>= λ until. Ok (lock_of owner count.0 until.0, until.1))
    (λ owner. Follows SpellsNumber (λ count. Made (lock_of owner count) SpellsMoment)) reads_owner
    (λ owner text s. reads_followed (number_at w32) SpellsNumber (λ count p. option_at (number_at w64) p >>= λ until. Ok (lock_of owner count until.0, until.1)) (λ count. Made (lock_of owner count) SpellsMoment) number_format.reads
    (λ count text s. reads_made (lock_of owner count) (option_at (number_at w64)) SpellsMoment reads_moment))

to_lock : (lock : Lock) (text : List ℕ) → LockParts lock text → SpellsLock lock text
to_lock lock text o =
    let n = o.is_back in
    let u = n.is_back in
    subst (λ (x : Lock). SpellsLock x text) (sym u.value)
    (record {
      fits = record { owner = o.is_front.fits; count = n.is_front.fits; until = u.spells.fits };
      is = o.whole ∙ both o.is_front.is (n.whole ∙ both n.is_front.is u.spells.is) ∙ sym (three (owner_bytes o.first) (number n.first) (option_bytes long u.first));
    })

from_lock : (lock : Lock) (text : List ℕ) → SpellsLock lock text → LockParts lock text
from_lock lock text s = record {
  first = lock.owner;
  front = owner_bytes lock.owner;
  back = number lock.count ++ option_bytes long lock.until;
  is_front = itself owner_bytes lock.owner s.fits.owner;
  is_back = record {
    first = lock.count;
    front = number lock.count;
    back = option_bytes long lock.until;
    is_front = itself number lock.count s.fits.count;
    is_back = record { first = lock.until; spells = itself (option_bytes long) lock.until s.fits.until; value = refl };
    whole = refl;
  };
  whole = s.is ∙ three (owner_bytes lock.owner) (number lock.count) (option_bytes long lock.until);
}

pub reads_lock : Reads lock_at SpellsLock
reads_lock = reads_as lock_at LockParts SpellsLock to_lock from_lock lock_parts

-- ---- an idle span

abbrev pub SpellsIdle : Idle → List ℕ → Type 0
SpellsIdle = Spells IsSpelledIdle idle_bytes

abbrev idle_of : ℕ → ℕ → Idle
idle_of span end = record { span = span; end = end }

abbrev IdleParts : Idle → List ℕ → Type 0
IdleParts = Follows SpellsLong (λ span. Made (idle_of span) SpellsLong)

idle_parts : Reads idle_at IdleParts
unfolding idle_at
idle_parts =
    reads_followed (number_at w64) SpellsLong (λ span p. number_at w64 p >>= λ end. Ok (idle_of span end.0, end.1)) (λ span. Made (idle_of span) SpellsLong) reads_long
    (λ span text s. reads_made (idle_of span) (number_at w64) SpellsLong reads_long)

to_idle : (idle : Idle) (text : List ℕ) → IdleParts idle text → SpellsIdle idle text
to_idle idle text s =
    let e = s.is_back in
    subst (λ (x : Idle). SpellsIdle x text) (sym e.value) (record { fits = (s.is_front.fits, e.spells.fits); is = s.whole ∙ both s.is_front.is e.spells.is })

from_idle : (idle : Idle) (text : List ℕ) → SpellsIdle idle text → IdleParts idle text
from_idle idle text s = record {
  first = idle.span;
  front = long idle.span;
  back = long idle.end;
  is_front = itself long idle.span s.fits.0;
  is_back = record { first = idle.end; spells = itself long idle.end s.fits.1; value = refl };
  whole = s.is;
}

pub reads_idle : Reads idle_at SpellsIdle
reads_idle = reads_as idle_at IdleParts SpellsIdle to_idle from_idle idle_parts

-- ---- a record

abbrev pub SpellsEntry : MapRecord → List ℕ → Type 0
SpellsEntry = Spells IsSpelledEntry entry_bytes

abbrev SpellsValue : Option (List ℕ) → List ℕ → Type 0
SpellsValue = Spells (λ o. IfSome o IsSized) (option_bytes sized)

abbrev SpellsIdling : Option Idle → List ℕ → Type 0
SpellsIdling = Spells (λ o. IfSome o IsSpelledIdle) (option_bytes idle_bytes)

abbrev SpellsLocking : Option Lock → List ℕ → Type 0
SpellsLocking = Spells (λ o. IfSome o IsSpelledLock) (option_bytes lock_bytes)

abbrev entry_of : Option (List ℕ) → Option ℕ → Option Idle → Option Lock → MapRecord
entry_of value expires idle lock = record { value = value; expires = expires; idle = idle; lock = lock }

abbrev EntryParts : MapRecord → List ℕ → Type 0
EntryParts = Follows SpellsValue (λ v. Follows SpellsMoment (λ e. Follows SpellsIdling (λ i. Made (entry_of v e i) SpellsLocking)))

entry_parts : Reads entry_at EntryParts
unfolding entry_at
entry_parts =
    reads_followed (option_at sized_at) SpellsValue
    (λ v p. option_at (number_at w64) p >>= λ e. option_at idle_at e.1 >>= λ i. option_at lock_at i.1 >>= λ l. Ok (entry_of v e.0 i.0 l.0, l.1))
    (λ v. Follows SpellsMoment (λ e. Follows SpellsIdling (λ i. Made (entry_of v e i) SpellsLocking))) (reads_option sized_at IsSized sized sized_format.reads)
    (λ v text s. reads_followed (option_at (number_at w64)) SpellsMoment
    (λ e p. option_at idle_at p >>= λ i. option_at lock_at i.1 >>= λ l. Ok (entry_of v e i.0 l.0, l.1))
    (λ e. Follows SpellsIdling (λ i. Made (entry_of v e i) SpellsLocking)) reads_moment
    (λ e text s. reads_followed (option_at idle_at) SpellsIdling
    (λ i p. option_at lock_at p >>= λ l. Ok (entry_of v e i l.0, l.1))
    (λ i. Made (entry_of v e i) SpellsLocking) (reads_option idle_at IsSpelledIdle idle_bytes reads_idle)
    (λ i text s. reads_made (entry_of v e i) (option_at lock_at) SpellsLocking (reads_option lock_at IsSpelledLock lock_bytes reads_lock))))

to_entry : (entry : MapRecord) (text : List ℕ) → EntryParts entry text → SpellsEntry entry text
to_entry entry text v =
    let e = v.is_back in
    let i = e.is_back in
    let l = i.is_back in
    subst (λ (x : MapRecord). SpellsEntry x text) (sym l.value)
    (record {
      fits = record { value = v.is_front.fits; expires = e.is_front.fits; idle = i.is_front.fits; lock = l.spells.fits };
      is = v.whole ∙ both v.is_front.is (e.whole ∙ both e.is_front.is (i.whole ∙ both i.is_front.is l.spells.is))
          ∙ sym (four (option_bytes sized v.first) (option_bytes long e.first) (option_bytes idle_bytes i.first) (option_bytes lock_bytes l.first));
    })

from_entry : (entry : MapRecord) (text : List ℕ) → SpellsEntry entry text → EntryParts entry text
from_entry entry text s =
    let value = option_bytes sized entry.value in
    let expires = option_bytes long entry.expires in
    let idle = option_bytes idle_bytes entry.idle in
    let lock = option_bytes lock_bytes entry.lock in
    record {
      first = entry.value;
      front = value;
      back = expires ++ (idle ++ lock);
      is_front = itself (option_bytes sized) entry.value s.fits.value;
      is_back = record {
        first = entry.expires;
        front = expires;
        back = idle ++ lock;
        is_front = itself (option_bytes long) entry.expires s.fits.expires;
        is_back = record {
          first = entry.idle;
          front = idle;
          back = lock;
          is_front = itself (option_bytes idle_bytes) entry.idle s.fits.idle;
          is_back = record { first = entry.lock; spells = itself (option_bytes lock_bytes) entry.lock s.fits.lock; value = refl };
          whole = refl;
        };
        whole = refl;
      };
      whole = s.is ∙ four value expires idle lock;
    }

pub reads_entry : Reads entry_at SpellsEntry
reads_entry = reads_as entry_at EntryParts SpellsEntry to_entry from_entry entry_parts

-- ---- a record that is kept

abbrev pub SpellsKeptEntry : MapRecord → List ℕ → Type 0
SpellsKeptEntry = Passes has_value_or_lock SpellsEntry

pub reads_kept_entry : Reads kept_entry_at SpellsKeptEntry
unfolding kept_entry_at
reads_kept_entry = reads_checked has_value_or_lock (λ at. Order at) entry_at SpellsEntry reads_entry
