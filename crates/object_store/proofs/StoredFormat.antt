-- The objects of a snapshot are read as they are spelled.
use Rattle.std.proofs.Common.{◌≡◌, ℕ, zero, suc, true, false, not, ◌&&◌, ◌||◌, ◌==◌, List, [], ◌∷◌, ◌++◌, length, Option, Some, None, is_some, Err, refl, sym, ap, subst, ◌∙◌, ⊎_elim, inl, inr, append_assoc, arith}
use Rattle.std.specs.Prelude.{if◌then◌else◌}
use Rattle.std.specs.List.{flat_map}
use Rattle.std.proofs.lemmas.List.{append-nil}
use Rattle.std.proofs.lemmas.List.Concat.{flat_map-cons}
use Rattle.grid_base.specs.declared.names.ObjectKey.{ObjectKey}
use Rattle.grid_base.specs.declared.names.ObjectKey.TheVariants as object
use Rattle.key_locks.specs.declared.locks.Lock.{Lock}
use Rattle.map_records.specs.declared.records.Idle.{Idle}
use Rattle.map_records.specs.declared.records.MapRecord.{MapRecord}
use Rattle.wire_parts.specs.declared.refusal.WireRefused.TheVariants.{Tag, Order}
use Rattle.wire_parts.specs.Parts.{◌>>=◌, byte_at}
use Rattle.object_store.specs.Records.{Record, Map, Queue, has_value_or_lock}
use Rattle.object_store.specs.Partitions.{is_kept}
use Rattle.object_store.specs.Spelling.{entry_kind, queue_kind, object_bytes, record_bytes, stored_bytes, IsSpelledObject, IsSpelledRecord}
use Rattle.object_store.specs.Reading.{entry_name_at, queue_name_at, name_behind, object_at, is_behind, next_object_at, record_of, stored_at, names_at, lone_name_at, kept_entry_at, kept_queue_at}
use Rattle.wire_parts.proofs.Formats.{Reads, Spells, reads_as}
use Rattle.wire_parts.proofs.Following.{Follows, reads_behind, reads_followed, IsDone, reads_ended, Made, reads_made}
use Rattle.wire_parts.proofs.Choices.{Either, Passes, reads_if, reads_refused, reads_checked}
use Rattle.wire_parts.proofs.PartFormats.{SpellsByte, byte_format}
use Rattle.object_store.proofs.OptionFormat.{itself, both}
use Rattle.object_store.proofs.EntryFormat.{SpellsKeptEntry, reads_kept_entry}
use Rattle.object_store.proofs.ObjectFormat.{Names, names_bytes, name_bytes, SpellsNames, reads_names, SpellsLoneName, reads_lone_name, same_number}
use Rattle.object_store.proofs.QueueFormat.{has_some, SpellsKeptQueue, reads_kept_queue}

-- ---- an object of any kind

abbrev entry_of : Names → ObjectKey
entry_of names = object.Entry names.0 names.1

abbrev EntryNames : ObjectKey → List ℕ → Type 0
EntryNames = Made entry_of SpellsNames

entry_names : Reads entry_name_at EntryNames
unfolding entry_name_at
entry_names = reads_made entry_of names_at SpellsNames reads_names

abbrev QueueName : ObjectKey → List ℕ → Type 0
QueueName = Made object.Queue SpellsLoneName

queue_name : Reads queue_name_at QueueName
unfolding queue_name_at
queue_name = reads_made object.Queue lone_name_at SpellsLoneName reads_lone_name

abbrev QueueKind : ℕ → ObjectKey → List ℕ → Type 0
QueueKind kind = Either (kind == queue_kind) QueueName (λ name text. ⊥)

abbrev OfKind : ℕ → ObjectKey → List ℕ → Type 0
OfKind kind = Either (kind == entry_kind) EntryNames (QueueKind kind)

of_kind : (at kind : ℕ) → Reads (name_behind at kind) (OfKind kind)
of_kind at kind =
    reads_if (kind == entry_kind) entry_name_at EntryNames (λ p. if kind == queue_kind then queue_name_at p else Err (Tag at)) (QueueKind kind) entry_names
    (reads_if (kind == queue_kind) queue_name_at QueueName (λ p. Err (Tag at)) (λ name text. ⊥) queue_name (reads_refused (Tag at)))

abbrev ObjectParts : ObjectKey → List ℕ → Type 0
ObjectParts = Follows SpellsByte OfKind

object_parts : Reads object_at ObjectParts
unfolding object_at
object_parts = reads_behind byte_at SpellsByte name_behind OfKind byte_format.reads (λ at kind text s. of_kind at kind)

abbrev pub SpellsObject : ObjectKey → List ℕ → Type 0
SpellsObject = Spells IsSpelledObject object_bytes

of_byte : (kind k : ℕ) (text front back rest : List ℕ) → text ≡ front ++ back → SpellsByte kind front → (kind == k) ≡ true → back ≡ rest → text ≡ k ∷ rest
of_byte kind k text front back rest whole s is behind = whole ∙ both (s.is ∙ ap (λ (b : ℕ). b ∷ []) (same_number kind k is)) behind

to_object : (name : ObjectKey) (text : List ℕ) → ObjectParts name text → SpellsObject name text
to_object name text s =
    ⊎_elim
    (λ entry. subst (λ (x : ObjectKey). SpellsObject x text) (sym entry.1.value)
    (record { fits = (entry.1.spells.fits.0, entry.1.spells.fits.1); is = of_byte s.first entry_kind text s.front s.back (names_bytes entry.1.first) s.whole s.is_front entry.0 entry.1.spells.is }))
    (λ other. ⊎_elim
    (λ queue. subst (λ (x : ObjectKey). SpellsObject x text) (sym queue.1.value)
    (record { fits = queue.1.spells.fits; is = of_byte s.first queue_kind text s.front s.back (name_bytes queue.1.first) s.whole s.is_front queue.0 queue.1.spells.is }))
    (λ none. absurd none.1) other.1) s.is_back

from_object : (name : ObjectKey) → IsSpelledObject name → ObjectParts name (object_bytes name)
from_object (object.Entry map key) fits = record {
  first = entry_kind;
  front = entry_kind ∷ [];
  back = names_bytes (map, key);
  is_front = itself (λ byte. byte ∷ []) entry_kind (omega arith);
  is_back = inl (refl, record { first = (map, key); spells = itself names_bytes (map, key) (fits.0, fits.1); value = refl });
  whole = refl;
}
from_object (object.Queue name) fits = record {
  first = queue_kind;
  front = queue_kind ∷ [];
  back = name_bytes name;
  is_front = itself (λ byte. byte ∷ []) queue_kind (omega arith);
  is_back = inr (refl, inl (refl, record { first = name; spells = itself name_bytes name fits; value = refl }));
  whole = refl;
}

pub reads_object : Reads object_at SpellsObject
reads_object = reads_as object_at ObjectParts SpellsObject to_object (λ name text s. subst (ObjectParts name) (sym s.is) (from_object name s.fits)) object_parts

-- ---- the next object, behind all before it

abbrev Stored : Type 0
Stored = ObjectKey × Record

abbrev SpellsNext : List Stored → ObjectKey → List ℕ → Type 0
SpellsNext before = Passes (is_behind before) SpellsObject

reads_next : (before : List Stored) → Reads (next_object_at before) (SpellsNext before)
unfolding next_object_at
reads_next before = reads_checked (is_behind before) (λ at. Order at) object_at SpellsObject reads_object

-- ---- what is kept of an object

-- A record that is kept has the kind of its object.
record SpellsKept (name : ObjectKey) (kept : Record) (text : List ℕ) : Type 0 where
  keeps : is_kept (name, kept) ≡ true
  fits : IsSpelledRecord kept
  is : text ≡ record_bytes kept

abbrev KeptParts : ObjectKey → Record → List ℕ → Type 0
KeptParts (object.Entry map key) = Made Map SpellsKeptEntry
KeptParts (object.Queue name) = Made Queue SpellsKeptQueue

kept_parts : (name : ObjectKey) → Reads (record_of name) (KeptParts name)
unfolding record_of
kept_parts (object.Entry map key) = reads_made Map kept_entry_at SpellsKeptEntry reads_kept_entry
kept_parts (object.Queue name) = reads_made Queue kept_queue_at SpellsKeptQueue reads_kept_queue

something : (value : Option (List ℕ)) (expires : Option ℕ) (idle : Option Idle) (lock : Option Lock) → (is_some value || is_some lock) ≡ true
    → not (not (is_some value) && not (is_some expires) && not (is_some idle) && not (is_some lock)) ≡ true
something (Some value) expires idle lock has = refl
something None None None (Some lock) has = refl
something None None (Some idle) (Some lock) has = refl
something None (Some expires) idle (Some lock) has = refl
something None expires idle None has = absurd cc

pub kept_entry : (map key : List ℕ) (entry : MapRecord) → has_value_or_lock entry ≡ true → is_kept (object.Entry map key, Map entry) ≡ true
kept_entry map key entry has = something entry.value entry.expires entry.idle entry.lock has

pub kept_queue : (name : List ℕ) (items : List (List ℕ)) → has_some items ≡ true → is_kept (object.Queue name, Queue items) ≡ true
kept_queue name [] has = absurd cc
kept_queue name (item ∷ items) has = refl

to_kept : (name : ObjectKey) (kept : Record) (text : List ℕ) → KeptParts name kept text → SpellsKept name kept text
to_kept (object.Entry map key) kept text s =
    subst (λ (x : Record). SpellsKept (object.Entry map key) x text) (sym s.value)
    (record { keeps = kept_entry map key s.first s.spells.test; fits = (s.spells.spells.fits, s.spells.test); is = s.spells.spells.is })
to_kept (object.Queue name) kept text s =
    subst (λ (x : Record). SpellsKept (object.Queue name) x text) (sym s.value)
    (record { keeps = kept_queue name s.first s.spells.test; fits = s.spells.spells.fits; is = s.spells.spells.is })

from_kept : (name : ObjectKey) (kept : Record) (text : List ℕ) → SpellsKept name kept text → KeptParts name kept text
from_kept (object.Entry map key) (Map entry) text s = record { first = entry; spells = record { spells = record { fits = s.fits.0; is = s.is }; test = s.fits.1 }; value = refl }
from_kept (object.Entry map key) (Queue items) text s = let clash : false ≡ true = s.keeps in absurd cc
from_kept (object.Queue name) (Map entry) text s = let clash : false ≡ true = s.keeps in absurd cc
from_kept (object.Queue name) (Queue []) text s = let clash : false ≡ true = s.keeps in absurd cc
from_kept (object.Queue name) (Queue (item ∷ items)) text s = record { first = item ∷ items; spells = record { spells = record { fits = s.fits; is = s.is }; test = refl }; value = refl }

reads_kept : (name : ObjectKey) → Reads (record_of name) (SpellsKept name)
reads_kept name = reads_as (record_of name) (KeptParts name) (SpellsKept name) (to_kept name) (from_kept name) (kept_parts name)

-- ---- so many objects behind those that were read

abbrev StoredAfter : List Stored → ℕ → List Stored → List ℕ → Type 0
StoredAfter before zero = IsDone before
StoredAfter before (suc n) = Follows (SpellsNext before) (λ name. Follows (SpellsKept name) (λ kept. StoredAfter (before ++ (name, kept) ∷ []) n))

stored_after : (n : ℕ) (before : List Stored) → Reads (stored_at before n) (StoredAfter before n)
unfolding stored_at
stored_after zero before = reads_ended before
stored_after (suc n) before =
    let rest = stored_after n in
    reads_followed (next_object_at before) (SpellsNext before) (λ name p. record_of name p >>= λ kept. stored_at (before ++ (name, kept.0) ∷ []) n kept.1)
    (λ name. Follows (SpellsKept name) (λ kept. StoredAfter (before ++ (name, kept) ∷ []) n)) (reads_next before)
    (λ name text s. reads_followed (record_of name) (SpellsKept name) (λ kept. stored_at (before ++ (name, kept) ∷ []) n) (λ kept. StoredAfter (before ++ (name, kept) ∷ []) n) (reads_kept name)
    (λ kept text s. rest (before ++ (name, kept) ∷ [])))

-- an object that may stand behind these
pub record IsNext (before : List Stored) (one : Stored) : Type 0 where
  pub behind : is_behind before one.0 ≡ true
  pub keeps : is_kept one ≡ true
  pub name : IsSpelledObject one.0
  pub kept : IsSpelledRecord one.1

abbrev pub AllNext : List Stored → List Stored → Type 0
AllNext before [] = Unit {0}
AllNext before (one ∷ more) = IsNext before one × AllNext (before ++ one ∷ []) more

pub record MoreStored (before : List Stored) (n : ℕ) (all : List Stored) (text : List ℕ) : Type 0 where
  pub more : List Stored
  pub is : all ≡ before ++ more
  pub count : length more ≡ n
  pub next : AllNext before more
  pub spelled : text ≡ flat_map stored_bytes more

to_more : (n : ℕ) (before all : List Stored) (text : List ℕ) → StoredAfter before n all text → MoreStored before n all text
to_more zero before all text s = record { more = []; is = s.value ∙ sym (append-nil before); count = refl; next = tt; spelled = s.empty }
to_more (suc n) before all text s =
    let k = s.is_back in
    let one : Stored = (s.first, k.first) in
    let later = to_more n (before ++ one ∷ []) all k.back k.is_back in
    record {
      more = one ∷ later.more;
      is = later.is ∙ append_assoc before (one ∷ []) later.more;
      count = ap suc later.count;
      next = (record { behind = s.is_front.test; keeps = k.is_front.keeps; name = s.is_front.spells.fits; kept = k.is_front.fits }, later.next);
      spelled = s.whole ∙ both s.is_front.spells.is (k.whole ∙ both k.is_front.is later.spelled) ∙ sym (append_assoc (object_bytes s.first) (record_bytes k.first) (flat_map stored_bytes later.more)) ∙ sym (flat_map-cons stored_bytes one later.more);
    }

from_more : (more before : List Stored) → AllNext before more → StoredAfter before (length more) (before ++ more) (flat_map stored_bytes more)
from_more [] before next = record { value = append-nil before; empty = refl }
from_more (one ∷ more) before next =
    let later = from_more more (before ++ one ∷ []) next.1 in
    record {
      first = one.0;
      front = object_bytes one.0;
      back = record_bytes one.1 ++ flat_map stored_bytes more;
      is_front = record { spells = itself object_bytes one.0 next.0.name; test = next.0.behind };
      is_back = record {
        first = one.1;
        front = record_bytes one.1;
        back = flat_map stored_bytes more;
        is_front = record { keeps = next.0.keeps; fits = next.0.kept; is = refl };
        is_back = subst (λ all. StoredAfter (before ++ one ∷ []) (length more) all (flat_map stored_bytes more)) (append_assoc before (one ∷ []) more) later;
        whole = refl;
      };
      whole = flat_map-cons stored_bytes one more ∙ append_assoc (object_bytes one.0) (record_bytes one.1) (flat_map stored_bytes more);
    }

from_stored : (n : ℕ) (before all : List Stored) (text : List ℕ) → MoreStored before n all text → StoredAfter before n all text
from_stored n before all text s =
    subst (λ k. StoredAfter before k all text) s.count
    (subst (λ t. StoredAfter before (length s.more) all t) (sym s.spelled)
    (subst (λ a. StoredAfter before (length s.more) a (flat_map stored_bytes s.more)) (sym s.is) (from_more s.more before s.next)))

pub reads_stored : (n : ℕ) → Reads (stored_at [] n) (MoreStored [] n)
reads_stored n = reads_as (stored_at [] n) (StoredAfter [] n) (MoreStored [] n) (to_more n []) (from_stored n []) (stored_after n [])
