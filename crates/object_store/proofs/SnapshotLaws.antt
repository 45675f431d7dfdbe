-- Partitions are the bytes of their snapshots, whole.
use Rattle.std.proofs.Common.{◌≡◌, ℕ, Bool, true, false, ◌&&◌, T, List, [], ◌∷◌, ◌++◌, length, All, Result, Ok, Err, refl, sym, ap, subst, ◌∙◌}
use Rattle.std.specs.Int.{w32}
use Rattle.std.specs.List.{flat_map, list_all}
use Rattle.std.specs.Ordering.{is_lt}
use Rattle.std.specs.declared.cmp.Ordering.{Ordering}
use Rattle.std.specs.declared.cmp.Ordering.TheVariants.{Less, Equal, Greater}
use Rattle.std.specs.FinMap as finite
use Rattle.std.specs.FinMap.Entries.{below_all, is_sorted}
use Rattle.std.proofs.lemmas.List.Elements.{All-nil, All-cons, All-head, All-tail}
use Rattle.grid_base.specs.declared.names.ObjectKey.{ObjectKey}
use Rattle.wire_parts.specs.declared.refusal.WireRefused.{WireRefused}
use Rattle.wire_parts.specs.Places.{Place, start}
use Rattle.wire_parts.specs.Parts.{◌>>=◌, AreBytes, number_at, number, end_at}
use Rattle.object_store.specs.Records.{Record}
use Rattle.object_store.specs.Partitions.{Partition, object_cmp, is_kept, stored_in, partition_of}
use Rattle.object_store.specs.Spelling.{stored_bytes, snapshot_bytes, IsSpelledObject, IsSpelledRecord, IsSpelledPartition}
use Rattle.object_store.specs.Reading.{is_behind, stored_at, snapshot_in}
use Rattle.wire_parts.proofs.Formats.{IsBytes, Reader, Reads}
use Rattle.wire_parts.proofs.Following.{Follows, reads_followed}
use Rattle.wire_parts.proofs.PartFormats.{IsBytes-from_all, SpellsNumber, number_format}
use Rattle.object_store.proofs.OptionFormat.{itself, both}
use Rattle.object_store.proofs.PartitionLaws.{object_cmp_total, all_is_kept, partition_of-stored}
use Rattle.object_store.proofs.StoredFormat.{AllNext, MoreStored, reads_stored}
use Rattle.object_store.proofs.WholeText.{whole_found, whole_again}

abbrev Stored : Type 0
Stored = ObjectKey × Record

-- ---- tests

pub first_true : (a b : Bool) → (a && b) ≡ true → a ≡ true
first_true true b e = refl
first_true false b e = absurd cc

second_true : (a b : Bool) → (a && b) ≡ true → b ≡ true
second_true true b e = e
second_true false b e = absurd cc

both_true : (a b : Bool) → a ≡ true → b ≡ true → (a && b) ≡ true
both_true a b p q = rw (p, q) refl

is_true : (b : Bool) → T b → b ≡ true
is_true true t = refl
is_true false t = absurd t

holds : (b : Bool) → b ≡ true → T b
holds true e = tt
holds false e = absurd cc

-- ---- objects that rise are in order

-- each of these is before the one that follows it
abbrev Rises : Stored → List Stored → Type 0
Rises first [] = Unit {0}
Rises first (one ∷ more) = (is_lt (object_cmp first.0 one.0) ≡ true) × Rises one more

pub is_behind-push : (before : List Stored) (last : Stored) (name : ObjectKey) → is_behind (before ++ last ∷ []) name ≡ is_lt (object_cmp last.0 name)
is_behind-push [] last name = refl
is_behind-push (one ∷ []) last name = refl
is_behind-push (one ∷ two ∷ before) last name = is_behind-push (two ∷ before) last name

rises : (before : List Stored) (last : Stored) (more : List Stored) → AllNext (before ++ last ∷ []) more → Rises last more
rises before last [] next = tt
rises before last (one ∷ more) next = (sym (is_behind-push before last one.0) ∙ next.0.behind, rises (before ++ last ∷ []) one more next.1)

pub is_less : (order : Ordering) → is_lt order ≡ true → order ≡ Less
is_less Less e = refl
is_less Equal e = absurd cc
is_less Greater e = absurd cc

lower : (first one : ObjectKey) (more : List Stored) → is_lt (object_cmp first one) ≡ true → below_all object_cmp one more ≡ true → below_all object_cmp first more ≡ true
lower first one [] less below = refl
lower first one (two ∷ more) less below =
    let next = first_true _ (below_all object_cmp one more) below in
    let order : object_cmp first two.0 ≡ Less = object_cmp_total.trans first one two.0 (is_less _ less) (is_less _ next) in
    both_true _ _ (ap is_lt order) (lower first one more less (second_true (is_lt (object_cmp one two.0)) _ below))

in_order : (first : Stored) (more : List Stored) → Rises first more → (below_all object_cmp first.0 more ≡ true) × (is_sorted object_cmp more ≡ true)
in_order first [] up = (refl, refl)
in_order first (one ∷ more) up =
    let rest = in_order one more up.1 in
    (both_true _ _ up.0 (lower first.0 one.0 more up.0 rest.0), both_true _ _ rest.0 rest.1)

sorted : (stored : List Stored) → AllNext [] stored → is_sorted object_cmp stored ≡ true
sorted [] next = refl
sorted (one ∷ more) next = let order = in_order one more (rises [] one more next.1) in both_true _ _ order.0 order.1

-- ---- and objects in order may stand one behind another

abbrev Spelled : Stored → Type 0
Spelled one = IsSpelledObject one.0 × IsSpelledRecord one.1

abbrev Keeps : Stored → Type 0
Keeps one = is_kept one ≡ true

all_next : (before : List Stored) (last : Stored) (more : List Stored) → is_sorted object_cmp (last ∷ more) ≡ true → All Keeps more → All Spelled more → AllNext (before ++ last ∷ []) more
all_next before last [] order keeps fits = tt
all_next before last (one ∷ more) order keeps fits =
    let below = first_true (below_all object_cmp last.0 (one ∷ more)) (is_sorted object_cmp (one ∷ more)) order in
    let rest = second_true (below_all object_cmp last.0 (one ∷ more)) (is_sorted object_cmp (one ∷ more)) order in
    let spelled = All-head Spelled one more fits in (
      record { behind = is_behind-push before last one.0 ∙ first_true _ (below_all object_cmp last.0 more) below; keeps = All-head Keeps one more keeps; name = spelled.0; kept = spelled.1 },
      all_next (before ++ last ∷ []) one more rest (All-tail Keeps one more keeps) (All-tail Spelled one more fits),
    )

stored_next : (stored : List Stored) → is_sorted object_cmp stored ≡ true → All Keeps stored → All Spelled stored → AllNext [] stored
stored_next [] order keeps fits = tt
stored_next (one ∷ more) order keeps fits =
    let spelled = All-head Spelled one more fits in (
      record { behind = refl; keeps = All-head Keeps one more keeps; name = spelled.0; kept = spelled.1 },
      all_next [] one more order (All-tail Keeps one more keeps) (All-tail Spelled one more fits),
    )

-- ---- the partition of what was read

all_spelled : (before stored : List Stored) → AllNext before stored → All Spelled stored
all_spelled before [] next = All-nil Spelled
all_spelled before (one ∷ more) next = All-cons Spelled one more (next.0.name, next.0.kept) (all_spelled (before ++ one ∷ []) more next.1)

all_keeps : (before stored : List Stored) → AllNext before stored → list_all is_kept stored ≡ true
all_keeps before [] next = refl
all_keeps before (one ∷ more) next = both_true (is_kept one) (list_all is_kept more) next.0.keeps (all_keeps (before ++ one ∷ []) more next.1)

pub stored-partition_of : (stored : List Stored) → AllNext [] stored → stored_in (partition_of stored) ≡ stored
stored-partition_of stored next =
    let same : finite.entries (finite.from_sorted {R = object_cmp} stored) ≡ stored = finite.entries-from_sorted object_cmp stored (holds _ (sorted stored next)) in
    let s : Partition = record { objects = finite.from_sorted stored; kept = subst (λ (es : List Stored). T (list_all is_kept es)) (sym same) (holds _ (all_keeps [] stored next)) } in
    ap (λ (es : List Stored). stored_in (partition_of es)) (sym same) ∙ ap stored_in (partition_of-stored s) ∙ same

-- ---- a snapshot

abbrev reading : Reader (List Stored)
reading p = number_at w32 p >>= λ count. stored_at [] count.0 count.1

abbrev SpellsStored : List Stored → List ℕ → Type 0
SpellsStored = Follows SpellsNumber (MoreStored [])

reads_all : Reads reading SpellsStored
reads_all = reads_followed (number_at w32) SpellsNumber (stored_at []) (MoreStored []) number_format.reads (λ n text s. reads_stored n)

pub bind_assoc : {A B C : Type 0} (r : Result A WireRefused) (f : A → Result B WireRefused) (g : B → Result C WireRefused) → ((r >>= f) >>= g) ≡ (r >>= λ x. f x >>= g)
bind_assoc (Ok x) f g = refl
bind_assoc (Err e) f g = refl

abbrev ending : List Stored × Place → Result Partition WireRefused
ending stored = end_at stored.1 >>= λ end. Ok (partition_of stored.0)

in_two : (bytes : List ℕ) → (reading (start bytes) >>= ending) ≡ snapshot_in bytes
unfolding snapshot_in
in_two bytes = bind_assoc (number_at w32 (start bytes)) (λ count. stored_at [] count.0 count.1) ending

pub snapshot_again : (s : Partition) → IsSpelledPartition s → snapshot_in (snapshot_bytes s) ≡ Ok s
snapshot_again s fits =
    let stored = stored_in s in
    let next = stored_next stored (is_true _ (finite.entries_sorted s.objects)) (all_is_kept s) fits.each in
    let spells : SpellsStored stored (snapshot_bytes s) = record {
      first = length stored;
      front = number (length stored);
      back = flat_map stored_bytes stored;
      is_front = itself number (length stored) fits.count;
      is_back = record { more = stored; is = refl; count = refl; next = next; spelled = refl };
      whole = refl;
    } in
    sym (in_two (snapshot_bytes s)) ∙ whole_again partition_of reading SpellsStored reads_all stored (snapshot_bytes s) spells ∙ ap Ok (partition_of-stored s)

pub snapshot_of_bytes : (bytes : List ℕ) (s : Partition) → IsBytes bytes → snapshot_in bytes ≡ Ok s → IsSpelledPartition s × (bytes ≡ snapshot_bytes s)
snapshot_of_bytes bytes s are is =
    let x = whole_found partition_of reading SpellsStored reads_all bytes s are (in_two bytes ∙ is) in
    let m = x.2.is_back in
    let stored = m.more in
    let list : stored_in s ≡ stored = ap stored_in (sym x.1) ∙ ap (λ (es : List Stored). stored_in (partition_of es)) m.is ∙ stored-partition_of stored m.next in
    let counted : length stored ≡ x.2.first = m.count in (
      record { count = rw (list, counted) x.2.is_front.fits; each = subst (λ (es : List Stored). All Spelled es) (sym list) (all_spelled [] stored m.next) },
      x.2.whole ∙ both (x.2.is_front.is ∙ ap number (sym counted)) m.spelled ∙ ap (λ (es : List Stored). number (length es) ++ flat_map stored_bytes es) (sym list),
    )

pub snapshot_found : (bytes : List ℕ) (s : Partition) → AreBytes bytes → snapshot_in bytes ≡ Ok s → IsSpelledPartition s × (bytes ≡ snapshot_bytes s)
snapshot_found bytes s are is = snapshot_of_bytes bytes s (IsBytes-from_all bytes are) is
