-- The values of a queue are read as they are spelled.
use Rattle.std.proofs.Common.{◌≡◌, ℕ, zero, suc, Bool, true, false, ◌==◌, List, [], ◌∷◌, ◌++◌, length, All, Err, refl, sym, ap, subst, ◌∙◌, ⊎_elim, inr, append_assoc, arith}
use Rattle.std.specs.Prelude.{if◌then◌else◌}
use Rattle.std.specs.Int.{w32}
use Rattle.std.specs.List.{flat_map}
use Rattle.std.proofs.lemmas.Bool.{eqb-false}
use Rattle.std.proofs.lemmas.Bool.Decides.{nat_tests}
use Rattle.std.proofs.lemmas.List.{append-nil}
use Rattle.std.proofs.lemmas.List.Concat.{flat_map-cons}
use Rattle.std.proofs.lemmas.List.Elements.{All-nil, All-cons, All-head, All-tail}
use Rattle.wire_parts.specs.declared.refusal.WireRefused.TheVariants.{Order}
use Rattle.wire_parts.specs.Parts.{number_at, number, sized_at, sized}
use Rattle.object_store.specs.Spelling.{IsSized, IsSpelledQueue, queue_bytes}
use Rattle.object_store.specs.Reading.{items_at, kept_queue_at}
use Rattle.wire_parts.proofs.Formats.{Reads, Spells, reads_as}
use Rattle.wire_parts.proofs.Following.{Follows, reads_behind, reads_followed, IsDone, reads_ended}
use Rattle.wire_parts.proofs.Choices.{Either, Passes, reads_if, reads_refused}
use Rattle.wire_parts.proofs.PartFormats.{SpellsNumber, number_format}
use Rattle.wire_parts.proofs.SizedFormat.{SpellsSized, sized_format}
use Rattle.object_store.proofs.OptionFormat.{itself, both}

abbrev Items : Type 0
Items = List (List ℕ)

-- ---- so many values behind those that were read

abbrev ItemsAfter : Items → ℕ → Items → List ℕ → Type 0
ItemsAfter items zero = IsDone items
ItemsAfter items (suc n) = Follows SpellsSized (λ item. ItemsAfter (items ++ item ∷ []) n)

items_after : (n : ℕ) (items : Items) → Reads (items_at items n) (ItemsAfter items n)
unfolding items_at
items_after zero items = reads_ended items
items_after (suc n) items =
    let rest = items_after n in
    reads_followed sized_at SpellsSized (λ item. items_at (items ++ item ∷ []) n) (λ item. ItemsAfter (items ++ item ∷ []) n) sized_format.reads (λ item text s. rest (items ++ item ∷ []))

record MoreItems (items : Items) (n : ℕ) (all : Items) (text : List ℕ) : Type 0 where
  more : Items
  is : all ≡ items ++ more
  count : length more ≡ n
  fits : All IsSized more
  spelled : text ≡ flat_map sized more

to_more : (n : ℕ) (items all : Items) (text : List ℕ) → ItemsAfter items n all text → MoreItems items n all text
to_more zero items all text s = record { more = []; is = s.value ∙ sym (append-nil items); count = refl; fits = All-nil IsSized; spelled = s.empty }
to_more (suc n) items all text s =
    let later = to_more n (items ++ s.first ∷ []) all s.back s.is_back in
    record {
      more = s.first ∷ later.more;
      is = later.is ∙ append_assoc items (s.first ∷ []) later.more;
      count = ap suc later.count;
      fits = All-cons IsSized s.first later.more s.is_front.fits later.fits;
      spelled = s.whole ∙ both s.is_front.is later.spelled ∙ sym (flat_map-cons sized s.first later.more);
    }

from_more : (more items : Items) → All IsSized more → ItemsAfter items (length more) (items ++ more) (flat_map sized more)
from_more [] items fits = record { value = append-nil items; empty = refl }
from_more (item ∷ more) items fits =
    let later = from_more more (items ++ item ∷ []) (All-tail IsSized item more fits) in
    record {
      first = item;
      front = sized item;
      back = flat_map sized more;
      is_front = itself sized item (All-head IsSized item more fits);
      is_back = subst (λ all. ItemsAfter (items ++ item ∷ []) (length more) all (flat_map sized more)) (append_assoc items (item ∷ []) more) later;
      whole = flat_map-cons sized item more;
    }

-- ---- a queue that is kept

abbrev pub has_some : Items → Bool
has_some [] = false
has_some (item ∷ items) = true

abbrev pub SpellsKeptQueue : Items → List ℕ → Type 0
SpellsKeptQueue = Passes has_some (Spells IsSpelledQueue queue_bytes)

abbrev Counted : ℕ → Items → List ℕ → Type 0
Counted n = Either (n == 0) (λ all text. ⊥) (ItemsAfter [] n)

abbrev QueueParts : Items → List ℕ → Type 0
QueueParts = Follows SpellsNumber Counted

queue_parts : Reads kept_queue_at QueueParts
unfolding kept_queue_at
queue_parts =
    reads_behind (number_at w32) SpellsNumber (λ at n p. if n == 0 then Err (Order at) else items_at [] n p) Counted number_format.reads
    (λ at n text s. reads_if (n == 0) (λ p. Err (Order at)) (λ all text. ⊥) (items_at [] n) (ItemsAfter [] n) (reads_refused (Order at)) (items_after n []))

some_items : (items : Items) (n : ℕ) → length items ≡ n → (n == 0) ≡ false → has_some items ≡ true
some_items [] n len more = absurd (eqb-false n 0 more (sym len))
some_items (item ∷ items) n len more = refl

to_queue : (items : Items) (text : List ℕ) → QueueParts items text → SpellsKeptQueue items text
to_queue items text s =
    ⊎_elim (λ none. absurd none.1)
    (λ some.
    let m = to_more s.first [] items s.back some.1 in
    let head : s.front ≡ number (length m.more) = s.is_front.is ∙ ap number (sym m.count) in
    subst (λ (x : Items). SpellsKeptQueue x text) (sym m.is)
    (record {
      spells = record { fits = (rw m.count s.is_front.fits, m.fits); is = s.whole ∙ both head m.spelled };
      test = some_items m.more s.first m.count some.0;
    })) s.is_back

not_zero : (n : ℕ) → (suc n == 0) ≡ false
not_zero n = grind (arith, nat_tests)

from_queue : (items : Items) (text : List ℕ) → SpellsKeptQueue items text → QueueParts items text
from_queue [] text s = absurd cc
from_queue (item ∷ items) text s = record {
  first = length (item ∷ items);
  front = number (length (item ∷ items));
  back = flat_map sized (item ∷ items);
  is_front = itself number (length (item ∷ items)) s.spells.fits.0;
  is_back = inr (not_zero (length items), from_more (item ∷ items) [] s.spells.fits.1);
  whole = s.spells.is;
}

pub reads_kept_queue : Reads kept_queue_at SpellsKeptQueue
reads_kept_queue = reads_as kept_queue_at QueueParts SpellsKeptQueue to_queue from_queue queue_parts
