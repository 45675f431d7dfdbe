-- The text of what a dump prints: values with commas between them, and objects one after the other.
use Rattle.std.proofs.Common.{◌≡◌, ℕ, ◌+◌, ◌-◌, ◌<◌, ◌≤◌, List, [], ◌∷◌, ◌++◌, length, map, get_or, take, drop, codes, sym, ap, ◌∙◌, append_assoc, arith}
use Rattle.std.specs.List.{flat_map}
use Rattle.std.proofs.lemmas.List.{get_or-map, length-map, take_more, take_all, append-nil}
use Rattle.std.proofs.lemmas.List.Concat.{flat_map-cons, flat_map-append}
use Rattle.grid_base.specs.declared.names.ObjectKey.{ObjectKey}
use Rattle.object_store.specs.Records.{Record}
use Rattle.object_store.specs.Partitions.{Partition, stored_in, record_at}
use Rattle.object_store.proofs.PartitionLaws.{stored_kept}
use Rattle.replay_run.specs.Dumps.{hex_word, items_text, stored_text, dumped_text}

-- a list's texts, of which one more is written

module _ {X : Type 0} (f : X → List ℕ) (all : List X) (i : ℕ) (x : X) (out before after : List ℕ) where
  pub text_on : i < length all → get_or all i x ≡ x → before ≡ out ++ flat_map f (take i all) → after ≡ before ++ f x → after ≡ out ++ flat_map f (take (i + 1) all)
  text_on within is so_far written =
      let front = flat_map f (take i all) in
      let one : flat_map f (x ∷ []) ≡ f x = flat_map-cons f x [] ∙ append-nil (f x) in
      let more : flat_map f (take (i + 1) all) ≡ front ++ f x =
      ap (flat_map f) (take_more all i x within ∙ ap (λ y. take i all ++ y ∷ []) is)
      ∙ flat_map-append f (take i all) (x ∷ []) ∙ ap (λ t. front ++ t) one in
      written ∙ ap (λ t. t ++ f x) so_far ∙ append_assoc out front (f x) ∙ ap (λ t. out ++ t) (sym more)

-- and all of them
pub text_whole : {X : Type 0} (f : X → List ℕ) (all : List X) (i : ℕ) (out text : List ℕ) → length all ≤ i → text ≡ out ++ flat_map f (take i all) → text ≡ out ++ flat_map f all
text_whole f all i out text whole is = is ∙ ap (λ xs. out ++ flat_map f xs) (take_all i all whole)

-- a value behind others
abbrev pub behind : List ℕ → List ℕ
behind item = codes "," ++ hex_word item

pub items_parts : (first : List ℕ) (rest : List (List ℕ)) → items_text (first ∷ rest) ≡ hex_word first ++ flat_map behind rest
items_parts first [] = sym (append-nil (hex_word first))
items_parts first (item ∷ rest) =
    append_assoc (hex_word first) (codes ",") (items_text (item ∷ rest))
    ∙ ap (λ xs. hex_word first ++ (codes "," ++ xs)) (items_parts item rest)
    ∙ ap (λ xs. hex_word first ++ xs) (sym (append_assoc (codes ",") (hex_word item) (flat_map behind rest)))
    ∙ ap (λ xs. hex_word first ++ xs) (sym (flat_map-cons behind item rest))

pub items_split : (items : List (List ℕ)) (first : List ℕ) → 1 ≤ length items → first ≡ get_or items 0 first → items ≡ first ∷ take (length items - 1) (drop 1 items)
items_split [] first some is = absurd (omega (arith, some))
items_split (x ∷ xs) first some is = ap (λ y. y ∷ xs) (sym is) ∙ ap (λ ys. first ∷ ys) (sym (take_all (length (x ∷ xs) - 1) xs (omega arith)))

-- the values behind the first
pub items_on : (rest : List (List ℕ)) (i : ℕ) (item out before mid after : List ℕ) → i < length rest → item ≡ get_or rest i item → before ≡ out ++ flat_map behind (take i rest)
    → mid ≡ before ++ codes "," → after ≡ mid ++ hex_word item → after ≡ out ++ flat_map behind (take (i + 1) rest)
items_on rest i item out before mid after within is so_far comma written =
    text_on behind rest i item out before after within (sym is) so_far (written ∙ ap (λ t. t ++ hex_word item) comma ∙ append_assoc before (codes ",") (hex_word item))

pub items_whole : (first : List ℕ) (rest items : List (List ℕ)) (i : ℕ) (out begun text : List ℕ) → items ≡ first ∷ rest → length rest ≤ i → begun ≡ out ++ hex_word first → text ≡ begun ++ flat_map behind (take i rest) → text ≡ out ++ items_text items
items_whole first rest items i out begun text split whole began is =
    text_whole behind rest i begun text whole is
    ∙ ap (λ t. t ++ flat_map behind rest) began
    ∙ append_assoc out (hex_word first) (flat_map behind rest)
    ∙ ap (λ t. out ++ t) (sym (ap items_text split ∙ items_parts first rest))

-- objects

abbrev Stored : Type 0
Stored = ObjectKey × Record

module _ (s : Partition) (names : List ObjectKey) (i : ℕ) (name : ObjectKey) (are : names ≡ map (λ (one : Stored). one.0) (stored_in s)) (less : i < length names) (is : name ≡ get_or names i name) where
  abbrev here : Stored
  here = (name, record_at s name)

  within : i < length (stored_in s)
  within = omega (arith, less, ap length are, length-map (stored_in s) (λ (one : Stored). one.0))

  name_there : (get_or (stored_in s) i here).0 ≡ name
  name_there = sym (get_or-map (λ (one : Stored). one.0) (stored_in s) i here name within) ∙ ap (λ (ns : List ObjectKey). get_or ns i name) (sym are) ∙ sym is

  is_there : get_or (stored_in s) i here ≡ here
  is_there =
      let kept : record_at s (get_or (stored_in s) i here).0 ≡ (get_or (stored_in s) i here).1 = (stored_kept s i here within).1 in
      let same : record_at s name ≡ (get_or (stored_in s) i here).1 = ap (record_at s) (sym name_there) ∙ kept in
      λ j. (name_there j, sym same j)

  -- one object more
  pub dumped_on : (line : ℕ) (out before after : List ℕ) → before ≡ out ++ flat_map (stored_text line) (take i (stored_in s)) → after ≡ before ++ stored_text line (name, record_at s name) → after ≡ out ++ flat_map (stored_text line) (take (i + 1) (stored_in s))
  dumped_on line out before after so_far written = text_on (stored_text line) (stored_in s) i here out before after within is_there so_far written

-- all objects
pub dumped_whole : (s : Partition) (names : List ObjectKey) (i line : ℕ) (out text : List ℕ) → names ≡ map (λ (one : Stored). one.0) (stored_in s) → length names ≤ i → text ≡ out ++ flat_map (stored_text line) (take i (stored_in s)) → text ≡ out ++ dumped_text line s
dumped_whole s names i line out text are whole is =
    text_whole (stored_text line) (stored_in s) i out text (omega (arith, whole, ap length are, length-map (stored_in s) (λ (one : Stored). one.0))) is
