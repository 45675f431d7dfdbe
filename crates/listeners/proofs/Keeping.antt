-- What the tables of listeners keep, as listeners come and go.
use Rattle.std.proofs.Common.{◌≡◌, ℕ, Bool, true, false, not, cond, ◌||◌, bytes_eq, List, [], ◌∷◌, filter, map, Option, Some, None, option_map, unwrap_or, ◌↔◌, IsTrue, ap, sym, subst, ◌∙◌, refl}
use Rattle.std.specs.List.{IsDistinct, list_any}
use Rattle.std.specs.Map.{keys_of, lookup}
use Rattle.std.specs.Map.Calls.{RetainsPairs}
use Rattle.std.specs.Option.{is_none, option_map_or}
use Rattle.std.specs.HashMap.{IsUnique, get}
use Rattle.std.specs.Cmp.Lexicographic.{nat_list_eq_equiv, bytes_decides}
use Rattle.std.proofs.lemmas.Map.Entries.{option_filter, lookup-filter-values}
use Rattle.std.proofs.lemmas.Map.Made.{lookup-map_values, keys_of-map_values}
use Rattle.std.proofs.lemmas.Bool.{false_from_ne_true}
use Rattle.partition_table.specs.Rows.{is_empty}
use Rattle.event_codecs.specs.SpelledRegistrations.{map_of}
use Rattle.listeners.specs.Standing.{is_about, is_about_rows, placed, without}
use Rattle.listeners.specs.Tables.{Maps, kept_for, Adds, AreSame, Drops, Keep}
use Rattle.listeners.specs.declared.listener.Listener.{Listener}
use Rattle.listeners.proofs.Placing.{filter-placed, filter-placed_other, filter-filter, order-placed, order-filter}

module _ {S : Type 0} where
  pub keep-same : (old new : Maps S) (rows all : List Listener) → AreSame old new → Keep old rows all → Keep new rows all
  keep-same old new rows all same keep = record {
    order = keep.order;
    maps_kept = λ name. ap (λ kept. unwrap_or kept []) (same name) ∙ keep.maps_kept name;
    rows_kept = keep.rows_kept;
  }

  pub keep-added : (old new : Maps S) (rows all : List Listener) (name : List ℕ) (listener : Listener)
      → map_of listener.registration ≡ Some name → Adds old new name listener → Keep old rows all → Keep new rows (placed listener all)
  keep-added old new rows all name listener of adds keep = record {
    order = order-placed listener all keep.order;
    maps_kept = λ other. ap (λ kept. unwrap_or kept []) (adds other) ∙ by other (bytes_eq name other) refl;
    rows_kept = keep.rows_kept ∙ sym (filter-placed_other is_about_rows listener all (ap is_none of));
  }
    where
      about : (other : List ℕ) (b : Bool) → bytes_eq name other ≡ b → is_about other listener ≡ b
      about other b e = ap (λ map. option_map_or (λ map. bytes_eq map other) map false) of ∙ e

      by : (other : List ℕ) (b : Bool) → bytes_eq name other ≡ b
          → unwrap_or (cond b (Some (placed listener (kept_for old name))) (get bytes_eq old other)) [] ≡ filter (is_about other) (placed listener all)
      by other true e =
          ap (λ map. placed listener (kept_for old map)) ((bytes_decides name other).0 e)
          ∙ ap (placed listener) (keep.maps_kept other)
          ∙ sym (filter-placed (is_about other) listener all keep.order (about other true e))
      by other false e = keep.maps_kept other ∙ sym (filter-placed_other (is_about other) listener all (about other false e))

  keep-added_to_rows : (maps : Maps S) (rows all : List Listener) (listener : Listener)
      → map_of listener.registration ≡ None → Keep maps rows all → Keep maps (placed listener rows) (placed listener all)
  keep-added_to_rows maps rows all listener of keep = record {
    order = order-placed listener all keep.order;
    maps_kept = λ name. keep.maps_kept name
        ∙ sym (filter-placed_other (is_about name) listener all (ap (λ map. option_map_or (λ map. bytes_eq map name) map false) of));
    rows_kept = ap (placed listener) keep.rows_kept ∙ sym (filter-placed is_about_rows listener all keep.order (ap is_none of));
  }

  pub added_to_rows : (maps : Maps S) (rows after all : List Listener) (listener : Listener)
      → map_of listener.registration ≡ None → after ≡ placed listener rows → Keep maps rows all → Keep maps after (placed listener all)
  added_to_rows maps rows after all listener of is keep = subst (λ left. Keep maps left (placed listener all)) (sym is) (keep-added_to_rows maps rows all listener of keep)

  pub keep-dropped : (old new : Maps S) (rows all : List Listener) (conn : ℕ)
      → Drops old new conn → Keep old rows all → Keep new (without conn rows) (without conn all)
  keep-dropped old new rows all conn drops keep = record {
    order = order-filter _ all keep.order;
    maps_kept = λ name. drops name ∙ ap (without conn) (keep.maps_kept name) ∙ filter-filter _ (is_about name) all;
    rows_kept = ap (without conn) keep.rows_kept ∙ filter-filter _ is_about_rows all;
  }

-- a `retain` whose closure writes g of each value, and keeps what isn't empty then

written : {F : Type 0} (T : F → List ℕ → List Listener → Bool → List Listener → F → Type 0) (g : List Listener → List Listener) (f : F)
    → ((k : List ℕ) (v : List Listener) (b : Bool) (w : List Listener) (f' : F) → T f k v b w f' → (b ≡ not (is_empty (g v))) × (w ≡ g v) × (f' ≡ f))
    → (es kept : List (List ℕ × List Listener)) → RetainsPairs T f es kept
    → kept ≡ filter (λ e. not (is_empty e.1)) (map (λ e. (e.0, g e.1)) es)
written T g f says [] kept h = h
written {F} T g f says (e ∷ es) kept (b, w, f', rest, called, more, is) =
    let is_said = says e.0 e.1 b w f' called in
    let others : rest ≡ filter (λ e. not (is_empty e.1)) (map (λ e. (e.0, g e.1)) es) = written T g f says es rest (subst (λ (f'' : F). RetainsPairs T f'' es rest) is_said.2 more) in
    is ∙ ap (λ left. cond left ((e.0, w) ∷ rest) rest) is_said.0
    ∙ ap (λ value. cond (not (is_empty (g e.1))) ((e.0, value) ∷ rest) rest) is_said.1
    ∙ ap (λ more. cond (not (is_empty (g e.1))) ((e.0, g e.1) ∷ more) more) others

-- of a list that isn't kept where it is empty
unwrap-filter : (kept : Option (List Listener)) → unwrap_or (option_filter (λ v. not (is_empty v)) kept) [] ≡ unwrap_or kept []
unwrap-filter None = refl
unwrap-filter (Some []) = refl
unwrap-filter (Some (x ∷ xs)) = refl

without-unwrap : (conn : ℕ) (kept : Option (List Listener)) → unwrap_or (option_map (without conn) kept) [] ≡ without conn (unwrap_or kept [])
without-unwrap conn None = refl
without-unwrap conn (Some xs) = refl

pub drops_from_retain : {F S : Type 0} (T : F → List ℕ → List Listener → Bool → List Listener → F → Type 0) (f : F) (conn : ℕ) (old new : Maps S)
    → ((k : List ℕ) (v : List Listener) (b : Bool) (w : List Listener) (f' : F) → T f k v b w f' → (b ≡ not (is_empty (without conn v))) × (w ≡ without conn v) × (f' ≡ f))
    → IsUnique bytes_eq old → RetainsPairs T f old.entries new.entries → Drops old new conn
drops_from_retain T f conn old new says unique retains = λ name.
    let entries = map (λ (e : List ℕ × List Listener). (e.0, without conn e.1)) old.entries in
    let distinct : IsDistinct bytes_eq (keys_of entries) = subst (IsDistinct bytes_eq) (sym (keys_of-map_values (without conn) old.entries)) unique in
    ap (λ es. unwrap_or (lookup (bytes_eq name) es) []) (written T (without conn) f says old.entries new.entries retains)
    ∙ ap (λ kept. unwrap_or kept []) (lookup-filter-values nat_list_eq_equiv (λ v. not (is_empty v)) name entries distinct)
    ∙ unwrap-filter (lookup (bytes_eq name) entries)
    ∙ ap (λ kept. unwrap_or kept []) (lookup-map_values (without conn) (bytes_eq name) old.entries)
    ∙ without-unwrap conn (lookup (bytes_eq name) old.entries)

-- whether any passes

pub any-filter : (p : Listener → Bool) (xs : List Listener) → not (is_empty (filter p xs)) ≡ list_any p xs
any-filter p [] = refl
any-filter p (x ∷ xs) = by (p x) (any-filter p xs)
  where
    by : (b : Bool) → not (is_empty (filter p xs)) ≡ list_any p xs → not (is_empty (cond b (x ∷ filter p xs) (filter p xs))) ≡ (b || list_any p xs)
    by true ih = refl
    by false ih = ih

pub emptiness : (b : Bool) (xs : List Listener) → (IsTrue b ↔ (xs ≡ [])) → b ≡ is_empty xs
emptiness b [] h = h.1 refl
emptiness b (x ∷ xs) h = false_from_ne_true b (λ t. let e : x ∷ xs ≡ [] = h.0 t in absurd (cc))
