-- How the listeners are kept: those of each map by its name, and those of rows.
use Rattle.std.specs.Prelude.{◌≡◌, ℕ, ◌≤◌, List, [], ◌∷◌, filter, bytes_eq, Some, unwrap_or, if◌then◌else◌, ⊤}
use Rattle.std.specs.List.{AllByRecursion}
use Rattle.std.specs.HashMap.{HashMap, get}
use Rattle.listeners.specs.Standing.{is_about, is_about_rows, placed, without}
use Rattle.listeners.specs.declared.listener.Listener.{Listener}

-- the listeners of each map by its name, in a table hashed by an S
abbrev pub Maps : Type 0 → Type 0
Maps S = HashMap (List ℕ) (List Listener) S

module _ {S : Type 0} where
  -- those that are kept for a map
  abbrev pub kept_for : Maps S → List ℕ → List Listener
  kept_for maps name = unwrap_or (get bytes_eq maps name) []

  -- One listener more for a map.
  abbrev pub Adds : Maps S → Maps S → List ℕ → Listener → Type 0
  Adds old new name listener =
      (other : List ℕ) → get bytes_eq new other
      ≡ (if bytes_eq name other then Some (placed listener (kept_for old name)) else get bytes_eq old other)

  -- The same for each map.
  abbrev pub AreSame : Maps S → Maps S → Type 0
  AreSame old new = (name : List ℕ) → get bytes_eq new name ≡ get bytes_eq old name

  -- Each map keeps those of other connections.
  abbrev pub Drops : Maps S → Maps S → ℕ → Type 0
  Drops old new conn = (name : List ℕ) → kept_for new name ≡ without conn (kept_for old name)

-- The connections never fall.
abbrev pub AreInOrder : List Listener → Type 0
AreInOrder [] = ⊤
AreInOrder (listener ∷ others) = AllByRecursion (λ (other : Listener). listener.conn ≤ other.conn) others × AreInOrder others

-- They stand for all that listen, in their order.
pub record Keep {S : Type 0} (maps : Maps S) (rows : List Listener) (all : List Listener) : Type 0 where
  pub order : AreInOrder all
  pub maps_kept : (name : List ℕ) → kept_for maps name ≡ filter (is_about name) all
  pub rows_kept : rows ≡ filter is_about_rows all
