-- The slots of the code's table, and a change to one of them.
use Rattle.std.proofs.Common.{◌≡◌, ℕ, true, zero, suc, ◌≤◌, List, [], ◌∷◌, length, get_or, set, map, replicate, Option, Some, None, refl, ap, sym, ◌∙◌, arith}
use Rattle.std.specs.Option.{option_map, is_some}
use Rattle.std.proofs.lemmas.List.{map-set}
use Rattle.replay_run.specs.declared.connections.Connection.{Connection}
use Rattle.replay_run.specs.Tables.{Opened, Table, unopened, opened_as, slots_as, silent, opened_at, with_opened, changed_at, with_change, or_line}

-- An element that was read is replaced by one that stands for what a change makes of it.
set_changed : {X Y : Type 0} (v : X → Y) (change : Y → Y) (xs : List X) (i : ℕ) (old new : X) → old ≡ get_or xs i old → v new ≡ change (v old) → map v (set xs i new) ≡ changed_at (map v xs) i change
set_changed v change [] i old new read made = refl
set_changed v change (x ∷ xs) zero old new read made = ap (λ y. y ∷ map v xs) (made ∙ ap (λ z. change (v z)) read)
set_changed v change (x ∷ xs) (suc i) old new read made = ap (λ ys. v x ∷ ys) (set_changed v change xs i old new read made)

set_same : {X Y : Type 0} (v : X → Y) (xs : List X) (i : ℕ) (old new : X) → old ≡ get_or xs i old → v new ≡ v old → map v (set xs i new) ≡ map v xs
set_same v [] i old new read made = refl
set_same v (x ∷ xs) zero old new read made = ap (λ y. y ∷ map v xs) (made ∙ ap v read)
set_same v (x ∷ xs) (suc i) old new read made = ap (λ ys. v x ∷ ys) (set_same v xs i old new read made)

-- A change past the end changes nothing.
pub changed_past : {Y : Type 0} (change : Y → Y) (ys : List Y) (i : ℕ) → length ys ≤ i → changed_at ys i change ≡ ys
changed_past change [] i past = refl
changed_past change (z ∷ ys) zero past = absurd (omega arith)
changed_past change (z ∷ ys) (suc i) past = ap (λ xs. z ∷ xs) (changed_past change ys i (omega arith))

-- An element that was read is replaced by what a change makes of it.
pub changed_there : {X : Type 0} (change : X → X) (xs : List X) (i : ℕ) (old new : X) → old ≡ get_or xs i old → new ≡ change old → set xs i new ≡ changed_at xs i change
changed_there change [] i old new read made = refl
changed_there change (x ∷ xs) zero old new read made = ap (λ y. y ∷ xs) (made ∙ ap change read)
changed_there change (x ∷ xs) (suc i) old new read made = ap (λ ys. x ∷ ys) (changed_there change xs i old new read made)

-- A slot that was read gets a change.
pub slot_changed : (table : Table) (slots : List (Option Connection)) (i : ℕ) (old new : Option Connection) (change : Opened → Opened) → slots_as slots ≡ table → old ≡ get_or slots i old
    → option_map opened_as new ≡ option_map change (option_map opened_as old) → slots_as (set slots i new) ≡ with_change table i change
slot_changed table slots i old new change is read made =
    set_changed (option_map opened_as) (option_map change) slots i old new read made ∙ ap (λ (t : Table). with_change t i change) is

pub slot_kept : (table : Table) (slots : List (Option Connection)) (i : ℕ) (old new : Option Connection) → slots_as slots ≡ table → old ≡ get_or slots i old
    → option_map opened_as new ≡ option_map opened_as old → slots_as (set slots i new) ≡ table
slot_kept table slots i old new is read made = set_same (option_map opened_as) slots i old new read made ∙ is

-- There is no slot of that number.
pub no_slot : (table : Table) (slots : List (Option Connection)) (i : ℕ) (change : Opened → Opened) → slots_as slots ≡ table → length slots ≤ i → slots_as slots ≡ with_change table i change
no_slot table slots i change is past = is ∙ sym (changed_past (option_map change) table i (beyond table is))
  where
    same_length : (xs : List (Option Connection)) → length (slots_as xs) ≡ length xs
    same_length [] = refl
    same_length (x ∷ xs) = ap (λ n. suc n) (same_length xs)

    beyond : (t : Table) → slots_as slots ≡ t → length t ≤ i
    beyond t e = omega (arith, ap length e, same_length slots, past)

-- what a slot has that was read
pub slot_read : (slots : List (Option Connection)) (i : ℕ) (slot : Option Connection) (opened : Opened) → slot ≡ get_or slots i slot → opened_at (slots_as slots) i ≡ Some opened → option_map opened_as slot ≡ Some opened
slot_read [] i slot opened read at = absurd cc
slot_read (x ∷ xs) zero slot opened read at = ap (option_map opened_as) read ∙ at
slot_read (x ∷ xs) (suc i) slot opened read at = slot_read xs i slot opened read at

pub slot_opened : (table : Table) (slots : List (Option Connection)) (i member : ℕ) (new : Connection) → slots_as slots ≡ table → opened_as new ≡ silent i member → slots_as (set slots i (Some new)) ≡ with_opened table i member
slot_opened table slots i member new is made = map-set (option_map opened_as) slots i (Some new) ∙ ap (λ (o : Opened). set (slots_as slots) i (Some o)) made ∙ ap (λ (t : Table). with_opened t i member) is

pub none_opened : (n : ℕ) → slots_as (replicate n None) ≡ unopened n
none_opened zero = refl
none_opened (suc n) = ap (λ t. None ∷ t) (none_opened n)

-- The first answer of a call counts.
pub answered_before : (answered : Option ℕ) (line : ℕ) → is_some answered ≡ true → answered ≡ or_line answered line
answered_before None line some = absurd cc
answered_before (Some earlier) line some = refl
