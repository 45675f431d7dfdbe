-- The rule of a parcel: what lies in it is an answer on its terms, and it is empty while its sender's end isn't spent.
use Rattle.std.specs.Prelude.{◌≡◌, ℕ, ◌⊎◌, List, [], All, Option, Some, None}
use Rattle.job_queues.specs.declared.parcel.Done.{Done}
use Rattle.job_queues.specs.declared.terms.ParcelSide.{ParcelSide}
use Rattle.job_queues.specs.declared.terms.ParcelSide.TheVariants.{Opening, Sender, Receiver, Spent}
use Rattle.job_queues.specs.Terms.{Terms}
use Rattle.job_queues.specs.Lists.{At}

module _ {T P E O : Type 0} where
  abbrev pub IsOpening : ParcelSide T P E O → Type 0
  IsOpening Opening = Unit {0}
  IsOpening _ = ⊥

  abbrev pub IsSender : ParcelSide T P E O → Type 0
  IsSender (Sender terms) = Unit {0}
  IsSender _ = ⊥

  abbrev pub IsSpent : ParcelSide T P E O → Type 0
  IsSpent Spent = Unit {0}
  IsSpent _ = ⊥

  -- what an end knows of the terms is so. A parcel has none before it is sealed
  abbrev pub Agrees : Option (Terms P E) → ParcelSide T P E O → Type 0
  Agrees terms Opening = Unit {0}
  Agrees terms (Sender known) = terms ≡ Some known
  Agrees terms (Receiver known) = terms ≡ Some known
  Agrees terms Spent = Unit {0}

  -- the sides that the two ends get. No terms are never sealed
  abbrev pub sender_of : Option (Terms P E) → ParcelSide T P E O
  sender_of None = Spent
  sender_of (Some terms) = Sender terms

  abbrev pub receiver_of : Option (Terms P E) → ParcelSide T P E O
  receiver_of None = Spent
  receiver_of (Some terms) = Receiver terms

  -- a sender finds nothing in the parcel
  abbrev pub sees_room : ParcelSide T P E O → List (Done T P E O) → Type 0
  sees_room side items = IsSender side → items ≡ []

-- what lies in the parcel is an answer on its terms
abbrev pub Fits : {P E D : Type 0} → (Terms P E → D → Type 0) → Option (Terms P E) → D → Type 0
Fits fits None done = ⊥
Fits fits (Some terms) done = fits terms done

module _ {T P E O : Type 0} (fits : Terms P E → Done T P E O → Type 0) where
  -- While an end is opening, nothing lies in the parcel and nobody else holds an end. There is one sender at most, and
  -- nothing lies in the parcel while it is there
  pub record Parcelled (items : List (Done T P E O)) (sides : List (ParcelSide T P E O)) : Type 0 where
    pub terms : Option (Terms P E)
    pub fit : All (Fits fits terms) items
    pub agree : (j : ℕ) (v : ParcelSide T P E O) → At sides j v → Agrees terms v
    pub opening : (j : ℕ) (v : ParcelSide T P E O) → At sides j v → IsOpening v → (items ≡ []) × ((i : ℕ) (u : ParcelSide T P E O) → At sides i u → (i ≡ j) ⊎ IsSpent u)
    pub sender : (j : ℕ) (v : ParcelSide T P E O) → At sides j v → IsSender v → (items ≡ []) × ((i : ℕ) (u : ParcelSide T P E O) → At sides i u → IsSender u → i ≡ j)

  -- the end knows what it knew, and a receiver that this is an answer on its terms
  abbrev pub gives : ParcelSide T P E O → Done T P E O → ParcelSide T P E O → Type 0
  gives before done after = (after ≡ before) × ((terms : Terms P E) → before ≡ Receiver terms → fits terms done)
