-- Chains by their ids: what is found, changed and taken away.
use Rattle.std.proofs.Common.{◌≡◌, ℕ, true, false, eqb, List, [], ◌∷◌, ◌++◌, refl, ap, ◌⊎◌, inl, inr}
use Rattle.std.proofs.lemmas.Bool.{false≢true, cases_Bool, eq-eqb, or_parts}
use Rattle.frame_codec.specs.declared.frames.Frame.{Frame}
use Rattle.message_frames.specs.Assembly.{Chain, has_id, is_open, frames_of, with_frames, without}

-- a chain that stands apart from the others
abbrev pub chain_of : ℕ → List Frame → Chain
chain_of id frames = record { id = id; frames = frames }

pub same_id : (id : ℕ) → eqb id id ≡ true
same_id id = eq-eqb id id refl

pub frames_of_changed : (id : ℕ) (frames : List Frame) (chains : List Chain) → is_open id chains ≡ true → frames_of id (with_frames id frames chains) ≡ frames
frames_of_changed id frames [] open_now = absurd (false≢true open_now)
frames_of_changed id frames (chain ∷ chains) open_now = go (cases_Bool (has_id id chain)) (frames_of_changed id frames chains)
  where
    go : (has_id id chain ≡ true) ⊎ (has_id id chain ≡ false) → (is_open id chains ≡ true → frames_of id (with_frames id frames chains) ≡ frames) → frames_of id (with_frames id frames (chain ∷ chains)) ≡ frames
    go (inl here) later = rw here (rw same_id refl)
    go (inr there) later = rw there (rw there (later (rw there at open_now)))

pub open_when_changed : (id : ℕ) (frames : List Frame) (chains : List Chain) → is_open id chains ≡ true → is_open id (with_frames id frames chains) ≡ true
open_when_changed id frames [] open_now = open_now
open_when_changed id frames (chain ∷ chains) open_now = go (cases_Bool (has_id id chain)) (open_when_changed id frames chains)
  where
    go : (has_id id chain ≡ true) ⊎ (has_id id chain ≡ false) → (is_open id chains ≡ true → is_open id (with_frames id frames chains) ≡ true) → is_open id (with_frames id frames (chain ∷ chains)) ≡ true
    go (inl here) later = rw here (rw same_id refl)
    go (inr there) later = rw there (rw there (later (rw there at open_now)))

pub changed_twice : (id : ℕ) (first second : List Frame) (chains : List Chain) → with_frames id second (with_frames id first chains) ≡ with_frames id second chains
changed_twice id first second [] = refl
changed_twice id first second (chain ∷ chains) = go (cases_Bool (has_id id chain)) (changed_twice id first second chains)
  where
    go : (has_id id chain ≡ true) ⊎ (has_id id chain ≡ false) → with_frames id second (with_frames id first chains) ≡ with_frames id second chains → with_frames id second (with_frames id first (chain ∷ chains)) ≡ with_frames id second (chain ∷ chains)
    go (inl here) later = rw here (rw same_id (ap (λ cs. chain_of id second ∷ cs) later))
    go (inr there) later = rw there (rw there (ap (λ cs. chain ∷ cs) later))

pub without_changed : (id : ℕ) (frames : List Frame) (chains : List Chain) → without id (with_frames id frames chains) ≡ without id chains
without_changed id frames [] = refl
without_changed id frames (chain ∷ chains) = go (cases_Bool (has_id id chain)) (without_changed id frames chains)
  where
    go : (has_id id chain ≡ true) ⊎ (has_id id chain ≡ false) → without id (with_frames id frames chains) ≡ without id chains → without id (with_frames id frames (chain ∷ chains)) ≡ without id (chain ∷ chains)
    go (inl here) later = rw here (rw same_id later)
    go (inr there) later = rw there (rw there (ap (λ cs. chain ∷ cs) later))

-- a chain that has just been opened

pub none_of_closed : (id : ℕ) (chains : List Chain) → is_open id chains ≡ false → frames_of id chains ≡ []
none_of_closed id [] closed = refl
none_of_closed id (chain ∷ chains) closed = let parts = or_parts (has_id id chain) (is_open id chains) closed in rw (parts.0) (none_of_closed id chains parts.1)

pub frames_of_opened : (id : ℕ) (frames : List Frame) (chains : List Chain) → is_open id chains ≡ false → frames_of id (chains ++ chain_of id frames ∷ []) ≡ frames
frames_of_opened id frames [] closed = rw same_id refl
frames_of_opened id frames (chain ∷ chains) closed = let parts = or_parts (has_id id chain) (is_open id chains) closed in rw (parts.0) (frames_of_opened id frames chains parts.1)

pub open_when_opened : (id : ℕ) (frames : List Frame) (chains : List Chain) → is_open id (chains ++ chain_of id frames ∷ []) ≡ true
open_when_opened id frames [] = rw same_id refl
open_when_opened id frames (chain ∷ chains) = go (cases_Bool (has_id id chain)) (open_when_opened id frames chains)
  where
    go : (has_id id chain ≡ true) ⊎ (has_id id chain ≡ false) → is_open id (chains ++ chain_of id frames ∷ []) ≡ true → is_open id (chain ∷ chains ++ chain_of id frames ∷ []) ≡ true
    go (inl here) later = rw here refl
    go (inr there) later = rw there later

pub changed_when_opened : (id : ℕ) (first second : List Frame) (chains : List Chain) → is_open id chains ≡ false →
    with_frames id second (chains ++ chain_of id first ∷ []) ≡ chains ++ chain_of id second ∷ []
changed_when_opened id first second [] closed = rw same_id refl
changed_when_opened id first second (chain ∷ chains) closed =
    let parts = or_parts (has_id id chain) (is_open id chains) closed in rw (parts.0) (ap (λ cs. chain ∷ cs) (changed_when_opened id first second chains parts.1))

pub without_opened : (id : ℕ) (frames : List Frame) (chains : List Chain) → is_open id chains ≡ false → without id (chains ++ chain_of id frames ∷ []) ≡ chains
without_opened id frames [] closed = rw same_id refl
without_opened id frames (chain ∷ chains) closed =
    let parts = or_parts (has_id id chain) (is_open id chains) closed in rw (parts.0) (ap (λ cs. chain ∷ cs) (without_opened id frames chains parts.1))
