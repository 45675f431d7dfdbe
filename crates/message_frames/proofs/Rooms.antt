-- Room in lists.
use Rattle.std.proofs.Common.{◌≡◌, ℕ, zero, suc, ◌<◌, ◌≤◌, List, [], ◌∷◌, ◌++◌, length, get_or, set, take, get_or-set_other, length-set, length-append, refl, sym, ◌∙◌, ap, arith, vec_capacity}
use Rattle.std.specs.Global.{Vec}
use Rattle.std.proofs.lemmas.List.{set-get_or, map-set}
use Rattle.frame_codec.specs.declared.frames.Frame.{Frame}
use Rattle.message_frames.specs.Lists.{list_at, frames_in, rooms_in, GetRoom, LosesRoom}

pub same_room : (lists : List (Vec Frame)) → GetRoom lists lists
same_room lists = record { frames = λ k. refl; rooms = λ k. omega arith; count = omega arith }

pub got_room_twice : (first second third : List (Vec Frame)) → GetRoom first second → GetRoom second third → GetRoom first third
got_room_twice first second third one two = record {
  frames = λ k. two.frames k ∙ one.frames k;
  rooms = λ k. omega (arith, one.rooms k, two.rooms k);
  count = omega (arith, one.count, two.count);
}

-- a list with more room

frames_widened : (lists : List (Vec Frame)) (k : ℕ) (old new : Vec Frame) → old ≡ get_or lists k old → new.items ≡ old.items → frames_in (set lists k new) ≡ frames_in lists
frames_widened [] k old new read same = refl
frames_widened (first ∷ lists) zero old new read same = ap (λ frames. frames ∷ frames_in lists) (same ∙ ap (λ (v : Vec Frame). v.items) read)
frames_widened (first ∷ lists) (suc k) old new read same = ap (λ rest. first.items ∷ rest) (frames_widened lists k old new read same)

rooms_widened : (lists : List (Vec Frame)) (k : ℕ) (old new : Vec Frame) → old ≡ get_or lists k old → vec_capacity old ≤ vec_capacity new →
    (j : ℕ) → get_or (rooms_in lists) j 0 ≤ get_or (rooms_in (set lists k new)) j 0
rooms_widened [] k old new read wider j = omega arith
rooms_widened (first ∷ lists) zero old new read wider zero = let same : vec_capacity old ≡ vec_capacity first = ap (λ (v : Vec Frame). vec_capacity v) read in omega arith
rooms_widened (first ∷ lists) zero old new read wider (suc j) = omega arith
rooms_widened (first ∷ lists) (suc k) old new read wider zero = omega arith
rooms_widened (first ∷ lists) (suc k) old new read wider (suc j) = rooms_widened lists k old new read wider j

pub room_widened : (lists : List (Vec Frame)) (k : ℕ) (old new : Vec Frame) → old ≡ get_or lists k old → new.items ≡ old.items → vec_capacity old ≤ vec_capacity new → GetRoom lists (set lists k new)
room_widened lists k old new read same wider = record {
  frames = λ j. ap (λ frames. list_at frames j) (frames_widened lists k old new read same);
  rooms = rooms_widened lists k old new read wider;
  count = omega (arith, length-set {A = Vec Frame});
}

pub room_at-set : (lists : List (Vec Frame)) (k : ℕ) (new : Vec Frame) → k < length lists → get_or (rooms_in (set lists k new)) k 0 ≡ vec_capacity new
room_at-set [] k new within = absurd (omega arith)
room_at-set (first ∷ lists) zero new within = refl
room_at-set (first ∷ lists) (suc k) new within = room_at-set lists k new (omega arith)

-- an empty list behind the others

frames_added : (lists : List (Vec Frame)) (new : Vec Frame) → new.items ≡ [] → (k : ℕ) → list_at (frames_in (lists ++ new ∷ [])) k ≡ list_at (frames_in lists) k
frames_added [] new none zero = none
frames_added [] new none (suc k) = refl
frames_added (first ∷ lists) new none zero = refl
frames_added (first ∷ lists) new none (suc k) = frames_added lists new none k

rooms_added : (lists : List (Vec Frame)) (new : Vec Frame) (k : ℕ) → get_or (rooms_in lists) k 0 ≤ get_or (rooms_in (lists ++ new ∷ [])) k 0
rooms_added [] new k = let least : get_or (rooms_in []) k 0 ≡ 0 = refl in omega arith
rooms_added (first ∷ lists) new zero = omega arith
rooms_added (first ∷ lists) new (suc k) = rooms_added lists new k

pub room_added : (lists : List (Vec Frame)) (new : Vec Frame) → new.items ≡ [] → GetRoom lists (lists ++ new ∷ [])
room_added lists new none = record { frames = frames_added lists new none; rooms = rooms_added lists new; count = omega (arith, length-append {A = Vec Frame}) }

-- one list replaced by another

pub frames_in-set : (lists : List (Vec Frame)) (k : ℕ) (new : Vec Frame) → frames_in (set lists k new) ≡ set (frames_in lists) k new.items
frames_in-set lists k new = map-set (λ (list : Vec Frame). list.items) lists k new

pub rooms_in-set : (lists : List (Vec Frame)) (k : ℕ) (new : Vec Frame) → rooms_in (set lists k new) ≡ set (rooms_in lists) k (vec_capacity new)
rooms_in-set lists k new = map-set vec_capacity lists k new

pub frames_read : (lists : List (Vec Frame)) (k : ℕ) (old : Vec Frame) → k < length lists → old ≡ get_or lists k old → list_at (frames_in lists) k ≡ old.items
frames_read [] k old within read = absurd (omega arith)
frames_read (first ∷ lists) zero old within read = ap (λ (v : Vec Frame). v.items) (sym read)
frames_read (first ∷ lists) (suc k) old within read = frames_read lists k old (omega arith) read

pub room_read : (lists : List (Vec Frame)) (k : ℕ) (old : Vec Frame) → k < length lists → old ≡ get_or lists k old → get_or (rooms_in lists) k 0 ≡ vec_capacity old
room_read [] k old within read = absurd (omega arith)
room_read (first ∷ lists) zero old within read = ap (λ (v : Vec Frame). vec_capacity v) (sym read)
room_read (first ∷ lists) (suc k) old within read = room_read lists k old (omega arith) read

pub rooms_kept : (lists : List (Vec Frame)) (k : ℕ) (old new : Vec Frame) → k < length lists → old ≡ get_or lists k old → vec_capacity new ≡ vec_capacity old → rooms_in (set lists k new) ≡ rooms_in lists
rooms_kept lists k old new within read same =
    rooms_in-set lists k new ∙ ap (λ room. set (rooms_in lists) k room) (same ∙ sym (room_read lists k old within read)) ∙ set-get_or (rooms_in lists) k 0

pub room_lost : (lists : List (Vec Frame)) (k : ℕ) (new : Vec Frame) → LosesRoom (rooms_in lists) (rooms_in (set lists k new)) k
room_lost lists k new = rw (rooms_in-set lists k new) (record {
  count = length-set (rooms_in lists) k (vec_capacity new);
  others = λ j other. get_or-set_other (rooms_in lists) k j (vec_capacity new) 0 other;
})

-- unused lists that are let go
pub unused_dropped : (n : ℕ) (lists : List (Vec Frame)) → ((k : ℕ) → n ≤ k → list_at (frames_in lists) k ≡ []) → (k : ℕ) → list_at (frames_in (take n lists)) k ≡ list_at (frames_in lists) k
unused_dropped zero lists unused k = sym (unused k (omega arith))
unused_dropped (suc n) [] unused k = refl
unused_dropped (suc n) (first ∷ lists) unused zero = refl
unused_dropped (suc n) (first ∷ lists) unused (suc k) = unused_dropped n lists (λ j above. unused (suc j) (omega arith)) k
