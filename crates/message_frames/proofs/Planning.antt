-- Room that is made for one frame after the other is room for all.
use Rattle.std.proofs.Common.{◌≡◌, ℕ, suc, ◌+◌, ◌<◌, ◌≤◌, true, false, List, [], ◌∷◌, ◌++◌, length, get_or, take, drop, drop-cons, add-one, replicate, refl, sym, ◌∙◌, ap, subst, arith}
use Rattle.std.proofs.lemmas.Bool.{false≢true}
use Rattle.std.proofs.lemmas.List.{take_more, take-append-drop}
use Rattle.frame_codec.specs.declared.frames.Frame.{Frame}
use Rattle.frame_codec.specs.declared.frames.PlacedFrame.{PlacedFrame}
use Rattle.message_frames.specs.Turns.{Turned, turned, is_failing, after_all, JoinsBelow, HasRoom, HaveRoom}
use Rattle.message_frames.specs.Lists.{IsSound}
use Rattle.message_frames.specs.declared.control.Control.{Control}
use Rattle.message_frames.specs.declared.control.Ending.TheVariants.{GoesOn, EndsFragment, EndsMessage}
use Rattle.message_frames.specs.declared.control.Turn.{Turn}
use Rattle.message_frames.specs.declared.control.Turn.TheVariants.{Fails, Heads, Joins}
use Rattle.message_frames.proofs.SameLists.{sound_same, padded_same, length-padded}
use Rattle.message_frames.proofs.TurnForms.{Form, Failing, Opening, Continuing, MessageOn, MessageEnds, FragmentOn, FragmentEnds, ChainEnds, turned_form}
use Rattle.message_frames.proofs.SoundTurns.{HasList, CountsAt, turn_counts, sound_after}

-- frames of which none fails
abbrev pub GoOn : ℕ → List PlacedFrame → Control → Type 0
GoOn shortest [] c = Unit {0}
GoOn shortest (new ∷ frames) c = (is_failing (turned shortest new c).turn ≡ false) × GoOn shortest frames (turned shortest new c).after

module _ (shortest : ℕ) where
  pub after_all-append : (xs ys : List PlacedFrame) (c : Control) → GoOn shortest xs c → after_all shortest (xs ++ ys) c ≡ after_all shortest ys (after_all shortest xs c)
  after_all-append [] ys c goes_on = refl
  after_all-append (x ∷ xs) ys c goes_on = rw (goes_on.0) (after_all-append xs ys (turned shortest x c).after goes_on.1)

  pub go_on-append : (xs ys : List PlacedFrame) (c : Control) → GoOn shortest xs c → GoOn shortest ys (after_all shortest xs c) → GoOn shortest (xs ++ ys) c
  go_on-append [] ys c goes_on later = later
  go_on-append (x ∷ xs) ys c goes_on later = (goes_on.0, go_on-append xs ys (turned shortest x c).after goes_on.1 (rw (goes_on.0) at later))

  pub have_room-append : (rooms : List ℕ) (xs ys : List PlacedFrame) (c : Control) → GoOn shortest xs c → HaveRoom shortest rooms xs c → HaveRoom shortest rooms ys (after_all shortest xs c) → HaveRoom shortest rooms (xs ++ ys) c
  have_room-append rooms [] ys c goes_on room later = later
  have_room-append rooms (x ∷ xs) ys c goes_on room later =
      (room.0, room.1, λ on. have_room-append rooms xs ys (turned shortest x c).after goes_on.1 (room.2 on) (rw on at later))

  has_room_more : (rooms more : List ℕ) (turn : Turn) → length rooms ≤ length more → ((k : ℕ) → get_or rooms k 0 ≤ get_or more k 0) → HasRoom rooms turn → HasRoom more turn
  has_room_more rooms more (Fails fault) longer wider room = tt
  has_room_more rooms more Heads longer wider room = tt
  has_room_more rooms more (Joins list count ending) longer wider room = (omega (arith, room.0), omega (arith, room.1, wider list))

  pub have_room_more : (rooms more : List ℕ) (xs : List PlacedFrame) (c : Control) → length rooms ≤ length more → ((k : ℕ) → get_or rooms k 0 ≤ get_or more k 0) → HaveRoom shortest rooms xs c → HaveRoom shortest more xs c
  have_room_more rooms more [] c longer wider room = let few : c.lists ≤ length rooms = room in omega arith
  have_room_more rooms more (x ∷ xs) c longer wider room =
      (omega (arith, room.0), has_room_more rooms more (turned shortest x c).turn longer wider room.1, λ on. have_room_more rooms more xs (turned shortest x c).after longer wider (room.2 on))

-- A frame that fails leaves control as it was.

form_stays : (new : PlacedFrame) (c : Control) (t : Turned) → Form new c t → is_failing t.turn ≡ true → t.after ≡ c
form_stays new c _ (Failing fault) fails = refl
form_stays new c _ (Opening id free unknown) fails = absurd (false≢true fails)
form_stays new c _ (Continuing id last free known) fails = absurd (false≢true fails)
form_stays new c _ (MessageOn begun more next) fails = absurd (false≢true fails)
form_stays new c _ (MessageEnds begun more next) fails = absurd (false≢true fails)
form_stays new c _ (FragmentOn id last chain spot named) fails = absurd (false≢true fails)
form_stays new c _ (FragmentEnds id last chain spot named) fails = absurd (false≢true fails)
form_stays new c _ (ChainEnds id last chain spot named) fails = absurd (false≢true fails)

pub failing_stays : (shortest : ℕ) (new : PlacedFrame) (c : Control) → is_failing (turned shortest new c).turn ≡ true → (turned shortest new c).after ≡ c
failing_stays shortest new c = form_stays new c (turned shortest new c) (turned_form shortest new c)

-- some lists that control is sound with
abbrev pub HasLists : Control → Type 0
HasLists c = (lists : List (List Frame)) × IsSound c lists

has_list : (turn : Turn) (c : Control) (lists others : List (List Frame)) (after : Control) → CountsAt turn c lists after → after.lists ≤ length others → HasList turn others
has_list (Fails fault) c lists others after counts enough = tt
has_list Heads c lists others after counts enough = tt
has_list (Joins list count GoesOn) c lists others after counts enough = omega (arith, counts.0)
has_list (Joins list count EndsFragment) c lists others after counts enough = omega (arith, counts.0)
has_list (Joins list count EndsMessage) c lists others after counts enough = omega (arith, counts.0)

pub joins_below : (turn : Turn) (c : Control) (lists : List (List Frame)) (after : Control) → CountsAt turn c lists after → JoinsBelow after.lists turn
joins_below (Fails fault) c lists after counts = tt
joins_below Heads c lists after counts = tt
joins_below (Joins list count GoesOn) c lists after counts = counts.0
joins_below (Joins list count EndsFragment) c lists after counts = counts.0
joins_below (Joins list count EndsMessage) c lists after counts = counts.0

module _ (shortest : ℕ) (new : PlacedFrame) (c : Control) where
  pub lists_after_turn : HasLists c → HasLists (turned shortest new c).after
  lists_after_turn known =
      let lists = known.0 ++ replicate (c.lists + 1) [] in
      let sound : IsSound c lists = sound_same (known.0) lists (padded_same (known.0) (c.lists + 1)) c known.1 in
      let counts = turn_counts new c lists sound shortest in
      let few : c.lists + 1 ≤ length lists = length-padded (known.0) (c.lists + 1) in
      (_, sound_after new c lists sound shortest (has_list (turned shortest new c).turn c lists lists (turned shortest new c).after counts.at (omega (arith, counts.one_more))))

-- one list more at most, and the list that is joined is there
pub turn_lists : (shortest : ℕ) (new : PlacedFrame) (c : Control) → HasLists c → ((turned shortest new c).after.lists ≤ c.lists + 1) × JoinsBelow (turned shortest new c).after.lists (turned shortest new c).turn
turn_lists shortest new c known =
    let counts = turn_counts new c (known.0) (known.1) shortest in
    (counts.one_more, joins_below (turned shortest new c).turn c (known.0) (turned shortest new c).after counts.at)

-- frames so far that found room, and the control after them
pub record ArePlanned (shortest : ℕ) (rooms : List ℕ) (done : List PlacedFrame) (control after : Control) : Type 0 where
  pub goes_on : GoOn shortest done control
  pub is : after ≡ after_all shortest done control
  pub room : HaveRoom shortest rooms done control
  pub sound : HasLists after
  pub count : after.lists ≤ length rooms

module _ (shortest : ℕ) (rooms : List ℕ) (done : List PlacedFrame) (control after : Control) (new : PlacedFrame) (planned : ArePlanned shortest rooms done control after) where
  pub planned_more : (more : List ℕ) → is_failing (turned shortest new after).turn ≡ false → length rooms ≤ length more → ((k : ℕ) → get_or rooms k 0 ≤ get_or more k 0) →
      (turned shortest new after).after.lists ≤ length more → HasRoom more (turned shortest new after).turn → ArePlanned shortest more (done ++ new ∷ []) control (turned shortest new after).after
  planned_more more on longer wider enough room =
      let next_on : GoOn shortest (new ∷ []) (after_all shortest done control) = subst (λ c. GoOn shortest (new ∷ []) c) planned.is (on, tt) in
      let next_room : HaveRoom shortest more (new ∷ []) (after_all shortest done control) =
      subst (λ c. HaveRoom shortest more (new ∷ []) c) planned.is (omega (arith, planned.count), room, λ _. enough) in
      record {
        goes_on = go_on-append shortest done (new ∷ []) control planned.goes_on next_on;
        is = sym (after_all-append shortest done (new ∷ []) control planned.goes_on ∙ ap (after_all shortest (new ∷ [])) (sym planned.is) ∙ rw on refl);
        room = have_room-append shortest more done (new ∷ []) control planned.goes_on (have_room_more shortest rooms more done control longer wider planned.room) next_room;
        sound = lists_after_turn shortest new after planned.sound;
        count = enough;
      }

  pub planned_to_fault : (rest : List PlacedFrame) → is_failing (turned shortest new after).turn ≡ true → HaveRoom shortest rooms (done ++ new ∷ rest) control × (after ≡ after_all shortest (done ++ new ∷ rest) control)
  planned_to_fault rest fails =
      let stopped : HaveRoom shortest rooms (new ∷ rest) after = (planned.count, no_room (turned shortest new after).turn fails, λ on. absurd (false≢true (sym on ∙ fails))) in (
        have_room-append shortest rooms done (new ∷ rest) control planned.goes_on planned.room (subst (λ c. HaveRoom shortest rooms (new ∷ rest) c) planned.is stopped),
        sym (after_all-append shortest done (new ∷ rest) control planned.goes_on ∙ ap (after_all shortest (new ∷ rest)) (sym planned.is) ∙ rw fails refl),
      )
    where
      no_room : (turn : Turn) → is_failing turn ≡ true → HasRoom rooms turn
      no_room (Fails fault) is = tt
      no_room Heads is = absurd (false≢true is)
      no_room (Joins list count ending) is = absurd (false≢true is)

pub planned_none : (shortest : ℕ) (rooms : List ℕ) (control : Control) (lists : List (List Frame)) → IsSound control lists → control.lists ≤ length rooms → ArePlanned shortest rooms [] control control
planned_none shortest rooms control lists sound enough = record { goes_on = tt; is = refl; room = enough; sound = (lists, sound); count = enough }

-- the frame at an index, as a loop reads it

pub frames_with : (frames : List PlacedFrame) (i : ℕ) (new : PlacedFrame) → i < length frames → new ≡ get_or frames i new → take (i + 1) frames ≡ take i frames ++ new ∷ []
frames_with frames i new within read = take_more frames i new within ∙ ap (λ frame. take i frames ++ frame ∷ []) (sym read)

pub frames_around : (frames : List PlacedFrame) (i : ℕ) (new : PlacedFrame) → i < length frames → new ≡ get_or frames i new → take i frames ++ new ∷ drop (i + 1) frames ≡ frames
frames_around frames i new within read =
    rw (add-one) (ap (λ frame. take i frames ++ frame ∷ drop (suc i) frames) read ∙ ap (λ rest. take i frames ++ rest) (sym (drop-cons frames i new within)) ∙ take-append-drop i frames)
