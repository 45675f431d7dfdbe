-- Frames that are taken to their lists one after the other are assembled.
use Rattle.std.proofs.Common.{◌≡◌, ℕ, ◌+◌, ◌-◌, ◌<◌, ◌≤◌, true, false, List, [], ◌∷◌, ◌++◌, length, get_or, append_assoc, append-nil, refl, sym, ◌∙◌, ap, subst, ◌⊎◌, inl, inr, Some, arith, vec_len, vec_capacity}
use Rattle.std.specs.Global.{Vec}
use Rattle.std.proofs.lemmas.Bool.{cases_Bool}
use Rattle.std.proofs.lemmas.List.{length-map}
use Rattle.frame_codec.specs.declared.frames.Frame.{Frame}
use Rattle.frame_codec.specs.declared.frames.PlacedFrame.{PlacedFrame}
use Rattle.frame_codec.specs.declared.malformed.Malformed.{Malformed}
use Rattle.message_frames.specs.Assembly.{Assembly, Assembled, assembled}
use Rattle.message_frames.specs.Turns.{turned, is_failing, after_all, HasRoom, HaveRoom}
use Rattle.message_frames.specs.Lists.{list_at, assembly_of, IsSound, ended, lists_after, ending_step, turn_step, step_of, frames_in, rooms_in, KeepsRoom, HasNumber, given}
use Rattle.message_frames.specs.declared.message.Message.{Message}
use Rattle.message_frames.specs.declared.control.Control.{Control}
use Rattle.message_frames.specs.declared.control.Ending.{Ending}
use Rattle.message_frames.specs.declared.control.Ending.TheVariants.{GoesOn, EndsFragment, EndsMessage}
use Rattle.message_frames.specs.declared.control.Turn.{Turn}
use Rattle.message_frames.specs.declared.control.Turn.TheVariants.{Fails, Heads, Joins}
use Rattle.message_frames.proofs.Composition.{after_step}
use Rattle.message_frames.proofs.SoundTurns.{HasList, Counts, CountsAt, turn_counts, sound_after, turn_is_step}
use Rattle.message_frames.proofs.Planning.{HasLists, lists_after_turn, failing_stays}
use Rattle.message_frames.proofs.Live.{IsStillLive, still_live, have_room_if_live}

-- messages are counted up

counts_up : (turn : Turn) (c : Control) (lists : List (List Frame)) (after : Control) → CountsAt turn c lists after → c.complete ≤ after.complete
counts_up (Fails fault) c lists after counts = omega (arith, counts)
counts_up Heads c lists after counts = omega (arith, counts)
counts_up (Joins list count GoesOn) c lists after counts = omega (arith, counts.2)
counts_up (Joins list count EndsFragment) c lists after counts = omega (arith, counts.2)
counts_up (Joins list count EndsMessage) c lists after counts = omega (arith, counts.2)

pub complete_grows : (shortest : ℕ) (frames : List PlacedFrame) (c : Control) → HasLists c → c.complete ≤ (after_all shortest frames c).complete
complete_grows shortest [] c known = omega arith
complete_grows shortest (new ∷ frames) c known = go (cases_Bool (is_failing (turned shortest new c).turn)) (complete_grows shortest frames (turned shortest new c).after (lists_after_turn shortest new c known))
  where
    go : (is_failing (turned shortest new c).turn ≡ true) ⊎ (is_failing (turned shortest new c).turn ≡ false) →
        (turned shortest new c).after.complete ≤ (after_all shortest frames (turned shortest new c).after).complete → c.complete ≤ (after_all shortest (new ∷ frames) c).complete
    go (inl fails) later = rw fails (omega arith)
    go (inr on) later =
        let first : c.complete ≤ (turned shortest new c).after.complete =
        counts_up (turned shortest new c).turn c (known.0) (turned shortest new c).after (turn_counts new c (known.0) (known.1) shortest).at in
        rw on (omega arith)

-- what is left to take of frames
pub record IsUnderWay (shortest : ℕ) (before : List Message) (whole : Assembled) (end control : Control) (lists : List (Vec Frame)) (messages : Vec Message) (rest : List PlacedFrame) : Type 0 where
  pub sound : IsSound control (frames_in lists)
  pub room : HaveRoom shortest (rooms_in lists) rest control
  pub numbers : vec_len messages + ((after_all shortest rest control).complete - control.complete) ≤ vec_capacity messages
  pub given_on : before ++ whole.messages ≡ messages.items ++ (assembled shortest rest (assembly_of control (frames_in lists))).messages
  pub fault : whole.fault ≡ (assembled shortest rest (assembly_of control (frames_in lists))).fault
  pub after : whole.after ≡ (assembled shortest rest (assembly_of control (frames_in lists))).after
  pub end_is : end ≡ after_all shortest rest control

-- the rooms of lists as they are seen with their frames

has_list : (turn : Turn) (lists : List (Vec Frame)) → HasRoom (rooms_in lists) turn → HasList turn (frames_in lists)
has_list (Fails fault) lists room = tt
has_list Heads lists room = tt
has_list (Joins list count ending) lists room = omega (arith, room.0, length-map lists (λ (v : Vec Frame). v.items), length-map lists vec_capacity)

module _ (shortest : ℕ) (new : PlacedFrame) (rest : List PlacedFrame) (c : Control) (lists : List (Vec Frame)) (sound : IsSound c (frames_in lists)) (room : HaveRoom shortest (rooms_in lists) (new ∷ rest) c) where
  pub assembled_next : assembled shortest (new ∷ rest) (assembly_of c (frames_in lists)) ≡ after_step shortest rest (assembly_of c (frames_in lists)) (step_of (turned shortest new c) (frames_in lists) new.frame)
  assembled_next =
      let enough : c.lists ≤ length (frames_in lists) = omega (arith, room.0, length-map lists (λ (v : Vec Frame). v.items), length-map lists vec_capacity) in
      ap (after_step shortest rest (assembly_of c (frames_in lists))) (turn_is_step shortest new c (frames_in lists) sound enough (has_list (turned shortest new c).turn lists room.1))

  pub sound_next : IsSound (turned shortest new c).after (lists_after (turned shortest new c).turn (frames_in lists) new.frame)
  sound_next = sound_after new c (frames_in lists) sound shortest (has_list (turned shortest new c).turn lists room.1)

  pub counts_next : Counts c (frames_in lists) (turned shortest new c)
  counts_next = turn_counts new c (frames_in lists) sound shortest

-- what a step and the frames after it come to where the frame joins a list
after_ending : (shortest : ℕ) (rest : List PlacedFrame) (s next : Assembly) (ending : Ending) (all : List Frame) →
    after_step shortest rest s (ending_step ending all next)
    ≡ record { messages = given ending all ++ (assembled shortest rest next).messages; fault = (assembled shortest rest next).fault; after = (assembled shortest rest next).after }
after_ending shortest rest s next GoesOn all = refl
after_ending shortest rest s next EndsFragment all = refl
after_ending shortest rest s next EndsMessage all = refl

module _ (shortest : ℕ) (before : List Message) (whole : Assembled) (end c : Control) (lists : List (Vec Frame)) (messages : Vec Message) (new : PlacedFrame) (rest : List PlacedFrame)
    (under_way : IsUnderWay shortest before whole end c lists messages (new ∷ rest)) where
  step_is : (turn : Turn) → (turned shortest new c).turn ≡ turn →
      assembled shortest (new ∷ rest) (assembly_of c (frames_in lists))
      ≡ after_step shortest rest (assembly_of c (frames_in lists))
      (turn_step turn (frames_in lists) new.frame (assembly_of (turned shortest new c).after (lists_after turn (frames_in lists) new.frame)))
  step_is turn is =
      assembled_next shortest new rest c lists under_way.sound under_way.room
      ∙ ap (λ t. after_step shortest rest (assembly_of c (frames_in lists)) (turn_step t (frames_in lists) new.frame (assembly_of (turned shortest new c).after (lists_after t (frames_in lists) new.frame)))) is

  pub stops : (fault : Malformed) → (turned shortest new c).turn ≡ Fails fault →
      (before ++ whole.messages ≡ messages.items) × (whole.fault ≡ Some fault) × (whole.after ≡ assembly_of c (frames_in lists)) × (end ≡ c) × ((turned shortest new c).after ≡ c)
  stops fault is =
      let all = step_is (Fails fault) is in
      let fails : is_failing (turned shortest new c).turn ≡ true = ap is_failing is in (
        under_way.given_on ∙ ap (λ (a : Assembled). messages.items ++ a.messages) all ∙ append-nil messages.items,
        under_way.fault ∙ ap (λ (a : Assembled). a.fault) all,
        under_way.after ∙ ap (λ (a : Assembled). a.after) all,
        under_way.end_is ∙ rw fails refl,
        failing_stays shortest new c fails,
      )

  goes_on_after : is_failing (turned shortest new c).turn ≡ false → after_all shortest (new ∷ rest) c ≡ after_all shortest rest (turned shortest new c).after
  goes_on_after on = rw on refl

  pub heads_on : (turned shortest new c).turn ≡ Heads → IsUnderWay shortest before whole end (turned shortest new c).after lists messages rest
  heads_on is =
      let all = step_is Heads is in
      let t = turned shortest new c in
      let on : is_failing t.turn ≡ false = ap is_failing is in
      let same : t.after.complete ≡ c.complete = subst (λ turn. CountsAt turn c (frames_in lists) t.after) is (counts_next shortest new rest c lists under_way.sound under_way.room).at in
      record {
        sound = subst (λ turn. IsSound t.after (lists_after turn (frames_in lists) new.frame)) is (sound_next shortest new rest c lists under_way.sound under_way.room);
        room = under_way.room.2 on;
        numbers = omega (arith, under_way.numbers, same, ap (λ (end : Control). end.complete) (goes_on_after on));
        given_on = under_way.given_on ∙ ap (λ (a : Assembled). messages.items ++ a.messages) all;
        fault = under_way.fault ∙ ap (λ (a : Assembled). a.fault) all;
        after = under_way.after ∙ ap (λ (a : Assembled). a.after) all;
        end_is = under_way.end_is ∙ goes_on_after on;
      }

-- a list that is joined has room, and a message that is given too

counted : (list count : ℕ) (ending : Ending) (c : Control) (lists : List (List Frame)) (after : Control) → CountsAt (Joins list count ending) c lists after → count ≡ length (list_at lists list) + 1
counted list count GoesOn c lists after counts = counts.1
counted list count EndsFragment c lists after counts = counts.1
counted list count EndsMessage c lists after counts = counts.1

has_number : (ending : Ending) (list count : ℕ) (c : Control) (lists : List (List Frame)) (after : Control) (messages : Vec Message) (final : ℕ) → CountsAt (Joins list count ending) c lists after →
    after.complete ≤ final → vec_len messages + (final - c.complete) ≤ vec_capacity messages → HasNumber ending messages
has_number GoesOn list count c lists after messages final counts more enough = tt
has_number EndsFragment list count c lists after messages final counts more enough = tt
has_number EndsMessage list count c lists after messages final counts more enough = omega (arith, counts.2)

numbers_after : (ending : Ending) (list count : ℕ) (c : Control) (lists : List (List Frame)) (after : Control) (messages new : Vec Message) (final : ℕ) (all : List Frame) → CountsAt (Joins list count ending) c lists after →
    after.complete ≤ final → vec_len messages + (final - c.complete) ≤ vec_capacity messages → vec_len new ≡ vec_len messages + length (given ending all) → vec_capacity new ≡ vec_capacity messages →
    vec_len new + (final - after.complete) ≤ vec_capacity new
numbers_after GoesOn list count c lists after messages new final all counts more enough len capacity = omega (arith, counts.2)
numbers_after EndsFragment list count c lists after messages new final all counts more enough len capacity = omega (arith, counts.2)
numbers_after EndsMessage list count c lists after messages new final all counts more enough len capacity = omega (arith, counts.2)

rooms_longer : (ending : Ending) (old new : List ℕ) (list : ℕ) → KeepsRoom ending old new list → length old ≤ length new
rooms_longer GoesOn old new list keeps = omega (arith, ap length keeps)
rooms_longer EndsFragment old new list keeps = omega (arith, ap length keeps)
rooms_longer EndsMessage old new list keeps = omega (arith, keeps.count)

rooms_wider : (ending : Ending) (count : ℕ) (old new : List ℕ) (list k : ℕ) (c : Control) → KeepsRoom ending old new list → IsStillLive (Joins list count ending) c k → get_or old k 0 ≤ get_or new k 0
rooms_wider GoesOn count old new list k c keeps live = omega (arith, ap (λ rooms. get_or rooms k 0) keeps)
rooms_wider EndsFragment count old new list k c keeps live = omega (arith, ap (λ rooms. get_or rooms k 0) keeps)
rooms_wider EndsMessage count old new list k c keeps live = omega (arith, keeps.others k live.1)

-- what a turn needs of the list and the messages
pub record CanJoin (list : ℕ) (ending : Ending) (lists : List (Vec Frame)) (messages : Vec Message) : Type 0 where
  pub within : list < length lists
  pub room : length (list_at (frames_in lists) list) < get_or (rooms_in lists) list 0
  pub number : HasNumber ending messages

module _ (shortest : ℕ) (before : List Message) (whole : Assembled) (end c : Control) (lists : List (Vec Frame)) (messages : Vec Message) (new : PlacedFrame) (rest : List PlacedFrame)
    (under_way : IsUnderWay shortest before whole end c lists messages (new ∷ rest)) (list count : ℕ) (ending : Ending) (is : (turned shortest new c).turn ≡ Joins list count ending) where
  counts_here : CountsAt (Joins list count ending) c (frames_in lists) (turned shortest new c).after
  counts_here = subst (λ turn. CountsAt turn c (frames_in lists) (turned shortest new c).after) is (counts_next shortest new rest c lists under_way.sound under_way.room).at

  grows_here : (turned shortest new c).after.complete ≤ (after_all shortest (new ∷ rest) c).complete
  grows_here = subst (λ (final : Control). (turned shortest new c).after.complete ≤ final.complete)
      (sym (goes_on_after shortest before whole end c lists messages new rest under_way (ap is_failing is)))
      (complete_grows shortest rest (turned shortest new c).after (_, sound_next shortest new rest c lists under_way.sound under_way.room))

  pub can_join : CanJoin list ending lists messages
  can_join =
      let room : HasRoom (rooms_in lists) (Joins list count ending) = subst (λ turn. HasRoom (rooms_in lists) turn) is under_way.room.1 in
      record {
        within = omega (arith, room.0, length-map lists vec_capacity);
        room = omega (arith, room.1, counted list count ending c (frames_in lists) (turned shortest new c).after counts_here);
        number = has_number ending list count c (frames_in lists) (turned shortest new c).after messages (after_all shortest (new ∷ rest) c).complete counts_here grows_here under_way.numbers;
      }

  -- what a joined frame leaves of the lists and the messages
  pub joins_on : (others : List (Vec Frame)) (more : Vec Message) → frames_in others ≡ ended ending (frames_in lists) list new.frame → KeepsRoom ending (rooms_in lists) (rooms_in others) list →
      more.items ≡ messages.items ++ given ending (list_at (frames_in lists) list ++ new.frame ∷ []) →
      vec_len more ≡ vec_len messages + length (given ending (list_at (frames_in lists) list ++ new.frame ∷ [])) → vec_capacity more ≡ vec_capacity messages →
      IsUnderWay shortest before whole end (turned shortest new c).after others more rest
  joins_on others more frames rooms given_now len capacity =
      let t = turned shortest new c in
      let on : is_failing t.turn ≡ false = ap is_failing is in
      let joined = list_at (frames_in lists) list ++ new.frame ∷ [] in
      let s = assembly_of c (frames_in lists) in
      let next = assembly_of t.after (ended ending (frames_in lists) list new.frame) in
      let all : assembled shortest (new ∷ rest) s ≡ record { messages = given ending joined ++ (assembled shortest rest next).messages; fault = (assembled shortest rest next).fault; after = (assembled shortest rest next).after } =
      step_is shortest before whole end c lists messages new rest under_way (Joins list count ending) is ∙ after_ending shortest rest s next ending joined in
      let next_is : next ≡ assembly_of t.after (frames_in others) = ap (assembly_of t.after) (sym frames) in
      let sound : IsSound t.after (ended ending (frames_in lists) list new.frame) =
      subst (λ turn. IsSound t.after (lists_after turn (frames_in lists) new.frame)) is (sound_next shortest new rest c lists under_way.sound under_way.room) in
      let final_is = goes_on_after shortest before whole end c lists messages new rest under_way on in
      record {
        sound = subst (λ frames. IsSound t.after frames) (sym frames) sound;
        room = have_room_if_live shortest (rooms_in lists) (rooms_in others) rest t.after (_, sound) (rooms_longer ending (rooms_in lists) (rooms_in others) list rooms)
            (λ k live. rooms_wider ending count (rooms_in lists) (rooms_in others) list k c rooms (subst (λ turn. IsStillLive turn c k) is (still_live new c (frames_in lists) under_way.sound shortest k live)))
            (under_way.room.2 on);
        numbers = subst (λ (final : Control). vec_len more + (final.complete - t.after.complete) ≤ vec_capacity more) final_is
            (numbers_after ending list count c (frames_in lists) t.after messages more (after_all shortest (new ∷ rest) c).complete joined counts_here grows_here under_way.numbers len capacity);
        given_on =
            under_way.given_on
            ∙ ap (λ (a : Assembled). messages.items ++ a.messages) all
            ∙ sym (append_assoc messages.items (given ending joined) (assembled shortest rest next).messages)
            ∙ ap (λ front. front ++ (assembled shortest rest next).messages) (sym given_now)
            ∙ ap (λ state. more.items ++ (assembled shortest rest state).messages) next_is;
        fault = under_way.fault ∙ ap (λ (a : Assembled). a.fault) all ∙ ap (λ state. (assembled shortest rest state).fault) next_is;
        after = under_way.after ∙ ap (λ (a : Assembled). a.after) all ∙ ap (λ state. (assembled shortest rest state).after) next_is;
        end_is = under_way.end_is ∙ final_is;
      }
