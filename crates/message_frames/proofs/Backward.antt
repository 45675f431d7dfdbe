-- The way back of frames that went to their lists.
use Rattle.std.proofs.Common.{◌≡◌, ℕ, ◌+◌, ◌<◌, ◌≤◌, List, [], ◌∷◌, ◌++◌, length, get_or, set, set-set, length-set, append-nil, refl, sym, ◌∙◌, ap, subst, Option, Some, None, All, arith, vec_len, vec_capacity}
use Rattle.std.specs.Prelude.{IsSome, ◌↔◌}
use Rattle.std.specs.Option.{option_to_list}
use Rattle.std.specs.Global.{Vec}
use Rattle.std.proofs.lemmas.List.{get_or-set_same, set-get_or, length-map}
use Rattle.std.proofs.lemmas.List.Elements.{All-nil, All-cons, All-append}
use Rattle.frame_codec.specs.declared.frames.Frame.{Frame}
use Rattle.frame_codec.specs.declared.frames.PlacedFrame.{PlacedFrame}
use Rattle.message_frames.specs.Lists.{list_at, frames_in, ended, given}
use Rattle.message_frames.specs.Tracks.{last_of, without_last, Held, held_in, way_to, without_message, without_frame, taken_back, last_frame, frame_back, first_back, LeadsBelow, IsPayloadOf, IsTrackOf}
use Rattle.message_frames.specs.declared.message.Message.{Message}
use Rattle.message_frames.specs.declared.assembler.Way.{Way}
use Rattle.message_frames.specs.declared.assembler.Way.TheVariants.{Listed, Given, Apart}
use Rattle.message_frames.specs.declared.control.Ending.{Ending}
use Rattle.message_frames.specs.declared.control.Ending.TheVariants.{GoesOn, EndsFragment, EndsMessage}
use Rattle.message_frames.proofs.Rooms.{frames_in-set, frames_read}

-- the last of a list

pub last_of-append : {A : Type 0} (xs : List A) (x : A) → last_of (xs ++ x ∷ []) ≡ Some x
last_of-append [] x = refl
last_of-append (y ∷ []) x = refl
last_of-append (y ∷ z ∷ xs) x = last_of-append (z ∷ xs) x

pub without_last-append : {A : Type 0} (xs : List A) (x : A) → without_last (xs ++ x ∷ []) ≡ xs
without_last-append [] x = refl
without_last-append (y ∷ []) x = refl
without_last-append (y ∷ z ∷ xs) x = ap (λ rest. y ∷ rest) (without_last-append (z ∷ xs) x)

-- what `pop` does
pub record IsPopped {A : Type 0} (old new : List A) (result : Option A) : Type 0 where
  pub last : result ≡ last_of old
  pub others : new ≡ without_last old

pub popped : {A : Type 0} (old new : List A) (result : Option A) (n : ℕ) → n ≡ length old → old ≡ new ++ option_to_list result → (IsSome result ↔ (0 < n)) → IsPopped old new result
popped old new (Some x) n count items some = record {
  last = sym (ap last_of items ∙ last_of-append new x);
  others = sym (ap without_last items ∙ without_last-append new x);
}
popped [] [] None n count items some = record { last = refl; others = refl }
popped [] (y ∷ new) None n count items some = absurd (cc items)
popped (x ∷ old) new None n count items some = absurd (cc (some.1 (omega (arith, count))))

-- one frame back

pub record IsBack (now : Held) (way : Way) (before : Held) (frame : Option Frame) : Type 0 where
  pub held : before ≡ without_frame way now
  pub taken : frame ≡ frame_back way now

abbrev held_as : List (List Frame) → List Message → Held
held_as lists messages = record { lists = lists; given = messages }

pub listed_back : (lists : List (Vec Frame)) (messages : List Message) (k : ℕ) (old new : Vec Frame) (result : Option Frame) → k < length lists → old ≡ get_or lists k old → IsPopped old.items new.items result →
    IsBack (held_in lists messages) (Listed k) (held_in (set lists k new) messages) result
listed_back lists messages k old new result within read is =
    let there = frames_read lists k old within read in
    record {
      held = ap (λ frames. held_as frames messages)
          (frames_in-set lists k new ∙ ap (λ frames. set (frames_in lists) k frames) (is.others ∙ ap without_last (sym there)));
      taken = is.last ∙ ap last_of (sym there);
    }

pub given_back : (lists : List (Vec Frame)) (messages rest : List Message) (message : Message) (k : ℕ) (new : Vec Frame) (result : Option Frame) → IsPopped messages rest (Some message) → IsPopped message.frames new.items result →
    IsBack (held_in lists messages) (Given k) (held_in (set lists k new) rest) result
given_back lists messages rest message k new result gone is = record {
  held =
      ap (λ frames. held_as frames rest) (frames_in-set lists k new ∙ ap (λ frames. set (frames_in lists) k frames) is.others)
      ∙ ap (λ others. held_as (set (frames_in lists) k (without_last message.frames)) others) gone.others
      ∙ ap (without_message k (held_in lists messages)) gone.last;
  taken = is.last ∙ ap last_frame gone.last;
}

-- tracks with one way more

pub taken_back-append : (track : List Way) (way : Way) (h : Held) → taken_back (track ++ way ∷ []) h ≡ taken_back track (without_frame way h)
taken_back-append [] way h = refl
taken_back-append (first ∷ track) way h = ap (without_frame first) (taken_back-append track way h)

pub first_back-append : (other : Option Frame) (track : List Way) (way : Way) (h : Held) → first_back other (track ++ way ∷ []) h ≡ first_back (frame_back way h) track (without_frame way h)
first_back-append other [] way h = refl
first_back-append other (first ∷ track) way h = ap (frame_back first) (taken_back-append track way h)

-- what is left to take back
pub record IsGoingBack (whole : List Way) (start : Held) (track : List Way) (now : Held) (frame : Option Frame) : Type 0 where
  pub held : taken_back track now ≡ taken_back whole start
  pub first : first_back frame track now ≡ first_back None whole start

pub goes_back : (whole : List Way) (first : Held) (track rest : List Way) (way : Way) (now before : Held) (frame back : Option Frame) → IsGoingBack whole first track now frame → track ≡ rest ++ way ∷ [] →
    before ≡ without_frame way now → back ≡ frame_back way now → IsGoingBack whole first rest before back
goes_back whole first track rest way now before frame back going is held frame_is = record {
  held = ap (taken_back rest) held ∙ sym (taken_back-append rest way now) ∙ ap (λ ways. taken_back ways now) (sym is) ∙ going.held;
  first =
      ap (λ h. first_back back rest h) held
      ∙ ap (λ f. first_back f rest (without_frame way now)) frame_is
      ∙ sym (first_back-append frame rest way now)
      ∙ ap (λ ways. first_back frame ways now) (sym is)
      ∙ going.first;
}

-- a frame that joins a list can go back

joined_back : (lists : List (List Frame)) (k : ℕ) (frames : List Frame) (frame : Frame) → k < length lists → set (set lists k (frames ++ frame ∷ [])) k (without_last (list_at (set lists k (frames ++ frame ∷ [])) k)) ≡ set lists k frames
joined_back lists k frames frame within =
    ap (λ xs. set (set lists k (frames ++ frame ∷ [])) k xs) (ap without_last (get_or-set_same lists k (frames ++ frame ∷ []) [] within) ∙ without_last-append frames frame)
    ∙ set-set lists k (frames ++ frame ∷ []) frames

joined_there : (lists : List (List Frame)) (k : ℕ) (frames : List Frame) (frame : Frame) → k < length lists → last_of (list_at (set lists k (frames ++ frame ∷ [])) k) ≡ Some frame
joined_there lists k frames frame within = ap last_of (get_or-set_same lists k (frames ++ frame ∷ []) [] within) ∙ last_of-append frames frame

-- A frame has a payload.
abbrev pub HasPayload : Option Frame → List ℕ → Type 0
HasPayload None payload = ⊥
HasPayload (Some frame) payload = frame.payload ≡ payload

pub record CanGoBack (before : Held) (frame : Frame) (way : Way) (now : Held) : Type 0 where
  pub held : without_frame way now ≡ before
  pub payload : HasPayload (frame_back way now) frame.payload

abbrev joined_held : Ending → List (List Frame) → List Message → ℕ → Frame → Held
joined_held ending lists messages k frame = held_as (ended ending lists k frame) (messages ++ given ending (list_at lists k ++ frame ∷ []))

joined_at : (ending : Ending) (lists : List (List Frame)) (messages : List Message) (k : ℕ) (frame : Frame) → k < length lists → CanGoBack (held_as lists messages) frame (way_to k ending) (joined_held ending lists messages k frame)
joined_at GoesOn lists messages k frame within = record {
  held =
      ap (λ xs. held_as xs (messages ++ [])) (joined_back lists k (list_at lists k) frame within ∙ set-get_or lists k [])
      ∙ ap (held_as lists) (append-nil messages);
  payload = subst (λ f. HasPayload f frame.payload) (sym (joined_there lists k (list_at lists k) frame within)) refl;
}
joined_at EndsFragment lists messages k frame within = record {
  held =
      ap (λ xs. held_as xs (messages ++ [])) (joined_back lists k (list_at lists k) _ within ∙ set-get_or lists k [])
      ∙ ap (held_as lists) (append-nil messages);
  payload = subst (λ f. HasPayload f frame.payload) (sym (joined_there lists k (list_at lists k) _ within)) refl;
}
joined_at EndsMessage lists messages k frame within =
    let message : Message = record { frames = list_at lists k ++ frame ∷ [] } in
    let there : last_of (messages ++ message ∷ []) ≡ Some message = last_of-append messages message in
    record {
      held =
          ap (without_message k (held_as (set lists k []) (messages ++ message ∷ []))) there
          ∙ ap (λ others. held_as (set (set lists k []) k (without_last message.frames)) others) (without_last-append messages message)
          ∙ ap (λ xs. held_as xs messages) (set-set lists k [] (without_last message.frames) ∙ ap (set lists k) (without_last-append (list_at lists k) frame) ∙ set-get_or lists k []);
      payload = subst (λ f. HasPayload f frame.payload) (sym (ap last_frame there ∙ last_of-append (list_at lists k) frame)) refl;
    }

pub joined : (ending : Ending) (lists others : List (Vec Frame)) (messages more : List Message) (k : ℕ) (frame : Frame) → k < length lists → frames_in others ≡ ended ending (frames_in lists) k frame →
    more ≡ messages ++ given ending (list_at (frames_in lists) k ++ frame ∷ []) → CanGoBack (held_in lists messages) frame (way_to k ending) (held_in others more)
joined ending lists others messages more k frame within frames given_now =
    let is : joined_held ending (frames_in lists) messages k frame ≡ held_in others more =
    ap (λ xs. held_as xs (messages ++ given ending (list_at (frames_in lists) k ++ frame ∷ []))) (sym frames) ∙ ap (held_as (frames_in others)) (sym given_now) in
    subst (CanGoBack (held_in lists messages) frame (way_to k ending)) is
    (joined_at ending (frames_in lists) messages k frame (omega (arith, within, length-map lists (λ (v : Vec Frame). v.items))))

ended_count : (ending : Ending) (lists : List (List Frame)) (k : ℕ) (frame : Frame) → length (ended ending lists k frame) ≡ length lists
ended_count GoesOn lists k frame = length-set lists k _
ended_count EndsFragment lists k frame = length-set lists k _
ended_count EndsMessage lists k frame = length-set lists k _

pub joined_count : (ending : Ending) (lists others : List (Vec Frame)) (k : ℕ) (frame : Frame) → frames_in others ≡ ended ending (frames_in lists) k frame → length others ≡ length lists
joined_count ending lists others k frame frames =
    omega (arith, ap length frames, ended_count ending (frames_in lists) k frame, length-map lists (λ (v : Vec Frame). v.items), length-map others (λ (v : Vec Frame). v.items))

pub apart : (h : Held) (frame : Frame) → CanGoBack h frame (Apart frame) h
apart h frame = record { held = refl; payload = refl }

pub way_below : (count list : ℕ) (ending : Ending) → list < count → LeadsBelow count (way_to list ending)
way_below count list GoesOn below = below
way_below count list EndsFragment below = below
way_below count list EndsMessage below = below

-- The track of frames so far.

-- Before a frame went nothing was taken of them. Then the first one can be seen.
abbrev pub IsFirst : List Way → List PlacedFrame → List PlacedFrame → Held → Type 0
IsFirst [] frames rest h = rest ≡ frames
IsFirst (way ∷ track) frames rest h = IsPayloadOf (first_back None (way ∷ track) h) frames

pub record IsTracked (frames rest : List PlacedFrame) (before : Held) (least : ℕ) (now : Held) (lists : ℕ) (track : Vec Way) : Type 0 where
  pub back : taken_back track.items now ≡ before
  pub first : IsFirst track.items frames rest now
  pub below : All (LeadsBelow lists) track.items
  pub count : lists ≡ least
  pub room : vec_len track + length rest ≤ vec_capacity track

payload_first : (frame : Option Frame) (new : PlacedFrame) (rest : List PlacedFrame) → HasPayload frame new.frame.payload → IsPayloadOf frame (new ∷ rest)
payload_first None new rest has = has
payload_first (Some frame) new rest has = has

first_more : (track : List Way) (frames rest : List PlacedFrame) (new : PlacedFrame) (old now : Held) (way : Way) → IsFirst track frames (new ∷ rest) old → CanGoBack old new.frame way now → IsFirst (track ++ way ∷ []) frames rest now
first_more [] frames rest new old now way is can = subst (IsPayloadOf (frame_back way now)) is (payload_first (frame_back way now) new rest can.payload)
first_more (first ∷ track) frames rest new old now way is can =
    subst (λ frame. IsPayloadOf frame frames) (ap (frame_back first) (ap (taken_back track) (sym can.held) ∙ sym (taken_back-append track way now))) is

pub tracked_more : (frames rest : List PlacedFrame) (new : PlacedFrame) (before : Held) (count : ℕ) (old now : Held) (lists others : ℕ) (track more : Vec Way) (way : Way) → IsTracked frames (new ∷ rest) before count old lists track →
    CanGoBack old new.frame way now → others ≡ lists → LeadsBelow others way → more.items ≡ track.items ++ way ∷ [] → vec_len more ≡ vec_len track + 1 → vec_capacity more ≡ vec_capacity track →
    IsTracked frames rest before count now others more
tracked_more frames rest new before count old now lists others track more way is can same below items len capacity = record {
  back =
      ap (λ ways. taken_back ways now) items ∙ taken_back-append track.items way now ∙ ap (taken_back track.items) can.held ∙ is.back;
  first = subst (λ ways. IsFirst ways frames rest now) (sym items) (first_more track.items frames rest new old now way is.first can);
  below = subst (All (LeadsBelow others)) (sym items)
      (All-append (LeadsBelow others) track.items (way ∷ []) (subst (λ n. All (LeadsBelow n) track.items) (sym same) is.below) (All-cons (LeadsBelow others) way [] below (All-nil (LeadsBelow others))));
  count = same ∙ is.count;
  room = omega (arith, is.room, len, capacity);
}

first_seen : (track : List Way) (frames : List PlacedFrame) (now : Held) → IsFirst track frames [] now → IsPayloadOf (first_back None track now) frames
first_seen [] frames now none = subst (IsPayloadOf None) none refl
first_seen (way ∷ track) frames now is = is

first_shown : (track : List Way) (way : Way) (frames rest : List PlacedFrame) (now : Held) → IsFirst (track ++ way ∷ []) frames rest now → IsPayloadOf (first_back None (track ++ way ∷ []) now) frames
first_shown [] way frames rest now is = is
first_shown (first ∷ track) way frames rest now is = is

-- All frames are taken.
pub tracked_all : (frames : List PlacedFrame) (first now : List (Vec Frame)) (before after : List Message) (track : Vec Way) → IsTracked frames [] (held_in first before) (length first) (held_in now after) (length now) track →
    IsTrackOf frames first before now after track.items
tracked_all frames first now before after track is = record {
  back = is.back;
  first = first_seen track.items frames (held_in now after) is.first;
  below = is.below;
  count = is.count;
}

-- One failed, and those behind it aren't taken.
pub tracked_to_fault : (frames rest : List PlacedFrame) (first now : List (Vec Frame)) (before after : List Message) (track : Vec Way) (earlier : List Way) (way : Way) → track.items ≡ earlier ++ way ∷ [] →
    IsTracked frames rest (held_in first before) (length first) (held_in now after) (length now) track → IsTrackOf frames first before now after track.items
tracked_to_fault frames rest first now before after track earlier way items is = record {
  back = is.back;
  first = subst (λ ways. IsPayloadOf (first_back None ways (held_in now after)) frames) (sym items)
      (first_shown earlier way frames rest (held_in now after) (subst (λ ways. IsFirst ways frames rest (held_in now after)) items is.first));
  below = is.below;
  count = is.count;
}
