-- What was taken leads back to the state before it.
use Rattle.std.proofs.Common.{◌≡◌, ℕ, ◌==◌, true, ◌≤◌, List, [], ◌∷◌, ◌++◌, length, append-nil, refl, sym, ◌∙◌, ap, subst, Option, Some, None, All, arith, vec_len}
use Rattle.std.proofs.lemmas.Bool.{eqb-true}
use Rattle.std.proofs.lemmas.List.Elements.{All-nil}
use Rattle.frame_codec.specs.FrameReaders.{InProgress, in_progress, frames_of, StandsFor as FramesStandFor}
use Rattle.frame_codec.specs.Marks.{bytes_at, IsMarkOf, first_frame, back_at}
use Rattle.frame_codec.specs.declared.frames.Frame.{Frame}
use Rattle.frame_codec.specs.declared.frames.PlacedFrame.{PlacedFrame}
use Rattle.frame_codec.specs.declared.marks.FrameMark.{FrameMark}
use Rattle.frame_codec.proofs.GoingBack.{back}
use Rattle.message_frames.specs.Lists.{assembly_of, IsSound, frames_in}
use Rattle.message_frames.specs.Assemblers.{state_of, IsSoundAssembler}
use Rattle.message_frames.specs.Messages.{prefix_of}
use Rattle.message_frames.specs.MessageReaders.{hearing, standing}
use Rattle.message_frames.specs.Streams.{heard_by, IsAtRest, IsMarkOfStream, held_after, lists_before, frame_before, heard_before, LeadsBack, GoesBack}
use Rattle.message_frames.specs.declared.stream.Stream.{Stream}
use Rattle.message_frames.specs.declared.stream.StreamMark.{StreamMark}
use Rattle.message_frames.specs.Tracks.{Held, held_in, taken_back, first_back, LeadsBelow, IsPayloadOf}
use Rattle.message_frames.specs.declared.assembler.Assembler.{Assembler}
use Rattle.message_frames.specs.declared.assembler.Taken.{Taken}
use Rattle.message_frames.specs.declared.control.Control.{Control}

-- no frames, by a test of their number
pub none_there : {A : Type 0} (xs : List A) (n : ℕ) → n ≡ length xs → (n == 0) ≡ true → xs ≡ []
none_there [] n count test = refl
none_there (x ∷ xs) n count test = absurd (omega (arith, count, eqb-true n 0 test))

-- Only the payload of the first frame counts.
back_same : (mark : FrameMark) (first : Option Frame) (frames : List PlacedFrame) (reader : InProgress) → IsPayloadOf first frames → back_at mark first reader ≡ back_at mark (first_frame frames) reader
back_same mark first [] reader none = ap (λ f. back_at mark f reader) none
back_same mark None (frame ∷ frames) reader never = absurd never
back_same mark (Some first) (frame ∷ frames) reader same = ap (λ payload. in_progress mark.at (bytes_at mark.partial payload)) same

-- A reader of frames that took a piece goes back over it.
pub frames_back : (mark : FrameMark) (old new : InProgress) (at : ℕ) (text piece : List ℕ) (first : Option Frame) (frames : List PlacedFrame) → FramesStandFor old at text → IsMarkOf mark old →
    FramesStandFor new at (text ++ piece) → frames_of at text ++ frames ≡ frames_of at (text ++ piece) → IsPayloadOf first frames → back_at mark first new ≡ old
frames_back mark old new at text piece first frames stands marked fed given seen =
    back_same mark first frames new seen
    ∙ back mark new frames at text piece (record { marked = subst (IsMarkOf mark) stands marked; fed = fed; given = given })
    ∙ sym stands

-- One that took none is where it was.
pub unmoved : (mark : FrameMark) (reader : InProgress) (at : ℕ) (text : List ℕ) → FramesStandFor reader at text → IsMarkOf mark reader → back_at mark None reader ≡ reader
unmoved mark reader at text stands marked =
    frames_back mark reader reader at text [] None [] stands marked
    (subst (FramesStandFor reader at) (sym (append-nil text)) stands)
    (append-nil (frames_of at text) ∙ ap (frames_of at) (sym (append-nil text))) refl

-- Where no frame came the assembler is as it was.
pub nothing_leads_back : (old new : InProgress) (assembler : Assembler) (taken : Taken) → IsSoundAssembler assembler → taken.track.items ≡ [] →
    ((mark : FrameMark) (at : ℕ) (text : List ℕ) → FramesStandFor old at text → IsMarkOf mark old → back_at mark None new ≡ old) → LeadsBack old assembler new assembler taken
nothing_leads_back old new assembler taken sound none frames =
    let lists : taken_back taken.track.items (held_after assembler taken) ≡ held_after assembler taken = ap (λ ways. taken_back ways (held_after assembler taken)) none in
    record {
      frames = λ mark at text stands marked. ap (λ ways. back_at mark (first_back None ways (held_after assembler taken)) new) none ∙ frames mark at text stands marked;
      state = ap (λ (h : Held). assembly_of assembler.control h.lists) lists;
      sound = subst (λ (h : Held). IsSound assembler.control h.lists) (sym lists) sound.control;
      count = sound.count;
      below = subst (All (LeadsBelow (vec_len assembler.lists))) (sym none) (All-nil (LeadsBelow (vec_len assembler.lists)));
    }

-- Frames for which there was room go back from where they went.
pub taken_leads_back : (old new : InProgress) (before prepared after : Assembler) (taken : Taken) (piece : List ℕ) (frames : List PlacedFrame) →
    prepared.control ≡ before.control → state_of prepared ≡ state_of before → IsSoundAssembler prepared →
    taken_back taken.track.items (held_after after taken) ≡ held_in prepared.lists.items [] → IsPayloadOf (first_back None taken.track.items (held_after after taken)) frames →
    All (LeadsBelow (vec_len after.lists)) taken.track.items → vec_len after.lists ≡ vec_len prepared.lists →
    ((at : ℕ) (text : List ℕ) → FramesStandFor old at text → FramesStandFor new at (text ++ piece)) →
    ((at : ℕ) (text : List ℕ) → FramesStandFor old at text → frames_of at text ++ frames ≡ frames_of at (text ++ piece)) →
    LeadsBack old before new after taken
taken_leads_back old new before prepared after taken piece frames control state sound lists seen below count stands given = record {
  frames = λ mark at text was marked. frames_back mark old new at text piece (first_back None taken.track.items (held_after after taken)) frames was marked (stands at text was) (given at text was) seen;
  state =
      ap (λ (h : Held). assembly_of before.control h.lists) lists
      ∙ ap (λ (c : Control). assembly_of c (frames_in prepared.lists.items)) (sym control)
      ∙ state;
  sound = subst (λ (h : Held). IsSound before.control h.lists) (sym lists) (subst (λ (c : Control). IsSound c (frames_in prepared.lists.items)) control sound.control);
  count = omega (arith, sound.count, ap (λ (c : Control). c.lists) control, count);
  below = below;
}

-- So the mark of a state and what was taken since lead back to it.
module _ (old new : Stream) (mark : StreamMark) (taken : Taken) (rest : IsAtRest old) (marked : IsMarkOfStream mark old) (stands : FramesStandFor old.frames old.frames.at old.frames.bytes) (same : new.prefix ≡ old.prefix)
    (leads : LeadsBack old.frames old.assembler new.frames new.assembler taken) where
  pub heard_again : heard_before new mark taken ≡ heard_by old
  heard_again =
      let lists = (lists_before new.assembler taken).lists in
      let frame = frame_before new.frames new.assembler mark.frames taken in
      ap (λ fault. hearing fault new.prefix mark.begun frame (assembly_of mark.control lists)) marked.fault
      ∙ ap (λ prefix. hearing old.fault prefix mark.begun frame (assembly_of mark.control lists)) same
      ∙ ap (λ begun. hearing old.fault old.prefix begun frame (assembly_of mark.control lists)) marked.begun
      ∙ ap (λ f. hearing old.fault old.prefix old.begun f (assembly_of mark.control lists)) (leads.frames mark.frames old.frames.at old.frames.bytes stands marked.frames)
      ∙ ap (λ (c : Control). hearing old.fault old.prefix old.begun old.frames (assembly_of c lists)) marked.control
      ∙ ap (hearing old.fault old.prefix old.begun old.frames) leads.state

  pub goes_back : GoesBack new mark taken
  goes_back =
      let lists : mark.control.lists ≡ old.assembler.control.lists = ap (λ (c : Control). c.lists) marked.control in
      record {
        sound = subst (λ (c : Control). IsSound c (lists_before new.assembler taken).lists) (sym marked.control) leads.sound;
        count = omega (arith, lists, leads.count);
        few = omega (arith, lists, rest.hearing.sound.count, rest.few);
        below = leads.below;
        within = subst (λ prefix. mark.begun ≤ length (prefix_of prefix)) (sym same) (omega (arith, marked.begun, rest.hearing.within));
        text = rest.hearing.text;
        stands = heard_again ∙ rest.hearing.stands ∙ ap (λ prefix. standing prefix rest.hearing.text) (sym same);
      }
