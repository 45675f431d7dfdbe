-- What a reader shows of a fault is the first one of the text that it stands for, and its prefix is that of the text.
use Rattle.std.proofs.Common.{◌≡◌, ℕ, Bool, true, false, List, [], length, Option, Some, None, Result, Ok, Err, OnOk, refl, sym, ◌∙◌, ap}
use Rattle.std.specs.Global.{Box}
use Rattle.frame_codec.specs.declared.malformed.Malformed.{Malformed}
use Rattle.frame_codec.specs.Reading.{reading}
use Rattle.frame_codec.specs.FrameReaders.{InProgress, standing as frames_standing}
use Rattle.message_frames.specs.Assembly.{Assembly, nothing_yet}
use Rattle.message_frames.specs.Messages.{prefix_of, fault_of, heard}
use Rattle.message_frames.specs.Assemblers.{state_of}
use Rattle.message_frames.specs.Streams.{heard_in, RestsIn}
use Rattle.message_frames.specs.declared.stream.MarkedStream.{MarkedStream}
use Rattle.message_frames.specs.MessageReaders.{Hearing, Live, Failed, hearing, live, standing, shown_fault, StandsFor}

shown_of : (prefix : Bool) (text : List ℕ) (fault : Option Malformed) → shown_fault (elim fault [ None ↦ live prefix text | Some f ↦ Failed prefix f ]) ≡ fault
shown_of prefix text None = refl
shown_of prefix text (Some fault) = refl

pub shown_fault-standing : (prefix : Bool) (text : List ℕ) → shown_fault (standing prefix text) ≡ fault_of prefix text
unfolding standing
shown_fault-standing prefix text = shown_of prefix text (fault_of prefix text)

pub no_fault_at_first : (prefix : Bool) → fault_of prefix [] ≡ None
unfolding heard reading
no_fault_at_first true = refl
no_fault_at_first false = refl

-- a reader at first
pub standing_first : (prefix : Bool) → standing prefix [] ≡ Live prefix 0 (frames_standing (length (prefix_of prefix)) []) nothing_yet
unfolding standing heard reading
standing_first true = refl
standing_first false = refl

pub shown_fault-hearing : (fault : Option Malformed) (prefix : Bool) (begun : ℕ) (frame : InProgress) (assembly : Assembly) → shown_fault (hearing fault prefix begun frame assembly) ≡ fault
shown_fault-hearing None prefix begun frame assembly = refl
shown_fault-hearing (Some fault) prefix begun frame assembly = refl

-- the prefix of a reader's stream

abbrev prefix_in : Hearing → Bool
prefix_in (Live prefix begun frame assembly) = prefix
prefix_in (Failed prefix fault) = prefix

prefix_of_either : (prefix : Bool) (text : List ℕ) (fault : Option Malformed) → prefix_in (elim fault [ None ↦ live prefix text | Some f ↦ Failed prefix f ]) ≡ prefix
prefix_of_either prefix text None = refl
prefix_of_either prefix text (Some fault) = refl

prefix_in-standing : (prefix : Bool) (text : List ℕ) → prefix_in (standing prefix text) ≡ prefix
unfolding standing
prefix_in-standing prefix text = prefix_of_either prefix text (fault_of prefix text)

prefix_in-hearing : (fault : Option Malformed) (prefix : Bool) (begun : ℕ) (frame : InProgress) (assembly : Assembly) → prefix_in (hearing fault prefix begun frame assembly) ≡ prefix
prefix_in-hearing None prefix begun frame assembly = refl
prefix_in-hearing (Some fault) prefix begun frame assembly = refl

-- A reader's own prefix is that of each text that it stands for.
pub own_prefix : (own : Bool) (heard : Option (Box MarkedStream)) → RestsIn own heard → (prefix : Bool) (text : List ℕ) → StandsFor (heard_in own heard) prefix text → own ≡ prefix
own_prefix own None rests prefix text stands = sym (prefix_in-standing own []) ∙ ap prefix_in stands ∙ prefix_in-standing prefix text
own_prefix own (Some heard) rests prefix text stands =
    let s = heard.value.stream in
    sym rests.1 ∙ sym (prefix_in-hearing s.fault s.prefix s.begun s.frames (state_of s.assembler)) ∙ ap prefix_in stands ∙ prefix_in-standing prefix text

pub on_ok_always : {A E : Type 0} {P : Type 0} (result : Result A E) → P → OnOk result P
on_ok_always (Ok value) p = p
on_ok_always (Err error) p = tt
