-- What more bytes leave of what was heard before them.
use Rattle.std.proofs.Common.{◌≡◌, ℕ, ◌+◌, ◌-◌, length, Bool, List, [], ◌++◌, Option, Some, None, refl, sym, ◌∙◌, ap, append_assoc, append-nil}
use Rattle.frame_codec.specs.Laws.{read_on}
use Rattle.frame_codec.specs.Reading.{Reading, reading}
use Rattle.frame_codec.specs.declared.malformed.Malformed.{Malformed}
use Rattle.message_frames.specs.declared.message.Message.{Message}
use Rattle.message_frames.specs.Assembly.{Assembled, nothing_yet, assembled}
use Rattle.message_frames.specs.Messages.{prefix_of, shortest_start, Heard, heard, heard_of_frames, or_else, messages_of}
use Rattle.message_frames.specs.Laws.{a_fault_stays, messages_stay}
use Rattle.message_frames.proofs.Composition.{goes_on, stays_failed}
use Rattle.message_frames.proofs.FrameLaws.{on, ends}
use Rattle.message_frames.proofs.Prefixes.{Begins, Differs, Shorter, Follows, begins, behind, heard_behind, heard_of_other, heard_of_less}

abbrev pub heard_at : ℕ → ℕ → List ℕ → Heard
heard_at shortest at bytes = heard_of_frames shortest (reading at bytes)

-- the messages of a front are a front
abbrev pub GoesOn : List Message → List Message → Type 0
GoesOn front whole = (later : List Message) × (whole ≡ front ++ later)

-- More bytes add messages, and none after a fault.
record Grows (before after : Heard) : Type 0 where
  messages : GoesOn before.messages after.messages
  failed : (fault : Malformed) → before.fault ≡ Some fault → after ≡ before

same_grows : (before after : Heard) → after ≡ before → Grows before after
same_grows before after e = record { messages = ([], ap (λ (h : Heard). h.messages) e ∙ sym (append-nil before.messages)); failed = λ fault some. e }

read_on_grows : (shortest : ℕ) (r later : Reading) → r.fault ≡ None → Grows (heard_of_frames shortest r) (heard_of_frames shortest (read_on r later))
read_on_grows shortest r later sound = go a.fault refl
  where
    a : Assembled
    a = assembled shortest r.frames nothing_yet

    Goal : Type 0
    Goal = Grows (heard_of_frames shortest r) (heard_of_frames shortest (read_on r later))

    go : (fault : Option Malformed) → (assembled shortest r.frames nothing_yet).fault ≡ fault → Grows (heard_of_frames shortest r) (heard_of_frames shortest (read_on r later))
    go None e =
        let whole = goes_on shortest r.frames later.frames nothing_yet e in
        record {
          messages = ((assembled shortest later.frames a.after).messages, ap (λ (w : Assembled). w.messages) whole);
          failed = λ fault some. let clash : None ≡ Some fault = sym sound ∙ sym (ap (λ f. or_else f r.fault) e) ∙ some in absurd (cc);
        }
    go (Some fault) e =
        same_grows _ _ (
        ap (λ (w : Assembled). record { messages = w.messages; fault = or_else w.fault later.fault }) (stays_failed shortest r.frames later.frames nothing_yet fault e)
        ∙ ap (λ f. record { messages = a.messages; fault = f }) (ap (λ f. or_else f later.fault) e ∙ sym (ap (λ f. or_else f r.fault) e)))

grows_at : (shortest at : ℕ) (bytes more : List ℕ) → Grows (heard_at shortest at bytes) (heard_at shortest at (bytes ++ more))
grows_at shortest at bytes more = go (reading at bytes).fault refl
  where
    go : (fault : Option Malformed) → (reading at bytes).fault ≡ fault → Grows (heard_at shortest at bytes) (heard_at shortest at (bytes ++ more))
    go None e = rw (on at bytes more e) (read_on_grows shortest (reading at bytes) (reading (at + (length bytes - length (reading at bytes).rest)) ((reading at bytes).rest ++ more)) e)
    go (Some fault) e = same_grows _ _ (ap (heard_of_frames shortest) (ends at bytes more fault e))

grows : (prefix : Bool) (text more : List ℕ) → Grows (heard prefix text) (heard prefix (text ++ more))
grows prefix text more = go (begins 0 (prefix_of prefix) text)
  where
    go : Begins 0 (prefix_of prefix) text → Grows (heard prefix text) (heard prefix (text ++ more))
    go (Differs place differs apart) =
        same_grows _ _ (heard_of_other prefix (text ++ more) place (differs more) ∙ sym (heard_of_other prefix text place (rw append-nil at (differs []))))
    go (Shorter agrees short apart) =
        rw (heard_of_less prefix text agrees short) (record { messages = (messages_of prefix (text ++ more), refl); failed = λ fault some. absurd (cc) })
    go (Follows bytes e) =
        rw (e, append_assoc, heard_behind prefix bytes, heard_behind prefix (bytes ++ more)) (grows_at (shortest_start prefix) (behind prefix) bytes more)

pub faults_stay : a_fault_stays
faults_stay prefix text more fault e = (grows prefix text more).failed fault e

pub heard_messages_stay : messages_stay
heard_messages_stay prefix text more = (grows prefix text more).messages
