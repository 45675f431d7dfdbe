-- Frames in two parts: the second part goes on where the first one left off.
use Rattle.std.proofs.Common.{◌≡◌, ℕ, List, [], ◌∷◌, ◌++◌, Some, None, refl, ◌∙◌, ap}
use Rattle.frame_codec.specs.declared.frames.PlacedFrame.{PlacedFrame}
use Rattle.frame_codec.specs.declared.malformed.Malformed.{Malformed}
use Rattle.message_frames.specs.declared.message.Message.{Message}
use Rattle.message_frames.specs.Assembly.{Assembly, Assembled, Step, Faulty, Goes, Gives, giving, assembled, step}

-- what comes first, and what follows it where no fault stops it
abbrev pub followed_by : Assembled → Assembled → Assembled
followed_by first more =
    elim first.fault [
      | Some fault ↦ first
      | None ↦ record { messages = first.messages ++ more.messages; fault = more.fault; after = more.after }
    ]

giving_followed : (message : Message) (first more : Assembled) → giving message (followed_by first more) ≡ followed_by (giving message first) more
giving_followed message first more =
    elim (first.fault) as (λ fault. giving message (elim fault [
      | Some f ↦ first
      | None ↦ record { messages = first.messages ++ more.messages; fault = more.fault; after = more.after }
    ]) ≡ elim fault [
      | Some f ↦ giving message first
      | None ↦ record { messages = message ∷ first.messages ++ more.messages; fault = more.fault; after = more.after }
    ]) [ Some f ↦ refl | None ↦ refl ]

-- what a step and the frames after it come to
abbrev pub after_step : ℕ → List PlacedFrame → Assembly → Step → Assembled
after_step shortest frames s t =
    elim t [
      | Faulty fault ↦ record { messages = []; fault = Some fault; after = s }
      | Goes next ↦ assembled shortest frames next
      | Gives message next ↦ giving message (assembled shortest frames next)
    ]

append_after_step : (shortest : ℕ) (xs ys : List PlacedFrame) (s : Assembly) →
    ((next : Assembly) → assembled shortest (xs ++ ys) next ≡ followed_by (assembled shortest xs next) (assembled shortest ys (assembled shortest xs next).after)) →
    (t : Step) → after_step shortest (xs ++ ys) s t ≡ followed_by (after_step shortest xs s t) (assembled shortest ys (after_step shortest xs s t).after)
append_after_step shortest xs ys s later (Faulty fault) = refl
append_after_step shortest xs ys s later (Goes next) = later next
append_after_step shortest xs ys s later (Gives message next) =
    let first = assembled shortest xs next in
    ap (giving message) (later next) ∙ giving_followed message first (assembled shortest ys first.after)

pub assembled_append : (shortest : ℕ) (xs ys : List PlacedFrame) (s : Assembly) →
    assembled shortest (xs ++ ys) s ≡ followed_by (assembled shortest xs s) (assembled shortest ys (assembled shortest xs s).after)
assembled_append shortest [] ys s = refl
assembled_append shortest (x ∷ xs) ys s = append_after_step shortest xs ys s (λ next. assembled_append shortest xs ys next) (step shortest x s)

-- without a fault in the first part
pub goes_on : (shortest : ℕ) (xs ys : List PlacedFrame) (s : Assembly) → (assembled shortest xs s).fault ≡ None →
    assembled shortest (xs ++ ys) s ≡ record {
      messages = (assembled shortest xs s).messages ++ (assembled shortest ys (assembled shortest xs s).after).messages;
      fault = (assembled shortest ys (assembled shortest xs s).after).fault;
      after = (assembled shortest ys (assembled shortest xs s).after).after;
    }
goes_on shortest xs ys s e = assembled_append shortest xs ys s ∙ rw (e, followed_by) refl

-- with a fault in the first part nothing after it counts
pub stays_failed : (shortest : ℕ) (xs ys : List PlacedFrame) (s : Assembly) (fault : Malformed) → (assembled shortest xs s).fault ≡ Some fault →
    assembled shortest (xs ++ ys) s ≡ assembled shortest xs s
stays_failed shortest xs ys s fault e = assembled_append shortest xs ys s ∙ rw (e, followed_by) refl
