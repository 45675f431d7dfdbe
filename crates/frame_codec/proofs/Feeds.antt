-- A reader that takes more bytes.
use Rattle.std.proofs.Common.{◌≡◌, ℕ, ◌+◌, ◌-◌, Option, is_some, true, List, [], ◌++◌, length, take, drop, None, Some, refl, sym, ◌∙◌, ap, arith, length-append, subst}
use Rattle.std.proofs.lemmas.List.{take_all, take-append-le, append-nil, append_assoc, take-append-drop}
use Rattle.std.proofs.Math.Seq.{take-add}
use Rattle.frame_codec.specs.Reading.{Reading, reading}
use Rattle.frame_codec.specs.Laws.{read_on}
use Rattle.frame_codec.specs.FrameReaders.{InProgress, frames_of, kept, standing, StandsFor}
use Rattle.frame_codec.specs.Feeding.{HasGiven, Takes}
use Rattle.frame_codec.specs.declared.frames.PlacedFrame.{PlacedFrame}
use Rattle.frame_codec.specs.declared.malformed.Malformed.{Malformed}
use Rattle.frame_codec.proofs.GoingOn.{goes_on_by, reading-append, rest_within}
use Rattle.frame_codec.proofs.Standing.{standing_of, standing-is}
use Rattle.frame_codec.proofs.Rests.{fault_has_four}

-- a text and more bytes: what stands for both, and which frames they have
pub record GoesOn (at : ℕ) (text more : List ℕ) (after : InProgress) (frames : List PlacedFrame) : Type 0 where
  pub stands : standing at (text ++ more) ≡ after
  pub frames_are : frames_of at (text ++ more) ≡ frames_of at text ++ frames

-- Without a fault it's as if the reader had begun at the frame in progress.
pub goes_on : (at : ℕ) (text more : List ℕ) → (standing at text).fault ≡ None →
    let s = standing at text in GoesOn at text more (standing s.at (s.bytes ++ more)) (frames_of s.at (s.bytes ++ more))
goes_on at text more sound =
    let r = reading at text in
    let clear : r.fault ≡ None = ap (λ (s : InProgress). s.fault) (sym (standing-is at text)) ∙ sound in
    let place : ℕ = at + (length text - length r.rest) in
    let here : standing at text ≡ record { at = at + (length text - length r.rest); bytes = r.rest; fault = None } =
    standing-is at text ∙ ap (λ (f : Option Malformed). let x : InProgress = record { at = at + (length text - length r.rest); bytes = kept f r.rest; fault = f } in x) clear in
    let next = reading (at + (length text - length r.rest)) (r.rest ++ more) in
    let joined : reading at (text ++ more) ≡ read_on r next =
    reading-append at text more ∙ ap (λ (f : Option Malformed). goes_on_by f r at (length text) more) clear in
    let same : at + (length (text ++ more) - length next.rest) ≡ at + (length text - length r.rest) + (length (r.rest ++ more) - length next.rest) =
    omega (arith, length-append text more, length-append r.rest more, rest_within at text, rest_within (at + (length text - length r.rest)) (r.rest ++ more)) in
    rw here
    (record {
      stands =
          standing-is at (text ++ more)
          ∙ ap (standing_of at (length (text ++ more))) joined
          ∙ ap (λ (p : ℕ). let x : InProgress = record { at = p; bytes = kept next.fault next.rest; fault = next.fault } in x) same
          ∙ sym (standing-is (at + (length text - length r.rest)) (r.rest ++ more));
      frames_are = ap (λ (x : Reading). x.frames) joined;
    })

-- After a fault nothing changes.
pub goes_nowhere : (at : ℕ) (text more : List ℕ) (fault : Malformed) → (standing at text).fault ≡ Some fault → GoesOn at text more (standing at text) []
goes_nowhere at text more fault faulty =
    let r = reading at text in
    let shown : r.fault ≡ Some fault = ap (λ (s : InProgress). s.fault) (sym (standing-is at text)) ∙ faulty in
    let stays : reading at (text ++ more) ≡ record r { rest = r.rest ++ more } =
    reading-append at text more ∙ ap (λ (f : Option Malformed). goes_on_by f r at (length text) more) shown in
    let same : at + (length (text ++ more) - length (r.rest ++ more)) ≡ at + (length text - length r.rest) =
    omega (arith, length-append text more, length-append r.rest more, rest_within at text) in
    let four : take 4 (r.rest ++ more) ≡ take 4 r.rest = take-append-le 4 r.rest more (fault_has_four at text fault shown) in
    let keeps : kept r.fault (r.rest ++ more) ≡ kept r.fault r.rest =
    ap (λ (f : Option Malformed). kept f (r.rest ++ more)) shown ∙ four ∙ ap (λ (f : Option Malformed). kept f r.rest) (sym shown) in
    record {
      stands =
          standing-is at (text ++ more)
          ∙ ap (standing_of at (length (text ++ more))) stays
          ∙ ap (λ (p : ℕ). let x : InProgress = record { at = p; bytes = kept r.fault (r.rest ++ more); fault = r.fault } in x) same
          ∙ ap (λ (xs : List ℕ). let x : InProgress = record { at = at + (length text - length r.rest); bytes = xs; fault = r.fault } in x) keeps
          ∙ sym (standing-is at text);
      frames_are = ap (λ (x : Reading). x.frames) stays ∙ sym (append-nil r.frames);
    }

-- A reader without a fault took so many bytes of a piece, and gave these frames.
pub takes : (old : InProgress) (given : List PlacedFrame) (now : InProgress) (more : List PlacedFrame) (piece : List ℕ) (n : ℕ) → old.fault ≡ None →
    standing old.at (old.bytes ++ take n piece) ≡ now → frames_of old.at (old.bytes ++ take n piece) ≡ more → Takes old given now (given ++ more) piece n
takes old given now more piece n sound stands frames = λ earlier at text h.
    let here : standing at text ≡ old = sym h.stands in
    let on = goes_on at text (take n piece) (ap (λ (s : InProgress). s.fault) here ∙ sound) in
    let s = standing at text in
    record {
      stands = sym (on.stands ∙ ap (λ (s : InProgress). standing s.at (s.bytes ++ take n piece)) here ∙ stands);
      given =
          sym (append_assoc earlier given more)
          ∙ ap (λ (fs : List PlacedFrame). fs ++ more) h.given
          ∙ ap (λ (fs : List PlacedFrame). frames_of at text ++ fs) (sym (ap (λ (s : InProgress). frames_of s.at (s.bytes ++ take n piece)) here ∙ frames))
          ∙ sym on.frames_are;
    }

-- One part after another.
pub takes_more : (old : InProgress) (given : List PlacedFrame) (mid : InProgress) (between : List PlacedFrame) (now : InProgress) (all : List PlacedFrame) (piece : List ℕ) (n m : ℕ) →
    Takes old given mid between piece n → Takes mid between now all (drop n piece) m → Takes old given now all piece (n + m)
takes_more old given mid between now all piece n m first then_ = λ earlier at text h.
    let joined : (text ++ take n piece) ++ take m (drop n piece) ≡ text ++ take (n + m) piece =
    append_assoc text (take n piece) (take m (drop n piece)) ∙ ap (λ (xs : List ℕ). text ++ xs) (sym (take-add n m piece)) in
    subst (λ (xs : List ℕ). HasGiven earlier now all at xs) joined (then_ earlier at (text ++ take n piece) (first earlier at text h))

-- After a fault the rest of the piece adds nothing.
pub takes_all : (old : InProgress) (given : List PlacedFrame) (now : InProgress) (all : List PlacedFrame) (piece : List ℕ) (n : ℕ) (fault : Malformed) →
    Takes old given now all piece n → now.fault ≡ Some fault → Takes old given now all piece (length piece)
takes_all old given now all piece n fault some faulty = λ earlier at text h.
    let before = some earlier at text h in
    let here : standing at (text ++ take n piece) ≡ now = sym before.stands in
    let after = goes_nowhere at (text ++ take n piece) (drop n piece) fault (ap (λ (s : InProgress). s.fault) here ∙ faulty) in
    let joined : (text ++ take n piece) ++ drop n piece ≡ text ++ take (length piece) piece =
    append_assoc text (take n piece) (drop n piece) ∙ ap (λ (xs : List ℕ). text ++ xs) (take-append-drop n piece ∙ sym (take_all (length piece) piece (omega arith))) in
    subst (λ (xs : List ℕ). HasGiven earlier now all at xs) joined
    (record {
      stands = sym (after.stands ∙ here);
      given = before.given ∙ sym (append-nil (frames_of at (text ++ take n piece))) ∙ sym after.frames_are;
    })

-- Where all of the piece was taken, or a fault has shown, the whole piece adds no more.
pub takes_all_faulty : (old : InProgress) (given : List PlacedFrame) (now : InProgress) (all : List PlacedFrame) (piece : List ℕ) (n : ℕ) →
    Takes old given now all piece n → is_some now.fault ≡ true → Takes old given now all piece (length piece)
takes_all_faulty old given now all piece n some faulty = by_case now.fault refl
  where
    by_case : (fault : Option Malformed) → now.fault ≡ fault → Takes old given now all piece (length piece)
    by_case None e = absurd (cc (faulty, ap (λ (f : Option Malformed). is_some f) e))
    by_case (Some fault) e = takes_all old given now all piece n fault some e

-- From the start of a feed all that is given is new.
pub from_none : (old : InProgress) (given : List PlacedFrame) (now : InProgress) (all : List PlacedFrame) (piece : List ℕ) (n : ℕ) → given ≡ [] →
    Takes old given now all piece n → (at : ℕ) (text : List ℕ) → StandsFor old at text → HasGiven (frames_of at text) now all at (text ++ take n piece)
from_none old given now all piece n none some at text h =
    some (frames_of at text) at text (record { stands = h; given = ap (λ (fs : List PlacedFrame). frames_of at text ++ fs) none ∙ append-nil (frames_of at text) })

pub from_none_all : (old : InProgress) (given : List PlacedFrame) (now : InProgress) (all : List PlacedFrame) (piece : List ℕ) → given ≡ [] →
    Takes old given now all piece (length piece) → (at : ℕ) (text : List ℕ) → StandsFor old at text → HasGiven (frames_of at text) now all at (text ++ piece)
from_none_all old given now all piece none some at text h =
    subst (λ (xs : List ℕ). HasGiven (frames_of at text) now all at (text ++ xs)) (take_all (length piece) piece (omega arith))
    (from_none old given now all piece (length piece) none some at text h)
