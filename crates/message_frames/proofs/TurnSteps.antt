-- A turn is the step of the state that control and lists are.
use Rattle.std.proofs.Common.{◌≡◌, ◌≢◌, ℕ, ◌+◌, ◌<◌, ◌≤◌, true, false, List, [], ◌∷◌, ◌++◌, length, map, set, get_or-set_same, get_or-set_other, length-append, refl, sym, ◌∙◌, ap, ◌⊎◌, inl, inr, ⊎_elim, Option, Some, None, Ok, Err, Result, arith}
use Rattle.std.specs.Prelude.{sum_by, nat_lt, ◌==◌}
use Rattle.std.proofs.lemmas.Bool.{cases_Bool}
use Rattle.std.proofs.Math.Dec.{eqb-suc-zero}
use Rattle.std.proofs.lemmas.List.Sums.{sum_by-append}
use Rattle.frame_codec.specs.Frames.{frame_length}
use Rattle.frame_codec.specs.declared.frames.Frame.{Frame}
use Rattle.frame_codec.specs.declared.frames.PlacedFrame.{PlacedFrame}
use Rattle.frame_codec.specs.declared.malformed.Malformed.{Malformed}
use Rattle.frame_codec.specs.declared.malformed.Why.{Why}
use Rattle.message_frames.specs.Assembly.{Assembly, Faulty, Goes, Gives, faulty, Between, InMessage, most_messages, is_final, size_fault, first_payload, completed, in_message}
use Rattle.message_frames.specs.Tallies.{tally_of, tally_with, counted, limit_fault}
use Rattle.message_frames.specs.Turns.{Turned, fails, fails_at, completion_fault, message_turn}
use Rattle.message_frames.specs.Lists.{list_at, chain_of, assembly_of, AreSound, step_of}
use Rattle.message_frames.specs.declared.control.Begun.{Begun}
use Rattle.message_frames.specs.declared.control.Spot.TheVariants.{Free, OfMessage}
use Rattle.message_frames.specs.declared.control.Ending.{Ending}
use Rattle.message_frames.specs.declared.control.Ending.TheVariants.{GoesOn, EndsMessage}
use Rattle.message_frames.specs.declared.control.Turn.TheVariants.{Joins}
use Rattle.message_frames.specs.declared.control.Control.{Control}
use Rattle.message_frames.specs.declared.control.OpenChain.{OpenChain}
use Rattle.message_frames.specs.declared.tally.Tally.{Tally}
use Rattle.message_frames.proofs.ListsOfChains.{same_chains}

-- tallies

abbrev pub tally : ℕ → ℕ → ℕ → Tally
tally count bytes first = record { count = count; bytes = bytes; first = first }

tallies : {a b c d e f : ℕ} → a ≡ b → c ≡ d → e ≡ f → tally a c e ≡ tally b d f
tallies p q r = rw (p, q, r) refl

pub tally_with-of : (frames : List Frame) (frame : Frame) → tally_with frame (tally_of frames) ≡ tally_of (frames ++ frame ∷ [])
tally_with-of [] frame = refl
tally_with-of (first ∷ frames) frame =
    let count : length (first ∷ frames ++ frame ∷ []) ≡ length (first ∷ frames) + 1 = length-append (first ∷ frames) (frame ∷ []) in
    let bytes : sum_by frame_length (first ∷ frames ++ frame ∷ []) ≡ sum_by frame_length (first ∷ frames) + (0 + frame_length frame) = sum_by-append frame_length (first ∷ frames) (frame ∷ []) in
    tallies (sym count) (bytes_more (sum_by frame_length (first ∷ frames)) (frame_length frame) ∙ sym bytes) (rw (eqb-suc-zero (length frames)) refl)
  where
    bytes_more : (a b : ℕ) → a + b ≡ a + (0 + b)
    bytes_more a b = omega arith

-- what the limits say of a tally with one frame more
abbrev pub counted_of : Option Why → Tally → Result Tally Why
counted_of fault all = elim fault [ None ↦ Ok all | Some why ↦ Err why ]

counted_is : (frames : List Frame) (frame : Frame) (tally : Tally) → tally ≡ tally_of frames →
    counted frame tally ≡ counted_of (size_fault (frames ++ frame ∷ [])) (tally_of (frames ++ frame ∷ []))
counted_is frames frame tally same = ap (λ all. counted_of (limit_fault all) all) (ap (tally_with frame) same ∙ tally_with-of frames frame)

pub counted_ok : (frames : List Frame) (frame : Frame) (tally : Tally) → tally ≡ tally_of frames → size_fault (frames ++ frame ∷ []) ≡ None → counted frame tally ≡ Ok (tally_of (frames ++ frame ∷ []))
counted_ok frames frame tally same none = counted_is frames frame tally same ∙ ap (λ fault. counted_of fault (tally_of (frames ++ frame ∷ []))) none

pub counted_err : (frames : List Frame) (frame : Frame) (tally : Tally) (why : Why) → tally ≡ tally_of frames → size_fault (frames ++ frame ∷ []) ≡ Some why → counted frame tally ≡ Err why
counted_err frames frame tally why same fault = counted_is frames frame tally same ∙ ap (λ f. counted_of f (tally_of (frames ++ frame ∷ []))) fault

-- completion

pub none_or_some : {A : Type 0} (o : Option A) → (o ≡ None) ⊎ ((x : A) × (o ≡ Some x))
none_or_some None = inl refl
none_or_some (Some x) = inr (x, refl)

fault_is : {a b : Malformed} → Some a ≡ Some b → a ≡ b
fault_is e = cc

module _ (shortest began ended : ℕ) (frames : List Frame) (s : Assembly) (c : Control) (same : s.complete ≡ c.complete) where
  pub completes : completion_fault shortest began ended (tally_of frames) c ≡ None →
      completed shortest began ended frames s ≡ Gives (record { frames = frames }) (record s { complete = s.complete + 1 })
  completes none = go (cases_Bool (nat_lt (length (first_payload frames)) shortest)) (cases_Bool (c.complete == most_messages))
    where
      go : (nat_lt (length (first_payload frames)) shortest ≡ true) ⊎ (nat_lt (length (first_payload frames)) shortest ≡ false) → (c.complete == most_messages ≡ true) ⊎ (c.complete == most_messages ≡ false) →
          completed shortest began ended frames s ≡ Gives (record { frames = frames }) (record s { complete = s.complete + 1 })
      go (inl short) spent = absurd (cc (rw short at none))
      go (inr long) (inl spent) = absurd (cc (rw (long, spent) at none))
      go (inr long) (inr left) = rw (long, completed) (rw (same, left) refl)

  pub completion_fails : (fault : Malformed) → completion_fault shortest began ended (tally_of frames) c ≡ Some fault → completed shortest began ended frames s ≡ Faulty fault
  completion_fails fault some = go (cases_Bool (nat_lt (length (first_payload frames)) shortest)) (cases_Bool (c.complete == most_messages))
    where
      go : (nat_lt (length (first_payload frames)) shortest ≡ true) ⊎ (nat_lt (length (first_payload frames)) shortest ≡ false) → (c.complete == most_messages ≡ true) ⊎ (c.complete == most_messages ≡ false) →
          completed shortest began ended frames s ≡ Faulty fault
      go (inl short) spent = rw (short, completed) (ap Faulty (fault_is (rw short at some)))
      go (inr long) (inl spent) = rw (long, completed) (rw (same, spent) (ap Faulty (fault_is (rw (long, spent) at some))))
      go (inr long) (inr left) = absurd (cc (rw (long, left) at some))

-- messages

-- A message's list is past all chains'.
unchanged_by_message : (chains : List OpenChain) (end k : ℕ) (lists : List (List Frame)) (frames : List Frame) → AreSound 0 chains end lists → end ≤ k →
    map (chain_of (set lists k frames)) chains ≡ map (chain_of lists) chains
unchanged_by_message chains end k lists frames sound above =
    same_chains 0 chains end lists (set lists k frames) sound (λ j from below. let other : j ≢ k = omega arith in get_or-set_other lists k j frames [] other)

-- what a turn of a message comes to

module _ (shortest : ℕ) (begun : Begun) (more : ℕ) (new : PlacedFrame) (c : Control) (lists : List (List Frame)) (tally : begun.tally ≡ tally_of (list_at lists begun.list)) where
  turn_fails : (why : Why) → size_fault (list_at lists begun.list ++ new.frame ∷ []) ≡ Some why → message_turn shortest begun more new c ≡ fails_at new why c
  turn_fails why sized = rw (counted_err (list_at lists begun.list) new.frame begun.tally why tally sized, message_turn) refl

  turn_goes_on : size_fault (list_at lists begun.list ++ new.frame ∷ []) ≡ None → is_final new.frame ≡ false →
      message_turn shortest begun more new c ≡ record {
        turn = Joins begun.list (tally_of (list_at lists begun.list ++ new.frame ∷ [])).count GoesOn;
        after = record c { spot = OfMessage (record begun { tally = tally_of (list_at lists begun.list ++ new.frame ∷ []) }); lists = more };
      }
  turn_goes_on sized goes_on = rw (counted_ok (list_at lists begun.list) new.frame begun.tally tally sized, message_turn, goes_on) refl

  turn_ends : size_fault (list_at lists begun.list ++ new.frame ∷ []) ≡ None → is_final new.frame ≡ true →
      completion_fault shortest begun.at new.at (tally_of (list_at lists begun.list ++ new.frame ∷ [])) c ≡ None →
      message_turn shortest begun more new c ≡ record {
        turn = Joins begun.list (tally_of (list_at lists begun.list ++ new.frame ∷ [])).count EndsMessage;
        after = record c { spot = Free; lists = more; complete = c.complete + 1 };
      }
  turn_ends sized ends given = rw (counted_ok (list_at lists begun.list) new.frame begun.tally tally sized, message_turn, ends, given) refl

  turn_ends_badly : (fault : Malformed) → size_fault (list_at lists begun.list ++ new.frame ∷ []) ≡ None → is_final new.frame ≡ true →
      completion_fault shortest begun.at new.at (tally_of (list_at lists begun.list ++ new.frame ∷ [])) c ≡ Some fault →
      message_turn shortest begun more new c ≡ fails fault c
  turn_ends_badly fault sized ends failed = rw (counted_ok (list_at lists begun.list) new.frame begun.tally tally sized, message_turn, ends, failed) refl

-- what a step of a message comes to

module _ (shortest began : ℕ) (all : List Frame) (new : PlacedFrame) (s : Assembly) where
  step_fails : (why : Why) → size_fault all ≡ Some why → in_message shortest began all new s ≡ faulty new.at why
  step_fails why sized = rw (sized, in_message) refl

  step_goes_on : size_fault all ≡ None → is_final new.frame ≡ false → in_message shortest began all new s ≡ Goes (record s { place = InMessage began all })
  step_goes_on sized goes_on = rw (sized, in_message, goes_on) refl

  step_ends : size_fault all ≡ None → is_final new.frame ≡ true → in_message shortest began all new s ≡ completed shortest began new.at all (record s { place = Between })
  step_ends sized ends = rw (sized, in_message, ends) refl

module _ (shortest : ℕ) (begun : Begun) (more : ℕ) (new : PlacedFrame) (c : Control) (lists : List (List Frame)) (end : ℕ)
    (tally : begun.tally ≡ tally_of (list_at lists begun.list)) (sound : AreSound 0 c.chains.items end lists) (above : end ≤ begun.list)
    (within : (count : ℕ) (ending : Ending) → (message_turn shortest begun more new c).turn ≡ Joins begun.list count ending → begun.list < length lists) where
  pub message_step : in_message shortest begun.at (list_at lists begun.list ++ new.frame ∷ []) new (assembly_of c lists) ≡ step_of (message_turn shortest begun more new c) lists new.frame
  message_step =
      let all = list_at lists begun.list ++ new.frame ∷ [] in
      let Goal : Type 0 = in_message shortest begun.at all new (assembly_of c lists) ≡ step_of (message_turn shortest begun more new c) lists new.frame in
      let of_turn = λ (t : Turned). step_of t lists new.frame in
      let ends : is_final new.frame ≡ true → size_fault all ≡ None → Goal =
      λ final sized. ⊎_elim
      (λ given. step_ends shortest begun.at all new (assembly_of c lists) sized final ∙ completes shortest begun.at new.at all (record (assembly_of c lists) { place = Between }) c refl given
      ∙ rw (sym (unchanged_by_message c.chains.items end begun.list lists [] sound above)) refl ∙ sym (ap of_turn (turn_ends shortest begun more new c lists tally sized final given)))
      (λ failed. step_ends shortest begun.at all new (assembly_of c lists) sized final ∙ completion_fails shortest begun.at new.at all (record (assembly_of c lists) { place = Between }) c refl (failed.0) (failed.1)
      ∙ sym (ap of_turn (turn_ends_badly shortest begun more new c lists tally (failed.0) sized final failed.1)))
      (none_or_some (completion_fault shortest begun.at new.at (tally_of all) c)) in
      let goes_on : is_final new.frame ≡ false → size_fault all ≡ None → Goal =
      λ not_final sized. step_goes_on shortest begun.at all new (assembly_of c lists) sized not_final
      ∙ (let there : begun.list < length lists = within (tally_of all).count GoesOn (ap (λ (t : Turned). t.turn) (turn_goes_on shortest begun more new c lists tally sized not_final)) in
      rw (get_or-set_same lists begun.list all [] there, unchanged_by_message c.chains.items end begun.list lists all sound above) refl)
      ∙ sym (ap of_turn (turn_goes_on shortest begun more new c lists tally sized not_final)) in
      ⊎_elim
      (λ sized. ⊎_elim (λ final. ends final sized) (λ not_final. goes_on not_final sized) (cases_Bool (is_final new.frame)))
      (λ sized. step_fails shortest begun.at all new (assembly_of c lists) (sized.0) (sized.1) ∙ sym (ap of_turn (turn_fails shortest begun more new c lists tally (sized.0) sized.1)))
      (none_or_some (size_fault all))
