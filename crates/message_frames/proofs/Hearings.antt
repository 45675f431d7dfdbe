-- What a reader stands for as more bytes come.
use Rattle.std.proofs.Common.{◌≡◌, ℕ, ◌+◌, ◌-◌, ◌^◌, ◌<◌, ◌≤◌, min, Bool, true, false, List, [], ◌∷◌, ◌++◌, length, drop, append-nil, length-append, length-drop, refl, sym, ◌∙◌, ap, subst, ◌⊎◌, inl, inr, Option, Some, None, arith}
use Rattle.std.specs.Prelude.{is_some}
use Rattle.std.proofs.lemmas.Bool.{false≢true}
use Rattle.frame_codec.specs.FrameReaders.{InProgress, next_place, kept, standing as frames_standing, StandsFor as FramesStandFor}
use Rattle.frame_codec.specs.Reading.{Reading, reading}
use Rattle.frame_codec.specs.declared.malformed.Malformed.{Malformed}
use Rattle.frame_codec.specs.declared.malformed.Why.TheVariants.{Prefix}
use Rattle.message_frames.specs.Assembly.{Assembly, Assembled, assembled, nothing_yet}
use Rattle.message_frames.specs.Messages.{Heard, prefix_of, shortest_start, differing, or_else, heard_of_frames, heard_after_prefix, heard, messages_of, fault_of}
use Rattle.message_frames.specs.FedFrames.{Gives}
use Rattle.message_frames.specs.MessageReaders.{Hearing, Live, Failed, hearing, after_prefix, live, standing, shown_fault, StandsFor}
use Rattle.message_frames.specs.declared.message.Message.{Message}
use Rattle.message_frames.proofs.Composition.{goes_on}
use Rattle.message_frames.proofs.Bounded.{texts_bounded}
use Rattle.message_frames.proofs.Places.{reading_measured}
use Rattle.message_frames.proofs.PrefixParts.{differing_on, drop_on}
use Rattle.message_frames.proofs.Prefixes.{behind, heard_of_other}
use Rattle.message_frames.proofs.Shown.{shown_fault-standing}
use Rattle.message_frames.proofs.Staying.{faults_stay, heard_messages_stay}
use Rattle.message_frames.proofs.TurnSteps.{none_or_some}

-- a reader after a text with a fault, and after one without

pub standing_failed : (prefix : Bool) (text : List ℕ) (fault : Malformed) → fault_of prefix text ≡ Some fault → standing prefix text ≡ Failed prefix fault
unfolding standing
standing_failed prefix text fault some = rw (some, standing) refl

pub standing_live : (prefix : Bool) (text : List ℕ) → fault_of prefix text ≡ None → standing prefix text ≡ live prefix text
unfolding standing
standing_live prefix text none = rw (none, standing) refl

-- what the fields of a reader are that stands for a text
pub record IsLive (prefix : Bool) (text : List ℕ) (own : Bool) (begun : ℕ) (frame : InProgress) (assembly : Assembly) : Type 0 where
  pub none : fault_of prefix text ≡ None
  pub same : own ≡ prefix
  pub count : begun ≡ min (behind prefix) (length text)
  pub frames : frame ≡ frames_standing (behind prefix) (after_prefix prefix text)
  pub state : assembly ≡ (assembled (shortest_start prefix) (reading (behind prefix) (after_prefix prefix text)).frames nothing_yet).after

pub live_is : (prefix : Bool) (text : List ℕ) (own : Bool) (begun : ℕ) (frame : InProgress) (assembly : Assembly) → StandsFor (hearing None own begun frame assembly) prefix text → IsLive prefix text own begun frame assembly
live_is prefix text own begun frame assembly stands = go (none_or_some (fault_of prefix text))
  where
    go : (fault_of prefix text ≡ None) ⊎ ((fault : Malformed) × (fault_of prefix text ≡ Some fault)) → IsLive prefix text own begun frame assembly
    go (inl none) =
        let is : Live own begun frame assembly ≡ live prefix text = stands ∙ standing_live prefix text none in
        record { none = none; same = cc is; count = cc is; frames = cc is; state = cc is }
    go (inr some) = let clash : Live own begun frame assembly ≡ Failed prefix some.0 = stands ∙ standing_failed prefix text some.0 some.1 in absurd (cc clash)

pub failed_is : (prefix : Bool) (text : List ℕ) (own : Bool) (fault : Malformed) → StandsFor (Failed own fault) prefix text → fault_of prefix text ≡ Some fault
failed_is prefix text own fault stands = sym (ap shown_fault stands ∙ shown_fault-standing prefix text)

-- After a fault a piece changes nothing.

module _ (prefix : Bool) (text piece : List ℕ) (own : Bool) (fault : Malformed) (stands : StandsFor (Failed own fault) prefix text) where
  stays : heard prefix (text ++ piece) ≡ heard prefix text
  stays = faults_stay prefix text piece fault (failed_is prefix text own fault stands)

  pub failed_fault : fault_of prefix (text ++ piece) ≡ Some fault
  failed_fault = ap (λ (h : Heard). h.fault) stays ∙ failed_is prefix text own fault stands

  pub failed_stands : StandsFor (Failed own fault) prefix (text ++ piece)
  failed_stands = stands ∙ standing_failed prefix text fault (failed_is prefix text own fault stands) ∙ sym (standing_failed prefix (text ++ piece) fault failed_fault)

  pub failed_messages : messages_of prefix text ++ [] ≡ messages_of prefix (text ++ piece)
  failed_messages = append-nil (messages_of prefix text) ∙ sym (ap (λ (h : Heard). h.messages) stays)

-- bytes that differ from the prefix

no_messages_before : (before later : List Message) → [] ≡ before ++ later → before ≡ []
no_messages_before [] later e = refl
no_messages_before (message ∷ before) later e = absurd (cc e)

none_differs : (prefix : Bool) (text : List ℕ) → fault_of prefix text ≡ None → differing 0 (prefix_of prefix) text ≡ None
none_differs prefix text none = go (none_or_some (differing 0 (prefix_of prefix) text))
  where
    go : (differing 0 (prefix_of prefix) text ≡ None) ⊎ ((at : ℕ) × (differing 0 (prefix_of prefix) text ≡ Some at)) → differing 0 (prefix_of prefix) text ≡ None
    go (inl same) = same
    go (inr other) = let clash = sym none ∙ ap (λ (h : Heard). h.fault) (heard_of_other prefix text other.0 other.1) in absurd (cc clash)

module _ (prefix : Bool) (text piece : List ℕ) (begun : ℕ) (none : fault_of prefix text ≡ None) (count : begun ≡ min (behind prefix) (length text)) where
  differs_on : differing 0 (prefix_of prefix) (text ++ piece) ≡ differing begun (drop begun (prefix_of prefix)) piece
  differs_on =
      differing_on 0 (prefix_of prefix) text piece (none_differs prefix text none)
      ∙ ap (λ n. differing n (drop (min (behind prefix) (length text)) (prefix_of prefix)) piece) (plain (min (behind prefix) (length text)))
      ∙ ap (λ n. differing n (drop n (prefix_of prefix)) piece) (sym count)
    where
      plain : (n : ℕ) → 0 + n ≡ n
      plain n = omega arith

  module _ (at : ℕ) (other : differing begun (drop begun (prefix_of prefix)) piece ≡ Some at) where
    heard_other : heard prefix (text ++ piece) ≡ record { messages = []; fault = Some (record { at = at; why = Prefix }) }
    heard_other = heard_of_other prefix (text ++ piece) at (differs_on ∙ other)

    pub other_fault : fault_of prefix (text ++ piece) ≡ Some (record { at = at; why = Prefix })
    other_fault = ap (λ (h : Heard). h.fault) heard_other

    pub other_stands : StandsFor (Failed prefix (record { at = at; why = Prefix })) prefix (text ++ piece)
    other_stands = sym (standing_failed prefix (text ++ piece) (record { at = at; why = Prefix }) other_fault)

    pub other_messages : messages_of prefix text ++ [] ≡ messages_of prefix (text ++ piece)
    other_messages =
        let later = heard_messages_stay prefix text piece in
        let now : messages_of prefix (text ++ piece) ≡ [] = ap (λ (h : Heard). h.messages) heard_other in
        append-nil (messages_of prefix text) ∙ no_messages_before (messages_of prefix text) (later.0) (sym now ∙ later.1) ∙ sym now

  -- The bytes after the prefix go on with those of the piece that come after it.
  pub bytes_on : (now : ℕ) → now ≡ min (behind prefix) (begun + length piece) → after_prefix prefix (text ++ piece) ≡ after_prefix prefix text ++ drop (now - begun) piece
  bytes_on now is = drop_on (behind prefix) text piece ∙ ap (λ k. after_prefix prefix text ++ drop k piece) (same (behind prefix) (length text) (length piece) begun now count is)
    where
      same : (a b c begun_now now_now : ℕ) → begun_now ≡ min a b → now_now ≡ min a (begun_now + c) → min a (min a b + c) - min a b ≡ now_now - begun_now
      same a b c begun_now now_now p q = omega arith

  pub count_on : (now : ℕ) → now ≡ min (behind prefix) (begun + length piece) → now ≡ min (behind prefix) (length (text ++ piece))
  count_on now is = omega (arith, is, count, length-append text piece)

  -- Without a byte that differs the text is heard by its frames.
  heard_on : differing begun (drop begun (prefix_of prefix)) piece ≡ None → heard prefix (text ++ piece) ≡ heard_after_prefix prefix (text ++ piece)
  unfolding heard
  heard_on same = rw (differs_on ∙ same, heard) refl

  heard_so_far : heard prefix text ≡ heard_after_prefix prefix text
  unfolding heard
  heard_so_far = rw (none_differs prefix text none, heard) refl

abbrev heard_with : List Message → Option Malformed → Heard
heard_with messages fault = record { messages = messages; fault = fault }

neither : (first second : Option Malformed) → or_else first second ≡ None → (first ≡ None) × (second ≡ None)
neither None second e = (refl, e)
neither (Some fault) second e = absurd (cc e)

-- What frames give is what is heard.
module _ (prefix : Bool) (text piece : List ℕ) (begun now : ℕ) (none : fault_of prefix text ≡ None) (count : begun ≡ min (behind prefix) (length text)) (is : now ≡ min (behind prefix) (begun + length piece))
    (same : differing begun (drop begun (prefix_of prefix)) piece ≡ None) (after : Assembly) (messages : List Message) (fault : Option Malformed)
    (gives : Gives (behind prefix) (after_prefix prefix text) (drop (now - begun) piece) (shortest_start prefix)
    (assembled (shortest_start prefix) (reading (behind prefix) (after_prefix prefix text)).frames nothing_yet).after after messages fault) where
  reading_on : reading (behind prefix) (after_prefix prefix (text ++ piece)) ≡ reading (behind prefix) (after_prefix prefix text ++ drop (now - begun) piece)
  reading_on = ap (reading (behind prefix)) (bytes_on prefix text piece begun none count now is)

  no_fault_before : (assembled (shortest_start prefix) (reading (behind prefix) (after_prefix prefix text)).frames nothing_yet).fault ≡ None
  no_fault_before =
      (neither (assembled (shortest_start prefix) (reading (behind prefix) (after_prefix prefix text)).frames nothing_yet).fault (reading (behind prefix) (after_prefix prefix text)).fault
      (sym (ap (λ (h : Heard). h.fault) (heard_so_far prefix text piece begun none count)) ∙ none)).0

  -- all frames, assembled
  assembled_on : assembled (shortest_start prefix) (reading (behind prefix) (after_prefix prefix text ++ drop (now - begun) piece)).frames nothing_yet ≡ record {
    messages = (assembled (shortest_start prefix) (reading (behind prefix) (after_prefix prefix text)).frames nothing_yet).messages ++ messages;
    fault = (assembled (shortest_start prefix) gives.fed (assembled (shortest_start prefix) (reading (behind prefix) (after_prefix prefix text)).frames nothing_yet).after).fault;
    after = after;
  }
  assembled_on =
      ap (λ frames. assembled (shortest_start prefix) frames nothing_yet) (sym gives.frames)
      ∙ goes_on (shortest_start prefix) (reading (behind prefix) (after_prefix prefix text)).frames gives.fed nothing_yet no_fault_before
      ∙ rw (gives.given, gives.left) refl

  given_on : heard prefix (text ++ piece) ≡ record { messages = messages_of prefix text ++ messages; fault = fault }
  given_on =
      heard_on prefix text piece begun none count same
      ∙ ap (heard_of_frames (shortest_start prefix)) reading_on
      ∙ ap (λ (a : Assembled). heard_with a.messages (or_else a.fault (reading (behind prefix) (after_prefix prefix text ++ drop (now - begun) piece)).fault)) assembled_on
      ∙ ap (λ first. heard_with ((assembled (shortest_start prefix) (reading (behind prefix) (after_prefix prefix text)).frames nothing_yet).messages ++ messages) first) (sym gives.first)
      ∙ ap (λ (h : Heard). heard_with (h.messages ++ messages) fault) (sym (heard_so_far prefix text piece begun none count))

  pub messages_on : messages_of prefix text ++ messages ≡ messages_of prefix (text ++ piece)
  messages_on = sym (ap (λ (h : Heard). h.messages) given_on)

  pub fault_on : fault ≡ fault_of prefix (text ++ piece)
  fault_on = sym (ap (λ (h : Heard). h.fault) given_on)

  pub state_on : after ≡ (assembled (shortest_start prefix) (reading (behind prefix) (after_prefix prefix (text ++ piece))).frames nothing_yet).after
  state_on = sym (ap (λ (r : Reading). (assembled (shortest_start prefix) r.frames nothing_yet).after) reading_on ∙ ap (λ (a : Assembled). a.after) assembled_on)

  -- so the reader stands for all bytes
  pub stands_on : (frame : InProgress) → frame ≡ frames_standing (behind prefix) (after_prefix prefix text ++ drop (now - begun) piece) → StandsFor (hearing fault prefix now frame after) prefix (text ++ piece)
  stands_on frame frames = go fault fault_on
    where
      go : (shown : Option Malformed) → shown ≡ fault_of prefix (text ++ piece) → StandsFor (hearing shown prefix now frame after) prefix (text ++ piece)
      go None first =
          ap (λ n. Live prefix n frame after) (count_on prefix text piece begun none count now is)
          ∙ ap (λ f. Live prefix (min (behind prefix) (length (text ++ piece))) f after) (frames ∙ ap (frames_standing (behind prefix)) (sym (bytes_on prefix text piece begun none count now is)))
          ∙ ap (λ s. Live prefix (min (behind prefix) (length (text ++ piece))) (frames_standing (behind prefix) (after_prefix prefix (text ++ piece))) s) state_on
          ∙ sym (standing_live prefix (text ++ piece) (sym first))
      go (Some f) first = sym (standing_failed prefix (text ++ piece) f (sym first))

-- Places stay small.

next_place-standing : (at : ℕ) (bytes : List ℕ) → (reading at bytes).fault ≡ None → next_place (frames_standing at bytes) ≡ at + length bytes
unfolding frames_standing
next_place-standing at bytes none =
    let kept_all : length (kept (reading at bytes).fault (reading at bytes).rest) ≡ length (reading at bytes).rest = ap (λ fault. length (kept fault (reading at bytes).rest)) none in
    omega (arith, kept_all, (reading_measured at bytes).bytes)

prefix_is_short : (prefix : Bool) → behind prefix ≤ 3
prefix_is_short true = omega arith
prefix_is_short false = omega arith

pub places_small : (prefix : Bool) (text : List ℕ) (own : Bool) (begun : ℕ) (frame : InProgress) (assembly : Assembly) (more : ℕ) →
    StandsFor (hearing None own begun frame assembly) prefix text → more < 2 ^ 63 → next_place frame + more < 2 ^ 64
places_small prefix text own begun frame assembly more stands bound =
    let is = live_is prefix text own begun frame assembly stands in
    let both = neither (assembled (shortest_start prefix) (reading (behind prefix) (after_prefix prefix text)).frames nothing_yet).fault (reading (behind prefix) (after_prefix prefix text)).fault
    (sym (ap (λ (h : Heard). h.fault) (heard_so_far prefix text [] (min (behind prefix) (length text)) is.none refl)) ∙ is.none) in
    let place : next_place frame ≡ behind prefix + length (after_prefix prefix text) = ap next_place is.frames ∙ next_place-standing (behind prefix) (after_prefix prefix text) both.1 in
    omega (arith, place, length-drop (behind prefix) text, texts_bounded prefix text is.none, prefix_is_short prefix, bound)

-- One feed, as the code does it.

-- what the prefix leaves of a piece
pub record PassesPrefix (own : Bool) (begun now : ℕ) (piece : List ℕ) : Type 0 where
  pub count : now ≡ min (length (prefix_of own)) (begun + length piece)
  pub same : differing begun (drop begun (prefix_of own)) piece ≡ None

-- what the frames' reader and the assembler make of the rest
pub record FeedsFrames (own : Bool) (begun now : ℕ) (piece : List ℕ) (frame later : InProgress) (before after : Assembly) (messages : List Message) (fault : Option Malformed) : Type 0 where
  pub stands : (at : ℕ) (bytes : List ℕ) → FramesStandFor frame at bytes → FramesStandFor later at (bytes ++ drop (now - begun) piece)
  pub gives : (at : ℕ) (bytes : List ℕ) → FramesStandFor frame at bytes → Gives at bytes (drop (now - begun) piece) (shortest_start own) before after messages fault

-- what a feed owes for one text
pub record IsFed (prefix : Bool) (text piece : List ℕ) (new : Hearing) (messages : List Message) (fault : Option Malformed) : Type 0 where
  pub stands : StandsFor new prefix (text ++ piece)
  pub given : messages_of prefix text ++ messages ≡ messages_of prefix (text ++ piece)
  pub first : fault ≡ fault_of prefix (text ++ piece)

module _ (prefix : Bool) (text piece : List ℕ) (begun now : ℕ) (frame later : InProgress) (before after : Assembly) (messages : List Message) (fault : Option Malformed)
    (is : IsLive prefix text prefix begun frame before) (passes : PassesPrefix prefix begun now piece) (feeds : FeedsFrames prefix begun now piece frame later before after messages fault) where
  gives_here : Gives (behind prefix) (after_prefix prefix text) (drop (now - begun) piece) (shortest_start prefix)
      (assembled (shortest_start prefix) (reading (behind prefix) (after_prefix prefix text)).frames nothing_yet).after after messages fault
  gives_here =
      subst (λ state. Gives (behind prefix) (after_prefix prefix text) (drop (now - begun) piece) (shortest_start prefix) state after messages fault) is.state
      (feeds.gives (behind prefix) (after_prefix prefix text) is.frames)

  fed_here : IsFed prefix text piece (hearing fault prefix now later after) messages fault
  fed_here = record {
    stands = stands_on prefix text piece begun now is.none is.count passes.count passes.same after messages fault gives_here later (feeds.stands (behind prefix) (after_prefix prefix text) is.frames);
    given = messages_on prefix text piece begun now is.none is.count passes.count passes.same after messages fault gives_here;
    first = fault_on prefix text piece begun now is.none is.count passes.count passes.same after messages fault gives_here;
  }

pub is_fed : (prefix : Bool) (text piece : List ℕ) (own : Bool) (begun now : ℕ) (frame later : InProgress) (before after : Assembly) (messages : List Message) (fault : Option Malformed) →
    StandsFor (hearing None own begun frame before) prefix text → PassesPrefix own begun now piece → FeedsFrames own begun now piece frame later before after messages fault →
    IsFed prefix text piece (hearing fault own now later after) messages fault
is_fed prefix text piece own begun now frame later before after messages fault stands =
    let is = live_is prefix text own begun frame before stands in
    subst (λ p. PassesPrefix p begun now piece → FeedsFrames p begun now piece frame later before after messages fault → IsFed prefix text piece (hearing fault p now later after) messages fault)
    (sym is.same)
    (λ passes feeds. fed_here prefix text piece begun now frame later before after messages fault
    (record { none = is.none; same = refl; count = is.count; frames = is.frames; state = is.state }) passes feeds)

-- A byte that differs from the prefix.
pub is_other : (prefix : Bool) (text piece : List ℕ) (own : Bool) (begun at : ℕ) (frame : InProgress) (before : Assembly) (messages : List Message) →
    StandsFor (hearing None own begun frame before) prefix text → differing begun (drop begun (prefix_of own)) piece ≡ Some at → messages ≡ [] →
    IsFed prefix text piece (Failed own (record { at = at; why = Prefix })) messages (Some (record { at = at; why = Prefix }))
is_other prefix text piece own begun at frame before messages stands other no_messages =
    let is = live_is prefix text own begun frame before stands in
    let here : differing begun (drop begun (prefix_of prefix)) piece ≡ Some at = subst (λ p. differing begun (drop begun (prefix_of p)) piece ≡ Some at) is.same other in
    record {
      stands = ap (λ p. Failed p (record { at = at; why = Prefix })) is.same ∙ other_stands prefix text piece begun is.none is.count at here;
      given = ap (λ ms. messages_of prefix text ++ ms) no_messages ∙ other_messages prefix text piece begun is.none is.count at here;
      first = sym (other_fault prefix text piece begun is.none is.count at here);
    }

-- After a fault.
pub is_failed : (prefix : Bool) (text piece : List ℕ) (own : Bool) (fault : Malformed) (messages : List Message) → StandsFor (Failed own fault) prefix text → messages ≡ [] →
    IsFed prefix text piece (Failed own fault) messages (Some fault)
is_failed prefix text piece own fault messages stands no_messages = record {
  stands = failed_stands prefix text piece own fault stands;
  given = ap (λ ms. messages_of prefix text ++ ms) no_messages ∙ failed_messages prefix text piece own fault stands;
  first = sym (failed_fault prefix text piece own fault stands);
}

pub stays_failed : (prefix : Bool) (text piece : List ℕ) (fault : Option Malformed) (own : Bool) (begun : ℕ) (frame : InProgress) (state : Assembly) (messages : List Message) → is_some fault ≡ true →
    StandsFor (hearing fault own begun frame state) prefix text → messages ≡ [] → IsFed prefix text piece (hearing fault own begun frame state) messages fault
stays_failed prefix text piece None own begun frame state messages shown stands no_messages = absurd (false≢true shown)
stays_failed prefix text piece (Some fault) own begun frame state messages shown stands no_messages = is_failed prefix text piece own fault messages stands no_messages

pub none_shown : (fault : Option Malformed) → is_some fault ≡ false → fault ≡ None
none_shown None shown = refl
none_shown (Some fault) shown = absurd (false≢true (sym shown))
