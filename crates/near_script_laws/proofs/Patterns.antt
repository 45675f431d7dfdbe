-- What messages say: whether one says anything is told by the message.
use Rattle.std.proofs.Common.{◌≡◌, ℕ, suc, ◌+◌, true, false, ◌||◌, ◌==◌, ℤ, List, [], ◌∷◌, ◌++◌, length, drop, Option, Some, None, refl, ap, sym, ◌∙◌, subst, inl, inr, arith}
use Rattle.std.specs.Prelude.{Ok, Err}
use Rattle.std.specs.List.{flat_map}
use Rattle.grid_base.specs.declared.refusal.CallRefused.TheVariants.{UnknownType}
use Rattle.frame_codec.specs.Laws.{spelled}
use Rattle.frame_codec.specs.declared.frames.Frame.{Frame}
use Rattle.fixed_fields.specs.Requests.{kind_of, reader_in}
use Rattle.message_frames.specs.Assembly.{first_payload}
use Rattle.message_frames.specs.Grammar.{stream_of}
use Rattle.message_frames.specs.Laws.{IsStream, messages_in}
use Rattle.message_frames.specs.Messages.{Heard, shortest_start, messages_of}
use Rattle.message_frames.specs.declared.message.Message.{Message}
use Rattle.message_frames.proofs.HeardPieces.{grammar_heard}
use Rattle.map_codecs.specs.Calls.{get_kind}
use Rattle.event_codecs.specs.Events.{Reader, events, event_by, event_of}
use Rattle.event_codecs.specs.declared.events.ClientEvent.TheVariants as event
use Rattle.partition_protocol.proofs.Lists.{In, in_right}
use Rattle.partition_protocol.proofs.Answers.{map_append}
use Rattle.near_protocol.specs.Client.{Said, Answer, Refusal, Invalidation, Rows}
use Rattle.near_protocol.specs.Near.{invalidated_by}
use Rattle.near_run_laws.specs.Readings.{output, pieces_sent, messages_sent}
use Rattle.near_run_laws.specs.Clients.{SaysIt}
use Rattle.near_run_laws.specs.Pieces.{IsQuiet, Means, AllMean}
use Rattle.near_run_laws.specs.Feeds.{all_said}

-- ---- lists of what is said

pub all_said-append : (xs ys : List (Option (Said (List ℕ)))) → all_said (xs ++ ys) ≡ all_said xs ++ all_said ys
all_said-append [] ys = refl
all_said-append (None ∷ xs) ys = all_said-append xs ys
all_said-append (Some said ∷ xs) ys = ap (λ rest. said ∷ rest) (all_said-append xs ys)

pub mean-append : (name : List ℕ) (ms ns : List Message) (xs ys : List (Option (Said (List ℕ)))) → AllMean name ms xs → AllMean name ns ys → AllMean name (ms ++ ns) (xs ++ ys)
mean-append name [] ns [] ys a b = b
mean-append name [] ns (x ∷ xs) ys a b = absurd a
mean-append name (m ∷ ms) ns [] ys a b = absurd a
mean-append name (m ∷ ms) ns (x ∷ xs) ys a b = (a.0, mean-append name ms ns xs ys a.1 b)

-- what the first messages say, and what those behind them
pub record Parted (name : List ℕ) (ms ns : List Message) (says : List (Option (Said (List ℕ)))) : Type 0 where
  pub first : List (Option (Said (List ℕ)))
  pub behind : List (Option (Said (List ℕ)))
  pub are : says ≡ first ++ behind
  pub mean : AllMean name ms first
  pub then : AllMean name ns behind

pub parted : (name : List ℕ) (ms ns : List Message) (says : List (Option (Said (List ℕ)))) → AllMean name (ms ++ ns) says → Parted name ms ns says
parted name [] ns says a = record { first = []; behind = says; are = refl; mean = tt; then = a }
parted name (m ∷ ms) ns [] a = absurd a
parted name (m ∷ ms) ns (x ∷ says) a =
    let rest = parted name ms ns says a.1 in
    record { first = x ∷ rest.first; behind = rest.behind; are = ap (λ xs. x ∷ xs) rest.are; mean = (a.0, rest.mean); then = rest.then }

-- two cuts of one list after as many
pub same_cut : {X : Type 0} (xs ys zs ws : List X) → length xs ≡ length zs → xs ++ ys ≡ zs ++ ws → (xs ≡ zs) × (ys ≡ ws)
same_cut [] ys [] ws l e = (refl, e)
same_cut [] ys (z ∷ zs) ws l e = absurd (omega (arith, l))
same_cut (x ∷ xs) ys [] ws l e = absurd (omega (arith, l))
same_cut (x ∷ xs) ys (z ∷ zs) ws l e =
    let heads : x ≡ z = cc in
    let tails : xs ++ ys ≡ zs ++ ws = cc in
    let rest = same_cut xs ys zs ws (omega (arith, l)) tails in
    (ap (λ u. u ∷ xs) heads ∙ ap (λ us. z ∷ us) rest.0, rest.1)

-- ---- a message says something, or nothing

no_event : (message : Message) (kind : ℕ) → kind_of (first_payload message.frames) ≡ Some kind → reader_in (Some kind) events ≡ None → event_of message ≡ Err UnknownType
unfolding event_of
no_event message kind e none = ap (λ (reader : Option Reader). event_by (first_payload message.frames) (drop 1 message.frames) reader) (ap (λ (k : Option ℕ). reader_in k events) e ∙ none)

-- a quiet message says nothing
quiet_says_none : (name : List ℕ) (message : Message) (said : Said (List ℕ)) → IsQuiet message → SaysIt name message said → ⊥
quiet_says_none name message (Answer number reply) q (h, reads) =
    let kinds : Some q.kind ≡ Some (get_kind + 1) = sym q.head.kind_is ∙ h.kind_is in
    let same : q.kind ≡ get_kind + 1 = cc in
    absurd (let clash : true ≡ false = sym (ap (λ k. (k == 0) || (k == get_kind + 1)) same) ∙ q.apart in cc)
quiet_says_none name message (Refusal number) q (h, code) =
    let kinds : Some q.kind ≡ Some 0 = sym q.head.kind_is ∙ h.kind_is in
    let same : q.kind ≡ 0 = cc in
    absurd (let clash : true ≡ false = sym (ap (λ k. (k == 0) || (k == get_kind + 1)) same) ∙ q.apart in cc)
quiet_says_none name message (Invalidation key version number) q (correlation, (partition, (h, is))) =
    absurd (let clash : Err UnknownType ≡ Ok (event.Invalidation correlation partition version number name key) = sym q.unknown ∙ is in cc)
quiet_says_none name message (Rows rows) q (correlation, (seen, (h, (is, rows_are)))) = absurd (let clash : Err UnknownType ≡ Ok (event.Rows correlation seen) = sym q.unknown ∙ is in cc)

-- however it is put, the same messages say as much
pub says_as_much : (name : List ℕ) (ms : List Message) (xs ys : List (Option (Said (List ℕ)))) → AllMean name ms xs → AllMean name ms ys → length (all_said xs) ≡ length (all_said ys)
says_as_much name [] [] [] a b = refl
says_as_much name [] [] (y ∷ ys) a b = absurd b
says_as_much name [] (x ∷ xs) ys a b = absurd a
says_as_much name (m ∷ ms) [] ys a b = absurd a
says_as_much name (m ∷ ms) (x ∷ xs) [] a b = absurd b
says_as_much name (m ∷ ms) (None ∷ xs) (None ∷ ys) a b = says_as_much name ms xs ys a.1 b.1
says_as_much name (m ∷ ms) (None ∷ xs) (Some said ∷ ys) a b = absurd (quiet_says_none name m said a.0 b.0)
says_as_much name (m ∷ ms) (Some said ∷ xs) (None ∷ ys) a b = absurd (quiet_says_none name m said b.0 a.0)
says_as_much name (m ∷ ms) (Some said ∷ xs) (Some other ∷ ys) a b = ap suc (says_as_much name ms xs ys a.1 b.1)

-- ---- what one message says

-- An invalidation says just that.
invalidates : (name key : List ℕ) (version number : ℕ) (message : Message) (correlation partition : ℤ) → event_of message ≡ Ok (event.Invalidation correlation partition version number name key)
    → (x : Option (Said (List ℕ))) → Means name message x → x ≡ Some (Invalidation key version number)
invalidates name key version number message correlation partition is None q = absurd (let clash : Err UnknownType ≡ Ok (event.Invalidation correlation partition version number name key) = sym q.unknown ∙ is in cc)
invalidates name key version number message correlation partition is (Some (Answer n reply)) (h, reads) =
    absurd (let clash : Err UnknownType ≡ Ok (event.Invalidation correlation partition version number name key) = sym (no_event message (get_kind + 1) h.kind_is refl) ∙ is in cc)
invalidates name key version number message correlation partition is (Some (Refusal n)) (h, code) =
    absurd (let clash : Err UnknownType ≡ Ok (event.Invalidation correlation partition version number name key) = sym (no_event message 0 h.kind_is refl) ∙ is in cc)
invalidates name key version number message correlation partition is (Some (Rows rows)) (c, (seen, (h, (its, rows_are)))) =
    absurd (let clash : Ok (event.Rows c seen) ≡ Ok (event.Invalidation correlation partition version number name key) = sym its ∙ is in cc)
invalidates name key version number message correlation partition is (Some (Invalidation k v n)) (c, (p, (h, its))) =
    let both : Ok (event.Invalidation c p v n name k) ≡ Ok (event.Invalidation correlation partition version number name key) = sym its ∙ is in
    let keys : k ≡ key = cc in
    let versions : v ≡ version = cc in
    let numbers : n ≡ number = cc in
    ap (λ q. Some (Invalidation q v n)) keys ∙ ap (λ q. Some (Invalidation key q n)) versions ∙ ap (λ q. Some (Invalidation key version q)) numbers

-- an invalidation among messages is among what they say
pub invalidation_said : (name key : List ℕ) (version number : ℕ) (message : Message) (correlation partition : ℤ) → event_of message ≡ Ok (event.Invalidation correlation partition version number name key)
    → (ms : List Message) (xs : List (Option (Said (List ℕ)))) → AllMean name ms xs → In message ms → In (Invalidation key version number) (all_said xs)
invalidation_said name key version number message correlation partition is [] xs a i = absurd i
invalidation_said name key version number message correlation partition is (m ∷ ms) [] a i = absurd a
invalidation_said name key version number message correlation partition is (m ∷ ms) (x ∷ xs) a (inl e) =
    let its = invalidates name key version number message correlation partition is x (subst (λ (z : Message). Means name z x) e a.0) in
    subst (λ z. In (Invalidation key version number) (all_said (z ∷ xs))) (sym its) (inl refl)
invalidation_said name key version number message correlation partition is (m ∷ ms) (x ∷ xs) a (inr i) = more x (invalidation_said name key version number message correlation partition is ms xs a.1 i)
  where
    more : (z : Option (Said (List ℕ))) → In (Invalidation key version number) (all_said xs) → In (Invalidation key version number) (all_said (z ∷ xs))
    more None j = j
    more (Some said) j = inr j

-- and what was said of an invalidation was handled
pub handled_too : (key : List ℕ) (version number : ℕ) (heard : List (Said (List ℕ))) → In (Invalidation key version number) heard → In (record { key = key; version = version; number = number }) (flat_map invalidated_by heard)
handled_too key version number [] i = absurd i
handled_too key version number (m ∷ heard) (inl e) = subst (λ (z : Said (List ℕ)). In (record { key = key; version = version; number = number }) (invalidated_by z ++ flat_map invalidated_by heard)) (sym e) (inl refl)
handled_too key version number (m ∷ heard) (inr i) = in_right (record { key = key; version = version; number = number }) (invalidated_by m) (flat_map invalidated_by heard) (handled_too key version number heard i)

-- ---- what is said is said by a message

pub record IsSaidBy (name : List ℕ) (ms : List Message) (said : Said (List ℕ)) : Type 0 where
  pub message : Message
  pub there : In message ms
  pub says : SaysIt name message said

pub said_by_one : (name : List ℕ) (said : Said (List ℕ)) (ms : List Message) (xs : List (Option (Said (List ℕ)))) → AllMean name ms xs → In said (all_said xs) → IsSaidBy name ms said
said_by_one name said [] [] a i = absurd i
said_by_one name said [] (x ∷ xs) a i = absurd a
said_by_one name said (m ∷ ms) [] a i = absurd a
said_by_one name said (m ∷ ms) (None ∷ xs) a i = let rest = said_by_one name said ms xs a.1 i in record { message = rest.message; there = inr rest.there; says = rest.says }
said_by_one name said (m ∷ ms) (Some other ∷ xs) a (inl e) = record { message = m; there = inl refl; says = subst (SaysIt name m) e a.0 }
said_by_one name said (m ∷ ms) (Some other ∷ xs) a (inr i) = let rest = said_by_one name said ms xs a.1 i in record { message = rest.message; there = inr rest.there; says = rest.says }

-- ---- all of an output

stream_sent : (sent : List (List Frame)) → stream_of false (pieces_sent sent) ≡ output sent
stream_sent [] = refl
stream_sent (frames ∷ sent) = ap (λ b. spelled frames ++ b) (stream_sent sent)

merged_sent : (sent : List (List Frame)) → messages_in (pieces_sent sent) ≡ messages_sent sent
merged_sent [] = refl
merged_sent (frames ∷ sent) = ap (λ (ms : List Message). record { frames = frames } ∷ ms) (merged_sent sent)

pub all_heard : (sent : List (List Frame)) → IsStream (shortest_start false) (pieces_sent sent) → messages_of false (output sent) ≡ messages_sent sent
all_heard sent stream = ap (messages_of false) (sym (stream_sent sent)) ∙ ap (λ (h : Heard). h.messages) (grammar_heard false (pieces_sent sent) stream) ∙ merged_sent sent

pub sent_parts : (xs ys : List (List Frame)) → messages_sent (xs ++ ys) ≡ messages_sent xs ++ messages_sent ys
sent_parts xs ys = map_append (λ (frames : List Frame). record { frames = frames }) xs ys
