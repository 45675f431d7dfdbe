-- However an output is cut, its messages are heard in their order.
use Rattle.std.proofs.Common.{◌≡◌, ◌≢◌, ℕ, false, List, [], ◌∷◌, ◌++◌, length, drop, None, refl, ap, sym, ◌∙◌, subst, ◌⊎◌, inl, inr, append_assoc}
use Rattle.std.proofs.Math.Seq.{drop-append_seam}
use Rattle.frame_codec.specs.Laws.{spelled}
use Rattle.frame_codec.specs.declared.frames.Frame.{Frame}
use Rattle.message_frames.specs.Grammar.{Unfragmented, stream_of}
use Rattle.message_frames.specs.Laws.{IsStream, messages_in}
use Rattle.message_frames.specs.Messages.{Heard, shortest_start, heard, messages_of}
use Rattle.message_frames.specs.declared.message.Message.{Message}
use Rattle.message_frames.proofs.HeardPieces.{grammar_heard, stream_front}
use Rattle.message_frames.proofs.SoFar.{so_far_heard}
use Rattle.message_frames.proofs.Staying.{heard_messages_stay}
use Rattle.partition_protocol.proofs.Answers.{map_append}
use Rattle.near_run_laws.specs.Readings.{output, pieces_sent, messages_sent, HearsNext, EveryOutputIsHeard}

-- ---- of two ways to cut a list

abbrev IsCut : {X : Type 0} → List X → List X → List X → List X → Type 0
IsCut {X} xs ys zs ws = ((more : List X) × (xs ++ more ≡ zs) × (more ≢ [])) ⊎ ((behind : List X) × (xs ≡ zs ++ behind) × (behind ++ ys ≡ ws))

cut : {X : Type 0} (xs ys zs ws : List X) → xs ++ ys ≡ zs ++ ws → IsCut xs ys zs ws
cut [] ys [] ws e = inr ([], refl, e)
cut [] ys (z ∷ zs) ws e = inl (z ∷ zs, refl, λ f. absurd cc)
cut (x ∷ xs) ys [] ws e = inr (x ∷ xs, refl, e)
cut {X} (x ∷ xs) ys (z ∷ zs) ws e = go (cut xs ys zs ws (let tails : xs ++ ys ≡ zs ++ ws = cc in tails))
  where
    same : x ≡ z
    same = cc

    go : IsCut xs ys zs ws → IsCut (x ∷ xs) ys (z ∷ zs) ws
    go (inl (more, is, some)) = inl (more, ap (λ us. x ∷ us) is ∙ ap (λ u. u ∷ zs) same, some)
    go (inr (behind, is, rest)) = inr (behind, ap (λ us. x ∷ us) is ∙ ap (λ u. u ∷ (zs ++ behind)) same, rest)

-- ---- a text of an output

-- It is some messages, and no more than a part of the next one.
abbrev IsPartOf : List (List Frame) → List ℕ → List (List Frame) → Type 0
IsPartOf sent text done =
    (later : List (List Frame)) × (sent ≡ done ++ later)
    × ((text ≡ output done)
    ⊎ ((frames : List Frame) × (more_sent : List (List Frame)) × (begun : List ℕ) × (more : List ℕ) × (later ≡ frames ∷ more_sent) × (text ≡ output done ++ begun) × (begun ++ more ≡ spelled frames) × (more ≢ [])))

split : (sent : List (List Frame)) (text rest : List ℕ) → text ++ rest ≡ output sent → (done : List (List Frame)) × IsPartOf sent text done
split [] text rest e = ([], ([], refl, inl (empty text e)))
  where
    empty : (xs : List ℕ) → xs ++ rest ≡ [] → xs ≡ []
    empty [] f = refl
    empty (x ∷ xs) f = absurd cc
split (frames ∷ sent) text rest e = go (cut text rest (spelled frames) (output sent) e) (λ behind f. split sent behind rest f)
  where
    longer : (behind : List ℕ) → text ≡ spelled frames ++ behind → (done : List (List Frame)) × IsPartOf sent behind done → (done : List (List Frame)) × IsPartOf (frames ∷ sent) text done
    longer behind is (done, (later, order, inl all)) = (frames ∷ done, (later, ap (λ ss. frames ∷ ss) order, inl (is ∙ ap (λ b. spelled frames ++ b) all)))
    longer behind is (done, (later, order, inr (next, more_sent, begun, more, first, part, whole, some))) =
        (frames ∷ done, (later, ap (λ ss. frames ∷ ss) order, inr (next, more_sent, begun, more, first, is ∙ ap (λ b. spelled frames ++ b) part ∙ sym (append_assoc (spelled frames) (output done) begun), whole, some)))

    go : IsCut text rest (spelled frames) (output sent) → ((behind : List ℕ) → behind ++ rest ≡ output sent → (done : List (List Frame)) × IsPartOf sent behind done) → (done : List (List Frame)) × IsPartOf (frames ∷ sent) text done
    go (inl (more, is, some)) f = ([], (frames ∷ sent, refl, inr (frames, sent, text, more, refl, refl, is, some)))
    go (inr (behind, is, left)) f = longer behind is (f behind left)

-- ---- what is heard of it

stream_sent : (sent : List (List Frame)) → stream_of false (pieces_sent sent) ≡ output sent
stream_sent [] = refl
stream_sent (frames ∷ sent) = ap (λ b. spelled frames ++ b) (stream_sent sent)

merged_sent : (sent : List (List Frame)) → messages_in (pieces_sent sent) ≡ messages_sent sent
merged_sent [] = refl
merged_sent (frames ∷ sent) = ap (λ (ms : List Message). record { frames = frames } ∷ ms) (merged_sent sent)

heard_part : (sent : List (List Frame)) (text : List ℕ) (done : List (List Frame)) → IsStream (shortest_start false) (pieces_sent sent) → IsPartOf sent text done → heard false text ≡ record { messages = messages_sent done; fault = None }
heard_part sent text done stream (later, order, inl all) =
    ap (heard false) (all ∙ sym (stream_sent done))
    ∙ grammar_heard false (pieces_sent done) (stream_front (shortest_start false) (pieces_sent done) (pieces_sent later) (subst (IsStream (shortest_start false)) (ap pieces_sent order ∙ map_append (λ frames. Unfragmented frames) done later) stream))
    ∙ ap (λ (ms : List Message). record { messages = ms; fault = None }) (merged_sent done)
heard_part sent text done stream (later, order, inr (frames, more_sent, begun, more, first, part, whole, some)) =
    ap (heard false) (part ∙ ap (λ b. b ++ begun) (sym (stream_sent done)))
    ∙ so_far_heard false (pieces_sent done) (Unfragmented frames) begun more
    (stream_front (shortest_start false) (pieces_sent done ++ Unfragmented frames ∷ []) (pieces_sent more_sent) (subst (IsStream (shortest_start false)) parted stream)) whole some
    ∙ ap (λ (ms : List Message). record { messages = ms; fault = None }) (merged_sent done)
  where
    parted : pieces_sent sent ≡ (pieces_sent done ++ Unfragmented frames ∷ []) ++ pieces_sent more_sent
    parted = ap pieces_sent (order ∙ ap (λ ss. done ++ ss) first) ∙ map_append (λ fs. Unfragmented fs) done (frames ∷ more_sent) ∙ sym (append_assoc (pieces_sent done) (Unfragmented frames ∷ []) (pieces_sent more_sent))

-- ---- a piece more

-- messages of frames that begin with others' are of frames that begin with theirs
longer_sent : (now before : List (List Frame)) (later : List Message) → messages_sent now ≡ messages_sent before ++ later → (new : List (List Frame)) × (now ≡ before ++ new) × (later ≡ messages_sent new)
longer_sent now [] later e = (now, refl, sym e)
longer_sent [] (frames ∷ before) later e = absurd cc
longer_sent (first ∷ now) (frames ∷ before) later e = go (longer_sent now before later (let tails : messages_sent now ≡ messages_sent before ++ later = cc in tails))
  where
    heads : first ≡ frames
    heads = ap first_frames e
      where
        first_frames : List Message → List Frame
        first_frames [] = []
        first_frames (m ∷ ms) = m.frames

    go : (new : List (List Frame)) × (now ≡ before ++ new) × (later ≡ messages_sent new) → (new : List (List Frame)) × (first ∷ now ≡ frames ∷ (before ++ new)) × (later ≡ messages_sent new)
    go (new, is, rest) = (new, ap (λ fs. fs ∷ now) heads ∙ ap (λ ss. frames ∷ ss) is, rest)

pub every_output_is_heard : EveryOutputIsHeard
every_output_is_heard sent text piece rest stream e = by (split sent text (piece ++ rest) (sym (append_assoc text piece rest) ∙ e)) (split sent (text ++ piece) rest e) (heard_messages_stay false text piece)
  where
    by : (done : List (List Frame)) × IsPartOf sent text done → (done : List (List Frame)) × IsPartOf sent (text ++ piece) done → (later : List Message) × (messages_of false (text ++ piece) ≡ messages_of false text ++ later) → HearsNext sent text piece
    by (before, part) (now, part_now) (later, stays) = of_new (longer_sent now before later (sym heard_now ∙ stays ∙ ap (λ ms. ms ++ later) heard_before))
      where
        heard_before : messages_of false text ≡ messages_sent before
        heard_before = ap (λ (h : Heard). h.messages) (heard_part sent text before stream part)

        heard_now : messages_of false (text ++ piece) ≡ messages_sent now
        heard_now = ap (λ (h : Heard). h.messages) (heard_part sent (text ++ piece) now stream part_now)

        of_new : (new : List (List Frame)) × (now ≡ before ++ new) × (later ≡ messages_sent new) → HearsNext sent text piece
        of_new (new, is, left) = record {
          done = before;
          new = new;
          later = part_now.0;
          order = part_now.1 ∙ ap (λ ss. ss ++ part_now.0) is;
          before = heard_before;
          now = ap (λ ms. drop (length (messages_of false text)) ms) stays ∙ drop-append_seam (messages_of false text) later ∙ left;
          whole = ap (λ (h : Heard). h.fault) (heard_part sent (text ++ piece) now stream part_now);
        }
