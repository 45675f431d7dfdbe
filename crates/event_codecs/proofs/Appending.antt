-- Frames are appended one after another.
use Rattle.std.proofs.Common.{◌≡◌, ℕ, ◌+◌, ◌<◌, List, [], ◌∷◌, ◌++◌, length, get_or, map, take, All, sym, ap, subst, ◌∙◌, append_assoc, append-nil}
use Rattle.std.proofs.lemmas.Grind.{flat_map-append}
use Rattle.std.proofs.lemmas.List.{map-append, take_more}
use Rattle.std.proofs.lemmas.List.Elements.{All-nil, All-append, All-push}
use Rattle.frame_codec.specs.Frames.{frame_bytes}
use Rattle.frame_codec.specs.Laws.{IsWithinLimits, spelled}
use Rattle.frame_codec.specs.declared.frames.Frame.{Frame}
use Rattle.partition_table.specs.declared.Row.{Row}
use Rattle.event_codecs.specs.Writing.{Appended, IsCounted, frame, row_bytes, row_frame, seen}

pub appended_none : (out : List ℕ) → Appended out out []
appended_none out = record { bytes = sym (append-nil out); limits = All-nil IsWithinLimits }

pub appended_more : (old mid new : List ℕ) (first then : List Frame) → Appended old mid first → Appended mid new then → Appended old new (first ++ then)
appended_more old mid new first then a b = record {
  bytes = b.bytes ∙ ap (λ (front : List ℕ). front ++ spelled then) a.bytes ∙ append_assoc old (spelled first) (spelled then) ∙ ap (λ (more : List ℕ). old ++ more) (sym (flat_map-append frame_bytes first then));
  limits = All-append IsWithinLimits first then a.limits b.limits;
}

pub same_frames : {old new : List ℕ} {frames others : List Frame} → Appended old new frames → frames ≡ others → Appended old new others
same_frames {old} {new} {frames} {others} a same = subst (Appended old new) same a

-- what was appended to nothing
pub whole : {old new event : List ℕ} {frames : List Frame} → old ≡ [] → event ≡ new → Appended old new frames → Appended [] event frames
whole {old} {new} {event} {frames} empty same a =
    subst (λ (bytes : List ℕ). Appended [] bytes frames) (sym same) (subst (λ (bytes : List ℕ). Appended bytes new frames) empty a)

-- the frames of these rows were appended
pub record AreWritten (old new : List ℕ) (rows : List (ℕ × Row)) : Type 0 where
  pub frames : Appended old new (map row_frame rows)
  pub counted : All IsCounted rows

pub one_written : (old mid new payload : List ℕ) (rows : List (ℕ × Row)) (placed : ℕ × Row) → AreWritten old mid rows → payload ≡ row_bytes (seen placed) → IsCounted placed → Appended mid new (frame 0 payload ∷ []) → AreWritten old new (rows ++ placed ∷ [])
one_written old mid new payload rows placed before same counted a =
    let one = same_frames a (ap (λ (bytes : List ℕ). frame 0 bytes ∷ []) same) in
    let all = appended_more old mid new (map row_frame rows) (row_frame placed ∷ []) before.frames one in
    record {
      frames = same_frames all (sym (map-append row_frame rows (placed ∷ [])));
      counted = All-push IsCounted rows placed before.counted counted;
    }

-- the same at a step through rows
pub next_written : (old mid new payload : List ℕ) (rows : List (ℕ × Row)) (i : ℕ) (placed : ℕ × Row) → i < length rows → placed ≡ get_or rows i placed → AreWritten old mid (take i rows) → payload ≡ row_bytes (seen placed) → IsCounted placed → Appended mid new (frame 0 payload ∷ []) → AreWritten old new (take (i + 1) rows)
next_written old mid new payload rows i placed within is before same counted a =
    let more : take (i + 1) rows ≡ take i rows ++ placed ∷ [] = take_more rows i placed within ∙ ap (λ (p : ℕ × Row). take i rows ++ p ∷ []) (sym is) in
    subst (AreWritten old new) (sym more) (one_written old mid new payload (take i rows) placed before same counted a)
