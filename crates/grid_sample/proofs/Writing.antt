-- What was written, of what the sink took of a buffer.
use Rattle.std.proofs.Common.{◌≡◌, ℕ, List, [], ◌++◌, take, drop, Option, ap, ◌∙◌}
use Rattle.std.proofs.lemmas.List.{take-append-drop}
use Rattle.grid_edge.specs.Sink.{TakesFront}
use Rattle.partition_protocol.specs.Sequences.{IsFrontOf}
use Rattle.grid_sample.specs.Samples.{Writes}

-- The buffer was filled with the whole text, of which the sink took a front
pub wrote_front : (before after : List ℕ) (P : List ℕ → Type 0) (slice buffer old whole : List ℕ) → slice ≡ buffer → buffer ≡ old ++ whole → old ≡ []
    → TakesFront before after slice → ((text : List ℕ) → IsFrontOf text whole → P text) → Writes before after P
wrote_front before after P slice buffer old whole seen filled fresh took holds =
    let same : slice ≡ whole = seen ∙ (filled ∙ ap (λ xs. xs ++ whole) fresh) in (
      take took.0 whole,
      took.2 ∙ ap (λ bytes. before ++ take took.0 bytes) same,
      holds (take took.0 whole) (drop took.0 whole, take-append-drop took.0 whole),
    )

-- and all of it
pub wrote_all : (before after : List ℕ) (P : List ℕ → Type 0) (slice buffer old whole : List ℕ) → slice ≡ buffer → buffer ≡ old ++ whole → old ≡ []
    → after ≡ before ++ slice → P whole → Writes before after P
wrote_all before after P slice buffer old whole seen filled fresh took holds =
    (whole, took ∙ ap (λ more. before ++ more) (seen ∙ (filled ∙ ap (λ xs. xs ++ whole) fresh)), holds)
