-- Parts as they are spelled, and read again.
use Rattle.std.proofs.Common.{◌≡◌, ℕ, zero, suc, ◌+◌, ◌/◌, ◌^◌, ◌<◌, ◌≤◌, ◌==◌, nat_lt, true, List, [], ◌∷◌, ◌++◌, length, take, drop, get_or, bit_xor, refl, sym, ◌∙◌, ap, subst, arith, lit<, mod-lt, length-append, append_assoc}
use Rattle.std.proofs.lemmas.List.{take_at, drop_at, get_or_at, get_or-append-add}
use Rattle.std.proofs.lemmas.List.Elements.{All-head, All-tail}
use Rattle.std.proofs.lemmas.Nat.{shr_le, xor_of_32, from_le_bytes-to_le_bytes_2, from_le_bytes-to_le_bytes_4, from_le_bytes-to_le_bytes_8}
use lib.Seq.{drop-append-add}
use Rattle.std.specs.Prelude.{All}
use Rattle.std.specs.Int.{w16, w32, w64, from_le_bytes, to_le_bytes}
use Rattle.murmur_partition.specs.Murmur.{murmur3_of, folded}
use Rattle.link_frames.specs.Spelling.{hello_bytes, batch_bytes, part_bytes, checksum}
use Rattle.link_frames.specs.Reading.{short_at, number_at, long_at, hello_of, hello_front, answer_front, stated_length, batch_of, batch_front, front, next_stage, Reading, ended, with_part, reading}
use Rattle.link_frames.specs.Laws.{IsHello, IsBatch, IsPart, stage_of, AreInOrder, stage_after, spelled, shown, IsWhole}
use Rattle.link_frames.specs.declared.fronts.Front.{Front}
use Rattle.link_frames.specs.declared.fronts.Front.TheVariants.{Partial, Whole, Wrong}
use Rattle.link_frames.specs.declared.parts.Batch.{Batch}
use Rattle.link_frames.specs.declared.parts.Hello.{Hello}
use Rattle.link_frames.specs.declared.parts.LinkPart.{LinkPart}
use Rattle.link_frames.specs.declared.parts.LinkPart.TheVariants.{Opens, Answers, Carries}
use Rattle.link_frames.specs.declared.parts.Stage.{Stage}
use Rattle.link_frames.specs.declared.parts.TheConstants.{MAGIC}
use Rattle.link_frames.proofs.Beginnings.{less, equal, hello_whole, answer_whole, batch_whole}
use Rattle.link_frames.proofs.Readings.{ReadingCase, nothing, stops, begins, reading_cases, read_as}

-- a hello

module _ (h : Hello) (is : IsHello h) (more : List ℕ) where
  abbrev behind_process : List ℕ
  behind_process = h.challenge ++ more

  abbrev behind_names : List ℕ
  behind_names = to_le_bytes w64 h.process ++ behind_process

  abbrev behind_grid : List ℕ
  behind_grid = h.member ∷ h.peer ∷ behind_names

  abbrev shape : List ℕ
  shape = to_le_bytes w32 MAGIC ++ (h.grid ++ behind_grid)

  hello_shape : hello_bytes h ++ more ≡ shape
  hello_shape =
      ap (λ (xs : List ℕ). to_le_bytes w32 MAGIC ++ xs)
      (append_assoc h.grid (h.member ∷ h.peer ∷ (to_le_bytes w64 h.process ++ h.challenge)) more
      ∙ ap (λ (xs : List ℕ). h.grid ++ (h.member ∷ h.peer ∷ xs)) (append_assoc (to_le_bytes w64 h.process) h.challenge more))

  -- so many bytes behind the grid
  at_grid : (n : ℕ) → drop (32 + n) (h.grid ++ behind_grid) ≡ drop n behind_grid
  at_grid n = ap (λ m. drop (m + n) (h.grid ++ behind_grid)) (sym is.grid) ∙ drop-append-add h.grid behind_grid n

  read_grid : take 32 (drop 4 shape) ≡ h.grid
  read_grid = take_at h.grid behind_grid 32 is.grid

  read_member : get_or shape 36 0 ≡ h.member
  read_member = get_or_at h.grid h.member (h.peer ∷ behind_names) 0 32 is.grid

  read_peer : get_or shape 37 0 ≡ h.peer
  read_peer = ap (λ m. get_or (h.grid ++ behind_grid) (m + 1) 0) (sym is.grid) ∙ get_or-append-add h.grid behind_grid 1 0

  read_process : long_at 38 shape ≡ h.process
  read_process = ap (λ (xs : List ℕ). from_le_bytes w64 (take 8 xs)) (at_grid 2) ∙ from_le_bytes-to_le_bytes_8 h.process is.process

  read_challenge : take 32 (drop 46 shape) ≡ h.challenge
  read_challenge = ap (take 32) (at_grid 10) ∙ take_at h.challenge more 32 is.challenge

  shape_read : hello_of shape ≡ h
  shape_read =
      ap (λ g. let x : Hello = record { grid = g; member = get_or shape 36 0; peer = get_or shape 37 0; process = long_at 38 shape; challenge = take 32 (drop 46 shape) } in x) read_grid
      ∙ ap (λ m. let x : Hello = record { grid = h.grid; member = m; peer = get_or shape 37 0; process = long_at 38 shape; challenge = take 32 (drop 46 shape) } in x) read_member
      ∙ ap (λ p. let x : Hello = record { grid = h.grid; member = h.member; peer = p; process = long_at 38 shape; challenge = take 32 (drop 46 shape) } in x) read_peer
      ∙ ap (λ p. let x : Hello = record { grid = h.grid; member = h.member; peer = h.peer; process = p; challenge = take 32 (drop 46 shape) } in x) read_process
      ∙ ap (λ c. let x : Hello = record { grid = h.grid; member = h.member; peer = h.peer; process = h.process; challenge = c } in x) read_challenge

  pub hello_again : hello_of (hello_bytes h ++ more) ≡ h
  hello_again = ap hello_of hello_shape ∙ shape_read

  pub length-hello_bytes : length (hello_bytes h) ≡ 78
  length-hello_bytes =
      omega (arith, length-append h.grid (h.member ∷ h.peer ∷ (to_le_bytes w64 h.process ++ h.challenge)), is.grid, is.challenge)

  magic_there : (number_at 0 (hello_bytes h ++ more) == MAGIC) ≡ true
  magic_there = equal (number_at 0 (hello_bytes h ++ more)) MAGIC (from_le_bytes-to_le_bytes_4 MAGIC (lit< tt))

  pub front-hello : hello_front (hello_bytes h ++ more) ≡ Whole (Opens h) 78
  front-hello =
      hello_whole (hello_bytes h ++ more) (omega (arith, length-append (hello_bytes h) more, length-hello_bytes)) magic_there
      ∙ ap (λ x. Whole (Opens x) 78) hello_again

-- an answer

pub front-answer : (answer more : List ℕ) → length answer ≡ 32 → answer_front (answer ++ more) ≡ Whole (Answers answer) 32
front-answer answer more is =
    answer_whole (answer ++ more) (omega (arith, length-append answer more, is))
    ∙ ap (λ x. Whole (Answers x) 32) (take_at answer more 32 is)

-- a batch

folded_fits : (k hash : ℕ) → hash < 2 ^ 32 → folded k hash < 2 ^ 32
folded_fits k hash h = xor_of_32 hash (hash / 2 ^ k) h (omega (arith, shr_le hash k, h))

pub checksum_fits : (partition : ℕ) (bytes : List ℕ) → checksum partition bytes < 2 ^ 32
checksum_fits partition bytes = folded_fits 16 _ (mod-lt _ (lit< tt))

module _ (b : Batch) (is : IsBatch b) (more : List ℕ) where
  abbrev text : List ℕ
  text = batch_bytes b ++ more

  read_partition : short_at 0 text ≡ b.partition
  read_partition = from_le_bytes-to_le_bytes_2 b.partition (omega (arith, is.0))

  read_length : stated_length text ≡ length b.bytes
  read_length = from_le_bytes-to_le_bytes_4 (length b.bytes) (omega (arith, is.1))

  read_checksum : number_at 6 text ≡ checksum b.partition b.bytes
  read_checksum = from_le_bytes-to_le_bytes_4 (checksum b.partition b.bytes) (checksum_fits b.partition b.bytes)

  batch_again : batch_of text ≡ b
  batch_again =
      ap (λ p. let x : Batch = record { partition = p; bytes = take (stated_length text) (b.bytes ++ more) } in x) read_partition
      ∙ ap (λ n. let x : Batch = record { partition = b.partition; bytes = take n (b.bytes ++ more) } in x) read_length
      ∙ ap (λ xs. let x : Batch = record { partition = b.partition; bytes = xs } in x) (take_at b.bytes more (length b.bytes) refl)

  pub length-batch_bytes : length (batch_bytes b) ≡ 10 + length b.bytes
  length-batch_bytes = omega arith

  long : length text ≡ 10 + length b.bytes + length more
  long = omega (arith, length-append (batch_bytes b) more, length-batch_bytes)

  pub front-batch : batch_front text ≡ Whole (Carries b) (10 + length b.bytes)
  front-batch =
      batch_whole text (omega (arith, long)) (less (short_at 0 text) 271 (omega (arith, read_partition, is.0)))
      (omega (arith, read_length, is.1)) (omega (arith, read_length, long))
      (equal (checksum (batch_of text).partition (batch_of text).bytes) (number_at 6 text)
      (ap (λ (x : Batch). checksum x.partition x.bytes) batch_again ∙ sym read_checksum))
      ∙ ap (λ x. Whole (Carries x) (10 + stated_length text)) batch_again
      ∙ ap (λ n. Whole (Carries b) (10 + n)) read_length

-- any part

pub front-part : (part : LinkPart) (more : List ℕ) → IsPart part → front (stage_of part) (part_bytes part ++ more) ≡ Whole part (length (part_bytes part))
front-part (Opens h) more is = front-hello h is more ∙ ap (λ n. Whole (Opens h) n) (sym (length-hello_bytes h is more))
front-part (Answers answer) more is = front-answer answer more is ∙ ap (λ n. Whole (Answers answer) n) (sym is)
front-part (Carries b) more is = front-batch b is more ∙ ap (λ n. Whole (Carries b) n) (sym (length-batch_bytes b is more))

abbrev with_fault : Stage → List ℕ → Front → Reading
with_fault at rest f = record { parts = []; fault = shown f; stage = at; rest = rest }

rest_read : (at : Stage) (rest : List ℕ) → (IsWhole (front at rest) → ⊥) → reading at rest ≡ with_fault at rest (front at rest)
rest_read at rest none = by_case (reading_cases at rest)
  where
    by_case : ReadingCase at rest → reading at rest ≡ with_fault at rest (front at rest)
    by_case (nothing partial is) = is ∙ ap (with_fault at rest) (sym partial)
    by_case (stops why wrong stays is) = is ∙ ap (with_fault at rest) (sym wrong)
    by_case (begins part n some within whole stays is) = absurd (none (subst IsWhole (sym whole) tt))

pub written_read : (at : Stage) (parts : List LinkPart) (rest : List ℕ) → All IsPart parts → AreInOrder at parts
    → (IsWhole (front (stage_after at parts) rest) → ⊥)
    → reading at (spelled parts ++ rest)
    ≡ record { parts = parts; fault = shown (front (stage_after at parts) rest); stage = stage_after at parts; rest = rest }
written_read at [] rest limits order none = rest_read at rest none
written_read at (part ∷ parts) rest limits order none =
    ap (reading at) (append_assoc (part_bytes part) (spelled parts) rest)
    ∙ read_as at (part_bytes part ++ (spelled parts ++ rest)) (Whole part (length (part_bytes part)))
    (ap (λ s. front s (part_bytes part ++ (spelled parts ++ rest))) (sym order.0)
    ∙ front-part part (spelled parts ++ rest) (All-head IsPart part parts limits))
    ∙ ap (λ (xs : List ℕ). with_part part (reading (next_stage at) xs)) (drop_at (part_bytes part) (spelled parts ++ rest) (length (part_bytes part)) refl)
    ∙ ap (with_part part) (written_read (next_stage at) parts rest (All-tail IsPart part parts limits) order.1 none)
