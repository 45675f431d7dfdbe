-- Parts as they are read, and spelled again.
use Rattle.std.proofs.Common.{◌≡◌, ℕ, zero, suc, ◌+◌, ◌^◌, ◌<◌, ◌≤◌, ◌==◌, nat_lt, Bool, true, false, List, [], ◌∷◌, ◌++◌, length, take, drop, get_or, refl, sym, ◌∙◌, ap, subst, arith, lit<, length-append, append_assoc, take-add, ⊎_elim}
use Rattle.std.proofs.lemmas.List.{take-append-drop, take_all, length-drop, length-take-le, drop-drop, drop_more, get_or_past}
use Rattle.std.proofs.lemmas.List.Elements.{All-get_or, All-take, All-drop, All-cons, All-nil}
use Rattle.std.proofs.lemmas.Bool.{cases_lt}
use Rattle.std.proofs.lemmas.Nat.{le_bytes_2, le_bytes_4, le_bytes_8}
use Rattle.std.specs.Prelude.{All}
use Rattle.std.specs.Int.{w16, w32, w64, from_le_bytes, to_le_bytes}
use Rattle.link_frames.specs.Spelling.{hello_bytes, batch_bytes, part_bytes, checksum}
use Rattle.link_frames.specs.Reading.{short_at, number_at, long_at, hello_of, hello_front, answer_front, stated_length, batch_of, batch_front, front, next_stage, Reading, ended, with_part, reading}
use Rattle.link_frames.specs.Laws.{IsBytes, IsHello, IsBatch, IsPart, stage_of, AreInOrder, stage_after, spelled, shown, IsWhole, IsSpelledBy}
use Rattle.link_frames.specs.declared.fronts.Front.{Front}
use Rattle.link_frames.specs.declared.fronts.Front.TheVariants.{Partial, Whole, Wrong}
use Rattle.link_frames.specs.declared.parts.LinkPart.{LinkPart}
use Rattle.link_frames.specs.declared.parts.LinkPart.TheVariants.{Opens, Answers, Carries}
use Rattle.link_frames.specs.declared.parts.Stage.{Stage}
use Rattle.link_frames.specs.declared.parts.Stage.TheVariants as stage
use Rattle.link_frames.specs.declared.parts.TheConstants.{MAGIC}
use Rattle.link_frames.proofs.Beginnings.{is_less, is_equal, hello_begun, hello_whole, hello_wrong, answer_begun, answer_whole, batch_early, batch_absent, batch_too_long, batch_begun, batch_differs, batch_whole}
use Rattle.link_frames.proofs.Readings.{ReadingCase, nothing, stops, begins, reading_cases}

byte_at : (text : List ℕ) → IsBytes text → (i : ℕ) → get_or text i 0 < 256
byte_at text bytes i =
    ⊎_elim (λ h. All-get_or (λ byte. byte < 256) text i 0 h bytes) (λ h. rw (get_or_past text i 0 h) (lit< tt)) (cases_lt i (length text))

part_of : (at n : ℕ) (text : List ℕ) → IsBytes text → IsBytes (take n (drop at text))
part_of at n text bytes = All-take (λ byte. byte < 256) n (drop at text) (All-drop (λ byte. byte < 256) at text bytes)

long_enough : (at n : ℕ) (text : List ℕ) → at + n ≤ length text → length (take n (drop at text)) ≡ n
long_enough at n text h = length-take-le n (drop at text) (omega (arith, length-drop at text))

-- a part of a text, in two
piece : (at n m : ℕ) (text : List ℕ) → take (n + m) (drop at text) ≡ take n (drop at text) ++ take m (drop (at + n) text)
piece at n m text = take-add n m (drop at text) ∙ ap (λ (xs : List ℕ). take n (drop at text) ++ take m xs) (drop-drop n at text)

-- a hello

hello_spelled : (text : List ℕ) → IsBytes text → 78 ≤ length text → number_at 0 text ≡ MAGIC → hello_bytes (hello_of text) ≡ take 78 text
hello_spelled text bytes h e =
    let magic : to_le_bytes w32 MAGIC ≡ take 4 text = le_bytes_4 (take 4 text) MAGIC (long_enough 0 4 text (omega arith)) (byte_at (take 4 text) (part_of 0 4 text bytes)) (sym e) in
    let process : to_le_bytes w64 (long_at 38 text) ≡ take 8 (drop 38 text) =
    le_bytes_8 (take 8 (drop 38 text)) (long_at 38 text) (long_enough 38 8 text (omega arith)) (byte_at (take 8 (drop 38 text)) (part_of 38 8 text bytes)) refl in
    let names : drop 36 text ≡ get_or text 36 0 ∷ get_or text 37 0 ∷ drop 38 text =
    drop_more text 36 0 (omega arith) ∙ ap (λ (xs : List ℕ). get_or text 36 0 ∷ xs) (drop_more text 37 0 (omega arith)) in
    let grid = take 32 (drop 4 text) in
    let challenge = take 32 (drop 46 text) in
    ap (λ (xs : List ℕ). xs ++ (grid ++ (get_or text 36 0 ∷ get_or text 37 0 ∷ (to_le_bytes w64 (long_at 38 text) ++ challenge)))) magic
    ∙ ap (λ (xs : List ℕ). take 4 text ++ (grid ++ (get_or text 36 0 ∷ get_or text 37 0 ∷ (xs ++ challenge)))) process
    ∙ ap (λ (xs : List ℕ). take 4 text ++ (grid ++ (get_or text 36 0 ∷ get_or text 37 0 ∷ xs))) (sym (piece 38 8 32 text))
    ∙ ap (λ (xs : List ℕ). take 4 text ++ (grid ++ xs)) (sym (ap (take 42) names))
    ∙ ap (λ (xs : List ℕ). take 4 text ++ xs) (sym (piece 4 32 42 text))
    ∙ sym (piece 0 4 74 text)

-- a batch

batch_spelled : (text : List ℕ) → IsBytes text → 10 + stated_length text ≤ length text → checksum (batch_of text).partition (batch_of text).bytes ≡ number_at 6 text
    → batch_bytes (batch_of text) ≡ take (10 + stated_length text) text
batch_spelled text bytes f e =
    let n = stated_length text in
    let carried = take n (drop 10 text) in
    let partition : to_le_bytes w16 (short_at 0 text) ≡ take 2 text =
    le_bytes_2 (take 2 text) (short_at 0 text) (long_enough 0 2 text (omega arith)) (byte_at (take 2 text) (part_of 0 2 text bytes)) refl in
    let size : to_le_bytes w32 (length carried) ≡ take 4 (drop 2 text) =
    le_bytes_4 (take 4 (drop 2 text)) (length carried) (long_enough 2 4 text (omega arith)) (byte_at (take 4 (drop 2 text)) (part_of 2 4 text bytes)) (long_enough 10 n text f) in
    let sum : to_le_bytes w32 (checksum (short_at 0 text) carried) ≡ take 4 (drop 6 text) =
    le_bytes_4 (take 4 (drop 6 text)) (checksum (short_at 0 text) carried) (long_enough 6 4 text (omega arith)) (byte_at (take 4 (drop 6 text)) (part_of 6 4 text bytes)) e in
    let whole : 2 + (4 + (4 + n)) ≡ 10 + n = omega arith in
    ap (λ (xs : List ℕ). xs ++ (to_le_bytes w32 (length carried) ++ (to_le_bytes w32 (checksum (short_at 0 text) carried) ++ carried))) partition
    ∙ ap (λ (xs : List ℕ). take 2 text ++ (xs ++ (to_le_bytes w32 (checksum (short_at 0 text) carried) ++ carried))) size
    ∙ ap (λ (xs : List ℕ). take 2 text ++ (take 4 (drop 2 text) ++ (xs ++ carried))) sum
    ∙ ap (λ (xs : List ℕ). take 2 text ++ (take 4 (drop 2 text) ++ xs)) (sym (piece 6 4 n text))
    ∙ ap (λ (xs : List ℕ). take 2 text ++ xs) (sym (piece 2 4 (4 + n) text))
    ∙ sym (piece 0 2 (4 + (4 + n)) text)
    ∙ ap (λ (m : ℕ). take m text) whole

-- any part

pub record IsRead (at : Stage) (text : List ℕ) (part : LinkPart) (n : ℕ) : Type 0 where
  pub bytes : part_bytes part ≡ take n text
  pub limits : IsPart part
  pub order : stage_of part ≡ at

process_fits : (bs : List ℕ) → ((i : ℕ) → get_or bs i 0 < 256) → from_le_bytes w64 bs < 2 ^ 64
process_fits bs each = omega (arith, each 0, each 1, each 2, each 3, each 4, each 5, each 6, each 7)

hello_read : (text : List ℕ) (part : LinkPart) (n : ℕ) → IsBytes text → hello_front text ≡ Whole part n → IsRead stage.Hello text part n
hello_read text part n bytes whole =
    ⊎_elim (λ few. absurd (cc (whole, hello_begun text few))) (λ h. tested (number_at 0 text == MAGIC) h refl) (cases_lt (length text) 78)
  where
    is_hello : 78 ≤ length text → IsHello (hello_of text)
    is_hello h = record {
      grid = long_enough 4 32 text (omega arith);
      member = byte_at text bytes 36;
      peer = byte_at text bytes 37;
      process = process_fits (take 8 (drop 38 text)) (byte_at (take 8 (drop 38 text)) (part_of 38 8 text bytes));
      challenge = long_enough 46 32 text (omega arith);
    }

    tested : (b : Bool) → 78 ≤ length text → (number_at 0 text == MAGIC) ≡ b → IsRead stage.Hello text part n
    tested true h e =
        let same : Opens (hello_of text) ≡ part = cc (whole, hello_whole text h e) in
        let size : 78 ≡ n = cc (whole, hello_whole text h e) in
        subst (λ p. IsRead stage.Hello text p n) same
        (subst (λ m. IsRead stage.Hello text (Opens (hello_of text)) m) size
        (record { bytes = hello_spelled text bytes h (is_equal (number_at 0 text) MAGIC e); limits = is_hello h; order = refl }))
    tested false h e = absurd (cc (whole, hello_wrong text h e))

answer_read : (text : List ℕ) (part : LinkPart) (n : ℕ) → answer_front text ≡ Whole part n → IsRead stage.Answer text part n
answer_read text part n whole = ⊎_elim (λ few. absurd (cc (whole, answer_begun text few))) there (cases_lt (length text) 32)
  where
    there : 32 ≤ length text → IsRead stage.Answer text part n
    there h =
        let same : Answers (take 32 (drop 0 text)) ≡ part = cc (whole, answer_whole text h) in
        let size : 32 ≡ n = cc (whole, answer_whole text h) in
        subst (λ p. IsRead stage.Answer text p n) same
        (subst (λ m. IsRead stage.Answer text (Answers (take 32 (drop 0 text))) m) size
        (record { bytes = refl; limits = long_enough 0 32 text (omega arith); order = refl }))

batch_read : (text : List ℕ) (part : LinkPart) (n : ℕ) → IsBytes text → batch_front text ≡ Whole part n → IsRead stage.Batch text part n
batch_read text part n bytes whole =
    ⊎_elim (λ few. absurd (cc (whole, batch_early text few))) (λ h. there h (nat_lt (short_at 0 text) 271) refl) (cases_lt (length text) 10)
  where
    full : (b : Bool) → 10 ≤ length text → nat_lt (short_at 0 text) 271 ≡ true → stated_length text ≤ 1073741824
        → 10 + stated_length text ≤ length text → (checksum (batch_of text).partition (batch_of text).bytes == number_at 6 text) ≡ b
        → IsRead stage.Batch text part n
    full true h p l f e =
        let same : Carries (batch_of text) ≡ part = cc (whole, batch_whole text h p l f e) in
        let size : 10 + stated_length text ≡ n = cc (whole, batch_whole text h p l f e) in
        subst (λ q. IsRead stage.Batch text q n) same
        (subst (λ m. IsRead stage.Batch text (Carries (batch_of text)) m) size
        (record {
          bytes = batch_spelled text bytes f (is_equal (checksum (batch_of text).partition (batch_of text).bytes) (number_at 6 text) e);
          limits = (is_less (short_at 0 text) 271 p, omega (arith, long_enough 10 (stated_length text) text f, l));
          order = refl;
        }))
    full false h p l f e = absurd (cc (whole, batch_differs text h p l f e))

    limited : 10 ≤ length text → nat_lt (short_at 0 text) 271 ≡ true → stated_length text ≤ 1073741824 → IsRead stage.Batch text part n
    limited h p l =
        ⊎_elim (λ o. absurd (cc (whole, batch_begun text h p l o)))
        (λ f. full (checksum (batch_of text).partition (batch_of text).bytes == number_at 6 text) h p l f refl)
        (cases_lt (length text) (10 + stated_length text))

    there : 10 ≤ length text → (b : Bool) → nat_lt (short_at 0 text) 271 ≡ b → IsRead stage.Batch text part n
    there h true p = ⊎_elim (λ l. absurd (cc (whole, batch_too_long text h p l))) (λ l. limited h p l) (cases_lt 1073741824 (stated_length text))
    there h false p = absurd (cc (whole, batch_absent text h p))

part_read : (at : Stage) (text : List ℕ) (part : LinkPart) (n : ℕ) → IsBytes text → front at text ≡ Whole part n → IsRead at text part n
part_read stage.Hello text part n bytes whole = hello_read text part n bytes whole
part_read stage.Answer text part n bytes whole = answer_read text part n whole
part_read stage.Batch text part n bytes whole = batch_read text part n bytes whole

-- a stream

with_part_spelled : (at : Stage) (text : List ℕ) (part : LinkPart) (n : ℕ) (r : Reading) → IsRead at text part n
    → IsSpelledBy (next_stage at) (drop n text) r → IsSpelledBy at text (with_part part r)
with_part_spelled at text part n r read s = record {
  whole =
      sym (take-append-drop n text)
      ∙ ap (λ (xs : List ℕ). xs ++ drop n text) (sym read.bytes)
      ∙ ap (λ (xs : List ℕ). part_bytes part ++ xs) s.whole
      ∙ sym (append_assoc (part_bytes part) (spelled r.parts) r.rest);
  order = (read.order, s.order);
  stage = s.stage;
  limits = All-cons IsPart part r.parts read.limits s.limits;
  fault = s.fault;
  rest_is_none = s.rest_is_none;
}

spelled_by : (at : Stage) (text : List ℕ) → IsBytes text
    → ((to : Stage) (later : List ℕ) → length later < length text → IsBytes later → IsSpelledBy to later (reading to later))
    → IsSpelledBy at text (reading at text)
spelled_by at text bytes shorter = by_case (reading_cases at text)
  where
    by_case : ReadingCase at text → IsSpelledBy at text (reading at text)
    by_case (nothing partial is) =
        rw is
        (record {
          whole = refl;
          order = tt;
          stage = refl;
          limits = All-nil IsPart;
          fault = ap shown (sym partial);
          rest_is_none = λ w. subst IsWhole partial w;
        })
    by_case (stops why wrong stays is) =
        rw is
        (record {
          whole = refl;
          order = tt;
          stage = refl;
          limits = All-nil IsPart;
          fault = ap shown (sym wrong);
          rest_is_none = λ w. subst IsWhole wrong w;
        })
    by_case (begins part n some within whole stays is) =
        let less : length (drop n text) < length text = omega (arith, length-drop n text) in
        rw is
        (with_part_spelled at text part n (reading (next_stage at) (drop n text)) (part_read at text part n bytes whole)
        (shorter (next_stage at) (drop n text) less (All-drop (λ byte. byte < 256) n text bytes)))

spelled_within : (bound : ℕ) (at : Stage) (text : List ℕ) → length text ≤ bound → IsBytes text → IsSpelledBy at text (reading at text)
spelled_within zero at text few bytes = spelled_by at text bytes (λ to later less all. absurd (omega arith))
spelled_within (suc bound) at text few bytes = spelled_by at text bytes (λ to later less all. spelled_within bound to later (omega arith) all)

pub read_spelled : (at : Stage) (text : List ℕ) → IsBytes text → IsSpelledBy at text (reading at text)
read_spelled at text bytes = spelled_within (length text) at text (omega arith) bytes
