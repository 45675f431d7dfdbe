-- What a text begins with, case by case, and that more bytes don't change a part or a fault.
use Rattle.std.proofs.Common.{◌≡◌, ℕ, ◌+◌, ◌<◌, ◌≤◌, nat_lt, ◌==◌, Bool, true, false, List, ◌++◌, length, take, drop, get_or, refl, sym, ◌∙◌, ap, arith, lit<, ⊎_elim, length-append}
use Rattle.std.proofs.lemmas.List.{take-append-le, drop-append-le, length-drop, get_or_append_left}
use Rattle.std.proofs.lemmas.Bool.{cases_lt}
use Rattle.std.proofs.lemmas.Bool.Decides.{nat_tests}
use Rattle.std.specs.Int.{w16, w32, w64, from_le_bytes}
use Rattle.link_frames.specs.Spelling.{checksum}
use Rattle.link_frames.specs.Reading.{short_at, number_at, long_at, hello_of, hello_front, answer_front, stated_length, batch_of, batch_front, front}
use Rattle.link_frames.specs.declared.fault.LinkFault.{LinkFault}
use Rattle.link_frames.specs.declared.fault.LinkFault.TheVariants.{NotALink, NoPartition, TooLong, Checksum}
use Rattle.link_frames.specs.declared.fronts.Front.{Front}
use Rattle.link_frames.specs.declared.fronts.Front.TheVariants.{Partial, Whole, Wrong}
use Rattle.link_frames.specs.declared.parts.Batch.{Batch}
use Rattle.link_frames.specs.declared.parts.Hello.{Hello}
use Rattle.link_frames.specs.declared.parts.LinkPart.{LinkPart}
use Rattle.link_frames.specs.declared.parts.LinkPart.TheVariants.{Opens, Answers, Carries}
use Rattle.link_frames.specs.declared.parts.Stage.{Stage}
use Rattle.link_frames.specs.declared.parts.Stage.TheVariants as stage
use Rattle.link_frames.specs.declared.parts.TheConstants.{MAGIC}

pub less : (a b : ℕ) → a < b → nat_lt a b ≡ true
less a b h = grind (arith, nat_tests)

pub not_less : (a b : ℕ) → b ≤ a → nat_lt a b ≡ false
not_less a b h = grind (arith, nat_tests)

pub is_less : (a b : ℕ) → nat_lt a b ≡ true → a < b
is_less a b h = grind (arith, nat_tests)

pub is_not_less : (a b : ℕ) → nat_lt a b ≡ false → b ≤ a
is_not_less a b h = grind (arith, nat_tests)

pub is_equal : (a b : ℕ) → (a == b) ≡ true → a ≡ b
is_equal a b h = grind (arith, nat_tests)

pub equal : (a b : ℕ) → a ≡ b → (a == b) ≡ true
equal a b h = grind (arith, nat_tests)

-- more bytes after a text

pub part-append : (at n : ℕ) (text more : List ℕ) → at + n ≤ length text → take n (drop at (text ++ more)) ≡ take n (drop at text)
part-append at n text more h =
    ap (take n) (drop-append-le at text more (omega arith))
    ∙ take-append-le n (drop at text) more (omega (arith, length-drop at text))

pub short_at-append : (at : ℕ) (text more : List ℕ) → at + 2 ≤ length text → short_at at (text ++ more) ≡ short_at at text
short_at-append at text more h = ap (from_le_bytes w16) (part-append at 2 text more h)

pub number_at-append : (at : ℕ) (text more : List ℕ) → at + 4 ≤ length text → number_at at (text ++ more) ≡ number_at at text
number_at-append at text more h = ap (from_le_bytes w32) (part-append at 4 text more h)

pub long_at-append : (at : ℕ) (text more : List ℕ) → at + 8 ≤ length text → long_at at (text ++ more) ≡ long_at at text
long_at-append at text more h = ap (from_le_bytes w64) (part-append at 8 text more h)

-- a hello

pub hello_begun : (text : List ℕ) → length text < 78 → hello_front text ≡ Partial
hello_begun text few = rw (less (length text) 78 few) refl

pub hello_whole : (text : List ℕ) → 78 ≤ length text → (number_at 0 text == MAGIC) ≡ true → hello_front text ≡ Whole (Opens (hello_of text)) 78
hello_whole text h e = rw (not_less (length text) 78 h, e) refl

pub hello_wrong : (text : List ℕ) → 78 ≤ length text → (number_at 0 text == MAGIC) ≡ false → hello_front text ≡ Wrong NotALink
hello_wrong text h e = rw (not_less (length text) 78 h, e) refl

abbrev hello_with : List ℕ → ℕ → ℕ → ℕ → List ℕ → Hello
hello_with grid member peer process challenge = record { grid = grid; member = member; peer = peer; process = process; challenge = challenge }

hello_of-append : (text more : List ℕ) → 78 ≤ length text → hello_of (text ++ more) ≡ hello_of text
hello_of-append text more h =
    let t = text ++ more in
    ap (λ g. hello_with g (get_or t 36 0) (get_or t 37 0) (long_at 38 t) (take 32 (drop 46 t))) (part-append 4 32 text more (omega arith))
    ∙ ap (λ m. hello_with (take 32 (drop 4 text)) m (get_or t 37 0) (long_at 38 t) (take 32 (drop 46 t))) (get_or_append_left text more 0 36 (omega arith))
    ∙ ap (λ m. hello_with (take 32 (drop 4 text)) (get_or text 36 0) m (long_at 38 t) (take 32 (drop 46 t))) (get_or_append_left text more 0 37 (omega arith))
    ∙ ap (λ p. hello_with (take 32 (drop 4 text)) (get_or text 36 0) (get_or text 37 0) p (take 32 (drop 46 t))) (long_at-append 38 text more (omega arith))
    ∙ ap (λ c. hello_with (take 32 (drop 4 text)) (get_or text 36 0) (get_or text 37 0) (long_at 38 text) c) (part-append 46 32 text more (omega arith))

-- a batch

pub batch_early : (text : List ℕ) → length text < 10 → batch_front text ≡ Partial
batch_early text few = rw (less (length text) 10 few) refl

pub batch_absent : (text : List ℕ) → 10 ≤ length text → nat_lt (short_at 0 text) 271 ≡ false → batch_front text ≡ Wrong NoPartition
batch_absent text h p = rw (not_less (length text) 10 h, p) refl

pub batch_too_long : (text : List ℕ) → 10 ≤ length text → nat_lt (short_at 0 text) 271 ≡ true → 1073741824 < stated_length text
    → batch_front text ≡ Wrong TooLong
batch_too_long text h p l = rw (not_less (length text) 10 h, p, less 1073741824 (stated_length text) l) refl

pub batch_begun : (text : List ℕ) → 10 ≤ length text → nat_lt (short_at 0 text) 271 ≡ true → stated_length text ≤ 1073741824
    → length text < 10 + stated_length text → batch_front text ≡ Partial
batch_begun text h p l o =
    rw (not_less (length text) 10 h, p, not_less 1073741824 (stated_length text) l, less (length text) (10 + stated_length text) o) refl

pub batch_differs : (text : List ℕ) → 10 ≤ length text → nat_lt (short_at 0 text) 271 ≡ true → stated_length text ≤ 1073741824
    → 10 + stated_length text ≤ length text → (checksum (batch_of text).partition (batch_of text).bytes == number_at 6 text) ≡ false
    → batch_front text ≡ Wrong Checksum
batch_differs text h p l f e =
    rw (not_less (length text) 10 h, p, not_less 1073741824 (stated_length text) l, not_less (length text) (10 + stated_length text) f, e) refl

pub batch_whole : (text : List ℕ) → 10 ≤ length text → nat_lt (short_at 0 text) 271 ≡ true → stated_length text ≤ 1073741824
    → 10 + stated_length text ≤ length text → (checksum (batch_of text).partition (batch_of text).bytes == number_at 6 text) ≡ true
    → batch_front text ≡ Whole (Carries (batch_of text)) (10 + stated_length text)
batch_whole text h p l f e =
    rw (not_less (length text) 10 h, p, not_less 1073741824 (stated_length text) l, not_less (length text) (10 + stated_length text) f, e) refl

abbrev batch_with : ℕ → List ℕ → Batch
batch_with partition bytes = record { partition = partition; bytes = bytes }

batch_of-append : (text more : List ℕ) → 10 ≤ length text → 10 + stated_length text ≤ length text → batch_of (text ++ more) ≡ batch_of text
batch_of-append text more h f =
    let t = text ++ more in
    ap (λ p. batch_with p (take (stated_length t) (drop 10 t))) (short_at-append 0 text more (omega arith))
    ∙ ap (λ n. batch_with (short_at 0 text) (take n (drop 10 t))) (number_at-append 2 text more (omega arith))
    ∙ ap (batch_with (short_at 0 text)) (part-append 10 (stated_length text) text more f)

-- any stage

pub data FrontCase (at : Stage) (text : List ℕ) : Type 0 where
  begun : (is : front at text ≡ Partial) → FrontCase at text
  fails : (why : LinkFault) (some : 0 < length text) (is : front at text ≡ Wrong why) (stays : (more : List ℕ) → front at (text ++ more) ≡ Wrong why) → FrontCase at text
  gives : (part : LinkPart) (n : ℕ) (some : 0 < n) (within : n ≤ length text) (is : front at text ≡ Whole part n)
      (stays : (more : List ℕ) → front at (text ++ more) ≡ Whole part n) → FrontCase at text

more_than : (n : ℕ) (text more : List ℕ) → n ≤ length text → n ≤ length (text ++ more)
more_than n text more h = omega (arith, length-append text more)

hello_cases : (text : List ℕ) → FrontCase stage.Hello text
hello_cases text = ⊎_elim (λ few. begun (hello_begun text few)) (λ h. tested (number_at 0 text == MAGIC) h refl) (cases_lt (length text) 78)
  where
    tested : (b : Bool) → 78 ≤ length text → (number_at 0 text == MAGIC) ≡ b → FrontCase stage.Hello text
    tested true h e =
        gives (Opens (hello_of text)) 78 (lit< tt) h (hello_whole text h e)
        (λ more.
        hello_whole (text ++ more) (more_than 78 text more h) (ap (λ n. n == MAGIC) (number_at-append 0 text more (omega arith)) ∙ e)
        ∙ ap (λ hello. Whole (Opens hello) 78) (hello_of-append text more h))
    tested false h e =
        fails NotALink (omega arith) (hello_wrong text h e)
        (λ more. hello_wrong (text ++ more) (more_than 78 text more h) (ap (λ n. n == MAGIC) (number_at-append 0 text more (omega arith)) ∙ e))

pub answer_begun : (text : List ℕ) → length text < 32 → answer_front text ≡ Partial
answer_begun text few = rw (less (length text) 32 few) refl

pub answer_whole : (text : List ℕ) → 32 ≤ length text → answer_front text ≡ Whole (Answers (take 32 (drop 0 text))) 32
answer_whole text h = rw (not_less (length text) 32 h) refl

answer_cases : (text : List ℕ) → FrontCase stage.Answer text
answer_cases text =
    ⊎_elim (λ few. begun (answer_begun text few))
    (λ h.
    gives (Answers (take 32 (drop 0 text))) 32 (lit< tt) h (answer_whole text h)
    (λ more. answer_whole (text ++ more) (more_than 32 text more h) ∙ ap (λ answer. Whole (Answers answer) 32) (part-append 0 32 text more (omega arith))))
    (cases_lt (length text) 32)

batch_cases : (text : List ℕ) → FrontCase stage.Batch text
batch_cases text = ⊎_elim (λ few. begun (batch_early text few)) (λ h. there h (nat_lt (short_at 0 text) 271) refl) (cases_lt (length text) 10)
  where
    short : (more : List ℕ) → 10 ≤ length text → (b : Bool) → nat_lt (short_at 0 text) 271 ≡ b → nat_lt (short_at 0 (text ++ more)) 271 ≡ b
    short more h b p = ap (λ n. nat_lt n 271) (short_at-append 0 text more (omega arith)) ∙ p

    stated : (more : List ℕ) → 10 ≤ length text → stated_length (text ++ more) ≡ stated_length text
    stated more h = number_at-append 2 text more (omega arith)

    sums : (more : List ℕ) → 10 ≤ length text → 10 + stated_length text ≤ length text
        → (checksum (batch_of (text ++ more)).partition (batch_of (text ++ more)).bytes == number_at 6 (text ++ more))
        ≡ (checksum (batch_of text).partition (batch_of text).bytes == number_at 6 text)
    sums more h f =
        ap (λ (b : Batch). checksum b.partition b.bytes == number_at 6 (text ++ more)) (batch_of-append text more h f)
        ∙ ap (λ n. checksum (batch_of text).partition (batch_of text).bytes == n) (number_at-append 6 text more (omega arith))

    full : (b : Bool) → 10 ≤ length text → nat_lt (short_at 0 text) 271 ≡ true → stated_length text ≤ 1073741824
        → 10 + stated_length text ≤ length text → (checksum (batch_of text).partition (batch_of text).bytes == number_at 6 text) ≡ b
        → FrontCase stage.Batch text
    full true h p l f e =
        gives (Carries (batch_of text)) (10 + stated_length text) (omega arith) f (batch_whole text h p l f e)
        (λ more.
        batch_whole (text ++ more) (more_than 10 text more h) (short more h true p) (omega (arith, stated more h, l))
        (omega (arith, stated more h, f, length-append text more)) (sums more h f ∙ e)
        ∙ ap (λ batch. Whole (Carries batch) (10 + stated_length (text ++ more))) (batch_of-append text more h f)
        ∙ ap (λ n. Whole (Carries (batch_of text)) (10 + n)) (stated more h))
    full false h p l f e =
        fails Checksum (omega arith) (batch_differs text h p l f e)
        (λ more.
        batch_differs (text ++ more) (more_than 10 text more h) (short more h true p) (omega (arith, stated more h, l))
        (omega (arith, stated more h, f, length-append text more)) (sums more h f ∙ e))

    limited : 10 ≤ length text → nat_lt (short_at 0 text) 271 ≡ true → stated_length text ≤ 1073741824 → FrontCase stage.Batch text
    limited h p l =
        ⊎_elim (λ o. begun (batch_begun text h p l o))
        (λ f. full (checksum (batch_of text).partition (batch_of text).bytes == number_at 6 text) h p l f refl)
        (cases_lt (length text) (10 + stated_length text))

    there : 10 ≤ length text → (b : Bool) → nat_lt (short_at 0 text) 271 ≡ b → FrontCase stage.Batch text
    there h true p =
        ⊎_elim
        (λ l.
        fails TooLong (omega arith) (batch_too_long text h p l)
        (λ more. batch_too_long (text ++ more) (more_than 10 text more h) (short more h true p) (omega (arith, stated more h, l))))
        (λ l. limited h p l) (cases_lt 1073741824 (stated_length text))
    there h false p =
        fails NoPartition (omega arith) (batch_absent text h p) (λ more. batch_absent (text ++ more) (more_than 10 text more h) (short more h false p))

pub front_cases : (at : Stage) (text : List ℕ) → FrontCase at text
front_cases stage.Hello text = hello_cases text
front_cases stage.Answer text = answer_cases text
front_cases stage.Batch text = batch_cases text
