-- A piece more of a script.
use Rattle.std.proofs.Common.{◌≡◌, ◌⊎◌, inl, inr, ℕ, ◌+◌, ◌-◌, ◌≤◌, ◌<◌, min, Bool, true, false, nat_lt, ◌==◌, ◌&&◌, ◌||◌, List, [], ◌++◌, length, take, drop, Ok, refl, ap, sym, ◌∙◌, subst, arith, append-nil, length-append, vec_len}
use Rattle.std.proofs.lemmas.Bool.Decides.{nat_tests}
use Rattle.std.proofs.lemmas.List.{length-take, take-take, take_all}
use Rattle.std.proofs.Math.Seq.{take-append-add}
use Rattle.grid_edge.specs.Given.{Given, found_end, after_piece}
use Rattle.grid_cli.proofs.Tests.{within_limit, past_limit}
use Rattle.script_lang.specs.Limits.{most_bytes}
use Rattle.live_control.specs.declared.lines.LineReader.{LineReader}
use Rattle.live_control.specs.Reading.{ahead, IsAmid, HasCome, HasComeOn, HasNoMore, HasRead}
use Rattle.live_control.proofs.Ahead.{is_past, is_within}
use Rattle.live_control.proofs.Looking.{a as told_amid, still_amid, few_came, came_bytes, came_is}

test_cases : (b : Bool) → (b ≡ true) ⊎ (b ≡ false)
test_cases true = inl refl
test_cases false = inr refl

over_by : (k n : ℕ) → k ≤ most_bytes → nat_lt (most_bytes - k) n ≡ nat_lt most_bytes (k + n)
over_by k n less = Rattle.std.proofs.Common.⊎_elim
    (λ (e : nat_lt (most_bytes - k) n ≡ true). let past = is_past n (most_bytes - k) e in e ∙ sym (past_limit (k + n) most_bytes (omega (arith, past, less))))
    (λ (e : nat_lt (most_bytes - k) n ≡ false). let within = is_within n (most_bytes - k) e in e ∙ sym (within_limit (k + n) most_bytes (omega (arith, within, less))))
    (test_cases (nat_lt (most_bytes - k) n))

-- as much of a piece as there is room for
cut_piece : (piece : List ℕ) (n room : ℕ) → take room (take n piece) ≡ take (min n room) piece
cut_piece piece n room = Rattle.std.proofs.Common.⊎_elim
    (λ (e : nat_lt n room ≡ true). let less = is_past room n e in take_all room (take n piece) (omega (arith, less, length-take n piece)) ∙ ap (λ k. take k piece) (let is : n ≡ min n room = omega (arith, less) in is))
    (λ (e : nat_lt n room ≡ false). let less = is_within room n e in take-take room n piece less ∙ ap (λ k. take k piece) (let is : room ≡ min n room = omega (arith, less) in is))
    (test_cases (nat_lt n room))

module _ (old : LineReader) (before after : Given) (came : List ℕ) (given : List (List ℕ)) (h : HasCome old before came given old.line.items) (going : old.has_ended ≡ false) (spent : old.from ≡ old.to) (within : old.is_over ≡ false) where
  -- the reader after a piece of n bytes
  module _ (new : LineReader) (n : ℕ) (same_line : new.line ≡ old.line) (same_lines : new.lines ≡ old.lines) (same_ended : new.has_ended ≡ old.has_ended) (size : vec_len new.piece ≡ vec_len old.piece) (fits : n ≤ length new.piece.items) (from : new.from ≡ 0) (to : new.to ≡ min n (most_bytes - old.bytes)) (bytes : new.bytes ≡ old.bytes + new.to) (over : new.is_over ≡ nat_lt (most_bytes - old.bytes) n) where
    abbrev a : IsAmid old came given old.line.items
    a = told_amid old before came given h going

    came_few : length came ≤ most_bytes
    came_few = few_came old before came given h going spent within

    had : old.bytes ≡ length came
    had = came_bytes old before came given h going spent within

    abbrev room : ℕ
    room = most_bytes - old.bytes

    abbrev pub more : List ℕ
    more = take n new.piece.items

    more_long : length more ≡ n
    more_long = omega (arith, length-take n new.piece.items, fits)

    ahead_is : ahead new ≡ take room more
    ahead_is = ap (λ f. drop f (take new.to new.piece.items)) from ∙ (ap (λ t. take t new.piece.items) to ∙ sym (cut_piece new.piece.items n room))

    whole : take most_bytes (came ++ more) ≡ a.looked ++ ahead new
    whole = let full : most_bytes ≡ length came + room = omega (arith, had, came_few) in
        ap (λ k. take k (came ++ more)) full ∙ (take-append-add came more room ∙ (ap (λ (l : List ℕ). l ++ take room more) (came_is old before came given h going spent within) ∙ ap (λ (l : List ℕ). a.looked ++ l) (sym ahead_is)))

    looked_long : length a.looked ≡ length came
    looked_long = ap length (sym (came_is old before came given h going spent within))

    ahead_long : length (ahead new) ≡ new.to
    ahead_long = ap length ahead_is ∙ omega (arith, length-take room more, more_long, to)

    pub come_on : HasCome new after (came ++ more) given new.line.items
    come_on = record {
      size = size ∙ h.size;
      placed = omega (arith, from);
      inside = let size_is = h.size in omega (arith, to, fits, size, size_is, new.piece.ok.0);
      few = let less = h.few in omega (arith, bytes, to, less);
      count = same_lines ∙ h.count;
      at = still_amid new after (came ++ more) given new.line.items (same_ended ∙ going) (record {
        looked = a.looked;
        whole = whole;
        within = a.within;
        lines = a.lines;
        left = a.left ∙ ap (λ l. l.items) (sym same_line);
        bytes = bytes ∙ (sym (omega (arith, had, ahead_long, looked_long, length-append a.looked (ahead new))) ∙ ap length (sym whole));
        over = over ∙ (over_by old.bytes n h.few ∙ ap (nat_lt most_bytes) (omega (arith, had, more_long, length-append came more)));
      });
    }

    -- it isn't empty
    pub come_further : 0 < n → HasComeOn old new after (came ++ more) given
    come_further some = record {
      come = come_on;
      going = same_ended ∙ going;
      less = Rattle.std.proofs.Common.⊎_elim
          (λ (e : nat_lt 0 room ≡ true). inl (let is = is_past room 0 e in omega (arith, is, bytes, to, some)))
          (λ (e : nat_lt 0 room ≡ false). inr (let is = is_within room 0 e in (omega (arith, is, bytes, to), over ∙ past_limit n room (omega (arith, is, some)))))
          (test_cases (nat_lt 0 room));
    }

    -- it is: the source has ended
    pub no_more : n ≡ 0 → (asked : ℕ) → 0 < asked → after ≡ after_piece before asked n more → HasNoMore new before after came given
    no_more none asked some gave =
        let nothing : more ≡ [] = ap (λ k. take k new.piece.items) none in
        let found : found_end asked n ≡ true = grind (arith, nat_tests) in record {
          kept = ap (λ (g : Given). g.bytes) gave ∙ (ap (λ (l : List ℕ). before.bytes ++ l) nothing ∙ append-nil before.bytes);
          at_end = ap (λ (g : Given). g.ended) gave ∙ ap (λ b. b || before.ended) found;
          come = subst (λ (l : List ℕ). HasCome new after l given new.line.items) (ap (λ (l : List ℕ). came ++ l) nothing ∙ append-nil came) come_on;
          going = same_ended ∙ going;
          spent = omega (arith, from, to, none);
          within = over ∙ within_limit n room (omega (arith, none));
        }

    pub has_read : (b : Bool) → nat_lt 0 n ≡ b → (asked : ℕ) → 0 < asked → after ≡ after_piece before asked n more → HasRead (Ok b) old new before after came given
    has_read true e asked some gave = (more, ap (λ (g : Given). g.bytes) gave, come_further (is_past n 0 e))
    has_read false e asked some gave = let none : n ≡ 0 = (let few = is_within n 0 e in omega (arith, few)) in no_more none asked some gave
