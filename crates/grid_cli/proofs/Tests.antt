-- What the tests of a script's limits say.
use Rattle.std.proofs.Common.{◌≡◌, ◌≢◌, ℕ, ◌-◌, ◌≤◌, ◌<◌, ◌==◌, ◌⊎◌, inl, inr, Bool, true, false, cond, List, [], ◌∷◌, length, Some, None, nat_lt, refl, ap, sym, ◌∙◌, arith}
use Rattle.std.proofs.lemmas.Bool.Decides.{nat_tests}
use Rattle.script_lang.specs.Limits.{most_lines, most_line_bytes}
use Rattle.grid_cli.specs.Scripts.{Cut, stops, within, last_cut, limit_in}
use Rattle.grid_cli.specs.Replays.{last_line}
use Rattle.grid_cli.specs.declared.status.LimitWhat.{LimitWhat}
use Rattle.grid_cli.specs.declared.status.LimitWhat.TheVariants.{Bytes, Lines, Line}

pub within_limit : (n limit : ℕ) → n ≤ limit → nat_lt limit n ≡ false
within_limit n limit h = grind (arith, nat_tests)

pub past_limit : (n limit : ℕ) → limit < n → nat_lt limit n ≡ true
past_limit n limit h = grind (arith, nat_tests)

is_past : (n limit : ℕ) → nat_lt limit n ≡ true → limit < n
is_past n limit h = grind (arith, nat_tests)

is_within : (n limit : ℕ) → nat_lt limit n ≡ false → n ≤ limit
is_within n limit h = grind (arith, nat_tests)

same : (n m : ℕ) → (n == m) ≡ true → n ≡ m
same n m h = grind (arith, nat_tests)

different : (n m : ℕ) → (n == m) ≡ false → n ≢ m
different n m h e = grind (arith, nat_tests)

is_same : (n m : ℕ) → n ≡ m → (n == m) ≡ true
is_same n m h = grind (arith, nat_tests)

is_other : (n m : ℕ) → n ≢ m → (n == m) ≡ false
is_other n m h = grind (arith, nat_tests)

is_zero : (n : ℕ) → n ≡ 0 → (n == 0) ≡ true
is_zero n h = grind (arith, nat_tests)

not_zero : (n : ℕ) → 0 < n → (n == 0) ≡ false
not_zero n h = grind (arith, nat_tests)

-- a line that is within the limits
pub within_room : (left : ℕ) (line : List ℕ) (c : Cut) → 0 < left → length line ≤ most_line_bytes → within left line c ≡ c
within_room left line c some few =
    ap (λ b. cond b (stops Lines) (cond (nat_lt most_line_bytes (length line)) (stops Line) c)) (not_zero left some)
    ∙ ap (λ b. cond b (stops Line) c) (within_limit (length line) most_line_bytes few)

no_lines_left : (left : ℕ) (line : List ℕ) (c : Cut) → left ≡ 0 → within left line c ≡ stops Lines
no_lines_left left line c none = ap (λ b. cond b (stops Lines) (cond (nat_lt most_line_bytes (length line)) (stops Line) c)) (is_zero left none)

too_long : (left : ℕ) (line : List ℕ) (c : Cut) → 0 < left → most_line_bytes < length line → within left line c ≡ stops Line
too_long left line c some many =
    ap (λ b. cond b (stops Lines) (cond (nat_lt most_line_bytes (length line)) (stops Line) c)) (not_zero left some)
    ∙ ap (λ b. cond b (stops Line) c) (past_limit (length line) most_line_bytes many)

-- which limit is in a line
pub all_lines : (lines : ℕ) (line : List ℕ) → lines ≡ most_lines → Some Lines ≡ limit_in lines line
all_lines lines line all = sym (ap (λ b. cond b (Some Lines) (cond (nat_lt most_line_bytes (length line)) (Some Line) None)) (is_same lines most_lines all))

pub long_line : (lines : ℕ) (line : List ℕ) → lines ≢ most_lines → most_line_bytes < length line → Some Line ≡ limit_in lines line
long_line lines line other many =
    sym (ap (λ b. cond b (Some Lines) (cond (nat_lt most_line_bytes (length line)) (Some Line) None)) (is_other lines most_lines other)
    ∙ ap (λ b. cond b (Some Line) None) (past_limit (length line) most_line_bytes many))

pub no_limit : (lines : ℕ) (line : List ℕ) → lines ≢ most_lines → length line ≤ most_line_bytes → None ≡ limit_in lines line
no_limit lines line other few =
    sym (ap (λ b. cond b (Some Lines) (cond (nat_lt most_line_bytes (length line)) (Some Line) None)) (is_other lines most_lines other)
    ∙ ap (λ b. cond b (Some Line) None) (within_limit (length line) most_line_bytes few))

-- No limit is in a line that is within them.
pub limit_in_none : (lines : ℕ) (line : List ℕ) → limit_in lines line ≡ None → lines ≤ most_lines → (lines < most_lines) × (length line ≤ most_line_bytes)
limit_in_none lines line none few = by_tests (lines == most_lines) (nat_lt most_line_bytes (length line)) refl refl none
  where
    by_tests : (b d : Bool) → (lines == most_lines) ≡ b → nat_lt most_line_bytes (length line) ≡ d → cond b (Some Lines) (cond d (Some Line) None) ≡ None
        → (lines < most_lines) × (length line ≤ most_line_bytes)
    by_tests true d e f h = absurd (cc h)
    by_tests false true e f h = absurd (cc h)
    by_tests false false e f h = let other = different lines most_lines e in let short = is_within (length line) most_line_bytes f in (omega arith, short)

-- A line with a limit in it is cut off, and so is any that begins with it.
pub limit_stops : (lines : ℕ) (line longer : List ℕ) (c : Cut) (what : LimitWhat) → limit_in lines line ≡ Some what → lines ≤ most_lines → length line ≤ length longer
    → within (most_lines - lines) longer c ≡ stops what
limit_stops lines line longer c what is few begins = by_tests (lines == most_lines) (nat_lt most_line_bytes (length line)) refl refl is
  where
    by_tests : (b d : Bool) → (lines == most_lines) ≡ b → nat_lt most_line_bytes (length line) ≡ d → cond b (Some Lines) (cond d (Some Line) None) ≡ Some what
        → within (most_lines - lines) longer c ≡ stops what
    by_tests true d e f h =
        let what_is : Lines ≡ what = cc h in
        let all = same lines most_lines e in
        no_lines_left (most_lines - lines) longer c (omega arith) ∙ ap stops what_is
    by_tests false true e f h =
        let what_is : Line ≡ what = cc h in
        let other = different lines most_lines e in
        let many = is_past (length line) most_line_bytes f in
        too_long (most_lines - lines) longer c (omega arith) (omega arith) ∙ ap stops what_is
    by_tests false false e f h = absurd (cc h)

-- what stands after the last newline, within the limits
pub last_within : (past : Bool) (left : ℕ) (text : List ℕ) → (text ≡ []) ⊎ ((0 < left) × (length text ≤ most_line_bytes))
    → last_cut past left text ≡ cond past (stops Bytes) (record { lines = last_line text; limit = None })
last_within past left [] room = refl
last_within past left (x ∷ xs) (inl none) = absurd (cc none)
last_within past left (x ∷ xs) (inr room) = within_room left (x ∷ xs) _ room.0 room.1
