-- A connection of the table, and the lines of a call, after a change to one connection.
use Rattle.std.proofs.Common.{◌≡◌, ◌≢◌, ℕ, zero, suc, ◌<◌, List, [], ◌∷◌, ◌++◌, length, Option, Some, None, refl, ap, sym, ◌∙◌, subst, ⊎_elim}
use Rattle.std.specs.Option.{option_map, option_and_then, option_or}
use Rattle.std.specs.List.{slice_get}
use Rattle.std.proofs.lemmas.Bool.{cases_eq}
use Rattle.std.proofs.lemmas.Option.{slice_get-get_or}
use Rattle.partition_protocol.proofs.Lists.{set_get_same, set_get_other}
use Rattle.grid_base.specs.declared.names.CallId.{CallId}
use Rattle.replay_run.specs.declared.connections.CallLines.{CallLines}
use Rattle.replay_run.specs.Tables.{Table, Opened, present, opened_at, lines_of, silent, with_opened, changed_at, with_change, lines_answered, answered, with_answer}

-- options

pub map_some : {X Y : Type 0} (f : X → Y) (o : Option X) (y : Y) → option_map f o ≡ Some y → (x : X) × (o ≡ Some x) × (f x ≡ y)
map_some f None y e = absurd cc
map_some f (Some x) y e = let same : f x ≡ y = cc in (x, refl, same)

pub map_none : {X Y : Type 0} (f : X → Y) (o : Option X) → option_map f o ≡ None → o ≡ None
map_none f None e = refl
map_none f (Some x) e = absurd cc

pub or_none : {X : Type 0} (o : Option X) → option_or o None ≡ o
or_none None = refl
or_none (Some x) = refl

-- lists

changed_here : {X : Type 0} (change : X → X) (xs : List X) (i : ℕ) → slice_get (changed_at xs i change) i ≡ option_map change (slice_get xs i)
changed_here change [] i = refl
changed_here change (x ∷ xs) zero = refl
changed_here change (x ∷ xs) (suc i) = changed_here change xs i

changed_elsewhere : {X : Type 0} (change : X → X) (xs : List X) (i j : ℕ) → j ≢ i → slice_get (changed_at xs i change) j ≡ slice_get xs j
changed_elsewhere change [] i j apart = refl
changed_elsewhere change (x ∷ xs) zero zero apart = absurd (apart refl)
changed_elsewhere change (x ∷ xs) zero (suc j) apart = refl
changed_elsewhere change (x ∷ xs) (suc i) zero apart = refl
changed_elsewhere change (x ∷ xs) (suc i) (suc j) apart = changed_elsewhere change xs i j (λ e. apart (ap (λ n. suc n) e))

pub length-changed_at : {X : Type 0} (change : X → X) (xs : List X) (i : ℕ) → length (changed_at xs i change) ≡ length xs
length-changed_at change [] i = refl
length-changed_at change (x ∷ xs) zero = refl
length-changed_at change (x ∷ xs) (suc i) = ap (λ n. suc n) (length-changed_at change xs i)

pub got_last : {X : Type 0} (xs : List X) (x : X) → slice_get (xs ++ x ∷ []) (length xs) ≡ Some x
got_last [] x = refl
got_last (y ∷ ys) x = got_last ys x

pub got_before : {X : Type 0} (xs : List X) (x : X) (i : ℕ) → i ≢ length xs → slice_get (xs ++ x ∷ []) i ≡ slice_get xs i
got_before [] x zero apart = absurd (apart refl)
got_before [] x (suc i) apart = refl
got_before (y ∷ ys) x zero apart = refl
got_before (y ∷ ys) x (suc i) apart = got_before ys x i (λ e. apart (ap (λ n. suc n) e))

-- connections

present_map : {X : Type 0} (change : X → X) (slot : Option (Option X)) → present (option_map (option_map change) slot) ≡ option_map change (present slot)
present_map change None = refl
present_map change (Some slot) = refl

pub opened_changed : (t : Table) (c : ℕ) (change : Opened → Opened) → opened_at (with_change t c change) c ≡ option_map change (opened_at t c)
opened_changed t c change = ap present (changed_here (option_map change) t c) ∙ present_map change (slice_get t c)

pub opened_unchanged : (t : Table) (c d : ℕ) (change : Opened → Opened) → d ≢ c → opened_at (with_change t c change) d ≡ opened_at t d
opened_unchanged t c d change apart = ap present (changed_elsewhere (option_map change) t c d apart)

pub opened_anew : (t : Table) (c member : ℕ) → c < length t → opened_at (with_opened t c member) c ≡ Some (silent c member)
opened_anew t c member within = ap present (set_get_same t c (Some (silent c member)) _ (slice_get-get_or t c None within))

pub opened_before : (t : Table) (c d member : ℕ) → d ≢ c → opened_at (with_opened t c member) d ≡ opened_at t d
opened_before t c d member apart = ap present (set_get_other t c d (Some (silent c member)) apart)

-- the lines of calls

abbrev pub line_at : ℕ → Opened → Option CallLines
line_at n o = present (slice_get o.calls n)

-- what they are at each number of calls, and of no other connection, where only the calls of one connection change
pub lines_elsewhere : (t : Table) (c : ℕ) (change : Opened → Opened) (id : CallId) → (id.conn ≡ c → (o : Opened) → opened_at t c ≡ Some o → line_at id.number (change o) ≡ line_at id.number o) → lines_of (with_change t c change) id ≡ lines_of t id
lines_elsewhere t c change id kept = ⊎_elim here (λ apart. ap (option_and_then (line_at id.number)) (opened_unchanged t c id.conn change apart)) (cases_eq id.conn c)
  where
    at : (o : Option Opened) → ((x : Opened) → o ≡ Some x → line_at id.number (change x) ≡ line_at id.number x) → option_and_then (line_at id.number) (option_map change o) ≡ option_and_then (line_at id.number) o
    at None f = refl
    at (Some o) f = f o refl

    here : id.conn ≡ c → lines_of (with_change t c change) id ≡ lines_of t id
    here e =
        subst (λ n. option_and_then (line_at id.number) (opened_at (with_change t c change) n) ≡ option_and_then (line_at id.number) (opened_at t n)) (sym e)
        (ap (option_and_then (line_at id.number)) (opened_changed t c change) ∙ at (opened_at t c) (kept e))

-- the lines of a call that was answered
pub lines_marked : (t : Table) (id : CallId) (line : ℕ) → lines_of (with_answer t id line) id ≡ option_map (lines_answered line) (lines_of t id)
lines_marked t id line = ap (option_and_then (line_at id.number)) (opened_changed t id.conn (answered id.number line)) ∙ at (opened_at t id.conn)
  where
    at : (o : Option Opened) → option_and_then (line_at id.number) (option_map (answered id.number line) o) ≡ option_map (lines_answered line) (option_and_then (line_at id.number) o)
    at None = refl
    at (Some o) = ap present (changed_here (option_map (lines_answered line)) o.calls id.number) ∙ present_map (lines_answered line) (slice_get o.calls id.number)

pub answered_elsewhere : (o : Opened) (number line i : ℕ) → i ≢ number → line_at i (answered number line o) ≡ line_at i o
answered_elsewhere o number line i apart = ap present (changed_elsewhere (option_map (lines_answered line)) o.calls number i apart)
