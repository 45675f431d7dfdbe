-- As many calls are marked in the table as arrived and were answered.
use Rattle.std.proofs.Common.{◌≡◌, ℕ, suc, ◌+◌, ◌-◌, ◌≤◌, ◌==◌, Bool, true, false, cond, ◌&&◌, List, [], ◌∷◌, map, Option, Some, None, slice_get, refl, ap, sym, ◌∙◌, inl, inr, arith}
use Rattle.std.specs.Prelude.{nat_le, is_some, count_by}
use Rattle.std.specs.Option.{option_map, option_and_then, option_or}
use Rattle.std.specs.List.{find, sum_by}
use Rattle.std.proofs.lemmas.Bool.Decides.{nat_tests}
use Rattle.std.proofs.lemmas.List.Sums.{sum_by-cons}
use Rattle.grid_base.specs.Names.{is_same_call}
use Rattle.grid_base.specs.declared.names.CallId.{CallId}
use Rattle.partition_protocol.specs.Arrivals.{NamedOnce}
use Rattle.partition_protocol.proofs.Lists.{In, contains_in}
use Rattle.partition_protocol.proofs.RowFacts.{false_or_not}
use Rattle.replay_run.specs.declared.connections.CallLines.{CallLines}
use Rattle.replay_run.specs.Runs.{Run, Arrival, Waiter, Appended, is_waiter}
use Rattle.replay_run.specs.Printing.{arrival_of, came_at, answer_of}
use Rattle.replay_run.specs.Counts.{is_answered}
use Rattle.replay_run.specs.Tables.{Table, Opened, present, is_marked, marked_in, answered_count}
use Rattle.replay_run.specs.Grids.{HasTable, lines_in}
use Rattle.replay_run.proofs.Parts.{in_map}
use Rattle.replay_run.proofs.Places.{same_call, same_call_refl, same_number}
use Rattle.replay_run.proofs.Tallies.{count_same}
use Rattle.replay_run.proofs.Trails.{find_some}
use Rattle.replay_run.proofs.RunFacts.{ArrivalsOk, arrival_name, id_name, arrival_found, came_of}

abbrev number : Bool → ℕ
number b = cond b 1 0

count_both : {X : Type 0} (p q s : X → Bool) (xs : List X) → ((x : X) → In x xs → number (p x) ≡ number (q x) + number (s x)) → count_by p xs ≡ count_by q xs + count_by s xs
count_both p q s [] h = refl
count_both p q s (x ∷ xs) h =
    let rest = count_both p q s xs (λ y i. h y (inr i)) in
    let here = h x (inl refl) in
    let whole = sum_by-cons (λ y. cond (p y) 1 0) x xs in
    let left = sum_by-cons (λ y. cond (q y) 1 0) x xs in
    let right = sum_by-cons (λ y. cond (s y) 1 0) x xs in
    omega (arith, rest, here, whole, left, right)

count_nothing : {X : Type 0} (p : X → Bool) (xs : List X) → ((x : X) → In x xs → p x ≡ true → ⊥) → count_by p xs ≡ 0
count_nothing p [] h = refl
count_nothing p (x ∷ xs) h =
    let rest = count_nothing p xs (λ y i. h y (inr i)) in
    let here = ap {B = ℕ} (λ b. cond b 1 0) (false_or_not (p x) (h x (inl refl))) in
    let whole = sum_by-cons (λ y. cond (p y) 1 0) x xs in
    omega (arith, rest, here, whole)

-- the arrival of a name is the only one
count_named : (f : Arrival → Bool) (xs : List Arrival) (b : Arrival) → NamedOnce (map arrival_name xs) → In b xs → count_by (λ (a : Arrival). is_same_call a.request.id b.request.id && f a) xs ≡ number (f b)
count_named f [] b once i = absurd i
count_named f (x ∷ xs) b once (inl e) =
    let none = count_nothing (λ (a : Arrival). is_same_call a.request.id b.request.id && f a) xs (λ y i t. once.0 (arrival_name y) (contains_in (arrival_name y) (map arrival_name xs) (in_map arrival_name xs y i)) (ap id_name (named y t) ∙ ap arrival_name (sym e))) in
    let whole = sum_by-cons (λ (a : Arrival). cond (is_same_call a.request.id b.request.id && f a) 1 0) x xs in
    let here = ap {B = ℕ} (λ t. cond (t && f x) 1 0) (ap (λ (y : Arrival). is_same_call y.request.id b.request.id) e ∙ same_call_refl b.request.id) in
    let its = ap {B = ℕ} (λ (y : Arrival). number (f y)) e in
    omega (arith, none, whole, here, its)
  where
    named : (y : Arrival) → (is_same_call y.request.id b.request.id && f y) ≡ true → y.request.id ≡ b.request.id
    named y t = same_call y.request.id b.request.id (left (is_same_call y.request.id b.request.id) t)
      where
        left : (p : Bool) → (p && f y) ≡ true → p ≡ true
        left true t = refl
        left false t = t
count_named f (x ∷ xs) b once (inr i) =
    let rest = count_named f xs b once.1 i in
    let other : is_same_call x.request.id b.request.id ≡ false = false_or_not (is_same_call x.request.id b.request.id)
    (λ e. once.0 (arrival_name b) (contains_in (arrival_name b) (map arrival_name xs) (in_map arrival_name xs b i)) (ap id_name (sym (same_call x.request.id b.request.id e)))) in
    let whole = sum_by-cons (λ (a : Arrival). cond (is_same_call a.request.id b.request.id && f a) 1 0) x xs in
    let here = ap {B = ℕ} (λ t. cond (t && f x) 1 0) other in
    omega (arith, rest, whole, here)

left_true : (a b : Bool) → (a && b) ≡ true → a ≡ true
left_true true b t = refl
left_true false b t = t

right_true : (a b : Bool) → (a && b) ≡ true → b ≡ true
right_true true b t = t
right_true false b t = absurd cc

at_least : (a b : ℕ) → nat_le a b ≡ true → a ≤ b
at_least a b e = grind (arith, nat_tests, e)

from_zero : (n : ℕ) → nat_le 0 n ≡ true
from_zero n = grind (arith, nat_tests)

shifted : (n i : ℕ) → n + 1 + i ≡ n + suc i
shifted n i = omega arith

zero_and : (i : ℕ) → 0 + i ≡ i
zero_and i = omega arith

minus_zero : (n : ℕ) → n ≡ n - 0
minus_zero n = omega arith

-- a number is this one, or a later one
one_more : (n k : ℕ) → number (nat_le n k) ≡ number (k == n) + number (nat_le (n + 1) k)
one_more n k = grind (arith, nat_tests)

on_numbers : (s le same later ans : Bool) → number le ≡ number same + number later → number (s && le && ans) ≡ number ((s && same) && ans) + number (s && later && ans)
on_numbers false le same later ans f = refl
on_numbers true true true true ans f = absurd (omega (arith, f))
on_numbers true true true false true f = refl
on_numbers true true true false false f = refl
on_numbers true true false true true f = refl
on_numbers true true false true false f = refl
on_numbers true true false false ans f = absurd (omega (arith, f))
on_numbers true false true later ans f = absurd (omega (arith, f))
on_numbers true false false true ans f = absurd (omega (arith, f))
on_numbers true false false false ans f = refl

on_connections : (le same all later ans : Bool) → all ≡ true → number le ≡ number same + number later → number (le && ans) ≡ number (same && all && ans) + number (later && ans)
on_connections le same false later ans e f = absurd cc
on_connections true true true true ans e f = absurd (omega (arith, f))
on_connections true true true false true e f = refl
on_connections true true true false false e f = refl
on_connections true false true true true e f = refl
on_connections true false true true false e f = refl
on_connections true false true false ans e f = absurd (omega (arith, f))
on_connections false true true later ans e f = absurd (omega (arith, f))
on_connections false false true true ans e f = absurd (omega (arith, f))
on_connections false false true false ans e f = refl

module _ (r : Run) (ok : ArrivalsOk r) (silent : (id : CallId) → arrival_of r id ≡ None → answer_of r id ≡ None) where
  abbrev come : List Arrival
  come = r.arrivals

  -- whether its call came on that connection with that number or a later one, and was answered
  abbrev from_number : ℕ → ℕ → Arrival → Bool
  from_number c n a = (a.request.id.conn == c) && nat_le n a.request.id.number && is_answered r a

  abbrev from_connection : ℕ → Arrival → Bool
  from_connection c a = nat_le c a.request.id.conn && is_answered r a

  -- what is marked of one call
  one_marked : (id : CallId) → number (is_marked (lines_in r id)) ≡ count_by (λ (a : Arrival). is_same_call a.request.id id && is_answered r a) come
  one_marked id = go (arrival_of r id) refl
    where
      with_answer : Option Appended → ℕ → CallLines
      with_answer answer line = record { arrived = line; answered = option_map (λ (m : Appended). m.line) answer }

      waiting : Option ℕ
      waiting = option_map (λ (w : Waiter). w.line) (find (is_waiter id) r.waiters)

      unmarked : (line : Option ℕ) → number (is_marked (option_map (with_answer None) line)) ≡ 0
      unmarked None = refl
      unmarked (Some line) = refl

      mapped : (answer : Option Appended) → is_some (option_map (λ (m : Appended). m.line) answer) ≡ is_some answer
      mapped None = refl
      mapped (Some m) = refl

      go : (found : Option Arrival) → arrival_of r id ≡ found → number (is_marked (lines_in r id)) ≡ count_by (λ (a : Arrival). is_same_call a.request.id id && is_answered r a) come
      go None e =
          let none = count_nothing (λ (a : Arrival). is_same_call a.request.id id && is_answered r a) come unheard in
          ap (λ (answer : Option Appended). number (is_marked (option_map (with_answer answer) (came_at r id)))) (silent id e) ∙ unmarked (came_at r id) ∙ sym none
        where
          unheard : (a : Arrival) → In a come → (is_same_call a.request.id id && is_answered r a) ≡ true → ⊥
          unheard a i t =
              let same = same_call a.request.id id (left (is_same_call a.request.id id) t) in
              let clash : None ≡ Some a = sym e ∙ ap (arrival_of r) (sym same) ∙ arrival_found r ok a i in
              cc
            where
              left : (p : Bool) → (p && is_answered r a) ≡ true → p ≡ true
              left true t = refl
              left false t = t
      go (Some b) e =
          let there = find_some (λ (a : Arrival). is_same_call a.request.id id) come b e in
          let same : b.request.id ≡ id = same_call b.request.id id there.1 in
          ap (λ (o : Option Arrival). number (is_marked (option_map (with_answer (answer_of r id)) (option_or (option_map (λ (a : Arrival). a.line) o) waiting)))) e
          ∙ ap {B = ℕ} number (mapped (answer_of r id) ∙ ap (λ x. is_some (answer_of r x)) (sym same))
          ∙ sym (count_named (is_answered r) come b ok.once there.0)
          ∙ ap (λ x. count_by (λ (a : Arrival). is_same_call a.request.id x && is_answered r a) come) same

  -- an arrival has its lines
  has_lines : (a : Arrival) → In a come → lines_in r a.request.id ≡ None → ⊥
  has_lines a i none =
      let lines : CallLines = record { arrived = a.line; answered = option_map (λ (m : Appended). m.line) (answer_of r a.request.id) } in
      let found : lines_in r a.request.id ≡ Some lines = ap {B = Option CallLines} (option_map (λ line. record { arrived = line; answered = option_map (λ (m : Appended). m.line) (answer_of r a.request.id) })) (came_of r ok a i) in
      no_clash lines (sym none ∙ found)
    where
      no_clash : (lines : CallLines) → None ≡ Some lines → ⊥
      no_clash lines e = cc

  abbrev named : ℕ → ℕ → CallId
  named c n = record { conn = c; number = n }

  -- the calls of a connection from a number on
  calls_marked : (c n : ℕ) (calls : List (Option CallLines)) → ((i : ℕ) → lines_in r (record { conn = c; number = n + i }) ≡ present (slice_get calls i)) → count_by is_marked calls ≡ count_by (from_number c n) come
  calls_marked c n [] has = sym (count_nothing (from_number c n) come none)
    where
      none : (a : Arrival) → In a come → from_number c n a ≡ true → ⊥
      none a i t =
          let first = left_true ((a.request.id.conn == c) && nat_le n a.request.id.number) (is_answered r a) t in
          let conn = same_number a.request.id.conn c (left_true (a.request.id.conn == c) (nat_le n a.request.id.number) first) in
          let later = at_least n a.request.id.number (right_true (a.request.id.conn == c) (nat_le n a.request.id.number) first) in
          let at : a.request.id.number ≡ n + (a.request.id.number - n) = omega arith in
          has_lines a i (ap (lines_in r) (λ j. record { conn = conn j; number = at j }) ∙ has (a.request.id.number - n))
  calls_marked c n (x ∷ calls) has =
      let rest = calls_marked c (n + 1) calls (λ i. ap (λ k. lines_in r (record { conn = c; number = k })) (shifted n i) ∙ has (suc i)) in
      let first = one_marked (record { conn = c; number = n }) in
      let zeroth : n ≡ n + 0 = omega arith in
      let here = ap {B = ℕ} (λ (o : Option CallLines). number (is_marked o)) (ap (λ k. lines_in r (record { conn = c; number = k })) zeroth ∙ has 0) in
      let whole = sum_by-cons (λ (o : Option CallLines). cond (is_marked o) 1 0) x calls in
      let split = count_both (from_number c n) (λ (a : Arrival). is_same_call a.request.id (record { conn = c; number = n }) && is_answered r a) (from_number c (n + 1)) come
      (λ a i. on_numbers (a.request.id.conn == c) (nat_le n a.request.id.number) (a.request.id.number == n) (nat_le (n + 1) a.request.id.number) (is_answered r a) (one_more n a.request.id.number)) in
      omega (arith, rest, first, here, whole, split)

  -- the connections from a number on
  slots_marked : (c : ℕ) (slots : Table) → ((id : CallId) → c ≤ id.conn → lines_in r id ≡ option_and_then (λ (opened : Opened). present (slice_get opened.calls id.number)) (present (slice_get slots (id.conn - c))))
      → sum_by marked_in slots ≡ count_by (from_connection c) come
  slots_marked c [] has = sym (count_nothing (from_connection c) come (λ a i t. has_lines a i (has a.request.id (at_least c a.request.id.conn (left_true (nat_le c a.request.id.conn) (is_answered r a) t)))))
  slots_marked c (slot ∷ slots) has =
      let rest = slots_marked (c + 1) slots (λ id below. has id (omega (arith, below)) ∙ ap (λ k. option_and_then (λ (opened : Opened). present (slice_get opened.calls id.number)) (present (slice_get (slot ∷ slots) k))) (further id.conn below)) in
      let first = here slot (λ id at. has id (omega (arith, at)) ∙ ap (λ k. option_and_then (λ (opened : Opened). present (slice_get opened.calls id.number)) (present (slice_get (slot ∷ slots) k))) (none_left id.conn at)) in
      let whole = sum_by-cons marked_in slot slots in
      let split = count_both (from_connection c) (from_number c 0) (from_connection (c + 1)) come
      (λ a i. on_connections (nat_le c a.request.id.conn) (a.request.id.conn == c) (nat_le 0 a.request.id.number) (nat_le (c + 1) a.request.id.conn) (is_answered r a) (from_zero a.request.id.number) (one_more c a.request.id.conn)) in
      omega (arith, rest, first, whole, split)
    where
      further : (conn : ℕ) → c + 1 ≤ conn → conn - c ≡ suc (conn - (c + 1))
      further conn below = omega (arith, below)

      none_left : (conn : ℕ) → conn ≡ c → conn - c ≡ 0
      none_left conn at = omega (arith, at)

      here : (one : Option Opened) → ((id : CallId) → id.conn ≡ c → lines_in r id ≡ option_and_then (λ (opened : Opened). present (slice_get opened.calls id.number)) one) → marked_in one ≡ count_by (from_number c 0) come
      here None lines = sym (count_nothing (from_number c 0) come (λ a i t. has_lines a i (lines a.request.id (same_number a.request.id.conn c (left_true (a.request.id.conn == c) (nat_le 0 a.request.id.number) (left_true ((a.request.id.conn == c) && nat_le 0 a.request.id.number) (is_answered r a) t))))))
      here (Some opened) lines = calls_marked c 0 opened.calls (λ i. lines (record { conn = c; number = 0 + i }) refl ∙ ap (λ k. present (slice_get opened.calls k)) (zero_and i))

  pub answers_marked : (t : Table) → HasTable t r → answered_count t ≡ count_by (is_answered r) come
  answers_marked t h =
      slots_marked 0 t (λ id below. sym (h.calls id) ∙ ap (λ k. option_and_then (λ (opened : Opened). present (slice_get opened.calls id.number)) (present (slice_get t k))) (minus_zero id.conn))
      ∙ count_same (from_connection 0) (is_answered r) come (λ a i. ap (λ b. b && is_answered r a) (from_zero a.request.id.conn))
