-- A client goes with the near cache's machine.
use Rattle.std.proofs.Common.{◌≡◌, ◌≢◌, ℕ, zero, suc, ◌+◌, ◌<◌, Bool, true, false, not, cond, ◌&&◌, ◌==◌, nat_lt, bytes_eq, List, [], ◌∷◌, ◌++◌, map, filter, take, length, Option, Some, None, option_map, refl, ap, sym, ◌∙◌, subst, arith}
use Rattle.std.specs.Prelude.{nat_le, ℤ}
use Rattle.std.specs.List.{find, AllByRecursion}
use Rattle.std.specs.Option.{option_map_or}
use Rattle.std.specs.Result.{result_ok}
use Rattle.std.proofs.lemmas.Bool.Decides.{nat_tests, same_from_decides}
use Rattle.std.proofs.lemmas.Slice.Eq.{bytes_eq-Decides}
use Rattle.grid_base.specs.Objects.{Object}
use Rattle.message_frames.specs.declared.message.Message.{Message}
use Rattle.near_protocol.specs.Keyed.{Keyed}
use Rattle.near_protocol.specs.Client.{Client, Said, Answer, Refusal, Invalidation, Rows, RowHeard, Overtaking, known_in, handled, rows_heard, row_heard as machine_row}
use Rattle.near_protocol.specs.Client as machine
use Rattle.near_protocol.proofs.Theorem.{every_hit_stands}
use Rattle.session_core.specs.Places.{partition_of_key}
use Rattle.near_cache.specs.Scopes.{is_in_partition}
use Rattle.event_codecs.specs.declared.seen.SeenRow.{SeenRow}
use Rattle.event_codecs.specs.Events.{event_of}
use Rattle.grid_client.specs.Lists.{erased_by}
use Rattle.grid_client.specs.Nears.{Near, Value, Entry, Look, is_for, hit, others, used, opened, has_number, look_up, closed, kept, filled, overtaking, dropping, invalidated, cleared}
use Rattle.grid_client.specs.Rows.{version_in, knowing}
use Rattle.grid_client.specs.Messages.{value_of, accepted_of}
use Rattle.grid_client.specs.States.{State, attached as attaching}
use Rattle.grid_client.specs.Hearing.{told_by_message, told_by_head, told_by_number, told_by_answer, told_by_event, told_by_rows, told_by_row, near_answered, clearing, cleared_by, knowing_row, is_near_map, welcomed, nothing, Told}
use Rattle.grid_client.specs.declared.heard.Heard.TheVariants as heard
use Rattle.grid_client.specs.Ties.{GoesByKeys, AreBelow, IsKey, IsTied, IsTiedTo, row_heard, IsAnswerTo, IsNoAnswer, EveryLookIsTheMachines, EveryHitIsTheMachines, EveryMissIsTheMachines, EveryMessageIsTheMachines, EveryCallKeepsTheTie, EveryRetryKeepsTheTie, EveryConnectionKeepsTheTie, EveryHitOfAClientStands}
use Rattle.grid_client.specs.declared.messages.Head.{Head}
use Rattle.grid_client.proofs.Lists.{none_erased}

-- ---- what holds of each

module _ {X : Type 0} (P : X → Type 0) where
  All-more : (xs : List X) (x : X) → AllByRecursion P xs → P x → AllByRecursion P (xs ++ x ∷ [])
  All-more [] x all h = (h, tt)
  All-more (y ∷ xs) x all h = (all.0, All-more xs x all.1 h)

  All-filter : (test : X → Bool) (xs : List X) → AllByRecursion P xs → AllByRecursion P (filter test xs)
  All-filter test [] all = tt
  All-filter test (x ∷ xs) all = by (test x) (All-filter test xs all.1)
    where
      by : (b : Bool) → AllByRecursion P (filter test xs) → AllByRecursion P (cond b (x ∷ filter test xs) (filter test xs))
      by true ih = (all.0, ih)
      by false ih = ih

  All-erased : (test : X → Bool) (xs : List X) → AllByRecursion P xs → AllByRecursion P (erased_by test xs)
  All-erased test [] all = tt
  All-erased test (x ∷ xs) all = by (test x) (All-erased test xs all.1)
    where
      by : (b : Bool) → AllByRecursion P (erased_by test xs) → AllByRecursion P (cond b xs (x ∷ erased_by test xs))
      by true ih = all.1
      by false ih = (all.0, ih)

  All-take : (n : ℕ) (xs : List X) → AllByRecursion P xs → AllByRecursion P (take n xs)
  All-take zero xs all = tt
  All-take (suc n) [] all = tt
  All-take (suc n) (x ∷ xs) all = (all.0, All-take n xs all.1)

  All-found : (test : X → Bool) (xs : List X) (x : X) → AllByRecursion P xs → find test xs ≡ Some x → P x
  All-found test [] x all found = absurd cc
  All-found test (y ∷ xs) x all found = by (test y) found (All-found test xs x all.1)
    where
      by : (b : Bool) → cond b (Some y) (find test xs) ≡ Some x → (find test xs ≡ Some x → P x) → P x
      by true is ih = let same : y ≡ x = cc in subst P same all.0
      by false is ih = ih is

-- ---- look-ups by their numbers

below_erased : (next : ℕ) (test : Look → Bool) (rs : List Look) → AreBelow next rs → AreBelow next (erased_by test rs)
below_erased next test [] are = tt
below_erased next test (r ∷ rs) are = by (test r) (below_erased next test rs are.2)
  where
    by : (b : Bool) → AreBelow next (erased_by test rs) → AreBelow next (cond b rs (r ∷ erased_by test rs))
    by true ih = are.2
    by false ih = (are.0, All-erased (λ (q : Look). q.number ≢ r.number) test rs are.1, ih)

below_more : (next : ℕ) (key : List ℕ) (rs : List Look) → AreBelow next rs → AreBelow (next + 1) (rs ++ record { number = next; key = key; overtaken = None } ∷ [])
below_more next key [] are = (omega arith, tt, tt)
below_more next key (r ∷ rs) are =
    let less = are.0 in
    (omega (arith, less), All-more (λ (q : Look). q.number ≢ r.number) rs (record { number = next; key = key; overtaken = None }) are.1 (λ e. absurd (omega (arith, less, e))), below_more next key rs are.2)

below_next : (next : ℕ) (rs : List Look) → AreBelow next rs → AreBelow (next + 1) rs
below_next next [] are = tt
below_next next (r ∷ rs) are = let less = are.0 in (omega (arith, less), are.1, below_next next rs are.2)

overtaking_number : (test : List ℕ → Bool) (by : Overtaking) (r : Look) → (overtaking test by r).number ≡ r.number
overtaking_number test by r = go (test r.key)
  where
    go : (b : Bool) → (cond b (record r { overtaken = Some by }) r).number ≡ r.number
    go true = refl
    go false = refl

overtaking_key : (test : List ℕ → Bool) (by : Overtaking) (r : Look) → (overtaking test by r).key ≡ r.key
overtaking_key test by r = go (test r.key)
  where
    go : (b : Bool) → (cond b (record r { overtaken = Some by }) r).key ≡ r.key
    go true = refl
    go false = refl

apart_dropped : (test : List ℕ → Bool) (by : Overtaking) (n : ℕ) (rs : List Look) → AllByRecursion (λ (q : Look). q.number ≢ n) rs → AllByRecursion (λ (q : Look). q.number ≢ n) (map (overtaking test by) rs)
apart_dropped test by n [] all = tt
apart_dropped test by n (r ∷ rs) all = (λ e. all.0 (sym (overtaking_number test by r) ∙ e), apart_dropped test by n rs all.1)

below_dropped : (test : List ℕ → Bool) (by : Overtaking) (next : ℕ) (rs : List Look) → AreBelow next rs → AreBelow next (map (overtaking test by) rs)
below_dropped test by next [] are = tt
below_dropped test by next (r ∷ rs) are = (
  subst (λ n. n < next) (sym (overtaking_number test by r)) are.0,
  subst (λ n. AllByRecursion (λ (q : Look). q.number ≢ n) (map (overtaking test by) rs)) (sym (overtaking_number test by r)) (apart_dropped test by r.number rs are.1),
  below_dropped test by next rs are.2,
)

keys_dropped : (test : List ℕ → Bool) (by : Overtaking) (rs : List Look) → AllByRecursion (λ (r : Look). IsKey r.key) rs → AllByRecursion (λ (r : Look). IsKey r.key) (map (overtaking test by) rs)
keys_dropped test by [] all = tt
keys_dropped test by (r ∷ rs) all = (subst IsKey (sym (overtaking_key test by r)) all.0, keys_dropped test by rs all.1)

-- all of other numbers stay
filter_apart : (n : ℕ) (rs : List Look) → AllByRecursion (λ (q : Look). q.number ≢ n) rs → filter (λ (q : Look). not (q.number == n)) rs ≡ rs
filter_apart n [] all = refl
filter_apart n (r ∷ rs) all =
    let ne = all.0 in
    let off : (r.number == n) ≡ false = grind (arith, nat_tests, ne) in
    ap (λ (b : Bool). cond (not b) (r ∷ filter (λ (q : Look). not (q.number == n)) rs) (filter (λ (q : Look). not (q.number == n)) rs)) off
    ∙ ap (λ (l : List Look). r ∷ l) (filter_apart n rs all.1)

-- the first of a number is all of it
erased_is_filter : (next n : ℕ) (rs : List Look) → AreBelow next rs → erased_by (has_number n) rs ≡ filter (λ (q : Look). not (q.number == n)) rs
erased_is_filter next n [] are = refl
erased_is_filter next n (r ∷ rs) are = by (r.number == n) refl (erased_is_filter next n rs are.2)
  where
    by : (b : Bool) → (r.number == n) ≡ b → erased_by (has_number n) rs ≡ filter (λ (q : Look). not (q.number == n)) rs
        → cond b rs (r ∷ erased_by (has_number n) rs) ≡ cond (not b) (r ∷ filter (λ (q : Look). not (q.number == n)) rs) (filter (λ (q : Look). not (q.number == n)) rs)
    by true t ih = let same : r.number ≡ n = grind (arith, nat_tests, t) in sym (filter_apart n rs (subst (λ m. AllByRecursion (λ (q : Look). q.number ≢ m) rs) same are.1))
    by false t ih = ap (λ (l : List Look). r ∷ l) ih

-- ---- a tie that goes on

goes_on : (s : State) (near : Near) (c : Client (List ℕ) Value) → IsTied s near c
    → (new : State) (near2 : Near) (c2 : Client (List ℕ) Value) → new.near ≡ Some near2 → new.rows ≡ s.rows → c2.rows ≡ c.rows
    → c2.capacity ≡ near2.capacity → c2.entries ≡ near2.entries → c2.waiting ≡ near2.waiting
    → AllByRecursion (λ (e : Entry). IsKey e.key) near2.entries → AllByRecursion (λ (r : Look). IsKey r.key) near2.waiting → AreBelow new.next near2.waiting
    → IsTied new near2 c2
goes_on s near c t new near2 c2 listens rows heard capacity entries waiting kept_ asked below = record {
  listens = listens;
  capacity = capacity;
  entries = entries;
  waiting = waiting;
  rows = λ p. ap (known_in p) heard ∙ t.rows p ∙ ap (version_in p) (sym rows);
  kept = kept_;
  asked = asked;
  numbers = below;
}

the_same : (s : State) (near near2 : Near) → s.near ≡ Some near → s.near ≡ Some near2 → near ≡ near2
the_same s near near2 a b = cc

-- plain calls
pub every_call_keeps_the_tie : EveryCallKeepsTheTie
every_call_keeps_the_tie s new c partition call sending tied asked =
    let near = tied.near in
    let t = tied.tied in
    record {
      near = near;
      tied = goes_on s near c t new near c (ap (λ (x : State). x.near) asked.after ∙ t.listens) (ap (λ (x : State). x.rows) asked.after) refl t.capacity t.entries t.waiting t.kept t.asked
          (subst (λ n. AreBelow n near.waiting) (sym (ap (λ (x : State). x.next) asked.after)) (below_next s.next near.waiting t.numbers));
    }

pub every_retry_keeps_the_tie : EveryRetryKeepsTheTie
every_retry_keeps_the_tie s new c number sending tied retried =
    let near = tied.near in
    let t = tied.tied in
    record {
      near = near;
      tied = goes_on s near c t new near c (ap (λ (x : State). x.near) retried.after ∙ t.listens) (ap (λ (x : State). x.rows) retried.after) refl t.capacity t.entries t.waiting t.kept t.asked
          (subst (λ n. AreBelow n near.waiting) (sym (ap (λ (x : State). x.next) retried.after)) (below_next s.next near.waiting t.numbers));
    }

pub every_connection_keeps_the_tie : EveryConnectionKeepsTheTie
every_connection_keeps_the_tie s c conn tied =
    let near = tied.near in
    let t = tied.tied in
    record {
      near = near;
      tied = goes_on s near c t (attaching conn s) near c t.listens refl refl t.capacity t.entries t.waiting t.kept t.asked t.numbers;
    }

-- misses
pub every_miss_is_the_machines : EveryMissIsTheMachines
every_miss_is_the_machines s new c key sending is_key tied missed =
    let near = tied.near in
    let t = tied.tied in
    let r : Look = record { number = s.next; key = key; overtaken = None } in
    let same = the_same s missed.near near missed.listens t.listens in
    let near2 = opened s.next key near in
    record {
      near = near2;
      tied = goes_on s near c t new near2 (machine.opened s.next key c)
          (ap (λ (x : State). x.near) missed.asked.after ∙ ap (λ (n : Near). Some (opened s.next key n)) same)
          (ap (λ (x : State). x.rows) missed.asked.after) refl t.capacity t.entries (ap (λ (ws : List Look). ws ++ r ∷ []) t.waiting)
          t.kept (All-more (λ (q : Look). IsKey q.key) near.waiting r t.asked is_key)
          (subst (λ n. AreBelow n near2.waiting) (sym (ap (λ (x : State). x.next) missed.asked.after)) (below_more s.next key near.waiting t.numbers));
    }

-- ---- keys

long : (key : List ℕ) → IsKey key → nat_le 8 (length key) ≡ true
long key is = grind (arith, nat_tests, is)

module _ {C State' : Type 0} (l : Keyed C State' (List ℕ) Value) (goes : GoesByKeys l) where
  same_is : (a b : List ℕ) → l.same a b ≡ bytes_eq b a
  same_is a b =
      let d = bytes_eq-Decides b a in
      same_from_decides (l.same a b) (bytes_eq b a) (goes.same a b) (λ t. sym (d.0 t), λ e. d.1 (sym e))

  -- of a key, the machine's partition and that of a row
  partition_is : (p : ℕ) (key : List ℕ) → IsKey key → is_in_partition p key ≡ (l.partition key == p)
  partition_is p key is =
      ap (λ (b : Bool). b && (partition_of_key key == p)) (long key is) ∙ ap (λ (n : ℕ). n == p) (sym (goes.partition key is))

  find_is : (key : List ℕ) (es : List Entry) → find (machine.is_for l key) es ≡ find (is_for key) es
  find_is key [] = refl
  find_is key (e ∷ es) =
      ap (λ (b : Bool). cond b (Some e) (find (machine.is_for l key) es)) (same_is e.key key)
      ∙ ap (λ (o : Option Entry). cond (is_for key e) (Some e) o) (find_is key es)

  others_are : (key : List ℕ) (es : List Entry) → machine.others l key es ≡ others key es
  others_are key [] = refl
  others_are key (e ∷ es) =
      ap (λ (b : Bool). cond (not b) (e ∷ machine.others l key es) (machine.others l key es)) (same_is e.key key)
      ∙ ap (λ (xs : List Entry). cond (not (is_for key e)) (e ∷ xs) xs) (others_are key es)

  hit_is : (key : List ℕ) (es : List Entry)
      → option_map (λ (e : Entry). e.value) (find (is_for key) es) ≡ elim (find (machine.is_for l key) es) as (λ _. Option Value) [ None ↦ None | Some e ↦ Some e.value ]
  hit_is key es = go (find (is_for key) es) (find_is key es)
    where
      go : (o : Option Entry) → find (machine.is_for l key) es ≡ o → option_map (λ (e : Entry). e.value) o ≡ elim (find (machine.is_for l key) es) as (λ _. Option Value) [ None ↦ None | Some e ↦ Some e.value ]
      go None is = sym (ap (λ (o : Option Entry). elim o as (λ _. Option Value) [ None ↦ None | Some e ↦ Some e.value ]) is)
      go (Some e) is = sym (ap (λ (o : Option Entry). elim o as (λ _. Option Value) [ None ↦ None | Some e ↦ Some e.value ]) is)

  pub every_look_is_the_machines : EveryLookIsTheMachines l
  every_look_is_the_machines s near c key goes_ t =
      hit_is key near.entries
      ∙ ap (λ (es : List Entry). elim (find (machine.is_for l key) es) as (λ _. Option Value) [ None ↦ None | Some e ↦ Some e.value ]) (sym t.entries)

  used_is : (key : List ℕ) (es : List Entry)
      → elim (find (machine.is_for l key) es) as (λ _. List Entry) [ None ↦ es | Some e ↦ e ∷ machine.others l key es ]
      ≡ option_map_or (λ e. e ∷ others key es) (find (is_for key) es) es
  used_is key es = ap (λ (o : Option Entry). elim o as (λ _. List Entry) [ None ↦ es | Some e ↦ e ∷ machine.others l key es ]) (find_is key es) ∙ go (find (is_for key) es)
    where
      go : (o : Option Entry) → elim o as (λ _. List Entry) [ None ↦ es | Some e ↦ e ∷ machine.others l key es ] ≡ option_map_or (λ e. e ∷ others key es) o es
      go None = refl
      go (Some e) = ap (λ (xs : List Entry). e ∷ xs) (others_are key es)

  keys_used : (key : List ℕ) (es : List Entry) → AllByRecursion (λ (e : Entry). IsKey e.key) es
      → AllByRecursion (λ (e : Entry). IsKey e.key) (option_map_or (λ e. e ∷ others key es) (find (is_for key) es) es)
  keys_used key es all = go (find (is_for key) es) refl
    where
      go : (o : Option Entry) → find (is_for key) es ≡ o → AllByRecursion (λ (e : Entry). IsKey e.key) (option_map_or (λ e. e ∷ others key es) o es)
      go None is = all
      go (Some e) is = (All-found (λ (e : Entry). IsKey e.key) (is_for key) es e all is, All-filter (λ (e : Entry). IsKey e.key) (λ (e : Entry). not (is_for key e)) es all)

  pub every_hit_is_the_machines : EveryHitIsTheMachines l
  every_hit_is_the_machines s new c key value goes_ tied hit =
      let near = tied.near in
      let t = tied.tied in
      let same = the_same s hit.near near hit.listens t.listens in
      let near2 = used key near in
      record {
        near = near2;
        tied = goes_on s near c t new near2 (machine.used l key c)
            (ap (λ (x : State). x.near) hit.after ∙ ap (λ (n : Near). Some (used key n)) same)
            (ap (λ (x : State). x.rows) hit.after) refl t.capacity
            (ap (λ (es : List Entry). elim (find (machine.is_for l key) es) as (λ _. List Entry) [ None ↦ es | Some e ↦ e ∷ machine.others l key es ]) t.entries ∙ used_is key near.entries)
            t.waiting (keys_used key near.entries t.kept) t.asked
            (subst (λ n. AreBelow n near.waiting) (sym (ap (λ (x : State). x.next) hit.after)) t.numbers);
      }

  -- ---- what a message does to what is kept

  -- the machine's client after something of which only this changes
  abbrev with_both : Client (List ℕ) Value → List Entry → List Look → Client (List ℕ) Value
  with_both c es ws = record c { entries = es; waiting = ws }

  closed_is : (s : State) (near : Near) (c : Client (List ℕ) Value) (n : ℕ) → IsTied s near c → (machine.closed n c).waiting ≡ (closed n near).waiting
  closed_is s near c n t = ap (filter (λ (q : Look). not (q.number == n))) t.waiting ∙ sym (erased_is_filter s.next n near.waiting t.numbers)

  closed_tied : (s new : State) (near : Near) (c : Client (List ℕ) Value) (n : ℕ) → IsTied s near c → new.near ≡ Some (closed n near) → new.rows ≡ s.rows → new.next ≡ s.next
      → IsTied new (closed n near) (machine.closed n c)
  closed_tied s new near c n t listens rows next =
      goes_on s near c t new (closed n near) (machine.closed n c) listens rows refl t.capacity t.entries (closed_is s near c n t) t.kept
      (All-erased (λ (r : Look). IsKey r.key) (has_number n) near.waiting t.asked)
      (subst (λ m. AreBelow m (closed n near).waiting) (sym next) (below_erased s.next (has_number n) near.waiting t.numbers))

  -- an answer keeps its value, unless it was overtaken
  kept_is : (key : List ℕ) (value : Value) (near : Near) (c : Client (List ℕ) Value) → c.capacity ≡ near.capacity → c.entries ≡ near.entries
      → (machine.kept l key value c).entries ≡ (kept key value near).entries
  kept_is key value near c capacity entries =
      let e : Entry = record { key = key; value = value } in
      ap (λ (n : ℕ). take n (e ∷ machine.others l key c.entries)) capacity
      ∙ ap (λ (es : List Entry). take near.capacity (e ∷ machine.others l key es)) entries
      ∙ ap (λ (es : List Entry). take near.capacity (e ∷ es)) (others_are key near.entries)

  kept_tied : (s new : State) (near : Near) (c : Client (List ℕ) Value) (n : ℕ) (key : List ℕ) (value : Value) → IsTied s near c → IsKey key
      → new.near ≡ Some (closed n (kept key value near)) → new.rows ≡ s.rows → new.next ≡ s.next
      → IsTied new (closed n (kept key value near)) (machine.closed n (machine.kept l key value c))
  kept_tied s new near c n key value t is_key listens rows next =
      let e : Entry = record { key = key; value = value } in
      goes_on s near c t new (closed n (kept key value near)) (machine.closed n (machine.kept l key value c)) listens rows refl t.capacity
      (kept_is key value near c t.capacity t.entries) (closed_is s near c n t)
      (All-take (λ (e : Entry). IsKey e.key) near.capacity (e ∷ others key near.entries) (is_key, All-filter (λ (e : Entry). IsKey e.key) (λ (x : Entry). not (is_for key x)) near.entries t.kept))
      (All-erased (λ (r : Look). IsKey r.key) (has_number n) near.waiting t.asked)
      (subst (λ m. AreBelow m (closed n near).waiting) (sym next) (below_erased s.next (has_number n) near.waiting t.numbers))

  -- with the look-up of that number, its value and what overtook it
  abbrev machine_answer : ℕ → Option Value → Client (List ℕ) Value → Option Look → Client (List ℕ) Value
  machine_answer n o c found =
      elim found as (λ _. Client (List ℕ) Value) [
        | None ↦ c
        | Some r ↦ machine.closed n (elim o as (λ _. Client (List ℕ) Value) [ None ↦ c | Some v ↦ machine.filled l r v c ])
      ]

  abbrev our_answer : ℕ → Option Value → Near → Option Look → Near
  our_answer n None near found = closed n near
  our_answer n (Some v) near found = option_map_or (λ r. closed n (filled r v near)) found near

  answer_tied : (s new : State) (near : Near) (c : Client (List ℕ) Value) (n : ℕ) → IsTied s near c → new.rows ≡ s.rows → new.next ≡ s.next
      → (o : Option Value) (found : Option Look) → look_up n near ≡ found → new.near ≡ Some (our_answer n o near found) → IsTied new (our_answer n o near found) (machine_answer n o c found)
  answer_tied s new near c n t rows next None None is listens =
      let none : closed n near ≡ near = ap (λ (ws : List Look). record near { waiting = ws }) (none_erased (has_number n) near.waiting is) in
      subst (λ (m : Near). IsTied new m c) (sym none)
      (goes_on s near c t new near c (listens ∙ ap (λ (m : Near). Some m) none) rows refl t.capacity t.entries t.waiting t.kept t.asked (subst (λ m. AreBelow m near.waiting) (sym next) t.numbers))
  answer_tied s new near c n t rows next None (Some r) is listens = closed_tied s new near c n t listens rows next
  answer_tied s new near c n t rows next (Some v) None is listens =
      goes_on s near c t new near c listens rows refl t.capacity t.entries t.waiting t.kept t.asked (subst (λ m. AreBelow m near.waiting) (sym next) t.numbers)
  answer_tied s new near c n t rows next (Some v) (Some r) is listens = go r.overtaken listens
    where
      go : (o : Option Overtaking) → new.near ≡ Some (closed n (option_map_or (λ (by : Overtaking). near) o (kept r.key v near)))
          → IsTied new (closed n (option_map_or (λ (by : Overtaking). near) o (kept r.key v near)))
          (machine.closed n (elim o as (λ _. Client (List ℕ) Value) [ None ↦ machine.kept l r.key v c | Some by ↦ c ]))
      go None its = kept_tied s new near c n r.key v t (All-found (λ (q : Look). IsKey q.key) (has_number n) near.waiting r t.asked is) its rows next
      go (Some by) its = closed_tied s new near c n t its rows next

  -- ---- dropping

  drop_entries : (test other : List ℕ → Bool) (es : List Entry) → ((key : List ℕ) → IsKey key → test key ≡ other key) → AllByRecursion (λ (e : Entry). IsKey e.key) es
      → filter (λ (e : Entry). not (other e.key)) es ≡ filter (λ (e : Entry). not (test e.key)) es
  drop_entries test other [] alike all = refl
  drop_entries test other (e ∷ es) alike all =
      ap (λ (b : Bool). cond (not b) (e ∷ filter (λ (x : Entry). not (other x.key)) es) (filter (λ (x : Entry). not (other x.key)) es)) (sym (alike e.key all.0))
      ∙ ap (λ (xs : List Entry). cond (not (test e.key)) (e ∷ xs) xs) (drop_entries test other es alike all.1)

  drop_waiting : (test other : List ℕ → Bool) (by : Overtaking) (rs : List Look) → ((key : List ℕ) → IsKey key → test key ≡ other key) → AllByRecursion (λ (r : Look). IsKey r.key) rs
      → map (machine.overtaking other by) rs ≡ map (overtaking test by) rs
  drop_waiting test other by [] alike all = refl
  drop_waiting test other by (r ∷ rs) alike all =
      ap (λ (b : Bool). cond b (record r { overtaken = Some by }) r ∷ map (machine.overtaking other by) rs) (sym (alike r.key all.0))
      ∙ ap (λ (ws : List Look). overtaking test by r ∷ ws) (drop_waiting test other by rs alike all.1)

  dropped_tied : (s new : State) (near : Near) (c : Client (List ℕ) Value) (test other : List ℕ → Bool) (by : Overtaking) → IsTied s near c
      → ((key : List ℕ) → IsKey key → test key ≡ other key) → new.near ≡ Some (dropping test by near) → new.rows ≡ s.rows → new.next ≡ s.next
      → IsTied new (dropping test by near) (machine.dropping other by c)
  dropped_tied s new near c test other by t alike listens rows next =
      goes_on s near c t new (dropping test by near) (machine.dropping other by c) listens rows refl t.capacity
      (ap (filter (λ (e : Entry). not (other e.key))) t.entries ∙ drop_entries test other near.entries alike t.kept)
      (ap (map (machine.overtaking other by)) t.waiting ∙ drop_waiting test other by near.waiting alike t.asked)
      (All-filter (λ (e : Entry). IsKey e.key) (λ (e : Entry). not (test e.key)) near.entries t.kept)
      (keys_dropped test by near.waiting t.asked)
      (subst (λ m. AreBelow m (dropping test by near).waiting) (sym next) (below_dropped test by s.next near.waiting t.numbers))

  -- ---- rows

  known_more : (p : ℕ) (row : SeenRow) (rows : List SeenRow)
      → version_in p (knowing row rows) ≡ cond (row.partition == p) (Some row.version) (version_in p rows)
  known_more p row rows = by (row.partition == p) refl
    where
      all_gone : (rs : List SeenRow) → row.partition ≡ p → find (λ (r : SeenRow). r.partition == p) (filter (λ (r : SeenRow). not (r.partition == row.partition)) rs ++ row ∷ []) ≡ Some row
      all_gone [] is = let on : (row.partition == p) ≡ true = grind (arith, nat_tests, is) in ap (λ (b : Bool). cond b (Some row) None) on
      all_gone (r ∷ rs) is = drop_one (r.partition == row.partition) refl (all_gone rs is)
        where
          drop_one : (b : Bool) → (r.partition == row.partition) ≡ b
              → find (λ (q : SeenRow). q.partition == p) (filter (λ (q : SeenRow). not (q.partition == row.partition)) rs ++ row ∷ []) ≡ Some row
              → find (λ (q : SeenRow). q.partition == p) (cond (not b) (r ∷ filter (λ (q : SeenRow). not (q.partition == row.partition)) rs) (filter (λ (q : SeenRow). not (q.partition == row.partition)) rs) ++ row ∷ []) ≡ Some row
          drop_one true t ih = ih
          drop_one false t ih =
              let off : (r.partition == p) ≡ false = grind (arith, nat_tests, t, is) in
              ap (λ (b : Bool). cond b (Some r) (find (λ (q : SeenRow). q.partition == p) (filter (λ (q : SeenRow). not (q.partition == row.partition)) rs ++ row ∷ []))) off ∙ ih

      others_stay : (rs : List SeenRow) → (row.partition == p) ≡ false → find (λ (r : SeenRow). r.partition == p) (filter (λ (r : SeenRow). not (r.partition == row.partition)) rs ++ row ∷ []) ≡ find (λ (r : SeenRow). r.partition == p) rs
      others_stay [] off = ap (λ (b : Bool). cond b (Some row) None) off
      others_stay (r ∷ rs) off = drop_one (r.partition == row.partition) refl (others_stay rs off)
        where
          drop_one : (b : Bool) → (r.partition == row.partition) ≡ b
              → find (λ (q : SeenRow). q.partition == p) (filter (λ (q : SeenRow). not (q.partition == row.partition)) rs ++ row ∷ []) ≡ find (λ (q : SeenRow). q.partition == p) rs
              → find (λ (q : SeenRow). q.partition == p) (cond (not b) (r ∷ filter (λ (q : SeenRow). not (q.partition == row.partition)) rs) (filter (λ (q : SeenRow). not (q.partition == row.partition)) rs) ++ row ∷ []) ≡ cond (r.partition == p) (Some r) (find (λ (q : SeenRow). q.partition == p) rs)
          drop_one true t ih =
              let gone : (r.partition == p) ≡ false = grind (arith, nat_tests, t, off) in
              ih ∙ sym (ap (λ (b : Bool). cond b (Some r) (find (λ (q : SeenRow). q.partition == p) rs)) gone)
          drop_one false t ih = ap (λ (o : Option SeenRow). cond (r.partition == p) (Some r) o) ih

      by : (b : Bool) → (row.partition == p) ≡ b → version_in p (knowing row rows) ≡ cond b (Some row.version) (version_in p rows)
      by true t = let same : row.partition ≡ p = grind (arith, nat_tests, t) in ap (option_map (λ (r : SeenRow). r.version)) (all_gone rows same)
      by false t = ap (option_map (λ (r : SeenRow). r.version)) (others_stay rows t)

  machine_known : (p : ℕ) (row : RowHeard) (rows : List RowHeard) → known_in p (row ∷ rows) ≡ cond (row.partition == p) (Some row.version) (known_in p rows)
  machine_known p row rows = by (row.partition == p)
    where
      by : (b : Bool) → elim (cond b (Some row) (find (λ (r : RowHeard). r.partition == p) rows)) as (λ _. Option ℕ) [ None ↦ None | Some r ↦ Some r.version ] ≡ cond b (Some row.version) (known_in p rows)
      by true = refl
      by false = refl

  know_tied : (s : State) (near : Near) (c : Client (List ℕ) Value) (row : SeenRow) → IsTied s near c → IsTied (knowing_row row s) near (machine.knowing (row_heard row) c)
  know_tied s near c row t = record {
    listens = t.listens;
    capacity = t.capacity;
    entries = t.entries;
    waiting = t.waiting;
    rows = λ p. machine_known p (row_heard row) c.rows ∙ ap (λ (o : Option ℕ). cond (row.partition == p) (Some row.version) o) (t.rows p) ∙ sym (known_more p row s.rows);
    kept = t.kept;
    asked = t.asked;
    numbers = t.numbers;
  }

  clear_tied : (s : State) (near : Near) (c : Client (List ℕ) Value) (row : SeenRow) → IsTied s near c
      → IsTied (clearing row s) (cleared row.partition row.version near) (machine.cleared l (row_heard row) c)
  clear_tied s near c row t =
      let by : Overtaking = record { version = row.version; number = 0 } in
      dropped_tied s (clearing row s) near c (is_in_partition row.partition) (λ (q : List ℕ). l.partition q == row.partition) by t (λ key is. partition_is row.partition key is)
      (ap (option_map (cleared row.partition row.version)) t.listens) refl refl

  row_tied : (s : State) (c : Client (List ℕ) Value) (row : SeenRow) → IsTiedTo s c → IsTiedTo (told_by_row row s).after (machine_row l c (row_heard row))
  row_tied s c row tied = go (version_in row.partition s.rows) refl
    where
      near : Near
      near = tied.near

      later : (v : ℕ) (b : Bool) → IsTiedTo (cond b (record { after = knowing_row row (clearing row s); heard = cleared_by row s.near }) (nothing s)).after
          (cond b (machine.knowing (row_heard row) (machine.cleared l (row_heard row) c)) c)
      later v true = record { near = cleared row.partition row.version tied.near; tied = know_tied (clearing row s) (cleared row.partition row.version tied.near) (machine.cleared l (row_heard row) c) row (clear_tied s tied.near c row tied.tied) }
      later v false = tied

      ours : (o : Option ℕ) → IsTiedTo (elim o as (λ _. Told) [
        | None ↦ nothing (knowing_row row s)
        | Some version ↦ cond (nat_lt version row.version) (record { after = knowing_row row (clearing row s); heard = cleared_by row s.near }) (nothing s)
      ]).after
          (elim o as (λ _. Client (List ℕ) Value) [
            | None ↦ machine.knowing (row_heard row) c
            | Some version ↦ cond (nat_lt version row.version) (machine.knowing (row_heard row) (machine.cleared l (row_heard row) c)) c
          ])
      ours None = record { near = tied.near; tied = know_tied s tied.near c row tied.tied }
      ours (Some v) = later v (nat_lt v row.version)

      go : (o : Option ℕ) → version_in row.partition s.rows ≡ o → IsTiedTo (told_by_row row s).after (machine_row l c (row_heard row))
      go o is =
          subst (λ (k : Option ℕ). IsTiedTo (told_by_row row s).after (elim k as (λ _. Client (List ℕ) Value) [
            | None ↦ machine.knowing (row_heard row) c
            | Some version ↦ cond (nat_lt version row.version) (machine.knowing (row_heard row) (machine.cleared l (row_heard row) c)) c
          ])) (sym (tied.tied.rows row.partition)) (ours (version_in row.partition s.rows))

  rows_tied : (seen : List SeenRow) (s : State) (c : Client (List ℕ) Value) → IsTiedTo s c → IsTiedTo (told_by_rows seen s).after (rows_heard l c (map row_heard seen))
  rows_tied [] s c tied = tied
  rows_tied (row ∷ seen) s c tied = rows_tied seen (told_by_row row s).after (machine_row l c (row_heard row)) (row_tied s c row tied)

  -- ---- messages

  answer_after : (conn : ℕ) (s : State) (message : Message) (n : ℕ) (a : IsAnswerTo conn s message n) → (told_by_message conn message s).after ≡ (told_by_answer conn n a.head message s).after
  answer_after conn s message n a =
      ap (λ (h : Option Head). (told_by_head conn h message s).after) a.there ∙ ap (λ (o : Option ℕ). (told_by_number conn o a.head message s).after) a.number_is

  event_after : (conn : ℕ) (s : State) (message : Message) (a : IsNoAnswer conn s message)
      → (told_by_message conn message s).after ≡ (told_by_event (result_ok (event_of message)) s).after
  event_after conn s message a =
      ap (λ (h : Option Head). (told_by_head conn h message s).after) a.there ∙ ap (λ (o : Option ℕ). (told_by_number conn o a.head message s).after) a.none
      ∙ ap (λ (b : Bool). (cond b (nothing (welcomed conn (accepted_of message) s)) (told_by_event (result_ok (event_of message)) s)).after) a.other

  pub every_message_is_the_machines : EveryMessageIsTheMachines l
  every_message_is_the_machines conn s near c message (Answer n reply) goes_ t said =
      let a = said.0 in
      let new = (told_by_answer conn n a.head message s).after in
      let near_is : new.near ≡ Some (our_answer n (value_of message) near (look_up n near)) =
      ap (λ (o : Option ℤ). option_map (near_answered n o (value_of message)) s.near) said.1 ∙ ap (option_map (near_answered n None (value_of message))) t.listens ∙ answer_is (value_of message) in
      let its = answer_tied s new near c n t refl refl (value_of message) (look_up n near) refl near_is in
      let machine_is : machine_answer n (value_of message) c (look_up n near) ≡ machine.answered l n reply c =
      ap (λ (ws : List Look). machine_answer n (value_of message) c (find (has_number n) ws)) (sym t.waiting)
      ∙ ap (λ (o : Option Value). machine_answer n o c (find (has_number n) c.waiting)) (sym said.2) in
      subst (λ (x : State). IsTiedTo x (machine.answered l n reply c)) (sym (answer_after conn s message n a))
      (subst (λ (x : Client (List ℕ) Value). IsTiedTo new x) machine_is (record { near = our_answer n (value_of message) near (look_up n near); tied = its }))
    where
      answer_is : (o : Option Value) → Some (near_answered n None o near) ≡ Some (our_answer n o near (look_up n near))
      answer_is None = refl
      answer_is (Some v) = refl
  every_message_is_the_machines conn s near c message (Refusal n) goes_ t said =
      let a = said.0 in
      let new = (told_by_answer conn n a.head message s).after in
      let near_is : new.near ≡ Some (closed n near) =
      ap (λ (o : Option ℤ). option_map (near_answered n o (value_of message)) s.near) said.1.1 ∙ ap (option_map (near_answered n (Some said.1.0) (value_of message))) t.listens in
      subst (λ (x : State). IsTiedTo x (machine.closed n c)) (sym (answer_after conn s message n a)) (record { near = closed n near; tied = closed_tied s new near c n t near_is refl refl })
  every_message_is_the_machines conn s near c message (Invalidation key version number) goes_ t said =
      let a = said.0 in
      let its_map : is_near_map near.name s.near ≡ true = ap (is_near_map near.name) t.listens ∙ (bytes_eq-Decides near.name near.name).1 refl in
      let after : (told_by_message conn message s).after ≡ record s { near = option_map (invalidated key version number) s.near } =
      event_after conn s message a
      ∙ ap (λ r. (told_by_event (result_ok r) s).after) said.1.1.1
      ∙ ap (λ (b : Bool). (cond b (record { after = record s { near = option_map (invalidated key version number) s.near }; heard = heard.Invalidated ∷ [] }) (nothing s)).after) its_map in
      let by : Overtaking = record { version = version; number = number } in
      let new : State = record s { near = option_map (invalidated key version number) s.near } in
      subst (λ (x : State). IsTiedTo x (machine.invalidated l key by c)) (sym after)
      (record {
        near = invalidated key version number near;
        tied = dropped_tied s new near c (bytes_eq key) (λ (q : List ℕ). l.same q key) by t (λ q is. sym (same_is q key)) (ap (option_map (invalidated key version number)) t.listens) refl refl;
      })
  every_message_is_the_machines conn s near c message (Rows rows) goes_ t said =
      let a = said.0 in
      let seen = said.1.1.0 in
      let after : (told_by_message conn message s).after ≡ (told_by_rows seen s).after =
      event_after conn s message a ∙ ap (λ r. (told_by_event (result_ok r) s).after) said.1.1.1.0 in
      subst (λ (x : State). IsTiedTo x (rows_heard l c rows)) (sym after)
      (subst (λ (rs : List RowHeard). IsTiedTo (told_by_rows seen s).after (rows_heard l c rs)) (sym said.1.1.1.1) (rows_tied seen s c (record { near = near; tied = t })))

-- ---- what a hit is worth

pub every_hit_of_a_client_stands : {C State' : Type 0} (o : Object C State') (l : Keyed C State' (List ℕ) Value) → EveryHitOfAClientStands o l
every_hit_of_a_client_stands o l members backups partitions member conn first capacity earlier moves s near key value one keyed goes new named tied found =
    every_hit_stands o l members backups partitions member conn first capacity earlier moves key value one keyed new named (sym (every_look_is_the_machines l goes s near _ key goes tied) ∙ found)
