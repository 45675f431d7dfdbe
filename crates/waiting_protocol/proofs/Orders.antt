-- What happens at later lines comes behind what happened before, and calls that don't wait keep their order.
use Rattle.std.proofs.Common.{◌≡◌, ℕ, ◌+◌, ◌≤◌, Bool, true, false, cond, not, List, [], ◌∷◌, ◌++◌, map, filter, length, Contains, refl, ap, sym, ◌∙◌, subst, ⊎_elim, inl, inr, arith, append_assoc}
use Rattle.std.specs.List.{list_any}
use Rattle.grid_base.specs.Objects.{Object}
use Rattle.partition_protocol.specs.Events.{Event}
use Rattle.partition_protocol.specs.Arrivals.{Asked, CallName, asked_by, arrivals, name, NamedOnce}
use Rattle.partition_protocol.proofs.Lists.{In, in_left, in_right, in_contains, contains_in, Every, every_from_in}
use Rattle.partition_protocol.proofs.RowFacts.{any_in}
use Rattle.waiting_protocol.specs.Machine.{Waiter, Waiting, Line, Asks, Waits, Clock, Closes, Terms, plain, events_of, turned, gone, opened, event_in, goes, gone_by, events_by, after, events, start}
use Rattle.waiting_protocol.specs.Claims.{names_in, name_of, asked_in, waits_by, waits_in}
use Rattle.waiting_protocol.specs.LineClaims.{is_name, is_plain, plain_in, KeepsOrder, EveryLineKeepsOrder}
use Rattle.waiting_protocol.proofs.Names.{count, count_append, count_in, is_itself, once_count, all_counts, arrivals_append}
use Rattle.waiting_protocol.proofs.Sources.{turned_from, opened_from}
use Rattle.waiting_protocol.proofs.Refusals.{filter_joined}

pub names_append : {C : Type 0} (ls ms : List (Line C)) → names_in (ls ++ ms) ≡ names_in ls ++ names_in ms
names_append [] ms = refl
names_append (Asks e ∷ ls) ms = ap (λ ns. map name (arrivals (e ∷ [])) ++ ns) (names_append ls ms) ∙ sym (append_assoc (map name (arrivals (e ∷ []))) (names_in ls) (names_in ms))
names_append (Waits x ∷ ls) ms = ap (λ ns. name_of x ∷ ns) (names_append ls ms)
names_append (Clock m now ∷ ls) ms = names_append ls ms
names_append (Closes c ∷ ls) ms = names_append ls ms

-- those that don't wait

module _ {C : Type 0} (waits : List (Waiter C)) where
  pub plain_append : (xs ys : List (Event C)) → plain_in waits (xs ++ ys) ≡ plain_in waits xs ++ plain_in waits ys
  plain_append xs ys = ap (filter (is_plain waits)) (arrivals_append xs ys) ∙ filter_joined (is_plain waits) (arrivals xs) (arrivals ys)

  -- it is the plain call of one of these
  abbrev pub IsOfThem : Event C → Type 0
  IsOfThem e = (x : Waiter C) × (now : ℕ) × In x waits × (e ≡ plain x now)

  pub not_plain : (x : Waiter C) (a : Asked C) → In x waits → name a ≡ name_of x → is_plain waits a ≡ false
  not_plain x a i e = ap not (any_in (λ (y : Waiter C). is_name (name a) (name_of y)) waits x i (subst (λ k. is_name k (name_of x) ≡ true) (sym e) (is_itself (name_of x))))

  abbrev pub asked_as : Waiter C → ℕ → Asked C
  asked_as x now = record { conn = x.conn; number = x.number; now = now; call = x.call }

  pub dropped : (a : Asked C) (b : Bool) → b ≡ false → cond b (a ∷ []) [] ≡ []
  dropped a b e = rw e refl

  pub one_waits : (x : Waiter C) (now : ℕ) → In x waits → plain_in waits (plain x now ∷ []) ≡ []
  one_waits x now i = dropped (asked_as x now) (is_plain waits (asked_as x now)) (not_plain x (asked_as x now) i refl)

  pub all_wait : (es : List (Event C)) → Every IsOfThem es → plain_in waits es ≡ []
  all_wait [] h = refl
  all_wait (e ∷ es) ((x, now, i, s), h) = plain_append (e ∷ []) es ∙ ap (λ ys. ys ++ plain_in waits es) (subst (λ z. plain_in waits (z ∷ []) ≡ []) (sym s) (one_waits x now i)) ∙ all_wait es h

module _ {C State : Type 0} (o : Object C State) (t : Terms C) where
  pub lines_append : (j : Waiting C) (ls ms : List (Line C)) → events o t j (ls ++ ms) ≡ events o t j ls ++ events o t (after o t j ls) ms
  lines_append j [] ms = refl
  lines_append j (l ∷ ls) ms =
      ap (λ es. events_by o t j l ++ es) (lines_append (goes o t j l) ls ms)
      ∙ sym (append_assoc (events_by o t j l) (events o t (goes o t j l) ls) (events o t (after o t (goes o t j l) ls) ms))

  module _ (waits : List (Waiter C)) where
    abbrev pub Among : Waiter C → Type 0
    Among x = In x waits

    -- what runs at a line is among the waiting calls
    pub runs_wait : (j : Waiting C) (l : Line C) → ((x : Waiter C) → In x j.waiters → Among x) → ((x : Waiter C) → In x (waits_by l) → Among x) → plain_in waits (events_of (gone_by o t j l)) ≡ []
    runs_wait j l h k =
        let u = opened o j l in
        let r = turned_from o t Among (length u.waiters) u (opened_from o t Among j l h k) in
        all_wait waits (events_of (gone_by o t j l)) (every_from_in (IsOfThem waits) (events_of (gone_by o t j l)) (λ e i. let s = r.1 e i in (s.0, s.1, s.2, s.4)))

    pub stand_plain : (j : Waiting C) (ls : List (Line C)) → ((x : Waiter C) → In x j.waiters → Among x) → ((x : Waiter C) → In x (waits_in ls) → Among x) → plain_in waits (events o t j ls) ≡ plain_in waits (asked_in ls)
    stand_plain j [] h k = refl
    stand_plain j (l ∷ ls) h k =
        let u = opened o j l in
        let here : (x : Waiter C) → In x (waits_by l) → Among x = λ x i. k x (in_left x (waits_by l) (waits_in ls) i) in
        let r = turned_from o t Among (length u.waiters) u (opened_from o t Among j l h here) in
        let more = stand_plain (goes o t j l) ls r.0 (λ x i. k x (in_right x (waits_by l) (waits_in ls) i)) in
        plain_append waits (events_by o t j l) (events o t (goes o t j l) ls)
        ∙ ap (λ ys. ys ++ plain_in waits (events o t (goes o t j l) ls)) (plain_append waits (event_in l) (events_of (gone_by o t j l)) ∙ ap (λ ys. plain_in waits (event_in l) ++ ys) (runs_wait j l h here) ∙ nil (plain_in waits (event_in l)))
        ∙ ap (λ ys. plain_in waits (event_in l) ++ ys) more
        ∙ sym (plain_append waits (event_in l) (asked_in ls))
      where
        nil : (ys : List (Asked C)) → ys ++ [] ≡ ys
        nil [] = refl
        nil (y ∷ ys) = ap (λ zs. y ∷ zs) (nil ys)

pub every_line_keeps_order : {C State : Type 0} (o : Object C State) → EveryLineKeepsOrder o
every_line_keeps_order {C} o t p n b earlier later = record {
  apart = lines_append o t (start p n b) earlier later;
  behind = λ once k c d.
      let a = all_counts o t k (start p n b) earlier in
      let e = once_count k (names_in (earlier ++ later)) once in
      let f : count k (names_in (earlier ++ later)) ≡ count k (names_in earlier) + count k (names_in later) = ap (count k) (names_append earlier later) ∙ count_append k (names_in earlier) (names_in later) in
      let g = count_in k (names_in later) (in_contains k (names_in later) c) in
      let h = count_in k (map name (arrivals (events o t (start p n b) earlier))) (in_contains k (map name (arrivals (events o t (start p n b) earlier))) d) in
      absurd (omega (arith, a, e, f, g, h));
  plain = stand_plain o t (waits_in earlier) (start p n b) earlier (λ x i. absurd i) (λ x i. i);
}
