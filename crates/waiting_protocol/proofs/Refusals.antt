-- At a line of a member that doesn't serve all leave that wait there, in order of arrival.
use Rattle.std.proofs.Common.{◌≡◌, ◌≢◌, ℕ, zero, suc, ◌≤◌, ◌<◌, Bool, true, false, cond, not, ◌==◌, List, [], ◌∷◌, ◌++◌, map, filter, length, Option, Some, None, slice_get, refl, ap, sym, ◌∙◌, subst, ◌⊎◌, ⊎_elim, inl, inr, arith}
use Rattle.grid_base.specs.Objects.{Object}
use Rattle.partition_protocol.specs.Node.{Node}
use Rattle.partition_protocol.specs.Execution.{Reached, Executes, PartitionLost, WrongTarget, Migrating, reached}
use Rattle.partition_protocol.specs.World as world
use Rattle.partition_protocol.specs.World.{World, map_or, is_live}
use Rattle.partition_protocol.specs.Events.{run}
use Rattle.partition_protocol.specs.Claims.{IsLawful}
use Rattle.partition_protocol.proofs.Lists.{In, in_left, in_right, in_cases, contains_in, Every, every_from_in, cases}
use Rattle.partition_protocol.proofs.RowFacts.{number_same, number_other, number_cases}
use Rattle.waiting_protocol.specs.Machine.{Waiter, Waiting, Line, Terms, Fate, Stays, Runs, Starves, IsRefused, Leaves, fate_of, fate_in, fate, is_over, stirs, Gone, plain, event_if, gone_as, leaving, turn, gone_in, turned, gone, opened, goes, gone_by, after, events, start}
use Rattle.waiting_protocol.specs.Claims.{IsQuiet, IsItsTurn, IsLineAt}
use Rattle.waiting_protocol.specs.LineClaims.{standing, refusing, is_at, all_gone_as, EveryRefusalIsInOrder}
use Rattle.waiting_protocol.proofs.Turns.{turn_of, shorter, rests, after_quiet, all_run}
use Rattle.waiting_protocol.proofs.Places.{opened_is_of}
use Rattle.waiting_protocol.proofs.Theorem.{start_quiet}
use Rattle.waiting_protocol.proofs.Standings.{line_one}

-- over variables

pub filter_none : {X : Type 0} (f : X → Bool) (xs : List X) → Every (λ x. f x ≡ false) xs → filter f xs ≡ []
filter_none f [] h = refl
filter_none f (x ∷ xs) h = rw h.0 (filter_none f xs h.1)

pub filter_whole : {X : Type 0} (f : X → Bool) (xs : List X) → Every (λ x. f x ≡ true) xs → filter f xs ≡ xs
filter_whole f [] h = refl
filter_whole f (x ∷ xs) h = rw h.0 (ap (λ ys. x ∷ ys) (filter_whole f xs h.1))

pub filter_joined : {X : Type 0} (f : X → Bool) (xs ys : List X) → filter f (xs ++ ys) ≡ filter f xs ++ filter f ys
filter_joined f [] ys = refl
filter_joined {X} f (z ∷ zs) ys = go (f z) (filter_joined f zs ys)
  where
    go : (b : Bool) → filter f (zs ++ ys) ≡ filter f zs ++ filter f ys → cond b (z ∷ filter f (zs ++ ys)) (filter f (zs ++ ys)) ≡ cond b (z ∷ filter f zs) (filter f zs) ++ filter f ys
    go true e = ap (λ ws. z ∷ ws) e
    go false e = e

-- one in the middle that passes, or doesn't, behind those that don't, or do
pub filter_takes : {X : Type 0} (f : X → Bool) (xs : List X) (x : X) (ys : List X) → Every (λ y. f y ≡ false) xs → f x ≡ true → filter f (xs ++ x ∷ ys) ≡ x ∷ filter f (xs ++ ys)
filter_takes f [] x ys h e = rw e refl
filter_takes f (z ∷ zs) x ys h e = rw h.0 (filter_takes f zs x ys h.1 e)

pub filter_passes : {X : Type 0} (f : X → Bool) (xs : List X) (x : X) (ys : List X) → f x ≡ false → filter f (xs ++ x ∷ ys) ≡ filter f (xs ++ ys)
filter_passes f xs x ys e = filter_joined f xs (x ∷ ys) ∙ ap (λ zs. filter f xs ++ zs) (dropped (f x) e) ∙ sym (filter_joined f xs ys)
  where
    dropped : (b : Bool) → b ≡ false → cond b (x ∷ filter f ys) (filter f ys) ≡ filter f ys
    dropped b s = rw s refl

pub some_fate : (r : Option Reached) (f : Fate) → refusing r ≡ Some f → is_over f ≡ true
some_fate None f e = let s : Leaves ≡ f = cc in sym (ap is_over s)
some_fate (Some Executes) f e = absurd cc
some_fate (Some (PartitionLost v)) f e = let s : IsRefused (PartitionLost v) ≡ f = cc in sym (ap is_over s)
some_fate (Some (WrongTarget v)) f e = let s : IsRefused (WrongTarget v) ≡ f = cc in sym (ap is_over s)
some_fate (Some (Migrating v)) f e = let s : IsRefused (Migrating v) ≡ f = cc in sym (ap is_over s)

pub fate_refused : (r : Reached) (b h : Bool) (f : Fate) → refusing (Some r) ≡ Some f → fate_of r b h ≡ f
fate_refused Executes b h f e = absurd cc
fate_refused (PartitionLost v) b h f e = cc
fate_refused (WrongTarget v) b h f e = cc
fate_refused (Migrating v) b h f e = cc

pub fate_standing : (m : ℕ) (b : Bool) (r : Option Node) (c : Node → Bool) (h : Bool) (f : Fate) → refusing (cond b (map_or r None (λ (n : Node). Some (reached m n))) None) ≡ Some f
    → cond b (map_or r Leaves (λ (n : Node). fate_of (reached m n) (c n) h)) Leaves ≡ f
fate_standing m false r c h f e = cc
fate_standing m true None c h f e = cc
fate_standing m true (Some n) c h f e = fate_refused (reached m n) (c n) h f e

pub no_event : {C State : Type 0} (o : Object C State) (w : World C) (x : Waiter C) (now : ℕ) (r : Option Reached) (f : Fate) → refusing r ≡ Some f → run o w (event_if (plain x now) f) ≡ w
no_event o w x now None f e = let s : Leaves ≡ f = cc in subst (λ g. run o w (event_if (plain x now) g) ≡ w) s refl
no_event o w x now (Some Executes) f e = absurd cc
no_event o w x now (Some (PartitionLost v)) f e = let s : IsRefused (PartitionLost v) ≡ f = cc in subst (λ g. run o w (event_if (plain x now) g) ≡ w) s refl
no_event o w x now (Some (WrongTarget v)) f e = let s : IsRefused (WrongTarget v) ≡ f = cc in subst (λ g. run o w (event_if (plain x now) g) ≡ w) s refl
no_event o w x now (Some (Migrating v)) f e = let s : IsRefused (Migrating v) ≡ f = cc in subst (λ g. run o w (event_if (plain x now) g) ≡ w) s refl

-- turns

module _ {C State : Type 0} (o : Object C State) (t : Terms C) (m : ℕ) (f : Fate) where
  abbrev pub elsewhere : Waiter C → Bool
  elsewhere x = not (is_at m x)

  abbrev pub with_waiters : Waiting C → List (Waiter C) → Waiting C
  with_waiters k xs = record { world = k.world; clock = k.clock; waiters = xs }

  -- only those of that member stir, and the member doesn't serve
  pub record IsRefusing (k : Waiting C) : Type 0 where
    pub by : refusing (standing k.world m) ≡ Some f
    pub only : (y : Waiter C) → In y k.waiters → stirs o t k y ≡ true → y.member ≡ m

  pub fate_is : (k : Waiting C) (y : Waiter C) → refusing (standing k.world m) ≡ Some f → y.member ≡ m → fate o t k y ≡ f
  fate_is k y by e = fate_standing y.member (is_live k.world y.member) (slice_get k.world.nodes y.member) _ (t.starves y) f (subst (λ z. refusing (standing k.world z) ≡ Some f) (sym e) by)

  pub stirs_here : (k : Waiting C) (y : Waiter C) → refusing (standing k.world m) ≡ Some f → y.member ≡ m → stirs o t k y ≡ true
  stirs_here k y by e = ap is_over (fate_is k y by e) ∙ some_fate (standing k.world m) f by

  -- whoever doesn't stir is elsewhere
  pub not_here : (k : Waiting C) (y : Waiter C) → refusing (standing k.world m) ≡ Some f → stirs o t k y ≡ false → is_at m y ≡ false
  not_here k y by q = number_other y.member m (λ e. let a : true ≡ false = sym (stirs_here k y by e) ∙ q in absurd cc)

  abbrev pub AllLeave : ℕ → Waiting C → Type 0
  AllLeave n k = (gone o t n k ≡ all_gone_as k.clock f (filter (is_at m) k.waiters)) × (turned o t n k ≡ with_waiters k (filter elsewhere k.waiters))

  pub quiet_leave : (n : ℕ) (k : Waiting C) → IsRefusing k → IsQuiet o t k × (turn o t k ≡ k) × (gone_in o t k ≡ []) → AllLeave n k
  quiet_leave n k h s =
      let none : Every (λ y. is_at m y ≡ false) k.waiters = every_from_in (λ y. is_at m y ≡ false) k.waiters (λ y i. not_here k y h.by (s.0 y (contains_in y k.waiters i))) in
      let others : Every (λ y. elsewhere y ≡ true) k.waiters = every_from_in (λ y. elsewhere y ≡ true) k.waiters (λ y i. ap not (not_here k y h.by (s.0 y (contains_in y k.waiters i)))) in
      let r = rests o t n k s.1 s.2 in
      (r.1 ∙ sym (ap (all_gone_as k.clock f) (filter_none (is_at m) k.waiters none)), r.0 ∙ sym (ap (with_waiters k) (filter_whole elsewhere k.waiters others)))

  -- one leaves, and what it leaves is the others
  pub record OneLeaves (k : Waiting C) : Type 0 where
    pub one : Waiter C
    pub rest : List (Waiter C)
    pub left : turn o t k ≡ with_waiters k rest
    pub gone : gone_in o t k ≡ all_gone_as k.clock f (one ∷ [])
    pub here : filter (is_at m) k.waiters ≡ one ∷ filter (is_at m) rest
    pub others : filter elsewhere k.waiters ≡ filter elsewhere rest
    pub among : (y : Waiter C) → In y rest → In y k.waiters

  pub one_leaves : (k : Waiting C) → IsRefusing k → (x : Waiter C) → IsItsTurn o t k x → OneLeaves k
  one_leaves k h x i =
      let mine : x.member ≡ m = h.only x (subst (In x) (sym i.place) (in_right x i.front (x ∷ i.back) (inl refl))) i.stirred in
      let its : fate o t k x ≡ f = fate_is k x h.by mine in
      let passes : is_at m x ≡ true = number_same x.member m mine in
      let front_none : Every (λ y. is_at m y ≡ false) i.front = every_from_in (λ y. is_at m y ≡ false) i.front (λ y c. not_here k y h.by (i.earlier y (contains_in y i.front c))) in
      record {
        one = x;
        rest = i.front ++ i.back;
        left = i.left ∙ ap (λ w. let z : Waiting C = record { world = w; clock = k.clock; waiters = i.front ++ i.back } in z)
            (ap (λ g. run o k.world (event_if (plain x (k.clock x.member)) g)) its ∙ no_event o k.world x (k.clock x.member) (standing k.world m) f h.by);
        gone = i.gone ∙ ap (λ g. let z : Gone C = record { waiter = x; fate = g; now = k.clock x.member } in z ∷ []) its;
        here = ap (filter (is_at m)) i.place ∙ filter_takes (is_at m) i.front x i.back front_none passes;
        others = ap (filter elsewhere) i.place ∙ filter_passes elsewhere i.front x i.back (ap not passes);
        among = λ y c. subst (In y) (sym i.place) (⊎_elim (λ a. in_left y i.front (x ∷ i.back) a) (λ a. in_right y i.front (x ∷ i.back) (inr a)) (in_cases y i.front i.back c));
      }

  pub still_refusing : (k : Waiting C) → IsRefusing k → (s : OneLeaves k) → IsRefusing (turn o t k)
  still_refusing k h s = subst IsRefusing (sym s.left) (record { by = h.by; only = λ y i st. h.only y (s.among y i) st })

  pub all_leave : (n : ℕ) (k : Waiting C) → length k.waiters ≤ n → IsRefusing k → AllLeave n k
  all_leave zero k le h = ⊎_elim (quiet_leave zero k h) (λ s. absurd (let l = shorter o t k s.0 s.1 in omega (arith, l, le))) (turn_of o t k)
  all_leave (suc n) k le h = ⊎_elim (quiet_leave (suc n) k h) (λ s. busy s.0 s.1 (one_leaves k h s.0 s.1) (all_leave n (turn o t k) (let l = shorter o t k s.0 s.1 in omega (arith, l, le)))) (turn_of o t k)
    where
      busy : (x : Waiter C) → IsItsTurn o t k x → (s : OneLeaves k) → (IsRefusing (turn o t k) → AllLeave n (turn o t k)) → AllLeave (suc n) k
      busy x i s more =
          let r = more (still_refusing k h s) in
          let leaves : gone o t n (turn o t k) ≡ all_gone_as k.clock f (filter (is_at m) s.rest) = r.0 ∙ ap (λ (z : Waiting C). all_gone_as z.clock f (filter (is_at m) z.waiters)) s.left in
          let ends : turned o t n (turn o t k) ≡ with_waiters k (filter elsewhere s.rest) = r.1 ∙ ap (λ (z : Waiting C). with_waiters z (filter elsewhere z.waiters)) s.left in (
            ap (λ gs. gs ++ gone o t n (turn o t k)) s.gone ∙ ap (λ gs. all_gone_as k.clock f (s.one ∷ []) ++ gs) leaves ∙ sym (ap (all_gone_as k.clock f) s.here),
            ends ∙ sym (ap (with_waiters k) s.others),
          )

pub every_refusal_is_in_order : {C State : Type 0} (o : Object C State) → EveryRefusalIsInOrder o
every_refusal_is_in_order {C} o t p n b lines l m f some law at by = (r.0, ap (λ (z : Waiting C). z.waiters) r.1, ap (λ (z : Waiting C). z.world) r.1)
  where
    j : Waiting C
    j = after o t (start p n b) lines

    k : Waiting C
    k = opened o j l

    only : (y : Waiter C) → In y k.waiters → stirs o t k y ≡ true → y.member ≡ m
    only y i s = line_one l y.member m ((opened_is_of o t p n b some law j (events o t (start p n b) lines, all_run o t (start p n b) lines) (after_quiet o t (start p n b) lines (start_quiet o t p n b)) l).1 y i s) at

    r : (gone o t (length k.waiters) k ≡ all_gone_as k.clock f (filter (is_at m) k.waiters)) × (turned o t (length k.waiters) k ≡ with_waiters o t m f k (filter (elsewhere o t m f) k.waiters))
    r = all_leave o t m f (length k.waiters) k (omega arith) (record { by = by; only = only })
