-- The lists of a partition beside its machine.
use Rattle.std.proofs.Common.{◌≡◌, ◌≢◌, ℕ, zero, suc, ◌<◌, Bool, true, false, cond, not, ◌==◌, List, [], ◌∷◌, ◌++◌, filter, length, Option, Some, None, slice_get, refl, ap, sym, ◌∙◌, subst, ⊎_elim, inl, inr}
use Rattle.std.specs.Option.{option_map}
use Rattle.std.specs.List.{position, remove}
use Rattle.std.proofs.Math.ListN.{get_or-map}
use Rattle.grid_base.specs.Objects.{Object}
use Rattle.grid_base.specs.declared.calls.Request.{Request}
use Rattle.grid_base.specs.declared.refusal.PartitionRefused.{PartitionRefused}
use Rattle.grid_base.specs.declared.refusal.PartitionRefused.TheVariants.{PartitionLost, WrongTarget, Migrating}
use Rattle.partition_protocol.specs.Node.{Node}
use Rattle.partition_protocol.specs.Execution.{Reached, Executes, reached}
use Rattle.partition_protocol.specs.World.{map_or, is_live}
use Rattle.partition_protocol.proofs.Lists.{In, in_right, in_contains, contains_in, Every, every_in}
use Rattle.partition_protocol.proofs.RowFacts.{number_same, number_other, number_cases}
use Rattle.waiting_protocol.specs.Machine.{Waiting, Terms, Fate, IsRefused, Leaves, fate, is_over, stirs, Picked, skipping, pick, leaving, turn}
use Rattle.waiting_protocol.specs.Machine as machine
use Rattle.waiting_protocol.specs.Claims.{IsItsTurn}
use Rattle.waiting_protocol.specs.LineClaims.{standing, IsBy, refusing, is_at}
use Rattle.waiting_protocol.proofs.Turns.{IsPick, pick_of, its_turn, at_none, at_some}
use Rattle.waiting_protocol.proofs.Refusals.{filter_joined, filter_passes, fate_standing, some_fate}
use Rattle.waiting_protocol.proofs.Standings.{fate_by}
use Rattle.object_store.specs.Partitions.{Partition}
use Rattle.call_engine.specs.Calls.{Settings}
use Rattle.call_engine.specs.Objects.{partition_object}
use Rattle.replica_node.specs.Calls.{refused_as}
use Rattle.wait_sets.specs.declared.waiter.Waiter.{Waiter}
use Rattle.wait_sets.specs.WaitSets.{is_its_turn, is_of}
use Rattle.wait_sets.specs.Laws.{meant, all_meant, grid_terms, IsPlaceOf}
use Rattle.wait_sets.proofs.Places.{every_next_is_its_turn}
use Rattle.wait_sets.proofs.Places as places
use Rattle.wait_sets.specs.declared.turn.Standing.{Standing}
use Rattle.wait_sets.specs.declared.turn.Standing.TheVariants.{Serves, Refuses, Gone}
use Rattle.wait_sets.specs.declared.turn.Turn.{Turn}
use Rattle.wait_sets.specs.Lists.{place_of, list_at, with_list}
use Rattle.wait_sets.specs.Turns.{first_place, place_in_turn, turn_as, Takes, TakesTurn}
use Rattle.wait_sets.specs.ListLaws.{standing_as, request_of, IsFate, AreOf, EveryCallJoinsItsList, EveryClosingEmptiesLists, StandsSo, LeavesAsPicked, EveryTurnIsItsLists, IsInTurn, IsTheMachines, EveryTurnIsItsPartitions}
use Rattle.wait_sets.proofs.Slots.{list_there, list_elsewhere}

abbrev pub Meant : Type 0
Meant = machine.Waiter Request

-- lists of meant waiters

pub meant_joined : (m : ℕ) (xs ys : List Waiter) → all_meant m (xs ++ ys) ≡ all_meant m xs ++ all_meant m ys
meant_joined m [] ys = refl
meant_joined m (x ∷ xs) ys = ap (λ zs. meant m x ∷ zs) (meant_joined m xs ys)

pub meant_removed : (m : ℕ) (xs : List Waiter) (k : ℕ) → all_meant m (remove xs k) ≡ remove (all_meant m xs) k
meant_removed m [] zero = refl
meant_removed m [] (suc k) = refl
meant_removed m (x ∷ xs) zero = refl
meant_removed m (x ∷ xs) (suc k) = ap (λ zs. meant m x ∷ zs) (meant_removed m xs k)

pub meant_got : (m : ℕ) (xs : List Waiter) (k : ℕ) (w : Waiter) → slice_get xs k ≡ Some w → slice_get (all_meant m xs) k ≡ Some (meant m w)
meant_got m [] k w e = absurd cc
meant_got m (x ∷ xs) zero w e = let same : x ≡ w = cc in ap (λ z. Some (meant m z)) same
meant_got m (x ∷ xs) (suc k) w e = meant_got m xs k w e

-- joining

pub last_here : {X : Type 0} (f : X → Bool) (xs : List X) (x : X) → f x ≡ true → filter f (xs ++ x ∷ []) ≡ filter f xs ++ x ∷ []
last_here f [] x e = rw e refl
last_here {X} f (y ∷ ys) x e = go (f y) (last_here f ys x e)
  where
    go : (b : Bool) → filter f (ys ++ x ∷ []) ≡ filter f ys ++ x ∷ [] → cond b (y ∷ filter f (ys ++ x ∷ [])) (filter f (ys ++ x ∷ [])) ≡ cond b (y ∷ filter f ys) (filter f ys) ++ x ∷ []
    go true h = ap (λ zs. y ∷ zs) h
    go false h = h

pub last_elsewhere : {X : Type 0} (f : X → Bool) (xs : List X) (x : X) → f x ≡ false → filter f (xs ++ x ∷ []) ≡ filter f xs
last_elsewhere f [] x e = rw e refl
last_elsewhere {X} f (y ∷ ys) x e = go (f y) (last_elsewhere f ys x e)
  where
    go : (b : Bool) → filter f (ys ++ x ∷ []) ≡ filter f ys → cond b (y ∷ filter f (ys ++ x ∷ [])) (filter f (ys ++ x ∷ [])) ≡ cond b (y ∷ filter f ys) (filter f ys)
    go true h = ap (λ zs. y ∷ zs) h
    go false h = h

pub every_call_joins_its_list : EveryCallJoinsItsList
every_call_joins_its_list members m p lists waiters waiter member partition there of n l = ⊎_elim here elsewhere (number_cases n m)
  where
    joined : List Waiter
    joined = list_at lists m p ++ waiter ∷ []

    all : List Meant
    all = waiters ++ meant m waiter ∷ []

    here : n ≡ m → all_meant n (list_at (with_list lists m p joined) n p) ≡ filter (is_at n) all
    here e = subst (λ k. all_meant k (list_at (with_list lists m p joined) k p) ≡ filter (is_at k) all) (sym e) (
        ap (all_meant m) (list_there lists m p joined there)
        ∙ meant_joined m (list_at lists m p) (waiter ∷ [])
        ∙ ap (λ zs. zs ++ meant m waiter ∷ []) (of m member)
        ∙ sym (last_here (is_at m) waiters (meant m waiter) (number_same m m refl)))

    elsewhere : n ≢ m → all_meant n (list_at (with_list lists m p joined) n p) ≡ filter (is_at n) all
    elsewhere d =
        ap (all_meant n) (list_elsewhere lists m n p joined d)
        ∙ of n l
        ∙ sym (last_elsewhere (is_at n) waiters (meant m waiter) (number_other m n (λ e. d (sym e))))

-- closing

pub filters_swap : {X : Type 0} (f g : X → Bool) (xs : List X) → filter f (filter g xs) ≡ filter g (filter f xs)
filters_swap f g [] = refl
filters_swap {X} f g (x ∷ xs) = go (f x) (g x) refl refl (filters_swap f g xs)
  where
    go : (a b : Bool) → f x ≡ a → g x ≡ b → filter f (filter g xs) ≡ filter g (filter f xs)
        → filter f (cond (g x) (x ∷ filter g xs) (filter g xs)) ≡ filter g (cond (f x) (x ∷ filter f xs) (filter f xs))
    go true true s t h = rw (s, t) (rw s (ap (λ zs. x ∷ zs) h))
    go true false s t h = rw (s, t) h
    go false true s t h = rw (s, t) (rw s h)
    go false false s t h = rw (s, t) h

pub every_closing_empties_lists : EveryClosingEmptiesLists
every_closing_empties_lists members p conn lists waiters of n l =
    ap (all_meant n) (get_or-map (filter (λ waiter. not (is_of conn waiter))) lists (place_of n p) [])
    ∙ places.every_closing_is_alike n conn (list_at lists n p)
    ∙ ap (filter (λ (x : Meant). not (x.conn == conn))) (of n l)
    ∙ filters_swap (λ (x : Meant). not (x.conn == conn)) (is_at n) waiters

-- what is picked among some is picked among all, where only some of those pass

abbrev pub picked_among : (Meant → Bool) → Option (Picked Request) → Option (Picked Request)
picked_among g r = option_map (λ (p : Picked Request). record { front = filter g p.front; one = p.one; back = filter g p.back }) r

pub pick_among : (f g : Meant → Bool) (xs : List Meant) → ((y : Meant) → In y xs → f y ≡ true → g y ≡ true) → pick f (filter g xs) ≡ picked_among g (pick f xs)
pick_among f g [] h = refl
pick_among f g (x ∷ xs) h = go (f x) (g x) refl refl (pick_among f g xs (λ y i. h y (inr i)))
  where
    skips : (r : Option (Picked Request)) → g x ≡ true → skipping x (picked_among g r) ≡ picked_among g (skipping x r)
    skips None e = refl
    skips (Some q) e = rw e refl

    drops : (r : Option (Picked Request)) → g x ≡ false → picked_among g r ≡ picked_among g (skipping x r)
    drops None e = refl
    drops (Some q) e = rw e refl

    go : (a b : Bool) → f x ≡ a → g x ≡ b → pick f (filter g xs) ≡ picked_among g (pick f xs) → pick f (filter g (x ∷ xs)) ≡ picked_among g (pick f (x ∷ xs))
    go true true s t more = rw (s, t) (rw s refl)
    go true false s t more = let e : true ≡ false = sym (h x (inl refl) s) ∙ t in absurd cc
    go false true s t more = rw (s, t) (rw s (ap (skipping x) more ∙ skips (pick f xs) t))
    go false false s t more = rw (s, t) (more ∙ drops (pick f xs) t)

-- the place of the one in turn is the picked one's

pub standing_serves : (m : ℕ) (b : Bool) (r : Option Node) → Some Executes ≡ cond b (map_or r None (λ (n : Node). Some (reached m n))) None
    → (b ≡ true) × (n : Node) × (r ≡ Some n) × (reached m n ≡ Executes)
standing_serves m true (Some n) e = (refl, n, refl, cc)
standing_serves m true None e = absurd cc
standing_serves m false r e = absurd cc

-- all in such a list are in turn: so it is the first's
pub first_picked : (f : Meant → Bool) (m : ℕ) (ws : List Waiter) → ((w : Waiter) → f (meant m w) ≡ true) → IsPlaceOf (all_meant m ws) (pick f (all_meant m ws)) (first_place ws)
first_picked f m [] h = tt
first_picked f m (w ∷ ws) h = subst (λ b. IsPlaceOf (all_meant m (w ∷ ws)) (cond b (Some (record { front = []; one = meant m w; back = all_meant m ws })) (skipping (meant m w) (pick f (all_meant m ws)))) (Some 0)) (sym (h w)) (refl, refl)

module _ (settings : Settings) (starves : Meant → Bool) (j : Waiting Request) (m : ℕ) (s : Partition) where
  abbrev pub object : Object Request Partition
  object = partition_object settings

  abbrev pub terms : Terms Request
  terms = grid_terms starves

  abbrev pub Stands : Standing → Type 0
  Stands stands = StandsSo settings j m stands s

  -- a waiter of a member that doesn't serve is in turn
  pub refused_stirs : (r : Option Reached) (f : Fate) → r ≡ standing j.world m → refusing r ≡ Some f → (w : Waiter) → stirs object terms j (meant m w) ≡ true
  refused_stirs r f e by w =
      let b : refusing (standing j.world m) ≡ Some f = ap refusing (sym e) ∙ by in
      ap is_over (fate_standing m (is_live j.world m) (slice_get j.world.nodes m) _ (terms.starves (meant m w)) f b) ∙ some_fate r f by

  pub refusing_some : (why : PartitionRefused) → refusing (Some (refused_as why)) ≡ Some (IsRefused (refused_as why))
  refusing_some (PartitionLost version) = refl
  refusing_some (WrongTarget version) = refl
  refusing_some (Migrating version) = refl

  pub place_is : (stands : Standing) (here : List Waiter) → Stands stands → IsPlaceOf (all_meant m here) (pick (stirs object terms j) (all_meant m here)) (place_in_turn settings s (j.clock m) stands here)
  place_is Serves here i =
      let v = standing_serves m (is_live j.world m) (slice_get j.world.nodes m) i.does in
      subst (λ (z : Partition). IsPlaceOf (all_meant m here) (pick (stirs object terms j) (all_meant m here)) (position (is_its_turn settings z (j.clock m)) here)) (sym (i.has v.1 v.2))
      (every_next_is_its_turn settings starves j m v.1 here v.0 v.2 v.3)
  place_is (Refuses why) here i = first_picked (stirs object terms j) m here (refused_stirs (Some (refused_as why)) (IsRefused (refused_as why)) i.does (refusing_some why))
  place_is Gone here i = first_picked (stirs object terms j) m here (refused_stirs None Leaves i.does refl)

  -- by what the member does, so it leaves
  pub by_standing : (r : Option Reached) (f : Fate) → r ≡ standing j.world m → IsBy (standing j.world m) f → IsBy r f
  by_standing r f e h = subst (λ z. IsBy z f) (sym e) h

  pub refused_fate : (why : PartitionRefused) (f : Fate) → IsBy (Some (refused_as why)) f → f ≡ IsRefused (refused_as why)
  refused_fate (PartitionLost version) f h = h
  refused_fate (WrongTarget version) f h = h
  refused_fate (Migrating version) f h = h

  pub so_it_leaves : (stands : Standing) (request : Request) (f : Fate) → standing_as stands ≡ standing j.world m → IsBy (standing j.world m) f → IsFate (turn_as stands request) f
  so_it_leaves Serves request f e h = by_standing (Some Executes) f e h
  so_it_leaves (Refuses why) request f e h = refused_fate why f (by_standing (Some (refused_as why)) f e h)
  so_it_leaves Gone request f e h = by_standing None f e h

  pub its_request : (stands : Standing) (request : Request) → request_of (turn_as stands request) ≡ request
  its_request Serves request = refl
  its_request (Refuses why) request = refl
  its_request Gone request = refl

  -- who is picked in a list is taken out of it, and leaves so
  pub fate_here : (x : Meant) → x.member ≡ m → stirs object terms j x ≡ true → IsBy (standing j.world m) (fate object terms j x)
  fate_here x e passes = subst (λ k. IsBy (standing j.world k) (fate object terms j x)) e (fate_by object terms j.world (j.clock x.member) x passes)

  pub leaves_as : (stands : Standing) (here : List Waiter) → Stands stands → (picked : Option (Picked Request)) (place : Option ℕ) (it : Option Turn) (new : List Waiter) → pick (stirs object terms j) (all_meant m here) ≡ picked
      → IsPlaceOf (all_meant m here) picked place → Takes stands place here it new → LeavesAsPicked (fate object terms j) m picked here it new
  leaves_as stands here i None None None new e place takes = takes
  leaves_as stands here i None None (Some it) new e place takes = absurd takes
  leaves_as stands here i None (Some k) it new e place takes = absurd place
  leaves_as stands here i (Some q) None it new e place takes = absurd place
  leaves_as stands here i (Some q) (Some k) None new e place takes = absurd takes
  leaves_as stands here i (Some q) (Some k) (Some it) new e place takes = (
    ap (λ (y : Meant). y.call) same ∙ sym (ap request_of takes.becomes ∙ its_request stands takes.waiter.request),
    subst (λ z. IsFate z (fate object terms j q.one)) (sym takes.becomes) (so_it_leaves stands takes.waiter.request (fate object terms j q.one) i.does (fate_here q.one (ap (λ (y : Meant). y.member) same) passes)),
    ap (all_meant m) takes.left ∙ meant_removed m here k ∙ place.1,
  )
    where
      same : q.one ≡ meant m takes.waiter
      same = let a : slice_get (all_meant m here) k ≡ Some q.one = place.0 in let b : slice_get (all_meant m here) k ≡ Some (meant m takes.waiter) = meant_got m here k takes.waiter takes.there in cc

      passes : stirs object terms j q.one ≡ true
      passes = ⊎_elim (λ r. let clash : None ≡ Some q = sym r.1 ∙ e in absurd cc) (λ r. let is : r.0 ≡ q = let x : Some r.0 ≡ Some q = sym r.1 ∙ e in cc in subst (λ (z : Picked Request). stirs object terms j z.one ≡ true) is r.2.passes) (pick_of (stirs object terms j) (all_meant m here))

pub every_turn_is_its_lists : (settings : Settings) → EveryTurnIsItsLists settings
every_turn_is_its_lists settings starves j m stands s old it new i takes =
    leaves_as settings starves j m s stands old i (pick (stirs (partition_object settings) (grid_terms starves) j) (all_meant m old)) (place_in_turn settings s (j.clock m) stands old) it new refl (place_is settings starves j m s stands old i) takes

-- the turn of a partition

module _ (settings : Settings) (starves : Meant → Bool) (j : Waiting Request) (members m p : ℕ) (s : Partition) (lists : List (List Waiter)) where
  abbrev pub the_object : Object Request Partition
  the_object = partition_object settings

  abbrev pub the_terms : Terms Request
  the_terms = grid_terms starves

  abbrev pub here : List Waiter
  here = list_at lists m p

  abbrev pub InTurn : Standing → Type 0
  InTurn stands = IsInTurn settings starves j members m p stands s lists

  -- another list of the member, and those who are left of the partition's waiters
  pub left_of : (new : List Waiter) (left : List Meant) → place_of m p < length lists → all_meant m new ≡ filter (is_at m) left → ((n : ℕ) → n < members → n ≢ m → all_meant n (list_at lists n p) ≡ filter (is_at n) left)
      → AreOf members (with_list lists m p new) p left
  left_of new left there own others n l = ⊎_elim mine other (number_cases n m)
    where
      mine : n ≡ m → all_meant n (list_at (with_list lists m p new) n p) ≡ filter (is_at n) left
      mine e = subst (λ k. all_meant k (list_at (with_list lists m p new) k p) ≡ filter (is_at k) left) (sym e) (ap (all_meant m) (list_there lists m p new there) ∙ own)

      other : n ≢ m → all_meant n (list_at (with_list lists m p new) n p) ≡ filter (is_at n) left
      other d = ap (all_meant n) (list_elsewhere lists m n p new d) ∙ others n l d

  pub others_stay : (x : Meant) (front back : List Meant) → x.member ≡ m → AreOf members lists p (front ++ x ∷ back) → (n : ℕ) → n < members → n ≢ m → all_meant n (list_at lists n p) ≡ filter (is_at n) (front ++ back)
  others_stay x front back e of n l d = of n l ∙ filter_passes (is_at n) front x back (number_other x.member n (λ z. d (sym (sym e ∙ z))))

  abbrev pub IsDone : Option Turn → List Waiter → Type 0
  IsDone it new = IsTheMachines the_object starves j it × AreOf members (with_list lists m p new) p (turn the_object the_terms j).waiters

  -- nobody is in turn
  pub none_in_turn : (stands : Standing) → InTurn stands → (it : Option Turn) (new : List Waiter) → pick (stirs the_object the_terms j) j.waiters ≡ None → Every (λ x. stirs the_object the_terms j x ≡ false) j.waiters
      → LeavesAsPicked (fate the_object the_terms j) m None here it new → IsDone it new
  none_in_turn stands i (Some it) new e q leaves = absurd leaves
  none_in_turn stands i None new e q leaves =
      let stays : turn the_object the_terms j ≡ j = at_none (pick (stirs the_object the_terms j) j.waiters) j _ e in (
        λ x c. every_in (λ y. stirs the_object the_terms j y ≡ false) j.waiters x q (in_contains x j.waiters c),
        subst (λ (k : Waiting Request). AreOf members (with_list lists m p new) p k.waiters) (sym stays)
            (left_of new j.waiters i.there (ap (all_meant m) leaves ∙ i.listed m i.member) (λ n l d. i.listed n l)),
      )

  -- somebody is
  pub one_in_turn : (stands : Standing) → InTurn stands → (it : Option Turn) (new : List Waiter) (q : Picked Request) → pick (stirs the_object the_terms j) j.waiters ≡ Some q → IsPick (stirs the_object the_terms j) j.waiters q
      → LeavesAsPicked (fate the_object the_terms j) m (picked_among (is_at m) (Some q)) here it new → IsDone it new
  one_in_turn stands i None new q e is leaves = absurd leaves
  one_in_turn stands i (Some it) new q e is leaves = (
    (q.one, its, leaves.0, leaves.1),
    subst (λ (z : Waiting Request). AreOf members (with_list lists m p new) p z.waiters) (sym left)
        (left_of new (q.front ++ q.back) i.there own (others_stay q.one q.front q.back mine (subst (AreOf members lists p) is.whole i.listed))),
  )
    where
      its : IsItsTurn the_object the_terms j q.one
      its = its_turn the_object the_terms j q e is

      left : turn the_object the_terms j ≡ leaving the_object the_terms j q
      left = at_some (pick (stirs the_object the_terms j) j.waiters) j (leaving the_object the_terms j) q e

      mine : q.one.member ≡ m
      mine = i.only q.one (contains_in q.one j.waiters (subst (In q.one) (sym is.whole) (in_right q.one q.front (q.one ∷ q.back) (inl refl)))) is.passes

      own : all_meant m new ≡ filter (is_at m) (q.front ++ q.back)
      own = leaves.2 ∙ sym (filter_joined (is_at m) q.front q.back)

  pub machines : (stands : Standing) (it : Option Turn) (new : List Waiter) → InTurn stands → TakesTurn settings s (j.clock m) stands here it new → IsDone it new
  machines stands it new i takes = ⊎_elim
      (λ r. none_in_turn stands i it new r.1 r.0 (subst (λ z. LeavesAsPicked (fate the_object the_terms j) m z here it new) (among ∙ ap (picked_among (is_at m)) r.1) leaves))
      (λ r. one_in_turn stands i it new r.0 r.1 r.2 (subst (λ z. LeavesAsPicked (fate the_object the_terms j) m z here it new) (among ∙ ap (picked_among (is_at m)) r.1) leaves))
      (pick_of (stirs the_object the_terms j) j.waiters)
    where
      leaves : LeavesAsPicked (fate the_object the_terms j) m (pick (stirs the_object the_terms j) (all_meant m here)) here it new
      leaves = every_turn_is_its_lists settings starves j m stands s here it new i.does takes

      among : pick (stirs the_object the_terms j) (all_meant m here) ≡ picked_among (is_at m) (pick (stirs the_object the_terms j) j.waiters)
      among =
          ap (pick (stirs the_object the_terms j)) (i.listed m i.member)
          ∙ pick_among (stirs the_object the_terms j) (is_at m) j.waiters (λ y c t. number_same y.member m (i.only y (contains_in y j.waiters c) t))

pub every_turn_is_its_partitions : (settings : Settings) → EveryTurnIsItsPartitions settings
every_turn_is_its_partitions settings starves j members m p stands s lists it new i takes = machines settings starves j members m p s lists stands it new i takes
