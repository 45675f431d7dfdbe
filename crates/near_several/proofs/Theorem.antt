-- Every value that is hit stands after what the client was told.
use Rattle.std.proofs.Common.{◌≡◌, ℕ, ◌≤◌, Bool, true, false, ◌||◌, List, [], ◌∷◌, Some, Contains, refl, ap, sym, ◌∙◌, subst, inl, inr}
use Rattle.std.specs.List.{find, list_any}
use Rattle.grid_base.specs.Objects.{Object}
use Rattle.partition_protocol.specs.History.{Executed, Called}
use Rattle.partition_protocol.specs.World.{World, trail}
use Rattle.partition_protocol.specs.NamedStates.{effect_call}
use Rattle.partition_protocol.proofs.Lists.{In, in_contains, contains_in}
use Rattle.partition_protocol.proofs.RowFacts.{number_same}
use Rattle.near_protocol.specs.Keyed.{Keyed}
use Rattle.near_protocol.specs.Client.{Kept, is_for}
use Rattle.near_protocol.specs.Near.{Grid, Invalidated, new_grid, world, name_of, all_happened}
use Rattle.near_protocol.specs.Claims.{Before}
use Rattle.near_protocol.proofs.Orders.{same_call, before_in_part}
use Rattle.near_protocol.proofs.Worlds.{Sound, in_trail_log}
use Rattle.near_protocol.proofs.Invariant.{Freed, Backed, Origin, ChangeOk}
use Rattle.near_protocol.proofs.Attaching.{all_changes, all_members}
use Rattle.near_protocol.proofs.Moves.{all_sound}
use Rattle.near_protocol.proofs.Theorem.{hit_is}
use Rattle.near_several.specs.Several.{Port, Several, unattached, is_port, all_moved}
use Rattle.grid_client.specs.Nears.{Value}
use Rattle.grid_client.proofs.Ties.{every_look_is_the_machines}
use Rattle.near_several.specs.Claims.{IsAfterNamed, IsHitAfter, EveryHitIsAfter, EveryHitOfAClientIsAfter}
use Rattle.near_several.proofs.Invariant.{IsOwn, KeptOk, Inv}
use Rattle.near_several.proofs.Moves.{moves_later, all_moves}

pub own_is : {K : Type 0} (ports : List (Port K)) (conn : ℕ) → IsOwn ports conn → list_any (is_port conn) ports ≡ true
own_is [] conn (port, i, e) = absurd i
own_is (p ∷ ps) conn (port, inl i, e) = let on : is_port conn p ≡ true = number_same p.conn conn (ap (λ (x : Port _). x.conn) i ∙ e) in ap (λ (b : Bool). b || list_any (is_port conn) ps) on
own_is (p ∷ ps) conn (port, inr i, e) = or_true (is_port conn p) (list_any (is_port conn) ps) (own_is ps conn (port, i, e))
  where
    or_true : (a b : Bool) → b ≡ true → (a || b) ≡ true
    or_true true b t = refl
    or_true false b t = t

module _ {C State K V : Type 0} (o : Object C State) (l : Keyed C State K V) (s : Several C K V) (inv : Inv o l s) (sound : (q : ℕ) → Sound (world o s.grid q)) (e : Kept K V) (h : KeptOk o l s e) where
  abbrev pub w : World C
  w = world o s.grid (l.partition e.key)

  pub ok : Sound w
  ok = sound (l.partition e.key)

  -- an answered call stands in the trail
  pub in_trail : (x : Executed C) → In (Called x) w.recorded.log → Freed w (name_of x) → In (Called x) (trail w)
  in_trail x i (g, j, n) =
      let r = ok.released g j in
      let same : r.0 ≡ x = same_call w.recorded.log r.0 x ok.once (in_trail_log w ok (Called r.0) r.1) i (r.2 ∙ n) in
      subst (λ (y : Executed C). In (Called y) (trail w)) same r.1

  pub there : In (Called h.get) (trail w)
  there = in_trail h.get h.logged h.freed

  pub after : (i : Invalidated K) → Contains s.processed i → i.key ≡ e.key → IsAfterNamed o l s.grid e.key i h.get
  after i c k = go (h.after i (in_contains i s.processed c) k)
    where
      go : (b : Backed s.grid.changes w e.key i.version i.number) × Before w.recorded.log (Called b.write) (Called h.get) → IsAfterNamed o l s.grid e.key i h.get
      go (b, z) = record {
        write = b.write;
        named = first;
        changed = (b.change, contains_in b.change s.grid.changes b.made, part, b.key, sym b.call);
        before = before_in_part (trail w) w.recorded.log b.write h.get ok.part ok.once (in_trail b.write b.logged b.freed) there z;
      }
        where
          ok_change : ChangeOk o l s.grid b.change
          ok_change = inv.changes b.change b.made

          part : b.change.partition ≡ l.partition e.key
          part = sym ok_change.0 ∙ ap l.partition b.key

          by_origin : Origin (world o s.grid (l.partition e.key)) b.change → effect_call (world o s.grid (l.partition e.key)) i.version i.number ≡ Some b.write
          by_origin t =
              let same : t.origin ≡ b.write = same_call (world o s.grid (l.partition e.key)).recorded.log t.origin b.write ok.once t.logged b.logged (t.named ∙ sym b.call) in
              ap (λ v. effect_call (world o s.grid (l.partition e.key)) v i.number) (sym b.version ∙ ap (λ (x : Executed C). x.version) (sym same))
              ∙ ap (λ n. effect_call (world o s.grid (l.partition e.key)) t.origin.version n) (sym b.seen ∙ ap (λ (x : Executed C). x.seen) (sym same)) ∙ t.first ∙ ap (λ (x : Executed C). Some x) same

          first : effect_call (world o s.grid (l.partition e.key)) i.version i.number ≡ Some b.write
          first = by_origin (subst (λ q. Origin (world o s.grid q) b.change) part ok_change.1)

  pub entry_hit : IsHitAfter o l s e.key e.value
  entry_hit = record {
    get = h.get;
    conn = own_is s.ports h.get.conn h.conn;
    call = h.call;
    says = h.says;
    released = (h.freed.0, contains_in h.freed.0 w.released h.freed.1, h.freed.2);
    stands = contains_in (Called h.get) (trail w) there;
    after = after;
  }

pub every_hit_is_after : {C State K V : Type 0} (o : Object C State) (l : Keyed C State K V) → EveryHitIsAfter o l
every_hit_is_after {C} {State} {K} {V} o l members backups partitions first capacity earlier moves key value one keyed named found = go (hit_is l key s.client.entries value (find (is_for l key) s.client.entries) refl found)
  where
    g : Grid C K
    g = all_happened o l (new_grid members backups) earlier

    s0 : Several C K V
    s0 = unattached first capacity (all_happened o l (new_grid members backups) earlier)

    s : Several C K V
    s = all_moved o l partitions (unattached first capacity (all_happened o l (new_grid members backups) earlier)) moves

    grid_one : 1 ≤ (all_happened o l (new_grid {C = C} {K = K} members backups) earlier).members
    grid_one = subst (λ k. 1 ≤ k) (sym (all_members o l (new_grid members backups) earlier)) one

    begins : Inv o l (unattached first capacity (all_happened o l (new_grid members backups) earlier))
    begins = record {
      numbers = λ p a i own. absurd own.1;
      sent = λ q i. absurd i;
      waiting = λ r i. absurd i;
      entries = λ e i. absurd i;
      unread = λ port i. absurd i;
      processed = λ i j. absurd j;
      changes = all_changes o l partitions keyed (new_grid members backups) earlier one (λ c i. absurd i);
    }

    inv : Inv o l (all_moved o l partitions (unattached first capacity (all_happened o l (new_grid members backups) earlier)) moves)
    inv = all_moves o l partitions keyed moves (unattached first capacity (all_happened o l (new_grid members backups) earlier)) begins grid_one named

    sound : (q : ℕ) → Sound (world o s.grid q)
    sound = all_sound o l s.grid (subst (λ k. 1 ≤ k) (sym (moves_later o l partitions s0 moves).members) grid_one) named

    go : (e : Kept K V) × In e s.client.entries × (l.same e.key key ≡ true) × (e.value ≡ value) → IsHitAfter o l s key value
    go (e, i, t, v) = subst (λ k. IsHitAfter o l s k value) ((keyed.same e.key key).0 t) (subst (λ x. IsHitAfter o l s e.key x) v (entry_hit o l s inv sound e (inv.entries e i)))

pub every_hit_of_a_client_is_after : {C State' : Type 0} (o : Object C State') (l : Keyed C State' (List ℕ) Value) → EveryHitOfAClientIsAfter o l
every_hit_of_a_client_is_after o l members backups partitions first capacity earlier moves s near key value one keyed goes named tied found =
    every_hit_is_after o l members backups partitions first capacity earlier moves key value one keyed named (sym (every_look_is_the_machines l goes s near _ key goes tied) ∙ found)
