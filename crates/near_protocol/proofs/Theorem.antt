-- Every value that is hit stands.
use Rattle.std.proofs.Common.{◌≡◌, ◌≢◌, ℕ, ◌≤◌, true, false, ◌==◌, List, [], ◌∷◌, ◌++◌, Option, Some, None, Contains, refl, ap, sym, ◌∙◌, subst, ◌⊎◌, inl, inr, arith}
use Rattle.std.specs.List.{find, flat_map}
use Rattle.grid_base.specs.Objects.{Object}
use Rattle.partition_protocol.specs.History.{Executed, Entry, Called, Reset}
use Rattle.partition_protocol.specs.World.{World, trail}
use Rattle.partition_protocol.specs.NamedStates.{effect_call}
use Rattle.partition_protocol.proofs.RowFacts.{number_other}
use Rattle.partition_protocol.proofs.Lists.{In, in_contains, contains_in}
use Rattle.near_protocol.specs.Keyed.{Keyed, IsKeyed}
use Rattle.near_protocol.specs.Client.{Kept, Said, Answer, Refusal, Invalidation, Rows, RowHeard, is_for, known_in}
use Rattle.near_protocol.specs.Near.{Grid, Invalidated, Near, new_grid, world, name_of, known_version, all_happened, attached, all_moved}
use Rattle.near_protocol.specs.Claims.{Before, WasReleased, Changed, SpeaksOf, HasRead, IsAfterNamed, IsKnownWrite, IsHit, EveryHitStands}
use Rattle.near_protocol.proofs.Parts.{before_part}
use Rattle.near_protocol.proofs.Orders.{in_order, same_call, before_in_part}
use Rattle.near_protocol.proofs.Worlds.{Sound, in_trail_log}
use Rattle.near_protocol.proofs.Invariant.{Freed, Backed, Told, version_at, versions_in, Origin, listed, ClimbsTo, Beyond, Later, KeptOk, ChangeOk, Inv}
use Rattle.near_protocol.proofs.Hear.{find_in}
use Rattle.near_protocol.proofs.Attaching.{attaches, all_members}
use Rattle.near_protocol.proofs.Moves.{moves_later, all_sound, all_moves}

-- the entry that a hit finds
pub hit_is : {C State K V : Type 0} (l : Keyed C State K V) (k : K) (es : List (Kept K V)) (v : V) (x : Option (Kept K V)) → find (is_for l k) es ≡ x → elim x as (λ _. Option V) [ None ↦ None | Some e ↦ Some e.value ] ≡ Some v
    → (e : Kept K V) × In e es × (l.same e.key k ≡ true) × (e.value ≡ v)
hit_is l k es v None f h = absurd cc
hit_is l k es v (Some e) f h = let r = find_in (is_for l k) es e f in (e, r.0, r.1, cc)

-- nothing unread speaks of the partition's row
pub no_version : (p : ℕ) (rows : List RowHeard) → ((r : RowHeard) → In r rows → r.partition ≢ p) → flat_map (version_at p) rows ≡ []
no_version p [] f = refl
no_version p (r ∷ rows) f = let t : (r.partition == p) ≡ false = number_other r.partition p (f r (inl refl)) in rw t (no_version p rows (λ x i. f x (inr i)))

pub none_of : {C State K V : Type 0} (l : Keyed C State K V) (k : K) (m : Said K) → (SpeaksOf l k m → ⊥) → versions_in (l.partition k) m ≡ []
none_of l k (Rows rows) f = no_version (l.partition k) rows (λ r i e. f (r, contains_in r rows i, e))
none_of l k (Answer n reply) f = refl
none_of l k (Refusal n) f = refl
none_of l k (Invalidation q v n) f = refl

pub none_in : {C State K V : Type 0} (l : Keyed C State K V) (k : K) (ms : List (Said K)) → ((m : Said K) → In m ms → SpeaksOf l k m → ⊥) → flat_map (versions_in (l.partition k)) ms ≡ []
none_in l k [] f = refl
none_in l k (m ∷ ms) f = let e : versions_in (l.partition k) m ≡ [] = none_of l k m (f m (inl refl)) in rw (e, none_in l k ms (λ x i. f x (inr i))) refl

-- then the client knows what its member knows
pub all_read : (x : Option ℕ) (k n : ℕ) → ClimbsTo (listed x ++ []) k → Beyond (listed x ++ []) n → k ≤ n
all_read None k n c b = absurd c
all_read (Some v) k n c b = omega (arith, c, b)

module _ {C State K V : Type 0} (o : Object C State) (l : Keyed C State K V) (partitions : ℕ) (keyed : IsKeyed o l partitions) (s : Near C K V) (inv : Inv o l partitions s) (sound : (q : ℕ) → Sound (world o s.grid q)) (e : Kept K V) (h : KeptOk o l s e) where
  abbrev pub w : World C
  w = world o s.grid (l.partition e.key)

  pub ok : Sound w
  ok = sound (l.partition e.key)

  -- an answered call stands in the trail
  pub in_trail : (x : Executed C) → In (Called x) w.recorded.log → Freed w (name_of x) → In (Called x) (trail w)
  in_trail x i (g, j, n) =
      let r = ok.released g j in
      let same : r.0 ≡ x = same_call w.recorded.log r.0 x ok.once (in_trail_log w ok (Called r.0) r.1) i (r.2 ∙ n) in
      subst (λ (y : Executed C). In (Called y) (trail w)) same r.1

  pub there : In (Called h.get) (trail w)
  there = in_trail h.get h.logged h.freed

  pub in_line : (x : Executed C) → In (Called x) (trail w) → Before w.recorded.log (Called x) (Called h.get) → Before (trail w) (Called x) (Called h.get)
  in_line x i b = before_in_part (trail w) w.recorded.log x h.get ok.part ok.once i there b

  pub after : (i : Invalidated K) → Contains s.processed i → i.key ≡ e.key → IsAfterNamed o l s e.key i h.get
  after i c k = go (h.after.processed i (in_contains i s.processed c) k)
    where
      go : (b : Backed s.grid.changes w e.key i.version i.number) × Before w.recorded.log (Called b.write) (Called h.get) → IsAfterNamed o l s e.key i h.get
      go (b, z) = record {
        write = b.write;
        named = first;
        changed = (b.change, contains_in b.change s.grid.changes b.made, part, b.key, sym b.call);
        before = in_line b.write (in_trail b.write b.logged b.freed) z;
      }
        where
          ok_change : ChangeOk o l s.grid b.change
          ok_change = inv.changes b.change b.made

          part : b.change.partition ≡ l.partition e.key
          part = sym ok_change.0 ∙ ap l.partition b.key

          by_origin : Origin (world o s.grid (l.partition e.key)) b.change → effect_call (world o s.grid (l.partition e.key)) i.version i.number ≡ Some b.write
          by_origin t =
              let same : t.origin ≡ b.write = same_call (world o s.grid (l.partition e.key)).recorded.log t.origin b.write ok.once t.logged b.logged (t.named ∙ sym b.call) in
              ap (λ v. effect_call (world o s.grid (l.partition e.key)) v i.number) (sym b.version ∙ ap (λ (x : Executed C). x.version) (sym same))
              ∙ ap (λ n. effect_call (world o s.grid (l.partition e.key)) t.origin.version n) (sym b.seen ∙ ap (λ (x : Executed C). x.seen) (sym same)) ∙ t.first ∙ ap (λ (x : Executed C). Some x) same

          first : effect_call (world o s.grid (l.partition e.key)) i.version i.number ≡ Some b.write
          first = by_origin (subst (λ q. Origin (world o s.grid q) b.change) part ok_change.1)

  -- where nothing of the key is unread
  module _ (read : HasRead l e.key s.unread) where
    pub none_told : flat_map (versions_in (l.partition e.key)) s.unread ≡ []
    none_told = none_in l e.key s.unread (λ m i. read m (contains_in m s.unread i))

    pub known_low : known_version s.member w ≤ h.get.version
    known_low = all_read (known_in (l.partition e.key) s.client.rows) (known_version s.member w) h.get.version
        (subst (λ vs. ClimbsTo (listed (known_in (l.partition e.key) s.client.rows) ++ vs) (known_version s.member w)) none_told (inv.rows (l.partition e.key) (keyed.partition e.key)))
        (subst (λ vs. Beyond (listed (known_in (l.partition e.key) s.client.rows) ++ vs) h.get.version) none_told h.after.heard)

    pub fresh_after : (write : Executed C) → Changed s.grid (l.partition e.key) e.key write → Contains (trail w) (Called write) → WasReleased w (name_of write) → write.version ≤ known_version s.member w → Before (trail w) (Called write) (Called h.get)
    fresh_after write (c, made, part, key, call) stands (g, given, named) low = in_line write i (go (h.after.later c write (in_contains c s.grid.changes made) key logged (sym call)))
      where
        i : In (Called write) (trail w)
        i = in_contains (Called write) (trail w) stands

        logged : In (Called write) w.recorded.log
        logged = in_trail_log w ok (Called write) i

        freed : Freed w c.call
        freed = (g, in_contains g w.released given, named ∙ sym call)

        by_told : Told s.unread e.key ⊎ ((y : Executed C) → In (Called y) w.recorded.log → name_of y ≡ c.call → Before w.recorded.log (Called y) (Called h.get)) → Before w.recorded.log (Called write) (Called h.get)
        by_told (inl t) = absurd (read (Invalidation e.key t.0 t.1) (contains_in (Invalidation e.key t.0 t.1) s.unread t.2) refl)
        by_told (inr f) = f write logged (sym call)

        go : Later w s.member h.get c write → Before w.recorded.log (Called write) (Called h.get)
        go (inl b) = b
        go (inr (inl m)) = by_told (h.after.told c (in_contains c s.grid.changes made) key m freed)
        go (inr (inr (inl b))) = let k = known_low in absurd (omega (arith, b, k))
        go (inr (inr (inr b))) = let k = known_low in absurd (omega (arith, b, k, low))

    pub fresh : (write : Executed C) → IsKnownWrite o l s e.key write → Before (trail w) (Called write) (Called h.get)
    fresh write is = fresh_after write is.changed is.stands is.released is.known

    pub reopened : (r : ℕ) → Contains (trail w) (Reset r) → r ≤ known_version s.member w → Before (trail w) (Reset r) (Called h.get)
    reopened r stands low = go (in_order (trail w) (Reset r) (Called h.get) (in_contains (Reset r) (trail w) stands) there)
      where
        the_reset : Entry C
        the_reset = Reset r

        go : (the_reset ≡ Called h.get) ⊎ Before (trail w) the_reset (Called h.get) ⊎ Before (trail w) (Called h.get) the_reset → Before (trail w) the_reset (Called h.get)
        go (inl z) = absurd cc
        go (inr (inl b)) = b
        go (inr (inr b)) = (let k = known_low in let v = ok.rising.resets h.get r (before_part (trail w) w.recorded.log (Called h.get) (Reset r) ok.part b) in absurd (omega (arith, k, v, low)))

  pub entry_hit : IsHit o l s e.key e.value
  entry_hit = record {
    get = h.get;
    conn = h.conn;
    call = h.call;
    says = h.says;
    released = (h.freed.0, contains_in h.freed.0 w.released h.freed.1, h.freed.2);
    stands = contains_in (Called h.get) (trail w) there;
    after = after;
    fresh = fresh;
    reopened = reopened;
  }

pub every_hit_stands : {C State K V : Type 0} (o : Object C State) (l : Keyed C State K V) → EveryHitStands o l
every_hit_stands {C} {State} {K} {V} o l members backups partitions member conn first capacity earlier moves key value one keyed new named found = go (hit_is l key s.client.entries value (find (is_for l key) s.client.entries) refl found)
  where
    g : Grid C K
    g = all_happened o l (new_grid members backups) earlier

    s0 : Near C K V
    s0 = attached o partitions member conn first capacity (all_happened o l (new_grid members backups) earlier)

    s : Near C K V
    s = all_moved o l (attached o partitions member conn first capacity (all_happened o l (new_grid members backups) earlier)) moves

    grid_one : 1 ≤ (all_happened o l (new_grid {C = C} {K = K} members backups) earlier).members
    grid_one = subst (λ k. 1 ≤ k) (sym (all_members o l (new_grid members backups) earlier)) one

    inv : Inv o l partitions (all_moved o l (attached o partitions member conn first capacity (all_happened o l (new_grid members backups) earlier)) moves)
    inv = all_moves o l partitions keyed moves (attached o partitions member conn first capacity (all_happened o l (new_grid members backups) earlier)) (attaches o l members backups partitions member conn first capacity earlier one keyed new) grid_one named

    sound : (q : ℕ) → Sound (world o s.grid q)
    sound = all_sound o l s.grid (subst (λ k. 1 ≤ k) (sym (moves_later o l s0 moves).members) grid_one) named

    go : (e : Kept K V) × In e s.client.entries × (l.same e.key key ≡ true) × (e.value ≡ value) → IsHit o l s key value
    go (e, i, t, v) = subst (λ k. IsHit o l s k value) ((keyed.same e.key key).0 t) (subst (λ x. IsHit o l s e.key x) v (entry_hit o l partitions keyed s inv sound e (inv.entries e i)))
