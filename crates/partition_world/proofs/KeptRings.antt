-- A list of the newest effects keeps them by their numbers: all of them, and as a call is executed and a message is taken.
use Rattle.std.proofs.Common.{◌≡◌, ℕ, zero, suc, ◌+◌, ◌-◌, min, ◌<◌, ◌≤◌, Bool, true, false, cond, nat_le, List, [], ◌∷◌, ◌++◌, length, take, drop, reverse, Option, Some, None, is_some, slice_get, refl, ap, sym, ◌∙◌, subst, arith, ◌⊎◌, inl, inr, length-append}
use Rattle.std.proofs.lemmas.Bool.Decides.{nat_tests}
use Rattle.std.proofs.lemmas.List.{reverse-append, length-reverse, drop-append-le, take-append-drop}
use Rattle.partition_table.specs.declared.Row.{Row}
use Rattle.partition_table.specs.Rows.{is_primary, is_backup}
use Rattle.partition_protocol.specs.Messages.{Message, NewRow, Sync, Effect, Bridge, Ack, Joined, Freeze, Frozen}
use Rattle.partition_protocol.specs.Node.{Node, no_pair}
use Rattle.partition_protocol.specs.CatchUp.{recent_limit}
use Rattle.partition_protocol.specs.Adoption.{adopted_row, is_before_reset, begun, emptied, adopt_as_primary, adopt_as_other, carried_answers, stays_primary}
use Rattle.partition_protocol.specs.Replica.{is_newer, taking}
use Rattle.partition_protocol.specs.Execution.{reached, Executes, executing}
use Rattle.partition_protocol.specs.World.{World as Machine, is_live, pair_state}
use Rattle.partition_protocol.proofs.Lists.{on_cond, on_if}
use Rattle.partition_protocol.proofs.Invariant.{NodeAt}
use Rattle.partition_protocol.proofs.RowFacts.{not_both}
use Rattle.partition_protocol.proofs.Takings.{brought, IsUnmoved, unmoved_old, backup_not_primary, every_taking}
use Rattle.partition_protocol.proofs.Theorem.{get_front}
use Rattle.member_wire.specs.Said.{Contents, said_with}
use Rattle.grid_base.specs.Shelves.{Meaning}
use Rattle.partition_world.specs.Shelves.{IsShelf}
use Rattle.partition_world.specs.Sending.{HasNewest}
use Rattle.primary_hold.specs.Adopting.{goes_on}
use Rattle.replica_node.specs.Takings.{ring_after_taking, row_in}
use Rattle.primary_hold.specs.Rings.{kept, ring_after}
use Rattle.partition_world.proofs.EffectsLead.{Stood}
use Rattle.partition_world.proofs.Executing.{KeepsOn}

-- an element that there is
pub some_at : {X : Type 0} (xs : List X) (i : ℕ) → i < length xs → (x : X) × (slice_get xs i ≡ Some x)
some_at [] i l = absurd (omega (arith, l))
some_at (x ∷ xs) zero l = (x, refl)
some_at (x ∷ xs) (suc i) l = some_at xs i (omega (arith, l))

-- a list of as many effects as are recent has them all
pub newest_kept : (node : Node) (ring : List (List ℕ)) → length ring ≡ min recent_limit node.recent → HasNewest node (kept ring node.pair.count)
newest_kept node ring size i l r =
    let there : nat_le i node.pair.count ≡ true = grind (arith, nat_tests) in
    let few : node.pair.count - i < length (reverse ring) = omega (arith, l, r, size, length-reverse ring) in
    let is = some_at (reverse ring) (node.pair.count - i) few in
    (is.0, rw there is.1)

-- none are kept in an empty list
pub none_kept : (count i : ℕ) (bytes : List ℕ) → kept [] count i ≡ Some bytes → ⊥
none_kept count i bytes e = go (nat_le i count) e
  where
    go : (b : Bool) → cond b None None ≡ Some bytes → ⊥
    go true z = absurd cc
    go false z = absurd cc

-- the oldest make room for a new one
pub ring_with : (ring : List (List ℕ)) (bytes : List ℕ) → reverse (ring_after (Some bytes) ring) ≡ bytes ∷ reverse (drop (length (ring ++ bytes ∷ []) - recent_limit) ring)
ring_with ring bytes =
    let whole = length-append ring (bytes ∷ []) in
    let k : ℕ = length (ring ++ bytes ∷ []) - recent_limit in
    ap reverse (drop-append-le k ring (bytes ∷ []) (omega (arith, whole))) ∙ reverse-append (drop k ring) (bytes ∷ [])

pub dropped_front : {X : Type 0} (k i : ℕ) (xs : List X) (x : X) → slice_get (reverse (drop k xs)) i ≡ Some x → slice_get (reverse xs) i ≡ Some x
dropped_front k i xs x e =
    ap (λ ys. slice_get (reverse ys) i) (sym (take-append-drop k xs)) ∙ ap (λ ys. slice_get ys i) (reverse-append (take k xs) (drop k xs))
    ∙ get_front (reverse (drop k xs)) (reverse (take k xs)) i x e

-- what is kept, as it is counted
pub kept_at : (ring : List (List ℕ)) (count i : ℕ) (bytes : List ℕ) → kept ring count i ≡ Some bytes → (i ≤ count) × (slice_get (reverse ring) (count - i) ≡ Some bytes)
kept_at ring count i bytes e = go (nat_le i count) refl e
  where
    go : (b : Bool) → nat_le i count ≡ b → cond b (slice_get (reverse ring) (count - i)) None ≡ Some bytes → (i ≤ count) × (slice_get (reverse ring) (count - i) ≡ Some bytes)
    go true t z = ((let l : i ≤ count = grind (arith, nat_tests) in l), z)
    go false t z = absurd cc

pub at_kept : (ring : List (List ℕ)) (count i : ℕ) (bytes : List ℕ) → i ≤ count → slice_get (reverse ring) (count - i) ≡ Some bytes → kept ring count i ≡ Some bytes
at_kept ring count i bytes l e = let there : nat_le i count ≡ true = grind (arith, nat_tests) in rw there e

-- a call

pub kept_newest : (ring : List (List ℕ)) (new bytes : List ℕ) (count : ℕ) → kept (ring_after (Some new) ring) (count + 1) (count + 1) ≡ Some bytes → new ≡ bytes
kept_newest ring new bytes count e =
    let h = (kept_at (ring_after (Some new) ring) (count + 1) (count + 1) bytes e).1 in
    let first : count + 1 - (count + 1) ≡ 0 = omega arith in
    let same : Some new ≡ Some bytes = sym (ap (λ i. slice_get (reverse (ring_after (Some new) ring)) i) first ∙ ap (λ xs. slice_get xs 0) (ring_with ring new)) ∙ h in
    cc

pub kept_older : (ring : List (List ℕ)) (new bytes : List ℕ) (count i : ℕ) → i ≤ count → kept (ring_after (Some new) ring) (count + 1) i ≡ Some bytes → kept ring count i ≡ Some bytes
kept_older ring new bytes count i l e =
    let h = (kept_at (ring_after (Some new) ring) (count + 1) i bytes e).1 in
    let later : count + 1 - i ≡ suc (count - i) = omega (arith, l) in
    let k : ℕ = length (ring ++ new ∷ []) - recent_limit in
    let old : slice_get (reverse (drop k ring)) (count - i) ≡ Some bytes =
    sym (ap (λ j. slice_get (reverse (ring_after (Some new) ring)) j) later ∙ ap (λ xs. slice_get xs (suc (count - i))) (ring_with ring new)) ∙ h in
    at_kept ring count i bytes l (dropped_front k (count - i) ring bytes old)

module _ {S C State : Type 0} (k : Meaning S C State) (limits : C → Type 0) (within : ℕ → State → Type 0) (applied : List ℕ → State → Option State) (shelf : IsShelf k limits within applied)
    (w : Machine C) (stood : Stood k.object limits within w) (m conn number : ℕ) (call : C) (now : ℕ) (n : Node) (lives : is_live w m ≡ true) (there : NodeAt w.nodes m n) (executed : reached m n ≡ Executes) where
  abbrev pub before : State
  before = pair_state k.object w n.pair

  pub keeps_on : (ring : List (List ℕ))
      → KeepsOn k limits within applied shelf w stood m conn number call now n lives there executed (kept ring n.pair.count)
      (kept (ring_after (k.effect_of before call now) ring) (executing (k.object.changes before call now) conn number n).pair.count)
  keeps_on ring = by_effect (k.effect_of before call now) (k.object.changes before call now) refl refl (shelf.changes_by_effect before call now)
    where
      by_effect : (e : Option (List ℕ)) (b : Bool) → k.effect_of before call now ≡ e → k.object.changes before call now ≡ b → k.object.changes before call now ≡ is_some (k.effect_of before call now)
          → KeepsOn k limits within applied shelf w stood m conn number call now n lives there executed (kept ring n.pair.count) (kept (ring_after e ring) (executing b conn number n).pair.count)
      by_effect None true s z h = absurd (let t : true ≡ false = sym z ∙ h ∙ ap is_some s in cc)
      by_effect None false s z h = record {
        newest = λ i bytes l r is. absurd (let c = ap (λ b. (executing b conn number n).pair.count) z in omega (arith, l, r, c));
        older = λ i bytes l is. is;
      }
      by_effect (Some new) false s z h = absurd (let t : false ≡ true = sym z ∙ h ∙ ap is_some s in cc)
      by_effect (Some new) true s z h = record {
        newest = λ i bytes l r is. (let c = ap (λ b. (executing b conn number n).pair.count) z in
            let one : i ≡ n.pair.count + 1 = omega (arith, l, r, c) in
            s ∙ ap Some (kept_newest ring new bytes n.pair.count (subst (λ j. kept (ring_after (Some new) ring) (n.pair.count + 1) j ≡ Some bytes) one is)));
        older = λ i bytes l is. kept_older ring new bytes n.pair.count i l is;
      }

-- a message that is taken

pub row_in_said : (contents : Contents) (msg : Message) → row_in (said_with contents msg) ≡ brought msg
row_in_said contents (NewRow row) = refl
row_in_said contents (Sync row c) = refl
row_in_said contents (Bridge row e c) = refl
row_in_said contents (Effect v i) = refl
row_in_said contents (Ack v c) = refl
row_in_said contents (Joined v b) = refl
row_in_said contents (Freeze v) = refl
row_in_said contents (Frozen v) = refl

module _ (service m from : ℕ) (msg : Message) (n : Node) (ring : List (List ℕ)) where
  abbrev pub ring_then : List (List ℕ)
  ring_then = ring_after_taking m n (brought msg) ring

  -- a primary keeps no effect then, or what it kept and counted
  abbrev pub Keeps : Node → Type 0
  Keeps a = is_primary a.known m ≡ true → (ring_then ≡ []) ⊎ ((ring_then ≡ ring) × (a.pair.count ≡ n.pair.count))

  pub same_ring : IsUnmoved m from msg n → ring_then ≡ ring
  same_ring u = go (brought msg) refl
    where
      go : (r : Option Row) → brought msg ≡ r → ring_after_taking m n r ring ≡ ring
      go None e = refl
      go (Some row) e = let old = unmoved_old m from msg n row e u in rw old refl

  pub no_row_ring : brought msg ≡ None → ring_then ≡ ring
  no_row_ring e = ap (λ r. ring_after_taking m n r ring) e

  pub adopted_ring : (row : Row) → brought msg ≡ Some row → is_newer row n ≡ true → Keeps (adopted_row m row n)
  adopted_ring row e newer =
      on_cond Keeps (is_primary row m) (adopt_as_primary row (stays_primary row n m) (carried_answers m n) (begun row n)) (cond (is_backup row m) (adopt_as_other row (begun row n).pair) (adopt_as_other row no_pair))
      (λ p z. led p (is_primary n.known m) (is_before_reset row n) refl refl)
      (λ p. on_if Keeps (is_backup row m) (adopt_as_other row (begun row n).pair) (adopt_as_other row no_pair) (λ z. absurd (not_both (is_primary row m) z p)) (λ z. absurd (not_both (is_primary row m) z p)))
    where
      is : ring_then ≡ cond (goes_on m row n) ring []
      is = ap (λ r. ring_after_taking m n r ring) e ∙ rw newer refl

      led : is_primary row m ≡ true → (c b : Bool) → is_primary n.known m ≡ c → is_before_reset row n ≡ b
          → (ring_then ≡ []) ⊎ ((ring_then ≡ ring) × ((cond b (emptied n) n).pair.count ≡ n.pair.count))
      led p true true s t = inl (is ∙ rw (p, s, t) refl)
      led p true false s t = inr (is ∙ rw (p, s, t) refl, refl)
      led p false b s t = inl (is ∙ rw (p, s) refl)

  pub taking_keeps : Keeps (taking service m from msg n).node
  taking_keeps = every_taking m from msg n Keeps (record {
    stays = λ u p. inr (same_ring u, refl);
    adopts = λ row e newer. adopted_ring row e newer;
    syncs = λ row c a e h v b l p. absurd (backup_not_primary a.known m b p);
    bridges = λ row v c a e h z b s t p. absurd (backup_not_primary a.known m b p);
    applies = λ v j e b s t p. absurd (backup_not_primary n.known m b p);
    acks = λ v c e p z b q. inr (no_row_ring (ap brought e), refl);
    freezes = λ v e p z q. inr (no_row_ring (ap brought e), refl);
  }) service

  -- So what it keeps then it kept before
  pub taken_kept : (contents : Contents) → is_primary (taking service m from msg n).node.known m ≡ true → (i : ℕ) (bytes : List ℕ)
      → kept (ring_after_taking m n (row_in (said_with contents msg)) ring) (taking service m from msg n).node.pair.count i ≡ Some bytes → kept ring n.pair.count i ≡ Some bytes
  taken_kept contents leads i bytes e = go (taking_keeps leads)
    where
      said : kept ring_then (taking service m from msg n).node.pair.count i ≡ Some bytes
      said = ap (λ r. kept (ring_after_taking m n r ring) (taking service m from msg n).node.pair.count i) (sym (row_in_said contents msg)) ∙ e

      go : (ring_then ≡ []) ⊎ ((ring_then ≡ ring) × ((taking service m from msg n).node.pair.count ≡ n.pair.count)) → kept ring n.pair.count i ≡ Some bytes
      go (inl z) = absurd (none_kept (taking service m from msg n).node.pair.count i bytes (ap (λ xs. kept xs (taking service m from msg n).node.pair.count i) (sym z) ∙ said))
      go (inr (z, c)) = ap (λ xs. kept xs n.pair.count i) (sym z) ∙ ap (λ d. kept ring_then d i) (sym c) ∙ said
