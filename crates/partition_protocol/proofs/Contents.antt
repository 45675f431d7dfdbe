-- A step of one node keeps what is said of contents.
use Rattle.std.proofs.Common.{◌≡◌, ◌≢◌, ℕ, ◌<◌, ◌≤◌, Bool, true, false, cond, List, nat_lt, slice_set, sym, subst, ◌⊎◌, ⊎_elim, inl, inr}
use Rattle.partition_table.specs.Rows.{is_primary, is_eligible}
use Rattle.partition_protocol.specs.Messages.{Packet}
use Rattle.partition_protocol.specs.Node.{Pair, Held, Node, no_pair}
use Rattle.grid_base.specs.Objects.{Object}
use Rattle.partition_protocol.specs.History.{Entry, Base, Opening, history, opening_at}
use Rattle.partition_protocol.specs.World.{World}
use Rattle.partition_protocol.specs.Claims.{Stands}
use Rattle.partition_protocol.proofs.Lists.{In, Every, get_set, cases}
use Rattle.partition_protocol.proofs.Histories.{IsGood, AreGood, IsRising, IsBase, start_at}
use Rattle.partition_protocol.proofs.Invariant.{Shape, NodeAt, IsMember, Frame, content, ContentOk, ResetsOk, KeptOk, BaseKeptOk, HeldOk}
use Rattle.partition_protocol.proofs.Steps.{moved}

abbrev pub IsPair : List Base → Pair → Type 0
IsPair bs p = (p ≡ no_pair) ⊎ IsBase bs p.version

-- what a node has of what was released, as the version v goes
abbrev pub HasKept : {C : Type 0} → List (Opening C) → List (Entry C) → List Base → ℕ → Node → Held → Type 0
HasKept os lg bs v n h = Stands h (start_at os lg bs v) ⊎ (v < n.known.version) ⊎ ((n.pair.version ≡ v) × Stands h (history os lg bs n.pair))

pub content_kept : {C : Type 0} (os : List (Opening C)) (log lg : List (Entry C)) (bases bs : List Base) (r : ℕ) (p : Pair) (h : Held)
    → (Stands h (history os log bases p) → Stands h (history os lg bs p)) → Stands h (content os log bases r p) → Stands h (content os lg bs r p)
content_kept os log lg bases bs r p h f = go (nat_lt p.version r)
  where
    go : (b : Bool) → Stands h (cond b (opening_at r os) (history os log bases p)) → Stands h (cond b (opening_at r os) (history os lg bs p))
    go true s = s
    go false s = f s

pub has_kept : {C : Type 0} (os : List (Opening C)) (log lg : List (Entry C)) (bases bs : List Base) (v : ℕ) (n : Node) (h : Held)
    → (Stands h (start_at os log bases v) → Stands h (start_at os lg bs v)) → (Stands h (history os log bases n.pair) → Stands h (history os lg bs n.pair)) → HasKept os log bases v n h → HasKept os lg bs v n h
has_kept os log lg bases bs v n h f g (inl s) = inl (f s)
has_kept os log lg bases bs v n h f g (inr (inl l)) = inr (inl l)
has_kept os log lg bases bs v n h f g (inr (inr e)) = inr (inr (e.0, g e.1))

-- what a step of node m owes of contents
pub record ContentStep {C State : Type 0} (o : Object C State) (w : World C) (made : List Shape) (m : ℕ) (n' : Node) (bs : List Base) (lg : List (Entry C)) : Type 0 where
  pub rising : IsRising lg
  pub good : AreGood o w.recorded.openings lg bs
  pub opened : Every (λ (k : Opening C). IsGood o lg k.entries) w.recorded.openings
  pub resets : ResetsOk w.recorded.openings lg bs w.recorded.standing.reset
  pub history_kept : (p : Pair) (h : Held) → IsPair w.recorded.bases p → Stands h (history w.recorded.openings w.recorded.log w.recorded.bases p) → Stands h (history w.recorded.openings lg bs p)
  pub start_kept : (v : ℕ) (h : Held) → IsBase w.recorded.bases v → Stands h (start_at w.recorded.openings w.recorded.log w.recorded.bases v) → Stands h (start_at w.recorded.openings lg bs v)
  pub start_new : (v : ℕ) → IsBase bs v → IsBase w.recorded.bases v ⊎ ((h : Held) → In h w.released → Stands h (start_at w.recorded.openings lg bs v))
  pub kept : (h : Held) → is_eligible w.recorded.standing m ≡ true → In h w.released → Stands h (content w.recorded.openings lg bs w.recorded.standing.reset n'.pair)
  pub base_kept : (v : ℕ) (h : Held) → IsBase w.recorded.bases v → w.recorded.standing.reset ≤ v → IsMember made v m → (is_eligible w.recorded.standing m ≡ true) ⊎ (v ≡ w.service.row.version) → In h w.released → HasKept w.recorded.openings lg bs v n' h
  pub held : (h : Held) → In h n'.held → (h.seen ≤ n'.pair.count) × Stands h (history w.recorded.openings lg bs (record { version = n'.known.version; count = h.seen }))

module _ {C State : Type 0} (o : Object C State) (w : World C) (made : List Shape) (frame : Frame w made) (ok : ContentOk o w made) (m : ℕ) (n' : Node) (bs : List Base) (lg : List (Entry C)) (s : ContentStep o w made m n' bs lg) where
  pub pair_of : (k : ℕ) (x : Node) → NodeAt w.nodes k x → IsPair w.recorded.bases x.pair
  pair_of k x at = ⊎_elim (λ e. inl e) (λ h. inr h.0) (frame.nodes k x at).pair

  pub held_pair : (k : ℕ) (x : Node) (h : Held) → NodeAt w.nodes k x → In h x.held → IsBase w.recorded.bases x.known.version
  held_pair k x h at i = ⊎_elim (λ p. ((frame.nodes k x at).primary p).1) (λ p. absurd (subst (λ hs. In h hs) ((frame.nodes k x at).held p) i)) (cases (is_primary x.known k))

  pub step_kept : KeptOk (slice_set w.nodes m n') w.recorded.openings lg bs w.recorded.standing w.released
  step_kept q x h e at i = go (get_set w.nodes m q n' x at)
    where
      go : ((q ≡ m) × (n' ≡ x)) ⊎ ((q ≢ m) × NodeAt w.nodes q x) → Stands h (content w.recorded.openings lg bs w.recorded.standing.reset x.pair)
      go (inl d) = subst (λ (y : Node). Stands h (content w.recorded.openings lg bs w.recorded.standing.reset y.pair)) d.1 (s.kept h (subst (λ j. is_eligible w.recorded.standing j ≡ true) d.0 e) i)
      go (inr d) = content_kept w.recorded.openings w.recorded.log lg w.recorded.bases bs w.recorded.standing.reset x.pair h (s.history_kept x.pair h (pair_of q x d.1)) (ok.kept q x h e d.1 i)

  pub step_base_kept : BaseKeptOk (slice_set w.nodes m n') w.recorded.openings lg bs made w.recorded.standing w.service.row.version w.released
  step_base_kept v q x h b r j e at i = by_base (s.start_new v b)
    where
      go : IsBase w.recorded.bases v → ((q ≡ m) × (n' ≡ x)) ⊎ ((q ≢ m) × NodeAt w.nodes q x) → HasKept w.recorded.openings lg bs v x h
      go c (inl d) = subst (λ (y : Node). HasKept w.recorded.openings lg bs v y h) d.1 (s.base_kept v h c r (subst (λ k. IsMember made v k) d.0 j) (subst (λ k. (is_eligible w.recorded.standing k ≡ true) ⊎ (v ≡ w.service.row.version)) d.0 e) i)
      go c (inr d) = has_kept w.recorded.openings w.recorded.log lg w.recorded.bases bs v x h (s.start_kept v h c) (s.history_kept x.pair h (pair_of q x d.1)) (ok.base_kept v q x h c r j e d.1 i)

      by_base : IsBase w.recorded.bases v ⊎ ((k : Held) → In k w.released → Stands k (start_at w.recorded.openings lg bs v)) → HasKept w.recorded.openings lg bs v x h
      by_base (inl c) = go c (get_set w.nodes m q n' x at)
      by_base (inr f) = inl (f h i)

  pub step_held : HeldOk (slice_set w.nodes m n') w.recorded.openings lg bs
  step_held q x h at i = go (get_set w.nodes m q n' x at)
    where
      go : ((q ≡ m) × (n' ≡ x)) ⊎ ((q ≢ m) × NodeAt w.nodes q x) → (h.seen ≤ x.pair.count) × Stands h (history w.recorded.openings lg bs (record { version = x.known.version; count = h.seen }))
      go (inl d) = subst (λ (y : Node). (h.seen ≤ y.pair.count) × Stands h (history w.recorded.openings lg bs (record { version = y.known.version; count = h.seen }))) d.1 (s.held h (subst (λ (y : Node). In h y.held) (sym d.1) i))
      go (inr d) = let r = ok.held q x h d.1 i in (r.0, s.history_kept (record { version = x.known.version; count = h.seen }) h (inr (held_pair q x h d.1 i)) r.1)

  pub content_step : (ps : List Packet) → ContentOk o (moved w (slice_set w.nodes m n') bs ps lg w.released) made
  content_step ps = record {
    rising = s.rising;
    good = s.good;
    opened = s.opened;
    old = ok.old;
    resets = s.resets;
    kept = step_kept;
    base_kept = step_base_kept;
    held = step_held;
  }
