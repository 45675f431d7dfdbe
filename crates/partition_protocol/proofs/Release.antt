-- Answers that are released: every member that may be promoted has their calls.
use Rattle.std.proofs.Common.{◌≡◌, ◌≢◌, ℕ, ◌+◌, ◌<◌, ◌≤◌, Bool, true, false, cond, ◌==◌, List, [], ◌∷◌, ◌++◌, map, Option, Some, None, nat_lt, slice_set, refl, ap, sym, ◌∙◌, subst, ◌⊎◌, ⊎_elim, inl, inr, arith, le_refl, le_trans, true≢false}
use Rattle.std.specs.List.{list_all}
use Rattle.std.proofs.lemmas.Bool.Decides.{nat_tests}
use Rattle.partition_table.specs.Rows.{number_of, is_among, is_first, is_primary, is_in, is_eligible, numbers_of, backups_of, rest_of}
use Rattle.partition_protocol.specs.Node.{Pair, Acknowledged, Held, Node, no_pair, acked, acked_by, or_opening, is_at_least, is_released, still_held, now_released, settled}
use Rattle.grid_base.specs.Objects.{Object}
use Rattle.partition_protocol.specs.History.{Base, history}
use Rattle.partition_protocol.specs.World.{World}
use Rattle.partition_protocol.specs.Claims.{Stands}
use Rattle.partition_table.specs.declared.Row.{Row}
use Rattle.partition_table.specs.declared.RowMember.{RowMember}
use Rattle.partition_protocol.proofs.Lists.{In, Every, in_cases, get_set, cases}
use Rattle.partition_protocol.proofs.Histories.{IsBase, stands_more}
use Rattle.partition_protocol.proofs.Invariant.{Shape, shape, NodeAt, IsMember, IsUpTo, IsGone, IsGoneAt, HasUpTo, HasAcked, HasLeft, NodeOk, AcksOk, Frame, content, Invariant, KeptOk, BaseKeptOk, HeldOk}
use Rattle.partition_protocol.proofs.RowFacts.{not_less, less, is_not_less, not_both, same_number, both_left, both_right, true_or_not, in_among}
use Rattle.partition_protocol.proofs.Forward.{NodeForward, Forward, left_later, acks_forward, top_forward, le_cases}
use Rattle.partition_protocol.proofs.Steps.{set_forward, packets_kept, log_kept, pairs_kept, bases_kept, frame_step}
use Rattle.partition_protocol.proofs.Contents.{HasKept}
use Rattle.partition_protocol.proofs.Awake

-- the held answers before and after

pub all_in : {X : Type 0} (t : X → Bool) (xs : List X) (x : X) → list_all t xs ≡ true → In x xs → t x ≡ true
all_in t [] x e i = absurd i
all_in t (y ∷ ys) x e (inl s) = subst (λ z. t z ≡ true) s (both_left (t y) (list_all t ys) e)
all_in t (y ∷ ys) x e (inr i) = all_in t ys x (both_right (t y) (list_all t ys) e) i

pub still_in_at : (n : Node) (h k : Held) (hs : List Held) (b : Bool) → (In k (still_held n hs) → In k hs) → In k (cond b (still_held n hs) (h ∷ hs)) → In k (h ∷ hs)
still_in_at n h k hs true f i = inr (f i)
still_in_at n h k hs false f i = i

pub still_in : (n : Node) (k : Held) (hs : List Held) → In k (still_held n hs) → In k hs
still_in n k [] i = i
still_in n k (h ∷ hs) i = still_in_at n h k hs (is_released n h.seen) (still_in n k hs) i

pub now_in_at : (n : Node) (h k : Held) (hs : List Held) (b : Bool) → is_released n h.seen ≡ b → (In k (now_released n hs) → In k hs × (is_released n k.seen ≡ true)) → In k (cond b (h ∷ now_released n hs) []) → In k (h ∷ hs) × (is_released n k.seen ≡ true)
now_in_at n h k hs true e f (inl s) = (inl s, subst (λ (j : Held). is_released n j.seen ≡ true) s e)
now_in_at n h k hs true e f (inr i) = let r = f i in (inr r.0, r.1)
now_in_at n h k hs false e f i = absurd i

pub now_in : (n : Node) (k : Held) (hs : List Held) → In k (now_released n hs) → In k hs × (is_released n k.seen ≡ true)
now_in n k [] i = absurd i
now_in n k (h ∷ hs) i = now_in_at n h k hs (is_released n h.seen) refl (now_in n k hs) i

-- a member of a row is its primary or stands among the backups

pub in_map_back : (ps : List RowMember) (m : ℕ) → In m (map number_of ps) → (p : RowMember) × In p ps × (p.member ≡ m)
in_map_back [] m i = absurd i
in_map_back (p ∷ ps) m (inl e) = (p, inl refl, e)
in_map_back (p ∷ ps) m (inr i) = let r = in_map_back ps m i in (r.0, inr r.1, r.2)

pub primary_or_backup : (ps : List RowMember) (m q : ℕ) → is_first (map number_of ps) m ≡ true → In q (map number_of ps) → (q ≡ m) ⊎ ((p : RowMember) × In p (rest_of ps) × (p.member ≡ q))
primary_or_backup [] m q e i = absurd i
primary_or_backup (p ∷ ps) m q e (inl s) = inl (sym s ∙ same_number p.member m e)
primary_or_backup (p ∷ ps) m q e (inr i) = inr (in_map_back ps q i)

-- an acknowledgement that counts was taken, or counts as taken at the start

pub acked_by_in : (P : ℕ → ℕ → Type 0) (b c : ℕ) (acks : List Acknowledged) → Every (λ (a : Acknowledged). P a.count a.member) acks → acked_by b acks ≡ Some c → P c b
acked_by_in P b c [] all e = absurd cc
acked_by_in P b c (a ∷ acks) all e = go (cases (a.member == b)) (acked_by_in P b c acks all.1)
  where
    go : ((a.member == b) ≡ true) ⊎ ((a.member == b) ≡ false) → (acked_by b acks ≡ Some c → P c b) → P c b
    go (inl t) f = let same : a.count ≡ c = cc (rw (t, acked_by) at e) in subst (λ k. P k b) same (subst (λ k. P a.count k) (same_number a.member b t) all.0)
    go (inr t) f = f (rw (t, acked_by) at e)

pub at_least_some : (k : ℕ) (o : Option ℕ) → is_at_least k o ≡ true → (c : ℕ) × (o ≡ Some c) × (k ≤ c)
at_least_some k None e = absurd (true≢false (sym e))
at_least_some k (Some c) e = (c, refl, grind (arith, nat_tests))

pub or_opening_cases : (opening : Bool) (o : Option ℕ) (c : ℕ) → or_opening opening o ≡ Some c → (o ≡ Some c) ⊎ ((opening ≡ true) × (0 ≡ c))
or_opening_cases opening (Some d) c e = inl e
or_opening_cases true None c e = inr (refl, cc)
or_opening_cases false None c e = absurd cc

pub in_map_numbers : (ps : List RowMember) (p : RowMember) → In p ps → In p.member (map number_of ps)
in_map_numbers [] p i = absurd i
in_map_numbers (x ∷ ps) p (inl s) = inl (ap number_of s)
in_map_numbers (x ∷ ps) p (inr i) = inr (in_map_numbers ps p i)

pub first_in_members : (ps : List RowMember) (p : RowMember) → In p (rest_of ps) → In p.member (map number_of ps)
first_in_members [] p i = absurd i
first_in_members (x ∷ ps) p i = inr (in_map_numbers ps p i)

pub has_less : (bases : List Base) (made : List Shape) (v c d b : ℕ) (x : Node) → d ≤ c → HasUpTo bases made v c b x → HasUpTo bases made v d b x
has_less bases made v c d b x l (inl h) = inl (h.0, le_trans l h.1)
has_less bases made v c d b x l (inr h) = inr h

-- a primary that lives and holds an answer
module _ {C State : Type 0} (o : Object C State) (w : World C) (made : List Shape) (inv : Invariant o w made) (m : ℕ) (n : Node) (at : NodeAt w.nodes m n)
    (lives : is_among w.crashed m ≡ false) (leads : is_primary n.known m ≡ true) (g : Held) (holds : In g n.held) where
  pub ok : NodeOk w.recorded.bases made m n
  ok = inv.frame.nodes m n at

  pub not_gone : IsGone w.nodes w.crashed n.known.version m → ⊥
  not_gone (inl c) = not_both (is_among w.crashed m) c lives
  not_gone (inr f) = go (f n at)
    where
      go : IsGoneAt n.known.version n → ⊥
      go (inl l) = absurd (omega (arith, l))
      go (inr h) = absurd (subst (λ hs. In g hs) h.2 holds)

  pub known_top : n.known.version ≤ w.service.row.version
  known_top = inv.frame.rows.newest_top (shape n.known) ok.known

  pub no_later_base : (u : ℕ) → IsBase w.recorded.bases u → n.known.version < u → ⊥
  no_later_base u b l = let k = Awake.base_known w made inv.frame m (shape n.known) ok.known leads not_gone n at u b (omega (arith, l)) in absurd (omega (arith, k, l))

  pub no_later_reset : (s : Shape) → In s made → n.known.version < s.reset → ⊥
  no_later_reset = Awake.no_later_reset w made inv.frame m (shape n.known) ok.known leads not_gone

  pub standing_reset : w.recorded.standing.reset ≤ n.known.version
  standing_reset = Awake.standing_reset w made inv.frame m (shape n.known) ok.known leads not_gone

  pub standing_is : w.recorded.standing ≡ w.service.row
  standing_is = Awake.standing_is w made inv.frame m (shape n.known) ok.known leads not_gone

  -- an eligible member is in the known row
  pub eligible_known : (q : ℕ) (x : Node) → is_eligible w.recorded.standing q ≡ true → NodeAt w.nodes q x → is_in n.known q ≡ true
  eligible_known q x e a = ⊎_elim (λ i. i) (λ u. absurd (no_later_base u.0 u.1 u.2)) (Awake.eligible_there w made inv.frame m (shape n.known) ok.known leads not_gone q x e a)

  -- and hasn't left its version
  pub eligible_stays : (q : ℕ) (x : Node) → is_eligible w.recorded.standing q ≡ true → NodeAt w.nodes q x → HasLeft w.recorded.bases made n.known.version q x.known.version → ⊥
  eligible_stays q x e a (inl h) = no_later_base h.0 h.1 h.2
  eligible_stays q x e a (inr (inr h)) = no_later_reset h.0 h.1 h.2
  eligible_stays q x e a (inr (inl h)) = go (inv.frame.since q x h.0 e a h.1 (subst (λ (r : Row). h.0.version ≤ r.version) (sym standing_is) (inv.frame.rows.newest_top h.0 h.1)))
    where
      go : (is_among h.0.members q ≡ true) ⊎ ((u : ℕ) × IsBase w.recorded.bases u × (h.0.version < u) × (u ≤ x.known.version)) ⊎ (h.0.version < w.recorded.standing.reset) → ⊥
      go (inl i) = not_both (is_among h.0.members q) i h.4
      go (inr (inl u)) = no_later_base u.0 u.1 (omega (arith, h.2, u.2))
      go (inr (inr l)) = absurd (omega (arith, l, h.2, standing_reset))

  -- every member of the known row has what was acknowledged by all
  pub has_released : is_released n g.seen ≡ true → (q : ℕ) (x : Node) → is_in n.known q ≡ true → NodeAt w.nodes q x → HasUpTo w.recorded.bases made n.known.version g.seen q x
  has_released r q x i a = go (primary_or_backup n.known.members m q leads (in_among (numbers_of n.known) q i))
    where
      by_ack : (p : RowMember) → In p (backups_of n.known) → p.member ≡ q → (c : ℕ) × (acked n p.member ≡ Some c) × (g.seen ≤ c) → HasUpTo w.recorded.bases made n.known.version g.seen q x
      by_ack p j e c = by_case (or_opening_cases n.opening (acked_by p.member n.acks) c.0 c.1)
        where
          at_p : NodeAt w.nodes p.member x
          at_p = subst (λ k. NodeAt w.nodes k x) (sym e) a

          by_case : (acked_by p.member n.acks ≡ Some c.0) ⊎ ((n.opening ≡ true) × (0 ≡ c.0)) → HasUpTo w.recorded.bases made n.known.version g.seen q x
          by_case (inl s) = subst (λ k. HasUpTo w.recorded.bases made n.known.version g.seen k x) e (has_less w.recorded.bases made n.known.version c.0 g.seen p.member x c.2
              (acked_by_in (λ d k. HasAcked w.nodes w.recorded.bases made n.known.version d k) p.member c.0 n.acks (inv.frame.acks m n at).taken s x at_p))
          by_case (inr s) = has_less w.recorded.bases made n.known.version 0 g.seen q x (omega (arith, c.2, s.1)) ((inv.frame.acks m n at).opening s.0 q i x a)

      go : (q ≡ m) ⊎ ((p : RowMember) × In p (backups_of n.known) × (p.member ≡ q)) → HasUpTo w.recorded.bases made n.known.version g.seen q x
      go (inl e) =
          let same : n ≡ x = cc (subst (λ k. NodeAt w.nodes k x) e a, at) in
          subst (λ y. HasUpTo w.recorded.bases made n.known.version g.seen q y) same (inl ((ok.primary leads).0, (inv.content.held m n g at holds).0))
      go (inr p) = by_ack p.0 p.1 p.2 (at_least_some g.seen (acked n p.0.member) (all_in (λ (k : RowMember). is_at_least g.seen (acked n k.member)) (backups_of n.known) p.0 r p.1))

  pub stands_at : (x : Node) → (x.pair.version ≡ n.known.version) × (g.seen ≤ x.pair.count) → Stands g (history w.recorded.openings w.recorded.log w.recorded.bases x.pair)
  stands_at x h =
      subst (λ v. Stands g (history w.recorded.openings w.recorded.log w.recorded.bases (record { version = v; count = x.pair.count }))) (sym h.0)
      (stands_more w.recorded.openings w.recorded.log w.recorded.bases (w.service.row.version + 1) n.known.version g.seen x.pair.count g inv.frame.falling (ok.primary leads).1 h.1 (inv.content.held m n g at holds).1)

  pub now_kept : is_released n g.seen ≡ true → (q : ℕ) (x : Node) → is_eligible w.recorded.standing q ≡ true → NodeAt w.nodes q x → Stands g (content w.recorded.openings w.recorded.log w.recorded.bases w.recorded.standing.reset x.pair)
  now_kept r q x e a = go (has_released r q x (eligible_known q x e a) a)
    where
      go : HasUpTo w.recorded.bases made n.known.version g.seen q x → Stands g (content w.recorded.openings w.recorded.log w.recorded.bases w.recorded.standing.reset x.pair)
      go (inl h) = rw (is_not_less x.pair.version w.recorded.standing.reset (omega (arith, h.0, standing_reset))) (stands_at x h)
      go (inr l) = absurd (eligible_stays q x e a l)

  pub now_base_kept : is_released n g.seen ≡ true → (v q : ℕ) (x : Node) → IsBase w.recorded.bases v → IsMember made v q → (is_eligible w.recorded.standing q ≡ true) ⊎ (v ≡ w.service.row.version) → NodeAt w.nodes q x
      → HasKept w.recorded.openings w.recorded.log w.recorded.bases v x g
  now_base_kept r v q x b i e a = go (le_cases v n.known.version (not_later (cases (nat_lt n.known.version v)))) e
    where
      not_later : (nat_lt n.known.version v ≡ true) ⊎ (nat_lt n.known.version v ≡ false) → v ≤ n.known.version
      not_later (inl t) = absurd (no_later_base v b (less n.known.version v t))
      not_later (inr t) = not_less n.known.version v t

      by_has : HasUpTo w.recorded.bases made n.known.version g.seen q x → HasKept w.recorded.openings w.recorded.log w.recorded.bases n.known.version x g
      by_has (inl h) = inr (inr (h.0, stands_at x h))
      by_has (inr l) = inr (inl (left_later w.recorded.bases made n.known.version q x.known.version l))

      older : v < n.known.version → HasUpTo w.recorded.bases made n.known.version g.seen q x → HasKept w.recorded.openings w.recorded.log w.recorded.bases v x g
      older l (inl h) = by_pair (inv.frame.nodes q x a).pair
        where
          by_pair : (x.pair ≡ no_pair) ⊎ (IsBase w.recorded.bases x.pair.version × (x.pair.version ≤ x.known.version)) → HasKept w.recorded.openings w.recorded.log w.recorded.bases v x g
          by_pair (inl z) = let zero : x.pair.version ≡ 0 = ap (λ (p : Pair). p.version) z in absurd (omega (arith, zero, h.0, l))
          by_pair (inr k) = inr (inl (omega (arith, k.1, h.0, l)))
      older l (inr k) = inr (inl (omega (arith, l, left_later w.recorded.bases made n.known.version q x.known.version k)))

      go : (v ≡ n.known.version) ⊎ (v < n.known.version) → (is_eligible w.recorded.standing q ≡ true) ⊎ (v ≡ w.service.row.version) → HasKept w.recorded.openings w.recorded.log w.recorded.bases v x g
      go (inl s) k =
          let same : i.0 ≡ shape n.known = inv.frame.rows.one i.0 (shape n.known) i.1 ok.known (i.2 ∙ s) in
          subst (λ u. HasKept w.recorded.openings w.recorded.log w.recorded.bases u x g) (sym s) (by_has (has_released r q x (subst (λ (t : Shape). is_among t.members q ≡ true) same i.3) a))
      go (inr l) (inl k) = older l (has_released r q x (eligible_known q x k a) a)
      go (inr l) (inr k) = absurd (omega (arith, l, k, known_top))

-- a live node releases what it may
module _ {C State : Type 0} (o : Object C State) (w : World C) (made : List Shape) (inv : Invariant o w made) (m : ℕ) (n : Node) (at : NodeAt w.nodes m n) (lives : is_among w.crashed m ≡ false) where
  pub held_leads : (h : Held) → In h n.held → is_primary n.known m ≡ true
  held_leads h i = true_or_not (is_primary n.known m) (λ e. absurd (subst (λ hs. In h hs) ((inv.frame.nodes m n at).held e) i))

  pub settle_frame : Frame (record w { nodes = slice_set w.nodes m (settled n); released = w.released ++ now_released n n.held }) made
  settle_frame = frame_step w made inv.frame m n (settled n) at w.recorded.bases w.packets w.recorded.log (w.released ++ now_released n n.held) (record {
    forward = f;
    bases_in = λ b i. i;
    node = node;
    acks = acks;
    top = top;
    packets = packets_kept w made inv.frame m n (settled n) at w.recorded.bases f (λ b i. i) w.packets inv.frame.packets;
    falling = inv.frame.falling;
    bases = bases_kept w made inv.frame m n (settled n) at w.recorded.bases f (λ b i. i);
    pairs = pairs_kept w made inv.frame m n (settled n) at w.recorded.bases f (λ b i. i);
    log = log_kept w made inv.frame m n (settled n) at w.recorded.bases f (λ b i. i);
  })
    where
      ok : NodeOk w.recorded.bases made m n
      ok = inv.frame.nodes m n at

      none : n.held ≡ [] → still_held n n.held ≡ []
      none e = rw e refl

      f : NodeForward w.recorded.bases w.recorded.bases made m n (settled n)
      f = record { known_up = le_refl n.known.version; stays = λ e z h. (z, none h); pair_up = inl (refl, le_refl n.pair.count); count_up = λ p i. (p, refl, le_refl n.pair.count) }

      whole : Forward w.nodes (slice_set w.nodes m (settled n)) w.recorded.bases w.recorded.bases made made w.crashed w.crashed
      whole = set_forward w.nodes w.recorded.bases w.recorded.bases made w.crashed m n (settled n) at f (λ d i. i)

      node : NodeOk w.recorded.bases made m (settled n)
      node = record { known = ok.known; pair = ok.pair; primary = ok.primary; held = λ p. none (ok.held p); earlier = ok.earlier; adopted = ok.adopted }

      acks : AcksOk (slice_set w.nodes m (settled n)) w.recorded.bases made (settled n)
      acks = let a = acks_forward w.nodes (slice_set w.nodes m (settled n)) w.recorded.bases w.recorded.bases made made w.crashed w.crashed whole n (inv.frame.acks m n at) in record { taken = a.taken; opening = a.opening }

      top : IsUpTo (slice_set w.nodes m (settled n)) n.pair.version n.pair.count
      top = top_forward w.nodes (slice_set w.nodes m (settled n)) w.recorded.bases w.recorded.bases made made w.crashed w.crashed whole m n ok (inv.frame.tops m n at)

  -- what is said of a node's pair and row holds of the settled one
  pub unsettled : (P : ℕ → Node → Type 0) → ((k : ℕ) (x : Node) → NodeAt w.nodes k x → P k x) → P m (settled n) → (k : ℕ) (x : Node) → NodeAt (slice_set w.nodes m (settled n)) k x → P k x
  unsettled P f p k x a = go (get_set w.nodes m k (settled n) x a)
    where
      go : ((k ≡ m) × (settled n ≡ x)) ⊎ ((k ≢ m) × NodeAt w.nodes k x) → P k x
      go (inl e) = subst (λ j. P j x) (sym e.0) (subst (λ y. P m y) e.1 p)
      go (inr e) = f k x e.1

  pub settle_kept : KeptOk (slice_set w.nodes m (settled n)) w.recorded.openings w.recorded.log w.recorded.bases w.recorded.standing (w.released ++ now_released n n.held)
  settle_kept q x h e a i = unsettled (λ k y. is_eligible w.recorded.standing k ≡ true → Stands h (content w.recorded.openings w.recorded.log w.recorded.bases w.recorded.standing.reset y.pair)) old (old m n at) q x a e
    where
      old : (k : ℕ) (y : Node) → NodeAt w.nodes k y → is_eligible w.recorded.standing k ≡ true → Stands h (content w.recorded.openings w.recorded.log w.recorded.bases w.recorded.standing.reset y.pair)
      old k y b l = go (in_cases h w.released (now_released n n.held) i)
        where
          go : In h w.released ⊎ In h (now_released n n.held) → Stands h (content w.recorded.openings w.recorded.log w.recorded.bases w.recorded.standing.reset y.pair)
          go (inl j) = inv.content.kept k y h l b j
          go (inr j) = let r = now_in n h n.held j in now_kept o w made inv m n at lives (held_leads h r.0) h r.0 r.1 k y l b

  pub settle_base_kept : BaseKeptOk (slice_set w.nodes m (settled n)) w.recorded.openings w.recorded.log w.recorded.bases made w.recorded.standing w.service.row.version (w.released ++ now_released n n.held)
  settle_base_kept v q x h b r j e a i = unsettled (λ k y. IsMember made v k → (is_eligible w.recorded.standing k ≡ true) ⊎ (v ≡ w.service.row.version) → HasKept w.recorded.openings w.recorded.log w.recorded.bases v y h) old (old m n at) q x a j e
    where
      old : (k : ℕ) (y : Node) → NodeAt w.nodes k y → IsMember made v k → (is_eligible w.recorded.standing k ≡ true) ⊎ (v ≡ w.service.row.version) → HasKept w.recorded.openings w.recorded.log w.recorded.bases v y h
      old k y c d l = go (in_cases h w.released (now_released n n.held) i)
        where
          go : In h w.released ⊎ In h (now_released n n.held) → HasKept w.recorded.openings w.recorded.log w.recorded.bases v y h
          go (inl z) = inv.content.base_kept v k y h b r d l c z
          go (inr z) = let s = now_in n h n.held z in now_base_kept o w made inv m n at lives (held_leads h s.0) h s.0 s.1 v k y b d l c

  pub settle_held : HeldOk (slice_set w.nodes m (settled n)) w.recorded.openings w.recorded.log w.recorded.bases
  settle_held k x h a i = unsettled (λ j y. In h y.held → (h.seen ≤ y.pair.count) × Stands h (history w.recorded.openings w.recorded.log w.recorded.bases (record { version = y.known.version; count = h.seen })))
      (λ j y b l. inv.content.held j y h b l) (λ l. inv.content.held m n h at (still_in n h n.held l)) k x a i

  pub settle : Invariant o (record w { nodes = slice_set w.nodes m (settled n); released = w.released ++ now_released n n.held }) made
  settle = record {
    frame = settle_frame;
    content = record {
      rising = inv.content.rising;
      good = inv.content.good;
      opened = inv.content.opened;
      old = inv.content.old;
      resets = inv.content.resets;
      kept = settle_kept;
      base_kept = settle_base_kept;
      held = settle_held;
    };
  }
