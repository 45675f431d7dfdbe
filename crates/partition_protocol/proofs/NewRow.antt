-- A row that the service makes.
use Rattle.std.proofs.Common.{◌≡◌, ◌≢◌, ℕ, ◌+◌, ◌<◌, ◌≤◌, true, false, cond, List, [], ◌∷◌, ◌++◌, filter, refl, ap, sym, ◌∙◌, subst, ◌⊎◌, ⊎_elim, inl, inr, arith, le_refl, le_of_eq}
use Rattle.partition_table.specs.Rows.{is_among, is_first, is_primary, is_in, is_eligible, numbers_of}
use Rattle.partition_protocol.specs.Messages.{Packet}
use Rattle.partition_protocol.specs.Node.{Pair, Held, Node}
use Rattle.partition_protocol.specs.Service.{Move}
use Rattle.grid_base.specs.Objects.{Object}
use Rattle.partition_protocol.specs.History.{Entry, Reset, Base, Opening, history, opening_at}
use Rattle.partition_protocol.specs.World.{World, trail}
use Rattle.partition_protocol.specs.Claims.{Stands, is_reset}
use Rattle.partition_table.specs.declared.Row.{Row}
use Rattle.partition_table.specs.declared.RowMember.{RowMember}
use Rattle.partition_protocol.proofs.Lists.{In, Every, every_in, every_weaker, every_from_in, every_append, contains_in, cases, on_cond}
use Rattle.partition_protocol.proofs.Histories.{IsGood, IsBase, falling_higher, base_below, history_reset, IsOtherReset, rising_reset, good_reopened, good_reset, opened_longer, opening_same, stands_left, filter_keeps}
use Rattle.partition_protocol.proofs.Invariant.{Shape, shape, NodeAt, RowsOk, IsMember, IsGone, IsGoneAt, PacketOk, EntryOk, BaseOk, MoveOk, StandingOk, SinceOk, GoneOk, Frame, content, ContentOk, ResetsOk, Invariant}
use Rattle.partition_protocol.proofs.RowFacts.{eligible_in, not_both, is_less}
use Rattle.partition_protocol.proofs.Forward.{Forward, forward_same, packet_forward, node_forward, acks_forward, based_forward, le_cases}
use Rattle.partition_protocol.proofs.Safe

pub record NextRow {C : Type 0} (w : World C) (row : Row) : Type 0 where
  pub version : row.version ≡ w.service.row.version + 1
  pub reset : (row.reset ≡ w.service.row.reset) ⊎ ((w.service.row.lost ≡ true) × (row.reset ≡ row.version))
  pub lost : row.lost ≡ true → (numbers_of row ≡ []) × (w.service.row.lost ≡ false) × ((q : ℕ) → is_eligible w.service.row q ≡ true → is_among w.crashed q ≡ true)
  pub below : (m : ℕ) → is_in row m ≡ true → m < w.members
  pub gone : (m : ℕ) → is_primary w.service.row m ≡ true → is_primary row m ≡ false → IsGone w.nodes w.crashed w.service.row.version m
  pub first : row.lost ≡ false → (f : ℕ) × (ps : List RowMember) × (row.members ≡ record { member = f; eligible = true } ∷ ps)
  pub eligible : (q : ℕ) → is_eligible row q ≡ true → ((w.service.row.lost ≡ false) × (row.reset ≡ w.service.row.reset) × (is_eligible w.service.row q ≡ true)) ⊎ (row.reset ≡ row.version)

pub gone_lower : (nodes : List Node) (crashed : List ℕ) (v u m : ℕ) → v ≤ u → IsGone nodes crashed u m → IsGone nodes crashed v m
gone_lower nodes crashed v u m l (inl c) = inl c
gone_lower nodes crashed v u m l (inr f) = inr (λ n at. lower n (f n at) (le_cases v u l))
  where
    lower : (n : Node) → IsGoneAt u n → (v ≡ u) ⊎ (v < u) → IsGoneAt v n
    lower n (inl k) c = inl (omega (arith, k, l))
    lower n (inr k) (inl e) = inr (k.0 ∙ sym e, k.1, k.2)
    lower n (inr k) (inr d) = inl (omega (arith, k.0, d))

module _ {C : Type 0} (w : World C) (made : List Shape) (ok : Frame w made) (row : Row) (s : NextRow w row) where
  abbrev pub made' : List Shape
  made' = shape row ∷ made

  abbrev pub standing' : Row
  standing' = cond row.lost w.recorded.standing row

  pub forward : Forward w.nodes w.nodes w.recorded.bases w.recorded.bases made (shape row ∷ made) w.crashed w.crashed
  forward = record { bases_in = λ b i. i; made_in = λ t i. inr i; crashed_in = λ m c. c; nodes_up = λ m n at. (n, at, forward_same w.recorded.bases w.recorded.bases (shape row ∷ made) m n) }

  pub old_version : (t : Shape) → In t made → t.version < row.version
  old_version t i = let l = ok.rows.newest_top t i in omega (arith, l, s.version)

  pub rows' : RowsOk w.members (shape row ∷ made) (shape row)
  rows' = record { newest_in = inl refl; newest_top = top; one = one; lost = lost; old_reset = old_reset; same_reset = same_reset; lost_between = between; below = below; positive = positive }
    where
      top : (t : Shape) → In t (shape row ∷ made) → t.version ≤ row.version
      top t (inl e) = le_of_eq (ap (λ (k : Shape). k.version) (sym e))
      top t (inr i) = let l = old_version t i in omega (arith, l)

      one : (t k : Shape) → In t (shape row ∷ made) → In k (shape row ∷ made) → t.version ≡ k.version → t ≡ k
      one t k (inl e) (inl f) v = sym e ∙ f
      one t k (inl e) (inr j) v = let a : row.version ≡ t.version = ap (λ (z : Shape). z.version) e in let l = old_version k j in absurd (omega (arith, a, l, v))
      one t k (inr i) (inl f) v = let a : row.version ≡ k.version = ap (λ (z : Shape). z.version) f in let l = old_version t i in absurd (omega (arith, a, l, v))
      one t k (inr i) (inr j) v = ok.rows.one t k i j v

      lost : (t : Shape) → In t (shape row ∷ made) → t.lost ≡ true → t.members ≡ []
      lost t (inl e) l = ap (λ (k : Shape). k.members) (sym e) ∙ (s.lost (ap (λ (k : Shape). k.lost) e ∙ l)).0
      lost t (inr i) l = ok.rows.lost t i l

      newest_reset : w.service.row.reset ≤ w.service.row.version
      newest_reset = ok.rows.old_reset (shape w.service.row) ok.rows.newest_in

      own_reset : row.reset ≤ row.version
      own_reset = ⊎_elim (λ e. omega (arith, e, newest_reset, s.version)) (λ h. le_of_eq h.1) s.reset

      old_reset : (t : Shape) → In t (shape row ∷ made) → t.reset ≤ t.version
      old_reset t (inl e) = subst (λ (k : Shape). k.reset ≤ k.version) e own_reset
      old_reset t (inr i) = ok.rows.old_reset t i

      with_new : (t : Shape) → In t made → row.reset ≤ t.version → (row.reset ≡ w.service.row.reset) ⊎ ((w.service.row.lost ≡ true) × (row.reset ≡ row.version)) → t.reset ≡ row.reset
      with_new t i l (inl e) = ok.rows.same_reset t (shape w.service.row) i ok.rows.newest_in (ok.rows.newest_top t i) (subst (λ r. r ≤ t.version) e l) ∙ sym e
      with_new t i l (inr h) = let k = old_version t i in absurd (omega (arith, k, l, h.1))

      same_reset : (t k : Shape) → In t (shape row ∷ made) → In k (shape row ∷ made) → t.version ≤ k.version → k.reset ≤ t.version → t.reset ≡ k.reset
      same_reset t k (inl e) (inl f) v r = ap (λ (z : Shape). z.reset) (sym e ∙ f)
      same_reset t k (inl e) (inr j) v r = let a : row.version ≡ t.version = ap (λ (z : Shape). z.version) e in let l = old_version k j in absurd (omega (arith, a, l, v))
      same_reset t k (inr i) (inl f) v r = with_new t i (subst (λ (z : Shape). z.reset ≤ t.version) (sym f) r) s.reset ∙ ap (λ (z : Shape). z.reset) f
      same_reset t k (inr i) (inr j) v r = ok.rows.same_reset t k i j v r

      new_between : (t : Shape) → In t made → t.version < row.reset → (row.reset ≡ w.service.row.reset) ⊎ ((w.service.row.lost ≡ true) × (row.reset ≡ row.version))
          → (l : Shape) × In l (shape row ∷ made) × (l.members ≡ []) × (t.version ≤ l.version) × (l.version < row.version)
      new_between t i r (inl e) = let b = ok.rows.lost_between t (shape w.service.row) i ok.rows.newest_in (subst (λ z. t.version < z) e r) in (b.0, inr b.1, b.2, b.3, omega (arith, b.4, s.version))
      new_between t i r (inr h) = (shape w.service.row, inr ok.rows.newest_in, ok.rows.lost (shape w.service.row) ok.rows.newest_in h.0, ok.rows.newest_top t i, omega (arith, s.version))

      between : (t k : Shape) → In t (shape row ∷ made) → In k (shape row ∷ made) → t.version < k.reset → (l : Shape) × In l (shape row ∷ made) × (l.members ≡ []) × (t.version ≤ l.version) × (l.version < k.version)
      between t k (inl e) j r =
          let a : row.version ≡ t.version = ap (λ (z : Shape). z.version) e in let b = old_reset k j in let c = top k j in absurd (omega (arith, a, b, c, r))
      between t k (inr i) (inl f) r = subst (λ (z : Shape). (l : Shape) × In l (shape row ∷ made) × (l.members ≡ []) × (t.version ≤ l.version) × (l.version < z.version)) f
          (new_between t i (subst (λ (z : Shape). t.version < z.reset) (sym f) r) s.reset)
      between t k (inr i) (inr j) r = let b = ok.rows.lost_between t k i j r in (b.0, inr b.1, b.2, b.3, b.4)

      below : (t : Shape) (m : ℕ) → In t (shape row ∷ made) → is_among t.members m ≡ true → m < w.members
      below t m (inl e) a = s.below m (subst (λ (z : Shape). is_among z.members m ≡ true) (sym e) a)
      below t m (inr i) a = ok.rows.below t m i a

      positive : (t : Shape) → In t (shape row ∷ made) → 1 ≤ t.version
      positive t (inl e) = subst (λ (z : Shape). 1 ≤ z.version) e (omega (arith, s.version))
      positive t (inr i) = ok.rows.positive t i

  pub standing_lost : row.lost ≡ true → StandingOk w.crashed (shape row ∷ made) row w.recorded.standing
  standing_lost l =
      let h = s.lost l in
      let same = ok.standing.now h.1 in
      record {
        made_row = inr ok.standing.made_row;
        first = ok.standing.first;
        rest = ok.standing.rest;
        begins = ok.standing.begins;
        now = λ e. absurd (not_both row.lost l e);
        next = λ e. s.version ∙ ap (λ (k : Row). k.version + 1) (sym same);
        after_loss = λ e q z. h.2 q (subst (λ (k : Row). is_eligible k q ≡ true) same z);
      }

  pub standing_new : row.lost ≡ false → StandingOk w.crashed (shape row ∷ made) row row
  standing_new e = let f = s.first e in record {
    made_row = inl refl;
    first = f.0;
    rest = f.1;
    begins = f.2;
    now = λ z. refl;
    next = λ l. absurd (not_both row.lost l e);
    after_loss = λ l. absurd (not_both row.lost l e);
  }

  pub standing_ok : StandingOk w.crashed (shape row ∷ made) row standing'
  standing_ok = on_cond (λ (k : Row). StandingOk w.crashed (shape row ∷ made) row k) row.lost w.recorded.standing row standing_lost standing_new

  pub gone_ok : GoneOk w.nodes w.crashed (shape row ∷ made)
  gone_ok t k m (inl e) j l a d = let z : row.version ≡ t.version = ap (λ (y : Shape). y.version) e in let b = rows'.newest_top k j in absurd (omega (arith, z, b, l))
  gone_ok t k m (inr i) (inr j) l a d = ok.gone t k m i j l a d
  gone_ok t k m (inr i) (inl f) l a d = go (le_cases t.version w.service.row.version (ok.rows.newest_top t i)) (cases (is_primary w.service.row m))
    where
      d' : is_primary row m ≡ false
      d' = subst (λ (z : Shape). is_first z.members m ≡ false) (sym f) d

      go : (t.version ≡ w.service.row.version) ⊎ (t.version < w.service.row.version) → (is_primary w.service.row m ≡ true) ⊎ (is_primary w.service.row m ≡ false) → IsGone w.nodes w.crashed t.version m
      go (inl e) p = subst (λ v. IsGone w.nodes w.crashed v m) (sym e) (s.gone m (subst (λ (z : Shape). is_first z.members m ≡ true) (ok.rows.one t (shape w.service.row) i ok.rows.newest_in e) a) d')
      go (inr b) (inl p) = gone_lower w.nodes w.crashed t.version w.service.row.version m (omega (arith, b)) (s.gone m p d')
      go (inr b) (inr p) = ok.gone t (shape w.service.row) m i ok.rows.newest_in b a p

  pub since_new : row.lost ≡ false → SinceOk w.nodes w.recorded.bases (shape row ∷ made) row
  since_new e q n t z at (inl f) l = inl (subst (λ (k : Shape). is_among k.members q ≡ true) f (eligible_in row q z))
  since_new e q n t z at (inr i) l = go (s.eligible q z)
    where
      go : ((w.service.row.lost ≡ false) × (row.reset ≡ w.service.row.reset) × (is_eligible w.service.row q ≡ true)) ⊎ (row.reset ≡ row.version)
          → (is_among t.members q ≡ true) ⊎ ((u : ℕ) × IsBase w.recorded.bases u × (t.version < u) × (u ≤ n.known.version)) ⊎ (t.version < row.reset)
      go (inr r) = inr (inr (subst (λ k. t.version < k) (sym r) (old_version t i)))
      go (inl h) =
          let same = ok.standing.now h.0 in
          subst (λ k. (is_among t.members q ≡ true) ⊎ ((u : ℕ) × IsBase w.recorded.bases u × (t.version < u) × (u ≤ n.known.version)) ⊎ (t.version < k)) (ap (λ (k : Row). k.reset) same ∙ sym h.1)
          (ok.since q n t (subst (λ (k : Row). is_eligible k q ≡ true) (sym same) h.2) at i (subst (λ (k : Row). t.version ≤ k.version) (sym same) (ok.rows.newest_top t i)))

  pub since_lost : row.lost ≡ true → SinceOk w.nodes w.recorded.bases (shape row ∷ made) w.recorded.standing
  since_lost e q n t z at (inr i) l = ok.since q n t z at i l
  since_lost e q n t z at (inl f) l =
      let same = ok.standing.now (s.lost e).1 in
      let a : row.version ≡ t.version = ap (λ (y : Shape). y.version) f in
      let b : w.recorded.standing.version ≡ w.service.row.version = ap (λ (k : Row). k.version) same in
      absurd (omega (arith, a, b, l, s.version))

  pub since_ok : SinceOk w.nodes w.recorded.bases (shape row ∷ made) standing'
  since_ok = on_cond (λ (k : Row). SinceOk w.nodes w.recorded.bases (shape row ∷ made) k) row.lost w.recorded.standing row since_lost since_new

  pub row_frame : (move : Move) (detected : List ℕ) (ps : List Packet) (lg : List (Entry C)) (os : List (Opening C)) → MoveOk w.nodes w.crashed row move → ((m : ℕ) → is_among detected m ≡ true → is_among w.crashed m ≡ true)
      → Every (EntryOk w.nodes w.recorded.bases) lg
      → Every (λ (p : Packet). PacketOk w.nodes w.recorded.bases (shape row ∷ made) w.crashed p.from p.message) ps
      → Frame (record w { service = record { row = row; move = move; detected = detected }; packets = ps; recorded = record w.recorded { standing = standing'; log = lg; openings = os } }) (shape row ∷ made)
  row_frame move detected ps lg os mv dt en pk = record {
    rows = rows';
    standing = standing_ok;
    moving = mv;
    detected = dt;
    gone = gone_ok;
    there = ok.there;
    nodes = λ m n at. node_forward w.nodes w.nodes w.recorded.bases w.recorded.bases made (shape row ∷ made) w.crashed w.crashed forward m n (ok.nodes m n at);
    acks = λ m n at. acks_forward w.nodes w.nodes w.recorded.bases w.recorded.bases made (shape row ∷ made) w.crashed w.crashed forward n (ok.acks m n at);
    tops = ok.tops;
    packets = pk;
    falling = falling_higher (w.service.row.version + 1) (row.version + 1) w.recorded.bases (omega (arith, s.version)) ok.falling;
    bases = every_weaker (BaseOk w.nodes made) (BaseOk w.nodes (shape row ∷ made)) w.recorded.bases (λ b q. based_forward w.nodes w.nodes w.recorded.bases w.recorded.bases made (shape row ∷ made) w.crashed w.crashed forward b q) ok.bases;
    pairs = ok.pairs;
    log = en;
    since = since_ok;
  }

  pub packets_old : Every (λ (p : Packet). PacketOk w.nodes w.recorded.bases (shape row ∷ made) w.crashed p.from p.message) w.packets
  packets_old = every_weaker (λ (p : Packet). PacketOk w.nodes w.recorded.bases made w.crashed p.from p.message) (λ (p : Packet). PacketOk w.nodes w.recorded.bases (shape row ∷ made) w.crashed p.from p.message) w.packets
      (λ p q. packet_forward w.nodes w.nodes w.recorded.bases w.recorded.bases made (shape row ∷ made) w.crashed w.crashed forward p.from p.message q) ok.packets

-- the contents, where the row keeps the reset
module _ {C State : Type 0} (o : Object C State) (w : World C) (made : List Shape) (inv : Invariant o w made) (row : Row) (s : NextRow w row) where
  pub base_old : (v : ℕ) → IsBase w.recorded.bases v → v < row.version
  base_old v i = let l = base_below w.recorded.bases (w.service.row.version + 1) v inv.frame.falling i in omega (arith, l, s.version)

  pub member_old : (v q : ℕ) → IsBase w.recorded.bases v → IsMember (shape row ∷ made) v q → IsMember made v q
  member_old v q b (t, inl e, z, a) = let l = base_old v b in let k : row.version ≡ t.version = ap (λ (y : Shape). y.version) e in absurd (omega (arith, l, k, z))
  member_old v q b (t, inr i, z, a) = (t, i, z, a)

  -- for any row that stands with the same reset, and no more eligible members
  abbrev pub IsSmaller : Row → Type 0
  IsSmaller st = (st.reset ≡ w.recorded.standing.reset) × ((q : ℕ) → is_eligible st q ≡ true → is_eligible w.recorded.standing q ≡ true)

  pub smaller : w.service.row.lost ≡ false → row.reset ≡ w.service.row.reset → IsSmaller (cond row.lost w.recorded.standing row)
  smaller still r = on_cond (λ (k : Row). IsSmaller k) row.lost w.recorded.standing row (λ e. (refl, λ q z. z)) (λ e. (r ∙ ap (λ (k : Row). k.reset) (sym same), λ q z. eligible q (s.eligible q z)))
    where
      same : w.recorded.standing ≡ w.service.row
      same = inv.frame.standing.now still

      eligible : (q : ℕ) → ((w.service.row.lost ≡ false) × (row.reset ≡ w.service.row.reset) × (is_eligible w.service.row q ≡ true)) ⊎ (row.reset ≡ row.version) → is_eligible w.recorded.standing q ≡ true
      eligible q (inl h) = subst (λ (k : Row). is_eligible k q ≡ true) (sym same) h.2
      eligible q (inr e) = let l = inv.frame.rows.old_reset (shape w.service.row) inv.frame.rows.newest_in in absurd (omega (arith, l, e, r, s.version))

  pub row_content : (move : Move) (detected : List ℕ) (ps : List Packet) → (st : Row) → IsSmaller st
      → ContentOk o (record w { service = record { row = row; move = move; detected = detected }; packets = ps; recorded = record w.recorded { standing = st } }) (shape row ∷ made)
  row_content move detected ps st h = record {
    rising = inv.content.rising;
    good = inv.content.good;
    opened = inv.content.opened;
    old = every_weaker (λ (k : Opening C). k.reset ≤ w.service.row.version) (λ (k : Opening C). k.reset ≤ row.version) w.recorded.openings (λ k l. omega (arith, l, s.version)) inv.content.old;
    resets = subst (λ r. ResetsOk w.recorded.openings w.recorded.log w.recorded.bases r) (sym h.0) inv.content.resets;
    kept = λ q n k e at i. subst (λ r. Stands k (content w.recorded.openings w.recorded.log w.recorded.bases r n.pair)) (sym h.0) (inv.content.kept q n k (h.1 q e) at i);
    base_kept = λ v q n k b r j e at i. inv.content.base_kept v q n k b (subst (λ z. z ≤ v) h.0 r) (member_old v q b j) (eligible v q b e) at i;
    held = inv.content.held;
  }
    where
      eligible : (v q : ℕ) → IsBase w.recorded.bases v → (is_eligible st q ≡ true) ⊎ (v ≡ row.version) → (is_eligible w.recorded.standing q ≡ true) ⊎ (v ≡ w.service.row.version)
      eligible v q b (inl e) = inl (h.1 q e)
      eligible v q b (inr e) = let l = base_old v b in absurd (omega (arith, l, e))

  pub row_inv : (move : Move) (detected : List ℕ) (ps : List Packet) → w.service.row.lost ≡ false → row.reset ≡ w.service.row.reset → MoveOk w.nodes w.crashed row move → ((m : ℕ) → is_among detected m ≡ true → is_among w.crashed m ≡ true)
      → Every (λ (p : Packet). PacketOk w.nodes w.recorded.bases (shape row ∷ made) w.crashed p.from p.message) ps
      → Invariant o (record w { service = record { row = row; move = move; detected = detected }; packets = ps; recorded = record w.recorded { standing = cond row.lost w.recorded.standing row } }) (shape row ∷ made)
  row_inv move detected ps still r mv dt pk = record {
    frame = row_frame w made inv.frame row s move detected ps w.recorded.log w.recorded.openings mv dt inv.frame.log pk;
    content = row_content move detected ps (cond row.lost w.recorded.standing row) (smaller still r);
  }

  -- a reopening
  module _ (reset : row.reset ≡ row.version) (stands : row.lost ≡ false) where
    abbrev pub entry : Entry C
    entry = Reset row.version

    abbrev pub n : Opening C
    n = record { reset = row.version; entries = trail w ++ Reset row.version ∷ [] }

    abbrev pub lg : List (Entry C)
    lg = w.recorded.log ++ Reset row.version ∷ []

    abbrev pub os : List (Opening C)
    os = n ∷ w.recorded.openings

    pub others : Every (IsOtherReset row.version) w.recorded.bases
    others = every_from_in (IsOtherReset row.version) w.recorded.bases one
      where
        one : (b : Base) → In b w.recorded.bases → b.reset ≢ row.version
        one b i = let k : BaseOk w.nodes made b = every_in (BaseOk w.nodes made) w.recorded.bases b inv.frame.bases i in
            let a = inv.frame.rows.old_reset k.row k.made_row in let c = inv.frame.rows.newest_top k.row k.made_row in omega (arith, a, c, k.reset, s.version)

    pub history_same : (p : Pair) → history os lg w.recorded.bases p ≡ history w.recorded.openings w.recorded.log w.recorded.bases p
    history_same p = history_reset n w.recorded.openings w.recorded.log w.recorded.bases p others

    pub trail_good : IsGood o w.recorded.log (trail w)
    trail_good = subst (λ es. IsGood o w.recorded.log es) (sym (Safe.trail_is o w made inv)) (Safe.content_good o w made inv w.recorded.standing.reset (Safe.first_node o w made inv).0.pair)

    pub now_kept : (h : Held) → In h w.released → Stands h (opening_at row.version os)
    now_kept h i = rw (opening_same n w.recorded.openings) (stands_left h (trail w) (Reset row.version ∷ []) (Safe.answered o w made inv h (contains_in h w.released i)))

    pub reopen_content : (move : Move) (detected : List ℕ) (ps : List Packet)
        → ContentOk o (record w { service = record { row = row; move = move; detected = detected }; packets = ps; recorded = record w.recorded { standing = row; log = lg; openings = os } }) (shape row ∷ made)
    reopen_content move detected ps = record {
      rising = rising_reset w.recorded.log row.version inv.content.rising;
      good = good_reopened o w.recorded.openings w.recorded.log w.recorded.bases n others inv.content.good;
      opened = (good_reset o w.recorded.log (trail w) row.version trail_good, opened_longer o w.recorded.log (Reset row.version) w.recorded.openings inv.content.opened);
      old = (le_refl row.version, every_weaker (λ (k : Opening C). k.reset ≤ w.service.row.version) (λ (k : Opening C). k.reset ≤ row.version) w.recorded.openings (λ k l. omega (arith, l, s.version)) inv.content.old);
      resets = record {
        started = λ b i e. absurd (every_in (IsOtherReset row.version) w.recorded.bases b others i (e ∙ reset));
        opened = λ l. subst (λ r. filter is_reset (opening_at r os) ≡ filter is_reset lg) (sym reset) resets;
        none = λ e. absurd (omega (arith, e, reset, s.version));
      };
      kept = kept;
      base_kept = λ v q x h b r j e at i. let l = base_old v b in absurd (omega (arith, l, r, reset));
      held = λ m x h at i. let k = inv.content.held m x h at i in (k.0, subst (λ es. Stands h es) (sym (history_same (record { version = x.known.version; count = h.seen }))) k.1);
    }
      where
        resets : filter is_reset (opening_at row.version os) ≡ filter is_reset lg
        resets = rw (opening_same n w.recorded.openings, filter_keeps is_reset (trail w) (Reset row.version) refl, filter_keeps is_reset w.recorded.log (Reset row.version) refl) (ap (λ es. es ++ Reset row.version ∷ []) (Safe.resets o w made inv))

        old_pair : (q : ℕ) (x : Node) → NodeAt w.nodes q x → x.pair.version < row.version
        old_pair q x at = ⊎_elim (λ e. let z : x.pair.version ≡ 0 = ap (λ (p : Pair). p.version) e in omega (arith, z, s.version)) (λ k. base_old x.pair.version k.0) (inv.frame.nodes q x at).pair

        kept : (q : ℕ) (x : Node) (h : Held) → is_eligible row q ≡ true → NodeAt w.nodes q x → In h w.released → Stands h (content os lg w.recorded.bases row.reset x.pair)
        kept q x h e at i = let l = old_pair q x at in rw (is_less x.pair.version row.reset (omega (arith, l, reset))) (subst (λ r. Stands h (opening_at r os)) (sym reset) (now_kept h i))

    pub reopen_inv : (move : Move) (detected : List ℕ) (ps : List Packet) → MoveOk w.nodes w.crashed row move → ((m : ℕ) → is_among detected m ≡ true → is_among w.crashed m ≡ true)
        → Every (λ (p : Packet). PacketOk w.nodes w.recorded.bases (shape row ∷ made) w.crashed p.from p.message) ps
        → Invariant o (record w { service = record { row = row; move = move; detected = detected }; packets = ps; recorded = record w.recorded { standing = cond row.lost w.recorded.standing row; log = lg; openings = os } }) (shape row ∷ made)
    reopen_inv move detected ps mv dt pk = record {
      frame = row_frame w made inv.frame row s move detected ps lg os mv dt (every_append (EntryOk w.nodes w.recorded.bases) w.recorded.log (Reset row.version ∷ []) inv.frame.log (tt, tt)) pk;
      content = subst (λ st. ContentOk o (record w { service = record { row = row; move = move; detected = detected }; packets = ps; recorded = record w.recorded { standing = st; log = lg; openings = os } }) (shape row ∷ made)) (sym same) (reopen_content move detected ps);
    }
      where
        same : cond row.lost w.recorded.standing row ≡ row
        same = rw stands refl
