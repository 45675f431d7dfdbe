-- The rows that the service makes follow one another as they should.
use Rattle.std.proofs.Common.{◌≡◌, ◌≢◌, ℕ, zero, suc, ◌+◌, ◌<◌, ◌≤◌, Bool, true, false, not, ◌==◌, List, [], ◌∷◌, ◌++◌, map, take, find, Option, Some, None, refl, ap, sym, ◌∙◌, subst, ◌⊎◌, ⊎_elim, inl, inr, mod-lt, true≢false}
use Rattle.partition_table.specs.Rows.{number_of, has_number, is_among, is_first, is_primary, is_in, is_eligible, numbers_of, is_empty, first_eligible, others, led_by, without, with_joiner, handed, begun_by, reopened, with_backups, members_from}
use Rattle.partition_protocol.specs.World.{World}
use Rattle.partition_table.specs.declared.Row.{Row}
use Rattle.partition_table.specs.declared.RowMember.{RowMember}
use Rattle.partition_protocol.proofs.Lists.{In, in_cases, cases}
use Rattle.partition_protocol.proofs.Histories.{filter_in, in_filter}
use Rattle.partition_protocol.proofs.Invariant.{Shape, shape, IsGone, Frame}
use Rattle.partition_protocol.proofs.RowFacts.{in_any, in_map, is_eligible_at, both_left, both_right, same_number, other_number, number_other, number_cases, among_in, in_among, not_both, not_true, no_first, none_among, one_first, eligible_in, false_or_not, member_eligible, first_primary}
use Rattle.partition_protocol.proofs.Release.{in_map_back}
use Rattle.partition_protocol.proofs.NewRow.{NextRow}

-- members by their numbers

pub is_in_member : (row : Row) (q : ℕ) → is_in row q ≡ true → (p : RowMember) × In p row.members × (p.member ≡ q)
is_in_member row q e = in_map_back row.members q (in_among (numbers_of row) q e)

pub member_is_in : (row : Row) (q : ℕ) (p : RowMember) → In p row.members → p.member ≡ q → is_in row q ≡ true
member_is_in row q p i e = among_in (numbers_of row) q (subst (λ k. In k (numbers_of row)) e (in_map number_of row.members p i))

pub eligible_at : (row : Row) (q : ℕ) → is_eligible row q ≡ true → (p : RowMember) × In p row.members × (p.member ≡ q) × (p.eligible ≡ true)
eligible_at row q e = let r = in_any (is_eligible_at q) row.members e in (r.0, r.1, same_number r.0.member q (both_left (r.0.member == q) r.0.eligible r.2), both_right (r.0.member == q) r.0.eligible r.2)

pub at_eligible : (row : Row) (q : ℕ) (p : RowMember) → In p row.members → p.member ≡ q → p.eligible ≡ true → is_eligible row q ≡ true
at_eligible row q p i e f = subst (λ k. is_eligible row k ≡ true) e (member_eligible row p i f)

pub eligible_is : (p : RowMember) → p.eligible ≡ true → p ≡ record { member = p.member; eligible = true }
eligible_is p e = ap (λ b. record { member = p.member; eligible = b }) e

-- what others, find and led keep

pub in_others : (m : ℕ) (ps : List RowMember) (p : RowMember) → In p (others m ps) → In p ps × (p.member ≢ m)
in_others m ps p i = let r = filter_in (λ (k : RowMember). not (has_number m k)) ps p i in (r.0, other_number p.member m (not_true (p.member == m) r.1))

pub others_in : (m : ℕ) (ps : List RowMember) (p : RowMember) → In p ps → p.member ≢ m → In p (others m ps)
others_in m ps p i n = let a : not (p.member == m) ≡ true = rw (number_other p.member m n) refl in in_filter (λ (k : RowMember). not (has_number m k)) ps p i a

pub find_in : {X : Type 0} (t : X → Bool) (xs : List X) (x : X) → find t xs ≡ Some x → In x xs × (t x ≡ true)
find_in t [] x e = absurd cc
find_in t (y ∷ ys) x e = go (cases (t y)) (find_in t ys x)
  where
    go : (t y ≡ true) ⊎ (t y ≡ false) → (find t ys ≡ Some x → In x ys × (t x ≡ true)) → In x (y ∷ ys) × (t x ≡ true)
    go (inl a) f = let same : y ≡ x = cc (rw (a, find) at e) in (inl same, subst (λ z. t z ≡ true) same a)
    go (inr a) f = let r = f (rw (a, find) at e) in (inr r.0, r.1)

pub in_find : {X : Type 0} (t : X → Bool) (xs : List X) (x : X) → In x xs → t x ≡ true → find t xs ≡ None → ⊥
in_find t [] x i e n = i
in_find t (y ∷ ys) x (inl s) e n = let a : t y ≡ true = ap t s ∙ e in absurd (cc (rw (a, find) at n))
in_find t (y ∷ ys) x (inr i) e n = go (cases (t y)) (in_find t ys x i e)
  where
    go : (t y ≡ true) ⊎ (t y ≡ false) → (find t ys ≡ None → ⊥) → ⊥
    go (inl a) f = absurd (cc (rw (a, find) at n))
    go (inr a) f = f (rw (a, find) at n)

pub led_in : (c : Option RowMember) (ps : List RowMember) (p : RowMember) → ((x : RowMember) → c ≡ Some x → In x ps) → In p (led_by c ps) → In p ps
led_in None ps p f i = absurd i
led_in (Some x) ps p f (inl s) = subst (λ z. In z ps) s (f x refl)
led_in (Some x) ps p f (inr i) = (in_others x.member ps p i).0

pub led_lost : (c : Option RowMember) (ps : List RowMember) → is_empty (led_by c ps) ≡ true → c ≡ None
led_lost None ps e = refl
led_lost (Some x) ps e = absurd (true≢false (sym e))

pub led_first : (c : Option RowMember) (ps : List RowMember) → is_empty (led_by c ps) ≡ false → (x : RowMember) × (c ≡ Some x) × (led_by c ps ≡ x ∷ others x.member ps)
led_first None ps e = absurd (true≢false e)
led_first (Some x) ps e = (x, refl, refl)

pub empty_is : (row : Row) → is_empty row.members ≡ true → numbers_of row ≡ []
empty_is row e = go row.members e
  where
    go : (ps : List RowMember) → is_empty ps ≡ true → map number_of ps ≡ []
    go [] z = refl
    go (p ∷ ps) z = absurd (true≢false (sym z))

pub first_snoc : (ps : List RowMember) (p : RowMember) (k : ℕ) → is_first (map number_of ps) k ≡ true → is_first (map number_of (ps ++ p ∷ [])) k ≡ true
first_snoc [] p k e = absurd (true≢false (sym e))
first_snoc (x ∷ ps) p k e = e

pub snoc_some : {X : Type 0} (xs : List X) (x : X) → is_empty (xs ++ x ∷ []) ≡ false
snoc_some [] x = refl
snoc_some (y ∷ ys) x = refl

module _ {C : Type 0} (w : World C) (made : List Shape) (ok : Frame w made) where
  abbrev pub row : Row
  row = w.service.row

  -- the first of a row that isn't lost
  pub begins : row.lost ≡ false → row.members ≡ record { member = ok.standing.first; eligible = true } ∷ ok.standing.rest
  begins e = ap (λ (k : Row). k.members) (sym (ok.standing.now e)) ∙ ok.standing.begins

  pub in_below : (q : ℕ) → is_in row q ≡ true → q < w.members
  in_below q i = ok.rows.below (shape row) q ok.rows.newest_in i

  pub some_in : (q : ℕ) → is_in row q ≡ true → row.lost ≡ false
  some_in q i = false_or_not row.lost (λ e. not_both (is_in row q) i (none_among (numbers_of row) q (ok.rows.lost (shape row) ok.rows.newest_in e)))

  pub eligible_kept : (next : Row) (q : ℕ) → ((p : RowMember) → In p next.members → In p row.members) → is_eligible next q ≡ true → is_eligible row q ≡ true
  eligible_kept next q f e = let p = eligible_at next q e in at_eligible row q p.0 (f p.0 p.1) p.2 p.3

  pub below_kept : (next : Row) (q : ℕ) → ((p : RowMember) → In p next.members → In p row.members) → is_in next q ≡ true → q < w.members
  below_kept next q f e = let p = is_in_member next q e in in_below q (member_is_in row q p.0 (f p.0 p.1) p.2)

  pub joiner_next : (m : ℕ) → row.lost ≡ false → m < w.members → NextRow w (with_joiner row m)
  joiner_next m still l = record {
    version = refl;
    reset = inl refl;
    lost = λ e. absurd (not_both (is_empty (row.members ++ j ∷ [])) e (snoc_some row.members j));
    below = below;
    gone = λ k a b. absurd (not_both (is_primary (with_joiner row m) k) (first_snoc row.members j k a) b);
    first = λ e. (ok.standing.first, ok.standing.rest ++ j ∷ [], ap (λ ps. ps ++ j ∷ []) (begins still));
    eligible = λ q e. inl (still, refl, eligible q e);
  }
    where
      j : RowMember
      j = record { member = m; eligible = false }

      below : (q : ℕ) → is_in (with_joiner row m) q ≡ true → q < w.members
      below q e = let p = is_in_member (with_joiner row m) q e in go p.0 p.2 (in_cases p.0 row.members (record { member = m; eligible = false } ∷ []) p.1)
        where
          go : (p : RowMember) → p.member ≡ q → In p row.members ⊎ In p (record { member = m; eligible = false } ∷ []) → q < w.members
          go p s (inl i) = in_below q (member_is_in row q p i s)
          go p s (inr (inl z)) = subst (λ k. k < w.members) (ap number_of z ∙ s) l
          go p s (inr (inr i)) = absurd i

      eligible : (q : ℕ) → is_eligible (with_joiner row m) q ≡ true → is_eligible row q ≡ true
      eligible q e = let p = eligible_at (with_joiner row m) q e in go p.0 p.2 p.3 (in_cases p.0 row.members (record { member = m; eligible = false } ∷ []) p.1)
        where
          go : (p : RowMember) → p.member ≡ q → p.eligible ≡ true → In p row.members ⊎ In p (record { member = m; eligible = false } ∷ []) → is_eligible row q ≡ true
          go p s t (inl i) = at_eligible row q p i s t
          go p s t (inr (inl z)) = absurd (true≢false (sym t ∙ ap (λ (k : RowMember). k.eligible) (sym z)))
          go p s t (inr (inr i)) = absurd i

  -- without a member that crashed, or a backup
  module _ (m : ℕ) (still : row.lost ≡ false) (why : (is_among w.crashed m ≡ true) ⊎ (is_primary row m ≡ false)) where
    abbrev pub rest : List RowMember
    rest = others m row.members

    pub leader : (p : RowMember) → In p (without row m).members → In p row.members
    leader p i = (in_others m row.members p (led_in (first_eligible rest) rest p (λ x e. (find_in (λ (k : RowMember). k.eligible) rest x e).0) i)).0

    abbrev pub f : RowMember
    f = record { member = ok.standing.first; eligible = true }

    pub f_in : In f row.members
    f_in = rw (begins still) (inl refl)

    pub f_primary : is_primary row ok.standing.first ≡ true
    f_primary = first_primary row ok.standing.first ok.standing.rest (begins still)

    -- the first stays the first
    pub leads : ok.standing.first ≢ m → is_primary (without row m) ok.standing.first ≡ true
    leads n = go (without row m).members refl
      where
        whole : (without row m).members ≡ led_by (first_eligible (others m (f ∷ ok.standing.rest))) (others m (f ∷ ok.standing.rest))
        whole = ap (λ ps. led_by (first_eligible (others m ps)) (others m ps)) (begins still)

        step : led_by (first_eligible (others m (f ∷ ok.standing.rest))) (others m (f ∷ ok.standing.rest)) ≡ f ∷ others ok.standing.first (f ∷ others m ok.standing.rest)
        step = let a : (ok.standing.first == m) ≡ false = number_other ok.standing.first m n in rw a refl

        go : (ps : List RowMember) → (without row m).members ≡ ps → is_primary (without row m) ok.standing.first ≡ true
        go ps e = first_primary (without row m) ok.standing.first (others ok.standing.first (f ∷ others m ok.standing.rest)) (whole ∙ step)

    pub crashed_first : ok.standing.first ≡ m → is_among w.crashed m ≡ true
    crashed_first e = ⊎_elim (λ c. c) (λ b. absurd (not_both (is_primary row m) (subst (λ k. is_primary row k ≡ true) e f_primary) b)) why

    pub without_next : NextRow w (without row m)
    without_next = record {
      version = refl;
      reset = inl refl;
      lost = lost;
      below = λ q e. below_kept (without row m) q leader e;
      gone = gone;
      first = first;
      eligible = λ q e. inl (still, refl, eligible_kept (without row m) q leader e);
    }
      where
        lost : is_empty (without row m).members ≡ true → (numbers_of (without row m) ≡ []) × (row.lost ≡ false) × ((q : ℕ) → is_eligible row q ≡ true → is_among w.crashed q ≡ true)
        lost e = (empty_is (without row m) e, still, crashed)
          where
            none : first_eligible rest ≡ None
            none = led_lost (first_eligible rest) rest e

            is_m : (p : RowMember) → In p row.members → p.eligible ≡ true → p.member ≡ m
            is_m p i t = ⊎_elim (λ s. s) (λ n. absurd (in_find (λ (k : RowMember). k.eligible) rest p (others_in m row.members p i n) t none)) (number_cases p.member m)

            gone_first : is_among w.crashed m ≡ true
            gone_first = crashed_first (is_m f f_in refl)

            crashed : (q : ℕ) → is_eligible row q ≡ true → is_among w.crashed q ≡ true
            crashed q z = let p = eligible_at row q z in subst (λ k. is_among w.crashed k ≡ true) (sym (is_m p.0 p.1 p.3) ∙ p.2) gone_first

        gone : (k : ℕ) → is_primary row k ≡ true → is_primary (without row m) k ≡ false → IsGone w.nodes w.crashed row.version k
        gone k a b = go (number_cases ok.standing.first m)
          where
            same : ok.standing.first ≡ k
            same = one_first (numbers_of row) ok.standing.first k f_primary a

            go : (ok.standing.first ≡ m) ⊎ (ok.standing.first ≢ m) → IsGone w.nodes w.crashed row.version k
            go (inl e) = inl (subst (λ j. is_among w.crashed j ≡ true) (sym e ∙ same) (crashed_first e))
            go (inr n) = absurd (not_both (is_primary (without row m) k) (subst (λ j. is_primary (without row m) j ≡ true) same (leads n)) b)

        first : is_empty (without row m).members ≡ false → (f : ℕ) × (ps : List RowMember) × ((without row m).members ≡ record { member = f; eligible = true } ∷ ps)
        first e =
            let r = led_first (first_eligible rest) rest e in
            let t = (find_in (λ (k : RowMember). k.eligible) rest r.0 r.1).1 in
            (r.0.member, others r.0.member rest, r.2 ∙ ap (λ x. x ∷ others r.0.member rest) (eligible_is r.0 t))

  pub handed_next : (from to : ℕ) → row.lost ≡ false → is_eligible row to ≡ true → is_primary row from ≡ true → IsGone w.nodes w.crashed row.version from → NextRow w (handed row from to)
  handed_next from to still el pr gn = record {
    version = refl;
    reset = inl refl;
    lost = λ e. absurd (true≢false (sym e));
    below = below;
    gone = λ k a b. subst (λ j. IsGone w.nodes w.crashed row.version j) (one_first (numbers_of row) from k pr a) gn;
    first = λ e. (to, others to (others from row.members), refl);
    eligible = λ q e. inl (still, refl, eligible q e);
  }
    where
      old : (p : RowMember) → In p (others to (others from row.members)) → In p row.members
      old p i = (in_others from row.members p (in_others to (others from row.members) p i).0).0

      below : (q : ℕ) → is_in (handed row from to) q ≡ true → q < w.members
      below q e = let p = is_in_member (handed row from to) q e in go p.0 p.2 p.1
        where
          go : (p : RowMember) → p.member ≡ q → In p (handed row from to).members → q < w.members
          go p s (inl z) = subst (λ k. k < w.members) (ap number_of z ∙ s) (in_below to (eligible_in row to el))
          go p s (inr i) = in_below q (member_is_in row q p (old p i) s)

      eligible : (q : ℕ) → is_eligible (handed row from to) q ≡ true → is_eligible row q ≡ true
      eligible q e = let p = eligible_at (handed row from to) q e in go p.0 p.2 p.3 p.1
        where
          go : (p : RowMember) → p.member ≡ q → p.eligible ≡ true → In p (handed row from to).members → is_eligible row q ≡ true
          go p s t (inl z) = subst (λ k. is_eligible row k ≡ true) (ap number_of z ∙ s) el
          go p s t (inr i) = at_eligible row q p (old p i) s t

  pub reopened_next : (m : ℕ) (ms : List ℕ) → row.lost ≡ true → ((q : ℕ) → In q (m ∷ ms) → q < w.members) → NextRow w (reopened row (m ∷ ms))
  reopened_next m ms lost below = record {
    version = refl;
    reset = inr (lost, refl);
    lost = λ e. absurd (true≢false (sym e));
    below = λ q e. let p = is_in_member (reopened row (m ∷ ms)) q e in below q (subst (λ k. In k (m ∷ ms)) p.2 (marked_in p.0 p.1));
    gone = λ k a b. absurd (not_both (is_primary row k) a (no_first (numbers_of row) k (ok.rows.lost (shape row) ok.rows.newest_in lost)));
    first = λ e. (m, map (λ k. record { member = k; eligible = false }) ms, refl);
    eligible = λ q e. inr refl;
  }
    where
      unmarked : (ks : List ℕ) (p : RowMember) → In p (map (λ k. record { member = k; eligible = false }) ks) → In p.member ks
      unmarked [] p i = absurd i
      unmarked (k ∷ ks) p (inl e) = inl (ap number_of e)
      unmarked (k ∷ ks) p (inr i) = inr (unmarked ks p i)

      marked_in : (p : RowMember) → In p (begun_by (m ∷ ms)) → In p.member (m ∷ ms)
      marked_in p (inl e) = inl (ap number_of e)
      marked_in p (inr i) = inr (unmarked ms p i)

-- the candidates are members

pub members_from_below : (n k from q : ℕ) → 1 ≤ n → In q (members_from n k from) → q < n
members_from_below n zero from q l i = absurd i
members_from_below n (suc k) from q l (inl e) = subst (λ z. z < n) e (mod-lt from l)
members_from_below n (suc k) from q l (inr i) = members_from_below n k (from + 1) q l i

pub take_in : {X : Type 0} (k : ℕ) (xs : List X) (x : X) → In x (take k xs) → In x xs
take_in zero xs x i = absurd i
take_in (suc k) [] x i = i
take_in (suc k) (y ∷ ys) x (inl e) = inl e
take_in (suc k) (y ∷ ys) x (inr i) = inr (take_in k ys x i)

pub with_backups_in : (b : ℕ) (ms : List ℕ) (q : ℕ) → In q (with_backups b ms) → In q ms
with_backups_in b [] q i = i
with_backups_in b (m ∷ ms) q (inl e) = inl e
with_backups_in b (m ∷ ms) q (inr i) = inr (take_in b ms q i)
