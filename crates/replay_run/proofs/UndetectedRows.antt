-- No member of a partition's newest row is detected.
use Rattle.std.proofs.Common.{◌≡◌, ◌≢◌, ℕ, ◌≤◌, Bool, true, false, not, ◌&&◌, ◌==◌, List, [], ◌∷◌, map, None, refl, ap, sym, ◌∙◌, subst, ◌⊎◌, inl, inr, arith, suc, zero}
use Rattle.grid_base.specs.Objects.{Object}
use Rattle.partition_table.specs.declared.Row.{Row}
use Rattle.partition_table.specs.declared.RowMember.{RowMember}
use Rattle.partition_table.specs.Rows.{is_among, is_in, is_eligible, number_of, without, with_joiner, handed, begun_by, with_backups, members_from, others, first_eligible, marked}
use Rattle.partition_table.proofs.RowLaws.{is_in-without}
use Rattle.partition_protocol.specs.Service.{ServiceStep, detecting, reopening, candidates, join_refused, is_idle, is_freezing, Drained}
use Rattle.partition_protocol.specs.World.{World, start}
use Rattle.partition_protocol.specs.Events.{Event, happens, run}
use Rattle.partition_protocol.proofs.Lists.{In, in_cases, on_if, cases}
use Rattle.partition_protocol.proofs.Histories.{filter_in}
use Rattle.partition_protocol.proofs.RowFacts.{false_or_not, not_true, not_both, same_number, eligible_in}
use Rattle.partition_protocol.proofs.NextRows.{is_in_member, member_is_in, in_others, led_in, find_in, take_in}
use Rattle.partition_protocol.proofs.Invariant.{Shape, Invariant, MoveOk}
use Rattle.partition_protocol.proofs.Events.{Good, happens_good}
use Rattle.partition_protocol.proofs.Theorem.{start_good}
use Rattle.partition_protocol.proofs.EventCases.{EventCases, every_event}

-- none of these members is among the detected ones
abbrev pub AreUntold : List RowMember → List ℕ → Type 0
AreUntold members detected = (p : RowMember) → In p members → is_among detected p.member ≡ false

not_among_more : (m k : ℕ) (detected : List ℕ) → k ≢ m → is_among detected k ≡ false → is_among (m ∷ detected) k ≡ false
not_among_more m k detected other out = let first : (k == m) ≡ false = false_or_not (k == m) (λ e. other (same_number k m e)) in rw (first, out) refl

-- where the members of rows come from

without_in : (row : Row) (m : ℕ) (p : RowMember) → In p (without row m).members → In p row.members
without_in row m p i = (in_others m row.members p (led_in (first_eligible (others m row.members)) (others m row.members) p (λ x e. (find_in (λ (k : RowMember). k.eligible) (others m row.members) x e).0) i)).0

begun_in : (ms : List ℕ) (p : RowMember) → In p (begun_by ms) → In p.member ms
begun_in [] p i = absurd i
begun_in (m ∷ ms) p (inl e) = inl (ap number_of e)
begun_in (m ∷ ms) p (inr i) = inr (go ms i)
  where
    go : (ks : List ℕ) → In p (map (λ k. record { member = k; eligible = false }) ks) → In p.member ks
    go [] j = absurd j
    go (k ∷ ks) (inl e) = inl (ap number_of e)
    go (k ∷ ks) (inr j) = inr (go ks j)

backups_in : (b : ℕ) (ms : List ℕ) (m : ℕ) → In m (with_backups b ms) → In m ms
backups_in b [] m i = absurd i
backups_in b (k ∷ ms) m (inl e) = inl e
backups_in b (k ∷ ms) m (inr i) = inr (take_in b ms m i)

marked_untold : (m : ℕ) (members : List RowMember) (detected : List ℕ) → AreUntold members detected → AreUntold (map (marked m) members) detected
marked_untold m [] detected h p i = absurd i
marked_untold m (q ∷ members) detected h p (inl e) = ap (is_among detected) (sym (ap number_of e)) ∙ h q (inl refl)
marked_untold m (q ∷ members) detected h p (inr i) = marked_untold m members detected (λ r j. h r (inr j)) p i

module _ {C State : Type 0} (o : Object C State) where
  abbrev pub IsUntold : World C → Type 0
  IsUntold w = AreUntold w.service.row.members w.service.detected

  module _ (w : World C) (made : List Shape) (inv : Invariant o w made) (h : AreUntold w.service.row.members w.service.detected) where
    abbrev After : Event C → World C → Type 0
    After e u = AreUntold u.service.row.members u.service.detected

    told : (m : ℕ) → AreUntold (detecting m w.service).row.members (detecting m w.service).detected
    told m = go (is_in w.service.row m) refl
      where
        gone : AreUntold (without w.service.row m).members (m ∷ w.service.detected)
        gone p i = not_among_more m p.member w.service.detected (λ e. not_both (is_in (without w.service.row m) m) (member_is_in (without w.service.row m) m p i e) (is_in-without w.service.row m)) (h p (without_in w.service.row m p i))

        out : is_in w.service.row m ≡ false → AreUntold w.service.row.members (m ∷ w.service.detected)
        out e p i = not_among_more m p.member w.service.detected (λ s. not_both (is_in w.service.row m) (member_is_in w.service.row m p i s) e) (h p i)

        go : (b : Bool) → is_in w.service.row m ≡ b → AreUntold (detecting m w.service).row.members (detecting m w.service).detected
        go true e = rw e gone
        go false e = rw e (out e)

    -- a joiner isn't detected
    live : (to : ℕ) → join_refused w.members to w.service ≡ None → is_among w.service.detected to ≡ false
    live to r = false_or_not (is_among w.service.detected to) (λ e. not_live e (cases w.service.row.lost) (cases (is_idle w.service.move)) (cases (is_in w.service.row to)))
      where
        not_live : is_among w.service.detected to ≡ true → (w.service.row.lost ≡ true) ⊎ (w.service.row.lost ≡ false) → (is_idle w.service.move ≡ true) ⊎ (is_idle w.service.move ≡ false)
            → (is_in w.service.row to ≡ true) ⊎ (is_in w.service.row to ≡ false) → ⊥
        not_live e (inl lost) idle there = absurd (cc (rw lost at r))
        not_live e (inr still) (inr moving) there = absurd (cc (rw (still, moving) at r))
        not_live e (inr still) (inl idle) (inl there) = absurd (cc (rw (still, idle, there) at r))
        not_live e (inr still) (inl idle) (inr away) = absurd (cc (rw (still, idle, away, e) at r))

    joined : (to : ℕ) → is_among w.service.detected to ≡ false → AreUntold (with_joiner w.service.row to).members w.service.detected
    joined to free p i = go (in_cases p w.service.row.members (record { member = to; eligible = false } ∷ []) i)
      where
        go : In p w.service.row.members ⊎ In p (record { member = to; eligible = false } ∷ []) → is_among w.service.detected p.member ≡ false
        go (inl j) = h p j
        go (inr (inl e)) = ap (is_among w.service.detected) (sym (ap number_of e)) ∙ free
        go (inr (inr j)) = absurd j

    there : (m : ℕ) → is_in w.service.row m ≡ true → is_among w.service.detected m ≡ false
    there m e = let p = is_in_member w.service.row m e in ap (is_among w.service.detected) (sym p.2) ∙ h p.0 p.1

    handed_on : (from to : ℕ) → is_eligible w.service.row to ≡ true → AreUntold (handed w.service.row from to).members w.service.detected
    handed_on from to el p (inl e) = ap (is_among w.service.detected) (sym (ap number_of e)) ∙ there to (eligible_in w.service.row to el)
    handed_on from to el p (inr i) = h p (in_others from w.service.row.members p (in_others to (others from w.service.row.members) p i).0).0

    begun : AreUntold (reopening w.partition w.members w.backups w.service).row.members w.service.detected
    begun p i =
        let its = backups_in w.backups (candidates w.partition w.members w.service.detected) p.member (begun_in (with_backups w.backups (candidates w.partition w.members w.service.detected)) p i) in
        not_true (is_among w.service.detected p.member) (filter_in (λ m. not (is_among w.service.detected m)) (members_from w.members w.members w.partition) p.member its).1

    untold_cases : EventCases o w After
    untold_cases = record {
      stays = λ e z. h;
      loses = λ f t i q at. h;
      drops = λ f t i q at z. h;
      repeats = λ f t i q at. h;
      tells_again = h;
      sends_again = λ m n at lives leads. h;
      crashes = λ m lives. h;
      detects = λ m l c d i. told m;
      notes = λ m l c d i. told m;
      begins = λ e source to r there z. joined to (live to r);
      hands_over = λ from to r. h;
      freezes = λ from to v p. h;
      leaves = λ from to v p. (λ q i. h q (without_in w.service.row from q i));
      hands = λ from to v. handed_on from to (eligible_there from to v);
      reopens = λ r. begun;
      joins = λ f t i q v m at to e. on_if (λ (s : ServiceStep). AreUntold s.service.row.members s.service.detected) ((w.service.row.version == v) && is_in w.service.row m && not (is_eligible w.service.row m)) _ _ (marked_untold m w.service.row.members w.service.detected h) h;
      drains = λ f t i q v at to e. on_if (λ (s : ServiceStep). AreUntold s.service.row.members s.service.detected) (is_freezing w.service.move && (w.service.row.version == v)) _ _ h h;
      delivers = λ f t i q n at there lives. h;
      calls = λ m conn number call now n at lives still leads thawed. h;
    }
      where
        eligible_there : (from to : ℕ) → w.service.move ≡ Drained from to → is_eligible w.service.row to ≡ true
        eligible_there from to v = (subst (MoveOk w.nodes w.crashed w.service.row) v inv.frame.moving).0

    pub untold_after : (e : Event C) → AreUntold (happens o w e).world.service.row.members (happens o w e).world.service.detected
    untold_after e = every_event o w After untold_cases e

  run_untold : (w : World C) (events : List (Event C)) → Good o w → IsUntold w → IsUntold (run o w events)
  run_untold w [] good h = h
  run_untold w (e ∷ events) good h = run_untold (happens o w e).world events (happens_good o w good.0 good.1 e) (untold_after w good.0 good.1 h e)

  pub rows_untold : (partition members backups : ℕ) (events : List (Event C)) → 1 ≤ members → IsUntold (run o (start partition members backups) events)
  rows_untold partition zero backups events some = absurd (omega (arith, some))
  rows_untold partition (suc k) backups events some = run_untold (start partition (suc k) backups) events (start_good o partition k backups) (λ p i. refl)
