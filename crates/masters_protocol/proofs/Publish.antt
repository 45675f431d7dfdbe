-- A serving master whose peers have all stored its log publishes it.
use Rattle.std.proofs.Common.{◌≡◌, ◌≢◌, ℕ, suc, ◌≤◌, true, false, ◌&&◌, ◌==◌, nat_lt, nat_le, List, length, slice_get, refl, sym, ◌∙◌, subst, ⊎_elim, arith, le_trans}
use Rattle.std.specs.List.{list_all}
use Rattle.partition_protocol.proofs.Extends.{same as front_refl}
use Rattle.partition_protocol.proofs.Lists.{every_in, on_cond}
use Rattle.partition_protocol.proofs.Release.{all_in}
use Rattle.partition_protocol.proofs.RowFacts.{both_left, both_right, in_any, false_or_not, same_number, number_cases}
use Rattle.partition_protocol.specs.Sequences.{IsFrontOf}
use Rattle.partition_table.specs.Rows.{is_among}
use Rattle.masters_protocol.specs.Members.{Member, StoredLength, is_serving, counts_of, peers, has_stored, is_stored}
use Rattle.masters_protocol.specs.Machine.{Masters, publishing, publishing_at}
use Rattle.masters_protocol.proofs.Lists.{on_some}
use Rattle.masters_protocol.proofs.Tests.{clash, at_most, in_peers}
use Rattle.masters_protocol.proofs.Fronts.{front_eq, front_same}
use Rattle.masters_protocol.proofs.Invariant.{within, MemberAt, HasStored, MemberOk, Inv}
use Rattle.masters_protocol.proofs.Keeps.{Good, Keeps, keeps_refl, lasts_refl}

module _ {D : Type 0} (w : Masters D) (s : ℕ) (lead : List D) (inv : Inv w s lead) (m : ℕ) (n : Member D) (at : MemberAt w.members m n) (lives : is_among w.crashed m ≡ false) (ready : (is_stored w.size m n && nat_lt (length w.published) (length n.log)) ≡ true) where
  pub stored : is_stored w.size m n ≡ true
  stored = both_left (is_stored w.size m n) (nat_lt (length w.published) (length n.log)) ready

  pub serves : is_serving n.role ≡ true
  serves = both_left (is_serving n.role) (list_all (has_stored (length n.log) (counts_of n.role)) (peers w.size m n)) stored

  pub all_stored : list_all (has_stored (length n.log) (counts_of n.role)) (peers w.size m n) ≡ true
  all_stored = both_right (is_serving n.role) (list_all (has_stored (length n.log) (counts_of n.role)) (peers w.size m n)) stored

  pub ok : MemberOk w.members w.crashed s lead w.published m n
  ok = inv.members m n at

  pub leads : n.log ≡ lead
  leads = (ok.live lives).master serves

  -- each live member has it
  pub other_has : (k : ℕ) (x : Member D) → k ≢ m → MemberAt w.members k x → is_among w.crashed k ≡ false → IsFrontOf n.log x.log
  other_has k x d e v =
      let t : StoredLength → _ = λ (j : StoredLength). (j.member == k) && nat_le (length n.log) j.count in
      let r = in_any t (counts_of n.role) (all_in (has_stored (length n.log) (counts_of n.role)) (peers w.size m n) k all_stored (in_peers w.size m k n (within w k x inv.whole e) d unaware)) in
      let h : HasStored w.members r.0.member r.0.count = every_in (λ (j : StoredLength). HasStored w.members j.member j.count) (counts_of n.role) r.0 ok.counted r.1 in
      let here : HasStored w.members k r.0.count = subst (λ j. HasStored w.members j r.0.count) (same_number r.0.member k (both_left (r.0.member == k) (nat_le (length n.log) r.0.count) r.2)) h in
      let l : length n.log ≤ length x.log = le_trans (at_most (length n.log) r.0.count (both_right (r.0.member == k) (nat_le (length n.log) r.0.count) r.2)) (here x e) in
      let same : x.log ≡ lead = front_same x.log lead ((inv.members k x e).live v).log (subst (λ (us : List D). length us ≤ length x.log) leads l) in
      front_eq n.log x.log (leads ∙ sym same)
    where
      unaware : is_among n.told k ≡ false
      unaware = false_or_not (is_among n.told k) (λ a. clash (is_among w.crashed k) (ok.told k a) v)

  pub now_has : (k : ℕ) (x : Member D) → MemberAt w.members k x → is_among w.crashed k ≡ false → IsFrontOf n.log x.log
  now_has k x e v = ⊎_elim (λ same. let it : n ≡ x = let a : MemberAt w.members m x = subst (λ j. MemberAt w.members j x) same e in cc (at, a) in subst (λ (y : Member D). IsFrontOf n.log y.log) it (front_refl n.log)) (λ d. other_has k x d e v) (number_cases k m)

  pub publish_inv : Inv (record w { published = n.log }) s lead
  publish_inv = record {
    whole = inv.whole;
    rise = inv.rise;
    most = subst (λ (us : List D). length us ≤ suc (length n.log)) leads (omega arith);
    members = λ k x e. let o = inv.members k x e in record {
      told = o.told;
      rule = o.rule;
      rises = o.rises;
      serves = o.serves;
      counted = o.counted;
      kept = o.kept;
      live = λ v. let l = o.live v in record { seen_up = l.seen_up; seen_own = l.seen_own; own = l.own; log = l.log; has = now_has k x e v; master = l.master; other = l.other };
    };
    packets = inv.packets;
  }

-- what publishing keeps
pub publishes_on : {D : Type 0} (w : Masters D) (m : ℕ) → Good w → is_among w.crashed m ≡ false → Keeps w (publishing w m)
publishes_on w m g lives = on_some (λ v. Keeps w v) (slice_get w.members m) w (publishing_at w m) (keeps_refl w g)
    (λ n at. on_cond (λ v. Keeps w v) (is_stored w.size m n && nat_lt (length w.published) (length n.log)) (record w { published = n.log }) w
    (λ e. record { good = (g.0, g.1, publish_inv w g.0 g.1 g.2 m n at lives e); grows = ((g.2.members m n at).live lives).has; pace = subst (λ us. length us ≤ suc (length w.published)) (sym (leads w g.0 g.1 g.2 m n at lives e)) g.2.most; crashed = refl; lasts = lasts_refl w }) (λ e. keeps_refl w g))
