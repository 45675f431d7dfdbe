-- A gathering master to which each of its peers has told serves with the longest log.
use Rattle.std.proofs.Common.{◌≡◌, ◌≢◌, ℕ, ◌<◌, ◌≤◌, true, false, cond, ◌==◌, List, [], ◌∷◌, length, Some, slice_get, slice_set, refl, ap, sym, ◌∙◌, subst, ◌⊎◌, ⊎_elim, inl, inr, arith, le_refl, le_trans, true≢false}
use Rattle.std.specs.List.{list_all}
use Rattle.partition_protocol.proofs.Extends.{same as front_refl, front_trans}
use Rattle.partition_protocol.proofs.Lists.{Every, every_weaker, every_in, on_cond, cases}
use Rattle.partition_protocol.proofs.Release.{all_in}
use Rattle.partition_protocol.proofs.RowFacts.{both_left, both_right, in_any, false_or_not, same_number}
use Rattle.partition_protocol.specs.Sequences.{IsFrontOf}
use Rattle.partition_table.specs.Rows.{is_among}
use Rattle.masters_protocol.specs.Members.{Member, ToldLog, Message, Store, Stored, Ask, Tell, Sent, is_gathering, tells_of, peers, has_told, longest, is_gathered, server, storing, to_each}
use Rattle.masters_protocol.specs.Machine.{Masters, Packet, serving, serving_at, sending, with_member}
use Rattle.masters_protocol.proofs.Lists.{on_some}
use Rattle.masters_protocol.proofs.Tests.{clash, order, gathering_master, gathering_serving, serving_master, in_peers}
use Rattle.masters_protocol.proofs.Fronts.{front_length, front_both, longest_first, longest_in, longest_prefix}
use Rattle.masters_protocol.proofs.Invariant.{within, MemberAt, MayRise, IsTold, MessageOk, LiveOk, MemberOk, Inv}
use Rattle.masters_protocol.proofs.Forward.{Rest, member_step}
use Rattle.masters_protocol.proofs.Keeps.{Good, Keeps, keeps_refl, lasts_set}

pub each_sent : {D : Type 0} (P : Sent D → Type 0) (x : Message D) (ms : List ℕ) → ((m : ℕ) → P (record { to = m; message = x })) → Every P (to_each x ms)
each_sent P x [] f = tt
each_sent P x (m ∷ ms) f = (f m, each_sent P x ms f)

module _ {D : Type 0} (w : Masters D) (s : ℕ) (lead : List D) (inv : Inv w s lead) (m : ℕ) (n : Member D) (at : MemberAt w.members m n) (lives : is_among w.crashed m ≡ false) (gathered : is_gathered w.size m n ≡ true) where
  abbrev pub lead' : List D
  lead' = longest n.log (tells_of n.role)

  pub gathering : is_gathering n.role ≡ true
  gathering = both_left (is_gathering n.role) (list_all (has_told (tells_of n.role)) (peers w.size m n)) gathered

  pub all_told : list_all (has_told (tells_of n.role)) (peers w.size m n) ≡ true
  all_told = both_right (is_gathering n.role) (list_all (has_told (tells_of n.role)) (peers w.size m n)) gathered

  pub ok : MemberOk w.members w.crashed s lead w.published m n
  ok = inv.members m n at

  pub live : LiveOk s lead w.published m n
  live = ok.live lives

  pub above : s < m
  above = live.other (gathering_serving n.role gathering)

  pub rises : MayRise w.crashed m
  rises = ok.rises (gathering_master n.role gathering)

  -- no term is above that of a live master
  pub top : {X : Type 0} (t : ℕ) → MayRise w.crashed t → m < t → X
  top t h l = clash (is_among w.crashed m) (h m l) lives

  pub lead_less : IsFrontOf lead' lead
  lead_less = longest_prefix n.log (tells_of n.role) lead live.log
      (every_weaker (λ (k : ToldLog D). IsTold w.members w.crashed s lead m k.member k.log) (λ (k : ToldLog D). IsFrontOf k.log lead) (tells_of n.role) (λ k h. (h.1 above).0) ok.kept)

  pub own_less : IsFrontOf n.log lead'
  own_less = front_both n.log lead' lead live.log lead_less (longest_first n.log (tells_of n.role))

  -- what another live member has seen, and how long its log is
  pub other_told : (k : ℕ) (x : Member D) → k ≢ m → MemberAt w.members k x → is_among w.crashed k ≡ false → (m ≤ x.seen) × (length x.log ≤ length lead')
  other_told k x d e v =
      let r = in_any (λ (j : ToldLog D). j.member == k) (tells_of n.role) (all_in (has_told (tells_of n.role)) (peers w.size m n) k all_told (in_peers w.size m k n (within w k x inv.whole e) d unaware)) in
      let h : IsTold w.members w.crashed s lead m r.0.member r.0.log = every_in (λ (j : ToldLog D). IsTold w.members w.crashed s lead m j.member j.log) (tells_of n.role) r.0 ok.kept r.1 in
      let h' : IsTold w.members w.crashed s lead m k r.0.log = subst (λ j. IsTold w.members w.crashed s lead m j r.0.log) (same_number r.0.member k r.2) h in
      let both = (h'.1 above).1 x e v in
      (both.0, le_trans both.1 (longest_in n.log (tells_of n.role) r.0 r.1))
    where
      unaware : is_among n.told k ≡ false
      unaware = false_or_not (is_among n.told k) (λ a. clash (is_among w.crashed k) (ok.told k a) v)

  pub other_live : (k : ℕ) (x : Member D) → k ≢ m → MemberAt w.members k x → is_among w.crashed k ≡ false → LiveOk m lead' w.published k x
  other_live k x d e v =
      let old = (inv.members k x e).live v in
      let t = other_told k x d e v in
      record {
        seen_up = t.0;
        seen_own = old.seen_own;
        own = old.own;
        log = front_both x.log lead' lead old.log lead_less t.1;
        has = old.has;
        master = λ y. ⊎_elim (λ l. clash (is_among w.crashed k) (rises k l) v) (λ l. top k ((inv.members k x e).rises (serving_master x.role y)) (omega (arith, l, d))) (order k m);
        other = λ y. ⊎_elim (λ l. clash (is_among w.crashed k) (rises k l) v) (λ l. omega (arith, l, d)) (order k m);
      }

  -- seen from the new term
  pub told_rebase : (t f : ℕ) (l : List D) → IsTold w.members w.crashed s lead t f l → IsTold w.members w.crashed m lead' t f l
  told_rebase t f l h = (h.0, λ u. top t h.0 u)

  pub message_rebase : (from : ℕ) (x : Message D) → MessageOk w.members w.crashed s lead from x → MessageOk w.members w.crashed m lead' from x
  message_rebase from (Store t l) h = (omega (arith, h.0, above), λ e. absurd (omega (arith, e, h.0, above)))
  message_rebase from (Stored t c) h = h
  message_rebase from (Ask t) h = h
  message_rebase from (Tell t l) h = told_rebase t from l h

  pub rest : Rest w m lead' m
  rest = record {
    whole = inv.whole;
    rise = rises;
    others = λ k x d e. let o = inv.members k x e in record {
      told = o.told;
      rule = o.rule;
      rises = o.rises;
      serves = λ y. let l = o.serves y in omega (arith, l, above);
      counted = o.counted;
      kept = every_weaker (λ (j : ToldLog D). IsTold w.members w.crashed s lead k j.member j.log) (λ (j : ToldLog D). IsTold w.members w.crashed m lead' k j.member j.log) (tells_of x.role) (λ j. told_rebase k j.member j.log) o.kept;
      live = other_live k x d e;
    };
    packets = every_weaker (λ (p : Packet D). MessageOk w.members w.crashed s lead p.from p.message) (λ (p : Packet D). MessageOk w.members w.crashed m lead' p.from p.message) w.packets (λ p. message_rebase p.from p.message) inv.packets;
  }

  pub serve_inv : Inv (serving_at w m n) m lead'
  serve_inv = subst (λ b. Inv (cond b (sending (with_member w m (server n)) m (storing w.size m (server n))) w) m lead') (sym gathered)
      (member_step w m lead' lead' m rest n (server n) at
      (record { longer = longest_first n.log (tells_of n.role); later = le_refl n.seen; still = λ l. let k = live.seen_own in absurd (omega (arith, l, k)) })
      (front_refl lead') (let a = front_length lead' lead lead_less in let b = inv.most in omega (arith, a, b))
      (record { told = ok.told; rule = sym (gathering_master n.role gathering) ∙ ok.rule; rises = λ e. rises; serves = λ e. le_refl m; counted = tt; kept = tt; live = λ v. itself })
      (λ k x d e v. other_live k x d e v) (storing w.size m (server n)) (each_sent (λ (x : Sent D). MessageOk (slice_set w.members m (server n)) w.crashed m lead' m x.message) (Store m lead') (peers w.size m (server n)) (λ k. (le_refl m, λ e. front_refl lead'))))
    where
      seen : n.seen ≡ m
      seen = live.own (gathering_master n.role gathering)

      itself : LiveOk m lead' w.published m (server n)
      itself = record {
        seen_up = let k : n.seen ≡ m = seen in omega (arith, k);
        seen_own = live.seen_own;
        own = λ e. seen;
        log = front_refl lead';
        has = front_trans w.published n.log lead' live.has own_less;
        master = λ e. refl;
        other = λ e. absurd (true≢false e);
      }

-- what serving keeps

pub served_same : {D : Type 0} (w : Masters D) (m : ℕ) → (serving w m).published ≡ w.published
served_same w m = on_some (λ (v : Masters _). v.published ≡ w.published) (slice_get w.members m) w (serving_at w m) refl
    (λ n at. on_cond (λ (v : Masters _). v.published ≡ w.published) (is_gathered w.size m n) (sending (with_member w m (server n)) m (storing w.size m (server n))) w (λ e. refl) (λ e. refl))

pub serves_on : {D : Type 0} (w : Masters D) (m : ℕ) → Good w → is_among w.crashed m ≡ false → Keeps w (serving w m)
serves_on {D} w m g lives = on_some (λ v. Keeps w v) (slice_get w.members m) w (serving_at w m) (keeps_refl w g) (λ n at. served n at (cases (is_gathered w.size m n)))
  where
    served : (n : Member D) → slice_get w.members m ≡ Some n → (is_gathered w.size m n ≡ true) ⊎ (is_gathered w.size m n ≡ false) → Keeps w (serving_at w m n)
    served n at (inl e) =
        let i : Inv (serving_at w m n) m (longest n.log (tells_of n.role)) = serve_inv w g.0 g.1 g.2 m n at lives e in
        let x : Masters D = sending (with_member w m (server n)) m (storing w.size m (server n)) in
        let it : serving_at w m n ≡ x = ap (λ b. cond b x w) e in
        subst (λ v. Keeps w v) (sym it)
        (record {
          good = (m, longest n.log (tells_of n.role), subst (λ v. Inv v m (longest n.log (tells_of n.role))) it i);
          grows = front_refl w.published;
          pace = omega arith;
          crashed = refl;
          lasts = lasts_set w m n (server n) (storing w.size m (server n)) at (own_less w g.0 g.1 g.2 m n at lives e);
        })
    served n at (inr e) = subst (λ b. Keeps w (cond b (sending (with_member w m (server n)) m (storing w.size m (server n))) w)) (sym e) (keeps_refl w g)
