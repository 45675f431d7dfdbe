-- The steps of one member.
use Rattle.std.proofs.Common.{◌≡◌, ◌≢◌, ℕ, suc, ◌+◌, ◌≤◌, Bool, true, false, not, ◌&&◌, ◌==◌, nat_lt, List, [], ◌∷◌, ◌++◌, max, length, slice_set, refl, ap, sym, ◌∙◌, subst, ⊎_elim, arith, le_refl, le_trans, length-append, true≢false}
use Rattle.std.specs.List.{list_all}
use Rattle.partition_protocol.proofs.Extends.{same as front_refl, front_trans}
use Rattle.partition_protocol.proofs.Lists.{Every, on_cond, cases}
use Rattle.partition_protocol.proofs.Release.{all_in}
use Rattle.partition_protocol.proofs.RowFacts.{both_left, both_right, not_true, not_less, same_number}
use Rattle.partition_protocol.specs.Sequences.{IsFrontOf}
use Rattle.partition_protocol.specs.Service.{numbers_below}
use Rattle.partition_table.specs.Rows.{is_among}
use Rattle.masters_protocol.specs.Members.{Gathering, Serving, Member, ToldLog, StoredLength, Message, Store, Stored, Ask, Tell, Sent, Step, Other, StoreTaken, Counted, Asked, TellKept, Stale, Done, quiet, is_gathering, is_serving, is_master, tells_of, counts_of, peers, with_tell, with_count, longer, with_one, with_told, was_told_of_lower, begins, gatherer, hearing, with_log, with_seen, with_role, taking, with_decision, storing, proposing, to_each}
use Rattle.masters_protocol.specs.Machine.{Masters, stepped, serving, publishing, sending, with_member}
use Rattle.masters_protocol.proofs.Lists.{all_from_in}
use Rattle.masters_protocol.proofs.Tests.{clash, order, serving_master, gathering_master, gathering_serving, following_serving, in_below, among_one, one_among}
use Rattle.masters_protocol.proofs.Fronts.{front_append, front_both, front_same, longer_first, longer_prefix}
use Rattle.masters_protocol.proofs.Invariant.{MemberAt, MayRise, HasStored, IsTold, MessageOk, LiveOk, MemberOk, Inv}
use Rattle.masters_protocol.proofs.Forward.{Onward, onward_refl, Ahead, ahead_set, rest_of, only_here, member_step, stored_ahead, told_ahead, counted_ahead, kept_ahead}
use Rattle.masters_protocol.proofs.Keeps.{Good, Keeps, lasts_set, lasts_trans}
use Rattle.masters_protocol.proofs.Serve.{each_sent, served_same, serves_on}
use Rattle.masters_protocol.proofs.Publish.{publishes_on}

-- after a step the member serves and publishes where it can
pub stepped_on : {D : Type 0} (w : Masters D) (m : ℕ) (n : Member D) (st : Step D) → MemberAt w.members m n → is_among w.crashed m ≡ false → Good (sending (with_member w m st.member) m st.sent) × IsFrontOf n.log st.member.log → Keeps w (stepped w m st).world
stepped_on {D} w m n st at lives g =
    let u : Masters D = sending (with_member w m st.member) m st.sent in
    let h : Keeps u (serving u m) = serves_on u m g.0 lives in
    let k : Keeps (serving u m) (publishing (serving u m) m) = publishes_on (serving u m) m h.good (subst (λ cs. is_among cs m ≡ false) (sym h.crashed) lives) in
    record {
      good = k.good;
      grows = front_trans w.published (serving u m).published (publishing (serving u m) m).published h.grows k.grows;
      pace = subst (λ (ps : List D). length (publishing (serving u m) m).published ≤ suc (length ps)) (served_same u m) k.pace;
      crashed = k.crashed ∙ h.crashed;
      lasts = lasts_trans w u (publishing (serving u m) m) (lasts_set w m n st.member st.sent at g.1) (lasts_trans u (serving u m) (publishing (serving u m) m) h.lasts k.lasts);
    }

-- the lists that a master keeps

pub every_tell : {D : Type 0} (P : ToldLog D → Type 0) (m : ℕ) (l : List D) (ks : List (ToldLog D)) → P (record { member = m; log = l }) → Every P ks → Every P (with_tell m l ks)
every_tell P m l [] h f = (h, tt)
every_tell P m l (k ∷ ks) h f = on_cond (λ js. Every P js) (k.member == m) (record { member = m; log = l } ∷ ks) (k ∷ with_tell m l ks) (λ e. (h, f.1)) (λ e. (f.0, every_tell P m l ks h f.1))

pub every_count : {D : Type 0} (ms : List (Member D)) (m c : ℕ) (ks : List StoredLength) → HasStored ms m c → Every (λ (k : StoredLength). HasStored ms k.member k.count) ks → Every (λ (k : StoredLength). HasStored ms k.member k.count) (with_count m c ks)
every_count ms m c [] h f = (h, tt)
every_count ms m c (k ∷ ks) h f =
    on_cond (λ js. Every (λ (j : StoredLength). HasStored ms j.member j.count) js) (k.member == m) (record { member = m; count = max c k.count } ∷ ks) (k ∷ with_count m c ks)
    (λ e. ((λ x a. let l = h x a in let r = f.0 x (subst (λ j. MemberAt ms j x) (sym (same_number k.member m e)) a) in omega (arith, l, r)), f.1)) (λ e. (f.0, every_count ms m c ks h f.1))

module _ {D : Type 0} (w : Masters D) (s : ℕ) (lead : List D) (inv : Inv w s lead) (m : ℕ) (n : Member D) (at : MemberAt w.members m n) (lives : is_among w.crashed m ≡ false) where
  pub ok : MemberOk w.members w.crashed s lead w.published m n
  ok = inv.members m n at

  pub live : LiveOk s lead w.published m n
  live = ok.live lives

  -- a term that may have risen isn't above a live member
  pub term_below : (t : ℕ) → MayRise w.crashed t → t ≤ m
  term_below t h = ⊎_elim (λ l. clash (is_among w.crashed m) (h m l) lives) (λ l. l) (order m t)

  abbrev pub set : Member D → List (Member D)
  set a = slice_set w.members m a

  abbrev pub Lands : Member D → List (Sent D) → Type 0
  Lands a ss = Good (sending (with_member w m a) m ss) × IsFrontOf n.log a.log

  pub ahead : (a : Member D) → Onward s n a → Ahead w.members (set a) w.crashed w.crashed s lead lead
  ahead a f = ahead_set w.members w.crashed s lead lead m n a at f (front_refl lead)

  pub lands : (a : Member D) (ss : List (Sent D)) → IsFrontOf n.log a.log → Onward s n a → MemberOk (set a) w.crashed s lead w.published m a → Every (λ (x : Sent D). MessageOk (set a) w.crashed s lead m x.message) ss → Lands a ss
  lands a ss p f o h = ((s, lead, member_step w s lead lead m (rest_of w s lead m inv) n a at f (front_refl lead) inv.most o (λ k x d e v. (inv.members k x e).live v) ss h), p)

  -- with the same role
  pub same_role : (a : Member D) → Onward s n a → a.role ≡ n.role → a.told ≡ n.told → LiveOk s lead w.published m a → MemberOk (set a) w.crashed s lead w.published m a
  same_role a f e d l = record {
    told = λ k h. ok.told k (subst (λ ks. is_among ks k ≡ true) d h);
    rule = ap is_master e ∙ ok.rule ∙ sym (ap (λ ks. list_all (is_among ks) (numbers_below m)) d);
    rises = λ h. ok.rises (subst (λ r. is_master r ≡ true) e h);
    serves = λ h. ok.serves (subst (λ r. is_serving r ≡ true) e h);
    counted = subst (λ r. Every (λ (c : StoredLength). HasStored (set a) c.member c.count) (counts_of r)) (sym e) (counted_ahead w.members (set a) w.crashed w.crashed s lead lead (ahead a f) (counts_of n.role) ok.counted);
    kept = subst (λ r. Every (λ (k : ToldLog D). IsTold (set a) w.crashed s lead m k.member k.log) (tells_of r)) (sym e) (kept_ahead w.members (set a) w.crashed w.crashed s lead lead (ahead a f) m (tells_of n.role) ok.kept);
    live = λ v. l;
  }

  pub lands_quiet : Lands n []
  lands_quiet = lands n [] (front_refl n.log) (onward_refl s n) (same_role n (onward_refl s n) refl refl live) tt

  -- a Store of no lower term
  module _ (t : ℕ) (l : List D) (good : (t ≤ s) × (t ≡ s → IsFrontOf l lead)) (taken : n.seen ≤ t) where
    abbrev pub stored : Member D
    stored = with_log t (longer n.log l) n

    pub store_term : t ≡ s
    store_term = let a = live.seen_up in omega (arith, a, taken, good.0)

    pub store_prefix : IsFrontOf (longer n.log l) lead
    store_prefix = longer_prefix n.log l lead live.log (good.1 store_term)

    pub store_longer : IsFrontOf n.log (longer n.log l)
    store_longer = front_both n.log (longer n.log l) lead live.log store_prefix (longer_first n.log l)

    pub store_onward : Onward s n stored
    store_onward = record { longer = longer_first n.log l; later = taken; still = λ u. absurd (omega (arith, u, taken, good.0)) }

    pub store_live : LiveOk s lead w.published m stored
    store_live =
        let up = live.seen_up in let down = live.seen_own in
        record {
          seen_up = omega (arith, up, taken);
          seen_own = omega (arith, up, taken, good.0, down);
          own = λ e. let o = live.own e in omega (arith, up, taken, good.0, o);
          log = store_prefix;
          has = front_trans w.published n.log (longer n.log l) live.has store_longer;
          master = λ e. front_same (longer n.log l) lead store_prefix (subst (λ (us : List D). length us ≤ length (longer n.log l)) (live.master e) (longer_first n.log l));
          other = live.other;
        }

    pub lands_store : (from : ℕ) → Lands stored (record { to = from; message = Stored t (length (longer n.log l)) } ∷ [])
    lands_store from = lands stored (record { to = from; message = Stored t (length (longer n.log l)) } ∷ []) store_longer store_onward (same_role stored store_onward refl refl store_live)
        ((λ x e. subst (λ (y : Member D). length (longer n.log l) ≤ length y.log) (only_here w s lead lead m (rest_of w s lead m inv) n stored at x e) (le_refl (length (longer n.log l)))), tt)

  -- an Ask of no lower term
  pub lands_ask : (t from : ℕ) → MayRise w.crashed t → n.seen ≤ t → Lands (with_seen t n) (record { to = from; message = Tell t n.log } ∷ [])
  lands_ask t from good taken = lands (with_seen t n) (record { to = from; message = Tell t n.log } ∷ []) (front_refl n.log) f (same_role (with_seen t n) f refl refl
      (let up = live.seen_up in let b = term_below t good in record { seen_up = omega (arith, up, taken); seen_own = b; own = λ e. let o = live.own e in omega (arith, o, b, taken); log = live.log; has = live.has; master = live.master; other = live.other }))
      ((good, λ u. (live.log, λ x e v. subst (λ (y : Member D). (t ≤ y.seen) × (length y.log ≤ length n.log)) (only_here w s lead lead m (rest_of w s lead m inv) n (with_seen t n) at x e) (le_refl t, le_refl (length n.log)))), tt)
    where
      f : Onward s n (with_seen t n)
      f = record { longer = le_refl (length n.log); later = taken; still = λ u. le_refl (length n.log) }

  -- a Stored at the serving master
  pub lands_count : (from c : ℕ) → HasStored w.members from c → is_serving n.role ≡ true → Lands (with_role (Serving (with_count from c (counts_of n.role))) n) []
  lands_count from c good e = lands a [] (front_refl n.log) f (record {
    told = ok.told;
    rule = sym (serving_master n.role e) ∙ ok.rule;
    rises = λ h. ok.rises (serving_master n.role e);
    serves = λ h. ok.serves e;
    counted = every_count (set a) from c (counts_of n.role) (stored_ahead w.members (set a) w.crashed w.crashed s lead lead (ahead a f) from c good) (counted_ahead w.members (set a) w.crashed w.crashed s lead lead (ahead a f) (counts_of n.role) ok.counted);
    kept = tt;
    live = λ v. record { seen_up = live.seen_up; seen_own = live.seen_own; own = λ h. live.own (serving_master n.role e); log = live.log; has = live.has; master = λ h. live.master e; other = λ h. absurd (true≢false h) };
  }) tt
    where
      a : Member D
      a = with_role (Serving (with_count from c (counts_of n.role))) n

      f : Onward s n (with_role (Serving (with_count from c (counts_of n.role))) n)
      f = record { longer = le_refl (length n.log); later = le_refl n.seen; still = λ u. le_refl (length n.log) }

  -- a Tell at the gathering master
  pub lands_tell : (from : ℕ) (l : List D) → IsTold w.members w.crashed s lead m from l → is_gathering n.role ≡ true → Lands (with_role (Gathering (with_tell from l (tells_of n.role))) n) []
  lands_tell from l good e = lands a [] (front_refl n.log) f (record {
    told = ok.told;
    rule = sym (gathering_master n.role e) ∙ ok.rule;
    rises = λ h. ok.rises (gathering_master n.role e);
    serves = λ h. absurd (true≢false (sym h));
    counted = tt;
    kept = every_tell (λ (k : ToldLog D). IsTold (set a) w.crashed s lead m k.member k.log) from l (tells_of n.role) (told_ahead w.members (set a) w.crashed w.crashed s lead lead (ahead a f) m from l good) (kept_ahead w.members (set a) w.crashed w.crashed s lead lead (ahead a f) m (tells_of n.role) ok.kept);
    live = λ v. record { seen_up = live.seen_up; seen_own = live.seen_own; own = λ h. live.own (gathering_master n.role e); log = live.log; has = live.has; master = λ h. absurd (true≢false (sym h)); other = λ h. live.other (gathering_serving n.role e) };
  }) tt
    where
      a : Member D
      a = with_role (Gathering (with_tell from l (tells_of n.role))) n

      f : Onward s n (with_role (Gathering (with_tell from l (tells_of n.role))) n)
      f = record { longer = le_refl (length n.log); later = le_refl n.seen; still = λ u. le_refl (length n.log) }

  abbrev pub LandsStep : Step D → Type 0
  LandsStep st = Lands st.member st.sent

  pub lands_taking : (from : ℕ) (x : Message D) → MessageOk w.members w.crashed s lead from x → LandsStep (taking m from x n)
  lands_taking from (Store t l) good =
      on_cond LandsStep (nat_lt t n.seen) (quiet n Other) (record { member = with_log t (longer n.log l) n; sent = record { to = from; message = Stored t (length (longer n.log l)) } ∷ []; outcome = StoreTaken })
      (λ e. lands_quiet) (λ e. lands_store t l good (not_less t n.seen e) from)
  lands_taking from (Stored t c) good =
      on_cond LandsStep (is_serving n.role && (t == m)) (quiet (with_role (Serving (with_count from c (counts_of n.role))) n) Counted) (quiet n Stale)
      (λ e. lands_count from c good (both_left (is_serving n.role) (t == m) e)) (λ e. lands_quiet)
  lands_taking from (Ask t) good =
      on_cond LandsStep (nat_lt t n.seen) (quiet n Other) (record { member = with_seen t n; sent = record { to = from; message = Tell t n.log } ∷ []; outcome = Asked })
      (λ e. lands_quiet) (λ e. lands_ask t from good (not_less t n.seen e))
  lands_taking from (Tell t l) good =
      on_cond LandsStep (is_gathering n.role && (t == m)) (quiet (with_role (Gathering (with_tell from l (tells_of n.role))) n) TellKept) (quiet n Stale)
      (λ e. lands_tell from l (subst (λ j. IsTold w.members w.crashed s lead j from l) (same_number t m (both_right (is_gathering n.role) (t == m) e)) good) (both_left (is_gathering n.role) (t == m) e)) (λ e. lands_quiet)

  -- it hears of a crash
  module _ (x : ℕ) (gone : is_among w.crashed x ≡ true) where
    abbrev pub heard : Member D
    heard = with_told x n

    pub told_more : (k : ℕ) → is_among (with_one x n.told) k ≡ true → is_among w.crashed k ≡ true
    told_more k e = ⊎_elim (λ h. subst (λ j. is_among w.crashed j ≡ true) (sym h) gone) (λ h. ok.told k h) (among_one x n.told k e)

    -- it is a master exactly where it was told of every lower member
    pub rule_heard : begins m heard ≡ false → is_master n.role ≡ was_told_of_lower m heard
    rule_heard e = ⊎_elim (λ h. h ∙ sym (all_from_in (is_among heard.told) (numbers_below m) (λ k i. one_among x n.told k (all_in (is_among n.told) (numbers_below m) k (sym ok.rule ∙ h) i))))
        (λ h. h ∙ sym (not_begun (is_master n.role) (was_told_of_lower m heard) e h)) (cases (is_master n.role))
      where
        not_begun : (b c : Bool) → (not b && c) ≡ false → b ≡ false → c ≡ false
        not_begun true c e h = absurd (true≢false h)
        not_begun false c e h = e

    pub heard_onward : Onward s n heard
    heard_onward = record { longer = le_refl (length n.log); later = le_refl n.seen; still = λ u. le_refl (length n.log) }

    pub lands_heard : begins m heard ≡ false → Lands heard []
    lands_heard e = lands heard [] (front_refl n.log) heard_onward (record {
      told = told_more;
      rule = rule_heard e;
      rises = ok.rises;
      serves = ok.serves;
      counted = counted_ahead w.members (set heard) w.crashed w.crashed s lead lead (ahead heard heard_onward) (counts_of n.role) ok.counted;
      kept = kept_ahead w.members (set heard) w.crashed w.crashed s lead lead (ahead heard heard_onward) m (tells_of n.role) ok.kept;
      live = λ v. record { seen_up = live.seen_up; seen_own = live.seen_own; own = live.own; log = live.log; has = live.has; master = live.master; other = live.other };
    }) tt

    module _ (e : begins m heard ≡ true) where
      pub lower_gone : MayRise w.crashed m
      lower_gone k l = told_more k (all_in (is_among heard.told) (numbers_below m) k (both_right (not (is_master n.role)) (list_all (is_among heard.told) (numbers_below m)) e) (in_below m k l))

      pub was_following : is_master n.role ≡ false
      was_following = not_true (is_master n.role) (both_left (not (is_master n.role)) (list_all (is_among heard.told) (numbers_below m)) e)

      pub lands_gatherer : Lands (gatherer m heard) (to_each (Ask m) (peers w.size m heard))
      lands_gatherer = lands (gatherer m heard) (to_each (Ask m) (peers w.size m heard)) (front_refl n.log)
          (record { longer = le_refl (length n.log); later = live.seen_own; still = λ u. le_refl (length n.log) })
          (record {
            told = told_more;
            rule = sym (both_right (not (is_master n.role)) (list_all (is_among heard.told) (numbers_below m)) e);
            rises = λ h. lower_gone;
            serves = λ h. absurd (true≢false (sym h));
            counted = tt;
            kept = tt;
            live = λ v. let up = live.seen_up in let down = live.seen_own in record {
              seen_up = le_trans up down;
              seen_own = le_refl m;
              own = λ h. refl;
              log = live.log;
              has = live.has;
              master = λ h. absurd (true≢false (sym h));
              other = λ h. live.other (following_serving n.role was_following);
            };
          })
          (each_sent (λ (y : Sent D). MessageOk (set (gatherer m heard)) w.crashed s lead m y.message) (Ask m) (peers w.size m heard) (λ k. lower_gone))

    pub lands_hearing : LandsStep (hearing w.size m x n)
    lands_hearing = on_cond LandsStep (begins m heard) (record { member = gatherer m heard; sent = to_each (Ask m) (peers w.size m heard); outcome = Done }) (quiet heard Done) lands_gatherer lands_heard

  -- the serving master appends a decision, where its log is published
  module _ (d : D) (e : is_serving n.role ≡ true) (idle : length n.log ≤ length w.published) where
    abbrev pub next : List D
    next = n.log ++ d ∷ []

    pub lead_more : IsFrontOf lead next
    lead_more = subst (λ us. IsFrontOf us next) (live.master e) (front_append n.log (d ∷ []))

    pub next_length : length next ≡ length n.log + 1
    next_length = length-append n.log (d ∷ [])

    pub next_onward : Onward s n (with_decision d n)
    next_onward = let a = ok.serves e in let b = live.seen_own in record { longer = let l = next_length in omega (arith, l); later = le_refl n.seen; still = λ u. absurd (omega (arith, u, a, b)) }

    pub next_ahead : Ahead w.members (set (with_decision d n)) w.crashed w.crashed s lead next
    next_ahead = ahead_set w.members w.crashed s lead next m n (with_decision d n) at next_onward lead_more

    -- no other live member serves
    pub next_others : (k : ℕ) (x : Member D) → k ≢ m → MemberAt w.members k x → is_among w.crashed k ≡ false → LiveOk s next w.published k x
    next_others k x f a v =
        let o = inv.members k x a in let l = o.live v in
        record {
          seen_up = l.seen_up;
          seen_own = l.seen_own;
          own = l.own;
          log = front_trans x.log lead next l.log lead_more;
          has = l.has;
          master = λ h. ⊎_elim (λ u. clash (is_among w.crashed k) (ok.rises (serving_master n.role e) k u) v) (λ u. let b = term_below k (o.rises (serving_master x.role h)) in absurd (omega (arith, u, b, f))) (order k m);
          other = l.other;
        }

    pub lands_proposing : LandsStep (proposing w.size m d n)
    lands_proposing = (
      (
        s,
        next,
        member_step w s lead next m (rest_of w s lead m inv) n (with_decision d n) at next_onward lead_more (let l = next_length in omega (arith, l, idle))
            (record {
              told = ok.told;
              rule = ok.rule;
              rises = ok.rises;
              serves = ok.serves;
              counted = counted_ahead w.members (set (with_decision d n)) w.crashed w.crashed s lead next next_ahead (counts_of n.role) ok.counted;
              kept = kept_ahead w.members (set (with_decision d n)) w.crashed w.crashed s lead next next_ahead m (tells_of n.role) ok.kept;
              live = λ v. record { seen_up = live.seen_up; seen_own = live.seen_own; own = live.own; log = front_refl next; has = front_trans w.published n.log next live.has (front_append n.log (d ∷ [])); master = λ h. refl; other = live.other };
            }) next_others (storing w.size m (with_decision d n))
            (each_sent (λ (y : Sent D). MessageOk (set (with_decision d n)) w.crashed s next m y.message) (Store m next) (peers w.size m (with_decision d n)) (λ k. (ok.serves e, λ h. front_refl next))),
      ),
      front_append n.log (d ∷ []),
    )
