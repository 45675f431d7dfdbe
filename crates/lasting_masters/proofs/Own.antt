-- A member in the whole is by itself.
use Rattle.std.proofs.Common.{◌≡◌, ◌≢◌, ℕ, ◌<◌, Bool, true, false, cond, ◌==◌, List, [], ◌∷◌, ◌++◌, map, filter, Option, Some, None, slice_get, slice_set, refl, ap, sym, ◌∙◌, subst, ⊎_elim, append_assoc, append-nil}
use Rattle.partition_protocol.proofs.Lists.{on_cond, cases, set_get_same, set_get_other, set_twice, set_itself}
use Rattle.partition_protocol.proofs.RowFacts.{same_number, other_number, number_same, number_other}
use Rattle.partition_protocol.proofs.Theorem.{map_get, get-numbers_below}
use Rattle.partition_protocol.specs.World.{map_or}
use Rattle.partition_protocol.specs.Service.{numbers_below}
use Rattle.partition_table.specs.Rows.{is_among, is_empty}
use Rattle.masters_protocol.proofs.Lists.{on_some}
use Rattle.lasting_masters.specs.Kept.{Folding}
use Rattle.lasting_masters.specs.Members.{Member, Sent, Step, is_gathered, is_stored, is_clear, quiet, server, storing, settles, hearing, taking, fits, proposing, sent_again, with_cut, may_cut, opening_member}
use Rattle.lasting_masters.specs.Machine.{Packet, Lasting, Event, Told, Crash, Propose, Take, Resend, Cut, begin, is_live, packets_from, sending, with_member, serving_at, settling_at, serving, settling, stepped, at_member, taken_at, resent, happens, run}
use Rattle.lasting_masters.specs.Own.{Own, IsTold, Takes, Proposes, Resends, Cuts, served, stored_by, settled, whole, does, member_after, sent_over, Act, act_of, steps_at, steps_of, sent_by, IsByItself}

module _ {D S : Type 0} where
  -- the whole after a step of one member
  abbrev pub acted : Lasting D S → ℕ → Step D S → Lasting D S
  acted w m s = sending (with_member w m s.member) m s.sent

  pub packets_append : (m : ℕ) (ss ts : List (Sent D S)) → packets_from m (ss ++ ts) ≡ packets_from m ss ++ packets_from m ts
  packets_append m [] ts = refl
  packets_append m (s ∷ ss) ts = ap (λ ps. record { from = m; to = s.to; message = s.message } ∷ ps) (packets_append m ss ts)

  abbrev pub world : ℕ → List ℕ → List (Member D S) → List (Packet D S) → Lasting D S
  world size crashed ms ps = record { size = size; members = ms; crashed = crashed; packets = ps }

  pub made : (size : ℕ) (crashed : List ℕ) (ms ns : List (Member D S)) (ps qs : List (Packet D S)) → ms ≡ ns → ps ≡ qs → world size crashed ms ps ≡ world size crashed ns qs
  made size crashed ms ns ps qs e f = ap (λ zs. world size crashed zs ps) e ∙ ap (λ zs. world size crashed ns zs) f

  module _ (w : Lasting D S) (m : ℕ) (n : Member D S) (at : slice_get w.members m ≡ Some n) where
    pub quiet_same : acted w m (quiet n) ≡ w
    quiet_same = made w.size w.crashed (slice_set w.members m n) w.members (w.packets ++ []) w.packets (set_itself w.members m n at) (append-nil w.packets)

    pub serves_acted : (s : Step D S) → serving (acted w m s) m ≡ acted w m (record { member = served w.size m s.member; sent = s.sent ++ stored_by w.size m s.member })
    serves_acted s =
        let v : Lasting D S = acted w m s in
        let here : slice_get v.members m ≡ Some s.member = set_get_same w.members m s.member n at in
        ap (λ z. map_or z v (serving_at v m)) here ∙ go (is_gathered w.size m s.member)
      where
        go : (b : Bool) → cond b (sending (with_member (acted w m s) m (server s.member)) m (storing w.size m (server s.member))) (acted w m s)
            ≡ acted w m (record { member = cond b (server s.member) s.member; sent = s.sent ++ cond b (storing w.size m (server s.member)) [] })
        go true = made w.size w.crashed (slice_set (slice_set w.members m s.member) m (server s.member)) (slice_set w.members m (server s.member)) ((w.packets ++ packets_from m s.sent) ++ packets_from m (storing w.size m (server s.member))) (w.packets ++ packets_from m (s.sent ++ storing w.size m (server s.member)))
            (set_twice w.members m s.member (server s.member)) (append_assoc w.packets (packets_from m s.sent) (packets_from m (storing w.size m (server s.member))) ∙ ap (λ ps. w.packets ++ ps) (sym (packets_append m s.sent (storing w.size m (server s.member)))))
        go false = ap (λ ss. acted w m (record { member = s.member; sent = ss })) (sym (append-nil s.sent))

    pub settles_acted : (s : Step D S) → settling (acted w m s) m ≡ acted w m (record { member = settled w.size m s.member; sent = s.sent })
    settles_acted s =
        let v : Lasting D S = acted w m s in
        let here : slice_get v.members m ≡ Some s.member = set_get_same w.members m s.member n at in
        ap (λ z. map_or z v (settling_at v m)) here ∙ go (is_stored w.size m s.member)
      where
        go : (b : Bool) → cond b (with_member (acted w m s) m (settles s.member)) (acted w m s) ≡ acted w m (record { member = cond b (settles s.member) s.member; sent = s.sent })
        go true = made w.size w.crashed (slice_set (slice_set w.members m s.member) m (settles s.member)) (slice_set w.members m (settles s.member)) (w.packets ++ packets_from m s.sent) (w.packets ++ packets_from m s.sent) (set_twice w.members m s.member (settles s.member)) refl
        go false = refl

    pub stepped_acted : (s : Step D S) → stepped w m s ≡ acted w m (whole w.size m s)
    stepped_acted s = ap (λ v. settling v m) (serves_acted s) ∙ settles_acted (record { member = served w.size m s.member; sent = s.sent ++ stored_by w.size m s.member })

  module _ (o : Folding D S) where
    abbrev pub acts : Lasting D S → Act D S → Lasting D S
    acts w a = map_or (slice_get w.members a.member) w (λ n. acted w a.member (does o w.size a.member a.own n))

    abbrev pub after_act : Lasting D S → Option (Act D S) → Lasting D S
    after_act w a = map_or a w (acts w)

    -- what a live member does is a step of its own
    pub at_acts : (w : Lasting D S) (m : ℕ) (own : Own D S) (f : Member D S → Lasting D S) → ((n : Member D S) → slice_get w.members m ≡ Some n → f n ≡ acted w m (does o w.size m own n))
        → at_member w m f ≡ after_act w (cond (is_live w m) (Some (record { member = m; own = own })) None)
    at_acts w m own f h = go (is_live w m)
      where
        inner : (z : Option (Member D S)) → slice_get w.members m ≡ z → map_or z w f ≡ map_or z w (λ n. acted w m (does o w.size m own n))
        inner None e = refl
        inner (Some n) e = h n e

        go : (b : Bool) → cond b (map_or (slice_get w.members m) w f) w ≡ after_act w (cond b (Some (record { member = m; own = own })) None)
        go true = inner (slice_get w.members m) refl
        go false = refl

    pub happens_acts : (w : Lasting D S) (e : Event D) → ((m : ℕ) → e ≢ Crash m) → happens o w e ≡ after_act w (act_of w e)
    happens_acts w (Told m x) c = go (is_among w.crashed x)
      where
        go : (b : Bool) → cond b (at_member w m (λ n. stepped w m (hearing w.size m x n))) w ≡ after_act w (cond b (cond (is_live w m) (Some (record { member = m; own = IsTold x })) None) None)
        go true = at_acts w m (IsTold x) (λ n. stepped w m (hearing w.size m x n)) (λ n at. stepped_acted w m n at (hearing w.size m x n))
        go false = refl
    happens_acts w (Crash m) c = absurd (c m refl)
    happens_acts w (Propose m d) c = at_acts w m (Proposes d) (λ n. cond (is_clear w.size m n) (stepped w m (proposing w.size m d n)) w) (λ n at. go n at (is_clear w.size m n))
      where
        go : (n : Member D S) → slice_get w.members m ≡ Some n → (b : Bool) → cond b (stepped w m (proposing w.size m d n)) w ≡ acted w m (cond b (whole w.size m (proposing w.size m d n)) (quiet n))
        go n at true = stepped_acted w m n at (proposing w.size m d n)
        go n at false = sym (quiet_same w m n at)
    happens_acts w (Take i) c = packet (slice_get w.packets i)
      where
        go : (p : Packet D S) (n : Member D S) → slice_get w.members p.to ≡ Some n → (b : Bool) → cond b (stepped w p.to (taking p.to p.from p.message n)) w ≡ acted w p.to (cond b (whole w.size p.to (taking p.to p.from p.message n)) (quiet n))
        go p n at true = stepped_acted w p.to n at (taking p.to p.from p.message n)
        go p n at false = sym (quiet_same w p.to n at)

        packet : (z : Option (Packet D S)) → map_or z w (λ p. at_member w p.to (taken_at w p)) ≡ after_act w (map_or z None (λ p. cond (is_live w p.to) (Some (record { member = p.to; own = Takes p.from p.message })) None))
        packet None = refl
        packet (Some p) = at_acts w p.to (Takes p.from p.message) (taken_at w p) (λ n at. go p n at (fits p.message n))
    happens_acts w (Resend m) c = at_acts w m Resends (resent w m) (λ n at. go n at (sent_again w.size m n))
      where
        go : (n : Member D S) → slice_get w.members m ≡ Some n → (ss : List (Sent D S)) → cond (is_empty ss) w (sending w m ss) ≡ acted w m (record { member = n; sent = ss })
        go n at [] = sym (quiet_same w m n at)
        go n at (x ∷ ss) = made w.size w.crashed w.members (slice_set w.members m n) (w.packets ++ packets_from m (x ∷ ss)) (w.packets ++ packets_from m (x ∷ ss)) (sym (set_itself w.members m n at)) refl
    happens_acts w (Cut m k) c = at_acts w m (Cuts k) (λ n. cond (may_cut k n) (with_member w m (with_cut o k n)) w) (λ n at. go n at (may_cut k n))
      where
        go : (n : Member D S) → slice_get w.members m ≡ Some n → (b : Bool) → cond b (with_member w m (with_cut o k n)) w ≡ acted w m (cond b (quiet (with_cut o k n)) (quiet n))
        go n at true = made w.size w.crashed (slice_set w.members m (with_cut o k n)) (slice_set w.members m (with_cut o k n)) w.packets (w.packets ++ []) refl (sym (append-nil w.packets))
        go n at false = sym (quiet_same w m n at)

    -- over a list

    pub after_append : (size m : ℕ) (n : Member D S) (xs ys : List (Own D S)) → member_after o size m n (xs ++ ys) ≡ member_after o size m (member_after o size m n xs) ys
    after_append size m n [] ys = refl
    after_append size m n (x ∷ xs) ys = after_append size m (does o size m x n).member xs ys

    pub over_append : (size m : ℕ) (n : Member D S) (xs ys : List (Own D S)) → sent_over o size m n (xs ++ ys) ≡ sent_over o size m n xs ++ sent_over o size m (member_after o size m n xs) ys
    over_append size m n [] ys = refl
    over_append size m n (x ∷ xs) ys = ap (λ zs. (does o size m x n).sent ++ zs) (over_append size m (does o size m x n).member xs ys) ∙ sym (append_assoc (does o size m x n).sent (sent_over o size m (does o size m x n).member xs) (sent_over o size m (member_after o size m (does o size m x n).member xs) ys))

    pub sent_append : (m : ℕ) (ps qs : List (Packet D S)) → sent_by m (ps ++ qs) ≡ sent_by m ps ++ sent_by m qs
    sent_append m [] qs = refl
    sent_append m (p ∷ ps) qs = go (sent_append m ps qs) (p.from == m)
      where
        go : sent_by m (ps ++ qs) ≡ sent_by m ps ++ sent_by m qs → (b : Bool) → map (λ (x : Packet D S). record { to = x.to; message = x.message }) (cond b (p ∷ filter (λ (x : Packet D S). x.from == m) (ps ++ qs)) (filter (λ (x : Packet D S). x.from == m) (ps ++ qs)))
            ≡ map (λ (x : Packet D S). record { to = x.to; message = x.message }) (cond b (p ∷ filter (λ (x : Packet D S). x.from == m) ps) (filter (λ (x : Packet D S). x.from == m) ps)) ++ sent_by m qs
        go e true = ap (λ zs. record { to = p.to; message = p.message } ∷ zs) e
        go e false = e

    pub sent_own : (m : ℕ) (ss : List (Sent D S)) → sent_by m (packets_from m ss) ≡ ss
    sent_own m [] = refl
    sent_own m (s ∷ ss) =
        let rest : List (Packet D S) = filter (λ (x : Packet D S). x.from == m) (packets_from m ss) in
        let p : Packet D S = record { from = m; to = s.to; message = s.message } in
        ap (λ b. map (λ (x : Packet D S). record { to = x.to; message = x.message }) (cond b (p ∷ rest) rest)) (number_same m m refl) ∙ ap (λ zs. s ∷ zs) (sent_own m ss)

    pub sent_other : (m k : ℕ) (ss : List (Sent D S)) → k ≢ m → sent_by m (packets_from k ss) ≡ []
    sent_other m k [] d = refl
    sent_other m k (s ∷ ss) d =
        let rest : List (Packet D S) = filter (λ (x : Packet D S). x.from == m) (packets_from k ss) in
        let p : Packet D S = record { from = k; to = s.to; message = s.message } in
        ap (λ b. map (λ (x : Packet D S). record { to = x.to; message = x.message }) (cond b (p ∷ rest) rest)) (number_other k m d) ∙ sent_other m k ss d

    -- what a step changes of member m
    pub record Goes (size m : ℕ) (n : Member D S) (w v : Lasting D S) (owns : List (Own D S)) : Type 0 where
      pub size_same : v.size ≡ size
      pub member : slice_get v.members m ≡ Some (member_after o size m n owns)
      pub sent : sent_by m v.packets ≡ sent_by m w.packets ++ sent_over o size m n owns

    module _ (size m : ℕ) (w : Lasting D S) (e : w.size ≡ size) (n : Member D S) (at : slice_get w.members m ≡ Some n) where
      pub stays : Goes size m n w w []
      stays = record { size_same = e; member = at; sent = sym (append-nil (sent_by m w.packets)) }

      pub act_goes : (a : Act D S) → Goes size m n w (acts w a) (steps_at m (Some a))
      act_goes a = ⊎_elim mine others (cases (a.member == m))
        where
          mine : (a.member == m) ≡ true → Goes size m n w (acts w a) (steps_at m (Some a))
          mine b =
              let same : a.member ≡ m = same_number a.member m b in
              let d : Step D S = does o size m a.own n in
              let v : Lasting D S = acted w m d in
              let it : acted w m d ≡ acts w a =
              ap (λ k. acted w m (does o k m a.own n)) (sym e)
              ∙ ap (λ z. map_or z w (λ x. acted w m (does o w.size m a.own x))) (sym at)
              ∙ ap (λ k. map_or (slice_get w.members k) w (λ x. acted w k (does o w.size k a.own x))) (sym same) in
              let g : Goes size m n w v (a.own ∷ []) = record {
                size_same = e;
                member = set_get_same w.members m d.member n at;
                sent = sent_append m w.packets (packets_from m d.sent) ∙ ap (λ zs. sent_by m w.packets ++ zs) (sent_own m d.sent ∙ sym (append-nil d.sent));
              } in
              subst (λ c. Goes size m n w (acts w a) (cond c (a.own ∷ []) [])) (sym b) (subst (λ y. Goes size m n w y (a.own ∷ [])) it g)

          others : (a.member == m) ≡ false → Goes size m n w (acts w a) (steps_at m (Some a))
          others b = subst (λ c. Goes size m n w (acts w a) (cond c (a.own ∷ []) [])) (sym b)
              (on_some (λ v. Goes size m n w v []) (slice_get w.members a.member) w (λ x. acted w a.member (does o w.size a.member a.own x)) stays
              (λ x there. let d : Step D S = does o w.size a.member a.own x in record {
                size_same = e;
                member = set_get_other w.members a.member m d.member (λ q. other_number a.member m b (sym q)) ∙ at;
                sent = sent_append m w.packets (packets_from a.member d.sent) ∙ ap (λ zs. sent_by m w.packets ++ zs) (sent_other m a.member d.sent (other_number a.member m b));
              }))

      pub option_goes : (a : Option (Act D S)) → Goes size m n w (after_act w a) (steps_at m a)
      option_goes None = stays
      option_goes (Some a) = act_goes a

      pub acts_goes : (x : Event D) → ((k : ℕ) → x ≢ Crash k) → Goes size m n w (happens o w x) (steps_at m (act_of w x))
      acts_goes x c = subst (λ v. Goes size m n w v (steps_at m (act_of w x))) (sym (happens_acts w x c)) (option_goes (act_of w x))

      pub event_goes : (x : Event D) → Goes size m n w (happens o w x) (steps_at m (act_of w x))
      event_goes (Told k y) = acts_goes (Told k y) (λ j q. absurd cc)
      event_goes (Crash k) = on_cond (λ v. Goes size m n w v []) (is_live w k) (record { size = w.size; members = w.members; crashed = w.crashed ++ k ∷ []; packets = w.packets }) w (λ b. record { size_same = e; member = at; sent = sym (append-nil (sent_by m w.packets)) }) (λ b. stays)
      event_goes (Propose k d) = acts_goes (Propose k d) (λ j q. absurd cc)
      event_goes (Take i) = acts_goes (Take i) (λ j q. absurd cc)
      event_goes (Resend k) = acts_goes (Resend k) (λ j q. absurd cc)
      event_goes (Cut k c) = acts_goes (Cut k c) (λ j q. absurd cc)

    pub run_goes : (size m : ℕ) (w : Lasting D S) → w.size ≡ size → (n : Member D S) → slice_get w.members m ≡ Some n → (es : List (Event D)) → Goes size m n w (run o w es) (steps_of o m w es)
    run_goes size m w e n at [] = stays size m w e n at
    run_goes size m w e n at (x ∷ es) =
        let v : Lasting D S = happens o w x in
        let xs : List (Own D S) = steps_at m (act_of w x) in
        let ys : List (Own D S) = steps_of o m v es in
        let g = event_goes size m w e n at x in
        let r = run_goes size m v g.size_same (member_after o size m n xs) g.member es in
        record {
          size_same = r.size_same;
          member = r.member ∙ ap (λ z. Some z) (sym (after_append size m n xs ys));
          sent = r.sent ∙ ap (λ zs. zs ++ sent_over o size m (member_after o size m n xs) ys) g.sent ∙ append_assoc (sent_by m w.packets) (sent_over o size m n xs) (sent_over o size m (member_after o size m n xs) ys) ∙ ap (λ zs. sent_by m w.packets ++ zs) (sym (over_append size m n xs ys));
        }

    pub every_one_is_by_itself : (size m : ℕ) (es : List (Event D)) → m < size → IsByItself o size m es
    every_one_is_by_itself size m es l = let r = run_goes size m (begin o size) refl (opening_member o m) (map_get (opening_member o) (numbers_below size) m m (get-numbers_below size m l)) es in record { member = r.member; sent = r.sent }
