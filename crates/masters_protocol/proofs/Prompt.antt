-- A master serves and publishes as soon as it can.
use Rattle.std.proofs.Common.{◌≡◌, ◌≢◌, ℕ, Bool, true, false, cond, ◌&&◌, nat_lt, nat_le, List, [], ◌∷◌, ◌++◌, length, Option, Some, None, slice_get, refl, sym, subst, ◌⊎◌, ⊎_elim, inl, inr, arith, le_refl}
use Rattle.partition_protocol.proofs.Adopt.{and_false}
use Rattle.partition_protocol.proofs.Lists.{on_cond, get_set, set_get_same, cases}
use Rattle.partition_protocol.proofs.RowFacts.{both_right, less, not_less, is_not_less, number_cases}
use Rattle.partition_protocol.specs.World.{map_or}
use Rattle.partition_table.specs.Rows.{is_among, is_empty}
use Rattle.masters_protocol.specs.Members.{Member, Sent, Step, Dropped, RefusedBusy, RefusedFull, is_gathered, is_stored, server, storing, hearing, taking, proposing, most_decisions, sent_again}
use Rattle.masters_protocol.specs.Machine.{Masters, Packet, Event, Told, Crash, Propose, Deliver, Lose, Resend, Happened, is_live, is_ahead, taken_out, link, with_packets, with_member, sending, serving, serving_at, publishing, publishing_at, nothing, done, refused, stepped, at_member, handed_over, master, proposed_at, resent, happens, run}
use Rattle.masters_protocol.proofs.Lists.{on_some}
use Rattle.masters_protocol.proofs.Tests.{clash, among_more}
use Rattle.masters_protocol.proofs.Invariant.{MemberAt}

pub record PromptAt {D : Type 0} (w : Masters D) (m : ℕ) (n : Member D) : Type 0 where
  pub gathering : is_gathered w.size m n ≡ false
  pub publishing : (is_stored w.size m n && is_ahead w n.log) ≡ false

abbrev pub Prompt : {D : Type 0} → Masters D → Type 0
Prompt {D} w = (k : ℕ) (x : Member D) → is_among w.crashed k ≡ false → MemberAt w.members k x → PromptAt w k x

-- all but member m
abbrev pub PromptBut : {D : Type 0} → Masters D → ℕ → Type 0
PromptBut {D} w m = (k : ℕ) (x : Member D) → k ≢ m → is_among w.crashed k ≡ false → MemberAt w.members k x → PromptAt w k x

abbrev pub GatherDone : {D : Type 0} → Masters D → ℕ → Type 0
GatherDone {D} w m = (x : Member D) → MemberAt w.members m x → is_gathered w.size m x ≡ false

module _ {D : Type 0} where
  pub but_set : (w : Masters D) (m : ℕ) (n : Member D) (ss : List (Sent D)) → PromptBut w m → PromptBut (sending (with_member w m n) m ss) m
  but_set w m n ss p k x d v e = go (get_set w.members m k n x e)
    where
      go : ((k ≡ m) × (n ≡ x)) ⊎ ((k ≢ m) × MemberAt w.members k x) → PromptAt (sending (with_member w m n) m ss) k x
      go (inl h) = absurd (d h.0)
      go (inr h) = let a = p k x d v h.1 in record { gathering = a.gathering; publishing = a.publishing }

  pub served : (w : Masters D) (m : ℕ) → PromptBut w m → PromptBut (serving w m) m × GatherDone (serving w m) m
  served w m p = go (slice_get w.members m) refl
    where
      at : (n : Member D) → slice_get w.members m ≡ Some n → (is_gathered w.size m n ≡ true) ⊎ (is_gathered w.size m n ≡ false) → PromptBut (serving_at w m n) m × GatherDone (serving_at w m n) m
      at n e (inl g) = subst (λ b. let v = cond b (sending (with_member w m (server n)) m (storing w.size m (server n))) w in PromptBut v m × GatherDone v m) (sym g)
          (but_set w m (server n) (storing w.size m (server n)) p, λ x a. let s = set_get_same w.members m (server n) n e in let same : server n ≡ x = cc (s, a) in subst (λ y. is_gathered w.size m y ≡ false) same refl)
      at n e (inr g) = subst (λ b. let v = cond b (sending (with_member w m (server n)) m (storing w.size m (server n))) w in PromptBut v m × GatherDone v m) (sym g)
          (p, λ x a. let same : n ≡ x = cc (e, a) in subst (λ y. is_gathered w.size m y ≡ false) same g)

      go : (o : Option (Member D)) → slice_get w.members m ≡ o → PromptBut (map_or o w (serving_at w m)) m × GatherDone (map_or o w (serving_at w m)) m
      go None e = (p, λ x a. absurd (let b = e in cc (a, b)))
      go (Some n) e = at n e (cases (is_gathered w.size m n))

  pub published : (w : Masters D) (m : ℕ) → PromptBut w m → GatherDone w m → Prompt (publishing w m)
  published w m p g = go (slice_get w.members m) refl
    where
      more : (n : Member D) → is_ahead w n.log ≡ true → (k : ℕ) (x : Member D) → PromptAt w k x → PromptAt (record w { published = n.log }) k x
      more n a k x h = record { gathering = h.gathering; publishing = later (is_stored w.size k x) h.publishing }
        where
          later : (b : Bool) → (b && is_ahead w x.log) ≡ false → (b && nat_lt (length n.log) (length x.log)) ≡ false
          later false e = refl
          later true e = let s = not_less (length w.published) (length x.log) e in let t = less (length w.published) (length n.log) a in is_not_less (length n.log) (length x.log) (omega (arith, s, t))

      at : (n : Member D) → slice_get w.members m ≡ Some n → ((is_stored w.size m n && is_ahead w n.log) ≡ true) ⊎ ((is_stored w.size m n && is_ahead w n.log) ≡ false) → Prompt (publishing_at w m n)
      at n e (inl h) = subst (λ b. Prompt (cond b (record w { published = n.log }) w)) (sym h) (λ k x v a. ⊎_elim
          (λ s. let there : MemberAt w.members m x = subst (λ j. MemberAt w.members j x) s a in let same : n ≡ x = cc (e, there) in
          subst (λ j. PromptAt (record w { published = n.log }) j x) (sym s) (subst (λ y. PromptAt (record w { published = n.log }) m y) same
          (record { gathering = g n e; publishing = and_false (is_stored w.size m n) (nat_lt (length n.log) (length n.log)) (is_not_less (length n.log) (length n.log) (le_refl (length n.log))) })))
          (λ d. more n (both_right (is_stored w.size m n) (is_ahead w n.log) h) k x (p k x d v a)) (number_cases k m))
      at n e (inr h) = subst (λ b. Prompt (cond b (record w { published = n.log }) w)) (sym h) (λ k x v a. ⊎_elim
          (λ s. let there : MemberAt w.members m x = subst (λ j. MemberAt w.members j x) s a in let same : n ≡ x = cc (e, there) in
          subst (λ j. PromptAt w j x) (sym s) (subst (λ y. PromptAt w m y) same (record { gathering = g n e; publishing = h })))
          (λ d. p k x d v a) (number_cases k m))

      go : (o : Option (Member D)) → slice_get w.members m ≡ o → Prompt (map_or o w (publishing_at w m))
      go None e = λ k x v a. ⊎_elim (λ s. let there : MemberAt w.members m x = subst (λ j. MemberAt w.members j x) s a in absurd (cc (there, e))) (λ d. p k x d v a) (number_cases k m)
      go (Some n) e = at n e (cases (is_stored w.size m n && is_ahead w n.log))

  pub stepped_prompt : (w : Masters D) (m : ℕ) (st : Step D) → Prompt w → Prompt (stepped w m st).world
  stepped_prompt w m st p =
      let u : Masters D = sending (with_member w m st.member) m st.sent in
      let s = served u m (but_set w m st.member st.sent (λ k x d v e. p k x v e)) in
      published (serving u m) m s.0 s.1

  pub packets_prompt : (w : Masters D) (ps : List (Packet D)) → Prompt w → Prompt (with_packets w ps)
  packets_prompt w ps p k x v e = let a = p k x v e in record { gathering = a.gathering; publishing = a.publishing }

  pub at_member_prompt : (w : Masters D) (m : ℕ) (f : Member D → Happened D) → Prompt w → ((n : Member D) → Prompt (f n).world) → Prompt (at_member w m f).world
  at_member_prompt w m f p h = on_cond (λ (x : Happened D). Prompt x.world) (is_live w m) (map_or (slice_get w.members m) (nothing w) f) (nothing w)
      (λ e. on_some (λ (x : Happened D). Prompt x.world) (slice_get w.members m) (nothing w) f p (λ n at. h n)) (λ e. p)

  pub event_prompt : (w : Masters D) (e : Event D) → Prompt w → Prompt (happens w e).world
  event_prompt w (Told m x) p = on_cond (λ (h : Happened D). Prompt h.world) (is_among w.crashed x) (at_member w m (λ n. stepped w m (hearing w.size m x n))) (nothing w)
      (λ e. at_member_prompt w m (λ n. stepped w m (hearing w.size m x n)) p (λ n. stepped_prompt w m (hearing w.size m x n) p)) (λ e. p)
  event_prompt w (Crash m) p = on_cond (λ (h : Happened D). Prompt h.world) (is_live w m) (done (record w { crashed = w.crashed ++ m ∷ [] })) (nothing w)
      (λ e k x v a. let b = p k x (⊎_elim (λ h. clash (is_among (w.crashed ++ m ∷ []) k) (among_more w.crashed m k h) v) (λ h. h) (cases (is_among w.crashed k))) a in record { gathering = b.gathering; publishing = b.publishing }) (λ e. p)
  event_prompt w (Propose d) p = on_some (λ (h : Happened D). Prompt h.world) (master w) (nothing w) (λ m. at_member w m (proposed_at w d m)) p
      (λ m e. at_member_prompt w m (proposed_at w d m) p (λ n.
      on_cond (λ (h : Happened D). Prompt h.world) (is_ahead w n.log) (refused w (RefusedBusy (length n.log))) (cond (nat_le most_decisions (length n.log)) (refused w RefusedFull) (stepped w m (proposing w.size m d n))) (λ b. p)
      (λ b. on_cond (λ (h : Happened D). Prompt h.world) (nat_le most_decisions (length n.log)) (refused w RefusedFull) (stepped w m (proposing w.size m d n)) (λ c. p) (λ c. stepped_prompt w m (proposing w.size m d n) p))))
  event_prompt w (Deliver f t i) p = on_some (λ (h : Happened D). Prompt h.world) (slice_get (link f t w.packets) i) (nothing w) (λ q. handed_over (with_packets w (taken_out f t i w.packets)) q) p
      (λ q e. let u : Masters D = with_packets w (taken_out f t i w.packets) in let pu : Prompt u = packets_prompt w (taken_out f t i w.packets) p in
      on_cond (λ (h : Happened D). Prompt h.world) (is_live u q.to) (at_member u q.to (λ n. stepped u q.to (taking q.to q.from q.message n))) (refused u Dropped)
      (λ b. at_member_prompt u q.to (λ n. stepped u q.to (taking q.to q.from q.message n)) pu (λ n. stepped_prompt u q.to (taking q.to q.from q.message n) pu)) (λ b. pu))
  event_prompt w (Lose f t i) p = on_some (λ (h : Happened D). Prompt h.world) (slice_get (link f t w.packets) i) (nothing w) (λ q. done (with_packets w (taken_out f t i w.packets))) p (λ q e. packets_prompt w (taken_out f t i w.packets) p)
  event_prompt w (Resend m) p = at_member_prompt w m (resent w m) p (λ n. on_cond (λ (h : Happened D). Prompt h.world) (is_empty (sent_again w.size m n)) (nothing w) (done (sending w m (sent_again w.size m n))) (λ e. p)
      (λ e k x v a. let b = p k x v a in record { gathering = b.gathering; publishing = b.publishing }))

  pub run_prompt : (w : Masters D) (es : List (Event D)) → Prompt w → Prompt (run w es)
  run_prompt w [] p = p
  run_prompt w (e ∷ es) p = run_prompt (happens w e).world es (event_prompt w e p)
