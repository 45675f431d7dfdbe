-- A crash, a proposal, and what is sent again.
use Rattle.std.proofs.Common.{◌≡◌, ℕ, ◌<◌, ◌≤◌, Bool, true, false, cond, ◌||◌, ◌==◌, nat_lt, nat_le, nat_eq, List, [], ◌∷◌, ◌++◌, map, length, Some, None, slice_get, slice_set, refl, ap, sym, ◌∙◌, ⊎_elim, arith}
use Rattle.std.proofs.lemmas.Bool.Decides.{nat_tests}
use Rattle.std.proofs.lemmas.List.Folds.{list_any-append}
use Rattle.partition_protocol.proofs.Lists.{set_get_same, set_get_other}
use Rattle.partition_protocol.proofs.RowFacts.{both_left, number_cases, number_same, number_other, same_number}
use Rattle.partition_protocol.specs.Service.{numbers_below}
use Rattle.partition_protocol.specs.World.{map_or}
use Rattle.partition_table.specs.Rows.{is_among, is_empty}
use Rattle.masters_protocol.specs.Members.{Member, Sent, RefusedBusy, RefusedFull, most_decisions, proposing, sent_again, is_serving}
use Rattle.masters_protocol.specs.Machine.{Masters as Machine, Crash, Propose, Resend, nothing, done, refused, happens, is_live, is_ahead, serves, master, at_member, proposed_at, resent, stepped, sending}
use Rattle.masters_protocol.proofs.Events.{first_passes, master_serves}
use Rattle.master_wire.specs.declared.decision.Decision.{Decision}
use Rattle.master_member.specs.Steps.{written, AreWritten}
use Rattle.master_log.specs.Standing.{has_crashed}
use Rattle.master_log.proofs.Agreement.{some_at}
use Rattle.master_log.proofs.Runs.{at_live}

-- a member crashes

among_last : (ks : List ℕ) (m k : ℕ) → is_among (ks ++ m ∷ []) k ≡ (is_among ks k || (k == m))
among_last ks m k = list_any-append (nat_eq k) ks (m ∷ []) ∙ ap (λ b. is_among ks k || b) (or_false (k == m))
  where
    or_false : (b : Bool) → (b || false) ≡ b
    or_false true = refl
    or_false false = refl

or_true : (a b : Bool) → b ≡ true → (a || b) ≡ true
or_true true b e = refl
or_true false b e = e

or_not : (a b : Bool) → b ≡ false → (a || b) ≡ a
or_not true b e = refl
or_not false b e = e

pub crashed_more : (marks : List Bool) (ks : List ℕ) (m : ℕ) → m < length marks → ((k : ℕ) → has_crashed marks k ≡ is_among ks k) → (k : ℕ) → has_crashed (slice_set marks m true) k ≡ is_among (ks ++ m ∷ []) k
crashed_more marks ks m l same k = ⊎_elim
    (λ e. let b = some_at marks m l in
    ap (λ j. has_crashed (slice_set marks m true) j) e ∙ ap (λ o. map_or o false (λ is. is)) (set_get_same marks m true b.0 b.1)
    ∙ sym (among_last ks m k ∙ or_true (is_among ks k) (k == m) (number_same k m e)))
    (λ d. ap (λ o. map_or o false (λ is. is)) (set_get_other marks m k true d) ∙ same k ∙ sym (among_last ks m k ∙ or_not (is_among ks k) (k == m) (number_other k m d)))
    (number_cases k m)

pub crash_there : (w : Machine Decision) (m : ℕ) → is_live w m ≡ true → happens w (Crash m) ≡ done (record w { crashed = w.crashed ++ m ∷ [] })
crash_there w m e = ap (λ b. cond b (done (record w { crashed = w.crashed ++ m ∷ [] })) (nothing w)) e

pub crash_nowhere : (w : Machine Decision) (m : ℕ) → is_live w m ≡ false → happens w (Crash m) ≡ nothing w
crash_nowhere w m e = ap (λ b. cond b (done (record w { crashed = w.crashed ++ m ∷ [] })) (nothing w)) e

-- a proposal

pub propose_nowhere : (w : Machine Decision) (d : Decision) → master w ≡ None → happens w (Propose d) ≡ nothing w
propose_nowhere w d e = ap (λ o. map_or o (nothing w) (λ m. at_member w m (proposed_at w d m))) e

module _ (w : Machine Decision) (d : Decision) (m : ℕ) (leads : master w ≡ Some m) where
  pub master_lives : is_live w m ≡ true
  master_lives = both_left (is_live w m) (map_or (slice_get w.members m) false (λ (n : Member Decision). is_serving n.role)) (first_passes (serves w) (numbers_below w.size) m leads)

  module _ (n : Member Decision) (at : slice_get w.members m ≡ Some n) where
    pub serves_then : is_serving n.role ≡ true
    serves_then = master_serves w m n leads at

    at_master : happens w (Propose d) ≡ proposed_at w d m n
    at_master = ap (λ o. map_or o (nothing w) (λ k. at_member w k (proposed_at w d k))) leads ∙ at_live w m n at master_lives (proposed_at w d m)

    pub propose_busy : is_ahead w n.log ≡ true → happens w (Propose d) ≡ refused w (RefusedBusy (length n.log))
    propose_busy e = at_master ∙ ap (λ b. cond b (refused w (RefusedBusy (length n.log))) (cond (nat_le most_decisions (length n.log)) (refused w RefusedFull) (stepped w m (proposing w.size m d n)))) e

    pub propose_full : is_ahead w n.log ≡ false → nat_le most_decisions (length n.log) ≡ true → happens w (Propose d) ≡ refused w RefusedFull
    propose_full e f =
        at_master ∙ ap (λ b. cond b (refused w (RefusedBusy (length n.log))) (cond (nat_le most_decisions (length n.log)) (refused w RefusedFull) (stepped w m (proposing w.size m d n)))) e
        ∙ ap (λ b. cond b (refused w RefusedFull) (stepped w m (proposing w.size m d n))) f

    pub propose_there : is_ahead w n.log ≡ false → nat_le most_decisions (length n.log) ≡ false → happens w (Propose d) ≡ stepped w m (proposing w.size m d n)
    propose_there e f =
        at_master ∙ ap (λ b. cond b (refused w (RefusedBusy (length n.log))) (cond (nat_le most_decisions (length n.log)) (refused w RefusedFull) (stepped w m (proposing w.size m d n)))) e
        ∙ ap (λ b. cond b (refused w RefusedFull) (stepped w m (proposing w.size m d n))) f

pub ahead : (k a b : ℕ) → k ≡ a → k < b → nat_lt a b ≡ true
ahead k a b e l = grind (arith, nat_tests)

pub not_ahead : (k a b : ℕ) → k ≡ a → b ≤ k → nat_lt a b ≡ false
not_ahead k a b e l = grind (arith, nat_tests)

pub full : (n : Member Decision) → 10000 ≤ length n.log → nat_le most_decisions (length n.log) ≡ true
full n l = grind (arith, nat_tests)

pub not_full : (n : Member Decision) → length n.log < 10000 → nat_le most_decisions (length n.log) ≡ false
not_full n l = grind (arith, nat_tests)

-- what is sent again

module _ (w : Machine Decision) (m : ℕ) (n : Member Decision) (at : slice_get w.members m ≡ Some n) (lives : is_live w m ≡ true) where
  pub resend_nothing : is_empty (sent_again w.size m n) ≡ true → happens w (Resend m) ≡ nothing w
  resend_nothing e = at_live w m n at lives (resent w m) ∙ ap (λ b. cond b (nothing w) (done (sending w m (sent_again w.size m n)))) e

  pub resend_there : is_empty (sent_again w.size m n) ≡ false → happens w (Resend m) ≡ done (sending w m (sent_again w.size m n))
  resend_there e = at_live w m n at lives (resent w m) ∙ ap (λ b. cond b (nothing w) (done (sending w m (sent_again w.size m n)))) e

-- no message is written exactly where none is sent

pub none_there : (k : ℕ) (out : List (ℕ × List ℕ)) → k ≡ length out → (k == 0) ≡ true → length out ≡ 0
none_there k out same none = sym same ∙ same_number k 0 none

pub some_there : (k : ℕ) (out : List (ℕ × List ℕ)) → k ≡ length out → (k == 0) ≡ false → 1 ≤ length out
some_there k out same some = grind (arith, nat_tests)

pub none_written : (out : List (ℕ × List ℕ)) (ss : List (Sent Decision)) → AreWritten out ss → length out ≡ 0 → is_empty ss ≡ true
none_written out [] wrote none = refl
none_written out (s ∷ ss) wrote none = absurd (let e = ap (λ (xs : List (ℕ × List ℕ)). length xs) wrote.bytes in let l : 1 ≤ length (map written (s ∷ ss)) = omega arith in omega (arith, e, l, none))

pub some_written : (out : List (ℕ × List ℕ)) (ss : List (Sent Decision)) → AreWritten out ss → 1 ≤ length out → is_empty ss ≡ false
some_written out [] wrote some = absurd (let e = ap (λ (xs : List (ℕ × List ℕ)). length xs) wrote.bytes in omega (arith, e, some))
some_written out (s ∷ ss) wrote some = refl
