-- A member's whole steps, as the code takes them.
use Rattle.std.proofs.Common.{◌≡◌, ℕ, ◌≤◌, Bool, true, false, cond, not, ◌&&◌, ◌==◌, List, [], ◌∷◌, ◌++◌, length, refl, ap, sym, ◌∙◌, subst, arith, append-nil, true≢false}
use Rattle.std.specs.List.{list_all}
use Rattle.partition_protocol.proofs.RowFacts.{number_other}
use Rattle.partition_table.specs.Rows.{is_among, is_empty}
use Rattle.masters_protocol.specs.Members.{Member, Role, Following, Gathering, Serving, Ask, Store, Step, Done, Outcome, to_each, peers, begins, gatherer, quiet, going_on, server, storing, with_decision, proposing, longest, tells_of, has_told, is_gathering, is_serving, is_gathered}
use Rattle.master_wire.specs.declared.decision.Decision.{Decision}
use Rattle.master_wire.specs.Spelling.{spelling, IsSpelled}
use Rattle.master_member.specs.Steps.{settled, settling, AreWritten, IsSingle, HasStepped}
use Rattle.master_member.proofs.Sending.{each, each_written, none_written, single_each, single_none}

-- who hasn't gathered rests

module _ (size m : ℕ) (step : Step Decision) (rests : is_gathered size m step.member ≡ false) where
  pub settled_same : settled size m step.member ≡ step.member
  settled_same = ap (λ b. cond b (server step.member) step.member) rests

  pub settling_none : settling size m step.member ≡ []
  settling_none = ap (λ b. cond b (storing size m (server step.member)) []) rests

  pub stepped_resting : (new : Member Decision) (out : List (ℕ × List ℕ)) → new ≡ step.member → AreWritten out step.sent → IsSingle size out → HasStepped size m step new out
  stepped_resting new out is sent single = record {
    member = is ∙ sym settled_same;
    sent = subst (AreWritten out) (sym (ap (λ ss. step.sent ++ ss) settling_none ∙ append-nil step.sent)) sent;
    single = single;
  }

-- who has gathered serves, and has its log stored
module _ (size m : ℕ) (n : Member Decision) (x : Outcome) (gathered : is_gathered size m n ≡ true) where
  pub stepped_serving : (good : IsSpelled (Store m (longest n.log (tells_of n.role)))) → HasStepped size m (quiet n x) (server n) (each (spelling (Store m (longest n.log (tells_of n.role)))) (peers size m n))
  stepped_serving good = record {
    member = sym (ap (λ b. cond b (server n) n) gathered);
    sent = subst (AreWritten (each (spelling (Store m (longest n.log (tells_of n.role)))) (peers size m n))) (sym (ap (λ b. cond b (storing size m (server n)) []) gathered)) (each_written (Store m (longest n.log (tells_of n.role))) good (peers size m n));
    single = single_each (spelling (Store m (longest n.log (tells_of n.role)))) (λ p. not (p == m) && not (is_among n.told p)) size;
  }

-- who begins to gather without a peer has gathered

none_told : (ps : List ℕ) → list_all (has_told {D = Decision} []) ps ≡ is_empty ps
none_told [] = refl
none_told (p ∷ ps) = refl

abbrev pub begun_role : Bool → Role Decision
begun_role alone = cond alone (Serving []) (Gathering [])

module _ (size m : ℕ) (n : Member Decision) (begins_now : begins m n ≡ true) (good : IsSpelled (Ask m)) where
  abbrev pub begun : Member Decision
  begun = record n { seen = m; role = begun_role (is_empty (peers size m n)) }

  gathered_alone : is_gathered size m (gatherer m n) ≡ is_empty (peers size m n)
  gathered_alone = none_told (peers size m n)

  begun_member : (ps : List ℕ) → peers size m n ≡ ps → record n { seen = m; role = begun_role (is_empty ps) } ≡ cond (is_empty ps) (server (gatherer m n)) (gatherer m n)
  begun_member [] e = refl
  begun_member (p ∷ ps) e = refl

  begun_sent : (ps : List ℕ) → to_each (Ask m) ps ≡ to_each (Ask m) ps ++ cond (is_empty ps) (to_each (Store m n.log) ps) []
  begun_sent [] = refl
  begun_sent (p ∷ ps) = sym (append-nil (to_each (Ask m) (p ∷ ps)))

  pub stepped_begun : HasStepped size m (going_on size m n) begun (each (spelling (Ask m)) (peers size m n))
  stepped_begun = subst (λ (s : Step Decision). HasStepped size m s begun (each (spelling (Ask m)) (peers size m n))) (sym step_is) (record {
    member = begun_member (peers size m n) refl ∙ sym (ap (λ b. cond b (server (gatherer m n)) (gatherer m n)) gathered_alone);
    sent = subst (AreWritten (each (spelling (Ask m)) (peers size m n))) (begun_sent (peers size m n) ∙ ap (λ b. to_each (Ask m) (peers size m n) ++ cond b (to_each (Store m n.log) (peers size m n)) []) (sym gathered_alone)) (each_written (Ask m) good (peers size m n));
    single = single_each (spelling (Ask m)) (λ p. not (p == m) && not (is_among n.told p)) size;
  })
    where
      step_is : going_on size m n ≡ record { member = gatherer m n; sent = to_each (Ask m) (peers size m n); outcome = Done }
      step_is = ap (λ b. cond b (record { member = gatherer m n; sent = to_each (Ask m) (peers size m n); outcome = Done }) (quiet n Done)) begins_now

-- who doesn't begin
module _ (size m : ℕ) (n : Member Decision) (no : begins m n ≡ false) where
  pub not_begun : going_on size m n ≡ quiet n Done
  not_begun = ap (λ b. cond b (record { member = gatherer m n; sent = to_each (Ask m) (peers size m n); outcome = Done }) (quiet n Done)) no

  pub stepped_still : is_gathered size m n ≡ false → HasStepped size m (going_on size m n) n []
  stepped_still rests = subst (λ (s : Step Decision). HasStepped size m s n []) (sym not_begun) (stepped_resting size m (quiet n Done) rests n [] refl none_written (single_none size))

  pub stepped_gathered : is_gathered size m n ≡ true → (good : IsSpelled (Store m (longest n.log (tells_of n.role))))
      → HasStepped size m (going_on size m n) (server n) (each (spelling (Store m (longest n.log (tells_of n.role)))) (peers size m n))
  stepped_gathered gathered good = subst (λ (s : Step Decision). HasStepped size m s (server n) (each (spelling (Store m (longest n.log (tells_of n.role)))) (peers size m n))) (sym not_begun) (stepped_serving size m n Done gathered good)

-- who serves hasn't gathered
pub serving_rests : (size m : ℕ) (n : Member Decision) → is_serving n.role ≡ true → is_gathered size m n ≡ false
serving_rests size m n e = ap (λ b. b && list_all (has_told (tells_of n.role)) (peers size m n)) (gathering_not n.role e)
  where
    gathering_not : (r : Role Decision) → is_serving r ≡ true → is_gathering r ≡ false
    gathering_not Following e = refl
    gathering_not (Gathering tells) e = absurd (true≢false (sym e))
    gathering_not (Serving counts) e = refl

pub stepped_proposing : (size m : ℕ) (d : Decision) (n : Member Decision) (good : IsSpelled (Store m (n.log ++ d ∷ []))) → is_serving n.role ≡ true
    → HasStepped size m (proposing size m d n) (with_decision d n) (each (spelling (Store m (n.log ++ d ∷ []))) (peers size m n))
stepped_proposing size m d n good serves =
    stepped_resting size m (proposing size m d n) (serving_rests size m (with_decision d n) serves) (with_decision d n) (each (spelling (Store m (n.log ++ d ∷ []))) (peers size m n)) refl
    (each_written (Store m (n.log ++ d ∷ [])) good (peers size m n)) (single_each (spelling (Store m (n.log ++ d ∷ []))) (λ p. not (p == m) && not (is_among n.told p)) size)

-- a state by its parts
member_is : (new : Member Decision) (t : List ℕ) (s : ℕ) (l : List Decision) (r : Role Decision) → new.told ≡ t → new.seen ≡ s → new.log ≡ l → new.role ≡ r → new ≡ record { told = t; seen = s; log = l; role = r }
member_is new t s l r a b c d =
    ap (λ (x : List ℕ). record { told = x; seen = new.seen; log = new.log; role = new.role }) a ∙ ap (λ (x : ℕ). record { told = t; seen = x; log = new.log; role = new.role }) b
    ∙ ap (λ (x : List Decision). record { told = t; seen = s; log = x; role = new.role }) c ∙ ap (λ (x : Role Decision). record { told = t; seen = s; log = l; role = x }) d

empty_is : (ps : List ℕ) → is_empty ps ≡ (length ps == 0)
empty_is [] = refl
empty_is (p ∷ ps) = sym (number_other (length (p ∷ ps)) 0 (λ e. absurd (let n : 1 ≤ length (p ∷ ps) = omega arith in omega (arith, n, e))))

-- as the code has it, where ps are the peers
module _ (size m : ℕ) (n : Member Decision) (ps : List ℕ) (peers_are : ps ≡ peers size m n) (new : Member Decision) (out : List (ℕ × List ℕ)) where
  pub begun_is : begins m n ≡ true → IsSpelled (Ask m) → new.told ≡ n.told → new.seen ≡ m → new.log ≡ n.log → new.role ≡ begun_role (length ps == 0) → out ≡ each (spelling (Ask m)) ps → HasStepped size m (going_on size m n) new out
  begun_is now good told seen log role wrote =
      subst (λ (x : Member Decision). HasStepped size m (going_on size m n) x out) (sym new_is) (subst (λ o. HasStepped size m (going_on size m n) (begun size m n now good) o) (sym (wrote ∙ ap (each (spelling (Ask m))) peers_are)) (stepped_begun size m n now good))
    where
      new_is : new ≡ begun size m n now good
      new_is = member_is new n.told m n.log (begun_role (is_empty (peers size m n))) told seen log (role ∙ ap begun_role (sym (empty_is ps) ∙ ap is_empty peers_are))

  pub proposed_is : (d : Decision) (l : List Decision) → l ≡ n.log → is_serving n.role ≡ true → IsSpelled (Store m (l ++ d ∷ [])) → new.told ≡ n.told → new.seen ≡ n.seen → new.log ≡ l ++ d ∷ [] → new.role ≡ n.role
      → out ≡ each (spelling (Store m (l ++ d ∷ []))) ps → HasStepped size m (proposing size m d n) new out
  proposed_is d l same serves good told seen log role wrote =
      subst (λ (x : Member Decision). HasStepped size m (proposing size m d n) x out) (sym (member_is new n.told n.seen (n.log ++ d ∷ []) n.role told seen (log ∙ ap (λ x. x ++ d ∷ []) same) role))
      (subst (λ o. HasStepped size m (proposing size m d n) (with_decision d n) o) (sym (wrote ∙ ap (λ x. each (spelling (Store m (x ++ d ∷ []))) ps) same ∙ ap (each (spelling (Store m (n.log ++ d ∷ [])))) peers_are))
      (stepped_proposing size m d n (subst (λ x. IsSpelled (Store m (x ++ d ∷ []))) same good) serves))

  -- who doesn't begin, and hasn't gathered or has
  module _ (no : begins m n ≡ false) where
    pub still_is : (is_gathering n.role && list_all (has_told (tells_of n.role)) ps) ≡ false → new ≡ n → out ≡ [] → HasStepped size m (going_on size m n) new out
    still_is rests same none =
        subst (λ (x : Member Decision). HasStepped size m (going_on size m n) x out) (sym same) (subst (HasStepped size m (going_on size m n) n) (sym none)
        (stepped_still size m n no (ap (λ qs. is_gathering n.role && list_all (has_told (tells_of n.role)) qs) (sym peers_are) ∙ rests)))

    pub gathered_is : (is_gathering n.role && list_all (has_told (tells_of n.role)) ps) ≡ true → new ≡ server n → IsSpelled (Store m (longest n.log (tells_of n.role))) → out ≡ each (spelling (Store m (longest n.log (tells_of n.role)))) ps
        → HasStepped size m (going_on size m n) new out
    gathered_is gathered same good wrote =
        subst (λ (x : Member Decision). HasStepped size m (going_on size m n) x out) (sym same) (subst (HasStepped size m (going_on size m n) (server n)) (sym (wrote ∙ ap (each (spelling (Store m (longest n.log (tells_of n.role))))) peers_are))
        (stepped_gathered size m n no (ap (λ qs. is_gathering n.role && list_all (has_told (tells_of n.role)) qs) (sym peers_are) ∙ gathered) good))
