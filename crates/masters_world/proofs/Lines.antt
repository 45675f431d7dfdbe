-- What a line asks of the masters, and what happens at once.
use Rattle.std.proofs.Common.{◌≡◌, ℕ, ◌≤◌, Bool, true, false, cond, not, ◌&&◌, ◌==◌, List, [], ◌∷◌, ◌++◌, length, Option, Some, None, is_some, slice_get, refl, ap, sym, ◌∙◌, subst, ◌⊎◌, ⊎_elim, inl, inr, arith, true≢false, append_assoc}
use Rattle.masters_protocol.specs.Machine as masters
use Rattle.masters_protocol.specs.Machine.{Masters, master, pending}
use Rattle.masters_protocol.specs.Claims.{IsSound, is_proposed, accepted_by, accepted}
use Rattle.partition_protocol.specs.Messages.{Message, Packet}
use Rattle.partition_protocol.specs.Links.{link}
use Rattle.partition_protocol.specs.Events as partition
use Rattle.partition_protocol.specs.Arrivals.{arrivals}
use Rattle.partition_protocol.proofs.Lists.{In, Every, on_cond}
use Rattle.partition_protocol.proofs.RowFacts.{both_left, both_right, not_true, same_number}
use Rattle.partition_protocol.proofs.LinkFacts.{packet, packet_at}
use Rattle.masters_world.specs.Decisions.{Decision, Detect, BeginMove, BeginJoin, BeginHandover, Advance, Reopen, Take, is_of_service}
use Rattle.masters_world.specs.Machine.{Ruled, Line, Asks, Told, MasterDeliver, MasterLose, MasterResend, was_told, taking, proposals, proposing, asked_by, at_once, past, masters_after, published_by}
use Rattle.masters_world.specs.Claims.{InPlace, event_in}
use Rattle.masters_world.proofs.Lists.{past_append, is_take, takes, one_more, more_both, more_right}
use Rattle.masters_world.proofs.Links.{spares}
use Rattle.masters_world.proofs.Crashes.{crash_publishes}

pub if_true : {X : Type 0} (b : Bool) (x y : X) → b ≡ true → cond b x y ≡ x
if_true true x y e = refl
if_true false x y e = absurd (true≢false (sym e))

-- what is accepted was proposed

pub accepted_in : (M : Masters Decision) (ds : List Decision) (d : Decision) → In d (accepted M (proposing ds)) → In d ds
accepted_in M [] d i = absurd i
accepted_in M (y ∷ ys) d i = go (accepted_in (masters.happens M (masters.Propose y)).world ys d) (is_proposed (masters.happens M (masters.Propose y)).outcome) i
  where
    go : (In d (accepted (masters.happens M (masters.Propose y)).world (proposing ys)) → In d ys) → (b : Bool)
        → In d (cond b (y ∷ []) [] ++ accepted (masters.happens M (masters.Propose y)).world (proposing ys)) → In d (y ∷ ys)
    go h true (inl e) = inl e
    go h true (inr k) = inr (h k)
    go h false k = inr (h k)

pub accepted_takes : (M : Masters Decision) (ds : List Decision) → takes (accepted M (proposing ds)) ≤ takes ds
accepted_takes M [] = omega arith
accepted_takes M (y ∷ ys) = go (accepted_takes (masters.happens M (masters.Propose y)).world ys) (is_proposed (masters.happens M (masters.Propose y)).outcome)
  where
    go : takes (accepted (masters.happens M (masters.Propose y)).world (proposing ys)) ≤ takes ys → (b : Bool)
        → takes (cond b (y ∷ []) [] ++ accepted (masters.happens M (masters.Propose y)).world (proposing ys)) ≤ one_more (is_take y) (takes ys)
    go h true = more_both (is_take y) (takes (accepted (masters.happens M (masters.Propose y)).world (proposing ys))) (takes ys) h
    go h false = more_right (is_take y) (takes (accepted (masters.happens M (masters.Propose y)).world (proposing ys))) (takes ys) h

pub accepted_append : {D : Type 0} (M : Masters D) (xs ys : List (masters.Event D)) → accepted M (xs ++ ys) ≡ accepted M xs ++ accepted (masters.run M xs) ys
accepted_append M [] ys = refl
accepted_append M (x ∷ xs) ys =
    let ks = accepted_by x (masters.happens M x).outcome in
    ap (λ zs. ks ++ zs) (accepted_append (masters.happens M x).world xs ys) ∙ sym (append_assoc ks (accepted (masters.happens M x).world xs) (accepted (masters.run (masters.happens M x).world xs) ys))

-- what a line proposes
abbrev pub proposed : {C : Type 0} → Ruled C → Line C → List Decision
proposed j (Asks e) = proposals j e
proposed j _ = []

abbrev pub Single : {X : Type 0} → List X → Type 0
Single {X} xs = (xs ≡ []) ⊎ ((x : X) × (xs ≡ x ∷ []))

module _ {C : Type 0} (j : Ruled C) where
  abbrev pub n : ℕ
  n = j.world.members

  abbrev pub taken : Line C → List Decision
  taken l = accepted j.masters (asked_by j l)

  pub taken_in : (l : Line C) (d : Decision) → In d (taken l) → In d (proposed j l)
  taken_in (Asks (partition.Call m conn number call now)) d i = absurd i
  taken_in (Asks (partition.Deliver f t k)) d i = accepted_in j.masters (proposals j (partition.Deliver f t k)) d i
  taken_in (Asks (partition.Lose f t k)) d i = absurd i
  taken_in (Asks (partition.Repeat f t k)) d i = absurd i
  taken_in (Asks (partition.Resend end)) d i = absurd i
  taken_in (Asks (partition.Crash m)) d i = absurd i
  taken_in (Asks (partition.Detect m)) d i = accepted_in j.masters (proposals j (partition.Detect m)) d i
  taken_in (Asks (partition.BeginMove from to)) d i = accepted_in j.masters (BeginMove from to ∷ []) d i
  taken_in (Asks (partition.BeginJoin to)) d i = accepted_in j.masters (BeginJoin to ∷ []) d i
  taken_in (Asks (partition.BeginHandover from to)) d i = accepted_in j.masters (BeginHandover from to ∷ []) d i
  taken_in (Asks partition.Advance) d i = accepted_in j.masters (Advance ∷ []) d i
  taken_in (Asks partition.Reopen) d i = accepted_in j.masters (Reopen ∷ []) d i
  taken_in (Told m x) d i = absurd i
  taken_in (MasterDeliver f t k) d i = absurd i
  taken_in (MasterLose f t k) d i = absurd i
  taken_in (MasterResend m) d i = absurd i

  pub taken_takes : (l : Line C) → takes (taken l) ≤ takes (proposed j l)
  taken_takes (Asks (partition.Call m conn number call now)) = omega arith
  taken_takes (Asks (partition.Deliver f t k)) = accepted_takes j.masters (proposals j (partition.Deliver f t k))
  taken_takes (Asks (partition.Lose f t k)) = omega arith
  taken_takes (Asks (partition.Repeat f t k)) = omega arith
  taken_takes (Asks (partition.Resend end)) = omega arith
  taken_takes (Asks (partition.Crash m)) = omega arith
  taken_takes (Asks (partition.Detect m)) = accepted_takes j.masters (proposals j (partition.Detect m))
  taken_takes (Asks (partition.BeginMove from to)) = accepted_takes j.masters (BeginMove from to ∷ [])
  taken_takes (Asks (partition.BeginJoin to)) = accepted_takes j.masters (BeginJoin to ∷ [])
  taken_takes (Asks (partition.BeginHandover from to)) = accepted_takes j.masters (BeginHandover from to ∷ [])
  taken_takes (Asks partition.Advance) = accepted_takes j.masters (Advance ∷ [])
  taken_takes (Asks partition.Reopen) = accepted_takes j.masters (Reopen ∷ [])
  taken_takes (Told m x) = omega arith
  taken_takes (MasterDeliver f t k) = omega arith
  taken_takes (MasterLose f t k) = omega arith
  taken_takes (MasterResend m) = omega arith

  -- a message that is proposed to be taken is in its place, while nothing is pending

  pub record IsThere (l : Line C) (f i : ℕ) (x : Message) : Type 0 where
    pub quiet : pending j.masters ≡ false
    pub place : InPlace n j.world f i x
    pub alone : at_once j l ≡ []

  pub deliver_there : (g t k f i : ℕ) (x : Message) → In (Take f i x) (proposals j (partition.Deliver g t k)) → IsThere (Asks (partition.Deliver g t k)) f i x
  deliver_there g t k f i x = on_cond (λ ds. In (Take f i x) ds → IsThere (Asks (partition.Deliver g t k)) f i x) ((t == n) && not (pending j.masters)) (taking g k (slice_get (link g t j.world.packets) k)) []
      (λ e. found (slice_get (link g t j.world.packets) k) refl (both_left (t == n) (not (pending j.masters)) e) (not_true (pending j.masters) (both_right (t == n) (not (pending j.masters)) e))) (λ e z. absurd z)
    where
      place : (p : Packet) → slice_get (link g t j.world.packets) k ≡ Some p → t ≡ n → slice_get (link g n j.world.packets) k ≡ Some (packet g n p.message)
      place p at s = subst (λ m. slice_get (link g m j.world.packets) k ≡ Some (packet g m p.message)) s (at ∙ ap (λ q. Some q) (packet_at g t k j.world.packets p at))

      found : (q : Option Packet) → slice_get (link g t j.world.packets) k ≡ q → (t == n) ≡ true → pending j.masters ≡ false → In (Take f i x) (taking g k q) → IsThere (Asks (partition.Deliver g t k)) f i x
      found None at s quiet z = absurd z
      found (Some p) at s quiet (inl e) =
          let from : g ≡ f = cc in
          let here : k ≡ i = cc in
          let says : p.message ≡ x = cc in
          let there = place p at (same_number t n s) in
          record {
            quiet = quiet;
            place = subst (λ a. InPlace n j.world a i x) from (subst (λ a. InPlace n j.world g a x) here (subst (λ a. InPlace n j.world g k a) says there));
            alone = if_true (t == n) [] (partition.Deliver g t k ∷ []) s;
          }
      found (Some p) at s quiet (inr z) = absurd z

  pub no_detect : (m f i : ℕ) (x : Message) (b : Bool) → In (Take f i x) (cond b (Detect m ∷ []) []) → ⊥
  no_detect m f i x true (inl e) = absurd cc
  no_detect m f i x true (inr z) = z
  no_detect m f i x false z = z

  pub take_there : (l : Line C) (f i : ℕ) (x : Message) → In (Take f i x) (proposed j l) → IsThere l f i x
  take_there (Asks (partition.Call m conn number call now)) f i x z = absurd z
  take_there (Asks (partition.Deliver g t k)) f i x z = deliver_there g t k f i x z
  take_there (Asks (partition.Lose g t k)) f i x z = absurd z
  take_there (Asks (partition.Repeat g t k)) f i x z = absurd z
  take_there (Asks (partition.Resend end)) f i x z = absurd z
  take_there (Asks (partition.Crash m)) f i x z = absurd z
  take_there (Asks (partition.Detect m)) f i x z = absurd (no_detect m f i x (was_told j m) z)
  take_there (Asks (partition.BeginMove from to)) f i x z = absurd (⊎_elim (λ e. cc) (λ k. k) z)
  take_there (Asks (partition.BeginJoin to)) f i x z = absurd (⊎_elim (λ e. cc) (λ k. k) z)
  take_there (Asks (partition.BeginHandover from to)) f i x z = absurd (⊎_elim (λ e. cc) (λ k. k) z)
  take_there (Asks partition.Advance) f i x z = absurd (⊎_elim (λ e. cc) (λ k. k) z)
  take_there (Asks partition.Reopen) f i x z = absurd (⊎_elim (λ e. cc) (λ k. k) z)
  take_there (Told m y) f i x z = absurd z
  take_there (MasterDeliver g t k) f i x z = absurd z
  take_there (MasterLose g t k) f i x z = absurd z
  take_there (MasterResend m) f i x z = absurd z

  -- a crash that is proposed to be detected is one of which the master was told

  pub deliver_no_detect : (m g k : ℕ) (q : Option Packet) → In (Detect m) (taking g k q) → ⊥
  deliver_no_detect m g k None z = z
  deliver_no_detect m g k (Some p) (inl e) = absurd cc
  deliver_no_detect m g k (Some p) (inr z) = z

  pub detect_there : (l : Line C) (m : ℕ) → In (Detect m) (proposed j l) → was_told j m ≡ true
  detect_there (Asks (partition.Call k conn number call now)) m z = absurd z
  detect_there (Asks (partition.Deliver g t k)) m z = absurd (on_cond (λ ds. In (Detect m) ds → ⊥) ((t == n) && not (pending j.masters)) (taking g k (slice_get (link g t j.world.packets) k)) [] (λ e. deliver_no_detect m g k (slice_get (link g t j.world.packets) k)) (λ e y. y) z)
  detect_there (Asks (partition.Lose g t k)) m z = absurd z
  detect_there (Asks (partition.Repeat g t k)) m z = absurd z
  detect_there (Asks (partition.Resend end)) m z = absurd z
  detect_there (Asks (partition.Crash k)) m z = absurd z
  detect_there (Asks (partition.Detect k)) m z = on_cond (λ ds. In (Detect m) ds → was_told j m ≡ true) (was_told j k) (Detect k ∷ []) [] (λ e. told e) (λ e y. absurd y) z
    where
      told : was_told j k ≡ true → In (Detect m) (Detect k ∷ []) → was_told j m ≡ true
      told e (inl s) = let same : k ≡ m = cc in subst (λ a. was_told j a ≡ true) same e
      told e (inr y) = absurd y
  detect_there (Asks (partition.BeginMove from to)) m z = absurd (⊎_elim (λ e. cc) (λ k. k) z)
  detect_there (Asks (partition.BeginJoin to)) m z = absurd (⊎_elim (λ e. cc) (λ k. k) z)
  detect_there (Asks (partition.BeginHandover from to)) m z = absurd (⊎_elim (λ e. cc) (λ k. k) z)
  detect_there (Asks partition.Advance) m z = absurd (⊎_elim (λ e. cc) (λ k. k) z)
  detect_there (Asks partition.Reopen) m z = absurd (⊎_elim (λ e. cc) (λ k. k) z)
  detect_there (Told k y) m z = absurd z
  detect_there (MasterDeliver g t k) m z = absurd z
  detect_there (MasterLose g t k) m z = absurd z
  detect_there (MasterResend k) m z = absurd z

  -- a line proposes one decision or none

  pub taking_single : (g k : ℕ) (q : Option Packet) → Single (taking g k q)
  taking_single g k None = inl refl
  taking_single g k (Some p) = inr (Take g k p.message, refl)

  pub single_if : {X : Type 0} (b : Bool) (xs : List X) → Single xs → Single (cond b xs [])
  single_if true xs h = h
  single_if false xs h = inl refl

  pub proposals_single : (e : partition.Event C) → Single (proposals j e)
  proposals_single (partition.Call m conn number call now) = inl refl
  proposals_single (partition.Deliver g t k) = single_if ((t == n) && not (pending j.masters)) (taking g k (slice_get (link g t j.world.packets) k)) (taking_single g k (slice_get (link g t j.world.packets) k))
  proposals_single (partition.Lose g t k) = inl refl
  proposals_single (partition.Repeat g t k) = inl refl
  proposals_single (partition.Resend end) = inl refl
  proposals_single (partition.Crash m) = inl refl
  proposals_single (partition.Detect m) = single_if (was_told j m) (Detect m ∷ []) (inr (Detect m, refl))
  proposals_single (partition.BeginMove from to) = inr (BeginMove from to, refl)
  proposals_single (partition.BeginJoin to) = inr (BeginJoin to, refl)
  proposals_single (partition.BeginHandover from to) = inr (BeginHandover from to, refl)
  proposals_single partition.Advance = inr (Advance, refl)
  proposals_single partition.Reopen = inr (Reopen, refl)

  pub proposed_single : (l : Line C) → Single (proposed j l)
  proposed_single (Asks e) = proposals_single e
  proposed_single (Told m x) = inl refl
  proposed_single (MasterDeliver f t k) = inl refl
  proposed_single (MasterLose f t k) = inl refl
  proposed_single (MasterResend m) = inl refl

  pub at_most_one : (b : Bool) → one_more b 0 ≤ 1
  at_most_one true = omega arith
  at_most_one false = omega arith

  pub single_takes : (ds : List Decision) → Single ds → takes ds ≤ 1
  single_takes ds (inl e) = subst (λ xs. takes xs ≤ 1) (sym e) (omega arith)
  single_takes ds (inr (d, e)) = subst (λ xs. takes xs ≤ 1) (sym e) (at_most_one (is_take d))

  pub single_asked : (ds : List Decision) → Single ds → Single (proposing ds)
  single_asked ds (inl e) = inl (ap proposing e)
  single_asked ds (inr (d, e)) = inr (masters.Propose d, ap proposing e)

  pub asked_single : (l : Line C) → Single (asked_by j l)
  asked_single (Asks (partition.Call m conn number call now)) = inl refl
  asked_single (Asks (partition.Deliver f t k)) = single_asked (proposals j (partition.Deliver f t k)) (proposals_single (partition.Deliver f t k))
  asked_single (Asks (partition.Lose f t k)) = inl refl
  asked_single (Asks (partition.Repeat f t k)) = inl refl
  asked_single (Asks (partition.Resend end)) = inl refl
  asked_single (Asks (partition.Crash m)) = inr (masters.Crash m, refl)
  asked_single (Asks (partition.Detect m)) = single_asked (proposals j (partition.Detect m)) (proposals_single (partition.Detect m))
  asked_single (Asks (partition.BeginMove from to)) = inr (masters.Propose (BeginMove from to), refl)
  asked_single (Asks (partition.BeginJoin to)) = inr (masters.Propose (BeginJoin to), refl)
  asked_single (Asks (partition.BeginHandover from to)) = inr (masters.Propose (BeginHandover from to), refl)
  asked_single (Asks partition.Advance) = inr (masters.Propose Advance, refl)
  asked_single (Asks partition.Reopen) = inr (masters.Propose Reopen, refl)
  asked_single (Told m x) = inr (masters.Told m x, refl)
  asked_single (MasterDeliver f t k) = inr (masters.Deliver f t k, refl)
  asked_single (MasterLose f t k) = inr (masters.Lose f t k, refl)
  asked_single (MasterResend m) = inr (masters.Resend m, refl)

  -- and publishes one or none

  pub past_same : {X : Type 0} (xs : List X) → past xs xs ≡ []
  past_same [] = refl
  past_same (x ∷ xs) = past_same xs

  pub publishes_none : (l : Line C) → (masters_after j l).published ≡ j.masters.published → published_by j l ≡ []
  publishes_none l e = ap (past j.masters.published) e ∙ past_same j.masters.published

  pub publishes_single : IsSound j.masters → (l : Line C) → Single (published_by j l)
  publishes_single s l = go (asked_single l)
    where
      go : Single (asked_by j l) → Single (published_by j l)
      go (inl e) = inl (publishes_none l (ap (λ es. (masters.run j.masters es).published) e))
      go (inr (e, q)) = ⊎_elim
          (λ h. inl (publishes_none l (ap (λ es. (masters.run j.masters es).published) q ∙ h)))
          (λ r. inr (r.0, ap (λ es. past j.masters.published (masters.run j.masters es).published) q ∙ ap (past j.masters.published) r.1 ∙ past_append j.masters.published (r.0 ∷ []))) (s.paced e)

  -- what happens at once

  pub either : (l : Line C) → (at_once j l ≡ []) ⊎ (published_by j l ≡ [])
  either (Asks (partition.Call m conn number call now)) = inr (publishes_none (Asks (partition.Call m conn number call now)) refl)
  either (Asks (partition.Deliver f t k)) = go (t == n) refl
    where
      go : (b : Bool) → (t == n) ≡ b → (at_once j (Asks (partition.Deliver f t k)) ≡ []) ⊎ (published_by j (Asks (partition.Deliver f t k)) ≡ [])
      go true e = inl (if_true (t == n) [] (partition.Deliver f t k ∷ []) e)
      go false e = inr (publishes_none (Asks (partition.Deliver f t k))
          (subst (λ b. (masters.run j.masters (proposing (cond (b && not (pending j.masters)) (taking f k (slice_get (link f t j.world.packets) k)) []))).published ≡ j.masters.published) (sym e) refl))
  either (Asks (partition.Lose f t k)) = inr (publishes_none (Asks (partition.Lose f t k)) refl)
  either (Asks (partition.Repeat f t k)) = inr (publishes_none (Asks (partition.Repeat f t k)) refl)
  either (Asks (partition.Resend end)) = inr (publishes_none (Asks (partition.Resend end)) refl)
  either (Asks (partition.Crash m)) = inr (publishes_none (Asks (partition.Crash m)) (crash_publishes j.masters m).0)
  either (Asks (partition.Detect m)) = inl refl
  either (Asks (partition.BeginMove from to)) = inl refl
  either (Asks (partition.BeginJoin to)) = inl refl
  either (Asks (partition.BeginHandover from to)) = inl refl
  either (Asks partition.Advance) = inl refl
  either (Asks partition.Reopen) = inl refl
  either (Told m x) = inl refl
  either (MasterDeliver f t k) = inl refl
  either (MasterLose f t k) = inl refl
  either (MasterResend m) = inl refl

  -- while something is pending no message to the service is taken
  pub at_once_spares : pending j.masters ≡ true → (l : Line C) → Every (λ e. spares n e ≡ true) (at_once j l)
  at_once_spares q (Asks (partition.Call m conn number call now)) = (refl, tt)
  at_once_spares q (Asks (partition.Deliver f t k)) = on_cond (Every (λ e. spares n e ≡ true)) (t == n) [] (partition.Deliver f t k ∷ []) (λ e. tt) (λ e. (ap not e, tt))
  at_once_spares q (Asks (partition.Lose f t k)) = on_cond (Every (λ e. spares n e ≡ true)) ((t == n) && pending j.masters) [] (partition.Lose f t k ∷ []) (λ e. tt) (λ e. (ap not (other (t == n) (pending j.masters) q e), tt))
    where
      other : (a b : Bool) → b ≡ true → (a && b) ≡ false → a ≡ false
      other true b x y = absurd (true≢false (sym x ∙ y))
      other false b x y = refl
  at_once_spares q (Asks (partition.Repeat f t k)) = (refl, tt)
  at_once_spares q (Asks (partition.Resend end)) = on_cond (Every (λ e. spares n e ≡ true)) ((end == n) && not (is_some (master j.masters))) [] (partition.Resend end ∷ []) (λ e. tt) (λ e. (refl, tt))
  at_once_spares q (Asks (partition.Crash m)) = (refl, tt)
  at_once_spares q (Asks (partition.Detect m)) = tt
  at_once_spares q (Asks (partition.BeginMove from to)) = tt
  at_once_spares q (Asks (partition.BeginJoin to)) = tt
  at_once_spares q (Asks (partition.BeginHandover from to)) = tt
  at_once_spares q (Asks partition.Advance) = tt
  at_once_spares q (Asks partition.Reopen) = tt
  at_once_spares q (Told m x) = tt
  at_once_spares q (MasterDeliver f t k) = tt
  at_once_spares q (MasterLose f t k) = tt
  at_once_spares q (MasterResend m) = tt

  -- none of it is an event of the service, it is the call that is asked for if one is, and no more than one event
  pub record IsOthers (l : Line C) (es : List (partition.Event C)) : Type 0 where
    pub others : Every (λ e. is_of_service n e ≡ false) es
    pub calls : arrivals es ≡ arrivals (event_in l)
    pub few : length es ≤ 1

  pub nothing_else : (l : Line C) → [] ≡ arrivals (event_in l) → IsOthers l []
  nothing_else l e = record { others = tt; calls = e; few = omega arith }

  pub one_other : (e : partition.Event C) → is_of_service n e ≡ false → IsOthers (Asks e) (e ∷ [])
  one_other e d = record { others = (d, tt); calls = refl; few = omega arith }

  pub at_once_others : (l : Line C) → IsOthers l (at_once j l)
  at_once_others (Asks (partition.Call m conn number call now)) = one_other (partition.Call m conn number call now) refl
  at_once_others (Asks (partition.Deliver f t k)) = on_cond (IsOthers (Asks (partition.Deliver f t k))) (t == n) [] (partition.Deliver f t k ∷ []) (λ e. nothing_else (Asks (partition.Deliver f t k)) refl) (λ e. one_other (partition.Deliver f t k) e)
  at_once_others (Asks (partition.Lose f t k)) = on_cond (IsOthers (Asks (partition.Lose f t k))) ((t == n) && pending j.masters) [] (partition.Lose f t k ∷ []) (λ e. nothing_else (Asks (partition.Lose f t k)) refl) (λ e. one_other (partition.Lose f t k) refl)
  at_once_others (Asks (partition.Repeat f t k)) = one_other (partition.Repeat f t k) refl
  at_once_others (Asks (partition.Resend end)) = on_cond (IsOthers (Asks (partition.Resend end))) ((end == n) && not (is_some (master j.masters))) [] (partition.Resend end ∷ []) (λ e. nothing_else (Asks (partition.Resend end)) refl) (λ e. one_other (partition.Resend end) refl)
  at_once_others (Asks (partition.Crash m)) = one_other (partition.Crash m) refl
  at_once_others (Asks (partition.Detect m)) = nothing_else (Asks (partition.Detect m)) refl
  at_once_others (Asks (partition.BeginMove from to)) = nothing_else (Asks (partition.BeginMove from to)) refl
  at_once_others (Asks (partition.BeginJoin to)) = nothing_else (Asks (partition.BeginJoin to)) refl
  at_once_others (Asks (partition.BeginHandover from to)) = nothing_else (Asks (partition.BeginHandover from to)) refl
  at_once_others (Asks partition.Advance) = nothing_else (Asks partition.Advance) refl
  at_once_others (Asks partition.Reopen) = nothing_else (Asks partition.Reopen) refl
  at_once_others (Told m x) = nothing_else (Told m x) refl
  at_once_others (MasterDeliver f t k) = nothing_else (MasterDeliver f t k) refl
  at_once_others (MasterLose f t k) = nothing_else (MasterLose f t k) refl
  at_once_others (MasterResend m) = nothing_else (MasterResend m) refl
