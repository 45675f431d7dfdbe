-- What has been accepted since nothing was pending: at most one decision takes a message, and that message is in its place until it is taken.
use Rattle.std.proofs.Common.{◌≡◌, ℕ, ◌<◌, ◌≤◌, Bool, true, false, List, [], ◌∷◌, ◌++◌, map, Option, Some, None, slice_get, Contains, refl, ap, sym, ◌∙◌, subst, ◌⊎◌, ⊎_elim, inl, inr, arith, append_assoc, append-nil, true≢false}
use Rattle.grid_base.specs.Objects.{Object}
use Rattle.partition_protocol.specs.Sequences.{IsSubsequence}
use Rattle.partition_protocol.specs.World.{map_or}
use Rattle.partition_table.specs.Rows.{is_among}
use Rattle.masters_protocol.specs.Members.{Member}
use Rattle.masters_protocol.specs.Machine as masters
use Rattle.masters_protocol.specs.Machine.{Masters, master, pending}
use Rattle.masters_protocol.specs.Claims.{IsSound, accepted}
use Rattle.masters_protocol.proofs.Theorem.{every_run_agrees, run_append as masters_append}
use Rattle.partition_protocol.specs.Messages.{Message, NewRow, Sync, Effect, Bridge, Ack, Joined, Freeze, Frozen, Packet}
use Rattle.partition_protocol.specs.WellFormed.{IsMessageOf, IsPacketOf}
use Rattle.partition_protocol.proofs.EventCases.{place_in}
use Rattle.partition_protocol.proofs.Lists.{In, in_right, in_cases, contains_in, Every, every_append, cases}
use Rattle.partition_protocol.proofs.LinkFacts.{packet}
use Rattle.masters_world.specs.Decisions.{Decision, Detect, BeginMove, BeginJoin, BeginHandover, Advance, Reopen, Take, event_of}
use Rattle.masters_world.specs.Machine.{Ruled, Line, was_told, asked_by, at_once, past, masters_after, published_by, events_by, goes}
use Rattle.masters_world.specs.Claims.{InPlace, IsForService, IsRight}
use Rattle.masters_world.proofs.Lists.{append_same, past_append, is_take, takes, takes_append, none_takes, in_part, takes_part}
use Rattle.masters_world.proofs.Links.{spares, run_in_place, decisions_spare}
use Rattle.masters_world.proofs.Crashes.{run_size, run_fallen}
use Rattle.masters_world.proofs.Lines.{proposed, taken, taken_in, taken_takes, take_there, detect_there, single_takes, proposed_single, at_once_spares, accepted_append}

abbrev pub MastersEvent : Type 0
MastersEvent = masters.Event Decision

-- what is said to the service is for it
pub for_service : (n f : ℕ) (x : Message) → IsMessageOf n f n x → (f < n) × IsForService n x
for_service n f (NewRow row) h = let l = h.0.1 in absurd (omega (arith, l))
for_service n f (Sync row c) h = let l = h.0.1 in absurd (omega (arith, l))
for_service n f (Effect v i) h = let l = h.1 in absurd (omega (arith, l))
for_service n f (Bridge row e k) h = let l = h.0.1 in absurd (omega (arith, l))
for_service n f (Ack v c) h = let l = h.1 in absurd (omega (arith, l))
for_service n f (Joined v m) h = (h.0.0, h.1)
for_service n f (Freeze v) h = let l = h.1 in absurd (omega (arith, l))
for_service n f (Frozen v) h = (h.0, tt)

-- the masters after these events
abbrev pub ran : ℕ → List MastersEvent → Masters Decision
ran n es = masters.run (masters.start n) es

pub record Since {C : Type 0} (n : ℕ) (asked : List MastersEvent) (j : Ruled C) : Type 0 where
  -- what was asked up to then, and since then
  pub before : List MastersEvent
  pub after : List MastersEvent
  pub whole : before ++ after ≡ asked
  pub quiet : pending (ran n before) ≡ false
  pub few : takes (accepted (ran n before) after) ≤ 1
  -- until a message is taken
  pub place : (f i : ℕ) (x : Message) (new : List Decision) → In (Take f i x) (accepted (ran n before) after) → (ran n before).published ++ new ≡ j.masters.published → takes new ≡ 0 → InPlace n j.world f i x
  -- who is to be detected has crashed
  pub gone : (m : ℕ) → In (Detect m) (accepted (ran n before) after) → (m < n) × (is_among j.world.crashed m ≡ true)

-- Either something is pending, or nothing is accepted yet
abbrev pub IsReady : {C : Type 0} → ℕ → List MastersEvent → Ruled C → Type 0
IsReady n asked j = (s : Since n asked j) × ((pending j.masters ≡ true) ⊎ (accepted (ran n s.before) s.after ≡ []))

pub ready : {C : Type 0} (n : ℕ) (asked : List MastersEvent) (j : Ruled C) → ran n asked ≡ j.masters → Since n asked j → IsReady n asked j
ready {C} n asked j e s = go (cases (pending j.masters))
  where
    go : (pending j.masters ≡ true) ⊎ (pending j.masters ≡ false) → IsReady n asked j
    go (inl p) = (s, inl p)
    go (inr p) = (
      record {
        before = asked;
        after = [];
        whole = append-nil asked;
        quiet = ap pending e ∙ p;
        few = omega arith;
        place = λ f i x new z. absurd z;
        gone = λ m z. absurd z;
      },
      inr refl,
    )

module _ {C : Type 0} (n : ℕ) (asked : List MastersEvent) (j : Ruled C) (some : 1 ≤ n) (most : n ≤ 8) (same : j.world.members ≡ n) (here : ran n asked ≡ j.masters)
    (crashed : (k : ℕ) → is_among j.masters.crashed k ≡ is_among j.world.crashed k) (l : Line C) where
  abbrev pub next : Masters Decision
  next = masters_after j l

  abbrev pub ds : List Decision
  ds = published_by j l

  pub sound : IsSound j.masters
  sound = subst (λ w. IsSound w) here (every_run_agrees n asked [] some most).0

  pub here_next : ran n (asked ++ asked_by j l) ≡ next
  here_next = sym (masters_append (masters.start n) asked (asked_by j l)) ∙ ap (λ w. masters.run w (asked_by j l)) here

  pub grown : j.masters.published ++ ds ≡ next.published
  grown =
      let p = (every_run_agrees n asked (asked_by j l) some most).1.grows in
      let e : j.masters.published ++ p.0 ≡ next.published = ap (λ (w : Masters Decision). w.published ++ p.0) (sym here) ∙ p.1 ∙ ap (λ (w : Masters Decision). w.published) here_next in
      let q : ds ≡ p.0 = ap (past j.masters.published) (sym e) ∙ past_append j.masters.published p.0 in
      ap (λ ks. j.masters.published ++ ks) q ∙ e

  pub fits_told : (m : ℕ) → was_told j m ≡ true → (m < n) × (is_among j.world.crashed m ≡ true)
  fits_told m e =
      let a = found (master j.masters) (λ k. map_or (slice_get j.masters.members k) false (λ x. is_among x.told m)) e in
      let b = found (slice_get j.masters.members a.0) (λ (x : Member Decision). is_among x.told m) a.2 in
      let fit = (sound.members_fit a.0 b.0 b.1).told m b.2 in
      let size : j.masters.size ≡ n = ap (λ (w : Masters Decision). w.size) (sym here) ∙ run_size asked (masters.start n) in
      (subst (λ k. m < k) size fit, sym (crashed m) ∙ sound.truthful a.0 m b.0 b.1 b.2)
    where
      found : {X : Type 0} (o : Option X) (f : X → Bool) → map_or o false f ≡ true → (x : X) × (o ≡ Some x) × (f x ≡ true)
      found None f e = absurd (true≢false (sym e))
      found (Some x) f e = (x, refl, e)

  module _ (r : IsReady n asked j) where
    abbrev pub s : Since n asked j
    s = r.0

    abbrev pub base : Masters Decision
    base = ran n s.before

    pub to_here : masters.run base s.after ≡ j.masters
    to_here = masters_append (masters.start n) s.before s.after ∙ ap (ran n) s.whole ∙ here

    pub acceptances : accepted base (s.after ++ asked_by j l) ≡ accepted base s.after ++ taken j l
    acceptances = accepted_append base s.after (asked_by j l) ∙ ap (λ w. accepted base s.after ++ accepted w (asked_by j l)) to_here

    -- what was published since, and what is then

    pub fresh_here : (new : List Decision) × (base.published ++ new ≡ j.masters.published) × IsSubsequence new (accepted base s.after)
    fresh_here =
        let f = (every_run_agrees n s.before s.after some most).1.fresh s.quiet in
        (f.0, f.1 ∙ ap (λ es. (ran n es).published) s.whole ∙ ap (λ (w : Masters Decision). w.published) here, f.2)

    pub whole_next : s.before ++ (s.after ++ asked_by j l) ≡ asked ++ asked_by j l
    whole_next = sym (append_assoc s.before s.after (asked_by j l)) ∙ ap (λ es. es ++ asked_by j l) s.whole

    pub fresh_next : (new : List Decision) × (base.published ++ new ≡ next.published) × IsSubsequence new (accepted base (s.after ++ asked_by j l))
    fresh_next =
        let f = (every_run_agrees n s.before (s.after ++ asked_by j l) some most).1.fresh s.quiet in
        (f.0, f.1 ∙ ap (λ es. (ran n es).published) whole_next ∙ ap (λ (w : Masters Decision). w.published) here_next, f.2)

    abbrev pub new : List Decision
    new = fresh_here.0

    -- whatever is published from there to then ends with what is published now
    pub ends : (more : List Decision) → base.published ++ more ≡ next.published → more ≡ new ++ ds
    ends more e = append_same base.published more (new ++ ds) (e ∙ sym grown ∙ ap (λ ks. ks ++ ds) (sym fresh_here.1) ∙ append_assoc base.published new ds)

    -- the line's own proposals

    pub quiet_takes : pending j.masters ≡ true → takes (taken j l) ≡ 0
    quiet_takes p = none_takes (taken j l) (λ f i x z. true≢false (sym p ∙ (take_there j l f i x (taken_in j l (Take f i x) z)).quiet))

    pub few_next : takes (accepted base (s.after ++ asked_by j l)) ≤ 1
    few_next = subst (λ ks. takes ks ≤ 1) (sym acceptances) (go r.1)
      where
        go : (pending j.masters ≡ true) ⊎ (accepted base s.after ≡ []) → takes (accepted base s.after ++ taken j l) ≤ 1
        go (inl p) = let a = takes_append (accepted base s.after) (taken j l) in let b = quiet_takes p in let c = s.few in omega (arith, a, b, c)
        go (inr e) = subst (λ ks. takes (ks ++ taken j l) ≤ 1) (sym e) (let a = taken_takes j l in let b = single_takes j (proposed j l) (proposed_single j l) in omega (arith, a, b))

    -- a message to be taken is in its place, and stays there at once
    pub in_place : (f i : ℕ) (x : Message) → In (Take f i x) (accepted base (s.after ++ asked_by j l)) → takes new ≡ 0 → InPlace n j.world f i x × Every (λ e. spares n e ≡ true) (at_once j l)
    in_place f i x z t = ⊎_elim old mine (in_cases (Take f i x) (accepted base s.after) (taken j l) (subst (λ ks. In (Take f i x) ks) acceptances z))
      where
        old : In (Take f i x) (accepted base s.after) → InPlace n j.world f i x × Every (λ e. spares n e ≡ true) (at_once j l)
        old y = (s.place f i x new y fresh_here.1 t, spared r.1)
          where
            spared : (pending j.masters ≡ true) ⊎ (accepted base s.after ≡ []) → Every (λ e. spares n e ≡ true) (at_once j l)
            spared (inl p) = subst (λ k. Every (λ e. spares k e ≡ true) (at_once j l)) same (at_once_spares j p l)
            spared (inr e) = absurd (subst (λ ks. In (Take f i x) ks) e y)

        mine : In (Take f i x) (taken j l) → InPlace n j.world f i x × Every (λ e. spares n e ≡ true) (at_once j l)
        mine y = let h = take_there j l f i x (taken_in j l (Take f i x) y) in (subst (λ k. InPlace k j.world f i x) same h.place, subst (λ es. Every (λ e. spares n e ≡ true) es) (sym h.alone) tt)

    pub gone_there : (m : ℕ) → In (Detect m) (accepted base (s.after ++ asked_by j l)) → (m < n) × (is_among j.world.crashed m ≡ true)
    gone_there m z = ⊎_elim (λ y. s.gone m y) (λ y. fits_told m (detect_there j l m (taken_in j l (Detect m) y))) (in_cases (Detect m) (accepted base s.after) (taken j l) (subst (λ ks. In (Detect m) ks) acceptances z))

    -- what is published is right

    module _ (d : Decision) (one : ds ≡ d ∷ []) where
      pub last : fresh_next.0 ≡ new ++ d ∷ []
      last = ends fresh_next.0 fresh_next.1 ∙ ap (λ ks. new ++ ks) one

      pub was_accepted : In d (accepted base (s.after ++ asked_by j l))
      was_accepted = in_part d fresh_next.0 (accepted base (s.after ++ asked_by j l)) fresh_next.2 (subst (λ ks. In d ks) (sym last) (in_right d new (d ∷ []) (inl refl)))

      pub none_before : is_take d ≡ true → takes new ≡ 0
      none_before t =
          let a = takes_part fresh_next.0 (accepted base (s.after ++ asked_by j l)) fresh_next.2 in
          let b = few_next in
          let c = ap takes last ∙ takes_append new (d ∷ []) in
          let e : takes (d ∷ []) ≡ 1 = rw t refl in
          omega (arith, a, b, c, e)

    pub right : ((q : Packet) → Contains j.world.packets q → IsPacketOf n q) → (d : Decision) → ds ≡ d ∷ [] → IsRight n j.world d
    right fit (Take f i x) e =
        let at = (in_place f i x (was_accepted (Take f i x) e) (none_before (Take f i x) e refl)).0 in
        let q : IsPacketOf n (packet f n x) = fit (packet f n x) (contains_in (packet f n x) j.world.packets (place_in f n i j.world.packets (packet f n x) at)) in
        let h = for_service n f x q.message in
        (at, h.0, h.1)
    right fit (Detect m) e = gone_there m (was_accepted (Detect m) e)
    right fit (BeginMove from to) e = tt
    right fit (BeginJoin to) e = tt
    right fit (BeginHandover from to) e = tt
    right fit Advance e = tt
    right fit Reopen e = tt

    -- and all this holds after the line

    pub since_next : {State : Type 0} (o : Object C State) → Since n (asked ++ asked_by j l) (goes o j l)
    since_next o = record {
      before = s.before;
      after = s.after ++ asked_by j l;
      whole = whole_next;
      quiet = s.quiet;
      few = few_next;
      place = λ f i x more z e t.
          let k : takes (new ++ ds) ≡ 0 = ap takes (sym (ends more e)) ∙ t in
          let a = takes_append new ds in
          let none : takes new ≡ 0 = omega (arith, k, a) in
          let now : takes ds ≡ 0 = omega (arith, k, a) in
          let h = in_place f i x z none in
          run_in_place o j.world n f i (packet f n x) (events_by j l) (every_append (λ e. spares n e ≡ true) (at_once j l) (map (event_of j.world.members) ds) h.1 (decisions_spare C n j.world.members ds now)) h.0;
      gone = λ m z. let h = gone_there m z in (h.0, run_fallen o j.world m (events_by j l) h.1);
    }
