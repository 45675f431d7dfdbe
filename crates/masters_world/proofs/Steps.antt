-- What holds of a partition with masters after each line.
use Rattle.std.proofs.Common.{◌≡◌, ℕ, ◌≤◌, Bool, true, false, cond, not, ◌&&◌, ◌==◌, List, [], ◌∷◌, ◌++◌, map, filter, length, is_some, Contains, refl, ap, sym, ◌∙◌, subst, ◌⊎◌, ⊎_elim, inl, inr, arith, append_assoc, append-nil, length-append}
use Rattle.grid_base.specs.Objects.{Object}
use Rattle.partition_protocol.proofs.Answers.{map_append}
use Rattle.partition_table.specs.Rows.{is_among}
use Rattle.masters_protocol.specs.Machine as masters
use Rattle.masters_protocol.specs.Machine.{Masters, master, pending}
use Rattle.masters_protocol.specs.Claims.{IsSound}
use Rattle.partition_protocol.specs.Service.{Service}
use Rattle.partition_protocol.specs.World as opening
use Rattle.partition_protocol.specs.World.{World}
use Rattle.partition_protocol.specs.Events as partition
use Rattle.partition_protocol.specs.Arrivals.{asked_by as call_of, arrivals}
use Rattle.partition_protocol.proofs.Lists.{In, in_left, in_right, in_cases, Every, on_cond}
use Rattle.partition_protocol.proofs.RowFacts.{number_same}
use Rattle.partition_protocol.proofs.Extends.{run_append}
use Rattle.partition_protocol.proofs.WellFormed.{run_size as world_size, every_run_is_well_formed}
use Rattle.partition_protocol.specs.WellFormed.{IsPacketOf, IsWellFormed}
use Rattle.partition_protocol.specs.Messages.{Packet}
use Rattle.masters_world.specs.Decisions.{Decision, Detect, BeginMove, BeginJoin, BeginHandover, Advance, Reopen, Take, event_of, is_of_service, decided, all_decided}
use Rattle.masters_world.specs.Machine.{Ruled, Line, Asks, Told, MasterDeliver, MasterLose, MasterResend, proposals, proposing, asked_by, at_once, masters_after, published_by, events_by, goes, after, asked, events}
use Rattle.masters_world.specs.Claims.{GoesUp, IsRight, Publishes, event_in, events_in}
use Rattle.masters_world.proofs.Lists.{filter_append, append_same}
use Rattle.masters_world.proofs.Rows.{stays, goes_on, all_go}
use Rattle.masters_world.proofs.Lengths.{IsLean, event_lean, published_quiet}
use Rattle.masters_world.proofs.Service.{decides, run_same}
use Rattle.masters_world.proofs.Crashes.{Alike, is_crash, is_falling, run_keeps, run_stands, crash_alike}
use Rattle.masters_world.proofs.Lines.{Single, asked_single, either, at_once_others, publishes_single}
use Rattle.masters_world.proofs.Since.{MastersEvent, ran, Since, IsReady, ready, sound, here_next, grown, right, since_next}

pub filter_none : {X : Type 0} (t : X → Bool) (xs : List X) → Every (λ x. t x ≡ false) xs → filter t xs ≡ []
filter_none t [] h = refl
filter_none t (x ∷ xs) h = subst (λ b. cond b (x ∷ filter t xs) (filter t xs) ≡ []) (sym h.0) (filter_none t xs h.1)

pub filter_all : {X : Type 0} (t : X → Bool) (xs : List X) → Every (λ x. t x ≡ true) xs → filter t xs ≡ xs
filter_all t [] h = refl
filter_all t (x ∷ xs) h = subst (λ b. cond b (x ∷ filter t xs) (filter t xs) ≡ x ∷ xs) (sym h.0) (ap (λ zs. x ∷ zs) (filter_all t xs h.1))

pub arrivals_append : {C : Type 0} (xs ys : List (partition.Event C)) → arrivals (xs ++ ys) ≡ arrivals xs ++ arrivals ys
arrivals_append [] ys = refl
arrivals_append (x ∷ xs) ys = ap (λ zs. call_of x ++ zs) (arrivals_append xs ys) ∙ sym (append_assoc (call_of x) (arrivals xs) (arrivals ys))

-- of a decision's event
pub record IsOfDecision {C : Type 0} (n : ℕ) (e : partition.Event C) : Type 0 where
  pub ours : is_of_service n e ≡ true
  pub stands : is_falling e ≡ false
  pub silent : call_of e ≡ []

pub of_decision : (C : Type 0) (n : ℕ) (d : Decision) → IsOfDecision {C = C} n (event_of n d)
of_decision C n (Detect m) = record { ours = refl; stands = refl; silent = refl }
of_decision C n (BeginMove from to) = record { ours = refl; stands = refl; silent = refl }
of_decision C n (BeginJoin to) = record { ours = refl; stands = refl; silent = refl }
of_decision C n (BeginHandover from to) = record { ours = refl; stands = refl; silent = refl }
of_decision C n Advance = record { ours = refl; stands = refl; silent = refl }
of_decision C n Reopen = record { ours = refl; stands = refl; silent = refl }
of_decision C n (Take f i x) = record { ours = number_same n n refl; stands = refl; silent = refl }

pub all_ours : (C : Type 0) (n : ℕ) (ds : List Decision) → Every (λ (e : partition.Event C). is_of_service n e ≡ true) (map (event_of n) ds)
all_ours C n [] = tt
all_ours C n (d ∷ ds) = ((of_decision C n d).ours, all_ours C n ds)

pub all_stand : (C : Type 0) (n : ℕ) (ds : List Decision) → Every (λ (e : partition.Event C). is_falling e ≡ false) (map (event_of n) ds)
all_stand C n [] = tt
all_stand C n (d ∷ ds) = ((of_decision C n d).stands, all_stand C n ds)

pub all_silent : (C : Type 0) (n : ℕ) (ds : List Decision) → arrivals {C = C} (map (event_of n) ds) ≡ []
all_silent C n [] = refl
all_silent C n (d ∷ ds) = ap (λ zs. zs ++ arrivals {C = C} (map (event_of n) ds)) (of_decision C n d).silent ∙ all_silent C n ds

pub decided_append : (p n b : ℕ) (s : Service) (xs ys : List Decision) → all_decided p n b s (xs ++ ys) ≡ all_decided p n b (all_decided p n b s xs) ys
decided_append p n b s [] ys = refl
decided_append p n b s (x ∷ xs) ys = decided_append p n b (decided p n b s x) xs ys

-- calls

pub calls_by : {C : Type 0} (j : Ruled C) (l : Line C) → arrivals (events_by j l) ≡ arrivals (event_in l)
calls_by {C} j l =
    arrivals_append (at_once j l) (map (event_of j.world.members) (published_by j l))
    ∙ ap (λ zs. arrivals (at_once j l) ++ zs) (all_silent C j.world.members (published_by j l))
    ∙ append-nil (arrivals (at_once j l)) ∙ (at_once_others j l).calls

pub calls : {C State : Type 0} (o : Object C State) (j : Ruled C) (ls : List (Line C)) → arrivals (events o j ls) ≡ arrivals (events_in ls)
calls o j [] = refl
calls o j (l ∷ ls) =
    arrivals_append (events_by j l) (events o (goes o j l) ls)
    ∙ ap (λ zs. zs ++ arrivals (events o (goes o j l) ls)) (calls_by j l)
    ∙ ap (λ zs. arrivals (event_in l) ++ zs) (calls o (goes o j l) ls)
    ∙ sym (arrivals_append (event_in l) (events_in ls))

-- where events come from

abbrev pub IsFromLines : {C : Type 0} → ℕ → List (Line C) → List Decision → partition.Event C → Type 0
IsFromLines {C} n ls ds e = In e (events_in ls) ⊎ ((d : Decision) × In d ds × (e ≡ event_of {C = C} n d))

pub at_once_asked : {C : Type 0} (j : Ruled C) (l : Line C) (e : partition.Event C) → In e (at_once j l) → In e (event_in l)
at_once_asked j (Asks (partition.Call m conn number call now)) e i = i
at_once_asked j (Asks (partition.Deliver f t k)) e i = on_cond (λ es. In e es → In e (partition.Deliver f t k ∷ [])) (t == j.world.members) [] (partition.Deliver f t k ∷ []) (λ a z. absurd z) (λ a z. z) i
at_once_asked j (Asks (partition.Lose f t k)) e i = on_cond (λ es. In e es → In e (partition.Lose f t k ∷ [])) ((t == j.world.members) && pending j.masters) [] (partition.Lose f t k ∷ []) (λ a z. absurd z) (λ a z. z) i
at_once_asked j (Asks (partition.Repeat f t k)) e i = i
at_once_asked j (Asks (partition.Resend end)) e i = on_cond (λ es. In e es → In e (partition.Resend end ∷ [])) ((end == j.world.members) && not (is_some (master j.masters))) [] (partition.Resend end ∷ []) (λ a z. absurd z) (λ a z. z) i
at_once_asked j (Asks (partition.Crash m)) e i = i
at_once_asked j (Asks (partition.Detect m)) e i = absurd i
at_once_asked j (Asks (partition.BeginMove from to)) e i = absurd i
at_once_asked j (Asks (partition.BeginJoin to)) e i = absurd i
at_once_asked j (Asks (partition.BeginHandover from to)) e i = absurd i
at_once_asked j (Asks partition.Advance) e i = absurd i
at_once_asked j (Asks partition.Reopen) e i = absurd i
at_once_asked j (Told m x) e i = absurd i
at_once_asked j (MasterDeliver f t k) e i = absurd i
at_once_asked j (MasterLose f t k) e i = absurd i
at_once_asked j (MasterResend m) e i = absurd i

pub in_map : {X Y : Type 0} (f : X → Y) (xs : List X) (y : Y) → In y (map f xs) → (x : X) × In x xs × (y ≡ f x)
in_map f [] y i = absurd i
in_map f (x ∷ xs) y (inl e) = (x, inl refl, sym e)
in_map f (x ∷ xs) y (inr i) = let r = in_map f xs y i in (r.0, inr r.1, r.2)

-- crashes

abbrev pub IsCalm : {C : Type 0} → List MastersEvent → List (partition.Event C) → Type 0
IsCalm {C} qs es = Every (λ (e : MastersEvent). is_crash e ≡ false) qs × Every (λ (e : partition.Event C). is_falling e ≡ false) es

pub calm_proposing : (ds : List Decision) → Every (λ (e : MastersEvent). is_crash e ≡ false) (proposing ds)
calm_proposing [] = tt
calm_proposing (d ∷ ds) = (refl, calm_proposing ds)

pub calm_if : {C : Type 0} (b : Bool) (e : partition.Event C) → is_falling e ≡ false → Every (λ (x : partition.Event C). is_falling x ≡ false) (cond b [] (e ∷ []))
calm_if true e h = tt
calm_if false e h = (h, tt)

pub crashing : {C State : Type 0} (o : Object C State) (j : Ruled C) → Alike j.masters j.world → (l : Line C) → Alike (masters_after j l) (partition.run o j.world (at_once j l))
crashing {C} o j a = go
  where
    calm : (qs : List MastersEvent) (es : List (partition.Event C)) → IsCalm qs es → Alike (masters.run j.masters qs) (partition.run o j.world es)
    calm qs es h =
        let k = run_keeps j.masters qs h.0 in
        let s = run_stands o j.world es h.1 in
        (λ m. ap (λ ks. is_among ks m) k.0 ∙ a.0 m ∙ ap (λ ks. is_among ks m) (sym s), k.1 ∙ a.1 ∙ sym (world_size o j.world es partition.Reopen).1)

    go : (l : Line C) → Alike (masters_after j l) (partition.run o j.world (at_once j l))
    go (Asks (partition.Call m conn number call now)) = calm [] (partition.Call m conn number call now ∷ []) (tt, (refl, tt))
    go (Asks (partition.Deliver f t k)) = calm (proposing (proposals j (partition.Deliver f t k))) (cond (t == j.world.members) [] (partition.Deliver f t k ∷ [])) (calm_proposing (proposals j (partition.Deliver f t k)), calm_if (t == j.world.members) (partition.Deliver f t k) refl)
    go (Asks (partition.Lose f t k)) = calm [] (cond ((t == j.world.members) && pending j.masters) [] (partition.Lose f t k ∷ [])) (tt, calm_if ((t == j.world.members) && pending j.masters) (partition.Lose f t k) refl)
    go (Asks (partition.Repeat f t k)) = calm [] (partition.Repeat f t k ∷ []) (tt, (refl, tt))
    go (Asks (partition.Resend end)) = calm [] (cond ((end == j.world.members) && not (is_some (master j.masters))) [] (partition.Resend end ∷ [])) (tt, calm_if ((end == j.world.members) && not (is_some (master j.masters))) (partition.Resend end) refl)
    go (Asks (partition.Crash m)) = crash_alike o j.masters j.world a m
    go (Asks (partition.Detect m)) = calm (proposing (proposals j (partition.Detect m))) [] (calm_proposing (proposals j (partition.Detect m)), tt)
    go (Asks (partition.BeginMove from to)) = calm (proposing (BeginMove from to ∷ [])) [] (calm_proposing (BeginMove from to ∷ []), tt)
    go (Asks (partition.BeginJoin to)) = calm (proposing (BeginJoin to ∷ [])) [] (calm_proposing (BeginJoin to ∷ []), tt)
    go (Asks (partition.BeginHandover from to)) = calm (proposing (BeginHandover from to ∷ [])) [] (calm_proposing (BeginHandover from to ∷ []), tt)
    go (Asks partition.Advance) = calm (proposing (Advance ∷ [])) [] (calm_proposing (Advance ∷ []), tt)
    go (Asks partition.Reopen) = calm (proposing (Reopen ∷ [])) [] (calm_proposing (Reopen ∷ []), tt)
    go (Told m x) = calm (masters.Told m x ∷ []) [] ((refl, tt), tt)
    go (MasterDeliver f t k) = calm (masters.Deliver f t k ∷ []) [] ((refl, tt), tt)
    go (MasterLose f t k) = calm (masters.Lose f t k ∷ []) [] ((refl, tt), tt)
    go (MasterResend m) = calm (masters.Resend m ∷ []) [] ((refl, tt), tt)

pub alike_next : {C State : Type 0} (o : Object C State) (j : Ruled C) → Alike j.masters j.world → (l : Line C) → Alike (goes o j l).masters (goes o j l).world
alike_next {C} o j a l =
    let u : World C = partition.run o j.world (at_once j l) in
    let fs = map (event_of {C = C} j.world.members) (published_by j l) in
    let h = crashing o j a l in
    let e = run_append o j.world (at_once j l) fs in
    let s = run_stands o u fs (all_stand C j.world.members (published_by j l)) in
    let crashed : (goes o j l).world.crashed ≡ u.crashed = ap (λ (w : World C). w.crashed) e ∙ s in
    let size : (goes o j l).world.members ≡ u.members = ap (λ (w : World C). w.members) e ∙ (world_size o u fs partition.Reopen).1 in
    (λ m. h.0 m ∙ ap (λ ks. is_among ks m) (sym crashed), h.1 ∙ sym size)

-- the invariant

pub record Inv {C State : Type 0} (o : Object C State) (p n b : ℕ) (said : List MastersEvent) (happened : List (partition.Event C)) (j : Ruled C) : Type 0 where
  pub masters : ran n said ≡ j.masters
  pub world : partition.run o (opening.start p n b) happened ≡ j.world
  pub alike : Alike j.masters j.world
  pub lean : IsLean j.masters
  pub listed : filter (is_of_service n) happened ≡ map (event_of n) j.masters.published
  pub service : all_decided p n b (opening.start {C = C} p n b).service j.masters.published ≡ j.world.service
  pub since : Since n said j

module _ {C State : Type 0} (o : Object C State) (p n b : ℕ) (some : 1 ≤ n) (most : n ≤ 8) where
  module _ (said : List MastersEvent) (happened : List (partition.Event C)) (j : Ruled C) (inv : Inv o p n b said happened j) where
    pub sizes : (j.world.partition ≡ p) × (j.world.members ≡ n) × (j.world.backups ≡ b)
    sizes =
        let s = world_size o (opening.start {C = C} p n b) happened partition.Reopen in
        (ap (λ (w : World C). w.partition) (sym inv.world) ∙ s.0, ap (λ (w : World C). w.members) (sym inv.world) ∙ s.1, ap (λ (w : World C). w.backups) (sym inv.world) ∙ s.2)

    pub is_ready : IsReady n said j
    is_ready = ready n said j inv.masters inv.since

    pub is_sound : (l : Line C) → IsSound j.masters
    is_sound l = sound n said j some most sizes.1 inv.masters inv.alike.0 l

    pub fit : (q : Packet) → Contains j.world.packets q → IsPacketOf n q
    fit = (subst (λ w. IsWellFormed p n b w) inv.world (every_run_is_well_formed o p n b happened)).packets

    -- lengths of logs

    pub lean_next : (l : Line C) → IsLean (masters_after j l)
    lean_next l = go (asked_by j l) (asked_single j l) (grown n said j some most sizes.1 inv.masters inv.alike.0 l)
      where
        go : (es : List MastersEvent) → Single es → j.masters.published ++ published_by j l ≡ (masters.run j.masters es).published → IsLean (masters.run j.masters es)
        go es (inl e) g = subst (λ xs. IsLean (masters.run j.masters xs)) (sym e) inv.lean
        go es (inr (x, e)) g = subst (λ xs. IsLean (masters.run j.masters xs)) (sym e) (event_lean j.masters x (longer (subst (λ xs. j.masters.published ++ published_by j l ≡ (masters.run j.masters xs).published) e g)) inv.lean)
          where
            longer : j.masters.published ++ published_by j l ≡ (masters.happens j.masters x).world.published → length j.masters.published ≤ length (masters.happens j.masters x).world.published
            longer g = let a = length-append j.masters.published (published_by j l) in let b = ap (λ us. length us) g in omega (arith, a, b)

    pub settles : (l : Line C) (d : Decision) → published_by j l ≡ d ∷ [] → pending (masters_after j l) ≡ false
    settles l d one = go (asked_single j l)
      where
        ends : j.masters.published ++ d ∷ [] ≡ (masters_after j l).published
        ends = ap (λ ds. j.masters.published ++ ds) (sym one) ∙ grown n said j some most sizes.1 inv.masters inv.alike.0 l

        go : Single (asked_by j l) → pending (masters_after j l) ≡ false
        go (inl e) = absurd (let z : d ∷ [] ≡ [] = append_same j.masters.published (d ∷ []) [] (ends ∙ ap (λ xs. (masters.run j.masters xs).published) e ∙ sym (append-nil j.masters.published)) in cc)
        go (inr (x, e)) = subst (λ xs. pending (masters.run j.masters xs) ≡ false) (sym e) (published_quiet j.masters x d inv.lean (sym (ends ∙ ap (λ xs. (masters.run j.masters xs).published) e)))

    -- what a line publishes
    pub publishes : (l : Line C) → (published_by j l ≡ []) ⊎ Publishes n j l
    publishes l = ⊎_elim (λ e. inl e) (λ r. inr (record {
      decision = r.0;
      one = r.1;
      alone = ⊎_elim (λ e. e) (λ e. absurd (let z : r.0 ∷ [] ≡ [] = sym r.1 ∙ e in cc)) (either j l);
      right = right n said j some most sizes.1 inv.masters inv.alike.0 l is_ready fit r.0 r.1;
      settled = settles l r.0 r.1;
    })) (publishes_single j (is_sound l) l)

    pub one_event : (l : Line C) → length (events_by j l) ≤ 1
    one_event l =
        let m = j.world.members in
        ⊎_elim
        (λ e. subst (λ ds. length (at_once j l ++ map (event_of m) ds) ≤ 1) (sym e) (subst (λ es. length es ≤ 1) (sym (append-nil (at_once j l))) (at_once_others j l).few))
        (λ (r : Publishes n j l). subst (λ es. length (es ++ map (event_of m) (published_by j l)) ≤ 1) (sym r.alone) (subst (λ ds. length (map (event_of {C = C} m) ds) ≤ 1) (sym r.one) (omega arith))) (publishes l)

    -- an event that comes with the line was asked for by it, or is a decision that is then published
    pub sourced : (l : Line C) (e : partition.Event C) → In e (events_by j l) → In e (event_in l) ⊎ ((d : Decision) × In d (goes o j l).masters.published × (e ≡ event_of n d))
    sourced l e i = ⊎_elim (λ z. inl (at_once_asked j l e z)) (λ z. inr (
        let r = in_map (event_of {C = C} j.world.members) (published_by j l) e z in
        (r.0, subst (λ ds. In r.0 ds) (grown n said j some most sizes.1 inv.masters inv.alike.0 l) (in_right r.0 j.masters.published (published_by j l) r.1), subst (λ k. e ≡ event_of k r.0) sizes.1 r.2))) (in_cases e (at_once j l) (map (event_of j.world.members) (published_by j l)) i)

    pub listed_next : (l : Line C) → filter (is_of_service n) (happened ++ events_by j l) ≡ map (event_of n) (masters_after j l).published
    listed_next l =
        let m = j.world.members in
        let ds = published_by j l in
        let others = subst (λ k. Every (λ e. is_of_service k e ≡ false) (at_once j l)) sizes.1 (at_once_others j l).others in
        let fs = map (event_of {C = C} n) ds in
        filter_append (is_of_service n) happened (events_by j l)
        ∙ ap (λ zs. zs ++ filter (is_of_service n) (events_by j l)) inv.listed
        ∙ ap (λ k. map (event_of n) j.masters.published ++ filter (is_of_service n) (at_once j l ++ map (event_of k) ds)) sizes.1
        ∙ ap (λ zs. map (event_of n) j.masters.published ++ zs) (filter_append (is_of_service n) (at_once j l) fs)
        ∙ ap (λ zs. map (event_of n) j.masters.published ++ (zs ++ filter (is_of_service n) fs)) (filter_none (is_of_service n) (at_once j l) others)
        ∙ ap (λ zs. map (event_of n) j.masters.published ++ zs) (filter_all (is_of_service n) fs (all_ours C n ds))
        ∙ sym (map_append (event_of n) j.masters.published ds)
        ∙ ap (map (event_of n)) (grown n said j some most sizes.1 inv.masters inv.alike.0 l)

    -- the service in the world and alone
    pub served : (l : Line C) → (published_by j l ≡ []) ⊎ Publishes n j l → all_decided p n b j.world.service (published_by j l) ≡ (goes o j l).world.service
    served l (inl e) =
        ap (all_decided p n b j.world.service) e
        ∙ sym (run_same o j.world j.world.members refl (at_once j l) (at_once_others j l).others)
        ∙ ap (λ es. (partition.run o j.world es).service) (sym (append-nil (at_once j l)))
        ∙ ap (λ ds. (partition.run o j.world (at_once j l ++ map (event_of j.world.members) ds)).service) (sym e)
    served l (inr r) =
        let d = r.decision in
        ap (all_decided p n b j.world.service) r.one
        ∙ ap (λ k. decided k n b j.world.service d) (sym sizes.0)
        ∙ ap (λ k. decided j.world.partition k b j.world.service d) (sym sizes.1)
        ∙ ap (λ k. decided j.world.partition j.world.members k j.world.service d) (sym sizes.2)
        ∙ sym (decides o j.world d (subst (λ k. IsRight k j.world d) (sym sizes.1) r.right))
        ∙ ap (λ ds. (partition.run o j.world (map (event_of j.world.members) ds)).service) (sym r.one)
        ∙ ap (λ es. (partition.run o j.world (es ++ map (event_of j.world.members) (published_by j l))).service) (sym r.alone)

    pub inv_next : (l : Line C) → Inv o p n b (said ++ asked_by j l) (happened ++ events_by j l) (goes o j l)
    inv_next l = record {
      masters = here_next n said j some most sizes.1 inv.masters inv.alike.0 l;
      world = run_append o (opening.start p n b) happened (events_by j l) ∙ ap (λ w. partition.run o w (events_by j l)) inv.world;
      alike = alike_next o j inv.alike l;
      lean = lean_next l;
      listed = listed_next l;
      service =
          ap (all_decided p n b (opening.start {C = C} p n b).service) (sym (grown n said j some most sizes.1 inv.masters inv.alike.0 l))
          ∙ decided_append p n b (opening.start {C = C} p n b).service j.masters.published (published_by j l)
          ∙ ap (λ s. all_decided p n b s (published_by j l)) inv.service
          ∙ served l (publishes l);
      since = since_next n said j some most sizes.1 inv.masters inv.alike.0 l is_ready o;
    }

  pub run_inv : (said : List MastersEvent) (happened : List (partition.Event C)) (j : Ruled C) → Inv o p n b said happened j → (ls : List (Line C))
      → Inv o p n b (said ++ asked o j ls) (happened ++ events o j ls) (after o j ls)
  run_inv said happened j inv [] = subst (λ es. Inv o p n b es (happened ++ []) j) (sym (append-nil said)) (subst (λ es. Inv o p n b said es j) (sym (append-nil happened)) inv)
  run_inv said happened j inv (l ∷ ls) =
      subst (λ es. Inv o p n b es (happened ++ (events_by j l ++ events o (goes o j l) ls)) (after o (goes o j l) ls)) (append_assoc said (asked_by j l) (asked o (goes o j l) ls))
      (subst (λ es. Inv o p n b ((said ++ asked_by j l) ++ asked o (goes o j l) ls) es (after o (goes o j l) ls)) (append_assoc happened (events_by j l) (events o (goes o j l) ls))
      (run_inv (said ++ asked_by j l) (happened ++ events_by j l) (goes o j l) (inv_next said happened j inv l) ls))

  pub run_steps : (said : List MastersEvent) (happened : List (partition.Event C)) (j : Ruled C) → Inv o p n b said happened j → (ls : List (Line C)) → length (events o j ls) ≤ length ls
  run_steps said happened j inv [] = omega arith
  run_steps said happened j inv (l ∷ ls) =
      let h = run_steps (said ++ asked_by j l) (happened ++ events_by j l) (goes o j l) (inv_next said happened j inv l) ls in
      let a = one_event said happened j inv l in
      let c = length-append (events_by j l) (events o (goes o j l) ls) in
      omega (arith, h, a, c)

  pub goes_past : (said : List MastersEvent) (happened : List (partition.Event C)) (j : Ruled C) → Inv o p n b said happened j → (ls : List (Line C)) (d : Decision) → In d j.masters.published → In d (after o j ls).masters.published
  goes_past said happened j inv [] d i = i
  goes_past said happened j inv (l ∷ ls) d i =
      goes_past (said ++ asked_by j l) (happened ++ events_by j l) (goes o j l) (inv_next said happened j inv l) ls d
      (subst (λ ds. In d ds) (grown n said j some most (sizes said happened j inv).1 inv.masters inv.alike.0 l) (in_left d j.masters.published (published_by j l) i))

  pub run_sources : (said : List MastersEvent) (happened : List (partition.Event C)) (j : Ruled C) → Inv o p n b said happened j → (ls : List (Line C)) (e : partition.Event C) → In e (events o j ls) → IsFromLines n ls (after o j ls).masters.published e
  run_sources said happened j inv [] e i = absurd i
  run_sources said happened j inv (l ∷ ls) e i =
      let next = inv_next said happened j inv l in
      let rest = run_sources (said ++ asked_by j l) (happened ++ events_by j l) (goes o j l) next ls in
      ⊎_elim
      (λ z. ⊎_elim (λ y. inl (in_left e (event_in l) (events_in ls) y)) (λ r. inr (r.0, goes_past (said ++ asked_by j l) (happened ++ events_by j l) (goes o j l) next ls r.0 r.1, r.2)) (sourced said happened j inv l e z))
      (λ z. ⊎_elim (λ y. inl (in_right e (event_in l) (events_in ls) y)) (λ r. inr r) (rest e z)) (in_cases e (events_by j l) (events o (goes o j l) ls) i)

  pub run_rows : (said : List MastersEvent) (happened : List (partition.Event C)) (j : Ruled C) → Inv o p n b said happened j → (ls : List (Line C)) → GoesUp j.world.service.row (after o j ls).world.service.row
  run_rows said happened j inv [] = stays j.world.service.row
  run_rows said happened j inv (l ∷ ls) =
      goes_on j.world.service.row (goes o j l).world.service.row (after o (goes o j l) ls).world.service.row
      (subst (λ (s : Service). GoesUp j.world.service.row s.row) (served said happened j inv l (publishes said happened j inv l)) (all_go p n b j.world.service (published_by j l)))
      (run_rows (said ++ asked_by j l) (happened ++ events_by j l) (goes o j l) (inv_next said happened j inv l) ls)
