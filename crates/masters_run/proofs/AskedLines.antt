-- What lines ask the masters of a partition, one after the other, and what is published by one more.
use Rattle.std.proofs.Common.{◌≡◌, ℕ, ◌≤◌, Bool, true, false, cond, List, [], ◌∷◌, ◌++◌, map, slice_get, Option, Some, None, refl, ap, sym, ◌∙◌, subst, append_assoc, append-nil}
use Rattle.grid_base.specs.Objects.{Object}
use Rattle.partition_protocol.specs.Events as partition
use Rattle.partition_protocol.specs.World.{map_or}
use Rattle.partition_protocol.specs.WellFormed.{IsWellFormed}
use Rattle.partition_protocol.proofs.WellFormed.{every_run_is_well_formed}
use Rattle.partition_table.specs.Rows.{is_empty}
use Rattle.masters_protocol.specs.Members.{Member, sent_again}
use Rattle.masters_protocol.specs.Machine.{Packet, Happened, is_live, link, taken_out, with_packets, sending, nothing, done, resent}
use Rattle.masters_world.specs.Decisions.{Decision, event_of}
use Rattle.masters_world.specs.Machine.{Ruled, Line, Asks, MasterLose, MasterResend, start, past, asked_by, at_once, masters_after, published_by, events_by, goes, after, asked, events}
use Rattle.masters_world.specs.Claims.{Publishes}
use Rattle.masters_world.proofs.Lists.{past_append}
use Rattle.masters_world.proofs.Theorem.{after_append, world_goes, every_run_goes_on}

-- over more lines

pub asked_append : {C State : Type 0} (o : Object C State) (j : Ruled C) (ls ms : List (Line C)) → asked o j (ls ++ ms) ≡ asked o j ls ++ asked o (after o j ls) ms
asked_append o j [] ms = refl
asked_append o j (l ∷ ls) ms = ap (λ es. asked_by j l ++ es) (asked_append o (goes o j l) ls ms) ∙ sym (append_assoc (asked_by j l) (asked o (goes o j l) ls) (asked o (after o (goes o j l) ls) ms))

-- over one more
pub asked_more : {C State : Type 0} (o : Object C State) (j : Ruled C) (ls : List (Line C)) (l : Line C) → asked o j (ls ++ l ∷ []) ≡ asked o j ls ++ asked_by (after o j ls) l
asked_more o j ls l = asked_append o j ls (l ∷ []) ∙ ap (λ es. asked o j ls ++ es) (append-nil (asked_by (after o j ls) l))

-- the partition keeps its form
pub well_formed_after : {C State : Type 0} (o : Object C State) (p n b : ℕ) (lines : List (Line C)) → IsWellFormed p n b (after o (start p n b) lines).world
well_formed_after o p n b lines = subst (λ w. IsWellFormed p n b w) (world_goes o (start p n b) lines) (every_run_is_well_formed o p n b (events o (start p n b) lines))

-- what is published

-- what a line publishes comes last in the published list
pub published_goes : {C State : Type 0} (o : Object C State) (p n b : ℕ) (lines : List (Line C)) (l : Line C) → 1 ≤ n → n ≤ 8
    → (after o (start p n b) lines).masters.published ++ published_by (after o (start p n b) lines) l ≡ (masters_after (after o (start p n b) lines) l).published
published_goes {C} o p n b lines l some most =
    let j : Ruled C = after o (start p n b) lines in
    let grows = (every_run_goes_on o p n b lines (l ∷ []) some most).masters.grows in
    let whole : j.masters.published ++ grows.0 ≡ (masters_after j l).published = grows.1 ∙ ap (λ (k : Ruled C). k.masters.published) (after_append o (start p n b) lines (l ∷ [])) in
    let rest : published_by j l ≡ grows.0 = ap (past j.masters.published) (sym whole) ∙ past_append j.masters.published grows.0 in
    ap (λ ds. j.masters.published ++ ds) rest ∙ whole

past_itself : {X : Type 0} (xs : List X) → past xs xs ≡ []
past_itself xs = ap (past xs) (sym (append-nil xs)) ∙ past_append xs []

-- Where the list stays as it was, nothing is published by the line.
stays_so : {C : Type 0} (j : Ruled C) (l : Line C) → (masters_after j l).published ≡ j.masters.published → published_by j l ≡ []
stays_so j l same = ap (past j.masters.published) same ∙ past_itself j.masters.published

published_either : {D : Type 0} (b : Bool) (x y : Happened D) (ds : List D) → x.world.published ≡ ds → y.world.published ≡ ds → (cond b x y).world.published ≡ ds
published_either true x y ds e h = e
published_either false x y ds e h = h

published_if : {D X : Type 0} (o : Option X) (y : Happened D) (f : X → Happened D) (ds : List D) → y.world.published ≡ ds → ((x : X) → (f x).world.published ≡ ds) → (map_or o y f).world.published ≡ ds
published_if None y f ds e h = e
published_if (Some x) y f ds e h = h x

pub crash_publishes_nothing : {C : Type 0} (j : Ruled C) (m : ℕ) → published_by j (Asks (partition.Crash m)) ≡ []
crash_publishes_nothing j m =
    let w = j.masters in
    stays_so j (Asks (partition.Crash m)) (published_either (is_live w m) (done (record w { crashed = w.crashed ++ m ∷ [] })) (nothing w) w.published refl refl)

pub loss_publishes_nothing : {C : Type 0} (j : Ruled C) (f t i : ℕ) → published_by j (MasterLose f t i) ≡ []
loss_publishes_nothing j f t i =
    let w = j.masters in
    stays_so j (MasterLose f t i) (published_if (slice_get (link f t w.packets) i) (nothing w) (λ (x : Packet Decision). done (with_packets w (taken_out f t i w.packets))) w.published refl (λ x. refl))

pub resending_publishes_nothing : {C : Type 0} (j : Ruled C) (m : ℕ) → published_by j (MasterResend m) ≡ []
resending_publishes_nothing j m =
    let w = j.masters in
    stays_so j (MasterResend m)
    (published_either (is_live w m) (map_or (slice_get w.members m) (nothing w) (resent w m)) (nothing w) w.published
    (published_if (slice_get w.members m) (nothing w) (resent w m) w.published refl (λ (x : Member Decision). published_either (is_empty (sent_again w.size m x)) (nothing w) (done (sending w m (sent_again w.size m x))) w.published refl refl)) refl)

-- what then happens to the partition: what happens at once, where nothing is published
pub happens_at_once : {C : Type 0} (j : Ruled C) (l : Line C) → published_by j l ≡ [] → events_by j l ≡ at_once j l
happens_at_once j l none = ap (λ ds. at_once j l ++ map (event_of j.world.members) ds) none ∙ append-nil (at_once j l)

-- else the decision alone
pub happens_published : {C : Type 0} (n : ℕ) (j : Ruled C) (l : Line C) → j.world.members ≡ n → (r : Publishes n j l) → events_by j l ≡ event_of n r.decision ∷ []
happens_published {C} n j l same r =
    let with : List (partition.Event C) → List Decision → ℕ → List (partition.Event C) = λ es ds k. es ++ map (event_of k) ds in
    ap (λ es. with es (published_by j l) j.world.members) r.alone ∙ ap (λ ds. with [] ds j.world.members) r.one ∙ ap (λ k. with [] (r.decision ∷ []) k) same
