-- The theorem of a partition whose table service is run by masters.
use Rattle.std.proofs.Common.{◌≡◌, ℕ, Bool, false, List, [], ◌∷◌, ◌++◌, map, ◌==◌, slice_get, Contains, ◌⊎◌, inl, inr, append_assoc, refl, ap, sym, ◌∙◌, subst, arith}
use Rattle.grid_base.specs.Objects.{Object}
use Rattle.std.specs.List.{list_any}
use Rattle.partition_protocol.proofs.Adopt.{and_false}
use Rattle.partition_protocol.specs.Service.{numbers_below}
use Rattle.partition_protocol.specs.World.{map_or}
use Rattle.masters_protocol.specs.Members.{Role, Following, Serving, ToldLog, tells_of}
use Rattle.masters_protocol.specs.Machine as masters
use Rattle.masters_protocol.specs.Machine.{opening_member, is_ahead, is_pending_at, is_pending_member, pending}
use Rattle.masters_protocol.proofs.Lists.{on_some}
use Rattle.masters_protocol.proofs.Theorem.{opened}
use Rattle.masters_world.proofs.Lengths.{start_lean, quiet_not_busy}
use Rattle.partition_protocol.specs.Events as partition
use Rattle.partition_protocol.specs.Arrivals.{name, NamedOnce}
use Rattle.partition_protocol.specs.Claims.{IsSafe, IsFaithful}
use Rattle.partition_protocol.proofs.Theorem.{every_run_is_safe}
use Rattle.masters_world.specs.Decisions.{Decision, event_of}
use Rattle.masters_world.specs.Machine.{Ruled, Line, MasterResend, start, asked_by, events_by, goes, after, asked, events}
use Rattle.masters_world.specs.Claims.{GoesUp, EveryRunIsWellRuled, EveryRunGoesOn, events_in}
use Rattle.partition_protocol.proofs.Lists.{in_contains, contains_in, on_cond}
use Rattle.masters_protocol.specs.Claims.{Agrees}
use Rattle.masters_protocol.proofs.Theorem.{every_run_agrees, run_append}
use Rattle.partition_protocol.proofs.Extends.{run_append as world_append}
use Rattle.masters_world.proofs.Since.{ran}
use Rattle.masters_world.proofs.Steps.{Inv, run_inv, run_steps, is_sound, publishes, one_event, calls, IsFromLines, run_sources, run_rows}

pub none_passes : {X : Type 0} (t : X → Bool) (xs : List X) → ((x : X) → t x ≡ false) → list_any t xs ≡ false
none_passes t [] h = refl
none_passes t (x ∷ xs) h = rw (h x) (none_passes t xs h)

-- nothing is pending at the start
pub start_quiet : (n : ℕ) → pending (ran n []) ≡ false
start_quiet n = rw (none_passes (is_pending_member (ran n [])) (numbers_below n) (λ m. and_false (masters.is_live (ran n []) m) (map_or (slice_get (ran n []).members m) false (is_pending_at (ran n []))) (member m))) refl
  where
    opens : (m : ℕ) → is_pending_at (ran n []) (opening_member m) ≡ false
    opens m = on_cond (λ (r : Role Decision). list_any (λ (k : ToldLog Decision). is_ahead (ran n []) k.log) (tells_of r) ≡ false) (m == 0) (Serving []) Following (λ e. refl) (λ e. refl)

    member : (m : ℕ) → map_or (slice_get (ran n []).members m) false (is_pending_at (ran n [])) ≡ false
    member m = on_some (λ b. b ≡ false) (slice_get (ran n []).members m) false (is_pending_at (ran n [])) refl (λ x at. subst (λ y. is_pending_at (ran n []) y ≡ false) (opened n m x at).1 (opens m))

pub start_inv : {C State : Type 0} (o : Object C State) (p n b : ℕ) → Inv o p n b [] [] (start p n b)
start_inv o p n b = record {
  masters = refl;
  world = refl;
  alike = (λ k. refl, refl);
  lean = start_lean n;
  listed = refl;
  service = refl;
  since = record { before = []; after = []; whole = refl; quiet = start_quiet n; few = omega arith; place = λ f i x new z. absurd z; gone = λ m z. absurd z };
}

pub as_contained : {C : Type 0} (n : ℕ) (ls : List (Line C)) (ds : List Decision) (e : partition.Event C) → IsFromLines n ls ds e → Contains (events_in ls) e ⊎ ((d : Decision) × Contains ds d × (e ≡ event_of n d))
as_contained n ls ds e (inl i) = inl (contains_in e (events_in ls) i)
as_contained n ls ds e (inr r) = inr (r.0, contains_in r.0 ds r.1, r.2)

-- THE THEOREM
pub every_run_is_well_ruled : {C State : Type 0} (o : Object C State) → EveryRunIsWellRuled o
every_run_is_well_ruled {C} o p n b lines some most =
    let j : Ruled C = after o (start p n b) lines in
    let said = asked o (start p n b) lines in
    let happened = events o (start p n b) lines in
    let inv : Inv o p n b said happened j = run_inv o p n b some most [] [] (start p n b) (start_inv o p n b) lines in
    let sound = is_sound o p n b some most said happened j inv (MasterResend 0) in
    let same = calls o (start p n b) lines in
    record {
      of_asked = inv.masters;
      sound = sound;
      of_events = inv.world;
      safe = λ once. let r = every_run_is_safe o p n b happened some (subst (λ xs. NamedOnce (map name xs)) (sym same) once) in (subst (λ w. IsSafe o w) inv.world r.0, subst (λ w. IsFaithful happened w) inv.world r.1);
      listed = inv.listed;
      service = inv.service;
      crashed = inv.alike.0;
      told = λ m x node at e. sym (inv.alike.0 x) ∙ sound.truthful m x node at e;
      next = publishes o p n b some most said happened j inv;
      free = λ q d. quiet_not_busy j.masters d q;
      sources = λ e i. as_contained n lines j.masters.published e (run_sources o p n b some most [] [] (start p n b) (start_inv o p n b) lines e (in_contains e happened i));
      calls = same;
      single = one_event o p n b some most said happened j inv;
      steps = run_steps o p n b some most [] [] (start p n b) (start_inv o p n b) lines;
    }

-- at two moments

pub after_append : {C State : Type 0} (o : Object C State) (j : Ruled C) (ls ms : List (Line C)) → after o j (ls ++ ms) ≡ after o (after o j ls) ms
after_append o j [] ms = refl
after_append o j (l ∷ ls) ms = after_append o (goes o j l) ls ms

pub world_goes : {C State : Type 0} (o : Object C State) (j : Ruled C) (ls : List (Line C)) → partition.run o j.world (events o j ls) ≡ (after o j ls).world
world_goes o j [] = refl
world_goes o j (l ∷ ls) = world_append o j.world (events_by j l) (events o (goes o j l) ls) ∙ world_goes o (goes o j l) ls

pub masters_go : {C State : Type 0} (o : Object C State) (j : Ruled C) (ls : List (Line C)) → masters.run j.masters (asked o j ls) ≡ (after o j ls).masters
masters_go o j [] = refl
masters_go o j (l ∷ ls) = sym (run_append j.masters (asked_by j l) (asked o (goes o j l) ls)) ∙ masters_go o (goes o j l) ls

pub events_append : {C State : Type 0} (o : Object C State) (j : Ruled C) (ls ms : List (Line C)) → events o j (ls ++ ms) ≡ events o j ls ++ events o (after o j ls) ms
events_append o j [] ms = refl
events_append o j (l ∷ ls) ms = ap (λ es. events_by j l ++ es) (events_append o (goes o j l) ls ms) ∙ sym (append_assoc (events_by j l) (events o (goes o j l) ls) (events o (after o (goes o j l) ls) ms))

pub every_run_goes_on : {C State : Type 0} (o : Object C State) → EveryRunGoesOn o
every_run_goes_on {C} o p n b lines more some most =
    let j : Ruled C = after o (start p n b) lines in
    let said = asked o (start p n b) lines in
    let here = masters_go o (start p n b) lines in
    let agrees = (every_run_agrees n said (asked o j more) some most).1 in
    let then : ran n (said ++ asked o j more) ≡ (after o j more).masters = sym (run_append (masters.start n) said (asked o j more)) ∙ ap (λ w. masters.run w (asked o j more)) here ∙ masters_go o j more in
    let e = after_append o (start p n b) lines more in
    record {
      masters = subst (λ (k : Ruled C). Agrees j.masters (asked o j more) k.masters) (sym e) (subst (λ w. Agrees w (asked o j more) (after o j more).masters) here (subst (λ w. Agrees (ran n said) (asked o j more) w) then agrees));
      happened = events_append o (start p n b) lines more;
      world = world_goes o j more ∙ ap (λ (k : Ruled C). k.world) (sym e);
      rows = subst (λ (k : Ruled C). GoesUp j.world.service.row k.world.service.row) (sym e)
          (run_rows o p n b some most said (events o (start p n b) lines) j (run_inv o p n b some most [] [] (start p n b) (start_inv o p n b) lines) more);
    }
