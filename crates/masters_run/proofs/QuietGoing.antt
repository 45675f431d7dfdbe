-- Where the masters are asked nothing, a line's events are taken as the grid takes them, and that is all. And a crash in each partition is the grid's own crash, with the masters' beside it.
use Rattle.std.proofs.Common.{◌≡◌, ℕ, ◌<◌, cond, List, [], ◌∷◌, ◌++◌, map, length, Some, slice_get, slice_set, unwrap_or, get_or, refl, ap, sym, ◌∙◌, append-nil}
use Rattle.std.proofs.lemmas.Option.{slice_get-get_or}
use Rattle.std.proofs.lemmas.List.{map-append}
use Rattle.grid_base.specs.Objects.{Object}
use Rattle.grid_base.specs.declared.names.CallId.{CallId}
use Rattle.grid_base.specs.declared.calls.Request.{Request}
use Rattle.object_store.specs.Partitions.{Partition}
use Rattle.partition_protocol.specs.Events.{Crash}
use Rattle.partition_protocol.proofs.Lists.{set_itself}
use Rattle.masters_protocol.specs.Machine.{Masters}
use Rattle.masters_protocol.specs.Machine as masters
use Rattle.masters_world.specs.Decisions.{Decision, event_of}
use Rattle.masters_world.specs.Machine.{Ruled, Line, Asks, past, asked_by, at_once, masters_after, events_by, asked}
use Rattle.masters_world.proofs.Crashes.{crash_publishes}
use Rattle.replay_run.specs.Runs.{takes, takes_in}
use Rattle.masters_run.specs.Runs.{RuledRun, masters_at, ruled_at, meets_full_link, takes_each, given_up, goes, goes_in}
use Rattle.masters_run.specs.Written.{written_event, written_events}
use Rattle.masters_run.proofs.AskedLines.{asked_more}
use Rattle.masters_run.proofs.Extending.{past_same}

-- the masters as they are, set
pub masters_themselves : (s : RuledRun) (p : ℕ) → p < length s.masters → slice_set s.masters p (masters_at s p) ≡ s.masters
masters_themselves s p low =
    let w = get_or s.masters p (masters.start s.run.members) in
    let there : slice_get s.masters p ≡ Some w = slice_get-get_or s.masters p (masters.start s.run.members) low in
    let same : masters_at s p ≡ w = ap (λ m. unwrap_or m (masters.start s.run.members)) there in
    set_itself s.masters p (masters_at s p) (there ∙ ap Some (sym same))

-- where nothing is asked, what happens at once happens
pub quiet_events : (j : Ruled Request) (l : Line Request) → asked_by j l ≡ [] → events_by j l ≡ at_once j l
quiet_events j l none =
    ap (λ es. at_once j l ++ map (event_of j.world.members) (past j.masters.published (masters.run j.masters es).published)) none
    ∙ ap (λ ds. at_once j l ++ map (event_of j.world.members) ds) (past_same j.masters.published) ∙ append-nil (at_once j l)

pub quiet_goes : (o : Object Request Partition) (skips : List CallId) (s : RuledRun) (p : ℕ) (l : Line Request) → p < length s.masters → asked_by (ruled_at o s p) l ≡ []
    → goes o skips s p l ≡ record { run = takes_each o skips s.run p (at_once (ruled_at o s p) l); masters = s.masters }
quiet_goes o skips s p l low none =
    let j = ruled_at o s p in
    let asked_run : List (masters.Event Decision) → RuledRun = λ es. record { run = takes_each o skips s.run p (events_by j l); masters = slice_set s.masters p (masters.run j.masters es) } in
    ap (λ es. cond (meets_full_link j.masters es) (given_up s) (asked_run es)) none
    ∙ (λ i. record { run = takes_each o skips s.run p (quiet_events j l none i); masters = masters_themselves s p low i })

-- A crash is asked of the masters, and sends nothing, and publishes nothing.

pub crash_events : (j : Ruled Request) (m : ℕ) → events_by j (Asks (Crash m)) ≡ Crash m ∷ []
crash_events j m =
    ap (λ ds. Crash m ∷ map (event_of j.world.members) (past j.masters.published ds)) (crash_publishes j.masters m).0
    ∙ ap (λ ds. Crash m ∷ map (event_of j.world.members) ds) (past_same j.masters.published)

pub crash_goes : (o : Object Request Partition) (skips : List CallId) (s : RuledRun) (p m : ℕ)
    → goes o skips s p (Asks (Crash m)) ≡ record { run = takes o skips s.run p (Crash m); masters = slice_set s.masters p (masters_after (ruled_at o s p) (Asks (Crash m))) }
crash_goes o skips s p m =
    ap (λ es. record { run = takes_each o skips s.run p es; masters = slice_set s.masters p (masters_after (ruled_at o s p) (Asks (Crash m))) }) (crash_events (ruled_at o s p) m)

pub crash_run : (o : Object Request Partition) (skips : List CallId) (s : RuledRun) (m : ℕ) (ps : List ℕ) → (goes_in o skips s (Asks (Crash m)) ps).run ≡ takes_in o skips s.run (Crash m) ps
crash_run o skips s m [] = refl
crash_run o skips s m (p ∷ ps) =
    crash_run o skips (goes o skips s p (Asks (Crash m))) m ps ∙ ap (λ (x : RuledRun). takes_in o skips x.run (Crash m) ps) (crash_goes o skips s p m)

-- what the masters were asked then
pub asked_crash : {State : Type 0} (o : Object Request State) (j : Ruled Request) (lines : List (Line Request)) (m : ℕ)
    → written_events (asked o j (lines ++ Asks (Crash m) ∷ [])) ≡ written_events (asked o j lines) ++ masters.Crash m ∷ []
asked_crash o j lines m = ap written_events (asked_more o j lines (Asks (Crash m))) ∙ map-append written_event (asked o j lines) (masters.Crash m ∷ [])
