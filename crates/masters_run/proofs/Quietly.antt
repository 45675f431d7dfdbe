-- A line that asks masters nothing, and of which nothing happens at once, leaves the run as it is, and nothing is said. So it is with a detection, where the serving master wasn't told of the crash.
use Rattle.std.proofs.Common.{◌≡◌, ℕ, ◌+◌, ◌<◌, true, false, cond, List, [], ◌∷◌, ◌++◌, map, length, ap, sym, ◌∙◌, subst, append-nil, arith}
use Rattle.std.proofs.lemmas.List.{drop_all}
use Rattle.grid_base.specs.declared.calls.Request.{Request}
use Rattle.call_engine.specs.Calls.{Settings}
use Rattle.call_engine.specs.Objects.{partition_object}
use Rattle.partition_protocol.specs.Events as event
use Rattle.partition_protocol.proofs.Lists.{in_contains}
use Rattle.masters_protocol.specs.Machine as masters
use Rattle.masters_world.specs.Decisions as decision
use Rattle.masters_world.specs.Machine.{Ruled, Line, Asks, proposing, past, asked_by, at_once, published_by, was_told}
use Rattle.master_wire.specs.declared.decision.Decision.TheVariants as written
use Rattle.line_told.specs.declared.told.Told.{Told}
use Rattle.replay_run.specs.Runs.{Run}
use Rattle.replay_run.specs.Appending.{new_messages}
use Rattle.replay_run.specs.Grids.{FormOf}
use Rattle.replay_run.specs.LineTold.{all_told}
use Rattle.masters_run.specs.declared.grid.RuledGrid.{RuledGrid}
use Rattle.masters_run.specs.Runs.{RuledRun, ruled_at, takes_each, goes}
use Rattle.masters_run.specs.LineTold.{all_published}
use Rattle.masters_run.specs.Steps.{IsAmid, Proposes, HasGoneOn, going, following}
use Rattle.masters_run.specs.Written.{as_written}
use Rattle.masters_run.proofs.Extending.{past_same}
use Rattle.masters_run.proofs.QuietGoing.{quiet_goes}

no_messages : (r : Run) → new_messages r r ≡ []
no_messages r = drop_all (length r.appended) r.appended (omega arith)

nothing_published : (j : Ruled Request) (l : Line Request) → asked_by j l ≡ [] → published_by j l ≡ []
nothing_published j l none = ap (λ es. past j.masters.published (masters.run j.masters es).published) none ∙ past_same j.masters.published

pub quiet_follows : {V : Type 0} {T : V → Type 0} (form : FormOf V T) (settings : Settings) (all : RuledGrid V T) (s : RuledRun) (p : ℕ) (l : Line Request) → IsAmid form settings all s → p < length s.masters
    → asked_by (ruled_at (partition_object settings) s p) l ≡ [] → at_once (ruled_at (partition_object settings) s p) l ≡ [] → (earlier : List Told) → HasGoneOn form settings all s (going settings s p l) (following settings s p l) earlier earlier
quiet_follows form settings all s p l amid low none later earlier =
    let o = partition_object settings in
    let j = ruled_at o s p in
    let there : List (event.Event Request) → RuledRun = λ es. record { run = takes_each o [] s.run p es; masters = s.masters } in
    let same : goes o [] s p l ≡ s = quiet_goes o [] s p l low none ∙ ap there later in
    let told : following settings s p l [] ≡ [] =
    ap (λ ds. all_published o p (length j.masters.published + 1) (event.run o j.world (at_once j l)) ds ++ all_told (new_messages s.run (goes o [] s p l).run)) (nothing_published j l none)
    ∙ ap (λ (x : RuledRun). all_told (new_messages s.run x.run)) same ∙ ap (λ ms. all_told ms) (no_messages s.run)
    in
    record {
      skips = [];
      own = λ id c. absurd (in_contains id [] c);
      amid = subst (IsAmid form settings all) (sym same) amid;
      added = sym (append-nil earlier) ∙ ap (λ t. earlier ++ t) (sym told);
    }

-- detections

module _ (settings : Settings) (s : RuledRun) (p m : ℕ) where
  pub detection_proposes : was_told (ruled_at (partition_object settings) s p) m ≡ true → Proposes settings s p (event.Detect m) (written.Detect m)
  detection_proposes is = ap (λ b. map as_written (cond b (decision.Detect m ∷ []) [])) is

  pub untold_asks_nothing : was_told (ruled_at (partition_object settings) s p) m ≡ false → asked_by (ruled_at (partition_object settings) s p) (Asks (event.Detect m)) ≡ []
  untold_asks_nothing is = ap (λ b. proposing (cond b (decision.Detect m ∷ []) [])) is
