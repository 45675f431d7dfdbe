-- The grid after the first line.
use Rattle.std.proofs.Common.{◌≡◌, ◌≢◌, ℕ, zero, suc, ◌+◌, ◌<◌, ◌≤◌, List, [], ◌∷◌, ◌++◌, length, replicate, None, slice_get, refl, ap, sym, ◌∙◌, subst, ⊎_elim, arith}
use Rattle.std.specs.Option.{option_and_then}
use Rattle.std.proofs.lemmas.Bool.{cases_eq}
use Rattle.std.proofs.lemmas.List.{length-replicate}
use Rattle.call_engine.specs.declared.env.GridEnv.{GridEnv}
use Rattle.call_engine.specs.Calls.{Settings}
use Rattle.call_engine.specs.Env.{settings_of}
use Rattle.partition_world.specs.Worlds.{waiting}
use Rattle.replay_run.specs.declared.grid.Grid.{Grid}
use Rattle.partition_world.specs.LinkOrder.{links_of}
use Rattle.replay_run.specs.Runs.{Run, begun, partitions}
use Rattle.replay_run.specs.Tables.{most_connections, unopened, no_connections, opened_at}
use Rattle.replay_run.specs.ScriptRuns.{grid_begun}
use Rattle.replay_run.specs.Tallies.{no_tally}
use Rattle.replay_run.specs.Grids.{FormOf, GridWorld, IsWorld, Matches, HasTable, HasWaiters, IsSettled, IsTally, AreListening, HasWorld, Stands}
use Rattle.replay_run.proofs.TableChanges.{got_last, got_before, line_at}

-- one world more
pub more_worlds : {settings : Settings} (ws : List GridWorld) (r : Run) (n : ℕ) (world : GridWorld) → length ws ≡ n → ((p : ℕ) → p < n → HasWorld settings ws r p) → HasWorld settings (ws ++ world ∷ []) r n → (p : ℕ) → p < n + 1 → HasWorld settings (ws ++ world ∷ []) r p
more_worlds {settings = settings} ws r n world size have last p below = ⊎_elim (λ e. subst (λ q. HasWorld settings (ws ++ world ∷ []) r q) (sym e) last) (λ apart. kept apart (have p (omega arith))) (cases_eq p n)
  where
    kept : p ≢ n → HasWorld settings ws r p → HasWorld settings (ws ++ world ∷ []) r p
    kept apart w = record { world = w.world; there = got_before ws world p (λ e. apart (e ∙ size)) ∙ w.there; is = w.is; given = w.given }

pub worlds_as : {settings : Settings} {ws others : List GridWorld} {r : Run} {p : ℕ} → ws ≡ others → HasWorld settings others r p → HasWorld settings ws r p
worlds_as {settings = settings} {r = r} {p = p} same = subst (λ xs. HasWorld settings xs r p) (sym same)

pub last_world : {settings : Settings} (ws : List GridWorld) (r : Run) (n : ℕ) (world : GridWorld) → length ws ≡ n → IsWorld settings world r n → ((member : ℕ) → waiting world member ≡ []) → HasWorld settings (ws ++ world ∷ []) r n
last_world ws r n world size is given = record { world = world; there = ap (slice_get (ws ++ world ∷ [])) (sym size) ∙ got_last ws world; is = is; given = given }

sized : (n : ℕ) → length (unopened n) ≡ n
sized zero = refl
sized (suc n) = ap (λ k. suc k) (sized n)

none_at : (n c : ℕ) → opened_at (unopened n) c ≡ None
none_at zero c = refl
none_at (suc n) zero = refl
none_at (suc n) (suc c) = none_at n c

begun_table : (members backups : ℕ) → HasTable no_connections (begun members backups)
unfolding no_connections
begun_table members backups = record {
  size = sized most_connections;
  connections = λ c. subst (λ slot. Matches slot None) (sym (none_at most_connections c)) tt;
  calls = λ id. ap (option_and_then (line_at id.number)) (none_at most_connections id.conn);
}

begun_settled : (members backups : ℕ) → IsSettled no_connections (begun members backups)
begun_settled members backups c o k at there = absurd cc

pub begun_stands : {V : Type 0} {T : V → Type 0} {form : FormOf V T} (grid : Grid V T) (env : GridEnv V T) (members backups : ℕ) → 1 ≤ members → grid.env ≡ env → grid.lines ≡ 1 → grid.members ≡ members → grid.links.items ≡ links_of members → grid.moments.items ≡ replicate members 0
    → grid.connections ≡ no_connections → HasWaiters grid.waiters (begun members backups) → grid.tally ≡ no_tally → AreListening grid.listeners.items (begun members backups) None → grid.reopened.items ≡ []
    → ((p : ℕ) → p < partitions → HasWorld (settings_of form env) grid.worlds.items (begun members backups) p) → Stands form (settings_of form env) grid (begun members backups)
begun_stands {form = form} grid env members backups some same lines own links moments table waiters tally nobody none worlds = record {
  run = grid_begun members backups some;
  small = omega arith;
  few = λ p. omega arith;
  bounded = record { lines = omega arith; reopenings = omega arith };
  holds = record {
    goes_by = ap (settings_of form) same;
    goes_on = refl;
    lines = lines;
    members = own;
    links = links;
    moments = moments;
    clocks = length-replicate members 0;
    table = subst (λ t. HasTable t (begun members backups)) (sym table) (begun_table members backups);
    waiters = waiters;
    tally = subst (λ t. IsTally t (begun members backups)) (sym tally) (record { arrived = refl; refused = refl; memory = refl });
    reopened = none;
    worlds = worlds;
  };
  listeners = nobody;
  settled = subst (λ t. IsSettled t (begun members backups)) (sym table) (begun_settled members backups);
  reached = λ c k there. absurd cc;
}
