-- What the grid runs at a line of a script is within its limits: near clients have short names.
use Rattle.std.proofs.Common.{◌≡◌, ℕ, ◌*◌, ◌≤◌, Bool, true, false, cond, ◌==◌, List, [], ◌∷◌, ◌++◌, length, map, Option, Some, None, refl, subst, arith}
use Rattle.std.specs.List.{find}
use Rattle.grid_base.specs.Objects.{Object}
use Rattle.grid_base.specs.declared.names.CallId.{CallId}
use Rattle.grid_base.specs.declared.calls.Request.{Request}
use Rattle.object_store.specs.Partitions.{Partition}
use Rattle.call_engine.specs.Calls.{Settings}
use Rattle.call_engine.specs.Objects.{partition_object}
use Rattle.grid_client.specs.Nears.{Value}
use Rattle.partition_protocol.proofs.Lists.{on_if}
use Rattle.script_lang.specs.Limits.{most_line_bytes}
use Rattle.script_lang.specs.Lines.{IsWithin}
use Rattle.script_lang.specs.declared.line.Line.{Line}
use Rattle.script_lang.specs.declared.line.Line.TheVariants as line
use Rattle.replay_run.specs.Runs.{Appended}
use Rattle.replay_run.specs.Appending.{new_messages}
use Rattle.replay_run.specs.Grids.{most_arriving}
use Rattle.masters_run.specs.AfterLines as ruled
use Rattle.script_run.specs.NearClients.{NearClient, is_near, new_near, opening_of, value_kept, used, missed, fed}
use Rattle.script_run.specs.Runs.{ScriptRun, ruled_of, near_of, is_near_connection, can_begin, Look, Unmade, Hit, Miss, look_at, look_of, may_look, look, asked_line, grid_line, changed, after_look, nears_by}
use Rattle.script_run.specs.AfterLines.{noting, after_line}
use Rattle.script_run.specs.Grids.{IsOnOne}
use Rattle.script_run.proofs.OneConnection.{begun_one, used_one, missed_one, fed_one}
use Rattle.script_run.proofs.Playing.{longer}
use Rattle.script_run.proofs.Sizes.{opening_fits, get_fits}

abbrev pub IsOne : NearClient → Type 0
IsOne n = IsOnOne n.conn n.read n.state

-- each near client is on one connection, and its map's name came on a line
abbrev pub AreOnOne : List NearClient → Type 0
AreOnOne [] = Unit {0}
AreOnOne (n ∷ ns) = IsOne n × AreOnOne ns

found_one : (c : ℕ) (ns : List NearClient) (n : NearClient) → AreOnOne ns → find (is_near c) ns ≡ Some n → IsOne n
found_one c [] n all e = absurd cc
found_one c (m ∷ ns) n all e = by (m.conn == c) e (found_one c ns n all.1)
  where
    by : (b : Bool) → cond b (Some m) (find (is_near c) ns) ≡ Some n → (find (is_near c) ns ≡ Some n → IsOne n) → IsOne n
    by true f rest = subst IsOne (let one : m ≡ n = cc in one) all.0
    by false f rest = rest f

more_one : (ns : List NearClient) (n : NearClient) → AreOnOne ns → IsOne n → AreOnOne (ns ++ n ∷ [])
more_one [] n all one = (one, tt)
more_one (m ∷ ns) n all one = (all.0, more_one ns n all.1 one)

changed_one : (c : ℕ) (f : NearClient → NearClient) → ((n : NearClient) → IsOne n → IsOne (f n)) → (ns : List NearClient) → AreOnOne ns → AreOnOne (changed c f ns)
changed_one c f keeps [] all = tt
changed_one c f keeps (n ∷ ns) all = on_if AreOnOne (n.conn == c) (f n ∷ ns) (n ∷ changed c f ns) (keeps n all.0, all.1) (all.0, changed_one c f keeps ns all.1)

noted_one : (ms : List Appended) (ns : List NearClient) → AreOnOne ns → AreOnOne (map (noting ms) ns)
noted_one ms [] all = tt
noted_one ms (n ∷ ns) all = (record { uuid = all.0.uuid; connections = all.0.connections; near = all.0.near; keeps = all.0.keeps; short = all.0.short }, noted_one ms ns all.1)

-- ---- what a look-up comes to

module _ (o : Object Request Partition) (s : ScriptRun) (members : ℕ) (all : AreOnOne s.nears) where
  -- where it misses, its get fits
  abbrev Fits : ℕ → List ℕ → Look → Type 0
  Fits d key x = IsWithin members most_arriving (asked_line d key x)

  look_fits : (d : ℕ) (key : List ℕ) → d ≤ 63 → 2 * length key ≤ most_line_bytes → Fits d key (look o s d key)
  look_fits d key low short = on_if (Fits d key) (may_look o s d key) (look_of key (near_of s d)) Unmade (of_client (near_of s d) refl) tt
    where
      of_value : (n : NearClient) → IsOne n → (kept : Option Value) → Fits d key (look_at n kept)
      of_value n one (Some value) = tt
      of_value n one None = let fits = get_fits n key one short in (low, fits.0, fits.1)

      of_client : (found : Option NearClient) → near_of s d ≡ found → Fits d key (look_of key found)
      of_client None e = tt
      of_client (Some n) e = of_value n (found_one d s.nears n all e) (value_kept n key)

  pub grid_within : (l : Line) → IsWithin members most_line_bytes l → IsWithin members most_arriving (grid_line o s l)
  grid_within (line.Near d name capacity) within =
      let fits = opening_fits d name within.2 in
      on_if (IsWithin members most_arriving) (can_begin s d name) (line.Arrive d (opening_of d name)) line.Comment (within.0, fits.0, fits.1) tt
  grid_within (line.NearGet d key) within = look_fits d key within.0 within.2
  grid_within (line.NearFeed d most) within = tt
  grid_within (line.Arrive d bytes) within =
      on_if (IsWithin members most_arriving) (is_near_connection s d) line.Comment (line.Arrive d bytes) tt (longer (line.Arrive d bytes) members most_line_bytes most_arriving (omega arith) within)
  grid_within (line.OpenConn d member) within = within
  grid_within (line.Grid n backups capacity) within = within
  grid_within (line.Clock member moment) within = within
  grid_within (line.Flow partition most) within = within
  grid_within (line.FlowAll most) within = within
  grid_within (line.Crash member) within = within
  grid_within (line.Detect member) within = within
  grid_within (line.Rebalance most) within = within
  grid_within l within = within

  -- ---- and the clients are as short after the line

  looked_one : (d : ℕ) (key : List ℕ) (x : Look) → AreOnOne (after_look d key x s.nears)
  looked_one d key Unmade = all
  looked_one d key (Hit n value) = changed_one d (used key) (λ m one. used_one m.conn m.read key m.state one) s.nears all
  looked_one d key (Miss n) = changed_one d (missed key) (λ m one. missed_one key m one) s.nears all

  nears_one : (l : Line) → IsWithin members most_line_bytes l → AreOnOne (nears_by o s l)
  nears_one (line.Near d name capacity) within = on_if AreOnOne (can_begin s d name) (s.nears ++ new_near d name capacity ∷ []) s.nears (more_one s.nears (new_near d name capacity) all (begun_one d name capacity within.2)) all
  nears_one (line.NearGet d key) within = looked_one d key (look o s d key)
  nears_one (line.NearFeed d most) within = changed_one d (fed most) (λ m one. fed_one most m one) s.nears all
  nears_one l within = all

pub line_one : (settings : Settings) (skips : List CallId) (s : ScriptRun) (members : ℕ) (l : Line) → IsWithin members most_line_bytes l → AreOnOne s.nears → AreOnOne (after_line settings skips s l).nears
line_one settings skips s members l within all =
    noted_one (new_messages s.run (ruled.after_line (partition_object settings) skips (ruled_of s) (grid_line (partition_object settings) s l)).run) (nears_by (partition_object settings) s l) (nears_one (partition_object settings) s members all l within)
