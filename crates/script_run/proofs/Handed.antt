-- The client at a place did its part of a line: it looked a key up, or was handed the next bytes of its output.
use Rattle.std.proofs.Common.{◌≡◌, ℕ, cond, List, get_or, set, Some, None, subst}
use Rattle.call_engine.specs.Calls.{Settings}
use Rattle.call_engine.specs.Objects.{partition_object}
use Rattle.grid_client.specs.Nears.{Value}
use Rattle.grid_client.specs.States.{HasLookedUp}
use Rattle.grid_client.specs.declared.heard.NearLook.{NearLook}
use Rattle.grid_client.specs.declared.heard.NearLook.TheVariants as looks
use Rattle.grid_client.specs.declared.heard.Sending.{Sending}
use Rattle.replay_run.specs.Grids.{FormOf}
use Rattle.script_run.specs.declared.client.NearClient.{NearClient as KeptClient}
use Rattle.script_run.specs.declared.grid.ScriptGrid.{ScriptGrid}
use Rattle.script_run.specs.NearClients.{NearClient, used, get_sent, missed, fed}
use Rattle.script_run.specs.Runs.{ScriptRun, Hit, Miss, may_look, look, changed}
use Rattle.script_run.specs.Grids.{IsNear, AreNear, IsOnOne, Stands, place_in}
use Rattle.script_run.proofs.LookUps.{hit_there, miss_there, made, may_if}
use Rattle.script_run.proofs.Nears.{Pair, near_at, near_set}

module _ {V : Type 0} {T : V → Type 0} {form : FormOf V T} {settings : Settings} (all : ScriptGrid V T) (s : ScriptRun) (stands : Stands form settings all s) (c : ℕ) (key : List ℕ) (place : ℕ)
    (asked : cond (may_look (partition_object settings) s c key) (place_in all c) None ≡ Some place) (kept new : KeptClient) (at : kept ≡ get_or all.nears.items place kept)
    (rest : (record new { client = kept.client }) ≡ kept) (found : NearLook) (looks_up : HasLookedUp key kept.client new.client found) where
  abbrev pair : Pair c all.nears.items s.nears kept
  pair = near_at c all.nears.items s.nears place kept stands.goes.nears (may_if (may_look (partition_object settings) s c key) (place_in all c) place asked).1 at

  nears_by_it : (into : NearClient → NearClient) → IsNear new (into pair.near) → AreNear (set all.nears.items place new) (changed c into s.nears)
  nears_by_it into is = near_set c all.nears.items s.nears place kept new into stands.goes.nears (may_if (may_look (partition_object settings) s c key) (place_in all c) place asked).1 at is

  -- A value is kept for the key.
  pub record WasHit (value : Value) : Type 0 where
    pub near : NearClient
    pub looks : look (partition_object settings) s c key ≡ Hit near value
    pub nears : AreNear (set all.nears.items place new) (changed c (used key) s.nears)

  pub was_hit : (value : Value) → found ≡ looks.Hit value → WasHit value
  was_hit value is =
      let hit = hit_there key kept new pair.near pair.is rest value (subst (HasLookedUp key kept.client new.client) is looks_up) in
      record {
        near = pair.near;
        looks = made (partition_object settings) s c key pair.near (Some value) (may_if (may_look (partition_object settings) s c key) (place_in all c) place asked).0 pair.found hit.has;
        nears = nears_by_it (used key) hit.after;
      }

  -- None is.
  pub record WasMissed (sending : Sending) : Type 0 where
    pub near : NearClient
    pub one : IsOnOne near.conn near.read near.state
    pub looks : look (partition_object settings) s c key ≡ Miss near
    pub sent : sending.bytes ≡ (get_sent near key).request
    pub nears : AreNear (set all.nears.items place new) (changed c (missed key) s.nears)

  pub was_missed : (sending : Sending) → found ≡ looks.Miss sending → WasMissed sending
  was_missed sending is =
      let miss = miss_there key kept new pair.near pair.is rest sending (subst (HasLookedUp key kept.client new.client) is looks_up) in
      record {
        near = pair.near;
        one = pair.is.one;
        looks = made (partition_object settings) s c key pair.near None (may_if (may_look (partition_object settings) s c key) (place_in all c) place asked).0 pair.found miss.none;
        sent = miss.sent;
        nears = nears_by_it (missed key) miss.after;
      }

-- It was handed the next bytes.
module _ {V : Type 0} {T : V → Type 0} {form : FormOf V T} {settings : Settings} (all : ScriptGrid V T) (s : ScriptRun) (stands : Stands form settings all s) (c most place : ℕ)
    (there : place_in all c ≡ Some place) (kept : KeptClient) (at : kept ≡ get_or all.nears.items place kept) where
  abbrev pub client_at : Pair c all.nears.items s.nears kept
  client_at = near_at c all.nears.items s.nears place kept stands.goes.nears there at

  pub nears_fed : (new : KeptClient) → ((n : NearClient) → IsNear kept n → IsNear new (fed most n)) → AreNear (set all.nears.items place new) (changed c (fed most) s.nears)
  nears_fed new goes = near_set c all.nears.items s.nears place kept new (fed most) stands.goes.nears there at (goes client_at.near client_at.is)
