-- What a client's look-up makes of a near client.
use Rattle.std.proofs.Common.{◌≡◌, ℕ, ◌≤◌, nat_lt, Bool, true, false, not, ◌&&◌, cond, List, [], length, arith, Option, Some, None, option_map, refl, ap, sym, ◌∙◌, subst}
use Rattle.std.specs.Prelude.{option_and_then}
use Rattle.std.specs.Option.{option_map_or}
use Rattle.std.specs.List.{position}
use Rattle.grid_base.specs.Objects.{Object}
use Rattle.grid_base.specs.declared.calls.Request.{Request}
use Rattle.object_store.specs.Partitions.{Partition}
use Rattle.session_core.specs.Places.{partition_of_key}
use Rattle.replay_run.specs.Runs.{connection_of}
use Rattle.std.proofs.lemmas.Bool.Decides.{nat_tests}
use Rattle.grid_client.specs.Nears.{Near, Value, hit, used as used_in, opened}
use Rattle.grid_client.specs.Calls.{asked_call, sending_of}
use Rattle.grid_client.specs.States.{State, looked, asking, get_of, opening_look_up, HasHit, HasMissed}
use Rattle.grid_client.specs.declared.heard.Sending.{Sending}
use Rattle.script_run.specs.declared.client.NearClient.{NearClient as KeptClient}
use Rattle.script_run.specs.NearClients.{NearClient, value_kept, map_name, used, get_sent, missed}
use Rattle.script_run.specs.Runs.{ScriptRun, Unmade, near_of, takes, may_look, look, look_of, look_at}
use Rattle.script_run.specs.Grids.{IsNear, AreNear, IsOnOne, is_kept}
use Rattle.script_run.proofs.Nears.{none_found}
use Rattle.script_run.proofs.OneConnection.{target_one, used_one, missed_one}
use Rattle.script_run.proofs.Places.{none_placed}
use Rattle.script_run.proofs.Playing.{if_true, if_false}

-- what the look-up of the run comes to

module _ (o : Object Request Partition) (s : ScriptRun) (c : ℕ) (key : List ℕ) where
  -- It may be made where its key is long enough and the connection takes bytes.
  pub looks_if : (n : ℕ) (b : Bool) → n ≡ length key → 8 ≤ n → b ≡ takes o s.run (connection_of s.run c) → b ≡ may_look o s c key
  looks_if n b size enough taking =
      let long : nat_lt (length key) 8 ≡ false = grind (arith, nat_tests) in
      taking ∙ sym (ap (λ t. not t && takes o s.run (connection_of s.run c)) long)

  pub not_made : may_look o s c key ≡ false → look o s c key ≡ Unmade
  not_made cannot = if_false (may_look o s c key) (look_of key (near_of s c)) Unmade cannot

  pub none_there : near_of s c ≡ None → look o s c key ≡ Unmade
  none_there none = by (may_look o s c key)
    where
      by : (b : Bool) → cond b (look_of key (near_of s c)) Unmade ≡ Unmade
      by true = ap (look_of key) none
      by false = refl

  pub made : (n : NearClient) (kept : Option Value) → may_look o s c key ≡ true → near_of s c ≡ Some n → value_kept n key ≡ kept → look o s c key ≡ look_at n kept
  made n kept can there value = if_true (may_look o s c key) (look_of key (near_of s c)) Unmade can ∙ ap (look_of key) there ∙ ap (look_at n) value

-- a hit

module _ (n : NearClient) (key : List ℕ) (value : Value) (new : State) (has : HasHit key value n.state new) where
  pub hit_value : value_kept n key ≡ Some value
  hit_value = ap (option_and_then (hit key)) has.listens ∙ has.kept

  hit_state : new ≡ looked key n.state
  hit_state = has.after ∙ ap (λ (near : Option Near). record n.state { near = near }) (sym (ap (option_map (used_in key)) has.listens))

  pub hit_near : (kept : KeptClient) → IsNear kept n → IsNear (record kept { client = new }) (used key n)
  hit_near kept is = record { conn = is.conn; within = is.within; client = hit_state; unread = is.unread; handed = is.handed; one = used_one n.conn n.read key n.state is.one }

-- a miss

module _ (n : NearClient) (key : List ℕ) (sending : Sending) (new : State) (one : IsOnOne n.conn n.read n.state) (has : HasMissed key sending n.state new) where
  pub miss_value : value_kept n key ≡ None
  miss_value = ap (option_and_then (hit key)) has.listens ∙ has.none

  -- the client before its get is asked for
  opens : opening_look_up key n.state ≡ record n.state { near = Some (opened n.state.next key has.near) }
  opens = ap (λ (near : Option Near). record n.state { near = near }) (ap (option_map (opened n.state.next key)) has.listens)

  named : map_name n ≡ has.near.name
  named = ap (λ (near : Option Near). option_map_or (λ (x : Near). x.name) near []) has.listens

  goes_here : has.asked.conn ≡ n.conn
  goes_here = let there : Some has.asked.conn ≡ Some n.conn = sym has.asked.goes ∙ target_one n.conn n.read n.state (partition_of_key key) one in cc

  call_is : asked_call n.state.next has.asked.conn (partition_of_key key) (get_of has.near.name key n.state.client) ≡ get_sent n key
  call_is =
      ap (λ (conn : ℕ). asked_call n.state.next conn (partition_of_key key) (get_of has.near.name key n.state.client)) goes_here
      ∙ ap (λ (name : List ℕ). asked_call n.state.next n.conn (partition_of_key key) (get_of name key n.state.client)) (sym named)

  pub miss_sent : sending.bytes ≡ (get_sent n key).request
  miss_sent = ap (λ (x : Sending). x.bytes) (has.asked.sent ∙ ap sending_of call_is)

  miss_state : new ≡ (missed key n).state
  miss_state = has.asked.after ∙ ap (λ call. asking call (record n.state { near = Some (opened n.state.next key has.near) })) call_is ∙ ap (asking (get_sent n key)) (sym opens)

  pub miss_near : (kept : KeptClient) → IsNear kept n → IsNear (record kept { client = new }) (missed key n)
  miss_near kept is = record { conn = is.conn; within = is.within; client = miss_state; unread = is.unread; handed = is.handed; one = missed_one key n is.one }

-- A look-up changes the client alone.

as_looked : (kept new : KeptClient) → (record new { client = kept.client }) ≡ kept → (record kept { client = new.client }) ≡ new
as_looked kept new rest = ap (λ (k : KeptClient). record k { client = new.client }) (sym rest)

module _ (key : List ℕ) (kept new : KeptClient) (n : NearClient) (is : IsNear kept n) (rest : (record new { client = kept.client }) ≡ kept) where
  pub record IsHit (value : Value) : Type 0 where
    pub has : value_kept n key ≡ Some value
    pub after : IsNear new (used key n)

  pub hit_there : (value : Value) → HasHit key value kept.client new.client → IsHit value
  hit_there value has =
      let its = subst (λ (s : State). HasHit key value s new.client) is.client has in
      record { has = hit_value n key value new.client its; after = subst (λ (k : KeptClient). IsNear k (used key n)) (as_looked kept new rest) (hit_near n key value new.client its kept is) }

  pub record IsMiss (sending : Sending) : Type 0 where
    pub none : value_kept n key ≡ None
    pub sent : sending.bytes ≡ (get_sent n key).request
    pub after : IsNear new (missed key n)

  pub miss_there : (sending : Sending) → HasMissed key sending kept.client new.client → IsMiss sending
  miss_there sending has =
      let its = subst (λ (s : State). HasMissed key sending s new.client) is.client has in
      record {
        none = miss_value n key sending new.client is.one its;
        sent = miss_sent n key sending new.client is.one its;
        after = subst (λ (k : KeptClient). IsNear k (missed key n)) (as_looked kept new rest) (miss_near n key sending new.client is.one its kept is);
      }

-- where the client is

pub may_if : (b : Bool) (found : Option ℕ) (place : ℕ) → cond b found None ≡ Some place → (b ≡ true) × (found ≡ Some place)
may_if true found place e = (refl, e)
may_if false found place e = absurd cc

pub unmade_if : (o : Object Request Partition) (s : ScriptRun) (c : ℕ) (key : List ℕ) (ks : List KeptClient) → AreNear ks s.nears → cond (may_look o s c key) (position (is_kept c) ks) None ≡ None → look o s c key ≡ Unmade
unmade_if o s c key ks are e = by (may_look o s c key) refl e
  where
    by : (b : Bool) → may_look o s c key ≡ b → cond b (position (is_kept c) ks) None ≡ None → look o s c key ≡ Unmade
    by true is e = none_there o s c key (none_found c ks s.nears are (none_placed (is_kept c) ks e))
    by false is e = not_made o s c key is
