-- What a client's calls come to.
use Rattle.std.proofs.Common.{◌≡◌, ℕ, ◌+◌, ◌<◌, true, nat_lt, List, [], ◌∷◌, length, Option, Some, None, IsSome, option_map, option_and_then, refl, ap, sym, ◌∙◌, subst, arith}
use Rattle.std.specs.List.{find, position}
use Rattle.std.specs.Option.{option_or}
use Rattle.std.proofs.lemmas.Bool.Decides.{nat_tests}
use Rattle.session_core.specs.Places.{partition_of_key}
use Rattle.grid_client.specs.Nears.{Near, Value, hit, used, opened}
use Rattle.grid_client.specs.Calls.{is_refused, asked_call, again, sending_of}
use Rattle.grid_client.specs.Connections.{is_to, first_of, target_of}
use Rattle.grid_client.specs.States.{State, target, asking, looked, opening_look_up, refusal_of, get_of, HasHit, HasMissed, HasOpened, HasRetried, HasRetriedAt}
use Rattle.grid_client.specs.declared.calls.Call.{Call}
use Rattle.grid_client.specs.declared.connections.Connection.{Connection}
use Rattle.grid_client.specs.declared.heard.ClientRefused.TheVariants.{ShortKey}
use Rattle.grid_client.specs.declared.heard.Sending.{Sending}
use Rattle.grid_client.proofs.Lists.{position_finds, position_changed}

-- ---- the connection on which a call goes

pub no_target : (leader : Option ℕ) (cs : List Connection) → target_of leader cs ≡ None → cs ≡ []
no_target leader [] none = refl
no_target leader (c ∷ cs) none = by (find (is_to leader) (c ∷ cs)) none
  where
    by : (o : Option Connection) → option_map (λ (d : Connection). d.conn) (option_or o (Some c)) ≡ None → (c ∷ cs) ≡ []
    by None h = absurd cc
    by (Some d) h = absurd cc

pub target_nowhere : (leader : Option ℕ) (cs : List Connection) → cs ≡ [] → target_of leader cs ≡ None
target_nowhere leader cs is = ap (target_of leader) is

pub no_first : (leader : Option ℕ) (cs : List Connection) → first_of cs ≡ None → target_of leader cs ≡ None
no_first leader [] none = refl
no_first leader (c ∷ cs) none = absurd cc

-- ---- look-ups

listening : (s : State) → IsSome s.near → (near : Near) × (s.near ≡ Some near)
listening s some = by s.near refl some
  where
    by : (o : Option Near) → s.near ≡ o → IsSome o → (near : Near) × (s.near ≡ Some near)
    by None is h = absurd cc
    by (Some near) is h = (near, is)

pub hit_is : (key : List ℕ) (value : Value) (s new : State) → IsSome s.near → Some value ≡ option_and_then (hit key) s.near → new ≡ looked key s → HasHit key value s new
hit_is key value s new some found after =
    let it = listening s some in
    record {
      near = it.0;
      listens = it.1;
      kept = sym (found ∙ ap (option_and_then (hit key)) it.1);
      after = after ∙ ap (λ (o : Option Near). record s { near = option_map (used key) o }) it.1;
    }

pub missed_is : (conn partition : ℕ) (key : List ℕ) (s new : State) (sending : Sending) → HasOpened conn partition key s new sending
    → partition ≡ partition_of_key key → target partition s ≡ Some conn → None ≡ option_and_then (hit key) s.near → HasMissed key sending s new
missed_is conn partition key s new sending its is goes none =
    let near = its.near in
    let call = get_of near.name key s.client in
    record {
      near = near;
      listens = its.listens;
      none = sym (none ∙ ap (option_and_then (hit key)) its.listens);
      asked = record {
        conn = conn;
        goes = subst (λ (p : ℕ). target p s ≡ Some conn) is goes;
        sent = its.sent ∙ ap (λ (p : ℕ). sending_of (asked_call s.next conn p call)) is;
        after =
            its.after
            ∙ ap (λ (p : ℕ). asking (asked_call s.next conn p call) (opening_look_up key s)) is
            ∙ ap (λ (o : Option Near). asking (asked_call s.next conn (partition_of_key key) call) (record s { near = option_map (opened s.next key) o })) its.listens;
      };
    }

-- why one isn't made

pub short_refused : (key : List ℕ) (s : State) → length key < 8 → refusal_of key s ≡ Some ShortKey
short_refused key s short = let on : nat_lt (length key) 8 ≡ true = grind (arith, nat_tests, short) in rw on refl

-- ---- trying again

pub retried_is : (number place : ℕ) (s new : State) (sending : Sending) → Some place ≡ position (is_refused number) s.calls → HasRetriedAt place s new sending → HasRetried number s new sending
retried_is number place s new sending found its =
    let next = again s.next its.conn its.call in
    record {
      call = its.call;
      refused = position_finds (is_refused number) s.calls place its.call found its.at;
      conn = its.conn;
      goes = its.goes;
      sent = its.sent;
      after = its.after ∙ ap (λ (cs : List Call). record s { calls = cs; next = s.next + 1 }) (position_changed (is_refused number) (λ (c : Call). next) s.calls place its.call found its.at);
    }
