-- A near client that reads on goes with the machine.
use Rattle.std.proofs.Common.{◌≡◌, ℕ, List, [], ◌∷◌, ◌++◌, Option, Some, None, refl, ap, sym, subst, append_assoc, append-nil}
use Rattle.call_engine.specs.Calls.{Settings}
use Rattle.near_protocol.specs.Client.{Said}
use Rattle.near_protocol.specs.Near.{heard, hears}
use Rattle.grid_client.specs.Hearing.{told_by_piece}
use Rattle.replay_run.specs.Runs.{Run}
use Rattle.near_run_laws.specs.Maps.{keyed}
use Rattle.near_run_laws.specs.Following.{Machine}
use Rattle.near_run_laws.specs.NearRuns.{IsNearRun, client_heard}
use Rattle.near_run_laws.specs.Clients.{GoesWith}
use Rattle.near_run_laws.specs.Pieces.{all_handled}
use Rattle.near_run_laws.specs.Feeds.{all_said, EveryFeedIsFollowed}
use Rattle.near_run_laws.proofs.Pieces.{every_piece_is_heard}

-- the machine after some of what it has to read
record Read (settings : Settings) (client : ℕ) (name : List ℕ) (r : Run) (s : Machine) (earlier : List (List ℕ)) (heard_now : List (Said (List ℕ))) (says : List (Option (Said (List ℕ)))) (rest : List (Said (List ℕ))) : Type 0 where
  machine : Machine
  run : IsNearRun settings client name r machine earlier heard_now
  conn : machine.conn ≡ s.conn
  made : machine.client ≡ all_handled settings client s.conn name says s.client
  unread : machine.unread ≡ rest
  number : machine.next_number ≡ s.next_number

reads : (settings : Settings) (client : ℕ) (name : List ℕ) (r : Run) (says : List (Option (Said (List ℕ)))) (s : Machine) (earlier : List (List ℕ)) (before rest : List (Said (List ℕ))) → IsNearRun settings client name r s earlier before → s.unread ≡ all_said says ++ rest
    → Read settings client name r s earlier (before ++ all_said says) says rest
reads settings client name r [] s earlier before rest run is = record { machine = s; run = subst (IsNearRun settings client name r s earlier) (sym (append-nil before)) run; conn = refl; made = refl; unread = is; number = refl }
reads settings client name r (None ∷ more) s earlier before rest run is =
    let u = reads settings client name r more s earlier before rest run is in
    record { machine = u.machine; run = u.run; conn = u.conn; made = u.made; unread = u.unread; number = u.number }
reads settings client name r (Some said ∷ more) s earlier before rest run is =
    let next : Machine = heard (keyed settings s.conn name client) s said (all_said more ++ rest) in
    let on : IsNearRun settings client name r next earlier (before ++ said ∷ []) =
    subst (λ z. IsNearRun settings client name r z earlier (before ++ said ∷ [])) (ap (hears (keyed settings s.conn name client) s) is) (client_heard r s earlier before said (all_said more ++ rest) run is)
    in
    let u = reads settings client name r more next earlier (before ++ said ∷ []) rest on refl in
    record { machine = u.machine; run = subst (IsNearRun settings client name r u.machine earlier) (append_assoc before (said ∷ []) (all_said more)) u.run; conn = u.conn; made = u.made; unread = u.unread; number = u.number }

pub every_feed_is_followed : EveryFeedIsFollowed
every_feed_is_followed settings client name r s earlier before st sent text piece says rest run goes h all is =
    let u = reads settings client name r says s earlier before rest run is in
    record {
      machine = u.machine;
      run = u.run;
      conn = u.conn;
      goes = subst (GoesWith s.conn name (told_by_piece s.conn text piece st).after) (sym u.made) (every_piece_is_heard settings client s.conn name st s.client sent text piece says goes h all);
      unread = u.unread;
      number = u.number;
    }
