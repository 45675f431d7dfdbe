-- A near client goes on at a line of others.
use Rattle.std.proofs.Common.{◌≡◌, ℕ, false, List, ◌++◌, refl, ap, sym, ◌∙◌, subst, inl, inr, append_assoc, arith}
use Rattle.grid_base.specs.declared.names.CallId.{CallId}
use Rattle.call_engine.specs.Calls.{Settings}
use Rattle.call_engine.specs.Objects.{partition_object}
use Rattle.script_lang.specs.declared.line.Line.{Line}
use Rattle.script_lang.specs.declared.line.Line.TheVariants as line
use Rattle.replay_run.specs.Runs.{Run}
use Rattle.replay_run.specs.AfterLines as alone
use Rattle.replay_run.specs.Appending.{new_messages}
use Rattle.replay_run.proofs.Growing.{line_grows}
use Rattle.masters_run.specs.Runs.{RuledRun}
use Rattle.masters_run.specs.AfterLines.{after_line}
use Rattle.masters_run.proofs.KeptLines.{line_lines}
use Rattle.masters_run.proofs.RuledGrowing.{ruled_line_grows}
use Rattle.masters_run.proofs.RuledRuns.{line_keeps}
use Rattle.near_run_laws.specs.Messages.{sent_to}
use Rattle.near_run_laws.specs.Clients.{GoesWith}
use Rattle.near_run_laws.specs.Following.{Machine}
use Rattle.near_run_laws.specs.Lines.{IsOthers, WaitElsewhere, GoesOn}
use Rattle.near_run_laws.specs.NearRuns.{IsNearRun}
use Rattle.near_run_laws.proofs.Sent.{sent_to-append}
use Rattle.near_run_laws.proofs.Lines.{counted, given, event_on, every_other_line_is_followed}
use Rattle.near_protocol.specs.Client.{Said}
use Rattle.script_run.specs.NearClients.{NearClient}
use Rattle.script_run.specs.AfterLines.{noting}
use Rattle.near_script_laws.proofs.Connections.{IsApart}
use Rattle.near_script_laws.proofs.RuledLines.{still_connected, stays_dead}
use Rattle.near_script_laws.proofs.Facts.{IsLive, IsDead, Goes, Appends, read_more}

apart_too : (c : ℕ) (l : Line) → IsOthers c l → IsApart c l
apart_too c (line.Arrive k bytes) others = others
apart_too c l others = tt

-- of the grid by itself
pub line_appends : (settings : Settings) (skips : List CallId) (r : Run) (l : Line) → Appends r (alone.after_line (partition_object settings) skips r l)
line_appends settings skips r l = let front = (line_grows (partition_object settings) skips r l).appended in record { more = front.0; are = sym front.1 }

-- and with masters
ruled_appends : (settings : Settings) (skips : List CallId) (s : RuledRun) (l : Line) → Appends s.run (after_line (partition_object settings) skips s l).run
ruled_appends settings skips s l = let front = (ruled_line_grows (partition_object settings) skips s l).appended in record { more = front.0; are = sym front.1 }

-- The machine goes on: each event that happens with masters is one that it follows.
followed : (settings : Settings) (client : ℕ) (name : List ℕ) (s : RuledRun) (machine : Machine) (earlier : List (List ℕ)) (heard : List (Said (List ℕ))) (skips : List CallId) (l : Line)
    → IsNearRun settings client name s.run machine earlier heard → WaitElsewhere machine.conn s.run → IsOthers machine.conn l → GoesOn settings client name machine earlier heard (after_line (partition_object settings) skips s l).run
followed settings client name s machine earlier heard skips l run elsewhere others =
    let here : GoesOn settings client name machine earlier heard s.run = record { machine = machine; run = run; conn = refl; idle = refl; number = refl; elsewhere = elsewhere } in
    line_keeps (partition_object settings) skips (GoesOn settings client name machine earlier heard) (given settings client name machine earlier heard) (λ r p e quiet h. event_on settings client name machine earlier heard skips r p e quiet h) s l
    (counted settings client name machine earlier heard s.run here) (every_other_line_is_followed settings client name s.run machine earlier heard skips l run elsewhere others)

module _ (settings : Settings) (skips : List CallId) (s : RuledRun) (l : Line) (n : NearClient) (others : IsOthers n.conn l) where
  abbrev r : Run
  r = s.run

  abbrev next : Run
  next = (after_line (partition_object settings) skips s l).run

  abbrev after : NearClient
  after = noting (new_messages r next) n

  live_on : IsLive settings r n → IsLive settings next after
  live_on a =
      let g = followed settings a.client a.name s a.machine a.earlier a.heard skips l a.run
      (subst (λ (c : ℕ). WaitElsewhere c r) (sym a.conn) a.elsewhere) (subst (λ (c : ℕ). IsOthers c l) (sym a.conn) others)
      in
      let adds = ruled_appends settings skips s l in
      let lines = line_lines (partition_object settings) skips s l in
      let few = a.few in
      let same = g.number in
      record {
        client = a.client;
        name = a.name;
        machine = g.machine;
        earlier = a.earlier;
        heard = a.heard;
        run = g.run;
        conn = g.conn ∙ a.conn;
        goes = subst (GoesWith n.conn a.name n.state) (sym g.idle) a.goes;
        number = g.number ∙ a.number;
        its_client = a.its_client;
        one = record { uuid = a.one.uuid; connections = a.one.connections; near = a.one.near; keeps = a.one.keeps; short = a.one.short };
        text = a.text;
        connection = a.connection;
        there = still_connected (partition_object settings) skips s l n.conn a.connection (apart_too n.conn l others) a.there;
        sent = a.sent;
        messages = a.messages ∙ sym g.number;
        few = omega (arith, few, same, lines);
        elsewhere = subst (λ (c : ℕ). WaitElsewhere c next) a.conn g.elsewhere;
        since = a.since ++ sent_to n.conn adds.more;
        appended = ap (sent_to n.conn) adds.are ∙ sent_to-append n.conn r.appended adds.more ∙ ap (λ xs. xs ++ sent_to n.conn adds.more) a.appended ∙ append_assoc a.earlier a.since (sent_to n.conn adds.more);
        reading = read_more r next adds n a.since a.reading;
        says = a.says;
        mean = a.mean;
        is_heard = a.is_heard;
      }

  dead_on : next.full ≡ false → IsDead settings r n → IsDead settings next after
  dead_on going a = record {
    bare = record { near = a.bare.near; keeps = a.bare.keeps; entries = a.bare.entries; waiting = a.bare.waiting; calls = a.bare.calls };
    connection = a.connection;
    there = still_connected (partition_object settings) skips s l n.conn a.connection (apart_too n.conn l others) a.there;
    crashed = stays_dead (partition_object settings) skips s l a.connection.member going a.crashed;
  }

  pub goes_on : next.full ≡ false → Goes settings r n → Goes settings next after
  goes_on going (inl a) = inl (live_on a)
  goes_on going (inr a) = inr (dead_on going a)
