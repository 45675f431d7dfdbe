-- What holds of a near client after each line of a script: it goes with a machine of its run, or its member had crashed before it came.
use Rattle.std.proofs.Common.{◌≡◌, ℕ, ◌+◌, ◌*◌, ◌<◌, ◌≤◌, ◌^◌, Bool, true, false, cond, ◌==◌, List, [], ◌∷◌, ◌++◌, length, map, filter, drop, Option, Some, refl, ap, sym, ◌∙◌, subst, ◌⊎◌, append_assoc}
use Rattle.std.specs.Prelude.{option_and_then}
use Rattle.std.specs.Option.{option_map_or}
use Rattle.std.specs.List.{flat_map}
use Rattle.std.specs.Str.{IsUtf8}
use Rattle.std.proofs.Math.Seq.{drop-append_seam}
use Rattle.frame_codec.specs.Laws.{spelled}
use Rattle.frame_codec.specs.declared.frames.Frame.{Frame}
use Rattle.message_frames.specs.Messages.{messages_of}
use Rattle.call_engine.specs.Calls.{Settings}
use Rattle.call_engine.specs.Objects.{partition_object}
use Rattle.near_protocol.specs.Client.{Said}
use Rattle.replay_run.specs.Runs.{Run, Connection, Appended, connection_of, lives}
use Rattle.replay_run.specs.ScriptRuns.{IsRun}
use Rattle.replay_run.specs.Grids.{IsSmall, AreFew}
use Rattle.replay_run.specs.Appending.{new_messages}
use Rattle.near_run_laws.specs.Messages.{is_to, sent_to}
use Rattle.near_run_laws.specs.Sessions.{HasSent}
use Rattle.near_run_laws.specs.Readings.{output}
use Rattle.near_run_laws.specs.Following.{Machine}
use Rattle.near_run_laws.specs.NearRuns.{IsNearRun}
use Rattle.near_run_laws.specs.Clients.{GoesWith}
use Rattle.near_run_laws.specs.Pieces.{AllMean}
use Rattle.near_run_laws.specs.Feeds.{all_said}
use Rattle.near_run_laws.specs.Lines.{WaitElsewhere}
use Rattle.near_run_laws.specs.Modest.{StaysProper}
use Rattle.script_lang.specs.Limits.{most_lines, most_line_bytes}
use Rattle.grid_client.specs.Nears.{Near, hit}
use Rattle.script_run.specs.NearClients.{NearClient, map_name, value_kept}
use Rattle.script_run.specs.Outputs.{sent_to as bytes_sent_to}
use Rattle.script_run.specs.Grids.{IsOnOne}
use Rattle.script_run.specs.AfterLines.{noting}
use Rattle.near_script_laws.proofs.Told.{IsBare}
use Rattle.near_script_laws.proofs.Lives.{CrashTogether}
use Rattle.near_script_laws.proofs.Connections.{NoneListens}

-- ---- the run

pub record Stands (settings : Settings) (r : Run) : Type 0 where
  pub run : IsRun (partition_object settings) r
  pub small : IsSmall r
  pub few : AreFew r
  pub lines : r.lines ≤ most_lines
  pub together : CrashTogether (partition_object settings) r
  pub listens : NoneListens r
  pub proper : StaysProper r
  pub members : r.members < 2 ^ 8

-- ---- a near client

abbrev pub joined : List (List ℕ) → List ℕ
joined parts = flat_map (λ (part : List ℕ). part) parts

-- It goes with a machine: it has heard what the messages say that it was handed whole, and has yet to read the rest of what was sent to it since it came.
pub record IsLive (settings : Settings) (r : Run) (n : NearClient) : Type 0 where
  pub client : ℕ
  pub name : List ℕ
  pub machine : Machine
  pub earlier : List (List ℕ)
  pub heard : List (Said (List ℕ))
  pub run : IsNearRun settings client name r machine earlier heard
  pub conn : machine.conn ≡ n.conn
  pub goes : GoesWith n.conn name n.state machine.client
  pub number : machine.next_number ≡ n.state.next
  pub its_client : n.state.client ≡ client
  pub one : IsOnOne n.conn n.read n.state
  pub text : IsUtf8 name
  -- its connection, on which it sent a message for each number
  pub connection : Connection
  pub there : connection_of r n.conn ≡ Some connection
  pub sent : HasSent connection.conn client connection.bytes
  pub messages : length (messages_of true connection.bytes) ≡ machine.next_number
  pub few : machine.next_number ≤ r.lines + 3
  -- no call waits there
  pub elsewhere : WaitElsewhere n.conn r
  -- what was sent to it, and what that says
  pub since : List (List ℕ)
  pub appended : sent_to n.conn r.appended ≡ earlier ++ since
  pub reading : n.read ++ n.unread ≡ joined since
  pub says : List (Option (Said (List ℕ)))
  pub mean : AllMean name (messages_of false n.read) says
  pub is_heard : heard ≡ all_said says

-- It never asked for anything.
pub record IsDead (settings : Settings) (r : Run) (n : NearClient) : Type 0 where
  pub bare : IsBare n.state
  pub connection : Connection
  pub there : connection_of r n.conn ≡ Some connection
  pub crashed : lives (partition_object settings) r connection.member ≡ false

abbrev pub Goes : Settings → Run → NearClient → Type 0
Goes settings r n = IsLive settings r n ⊎ IsDead settings r n

-- ---- what is sent to it

pub joined-append : (xs ys : List (List ℕ)) → joined (xs ++ ys) ≡ joined xs ++ joined ys
joined-append [] ys = refl
joined-append (x ∷ xs) ys = ap (λ bs. x ++ bs) (joined-append xs ys) ∙ sym (append_assoc x (joined xs) (joined ys))

pub joined_spelled : (sent : List (List Frame)) → joined (map spelled sent) ≡ output sent
joined_spelled [] = refl
joined_spelled (frames ∷ sent) = ap (λ bs. spelled frames ++ bs) (joined_spelled sent)

pub joined_sent : (c : ℕ) (ms : List Appended) → joined (sent_to c ms) ≡ bytes_sent_to c ms
joined_sent c [] = refl
joined_sent c (m ∷ ms) = by (m.conn == c) (joined_sent c ms)
  where
    by : (b : Bool) → joined (sent_to c ms) ≡ bytes_sent_to c ms → joined (map (λ (x : Appended). x.bytes) (cond b (m ∷ filter (is_to c) ms) (filter (is_to c) ms))) ≡ cond b m.bytes [] ++ bytes_sent_to c ms
    by true ih = ap (λ bs. m.bytes ++ bs) ih
    by false ih = ih

-- a run after which more was appended
pub record Appends (r next : Run) : Type 0 where
  pub more : List Appended
  pub are : next.appended ≡ r.appended ++ more

pub its_new : (r next : Run) (a : Appends r next) → new_messages r next ≡ a.more
its_new r next a = ap (drop (length r.appended)) a.are ∙ drop-append_seam r.appended a.more

pub read_more : (r next : Run) (a : Appends r next) (n : NearClient) (since : List (List ℕ)) → n.read ++ n.unread ≡ joined since
    → (noting (new_messages r next) n).read ++ (noting (new_messages r next) n).unread ≡ joined (since ++ sent_to n.conn a.more)
read_more r next a n since reading =
    ap (λ (ms : List Appended). n.read ++ (n.unread ++ bytes_sent_to n.conn ms)) (its_new r next a)
    ∙ sym (append_assoc n.read n.unread (bytes_sent_to n.conn a.more))
    ∙ ap (λ bs. bs ++ bytes_sent_to n.conn a.more) reading
    ∙ ap (λ bs. joined since ++ bs) (sym (joined_sent n.conn a.more))
    ∙ sym (joined-append since (sent_to n.conn a.more))

-- ---- its map

-- its near cache is the one that its machine goes by
pub same_near : (settings : Settings) (r : Run) (n : NearClient) (a : IsLive settings r n) → a.one.near ≡ a.goes.near
same_near settings r n a = (let both : Some a.one.near ≡ Some a.goes.near = sym a.one.keeps ∙ a.goes.tied.listens in cc)

pub named_short : (settings : Settings) (r : Run) (n : NearClient) (a : IsLive settings r n) → 2 * length a.name ≤ most_line_bytes
named_short settings r n a = subst (λ (name : List ℕ). 2 * length name ≤ most_line_bytes) (ap (λ (near : Near). near.name) (same_near settings r n a) ∙ a.goes.named) a.one.short

pub map_named : (settings : Settings) (r : Run) (n : NearClient) (a : IsLive settings r n) → map_name n ≡ a.name
map_named settings r n a = ap (λ (near : Option Near). option_map_or (λ (x : Near). x.name) near []) a.goes.tied.listens ∙ a.goes.named

-- what it keeps for a key
pub kept_is : (settings : Settings) (r : Run) (n : NearClient) (a : IsLive settings r n) (key : List ℕ) → value_kept n key ≡ hit key a.goes.near
kept_is settings r n a key = ap (option_and_then (hit key)) a.goes.tied.listens
