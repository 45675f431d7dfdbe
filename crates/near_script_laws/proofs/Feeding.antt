-- A near client that reads on goes on with its machine.
use Rattle.std.proofs.Common.{◌≡◌, ℕ, ◌+◌, ◌≤◌, false, List, ◌++◌, length, map, drop, Option, ap, sym, ◌∙◌, subst, append_assoc}
use Rattle.std.proofs.lemmas.List.{append_cancel_left, take-append-drop}
use Rattle.std.proofs.Math.Seq.{drop-append_seam}
use Rattle.frame_codec.specs.Laws.{spelled}
use Rattle.frame_codec.specs.declared.frames.Frame.{Frame}
use Rattle.message_frames.specs.Assembly.{most_messages}
use Rattle.message_frames.specs.Messages.{messages_of}
use Rattle.message_frames.proofs.Staying.{heard_messages_stay}
use Rattle.call_engine.specs.Calls.{Settings}
use Rattle.near_protocol.specs.Client.{Said}
use Rattle.grid_client.specs.Hearing.{told_by_piece}
use Rattle.replay_run.specs.Runs.{Run}
use Rattle.near_run_laws.specs.Messages.{sent_to}
use Rattle.near_run_laws.specs.Clients.{GoesWith}
use Rattle.near_run_laws.specs.Readings.{output, messages_sent, HearsNext}
use Rattle.near_run_laws.specs.Pieces.{AllMean}
use Rattle.near_run_laws.specs.Feeds.{all_said, HasRead}
use Rattle.near_run_laws.specs.Spoken.{HasSpoken}
use Rattle.near_run_laws.proofs.Feeds.{every_feed_is_followed}
use Rattle.near_run_laws.proofs.Readings.{every_output_is_heard}
use Rattle.near_run_laws.proofs.Spoken.{every_near_run_speaks}
use Rattle.script_run.specs.NearClients.{NearClient, piece, fed}
use Rattle.script_run.proofs.OneConnection.{fed_one}
use Rattle.near_script_laws.proofs.Told.{fed_same}
use Rattle.near_script_laws.proofs.Names.{machine_named}
use Rattle.near_script_laws.proofs.Patterns.{all_said-append, mean-append, Parted, parted, same_cut, says_as_much, sent_parts}
use Rattle.near_script_laws.proofs.Facts.{Stands, IsLive, joined, joined_spelled, named_short}
use Rattle.near_script_laws.proofs.Standing.{modest}

module _ (settings : Settings) (r : Run) (s : Stands settings r) (n : NearClient) (a : IsLive settings r n) (room : length (sent_to n.conn r.appended) ≤ most_messages) where
  -- ---- what was sent to it

  pub spoken : HasSpoken a.name r a.machine a.earlier a.heard
  spoken = every_near_run_speaks settings a.client a.name r a.machine a.earlier a.heard a.run (machine_named settings a.client a.name a.run s.run)
      (modest settings r a.machine.conn a.name s (named_short settings r n a) (subst (λ (c : ℕ). length (sent_to c r.appended) ≤ most_messages) (sym a.conn) room))

  since_is : a.since ≡ map spelled spoken.sent
  since_is = append_cancel_left a.earlier a.since (map spelled spoken.sent) (sym a.appended ∙ ap (λ c. sent_to c r.appended) (sym a.conn) ∙ spoken.bytes)

  pub output_is : n.read ++ n.unread ≡ output spoken.sent
  output_is = a.reading ∙ ap joined since_is ∙ joined_spelled spoken.sent

  -- Where its messages are these and those, what they say is what it has heard and what it has yet to read.
  pub record Cut (done rest : List (List Frame)) : Type 0 where
    pub says : List (Option (Said (List ℕ)))
    pub mean : AllMean a.name (messages_sent rest) says
    pub unread : a.machine.unread ≡ all_said says

  pub cut : (done rest : List (List Frame)) → spoken.sent ≡ done ++ rest → messages_of false n.read ≡ messages_sent done → Cut done rest
  cut done rest order before =
      let p = parted a.name (messages_sent done) (messages_sent rest) spoken.says (subst (λ ms. AllMean a.name ms spoken.says) (ap messages_sent order ∙ sent_parts done rest) spoken.mean) in
      let as_much : length (all_said p.first) ≡ length a.heard =
      says_as_much a.name (messages_sent done) p.first a.says p.mean (subst (λ ms. AllMean a.name ms a.says) before a.mean) ∙ ap length (sym a.is_heard) in
      let both = same_cut (all_said p.first) (all_said p.behind) a.heard a.machine.unread as_much (sym (all_said-append p.first p.behind) ∙ ap all_said (sym p.are) ∙ spoken.all) in
      record { says = p.behind; mean = p.then; unread = sym both.1 }

  -- ---- a piece of it

  module _ (most : ℕ) where
    whole_is : (n.read ++ piece most n) ++ drop most n.unread ≡ output spoken.sent
    whole_is = append_assoc n.read (piece most n) (drop most n.unread) ∙ ap (λ bs. n.read ++ bs) (take-append-drop most n.unread) ∙ output_is

    h : HearsNext spoken.sent n.read (piece most n)
    h = every_output_is_heard spoken.sent n.read (piece most n) (drop most n.unread) spoken.stream whole_is

    rest : Cut h.done (h.new ++ h.later)
    rest = cut h.done (h.new ++ h.later) (h.order ∙ append_assoc h.done h.new h.later) h.before

    both : Parted a.name (messages_sent h.new) (messages_sent h.later) rest.says
    both = parted a.name (messages_sent h.new) (messages_sent h.later) rest.says (subst (λ ms. AllMean a.name ms rest.says) (sent_parts h.new h.later) rest.mean)

    unread_is : a.machine.unread ≡ all_said both.first ++ all_said both.behind
    unread_is = rest.unread ∙ ap all_said both.are ∙ all_said-append both.first both.behind

    u : HasRead settings a.client a.name r a.machine a.earlier (a.heard ++ all_said both.first) (told_by_piece a.machine.conn n.read (piece most n) n.state).after (all_said both.behind)
    u = every_feed_is_followed settings a.client a.name r a.machine a.earlier a.heard n.state spoken.sent n.read (piece most n) both.first (all_said both.behind) a.run
        (subst (λ (c : ℕ). GoesWith c a.name n.state a.machine.client) (sym a.conn) a.goes) h both.mean unread_is

    now_heard : messages_of false (n.read ++ piece most n) ≡ messages_of false n.read ++ messages_sent h.new
    now_heard =
        let stays = heard_messages_stay false n.read (piece most n) in
        stays.1 ∙ ap (λ ms. messages_of false n.read ++ ms) (sym (ap (drop (length (messages_of false n.read))) stays.1 ∙ drop-append_seam (messages_of false n.read) stays.0) ∙ h.now)

    pub fed_on : IsLive settings r (fed most n)
    fed_on = record {
      client = a.client;
      name = a.name;
      machine = u.machine;
      earlier = a.earlier;
      heard = a.heard ++ all_said both.first;
      run = u.run;
      conn = u.conn ∙ a.conn;
      goes = subst (λ (c : ℕ). GoesWith c a.name (told_by_piece c n.read (piece most n) n.state).after u.machine.client) a.conn u.goes;
      number = u.number ∙ a.number ∙ sym (fed_same most n).next;
      its_client = (fed_same most n).client ∙ a.its_client;
      one = fed_one most n a.one;
      text = a.text;
      connection = a.connection;
      there = a.there;
      sent = a.sent;
      messages = a.messages ∙ sym u.number;
      few = subst (λ (k : ℕ). k ≤ r.lines + 3) (sym u.number) a.few;
      elsewhere = a.elsewhere;
      since = a.since;
      appended = a.appended;
      reading = append_assoc n.read (piece most n) (drop most n.unread) ∙ ap (λ bs. n.read ++ bs) (take-append-drop most n.unread) ∙ a.reading;
      says = a.says ++ both.first;
      mean = subst (λ ms. AllMean a.name ms (a.says ++ both.first)) (sym now_heard) (mean-append a.name (messages_of false n.read) (messages_sent h.new) a.says both.first a.mean both.mean);
      is_heard = ap (λ xs. xs ++ all_said both.first) a.is_heard ∙ sym (all_said-append a.says both.first);
    }
