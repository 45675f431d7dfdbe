-- A piece of its output tells a near client what its messages say.
use Rattle.std.proofs.Common.{◌≡◌, ℕ, Bool, true, false, cond, List, [], ◌∷◌, ◌++◌, Option, Some, None, refl, ap, sym, ◌∙◌, subst}
use Rattle.std.specs.Result.{result_ok}
use Rattle.message_frames.specs.declared.message.Message.{Message}
use Rattle.call_engine.specs.Calls.{Settings}
use Rattle.near_protocol.specs.Client.{Client, Said, handled}
use Rattle.grid_client.specs.Nears.{Value}
use Rattle.grid_client.specs.Calls.{number_in, awaited_number}
use Rattle.grid_client.specs.Messages.{accepted_of}
use Rattle.grid_client.specs.States.{State}
use Rattle.grid_client.specs.Hearing.{nothing, is_welcome, welcomed, told_by_event, told_by_number, told_by_head, told_by_message, told_by_messages, reading}
use Rattle.near_run_laws.specs.Maps.{keyed}
use Rattle.near_run_laws.specs.Readings.{messages_sent}
use Rattle.grid_client.specs.Rows.{version_in}
use Rattle.grid_client.specs.Ties.{AreBelow}
use Rattle.near_run_laws.specs.Clients.{AreGets, AreAwaited, GoesWith}
use Rattle.near_run_laws.specs.Pieces.{IsQuiet, AllMean, all_handled, EveryPieceIsHeard}
use Rattle.near_run_laws.proofs.Clients.{the_head, head_is, none_answered, every_message_is_heard}

-- other connections' facts don't touch it
connected : (c : ℕ) (name : List ℕ) (s t : State) (m : Client (List ℕ) Value) → GoesWith c name s m → t.near ≡ s.near → t.rows ≡ s.rows → t.calls ≡ s.calls → t.next ≡ s.next → GoesWith c name t m
connected c name s t m g near rows calls next = record {
  near = g.near;
  tied = record {
    listens = near ∙ g.tied.listens;
    capacity = g.tied.capacity;
    entries = g.tied.entries;
    waiting = g.tied.waiting;
    rows = λ p. g.tied.rows p ∙ ap (version_in p) (sym rows);
    kept = g.tied.kept;
    asked = g.tied.asked;
    numbers = subst (λ n. AreBelow n g.near.waiting) (sym next) g.tied.numbers;
  };
  named = g.named;
  gets = subst AreGets (sym calls) g.gets;
  awaited = subst (λ cs. AreAwaited c cs g.near.waiting) (sym calls) g.awaited;
}

-- what says nothing changes nothing
quiet_heard : (c : ℕ) (name : List ℕ) (s : State) (m : Client (List ℕ) Value) (message : Message) → GoesWith c name s m → IsQuiet message → GoesWith c name (told_by_message c message s).after m
quiet_heard c name s m message g q = subst (λ (z : State). GoesWith c name z m) (sym after) (by (is_welcome (the_head q.kind q.correlation)))
  where
    number : (x : Option ℕ) → awaited_number c q.kind s.calls x ≡ None
    number None = refl
    number (Some n) = ap (λ b. cond b (Some n) None) (none_answered c n q.kind s.calls g.gets q.apart)

    after : (told_by_message c message s).after ≡ (cond (is_welcome (the_head q.kind q.correlation)) (nothing (welcomed c (accepted_of message) s)) (told_by_event None s)).after
    after =
        ap (λ x. (told_by_head c x message s).after) (head_is message q.kind q.correlation q.head)
        ∙ ap (λ x. (told_by_number c x (the_head q.kind q.correlation) message s).after) (number (number_in q.correlation))
        ∙ ap (λ r. (cond (is_welcome (the_head q.kind q.correlation)) (nothing (welcomed c (accepted_of message) s)) (told_by_event (result_ok r) s)).after) q.unknown

    welcome : (x : Option (Option ℕ)) → GoesWith c name (welcomed c x s) m
    welcome None = g
    welcome (Some uuid) = connected c name s (welcomed c (Some uuid) s) m g refl refl refl refl

    by : (b : Bool) → GoesWith c name (cond b (nothing (welcomed c (accepted_of message) s)) (told_by_event None s)).after m
    by true = welcome (accepted_of message)
    by false = g

all_heard : (settings : Settings) (client c : ℕ) (name : List ℕ) (messages : List Message) (says : List (Option (Said (List ℕ)))) (s : State) (m : Client (List ℕ) Value) → GoesWith c name s m → AllMean name messages says
    → GoesWith c name (told_by_messages c messages s).after (all_handled settings client c name says m)
all_heard settings client c name [] [] s m g all = g
all_heard settings client c name [] (said ∷ more) s m g all = absurd all
all_heard settings client c name (message ∷ messages) [] s m g all = absurd all
all_heard settings client c name (message ∷ messages) (None ∷ more) s m g all =
    all_heard settings client c name messages more (told_by_message c message s).after m (quiet_heard c name s m message g all.0) all.1
all_heard settings client c name (message ∷ messages) (Some said ∷ more) s m g all =
    all_heard settings client c name messages more (told_by_message c message s).after (handled (keyed settings c name client) said m) (every_message_is_heard settings client c name s m message said g all.0) all.1

pub every_piece_is_heard : EveryPieceIsHeard
every_piece_is_heard settings client c name s m sent text piece says g h all =
    subst (λ ms. GoesWith c name (told_by_messages c ms (reading c (text ++ piece) s)).after (all_handled settings client c name says m)) (sym h.now)
    (all_heard settings client c name (messages_sent h.new) says (reading c (text ++ piece) s) m (connected c name s (reading c (text ++ piece) s) m g refl refl refl refl) all)
