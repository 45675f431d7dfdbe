-- A look-up whose get finds no memory is followed too.
use Rattle.std.proofs.Common.{◌≡◌, true, cond, ◌==◌, [], ◌∷◌, ◌++◌, map, Contains, refl, ap, sym, ◌∙◌, subst, append_assoc, append-nil}
use Rattle.std.specs.Prelude.{pos}
use Rattle.std.specs.Int.{w32, cast_signed}
use Rattle.grid_base.specs.Errors.{want_of_memory}
use Rattle.grid_base.specs.declared.calls.Request.{Request}
use Rattle.fixed_fields.specs.Responses.{error_bytes}
use Rattle.partition_protocol.proofs.RowFacts.{number_same}
use Rattle.call_engine.specs.Objects.{partition_object}
use Rattle.near_protocol.specs.Client.{Refusal}
use Rattle.near_protocol.specs.Near.{LooksUpInVain, new_grid, all_happened, looked_up_in_vain, missed_in_vain}
use Rattle.grid_client.specs.Calls.{correlation_of}
use Rattle.replay_run.specs.Runs.{Run, Appended, call_of, arrived, refusal, asked, happening, events_at}
use Rattle.near_run_laws.specs.Maps.{keyed}
use Rattle.near_run_laws.specs.Messages.{sent_to, AreBytesOf, AreSaid}
use Rattle.near_run_laws.specs.NearConnections.{machine_events}
use Rattle.near_run_laws.specs.Following.{Follows, step}
use Rattle.near_run_laws.specs.FollowingInVain.{EveryMissInVainIsFollowed}
use Rattle.near_run_laws.proofs.Sent.{sent_to-append, said-append}

pub every_miss_in_vain_is_followed : EveryMissInVainIsFollowed
every_miss_in_vain_is_followed settings client name key r s own a skips f request none skipped =
    subst (λ z. Follows settings client name z (step settings client name s (LooksUpInVain key))) (sym now) (subst (Follows settings client name after) (sym missed) it)
  where
    after : Run
    after = arrived r a [] (refusal a.made a.request (pos want_of_memory) 0 ∷ [])

    now : asked (partition_object settings) skips r own a ≡ arrived r a [] (refusal a.made a.request (pos want_of_memory) 0 ∷ [])
    now = ap (λ b. cond b (arrived r a [] (refusal a.made a.request (pos want_of_memory) 0 ∷ [])) (arrived r a (record { partition = a.request.partition; event = call_of a } ∷ []) (happening (partition_object settings) r own a))) skipped

    missed : step settings client name s (LooksUpInVain key) ≡ missed_in_vain s key
    missed = ap (looked_up_in_vain (keyed settings s.conn name client) s key) none

    -- what is sent
    on_it : (a.request.id.conn == s.conn) ≡ true
    on_it = number_same a.request.id.conn s.conn (ap (λ (q : Request). q.id.conn) request)

    sent : sent_to s.conn (refusal a.made a.request (pos want_of_memory) 0 ∷ []) ≡ error_bytes (correlation_of s.next_number) (pos want_of_memory) (cast_signed w32 0) (pos 0) ∷ []
    sent =
        ap (λ b. map (λ (x : Appended). x.bytes) (cond b (refusal a.made a.request (pos want_of_memory) 0 ∷ []) [])) on_it
        ∙ ap (λ (q : Request). error_bytes q.correlation (pos want_of_memory) (cast_signed w32 0) (pos 0) ∷ []) request

    it : Follows settings client name (arrived r a [] (refusal a.made a.request (pos want_of_memory) 0 ∷ [])) (missed_in_vain s key)
    it = record {
      grid = f.grid ∙ sym (ap (λ es. all_happened (partition_object settings) (keyed settings s.conn name client) (new_grid r.members r.backups) (machine_events es)) (append-nil r.events));
      near = record {
        connection = f.near.connection;
        there = f.near.there;
        member = f.near.member;
        opened = f.near.opened;
        listens = f.near.listens;
        events = λ p e i. f.near.events p e (subst (λ es. Contains (events_at p es) e) (append-nil r.events) i);
      };
      earlier = f.earlier;
      since = f.since ++ error_bytes (correlation_of s.next_number) (pos want_of_memory) (cast_signed w32 0) (pos 0) ∷ [];
      heard = f.heard;
      sent =
          sent_to-append s.conn r.appended (refusal a.made a.request (pos want_of_memory) 0 ∷ [])
          ∙ ap (λ xs. sent_to s.conn r.appended ++ xs) sent
          ∙ ap (λ xs. xs ++ error_bytes (correlation_of s.next_number) (pos want_of_memory) (cast_signed w32 0) (pos 0) ∷ []) f.sent
          ∙ append_assoc f.earlier f.since (error_bytes (correlation_of s.next_number) (pos want_of_memory) (cast_signed w32 0) (pos 0) ∷ []);
      said = subst (AreSaid name (f.since ++ error_bytes (correlation_of s.next_number) (pos want_of_memory) (cast_signed w32 0) (pos 0) ∷ [])) (append_assoc f.heard s.unread (Refusal s.next_number ∷ []))
          (said-append (AreBytesOf name) f.since (error_bytes (correlation_of s.next_number) (pos want_of_memory) (cast_signed w32 0) (pos 0) ∷ []) (f.heard ++ s.unread) (Refusal s.next_number ∷ []) f.said ((pos want_of_memory, (cast_signed w32 0, refl)), tt));
    }
