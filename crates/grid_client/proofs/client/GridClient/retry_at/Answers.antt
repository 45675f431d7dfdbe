use Rattle.std.proofs.Common.{◌≡◌, ◌+◌, ◌<◌, Some, None, length, sym, ap, ◌∙◌, subst}
use Rattle.std.specs.Prelude.{slice_set}
use Rattle.std.specs.Vec.{with_item}
use Rattle.std.proofs.lemmas.Option.{slice_get-get_or}
use Rattle.grid_client.specs.Calls.{sending_of}
use Rattle.grid_client.specs.Rows.{leader_in}
use Rattle.grid_client.specs.States.{State, target, HasRetriedAt}
use Rattle.grid_client.specs.contracts.client.GridClient.{the_view}
use Rattle.grid_client.specs.declared.calls.Call.{Call}
use Rattle.grid_client.proofs.Asking.{no_target}
use Rattle.grid_client.proofs.client.GridClient.retry_at.Goals as goal

pub returns-in_default-clause-no_connection : goal.returns-in_default-clause-no_connection
returns-in_default-clause-no_connection c =
    let s = c.args.self.now in
    let p = c.index-call.result.now.partition in
    let none : target p s ≡ None = cc (ap (λ (x : State). target p x) c.self.view_is) in
    λ _. no_target (leader_in p s.rows) s.connections none

pub returns-clause-ok : goal.returns-clause-ok
returns-clause-ok c =
    let i = c.self.inside in
    let s = the_view i in
    let call = c.index-call.result.now in
    let within : c.args.place < length i.calls.items = subst (λ (x : State). c.args.place < length x.calls) (sym c.self.view_is) c.requires in
    let goes : target call.partition s ≡ Some c.in-Some.conn = cc (ap (λ (x : State). target call.partition x) c.self.view_is) in
    subst (λ (x : State). HasRetriedAt c.args.place x (the_view (record i { calls = with_item i.calls c.args.place c.in_ok-again.again; next = i.next + 1 })) c.in_ok-sending.sending) c.self.view_is (record {
      call = call;
      at = slice_get-get_or i.calls.items c.args.place call within ∙ ap Some (sym c.index-call.ensures);
      conn = c.in-Some.conn;
      goes = goes;
      sent = c.in_ok-sending.ensures ∙ ap sending_of c.in_ok-again.ensures.call;
      after = ap (λ (x : Call). record s { calls = slice_set i.calls.items c.args.place x; next = i.next + 1 }) c.in_ok-again.ensures.call;
    })
