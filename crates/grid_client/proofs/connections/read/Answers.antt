use Rattle.std.proofs.Common.{◌≡◌, true, false, Some, ◌++◌, option_map, sym, ap, ◌∙◌}
use Rattle.std.specs.Prelude.{slice_get, slice_set}
use Rattle.std.specs.List.{position}
use Rattle.std.proofs.lemmas.Option.{slice_get-get_or}
use Rattle.std.proofs.lemmas.Result.{on_ok_weaker, IfOk-weaker}
use Rattle.message_frames.specs.MessageReaders.{Hearing, standing}
use Rattle.message_frames.specs.Messages.{messages_of}
use Rattle.grid_client.specs.Connections.{is_conn}
use Rattle.grid_client.specs.declared.connections.Connection.{Connection}
use Rattle.grid_client.proofs.Lists.{position_is, position_finds, position_changed, position_not_any, behind}
use Rattle.grid_client.proofs.connections.read.Goals as goal

pub unreachable-requires : goal.unreachable-requires
unreachable-requires c =
    let test = is_conn c.args.conn in
    let off = position_not_any test c.args.connections.now.items (c.in-None.ensures ∙ ap (position test) c.as_slice.ensures.value) in
    let e : true ≡ false = sym c.requires ∙ off in
    absurd cc

pub returns-clause-connections : goal.returns-clause-connections
returns-clause-connections c text stands =
    let test = is_conn c.args.conn in
    let items = c.args.connections.now.items in
    let place = c.in-Some.place in
    let old : Connection = c.index_mut-connection.result.now in
    let found = c.in-Some.ensures ∙ ap (position test) c.as_slice.ensures.value in
    let at : slice_get items place ≡ Some old = slice_get-get_or items place old (position_is test items place found).1 ∙ ap Some (sym c.index_mut-connection.ensures.value) in
    let its : Some old.reader ≡ Some (standing false text) = sym (ap (option_map (λ (x : Connection). x.reader)) (position_finds test items place old found at)) ∙ stands in
    let reader : old.reader ≡ standing false text = cc in
    on_ok_weaker c.feed.result
    (λ goes. ap (λ (h : Hearing). slice_set items place (record old { reader = h })) (goes false text reader)
    ∙ position_changed test (λ (x : Connection). record x { reader = standing false (text ++ c.args.piece.now) }) items place old found at)
    c.feed.ensures.stands

pub returns-clause-messages : goal.returns-clause-messages
returns-clause-messages c text stands =
    let test = is_conn c.args.conn in
    let items = c.args.connections.now.items in
    let place = c.in-Some.place in
    let old : Connection = c.index_mut-connection.result.now in
    let found = c.in-Some.ensures ∙ ap (position test) c.as_slice.ensures.value in
    let at : slice_get items place ≡ Some old = slice_get-get_or items place old (position_is test items place found).1 ∙ ap Some (sym c.index_mut-connection.ensures.value) in
    let its : Some old.reader ≡ Some (standing false text) = sym (ap (option_map (λ (x : Connection). x.reader)) (position_finds test items place old found at)) ∙ stands in
    let reader : old.reader ≡ standing false text = cc in
    IfOk-weaker c.feed.result _ _ (λ fed goes. behind (messages_of false text) fed.messages.items (messages_of false (text ++ c.args.piece.now)) (goes false text reader)) c.feed.ensures.messages

pub returns-clause-fault : goal.returns-clause-fault
returns-clause-fault c text stands =
    let test = is_conn c.args.conn in
    let items = c.args.connections.now.items in
    let place = c.in-Some.place in
    let old : Connection = c.index_mut-connection.result.now in
    let found = c.in-Some.ensures ∙ ap (position test) c.as_slice.ensures.value in
    let at : slice_get items place ≡ Some old = slice_get-get_or items place old (position_is test items place found).1 ∙ ap Some (sym c.index_mut-connection.ensures.value) in
    let its : Some old.reader ≡ Some (standing false text) = sym (ap (option_map (λ (x : Connection). x.reader)) (position_finds test items place old found at)) ∙ stands in
    let reader : old.reader ≡ standing false text = cc in
    IfOk-weaker c.feed.result _ _ (λ fed goes. goes false text reader) c.feed.ensures.fault
