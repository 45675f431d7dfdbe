use Rattle.std.proofs.Common.{rules, ◌≡◌, pos, [], ◌∷◌, ◌++◌}
use Rattle.fixed_fields.specs.Fields.{int32_bytes}
use Rattle.fixed_fields.specs.Spelled.{request_head}
use Rattle.event_codecs.specs.Events.{entry_kind}
use Rattle.event_codecs.specs.Writing.{Appended, frame, value_frame, unfragmented_event, kind_of_change, entry_frames}
use Rattle.event_codecs.proofs.Appending.{appended_more, same_frames, whole}
use Rattle.event_codecs.proofs.writing.write_entry_event.Goals as goal

first : (c : goal.After-drop-first-2) → c.as_slice.result.now ≡ request_head entry_kind c.args.correlation (pos c.args.partition) ++ int32_bytes (pos (kind_of_change c.args.change.now))
first c = search rules

written : (c : goal.After-drop-first-2) → Appended [] c.from_vec.result (entry_frames c.args.correlation c.args.partition c.args.change.now c.args.with_value)
written c =
    let two = appended_more _ _ _ _ _ c.in_ok-write_part.ensures c.in_ok-write_part-2.ensures in
    let three = appended_more _ _ _ _ _ two c.in_ok-write_value.ensures in
    let four = appended_more _ _ _ _ _ three c.in_ok-write_value-2.ensures in
    whole c.new-event.ensures.items c.from_vec.ensures
    (same_frames four (λ i. frame unfragmented_event (first c i) ∷ frame 0 (c.as_slice-2.ensures i) ∷ value_frame 0 (c.told.ensures i) ∷ value_frame 8192 (c.told-2.ensures i) ∷ []))

pub returns-clause-bytes : goal.returns-clause-bytes
returns-clause-bytes c = (written c).bytes

pub returns-clause-limits : goal.returns-clause-limits
returns-clause-limits c = (written c).limits
