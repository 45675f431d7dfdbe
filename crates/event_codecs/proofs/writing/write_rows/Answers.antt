use Rattle.std.proofs.Common.{◌≡◌, negsuc, List, [], ◌∷◌, ◌++◌, map, rules}
use Rattle.frame_codec.specs.declared.frames.Frame.{Frame}
use Rattle.fixed_fields.specs.Spelled.{request_head}
use Rattle.event_codecs.specs.Events.{rows_kind}
use Rattle.event_codecs.specs.Writing.{Appended, frame, row_frame, begin_list, final_end_list, unfragmented_event, rows_frames}
use Rattle.event_codecs.proofs.Appending.{appended_more, same_frames, whole}
use Rattle.event_codecs.proofs.writing.write_rows.Goals as goal

first : (c : goal.After-drop-first-2) → c.as_slice.result.now ≡ request_head rows_kind c.args.correlation (negsuc 0)
first c = search rules

written : (c : goal.After-drop-first-2) → Appended [] c.from_vec.result (rows_frames c.args.correlation c.args.rows.now)
written c =
    let two = appended_more _ _ _ _ _ c.in_ok-write_part.ensures c.in_ok-write_part-2.ensures in
    let three = appended_more _ _ _ _ _ two c.in_ok-write_row_frames.ensures.frames in
    let four = appended_more _ _ _ _ _ three c.in_ok-write_part-3.ensures in
    let behind : List Frame = frame begin_list [] ∷ map row_frame c.args.rows.now ++ frame final_end_list [] ∷ [] in
    whole c.new-event.ensures.items c.from_vec.ensures (same_frames four (λ i. frame unfragmented_event (first c i) ∷ behind))

pub returns-clause-bytes : goal.returns-clause-bytes
returns-clause-bytes c = (written c).bytes

pub returns-clause-limits : goal.returns-clause-limits
returns-clause-limits c = (written c).limits
