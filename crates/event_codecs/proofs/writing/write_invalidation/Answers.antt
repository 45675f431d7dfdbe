use Rattle.std.proofs.Common.{rules, ◌≡◌, pos, [], ◌∷◌, ◌++◌}
use Rattle.std.specs.Int.{w32, to_le_bytes}
use Rattle.fixed_fields.specs.Spelled.{request_head}
use Rattle.event_codecs.specs.Events.{invalidation_kind}
use Rattle.event_codecs.specs.Writing.{frame, unfragmented_event}
use Rattle.event_codecs.proofs.Appending.{appended_more, same_frames}
use Rattle.event_codecs.proofs.writing.write_invalidation.Goals as goal

first : (c : goal.After-drop-first-2) → c.as_slice.result.now ≡ request_head invalidation_kind c.args.correlation (pos c.args.partition) ++ (to_le_bytes w32 c.args.version ++ to_le_bytes w32 c.args.number)
first c = search rules

pub returns-clause-limits : goal.returns-clause-limits
returns-clause-limits c =
    let two = appended_more _ _ _ _ _ c.in_ok-write_part.ensures c.in_ok-write_part-2.ensures in
    let three = appended_more _ _ _ _ _ two c.in_ok-write_part-3.ensures in
    (same_frames three (λ i. frame unfragmented_event (first c i) ∷ frame 0 (c.as_slice-2.ensures i) ∷ frame 8192 (c.as_slice-3.ensures i) ∷ [])).limits
