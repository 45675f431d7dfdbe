use Rattle.std.proofs.Common.{◌++◌, ◌∙◌, ap, List, ℕ}
use Rattle.std.specs.Option.{option_copied}
use Rattle.frame_codec.specs.Frames.{frame_bytes}
use Rattle.frame_codec.specs.Laws.{spelled}
use Rattle.request_codecs.specs.Openings.{authentication_correlation, authentication_frames, listener_frames, view_frames}
use Rattle.request_codecs.proofs.Writing.{all_written}
use Rattle.request_codecs.proofs.opening.write_opening.Goals as goal

pub returns : goal.returns
returns c =
    let a = authentication_frames authentication_correlation c.args.client in
    let l = listener_frames (option_copied c.args.near_map) in
    c.from_vec.ensures
    ∙ all_written frame_bytes c.in_ok-bytes.bytes.items c.write_authentication.new.out.items c.write_listener.new.out.items c.write_cluster_view.new.out.items a l view_frames
    c.in_ok-write_authentication.ensures c.in_ok-write_listener.ensures c.in_ok-write_cluster_view.ensures
    ∙ ap (λ (prefix : List ℕ). prefix ++ spelled (a ++ l ++ view_frames)) c.in_ok-bytes.ensures.items
