use Rattle.std.proofs.Common.{◌≡◌, ℕ, ◌+◌, List, [], refl, ◌++◌, length, sym, ◌∙◌, ap, subst, arith, vec_len}
use Rattle.message_frames.specs.Lists.{frames_in, IsSound, assembly_of, renumbered, spot_with, spot_lists, lists_of}
use Rattle.message_frames.specs.declared.control.OpenChain.{OpenChain}
use Rattle.message_frames.specs.declared.control.Spot.{Spot}
use Rattle.message_frames.specs.declared.control.Control.{Control}
use Rattle.message_frames.proofs.Settled.{open_lists, renumbered_control, same_renumbered, sound_renumbered, length-spot_lists, spot_lists_few, spot_lists_same, sound_in_all}
use Rattle.message_frames.proofs.assembler.settle.Goals as goal
use Rattle.message_frames.proofs.assembler.settle.Goals.{After-drop-lists}

pub move_chains-control-requires-clause-sound : goal.move_chains-control-requires-clause-sound
move_chains-control-requires-clause-sound c =
    let control = c.args.control.now in
    rw c.as_slice.ensures.value (sound_in_all control.spot control (frames_in c.args.lists.now.items) (vec_len c.args.lists.now) refl c.requires.sound c.requires.count)

abbrev settled : After-drop-lists → Control
settled c = record { spot = c.move_message-control.result; chains = c.move_chains-control.result; lists = c.len-control.result; complete = c.args.control.now.complete }

-- a control of these parts
abbrev control_of : ℕ → Spot → List OpenChain → ℕ → Control
control_of complete spot chains lists = record { spot = spot; chains = record { items = chains }; lists = lists; complete = complete }

message_list_same : (c : After-drop-lists) → spot_lists (frames_in c.move_chains-control.new.lists.items) c.args.control.now.spot ≡ spot_lists (frames_in c.args.lists.now.items) c.args.control.now.spot
message_list_same c =
    spot_lists_same c.args.control.now (frames_in c.args.lists.now.items) c.requires.sound (frames_in c.move_chains-control.new.lists.items)
    (λ k sound. c.move_chains-control.ensures.others k (rw c.as_slice.ensures.value sound))

kept_are : (c : After-drop-lists) → frames_in c.move_message-control.new.kept.items ≡ open_lists (frames_in c.args.lists.now.items) c.args.control.now.chains.items c.args.control.now.spot
kept_are c =
    c.move_message-control.ensures.kept
    ∙ ap (λ front. front ++ spot_lists (frames_in c.move_chains-control.new.lists.items) c.args.control.now.spot) (c.move_chains-control.ensures.kept ∙ ap (lists_of (frames_in c.args.lists.now.items)) c.as_slice.ensures.value)
    ∙ ap (λ last. lists_of (frames_in c.args.lists.now.items) c.args.control.now.chains.items ++ last) (message_list_same c)

control_is : (c : After-drop-lists) → settled c ≡ renumbered_control c.args.control.now
control_is c =
    let count : vec_len c.move_chains-control.new.kept ≡ length c.args.control.now.chains.items = c.move_chains-control.ensures.kept_count ∙ ap length c.as_slice.ensures.value in
    let spot : c.move_message-control.result ≡ spot_with (length c.args.control.now.chains.items) c.args.control.now.spot = c.move_message-control.ensures.spot ∙ ap (λ n. spot_with n c.args.control.now.spot) count in
    let chains : c.move_chains-control.result.items ≡ renumbered 0 c.args.control.now.chains.items = c.move_chains-control.ensures.chains ∙ ap (renumbered 0) c.as_slice.ensures.value in
    let lists : c.len-control.result ≡ length c.args.control.now.chains.items + length (spot_lists [] c.args.control.now.spot) =
    omega (arith, c.len-control.ensures, c.move_message-control.ensures.count, count, length-spot_lists [] (frames_in c.move_chains-control.new.lists.items) c.args.control.now.spot) in
    ap (λ s. control_of c.args.control.now.complete s c.move_chains-control.result.items c.len-control.result) spot
    ∙ ap (λ cs. control_of c.args.control.now.complete (spot_with (length c.args.control.now.chains.items) c.args.control.now.spot) cs c.len-control.result) chains
    ∙ ap (λ n. control_of c.args.control.now.complete (spot_with (length c.args.control.now.chains.items) c.args.control.now.spot) (renumbered 0 c.args.control.now.chains.items) n) lists

pub returns-clause-same : goal.returns-clause-same
returns-clause-same c =
    ap (λ control. assembly_of control (frames_in c.move_message-control.new.kept.items)) (control_is c)
    ∙ ap (assembly_of (renumbered_control c.args.control.now)) (kept_are c)
    ∙ same_renumbered c.args.control.now (frames_in c.args.lists.now.items) c.requires.sound

pub returns-clause-few : goal.returns-clause-few
returns-clause-few c =
    omega (arith, c.move_message-control.ensures.count, c.move_chains-control.ensures.kept_count, c.as_slice.ensures.fits, spot_lists_few (frames_in c.move_chains-control.new.lists.items) c.args.control.now.spot)

pub returns-clause-sound : goal.returns-clause-sound
returns-clause-sound c =
    subst (λ control. IsSound control (frames_in c.move_message-control.new.kept.items)) (sym (control_is c))
    (subst (λ lists. IsSound (renumbered_control c.args.control.now) lists) (sym (kept_are c)) (sound_renumbered c.args.control.now (frames_in c.args.lists.now.items) c.requires.sound))
