use Rattle.std.proofs.Common.{None, [], length, sym, ◌∙◌, ap, arith}
use Rattle.frame_codec.specs.FrameReaders.{standing as frames_standing}
use Rattle.message_frames.specs.Assemblers.{state_of}
use Rattle.message_frames.specs.Messages.{prefix_of}
use Rattle.message_frames.specs.Streams.{IsHearing}
use Rattle.message_frames.specs.MessageReaders.{Live, StandsFor}
use Rattle.message_frames.proofs.Shown.{standing_first}
use Rattle.message_frames.proofs.stream.Stream.new.Goals as goal

stands : (c : goal.After-new-2) → StandsFor (Live c.args.prefix 0 c.new.result (state_of c.new-2.result)) c.args.prefix []
stands c =
    ap (λ frames. Live c.args.prefix 0 frames (state_of c.new-2.result)) (c.new.ensures.stands ∙ ap (λ bytes. frames_standing (length bytes) []) c.prefix_bytes-at.ensures)
    ∙ ap (λ state. Live c.args.prefix 0 (frames_standing (length (prefix_of c.args.prefix)) []) state) c.new-2.ensures.state
    ∙ sym (standing_first c.args.prefix)

hearing : (c : goal.After-new-2) → IsHearing (record { prefix = c.args.prefix; begun = 0; frames = c.new.result; assembler = c.new-2.result; fault = None })
hearing c = record {
  sound = c.new-2.ensures.sound;
  shortest = c.new-2.ensures.shortest ∙ c.shortest_start.ensures;
  within = omega arith;
  text = [];
  stands = stands c;
}

pub returns-clause-stands : goal.returns-clause-stands
returns-clause-stands c = stands c

pub returns-clause-rest : goal.returns-clause-rest
returns-clause-rest c = record { hearing = hearing c; few = c.new-2.ensures.few }
