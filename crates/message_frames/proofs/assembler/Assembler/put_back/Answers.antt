use Rattle.std.proofs.Common.{◌≡◌, take, ap, sym, subst, ◌∙◌, arith}
use Rattle.message_frames.specs.Lists.{list_at, frames_in, assembly_of, IsSound}
use Rattle.message_frames.specs.Tracks.{Held, held_in, taken_back}
use Rattle.message_frames.specs.declared.control.Control.{Control}
use Rattle.message_frames.proofs.Rooms.{unused_dropped}
use Rattle.message_frames.proofs.SameLists.{AreSame, assembly_same, sound_same}
use Rattle.message_frames.proofs.assembler.Assembler.put_back.Goals as goal

-- what was before, in lists of which the unused ones are let go
same : (c : goal.After-drop-messages) → AreSame (taken_back c.args.track.items (held_in c.args.self.now.lists.items c.args.messages.items)).lists (frames_in c.truncate.new.self.items)
same c k =
    let there : frames_in c.take_back-first.new.lists.items ≡ (taken_back c.args.track.items (held_in c.args.self.now.lists.items c.args.messages.items)).lists = ap (λ (h : Held). h.lists) c.take_back-first.ensures.held in
    ap (λ lists. list_at (frames_in lists) k) c.truncate.ensures.items
    ∙ ap (λ (control : Control). list_at (frames_in (take control.lists c.take_back-first.new.lists.items)) k) c.copy_from.ensures
    ∙ unused_dropped c.args.before.now.lists c.take_back-first.new.lists.items (λ j above. ap (λ lists. list_at lists j) there ∙ c.requires.sound.unused j above) k
    ∙ ap (λ lists. list_at lists k) there

pub returns-clause-state : goal.returns-clause-state
returns-clause-state c =
    ap (λ control. assembly_of control (frames_in c.truncate.new.self.items)) c.copy_from.ensures
    ∙ assembly_same (taken_back c.args.track.items (held_in c.args.self.now.lists.items c.args.messages.items)).lists (frames_in c.truncate.new.self.items) (same c) c.args.before.now

pub returns-clause-sound : goal.returns-clause-sound
returns-clause-sound c = record {
  control = subst (λ control. IsSound control (frames_in c.truncate.new.self.items)) (sym c.copy_from.ensures)
      (sound_same (taken_back c.args.track.items (held_in c.args.self.now.lists.items c.args.messages.items)).lists (frames_in c.truncate.new.self.items) (same c) c.args.before.now c.requires.sound);
  count = omega (arith, c.requires.count, c.take_back-first.ensures.count, c.truncate.ensures.len, ap (λ (control : Control). control.lists) c.copy_from.ensures);
}
