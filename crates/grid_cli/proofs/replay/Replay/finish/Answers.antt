use Rattle.std.proofs.Common.{◌≡◌, ◌==◌, List, [], ◌∷◌, ℕ, None, ◌++◌, length, sym, ◌∙◌, ap, subst, false, append_assoc}
use Rattle.grid_edge.proofs.Told.{more_taken}
use Rattle.script_lang.specs.Words.{whole_lines, unfinished}
use Rattle.grid_cli.specs.Transcribing.{Concludes, HasRoomFor}
use Rattle.grid_cli.specs.Replays.{last_line}
use Rattle.grid_cli.proofs.ReplayEnds.{no_last_line, last_line_is, lines_without_last, room_for_last, stopped_at_last}
use Rattle.grid_cli.proofs.replay.Replay.finish.Goals as goal

pub returns-then-is_empty-clause-concludes : goal.returns-then-is_empty-clause-concludes
returns-then-is_empty-clause-concludes g c = λ forms skips read written has.
    let e = c.refuse_end.ensures.concludes forms skips (whole_lines read) written has.follows in
    let none : last_line (unfinished read) ≡ [] = ap last_line (sym has.rest) ∙ no_last_line c.args.self.now.unfinished.items (ap (λ (xs : List ℕ). length xs == 0) (sym c.as_slice-last.ensures.value) ∙ sym c.is_empty.ensures ∙ c.if-is_empty.true) in
    ([], e.0, subst (λ ls. Concludes forms None c.refuse_end.result skips ls (written ++ e.0)) (lines_without_last (whole_lines read) (unfinished read) none) e.1, e.2)

pub transcribe-requires : goal.transcribe-requires
transcribe-requires g c =
    let r = c.requires in
    let is = c.as_slice-last.ensures.value ∙ r.4.rest in
    let some : (length (unfinished r.2) == 0) ≡ false = ap (λ (xs : List ℕ). length xs == 0) (sym is) ∙ sym c.is_empty.ensures ∙ c.if-is_empty.false in
    record { follows = (r.0, r.1, whole_lines r.2, r.3, r.4.follows, subst (HasRoomFor (whole_lines r.2)) (sym is) (room_for_last (whole_lines r.2) (unfinished r.2) r.4.within.room some)) }

pub returns-in-Ok-clause-concludes : goal.returns-in-Ok-clause-concludes
returns-in-Ok-clause-concludes g c = λ forms skips read written has.
    let text : List ℕ = c.as_slice-last.result.now in
    let t = c.in-Ok.ensures.goes forms skips (whole_lines read) written has.follows in
    let e = c.refuse_end-in-Ok.ensures.concludes forms (t.0 ++ skips) (whole_lines read ++ text ∷ []) (written ++ t.1) t.2 in
    let is : text ≡ unfinished read = c.as_slice-last.ensures.value ∙ has.rest in
    let last : text ∷ [] ≡ last_line (unfinished read) = sym (last_line_is text (sym c.is_empty.ensures ∙ c.if-is_empty.false)) ∙ ap last_line is in (
      t.0,
      t.1 ++ e.0,
      subst (λ w. Concludes forms None c.refuse_end-in-Ok.result (t.0 ++ skips) (whole_lines read ++ last_line (unfinished read)) w) (append_assoc written t.1 e.0)
          (subst (λ ls. Concludes forms None c.refuse_end-in-Ok.result (t.0 ++ skips) (whole_lines read ++ ls) ((written ++ t.1) ++ e.0)) last e.1),
      more_taken (g.K.Sink.taken c.args.out.now) _ _ t.1 e.0 t.3 e.2,
    )

pub returns-in-Err-clause-concludes : goal.returns-in-Err-clause-concludes
returns-in-Err-clause-concludes g c = λ forms skips read written has.
    let text : List ℕ = c.as_slice-last.result.now in
    let t = c.in-Err.ensures.stops forms skips (whole_lines read) written has.follows in
    let is : text ≡ unfinished read = c.as_slice-last.ensures.value ∙ has.rest in
    let last : text ∷ [] ≡ last_line (unfinished read) = sym (last_line_is text (sym c.is_empty.ensures ∙ c.if-is_empty.false)) ∙ ap last_line is in (
      t.0,
      t.1,
      subst (λ ls. Concludes forms None c.in-Err.status (t.0 ++ skips) (whole_lines read ++ ls) (written ++ t.1)) last (stopped_at_last forms c.in-Err.status (t.0 ++ skips) (whole_lines read) text (written ++ t.1) t.2),
      t.3,
    )
