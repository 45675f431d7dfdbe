use Rattle.std.proofs.Common.{◌++◌, sym, ◌∙◌, ap, subst}
use Rattle.script_lang.specs.Words.{whole_lines, unfinished}
use Rattle.grid_cli.proofs.ReplayLaws.{room_without_limit, line_read, line_stops, limit_at_newline, stops_for_memory}
use Rattle.grid_cli.specs.Replays.{ended_line}
use Rattle.grid_cli.specs.Transcribing.{HasRoomFor}
use Rattle.grid_cli.proofs.replay.Replay.complete.Goals as goal

pub returns-in-Some-clause-stops : goal.returns-in-Some-clause-stops
returns-in-Some-clause-stops g c =
    limit_at_newline c.args.self.now c.in-Some.what c.stop_at_limit.result c.args.end.now (g.K.Sink.taken c.args.out.now) (g.K.Sink.taken c.stop_at_limit.new.out) c.requires.one
    (λ forms skips read written has. sym (c.limit_in.ensures forms skips read written has) ∙ c.in-Some.is)
    (λ forms skips read written has. c.stop_at_limit.ensures.concludes forms skips (whole_lines read) written has.follows)

pub returns-in_default-extend_from_slice-clause-stops : goal.returns-in_default-extend_from_slice-clause-stops
returns-in_default-extend_from_slice-clause-stops g c = stops_for_memory c.args.self.now (ended_line c.args.end.now) (g.K.Sink.taken c.args.out.now)

pub transcribe-transcribed-requires : goal.transcribe-transcribed-requires
transcribe-transcribed-requires g c =
    let r = c.requires.read in
    let is = c.as_slice.ensures.value ∙ c.in-Ok.ensures.items ∙ ap (λ u. u ++ c.args.end.now) r.4.rest in
    record { follows = (r.0, r.1, whole_lines r.2, r.3, r.4.follows, subst (HasRoomFor (whole_lines r.2)) (sym is) (room_without_limit r.2 (unfinished r.2 ++ c.args.end.now) r.4.within (sym (c.limit_in.ensures r.0 r.1 r.2 r.3 r.4) ∙ c.in_default.is))) }

pub returns-in-Ok-transcribed-clause-goes : goal.returns-in-Ok-transcribed-clause-goes
returns-in-Ok-transcribed-clause-goes g c = λ forms skips read written has.
    let t = c.in-Ok-transcribed.ensures.goes forms skips (whole_lines read) written has.follows in (
      t.0,
      t.1,
      line_read c.args.self.now (record { transcriber = c.transcribe-transcribed.new.self; unfinished = c.clear.new.self }) skips t.0 read written t.1 c.as_slice.result.now c.args.end.now has c.requires.one
          (sym (c.limit_in.ensures forms skips read written has) ∙ c.in_default.is)
          (c.as_slice.ensures.value ∙ c.in-Ok.ensures.items ∙ ap (λ u. u ++ c.args.end.now) has.rest) t.2 c.clear.ensures.items,
      t.3,
    )

pub returns-in-Err-clause-stops : goal.returns-in-Err-clause-stops
returns-in-Err-clause-stops g c = λ forms skips read written has.
    let t = c.in-Err.ensures.stops forms skips (whole_lines read) written has.follows in (
      t.0,
      t.1,
      line_stops c.in-Err.status (t.0 ++ skips) read (written ++ t.1) c.as_slice.result.now c.args.end.now has.within c.requires.one
          (sym (c.limit_in.ensures forms skips read written has) ∙ c.in_default.is)
          (c.as_slice.ensures.value ∙ c.in-Ok.ensures.items ∙ ap (λ u. u ++ c.args.end.now) has.rest) t.2,
      t.3,
    )
