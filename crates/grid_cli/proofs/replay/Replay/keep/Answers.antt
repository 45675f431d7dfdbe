use Rattle.std.proofs.Common.{refl, sym, ◌∙◌}
use Rattle.script_lang.specs.Words.{whole_lines}
use Rattle.grid_cli.proofs.ReplayLaws.{taken_empty, has_bytes, limit_in_line, line_kept, stops_for_memory}
use Rattle.grid_cli.proofs.replay.Replay.keep.Goals as goal

pub returns-then-is_empty-clause-goes : goal.returns-then-is_empty-clause-goes
returns-then-is_empty-clause-goes g c = taken_empty c.args.self.now c.args.more.now (g.K.Sink.taken c.args.out.now) (sym c.is_empty.ensures ∙ c.if-is_empty.true)

pub returns-in-Some-clause-stops : goal.returns-in-Some-clause-stops
returns-in-Some-clause-stops g c =
    limit_in_line c.args.self.now c.in-Some.what c.stop_at_limit.result c.args.more.now (g.K.Sink.taken c.args.out.now) (g.K.Sink.taken c.stop_at_limit.new.out) c.requires.one (has_bytes c.args.more.now (sym c.is_empty.ensures ∙ c.if-is_empty.false))
    (λ forms skips read written has. sym (c.limit_in.ensures forms skips read written has) ∙ c.in-Some.is)
    (λ forms skips read written has. c.stop_at_limit.ensures.concludes forms skips (whole_lines read) written has.follows)

pub returns-in_default-extend_from_slice-clause-stops : goal.returns-in_default-extend_from_slice-clause-stops
returns-in_default-extend_from_slice-clause-stops g c = stops_for_memory c.args.self.now c.args.more.now (g.K.Sink.taken c.args.out.now)

pub returns-clause-goes : goal.returns-clause-goes
returns-clause-goes g c =
    line_kept c.args.self.now (record { transcriber = c.args.self.now.transcriber; unfinished = c.extend_from_slice.new.self }) c.args.more.now (g.K.Sink.taken c.args.out.now) c.requires.one refl c.in-Ok.ensures.items
    (λ forms skips read written has. sym (c.limit_in.ensures forms skips read written has) ∙ c.in_default.is)
