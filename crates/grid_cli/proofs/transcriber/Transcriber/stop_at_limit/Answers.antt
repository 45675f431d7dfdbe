use Rattle.std.proofs.Common.{List, [], ℕ, ◌+◌, ◌++◌, take, sym, ◌∙◌, ap, Some, arith, append-nil}
use Rattle.grid_cli.specs.Transcripts.{TooLong, limit_text}
use Rattle.grid_cli.proofs.TranscriberLaws.{limit_passed, front_written, nothing_written}
use Rattle.grid_cli.proofs.transcriber.Transcriber.stop_at_limit.Goals as goal

pub overflow_add-line : goal.overflow_add-line
overflow_add-line g c =
    let r = c.requires in
    let lines = c.lines-line.ensures r.0 r.1 r.2 r.3 r.4 in
    omega (arith, lines, r.5)

pub returns-in_default-clause-concludes : goal.returns-in_default-clause-concludes
returns-in_default-clause-concludes g c = λ forms skips done written follows.
    ([], nothing_written _ forms c.args.self.now.stage skips done written follows (Some c.args.what), sym (append-nil (g.K.Sink.taken c.args.out.now)))

pub returns-in_default-write_all-clause-concludes : goal.returns-in_default-write_all-clause-concludes
returns-in_default-write_all-clause-concludes g c = λ forms skips done written follows.
    let text : List ℕ = c.push_limit.new.out.items in
    let n = c.in_default-write_all.ensures.err in (
      take n.0 text,
      front_written written text (TooLong (c.lines-line.result + 1) c.args.what) _ n.0
          (limit_passed _ forms c.args.what c.args.self.now.stage skips done written text (c.lines-line.result + 1) follows (ap (λ k. k + 1) (c.lines-line.ensures forms skips done written follows))
          (c.in-Ok.ensures ∙ ap (λ xs. xs ++ limit_text (c.lines-line.result + 1) c.args.what) c.clear.ensures.items)),
      n.2 ∙ ap (λ t. g.K.Sink.taken c.args.out.now ++ take n.0 t) c.as_slice.ensures.value,
    )

pub returns-clause-concludes : goal.returns-clause-concludes
returns-clause-concludes g c = λ forms skips done written follows.
    let text : List ℕ = c.push_limit.new.out.items in (
      text,
      (
        c.lines-line.result + 1,
        limit_passed _ forms c.args.what c.args.self.now.stage skips done written text (c.lines-line.result + 1) follows (ap (λ k. k + 1) (c.lines-line.ensures forms skips done written follows))
            (c.in-Ok.ensures ∙ ap (λ xs. xs ++ limit_text (c.lines-line.result + 1) c.args.what) c.clear.ensures.items),
      ),
      c.in-Ok-write_all.ensures.ok ∙ ap (λ more. g.K.Sink.taken c.args.out.now ++ more) c.as_slice.ensures.value,
    )
