use Rattle.std.proofs.Common.{List, [], ℕ, ◌++◌, take, sym, ◌∙◌, ap, None, append-nil}
use Rattle.grid_cli.specs.Transcripts.{refused_text, Refused}
use Rattle.script_lang.specs.declared.refusal.LineWhy.TheVariants.{NoEnd}
use Rattle.grid_cli.proofs.TranscriberLaws.{end_refused, front_written, nothing_written}
use Rattle.grid_cli.proofs.transcriber.Transcriber.refuse_end.Goals as goal

pub returns-in_default-clause-concludes : goal.returns-in_default-clause-concludes
returns-in_default-clause-concludes g c = λ forms skips done written follows.
    ([], nothing_written _ forms c.args.self.now.stage skips done written follows None, sym (append-nil (g.K.Sink.taken c.args.out.now)))

pub returns-in_default-write_all-clause-concludes : goal.returns-in_default-write_all-clause-concludes
returns-in_default-write_all-clause-concludes g c = λ forms skips done written follows.
    let text : List ℕ = c.push_refused.new.out.items in
    let n = c.in_default-write_all.ensures.err in (
      take n.0 text,
      front_written written text (Refused c.lines-line.result NoEnd) _ n.0
          (end_refused _ forms c.args.self.now.stage skips done written text c.lines-line.result follows (c.lines-line.ensures forms skips done written follows)
          (c.in-Ok.ensures ∙ ap (λ xs. xs ++ refused_text c.lines-line.result NoEnd) c.clear.ensures.items)),
      n.2 ∙ ap (λ t. g.K.Sink.taken c.args.out.now ++ take n.0 t) c.as_slice.ensures.value,
    )

pub returns-clause-concludes : goal.returns-clause-concludes
returns-clause-concludes g c = λ forms skips done written follows.
    let text : List ℕ = c.push_refused.new.out.items in (
      text,
      end_refused _ forms c.args.self.now.stage skips done written text c.lines-line.result follows (c.lines-line.ensures forms skips done written follows)
          (c.in-Ok.ensures ∙ ap (λ xs. xs ++ refused_text c.lines-line.result NoEnd) c.clear.ensures.items),
      c.in-Ok-write_all.ensures.ok ∙ ap (λ more. g.K.Sink.taken c.args.out.now ++ more) c.as_slice.ensures.value,
    )
