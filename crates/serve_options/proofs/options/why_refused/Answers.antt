use Rattle.std.proofs.Common.{◌≡◌, ◌∙◌, refl, sym, true≢false}
use Rattle.clap.specs.declared.error.kind.ErrorKind.TheVariants.{OutOfMemory}
use Rattle.serve_options.proofs.Refusals.{none_found, some_fault}
use Rattle.serve_options.proofs.options.why_refused.Goals as goal

pub returns-in_default : goal.returns-in_default
returns-in_default c =
    (λ none. none_found c.in_ok-serve_command.field-0 c.args.words.now c.in_ok-serve_command.ensures c.in_default.ensures.kinds, λ none. refl)

pub returns : goal.returns
returns c = (
  λ some. cc,
  λ none.
      absurd (some_fault c.in_ok-serve_command.field-0 c.args.words.now c.in-Err.error c.in_ok-serve_command.ensures c.in-Err.ensures.kinds
      (λ memory.
      let same : c.kind.result ≡ OutOfMemory = c.kind.ensures ∙ memory in
      true≢false (sym (rw same at c.if-eq.ensures))) none),
)
