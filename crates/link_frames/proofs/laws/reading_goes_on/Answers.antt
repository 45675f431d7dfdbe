-- A reading goes on with more bytes, unless it has ended.
use Rattle.std.proofs.Common.{◌≡◌, ◌∙◌, ap, None, Some}
use Rattle.link_frames.specs.Reading.{reading}
use Rattle.link_frames.proofs.Readings.{goes_on_by, reading-append}
use Rattle.link_frames.proofs.laws.reading_goes_on.Goals as goal

pub returns-clause-goes_on : goal.returns-clause-goes_on
returns-clause-goes_on c = λ at text more e. reading-append at text more ∙ ap (λ fault. goes_on_by fault (reading at text) more) e

pub returns-clause-ends : goal.returns-clause-ends
returns-clause-ends c = λ at text more fault e. reading-append at text more ∙ ap (λ f. goes_on_by f (reading at text) more) e
