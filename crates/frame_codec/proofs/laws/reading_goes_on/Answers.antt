-- By the two cases of the fault.
use Rattle.std.proofs.Common.{◌∙◌, ap, Option, length}
use Rattle.frame_codec.specs.Reading.{reading}
use Rattle.frame_codec.specs.declared.malformed.Malformed.{Malformed}
use Rattle.frame_codec.proofs.GoingOn.{goes_on_by, reading-append}
use Rattle.frame_codec.proofs.laws.reading_goes_on.Goals as goal

pub returns-clause-goes_on : goal.returns-clause-goes_on
returns-clause-goes_on c =
    λ at text more sound. reading-append at text more ∙ ap (λ (fault : Option Malformed). goes_on_by fault (reading at text) at (length text) more) sound

pub returns-clause-ends : goal.returns-clause-ends
returns-clause-ends c =
    λ at text more fault faulty. reading-append at text more ∙ ap (λ (fault : Option Malformed). goes_on_by fault (reading at text) at (length text) more) faulty
