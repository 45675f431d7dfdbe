use Rattle.event_codecs.proofs.RegistrationReading.{only_unknown, not_wanting}
use Rattle.event_codecs.proofs.laws.registration_refusals_are_told_apart.Goals as goal

pub returns-clause-unknown : goal.returns-clause-unknown
returns-clause-unknown c = only_unknown

pub returns-clause-memory : goal.returns-clause-memory
returns-clause-memory c = not_wanting
