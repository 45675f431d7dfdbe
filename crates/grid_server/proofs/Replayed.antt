-- What holds of a replay's status holds of the status that is handed on.
use Rattle.std.proofs.Common.{◌≡◌, ℕ, List, sym, subst}
use Rattle.entry_processors.specs.declared.form.Form.{Form}
use Rattle.entry_processors.specs.Processors.{ProcessorForm}
use Rattle.grid_edge.specs.Given.{Given}
use Rattle.grid_cli.specs.Commands.{PrintsHistories}
use Rattle.grid_cli.specs.NearHits.{PrintsHits}
use Rattle.grid_cli.specs.Decisions.{PrintsDecisions}
use Rattle.grid_cli.specs.Waits.{PrintsWaits}
use Rattle.grid_cli.specs.declared.status.Status.{Status}
use Rattle.serve_options.specs.Options.{Words}
use Rattle.grid_sample.specs.Samples.{HasSampled}
use Rattle.grid_server.specs.Commands.{HasReplayedBy, HasSampledBy}
use Rattle.grid_server.specs.Serving.{Operator, AtDoors}
use Rattle.grid_server.specs.declared.ended.Ended.{Ended}

pub replayed_as : (words : Words) (forms : List ProcessorForm) (told status : Status) (before after : Operator) → status ≡ told → HasReplayedBy words forms told before after → HasReplayedBy words forms status before after
replayed_as words forms told status before after same replayed = subst (λ (s : Status). HasReplayedBy words forms s before after) (sym same) replayed

pub printed_as : (forms : List ProcessorForm) (told status : Status) (first now : Given) (before after : List ℕ) → status ≡ told → PrintsHistories forms told first now before after → PrintsHistories forms status first now before after
printed_as forms told status first now before after same printed = subst (λ (s : Status). PrintsHistories forms s first now before after) (sym same) printed

pub hit_as : (forms : List ProcessorForm) (told status : Status) (first now : Given) (before after : List ℕ) → status ≡ told → PrintsHits forms told first now before after → PrintsHits forms status first now before after
hit_as forms told status first now before after same printed = subst (λ (s : Status). PrintsHits forms s first now before after) (sym same) printed

pub decided_as : (forms : List ProcessorForm) (told status : Status) (first now : Given) (before after : List ℕ) → status ≡ told → PrintsDecisions forms told first now before after → PrintsDecisions forms status first now before after
decided_as forms told status first now before after same printed = subst (λ (s : Status). PrintsDecisions forms s first now before after) (sym same) printed

pub waited_as : (forms : List ProcessorForm) (told status : Status) (first now : Given) (before after : List ℕ) → status ≡ told → PrintsWaits forms told first now before after → PrintsWaits forms status first now before after
waited_as forms told status first now before after same printed = subst (λ (s : Status). PrintsWaits forms s first now before after) (sym same) printed

-- the same of a sample, whose number is the one that the words give
pub sampled_as : {D : Type 0} (asked number : ℕ) (forms : List Form) (before after : Operator) (outside closed : AtDoors) (ended : Ended D) → asked ≡ number → after.script ≡ before.script → closed ≡ outside
    → HasSampled asked forms ended.status ended.grid before.out.bytes after.out.bytes before.out.faults after.out.faults → HasSampledBy number forms before after outside closed ended
sampled_as asked number forms before after outside closed ended same unread unopened sampled = record {
  unread = unread;
  unopened = unopened;
  sampled = subst (λ n. HasSampled n forms ended.status ended.grid before.out.bytes after.out.bytes before.out.faults after.out.faults) same sampled;
}
