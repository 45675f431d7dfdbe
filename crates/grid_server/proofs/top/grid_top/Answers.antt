use Rattle.std.proofs.Common.{ap, ◌∙◌, sym, refl}
use Rattle.grid_server.specs.Serving.{operator}
use Rattle.grid_server.proofs.Replayed.{replayed_as, printed_as, hit_as, decided_as, waited_as, sampled_as}
use Rattle.grid_server.proofs.ServedHistories.{serves_histories, serves_in_order}
use Rattle.grid_server.proofs.SampleWords.{sample_is_no_server, some_none, same_some}
use Rattle.grid_server.proofs.top.grid_top.Goals as goal

pub returns-in-Some-clause-replayed : goal.returns-in-Some-clause-replayed
returns-in-Some-clause-replayed g c = λ no_server no_sample. absurd (some_none _ (c.in-Some.ensures ∙ no_sample))

pub returns-in-Some-clause-headline : goal.returns-in-Some-clause-headline
returns-in-Some-clause-headline g c = λ no_server no_sample. absurd (some_none _ (c.in-Some.ensures ∙ no_sample))

pub returns-in-Some-clause-hits : goal.returns-in-Some-clause-hits
returns-in-Some-clause-hits g c = λ no_server no_sample. absurd (some_none _ (c.in-Some.ensures ∙ no_sample))

pub returns-in-Some-clause-decisions : goal.returns-in-Some-clause-decisions
returns-in-Some-clause-decisions g c = λ no_server no_sample. absurd (some_none _ (c.in-Some.ensures ∙ no_sample))

pub returns-in-Some-clause-waits : goal.returns-in-Some-clause-waits
returns-in-Some-clause-waits g c = λ no_server no_sample. absurd (some_none _ (c.in-Some.ensures ∙ no_sample))

pub returns-in-Some-clause-served : goal.returns-in-Some-clause-served
returns-in-Some-clause-served g c = λ server. absurd (sample_is_no_server c.args.words.now c.in-Some.number (sym c.in-Some.ensures) server)

pub returns-in-Some-clause-histories : goal.returns-in-Some-clause-histories
returns-in-Some-clause-histories g c = λ server. absurd (sample_is_no_server c.args.words.now c.in-Some.number (sym c.in-Some.ensures) server)

pub returns-in-Some-clause-in_order : goal.returns-in-Some-clause-in_order
returns-in-Some-clause-in_order g c = λ server. absurd (sample_is_no_server c.args.words.now c.in-Some.number (sym c.in-Some.ensures) server)

pub returns-in-Some-clause-sampled : goal.returns-in-Some-clause-sampled
returns-in-Some-clause-sampled g c = λ number asked. sampled_as _ _ _ _ _ _ _ _ (same_some _ _ (c.in-Some.ensures ∙ asked)) refl refl c.sample_command.ensures

pub returns-then-is_serve_command-clause-histories : goal.returns-then-is_serve_command-clause-histories
returns-then-is_serve_command-clause-histories g c = λ server. serves_histories _ _ _ _ _ _ _ _ _ c.serve_command.ensures

pub returns-then-is_serve_command-clause-in_order : goal.returns-then-is_serve_command-clause-in_order
returns-then-is_serve_command-clause-in_order g c = λ server. serves_in_order _ _ _ _ _ _ _ _ _ c.serve_command.ensures

pub returns-then-is_serve_command-clause-sampled : goal.returns-then-is_serve_command-clause-sampled
returns-then-is_serve_command-clause-sampled g c = λ number asked. absurd (some_none _ (sym asked ∙ sym c.in_default.ensures))

pub returns-clause-replayed : goal.returns-clause-replayed
returns-clause-replayed g c = λ no_server no_sample. replayed_as _ _ _ _ _ _ c.without_grid.ensures.status (record {
  usage = c.replay_command.ensures.usage;
  untouched = λ idle.
      ap (λ s. operator (g.S.Source.given s) (g.S.Source.faults s) (g.K.Sink.taken c.replay_command.new.out) (g.K.Sink.faults c.replay_command.new.out)) (c.replay_command.ensures.unread idle)
      ∙ ap (λ k. operator (g.S.Source.given c.args.script.now) (g.S.Source.faults c.args.script.now) (g.K.Sink.taken k) (g.K.Sink.faults k)) (c.replay_command.ensures.unwritten idle);
  doorless = c.replay_command.ensures.doorless;
  read_fault = c.replay_command.ensures.read_fault;
  write_fault = c.replay_command.ensures.write_fault;
  text = c.replay_command.ensures.text;
})

pub returns-clause-headline : goal.returns-clause-headline
returns-clause-headline g c = λ no_server no_sample. printed_as _ _ _ _ _ _ _ c.without_grid.ensures.status c.replay_command.ensures.headline

pub returns-clause-hits : goal.returns-clause-hits
returns-clause-hits g c = λ no_server no_sample. hit_as _ _ _ _ _ _ _ c.without_grid.ensures.status c.replay_command.ensures.hits

pub returns-clause-decisions : goal.returns-clause-decisions
returns-clause-decisions g c = λ no_server no_sample. decided_as _ _ _ _ _ _ _ c.without_grid.ensures.status c.replay_command.ensures.decisions

pub returns-clause-waits : goal.returns-clause-waits
returns-clause-waits g c = λ no_server no_sample. waited_as _ _ _ _ _ _ _ c.without_grid.ensures.status c.replay_command.ensures.waits

pub returns-clause-sampled : goal.returns-clause-sampled
returns-clause-sampled g c = λ number asked. absurd (some_none _ (sym asked ∙ sym c.in_default.ensures))
