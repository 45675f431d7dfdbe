use Rattle.std.proofs.Common.{sym, subst}
use Rattle.fixed_fields.specs.Replies.{AnswerFits}
use Rattle.call_engine.specs.Limits.{EntryFits}
use Rattle.call_engine.specs.Within.{entry_after_fits}
use Rattle.call_engine.proofs.AnswersFit.{entry_answer_fits}
use Rattle.call_engine.proofs.entries.run_on.Goals as goal

pub write_reply-requires : goal.write_reply-requires
write_reply-requires g c = subst AnswerFits (sym c.in_ok-answer.ensures.answer) (entry_answer_fits _ _ c.args.call.now c.args.now c.requires.kept)

pub write_change-requires-clause-next : goal.write_change-requires-clause-next
write_change-requires-clause-next g c = subst EntryFits (sym c.in_ok-answer.ensures.after) (entry_after_fits _ _ _ _ c.requires.limits c.requires.numbers c.requires.kept)
