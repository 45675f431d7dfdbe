use Rattle.std.proofs.Common.{◌≡◌, ◌++◌, drop}
use Rattle.replay_run.specs.Printing.{link_text_from}
use Rattle.replay_run.proofs.links.push_link.Given as goal

-- what is left of the messages is what the text lacks
abbrev pub invariant-loop-place : goal.invariant-loop-place
invariant-loop-place l = l.out.items ++ link_text_from l.line l.link l.place (drop l.place l.messages) ≡ l.initial.out.items ++ link_text_from l.line l.link 0 l.messages
