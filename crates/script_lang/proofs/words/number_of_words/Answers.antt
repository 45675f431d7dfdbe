use Rattle.std.proofs.Common.{◌+◌, length, sym, ap, ◌∙◌}
use Rattle.memchr.specs.Find.{is_byte}
use Rattle.memchr.proofs.lemmas.CallerLemmas.{length-places}
use Rattle.script_lang.specs.Words.{space}
use Rattle.script_lang.proofs.WordCounts.{length-pieces_at}
use Rattle.script_lang.proofs.words.number_of_words.Goals as goal

pub returns : goal.returns
returns c =
    ap (λ n. n + 1) (c.count.ensures ∙ ap length c.memchr_iter.ensures.value ∙ length-places (is_byte space) c.args.text.now) ∙ sym (length-pieces_at space c.args.text.now)
