use Rattle.std.proofs.Common.{◌≡◌, Result, Ok, Err, Bool, false, ℕ, List, ◌≤◌, length, subst, IfOk}
use Rattle.script_lang.specs.Lines.{line_of_words, IsWithin}
use Rattle.script_lang.specs.Readings.{Reads}
use Rattle.script_lang.specs.Words.{words_of}
use Rattle.script_lang.specs.declared.line.Line.{Line}
use Rattle.script_lang.specs.declared.refusal.LineRefused.{LineRefused}
use Rattle.script_lang.proofs.Ranges.{IsWithin-words_of}
use Rattle.script_lang.proofs.reading.read_line.Goals as goal

read_within : (first : Bool) (members : ℕ) (text : List ℕ) (result : Result Line LineRefused) → (first ≡ false → 1 ≤ members) → Reads (λ (line : Line). line) result (line_of_words first members (words_of text))
    → IfOk result (λ line. IsWithin members (length text) line)
read_within first members text (Ok line) some e = IsWithin-words_of first members text line some e
read_within first members text (Err why) some e = tt

pub returns-clause-within : goal.returns-clause-within
returns-clause-within c =
    read_within c.args.first c.args.members c.args.text.now c.read_words.result (λ later. (c.requires later).0)
    (subst (λ (words : List (List ℕ)). Reads (λ (line : Line). line) c.read_words.result (line_of_words c.args.first c.args.members words)) c.of.ensures c.read_words.ensures)
