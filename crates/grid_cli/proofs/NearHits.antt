-- What the near clients of a replayed script hit stands.
use Rattle.std.proofs.Common.{◌≡◌, ℕ, zero, suc, ◌+◌, ◌-◌, ◌<◌, ◌≤◌, ◌^◌, Bool, true, false, cond, ◌==◌, nat_lt, List, [], ◌∷◌, length, take, Option, None, Result, Ok, Err, refl, ap, sym, ◌∙◌, subst, inl, inr, arith, lit<, lit≤}
use Rattle.std.proofs.lemmas.Bool.Decides.{nat_tests}
use Rattle.grid_base.specs.declared.names.CallId.{CallId}
use Rattle.grid_edge.specs.Given.{Given}
use Rattle.entry_processors.specs.Processors.{ProcessorForm}
use Rattle.call_engine.specs.Calls.{Settings}
use Rattle.call_engine.specs.Objects.{partition_object}
use Rattle.partition_protocol.proofs.Lists.{In, in_contains, on_if}
use Rattle.script_lang.specs.Limits.{most_bytes, most_lines, most_line_bytes}
use Rattle.script_lang.specs.Words.{newline, pieces_at, words_of}
use Rattle.script_lang.specs.Lines.{IsWithin, is_comment, line_of, line_of_words}
use Rattle.script_lang.specs.declared.line.Line.{Line}
use Rattle.script_lang.specs.declared.line.Line.TheVariants.{Grid, Comment}
use Rattle.script_lang.specs.declared.refusal.LineWhy.{LineWhy}
use Rattle.script_lang.proofs.Ranges.{IsWithin-words_of}
use Rattle.replay_run.specs.Runs.{Run}
use Rattle.script_run.specs.Runs.{ScriptRun, begun, ruled_of, grid_line}
use Rattle.script_run.specs.AfterLines.{after_line, after_lines}
use Rattle.near_script_laws.specs.HitsStand.{HitsStand, AreLines}
use Rattle.near_script_laws.proofs.Theorem.{every_hit_of_a_script_stands}
use Rattle.grid_cli.specs.Scripts.{Cut, stops, onto, within, last_cut, cut_pieces, lines_of}
use Rattle.grid_cli.specs.Transcripts.{settings}
use Rattle.grid_cli.specs.Progress.{run_after, begun_by, capacity_by, capacity_of, run_of}
use Rattle.grid_cli.specs.Statuses.{HasReplayed, ReadsAndWrites}
use Rattle.grid_cli.specs.NearHits.{TellsHits, PrintsHits}
use Rattle.grid_cli.specs.declared.status.Status.{Status}
use Rattle.grid_cli.specs.declared.status.LimitWhat.TheVariants.{Bytes, Lines, Line as LineLimit}
use Rattle.grid_cli.proofs.CommandLaws.{first_within}
use Rattle.grid_cli.proofs.LineLimits.{within_more}
use Rattle.grid_cli.proofs.Members.{members_stay}
use Rattle.grid_cli.proofs.ReadLaws.{prints_also}

-- ---- the lines of a script are within its limits

record AreShort (left : ℕ) (texts : List (List ℕ)) : Type 0 where
  few : length texts ≤ left
  each : (text : List ℕ) → In text texts → length text ≤ most_line_bytes

none_short : (left : ℕ) → AreShort left []
none_short left = record { few = omega arith; each = λ text i. absurd i }

abbrev Short : ℕ → Cut → Type 0
Short left c = AreShort left c.lines

-- a line before others
line_short : (left : ℕ) (line : List ℕ) (rest : Cut) → (1 ≤ left → length line ≤ most_line_bytes → Short left rest) → Short left (within left line rest)
line_short left line rest more = by (left == 0) refl (nat_lt most_line_bytes (length line)) refl
  where
    by : (a : Bool) → (left == 0) ≡ a → (b : Bool) → nat_lt most_line_bytes (length line) ≡ b → Short left (cond a (stops Lines) (cond b (stops LineLimit) rest))
    by true e b f = none_short left
    by false e true f = none_short left
    by false e false f = let some : 1 ≤ left = grind (arith, nat_tests) in let short : length line ≤ most_line_bytes = grind (arith, nat_tests) in more some short

one_more : (left : ℕ) (line : List ℕ) (rest : Cut) → 1 ≤ left → length line ≤ most_line_bytes → Short (left - 1) rest → Short left (onto line rest)
one_more left line rest some short s = record { few = let few = s.few in omega (arith, few, some); each = each }
  where
    each : (text : List ℕ) → In text (line ∷ rest.lines) → length text ≤ most_line_bytes
    each text (inl e) = subst (λ (t : List ℕ). length t ≤ most_line_bytes) e short
    each text (inr i) = s.each text i

last_short : (past : Bool) (left : ℕ) (piece : List ℕ) → Short left (last_cut past left piece)
last_short true left [] = none_short left
last_short false left [] = none_short left
last_short past left (byte ∷ bytes) = line_short left (byte ∷ bytes) (cond past (stops Bytes) (record { lines = (byte ∷ bytes) ∷ []; limit = None })) (λ some short. by past some short)
  where
    by : (p : Bool) → 1 ≤ left → length (byte ∷ bytes) ≤ most_line_bytes → Short left (cond p (stops Bytes) (record { lines = (byte ∷ bytes) ∷ []; limit = None }))
    by true some short = none_short left
    by false some short = one_more left (byte ∷ bytes) (record { lines = []; limit = None }) some short (none_short (left - 1))

cut_short : (past : Bool) (left : ℕ) (pieces : List (List ℕ)) → Short left (cut_pieces past left pieces)
cut_short past left [] = last_short past left []
cut_short past left (piece ∷ []) = last_short past left piece
cut_short past left (piece ∷ next ∷ pieces) =
    let rest = cut_short past (left - 1) (next ∷ pieces) in
    line_short left piece (onto piece (cut_pieces past (left - 1) (next ∷ pieces))) (λ some short. one_more left piece (cut_pieces past (left - 1) (next ∷ pieces)) some short rest)

lines_short : (script : List ℕ) → AreShort most_lines (lines_of script)
lines_short script = cut_short (nat_lt most_bytes (length script)) most_lines (pieces_at newline (take most_bytes script))

-- and so are the first of them
first_short : (k left : ℕ) (texts : List (List ℕ)) → AreShort left texts → AreShort left (take k texts)
first_short zero left texts s = none_short left
first_short (suc k) left [] s = none_short left
first_short (suc k) left (text ∷ texts) s = record {
  few = let few = s.few in let rest = taken k texts in omega (arith, few, rest);
  each = λ t i. s.each t (kept k text texts t i);
}
  where
    taken : (k : ℕ) (xs : List (List ℕ)) → length (take k xs) ≤ length xs
    taken zero xs = omega arith
    taken (suc k) [] = omega arith
    taken (suc k) (x ∷ xs) = let rest = taken k xs in omega (arith, rest)

    there : (k : ℕ) (xs : List (List ℕ)) (t : List ℕ) → In t (take k xs) → In t xs
    there zero xs t i = absurd i
    there (suc k) [] t i = absurd i
    there (suc k) (x ∷ xs) t (inl e) = inl e
    there (suc k) (x ∷ xs) t (inr i) = inr (there k xs t i)

    kept : (k : ℕ) (x : List ℕ) (xs : List (List ℕ)) (t : List ℕ) → In t (x ∷ take k xs) → In t (x ∷ xs)
    kept k x xs t (inl e) = inl e
    kept k x xs t (inr i) = inr (there k xs t i)

-- ---- what is run of them

later_within : (members : ℕ) (text : List ℕ) (line : Line) → 1 ≤ members → line_of false members text ≡ Ok line → IsWithin members (length text) line
later_within members text line some e = by (is_comment false text) refl e
  where
    by : (b : Bool) → is_comment false text ≡ b → cond b (Ok Comment) (line_of_words false members (words_of text)) ≡ Ok line → IsWithin members (length text) line
    by true t f = subst (IsWithin members (length text)) (let one : Comment ≡ line = cc in one) tt
    by false t f = IsWithin-words_of false members text line (λ z. some) f

-- the lines that run, each within its limits
record AreRun (s : Settings) (skips : List CallId) (r : ScriptRun) (texts : List (List ℕ)) : Type 0 where
  lines : List Line
  is : run_after s skips r texts ≡ after_lines s skips r lines
  few : length lines ≤ length texts
  each : (line : Line) → In line lines → IsWithin r.run.members most_line_bytes line

are_run : (s : Settings) (skips : List CallId) (r : ScriptRun) (texts : List (List ℕ)) → 1 ≤ r.run.members → ((text : List ℕ) → In text texts → length text ≤ most_line_bytes) → AreRun s skips r texts
are_run s skips r [] some short = record { lines = []; is = refl; few = omega arith; each = λ line i. absurd i }
are_run s skips r (text ∷ texts) some short = by (λ next more. are_run s skips next texts more (λ t i. short t (inr i))) (line_of false r.run.members text) refl
  where
    by : ((next : ScriptRun) → 1 ≤ next.run.members → AreRun s skips next texts) → (x : Result Line LineWhy) → line_of false r.run.members text ≡ x → AreRun s skips r (text ∷ texts)
    by go (Err why) read = record {
      lines = [];
      is = ap (λ (x : Result Line LineWhy). elim x [ Err why ↦ r | Ok l ↦ run_after s skips (after_line s skips r l) texts ]) read;
      few = omega arith;
      each = λ line i. absurd i;
    }
    by go (Ok line) read =
        let next = after_line s skips r line in
        let same : next.run.members ≡ r.run.members = members_stay (partition_object s) skips (ruled_of r) (grid_line (partition_object s) r line) in
        let rest = go next (subst (λ (n : ℕ). 1 ≤ n) (sym same) some) in
        record {
          lines = line ∷ rest.lines;
          is = ap (λ (x : Result Line LineWhy). elim x [ Err why ↦ r | Ok l ↦ run_after s skips (after_line s skips r l) texts ]) read ∙ rest.is;
          few = let few = rest.few in omega (arith, few);
          each = here rest same;
        }
      where
        here : (rest : AreRun s skips (after_line s skips r line) texts) → (after_line s skips r line).run.members ≡ r.run.members → (l : Line) → In l (line ∷ rest.lines) → IsWithin r.run.members most_line_bytes l
        here rest same l (inl e) = subst (IsWithin r.run.members most_line_bytes) e (within_more line r.run.members r.run.members (length text) most_line_bytes refl (short text (inl refl)) (later_within r.run.members text line some read))
        here rest same l (inr i) = subst (λ (n : ℕ). IsWithin n most_line_bytes l) same (rest.each l i)

-- ---- their hits stand

runs_stand : (s : Settings) (members backups : ℕ) (skips : List CallId) (texts : List (List ℕ)) → 1 ≤ members → members < 2 ^ 8 → length texts < most_lines → ((text : List ℕ) → In text texts → length text ≤ most_line_bytes)
    → HitsStand s (run_after s skips (begun members backups) texts)
runs_stand s members backups skips texts some low few short =
    let run = are_run s skips (begun members backups) texts some short in
    subst (HitsStand s) (sym run.is)
    (every_hit_of_a_script_stands s members backups skips run.lines some low (record { each = λ line c. run.each line (in_contains line run.lines c); few = let fewer = run.few in omega (arith, few, fewer) }))

-- a run that has just begun has no near client
none_stands : (s : Settings) (members backups : ℕ) → HitsStand s (begun members backups)
none_stands s members backups going conn n there = absurd cc

run_stands : (forms : List ProcessorForm) (skips : List CallId) (texts : List (List ℕ)) → AreShort most_lines texts → HitsStand (settings forms (capacity_of texts)) (run_of forms skips texts)
run_stands forms skips [] short = none_stands (settings forms 0) 1 0
run_stands forms skips (first ∷ texts) short = by_line (line_of true 0 first) refl
  where
    by : Result Line LineWhy → Settings
    by line = settings forms (capacity_by line)

    Stand : Result Line LineWhy → Type 0
    Stand line = HitsStand (by line) (run_after (by line) skips (begun_by line) texts)

    few : length texts < most_lines
    few = let some = short.few in omega (arith, some)

    each : (text : List ℕ) → In text texts → length text ≤ most_line_bytes
    each text i = short.each text (inr i)

    one_member : (x : Result Line LineWhy) → line_of true 0 first ≡ x → begun_by x ≡ begun 1 0 → Stand (line_of true 0 first)
    one_member x read is = subst Stand (sym read) (subst (λ r. HitsStand (by x) (run_after (by x) skips r texts)) (sym is) (runs_stand (by x) 1 0 skips texts (lit≤ tt) (lit< tt) few each))

    by_line : (x : Result Line LineWhy) → line_of true 0 first ≡ x → Stand (line_of true 0 first)
    by_line (Ok (Grid members backups capacity)) read =
        let w = first_within first _ read in
        subst Stand (sym read) (runs_stand (settings forms capacity) members backups skips texts w.0 (omega (arith, w.1)) few each)
    by_line (Err why) read = one_member _ read refl
    by_line (Ok line) read = one_member _ read refl

-- however many of the lines run

first_stand : (forms : List ProcessorForm) (skips : List CallId) (texts : List (List ℕ)) (lines : ℕ) → AreShort most_lines texts → HitsStand (settings forms (capacity_of texts)) (run_of forms skips (take lines texts))
first_stand forms skips [] zero short = none_stands (settings forms 0) 1 0
first_stand forms skips [] (suc lines) short = none_stands (settings forms 0) 1 0
first_stand forms skips (text ∷ texts) zero short = none_stands (settings forms (capacity_of (text ∷ texts))) 1 0
first_stand forms skips (text ∷ texts) (suc lines) short = run_stands forms skips (text ∷ take lines texts) (first_short (suc lines) most_lines (text ∷ texts) short)

tells_hits : (forms : List ProcessorForm) (status : Status) (skips : List CallId) (script read text : List ℕ) → HasReplayed forms status skips script read text → TellsHits forms status skips script read text
tells_hits forms status skips script read text replayed = record { replayed = replayed; hits = λ lines. first_stand forms skips (lines_of script) lines (lines_short script) }

pub prints_hits : (forms : List ProcessorForm) (status : Status) (first now : Given) (before after : List ℕ) → ReadsAndWrites forms status first now before after → PrintsHits forms status first now before after
prints_hits forms status = prints_also (HasReplayed forms status) (TellsHits forms status) (tells_hits forms status)
