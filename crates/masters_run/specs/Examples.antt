-- Worked examples, which the definitions compute: what lines print behind `grid 3 1 10` and `masters`.
use Rattle.std.specs.Prelude.{◌≡◌, ℕ, List, [], ◌∷◌, ◌++◌, codes, decimal, refl}
use Rattle.std.specs.Fmt.{digits}
use Rattle.call_engine.specs.Calls.{Settings}
use Rattle.call_engine.specs.Objects.{partition_object}
use Rattle.script_lang.specs.declared.line.Line.{Line}
use Rattle.script_lang.specs.declared.line.Line.TheVariants.{Crash, Move, Rebalance, Masters, Told, MasterDeliver, MasterFlow}
use Rattle.replay_run.specs.Dumps.{number}
use Rattle.replay_run.specs.Printing.{words_line}
use Rattle.masters_run.specs.AfterLines.{after_line, run_with}
use Rattle.masters_run.specs.Printing.{line_text}

abbrev pub proposed : ℕ → List ℕ
proposed n = codes "proposed " ++ decimal n

abbrev pub published : ℕ → ℕ → List ℕ
published p n = codes "published " ++ number p ++ decimal n

abbrev pub row : ℕ → List ℕ
row version = codes "row " ++ decimal version

-- without processors
abbrev pub plain : Settings
plain = record { forms = []; capacity = 10 }

-- what a line prints behind these
abbrev pub prints : List Line → Line → List ℕ
prints before line = let s = run_with (partition_object plain) 3 1 [] before in line_text plain [] s line (after_line (partition_object plain) [] s line)

masters_are_there : prints [] Masters ≡ words_line 2 (codes "ok")
masters_are_there = refl

they_come_once : prints (Masters ∷ []) Masters ≡ words_line 3 (codes "nothing")
they_come_once = refl

-- a move is stored at both others, and its row is made as the second answer comes

a_move_is_proposed : prints (Masters ∷ []) (Move 5 2 1) ≡ words_line 3 (proposed 1)
unfolding digits
a_move_is_proposed = refl

abbrev pub stored : List Line
stored = Masters ∷ Move 5 2 1 ∷ MasterDeliver 5 0 1 0 ∷ MasterDeliver 5 0 2 0 ∷ MasterDeliver 5 1 0 0 ∷ []

it_is_published : prints stored (MasterDeliver 5 2 0 0) ≡ words_line 7 (codes "took counted") ++ words_line 7 (published 5 1) ++ words_line 7 (row 2)
unfolding digits
it_is_published = refl

-- a flow publishes too
it_is_published_in_a_flow : prints (Masters ∷ Move 5 2 1 ∷ []) (MasterFlow 5 9) ≡ words_line 4 (codes "flow " ++ decimal 4) ++ words_line 4 (published 5 1) ++ words_line 4 (row 2)
unfolding digits
it_is_published_in_a_flow = refl

-- the next master gathers the move, and publishes it
abbrev pub taken_over : List Line
taken_over = Masters ∷ Move 5 2 1 ∷ MasterDeliver 5 0 1 0 ∷ Crash 0 ∷ Told 1 0 ∷ MasterDeliver 5 1 2 0 ∷ MasterDeliver 5 2 1 0 ∷ MasterDeliver 5 1 2 0 ∷ []

it_survives : prints taken_over (MasterDeliver 5 2 1 0) ≡ words_line 10 (codes "took counted") ++ words_line 10 (published 5 1) ++ words_line 10 (row 2)
unfolding digits
it_survives = refl

nothing_is_rebalanced : prints (Masters ∷ []) (Rebalance 0) ≡ words_line 3 (codes "nothing")
nothing_is_rebalanced = refl

without_masters_nobody_is_asked : prints [] (MasterDeliver 5 0 1 0) ≡ words_line 2 (codes "nothing")
without_masters_nobody_is_asked = refl
