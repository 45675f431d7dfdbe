-- What is known of a list from its last look.
use Rattle.std.proofs.Common.{◌≡◌, ℕ, suc, ◌+◌, ◌≤◌, ◌<◌, false, List, ◌++◌, length, take, drop, Option, Some, None, ap, sym, ◌∙◌, subst, ⊎_elim, arith}
use Rattle.std.specs.List.{remove}
use Rattle.std.proofs.lemmas.Bool.{cases_lt}
use Rattle.std.proofs.lemmas.List.{take_all, take-append-le, take-append-drop, length-take-le}
use Rattle.std.proofs.lemmas.List.Edits.{length-remove, remove-append_left}
use Rattle.std.proofs.lemmas.List.Elements.{All-append, All-take, All-drop}
use Rattle.wait_sets.specs.declared.waiter.Waiter.{Waiter}
use Rattle.wait_sets.specs.WaitSets.{is_due, NoneIsDue}
use Rattle.wait_sets.specs.Laws.{StayUndue}
use Rattle.wait_sets.specs.Turns.{AreUndue}

-- nobody, where it was nobody's turn; and else nobody before the one that has left
pub all_undue : (now : ℕ) (ws : List Waiter) (r : Option ℕ) → r ≡ None → StayUndue now ws r → AreUndue (Some now) (length ws) ws
all_undue now ws None e h = (omega arith, subst (NoneIsDue now) (sym (take_all (length ws) ws (omega arith))) h)
all_undue now ws (Some place) e h = absurd cc

earlier_undue : (now place : ℕ) (ws : List Waiter) (r : Option ℕ) → r ≡ Some place → place < length ws → StayUndue now ws r → AreUndue (Some now) place (remove ws place)
earlier_undue now place ws None e l h = absurd cc
earlier_undue now place ws (Some other) e l h =
    let same : other ≡ place = cc in
    let shorter = length-remove ws place l in
    (omega (arith, shorter, l), subst (λ p. NoneIsDue now (take p (remove ws p))) same h)

-- and where it stood among those of whom that was known, the others of these
sooner_undue : (now undue place left : ℕ) (ws : List Waiter) → undue ≤ length ws → NoneIsDue now (take undue ws) → place < undue → left + 1 ≡ undue → AreUndue (Some now) left (remove ws place)
sooner_undue now undue place left ws fit none l e =
    let front = take undue ws in
    let long = length-take-le undue ws fit in
    let cut : remove ws place ≡ remove front place ++ drop undue ws = ap (λ xs. remove xs place) (sym (take-append-drop undue ws)) ∙ remove-append_left front (drop undue ws) place (omega (arith, long, l)) in
    let fewer = length-remove front place (omega (arith, long, l)) in
    let shorter = length-remove ws place (omega (arith, l, fit)) in
    let undue_still = λ (w : Waiter). is_due now w ≡ false in
    let still : NoneIsDue now (remove front place) = All-append undue_still (take place front) (drop (suc place) front) (All-take undue_still place front none) (All-drop undue_still (suc place) front none) in
    let they : take left (remove ws place) ≡ remove front place =
    ap (take left) cut ∙ take-append-le left (remove front place) (drop undue ws) (omega (arith, fewer, long, e)) ∙ take_all left (remove front place) (omega (arith, fewer, long, e)) in
    (omega (arith, shorter, fit, e), subst (NoneIsDue now) (sym they) still)

pub left_undue : (now undue place left : ℕ) (ws : List Waiter) (r : Option ℕ) → r ≡ Some place → place < length ws → StayUndue now ws r → undue ≤ length ws → NoneIsDue now (take undue ws)
    → (place < undue → left + 1 ≡ undue) → (undue ≤ place → left ≡ place) → AreUndue (Some now) left (remove ws place)
left_undue now undue place left ws r is l stays fit none among behind = ⊎_elim
    (λ sooner. sooner_undue now undue place left ws fit none sooner (among sooner))
    (λ later. subst (λ n. AreUndue (Some now) n (remove ws place)) (sym (behind later)) (earlier_undue now place ws r is l stays))
    (cases_lt place undue)
