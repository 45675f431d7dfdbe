-- The newest call of a name, and what stands before it.
use Rattle.std.proofs.Common.{◌≡◌, zero, suc, ◌-◌, not, true, List, [], ◌∷◌, ◌++◌, length, take, Some, All, refl, ap, ◌∙◌, arith, length-append, eq-eqb}
use Rattle.std.specs.List.{before_last, suffix_len}
use Rattle.std.proofs.lemmas.List.{reverse-append}
use Rattle.std.proofs.Math.Seq.{take-append_seam}
use Rattle.grid_base.specs.Names.{is_same_call}
use Rattle.grid_base.specs.declared.names.CallId.{CallId}
use Rattle.partition_protocol.specs.History.{Executed, Entry, Called}
use Rattle.partition_world.specs.Answers.{id_of, is_call, newest_call}

pub all_one : {X : Type 0} (P : X → Type 0) (x : X) → P x → All P (x ∷ [])
all_one P x p zero d within = p
all_one P x p (suc k) d within = absurd (omega (arith, within))

-- the newest call of a log

pub same_call : (id : CallId) → is_same_call id id ≡ true
same_call id = rw (eq-eqb id.conn id.conn refl, eq-eqb id.number id.number refl) refl

pub newest_last : {C : Type 0} (log : List (Entry C)) (x : Executed C) → newest_call (id_of x) (log ++ Called x ∷ []) ≡ Some x
newest_last log x = rw (reverse-append log (Called x ∷ []), same_call (id_of x)) refl

pub none_after : {C : Type 0} (log : List (Entry C)) (x : Executed C) → suffix_len (λ (e : Entry C). not (is_call (id_of x) e)) (log ++ Called x ∷ []) ≡ 0
none_after log x = rw (reverse-append log (Called x ∷ []), same_call (id_of x)) refl

pub before_newest : {C : Type 0} (log : List (Entry C)) (x : Executed C) → before_last (is_call (id_of x)) (log ++ Called x ∷ []) ≡ log
before_newest {C = C} log x =
    let all : List (Entry C) = log ++ Called x ∷ [] in
    let there : length all - suffix_len (λ (e : Entry C). not (is_call (id_of x) e)) all - 1 ≡ length log = omega (arith, none_after log x, length-append log (Called x ∷ [])) in
    ap (λ k. take k all) there ∙ take-append_seam log (Called x ∷ [])
