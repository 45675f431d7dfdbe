-- Taking a piece of a script line by line.
use Rattle.std.proofs.Common.{◌≡◌, ℕ, zero, suc, ◌+◌, ◌<◌, ◌==◌, Bool, true, false, cond, List, [], ◌∷◌, ◌++◌, length, get_or, take, drop, Option, refl, ap, sym, ◌∙◌, subst, arith, append_assoc, add-one}
use Rattle.std.proofs.lemmas.Bool.Decides.{nat_tests}
use Rattle.memchr.specs.Find.{Nowhere, NoneBefore, Passes, is_byte}
use Rattle.grid_base.specs.declared.names.CallId.{CallId}
use Rattle.grid_edge.proofs.Told.{more_taken}
use Rattle.entry_processors.specs.Processors.{ProcessorForm}
use Rattle.replay_run.specs.Grids.{FormOf}
use Rattle.script_lang.specs.Words.{newline, pieces_at, onto_first}
use Rattle.script_lang.specs.Pieces.{IsOnePiece}
use Rattle.script_lang.proofs.Pieces.{uncut}
use Rattle.grid_cli.specs.Replays.{HasRead, StopsWithin, LeadsTo, Takes, StopsIn, ended_line}
use Rattle.grid_cli.specs.declared.replay.Replay.{Replay}
use Rattle.grid_cli.specs.declared.status.Status.{Status}
use Rattle.grid_cli.proofs.ReplayLaws.{stops_before, nothing_taken}

later : (x k : ℕ) (xs : List ℕ) → get_or (x ∷ xs) (k + 1) 0 ≡ get_or xs k 0
later x k xs = rw add-one refl

inner : (x k : ℕ) (xs : List ℕ) → NoneBefore (Passes (is_byte newline) (x ∷ xs)) 0 (length (x ∷ xs)) (suc k) → NoneBefore (Passes (is_byte newline) xs) 0 (length xs) k
inner x k xs before = record {
  low = omega arith;
  high = omega (arith, before.high);
  before = λ j low high p. before.before (j + 1) (omega arith) (omega arith) (ap (λ y. y == newline) (later x j xs) ∙ p);
}

-- what stands before the first newline has none
pub one_end : (xs : List ℕ) (k : ℕ) → NoneBefore (Passes (is_byte newline) xs) 0 (length xs) k → IsOnePiece (take k xs)
one_end [] k before = absurd (omega (arith, before.high))
one_end (x ∷ xs) zero before = refl
one_end (x ∷ xs) (suc k) before = goes (x == newline) (before.before 0 (omega arith) (omega arith)) (one_end xs k (inner x k xs before))
  where
    goes : (b : Bool) → (b ≡ true → ⊥) → IsOnePiece (take k xs) → cond b ([] ∷ pieces_at newline (take k xs)) (onto_first x (pieces_at newline (take k xs))) ≡ (x ∷ take k xs) ∷ []
    goes true never ih = absurd (never refl)
    goes false never ih = ap (onto_first x) ih

pub no_end : (xs : List ℕ) → Nowhere (Passes (is_byte newline) xs) 0 (length xs) → IsOnePiece xs
no_end xs none = uncut newline xs none

line_and_rest : (xs : List ℕ) (k : ℕ) → k < length xs → Passes (is_byte newline) xs k → take k xs ++ newline ∷ drop (k + 1) xs ≡ xs
line_and_rest [] k within here = absurd (omega arith)
line_and_rest (x ∷ xs) zero within here = let is : x ≡ newline = grind (arith, nat_tests) in ap (λ y. y ∷ xs) (sym is)
line_and_rest (x ∷ xs) (suc k) within here =
    let next : suc k + 1 ≡ suc (k + 1) = omega arith in
    ap (λ n. (x ∷ take k xs) ++ newline ∷ drop n (x ∷ xs)) next ∙ ap (λ ys. x ∷ ys) (line_and_rest xs k (omega arith) here)

pub split_at_line : (xs : List ℕ) (k : ℕ) → k < length xs → Passes (is_byte newline) xs k → ended_line (take k xs) ++ drop (k + 1) xs ≡ xs
split_at_line xs k within here = append_assoc (take k xs) (newline ∷ []) (drop (k + 1) xs) ∙ line_and_rest xs k within here

-- bytes taken one after the other

leads_both : {V : Type 0} {T : V → Type 0} {form : FormOf V T} (There : List ProcessorForm → List CallId → List ℕ → List ℕ → Type 0) (start now : Replay V T) (first then before after last : List ℕ)
    → Takes form start now first before after → LeadsTo form There now then after last → LeadsTo form There start (first ++ then) before last
leads_both There start now first then before after last one two forms skips read written has =
    let a = one forms skips read written has in
    let b = two forms (a.0 ++ skips) (read ++ first) (written ++ a.1) a.2 in (
      b.0 ++ a.0,
      a.1 ++ b.1,
      subst (λ s. There forms s (read ++ (first ++ then)) (written ++ (a.1 ++ b.1))) (sym (append_assoc b.0 a.0 skips))
          (subst (λ bytes. There forms (b.0 ++ (a.0 ++ skips)) bytes (written ++ (a.1 ++ b.1))) (append_assoc read first then)
          (subst (λ text. There forms (b.0 ++ (a.0 ++ skips)) ((read ++ first) ++ then) text) (append_assoc written a.1 b.1) b.2)),
      more_taken before after last a.1 b.1 a.3 b.3,
    )

stops_sooner : {V : Type 0} {T : V → Type 0} {form : FormOf V T} (start : Replay V T) (status : Status) (first then before last : List ℕ) → StopsIn form start status first before last → StopsIn form start status (first ++ then) before last
stops_sooner start status first then before last one forms skips read written has =
    let a = one forms skips read written has in (
      a.0,
      a.1,
      subst (λ bytes. StopsWithin forms status (a.0 ++ skips) bytes (written ++ a.1)) (append_assoc read first then) (stops_before status (a.0 ++ skips) (read ++ first) then (written ++ a.1) a.2),
      a.3,
    )

-- What was taken of a piece: its front, of which the rest is left.
pub record HasTaken {V : Type 0} {T : V → Type 0} (form : FormOf V T) (start now : Replay V T) (before after piece rest : List ℕ) : Type 0 where
  pub front : List ℕ
  pub is_front : front ++ rest ≡ piece
  pub takes : Takes form start now front before after

pub taken_none : {V : Type 0} {T : V → Type 0} {form : FormOf V T} (replay : Replay V T) (before piece : List ℕ) → HasTaken form replay replay before before piece piece
taken_none replay before piece = record {
  front = [];
  is_front = refl;
  takes = nothing_taken replay before;
}

pub taken_more : {V : Type 0} {T : V → Type 0} {form : FormOf V T} (start now next : Replay V T) (before after last piece rest left : List ℕ) (k : ℕ) → HasTaken form start now before after piece rest
    → k < length rest → Passes (is_byte newline) rest k → left ≡ drop (k + 1) rest → Takes form now next (ended_line (take k rest)) after last → HasTaken form start next before last piece left
taken_more {form = form} start now next before after last piece rest left k has within here left_is takes = record {
  front = has.front ++ ended_line (take k rest);
  is_front =
      append_assoc has.front (ended_line (take k rest)) left
      ∙ ap (λ bytes. has.front ++ bytes) (ap (λ l. ended_line (take k rest) ++ l) left_is ∙ split_at_line rest k within here)
      ∙ has.is_front;
  takes = leads_both (λ forms. HasRead form forms next) start now has.front (ended_line (take k rest)) before after last has.takes takes;
}

-- the last bytes of the piece end no line
pub taken_end : {V : Type 0} {T : V → Type 0} {form : FormOf V T} (start now next : Replay V T) (before after last piece rest : List ℕ) → HasTaken form start now before after piece rest → Takes form now next rest after last → Takes form start next piece before last
taken_end {form = form} start now next before after last piece rest has takes =
    subst (λ bytes. Takes form start next bytes before last) has.is_front (leads_both (λ forms. HasRead form forms next) start now has.front rest before after last has.takes takes)

-- the run stopped within the piece
pub stopped_at_line : {V : Type 0} {T : V → Type 0} {form : FormOf V T} (start now : Replay V T) (before after last piece rest : List ℕ) (k : ℕ) (status : Status) → HasTaken form start now before after piece rest
    → k < length rest → Passes (is_byte newline) rest k → StopsIn form now status (ended_line (take k rest)) after last → StopsIn form start status piece before last
stopped_at_line {form = form} start now before after last piece rest k status has within here stops =
    let all = ap (λ bytes. has.front ++ bytes) (split_at_line rest k within here) ∙ has.is_front in
    subst (λ bytes. StopsIn form start status bytes before last) all
    (leads_both (λ forms. StopsWithin forms status) start now has.front (ended_line (take k rest) ++ drop (k + 1) rest) before after last has.takes
    (stops_sooner now status (ended_line (take k rest)) (drop (k + 1) rest) after last stops))

pub stopped_at_end : {V : Type 0} {T : V → Type 0} {form : FormOf V T} (start now : Replay V T) (before after last piece rest : List ℕ) (status : Status) → HasTaken form start now before after piece rest
    → StopsIn form now status rest after last → StopsIn form start status piece before last
stopped_at_end {form = form} start now before after last piece rest status has stops =
    subst (λ bytes. StopsIn form start status bytes before last) has.is_front (leads_both (λ forms. StopsWithin forms status) start now has.front rest before after last has.takes stops)

-- what was read goes on
pub read_on : {V : Type 0} {T : V → Type 0} {form : FormOf V T} (start now : Replay V T) (before after piece rest : List ℕ) → HasTaken form start now before after piece rest
    → (forms : List ProcessorForm) × (skips : List CallId) × (read written : List ℕ) × HasRead form forms start skips read written → (forms : List ProcessorForm) × (skips : List CallId) × (read written : List ℕ) × HasRead form forms now skips read written
read_on start now before after piece rest has given =
    let a = has.takes given.0 given.1 given.2 given.3 given.4 in (given.0, a.0 ++ given.1, given.2 ++ has.front, given.3 ++ a.1, a.2)
