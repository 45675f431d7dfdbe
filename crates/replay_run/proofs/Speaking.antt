-- Messages that answer or refuse a call: what is proved of a run looks at these alone.
use Rattle.std.proofs.Common.{◌≡◌, ◌+◌, Bool, true, false, cond, ◌||◌, arith, List, [], ◌∷◌, ◌++◌, filter, Option, Some, None, refl, ap, sym, ◌∙◌, subst}
use Rattle.std.specs.Option.{is_some, option_map}
use Rattle.std.specs.List.{find}
use Rattle.std.proofs.lemmas.List.Elements.{filter-append}
use Rattle.grid_base.specs.Objects.{Object}
use Rattle.grid_base.specs.declared.names.CallId.{CallId}
use Rattle.grid_base.specs.declared.calls.Request.{Request}
use Rattle.partition_protocol.proofs.Lists.{In}
use Rattle.replay_run.specs.Runs.{Run, Appended}
use Rattle.replay_run.specs.Printing.{is_named, is_answer_to}
use Rattle.replay_run.specs.Tables.{Table}
use Rattle.replay_run.specs.Printing.{came_at}
use Rattle.replay_run.specs.Grids.{HasTable}
use Rattle.replay_run.proofs.Parts.{in_filter, in_filtered}
use Rattle.replay_run.proofs.Counting.{count}
use Rattle.replay_run.proofs.RunFacts.{RunOk}
use Rattle.replay_run.proofs.Arriving.{arrivals_stay, waiters_stay}

abbrev pub speaks : Appended → Bool
speaks m = is_some m.answers || is_some m.refuses

abbrev pub spoken : List Appended → List Appended
spoken ms = filter speaks ms

pub spoken-append : (xs ys : List Appended) → spoken (xs ++ ys) ≡ spoken xs ++ spoken ys
spoken-append xs ys = filter-append speaks xs ys

-- more of the same
pub spoken_more : (front xs ys : List Appended) → spoken xs ≡ spoken ys → spoken (front ++ xs) ≡ spoken (front ++ ys)
spoken_more front xs ys same = spoken-append front xs ∙ ap (λ ms. spoken front ++ ms) same ∙ sym (spoken-append front ys)

-- who answers or refuses speaks

answering : (o p : Option CallId) (id : CallId) → o ≡ Some id → (is_some o || is_some p) ≡ true
answering o p id e = ap (λ x. is_some x || is_some p) e

refusing : (o p : Option CallId) (id : CallId) → p ≡ Some id → (is_some o || is_some p) ≡ true
refusing None p id e = ap is_some e
refusing (Some other) p id e = refl

in_spoken : (ms : List Appended) (m : Appended) → In m ms → speaks m ≡ true → In m (spoken ms)
in_spoken ms m i s = in_filter speaks ms m i s

-- of what speaks, all stands in messages that say the same
in_alike : (xs ys : List Appended) (m : Appended) → spoken xs ≡ spoken ys → In m xs → speaks m ≡ true → In m ys
in_alike xs ys m same i s = (in_filtered speaks ys m (subst (λ ms. In m ms) same (in_spoken xs m i s))).0

silent_names : (o p : Option CallId) (id : CallId) → (is_some o || is_some p) ≡ false → is_named id o ≡ false
silent_names None p id e = refl
silent_names (Some other) p id e = absurd cc

count_spoken : (id : CallId) (ms : List Appended) → count (is_answer_to id) (spoken ms) ≡ count (is_answer_to id) ms
count_spoken id [] = refl
count_spoken id (m ∷ ms) = go (speaks m) refl (count_spoken id ms)
  where
    go : (b : Bool) → speaks m ≡ b → count (is_answer_to id) (spoken ms) ≡ count (is_answer_to id) ms → count (is_answer_to id) (cond b (m ∷ spoken ms) (spoken ms)) ≡ count (is_answer_to id) (m ∷ ms)
    go true s e = λ i. cond (is_answer_to id m) 1 0 + e i
    go false s e = let none : is_answer_to id m ≡ false = silent_names m.answers m.refuses id s in rw none (omega (arith, e))

find_spoken : (id : CallId) (ms : List Appended) → find (is_answer_to id) (spoken ms) ≡ find (is_answer_to id) ms
find_spoken id [] = refl
find_spoken id (m ∷ ms) = go (speaks m) refl (find_spoken id ms)
  where
    go : (b : Bool) → speaks m ≡ b → find (is_answer_to id) (spoken ms) ≡ find (is_answer_to id) ms → find (is_answer_to id) (cond b (m ∷ spoken ms) (spoken ms)) ≡ find (is_answer_to id) (m ∷ ms)
    go true s e = λ i. cond (is_answer_to id m) (Some m) (e i)
    go false s e = let none : is_answer_to id m ≡ false = silent_names m.answers m.refuses id s in e ∙ sym (λ i. cond (none i) (Some m) (find (is_answer_to id) ms))

-- messages that say the same

pub find_alike : (id : CallId) (xs ys : List Appended) → spoken xs ≡ spoken ys → find (is_answer_to id) xs ≡ find (is_answer_to id) ys
find_alike id xs ys same = sym (find_spoken id xs) ∙ ap (find (is_answer_to id)) same ∙ find_spoken id ys

pub alike_table : (t : Table) (r : Run) (ms : List Appended) → spoken r.appended ≡ spoken ms → HasTable t r → HasTable t (record r { appended = ms })
alike_table t r ms same h = record {
  size = h.size;
  connections = h.connections;
  calls = λ id. h.calls id
      ∙ ap (λ (x : Option Appended). option_map (λ line. record { arrived = line; answered = option_map (λ (m : Appended). m.line) x }) (came_at r id)) (find_alike id r.appended ms same);
}

pub alike_ok : {State : Type 0} (o : Object Request State) (r : Run) (ms : List Appended) → spoken ms ≡ spoken r.appended → RunOk o r → RunOk o (record r { appended = ms })
alike_ok o r ms same ok = record {
  members = ok.members;
  connections = ok.connections;
  of_arrivals = arrivals_stay r r.events ms r.reopened r.full ok.of_arrivals ok.of_arrivals.calls;
  of_waiters = waiters_stay r r.events ms r.reopened r.full ok.of_waiters;
  of_answers = record {
    given = λ m id i e. ok.of_answers.given m id (in_alike ms r.appended m same i (answering m.answers m.refuses id e)) e;
    once = λ id. let few = ok.of_answers.once id in let counts = sym (count_spoken id ms) ∙ ap (count (is_answer_to id)) same ∙ count_spoken id r.appended in omega (arith, few, counts);
  };
  of_refusals = record {
    arrived = λ m id i e. ok.of_refusals.arrived m id (in_alike ms r.appended m same i (refusing m.answers m.refuses id e)) e;
    unexecuted = λ m id i e. ok.of_refusals.unexecuted m id (in_alike ms r.appended m same i (refusing m.answers m.refuses id e)) e;
  };
  of_reopenings = record { stamped = ok.of_reopenings.stamped };
}
