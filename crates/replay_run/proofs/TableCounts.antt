-- How many calls each connection of the table has, after each thing that a line does.
use Rattle.std.proofs.Common.{◌≡◌, ◌≢◌, ℕ, ◌+◌, ◌<◌, List, [], ◌∷◌, ◌++◌, length, Option, Some, None, refl, ap, sym, ◌∙◌, subst, ⊎_elim, arith}
use Rattle.std.specs.Option.{option_map}
use Rattle.std.proofs.lemmas.Bool.{cases_eq}
use Rattle.std.proofs.lemmas.List.{length-append}
use Rattle.session_core.specs.Sessions.{session_after}
use Rattle.primary_hold.specs.declared.answer.CallAnswer.{CallAnswer}
use Rattle.grid_base.specs.declared.names.CallId.{CallId}
use Rattle.replay_run.specs.Runs.{Run, Connection, connection_of, messages_on, took_bytes, opened}
use Rattle.replay_run.specs.Tables.{Table, Opened, most_connections, opened_at, silent, with_opened, with_change, heard, with_session, replied, with_reply, called, with_arrival, lines_answered, answered, with_answer}
use Rattle.replay_run.specs.Grids.{HasTable, IsSettled, IsCounting}
use Rattle.replay_run.specs.WorldCalls.{with_answers}
use Rattle.replay_run.proofs.Hearing.{messages_sized}
use Rattle.replay_run.proofs.TableChanges.{map_some, length-changed_at, opened_changed, opened_unchanged, opened_before}
use Rattle.replay_run.proofs.TableRuns.{anew, found_there, found_before, took_elsewhere, silent_connection}

one_only : {X : Type 0} {x y : X} {found : Option X} → found ≡ Some x → found ≡ Some y → x ≡ y
one_only {x = x} {y = y} a b = let both : Some x ≡ Some y = sym a ∙ b in cc

-- an opened slot after a change to one connection
changed_from : (t : Table) (c : ℕ) (change : Opened → Opened) (o : Opened) → opened_at (with_change t c change) c ≡ Some o → (x : Opened) × (opened_at t c ≡ Some x) × (change x ≡ o)
changed_from t c change o e = map_some change (opened_at t c) o (sym (opened_changed t c change) ∙ e)

-- a change that keeps how many calls there are
kept_from : (t : Table) (c : ℕ) (change : Opened → Opened) → ((o : Opened) → length (change o).calls ≡ length o.calls) → (d : ℕ) (o : Opened) → opened_at (with_change t c change) d ≡ Some o
    → (x : Opened) × (opened_at t d ≡ Some x) × (length o.calls ≡ length x.calls)
kept_from t c change kept d o e = ⊎_elim here (λ apart. (o, sym (opened_unchanged t c d change apart) ∙ e, refl)) (cases_eq d c)
  where
    here : d ≡ c → (x : Opened) × (opened_at t d ≡ Some x) × (length o.calls ≡ length x.calls)
    here s =
        let x = changed_from t c change o (subst (λ n. opened_at (with_change t c change) n ≡ Some o) s e) in
        (x.0, ap (opened_at t) s ∙ x.1, ap (λ (y : Opened). length y.calls) (sym x.2) ∙ kept x.0)

-- a connection is opened
pub settled_opened : (t : Table) (r : Run) (h : HasTable t r) (c member : ℕ) → c < most_connections → opened_at t c ≡ None → IsSettled t r → IsSettled (with_opened t c member) (opened r c member)
settled_opened t r h c member within closed settled d o k at there = ⊎_elim here elsewhere (cases_eq d c)
  where
    none : length (messages_on (silent_connection c member)) ≡ 0
    none = let fewer = messages_sized [] in omega (arith, fewer)

    here : d ≡ c → length o.calls ≡ length (messages_on k)
    here e =
        let slot : silent c member ≡ o = one_only (anew t r h c member within closed) (subst (λ n. opened_at (with_opened t c member) n ≡ Some o) e at) in
        let new : silent_connection c member ≡ k = one_only (found_there t r h c member within closed) (subst (λ n. connection_of (opened r c member) n ≡ Some k) e there) in
        ap (λ (x : Opened). length x.calls) (sym slot) ∙ sym none ∙ ap (λ (x : Connection). length (messages_on x)) new

    elsewhere : d ≢ c → length o.calls ≡ length (messages_on k)
    elsewhere apart = settled d o k (sym (opened_before t c d member apart) ∙ at) (sym (found_before t r h c member within closed d apart) ∙ there)

-- bytes come: none of the calls that they bring has arrived
pub counting_fed : (t : Table) (r : Run) (h : HasTable t r) (c : ℕ) (k : Connection) → connection_of r c ≡ Some k → (bytes : List ℕ) → IsSettled t r
    → IsCounting (with_session t c (session_after k.conn k.member (k.bytes ++ bytes))) (took_bytes r k bytes) c (length (messages_on k))
counting_fed t r h c k is bytes settled = record {
  here = λ o e. let x = kept_from t c (heard (session_after k.conn k.member (k.bytes ++ bytes))) (λ y. refl) c o e in x.2 ∙ settled c x.0 k x.1 is;
  others = λ d o j apart at there.
      (let x = kept_from t c (heard (session_after k.conn k.member (k.bytes ++ bytes))) (λ y. refl) d o at in
      x.2 ∙ settled d x.0 j x.1 (sym (took_elsewhere t r h c k is bytes d apart) ∙ there));
}

-- a call arrives
pub counting_called : (t : Table) (r : Run) (c number line : ℕ) → IsCounting t r c number → IsCounting (with_arrival t c line) r c (number + 1)
counting_called t r c number line counting = record {
  here = λ o e.
      (let x = changed_from t c (called line) o e in
      let more = length-append x.0.calls (Some (record { arrived = line; answered = None }) ∷ []) in
      let was = counting.here x.0 x.1 in
      ap (λ (y : Opened). length y.calls) (sym x.2) ∙ omega (arith, more, was));
  others = λ d o k apart at there. counting.others d o k apart (sym (opened_unchanged t c d (called line) apart) ∙ at) there;
}

-- a session answers a message itself
pub counting_told : (t : Table) (r : Run) (c number : ℕ) → IsCounting t r c number → IsCounting (with_reply t c) r c (number + 1)
counting_told t r c number counting = record {
  here = λ o e.
      (let x = changed_from t c replied o e in
      let more = length-append x.0.calls (None ∷ []) in
      let was = counting.here x.0 x.1 in
      ap (λ (y : Opened). length y.calls) (sym x.2) ∙ omega (arith, more, was));
  others = λ d o k apart at there. counting.others d o k apart (sym (opened_unchanged t c d replied apart) ∙ at) there;
}

-- answers are given out
counting_answered : (t : Table) (r : Run) (c number : ℕ) (id : CallId) (line : ℕ) → IsCounting t r c number → IsCounting (with_answer t id line) r c number
counting_answered t r c number id line counting = record {
  here = λ o e. let x = kept_from t id.conn (answered id.number line) kept c o e in x.2 ∙ counting.here x.0 x.1;
  others = λ d o k apart at there. let x = kept_from t id.conn (answered id.number line) kept d o at in x.2 ∙ counting.others d x.0 k apart x.1 there;
}
  where
    kept : (o : Opened) → length (answered id.number line o).calls ≡ length o.calls
    kept o = length-changed_at (option_map (lines_answered line)) o.calls id.number

pub counting_answers : (line : ℕ) (answers : List CallAnswer) (t : Table) (r : Run) (c number : ℕ) → IsCounting t r c number → IsCounting (with_answers t line answers) r c number
counting_answers line [] t r c number counting = counting
counting_answers line (answer ∷ answers) t r c number counting = counting_answers line answers (with_answer t answer.id line) r c number (counting_answered t r c number answer.id line counting)
