-- What a pass knows that has learned, and where a call stands that was started then.
use Rattle.std.proofs.Common.{◌≡◌, inl, inr, ⊎_elim, ℕ, zero, suc, List, [], ◌∷◌, ◌++◌, Option, Some, None, slice_get, set, sym, ap, ◌∙◌, subst, append_assoc}
use Rattle.std.proofs.lemmas.List.{set-set}
use Rattle.grid_base.specs.declared.names.CallId.{CallId}
use Rattle.grid_base.specs.declared.calls.Request.{Request}
use Rattle.hand_cell.specs.declared.names.Key.{Key}
use Rattle.hand_cell.specs.declared.names.Key.TheVariants.{Call}
use Rattle.hand_cell.specs.declared.outcome.LiveOutcome.{LiveOutcome}
use Rattle.hand_cell.specs.Names.{Lacks}
use Rattle.hand_cell.specs.Told.{Told}
use Rattle.job_queues.specs.Roster.{roster_of}
use Rattle.partition_threads.specs.declared.workplace.Workplace.{Workplace}
use Rattle.session_calls.specs.declared.session.SessionPass.{SessionPass}
use Rattle.session_calls.specs.Clause.{HasCalled, StandsOnce, StandsNowhere}
use Rattle.session_calls.specs.Learning.{Begins, StandsBefore, HasGrownAt, HasLearnedAt, HasTaughtAt, CallsStandInOrder, ReturnedCallsStandInOrder}
use Rattle.session_calls.proofs.Places.{same_some, none_some, set_there}

-- what was taken from a place, or what came of it, was put back there
pub put_again : {A : Type 0} (xs ys zs : List (Option A)) (i p : ℕ) (v : A) → i ≡ p → ys ≡ set xs i None → zs ≡ set ys i (Some v) → zs ≡ set xs p (Some v)
put_again {A} xs ys zs i p v e taken put = put ∙ (ap (λ (l : List (Option A)). set l i (Some v)) taken ∙ (set-set xs i None (Some v) ∙ ap (λ (n : ℕ). set xs n (Some v)) e))

-- what stands where was written is what was written
set_here : {A : Type 0} (xs : List A) (i : ℕ) (v w : A) → slice_get (set xs i v) i ≡ Some w → w ≡ v
set_here [] i v w e = absurd (none_some w e)
set_here (x ∷ xs) zero v w e = sym (same_some v w e)
set_here (x ∷ xs) (suc i) v w e = set_here xs i v w e

module _ {E : Type 0} where
  behind_rest : (a m b z : List E) → (a ++ m) ++ (b ++ z) ≡ (a ++ (m ++ b)) ++ z
  behind_rest [] m b z = sym (append_assoc m b z)
  behind_rest (x ∷ a) m b z = ap (λ (l : List E). x ∷ l) (behind_rest a m b z)

  behind_event : (p a m b z : List E) (e : E) → ((p ++ e ∷ a) ++ m) ++ (b ++ z) ≡ p ++ e ∷ ((a ++ (m ++ b)) ++ z)
  behind_event [] a m b z e = ap (λ (l : List E). e ∷ l) (behind_rest a m b z)
  behind_event (x ∷ p) a m b z e = ap (λ (l : List E). x ∷ l) (behind_event p a m b z e)

  -- what was seen by the first call begins what the second was started with
  in_order : (t1 l1 b1 a1 m s2 l2 b2 a2 : List E) (e1 e2 : E) → l1 ≡ b1 ++ e1 ∷ a1 → s2 ≡ ((t1 ++ l1) ++ m) ++ l2 → l2 ≡ b2 ++ e2 ∷ a2 → StandsBefore e1 e2 s2
  in_order t1 l1 b1 a1 m s2 l2 b2 a2 e1 e2 first seen second = record {
    before = t1 ++ b1;
    between = a1 ++ (m ++ b2);
    after = a2;
    whole = seen ∙ (ap (λ (l : List E). ((t1 ++ l) ++ m) ++ l2) first ∙ (ap (λ (l : List E). ((t1 ++ (b1 ++ e1 ∷ a1)) ++ m) ++ l) second
        ∙ (ap (λ (l : List E). (l ++ m) ++ (b2 ++ e2 ∷ a2)) (sym (append_assoc t1 b1 (e1 ∷ a1))) ∙ behind_event (t1 ++ b1) a1 m b2 (e2 ∷ a2) e1)));
  }

  begins_on : (xs ys zs : List E) → Begins xs ys → Begins ys zs → Begins xs zs
  begins_on xs ys zs p q = (p.0 ++ q.0, q.1 ∙ (ap (λ (l : List E). l ++ q.0) p.1 ∙ append_assoc xs p.0 q.0))

module _ {T P E O : Type 0} (key_of : E → Key) where
  -- what a session has seen that has taught passes begins what one has seen that learns from them later
  pub learned_of : (ended new after before learned : SessionPass T P E O) (partition partition' : ℕ) (known taught grown : List (Told E)) (pass first : Told E) → new.passes.items ≡ set ended.passes.items partition (Some pass)
      → HasTaughtAt key_of new after partition known taught → HasGrownAt partition taught grown → partition' ≡ partition → HasLearnedAt key_of grown before learned partition'
      → slice_get learned.passes.items partition' ≡ Some (Some first) → Begins pass.seen first.seen
  learned_of ended new after before learned partition partition' known taught grown pass first was teach grow same learn there =
      let taught_is : teach.pass ≡ pass = same_some teach.pass pass (set_here ended.passes.items partition (Some pass) (Some teach.pass) (sym (ap (λ (l : List (Option (Told E))). slice_get l partition) was) ∙ teach.there)) in
      let first_is : first ≡ learn.now = same_some first learn.now (set_here before.passes.items partition' (Some learn.now) (Some first) (sym (ap (λ (l : List (Option (Told E))). slice_get l partition') learn.back.passes) ∙ there)) in
      let put : slice_get taught partition ≡ Some teach.taught = ap (λ (l : List (Told E)). slice_get l partition) teach.written ∙ set_there known partition teach.was teach.taught teach.was_is in
      let more = grow teach.taught learn.from put (ap (slice_get grown) (sym same) ∙ learn.from_is) in
      let one : Begins pass.seen teach.taught.seen = subst (λ (p : Told E). Begins p.seen teach.taught.seen) taught_is (teach.learned.others, teach.learned.knows) in
      let two : Begins learn.from.seen first.seen = subst (λ (p : Told E). Begins learn.from.seen p.seen) (sym first_is) (learn.learned.others, learn.learned.knows) in
      begins_on pass.seen learn.from.seen first.seen (begins_on pass.seen teach.taught.seen learn.from.seen one more) two

module _ {T P E O : Type 0} (key_of : E → Key) (call_of : ℕ → Request → ℕ → E) (tells : P → List E → E → LiveOutcome → Type 0) where
  pub returned_in_order : (place : Workplace T P E O) → ReturnedCallsStandInOrder key_of call_of tells place
  returned_in_order place terms id partition old new outcome first after known taught grown teach grow before learned request now later_terms same learn terms_are pass answer two =
      let one = first.called in
      let begins = learned_of key_of old new after before learned partition request.partition known taught grown first.pass later_terms.first first.back.passes teach grow same learn terms_are.pass in
      ⊎_elim
      (λ (ran : StandsOnce key_of tells terms id one.later outcome). ⊎_elim
      (λ (ran' : StandsOnce key_of tells later_terms request.id two.later answer). inr (inr (subst (λ (e : E). StandsBefore terms.event e pass.seen) terms_are.event
      (in_order terms.first.seen one.later ran.event_is.before ran.event_is.after begins.0 pass.seen two.later ran'.event_is.before ran'.event_is.after terms.event later_terms.event ran.event_is.whole
      (two.longer ∙ ap (λ (l : List E). l ++ two.later) (begins.1 ∙ ap (λ (l : List E). l ++ begins.0) one.longer))
      ran'.event_is.whole))))
      (λ (none : StandsNowhere key_of tells later_terms request.id two.later answer). inr (inl (subst (Lacks key_of (Call request.id)) (sym two.longer) none.nowhere)))
      two.came)
      (λ (none : StandsNowhere key_of tells terms id one.later outcome). inl (subst (Lacks key_of (Call id)) (sym one.longer) none.nowhere))
      one.came

  pub stand_in_order : (place : Workplace T P E O) → CallsStandInOrder key_of call_of tells place
  stand_in_order place terms ended old new outcome first after known taught grown teach grow before learned away request now started same learn start again was is answer again_is second =
      returned_in_order place terms ended.id ended.partition old new outcome first after known taught grown teach grow before learned request now start.terms same learn
      (record { pass = start.pass; event = start.event; plan = ap (slice_get (roster_of place.cells.items).plans) (sym start.partition) ∙ start.under_way.plan })
      second.pass answer (subst (λ (id : CallId). HasCalled key_of tells start.terms id second.pass answer) (again_is ∙ start.id) second.called)
