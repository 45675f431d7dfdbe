-- A call's event in what its pass has seen.
use Rattle.std.proofs.Common.{◌≡◌, ℕ, List, [], ◌∷◌, ◌++◌, sym, refl, ap, ◌∙◌, subst, append_assoc, inl, inr, ⊎_elim, IfSome, Option, Some, None, Contains, length}
use Rattle.std.proofs.lemmas.List.Elements.{Contains-append_left, Contains-append_right, Contains-push}
use Rattle.grid_base.specs.declared.calls.Request.{Request}
use Rattle.grid_base.specs.declared.names.CallId.{CallId}
use Rattle.hand_cell.specs.declared.names.Key.{Key}
use Rattle.hand_cell.specs.declared.names.NameSet.{NameSet}
use Rattle.hand_cell.specs.declared.outcome.LiveOutcome.{LiveOutcome}
use Rattle.hand_cell.specs.Names.{NoneOf}
use Rattle.hand_cell.specs.Told.{Told, Taken, having_seen, so_far, after_ran}
use Rattle.hand_cell.specs.Calls.{Enters}
use Rattle.job_queues.specs.Terms.{Terms}
use Rattle.job_queues.specs.Answers.{IsWhyNot, IsAnswered}
use Rattle.job_queues.specs.Calls.{IsUnderWay, IsServed, IsOfCall}
use Rattle.partition_threads.specs.Turns.{HasRunIt, HasRefusedIt, HasServed, HasDelivered, Follows}
use Rattle.partition_threads.proofs.Going.{none_append, follows_turn}

module _ {P E : Type 0} (key_of : E → Key) (tells : P → List E → E → LiveOutcome → Type 0) (t : Terms P E) where
  -- the event has been run
  begun : (p q : Told E) (later : List E) → t.first ≡ p → NoneOf key_of p.names later → q ≡ having_seen p ((p.seen ++ later) ++ t.event ∷ []) → IsUnderWay key_of tells t q
  begun p q later first none is = record {
    same_table = ap (λ (z : Told E). z.table) is ∙ sym (ap (λ (z : Told E). z.table) first);
    same_names = ap (λ (z : Told E). z.names) is ∙ sym (ap (λ (z : Told E). z.names) first);
    later = later ++ t.event ∷ [];
    longer = ap (λ (z : Told E). z.seen) is ∙ (append_assoc p.seen later (t.event ∷ []) ∙ ap (λ (z : Told E). z.seen ++ (later ++ t.event ∷ [])) (sym first));
    event_is = record { before = later; after = []; whole = refl; none_before = subst (λ (z : Told E). NoneOf key_of z.names later) (sym first) none; none_after = tt };
  }

  -- and another turn follows
  pub goes_on : (p q : Told E) → IsUnderWay key_of tells t p → Follows key_of p q → IsUnderWay key_of tells t q
  goes_on p q u f = record {
    same_table = ap (λ (z : Told E). z.table) f.pass ∙ u.same_table;
    same_names = ap (λ (z : Told E). z.names) f.pass ∙ u.same_names;
    later = u.later ++ f.later;
    longer = ap (λ (z : Told E). z.seen) f.pass ∙ (ap (λ (z : List E). z ++ f.later) u.longer ∙ append_assoc t.first.seen u.later f.later);
    event_is = let e = u.event_is in record {
      before = e.before;
      after = e.after ++ f.later;
      whole = ap (λ (z : List E). z ++ f.later) e.whole ∙ append_assoc e.before (t.event ∷ e.after) f.later;
      none_before = e.none_before;
      none_after = none_append key_of t.first.names e.after f.later e.none_after (subst (λ (z : NameSet). NoneOf key_of z f.later) u.same_names f.not_own);
    };
  }

  -- the outcome of the event is told
  answered : (p : Told E) (o : LiveOutcome) → IsUnderWay key_of tells t p → tells t.plan p.seen t.event o → IsAnswered key_of tells t p o
  answered p o u told = record {
    same_table = u.same_table;
    same_names = u.same_names;
    later = u.later;
    longer = u.longer;
    came = inl (record { event_is = u.event_is; told = subst (λ (z : List E). tells t.plan z t.event o) u.longer told });
  }

  -- the event was refused
  refused : (p q : Told E) (o : LiveOutcome) → t.first ≡ p → (later : List E) → q ≡ having_seen p (p.seen ++ later) → NoneOf key_of p.names later → IsWhyNot (length q.seen) o → IsAnswered key_of tells t q o
  refused p q o first later is none why = record {
    same_table = ap (λ (z : Told E). z.table) is ∙ sym (ap (λ (z : Told E). z.table) first);
    same_names = ap (λ (z : Told E). z.names) is ∙ sym (ap (λ (z : Told E). z.names) first);
    later = later;
    longer = longer;
    came = inr (record { none = subst (λ (z : Told E). NoneOf key_of z.names later) (sym first) none; why = subst (λ (z : List E). IsWhyNot (length z) o) longer why });
  }
    where
      longer : q.seen ≡ t.first.seen ++ later
      longer = ap (λ (z : Told E). z.seen) is ∙ ap (λ (z : Told E). z.seen ++ later) (sym first)

  -- it stands in what was seen
  pub has_event : (p : Told E) → IsUnderWay key_of tells t p → Contains p.seen t.event
  has_event p u = subst (λ (z : List E). Contains z t.event) (sym u.longer)
      (Contains-append_right t.first.seen u.later t.event (subst (λ (z : List E). Contains z t.event) (sym u.event_is.whole)
      (Contains-append_right u.event_is.before (t.event ∷ u.event_is.after) t.event (Contains-append_left (t.event ∷ []) u.event_is.after t.event (Contains-push [] t.event)))))

  -- what a look tells
  pub looked : (p : Told E) (o : Option LiveOutcome) → IsUnderWay key_of tells t p → IfSome o (λ x. tells t.plan p.seen t.event x) → IsServed key_of tells t p o
  looked p None u told = u
  looked p (Some o) u told = answered p o u told

  -- a turn in which the call was run, or refused
  pub came : {T : Type 0} (p : Told E) (s u : Taken T E P) (r : Told E) (o : Option LiveOutcome) → t.first ≡ p → s.plan ≡ t.plan → Enters key_of p s → u.pass ≡ s.pass → HasServed tells s u t.event o
      → r ≡ having_seen u.pass (so_far u) → IsServed key_of tells t r o
  came {T} p s u r o first plan en same has left = ⊎_elim ran_then refused_then has
    where
      here : u.pass ≡ having_seen p (p.seen ++ en.later)
      here = same ∙ en.pass

      ran_then : HasRunIt tells s u t.event o → IsServed key_of tells t r o
      ran_then h =
          let r_is : r ≡ having_seen p ((p.seen ++ en.later) ++ t.event ∷ []) = left ∙ (ap (λ (z : Option E). having_seen u.pass (after_ran u.pass.seen z)) h.ran ∙ ap (λ (z : Told E). having_seen z (z.seen ++ t.event ∷ [])) here) in
          let seen_is : so_far u ≡ r.seen = sym (ap (λ (z : Told E). z.seen) left) in
          looked r o (begun p r en.later first en.not_own r_is) (subst (λ (z : List E). IfSome o (λ x. tells t.plan z t.event x)) seen_is (subst (λ (z : P). IfSome o (λ x. tells z (so_far u) t.event x)) plan h.told))

      refused_then : HasRefusedIt tells s u t.event o → IsServed key_of tells t r o
      refused_then h =
          let r_is : r ≡ having_seen p (p.seen ++ en.later) = left ∙ (ap (λ (z : Option E). having_seen u.pass (after_ran u.pass.seen z)) h.nothing_ran ∙ ap (λ (z : Told E). having_seen z z.seen) here) in
          subst (IsServed key_of tells t r) (sym h.told)
          (refused p r h.refusal first en.later r_is en.not_own (subst (λ (z : List E). IsWhyNot (length z) h.refusal) (ap (λ (z : Told E). z.seen) en.pass ∙ sym (ap (λ (z : Told E). z.seen) r_is)) h.why))

  -- a turn with a delivery, and a look for the call's outcome
  pub stepped : {T : Type 0} (call_of : ℕ → Request → ℕ → E) (p : Told E) (s : Taken T E P) (member : ℕ) (id : CallId) (r : Told E) (o : Option LiveOutcome) → IsUnderWay key_of tells t p → s.plan ≡ t.plan → Enters key_of p s
      → IsOfCall key_of call_of t member id → HasDelivered key_of tells call_of s member id r o → IsServed key_of tells t r o
  stepped {T} call_of p s member id r o under plan en call has =
      let u : Taken T E P = record { plan = s.plan; pass = s.pass; value = s.value; ran = has.ran } in
      let now : IsUnderWay key_of tells t r = goes_on p r under (follows_turn key_of p s u r en refl has.free has.pass_is) in
      let told = has.told call.request call.now (subst (λ (z : E). Contains r.seen z) call.event (has_event r now)) call.named in
      looked r o now
      (subst (λ (z : E). IfSome o (λ x. tells t.plan r.seen z x)) (sym call.event)
      (subst (λ (z : P). IfSome o (λ x. tells z r.seen (call_of member call.request call.now) x)) plan told))
