-- Each call of a queue keeps its rule.
use Rattle.std.proofs.Common.{◌≡◌, ◌≢◌, ℕ, zero, suc, ◌⊎◌, inl, inr, ⊎_elim, List, [], ◌∷◌, ◌++◌, All, set, sym, refl, ap, ◌∙◌, subst}
use Rattle.std.proofs.lemmas.List.Elements.{All-nil, All-head, All-tail, All-push}
use mathlib.Core.Option.{some-injective, some-ne-none}
use lib.ListN.{get_elem?}
use Rattle.atomic_table.proofs.Lists.{at_set, at_snoc, set_again}
use Rattle.crossbeam_queue.specs.Fifo.{Pushes, Pops, Forks, Learns}
use Rattle.job_queues.specs.declared.roster.QueueSide.{QueueSide}
use Rattle.job_queues.specs.declared.roster.QueueSide.TheVariants.{Opening, Ready, Spent}
use Rattle.job_queues.specs.Roster.{Roster}
use Rattle.job_queues.specs.Lists.{At}
use Rattle.job_queues.specs.QueueRule.{IsOpening, IsSpent, Agrees, Queued, knows, were_for}

same_at : {A : Type 0} (l : List A) (i j : ℕ) (a b : A) → At l i a → At l j b → i ≡ j → a ≡ b
same_at l i j a b p q e = some-injective a b (sym p ∙ (ap (get_elem? l) e ∙ q))

module _ {P : Type 0} where
  spent_agrees : (r : Roster P) (u : QueueSide P) → IsSpent u → Agrees r u
  spent_agrees r Spent s = tt
  spent_agrees r Opening s = elim s [ ]
  spent_agrees r (Ready q) s = elim s [ ]

  spent_opening : (u : QueueSide P) → IsSpent u → IsOpening u → ⊥
  spent_opening Spent s t = t
  spent_opening Opening s t = s
  spent_opening (Ready q) s t = s

  only_one : (a b : QueueSide P) (j : ℕ) → At (a ∷ []) j b → (j ≡ 0) × (a ≡ b)
  only_one a b zero e = (refl, some-injective a b e)
  only_one a b (suc j) e = absurd (some-ne-none b (sym e))

module _ {P J : Type 0} (may : Roster P → J → Type 0) where
  pub starts : Queued may [] (Opening ∷ [])
  starts =
      let none : Roster P = record { tables = []; plans = [] } in record {
        roster = none;
        waiting = All-nil (may none);
        agree = λ j v at. subst (Agrees none) (only_one Opening v j at).1 tt;
        opening = λ j v at o. (refl, λ i u here. inl ((only_one Opening u i here).0 ∙ sym (only_one Opening v j at).0));
      }

  -- while a ready pass is there, none is opening
  none_opens : (items : List J) (sides : List (QueueSide P)) (q : Queued may items sides) (pass : ℕ) (r : Roster P) → At sides pass (Ready r) → (j : ℕ) (u : QueueSide P) → At sides j u → IsOpening u → ⊥
  none_opens items sides q pass r at j u here o = ⊎_elim
      (λ (e : pass ≡ j). subst IsOpening (sym (same_at sides pass j (Ready r) u at here e)) o) (λ (s : IsSpent {P = P} (Ready r)). s) ((q.opening j u here o).1 pass (Ready r) at)

  pub pushes : (n pass : ℕ) (r : Roster P) (x : J) → may r x → Pushes (Queued may) n pass (Ready r) x (knows may (Ready r) x)
  pushes n pass r x for items sides room q at = let v : QueueSide P = Ready r in (
    v,
    subst (λ (z : List (QueueSide P)). Queued may (items ++ x ∷ []) z) (sym (set_again sides pass v at)) record {
      roster = q.roster;
      waiting = All-push (may q.roster) items x q.waiting (subst (λ (z : Roster P). may z x) (q.agree pass v at) for);
      agree = q.agree;
      opening = λ j u here o. absurd (none_opens items sides q pass r at j u here o);
    },
    (refl, for),
  )

  pub pops : (pass : ℕ) (r : Roster P) → Pops (Queued may) pass (Ready r) (knows may (Ready r))
  pops pass r x items sides q at = let v : QueueSide P = Ready r in (
    v,
    subst (λ (z : List (QueueSide P)). Queued may items z) (sym (set_again sides pass v at)) record {
      roster = q.roster;
      waiting = All-tail (may q.roster) x items q.waiting;
      agree = q.agree;
      opening = λ j u here o. absurd (none_opens (x ∷ items) sides q pass r at j u here o);
    },
    (refl, subst (λ (z : Roster P). may z x) (sym (q.agree pass v at)) (All-head (may q.roster) x items q.waiting)),
  )

  pub learns : (pass : ℕ) (r : Roster P) → Learns (Queued may) pass (Ready r) (were_for may (Ready r))
  learns pass r items sides q at = subst (λ (z : Roster P). All (may z) items) (sym (q.agree pass (Ready r) at)) q.waiting

  pub opens : (pass : ℕ) (r : Roster P) → Forks (Queued may) pass Opening (Ready r) Spent
  opens pass r items sides q at =
      let v : QueueSide P = Ready r in
      let w : QueueSide P = Spent in
      let was = q.opening pass Opening at tt in
      let who : ((i : ℕ) (u : QueueSide P) → At (set sides pass v ++ w ∷ []) i u → (v ≡ u) ⊎ IsSpent u) = λ i u here. ⊎_elim
      (λ (old : At (set sides pass v) i u). ⊎_elim (λ (t : (i ≡ pass) × (v ≡ u)). inl t.1)
      (λ (t : (i ≢ pass) × At sides i u). ⊎_elim (λ (e : i ≡ pass). absurd (t.0 e)) (λ (s : IsSpent u). inr s) (was.1 i u t.1)) (at_set sides pass i v u old))
      (λ (e : w ≡ u). inr (subst IsSpent e tt)) (at_snoc (set sides pass v) w u i here) in record {
        roster = r;
        waiting = subst (All (may r)) (sym was.0) (All-nil (may r));
        agree = λ j u here. ⊎_elim (λ (e : v ≡ u). subst (Agrees r) e refl) (spent_agrees r u) (who j u here);
        opening = λ j u here o. absurd (⊎_elim (λ (e : v ≡ u). subst IsOpening (sym e) o) (λ (s : IsSpent u). spent_opening u s o) (who j u here));
      }

  pub splits : (pass : ℕ) (r : Roster P) → Forks (Queued may) pass (Ready r) (Ready r) (Ready r)
  splits pass r items sides q at = let v : QueueSide P = Ready r in
      subst (λ (z : List (QueueSide P)). Queued may items (z ++ v ∷ [])) (sym (set_again sides pass v at)) record {
        roster = q.roster;
        waiting = q.waiting;
        agree = λ j u here. ⊎_elim (q.agree j u) (λ (e : v ≡ u). subst (Agrees q.roster) e (q.agree pass v at)) (at_snoc sides v u j here);
        opening = λ j u here o. absurd (⊎_elim (λ (was : At sides j u). none_opens items sides q pass r at j u was o) (λ (e : v ≡ u). subst IsOpening (sym e) o) (at_snoc sides v u j here));
      }
