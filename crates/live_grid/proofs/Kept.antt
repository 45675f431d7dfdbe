-- Answers that stay where another one is taken out or put in.
use Rattle.std.proofs.Common.{◌≡◌, ◌≢◌, ℕ, zero, suc, List, [], ◌∷◌, ◌++◌, get_or, Contains, sym, ap, ◌∙◌, subst, ◌⊎◌, ⊎_elim, inl, inr}
use Rattle.std.specs.List.{remove}
use Rattle.grid_base.specs.declared.names.CallId.{CallId}
use Rattle.partition_protocol.proofs.Lists.{In, in_left, in_right, in_contains, contains_in}
use Rattle.primary_hold.specs.declared.answer.CallAnswer.{CallAnswer}

-- what isn't the element at a place is still there without it
still_in : {X : Type 0} (xs : List X) (i : ℕ) (x : X) → In x xs → get_or xs i x ≢ x → In x (remove xs i)
still_in [] i x j other = absurd j
still_in (y ∷ ys) zero x (inl e) other = absurd (other e)
still_in (y ∷ ys) zero x (inr j) other = j
still_in (y ∷ ys) (suc i) x (inl e) other = inl e
still_in (y ∷ ys) (suc i) x (inr j) other = inr (still_in ys i x j other)

pub removed_keeps : (answers : List CallAnswer) (i : ℕ) (id : CallId) (answer : CallAnswer) → (get_or answers i answer).id ≡ id → answer.id ≢ id → Contains answers answer → Contains (remove answers i) answer
removed_keeps answers i id answer named other c =
    contains_in answer (remove answers i) (still_in answers i answer (in_contains answer answers c) (λ (e : get_or answers i answer ≡ answer). other (sym (ap (λ (a : CallAnswer). a.id) e) ∙ named)))

-- where an answer waits, or is kept
module _ (answer : CallAnswer) where
  abbrev pub There : List CallAnswer → List CallAnswer → Type 0
  There waits kept = Contains waits answer ⊎ Contains kept answer

  -- as the code begins: one was looked for, and there is room
  pub opened : (waits kept less more : List CallAnswer) → more ≡ less → (Contains kept answer → Contains less answer) → There waits kept → There waits more
  opened waits kept less more same stays there = ⊎_elim inl (λ c. inr (subst (λ (l : List CallAnswer). Contains l answer) (sym same) (stays c))) there

  -- nothing waited
  pub unmoved : (waits still kept : List CallAnswer) → still ≡ waits → There waits kept → There still kept
  unmoved waits still kept same there = subst (λ (l : List CallAnswer). There l kept) (sym same) there

  first_or_rest : (first : CallAnswer) (waits rest : List CallAnswer) → waits ≡ first ∷ rest → Contains waits answer → (first ≡ answer) ⊎ Contains rest answer
  first_or_rest first waits rest is c = go (subst (In answer) is (in_contains answer waits c))
    where
      go : In answer (first ∷ rest) → (first ≡ answer) ⊎ Contains rest answer
      go (inl same) = inl same
      go (inr i) = inr (contains_in answer rest i)

  -- the call's was given out
  pub fetched : (id : CallId) (first : CallAnswer) (waits rest kept : List CallAnswer) → waits ≡ first ∷ rest → first.id ≡ id → answer.id ≢ id → There waits kept → There rest kept
  fetched id first waits rest kept is named other = ⊎_elim (λ c. ⊎_elim (λ (same : first ≡ answer). absurd (other (sym (ap (λ (a : CallAnswer). a.id) same) ∙ named))) inl (first_or_rest first waits rest is c)) inr

  -- another one was, and is kept
  pub set_aside : (first : CallAnswer) (waits rest kept more room : List CallAnswer) → waits ≡ first ∷ rest → more ≡ kept ++ first ∷ [] → room ≡ more → There waits kept → There rest room
  set_aside first waits rest kept more room is grown same there = ⊎_elim
      (λ c. ⊎_elim (λ (e : first ≡ answer). inr (subst (λ (l : List CallAnswer). Contains l answer) (sym (same ∙ grown)) (contains_in answer (kept ++ first ∷ []) (in_right answer kept (first ∷ []) (inl e))))) inl (first_or_rest first waits rest is c))
      (λ c. inr (subst (λ (l : List CallAnswer). Contains l answer) (sym (same ∙ grown)) (contains_in answer (kept ++ first ∷ []) (in_left answer kept (first ∷ []) (in_contains answer kept c)))))
      there
