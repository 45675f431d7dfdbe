-- Messages are sent one after the other, each to the end of its link.
use Rattle.std.proofs.Common.{◌≡◌, ◌≢◌, ℕ, zero, suc, ◌-◌, ◌≤◌, true, false, ◌==◌, List, [], ◌∷◌, ◌++◌, length, refl, ap, sym, ◌∙◌, subst, ◌⊎◌, inl, inr, arith, append_assoc}
use Rattle.std.proofs.lemmas.Bool.Decides.{nat_tests}
use Rattle.link_net.specs.Links.{Net, list_of, spare_of, except, sent_to, with_sent, less_sent, HasLists, HasSpares}

pub same_or_not : (a b : ℕ) → (a ≡ b) ⊎ (a ≢ b)
same_or_not zero zero = inl refl
same_or_not zero (suc b) = inr (λ e. omega (arith, e))
same_or_not (suc a) zero = inr (λ e. omega (arith, e))
same_or_not (suc a) (suc b) = go (same_or_not a b)
  where
    go : (a ≡ b) ⊎ (a ≢ b) → (suc a ≡ suc b) ⊎ (suc a ≢ suc b)
    go (inl e) = inl (ap suc e)
    go (inr d) = inr (λ e. d (omega (arith, e)))

pub is_same : (a b : ℕ) → a ≡ b → (a == b) ≡ true
is_same a b e = grind (arith, nat_tests)

pub is_other : (a b : ℕ) → a ≢ b → (a == b) ≡ false
is_other a b d = grind (arith, nat_tests)

pub sent_here : (to t : ℕ) (bytes : List ℕ) (rest : List (ℕ × List ℕ)) → t ≡ to → sent_to t ((to, bytes) ∷ rest) ≡ bytes ∷ sent_to t rest
sent_here to t bytes rest e = rw (is_same to t (sym e), sent_to) refl

pub sent_elsewhere : (to t : ℕ) (bytes : List ℕ) (rest : List (ℕ × List ℕ)) → t ≢ to → sent_to t ((to, bytes) ∷ rest) ≡ sent_to t rest
sent_elsewhere to t bytes rest d = rw (is_other to t (λ e. d (sym e)), sent_to) refl

-- nothing is left to be sent
pub less_none : (from f t : ℕ) (spares : ℕ → ℕ → ℕ) → less_sent from [] spares f t ≡ spares f t
less_none from f t spares = go (same_or_not f from)
  where
    go : (f ≡ from) ⊎ (f ≢ from) → less_sent from [] spares f t ≡ spares f t
    go (inl e) = let left : less_sent from [] spares f t ≡ spares f t - 0 = rw (is_same f from e) refl in omega (arith, left)
    go (inr d) = let left : less_sent from [] spares f t ≡ spares f t - 0 = rw (is_other f from d) refl in omega (arith, left)

module _ (net new : Net) (from to : ℕ) (bytes : List ℕ) (rest : List (ℕ × List ℕ)) where
  -- the first is sent, and then the others
  pub send_next : HasLists new (except from to (list_of net from to ++ bytes ∷ []) (list_of net)) → (f t : ℕ)
      → with_sent from rest (list_of new) f t ≡ with_sent from ((to, bytes) ∷ rest) (list_of net) f t
  send_next lists f t = go (same_or_not f from) (same_or_not t to)
    where
      go : (f ≡ from) ⊎ (f ≢ from) → (t ≡ to) ⊎ (t ≢ to) → with_sent from rest (list_of new) f t ≡ with_sent from ((to, bytes) ∷ rest) (list_of net) f t
      go (inl e) (inl g) =
          let here : list_of new f t ≡ list_of net f t ++ bytes ∷ [] =
          lists f t ∙ rw (is_same f from e, is_same t to g) refl ∙ ap (λ x. list_of net x to ++ bytes ∷ []) (sym e) ∙ ap (λ x. list_of net f x ++ bytes ∷ []) (sym g) in
          let left : with_sent from rest (list_of new) f t ≡ list_of new f t ++ sent_to t rest = rw (is_same f from e) refl in
          let right : with_sent from ((to, bytes) ∷ rest) (list_of net) f t ≡ list_of net f t ++ sent_to t ((to, bytes) ∷ rest) = rw (is_same f from e) refl in
          left ∙ ap (λ xs. xs ++ sent_to t rest) here ∙ append_assoc (list_of net f t) (bytes ∷ []) (sent_to t rest)
          ∙ ap (λ xs. list_of net f t ++ xs) (sym (sent_here to t bytes rest g)) ∙ sym right
      go (inl e) (inr g) =
          let here : list_of new f t ≡ list_of net f t = lists f t ∙ rw (is_same f from e, is_other t to g) refl in
          let left : with_sent from rest (list_of new) f t ≡ list_of new f t ++ sent_to t rest = rw (is_same f from e) refl in
          let right : with_sent from ((to, bytes) ∷ rest) (list_of net) f t ≡ list_of net f t ++ sent_to t ((to, bytes) ∷ rest) = rw (is_same f from e) refl in
          left ∙ ap (λ xs. xs ++ sent_to t rest) here ∙ ap (λ xs. list_of net f t ++ xs) (sym (sent_elsewhere to t bytes rest g)) ∙ sym right
      go (inr d) k =
          let here : list_of new f t ≡ list_of net f t = lists f t ∙ rw (is_other f from d) refl in
          let left : with_sent from rest (list_of new) f t ≡ list_of new f t ++ [] = rw (is_other f from d) refl in
          let right : with_sent from ((to, bytes) ∷ rest) (list_of net) f t ≡ list_of net f t ++ [] = rw (is_other f from d) refl in
          left ∙ ap (λ xs. xs ++ []) here ∙ sym right

  -- the room for the first is taken, and then that for the others
  pub spare_next : HasSpares new (except from to (spare_of net from to - 1) (spare_of net)) → (f t : ℕ) → less_sent from rest (spare_of new) f t ≡ less_sent from ((to, bytes) ∷ rest) (spare_of net) f t
  spare_next spares f t = go (same_or_not f from) (same_or_not t to)
    where
      go : (f ≡ from) ⊎ (f ≢ from) → (t ≡ to) ⊎ (t ≢ to) → less_sent from rest (spare_of new) f t ≡ less_sent from ((to, bytes) ∷ rest) (spare_of net) f t
      go (inl e) (inl g) =
          let here : spare_of new f t ≡ spare_of net from to - 1 = spares f t ∙ rw (is_same f from e, is_same t to g) refl in
          let was : spare_of net f t ≡ spare_of net from to = ap (λ n. spare_of net n t) e ∙ ap (spare_of net from) g in
          let left : less_sent from rest (spare_of new) f t ≡ spare_of new f t - length (sent_to t rest) = rw (is_same f from e) refl in
          let right : less_sent from ((to, bytes) ∷ rest) (spare_of net) f t ≡ spare_of net f t - length (sent_to t ((to, bytes) ∷ rest)) = rw (is_same f from e) refl in
          let sent = ap length (sent_here to t bytes rest g) in
          omega (arith, here, was, left, right, sent)
      go (inl e) (inr g) =
          let here : spare_of new f t ≡ spare_of net f t = spares f t ∙ rw (is_same f from e, is_other t to g) refl in
          let left : less_sent from rest (spare_of new) f t ≡ spare_of new f t - length (sent_to t rest) = rw (is_same f from e) refl in
          let right : less_sent from ((to, bytes) ∷ rest) (spare_of net) f t ≡ spare_of net f t - length (sent_to t ((to, bytes) ∷ rest)) = rw (is_same f from e) refl in
          let sent = ap length (sent_elsewhere to t bytes rest g) in
          omega (arith, here, left, right, sent)
      go (inr d) k =
          let here : spare_of new f t ≡ spare_of net f t = spares f t ∙ rw (is_other f from d) refl in
          let left : less_sent from rest (spare_of new) f t ≡ spare_of new f t - 0 = rw (is_other f from d) refl in
          let right : less_sent from ((to, bytes) ∷ rest) (spare_of net) f t ≡ spare_of net f t - 0 = rw (is_other f from d) refl in
          omega (arith, here, left, right)

  -- and there is room for the others
  pub room_next : HasSpares new (except from to (spare_of net from to - 1) (spare_of net)) → ((t : ℕ) → length (sent_to t ((to, bytes) ∷ rest)) ≤ spare_of net from t)
      → (t : ℕ) → length (sent_to t rest) ≤ spare_of new from t
  room_next spares room t = go (same_or_not t to)
    where
      go : (t ≡ to) ⊎ (t ≢ to) → length (sent_to t rest) ≤ spare_of new from t
      go (inl g) =
          let here : spare_of new from t ≡ spare_of net from to - 1 = spares from t ∙ rw (is_same from from refl, is_same t to g) refl in
          let was : spare_of net from t ≡ spare_of net from to = ap (spare_of net from) g in
          let r = room t in
          let s = ap length (sent_here to t bytes rest g) in
          omega (arith, here, was, r, s)
      go (inr g) =
          let here : spare_of new from t ≡ spare_of net from t = spares from t ∙ rw (is_same from from refl, is_other t to g) refl in
          let r = room t in
          let s = ap length (sent_elsewhere to t bytes rest g) in
          omega (arith, here, r, s)

  pub room_first : ((t : ℕ) → length (sent_to t ((to, bytes) ∷ rest)) ≤ spare_of net from t) → 1 ≤ spare_of net from to
  room_first room =
      let r = room to in
      let s = ap length (sent_here to to bytes rest refl) in
      omega (arith, r, s)

-- The messages that are left have room, and with them the links have all
pub record AreLeft (from : ℕ) (rest all : List (ℕ × List ℕ)) (now first : Net) : Type 0 where
  pub room : (to : ℕ) → length (sent_to to rest) ≤ spare_of now from to
  pub lists : (f t : ℕ) → with_sent from rest (list_of now) f t ≡ with_sent from all (list_of first) f t
  pub spares : (f t : ℕ) → less_sent from rest (spare_of now) f t ≡ less_sent from all (spare_of first) f t
  pub ends : now.ends ≡ first.ends

pub one_left : (from to : ℕ) (bytes : List ℕ) (before rest all : List (ℕ × List ℕ)) (net new first : Net) → before ≡ (to, bytes) ∷ rest → AreLeft from before all net first
    → HasLists new (except from to (list_of net from to ++ bytes ∷ []) (list_of net)) → HasSpares new (except from to (spare_of net from to - 1) (spare_of net)) → new.ends ≡ net.ends → AreLeft from rest all new first
one_left from to bytes before rest all net new first is left lists spares ends =
    let had : AreLeft from ((to, bytes) ∷ rest) all net first = subst (λ ms. AreLeft from ms all net first) is left in
    record {
      room = room_next net new from to bytes rest spares had.room;
      lists = λ f t. send_next net new from to bytes rest lists f t ∙ had.lists f t;
      spares = λ f t. spare_next net new from to bytes rest spares f t ∙ had.spares f t;
      ends = ends ∙ had.ends;
    }
