-- The near clients of the code, found by their connections, are those of the run.
use Rattle.std.proofs.Common.{◌≡◌, ℕ, zero, suc, ◌≤◌, ◌<◌, ◌==◌, Bool, true, false, cond, List, [], ◌∷◌, ◌++◌, length, map, get_or, set, drop, Option, Some, None, refl, ap, sym, ◌∙◌, subst, append-nil, length-append, arith}
use Rattle.std.proofs.lemmas.List.{drop-append-le}
use Rattle.std.specs.List.{find, position}
use Rattle.std.specs.Option.{is_some}
use Rattle.grid_client.specs.Lists.{changed_by}
use Rattle.replay_run.specs.Runs.{Appended}
use Rattle.script_run.specs.declared.client.NearClient.{NearClient as KeptClient}
use Rattle.script_run.specs.AfterLines.{noting}
use Rattle.script_run.specs.NearClients.{NearClient, is_near}
use Rattle.script_run.specs.Outputs.{sent_to}
use Rattle.script_run.specs.Grids.{IsNear, AreNear, is_kept}
use Rattle.script_run.proofs.Places.{IsFirst, first_placed, found_at, found_placed, none_placed, set_placed}

-- a client of the code and the one of the run
pub record Pair (c : ℕ) (ks : List KeptClient) (ns : List NearClient) (kept : KeptClient) : Type 0 where
  pub near : NearClient
  pub found : find (is_near c) ns ≡ Some near
  pub is : IsNear kept near

same_test : (c : ℕ) (k : KeptClient) (n : NearClient) → IsNear k n → is_kept c k ≡ is_near c n
same_test c k n is = ap (λ x. x == c) is.conn

-- where one is found

pub pair_found : (c : ℕ) (ks : List KeptClient) (ns : List NearClient) (kept : KeptClient) → AreNear ks ns → find (is_kept c) ks ≡ Some kept → Pair c ks ns kept
pair_found c [] [] kept are found = absurd cc
pair_found c [] (n ∷ ns) kept are found = absurd are
pair_found c (k ∷ ks) [] kept are found = absurd are
pair_found c (k ∷ ks) (n ∷ ns) kept are found = go (is_kept c k) refl found (pair_found c ks ns kept are.1)
  where
    go : (b : Bool) → is_kept c k ≡ b → cond b (Some k) (find (is_kept c) ks) ≡ Some kept → (find (is_kept c) ks ≡ Some kept → Pair c ks ns kept) → Pair c (k ∷ ks) (n ∷ ns) kept
    go true e f more =
        let same : k ≡ kept = cc in
        let test : is_near c n ≡ true = sym (same_test c k n are.0) ∙ e in
        record { near = n; found = rw test refl; is = subst (λ x. IsNear x n) same are.0 }
    go false e f more =
        let rest = more f in
        let test : is_near c n ≡ false = sym (same_test c k n are.0) ∙ e in
        record { near = rest.near; found = rw test rest.found; is = rest.is }

pub none_found : (c : ℕ) (ks : List KeptClient) (ns : List NearClient) → AreNear ks ns → find (is_kept c) ks ≡ None → find (is_near c) ns ≡ None
none_found c [] [] are found = refl
none_found c [] (n ∷ ns) are found = absurd are
none_found c (k ∷ ks) [] are found = absurd are
none_found c (k ∷ ks) (n ∷ ns) are found = go (is_kept c k) refl found (none_found c ks ns are.1)
  where
    go : (b : Bool) → is_kept c k ≡ b → cond b (Some k) (find (is_kept c) ks) ≡ None → (find (is_kept c) ks ≡ None → find (is_near c) ns ≡ None) → find (is_near c) (n ∷ ns) ≡ None
    go true e f more = absurd cc
    go false e f more =
        let test : is_near c n ≡ false = sym (same_test c k n are.0) ∙ e in
        rw test (more f)

-- where one is changed, and where none is there to be changed

pub pair_changed : (c : ℕ) (change : KeptClient → KeptClient) (into : NearClient → NearClient) (ks : List KeptClient) (ns : List NearClient) (kept : KeptClient) (near : NearClient)
    → AreNear ks ns → find (is_kept c) ks ≡ Some kept → find (is_near c) ns ≡ Some near → IsNear (change kept) (into near) → AreNear (changed_by (is_kept c) change ks) (changed_by (is_near c) into ns)
pair_changed c change into [] [] kept near are found there is = tt
pair_changed c change into [] (n ∷ ns) kept near are found there is = absurd are
pair_changed c change into (k ∷ ks) [] kept near are found there is = absurd are
pair_changed c change into (k ∷ ks) (n ∷ ns) kept near are found there is =
    go (is_kept c k) (is_near c n) (same_test c k n are.0) found there (λ f g. pair_changed c change into ks ns kept near are.1 f g is)
  where
    go : (b d : Bool) → b ≡ d → cond b (Some k) (find (is_kept c) ks) ≡ Some kept → cond d (Some n) (find (is_near c) ns) ≡ Some near
        → (find (is_kept c) ks ≡ Some kept → find (is_near c) ns ≡ Some near → AreNear (changed_by (is_kept c) change ks) (changed_by (is_near c) into ns))
        → AreNear (cond b (change k ∷ ks) (k ∷ changed_by (is_kept c) change ks)) (cond d (into n ∷ ns) (n ∷ changed_by (is_near c) into ns))
    go true true e f g more =
        let one : k ≡ kept = cc in
        let other : n ≡ near = cc in
        (subst (λ x. IsNear (change x) (into n)) (sym one) (subst (λ x. IsNear (change kept) (into x)) (sym other) is), are.1)
    go true false e f g more = absurd cc
    go false true e f g more = absurd cc
    go false false e f g more = (are.0, more f g)

pub none_changed : (c : ℕ) (into : NearClient → NearClient) (ns : List NearClient) → find (is_near c) ns ≡ None → changed_by (is_near c) into ns ≡ ns
none_changed c into [] found = refl
none_changed c into (n ∷ ns) found = go (is_near c n) found (none_changed c into ns)
  where
    go : (b : Bool) → cond b (Some n) (find (is_near c) ns) ≡ None → (find (is_near c) ns ≡ None → changed_by (is_near c) into ns ≡ ns) → cond b (into n ∷ ns) (n ∷ changed_by (is_near c) into ns) ≡ n ∷ ns
    go true f more = absurd cc
    go false f more = ap (λ ms. n ∷ ms) (more f)

-- none at first
pub none_yet : (ks : List KeptClient) → ks ≡ [] → AreNear ks []
none_yet [] none = tt
none_yet (k ∷ ks) none = absurd cc

-- one more

pub one_more : (ks : List KeptClient) (ns : List NearClient) (k : KeptClient) (n : NearClient) → AreNear ks ns → IsNear k n → AreNear (ks ++ k ∷ []) (ns ++ n ∷ [])
one_more [] [] k n are is = (is, tt)
one_more [] (m ∷ ns) k n are is = absurd are
one_more (j ∷ ks) [] k n are is = absurd are
one_more (j ∷ ks) (m ∷ ns) k n are is = (are.0, one_more ks ns k n are.1 is)

-- what lines appended is noted, of so many clients in their order

abbrev pub noted : List Appended → ℕ → List NearClient → List NearClient
noted messages zero ns = ns
noted messages (suc i) [] = []
noted messages (suc i) (n ∷ ns) = noting messages n ∷ noted messages i ns

pub noted_step : (messages : List Appended) (i : ℕ) (ks : List KeptClient) (ns : List NearClient) (k new : KeptClient) → AreNear ks (noted messages i ns) → i < length ks → k ≡ get_or ks i k
    → ((n : NearClient) → IsNear k n → IsNear new (noting messages n)) → AreNear (set ks i new) (noted messages (suc i) ns)
noted_step messages i [] ns k new are within at next = absurd (omega (arith, within))
noted_step messages zero (k0 ∷ ks) [] k new are within at next = absurd are
noted_step messages (suc i) (k0 ∷ ks) [] k new are within at next = absurd are
noted_step messages zero (k0 ∷ ks) (n ∷ ns) k new are within at next = (next n (subst (λ x. IsNear x n) (sym at) are.0), are.1)
noted_step messages (suc i) (k0 ∷ ks) (n ∷ ns) k new are within at next = (are.0, noted_step messages i ks ns k new are.1 (omega (arith, within)) at next)

pub noted_all : (messages : List Appended) (i : ℕ) (ks : List KeptClient) (ns : List NearClient) → AreNear ks (noted messages i ns) → length ks ≤ i → AreNear ks (map (noting messages) ns)
noted_all messages zero [] [] are past = tt
noted_all messages (suc i) [] [] are past = tt
noted_all messages zero [] (n ∷ ns) are past = absurd are
noted_all messages (suc i) [] (n ∷ ns) are past = absurd are
noted_all messages i (k ∷ ks) [] are past = at i are
  where
    at : (i : ℕ) → AreNear (k ∷ ks) (noted messages i []) → ⊥
    at zero are = are
    at (suc i) are = are
noted_all messages zero (k ∷ ks) (n ∷ ns) are past = absurd (omega (arith, past))
noted_all messages (suc i) (k ∷ ks) (n ∷ ns) are past = (are.0, noted_all messages i ks ns are.1 (omega (arith, past)))

-- one of them
pub noted_one : (messages : List Appended) (k new : KeptClient) (n : NearClient) → IsNear k n → new.output.items ≡ k.output.items ++ sent_to k.conn messages → (record new { output = k.output }) ≡ k → IsNear new (noting messages n)
noted_one messages k new n is all rest =
    let sent : List ℕ = sent_to k.conn messages in
    let same : new.handed ≡ k.handed = ap (λ (x : KeptClient). x.handed) rest in
    record {
      conn = ap (λ (x : KeptClient). x.conn) rest ∙ is.conn;
      within = is.within;
      client = ap (λ (x : KeptClient). x.client) rest ∙ is.client;
      unread =
          ap (λ (i : ℕ). drop i new.output.items) same ∙ ap (λ (xs : List ℕ). drop k.handed xs) all ∙ drop-append-le k.handed k.output.items sent is.handed
          ∙ ap (λ (xs : List ℕ). xs ++ sent) is.unread ∙ ap (λ (c : ℕ). n.unread ++ sent_to c messages) is.conn;
      handed = let longer = ap length all ∙ length-append k.output.items sent in let few = is.handed in omega (arith, same, longer, few);
      one = is.one;
    }

-- Where nothing is appended, all stays.
pub none_noted : (ks : List KeptClient) (ns : List NearClient) → AreNear ks ns → AreNear ks (map (noting []) ns)
none_noted [] [] are = tt
none_noted [] (n ∷ ns) are = absurd are
none_noted (k ∷ ks) [] are = absurd are
none_noted (k ∷ ks) (n ∷ ns) are =
    (record { conn = are.0.conn; within = are.0.within; client = are.0.client; unread = are.0.unread ∙ sym (append-nil n.unread); handed = are.0.handed; one = are.0.one }, none_noted ks ns are.1)

-- a connection has a client in the code where it has one in the run

is_there : (c : ℕ) (ks : List KeptClient) (ns : List NearClient) (place : ℕ) → AreNear ks ns → IsFirst (is_kept c) ks place → (n : NearClient) × (find (is_near c) ns ≡ Some n)
is_there c [] ns place are first = absurd (let low = first.within in omega (arith, low))
is_there c (k ∷ ks) ns place are first =
    let pair = pair_found c (k ∷ ks) ns (get_or (k ∷ ks) place k) are (found_at (is_kept c) (k ∷ ks) place k first) in (pair.near, pair.found)

found_or_not : (c : ℕ) (ks : List KeptClient) (ns : List NearClient) → AreNear ks ns → is_some (position (is_kept c) ks) ≡ is_some (find (is_near c) ns)
found_or_not c ks ns are = by (position (is_kept c) ks) refl
  where
    by : (place : Option ℕ) → position (is_kept c) ks ≡ place → is_some place ≡ is_some (find (is_near c) ns)
    by None e = ap (λ found. is_some found) (sym (none_found c ks ns are (none_placed (is_kept c) ks e)))
    by (Some place) e = ap (λ found. is_some found) (sym (is_there c ks ns place are (first_placed (is_kept c) ks place e)).1)

pub near_here : (c : ℕ) (ks : List KeptClient) (ns : List NearClient) → AreNear ks ns → is_some (position (is_kept c) ks) ≡ true → is_some (find (is_near c) ns) ≡ true
near_here c ks ns are e = sym (found_or_not c ks ns are) ∙ e

pub not_near_here : (c : ℕ) (ks : List KeptClient) (ns : List NearClient) → AreNear ks ns → is_some (position (is_kept c) ks) ≡ false → is_some (find (is_near c) ns) ≡ false
not_near_here c ks ns are e = sym (found_or_not c ks ns are) ∙ e

-- One was changed at its place.

pub near_at : (c : ℕ) (ks : List KeptClient) (ns : List NearClient) (place : ℕ) (kept : KeptClient) → AreNear ks ns → position (is_kept c) ks ≡ Some place → kept ≡ get_or ks place kept → Pair c ks ns kept
near_at c ks ns place kept are e at = pair_found c ks ns kept are (found_placed (is_kept c) ks place kept (first_placed (is_kept c) ks place e) at)

pub near_set : (c : ℕ) (ks : List KeptClient) (ns : List NearClient) (place : ℕ) (kept new : KeptClient) (into : NearClient → NearClient) (are : AreNear ks ns) (e : position (is_kept c) ks ≡ Some place) (at : kept ≡ get_or ks place kept)
    → IsNear new (into (near_at c ks ns place kept are e at).near) → AreNear (set ks place new) (changed_by (is_near c) into ns)
near_set c ks ns place kept new into are e at is =
    let first = first_placed (is_kept c) ks place e in
    let pair = near_at c ks ns place kept are e at in
    subst (λ (xs : List KeptClient). AreNear xs (changed_by (is_near c) into ns)) (sym (set_placed (is_kept c) ks place new first))
    (pair_changed c (λ k. new) into ks ns kept pair.near are (found_placed (is_kept c) ks place kept first at) pair.found is)

pub none_set : (c : ℕ) (ks : List KeptClient) (ns : List NearClient) (into : NearClient → NearClient) → AreNear ks ns → position (is_kept c) ks ≡ None → changed_by (is_near c) into ns ≡ ns
none_set c ks ns into are e = none_changed c into ns (none_found c ks ns are (none_placed (is_kept c) ks e))
