-- Messages that were written one after the other: none, one more, and two lists after one another.
use Rattle.std.proofs.Common.{◌≡◌, ℕ, zero, suc, ◌+◌, ◌-◌, ◌<◌, ◌≤◌, arith, List, [], ◌∷◌, ◌++◌, map, length, take, get_or, sym, ◌∙◌, ap, subst, append_assoc}
use Rattle.std.proofs.lemmas.List.{append-nil, map-append, take_more, take_all}
use Rattle.std.proofs.lemmas.List.Concat.{flat_map-append}
use Rattle.std.proofs.lemmas.List.Elements.{All-nil, All-cons, All-append}
use Rattle.std.specs.List.{All, flat_map}
use Rattle.partition_protocol.specs.Messages.{Message, Effect, Sent}
use Rattle.partition_protocol.specs.CatchUp.{effects_from}
use Rattle.partition_protocol.specs.Replica.{to_one}
use Rattle.member_wire.specs.Spelling.{spelling, LengthsFit}
use Rattle.member_wire.specs.Said.{Contents, said_with, written}
use Rattle.replica_node.specs.Sending.{Fits, Sends, all_to}

pub none_sent : (k : Contents) (out : List (ℕ × List ℕ)) → Sends k [] out out
none_sent k out = record { out = sym (append-nil out); fits = All-nil (Fits k) }

pub sends_append : (k : Contents) (xs ys : List Sent) (a b c : List (ℕ × List ℕ)) → Sends k xs a b → Sends k ys b c → Sends k (xs ++ ys) a c
sends_append k xs ys a b c first second = record {
  out = second.out ∙ ap (λ l. l ++ map (written k) ys) first.out ∙ append_assoc a (map (written k) xs) (map (written k) ys)
      ∙ ap (λ l. a ++ l) (sym (map-append (written k) xs ys));
  fits = All-append (Fits k) xs ys first.fits second.fits;
}

pub same_sends : (k : Contents) (xs ys : List Sent) (a b : List (ℕ × List ℕ)) → xs ≡ ys → Sends k xs a b → Sends k ys a b
same_sends k xs ys a b same sends = record {
  out = sends.out ∙ ap (λ l. a ++ map (written k) l) same;
  fits = subst (λ (l : List Sent). All (Fits k) l) same sends.fits;
}

-- what a loop over a list has written, after one more turn
pub sends_more : {X : Type 0} (k : Contents) (f : X → List Sent) (xs : List X) (i : ℕ) (d : X) (a b c : List (ℕ × List ℕ))
    → i < length xs → Sends k (flat_map f (take i xs)) a b → Sends k (f (get_or xs i d)) b c → Sends k (flat_map f (take (i + 1) xs)) a c
sends_more k f xs i d a b c in_range before here =
    let x = get_or xs i d in
    let split : flat_map f (take i xs) ++ f x ≡ flat_map f (take (i + 1) xs) =
    sym (ap (flat_map f) (take_more xs i d in_range) ∙ flat_map-append f (take i xs) (x ∷ []) ∙ ap (λ l. flat_map f (take i xs) ++ l) (append-nil (f x))) in
    same_sends k _ _ a c split (sends_append k (flat_map f (take i xs)) (f x) a b c before here)

-- and when it ends, over a list that is known by another name
pub sends_all : {X : Type 0} (k : Contents) (f : X → List Sent) (xs ys : List X) (i : ℕ) (a b : List (ℕ × List ℕ))
    → length xs ≤ i → xs ≡ ys → Sends k (flat_map f (take i xs)) a b → Sends k (flat_map f ys) a b
sends_all k f xs ys i a b end same sends = same_sends k _ _ a b (ap (flat_map f) (take_all i xs end ∙ same)) sends

-- the same for a message to each

pub map_more : {X : Type 0} (k : Contents) (f : X → Sent) (xs : List X) (i : ℕ) (d : X) (a b c : List (ℕ × List ℕ))
    → i < length xs → Sends k (map f (take i xs)) a b → Sends k (f (get_or xs i d) ∷ []) b c → Sends k (map f (take (i + 1) xs)) a c
map_more k f xs i d a b c in_range before here =
    let x = get_or xs i d in
    let split : map f (take i xs) ++ f x ∷ [] ≡ map f (take (i + 1) xs) = sym (ap (map f) (take_more xs i d in_range) ∙ map-append f (take i xs) (x ∷ [])) in
    same_sends k _ _ a c split (sends_append k (map f (take i xs)) (f x ∷ []) a b c before here)

pub map_all : {X : Type 0} (k : Contents) (f : X → Sent) (xs : List X) (i : ℕ) (a b : List (ℕ × List ℕ))
    → length xs ≤ i → Sends k (map f (take i xs)) a b → Sends k (map f xs) a b
map_all k f xs i a b end sends = same_sends k _ _ a b (ap (map f) (take_all i xs end)) sends

-- one message that was put last
pub one_sent : (k : Contents) (to : ℕ) (m : Message) (a b : List (ℕ × List ℕ)) → b ≡ a ++ (to, spelling (said_with k m)) ∷ [] → LengthsFit (said_with k m) → Sends k (to_one to m) a b
one_sent k to m a b out fits = record { out = out; fits = All-cons (Fits k) (record { to = to; message = m }) [] fits (All-nil (Fits k)) }

-- effects, one more at the end
pub effects_from-append : (v a n : ℕ) → effects_from v a (n + 1) ≡ effects_from v a n ++ Effect v (a + n + 1) ∷ []
effects_from-append v a zero = ap (λ i. Effect v i ∷ []) (omega arith)
effects_from-append v a (suc n) =
    let rest = effects_from-append v (a + 1) n in
    let e : a + 1 + n + 1 ≡ a + suc n + 1 = omega arith in
    let f : suc n + 1 ≡ suc (n + 1) = omega arith in
    ap (effects_from v a) f ∙ ap (λ l. Effect v (a + 1) ∷ l) (rest ∙ ap (λ i. effects_from v (a + 1) n ++ Effect v i ∷ []) e)

-- what the loop over effects has written, after one more turn
pub effects_more : (k : Contents) (to v after before : ℕ) (a b c : List (ℕ × List ℕ)) → after ≤ before
    → Sends k (all_to to (effects_from v after (before - after))) a b → Sends k (to_one to (Effect v (before + 1))) b c
    → Sends k (all_to to (effects_from v after (before + 1 - after))) a c
effects_more k to v after before a b c le sent here =
    let n : before + 1 - after ≡ (before - after) + 1 = omega arith in
    let i : after + (before - after) + 1 ≡ before + 1 = omega arith in
    let split : all_to to (effects_from v after (before - after)) ++ to_one to (Effect v (before + 1)) ≡ all_to to (effects_from v after (before + 1 - after)) =
    sym (ap (λ j. all_to to (effects_from v after j)) n ∙ ap (all_to to) (effects_from-append v after (before - after))
    ∙ map-append (λ (m : Message). record { to = to; message = m }) (effects_from v after (before - after)) (Effect v (after + (before - after) + 1) ∷ [])
    ∙ ap (λ j. all_to to (effects_from v after (before - after)) ++ to_one to (Effect v j)) i) in
    same_sends k _ _ a c split (sends_append k (all_to to (effects_from v after (before - after))) (to_one to (Effect v (before + 1))) a b c sent here)

-- messages to one end, one more, and more
pub bridged_sent : (k : Contents) (to : ℕ) (xs zs : List Message) (m : Message) (a b c d : List (ℕ × List ℕ)) → Sends k (all_to to xs) a b
    → c ≡ b ++ (to, spelling (said_with k m)) ∷ [] → LengthsFit (said_with k m) → Sends k (all_to to zs) c d → Sends k (all_to to (xs ++ (m ∷ zs))) a d
bridged_sent k to xs zs m a b c d first out fits last =
    same_sends k _ _ a d (sym (map-append (λ (n : Message). record { to = to; message = n }) xs (m ∷ zs)))
    (sends_append k (all_to to xs) (all_to to (m ∷ zs)) a b d first
    (sends_append k (to_one to m) (all_to to zs) b c d (one_sent k to m b c out fits) last))
