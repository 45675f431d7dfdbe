-- Whether a log in flight is longer than what is published, link by link.
use Rattle.std.proofs.Common.{◌≡◌, ℕ, ◌<◌, ◌≤◌, Bool, true, false, cond, ◌||◌, ◌==◌, nat_lt, nat_le, ◌^◌, List, [], ◌∷◌, ◌++◌, map, length, take, Contains, refl, ap, sym, ◌∙◌, subst, ⊎_elim, arith, inl, inr, true≢false}
use Rattle.std.specs.Int.{w32, from_le_bytes}
use Rattle.std.specs.List.{list_any, flat_map}
use Rattle.std.proofs.lemmas.Bool.Decides.{nat_tests}
use Rattle.std.proofs.lemmas.Nat.{from_le_bytes-to_le_bytes_4}
use Rattle.partition_protocol.proofs.Lists.{In, Every, cases, every_filter, contains_in}
use Rattle.partition_protocol.proofs.RowFacts.{both, number_same}
use Rattle.partition_protocol.specs.Service.{numbers_below}
use Rattle.masters_protocol.specs.Machine.{Masters as Machine, Packet, is_on, link, is_ahead}
use Rattle.masters_protocol.specs.Claims.{PacketFits}
use Rattle.masters_protocol.proofs.Tests.{in_below}
use Rattle.masters_protocol.specs.Members.{Message, Store, Stored, Ask, Tell, log_of}
use Rattle.wire_parts.specs.Parts.{number}
use Rattle.link_net.specs.Links.{list_of}
use Rattle.master_wire.specs.declared.decision.Decision.{Decision}
use Rattle.master_wire.specs.Reading.{log_length}
use Rattle.master_wire.specs.Spelling.{spelling, decision_bytes, IsSpelled}
use Rattle.master_log.specs.declared.masters.Masters.{Masters}
use Rattle.master_log.specs.Standing.{Shows}
use Rattle.master_log.proofs.Showing.{every_from, spells}

pub any_in : {X : Type 0} (t : X → Bool) (xs : List X) (x : X) → In x xs → t x ≡ true → list_any t xs ≡ true
any_in t [] x i e = absurd i
any_in t (y ∷ ys) x (inl s) e = rw (subst (λ z. t z ≡ true) (sym s) e) refl
any_in t (y ∷ ys) x (inr i) e = rw (any_in t ys x i e) (or_true (t y))
  where
    or_true : (b : Bool) → (b || true) ≡ true
    or_true true = refl
    or_true false = refl

pub one_in : {X : Type 0} (t : X → Bool) (xs : List X) → list_any t xs ≡ true → (x : X) × In x xs × (t x ≡ true)
one_in t [] e = absurd (true≢false (sym e))
one_in t (y ∷ ys) e = ⊎_elim
    (λ h. (y, inl refl, h))
    (λ h. let r = one_in t ys (subst (λ b. (b || list_any t ys) ≡ true) h e) in (r.0, inr r.1, r.2))
    (cases (t y))

-- two tests that pass for the same reasons
pub same_tests : (a b : Bool) → (a ≡ true → b ≡ true) → (b ≡ true → a ≡ true) → a ≡ b
same_tests true b f g = sym (f refl)
same_tests false true f g = g refl
same_tests false false f g = refl

-- who is on a link is among all

pub in_link : (f t : ℕ) (qs : List (Packet Decision)) (p : Packet Decision) → In p qs → is_on f t p ≡ true → In p (link f t qs)
in_link f t [] p i e = absurd i
in_link f t (q ∷ qs) p (inl s) e = subst (λ b. In p (cond b (q ∷ link f t qs) (link f t qs))) (sym (subst (λ z. is_on f t z ≡ true) (sym s) e)) (inl s)
in_link f t (q ∷ qs) p (inr i) e = ⊎_elim
    (λ h. subst (λ b. In p (cond b (q ∷ link f t qs) (link f t qs))) (sym h) (inr (in_link f t qs p i e)))
    (λ h. subst (λ b. In p (cond b (q ∷ link f t qs) (link f t qs))) (sym h) (in_link f t qs p i e))
    (cases (is_on f t q))

either_in : (f t : ℕ) (q : Packet Decision) (qs : List (Packet Decision)) (p : Packet Decision) → (In p (link f t qs) → In p qs) → In p (q ∷ link f t qs) → In p (q ∷ qs)
either_in f t q qs p ih (inl s) = inl s
either_in f t q qs p ih (inr j) = inr (ih j)

pub from_link : (f t : ℕ) (qs : List (Packet Decision)) (p : Packet Decision) → In p (link f t qs) → In p qs
from_link f t [] p i = absurd i
from_link f t (q ∷ qs) p i = ⊎_elim
    (λ h. either_in f t q qs p (from_link f t qs p) (subst (λ b. In p (cond b (q ∷ link f t qs) (link f t qs))) h i))
    (λ h. inr (from_link f t qs p (subst (λ b. In p (cond b (q ∷ link f t qs) (link f t qs))) h i)))
    (cases (is_on f t q))

module _ (test : Packet Decision → Bool) (size : ℕ) (ps : List (Packet Decision)) (fit : (p : Packet Decision) → In p ps → PacketFits size p) where
  abbrev pub on_link : ℕ → ℕ → Bool
  on_link f t = list_any test (link f t ps)

  abbrev pub from_end : ℕ → Bool
  from_end f = list_any (on_link f) (numbers_below size)

  -- whether one of all passes is whether one of a link does
  pub by_links : list_any from_end (numbers_below size) ≡ list_any test ps
  by_links = same_tests (list_any from_end (numbers_below size)) (list_any test ps)
      (λ e. let f = one_in from_end (numbers_below size) e in let t = one_in (on_link f.0) (numbers_below size) f.2 in let p = one_in test (link f.0 t.0 ps) t.2 in
      any_in test ps p.0 (from_link f.0 t.0 ps p.0 p.1) p.2)
      (λ e. let p = one_in test ps e in let l = fit p.0 p.1 in
      any_in from_end (numbers_below size) p.0.from (in_below size p.0.from l.from)
      (any_in (on_link p.0.from) (numbers_below size) p.0.to (in_below size p.0.to l.to)
      (any_in test (link p.0.from p.0.to ps) p.0 (in_link p.0.from p.0.to ps p.0 p.1 (both (p.0.from == p.0.from) (p.0.to == p.0.to) (number_same p.0.from p.0.from refl) (number_same p.0.to p.0.to refl))) p.2)))

-- how long a log is, by the bytes

says : (k : ℕ) (rest : List ℕ) → k < 2 ^ 32 → cond (nat_le 4 (length (number k ++ rest))) (from_le_bytes w32 (take 4 (number k ++ rest))) 0 ≡ k
says k rest small = ap (λ b. cond b (from_le_bytes w32 (take 4 (number k ++ rest))) 0) long ∙ from_le_bytes-to_le_bytes_4 k small
  where
    long : nat_le 4 (length (number k ++ rest)) ≡ true
    long = let e : 4 ≤ length (number k ++ rest) = omega arith in grind (arith, nat_tests)

pub log_says : (x : Message Decision) → IsSpelled x → log_length (spelling x) ≡ length (log_of x)
log_says (Store t l) good = says (length l) (flat_map decision_bytes l) good.1
log_says (Stored t c) good = refl
log_says (Ask t) good = refl
log_says (Tell t l) good = says (length l) (flat_map decision_bytes l) good.1

any_same : {X : Type 0} (p q : X → Bool) → ((x : X) → p x ≡ q x) → (xs : List X) → list_any p xs ≡ list_any q xs
any_same p q h [] = refl
any_same p q h (x ∷ xs) = ap (λ b. b || list_any p xs) (h x) ∙ ap (λ b. q x || b) (any_same p q h xs)

abbrev pub is_longer : ℕ → List ℕ → Bool
is_longer k bytes = nat_lt k (log_length bytes)

any_longer : (k : ℕ) (ps : List (Packet Decision)) → Every (λ (p : Packet Decision). IsSpelled p.message) ps → list_any (is_longer k) (map spells ps) ≡ list_any (λ (p : Packet Decision). nat_lt k (length (log_of p.message))) ps
any_longer k [] h = refl
any_longer k (p ∷ ps) h = ap (λ n. nat_lt k n || list_any (is_longer k) (map spells ps)) (log_says p.message h.0) ∙ ap (λ b. nat_lt k (length (log_of p.message)) || b) (any_longer k ps h.1)

-- whether a message from that member has a longer log
abbrev pub from_member : Masters → ℕ → Bool
from_member masters f = list_any (λ t. list_any (is_longer masters.published) (list_of masters.links f t)) (numbers_below masters.size)

module _ (masters : Masters) (w : Machine Decision) (shows : Shows masters w) (fit : (p : Packet Decision) → Contains w.packets p → PacketFits w.size p) where
  abbrev pub is_ahead_of : Packet Decision → Bool
  is_ahead_of p = is_ahead w (log_of p.message)

  on_links : (f t : ℕ) → list_any (is_longer masters.published) (list_of masters.links f t) ≡ list_any is_ahead_of (link f t w.packets)
  on_links f t =
      ap (list_any (is_longer masters.published)) (shows.links f t)
      ∙ any_longer masters.published (link f t w.packets) (every_filter (λ (p : Packet Decision). IsSpelled p.message) (is_on f t) w.packets (every_from (λ (p : Packet Decision). IsSpelled p.message) w.packets shows.spelled))
      ∙ ap (λ k. list_any (λ (p : Packet Decision). nat_lt k (length (log_of p.message))) (link f t w.packets)) shows.length

  -- the code's lists, link by link, are those of the packets in flight
  pub by_members : list_any (from_member masters) (numbers_below masters.size) ≡ list_any is_ahead_of w.packets
  by_members =
      any_same (from_member masters) (from_end is_ahead_of masters.size w.packets in_packets) (λ f. any_same _ (on_link is_ahead_of masters.size w.packets in_packets f) (on_links f) (numbers_below masters.size)) (numbers_below masters.size)
      ∙ by_links is_ahead_of masters.size w.packets in_packets
    where
      in_packets : (p : Packet Decision) → In p w.packets → PacketFits masters.size p
      in_packets p i = subst (λ k. PacketFits k p) (sym shows.size) (fit p (contains_in p w.packets i))
