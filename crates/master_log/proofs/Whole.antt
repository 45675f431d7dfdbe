-- A member's whole step in the machine, and what it leaves as it is.
use Rattle.std.proofs.Common.{◌≡◌, ℕ, ◌≤◌, true, false, cond, ◌&&◌, List, [], ◌∷◌, ◌++◌, length, take, Some, slice_get, slice_set, refl, ap, sym, ◌∙◌, subst, ⊎_elim, append_assoc, append-nil}
use Rattle.partition_protocol.proofs.Lists.{cases, on_cond, set_get_same, set_twice}
use Rattle.partition_protocol.specs.Sequences.{IsFrontOf}
use Rattle.partition_protocol.specs.World.{map_or}
use Rattle.masters_protocol.specs.Members.{Member, Sent, Step, is_gathered, is_stored, server, storing}
use Rattle.masters_protocol.specs.Machine.{Masters as Machine, Event, packets_from, sending, with_member, serving, serving_at, publishing, publishing_at, stepped, is_live, is_ahead, happens, run, start}
use Rattle.masters_protocol.specs.Claims.{IsLiveMember, IsSound, Agrees}
use Rattle.masters_protocol.proofs.Lists.{on_some}
use Rattle.masters_protocol.proofs.Theorem.{every_run_agrees, run_append}
use Rattle.master_wire.specs.declared.decision.Decision.{Decision}
use Rattle.master_member.specs.Steps.{settled, settling}

pub packets_append : (m : ℕ) (xs ys : List (Sent Decision)) → packets_from m (xs ++ ys) ≡ packets_from m xs ++ packets_from m ys
packets_append m [] ys = refl
packets_append m (x ∷ xs) ys = ap (λ ps. record { from = m; to = x.to; message = x.message } ∷ ps) (packets_append m xs ys)

-- publishing changes what is published alone

module _ (v : Machine Decision) (m : ℕ) where
  pub published_members : (publishing v m).members ≡ v.members
  published_members = on_some (λ (u : Machine Decision). u.members ≡ v.members) (slice_get v.members m) v (publishing_at v m) refl
      (λ n e. on_cond (λ (u : Machine Decision). u.members ≡ v.members) (is_stored v.size m n && is_ahead v n.log) (record v { published = n.log }) v (λ z. refl) (λ z. refl))

  pub published_live : (k : ℕ) → is_live (publishing v m) k ≡ is_live v k
  published_live k = on_some (λ (u : Machine Decision). is_live u k ≡ is_live v k) (slice_get v.members m) v (publishing_at v m) refl
      (λ n e. on_cond (λ (u : Machine Decision). is_live u k ≡ is_live v k) (is_stored v.size m n && is_ahead v n.log) (record v { published = n.log }) v (λ z. refl) (λ z. refl))

-- a step of member m
module _ (v : Machine Decision) (m : ℕ) (n : Member Decision) (at : slice_get v.members m ≡ Some n) (s : Step Decision) where
  abbrev pub after : Member Decision
  after = settled v.size m s.member

  abbrev pub all_sent : List (Sent Decision)
  all_sent = s.sent ++ settling v.size m s.member

  abbrev pub moved : Machine Decision
  moved = sending (with_member v m after) m all_sent

  abbrev begun : Machine Decision
  begun = sending (with_member v m s.member) m s.sent

  at_begun : slice_get begun.members m ≡ Some s.member
  at_begun = set_get_same v.members m s.member n at

  gathered : is_gathered v.size m s.member ≡ true → serving_at begun m s.member ≡ moved
  gathered e =
      ap (λ b. cond b (sending (with_member begun m (server s.member)) m (storing v.size m (server s.member))) begun) e
      ∙ ap (λ ms. record v { members = ms; packets = (v.packets ++ packets_from m s.sent) ++ packets_from m (storing v.size m (server s.member)) }) (set_twice v.members m s.member (server s.member))
      ∙ ap (λ ps. record v { members = slice_set v.members m (server s.member); packets = ps }) (append_assoc v.packets (packets_from m s.sent) (packets_from m (storing v.size m (server s.member))) ∙ ap (λ ps. v.packets ++ ps) (sym (packets_append m s.sent (storing v.size m (server s.member)))))
      ∙ sym (ap (λ b. sending (with_member v m (cond b (server s.member) s.member)) m (s.sent ++ cond b (storing v.size m (server s.member)) [])) e)

  resting : is_gathered v.size m s.member ≡ false → serving_at begun m s.member ≡ moved
  resting e =
      ap (λ b. cond b (sending (with_member begun m (server s.member)) m (storing v.size m (server s.member))) begun) e
      ∙ ap (λ ss. sending (with_member v m s.member) m ss) (sym (append-nil s.sent))
      ∙ sym (ap (λ b. sending (with_member v m (cond b (server s.member) s.member)) m (s.sent ++ cond b (storing v.size m (server s.member)) [])) e)

  served : serving begun m ≡ moved
  served = ap (λ o. map_or o begun (serving_at begun m)) at_begun ∙ ⊎_elim gathered resting (cases (is_gathered v.size m s.member))

  -- the step is taken, what it sends is in flight, and then it publishes
  pub whole : (stepped v m s).world ≡ publishing moved m
  whole = ap (λ u. publishing u m) served

  pub at_after : slice_get (publishing moved m).members m ≡ Some after
  at_after = ap (λ ms. slice_get ms m) (published_members moved m) ∙ set_get_same v.members m after n at

-- of a front, so much
pub take_front : {X : Type 0} (p l : List X) (k : ℕ) → IsFrontOf p l → k ≡ length p → take k l ≡ p
take_front [] l k f e = rw e refl
take_front (x ∷ p) [] k f e = absurd (let z : x ∷ (p ++ f.0) ≡ [] = f.1 in cc)
take_front (x ∷ p) (y ∷ l) k f e =
    let same : x ∷ (p ++ f.0) ≡ y ∷ l = f.1 in
    let head : x ≡ y = cc in
    let rest : p ++ f.0 ≡ l = cc in
    rw e (ap (λ z. z ∷ take (length p) l) (sym head) ∙ ap (λ zs. x ∷ zs) (take_front p l (length p) (f.0, rest) refl))

-- of a run

module _ (size : ℕ) (events : List (Event Decision)) (some : 1 ≤ size) (most : size ≤ 8) where
  abbrev pub w : Machine Decision
  w = run (start size) events

  pub sound : IsSound w
  sound = (every_run_agrees size events [] some most).0

  pub next : (e : Event Decision) → run (start size) (events ++ e ∷ []) ≡ (happens w e).world
  next e = sym (run_append (start size) events (e ∷ []))

  pub agrees : (e : Event Decision) → Agrees w (e ∷ []) (happens w e).world
  agrees e = subst (λ u. Agrees w (e ∷ []) u) (next e) (every_run_agrees size events (e ∷ []) some most).1

  -- what is published stands in the log of whoever takes the step
  pub kept : (e : Event Decision) (m : ℕ) (n : Member Decision) → IsLiveMember (happens w e).world m n → IsFrontOf w.published n.log
  kept e m n l = (agrees e).kept m n l
