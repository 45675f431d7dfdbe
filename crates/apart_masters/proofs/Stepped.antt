-- A master's own step is what an event of the masters does.
use Rattle.std.proofs.Common.{◌≡◌, ℕ, ◌<◌, ◌≤◌, Bool, true, false, cond, not, ◌&&◌, ◌||◌, nat_lt, nat_le, List, [], ◌∷◌, ◌++◌, length, filter, Option, Some, None, slice_get, slice_set, refl, ap, sym, ◌∙◌, ◌⊎◌, inl, inr, arith, append_assoc, append-nil, length-append, true≢false}
use Rattle.std.proofs.lemmas.Bool.Decides.{nat_tests}
use Rattle.partition_table.specs.Rows.{is_among, is_empty}
use Rattle.partition_protocol.specs.Service.{numbers_below}
use Rattle.partition_protocol.specs.World.{map_or}
use Rattle.partition_protocol.specs.Sequences.{IsFrontOf}
use Rattle.partition_protocol.proofs.Lists.{In, set_get_same, set_twice, set_itself, cases}
use Rattle.partition_protocol.proofs.Histories.{filter_in}
use Rattle.partition_protocol.proofs.Events.{get_in}
use Rattle.partition_protocol.proofs.RowFacts.{both_left, both_right, less}
use Rattle.partition_protocol.proofs.Answers.{map_append}
use Rattle.partition_protocol.proofs.Theorem.{get-numbers_below}
use Rattle.partition_protocol.proofs.Histories.{in_filter}
use Rattle.masters_protocol.specs.Members.{Role, Following, Gathering, Serving, Member, Message, Sent, Step, is_master, is_serving, is_gathered, is_stored, server, storing, hearing, taking, proposing, most_decisions, sent_again}
use Rattle.masters_protocol.specs.Machine.{Masters, Packet, Told, Propose, Deliver, Resend, Happened, is_live, is_ahead, link, taken_out, packets_from, with_packets, with_member, sending, serving, serving_at, publishing, publishing_at, nothing, done, stepped, at_member, handed_over, serves, lowest_of, master, proposed_at, resent, happens}
use Rattle.masters_protocol.specs.Claims.{IsSound, IsLiveMember}
use Rattle.apart_protocol.specs.Rulings.{Ruling}
use Rattle.apart_masters.specs.Master.{Own, IsTold, Takes, Proposes, Resends, settled, settling, whole, idle, is_clear, is_right, may_propose, does}
use Rattle.apart_masters.specs.Machine.{in_flight, published_by, led}

abbrev pub World : Type 0
World = Masters Ruling

-- the masters with another member, more in flight and another published list
abbrev pub with_all : World → List (Member Ruling) → List (Packet Ruling) → List Ruling → World
with_all w ms ps rs = record { size = w.size; members = ms; crashed = w.crashed; packets = ps; published = rs }

pub published_cond : (v : World) (b : Bool) (rs : List Ruling) → cond b (record v { published = rs }) v ≡ with_all v v.members v.packets (cond b rs v.published)
published_cond v true rs = refl
published_cond v false rs = refl

module _ (w : World) (m : ℕ) (x : Member Ruling) (there : slice_get w.members m ≡ Some x) where
  pub publishes : (y : Member Ruling) (ps : List (Packet Ruling)) → let v = with_all w (slice_set w.members m y) ps w.published in publishing v m ≡ with_all w (slice_set w.members m y) ps (published_by w m y)
  publishes y ps =
      let v : World = with_all w (slice_set w.members m y) ps w.published in
      ap (λ z. map_or z (with_all w (slice_set w.members m y) ps w.published) (publishing_at (with_all w (slice_set w.members m y) ps w.published) m)) (set_get_same w.members m y x there)
      ∙ published_cond (with_all w (slice_set w.members m y) ps w.published) (is_stored w.size m y && is_ahead w y.log) y.log

  pub serves_then : (s : Step Ruling) → let u = sending (with_member w m s.member) m s.sent in
      serving u m ≡ with_all w (slice_set w.members m (settled w.size m s.member)) (w.packets ++ packets_from m (s.sent ++ settling w.size m s.member)) w.published
  serves_then s = ap (λ z. map_or z u (serving_at u m)) (set_get_same w.members m s.member x there) ∙ go (is_gathered w.size m s.member)
    where
      u : World
      u = sending (with_member w m s.member) m s.sent

      go : (b : Bool) → cond b (sending (with_member (sending (with_member w m s.member) m s.sent) m (server s.member)) m (storing w.size m (server s.member))) (sending (with_member w m s.member) m s.sent)
          ≡ with_all w (slice_set w.members m (cond b (server s.member) s.member)) (w.packets ++ packets_from m (s.sent ++ cond b (storing w.size m (server s.member)) [])) w.published
      go false = ap (λ ss. with_all w (slice_set w.members m s.member) (w.packets ++ packets_from m ss) w.published) (sym (append-nil s.sent))
      go true =
          ap (λ ms. with_all w ms ((w.packets ++ packets_from m s.sent) ++ packets_from m (storing w.size m (server s.member))) w.published) (set_twice w.members m s.member (server s.member))
          ∙ ap (λ ps. with_all w (slice_set w.members m (server s.member)) ps w.published)
          (append_assoc w.packets (packets_from m s.sent) (packets_from m (storing w.size m (server s.member)))
          ∙ ap (λ ps. w.packets ++ ps) (sym (map_append (λ (t : Sent Ruling). let q : Packet Ruling = record { from = m; to = t.to; message = t.message } in q) s.sent (storing w.size m (server s.member)))))

  -- a whole step
  pub stepped_is : (s : Step Ruling) → (stepped w m s).world ≡ with_all w (slice_set w.members m (settled w.size m s.member)) (w.packets ++ packets_from m (s.sent ++ settling w.size m s.member)) (published_by w m (settled w.size m s.member))
  stepped_is s = ap (λ v. publishing v m) (serves_then s) ∙ publishes (settled w.size m s.member) (w.packets ++ packets_from m (s.sent ++ settling w.size m s.member))

pub at_live : (w : World) (m : ℕ) (f : Member Ruling → Happened Ruling) (x : Member Ruling) → is_live w m ≡ true → slice_get w.members m ≡ Some x → at_member w m f ≡ f x
at_live w m f x lives there = rw (lives, there) refl

-- what a live master knows to be decided is published

pub front_same : {X : Type 0} (xs ys : List X) → IsFrontOf xs ys → length ys ≤ length xs → ys ≡ xs
front_same xs ys (rest, e) l = go rest e
  where
    go : (r : List _) → xs ++ r ≡ ys → ys ≡ xs
    go [] z = sym z ∙ append-nil xs
    go (r ∷ rs) z = let whole = ap length z in let parts = length-append xs (r ∷ rs) in absurd (omega (arith, whole, parts, l))

pub not_ahead : (w : World) (log : List Ruling) → is_ahead w log ≡ false → length log ≤ length w.published
not_ahead w log e = grind (arith, nat_tests)

module _ (w : World) (sound : IsSound w) (m : ℕ) (x : Member Ruling) (lives : is_live w m ≡ true) (there : slice_get w.members m ≡ Some x) where
  pub live_member : IsLiveMember w m x
  live_member = (lives, there)

  pub stored_not_ahead : is_stored w.size m x ≡ true → is_ahead w x.log ≡ false
  stored_not_ahead e = let z : (is_stored w.size m x && is_ahead w x.log) ≡ false = sound.publishes m x live_member in rw e at z

  pub log_is : is_ahead w x.log ≡ false → x.log ≡ w.published
  log_is e = front_same w.published x.log (sound.held m x live_member) (not_ahead w x.log e)

  -- a member that stays as it is publishes nothing
  pub published_same : published_by w m x ≡ w.published
  published_same = ap (λ b. cond b x.log w.published) (sound.publishes m x live_member)

  pub led_same : (place : ℕ) (own : Own) (ss : List (Sent Ruling)) → in_flight m place own w.packets ≡ w.packets → led w m place own (record { member = x; sent = ss }) ≡ with_all w w.members (w.packets ++ packets_from m ss) w.published
  led_same place own ss e =
      ap (λ ms. with_all w ms (in_flight m place own w.packets ++ packets_from m ss) (published_by w m x)) (set_itself w.members m x there)
      ∙ ap (λ ps. with_all w w.members (ps ++ packets_from m ss) (published_by w m x)) e
      ∙ ap (λ rs. with_all w w.members (w.packets ++ packets_from m ss) rs) published_same

  -- it is told

  pub told_is : (place c : ℕ) → is_among w.crashed c ≡ true → (happens w (Told m c)).world ≡ led w m place (IsTold c) (does w.size m (IsTold c) x)
  told_is place c e =
      let one : happens w (Told m c) ≡ stepped w m (hearing w.size m c x) = rw e (at_live w m (λ y. stepped w m (hearing w.size m c y)) x lives there) in
      ap (λ (h : Happened Ruling). h.world) one ∙ stepped_is w m x there (hearing w.size m c x)

  -- it takes a message

  pub takes_is : (place from : ℕ) (message : Message Ruling) → slice_get (link from m w.packets) place ≡ Some (record { from = from; to = m; message = message })
      → (happens w (Deliver from m place)).world ≡ led w m place (Takes from message) (does w.size m (Takes from message) x)
  takes_is place from message at =
      let u : World = with_packets w (taken_out from m place w.packets) in
      let q : Packet Ruling = record { from = from; to = m; message = message } in
      let one : happens w (Deliver from m place) ≡ handed_over (with_packets w (taken_out from m place w.packets)) (record { from = from; to = m; message = message }) =
      ap (λ z. map_or z (nothing w) (λ p. handed_over (with_packets w (taken_out from m place w.packets)) p)) at in
      let two : handed_over (with_packets w (taken_out from m place w.packets)) (record { from = from; to = m; message = message }) ≡ stepped (with_packets w (taken_out from m place w.packets)) m (taking m from message x) =
      rw (lives, there) refl in
      ap (λ (h : Happened Ruling). h.world) (one ∙ two) ∙ stepped_is (with_packets w (taken_out from m place w.packets)) m x there (taking m from message x)

  -- it asks or stores again

  pub empty_none : {X : Type 0} (xs : List X) → is_empty xs ≡ true → xs ≡ []
  empty_none [] e = refl
  empty_none (y ∷ ys) e = absurd cc

  pub resends_is : (place : ℕ) → (happens w (Resend m)).world ≡ led w m place Resends (does w.size m Resends x)
  resends_is place = ap (λ (h : Happened Ruling). h.world) (at_live w m (resent w m) x lives there) ∙ go (cases (is_empty (sent_again w.size m x))) ∙ sym (led_same place Resends (sent_again w.size m x) refl)
    where
      go : (is_empty (sent_again w.size m x) ≡ true) ⊎ (is_empty (sent_again w.size m x) ≡ false) → (resent w m x).world ≡ with_all w w.members (w.packets ++ packets_from m (sent_again w.size m x)) w.published
      go (inl e) =
          let none : resent w m x ≡ nothing w = rw e refl in
          ap (λ (h : Happened Ruling). h.world) none
          ∙ ap (λ ps. with_all w w.members ps w.published) (sym (append-nil w.packets) ∙ ap (λ ss. w.packets ++ packets_from m ss) (sym (empty_none (sent_again w.size m x) e)))
      go (inr e) = let some : resent w m x ≡ done (sending w m (sent_again w.size m x)) = rw e refl in ap (λ (h : Happened Ruling). h.world) some

  -- it proposes

  pub serving_master : is_serving x.role ≡ true → is_master x.role ≡ true
  serving_master e = go x.role e
    where
      go : (r : Role Ruling) → is_serving r ≡ true → is_master r ≡ true
      go Following z = absurd cc
      go (Gathering tells) z = refl
      go (Serving counts) z = refl

  -- the only one that serves
  pub only_serves : is_serving x.role ≡ true → (k : ℕ) → serves w k ≡ true → k ≡ m
  only_serves e k s = go (slice_get w.members k) refl (both_right (is_live w k) (map_or (slice_get w.members k) false (λ (n : Member Ruling). is_serving n.role)) s)
    where
      go : (y : Option (Member Ruling)) → slice_get w.members k ≡ y → map_or y false (λ (n : Member Ruling). is_serving n.role) ≡ true → k ≡ m
      go None z t = absurd (true≢false (sym t))
      go (Some y) z t = sound.one k m y x (both_left (is_live w k) (map_or (slice_get w.members k) false (λ (n : Member Ruling). is_serving n.role)) s, z) live_member (by_role y.role t) (serving_master e)
        where
          by_role : (r : Role Ruling) → is_serving r ≡ true → is_master r ≡ true
          by_role Following z = absurd cc
          by_role (Gathering tells) z = refl
          by_role (Serving counts) z = refl

  pub lowest_in : (ks : List ℕ) → In m ks → (k : ℕ) × (lowest_of ks ≡ Some k) × In k ks
  lowest_in [] i = absurd i
  lowest_in (k ∷ ks) i = (k, refl, inl refl)

  pub master_is : is_serving x.role ≡ true → master w ≡ Some m
  master_is e =
      let below : m < w.size = less m w.size (both_left (nat_lt m w.size) (not (is_among w.crashed m)) lives) in
      let mine : serves w m ≡ true = rw (lives, there) e in
      let i : In m (filter (serves w) (numbers_below w.size)) = in_filter (serves w) (numbers_below w.size) m (get_in (numbers_below w.size) m m (get-numbers_below w.size m below)) mine in
      let r = lowest_in (filter (serves w) (numbers_below w.size)) i in
      r.1 ∙ ap Some (only_serves e r.0 (filter_in (serves w) (numbers_below w.size) r.0 r.2).1)

  pub clear_not_ahead : is_clear w.size m x ≡ true → is_ahead w x.log ≡ false
  clear_not_ahead e = go (cases (is_empty x.log)) (both_right (is_serving x.role) (is_empty x.log || is_stored w.size m x) e)
    where
      go : (is_empty x.log ≡ true) ⊎ (is_empty x.log ≡ false) → (is_empty x.log || is_stored w.size m x) ≡ true → is_ahead w x.log ≡ false
      go (inl z) t = ap (is_ahead w) (empty_none x.log z) ∙ (let none : nat_lt (length w.published) 0 ≡ false = grind (arith, nat_tests) in none)
      go (inr z) t = stored_not_ahead (rw z at t)

  pub proposes_is : (place : ℕ) (r : Ruling) → may_propose w.size m r x ≡ true
      → (happens w (Propose r) ≡ stepped w m (proposing w.size m r x)) × ((happens w (Propose r)).world ≡ led w m place (Proposes r) (does w.size m (Proposes r) x))
  proposes_is place r may = (is, ap (λ (h : Happened Ruling). h.world) is ∙ stepped_is w m x there (proposing w.size m r x) ∙ ap (led w m place (Proposes r)) (sym so))
    where
      clear : is_clear w.size m x ≡ true
      clear = both_left (is_clear w.size m x) (nat_lt (length x.log) most_decisions) (both_left (is_clear w.size m x && nat_lt (length x.log) most_decisions) (is_right x r) may)

      room : nat_le most_decisions (length x.log) ≡ false
      room =
          let l : nat_lt (length x.log) most_decisions ≡ true = both_right (is_clear w.size m x) (nat_lt (length x.log) most_decisions) (both_left (is_clear w.size m x && nat_lt (length x.log) most_decisions) (is_right x r) may) in
          is_room (length x.log) most_decisions l
        where
          is_room : (a b : ℕ) → nat_lt a b ≡ true → nat_le b a ≡ false
          is_room a b l = grind (arith, nat_tests)

      is : happens w (Propose r) ≡ stepped w m (proposing w.size m r x)
      is =
          ap (λ z. map_or z (nothing w) (λ k. at_member w k (proposed_at w r k))) (master_is (both_left (is_serving x.role) (is_empty x.log || is_stored w.size m x) clear))
          ∙ at_live w m (proposed_at w r m) x lives there ∙ rw (clear_not_ahead clear, room) refl

      so : does w.size m (Proposes r) x ≡ whole w.size m (proposing w.size m r x)
      so = rw may refl

  -- or takes nothing on
  pub idle_is : (place : ℕ) (r : Ruling) → may_propose w.size m r x ≡ false → led w m place (Proposes r) (does w.size m (Proposes r) x) ≡ w
  idle_is place r may =
      let so : does w.size m (Proposes r) x ≡ idle x = rw may refl in
      ap (led w m place (Proposes r)) so ∙ led_same place (Proposes r) [] refl ∙ ap (λ ps. with_all w w.members ps w.published) (append-nil w.packets)
