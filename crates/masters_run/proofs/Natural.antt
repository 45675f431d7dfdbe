-- What masters do doesn't depend on what the decisions are: with each decision written otherwise, they do the same.
use Rattle.std.proofs.Common.{◌≡◌, ℕ, zero, suc, ◌+◌, Bool, true, false, not, ◌&&◌, ◌||◌, ◌==◌, nat_lt, nat_le, cond, List, [], ◌∷◌, ◌++◌, map, length, filter, Option, Some, None, slice_get, slice_set, refl, ap, sym, ◌∙◌}
use Rattle.std.specs.List.{list_any, list_all}
use Rattle.std.proofs.lemmas.List.{length-map, map-append}
use Rattle.std.proofs.lemmas.Option.{slice_get-map}
use Rattle.std.specs.Prelude.{option_map}
use Rattle.partition_protocol.specs.World.{map_or}
use Rattle.partition_table.specs.Rows.{is_among, is_empty}
use Rattle.masters_protocol.specs.Members.{Role, Following, Gathering, Serving, Member, ToldLog, Message, Store, Stored, Ask, Tell, log_of, Sent, Step, Proposed, StoreTaken, Counted, Asked, TellKept, Other, Stale, RefusedBusy, RefusedFull, Dropped, Done, tells_of, counts_of, is_gathering, is_serving, is_master, with_tell, has_told, longer, longest, is_gathered, has_stored, is_stored, peers, with_told, was_told_of_lower, gatherer, quiet, begins, going_on, hearing, server, storing, to_each, with_log, with_seen, with_role, with_count, taking, proposing, most_decisions, sent_again}
use Rattle.masters_protocol.specs.Machine.{Packet, Masters, Event, Told, Crash, Propose, Deliver, Lose, Resend, Happened, opening_member, start, is_live, is_on, link, taken_out, packets_from, with_packets, sending, with_member, is_ahead, serving_at, publishing_at, serving, publishing, nothing, done, refused, stepped, at_member, handed_over, at_place, serves, lowest_of, master, proposed_at, resent, happens, run, is_pending_at, is_pending_member, pending}
use Rattle.partition_protocol.specs.Service.{numbers_below}

-- a choice between two, each the image of one
pub cond_same : {X Y : Type 0} (g : X → Y) (b : Bool) (x y : X) (x' y' : Y) → x' ≡ g x → y' ≡ g y → cond b x' y' ≡ g (cond b x y)
cond_same g true x y x' y' e h = e
cond_same g false x y x' y' e h = h

pub map_set : {X Y : Type 0} (g : X → Y) (xs : List X) (i : ℕ) (x : X) → slice_set (map g xs) i (g x) ≡ map g (slice_set xs i x)
map_set g [] i x = refl
map_set g (y ∷ ys) zero x = refl
map_set g (y ∷ ys) (suc i) x = ap (λ zs. g y ∷ zs) (map_set g ys i x)

module _ {D E : Type 0} (f : D → E) where
  -- the same, with each decision written by f

  abbrev pub told_by : ToldLog D → ToldLog E
  told_by k = record { member = k.member; log = map f k.log }

  abbrev pub role_by : Role D → Role E
  role_by Following = Following
  role_by (Gathering ks) = Gathering (map told_by ks)
  role_by (Serving cs) = Serving cs

  abbrev pub member_by : Member D → Member E
  member_by n = record { told = n.told; seen = n.seen; log = map f n.log; role = role_by n.role }

  abbrev pub message_by : Message D → Message E
  message_by (Store t l) = Store t (map f l)
  message_by (Stored t c) = Stored t c
  message_by (Ask t) = Ask t
  message_by (Tell t l) = Tell t (map f l)

  abbrev pub sent_by : Sent D → Sent E
  sent_by s = record { to = s.to; message = message_by s.message }

  abbrev pub packet_by : Packet D → Packet E
  packet_by p = record { from = p.from; to = p.to; message = message_by p.message }

  abbrev pub masters_by : Masters D → Masters E
  masters_by w = record { size = w.size; members = map member_by w.members; crashed = w.crashed; packets = map packet_by w.packets; published = map f w.published }

  abbrev pub event_by : Event D → Event E
  event_by (Told m x) = Told m x
  event_by (Crash m) = Crash m
  event_by (Propose d) = Propose (f d)
  event_by (Deliver a b i) = Deliver a b i
  event_by (Lose a b i) = Lose a b i
  event_by (Resend m) = Resend m

  abbrev pub step_by : Step D → Step E
  step_by s = record { member = member_by s.member; sent = map sent_by s.sent; outcome = s.outcome }

  abbrev pub happened_by : Happened D → Happened E
  happened_by h = record { world = masters_by h.world; outcome = h.outcome }

  -- what is looked at

  size_same : (l : List D) → length (map f l) ≡ length l
  size_same l = length-map l f

  gathering_same : (r : Role D) → is_gathering (role_by r) ≡ is_gathering r
  gathering_same Following = refl
  gathering_same (Gathering ks) = refl
  gathering_same (Serving cs) = refl

  serving_same : (r : Role D) → is_serving (role_by r) ≡ is_serving r
  serving_same Following = refl
  serving_same (Gathering ks) = refl
  serving_same (Serving cs) = refl

  master_same : (r : Role D) → is_master (role_by r) ≡ is_master r
  master_same Following = refl
  master_same (Gathering ks) = refl
  master_same (Serving cs) = refl

  tells_same : (r : Role D) → tells_of (role_by r) ≡ map told_by (tells_of r)
  tells_same Following = refl
  tells_same (Gathering ks) = refl
  tells_same (Serving cs) = refl

  counts_same : (r : Role D) → counts_of (role_by r) ≡ counts_of r
  counts_same Following = refl
  counts_same (Gathering ks) = refl
  counts_same (Serving cs) = refl

  told_same : (ks : List (ToldLog D)) (m : ℕ) → has_told (map told_by ks) m ≡ has_told ks m
  told_same [] m = refl
  told_same (k ∷ ks) m = ap (λ b. (k.member == m) || b) (told_same ks m)

  all_told_same : (ks : List (ToldLog D)) (ps : List ℕ) → list_all (has_told (map told_by ks)) ps ≡ list_all (has_told ks) ps
  all_told_same ks [] = refl
  all_told_same ks (p ∷ ps) = ap (λ b. b && list_all (has_told (map told_by ks)) ps) (told_same ks p) ∙ ap (λ b. has_told ks p && b) (all_told_same ks ps)

  gathered_same : (size m : ℕ) (n : Member D) → is_gathered size m (member_by n) ≡ is_gathered size m n
  gathered_same size m n = go n.role
    where
      go : (r : Role D) → (is_gathering (role_by r) && list_all (has_told (tells_of (role_by r))) (peers size m n)) ≡ (is_gathering r && list_all (has_told (tells_of r)) (peers size m n))
      go Following = refl
      go (Gathering ks) = all_told_same ks (peers size m n)
      go (Serving cs) = refl

  stored_same : (size m : ℕ) (n : Member D) → is_stored size m (member_by n) ≡ is_stored size m n
  stored_same size m n = go n.role
    where
      go : (r : Role D) → (is_serving (role_by r) && list_all (has_stored (length (map f n.log)) (counts_of (role_by r))) (peers size m n)) ≡ (is_serving r && list_all (has_stored (length n.log) (counts_of r)) (peers size m n))
      go Following = refl
      go (Gathering ks) = refl
      go (Serving cs) = ap (λ c. list_all (has_stored c cs) (peers size m n)) (size_same n.log)

  ahead_same : (w : Masters D) (l : List D) → is_ahead (masters_by w) (map f l) ≡ is_ahead w l
  ahead_same w l = ap (λ c. nat_lt c (length (map f l))) (size_same w.published) ∙ ap (λ c. nat_lt (length w.published) c) (size_same l)

  -- logs

  longer_same : (xs ys : List D) → longer (map f xs) (map f ys) ≡ map f (longer xs ys)
  longer_same xs ys = ap (λ c. cond (nat_lt c (length (map f ys))) (map f ys) (map f xs)) (size_same xs)
      ∙ ap (λ c. cond (nat_lt (length xs) c) (map f ys) (map f xs)) (size_same ys) ∙ cond_same (λ l. map f l) (nat_lt (length xs) (length ys)) ys xs (map f ys) (map f xs) refl refl

  longest_same : (l : List D) (ks : List (ToldLog D)) → longest (map f l) (map told_by ks) ≡ map f (longest l ks)
  longest_same l [] = refl
  longest_same l (k ∷ ks) = ap (λ x. longest x (map told_by ks)) (longer_same l k.log) ∙ longest_same (longer l k.log) ks

  tell_same : (m : ℕ) (l : List D) (ks : List (ToldLog D)) → with_tell m (map f l) (map told_by ks) ≡ map told_by (with_tell m l ks)
  tell_same m l [] = refl
  tell_same m l (k ∷ ks) =
      let first : ToldLog D = record { member = m; log = l } in
      cond_same (λ x. map told_by x) (k.member == m) (first ∷ ks) (k ∷ with_tell m l ks) (told_by first ∷ map told_by ks) (told_by k ∷ with_tell m (map f l) (map told_by ks)) refl (ap (λ x. told_by k ∷ x) (tell_same m l ks))

  -- what is sent

  each_same : (x : Message D) (ms : List ℕ) → to_each (message_by x) ms ≡ map sent_by (to_each x ms)
  each_same x [] = refl
  each_same x (m ∷ ms) = ap (λ ss. sent_by (record { to = m; message = x }) ∷ ss) (each_same x ms)

  packets_same : (a : ℕ) (ss : List (Sent D)) → packets_from a (map sent_by ss) ≡ map packet_by (packets_from a ss)
  packets_same a [] = refl
  packets_same a (s ∷ ss) = ap (λ ps. packet_by (record { from = a; to = s.to; message = s.message }) ∷ ps) (packets_same a ss)

  link_same : (a b : ℕ) (ps : List (Packet D)) → link a b (map packet_by ps) ≡ map packet_by (link a b ps)
  link_same a b [] = refl
  link_same a b (p ∷ ps) =
      cond_same (λ x. map packet_by x) (is_on a b p) (p ∷ link a b ps) (link a b ps) (packet_by p ∷ link a b (map packet_by ps)) (link a b (map packet_by ps)) (ap (λ qs. packet_by p ∷ qs) (link_same a b ps)) (link_same a b ps)

  out_same : (a b i : ℕ) (ps : List (Packet D)) → taken_out a b i (map packet_by ps) ≡ map packet_by (taken_out a b i ps)
  out_same a b i [] = refl
  out_same a b zero (p ∷ ps) = cond_same (λ x. map packet_by x) (is_on a b p) ps (p ∷ taken_out a b zero ps) (map packet_by ps) (packet_by p ∷ taken_out a b zero (map packet_by ps)) refl (ap (λ qs. packet_by p ∷ qs) (out_same a b zero ps))
  out_same a b (suc i) (p ∷ ps) = cond_same (λ x. map packet_by x) (is_on a b p) (p ∷ taken_out a b i ps) (p ∷ taken_out a b (suc i) ps) (packet_by p ∷ taken_out a b i (map packet_by ps)) (packet_by p ∷ taken_out a b (suc i) (map packet_by ps))
      (ap (λ qs. packet_by p ∷ qs) (out_same a b i ps)) (ap (λ qs. packet_by p ∷ qs) (out_same a b (suc i) ps))

  -- a member's steps

  server_same : (n : Member D) → server (member_by n) ≡ member_by (server n)
  server_same n = ap (λ l. record (member_by n) { log = l; role = Serving [] }) (ap (λ ks. longest (map f n.log) ks) (tells_same n.role) ∙ longest_same n.log (tells_of n.role))

  storing_same : (size m : ℕ) (n : Member D) → storing size m (member_by n) ≡ map sent_by (storing size m n)
  storing_same size m n = each_same (Store m n.log) (peers size m n)

  hearing_same : (size m x : ℕ) (n : Member D) → hearing size m x (member_by n) ≡ step_by (hearing size m x n)
  hearing_same size m x n = go (with_told x n)
    where
      go : (k : Member D) → going_on size m (member_by k) ≡ step_by (going_on size m k)
      go k = ap (λ b. cond (not b && was_told_of_lower m k) (record { member = gatherer m (member_by k); sent = to_each (Ask m) (peers size m k); outcome = Done }) (quiet (member_by k) Done)) (master_same k.role)
          ∙ cond_same step_by (begins m k) (record { member = gatherer m k; sent = to_each (Ask m) (peers size m k); outcome = Done }) (quiet k Done)
          (record { member = gatherer m (member_by k); sent = to_each (Ask m) (peers size m k); outcome = Done }) (quiet (member_by k) Done)
          (ap (λ ss. record { member = gatherer m (member_by k); sent = ss; outcome = Done }) (each_same (Ask m) (peers size m k))) refl

  taking_same : (m from : ℕ) (x : Message D) (n : Member D) → taking m from (message_by x) (member_by n) ≡ step_by (taking m from x n)
  taking_same m from (Store t l) n =
      let kept = longer n.log l in
      ap (λ k. cond (nat_lt t n.seen) (quiet (member_by n) Other) (record { member = with_log t k (member_by n); sent = record { to = from; message = Stored t (length k) } ∷ []; outcome = StoreTaken })) (longer_same n.log l)
      ∙ ap (λ c. cond (nat_lt t n.seen) (quiet (member_by n) Other) (record { member = with_log t (map f kept) (member_by n); sent = record { to = from; message = Stored t c } ∷ []; outcome = StoreTaken })) (size_same kept)
      ∙ cond_same step_by (nat_lt t n.seen) (quiet n Other) (record { member = with_log t kept n; sent = record { to = from; message = Stored t (length kept) } ∷ []; outcome = StoreTaken })
      (quiet (member_by n) Other) (record { member = with_log t (map f kept) (member_by n); sent = record { to = from; message = Stored t (length kept) } ∷ []; outcome = StoreTaken }) refl refl
  taking_same m from (Stored t c) n =
      ap (λ b. cond (b && (t == m)) (quiet (with_role (Serving (with_count from c (counts_of (role_by n.role)))) (member_by n)) Counted) (quiet (member_by n) Stale)) (serving_same n.role)
      ∙ ap (λ cs. cond (is_serving n.role && (t == m)) (quiet (with_role (Serving (with_count from c cs)) (member_by n)) Counted) (quiet (member_by n) Stale)) (counts_same n.role)
      ∙ cond_same step_by (is_serving n.role && (t == m)) (quiet (with_role (Serving (with_count from c (counts_of n.role))) n) Counted) (quiet n Stale)
      (quiet (with_role (Serving (with_count from c (counts_of n.role))) (member_by n)) Counted) (quiet (member_by n) Stale) refl refl
  taking_same m from (Ask t) n =
      cond_same step_by (nat_lt t n.seen) (quiet n Other) (record { member = with_seen t n; sent = record { to = from; message = Tell t n.log } ∷ []; outcome = Asked })
      (quiet (member_by n) Other) (record { member = with_seen t (member_by n); sent = record { to = from; message = Tell t (map f n.log) } ∷ []; outcome = Asked }) refl refl
  taking_same m from (Tell t l) n =
      ap (λ b. cond (b && (t == m)) (quiet (with_role (Gathering (with_tell from (map f l) (tells_of (role_by n.role)))) (member_by n)) TellKept) (quiet (member_by n) Stale)) (gathering_same n.role)
      ∙ ap (λ ks. cond (is_gathering n.role && (t == m)) (quiet (with_role (Gathering ks) (member_by n)) TellKept) (quiet (member_by n) Stale))
      (ap (λ ks. with_tell from (map f l) ks) (tells_same n.role) ∙ tell_same from l (tells_of n.role))
      ∙ cond_same step_by (is_gathering n.role && (t == m)) (quiet (with_role (Gathering (with_tell from l (tells_of n.role))) n) TellKept) (quiet n Stale)
      (quiet (with_role (Gathering (map told_by (with_tell from l (tells_of n.role)))) (member_by n)) TellKept) (quiet (member_by n) Stale) refl refl

  proposing_same : (size m : ℕ) (d : D) (n : Member D) → proposing size m (f d) (member_by n) ≡ step_by (proposing size m d n)
  proposing_same size m d n =
      let all = n.log ++ d ∷ [] in
      ap (λ l. record { member = record (member_by n) { log = l }; sent = to_each (Store m l) (peers size m n); outcome = Proposed (length (map f n.log) + 1) }) (sym (map-append f n.log (d ∷ [])))
      ∙ ap (λ c. record { member = record (member_by n) { log = map f all }; sent = to_each (Store m (map f all)) (peers size m n); outcome = Proposed (c + 1) }) (size_same n.log)
      ∙ ap (λ ss. record { member = record (member_by n) { log = map f all }; sent = ss; outcome = Proposed (length n.log + 1) }) (each_same (Store m all) (peers size m n))

  untold_same : (ks : List (ToldLog D)) (ps : List ℕ) → filter (λ p. not (has_told (map told_by ks) p)) ps ≡ filter (λ p. not (has_told ks p)) ps
  untold_same ks [] = refl
  untold_same ks (p ∷ ps) = let rest = filter (λ q. not (has_told (map told_by ks) q)) ps in
      ap (λ b. cond (not b) (p ∷ rest) rest) (told_same ks p) ∙ ap (λ qs. cond (not (has_told ks p)) (p ∷ qs) qs) (untold_same ks ps)

  again_same : (size m : ℕ) (n : Member D) → sent_again size m (member_by n) ≡ map sent_by (sent_again size m n)
  again_same size m n = go n.role
    where
      go : (r : Role D) → cond (is_gathering (role_by r)) (to_each (Ask m) (filter (λ p. not (has_told (tells_of (role_by r)) p)) (peers size m n)))
          (cond (is_serving (role_by r) && nat_lt 0 (m + length (map f n.log))) (to_each (Store m (map f n.log)) (filter (λ p. not (has_stored (length (map f n.log)) (counts_of (role_by r)) p)) (peers size m n))) [])
          ≡ map sent_by (cond (is_gathering r) (to_each (Ask m) (filter (λ p. not (has_told (tells_of r) p)) (peers size m n)))
          (cond (is_serving r && nat_lt 0 (m + length n.log)) (to_each (Store m n.log) (filter (λ p. not (has_stored (length n.log) (counts_of r) p)) (peers size m n))) []))
      go Following = refl
      go (Gathering ks) = ap (λ ps. to_each (Ask m) ps) (untold_same ks (peers size m n)) ∙ each_same (Ask m) (filter (λ p. not (has_told ks p)) (peers size m n))
      go (Serving cs) =
          ap (λ c. cond (nat_lt 0 (m + c)) (to_each (Store m (map f n.log)) (filter (λ p. not (has_stored c cs p)) (peers size m n))) []) (size_same n.log)
          ∙ cond_same (λ x. map sent_by x) (nat_lt 0 (m + length n.log)) (to_each (Store m n.log) (filter (λ p. not (has_stored (length n.log) cs p)) (peers size m n))) []
          (to_each (Store m (map f n.log)) (filter (λ p. not (has_stored (length n.log) cs p)) (peers size m n))) [] (each_same (Store m n.log) (filter (λ p. not (has_stored (length n.log) cs p)) (peers size m n))) refl

  -- the machine

  or_same : {A B X Y : Type 0} (h : A → B) (g : X → Y) (o : Option A) (y : X) (F : A → X) (F' : B → Y) → ((a : A) → F' (h a) ≡ g (F a)) → map_or (option_map h o) (g y) F' ≡ g (map_or o y F)
  or_same h g None y F F' e = refl
  or_same h g (Some a) y F F' e = e a

  member_at_same : {X Y : Type 0} (g : X → Y) (w : Masters D) (m : ℕ) (y : X) (F : Member D → X) (F' : Member E → Y) → ((n : Member D) → F' (member_by n) ≡ g (F n))
      → map_or (slice_get (masters_by w).members m) (g y) F' ≡ g (map_or (slice_get w.members m) y F)
  member_at_same g w m y F F' e = ap (λ o. map_or o (g y) F') (slice_get-map member_by w.members m) ∙ or_same member_by g (slice_get w.members m) y F F' e

  sending_same : (w : Masters D) (a : ℕ) (ss : List (Sent D)) → sending (masters_by w) a (map sent_by ss) ≡ masters_by (sending w a ss)
  sending_same w a ss =
      ap (λ ps. record (masters_by w) { packets = map packet_by w.packets ++ ps }) (packets_same a ss)
      ∙ ap (λ ps. record (masters_by w) { packets = ps }) (sym (map-append packet_by w.packets (packets_from a ss)))

  with_member_same : (w : Masters D) (m : ℕ) (n : Member D) → with_member (masters_by w) m (member_by n) ≡ masters_by (with_member w m n)
  with_member_same w m n = ap (λ ms. record (masters_by w) { members = ms }) (map_set member_by w.members m n)

  serving_at_same : (w : Masters D) (m : ℕ) (n : Member D) → serving_at (masters_by w) m (member_by n) ≡ masters_by (serving_at w m n)
  serving_at_same w m n =
      let k = server n in
      let served = λ (s : Member E). sending (with_member (masters_by w) m s) m (storing w.size m s) in
      ap (λ b. cond b (served (server (member_by n))) (masters_by w)) (gathered_same w.size m n)
      ∙ ap (λ s. cond (is_gathered w.size m n) (served s) (masters_by w)) (server_same n)
      ∙ cond_same masters_by (is_gathered w.size m n) (sending (with_member w m k) m (storing w.size m k)) w (served (member_by k)) (masters_by w)
      (ap (λ v. sending v m (storing w.size m (member_by k))) (with_member_same w m k) ∙ ap (λ ss. sending (masters_by (with_member w m k)) m ss) (storing_same w.size m k) ∙ sending_same (with_member w m k) m (storing w.size m k)) refl

  publishing_at_same : (w : Masters D) (m : ℕ) (n : Member D) → publishing_at (masters_by w) m (member_by n) ≡ masters_by (publishing_at w m n)
  publishing_at_same w m n =
      let published : Masters E = record (masters_by w) { published = map f n.log } in
      ap (λ b. cond (b && is_ahead (masters_by w) (map f n.log)) published (masters_by w)) (stored_same w.size m n)
      ∙ ap (λ b. cond (is_stored w.size m n && b) published (masters_by w)) (ahead_same w n.log)
      ∙ cond_same masters_by (is_stored w.size m n && is_ahead w n.log) (record w { published = n.log }) w published (masters_by w) refl refl

  serves_on_same : (w : Masters D) (m : ℕ) → serving (masters_by w) m ≡ masters_by (serving w m)
  serves_on_same w m = member_at_same masters_by w m w (serving_at w m) (serving_at (masters_by w) m) (serving_at_same w m)

  publishes_same : (w : Masters D) (m : ℕ) → publishing (masters_by w) m ≡ masters_by (publishing w m)
  publishes_same w m = member_at_same masters_by w m w (publishing_at w m) (publishing_at (masters_by w) m) (publishing_at_same w m)

  stepped_same : (w : Masters D) (m : ℕ) (s : Step D) → stepped (masters_by w) m (step_by s) ≡ happened_by (stepped w m s)
  stepped_same w m s =
      let kept = with_member w m s.member in
      ap (λ v. record { world = v; outcome = s.outcome })
      (ap (λ v. publishing (serving (sending v m (map sent_by s.sent)) m) m) (with_member_same w m s.member)
      ∙ ap (λ v. publishing (serving v m) m) (sending_same kept m s.sent)
      ∙ ap (λ v. publishing v m) (serves_on_same (sending kept m s.sent) m)
      ∙ publishes_same (serving (sending kept m s.sent) m) m)

  at_member_same : (w : Masters D) (m : ℕ) (F : Member D → Happened D) (F' : Member E → Happened E) → ((n : Member D) → F' (member_by n) ≡ happened_by (F n)) → at_member (masters_by w) m F' ≡ happened_by (at_member w m F)
  at_member_same w m F F' e =
      cond_same happened_by (is_live w m) (map_or (slice_get w.members m) (nothing w) F) (nothing w) (map_or (slice_get (masters_by w).members m) (nothing (masters_by w)) F') (nothing (masters_by w))
      (member_at_same happened_by w m (nothing w) F F' e) refl

  over_same : (w : Masters D) (p : Packet D) → handed_over (masters_by w) (packet_by p) ≡ happened_by (handed_over w p)
  over_same w p =
      let taken = λ (n : Member D). stepped w p.to (taking p.to p.from p.message n) in
      let taken' = λ (n : Member E). stepped (masters_by w) p.to (taking p.to p.from (message_by p.message) n) in
      cond_same happened_by (is_live w p.to) (at_member w p.to taken) (refused w Dropped) (at_member (masters_by w) p.to taken') (refused (masters_by w) Dropped)
      (at_member_same w p.to taken taken' (λ n. ap (λ s. stepped (masters_by w) p.to s) (taking_same p.to p.from p.message n) ∙ stepped_same w p.to (taking p.to p.from p.message n))) refl

  place_same : (w : Masters D) (a b i : ℕ) (G : Packet D → Happened D) (G' : Packet E → Happened E) → ((p : Packet D) → G' (packet_by p) ≡ happened_by (G p)) → at_place (masters_by w) a b i G' ≡ happened_by (at_place w a b i G)
  place_same w a b i G G' e =
      ap (λ ps. map_or (slice_get ps i) (nothing (masters_by w)) G') (link_same a b w.packets)
      ∙ ap (λ o. map_or o (nothing (masters_by w)) G') (slice_get-map packet_by (link a b w.packets) i)
      ∙ or_same packet_by happened_by (slice_get (link a b w.packets) i) (nothing w) G G' e

  taken_same : (w : Masters D) (a b i : ℕ) → with_packets (masters_by w) (taken_out a b i (map packet_by w.packets)) ≡ masters_by (with_packets w (taken_out a b i w.packets))
  taken_same w a b i = ap (λ ps. with_packets (masters_by w) ps) (out_same a b i w.packets)

  serves_same : (w : Masters D) (m : ℕ) → serves (masters_by w) m ≡ serves w m
  serves_same w m = ap (λ b. is_live w m && b) (member_at_same (λ b. b) w m false (λ (n : Member D). is_serving n.role) (λ (n : Member E). is_serving n.role) (λ n. serving_same n.role))

  those_same : (p q : ℕ → Bool) → ((x : ℕ) → p x ≡ q x) → (xs : List ℕ) → filter p xs ≡ filter q xs
  those_same p q e [] = refl
  those_same p q e (x ∷ xs) = ap (λ b. cond b (x ∷ filter p xs) (filter p xs)) (e x) ∙ ap (λ ys. cond (q x) (x ∷ ys) ys) (those_same p q e xs)

  pub leads_same : (w : Masters D) → master (masters_by w) ≡ master w
  leads_same w = ap lowest_of (those_same (serves (masters_by w)) (serves w) (serves_same w) (numbers_below w.size))

  proposed_same : (w : Masters D) (d : D) (m : ℕ) (n : Member D) → proposed_at (masters_by w) (f d) m (member_by n) ≡ happened_by (proposed_at w d m n)
  proposed_same w d m n =
      let put = stepped w m (proposing w.size m d n) in
      let put' = stepped (masters_by w) m (proposing w.size m (f d) (member_by n)) in
      let full = cond (nat_le most_decisions (length n.log)) (refused w RefusedFull) put in
      ap (λ c. cond (is_ahead (masters_by w) (map f n.log)) (refused (masters_by w) (RefusedBusy c)) (cond (nat_le most_decisions c) (refused (masters_by w) RefusedFull) put')) (size_same n.log)
      ∙ ap (λ b. cond b (refused (masters_by w) (RefusedBusy (length n.log))) (cond (nat_le most_decisions (length n.log)) (refused (masters_by w) RefusedFull) put')) (ahead_same w n.log)
      ∙ cond_same happened_by (is_ahead w n.log) (refused w (RefusedBusy (length n.log))) full (refused (masters_by w) (RefusedBusy (length n.log))) (cond (nat_le most_decisions (length n.log)) (refused (masters_by w) RefusedFull) put') refl
      (cond_same happened_by (nat_le most_decisions (length n.log)) (refused w RefusedFull) put (refused (masters_by w) RefusedFull) put' refl
      (ap (λ s. stepped (masters_by w) m s) (proposing_same w.size m d n) ∙ stepped_same w m (proposing w.size m d n)))

  empty_same : (ss : List (Sent D)) → is_empty (map sent_by ss) ≡ is_empty ss
  empty_same [] = refl
  empty_same (s ∷ ss) = refl

  resent_same : (w : Masters D) (m : ℕ) (n : Member D) → resent (masters_by w) m (member_by n) ≡ happened_by (resent w m n)
  resent_same w m n =
      let ss = sent_again w.size m n in
      ap (λ x. cond (is_empty x) (nothing (masters_by w)) (done (sending (masters_by w) m x))) (again_same w.size m n)
      ∙ ap (λ b. cond b (nothing (masters_by w)) (done (sending (masters_by w) m (map sent_by ss)))) (empty_same ss)
      ∙ cond_same happened_by (is_empty ss) (nothing w) (done (sending w m ss)) (nothing (masters_by w)) (done (sending (masters_by w) m (map sent_by ss))) refl (ap (λ v. done v) (sending_same w m ss))

  pub happens_same : (w : Masters D) (e : Event D) → happens (masters_by w) (event_by e) ≡ happened_by (happens w e)
  happens_same w (Told m x) =
      let heard = λ (n : Member D). stepped w m (hearing w.size m x n) in
      let heard' = λ (n : Member E). stepped (masters_by w) m (hearing w.size m x n) in
      cond_same happened_by (is_among w.crashed x) (at_member w m heard) (nothing w) (at_member (masters_by w) m heard') (nothing (masters_by w))
      (at_member_same w m heard heard' (λ n. ap (λ s. stepped (masters_by w) m s) (hearing_same w.size m x n) ∙ stepped_same w m (hearing w.size m x n))) refl
  happens_same w (Crash m) =
      cond_same happened_by (is_live w m) (done (record w { crashed = w.crashed ++ m ∷ [] })) (nothing w) (done (record (masters_by w) { crashed = w.crashed ++ m ∷ [] })) (nothing (masters_by w)) refl refl
  happens_same w (Propose d) =
      ap (λ o. map_or o (nothing (masters_by w)) (λ m. at_member (masters_by w) m (proposed_at (masters_by w) (f d) m))) (leads_same w)
      ∙ go (master w)
    where
      go : (o : Option ℕ) → map_or o (nothing (masters_by w)) (λ m. at_member (masters_by w) m (proposed_at (masters_by w) (f d) m)) ≡ happened_by (map_or o (nothing w) (λ m. at_member w m (proposed_at w d m)))
      go None = refl
      go (Some m) = at_member_same w m (proposed_at w d m) (proposed_at (masters_by w) (f d) m) (proposed_same w d m)
  happens_same w (Deliver a b i) =
      let left = with_packets w (taken_out a b i w.packets) in
      place_same w a b i (λ p. handed_over left p) (λ p. handed_over (with_packets (masters_by w) (taken_out a b i (map packet_by w.packets))) p)
      (λ p. ap (λ v. handed_over v (packet_by p)) (taken_same w a b i) ∙ over_same left p)
  happens_same w (Lose a b i) =
      let left = with_packets w (taken_out a b i w.packets) in
      place_same w a b i (λ p. done left) (λ p. done (with_packets (masters_by w) (taken_out a b i (map packet_by w.packets)))) (λ p. ap (λ v. done v) (taken_same w a b i))
  happens_same w (Resend m) = at_member_same w m (resent w m) (resent (masters_by w) m) (resent_same w m)

  pub run_same : (w : Masters D) (es : List (Event D)) → run (masters_by w) (map event_by es) ≡ masters_by (run w es)
  run_same w [] = refl
  run_same w (e ∷ es) = ap (λ (h : Happened E). run h.world (map event_by es)) (happens_same w e) ∙ run_same (happens w e).world es

  opening_same : (ms : List ℕ) → map opening_member ms ≡ map member_by (map opening_member ms)
  opening_same [] = refl
  opening_same (m ∷ ms) = ap (λ n. n ∷ map opening_member ms) (opens m) ∙ ap (λ ns. member_by (opening_member m) ∷ ns) (opening_same ms)
    where
      opens : (m : ℕ) → opening_member {D = E} m ≡ member_by (opening_member m)
      opens m = ap (λ r. record { told = []; seen = 0; log = []; role = r }) (cond_same role_by (m == 0) (Serving []) Following (Serving []) Following refl refl)

  pub start_same : (size : ℕ) → start {D = E} size ≡ masters_by (start size)
  start_same size = ap (λ ms. record { size = size; members = ms; crashed = []; packets = []; published = [] }) (opening_same (numbers_below size))

  -- over events with decisions written otherwise, the machine is that over the events as they were, so written
  pub natural : (size : ℕ) (es : List (Event D)) → run (start size) (map event_by es) ≡ masters_by (run (start size) es)
  natural size es = ap (λ w. run w (map event_by es)) (start_same size) ∙ run_same (start size) es

  -- what else is read of masters

  any_same : {A B : Type 0} (g : A → B) (p : B → Bool) (q : A → Bool) → ((a : A) → p (g a) ≡ q a) → (xs : List A) → list_any p (map g xs) ≡ list_any q xs
  any_same g p q e [] = refl
  any_same g p q e (x ∷ xs) = ap (λ b. b || list_any p (map g xs)) (e x) ∙ ap (λ b. q x || b) (any_same g p q e xs)

  one_same : (p q : ℕ → Bool) → ((x : ℕ) → p x ≡ q x) → (xs : List ℕ) → list_any p xs ≡ list_any q xs
  one_same p q e [] = refl
  one_same p q e (x ∷ xs) = ap (λ b. b || list_any p xs) (e x) ∙ ap (λ b. q x || b) (one_same p q e xs)

  log_same : (x : Message D) → log_of (message_by x) ≡ map f (log_of x)
  log_same (Store t l) = refl
  log_same (Stored t c) = refl
  log_same (Ask t) = refl
  log_same (Tell t l) = refl

  pending_at_same : (w : Masters D) (n : Member D) → is_pending_at (masters_by w) (member_by n) ≡ is_pending_at w n
  pending_at_same w n =
      ap (λ b. b || list_any (λ (k : ToldLog E). is_ahead (masters_by w) k.log) (tells_of (role_by n.role))) (ahead_same w n.log)
      ∙ ap (λ ks. is_ahead w n.log || list_any (λ (k : ToldLog E). is_ahead (masters_by w) k.log) ks) (tells_same n.role)
      ∙ ap (λ b. is_ahead w n.log || b) (any_same told_by (λ k. is_ahead (masters_by w) k.log) (λ k. is_ahead w k.log) (λ k. ahead_same w k.log) (tells_of n.role))

  pending_member_same : (w : Masters D) (m : ℕ) → is_pending_member (masters_by w) m ≡ is_pending_member w m
  pending_member_same w m = ap (λ b. is_live w m && b) (member_at_same (λ b. b) w m false (is_pending_at w) (is_pending_at (masters_by w)) (pending_at_same w))

  pub pending_same : (w : Masters D) → pending (masters_by w) ≡ pending w
  pending_same w =
      ap (λ b. b || list_any (λ (p : Packet E). is_ahead (masters_by w) (log_of p.message)) (map packet_by w.packets)) (one_same (is_pending_member (masters_by w)) (is_pending_member w) (pending_member_same w) (numbers_below w.size))
      ∙ ap (λ b. list_any (is_pending_member w) (numbers_below w.size) || b)
      (any_same packet_by (λ p. is_ahead (masters_by w) (log_of p.message)) (λ p. is_ahead w (log_of p.message)) (λ p. ap (λ l. is_ahead (masters_by w) l) (log_same p.message) ∙ ahead_same w (log_of p.message)) w.packets)

  -- how many messages are on a link
  pub flight_same : (w : Masters D) (a b : ℕ) → length (link a b (masters_by w).packets) ≡ length (link a b w.packets)
  flight_same w a b = ap (λ ps. length ps) (link_same a b w.packets) ∙ length-map (link a b w.packets) packet_by

  -- whom a member was told of
  pub told_of_same : (w : Masters D) (m x : ℕ) → map_or (slice_get (masters_by w).members m) false (λ n. is_among n.told x) ≡ map_or (slice_get w.members m) false (λ n. is_among n.told x)
  told_of_same w m x = member_at_same (λ b. b) w m false (λ (n : Member D). is_among n.told x) (λ (n : Member E). is_among n.told x) (λ n. refl)
