-- Every run agrees.
use Rattle.std.proofs.Common.{◌≡◌, ℕ, ◌<◌, ◌≤◌, Bool, true, false, cond, not, ◌==◌, nat_lt, nat_le, List, [], ◌∷◌, ◌++◌, map, length, filter, Option, Some, None, slice_get, Contains, refl, ap, sym, ◌∙◌, subst, ⊎_elim, arith, le_refl, le_of_eq, le_trans, true≢false}
use Rattle.std.specs.List.{list_all}
use Rattle.std.proofs.lemmas.List.{length-map}
use Rattle.std.proofs.lemmas.Option.{slice_get_within}
use Rattle.partition_protocol.proofs.Adopt.{and_false}
use Rattle.partition_protocol.proofs.Extends.{same as front_refl, front_trans}
use Rattle.partition_protocol.proofs.Lists.{In, in_contains, every_in, on_cond}
use Rattle.partition_protocol.proofs.Release.{all_in}
use Rattle.partition_protocol.proofs.RowFacts.{both_left, both_right, both, false_or_not, less, same_number, other_number}
use Rattle.partition_protocol.proofs.Theorem.{length-numbers_below, get-numbers_below, get_map}
use Rattle.partition_protocol.specs.Sequences.{IsFrontOf, IsSubsequence}
use Rattle.partition_protocol.specs.Service.{numbers_below}
use Rattle.partition_protocol.specs.World.{map_or}
use Rattle.partition_table.specs.Rows.{is_among}
use Rattle.masters_protocol.specs.Members.{Role, Following, Gathering, Serving, Member, ToldLog, RefusedBusy, RefusedFull, NothingDone, is_serving, is_master, tells_of, is_gathered, is_stored, most_decisions, proposing}
use Rattle.masters_protocol.specs.Machine.{Masters, is_ahead, pending, Event, Propose, Happened, opening_member, start, is_live, serves, lowest_of, master, nothing, refused, stepped, at_member, proposed_at, happens, run}
use Rattle.masters_protocol.specs.Claims.{PacketFits, accepted, IsLiveMember, is_busy, answer_of, IsSound, Agrees, EveryRunAgrees}
use Rattle.masters_protocol.proofs.Lists.{on_some}
use Rattle.masters_protocol.proofs.Tests.{clash, order, serving_master, in_below}
use Rattle.masters_protocol.proofs.Fronts.{front_length, front_both, front_same, front_next, front_get}
use Rattle.masters_protocol.proofs.Invariant.{MemberAt, IsTold, LiveOk, MemberOk, Inv}
use Rattle.masters_protocol.proofs.Keeps.{Good, Lasts}
use Rattle.masters_protocol.proofs.Events.{lives, first_passes, event_goes, run_goes}
use Rattle.masters_protocol.proofs.Ranges.{InRange, Ranged, range_run, fits}
use Rattle.masters_protocol.proofs.Sources.{fresh}
use Rattle.masters_protocol.proofs.Prompt.{PromptAt, Prompt, run_prompt}

-- the members at the start

pub opened : {D : Type 0} (size m : ℕ) (n : Member D) → MemberAt (map opening_member (numbers_below size)) m n → (m < size) × (opening_member m ≡ n)
opened size m n e =
    let r = get_map opening_member (numbers_below size) m n e in
    let l = slice_get_within (numbers_below size) m r.0 r.1 in
    let b = length-numbers_below size in
    let inside : m < size = omega (arith, l, b) in
    let k = get-numbers_below size m inside in
    let same : m ≡ r.0 = cc (k, r.1) in
    (inside, ap opening_member same ∙ r.2)

module _ {D : Type 0} (size : ℕ) where
  abbrev pub w : Masters D
  w = start size

  abbrev pub with_role : Role D → Member D
  with_role r = record { told = []; seen = 0; log = []; role = r }

  pub opening_ok : (m : ℕ) → MemberOk w.members [] 0 [] [] m (opening_member m)
  opening_ok m = on_cond (λ r. MemberOk w.members [] 0 [] [] m (with_role r)) (m == 0) (Serving []) Following
      (λ e. let z = same_number m 0 e in record {
        told = λ k a. a;
        rule = subst (λ k. true ≡ list_all (is_among []) (numbers_below k)) (sym z) refl;
        rises = λ a k l. absurd (omega (arith, l, z));
        serves = λ a. le_of_eq z;
        counted = tt;
        kept = tt;
        live = λ v. record { seen_up = le_refl 0; seen_own = omega arith; own = λ a. sym z; log = front_refl []; has = front_refl []; master = λ a. refl; other = λ a. absurd (true≢false a) };
      })
      (λ e. record {
        told = λ k a. a;
        rule = sym (false_or_not (list_all (is_among []) (numbers_below m)) (λ a. true≢false (sym (all_in (is_among []) (numbers_below m) 0 a (in_below m 0 (let d = other_number m 0 e in omega (arith, d)))))));
        rises = λ a. absurd (true≢false (sym a));
        serves = λ a. absurd (true≢false (sym a));
        counted = tt;
        kept = tt;
        live = λ v. record { seen_up = le_refl 0; seen_own = omega arith; own = λ a. absurd (true≢false (sym a)); log = front_refl []; has = front_refl []; master = λ a. absurd (true≢false (sym a)); other = λ a. let d = other_number m 0 e in omega (arith, d) };
      })

  pub start_good : Good w
  start_good = (
    0,
    [],
    record {
      whole = length-map (numbers_below size) opening_member ∙ length-numbers_below size;
      rise = λ k l. absurd (omega (arith, l));
      most = omega arith;
      members = λ m n e. subst (λ x. MemberOk w.members [] 0 [] [] m x) (opened size m n e).1 (opening_ok m);
      packets = tt;
    },
  )

pub start_prompt : {D : Type 0} (size : ℕ) → Prompt (start {D = D} size)
start_prompt {D} size m n v e = subst (λ x. PromptAt (start {D = D} size) m x) (opened size m n e).1
    (record { gathering = on_cond (λ r. is_gathered size m (with_role {D = D} size r) ≡ false) (m == 0) (Serving []) Following (λ a. refl) (λ a. refl); publishing = and_false (is_stored size m (opening_member {D = D} m)) false refl })

pub start_ranged : {D : Type 0} (size : ℕ) → Ranged (start {D = D} size)
start_ranged {D} size = record {
  crashed = λ k e. absurd (true≢false (sym e));
  members = λ m n e. let o = opened size m n e in let l = o.0 in subst (λ x. InRange size x) o.1
      (on_cond (λ r. InRange size (with_role {D = D} size r)) (m == 0) (Serving []) Following
      (λ a. record { told = λ k b. absurd (true≢false (sym b)); seen = omega (arith, l); log = omega arith; tells = tt; counts = tt })
      (λ a. record { told = λ k b. absurd (true≢false (sym b)); seen = omega (arith, l); log = omega arith; tells = tt; counts = tt }));
  packets = tt;
  published = omega arith;
}

-- what holds at one moment

pub tells_gather : {D : Type 0} (r : Role D) (a : ToldLog D) → In a (tells_of r) → is_serving r ≡ false
tells_gather Following a i = refl
tells_gather (Gathering tells) a i = refl
tells_gather (Serving counts) a i = absurd i

pub some_passes : {X : Type 0} (o : Option X) (f : X → Bool) → map_or o false f ≡ true → (x : X) × (o ≡ Some x) × (f x ≡ true)
some_passes None f e = absurd (true≢false (sym e))
some_passes (Some x) f e = (x, refl, e)

pub first_only : (t : ℕ → Bool) (xs : List ℕ) (m : ℕ) → In m xs → t m ≡ true → ((k : ℕ) → t k ≡ true → k ≡ m) → lowest_of (filter t xs) ≡ Some m
first_only t [] m i e f = absurd i
first_only t (x ∷ xs) m i e f =
    let ih : In m xs → lowest_of (filter t xs) ≡ Some m = λ j. first_only t xs m j e f in
    on_cond (λ ys. lowest_of ys ≡ Some m) (t x) (x ∷ filter t xs) (filter t xs) (λ h. ap (λ k. Some k) (f x h)) (λ h. ⊎_elim (λ s. clash (t m) e (subst (λ k. t k ≡ false) s h)) ih i)

module _ {D : Type 0} (w : Masters D) (g : Good w) where
  pub inv : Inv w g.0 g.1
  inv = g.2

  pub ok : (m : ℕ) (n : Member D) → IsLiveMember w m n → MemberOk w.members w.crashed g.0 g.1 w.published m n
  ok m n h = inv.members m n h.1

  pub live : (m : ℕ) (n : Member D) → IsLiveMember w m n → LiveOk g.0 g.1 w.published m n
  live m n h = (ok m n h).live (lives w m h.0)

  pub not_above : (m k : ℕ) (n j : Member D) → IsLiveMember w m n → IsLiveMember w k j → is_master n.role ≡ true → m ≤ k
  not_above m k n j h i e = ⊎_elim (λ l. clash (is_among w.crashed k) ((ok m n h).rises e k l) (lives w k i.0)) (λ l. l) (order k m)

  pub one : (m k : ℕ) (n j : Member D) → IsLiveMember w m n → IsLiveMember w k j → is_master n.role ≡ true → is_master j.role ≡ true → m ≡ k
  one m k n j h i e f = let a = not_above m k n j h i e in let b = not_above k m j n i h f in omega (arith, a, b)

  pub alike : (m : ℕ) (n : Member D) (a b : ToldLog D) → IsLiveMember w m n → Contains (tells_of n.role) a → Contains (tells_of n.role) b → length a.log ≡ length b.log → a.log ≡ b.log
  alike m n a b h i j l = front_same a.log b.log (front_both a.log b.log g.1 (part a i) (part b j) (le_of_eq l)) (le_of_eq (sym l))
    where
      part : (c : ToldLog D) → Contains (tells_of n.role) c → IsFrontOf c.log g.1
      part c i =
          let at = in_contains c (tells_of n.role) i in
          let told : IsTold w.members w.crashed g.0 g.1 m c.member c.log = every_in (λ (k : ToldLog D). IsTold w.members w.crashed g.0 g.1 m k.member k.log) (tells_of n.role) c (ok m n h).kept at in
          (told.1 ((live m n h).other (tells_gather n.role c at))).0

  pub is_master_then : (m : ℕ) (n : Member D) → IsLiveMember w m n → is_serving n.role ≡ true → master w ≡ Some m
  is_master_then m n h e =
      first_only (serves w) (numbers_below w.size) m (in_below w.size m (less m w.size (both_left (nat_lt m w.size) (not (is_among w.crashed m)) h.0)))
      (both (is_live w m) (map_or (slice_get w.members m) false (λ x. is_serving x.role)) h.0 (subst (λ o. map_or o false (λ (x : Member D). is_serving x.role) ≡ true) (sym h.1) e)) only
    where
      only : (k : ℕ) → serves w k ≡ true → k ≡ m
      only k s =
          let a = both_left (is_live w k) (map_or (slice_get w.members k) false (λ x. is_serving x.role)) s in
          let r = some_passes (slice_get w.members k) (λ (x : Member D). is_serving x.role) (both_right (is_live w k) (map_or (slice_get w.members k) false (λ x. is_serving x.role)) s) in
          one k m r.0 n (a, r.1) h (serving_master r.0.role r.2) (serving_master n.role e)

  -- what holds of the proposal at the live master that serves
  pub proposed_there : (P : Happened D → Type 0) (m : ℕ) (n : Member D) (d : D) → IsLiveMember w m n → is_serving n.role ≡ true → P (proposed_at w d m n) → P (happens w (Propose d))
  proposed_there P m n d h e p =
      subst (λ o. P (map_or o (nothing w) (λ k. at_member w k (proposed_at w d k)))) (sym (is_master_then m n h e))
      (subst (λ b. P (cond b (map_or (slice_get w.members m) (nothing w) (proposed_at w d m)) (nothing w))) (sym h.0)
      (subst (λ o. P (map_or o (nothing w) (proposed_at w d m))) (sym h.1) p))

  pub busy : (m : ℕ) (n : Member D) (d : D) → IsLiveMember w m n → is_serving n.role ≡ true → is_busy (happens w (Propose d)).outcome ≡ is_ahead w n.log
  busy m n d h e = proposed_there (λ (x : Happened D). is_busy x.outcome ≡ is_ahead w n.log) m n d h e
      (on_cond (λ (x : Happened D). is_busy x.outcome ≡ is_ahead w n.log) (is_ahead w n.log) (refused w (RefusedBusy (length n.log))) (cond (nat_le most_decisions (length n.log)) (refused w RefusedFull) (stepped w m (proposing w.size m d n)))
      (λ a. sym a) (λ a. on_cond (λ (x : Happened D). is_busy x.outcome ≡ is_ahead w n.log) (nat_le most_decisions (length n.log)) (refused w RefusedFull) (stepped w m (proposing w.size m d n)) (λ b. sym a) (λ b. sym a)))

  pub answered : (m : ℕ) (n : Member D) (d : D) → IsLiveMember w m n → is_serving n.role ≡ true → (happens w (Propose d)).outcome ≡ answer_of w n
  answered m n d h e = proposed_there (λ (x : Happened D). x.outcome ≡ answer_of w n) m n d h e
      (branches (is_ahead w n.log) (nat_le most_decisions (length n.log)) (refused w (RefusedBusy (length n.log))) (refused w RefusedFull) (stepped w m (proposing w.size m d n)))
    where
      branches : (b c : Bool) (x y z : Happened D) → (cond b x (cond c y z)).outcome ≡ cond b x.outcome (cond c y.outcome z.outcome)
      branches true c x y z = refl
      branches false true x y z = refl
      branches false false x y z = refl

  pub none : (d : D) → ((m : ℕ) (n : Member D) → IsLiveMember w m n → is_serving n.role ≡ false) → (happens w (Propose d)).outcome ≡ NothingDone
  none d f = on_some (λ (x : Happened D). x.outcome ≡ NothingDone) (master w) (nothing w) (λ m. at_member w m (proposed_at w d m)) refl (λ m e. served m (first_passes (serves w) (numbers_below w.size) m e))
    where
      served : (m : ℕ) → serves w m ≡ true → (at_member w m (proposed_at w d m)).outcome ≡ NothingDone
      served m s =
          let a = both_left (is_live w m) (map_or (slice_get w.members m) false (λ x. is_serving x.role)) s in
          let r = some_passes (slice_get w.members m) (λ (x : Member D). is_serving x.role) (both_right (is_live w m) (map_or (slice_get w.members m) false (λ x. is_serving x.role)) s) in
          clash (is_serving r.0.role) r.2 (f m r.0 (a, r.1))

  pub sound : Prompt w → Ranged w → IsSound w
  sound p r = record {
    members_fit = λ m n e. fits w.size n (r.members m n e);
    packets_fit = λ q c. every_in (PacketFits w.size) w.packets q r.packets (in_contains q w.packets c);
    published_fits = r.published;
    gathers = λ m n h. (p m n (lives w m h.0) h.1).gathering;
    publishes = λ m n h. (p m n (lives w m h.0) h.1).publishing;
    whole = inv.whole;
    truthful = λ m x n e a. (inv.members m n e).told x a;
    held = λ m n h. (live m n h).has;
    rule = λ m n h. (ok m n h).rule;
    lowest = not_above;
    one = one;
    leads = λ m k n j h i e. subst (λ us. IsFrontOf j.log us) (sym ((live m n h).master e)) (live k j i).log;
    one_open = λ m n h. le_trans (front_length n.log g.1 (live m n h).log) inv.most;
    paced = λ e. let h = event_goes w g e in front_next w.published (happens w e).world.published h.grows h.pace;
    alike = alike;
    busy = busy;
    answered = answered;
    none = none;
  }

-- at two moments

pub run_append : {D : Type 0} (w : Masters D) (xs ys : List (Event D)) → run (run w xs) ys ≡ run w (xs ++ ys)
run_append w [] ys = refl
run_append w (x ∷ xs) ys = run_append (happens w x).world xs ys

pub agrees : {D : Type 0} (w : Masters D) (es : List (Event D)) (later : Masters D) → Good later → IsFrontOf w.published later.published → Lasts w later
    → (pending w ≡ false → (new : List D) × (w.published ++ new ≡ later.published) × IsSubsequence new (accepted w es)) → Agrees w es later
agrees w es later g p l f = record {
  grows = p;
  fixed = λ i d e a b. let c = front_get w.published later.published i d p a in cc;
  lasting = λ m n j h at. let r = l m j (lives later m h.0) h.1 in let same : r.0 ≡ n = let a = r.2 in cc in subst (λ (x : Member _). IsFrontOf x.log j.log) same r.3;
  fresh = f;
  kept = λ m n h. front_trans w.published later.published n.log p (((g.2.members m n h.1).live (lives later m h.0)).has);
}

-- THE THEOREM
pub every_run_agrees : {D : Type 0} → EveryRunAgrees D
every_run_agrees size before after l u =
    let now = run_goes (start size) (start_good size) before in
    let then = run_goes (run (start size) before) now.0 after in (
      sound (run (start size) before) now.0 (run_prompt (start size) before (start_prompt size)) (range_run (start size) before (start_ranged size)),
      subst (λ v. Agrees (run (start size) before) after v) (run_append (start size) before after)
          (agrees (run (start size) before) after (run (run (start size) before) after) then.0 then.1 then.2 (λ q. fresh (run (start size) before) now.0 q after)),
    )
