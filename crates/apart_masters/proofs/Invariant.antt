-- What every step of a partition whose members are apart, with masters, keeps: it is a run of masters, and a run of members that are apart with one service.
use Rattle.std.proofs.Common.{◌≡◌, ℕ, ◌+◌, ◌≤◌, Bool, true, false, cond, not, ◌&&◌, ◌==◌, nat_lt, List, [], ◌∷◌, ◌++◌, map, length, drop, Option, Some, None, slice_get, Contains, refl, ap, sym, ◌∙◌, subst, ◌⊎◌, inl, inr, arith, append_assoc, append-nil, length-append}
use Rattle.std.specs.List.{list_any}
use Rattle.std.proofs.Math.Seq.{drop-length, drop-append_seam}
use Rattle.grid_base.specs.Objects.{Object}
use Rattle.partition_table.specs.Rows.{is_among}
use Rattle.partition_protocol.specs.Messages.{Packet}
use Rattle.partition_protocol.specs.Service.{Service, numbers_below}
use Rattle.partition_protocol.specs.History.{Reset}
use Rattle.partition_protocol.specs.World.{map_or}
use Rattle.partition_protocol.proofs.Lists.{In, in_left, in_right, in_cases, in_contains, contains_in, cases}
use Rattle.partition_protocol.proofs.RowFacts.{in_map, both_right}
use Rattle.partition_protocol.proofs.Answers.{map_in}
use Rattle.masters_protocol.specs.Members.{Following, Serving, Member, ToldLog, tells_of, is_stored}
use Rattle.masters_protocol.specs.Machine as masters
use Rattle.masters_protocol.specs.Machine.{Masters, Event, Told, Propose, Deliver, Resend, Happened, done, opening_role, opening_member, happens, is_pending_at, is_pending_member, pending, start, run}
use Rattle.masters_protocol.specs.Claims.{IsSound, is_proposed, accepted_by, accepted}
use Rattle.masters_protocol.proofs.Theorem.{every_run_agrees, run_append, opened}
use Rattle.masters_world.proofs.Lists.{in_part}
use Rattle.masters_world.proofs.Lengths.{none_of}
use Rattle.apart_protocol.specs.Contents.{Parcel}
use Rattle.apart_protocol.specs.Rulings as rulings
use Rattle.apart_protocol.specs.Rulings.{Ruling, rules, service_after}
use Rattle.apart_protocol.specs.Machine as apart
use Rattle.apart_protocol.specs.Machine.{Apart, packet_of, bare, MayRule}
use Rattle.apart_protocol.specs.Claims.{whole_after}
use Rattle.apart_protocol.proofs.ByItself.{after_append}
use Rattle.apart_protocol.proofs.Theorem.{arrivals_append}
use Rattle.apart_masters.specs.Master.{Own, IsTold, Takes, Proposes, Resends, is_right, may_propose, does, opening_service, service_of, words_of, says}
use Rattle.apart_masters.specs.Machine.{Ruled, MayLead, led, ruled, all_ruled, said}
use Rattle.apart_masters.proofs.Stepped.{log_is, stored_not_ahead, told_is, takes_is, resends_is, proposes_is, idle_is}

abbrev pub World : Type 0
World = Masters Ruling

abbrev pub Asked : Type 0
Asked = Event Ruling

-- lists

pub one_more : {X : Type 0} (xs : List X) (x : X) → length (xs ++ x ∷ []) ≤ length xs + 1
one_more xs x = let a = length-append xs (x ∷ []) in omega (arith, a)

pub accepted_append : (w : World) (es fs : List Asked) → accepted w (es ++ fs) ≡ accepted w es ++ accepted (run w es) fs
accepted_append w [] fs = refl
accepted_append w (e ∷ es) fs =
    ap (λ xs. accepted_by e (happens w e).outcome ++ xs) (accepted_append (happens w e).world es fs)
    ∙ sym (append_assoc (accepted_by e (happens w e).outcome) (accepted (happens w e).world es) (accepted (run (happens w e).world es) fs))

pub in_more : {X : Type 0} (x : X) (xs ys more : List X) → (In x xs → In x ys) → In x (xs ++ more) → In x (ys ++ more)
in_more x xs ys more f i = go (in_cases x xs more i)
  where
    go : In x xs ⊎ In x more → In x (ys ++ more)
    go (inl k) = in_left x ys more (f k)
    go (inr k) = in_right x ys more k

-- nothing is pending at the start
pub none_pending : (n : ℕ) → pending (start {D = Ruling} n) ≡ false
none_pending n = rw (none_of (is_pending_member (start {D = Ruling} n)) (numbers_below n) each) refl
  where
    at_opening : (k : ℕ) → is_pending_at (start {D = Ruling} n) (opening_member k) ≡ false
    at_opening k = go (k == 0)
      where
        go : (b : Bool) → list_any (λ (t : ToldLog Ruling). masters.is_ahead (start {D = Ruling} n) t.log) (tells_of (cond b (Serving []) Following)) ≡ false
        go true = refl
        go false = refl

    each : (m : ℕ) → is_pending_member (start {D = Ruling} n) m ≡ false
    each m = go (slice_get (start {D = Ruling} n).members m) refl (masters.is_live (start {D = Ruling} n) m)
      where
        go : (y : Option (Member Ruling)) → slice_get (start {D = Ruling} n).members m ≡ y → (b : Bool) → (b && map_or y false (is_pending_at (start {D = Ruling} n))) ≡ false
        go y e false = refl
        go None e true = refl
        go (Some y) e true = ap (is_pending_at (start {D = Ruling} n)) (sym (opened n m y e).1) ∙ at_opening m

-- the service over more rulings
pub service_more : (p n b : ℕ) (s : Service) (rs qs : List Ruling) → service_after p n b s (rs ++ qs) ≡ service_after p n b (service_after p n b s rs) qs
service_more p n b s [] qs = refl
service_more p n b s (r ∷ rs) qs = service_more p n b (rules p n b r s).service rs qs

-- parts

pub record Part {C State : Type 0} (a c : Apart C State) : Type 0 where
  pub members : a.members ≡ c.members
  pub crashed : a.crashed ≡ c.crashed
  pub service : a.service ≡ c.service
  pub released : a.released ≡ c.released
  pub log : a.log ≡ c.log
  pub sent : (q : Parcel C State) → In q a.sent → In q c.sent

pub record Inv {C State : Type 0} (o : Object C State) (p n b : ℕ) (a : Apart C State) (w : World) (events : List Asked) (made : List (apart.Step C State)) : Type 0 where
  pub size : w.size ≡ n
  pub asked : run (start n) events ≡ w
  pub allowed : (r : Ruling) → In r (accepted (start n) events) → MayRule n a r
  pub same_crashed : (m : ℕ) → is_among w.crashed m ≡ is_among a.crashed m
  pub may : apart.MayHappen o p n b (apart.begin o p n b) made
  pub part : Part a (whole_after o p n b made)
  pub service : a.service ≡ service_of p n b w.published

-- what may be ruled may be ruled later
pub may_later : {C State : Type 0} (n : ℕ) (a c : Apart C State) → ((q : Parcel C State) → In q a.sent → In q c.sent) → ((m : ℕ) → is_among a.crashed m ≡ true → is_among c.crashed m ≡ true) → (r : Ruling) → MayRule n a r → MayRule n c r
may_later {C} {State} n a c sent crashed (rulings.Takes from message) may =
    let q : Packet = record { from = from; to = n; message = message } in
    let i = map_in packet_of a.sent q (in_contains q (map packet_of a.sent) may) in
    contains_in q (map packet_of c.sent) (subst (λ z. In z (map packet_of c.sent)) i.2 (in_map packet_of c.sent i.0 (sent i.0 i.1)))
may_later n a c sent crashed (rulings.Detect m) may = crashed m may
may_later n a c sent crashed rulings.Resends may = tt
may_later n a c sent crashed (rulings.BeginMove from to) may = tt
may_later n a c sent crashed (rulings.BeginJoin to) may = tt
may_later n a c sent crashed (rulings.BeginHandover from to) may = tt
may_later n a c sent crashed rulings.Advance may = tt
may_later n a c sent crashed rulings.Reopen may = tt

pub may_more : {C State : Type 0} (o : Object C State) (p n b : ℕ) (a : Apart C State) (ss : List (apart.Step C State)) (s : apart.Step C State) → apart.MayHappen o p n b a ss → apart.MayCome n (apart.after o p n b a ss) s → apart.MayHappen o p n b a (ss ++ s ∷ [])
may_more o p n b a [] s h k = (k, tt)
may_more o p n b a (t ∷ ss) s h k = (h.0, may_more o p n b (apart.goes o p n b a t) ss s h.1 k)

pub whole_more : {C State : Type 0} (o : Object C State) (p n b : ℕ) (made : List (apart.Step C State)) (s : apart.Step C State) → whole_after o p n b (made ++ s ∷ []) ≡ apart.goes o p n b (whole_after o p n b made) s
whole_more o p n b made s = after_append o p n b (apart.begin o p n b) made (s ∷ [])

pub arrivals_more : {C State : Type 0} (o : Object C State) (made : List (apart.Step C State)) (s : apart.Step C State) → apart.asked_by s ≡ [] → apart.arrivals (made ++ s ∷ []) ≡ apart.arrivals made
arrivals_more o made s e = arrivals_append o made (s ∷ []) ∙ ap (λ xs. apart.arrivals made ++ (xs ++ [])) e ∙ append-nil (apart.arrivals made)

module _ {C State : Type 0} (o : Object C State) (p n b : ℕ) (some : 1 ≤ n) (most : n ≤ 8) (a : Apart C State) (w : World) (events : List Asked) (made : List (apart.Step C State)) (inv : Inv o p n b a w events made) where
  abbrev pub c : Apart C State
  c = whole_after o p n b made

  pub sound : IsSound w
  sound = subst IsSound inv.asked (every_run_agrees n events [] some most).0

  pub asked_more : (e : Asked) → run (start n) (events ++ e ∷ []) ≡ (happens w e).world
  asked_more e = sym (run_append (start n) events (e ∷ [])) ∙ ap (λ u. (happens u e).world) inv.asked

  pub accepted_more : (e : Asked) → accepted (start n) (events ++ e ∷ []) ≡ accepted (start n) events ++ accepted_by e (happens w e).outcome
  accepted_more e =
      accepted_append (start n) events (e ∷ []) ∙ ap (λ u. accepted (start n) events ++ (accepted_by e (happens u e).outcome ++ [])) inv.asked
      ∙ ap (λ xs. accepted (start n) events ++ xs) (append-nil (accepted_by e (happens w e).outcome))

  -- what is published was accepted
  pub published_accepted : (e : Asked) (r : Ruling) → In r (happens w e).world.published → In r (accepted (start n) (events ++ e ∷ []))
  published_accepted e r i =
      let agrees = (every_run_agrees n [] (events ++ e ∷ []) some most).1 in
      let f = agrees.fresh (none_pending n) in
      let same : f.0 ≡ (happens w e).world.published = f.1 ∙ ap (λ (u : World). u.published) (asked_more e) in
      in_part r f.0 (accepted (start n) (events ++ e ∷ [])) f.2 (subst (In r) (sym same) i)

  -- the members with the service go on, with what is kept of both
  abbrev pub Goes : Apart C State → World → List Asked → Type 0
  Goes a' w' events' = (made' : List (apart.Step C State)) × Inv o p n b a' w' events' made' × (apart.arrivals made' ≡ apart.arrivals made) × (length made' ≤ length made + 1)

  -- a ruling is the service's

  pub ruled_part : (r : Ruling) → Part (ruled a (rules p n b r a.service)) (apart.goes o p n b (whole_after o p n b made) (apart.Rules r))
  ruled_part r = record {
    members = inv.part.members;
    crashed = inv.part.crashed;
    service = ap (λ s. (rules p n b r s).service) inv.part.service;
    released = inv.part.released;
    log = ap (λ es. es ++ map Reset (rules p n b r a.service).resets) inv.part.log ∙ ap (λ s. c.log ++ map Reset (rules p n b r s).resets) inv.part.service;
    sent = λ q i. in_left q c.sent (map (bare n) (rules p n b r c.service).sent) (inv.part.sent q i);
  }

  pub may_rule : (r : Ruling) → MayRule n a r → MayRule n (whole_after o p n b made) r
  may_rule r may = may_later n a (whole_after o p n b made) inv.part.sent (λ m e. ap (λ cs. is_among cs m) (sym inv.part.crashed) ∙ e) r may

  -- an event of the masters that crashes nobody

  pub asked_goes : (e : Asked) (v : World) → (happens w e).world ≡ v → v.size ≡ w.size → v.crashed ≡ w.crashed → ((r : Ruling) → In r (accepted_by e (happens w e).outcome) → MayRule n a r)
      → Goes (all_ruled p n b a (drop (length w.published) v.published)) v (events ++ e ∷ [])
  asked_goes e v is size crashed ok = go (sound.paced e)
    where
      asked : run (start n) (events ++ e ∷ []) ≡ v
      asked = asked_more e ∙ is

      allowed : (r : Ruling) → In r (accepted (start n) (events ++ e ∷ [])) → MayRule n a r
      allowed r i = by (in_cases r (accepted (start n) events) (accepted_by e (happens w e).outcome) (subst (In r) (accepted_more e) i))
        where
          by : In r (accepted (start n) events) ⊎ In r (accepted_by e (happens w e).outcome) → MayRule n a r
          by (inl j) = inv.allowed r j
          by (inr j) = ok r j

      go : ((happens w e).world.published ≡ w.published) ⊎ ((d : Ruling) × ((happens w e).world.published ≡ w.published ++ d ∷ [])) → Goes (all_ruled p n b a (drop (length w.published) v.published)) v (events ++ e ∷ [])
      go (inl s) =
          let same : v.published ≡ w.published = ap (λ (u : World). u.published) (sym is) ∙ s in
          let none : drop (length w.published) v.published ≡ [] = ap (drop (length w.published)) same ∙ drop-length w.published in
          subst (λ rs. Goes (all_ruled p n b a rs) v (events ++ e ∷ [])) (sym none) (
            made,
            record {
              size = size ∙ inv.size;
              asked = asked;
              allowed = allowed;
              same_crashed = λ m. ap (λ cs. is_among cs m) crashed ∙ inv.same_crashed m;
              may = inv.may;
              part = inv.part;
              service = inv.service ∙ ap (service_of p n b) (sym same);
            },
            refl,
            omega arith,
          )
      go (inr (d, s)) =
          let more : v.published ≡ w.published ++ d ∷ [] = ap (λ (u : World). u.published) (sym is) ∙ s in
          let one : drop (length w.published) v.published ≡ d ∷ [] = ap (drop (length w.published)) more ∙ drop-append_seam w.published (d ∷ []) in
          let may : MayRule n a d = allowed d (published_accepted e d (subst (In d) (sym s) (in_right d w.published (d ∷ []) (inl refl)))) in
          subst (λ rs. Goes (all_ruled p n b a rs) v (events ++ e ∷ [])) (sym one) (
            made ++ apart.Rules d ∷ [],
            record {
              size = size ∙ inv.size;
              asked = asked;
              allowed = λ r i. may_later n a (ruled a (rules p n b d a.service)) (λ q j. j) (λ m z. z) r (allowed r i);
              same_crashed = λ m. ap (λ cs. is_among cs m) crashed ∙ inv.same_crashed m;
              may = may_more o p n b (apart.begin o p n b) made (apart.Rules d) inv.may (may_rule d may);
              part = subst (Part (ruled a (rules p n b d a.service))) (sym (whole_more o p n b made (apart.Rules d))) (ruled_part d);
              service = ap (λ x. (rules p n b d x).service) inv.service ∙ sym (service_more p n b (opening_service p n b) w.published (d ∷ [])) ∙ ap (service_of p n b) (sym more);
            },
            arrivals_more o made (apart.Rules d) refl,
            one_more made (apart.Rules d),
          )

  -- nothing happens to the masters
  pub idle_goes : (v : World) → v ≡ w → Goes (all_ruled p n b a (drop (length w.published) v.published)) v events
  idle_goes v is = subst (λ u. Goes (all_ruled p n b a (drop (length w.published) u.published)) u events) (sym is)
      (subst (λ rs. Goes (all_ruled p n b a rs) w events) (sym (drop-length w.published)) (made, inv, refl, omega arith))

  module _ (m : ℕ) (lives : apart.is_live n a m ≡ true) where
    pub lives_there : masters.is_live w m ≡ true
    lives_there = ap (λ k. nat_lt m k && not (is_among w.crashed m)) inv.size ∙ ap (λ z. nat_lt m n && not z) (inv.same_crashed m) ∙ lives

    -- a master's own step
    module _ (x : Member Ruling) (there : slice_get w.members m ≡ Some x) (place : ℕ) where
      abbrev pub Led : Own → Type 0
      Led own = let v = led w m place own (does n m own x) in (events' : List Asked) × Goes (all_ruled p n b a (drop (length w.published) v.published)) v events'

      pub sized : (own : Own) → led w m place own (does w.size m own x) ≡ led w m place own (does n m own x)
      sized own = ap (λ k. led w m place own (does k m own x)) inv.size

      pub right_may : (r : Ruling) → is_right x r ≡ true → ((f : ℕ) (msg : _) → r ≡ rulings.Takes f msg → MayRule n a (rulings.Takes f msg)) → MayRule n a r
      right_may (rulings.Detect k) e f = sym (inv.same_crashed k) ∙ sound.truthful m k x there e
      right_may (rulings.Takes from message) e f = f from message refl
      right_may rulings.Resends e f = tt
      right_may (rulings.BeginMove from to) e f = tt
      right_may (rulings.BeginJoin to) e f = tt
      right_may (rulings.BeginHandover from to) e f = tt
      right_may rulings.Advance e f = tt
      right_may rulings.Reopen e f = tt

      pub proposes_goes : (r : Ruling) → ((f : ℕ) (msg : _) → r ≡ rulings.Takes f msg → MayRule n a (rulings.Takes f msg)) → Led (Proposes r)
      proposes_goes r guard = go (cases (may_propose w.size m r x))
        where
          go : (may_propose w.size m r x ≡ true) ⊎ (may_propose w.size m r x ≡ false) → Led (Proposes r)
          go (inr e) = (events, idle_goes (led w m place (Proposes r) (does n m (Proposes r) x)) (sym (sized (Proposes r)) ∙ idle_is w sound m x lives_there there place r e))
          go (inl e) = (
            events ++ Propose r ∷ [],
            asked_goes (Propose r) (led w m place (Proposes r) (does n m (Proposes r) x)) ((proposes_is w sound m x lives_there there place r e).1 ∙ sized (Proposes r)) refl refl
                (λ q i. by q (is_proposed (happens w (Propose r)).outcome) i),
          )
            where
              may : MayRule n a r
              may = right_may r (both_right _ (is_right x r) e) guard

              by : (q : Ruling) (z : Bool) → In q (cond z (r ∷ []) []) → MayRule n a q
              by q true (inl s) = subst (MayRule n a) s may
              by q true (inr i) = absurd i
              by q false i = absurd i

      pub leads_goes : (own : Own) → (j : Ruled C State) → j.apart ≡ a → j.masters ≡ w → MayLead n j m place own → Led own
      leads_goes (IsTold k) j ja jw may = (
        events ++ Told m k ∷ [],
        asked_goes (Told m k) (led w m place (IsTold k) (does n m (IsTold k) x))
            (told_is w sound m x lives_there there place k (inv.same_crashed k ∙ ap (λ (z : Apart C State). is_among z.crashed k) (sym ja) ∙ may) ∙ sized (IsTold k)) refl refl (λ r i. absurd i),
      )
      leads_goes (Takes from message) j ja jw may = (
        events ++ Deliver from m place ∷ [],
        asked_goes (Deliver from m place) (led w m place (Takes from message) (does n m (Takes from message) x))
            (takes_is w sound m x lives_there there place from message (ap (λ (z : World). slice_get (masters.link from m z.packets) place) (sym jw) ∙ may) ∙ sized (Takes from message)) refl refl (λ r i. absurd i),
      )
      leads_goes Resends j ja jw may = (
        events ++ Resend m ∷ [],
        asked_goes (Resend m) (led w m place Resends (does n m Resends x)) (resends_is w sound m x lives_there there place ∙ sized Resends) refl refl (λ r i. absurd i),
      )
      leads_goes (Proposes (rulings.Takes from message)) j ja jw may =
          proposes_goes (rulings.Takes from message) (λ f msg e. subst (MayRule n a) e (subst (λ (z : Apart C State). Contains (map packet_of z.sent) (record { from = from; to = n; message = message })) ja may))
      leads_goes (Proposes rulings.Resends) j ja jw may = proposes_goes rulings.Resends (λ f msg e. absurd cc)
      leads_goes (Proposes (rulings.Detect k)) j ja jw may = proposes_goes (rulings.Detect k) (λ f msg e. absurd cc)
      leads_goes (Proposes (rulings.BeginMove from to)) j ja jw may = proposes_goes (rulings.BeginMove from to) (λ f msg e. absurd cc)
      leads_goes (Proposes (rulings.BeginJoin to)) j ja jw may = proposes_goes (rulings.BeginJoin to) (λ f msg e. absurd cc)
      leads_goes (Proposes (rulings.BeginHandover from to)) j ja jw may = proposes_goes (rulings.BeginHandover from to) (λ f msg e. absurd cc)
      leads_goes (Proposes rulings.Advance) j ja jw may = proposes_goes rulings.Advance (λ f msg e. absurd cc)
      leads_goes (Proposes rulings.Reopen) j ja jw may = proposes_goes rulings.Reopen (λ f msg e. absurd cc)

      -- what it says in the service's place the service would say again
      pub said_in : (q : Parcel C State) → In q (map (bare n) (says p n b m x)) → In q (map (bare n) (words_of n c.service))
      said_in q i = go (cases (is_stored n m x))
        where
          go : (is_stored n m x ≡ true) ⊎ (is_stored n m x ≡ false) → In q (map (bare n) (words_of n c.service))
          go (inr e) = let none : says p n b m x ≡ [] = rw e refl in absurd (subst (λ ss. In q (map (bare n) ss)) none i)
          go (inl e) =
              let stored : is_stored w.size m x ≡ true = ap (λ k. is_stored k m x) inv.size ∙ e in
              let log : x.log ≡ w.published = log_is w sound m x lives_there there (stored_not_ahead w sound m x lives_there there stored) in
              let words : says p n b m x ≡ words_of n (service_of p n b x.log) = rw e refl in
              let same : service_of p n b x.log ≡ c.service = ap (service_of p n b) log ∙ sym inv.service ∙ inv.part.service in
              subst (λ ss. In q (map (bare n) ss)) (words ∙ ap (words_of n) same) i

      pub says_goes : Goes (said p n b a m x) w events
      says_goes = (
        made ++ apart.Rules rulings.Resends ∷ [],
        record {
          size = inv.size;
          asked = inv.asked;
          allowed = λ r i. may_later n a (said p n b a m x) (λ q j. in_left q a.sent (map (bare n) (says p n b m x)) j) (λ k z. z) r (inv.allowed r i);
          same_crashed = inv.same_crashed;
          may = may_more o p n b (apart.begin o p n b) made (apart.Rules rulings.Resends) inv.may tt;
          part = subst (Part (said p n b a m x)) (sym (whole_more o p n b made (apart.Rules rulings.Resends))) (record {
            members = inv.part.members;
            crashed = inv.part.crashed;
            service = inv.part.service;
            released = inv.part.released;
            log = inv.part.log ∙ sym (append-nil c.log);
            sent = λ q i. sent q (in_cases q a.sent (map (bare n) (says p n b m x)) i);
          });
          service = inv.service;
        },
        arrivals_more o made (apart.Rules rulings.Resends) refl,
        one_more made (apart.Rules rulings.Resends),
      )
        where
          sent : (q : Parcel C State) → In q a.sent ⊎ In q (map (bare n) (says p n b m x)) → In q (c.sent ++ map (bare n) (words_of n c.service))
          sent q (inl i) = in_left q c.sent (map (bare n) (words_of n c.service)) (inv.part.sent q i)
          sent q (inr i) = in_right q c.sent (map (bare n) (words_of n c.service)) (said_in q i)
