-- A partition whose members are apart, with masters, is a run of masters and a run of members that are apart with one service.
use Rattle.std.proofs.Common.{◌≡◌, ℕ, ◌+◌, ◌<◌, ◌≤◌, Bool, true, false, not, ◌&&◌, ◌||◌, nat_eq, nat_lt, List, [], ◌∷◌, ◌++◌, map, filter, length, Option, Some, None, slice_get, slice_set, Contains, refl, ap, sym, ◌∙◌, subst, arith, append_assoc, append-nil}
use Rattle.std.proofs.lemmas.List.Folds.{list_any-append}
use Rattle.grid_base.specs.Objects.{Object}
use Rattle.partition_table.specs.Rows.{is_among}
use Rattle.partition_protocol.specs.World.{map_or}
use Rattle.partition_protocol.specs.Service.{Service}
use Rattle.partition_protocol.specs.Bounds.{IsRowWithin, AreHeldWithin}
use Rattle.partition_protocol.proofs.Bounds.{row_more, node_more, message_more, held_more}
use Rattle.partition_protocol.specs.History.{Called}
use Rattle.partition_protocol.specs.Arrivals.{Asked as Call, name, NamedOnce}
use Rattle.partition_protocol.specs.Sequences.{IsSubsequence}
use Rattle.partition_protocol.specs.Claims.{is_reset}
use Rattle.partition_protocol.proofs.Lists.{In, in_left, in_contains, contains_in}
use Rattle.partition_protocol.proofs.RowFacts.{both_left, less, either_right}
use Rattle.masters_protocol.specs.Members.{Member, is_stored}
use Rattle.masters_protocol.specs.Machine as masters
use Rattle.masters_protocol.specs.Machine.{Masters, Event, Happened, done, happens, run, start, opening_member}
use Rattle.masters_protocol.specs.Claims.{IsSound}
use Rattle.apart_protocol.specs.Contents.{Parcel}
use Rattle.apart_protocol.specs.Member as partition
use Rattle.apart_protocol.specs.Rulings.{Ruling}
use Rattle.apart_protocol.specs.Machine as apart
use Rattle.apart_protocol.specs.Machine.{Apart, acted}
use Rattle.apart_protocol.specs.Claims.{HasHistory, whole_after}
use Rattle.apart_protocol.proofs.Rings.{some_at}
use Rattle.apart_protocol.specs.Sizes.{AreFewCalls}
use Rattle.apart_protocol.proofs.Theorem.{arrivals_append, every_apart_run_is_safe}
use Rattle.apart_protocol.proofs.Sizes.{IsCounted, every_apart_state_is_small, every_apart_number_is_bounded}
use Rattle.apart_masters.specs.Master.{does}
use Rattle.apart_masters.specs.Machine.{Ruled, Step, Acts, Leads, Says, Crash, begin, is_live, MayCome, with_masters, led, said, goes, after, MayHappen, asked_by, arrivals}
use Rattle.apart_masters.specs.Claims.{EveryRunIsWellRuled, EveryStateIsSmall, EveryNumberIsBounded, ruled_after}
use Rattle.apart_masters.proofs.Stepped.{log_is, stored_not_ahead}
use Rattle.apart_masters.proofs.Invariant as invariant
use Rattle.apart_masters.proofs.Invariant.{World, Asked, Part, Inv, one_more, in_more, may_later, may_more, whole_more}

module _ {C State : Type 0} (o : Object C State) (p n b : ℕ) (some : 1 ≤ n) (most : n ≤ 8) where
  module _ (j : Ruled C State) (events : List Asked) (made : List (apart.Step C State)) (inv : Inv o p n b j.apart j.masters events made) where
    abbrev pub c : Apart C State
    c = whole_after o p n b made

    -- the whole after a step, with what is kept
    abbrev pub Comes : Ruled C State → List (Call C) → Type 0
    Comes k calls = (events' : List Asked) × (made' : List (apart.Step C State)) × Inv o p n b k.apart k.masters events' made' × (apart.arrivals made' ≡ apart.arrivals made ++ calls)
        × (length made' ≤ length made + 1)

    pub quietly : (k : Ruled C State) (events' : List Asked) → invariant.Goes o p n b some most j.apart j.masters events made inv k.apart k.masters events' → Comes k []
    quietly k events' h = (events', h.0, h.1, h.2 ∙ sym (append-nil (apart.arrivals made)), h.3)

    module _ (m : ℕ) (lives : is_live n j m) where
      pub lives_apart : apart.is_live n (whole_after o p n b made) m ≡ true
      lives_apart = ap (λ cs. nat_lt m n && not (is_among cs m)) (sym inv.part.crashed) ∙ lives

      pub below : m < n
      below = less m n (both_left (nat_lt m n) (not (is_among j.apart.crashed m)) lives)

      -- it makes a step of its own in the partition
      module _ (own : partition.Own C State) (may : apart.MayAct j.apart m own) where
        pub may_act : apart.MayAct (whole_after o p n b made) m own
        may_act = go own may
          where
            go : (x : partition.Own C State) → apart.MayAct j.apart m x → apart.MayAct (whole_after o p n b made) m x
            go (partition.Takes from message cargo) k =
                contains_in _ (whole_after o p n b made).sent (inv.part.sent _ (in_contains _ j.apart.sent k))
            go (partition.Receives conn number call now) k = tt
            go partition.Resends k = tt

        pub part_acted : Part (apart.goes o p n b j.apart (apart.Acts m own)) (apart.goes o p n b (whole_after o p n b made) (apart.Acts m own))
        part_acted = subst (λ ms. Part (apart.goes o p n b j.apart (apart.Acts m own)) (map_or (slice_get ms m) c (λ x. acted c m (partition.does o n m own x)))) inv.part.members (go (slice_get j.apart.members m))
          where
            go : (y : Option (partition.Member C State)) → Part (map_or y j.apart (λ x. acted j.apart m (partition.does o n m own x))) (map_or y c (λ x. acted c m (partition.does o n m own x)))
            go None = inv.part
            go (Some y) = record {
              members = ap (λ ms. slice_set ms m (partition.does o n m own y).member) inv.part.members;
              crashed = inv.part.crashed;
              service = inv.part.service;
              released = ap (λ hs. hs ++ (partition.does o n m own y).released) inv.part.released;
              log = ap (λ es. es ++ map Called (partition.does o n m own y).executed) inv.part.log;
              sent = λ q i. in_more q j.apart.sent c.sent (partition.does o n m own y).sent (inv.part.sent q) i;
            }

        -- nothing else changes
        pub record Kept (a : Apart C State) : Type 0 where
          pub crashed : a.crashed ≡ j.apart.crashed
          pub service : a.service ≡ j.apart.service
          pub sent : (q : Parcel C State) → In q j.apart.sent → In q a.sent

        pub kept : Kept (apart.goes o p n b j.apart (apart.Acts m own))
        kept = go (slice_get j.apart.members m)
          where
            go : (y : Option (partition.Member C State)) → Kept (map_or y j.apart (λ x. acted j.apart m (partition.does o n m own x)))
            go None = record { crashed = refl; service = refl; sent = λ q i. i }
            go (Some y) = record { crashed = refl; service = refl; sent = λ q i. in_left q j.apart.sent (partition.does o n m own y).sent i }

        pub acts_comes : Comes (goes o p n b j (Acts m own)) (asked_by (Acts m own))
        acts_comes = (
          events,
          made ++ apart.Acts m own ∷ [],
          record {
            size = inv.size;
            asked = inv.asked;
            allowed = λ r i. may_later n j.apart (apart.goes o p n b j.apart (apart.Acts m own)) kept.sent (λ k e. ap (λ cs. is_among cs k) kept.crashed ∙ e) r (inv.allowed r i);
            same_crashed = λ k. inv.same_crashed k ∙ ap (λ cs. is_among cs k) (sym kept.crashed);
            may = may_more o p n b (apart.begin o p n b) made (apart.Acts m own) inv.may (lives_apart, may_act);
            part = subst (Part (apart.goes o p n b j.apart (apart.Acts m own))) (sym (whole_more o p n b made (apart.Acts m own))) part_acted;
            service = kept.service ∙ inv.service;
          },
          arrivals_append o made (apart.Acts m own ∷ []) ∙ ap (λ xs. apart.arrivals made ++ xs) (append-nil (apart.asked_by (apart.Acts m own))),
          one_more made (apart.Acts m own),
        )

      -- it crashes

      pub either_swapped : (x y : Bool) → (x || (y || false)) ≡ (y || x)
      either_swapped true true = refl
      either_swapped true false = refl
      either_swapped false true = refl
      either_swapped false false = refl

      pub crash_comes : Comes (goes o p n b j (Crash m)) []
      crash_comes = (
        events ++ masters.Crash m ∷ [],
        made ++ apart.Crash m ∷ [],
        record {
          size = inv.size;
          asked = invariant.asked_more o p n b some most j.apart j.masters events made inv (masters.Crash m) ∙ is;
          allowed = λ r i. may_later n j.apart (apart.goes o p n b j.apart (apart.Crash m)) (λ q k. k) (λ k e. either_right (nat_eq k m) (is_among j.apart.crashed k) e) r
              (inv.allowed r (subst (In r) (invariant.accepted_more o p n b some most j.apart j.masters events made inv (masters.Crash m) ∙ append-nil _) i));
          same_crashed = λ k. list_any-append (nat_eq k) j.masters.crashed (m ∷ []) ∙ either_swapped (is_among j.masters.crashed k) (nat_eq k m) ∙ ap (λ z. nat_eq k m || z) (inv.same_crashed k);
          may = may_more o p n b (apart.begin o p n b) made (apart.Crash m) inv.may lives_apart;
          part = subst (Part (apart.goes o p n b j.apart (apart.Crash m))) (sym (whole_more o p n b made (apart.Crash m))) (record {
            members = inv.part.members;
            crashed = ap (λ cs. m ∷ cs) inv.part.crashed;
            service = inv.part.service;
            released = inv.part.released;
            log = inv.part.log;
            sent = inv.part.sent;
          });
          service = inv.service;
        },
        arrivals_append o made (apart.Crash m ∷ []),
        one_more made (apart.Crash m),
      )
        where
          is : (happens j.masters (masters.Crash m)).world ≡ record j.masters { crashed = j.masters.crashed ++ m ∷ [] }
          is = let one : happens j.masters (masters.Crash m) ≡ done (record j.masters { crashed = j.masters.crashed ++ m ∷ [] }) =
              rw (invariant.lives_there o p n b some most j.apart j.masters events made inv m lives) refl in ap (λ (h : Happened Ruling). h.world) one

      -- as a master

      pub there : (x : Member Ruling) × (slice_get j.masters.members m ≡ Some x)
      there =
          let whole = (invariant.sound o p n b some most j.apart j.masters events made inv).whole in
          let size = inv.size in
          let l = below in
          some_at j.masters.members m (omega (arith, whole, size, l))

    pub step_comes : (st : Step C State) → MayCome n j st → Comes (goes o p n b j st) (asked_by st)
    step_comes (Acts m own) may = acts_comes m may.0 own may.1
    step_comes (Crash m) may = crash_comes m may
    step_comes (Leads m place own) may =
        let x = there m may.0 in
        let h = invariant.leads_goes o p n b some most j.apart j.masters events made inv m may.0 x.0 x.1 place own j refl refl may.1 in
        subst (λ k. Comes k []) (sym (ap (λ z. map_or z j (λ y. with_masters p n b j (led j.masters m place own (does n m own y)))) x.1))
        (quietly (with_masters p n b j (led j.masters m place own (does n m own x.0))) h.0 h.1)
    step_comes (Says m) may =
        let x = there m may in
        let k : Ruled C State = record { apart = said p n b j.apart m x.0; masters = j.masters } in
        subst (λ k. Comes k []) (sym (ap (λ z. map_or z j (λ y. let k : Ruled C State = record { apart = said p n b j.apart m y; masters = j.masters } in k)) x.1))
        (quietly k events (invariant.says_goes o p n b some most j.apart j.masters events made inv m may x.0 x.1 0))

  pub steps_come : (j : Ruled C State) (events : List Asked) (made : List (apart.Step C State)) → Inv o p n b j.apart j.masters events made → (ss : List (Step C State)) → MayHappen o p n b j ss
      → (events' : List Asked) × (made' : List (apart.Step C State)) × Inv o p n b (after o p n b j ss).apart (after o p n b j ss).masters events' made' × (apart.arrivals made' ≡ apart.arrivals made ++ arrivals ss)
      × (length made' ≤ length made + length ss)
  steps_come j events made inv [] may = (events, made, inv, sym (append-nil (apart.arrivals made)), omega arith)
  steps_come j events made inv (s ∷ ss) may =
      let one = step_comes j events made inv s may.0 in
      let rest = steps_come (goes o p n b j s) one.0 one.1 one.2 ss may.1 in
      let here = one.4 in
      let later = rest.4 in
      (rest.0, rest.1, rest.2, rest.3 ∙ ap (λ xs. xs ++ arrivals ss) one.3 ∙ append_assoc (apart.arrivals made) (asked_by s) (arrivals ss), omega (arith, here, later))

  pub begin_inv : Inv o p n b (begin o p n b).apart (begin o p n b).masters [] []
  begin_inv = record {
    size = refl;
    asked = refl;
    allowed = λ r i. absurd i;
    same_crashed = λ m. refl;
    may = tt;
    part = record { members = refl; crashed = refl; service = refl; released = refl; log = refl; sent = λ q i. i };
    service = refl;
  }

pub every_run_is_well_ruled : {C State : Type 0} (o : Object C State) → EveryRunIsWellRuled o
every_run_is_well_ruled {C} {State} o p n b steps given = record {
  asked = r.0;
  of_asked = inv.asked;
  sound = sound;
  made = r.1;
  given = record { some = given.some; lawful = given.lawful; may = inv.may };
  part = record {
    members = inv.part.members;
    crashed = inv.part.crashed;
    service = inv.part.service;
    released = inv.part.released;
    log = inv.part.log;
    sent = λ q k. contains_in q (whole_after o p n b r.1).sent (inv.part.sent q (in_contains q j.apart.sent k));
  };
  calls = r.3;
  few = (let l = r.4 in omega (arith, l));
  service = inv.service;
  decided = λ m x lives there stored. log_is j.masters sound m x (live m lives) there (stored_not_ahead j.masters sound m x (live m lives) there (ap (λ k. is_stored k m x) inv.size ∙ stored));
  safe = λ once. has (every_apart_run_is_safe o p n b r.1 (record { some = given.some; lawful = given.lawful; may = inv.may }) (subst (λ xs. NamedOnce (map name xs)) (sym r.3) once)).0;
}
  where
    j : Ruled C State
    j = ruled_after o p n b steps

    r : (events' : List Asked) × (made' : List (apart.Step C State)) × Inv o p n b (ruled_after o p n b steps).apart (ruled_after o p n b steps).masters events' made' × (apart.arrivals made' ≡ arrivals steps)
        × (length made' ≤ 0 + length steps)
    r = steps_come o p n b given.some given.most (begin o p n b) [] [] (begin_inv o p n b given.some given.most) steps given.may

    inv : Inv o p n b (ruled_after o p n b steps).apart (ruled_after o p n b steps).masters r.0 r.1
    inv = r.2

    sound : IsSound (ruled_after o p n b steps).masters
    sound = invariant.sound o p n b given.some given.most (ruled_after o p n b steps).apart (ruled_after o p n b steps).masters r.0 r.1 inv

    live : (m : ℕ) → is_live n (ruled_after o p n b steps) m → masters.is_live (ruled_after o p n b steps).masters m ≡ true
    live m lives = invariant.lives_there o p n b given.some given.most (ruled_after o p n b steps).apart (ruled_after o p n b steps).masters r.0 r.1 inv m lives

    has : HasHistory o (whole_after o p n b r.1) → HasHistory o (ruled_after o p n b steps).apart
    has h = record {
      history = h.history;
      legal = h.legal;
      in_order = subst (IsSubsequence h.history) (sym inv.part.log) h.in_order;
      resets = h.resets ∙ ap (filter is_reset) (sym inv.part.log);
      answered = λ g k. h.answered g (subst (λ hs. Contains hs g) inv.part.released k);
    }

pub every_state_is_small : {C State : Type 0} (o : Object C State) (limits : C → Type 0) (within : ℕ → State → Type 0) → IsCounted o limits within → EveryStateIsSmall o limits within
every_state_is_small o limits within counted p n b steps given few =
    let r = every_run_is_well_ruled o p n b steps given in
    let j = ruled_after o p n b steps in
    let small = every_apart_state_is_small o limits within counted p n b r.made r.given (subst (AreFewCalls limits) (sym r.calls) few) in
    record {
      members = λ m x at. small.members m x (subst (λ xs. slice_get xs m ≡ Some x) r.part.members at);
      sent = λ q c. small.sent q (r.part.sent q c);
    }

pub every_number_is_bounded : {C State : Type 0} (o : Object C State) → EveryNumberIsBounded o
every_number_is_bounded o p n b steps given =
    let r = every_run_is_well_ruled o p n b steps given in
    let j = ruled_after o p n b steps in
    let most = length r.made + length r.made in
    let k = length steps + length steps in
    let fewer : most ≤ k = (let few = r.few in omega (arith, few)) in
    let bounded = every_apart_number_is_bounded o p n b r.made r.given in
    record {
      row = row_more most k j.apart.service.row fewer (subst (λ (s : Service). IsRowWithin most s.row) (sym r.part.service) bounded.row);
      members = λ m x at. node_more most k x.node fewer (bounded.members m x (subst (λ xs. slice_get xs m ≡ Some x) r.part.members at));
      sent = λ q c. message_more most k q.packet.message fewer (bounded.sent q (r.part.sent q c));
      released = held_more most k j.apart.released fewer (subst (AreHeldWithin most) (sym r.part.released) bounded.released);
    }
