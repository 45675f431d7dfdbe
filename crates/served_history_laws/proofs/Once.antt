-- Each call that was seen is that of one message of a connection that came, and no two have one name.
use Rattle.std.proofs.Common.{◌≡◌, ◌⊎◌, inl, inr, ⊎_elim, ℕ, suc, ◌<◌, ◌≤◌, ◌==◌, Bool, true, false, cond, List, [], ◌∷◌, ◌++◌, length, get_or, Contains, Some, slice_get, refl, sym, ap, ◌∙◌, subst, arith}
use Rattle.std.proofs.lemmas.Bool.Decides.{nat_tests}
use Rattle.std.proofs.lemmas.List.Sums.{sum_by-append}
use Rattle.grid_base.specs.declared.names.CallId.{CallId}
use Rattle.grid_base.specs.declared.calls.Request.{Request}
use Rattle.grid_edge.specs.Doors.{Return, Book}
use Rattle.hand_cell.specs.declared.names.Key.{Key}
use Rattle.hand_cell.specs.declared.names.Key.TheVariants as key
use Rattle.hand_cell.specs.Names.{IsNewKey}
use Rattle.hand_cell.specs.Told.{Told}
use Rattle.partition_protocol.proofs.Lists.{In, in_contains}
use Rattle.loop_journal.specs.declared.entry.Entry.{Entry}
use Rattle.partition_threads.specs.declared.workplace.Workplace.{Workplace}
use Rattle.partition_world.specs.declared.event.Event.{Event}
use Rattle.partition_world.specs.declared.event.Happened.{Happened}
use Rattle.live_grid.specs.declared.plan.GridPlan.{GridPlan}
use Rattle.live_grid.specs.declared.world.LiveWorld.{LiveWorld}
use Rattle.live_grid.specs.Histories.{live_key, live_call}
use Rattle.live_grid.specs.Outcomes.{LiveTells}
use Rattle.live_history_laws.specs.Names.{AreNew}
use Rattle.live_session.specs.Connections.{AreBelow}
use Rattle.live_session.proofs.Calls.{none_there}
use Rattle.live_session.proofs.Numbers.{below_lacks}
use Rattle.live_server.specs.Serving.{HasServedAll, times_returned}
use Rattle.served_history_laws.specs.Histories.{IsOfClient}

-- An element of a list, with what stands before it and behind
pub record Split {A : Type 0} (xs : List A) (x : A) : Type 0 where
  pub before : List A
  pub after : List A
  pub whole : xs ≡ before ++ x ∷ after

split_in : {A : Type 0} (xs : List A) (x : A) → In x xs → Split xs x
split_in [] x there = absurd there
split_in (y ∷ ys) x (inl same) = record { before = []; after = ys; whole = ap (λ z. z ∷ ys) same }
split_in (y ∷ ys) x (inr there) = let s = split_in ys x there in record { before = y ∷ s.before; after = s.after; whole = ap (λ zs. y ∷ zs) s.whole }

pub split_at : {A : Type 0} (xs : List A) (x : A) → Contains xs x → Split xs x
split_at xs x there = split_in xs x (in_contains x xs there)

-- A number that was given back, with the place of its return
pub record GivenBack (number : ℕ) (returns : List Return) : Type 0 where
  pub at : ℕ
  pub given : Return
  pub within : at < length returns
  pub number_is : (get_or returns at given).number ≡ number

abbrev counts : Bool → ℕ
counts is = cond is 1 0

pub given_back : (number : ℕ) (returns : List Return) → 1 ≤ times_returned number returns → GivenBack number returns
given_back number [] once = absurd (omega (arith, once))
given_back number (given ∷ returns) once = go (given.number == number) refl (λ more. given_back number returns more)
  where
    go : (b : Bool) → (given.number == number) ≡ b → (1 ≤ times_returned number returns → GivenBack number returns) → GivenBack number (given ∷ returns)
    go true is later = record { at = 0; given = given; within = omega arith; number_is = grind (arith, nat_tests) }
    go false is later =
        let cut = sum_by-append (λ (each : Return). counts (each.number == number)) (given ∷ []) returns in
        let none : counts (given.number == number) ≡ 0 = ap counts is in
        let rest = later (omega (arith, once, cut, none)) in
        let less = rest.within in
        record { at = suc rest.at; given = rest.given; within = omega (arith, less); number_is = rest.number_is }

less_or_more : (n m : ℕ) → (n < m) ⊎ (m ≤ n)
less_or_more n m = grind arith

module _ (place : Workplace LiveWorld GridPlan (Event Request) Happened) (given : List ℕ) (journal : List Entry) (passes : List (Told (Event Request))) (book : Book)
    (all : HasServedAll live_key LiveTells live_call place given journal passes book) (partition : ℕ) (pass : Told (Event Request)) (there : slice_get passes partition ≡ Some pass) where
  -- a call that was seen, at its place
  pub call_at : (before after : List (Event Request)) (event : Event Request) (id : CallId) → pass.seen ≡ before ++ event ∷ after → live_key event ≡ key.Call id
      → IsOfClient place given journal passes book all partition event id × AreBelow live_key id.conn id.number before
  call_at before after event id whole named = ⊎_elim came never (less_or_more id.conn (length book.arrivals))
    where
      never : length book.arrivals ≤ id.conn → IsOfClient place given journal passes book all partition event id × AreBelow live_key id.conn id.number before
      never more = absurd (none_there live_key id.conn before after event id (subst (λ (l : List (Event Request)). AreBelow live_key id.conn 0 l) whole (all.no_other id.conn more partition pass there)) named refl)

      came : id.conn < length book.arrivals → IsOfClient place given journal passes book all partition event id × AreBelow live_key id.conn id.number before
      came less =
          let once = all.once id.conn less in
          let back = given_back id.conn book.returns (omega (arith, once)) in
          let served = all.served back.at back.given back.within in
          let is = served.answered.answers.calls partition before after event id (served.seen_is partition pass there ∙ whole) named (sym back.number_is) in (
            record { at = back.at; other = back.given; within = back.within; is = record { number = back.number_is; call = is.0 } },
            subst (λ (n : ℕ). AreBelow live_key n id.number before) back.number_is is.1,
          )

  pub each_of_client : (event : Event Request) (id : CallId) → Contains pass.seen event → live_key event ≡ key.Call id → IsOfClient place given journal passes book all partition event id
  each_of_client event id within named = let split = split_at pass.seen event within in (call_at split.before split.after event id split.whole named).0

  pub are_new : AreNew pass.seen
  are_new before after event whole = new (live_key event) refl
    where
      new : (k : Key) → live_key event ≡ k → IsNewKey live_key k before
      new (key.Call id) named = below_lacks live_key id.conn id.number id before refl (λ less. omega (arith, less)) (call_at before after event id whole named).1
      new key.Control named = tt
      new key.Free named = tt
