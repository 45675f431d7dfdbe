-- One session is joined to the grid's pass.
use Rattle.std.proofs.Common.{◌≡◌, ◌⊎◌, inl, inr, ℕ, zero, suc, ◌+◌, ◌*◌, ◌^◌, ◌<◌, ◌≤◌, Bool, true, false, ◌||◌, eqb, List, [], ◌∷◌, ◌++◌, length, Option, Some, None, Ok, IfOk, slice_get, get_or, take, drop, refl, sym, ap, ◌∙◌, subst, arith}
use Rattle.std.proofs.lemmas.List.{length-append}
use Rattle.std.proofs.lemmas.Option.{slice_get_within, slice_get-get_or}
use Rattle.std.proofs.Math.Seq.{take-append_seam}
use Rattle.std.proofs.lemmas.List.Sums.{length-filter, count_by-le-length}
use Rattle.grid_base.specs.declared.calls.Request.{Request}
use Rattle.hand_cell.specs.declared.names.NameSet.{NameSet}
use Rattle.hand_cell.specs.Names.{has_number}
use Rattle.hand_cell.specs.Rule.{Extends, longer_of}
use Rattle.hand_cell.specs.Told.{Told}
use Rattle.hand_cell.proofs.Prefixes.{longer_left, longer_right}
use Rattle.partition_world.specs.declared.event.Event.{Event}
use Rattle.session_calls.specs.Passes.{AreJoinedWith, IsJoinedWith}
use Rattle.session_calls.proofs.Opened.{joined_has}
use Rattle.live_grid.specs.declared.grid.GridPass.{GridPass}
use Rattle.live_grid.specs.declared.grid.LiveGrid.{LiveGrid}
use Rattle.live_grid.specs.declared.plan.GridPlan.{GridPlan}
use Rattle.live_grid.specs.Control.{controls_in, is_control}
use Rattle.live_grid.specs.Histories.{live_key}
use Rattle.counted_calls.specs.Callers.{HaveAllMade, HasMadeAll}
use Rattle.counted_calls.specs.declared.threads.Caller.{Caller}
use Rattle.counted_calls.specs.Gathered.{AreGathered, HasGathered, HasNamesFrom, HaveNamesFrom}
use Rattle.counted_calls.specs.Sessions.{GridSession, HasMade, HaveBeenMade, is_answered}
use Rattle.counted_calls.specs.declared.requests.TheConstants.{PARTITION, SESSIONS, CALLS}
use Rattle.counted_calls.proofs.Gathering.{gathered_joined}
use Rattle.counted_calls.proofs.Later.{same_number, other_number, no_controls, passed_before}

same_some : {A : Type 0} (a b : A) → ◌≡◌ {A = Option A} (Some a) (Some b) → a ≡ b
same_some a b e = cc

-- the last of the sessions

pub last_there : {X : Type 0} (xs : List X) (x : X) → slice_get (xs ++ x ∷ []) (length xs) ≡ Some x
last_there [] x = refl
last_there (y ∷ ys) x = last_there ys x

pub there_still : {X : Type 0} (xs : List X) (x y : X) (k : ℕ) → slice_get xs k ≡ Some y → slice_get (xs ++ x ∷ []) k ≡ Some y
there_still [] x y k e = absurd cc
there_still (z ∷ zs) x y zero e = e
there_still (z ∷ zs) x y (suc k) e = there_still zs x y k e

pub others_made : (grid : LiveGrid) (key : List ℕ) (rest all : List Caller) (one : Caller) → all ≡ rest ++ one ∷ [] → HaveAllMade grid key all → HaveAllMade grid key rest
others_made grid key rest all one whole made conn caller e = made conn caller (ap (λ l. slice_get l conn) whole ∙ there_still rest one caller conn e)

pub last_made : (grid : LiveGrid) (key : List ℕ) (rest all : List Caller) (one : Caller) → all ≡ rest ++ one ∷ [] → HaveAllMade grid key all → HasMadeAll grid key (length rest) one
last_made grid key rest all one whole made = made (length rest) one (ap (λ l. slice_get l (length rest)) whole ∙ last_there rest one)

pub popped_made : (grid : LiveGrid) (key : List ℕ) (rest all : List Caller) (one : Caller) (count : ℕ) → all ≡ rest ++ one ∷ [] → HaveAllMade grid key all → one.came ≡ Ok count → HasMade grid key (length rest) CALLS count one.session
popped_made grid key rest all one count whole made came = subst (λ r. IfOk r (λ answered. HasMade grid key (length rest) CALLS answered one.session)) came (last_made grid key rest all one whole made)

pub one_down : {X : Type 0} (rest all : List X) (one : X) → all ≡ rest ++ one ∷ [] → length all ≡ suc (length rest)
one_down rest all one whole = let same = ap length whole ∙ length-append rest (one ∷ []) in omega (arith, same)

-- callers that were changed in a slice

pub sliced : {X : Type 0} (new items : List X) (len k : ℕ) (x : X) → len ≡ length new → slice_get (take len (new ++ drop (length new) items)) k ≡ Some x → slice_get new k ≡ Some x
sliced new items len k x len_is e = ap (λ l. slice_get l k) (sym (ap (λ n. take n (new ++ drop (length new) items)) len_is ∙ take-append_seam new (drop (length new) items))) ∙ e

pub within_all : {X : Type 0} (new old : List X) (k : ℕ) (x : X) → length new ≡ length old → slice_get new k ≡ Some x → k < length old
within_all new old k x long e = let less = slice_get_within new k x e in omega (arith, long, less)

pub read_there : {X : Type 0} (xs : List X) (k : ℕ) (x : X) → slice_get xs k ≡ Some x → get_or xs k x ≡ x
read_there xs k x e = same_some (get_or xs k x) x (sym (slice_get-get_or xs k x (slice_get_within xs k x e)) ∙ e)

-- how many were answered

answered_few : (plan : GridPlan) (key : List ℕ) (conn answered : ℕ) (seen : List (Event Request)) → HaveBeenMade plan key conn CALLS answered seen → answered ≤ CALLS
answered_few plan key conn answered seen is =
    let some = length-filter is_answered is.ran in
    let most = count_by-le-length is_answered is.ran in
    let count = is.count in
    let few = is.few in
    omega (arith, some, most, count, few)

gathered_few : (plan : GridPlan) (key : List ℕ) (from answered : ℕ) (seen : List (Event Request)) → AreGathered plan key from answered seen → answered + CALLS * from ≤ CALLS * SESSIONS
gathered_few plan key from answered seen is =
    let some = length-filter is_answered is.ran in
    let most = count_by-le-length is_answered is.ran in
    let count = is.count in
    let few = is.few in
    omega (arith, some, most, count, few)

pub sum_fits : (grid : LiveGrid) (key : List ℕ) (conn from answered others : ℕ) (session : GridSession) (pass : GridPass) → HasMade grid key conn CALLS answered session → HasGathered grid key from others pass → others + answered < 2 ^ 32
sum_fits grid key conn from answered others session pass made is =
    let mine = answered_few made.plan key conn answered made.pass.seen made.made in
    let theirs = gathered_few is.plan key from others is.last.seen is.gathered in
    omega (arith, mine, theirs)

there_is : {A B : Type 0} (xs : List A) (ys : List B) (k : ℕ) (x : A) → length ys ≡ length xs → slice_get xs k ≡ Some x → (y : B) × (slice_get ys k ≡ Some y)
there_is [] ys k x long e = absurd cc
there_is (z ∷ zs) [] k x long e = absurd (omega (arith, long))
there_is (z ∷ zs) (y ∷ ys) zero x long e = (y, refl)
there_is (z ∷ zs) (y ∷ ys) (suc k) x long e = there_is zs ys k x (omega (arith, long)) e

either : (a b : Bool) → (a ≡ true) ⊎ (b ≡ true) → (a || b) ≡ true
either true b h = refl
either false b (inl e) = absurd cc
either false b (inr e) = e

-- what a pass has seen that took another in has no operator's event, where it had the operator's name
none_controlled : (names names_of_other : NameSet) (seen other : List (Event Request)) → names.control ≡ true → controls_in seen ≡ [] → Extends live_key seen names other names_of_other → controls_in (longer_of seen other) ≡ []
none_controlled names names_of_other seen other control none (inl (later, longer, new)) =
    ap controls_in (ap (longer_of seen) longer ∙ longer_right seen later) ∙ (passed_before (λ event. is_control (live_key event)) seen later (no_controls names later new control) ∙ none)
none_controlled names names_of_other seen other control none (inr (later, longer, new)) =
    ap controls_in (ap (λ xs. longer_of xs other) longer ∙ (longer_left other later ∙ sym longer)) ∙ none

-- a pass that took in one which has the number before its own
joined_names : (conn : ℕ) (was other is : Told (Event Request)) → HasNamesFrom (suc conn) was → has_number other.names.numbers conn ≡ true → IsJoinedWith live_key was other is → HasNamesFrom conn is
joined_names conn was other is has own joined = record {
  control = ap (λ (p : Told (Event Request)). p.names.control) joined.pass_is ∙ ap (λ b. b || other.names.control) has.control;
  numbers = λ number low. joined_has live_key number was other is joined ∙ either (has_number was.names.numbers number) (has_number other.names.numbers number) (go number low (eqb number conn) refl);
  uncontrolled = ap (λ (p : Told (Event Request)). controls_in p.seen) joined.pass_is ∙ none_controlled was.names other.names was.seen other.seen has.control has.uncontrolled joined.extends;
}
  where
    go : (number : ℕ) → conn ≤ number → (b : Bool) → eqb number conn ≡ b → (has_number was.names.numbers number ≡ true) ⊎ (has_number other.names.numbers number ≡ true)
    go number low true e = inr (subst (λ n. has_number other.names.numbers n ≡ true) (sym (same_number number conn e)) own)
    go number low false e = let different = other_number number conn e in inl (has.numbers number (omega (arith, low, different)))

module _ (grid : LiveGrid) (key : List ℕ) (conn others answered : ℕ) (old new : GridPass) (session : GridSession) (high : conn < SESSIONS) (as_many : length session.passes.items ≡ length old.passes.items)
    (is : HasGathered grid key (suc conn) others old) (made : HasMade grid key conn CALLS answered session) (joined : AreJoinedWith live_key old.passes.items session.passes.items new.passes.items) where
  found : (pass : Told (Event Request)) × (slice_get new.passes.items PARTITION ≡ Some pass)
  found = there_is old.passes.items new.passes.items PARTITION is.last joined.as_long is.last_there

  joined_here : IsJoinedWith live_key is.last made.pass found.0
  joined_here = joined.each PARTITION is.last made.pass found.0 is.last_there made.there found.1

  plan_is : made.plan ≡ is.plan
  plan_is = same_some made.plan is.plan (sym made.plan_here.there ∙ is.plan_here.there)

  names_at : (partition : ℕ) (was pass : Told (Event Request)) (other : Option (Told (Event Request))) → slice_get old.passes.items partition ≡ Some was → slice_get session.passes.items partition ≡ Some other
      → slice_get new.passes.items partition ≡ Some pass → HasNamesFrom conn pass
  names_at partition was pass None there with_it e = absurd (made.rests partition with_it)
  names_at partition was pass (Some other) there with_it e = joined_names conn was other pass (is.named partition was there) (made.named partition other with_it) (joined.each partition was other pass there with_it e)

  named : HaveNamesFrom conn new.passes.items
  named partition pass e =
      let was = there_is new.passes.items old.passes.items partition pass (sym joined.as_long) e in
      let other = there_is old.passes.items session.passes.items partition was.0 as_many was.1 in
      names_at partition was.0 pass other.0 was.1 other.1 e

  names_here : HasNamesFrom (suc conn) is.last
  names_here = is.named PARTITION is.last is.last_there

  pub one_more_joined : HasGathered grid key conn (others + answered) new
  one_more_joined = record {
    plan = is.plan;
    plan_here = is.plan_here;
    last = found.0;
    last_there = found.1;
    named = named;
    gathered = subst (λ n. AreGathered is.plan key conn n found.0.seen) (omega arith)
        (subst (λ seen. AreGathered is.plan key conn (answered + others) seen) (sym (ap (λ (p : Told (Event Request)). p.seen) joined_here.pass_is))
        (gathered_joined is.plan key conn others answered high is.last.names made.pass.names is.last.seen made.pass.seen names_here.control names_here.numbers (made.named PARTITION made.pass made.there) is.gathered
        (subst (λ (p : GridPlan). HaveBeenMade p key conn CALLS answered made.pass.seen) plan_is made.made) joined_here.extends));
  }
