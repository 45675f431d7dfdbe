-- What a pass sees later has none of its names.
use Rattle.std.proofs.Common.{◌≡◌, ◌≢◌, ℕ, ◌≤◌, Bool, true, false, cond, eqb, nat_le, List, [], ◌∷◌, ◌++◌, filter, refl, sym, ap, ◌∙◌, subst, arith, true≢false}
use Rattle.std.proofs.lemmas.Bool.Decides.{nat_tests}
use Rattle.std.proofs.lemmas.List.Elements.{filter-append}
use Rattle.grid_base.specs.declared.calls.Request.{Request}
use Rattle.hand_cell.specs.declared.names.Key.{Key}
use Rattle.hand_cell.specs.declared.names.Key.TheVariants.{Call, Control, Free}
use Rattle.hand_cell.specs.declared.names.NameSet.{NameSet}
use Rattle.hand_cell.specs.Names.{NoneOf, has, has_number}
use Rattle.partition_world.specs.declared.event.Event.{Event}
use Rattle.live_grid.specs.Control.{controls_in, is_control}
use Rattle.live_grid.specs.Histories.{live_key}
use Rattle.counted_calls.specs.Calls.{calls_by, calls_from, is_call_by, is_call_from}

-- numbers and their tests

pub same_number : (m n : ℕ) → eqb m n ≡ true → m ≡ n
same_number m n e = grind (arith, nat_tests)

pub itself : (n : ℕ) → eqb n n ≡ true
itself n = grind (arith, nat_tests)

pub other_number : (m n : ℕ) → eqb m n ≡ false → m ≢ n
other_number m n e same = let there : eqb m n ≡ true = subst (λ k. eqb m k ≡ true) same (itself m) in absurd (true≢false (sym there ∙ e))

pub less_or_same : (m n : ℕ) → nat_le m n ≡ true → m ≤ n
less_or_same m n e = grind (arith, nat_tests)

pub passes_from : (m n : ℕ) → m ≤ n → nat_le m n ≡ true
passes_from m n less = grind (arith, nat_tests)

-- which names the keys of calls and of an operator's events have

by_named : (names : NameSet) (conn : ℕ) (k : Key) → has_number names.numbers conn ≡ true → is_call_by conn k ≡ true → has names k ≡ true
by_named names conn (Call id) named e = subst (λ n. has_number names.numbers n ≡ true) (sym (same_number id.conn conn e)) named
by_named names conn Control named e = absurd cc
by_named names conn Free named e = absurd cc

from_named : (names : NameSet) (from : ℕ) (k : Key) → ((n : ℕ) → from ≤ n → has_number names.numbers n ≡ true) → is_call_from from k ≡ true → has names k ≡ true
from_named names from (Call id) named e = named id.conn (less_or_same from id.conn e)
from_named names from Control named e = absurd cc
from_named names from Free named e = absurd cc

control_named : (names : NameSet) (k : Key) → names.control ≡ true → is_control k ≡ true → has names k ≡ true
control_named names (Call id) named e = absurd cc
control_named names Control named e = named
control_named names Free named e = absurd cc

-- what passes a test whose keys have a name of the pass isn't in what is new to it
none_new : (names : NameSet) (test : Key → Bool) (later : List (Event Request)) → ((k : Key) → test k ≡ true → has names k ≡ true) → NoneOf live_key names later → filter (λ event. test (live_key event)) later ≡ []
none_new names test [] named none = refl
none_new names test (e ∷ es) named none = go (test (live_key e)) refl (none_new names test es named none.1)
  where
    go : (b : Bool) → test (live_key e) ≡ b → filter (λ event. test (live_key event)) es ≡ [] → cond b (e ∷ filter (λ event. test (live_key event)) es) (filter (λ event. test (live_key event)) es) ≡ []
    go true is less = absurd (true≢false (sym (named (live_key e) is) ∙ none.0))
    go false is less = less

module _ (names : NameSet) (later : List (Event Request)) (none : NoneOf live_key names later) where
  pub none_by : (conn : ℕ) → has_number names.numbers conn ≡ true → calls_by conn later ≡ []
  none_by conn named = none_new names (is_call_by conn) later (λ k e. by_named names conn k named e) none

  pub none_from : (from : ℕ) → ((n : ℕ) → from ≤ n → has_number names.numbers n ≡ true) → calls_from from later ≡ []
  none_from from named = none_new names (is_call_from from) later (λ k e. from_named names from k named e) none

  pub no_controls : names.control ≡ true → controls_in later ≡ []
  no_controls named = none_new names is_control later (λ k e. control_named names k named e) none

pub nothing_more : {X : Type 0} (xs : List X) → xs ++ [] ≡ xs
nothing_more [] = refl
nothing_more (x ∷ xs) = ap (λ ys. x ∷ ys) (nothing_more xs)

-- a list in whose second part nothing passes a test
pub passed_before : {X : Type 0} (t : X → Bool) (xs ys : List X) → filter t ys ≡ [] → filter t (xs ++ ys) ≡ filter t xs
passed_before t xs ys none = filter-append t xs ys ∙ (ap (λ zs. filter t xs ++ zs) none ∙ nothing_more (filter t xs))
