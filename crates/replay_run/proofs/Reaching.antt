-- Each connection is to a member of the grid, also after another was opened and after bytes came.
use Rattle.std.proofs.Common.{◌≡◌, ℕ, ◌<◌, ◌==◌, Bool, true, false, cond, List, [], ◌∷◌, Option, Some, None, sym, ap, ◌∙◌, subst, refl}
use Rattle.std.specs.List.{find}
use Rattle.std.specs.Option.{option_map, option_or}
use Rattle.std.proofs.lemmas.List.Folds.{find-append}
use Rattle.replay_run.specs.Runs.{Run, Connection, is_connection, connection_of, opened, took_bytes, with_bytes}
use Rattle.replay_run.specs.Grids.{AreReached}
use Rattle.replay_run.proofs.EventRuns.{Kept}
use Rattle.replay_run.proofs.Arriving.{in_place, in_place_number, find_map}

pub opened_reached : (r : Run) (c member : ℕ) → AreReached r → member < r.members → AreReached (opened r c member)
opened_reached r c member reached within d k found = go (connection_of r d) refl (c == d) (sym (find-append (is_connection d) r.connections (new ∷ [])) ∙ found)
  where
    new : Connection
    new = record { conn = c; member = member; bytes = [] }

    go : (old : Option Connection) → connection_of r d ≡ old → (its : Bool) → option_or old (cond its (Some new) None) ≡ Some k → k.member < r.members
    go (Some j) there its e = let same : j ≡ k = cc in subst (λ (x : Connection). x.member < r.members) same (reached d j there)
    go None there true e = let same : new ≡ k = cc in subst (λ (x : Connection). x.member < r.members) same within
    go None there false e = absurd cc

pub taken_reached : (r : Run) (k : Connection) (bytes : List ℕ) → AreReached r → k.member < r.members → AreReached (took_bytes r k bytes)
taken_reached r k bytes reached within d x found =
    go (connection_of r d) refl (sym (find_map (is_connection d) (in_place new) r.connections (λ j. ap (λ n. n == d) (in_place_number new j))) ∙ found)
  where
    new : Connection
    new = with_bytes k bytes

    member_within : (its : Bool) (j : Connection) → j.member < r.members → (cond its new j).member < r.members
    member_within true j h = within
    member_within false j h = h

    go : (old : Option Connection) → connection_of r d ≡ old → option_map (in_place new) old ≡ Some x → x.member < r.members
    go (Some j) there e = let same : in_place new j ≡ x = cc in subst (λ (y : Connection). y.member < r.members) same (member_within (j.conn == new.conn) j (reached d j there))
    go None there e = absurd cc

-- what events leave
pub kept_reached : (r next : Run) → Kept r next → AreReached r → AreReached next
kept_reached r next kept reached c k found =
    subst (λ n. k.member < n) (sym kept.members) (reached c k (ap (λ ks. find (is_connection c) ks) (sym kept.connections) ∙ found))
