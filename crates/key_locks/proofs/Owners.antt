-- The test of two owners says that they are one.
use Rattle.std.proofs.Common.{◌≡◌, ℤ, Bool, true, false, ◌&&◌, refl, ap, ◌∙◌}
use Rattle.std.proofs.lemmas.Bool.Decides.{Decides-int_eq, Decides-eqb}
use Rattle.std.specs.Ordering.{int_eq}
use Rattle.grid_base.specs.declared.names.ClientKey.{ClientKey}
use Rattle.grid_base.specs.declared.names.ClientKey.TheVariants.{Known, OfConn}
use Rattle.grid_base.specs.declared.names.Owner.{Owner}
use Rattle.key_locks.specs.Locks.{is_same_client, is_same_owner}

same_client : (a b : ClientKey) → is_same_client a b ≡ true → a ≡ b
same_client (Known a) (Known b) e = ap Known ((Decides-eqb a b).0 e)
same_client (OfConn a) (OfConn b) e = ap OfConn ((Decides-eqb a b).0 e)
same_client (Known a) (OfConn b) e = cc
same_client (OfConn a) (Known b) e = cc

both_true : (a b : Bool) → (a && b) ≡ true → (a ≡ true) × (b ≡ true)
both_true true true e = (refl, refl)
both_true true false e = cc
both_true false b e = cc

pub same_owner : (a b : Owner) → is_same_owner a b ≡ true → a ≡ b
same_owner a b e =
    let both = both_true (is_same_client a.client b.client) (int_eq a.thread b.thread) e in
    ap (λ client. owner client a.thread) (same_client a.client b.client both.0) ∙ ap (owner b.client) ((Decides-int_eq a.thread b.thread).0 both.1)
  where
    owner : ClientKey → ℤ → Owner
    owner client thread = record { client = client; thread = thread }

own_client : (a : ClientKey) → is_same_client a a ≡ true
own_client (Known a) = (Decides-eqb a a).1 refl
own_client (OfConn a) = (Decides-eqb a a).1 refl

pub own_owner : (a : Owner) → is_same_owner a a ≡ true
own_owner a = rw (own_client a.client, (Decides-int_eq a.thread a.thread).1 refl) refl
