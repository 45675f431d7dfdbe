-- Where each event was new as it came, no two calls have one name.
use Rattle.std.proofs.Common.{◌≡◌, ◌≢◌, ℕ, List, [], ◌∷◌, map, Contains, sym, ap, ◌∙◌}
use Rattle.grid_base.specs.declared.names.CallId.{CallId}
use Rattle.grid_base.specs.declared.calls.Request.{Request}
use Rattle.hand_cell.specs.declared.names.Key.{Key}
use Rattle.hand_cell.specs.declared.names.Key.TheVariants as key
use Rattle.hand_cell.specs.Names.{IsNewKey, Lacks}
use Rattle.partition_protocol.specs.Arrivals.{Asked, CallName, name}
use Rattle.partition_protocol.proofs.Lists.{In, in_contains}
use Rattle.partition_world.specs.declared.event.Event.{Event}
use Rattle.partition_world.specs.declared.event.Event.TheVariants as event
use Rattle.live_grid.specs.Histories.{live_key}
use Rattle.live_history_laws.specs.Names.{AreNamedOnce, AreNew}
use Rattle.live_history_laws.proofs.Arrivals.{arrived, came_at, id_in}
use Rattle.live_history_laws.proofs.Elements.{in_mapped}

-- what is new in a list is new in its rest
new_later : (k : Key) (e : Event Request) (es : List (Event Request)) → IsNewKey live_key k (e ∷ es) → IsNewKey live_key k es
new_later (key.Call id) e es new = new.1
new_later key.Control e es new = tt
new_later key.Free e es new = tt

rest_new : (e : Event Request) (es : List (Event Request)) → AreNew (e ∷ es) → AreNew es
rest_new e es new before after x is = new_later (live_key x) e before (new (e ∷ before) after x (ap (λ xs. e ∷ xs) is))

-- the first call has a name of its own
first_new : (member : ℕ) (id : CallId) (request : Request) (now : ℕ) (es : List (Event Request)) → AreNew (event.Call member id request now ∷ es)
    → (m : CallName) → Contains (map name (arrived es)) m → m ≢ record { conn = id.conn; number = id.number }
first_new member id request now es new m c same = lacks.0 (ap (λ (n : CallName). key.Call (record { conn = n.conn; number = n.number })) (sym same ∙ sym there.2))
  where
    there : (a : Asked Request) × In a (arrived es) × (name a ≡ m)
    there = in_mapped name (arrived es) m (in_contains m (map name (arrived es)) c)

    lacks : Lacks live_key (key.Call (id_in there.0)) (event.Call member id request now ∷ (came_at es there.0 there.1).before)
    lacks = let at = came_at es there.0 there.1 in new (event.Call member id request now ∷ at.before) at.after (event.Call at.member (id_in there.0) there.0.call there.0.now) (ap (λ xs. event.Call member id request now ∷ xs) at.whole)

pub named_once : (history : List (Event Request)) → AreNew history → AreNamedOnce history
named_once [] new = tt
named_once (event.Call member id request now ∷ es) new = (first_new member id request now es new, named_once es (rest_new _ es new))
named_once (event.Deliver from to place ∷ es) new = named_once es (rest_new _ es new)
named_once (event.Lose from to place ∷ es) new = named_once es (rest_new _ es new)
named_once (event.Repeat from to place ∷ es) new = named_once es (rest_new _ es new)
named_once (event.Resend end ∷ es) new = named_once es (rest_new _ es new)
named_once (event.Crash member ∷ es) new = named_once es (rest_new _ es new)
named_once (event.Detect member ∷ es) new = named_once es (rest_new _ es new)
named_once (event.BeginMove from to ∷ es) new = named_once es (rest_new _ es new)
named_once (event.BeginJoin to ∷ es) new = named_once es (rest_new _ es new)
named_once (event.BeginHandover from to ∷ es) new = named_once es (rest_new _ es new)
named_once (event.Advance ∷ es) new = named_once es (rest_new _ es new)
named_once (event.Reopen ∷ es) new = named_once es (rest_new _ es new)
