-- The calls that arrive with a history's events.
use Rattle.std.proofs.Common.{◌≡◌, ℕ, List, [], ◌∷◌, ◌++◌, map, refl, sym, ap, ◌∙◌, subst, inl, inr, ⊎_elim, append_assoc}
use Rattle.grid_base.specs.declared.names.CallId.{CallId}
use Rattle.grid_base.specs.declared.calls.Request.{Request}
use Rattle.partition_protocol.specs.Arrivals.{Asked, arrivals, asked_by}
use Rattle.partition_protocol.proofs.Lists.{In, in_right, in_cases}
use Rattle.partition_world.specs.declared.event.Event.{Event}
use Rattle.partition_world.specs.declared.event.Event.TheVariants as event
use Rattle.partition_world.specs.Events.{event_of}

abbrev pub arrived : List (Event Request) → List (Asked Request)
arrived history = arrivals (map event_of history)

abbrev pub asked_in : CallId → Request → ℕ → Asked Request
asked_in id request now = record { conn = id.conn; number = id.number; now = now; call = request }

abbrev pub id_in : Asked Request → CallId
id_in a = record { conn = a.conn; number = a.number }

-- an event that brings a call
pub record Brings (e : Event Request) (a : Asked Request) : Type 0 where
  pub member : ℕ
  pub is : e ≡ event.Call member (id_in a) a.call a.now

pub brings : (e : Event Request) (a : Asked Request) → In a (asked_by (event_of e)) → Brings e a
brings (event.Call member id request now) a (inl s) = record { member = member; is = ap (λ k. event.Call member (id_in k) k.call k.now) s }
brings (event.Call member id request now) a (inr i) = absurd i
brings (event.Deliver from to place) a i = absurd i
brings (event.Lose from to place) a i = absurd i
brings (event.Repeat from to place) a i = absurd i
brings (event.Resend end) a i = absurd i
brings (event.Crash member) a i = absurd i
brings (event.Detect member) a i = absurd i
brings (event.BeginMove from to) a i = absurd i
brings (event.BeginJoin to) a i = absurd i
brings (event.BeginHandover from to) a i = absurd i
brings event.Advance a i = absurd i
brings event.Reopen a i = absurd i

-- where it stands in a history
pub record CameAt (history : List (Event Request)) (a : Asked Request) : Type 0 where
  pub before : List (Event Request)
  pub after : List (Event Request)
  pub member : ℕ
  pub whole : history ≡ before ++ event.Call member (id_in a) a.call a.now ∷ after

pub came_at : (history : List (Event Request)) (a : Asked Request) → In a (arrived history) → CameAt history a
came_at [] a i = absurd i
came_at (e ∷ es) a i = ⊎_elim here (λ j. later (came_at es a j)) (in_cases a (asked_by (event_of e)) (arrived es) i)
  where
    here : In a (asked_by (event_of e)) → CameAt (e ∷ es) a
    here j = let b = brings e a j in record { before = []; after = es; member = b.member; whole = ap (λ x. x ∷ es) b.is }

    later : CameAt es a → CameAt (e ∷ es) a
    later f = record { before = e ∷ f.before; after = f.after; member = f.member; whole = ap (λ xs. e ∷ xs) f.whole }

-- a call of the history arrives with it
pub call_arrives : (history : List (Event Request)) (member : ℕ) (id : CallId) (request : Request) (now : ℕ) → In (event.Call member id request now) history → In (asked_in id request now) (arrived history)
call_arrives [] member id request now i = absurd i
call_arrives (e ∷ es) member id request now (inl s) = subst (λ (x : Event Request). In (asked_in id request now) (arrived (x ∷ es))) (sym s) (inl refl)
call_arrives (e ∷ es) member id request now (inr i) = in_right (asked_in id request now) (asked_by (event_of e)) (arrived es) (call_arrives es member id request now i)

pub arrived_append : (before after : List (Event Request)) → arrived (before ++ after) ≡ arrived before ++ arrived after
arrived_append [] after = refl
arrived_append (e ∷ es) after = ap (λ xs. asked_by (event_of e) ++ xs) (arrived_append es after) ∙ sym (append_assoc (asked_by (event_of e)) (arrived es) (arrived after))
