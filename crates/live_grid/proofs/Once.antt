-- A call whose key no event of a history has is named once in the list with it.
use Rattle.std.proofs.Common.{◌≡◌, ◌≢◌, List, [], ◌∷◌, ◌++◌, map, sym, ap, ◌∙◌, subst, inl, inr, append-nil}
use Rattle.grid_base.specs.declared.names.CallId.{CallId}
use Rattle.grid_base.specs.declared.calls.Request.{Request}
use Rattle.hand_cell.specs.declared.names.Key.TheVariants as key
use Rattle.hand_cell.specs.Names.{Lacks, IsNew}
use Rattle.partition_protocol.specs.Arrivals.{CallName, NamedOnce, arrivals, asked_by, name}
use Rattle.partition_protocol.specs.Events as protocol
use Rattle.partition_protocol.proofs.Lists.{In, in_contains}
use Rattle.partition_protocol.proofs.Answers.{map_append, once_append}
use Rattle.partition_world.specs.declared.event.Event.{Event}
use Rattle.partition_world.specs.declared.event.Event.TheVariants as event
use Rattle.partition_world.specs.Events.{event_of}
use Rattle.partition_world.proofs.HeldAnswers.{arrivals_more}
use Rattle.live_grid.specs.Histories.{live_key}
use Rattle.live_grid.specs.Outcomes.{name_of}

-- the names of the calls of a history
abbrev pub names : List (Event Request) → List CallName
names history = map name (arrivals (map event_of history))

pub not_named : (id : CallId) (history : List (Event Request)) → Lacks live_key (key.Call id) history → In (name_of id) (names history) → ⊥
not_named id [] lacks i = i
not_named id (event.Call member called call now ∷ es) lacks (inl e) = lacks.0 (ap (λ (n : CallName). key.Call (record { conn = n.conn; number = n.number })) e)
not_named id (event.Call member called call now ∷ es) lacks (inr i) = not_named id es lacks.1 i
not_named id (event.Deliver from to place ∷ es) lacks i = not_named id es lacks.1 i
not_named id (event.Lose from to place ∷ es) lacks i = not_named id es lacks.1 i
not_named id (event.Repeat from to place ∷ es) lacks i = not_named id es lacks.1 i
not_named id (event.Resend end ∷ es) lacks i = not_named id es lacks.1 i
not_named id (event.Crash member ∷ es) lacks i = not_named id es lacks.1 i
not_named id (event.Detect member ∷ es) lacks i = not_named id es lacks.1 i
not_named id (event.BeginMove from to ∷ es) lacks i = not_named id es lacks.1 i
not_named id (event.BeginJoin to ∷ es) lacks i = not_named id es lacks.1 i
not_named id (event.BeginHandover from to ∷ es) lacks i = not_named id es lacks.1 i
not_named id (event.Advance ∷ es) lacks i = not_named id es lacks.1 i
not_named id (event.Reopen ∷ es) lacks i = not_named id es lacks.1 i

pub names_more : (history : List (Event Request)) (e : protocol.Event Request) → map name (arrivals (map event_of history ++ e ∷ [])) ≡ names history ++ map name (asked_by e)
names_more history e = ap (map name) (arrivals_more (map event_of history) e) ∙ map_append name (arrivals (map event_of history)) (asked_by e)

no_more : (ns ms : List CallName) → ms ≡ ns ++ [] → NamedOnce ns → NamedOnce ms
no_more ns ms e once = subst NamedOnce (sym (e ∙ append-nil ns)) once

pub still_once : (history : List (Event Request)) (e : Event Request) → NamedOnce (names history) → IsNew live_key history e → NamedOnce (map name (arrivals (map event_of history ++ event_of e ∷ [])))
still_once history e once new = go e new (names_more history (event_of e))
  where
    go : (x : Event Request) → IsNew live_key history x → map name (arrivals (map event_of history ++ event_of x ∷ [])) ≡ names history ++ map name (asked_by (event_of x)) → NamedOnce (map name (arrivals (map event_of history ++ event_of x ∷ [])))
    go (event.Call member id call now) new is = subst NamedOnce (sym is) (once_append (names history) (name_of id ∷ []) once ((λ m c. absurd (in_contains m [] c)), tt) apart)
      where
        apart : (a b : CallName) → In a (names history) → In b (name_of id ∷ []) → a ≢ b
        apart a b i (inl e) same = not_named id history new (subst (λ n. In n (names history)) (same ∙ sym e) i)
        apart a b i (inr j) same = j
    go (event.Deliver from to place) new is = no_more (names history) _ is once
    go (event.Lose from to place) new is = no_more (names history) _ is once
    go (event.Repeat from to place) new is = no_more (names history) _ is once
    go (event.Resend end) new is = no_more (names history) _ is once
    go (event.Crash member) new is = no_more (names history) _ is once
    go (event.Detect member) new is = no_more (names history) _ is once
    go (event.BeginMove from to) new is = no_more (names history) _ is once
    go (event.BeginJoin to) new is = no_more (names history) _ is once
    go (event.BeginHandover from to) new is = no_more (names history) _ is once
    go event.Advance new is = no_more (names history) _ is once
    go event.Reopen new is = no_more (names history) _ is once
