-- How those leave whom one line makes leave: by what their member did as the line began with them.
use Rattle.std.proofs.Common.{◌≡◌, ◌≢◌, ℕ, zero, suc, ◌≤◌, ◌<◌, Bool, true, false, cond, not, ◌==◌, List, [], ◌∷◌, ◌++◌, map, filter, length, Option, Some, None, slice_get, slice_set, Contains, refl, ap, sym, ◌∙◌, subst, ◌⊎◌, ⊎_elim, inl, inr, arith}
use Rattle.grid_base.specs.Objects.{Object}
use Rattle.partition_protocol.specs.Node.{Node, settled}
use Rattle.partition_protocol.specs.Execution.{Reached, Executes, PartitionLost, WrongTarget, Migrating, reached, executing}
use Rattle.partition_protocol.specs.World as world
use Rattle.partition_protocol.specs.World.{World, map_or, is_live, pair_state}
use Rattle.partition_protocol.specs.Events.{Event, Call, Deliver, Lose, Repeat, Resend, Crash, Detect, BeginMove, BeginJoin, BeginHandover, Advance, Reopen, Happened, executes, happens, run}
use Rattle.partition_protocol.specs.Claims.{IsLawful}
use Rattle.partition_protocol.proofs.Lists.{In, in_left, in_right, in_cases, in_contains, contains_in, set_get_same, set_get_other}
use Rattle.partition_protocol.proofs.RowFacts.{number_cases}
use Rattle.partition_protocol.proofs.EventFacts.{call_executed}
use Rattle.waiting_protocol.specs.Machine.{Waiter, Waiting, Line, Asks, Waits, Clock, Closes, Terms, Fate, Stays, Runs, Starves, IsRefused, Leaves, fate_of, fate_in, fate, is_over, is_made, stirs, Gone, plain, event_if, gone_as, turn, gone_in, turned, gone, opened, goes, gone_by, after, start}
use Rattle.waiting_protocol.specs.Claims.{IsQuiet, IsItsTurn, IsAt, IsLineAt}
use Rattle.waiting_protocol.specs.LineClaims.{standing, IsBy, IsOfOneKind, EveryLineIsOfOneKind}
use Rattle.waiting_protocol.proofs.Turns.{turn_of}
use Rattle.waiting_protocol.proofs.Fates.{made_at}
use Rattle.waiting_protocol.proofs.Places.{every_leaver_is_of_its_line}

-- over variables

pub by_reached : (r : Reached) (b h : Bool) → is_over (fate_of r b h) ≡ true → IsBy (Some r) (fate_of r b h)
by_reached Executes true true e = refl
by_reached Executes true false e = refl
by_reached Executes false h e = absurd cc
by_reached (PartitionLost v) b h e = refl
by_reached (WrongTarget v) b h e = refl
by_reached (Migrating v) b h e = refl

abbrev pub says : ℕ → Option Node → Option Reached
says m r = map_or r None (λ (node : Node). Some (reached m node))

pub by_fate : (m : ℕ) (b : Bool) (r : Option Node) (c : Node → Bool) (h : Bool) → is_over (cond b (map_or r Leaves (λ (n : Node). fate_of (reached m n) (c n) h)) Leaves) ≡ true
    → IsBy (cond b (says m r) None) (cond b (map_or r Leaves (λ (n : Node). fate_of (reached m n) (c n) h)) Leaves)
by_fate m false r c h e = refl
by_fate m true None c h e = refl
by_fate m true (Some n) c h e = by_reached (reached m n) (c n) h e

-- an event or a line is at one member

pub event_one : {C : Type 0} (e : Event C) (a b : ℕ) → IsAt e a → IsAt e b → a ≡ b
event_one (Call m conn number call now) a b h k = sym h ∙ k
event_one (Deliver f t i) a b h k = sym h ∙ k
event_one (Lose f t i) a b h k = absurd h
event_one (Repeat f t i) a b h k = absurd h
event_one (Resend end) a b h k = absurd h
event_one (Crash m) a b h k = sym h ∙ k
event_one (Detect m) a b h k = absurd h
event_one (BeginMove from to) a b h k = absurd h
event_one (BeginJoin to) a b h k = absurd h
event_one (BeginHandover from to) a b h k = absurd h
event_one Advance a b h k = absurd h
event_one Reopen a b h k = absurd h

pub line_one : {C : Type 0} (l : Line C) (a b : ℕ) → IsLineAt l a → IsLineAt l b → a ≡ b
line_one (Asks e) a b h k = event_one e a b h k
line_one (Waits x) a b h k = sym h ∙ k
line_one (Clock m now) a b h k = sym h ∙ k
line_one (Closes c) a b h k = absurd h

-- turns

module _ {C State : Type 0} (o : Object C State) (t : Terms C) where
  pub fate_by : (w : World C) (now : ℕ) (x : Waiter C) → is_over (fate_in o t w now x) ≡ true → IsBy (standing w x.member) (fate_in o t w now x)
  fate_by w now x e = by_fate x.member (is_live w x.member) (slice_get w.nodes x.member) _ (t.starves x) e

  -- a call that is executed changes no member's standing
  pub call_stands : (w : World C) (m conn number : ℕ) (call : C) (now : ℕ) (n : Node) → is_live w m ≡ true → slice_get w.nodes m ≡ Some n → reached m n ≡ Executes
      → (k : ℕ) → standing (happens o w (Call m conn number call now)).world k ≡ standing w k
  call_stands w m conn number call now n lives at e k = ap (λ (h : Happened C). standing h.world k) (call_executed o w m conn number call now n lives at e) ∙ ap (λ z. cond (is_live w k) z None) (⊎_elim same other (number_cases k m))
    where
      after : Node
      after = settled (executing (o.changes (pair_state o w n.pair) call now) conn number n)

      same : k ≡ m → says k (slice_get (slice_set w.nodes m after) k) ≡ says k (slice_get w.nodes k)
      same s = subst (λ z. says z (slice_get (slice_set w.nodes m after) z) ≡ says z (slice_get w.nodes z)) (sym s) (ap (says m) (set_get_same w.nodes m after n at) ∙ sym (ap (says m) at))

      other : k ≢ m → says k (slice_get (slice_set w.nodes m after) k) ≡ says k (slice_get w.nodes k)
      other d = ap (says k) (set_get_other w.nodes m k after d)

  pub event_stands : (j : Waiting C) (x : Waiter C) (f : Fate) → fate o t j x ≡ f → (m : ℕ) → standing (run o j.world (event_if (plain x (j.clock x.member)) f)) m ≡ standing j.world m
  event_stands j x Stays e m = refl
  event_stands j x Runs e m = let s = made_at o t j.world (j.clock x.member) x Runs e refl in call_stands j.world x.member x.conn x.number x.call (j.clock x.member) s.1 s.0 s.2 s.3 m
  event_stands j x Starves e m = refl
  event_stands j x (IsRefused r) e m = refl
  event_stands j x Leaves e m = refl

  pub turn_stands : (j : Waiting C) (m : ℕ) → standing (turn o t j).world m ≡ standing j.world m
  turn_stands j m = ⊎_elim (λ s. ap (λ (k : Waiting C). standing k.world m) s.1) (λ s. busy s.0 s.1) (turn_of o t j)
    where
      busy : (x : Waiter C) → IsItsTurn o t j x → standing (turn o t j).world m ≡ standing j.world m
      busy x i = ap (λ (k : Waiting C). standing k.world m) i.left ∙ event_stands j x (fate o t j x) refl m

  pub turned_stands : (n : ℕ) (j : Waiting C) (m : ℕ) → standing (turned o t n j).world m ≡ standing j.world m
  turned_stands zero j m = refl
  turned_stands (suc n) j m = turned_stands n (turn o t j) m ∙ turn_stands j m

  pub gone_by_standing : (n : ℕ) (j : Waiting C) (g : Gone C) → In g (gone o t n j) → IsBy (standing j.world g.waiter.member) g.fate
  gone_by_standing zero j g i = absurd i
  gone_by_standing (suc n) j g i =
      ⊎_elim (λ a. now a (turn_of o t j)) (λ a. subst (λ z. IsBy z g.fate) (turn_stands j g.waiter.member) (gone_by_standing n (turn o t j) g a)) (in_cases g (gone_in o t j) (gone o t n (turn o t j)) i)
    where
      its : (x : Waiter C) → IsItsTurn o t j x → In g (gone_as o t j x ∷ []) → IsBy (standing j.world g.waiter.member) g.fate
      its x r (inl e) = subst (λ (z : Gone C). IsBy (standing j.world z.waiter.member) z.fate) e (fate_by j.world (j.clock x.member) x r.stirred)
      its x r (inr z) = absurd z

      now : In g (gone_in o t j) → (IsQuiet o t j × (turn o t j ≡ j) × (gone_in o t j ≡ [])) ⊎ ((x : Waiter C) × IsItsTurn o t j x) → IsBy (standing j.world g.waiter.member) g.fate
      now a (inl s) = absurd (subst (In g) s.2 a)
      now a (inr (x, r)) = its x r (subst (In g) r.gone a)

pub every_line_is_of_one_kind : {C State : Type 0} (o : Object C State) → EveryLineIsOfOneKind o
every_line_is_of_one_kind {C} o t p n b lines l some law = record {
  by = λ g c. (place g c, gone_by_standing o t (length u.waiters) u g (in_contains g (gone_by o t j l) c));
  alike = λ g h c d. line_one l g.waiter.member h.waiter.member (place g c) (place h d);
  stays = turned_stands o t (length u.waiters) u;
}
  where
    j : Waiting C
    j = after o t (start p n b) lines

    u : Waiting C
    u = opened o j l

    place : (g : Gone C) → Contains (gone_by o t j l) g → IsLineAt l g.waiter.member
    place g c = every_leaver_is_of_its_line o t p n b lines l g some law c
