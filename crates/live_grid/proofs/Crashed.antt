-- A member that takes no steps has crashed.
use Rattle.std.proofs.Common.{◌≡◌, ℕ, ◌<◌, true, false, nat_lt, List, [], ◌∷◌, Contains, sym, subst, ◌⊎◌, ⊎_elim, inl, inr}
use Rattle.partition_table.specs.Rows.{is_among}
use Rattle.grid_base.specs.Objects.{Object}
use Rattle.partition_protocol.specs.World.{World, start, is_live}
use Rattle.partition_protocol.specs.Events.{Event, Crash, happens, run}
use Rattle.partition_protocol.proofs.Lists.{In, contains_in}
use Rattle.partition_protocol.proofs.RowFacts.{in_among, is_less, true_or_not}
use Rattle.partition_protocol.proofs.EventCases.{EventCases, every_event}
use Rattle.partition_protocol.proofs.WellFormed.{every_run_is_well_formed}

module _ {C State : Type 0} (o : Object C State) (m : ℕ) where
  -- who has crashed after an event had before, or crashed by it
  abbrev Crashes : World C → Event C → World C → Type 0
  Crashes w e u = In m u.crashed → In m w.crashed ⊎ (e ≡ Crash m)

  crash_cases : (w : World C) → EventCases o w (Crashes w)
  crash_cases w = record {
    stays = λ e h i. inl i;
    loses = λ f t p q at i. inl i;
    drops = λ f t p q at d i. inl i;
    repeats = λ f t p q at i. inl i;
    tells_again = λ i. inl i;
    sends_again = λ k n at l p i. inl i;
    crashes = λ k l. crashed k;
    detects = λ k b a d r i. inl i;
    notes = λ k b a d r i. inl i;
    begins = λ e s to j r h i. inl i;
    hands_over = λ f t h i. inl i;
    freezes = λ f t v p i. inl i;
    leaves = λ f t v p i. inl i;
    hands = λ f t v i. inl i;
    reopens = λ r i. inl i;
    joins = λ f t p q v k at to msg i. inl i;
    drains = λ f t p q v at to msg i. inl i;
    delivers = λ f t p q n at there l i. inl i;
    calls = λ k conn number call now n at l a p f i. inl i;
  }
    where
      crashed : (k : ℕ) → In m (k ∷ w.crashed) → In m w.crashed ⊎ (◌≡◌ {A = Event C} (Crash k) (Crash m))
      crashed k (inl e) = inr (let same : k ≡ m = e in cc)
      crashed k (inr i) = inl i

  run_crashes : (w : World C) (es : List (Event C)) → In m (run o w es).crashed → In m w.crashed ⊎ In (Crash m) es
  run_crashes w [] i = inl i
  run_crashes w (e ∷ es) i = go (run_crashes (happens o w e).world es i)
    where
      first : In m (happens o w e).world.crashed → In m w.crashed ⊎ In (Crash m) (e ∷ es)
      first j = ⊎_elim (λ (k : In m w.crashed). inl k) (λ (z : e ≡ Crash m). inr (inl z)) (every_event o w (Crashes w) (crash_cases w) e j)

      go : In m (happens o w e).world.crashed ⊎ In (Crash m) es → In m w.crashed ⊎ In (Crash m) (e ∷ es)
      go (inl j) = first j
      go (inr j) = inr (inr j)

  pub gone_by_crash : (partition members backups : ℕ) (events : List (Event C)) → m < members → is_live (run o (start partition members backups) events) m ≡ false → Contains events (Crash m)
  gone_by_crash partition members backups events below dead = contains_in (Crash m) events (⊎_elim (λ i. absurd i) (λ (i : In (Crash m) events). i) (run_crashes opening events (in_among w.crashed m crashed)))
    where
      opening : World C
      opening = start partition members backups

      w : World C
      w = run o opening events

      member : nat_lt m w.members ≡ true
      member = is_less m w.members (subst (λ n. m < n) (sym (every_run_is_well_formed o partition members backups events).same_members) below)

      crashed : is_among w.crashed m ≡ true
      crashed = true_or_not (is_among w.crashed m) (λ z. absurd (cc (rw (member, z) at dead)))
