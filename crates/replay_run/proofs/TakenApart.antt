-- A line that is taken apart: what events that are taken one by one add to a run.
use Rattle.std.proofs.Common.{◌≡◌, ◌≢◌, ℕ, zero, suc, ◌+◌, ◌≤◌, List, length, refl, ◌∙◌, arith, length-append}
use Rattle.grid_base.specs.Objects.{Object}
use Rattle.grid_base.specs.declared.calls.Request.{Request}
use Rattle.grid_base.specs.declared.names.CallId.{CallId}
use Rattle.object_store.specs.Partitions.{Partition}
use Rattle.partition_protocol.specs.Events.{Event, Outcome, RowMadeAt, happens}
use Rattle.partition_protocol.specs.Events as event
use Rattle.replay_run.specs.Runs.{Run, events_at, world_at, given_up, reopening_by, takes}
use Rattle.replay_run.specs.WorldCalls.{HasRoomAt}
use Rattle.replay_run.proofs.Turns.{by_endings, takes_keeps}
use Rattle.replay_run.proofs.EventRuns.{Kept, kept_refl, kept_trans, Adds, NoFewer, takes_kept, takes_few, takes_elsewhere, takes_come, one_turn}

-- No partition has more than so many events more, beside those of calls that waited, and there are no more than so many reopenings more.
pub record TakesFew (most reopens : ℕ) (r next : Run) : Type 0 where
  pub kept : Kept r next
  pub few : (q : ℕ) → Adds q most r next
  pub reopened : length next.reopened ≤ length r.reopened + reopens

pub few_none : (r : Run) → TakesFew 0 0 r r
few_none r = record { kept = kept_refl r; few = λ q. omega arith; reopened = omega arith }

pub few_given_up : (r : Run) → TakesFew 0 0 r (given_up r)
few_given_up r = record {
  kept = record { members = refl; backups = refl; lines = refl; moments = refl; connections = refl; calls = omega arith };
  few = λ q. omega arith;
  reopened = omega arith;
}

pub few_wider : {a b c d : ℕ} {r next : Run} → a ≤ c → b ≤ d → TakesFew a b r next → TakesFew c d r next
few_wider more wider h = record {
  kept = h.kept;
  few = λ q. (let few = h.few q in omega (arith, few, more));
  reopened = let reopened = h.reopened in omega (arith, reopened, wider);
}

pub few_both : {a b c d : ℕ} {r mid next : Run} → TakesFew a b r mid → TakesFew c d mid next → TakesFew (a + c) (b + d) r next
few_both g h = record {
  kept = kept_trans g.kept h.kept;
  few = λ q. (let first = g.few q in let then = h.few q in omega (arith, first, then));
  reopened = let first = g.reopened in let then = h.reopened in omega (arith, first, then);
}

-- Where a partition may have so many events, it may still have those that weren't taken yet.
pub room_after : {taken reopens : ℕ} {r next : Run} → TakesFew taken reopens r next → (p more : ℕ) → HasRoomAt r p (taken + more) → HasRoomAt next p more
room_after h p more room = let few = h.few p in let calls = h.kept.calls in omega (arith, few, calls, room)

-- All of them are of this partition.
pub record TakesFewIn (p most reopens : ℕ) (r next : Run) : Type 0 where
  pub few : TakesFew most reopens r next
  pub come : NoFewer r next
  pub elsewhere : (q : ℕ) → q ≢ p → events_at q next.events ≡ events_at q r.events

pub few_in_none : (p : ℕ) (r : Run) → TakesFewIn p 0 0 r r
few_in_none p r = record { few = few_none r; come = omega arith; elsewhere = λ q other. refl }

pub few_in_given_up : (p : ℕ) (r : Run) → TakesFewIn p 0 0 r (given_up r)
few_in_given_up p r = record { few = few_given_up r; come = omega arith; elsewhere = λ q other. refl }

pub few_in_wider : {p a b c d : ℕ} {r next : Run} → a ≤ c → b ≤ d → TakesFewIn p a b r next → TakesFewIn p c d r next
few_in_wider more wider h = record { few = few_wider more wider h.few; come = h.come; elsewhere = h.elsewhere }

pub few_in_both : {p a b c d : ℕ} {r mid next : Run} → TakesFewIn p a b r mid → TakesFewIn p c d mid next → TakesFewIn p (a + c) (b + d) r next
few_in_both g h = record {
  few = few_both g.few h.few;
  come = let first = g.come in let then = h.come in omega (arith, first, then);
  elsewhere = λ q other. h.elsewhere q other ∙ g.elsewhere q other;
}

-- one event

-- An event makes one reopening at most.
pub one_reopening : (p line : ℕ) (e : Event Request) (outcome : Outcome) → length (reopening_by p line e outcome) ≤ 1
one_reopening p line event.Reopen (RowMadeAt version) = omega arith
one_reopening p line e outcome = omega arith

module _ (o : Object Request Partition) (skips : List CallId) (r : Run) (p : ℕ) where
  abbrev HasReopened : ℕ → Run → Type 0
  HasReopened reopens next = length next.reopened ≤ length r.reopened + reopens

  takes_so : (e : Event Request) (reopens : ℕ) → length (reopening_by p r.lines e (happens o (world_at o r p) e).outcome) ≤ reopens → TakesFewIn p 1 reopens r (takes o skips r p e)
  takes_so e reopens so_many =
      let its = reopening_by p r.lines e (happens o (world_at o r p) e).outcome in
      let both = length-append r.reopened its in
      record {
        few = record {
          kept = takes_kept o skips r p e;
          few = takes_few o skips r p e;
          reopened = takes_keeps o skips p (HasReopened reopens) (by_endings o skips p (HasReopened reopens) (λ x h. h) (λ x w events appended i made here h. h)) r e (omega arith) (omega (arith, both, so_many));
        };
        come = takes_come o skips r r p e (omega arith);
        elsewhere = takes_elsewhere o skips r p e;
      }

  pub takes_one : (e : Event Request) → TakesFewIn p 1 1 r (takes o skips r p e)
  takes_one e = takes_so e 1 (one_reopening p r.lines e (happens o (world_at o r p) e).outcome)

  -- A delivery reopens nothing.
  pub takes_delivery : (from to place : ℕ) → TakesFewIn p 1 0 r (takes o skips r p (event.Deliver from to place))
  takes_delivery from to place = takes_so (event.Deliver from to place) 0 (omega arith)

-- Partition after partition, each takes so many at most, and reopens nothing.
module _ (now : ℕ → Run) (most : ℕ) (turn : (n : ℕ) → TakesFewIn n most 0 (now n) (now (suc n))) where
  turns_kept : (n : ℕ) → Kept (now 0) (now n)
  turns_kept zero = kept_refl (now 0)
  turns_kept (suc n) = kept_trans (turns_kept n) (turn n).few.kept

  turns_reopened : (n : ℕ) → length (now n).reopened ≤ length (now 0).reopened + 0
  turns_reopened zero = omega arith
  turns_reopened (suc n) = let before = turns_reopened n in let one = (turn n).few.reopened in omega (arith, before, one)

  pub flows_in_order : (n : ℕ) → TakesFew most 0 (now 0) (now n)
  flows_in_order n = record {
    kept = turns_kept n;
    few = λ q. one_turn now q (λ k. (turn k).elsewhere q) (λ k. (turn k).come) most (λ k. (turn k).few.few q) n;
    reopened = turns_reopened n;
  }
