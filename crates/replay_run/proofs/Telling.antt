-- The grid after a session's own answer was appended to its connection.
use Rattle.std.proofs.Common.{◌≡◌, ℕ, ◌+◌, List, [], ◌∷◌, ◌++◌, Some, None, refl, ap, sym, ◌∙◌, subst, inl, inr, append-nil}
use Rattle.replay_run.specs.declared.grid.Grid.{Grid}
use Rattle.call_engine.specs.Calls.{Settings}
use Rattle.partition_protocol.proofs.Lists.{In}
use Rattle.replay_run.specs.Runs.{Run, Appended, own_answer, told}
use Rattle.replay_run.specs.Tables.{with_reply}
use Rattle.replay_run.specs.Grids.{FormOf, IsCounting, AreListening, Holds}
use Rattle.replay_run.specs.WorldCalls.{HasTold}
use Rattle.replay_run.proofs.LineTexts.{new_with}
use Rattle.replay_run.proofs.TableRuns.{told_table}
use Rattle.replay_run.proofs.TableCounts.{counting_told}
use Rattle.replay_run.proofs.Tallies.{quiet_tally}
use Rattle.replay_run.proofs.WaiterLists.{waiters_alike}
use Rattle.replay_run.specs.LineTold.{message_told, all_told}
use Rattle.line_told.specs.declared.told.Told.{Told}

module _ {V : Type 0} {T : V → Type 0} {form : FormOf V T} {settings : Settings} (grid : Grid V T) (r : Run) (conn number : ℕ) (answer : List ℕ) (h : Holds form settings grid r) (are : AreListening grid.listeners.items r (Some conn)) (count : IsCounting grid.connections r conn number) where
  abbrev replied_grid : Grid V T
  replied_grid = record grid { connections = with_reply grid.connections conn }

  -- it refuses no call
  refuses_none : (m : Appended) → In m (own_answer r.lines conn answer ∷ []) → m.refuses ≡ None
  refuses_none m (inl e) = ap (λ (n : Appended). n.refuses) (sym e)
  refuses_none m (inr i) = absurd i

  told_holds : Holds form settings replied_grid (told r conn answer)
  told_holds = record {
    goes_by = h.goes_by;
    goes_on = h.goes_on;
    lines = h.lines;
    members = h.members;
    links = h.links;
    moments = h.moments;
    clocks = h.clocks;
    table = told_table grid.connections r conn answer h.table;
    waiters = waiters_alike grid.waiters r (told r conn answer) refl refl h.waiters;
    tally = quiet_tally grid.tally r (told r conn answer) (own_answer r.lines conn answer ∷ []) refl refl refl refuses_none h.tally;
    reopened = h.reopened;
    worlds = λ p low. let w = h.worlds p low in record { world = w.world; there = w.there; is = record { stands = w.is.stands; setup = w.is.setup }; given = w.given };
  }

  pub has_told : (new : Grid V T) (earlier later : List Told) → new ≡ record grid { connections = with_reply grid.connections conn } → later ≡ earlier ++ message_told (own_answer grid.lines conn answer)
      → HasTold form settings new r conn number answer earlier later
  has_told new earlier later made is = record {
    holds = subst (λ g. Holds form settings g (told r conn answer)) (sym made) told_holds;
    listeners = subst (λ (g : Grid V T). AreListening g.listeners.items (told r conn answer) (Some conn)) (sym made) (record { size = are.size; each = are.each });
    counting = subst (λ (g : Grid V T). IsCounting g.connections (told r conn answer) conn (number + 1)) (sym made)
        (let counting = counting_told grid.connections r conn number count in record { here = counting.here; others = counting.others });
    added = is ∙ ap (λ n. earlier ++ message_told (own_answer n conn answer)) h.lines
        ∙ ap (λ xs. earlier ++ xs) (sym (ap all_told (new_with r (told r conn answer) (own_answer r.lines conn answer ∷ []) refl) ∙ append-nil (message_told (own_answer r.lines conn answer))));
  }
