-- How a session of a new grid stands.
use Rattle.std.proofs.Common.{◌≡◌, ℕ, zero, suc, ◌+◌, ◌*◌, ◌<◌, List, [], ◌∷◌, Option, Some, None, slice_get, length, map, refl, sym, ap, ◌∙◌, subst, arith}
use Rattle.grid_base.specs.declared.calls.Request.{Request}
use Rattle.hand_cell.specs.declared.cell.Cell.{Cell}
use Rattle.hand_cell.specs.Calls.{first_pass}
use Rattle.hand_cell.specs.Told.{Told}
use Rattle.job_queues.specs.Tokens.{Token}
use Rattle.live_grid.specs.Histories.{live_key}
use Rattle.live_grid.specs.declared.plan.GridPlan.{GridPlan}
use Rattle.live_grid.specs.declared.world.LiveWorld.{LiveWorld}
use Rattle.live_session.specs.Connections.{IsFresh}
use Rattle.partition_threads.specs.declared.workplace.Workplace.{Workplace}
use Rattle.partition_threads.specs.Workplaces.{IsTokenAt}
use Rattle.partition_world.specs.declared.event.Event.{Event}
use Rattle.partition_world.specs.declared.event.Happened.{Happened}
use Rattle.session_calls.specs.declared.session.SessionPass.{SessionPass}
use Rattle.server_tests.specs.Sessions.{AreTokensOfMember, none_seen}

abbrev pub Place : Type 0
Place = Workplace LiveWorld GridPlan (Event Request) Happened

same_some : {A : Type 0} (a b : A) → ◌≡◌ {A = Option A} (Some a) (Some b) → a ≡ b
same_some a b e = cc

none_some : {A : Type 0} (a : A) → ◌≡◌ {A = Option A} None (Some a) → ⊥
none_some a e = cc

module _ {T P E O : Type 0} where
  -- the first passes of the cells, as a session keeps them
  abbrev places : List (Cell T P E O) → List (Option (Told E))
  places cells = map (λ (pass : Told E). Some pass) (map (λ (cell : Cell T P E O). first_pass cell) cells)

  as_many : (cells : List (Cell T P E O)) → length (places cells) ≡ length cells
  as_many [] = refl
  as_many (cell ∷ cells) = ap suc (as_many cells)

  -- each is of its cell
  of_cells : (cells : List (Cell T P E O)) (at : ℕ) (pass : Told E) → slice_get (places cells) at ≡ Some (Some pass)
      → slice_get (map (λ (cell : Cell T P E O). cell.table.shared.table_id) cells) at ≡ Some pass.table
  of_cells [] at pass there = absurd (none_some (Some pass) there)
  of_cells (cell ∷ cells) zero pass there = ap (λ (p : Told E). Some p.table) (same_some (first_pass cell) pass (same_some (Some (first_pass cell)) (Some pass) there))
  of_cells (cell ∷ cells) (suc at) pass there = of_cells cells at pass there

  -- there is one at each place
  first_at : (cells : List (Cell T P E O)) (at : ℕ) → at < length (places cells) → (cell : Cell T P E O) × (slice_get (places cells) at ≡ Some (Some (first_pass cell)))
  first_at [] at within = absurd (omega arith)
  first_at (cell ∷ cells) zero within = (cell, refl)
  first_at (cell ∷ cells) (suc at) within = first_at cells at (omega arith)

module _ (place : Place) where
  pub four_tokens : (a b c d : Token GridPlan) → IsTokenAt place 8 a → IsTokenAt place 9 b → IsTokenAt place 10 c → IsTokenAt place 11 d
      → (tokens : List (Token GridPlan)) → tokens ≡ a ∷ b ∷ c ∷ d ∷ [] → AreTokensOfMember place 2 tokens
  four_tokens a b c d at_a at_b at_c at_d tokens are = record {
    four = ap length are;
    each = λ thread token there. each thread token (subst (λ (l : List (Token GridPlan)). slice_get l thread ≡ Some token) are there);
  }
    where
      each : (thread : ℕ) (token : Token GridPlan) → slice_get (a ∷ b ∷ c ∷ d ∷ []) thread ≡ Some token → IsTokenAt place (4 * 2 + thread) token
      each zero t e = subst (IsTokenAt place 8) (same_some a t e) at_a
      each (suc zero) t e = subst (IsTokenAt place 9) (same_some b t e) at_b
      each (suc (suc zero)) t e = subst (IsTokenAt place 10) (same_some c t e) at_c
      each (suc (suc (suc zero))) t e = subst (IsTokenAt place 11) (same_some d t e) at_d
      each (suc (suc (suc (suc thread)))) t e = absurd (none_some t e)

  pub new_session : (passes : List (Told (Event Request))) → passes ≡ map (λ cell. first_pass cell) place.cells.items
      → (session : SessionPass LiveWorld GridPlan (Event Request) Happened) → session.member ≡ 2 → session.passes.items ≡ map (λ pass. Some pass) passes
      → AreTokensOfMember place 2 session.tokens.items → IsFresh live_key place session none_seen
  new_session passes are session member kept tokens =
      let items : session.passes.items ≡ places place.cells.items = kept ∙ ap (λ (l : List (Told (Event Request))). map (λ (pass : Told (Event Request)). Some pass) l) are in
      record {
        of_place = record {
          each = ap length items ∙ as_many place.cells.items;
          passes = λ at pass there. of_cells place.cells.items at pass (subst (λ (l : List (Option (Told (Event Request)))). slice_get l at ≡ Some (Some pass)) items there);
          four = tokens.four;
          tokens = λ thread token there. subst (λ (m : ℕ). IsTokenAt place (4 * m + thread) token) (sym member) (tokens.each thread token there);
        };
        passes = λ at within here.
            let found = first_at place.cells.items at (subst (λ (n : ℕ). at < n) (ap length items) within) in
            record {
              pass = first_pass found.0;
              there = ap (λ (l : List (Option (Told (Event Request)))). slice_get l at) items ∙ found.1;
              seen_is = refl;
              named = refl;
            };
        no_calls = λ at. tt;
      }
