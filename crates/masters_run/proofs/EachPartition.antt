-- A line that asks for the same in each partition: it is asked in one after the other, finds room in each, and behind the last one the line ran; or in one of them it is given up.
use Rattle.std.proofs.Common.{◌≡◌, ℕ, ◌+◌, ◌<◌, ◌≤◌, true, List, [], ◌∷◌, ◌++◌, length, refl, ap, ◌∙◌, subst, arith}
use Rattle.grid_base.specs.Objects.{Object}
use Rattle.grid_base.specs.declared.names.CallId.{CallId}
use Rattle.grid_base.specs.declared.calls.Request.{Request}
use Rattle.object_store.specs.Partitions.{Partition}
use Rattle.call_engine.specs.Calls.{Settings}
use Rattle.call_engine.specs.Objects.{partition_object}
use Rattle.masters_protocol.specs.Members.{Outcome}
use Rattle.masters_world.specs.Machine.{Line, asked_by, masters_say}
use Rattle.script_lang.specs.Limits.{most_lines}
use Rattle.script_lang.specs.declared.line.Line.{Line as ScriptLine}
use Rattle.line_told.specs.declared.told.Told.{Told}
use Rattle.replay_run.specs.Runs.{partitions, next_line}
use Rattle.replay_run.specs.Grids.{FormOf}
use Rattle.replay_run.proofs.LineEnds.{line_has_room}
use Rattle.replay_run.proofs.TakenApart.{TakesFew}
use Rattle.masters_run.specs.declared.grid.RuledGrid.{RuledGrid}
use Rattle.masters_run.specs.Runs.{RuledRun, has_masters, masters_at, ruled_at, counted}
use Rattle.masters_run.specs.AfterLines.{ruled_line}
use Rattle.masters_run.specs.LineTold.{ruled_told}
use Rattle.masters_run.specs.Grids.{Stands, HasRun, IsGivenUp}
use Rattle.masters_run.specs.Steps.{MayAsk, GivesUp, going}
use Rattle.masters_run.proofs.Coming.{AllHaveCome, ruled_come, counted_come}
use Rattle.masters_run.proofs.Crashing.{some_more}
use Rattle.masters_run.proofs.FewEvents.{through_few}
use Rattle.masters_run.proofs.Going.{through_count}
use Rattle.masters_run.proofs.LineParts.{with_masters, told_with_masters, line_ran, line_given_up}
use Rattle.masters_run.proofs.Loops.{HasGoneIn, going_in, following_in, gives_up_in}
use Rattle.masters_run.proofs.RuledRuns.{AsksNoCall}

module _ {V : Type 0} {T : V → Type 0} {form : FormOf V T} {settings : Settings} (all : RuledGrid V T) (s : RuledRun) (stands : Stands form settings all s) (ruled : has_masters s ≡ true) (l : Line Request) where
  abbrev o : Object Request Partition
  o = partition_object settings

  whole : length s.masters ≡ partitions
  whole = stands.masters.ruled ruled

  come : AllHaveCome s.run.members (counted s)
  come =
      let first = stands.masters.each ruled 0 (omega arith) in
      counted_come o [] s.run.members s (ruled_come o s (record {
        count = whole;
        some = subst (λ n. 1 ≤ n) first.are.size first.are.stands.some;
        most = stands.masters.most;
        lines = λ p low. (stands.masters.each ruled p low).are.lines;
        stands = λ p low. (stands.masters.each ruled p low).are.of_lines;
      }))

  few : (k : List CallId) (n : ℕ) → TakesFew n n (next_line s.run) (going_in settings (counted s) l n k).run
  few k n = through_few o k s.run.members (counted s) l come n

  pub lines_then : (k : List CallId) (n : ℕ) → (going_in settings (counted s) l n k).run.lines ≡ s.run.lines + 1
  lines_then k n = (few k n).kept.lines

  module _ (mid : RuledGrid V T) (n : ℕ) (low : n < partitions) (earlier so_far : List Told) (a : HasGoneIn form settings mid (counted s) l n earlier so_far) where
    abbrev gone : RuledRun
    gone = going_in settings (counted s) l n a.skips

    -- It may be asked in the next one.
    pub may_ask_next : s.run.lines + 1 ≤ most_lines → MayAsk form mid n
    may_ask_next limit =
        let count = through_count o a.skips (counted s) l n in
        let size = whole in
        record {
          settings = settings;
          run = gone;
          amid = a.amid;
          ruled = some_more gone.masters (omega (arith, count, size));
          placed = low;
          room = line_has_room all.grid s.run stands.grid limit gone.run n n (few a.skips n) n 1 (omega (arith, low));
        }

    -- or it is given up there
    pub up_next : AsksNoCall l → (line : ScriptLine) → ((k : List CallId) → ruled_line o k s line ≡ going_in settings (counted s) l partitions k) → GivesUp gone (going settings gone n l) → IsGivenUp settings s line
    up_next quiet line after b =
        line_given_up all s stands line (going_in settings (counted s) l partitions) (λ k. with_masters o k s line ruled ∙ after k)
        (gives_up_in settings (counted s) l quiet mid mid n earlier so_far a partitions low b)

  pub at_last : {new : RuledGrid V T} {n : ℕ} {start later : List Told} → n ≡ partitions → HasGoneIn form settings new (counted s) l n start later → HasGoneIn form settings new (counted s) l partitions start later
  at_last {new = new} {start = start} {later = later} last a = subst (λ k. HasGoneIn form settings new (counted s) l k start later) last a

  -- It was asked in all of them.
  module _ (limit : s.run.lines + 1 ≤ most_lines) (line : ScriptLine) (after : (k : List CallId) → ruled_line o k s line ≡ going_in settings (counted s) l partitions k) (new : RuledGrid V T) where
    -- what followed stands behind the outcome
    pub in_all_ran : (start said : List Told) (on : HasGoneIn form settings new (counted s) l partitions start said) (outcome earlier later : List Told)
        → ruled_told settings on.skips s line (going_in settings (counted s) l partitions on.skips) ≡ outcome ++ following_in settings (counted s) l partitions on.skips → start ≡ [] → later ≡ earlier ++ outcome ++ said
        → HasRun form settings new s line earlier later
    in_all_ran start said on outcome earlier later its none is =
        line_ran all s stands limit new line (going_in settings (counted s) l partitions) (following_in settings (counted s) l partitions) start said on (with_masters o on.skips s line ruled ∙ after on.skips)
        partitions partitions (few on.skips partitions) (omega arith) (omega arith) outcome earlier later
        (told_with_masters settings on.skips s line (going_in settings (counted s) l partitions on.skips) ruled ∙ its) none is

    -- the same, where it was added to that at once
    pub in_all_ran_on : (start later : List Told) (on : HasGoneIn form settings new (counted s) l partitions start later) (outcome earlier : List Told)
        → ruled_told settings on.skips s line (going_in settings (counted s) l partitions on.skips) ≡ outcome ++ following_in settings (counted s) l partitions on.skips → start ≡ earlier ++ outcome → HasRun form settings new s line earlier later
    in_all_ran_on start later on outcome earlier its began =
        let said = following_in settings (counted s) l partitions on.skips in
        in_all_ran [] said (record { skips = on.skips; own = on.own; amid = on.amid; added = refl }) outcome earlier later its refl (on.added ∙ ap (λ xs. xs ++ said) began)

-- What the masters of the first partition say is what those said that were asked first.
pub first_says : (settings : Settings) (s : RuledRun) (l : Line Request) (n : ℕ) (k : List CallId) (answer : Outcome) → n ≡ 0
    → masters_say (masters_at (going_in settings (counted s) l n k) n) (asked_by (ruled_at (partition_object settings) (going_in settings (counted s) l n k) n) l) ≡ answer ∷ []
    → masters_say (masters_at s 0) (asked_by (ruled_at (partition_object settings) s 0) l) ≡ answer ∷ []
first_says settings s l n k answer first says =
    subst (λ i. masters_say (masters_at (going_in settings (counted s) l i k) i) (asked_by (ruled_at (partition_object settings) (going_in settings (counted s) l i k) i) l) ≡ answer ∷ []) first says
