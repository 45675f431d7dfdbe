-- Each message that a line of a grid without masters appends stands in the line's text.
use Rattle.std.proofs.Common.{◌≡◌, ℕ, Bool, true, false, not, cond, List, [], ◌∷◌, ◌++◌, length, drop, Option, Some, None, refl, ap, sym, ◌∙◌, subst, ◌⊎◌, ⊎_elim, inl, inr, append_assoc, append-nil}
use Rattle.std.proofs.Math.Seq.{drop-append_seam}
use Rattle.std.specs.List.{flat_map}
use Rattle.grid_base.specs.Objects.{Object}
use Rattle.grid_base.specs.declared.names.CallId.{CallId}
use Rattle.grid_base.specs.declared.calls.Request.{Request}
use Rattle.partition_protocol.proofs.Lists.{In, in_cases, cases}
use Rattle.object_store.specs.Partitions.{Partition}
use Rattle.call_engine.specs.Calls.{Settings}
use Rattle.call_engine.specs.Objects.{partition_object}
use Rattle.script_lang.specs.declared.line.Line.{Line}
use Rattle.script_lang.specs.declared.line.Line.TheVariants.{Grid, OpenConn, Arrive, Rebalance, Near, NearGet, NearFeed, Masters, Told, MasterDeliver, MasterLose, MasterResend}
use Rattle.replay_run.specs.Runs.{Run, Connection, Appended, connection_of, takes_bytes, can_open, next_line, opened, bytes_arrived}
use Rattle.script_run.specs.Printing.{brought}
use Rattle.replay_run.specs.AfterLines.{after_line}
use Rattle.replay_run.specs.Appending.{appended_text, new_messages}
use Rattle.replay_run.specs.Printing.{nothing_text, line_text, does_nothing, outcome_text, line_messages, line_close, line_dump, line_links, entry_text, printed_by}
use Rattle.rebalance.specs.declared.Step.{Step}
use Rattle.replay_run.specs.Rebalancing.{is_moving_at, stepped, stepped_all, steps_in}
use Rattle.replay_run.specs.RebalancingTexts.{end_text, ran_text, ran_texts}
use Rattle.replay_run.proofs.Growing.{line_grows, stepped_goes, stepped_all_goes}
use Rattle.grid_cli.specs.PrintedRuns.{HasPart}
use Rattle.grid_cli.proofs.Parts.{part_left, part_right, part_of_all, old_or_new}

-- the text of a line that does something
abbrev something_text : Settings → List CallId → Run → Line → Run → List ℕ
something_text s skips r line next =
    let o = partition_object s in
    outcome_text s r line next ++ line_messages s skips r line next ++ line_close next line ++ line_dump o next line ++ line_links s next line ++ flat_map (entry_text next.lines) (printed_by o next line)

-- Where a line runs steps, each step's messages stand before its end.

module _ (o : Object Request Partition) (m : Appended) where
  split_new : (r mid next : Run) (first rest : List Appended) → r.appended ++ first ≡ mid.appended → mid.appended ++ rest ≡ next.appended → In m (new_messages r next) → In m (new_messages r mid) ⊎ In m (new_messages mid next)
  split_new r mid next first rest one two i =
      let whole : new_messages r next ≡ first ++ rest = ap (drop (length r.appended)) (sym two ∙ ap (λ ms. ms ++ rest) (sym one) ∙ append_assoc r.appended first rest) ∙ drop-append_seam r.appended (first ++ rest) in
      let front : new_messages r mid ≡ first = ap (drop (length r.appended)) (sym one) ∙ drop-append_seam r.appended first in
      let behind : new_messages mid next ≡ rest = ap (drop (length mid.appended)) (sym two) ∙ drop-append_seam mid.appended rest in
      ⊎_elim (λ j. inl (subst (In m) (sym front) j)) (λ j. inr (subst (In m) (sym behind) j)) (in_cases m first rest (subst (In m) whole i))

  none_new : (r : Run) → In m (new_messages r r) → ⊥
  none_new r i = subst (In m) (ap (drop (length r.appended)) (sym (append-nil r.appended)) ∙ drop-append_seam r.appended []) i

  steps_print : (skips : List CallId) (r : Run) (steps : List Step) → In m (new_messages r (stepped_all o skips r steps)) → HasPart (ran_texts o skips r steps) (appended_text m)
  steps_print skips r [] i = absurd (none_new r i)
  steps_print skips r (step ∷ steps) i =
      let mid = stepped o skips r step in
      let one = ((stepped_goes o r step).grows skips).appended in
      let two = ((stepped_all_goes o mid steps).grows skips).appended in
      ⊎_elim
      (λ j. part_left (ran_text o skips r step) (ran_texts o skips mid steps) (appended_text m) (part_left (flat_map appended_text (new_messages r mid)) (end_text r.lines step.partition (is_moving_at o mid step.partition)) (appended_text m) (part_of_all m (new_messages r mid) j)))
      (λ j. part_right (ran_text o skips r step) (ran_texts o skips mid steps) (appended_text m) (steps_print skips mid steps j))
      (split_new r mid (stepped_all o skips mid steps) one.0 two.0 one.1 two.1 i)

messages_print : (s : Settings) (skips : List CallId) (r : Run) (line : Line) (m : Appended) → In m (new_messages r (after_line (partition_object s) skips r line)) → HasPart (line_messages s skips r line (after_line (partition_object s) skips r line)) (appended_text m)
messages_print s skips r (Rebalance most) m i = steps_print (partition_object s) m skips (next_line r) (steps_in (partition_object s) (next_line r) most) i
messages_print s skips r line m i = part_of_all m (new_messages r (after_line (partition_object s) skips r line)) i

new_is_printed : (s : Settings) (skips : List CallId) (r : Run) (line : Line) (next : Run) (m : Appended) → HasPart (line_messages s skips r line next) (appended_text m) → HasPart (something_text s skips r line next) (appended_text m)
new_is_printed s skips r line next m i =
    let o = partition_object s in
    let outcome = outcome_text s r line next in
    let messages = line_messages s skips r line next in
    part_left _ (flat_map (entry_text next.lines) (printed_by o next line)) (appended_text m)
    (part_left _ (line_links s next line) (appended_text m)
    (part_left _ (line_dump o next line) (appended_text m)
    (part_left _ (line_close next line) (appended_text m)
    (part_right outcome messages (appended_text m) i))))

pub something_printed : (s : Settings) (skips : List CallId) (r : Run) (line : Line) (next : Run) (m : Appended) → does_nothing (partition_object s) r line ≡ false → HasPart (line_messages s skips r line next) (appended_text m)
    → HasPart (line_text s skips r line next) (appended_text m)
something_printed s skips r line next m free has =
    let shown : line_text s skips r line next ≡ something_text s skips r line next = ap (λ b. cond b (nothing_text next.lines) (something_text s skips r line next)) free in
    subst (λ text. HasPart text (appended_text m)) (sym shown) (new_is_printed s skips r line next m has)

-- A line that does nothing appends nothing.

not_true : (b : Bool) → not b ≡ true → b ≡ false
not_true false e = refl
not_true true e = absurd cc

unopened : (r : Run) (c member : ℕ) (opens : Bool) → (cond opens (opened r c member) (next_line r)).appended ≡ r.appended
unopened r c member true = refl
unopened r c member false = refl

abbrev takes_none : Object Request Partition → Run → Option Connection → Bool
takes_none o r found = elim found [ None ↦ true | Some c ↦ not (takes_bytes o r c) ]

abbrev on_bytes : Object Request Partition → List CallId → Run → List ℕ → Option Connection → Run
on_bytes o skips r bytes found = elim found [ None ↦ next_line r | Some c ↦ bytes_arrived o skips r c bytes ]

untaken : (o : Object Request Partition) (skips : List CallId) (r : Run) (bytes : List ℕ) (found : Option Connection) → takes_none o r found ≡ true → (on_bytes o skips r bytes found).appended ≡ r.appended
untaken o skips r bytes None e = refl
untaken o skips r bytes (Some c) e = rw (not_true (takes_bytes o r c) e) refl

appends_nothing : (o : Object Request Partition) (skips : List CallId) (r : Run) (line : Line) → does_nothing o r line ≡ true → (after_line o skips r line).appended ≡ r.appended
appends_nothing o skips r (Grid members backups capacity) e = refl
appends_nothing o skips r (OpenConn c member) e = unopened r c member (can_open o r c member)
appends_nothing o skips r (Arrive c bytes) e = untaken o skips r bytes (connection_of r c) e
appends_nothing o skips r (Near c name capacity) e = refl
appends_nothing o skips r (NearGet c key) e = refl
appends_nothing o skips r (NearFeed c most) e = refl
appends_nothing o skips r Masters e = refl
appends_nothing o skips r (Told member crashed) e = refl
appends_nothing o skips r (MasterDeliver p from to place) e = refl
appends_nothing o skips r (MasterLose p from to place) e = refl
appends_nothing o skips r (MasterResend p member) e = refl
appends_nothing o skips r line e = absurd (cc e)

pub line_prints : (s : Settings) (skips : List CallId) (r : Run) (line : Line) (m : Appended) → let next = after_line (partition_object s) skips r line in
    In m next.appended → In m r.appended ⊎ HasPart (line_text s skips r line next) (appended_text m)
line_prints s skips r line m i = ⊎_elim idle (λ free. ⊎_elim (λ j. inl j) (λ j. inr (shown free j)) (old_or_new m r next (line_grows o skips r line).appended i)) (cases (does_nothing o r line))
  where
    o : Object Request Partition
    o = partition_object s

    next : Run
    next = after_line o skips r line

    idle : does_nothing o r line ≡ true → In m r.appended ⊎ HasPart (line_text s skips r line next) (appended_text m)
    idle e = inl (subst (In m) (appends_nothing o skips r line e) i)

    shown : does_nothing o r line ≡ false → In m (new_messages r next) → HasPart (line_text s skips r line next) (appended_text m)
    shown free j = something_printed s skips r line next m free (messages_print s skips r line m j)

-- bytes that a near client sends

-- what they bring, where they can arrive
idle_bytes : (b : Bool) (text part : List ℕ) → b ≡ false → HasPart text part → HasPart (cond b [] text) part
idle_bytes false text part e has = has
idle_bytes true text part e has = absurd cc

pub sent_prints : (s : Settings) (skips : List CallId) (r : Run) (c : ℕ) (bytes : List ℕ) (m : Appended) → let next = after_line (partition_object s) skips r (Arrive c bytes) in
    In m next.appended → In m r.appended ⊎ HasPart (brought s skips r c bytes next) (appended_text m)
sent_prints s skips r c bytes m i = ⊎_elim idle (λ free. ⊎_elim (λ j. inl j) (λ j. inr (shown free j)) (old_or_new m r next (line_grows o skips r (Arrive c bytes)).appended i)) (cases (does_nothing o r (Arrive c bytes)))
  where
    o : Object Request Partition
    o = partition_object s

    next : Run
    next = after_line o skips r (Arrive c bytes)

    idle : does_nothing o r (Arrive c bytes) ≡ true → In m r.appended ⊎ HasPart (brought s skips r c bytes next) (appended_text m)
    idle e = inl (subst (In m) (appends_nothing o skips r (Arrive c bytes) e) i)

    shown : does_nothing o r (Arrive c bytes) ≡ false → In m (new_messages r next) → HasPart (brought s skips r c bytes next) (appended_text m)
    shown free j =
        idle_bytes (does_nothing o r (Arrive c bytes)) (line_messages s skips r (Arrive c bytes) next ++ line_close next (Arrive c bytes)) (appended_text m) free
        (part_left _ (line_close next (Arrive c bytes)) (appended_text m) (messages_print s skips r (Arrive c bytes) m j))
