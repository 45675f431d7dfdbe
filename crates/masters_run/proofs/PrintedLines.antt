-- The text of a line with masters is that of what it tells, and behind it what it wrote as it went.
use Rattle.std.proofs.Common.{◌≡◌, ℕ, zero, suc, ◌+◌, Bool, true, false, cond, ◌==◌, List, [], ◌∷◌, ◌++◌, length, map, Option, Some, None, refl, ap, sym, ◌∙◌, subst, append-nil}
use Rattle.grid_base.specs.Objects.{Object}
use Rattle.grid_base.specs.declared.names.CallId.{CallId}
use Rattle.grid_base.specs.declared.calls.Request.{Request}
use Rattle.object_store.specs.Partitions.{Partition}
use Rattle.call_engine.specs.Calls.{Settings}
use Rattle.call_engine.specs.Objects.{partition_object}
use Rattle.partition_protocol.specs.Events.{Event, Detect, happens, run}
use Rattle.partition_protocol.specs.World.{World}
use Rattle.partition_protocol.specs.Service.{numbers_below}
use Rattle.partition_world.specs.declared.Link.{Link}
use Rattle.masters_protocol.specs.Members as masters
use Rattle.masters_world.specs.Decisions.{Decision, event_of}
use Rattle.masters_world.specs.Machine.{Ruled, Line, Asks, Told as ToldOf, asked_by, masters_say, at_once, published_by}
use Rattle.script_lang.specs.declared.line.Line.{Line as ScriptLine}
use Rattle.script_lang.specs.declared.line.Line.TheVariants as line
use Rattle.line_told.specs.Printing.{outcome_text, published_text as number_text, text_of}
use Rattle.line_told.specs.Words.{words_line}
use Rattle.line_told.specs.declared.told.LineOutcome.TheVariants as outcome
use Rattle.line_told.specs.declared.told.Told.{Told}
use Rattle.line_told.proofs.ToldHappenings.{same_master_words}
use Rattle.replay_run.specs.Appending.{new_messages}
use Rattle.replay_run.specs.LineTold.{came_to, all_told}
use Rattle.replay_run.specs.LineTold as alone
use Rattle.replay_run.specs.Printing.{deliveries}
use Rattle.replay_run.specs.Printing as grid
use Rattle.replay_run.specs.AfterLines.{after_line as after_alone}
use Rattle.replay_run.specs.Runs.{Run, partitions, next_line}
use Rattle.replay_run.specs.WorldCalls.{texts_of}
use Rattle.replay_run.proofs.PrintedLines.{text_append, messages_text, one_text, event_words as event_is, fate_is}
use Rattle.replay_run.proofs.PrintedLines as alone_prints
use Rattle.replay_run.proofs.Bounds as bounds
use Rattle.replay_run.proofs.EventRuns.{takes_kept}
use Rattle.masters_run.specs.Runs.{RuledRun, has_masters, masters_at, ruled_at, goes, link_between, handing_over, counted}
use Rattle.masters_run.specs.AfterLines.{Asked, asked_at, by_grid, by_partition, unruled, ruled_line, after_line}
use Rattle.masters_run.specs.LineTold as told
use Rattle.masters_run.specs.Printing as printed
use Rattle.masters_run.specs.Printing.{handed_over}
use Rattle.masters_run.proofs.ByGrid.{crash_runs}
use Rattle.masters_run.proofs.KeptLines.{line_lines}
use Rattle.masters_run.proofs.RuledRuns.{AsksNoCall, goes_keeps}

-- outcomes

module _ (n : ℕ) where
  published_is : {State : Type 0} (o : Object Request State) (w : World Request) (e : Event Request) → outcome_text n (told.published_outcome o w e) ≡ words_line n (printed.published_words o w e)
  published_is o w (Detect m) = fate_is n (happens o w (Detect m)).outcome
  published_is o w e = event_is n e (happens o w e).outcome

  said_is : {State : Type 0} (o : Object Request State) (w : World Request) (xs : List masters.Outcome) (es : List (Event Request)) → outcome_text n (told.said xs (map (told.event_outcome o w) es)) ≡ words_line n (printed.said xs (map (printed.event_words o w) es))
  said_is o w (x ∷ xs) es = same_master_words n x
  said_is o w [] (e ∷ es) = event_is n e (happens o w e).outcome
  said_is o w [] [] = refl

  asked_is : {State : Type 0} (o : Object Request State) (j : Ruled Request) (l : Line Request) → text_of n (came_to (told.asked_outcome o j l)) ≡ words_line n (printed.outcome_words o j l)
  asked_is o j l = one_text n (told.asked_outcome o j l) ∙ said_is o j.world (masters_say j.masters (asked_by j l)) (at_once j l)

  -- so many messages were delivered, and this followed
  flow_is : (count : ℕ) (followed : List Told) (also : List ℕ) → text_of n followed ≡ also → text_of n (came_to (outcome.Flowed count) ++ followed) ≡ grid.flow_text n count ++ also
  flow_is count followed also same = text_append n (came_to (outcome.Flowed count)) followed ∙ (λ i. one_text n (outcome.Flowed count) i ++ same i)

  -- what was published
  all_is : {State : Type 0} (o : Object Request State) (p m : ℕ) (w : World Request) (ds : List Decision) → text_of n (told.all_published o p m w ds) ≡ printed.published_texts o n p m w ds
  all_is o p m w [] = refl
  all_is o p m w (d ∷ ds) =
      let came = told.published_outcome o w (event_of w.members d) in
      let next = (happens o w (event_of w.members d)).world in
      text_append n (told.published_told o p m w d) (told.all_published o p (m + 1) next ds)
      ∙ (λ i. (number_text n p m ++ (one_text n came ∙ published_is o w (event_of w.members d)) i) ++ all_is o p (m + 1) next ds i)

-- what follows

module _ (o : Object Request Partition) (skips : List CallId) where
  goes_lines : (s : RuledRun) (p : ℕ) (l : Line Request) → AsksNoCall l → (goes o skips s p l).run.lines ≡ s.run.lines
  goes_lines s p l quiet = goes_keeps o skips (λ (r : Run). r.lines ≡ s.run.lines) (λ r h. h) (λ r p e quiet h. (takes_kept o skips r p e).lines ∙ h) s p l quiet refl

  followed_is : (s : RuledRun) (p : ℕ) (l : Line Request) → text_of s.run.lines (told.followed o skips s p l) ≡ printed.followed o skips s p l
  followed_is s p l =
      let n = s.run.lines in
      let j = ruled_at o s p in
      let published = told.all_published o p (length j.masters.published + 1) (run o j.world (at_once j l)) (published_by j l) in
      let sent = new_messages s.run (goes o skips s p l).run in
      text_append n published (all_told sent) ∙ (λ i. all_is n o p (length j.masters.published + 1) (run o j.world (at_once j l)) (published_by j l) i ++ messages_text n sent i)

  followed_in_is : (n : ℕ) (s : RuledRun) (l : Line Request) (ps : List ℕ) → AsksNoCall l → s.run.lines ≡ n → text_of n (told.followed_in o skips s l ps) ≡ printed.followed_in o skips s l ps
  followed_in_is n s l [] quiet at = refl
  followed_in_is n s l (p ∷ ps) quiet at =
      let next = goes o skips s p l in
      text_append n (told.followed o skips s p l) (told.followed_in o skips next l ps)
      ∙ (λ i. (ap (λ m. text_of m (told.followed o skips s p l)) (sym at) ∙ followed_is s p l) i ++ followed_in_is n next l ps quiet (goes_lines s p l quiet ∙ at) i)

  abbrev told_on : RuledRun → ℕ → ℕ → Option Link → List Told
  told_on s p most next = elim next [ None ↦ [] | Some l ↦ told.followed o skips s p (handing_over l) ++ told.followed_each o skips (goes o skips s p (handing_over l)) p most ]

  abbrev printed_on : RuledRun → ℕ → ℕ → Option Link → List ℕ
  printed_on s p most next = elim next [ None ↦ [] | Some l ↦ printed.followed o skips s p (handing_over l) ++ printed.followed_each o skips (goes o skips s p (handing_over l)) p most ]

  each_is : (n : ℕ) (s : RuledRun) (p most : ℕ) → s.run.lines ≡ n → text_of n (told.followed_each o skips s p most) ≡ printed.followed_each o skips s p most
  each_is n s p zero at = refl
  each_is n s p (suc most) at = go (link_between (masters_at s p)) (λ x. each_is n x p most)
    where
      go : (next : Option Link) → ((x : RuledRun) → x.run.lines ≡ n → text_of n (told.followed_each o skips x p most) ≡ printed.followed_each o skips x p most) → text_of n (told_on s p most next) ≡ printed_on s p most next
      go None rest = refl
      go (Some l) rest =
          let next = goes o skips s p (handing_over l) in
          text_append n (told.followed o skips s p (handing_over l)) (told.followed_each o skips next p most)
          ∙ (λ i. (ap (λ m. text_of m (told.followed o skips s p (handing_over l))) (sym at) ∙ followed_is s p (handing_over l)) i ++ rest next (goes_lines s p (handing_over l) tt ∙ at) i)

-- lines

-- A line that the masters are asked by writes nothing as it goes.
asked_writes_none : (settings : Settings) (r : Run) (line : ScriptLine) (a : Asked) → asked_at line ≡ Some a → alone.line_printed settings r line ≡ []
asked_writes_none settings r (line.Dump p member) a is = absurd cc
asked_writes_none settings r (line.Links p) a is = absurd cc
asked_writes_none settings r (line.Trail p) a is = absurd cc
asked_writes_none settings r line.End a is = absurd cc
asked_writes_none settings r l a is = refl

module _ (settings : Settings) (skips : List CallId) (s : RuledRun) (n : ℕ) (at : s.run.lines + 1 ≡ n) where
  abbrev o : Object Request Partition
  o = partition_object settings

  -- What is told is printed so, and nothing is written.
  silent : (words also written : List ℕ) → words ≡ also → written ≡ [] → words ++ written ≡ also
  silent words also written same none = (λ i. same i ++ none i) ∙ append-nil also

  -- a line that is the grid's own
  alone_is : (line : ScriptLine) (next : RuledRun) → next.run ≡ after_alone o skips s.run line → text_of n (told.grid_told settings skips s line next) ++ told.line_printed settings s line ≡ printed.grid_text settings skips s line next
  alone_is line next same =
      let last = after_alone o skips s.run line in
      let same_number : n ≡ last.lines = sym at ∙ sym (bounds.line_lines o skips s.run line) in
      subst (λ (r : Run). text_of n (alone.line_told settings skips s.run line r) ++ alone.line_printed settings s.run line ≡ grid.line_text settings skips s.run line r) (sym same)
      (ap (λ m. text_of m (alone.line_told settings skips s.run line last) ++ alone.line_printed settings s.run line) same_number ∙ alone_prints.line_is settings skips s.run line)

  asked_one_is : (p : ℕ) (l : Line Request) → text_of n (told.asked_told o skips (counted s) p l) ≡ printed.asked_text o skips (counted s) p l
  asked_one_is p l =
      let m = s.run.lines + 1 in
      ap (λ k. text_of k (told.asked_told o skips (counted s) p l)) (sym at)
      ∙ text_append m (came_to (told.asked_outcome o (ruled_at o s p) l)) (told.followed o skips (counted s) p l)
      ∙ (λ i. asked_is m o (ruled_at o s p) l i ++ followed_is o skips (counted s) p l i)

  rest_is : (line : ScriptLine) (a : Option Asked) → asked_at line ≡ a → let next = by_partition o skips s line a in text_of n (told.asked_told_of settings skips s line next a) ++ told.line_printed settings s line ≡ printed.asked_text_of settings skips s line next a
  rest_is line None is = alone_is line (by_grid o skips s line) refl
  rest_is line (Some a) is =
      silent (text_of n (told.asked_told o skips (counted s) a.partition a.line)) (printed.asked_text o skips (counted s) a.partition a.line) (told.line_printed settings s line)
      (asked_one_is a.partition a.line) (asked_writes_none settings s.run line a is)

  -- what follows the outcome of what is asked in each partition
  in_all_is : (came : List Told) (words : List ℕ) (l : Line Request) → AsksNoCall l → text_of n came ≡ words
      → text_of n (came ++ told.followed_in o skips (counted s) l (numbers_below partitions)) ≡ words ++ printed.followed_in o skips (counted s) l (numbers_below partitions)
  in_all_is came words l quiet same =
      text_append n came (told.followed_in o skips (counted s) l (numbers_below partitions))
      ∙ (λ i. same i ++ followed_in_is o skips n (counted s) l (numbers_below partitions) quiet at i)

  abbrev IsPrinted : ScriptLine → RuledRun → List Told → List ℕ → Type 0
  IsPrinted line next tells words = next.run.lines ≡ n → text_of n tells ++ told.line_printed settings s line ≡ words

  idle_is : text_of n (came_to outcome.Idle) ++ [] ≡ grid.nothing_text n
  idle_is = append-nil (text_of n (came_to outcome.Idle)) ∙ one_text n outcome.Idle

  flowed_is : (next : RuledRun) → next.run.lines ≡ n → text_of n (told.flowed_told s next) ++ [] ≡ printed.flowed_text s next
  flowed_is next counts =
      let sent = new_messages s.run next.run in
      append-nil (text_of n (told.flowed_told s next)) ∙ flow_is n (deliveries s.run next.run) (all_told sent) (texts_of sent) (messages_text n sent)
      ∙ ap (λ m. grid.flow_text m (deliveries s.run next.run) ++ texts_of sent) (sym counts)

  ruled_is : has_masters s ≡ true → (line : ScriptLine) → IsPrinted line (ruled_line o skips s line) (told.ruled_told settings skips s line (ruled_line o skips s line)) (printed.ruled_text settings skips s line (ruled_line o skips s line))
  ruled_is ruled line.Masters counts = idle_is ∙ ap grid.nothing_text (sym counts)
  ruled_is ruled (line.Rebalance most) counts = idle_is ∙ ap grid.nothing_text (sym counts)
  ruled_is ruled (line.Flow p most) counts = flowed_is (ruled_line o skips s (line.Flow p most)) counts
  ruled_is ruled (line.FlowAll most) counts = flowed_is (ruled_line o skips s (line.FlowAll most)) counts
  ruled_is ruled (line.MasterFlow p most) counts =
      let count = handed_over o skips (counted s) p most in
      let followed = told.followed_each o skips (counted s) p most in
      let also = printed.followed_each o skips (counted s) p most in
      append-nil (text_of n (came_to (outcome.Flowed count) ++ followed)) ∙ flow_is n count followed also (each_is o skips n (counted s) p most at) ∙ ap (λ m. grid.flow_text m count ++ also) (sym counts)
  ruled_is ruled (line.Told m x) counts =
      let j = ruled_at o s 0 in
      let l = ToldOf m x in
      append-nil (text_of n (told.crash_told o skips (counted s) l))
      ∙ in_all_is (came_to (told.asked_outcome o j l)) (words_line (s.run.lines + 1) (printed.outcome_words o j l)) l tt (asked_is n o j l ∙ ap (λ k. words_line k (printed.outcome_words o j l)) (sym at))
  ruled_is ruled (line.Detect m) counts =
      let l = Asks (Detect m) in
      append-nil (text_of n (came_to outcome.Ran ++ told.followed_in o skips (counted s) l (numbers_below partitions)))
      ∙ in_all_is (came_to outcome.Ran) (grid.ok_text n) l refl (one_text n outcome.Ran) ∙ ap (λ k. grid.ok_text k ++ printed.followed_in o skips (counted s) l (numbers_below partitions)) (sym counts)
  ruled_is ruled (line.Crash m) counts = alone_is (line.Crash m) (ruled_line o skips s (line.Crash m)) (crash_runs o skips m (counted s) (next_line s.run) (numbers_below partitions) refl)
  ruled_is ruled l counts = rest_is l (asked_at l) refl

  unruled_is : (line : ScriptLine) → IsPrinted line (unruled o skips s line) (told.unruled_told settings skips s line (unruled o skips s line)) (printed.unruled_text settings skips s line (unruled o skips s line))
  unruled_is line.Masters counts = go (s.run.lines == 1) ∙ ap (λ m. cond (s.run.lines == 1) (grid.ok_text m) (grid.nothing_text m)) (sym counts)
    where
      go : (b : Bool) → text_of n (came_to (cond b outcome.Ran outcome.Idle)) ++ [] ≡ cond b (grid.ok_text n) (grid.nothing_text n)
      go true = append-nil (text_of n (came_to outcome.Ran)) ∙ one_text n outcome.Ran
      go false = idle_is
  unruled_is l counts = alone_is l (by_grid o skips s l) refl

  abbrev after_by : ScriptLine → Bool → RuledRun
  after_by line b = cond b (ruled_line o skips s line) (unruled o skips s line)

  -- the law of a line
  pub line_is : (line : ScriptLine) → let next = after_line o skips s line in text_of n (told.line_told settings skips s line next) ++ told.line_printed settings s line ≡ printed.line_text settings skips s line next
  line_is line = go (has_masters s) refl (line_lines o skips s line ∙ at)
    where
      go : (b : Bool) → has_masters s ≡ b → (after_by line b).run.lines ≡ n
          → text_of n (cond b (told.ruled_told settings skips s line (after_by line b)) (told.unruled_told settings skips s line (after_by line b))) ++ told.line_printed settings s line
          ≡ cond b (printed.ruled_text settings skips s line (after_by line b)) (printed.unruled_text settings skips s line (after_by line b))
      go true ruled counts = ruled_is ruled line counts
      go false none counts = unruled_is line counts
