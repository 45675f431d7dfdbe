-- A line with masters, and its text, ask of the skips only which of the calls are among them that come to their end at it.
use Rattle.std.proofs.Common.{◌≡◌, ℕ, zero, suc, ◌+◌, Bool, true, false, cond, List, [], ◌∷◌, ◌++◌, length, Option, Some, None, refl, ap, sym, ◌∙◌, subst, append-nil}
use Rattle.std.specs.List.{flat_map}
use Rattle.grid_base.specs.Objects.{Object}
use Rattle.grid_base.specs.declared.names.CallId.{CallId}
use Rattle.grid_base.specs.declared.calls.Request.{Request}
use Rattle.object_store.specs.Partitions.{Partition}
use Rattle.call_engine.specs.Calls.{Settings}
use Rattle.call_engine.specs.Objects.{partition_object}
use Rattle.partition_protocol.specs.Events.{Detect, run}
use Rattle.partition_protocol.specs.Service.{numbers_below}
use Rattle.partition_protocol.proofs.Lists.{In, in_left, in_right, in_contains, contains_in}
use Rattle.partition_protocol.proofs.RowFacts.{false_or_not}
use Rattle.partition_world.specs.declared.Link.{Link}
use Rattle.masters_world.specs.Machine.{Line, Asks, Told, at_once, published_by}
use Rattle.script_lang.specs.declared.line.Line.{Line as ScriptLine}
use Rattle.script_lang.specs.declared.line.Line.TheVariants as line
use Rattle.replay_run.specs.Runs.{Run, Arrival, partitions, next_line, is_skipped}
use Rattle.replay_run.specs.AfterLines as alone
use Rattle.replay_run.specs.Appending.{appended_text, new_messages}
use Rattle.replay_run.specs.Endings.{new_arrivals}
use Rattle.replay_run.specs.Printing.{flow_text, words_line, ok_text, nothing_text, does_nothing, outcome_text, line_messages, line_close, line_dump, line_links, entry_text, printed_by}
use Rattle.replay_run.specs.Rebalancing.{stepped_all, steps_in}
use Rattle.replay_run.specs.SkippedCalls.{TellsOfNoSkip}
use Rattle.replay_run.specs.Skips.{AgreeOn}
use Rattle.replay_run.proofs.Growing.{Grows, grows_trans, Agree, GoesBy, stepped_all_goes, ran_alike}
use Rattle.replay_run.proofs.Skipped.{none_before}
use Rattle.replay_run.proofs.SkipLaws.{new_of}
use Rattle.masters_run.specs.Runs.{RuledRun, has_masters, masters_at, ruled_at, goes, goes_in, link_between, handing_over, flowed_between, counted}
use Rattle.masters_run.specs.AfterLines.{Asked, asked_at, by_partition, unruled, ruled_line, after_line}
use Rattle.masters_run.specs.Printing.{outcome_words, published_texts, followed, followed_in, handed_over, followed_each, grid_text, asked_text_of, ruled_text, unruled_text, line_text}
use Rattle.masters_run.proofs.RuledRuns.{AsksNoCall, between_on, IsQuietAsked, asked_quiet}
use Rattle.masters_run.proofs.RuledGrowing.{RuledGoesBy, goes_goes, goes_in_goes, between_goes, ruled_line_goes}

once : (s : RuledRun) → Grows s.run (counted s).run
once s = record { events = ([], append-nil s.run.events); arrivals = ([], append-nil s.run.arrivals); appended = ([], append-nil s.run.appended); full = λ e. e }

-- So many messages are handed over between masters, and what follows each is the same.
abbrev AreAlike : Object Request Partition → List CallId → List CallId → RuledRun → ℕ → ℕ → Type 0
AreAlike o k t s p most = (handed_over o k s p most ≡ handed_over o t s p most) × (followed_each o k s p most ≡ followed_each o t s p most)

-- Of two lists of skips: what holds from a run to a later one if they skip the same of what is tried between.
module _ (settings : Settings) (k t : List CallId) (A : Run → Run → Type 0)
    (before : (r mid last : Run) → Grows r mid → Grows mid last → A r last → A r mid)
    (behind : (r mid last : Run) → Grows r mid → Grows mid last → A r last → A mid last)
    (agree : (r : Run) (onward : List CallId → Run) (g : GoesBy r onward) → A r (onward k) → Agree (g.tries k) k t) where
  abbrev o : Object Request Partition
  o = partition_object settings

  same : (s : RuledRun) (onward : List CallId → RuledRun) → RuledGoesBy s onward → A s.run (onward k).run → onward k ≡ onward t
  same s onward g a = g.alike k t (agree s.run (λ x. (onward x).run) g.by a)

  pub line_same : (s : RuledRun) (l : ScriptLine) → A s.run (after_line o k s l).run → after_line o k s l ≡ after_line o t s l
  line_same s l a = same s (λ x. after_line o x s l) (ruled_line_goes o s l) a

  -- what follows the outcome

  abbrev followed_to : RuledRun → ℕ → Line Request → RuledRun → List ℕ
  followed_to s p l next =
      let j = ruled_at o s p in
      published_texts o s.run.lines p (length j.masters.published + 1) (run o j.world (at_once j l)) (published_by j l) ++ flat_map appended_text (new_messages s.run next.run)

  followed_same : (s : RuledRun) (p : ℕ) (l : Line Request) → AsksNoCall l → A s.run (goes o k s p l).run → followed o k s p l ≡ followed o t s p l
  followed_same s p l q a = ap (followed_to s p l) (same s (λ x. goes o x s p l) (goes_goes o s p l q) a)

  followed_in_same : (s : RuledRun) (l : Line Request) (ps : List ℕ) → AsksNoCall l → A s.run (goes_in o k s l ps).run → followed_in o k s l ps ≡ followed_in o t s l ps
  followed_in_same s l [] q a = refl
  followed_in_same s l (p ∷ ps) q a =
      let mid = goes o k s p l in
      let first = (goes_goes o s p l q).by.grows k in
      let rest = (goes_in_goes o mid l ps q).by.grows k in
      let now = before s.run mid.run (goes_in o k mid l ps).run first rest a in
      let then = behind s.run mid.run (goes_in o k mid l ps).run first rest a in
      ap (λ xs. xs ++ followed_in o k mid l ps) (followed_same s p l q now)
      ∙ ap (λ xs. followed o t s p l ++ xs) (followed_in_same mid l ps q then ∙ ap (λ (x : RuledRun). followed_in o t x l ps) (same s (λ x. goes o x s p l) (goes_goes o s p l q) now))

  -- `mflow`, where this is the next link

  abbrev handed_on : List CallId → RuledRun → ℕ → ℕ → Option Link → ℕ
  handed_on x s p most next = elim next [ None ↦ 0 | Some l ↦ suc (handed_over o x (goes o x s p (handing_over l)) p most) ]

  abbrev followed_on : List CallId → RuledRun → ℕ → ℕ → Option Link → List ℕ
  followed_on x s p most next = elim next [ None ↦ [] | Some l ↦ followed o x s p (handing_over l) ++ followed_each o x (goes o x s p (handing_over l)) p most ]

  abbrev AreHandedSo : RuledRun → ℕ → ℕ → Type 0
  AreHandedSo s p most = AreAlike o k t s p most

  handed_same : (most : ℕ) (s : RuledRun) (p : ℕ) → A s.run (flowed_between o k s p most).run → AreHandedSo s p most
  handed_same zero s p a = (refl, refl)
  handed_same (suc most) s p a = go (link_between (masters_at s p)) a (λ x. handed_same most x p)
    where
      go : (next : Option Link) → A s.run (between_on o k s p most next).run → ((x : RuledRun) → A x.run (flowed_between o k x p most).run → AreHandedSo x p most)
          → (handed_on k s p most next ≡ handed_on t s p most next) × (followed_on k s p most next ≡ followed_on t s p most next)
      go None a rest = (refl, refl)
      go (Some l) a rest =
          let mid = goes o k s p (handing_over l) in
          let first = (goes_goes o s p (handing_over l) tt).by.grows k in
          let more = (between_goes o mid p most).by.grows k in
          let now = before s.run mid.run (flowed_between o k mid p most).run first more a in
          let is = same s (λ x. goes o x s p (handing_over l)) (goes_goes o s p (handing_over l) tt) now in
          let then = rest mid (behind s.run mid.run (flowed_between o k mid p most).run first more a) in (
            ap (λ n. suc n) (then.0 ∙ ap (λ (x : RuledRun). handed_over o t x p most) is),
            ap (λ xs. xs ++ followed_each o k mid p most) (followed_same s p (handing_over l) tt now)
                ∙ ap (λ xs. followed o t s p (handing_over l) ++ xs) (then.1 ∙ ap (λ (x : RuledRun). followed_each o t x p most) is),
          )

  -- a line that is the grid's own: the text of steps is told by the skips, and no other

  messages_same : (s : RuledRun) (l : ScriptLine) (next : Run) → A s.run (alone.after_line o k s.run l) → line_messages settings k s.run l next ≡ line_messages settings t s.run l next
  messages_same s (line.Rebalance most) next a =
      let steps = steps_in o (next_line s.run) most in
      let g = stepped_all_goes o (next_line s.run) steps in
      ran_alike o (next_line s.run) steps k t
      (agree (next_line s.run) (λ x. stepped_all o x (next_line s.run) steps) g (behind s.run (next_line s.run) (stepped_all o k (next_line s.run) steps) (once s) (g.grows k) a))
  messages_same s l next a = refl

  grid_same : (s : RuledRun) (l : ScriptLine) (next : RuledRun) → A s.run (alone.after_line o k s.run l) → grid_text settings k s l next ≡ grid_text settings t s l next
  grid_same s l next a =
      ap (λ messages. cond (does_nothing o s.run l) (nothing_text next.run.lines)
      (outcome_text settings s.run l next.run ++ messages ++ line_close next.run l ++ line_dump o next.run l ++ line_links settings next.run l ++ flat_map (entry_text next.run.lines) (printed_by o next.run l)))
      (messages_same s l next.run a)

  -- lines

  asked_same : (s : RuledRun) (l : ScriptLine) (next : RuledRun) (a : Option Asked) → IsQuietAsked a → A s.run (by_partition o k s l a).run → asked_text_of settings k s l next a ≡ asked_text_of settings t s l next a
  asked_same s l next None q holds = grid_same s l next holds
  asked_same s l next (Some a) q holds =
      let last = goes o k (counted s) a.partition a.line in
      ap (λ xs. words_line (counted s).run.lines (outcome_words o (ruled_at o (counted s) a.partition) a.line) ++ xs)
      (followed_same (counted s) a.partition a.line q (behind s.run (counted s).run last.run (once s) ((goes_goes o (counted s) a.partition a.line q).by.grows k) holds))

  in_all_same : (s : RuledRun) (l : Line Request) → AsksNoCall l → A s.run (goes_in o k (counted s) l (numbers_below partitions)).run
      → followed_in o k (counted s) l (numbers_below partitions) ≡ followed_in o t (counted s) l (numbers_below partitions)
  in_all_same s l q holds =
      let last = goes_in o k (counted s) l (numbers_below partitions) in
      followed_in_same (counted s) l (numbers_below partitions) q (behind s.run (counted s).run last.run (once s) ((goes_in_goes o (counted s) l (numbers_below partitions) q).by.grows k) holds)

  ruled_same : (s : RuledRun) (l : ScriptLine) (next : RuledRun) → A s.run (ruled_line o k s l).run → ruled_text settings k s l next ≡ ruled_text settings t s l next
  ruled_same s line.Masters next a = refl
  ruled_same s (line.Rebalance most) next a = refl
  ruled_same s (line.Flow p most) next a = refl
  ruled_same s (line.FlowAll most) next a = refl
  ruled_same s (line.MasterFlow p most) next a =
      let last = flowed_between o k (counted s) p most in
      let h = handed_same most (counted s) p (behind s.run (counted s).run last.run (once s) ((between_goes o (counted s) p most).by.grows k) a) in
      ap (λ n. flow_text next.run.lines n ++ followed_each o k (counted s) p most) h.0 ∙ ap (λ xs. flow_text next.run.lines (handed_over o t (counted s) p most) ++ xs) h.1
  ruled_same s (line.Told m x) next a = ap (λ xs. words_line (counted s).run.lines (outcome_words o (ruled_at o (counted s) 0) (Told m x)) ++ xs) (in_all_same s (Told m x) tt a)
  ruled_same s (line.Crash m) next a = refl
  ruled_same s (line.Detect m) next a = ap (λ xs. ok_text next.run.lines ++ xs) (in_all_same s (Asks (Detect m)) refl a)
  ruled_same s l next a = asked_same s l next (asked_at l) (asked_quiet l) a

  unruled_same : (s : RuledRun) (l : ScriptLine) (next : RuledRun) → A s.run (unruled o k s l).run → unruled_text settings k s l next ≡ unruled_text settings t s l next
  unruled_same s line.Masters next a = refl
  unruled_same s l next a = grid_same s l next a

  pub text_same : (s : RuledRun) (l : ScriptLine) (next : RuledRun) → A s.run (after_line o k s l).run → line_text settings k s l next ≡ line_text settings t s l next
  text_same s l next a = go (has_masters s) a
    where
      go : (b : Bool) → A s.run (cond b (ruled_line o k s l) (unruled o k s l)).run
          → cond b (ruled_text settings k s l next) (unruled_text settings k s l next) ≡ cond b (ruled_text settings t s l next) (unruled_text settings t s l next)
      go true = ruled_same s l next
      go false = unruled_same s l next

-- where the skips agree on the calls that come to their end

module _ (settings : Settings) (k t : List CallId) where
  abbrev pub AgreeBetween : Run → Run → Type 0
  AgreeBetween r next = AgreeOn (new_arrivals r next) k t

  abbrev new_in : (r next : Run) (g : Grows r next) (a : Arrival) → In a g.arrivals.0 → In a (new_arrivals r next)
  new_in r next g a i = subst (In a) (sym (new_of r next g.arrivals)) i

  pub first_agree : (r mid last : Run) → Grows r mid → Grows mid last → AgreeBetween r last → AgreeBetween r mid
  first_agree r mid last g h all a there = all a (contains_in a (new_arrivals r last) (new_in r last (grows_trans r mid last g h) a (in_left a g.arrivals.0 h.arrivals.0 (subst (In a) (new_of r mid g.arrivals) (in_contains a (new_arrivals r mid) there)))))

  pub rest_agree : (r mid last : Run) → Grows r mid → Grows mid last → AgreeBetween r last → AgreeBetween mid last
  rest_agree r mid last g h all a there = all a (contains_in a (new_arrivals r last) (new_in r last (grows_trans r mid last g h) a (in_right a g.arrivals.0 h.arrivals.0 (subst (In a) (new_of mid last h.arrivals) (in_contains a (new_arrivals mid last) there)))))

  tried_agree : (r : Run) (onward : List CallId → Run) (g : GoesBy r onward) → AgreeBetween r (onward k) → Agree (g.tries k) k t
  tried_agree r onward g all a i = all a (contains_in a (new_arrivals r (onward k)) (new_in r (onward k) (g.grows k) a (g.come k a i)))

  pub line_alike : (s : RuledRun) (l : ScriptLine) → AgreeBetween s.run (after_line (partition_object settings) k s l).run → after_line (partition_object settings) k s l ≡ after_line (partition_object settings) t s l
  line_alike = line_same settings k t AgreeBetween first_agree rest_agree tried_agree

  pub text_alike : (s : RuledRun) (l : ScriptLine) (next : RuledRun) → AgreeBetween s.run (after_line (partition_object settings) k s l).run → line_text settings k s l next ≡ line_text settings t s l next
  text_alike = text_same settings k t AgreeBetween first_agree rest_agree tried_agree

-- and where the run tells of no skip

module _ (settings : Settings) (k : List CallId) where
  abbrev NoneTold : Run → Run → Type 0
  NoneTold r next = TellsOfNoSkip next

  tried_none : (r : Run) (onward : List CallId → Run) (g : GoesBy r onward) → TellsOfNoSkip (onward k) → Agree (g.tries k) k []
  tried_none r onward g none a i =
      let front = (g.grows k).arrivals in
      let there = contains_in a (onward k).arrivals (subst (In a) front.1 (in_right a r.arrivals front.0 (g.come k a i))) in
      false_or_not (is_skipped k a.request.id) (λ skipped. none a there (g.tells k a i skipped))

  pub line_none : (s : RuledRun) (l : ScriptLine) → TellsOfNoSkip (after_line (partition_object settings) k s l).run → after_line (partition_object settings) k s l ≡ after_line (partition_object settings) [] s l
  line_none = line_same settings k [] NoneTold (λ r mid last g h none. none_before mid last h none) (λ r mid last g h none. none) tried_none

  pub text_none : (s : RuledRun) (l : ScriptLine) (next : RuledRun) → TellsOfNoSkip (after_line (partition_object settings) k s l).run → line_text settings k s l next ≡ line_text settings [] s l next
  text_none = text_same settings k [] NoneTold (λ r mid last g h none. none_before mid last h none) (λ r mid last g h none. none) tried_none
