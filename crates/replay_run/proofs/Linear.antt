-- What is printed for an object fits the run: it is the history of that object, used by one thread.
use Rattle.std.proofs.Common.{◌≡◌, ◌≢◌, ℕ, ◌≤◌, ◌<◌, true, false, List, [], length, Some, Contains, ap, sym, ◌∙◌, subst, arith}
use Rattle.std.proofs.lemmas.Bool.Decides.{nat_tests}
use Rattle.std.specs.Prelude.{nat_lt, option_map, unwrap_or}
use Rattle.grid_base.specs.Objects.{Object}
use Rattle.grid_base.specs.declared.names.CallId.{CallId}
use Rattle.grid_base.specs.declared.calls.Request.{Request}
use Rattle.partition_protocol.specs.History.{Executed}
use Rattle.partition_protocol.specs.World.{World, trail}
use Rattle.partition_protocol.specs.Arrivals.{Asked}
use Rattle.partition_protocol.specs.Claims.{is_reset}
use Rattle.partition_protocol.proofs.Lists.{In, in_contains, contains_in}
use Rattle.partition_protocol.proofs.Faithful.{part_in}
use Rattle.partition_world.specs.Answers.{id_of}
use Rattle.script_lang.specs.declared.line.Line.TheVariants.{Trail, End}
use Rattle.call_engine.specs.Calls.{Settings}
use Rattle.call_engine.specs.Objects.{one_object, partition_object}
use Rattle.object_store.specs.Partitions.{Partition, nothing_stored}
use Rattle.object_store.specs.Records.{nothing_of}
use Rattle.object_store.proofs.PartitionLaws.{record_at-nothing}
use Rattle.replay_run.specs.Runs.{Run, begun, Arrival, Appended, reopened_at, world_at, partitions}
use Rattle.replay_run.specs.AfterLines.{after_lines}
use Rattle.replay_run.specs.Printing.{PrintedCall, PrintedReset, Printed, Call, Reset, entries_of, all_entries, printed_from, arrival_of, came_at, is_answer_to, answer_of}
use Rattle.replay_run.specs.Linearizability.{GridObject, is_on, is_of, history_of, Before, IsLegal, reset_lines, IsOf, Fits, IsLinearizable, EveryRunIsLinearizable}
use Rattle.replay_run.proofs.Parts.{subsequence_part, before_first, before_second, part_filter, before_part, named_apart, in_filter, in_filtered}
use Rattle.replay_run.specs.ScriptRuns.{home, grid_begun}
use Rattle.replay_run.proofs.Places.{same_number}
use Rattle.replay_run.proofs.Trails.{executed, asked, executed_name, Prints, printed_in, in_printed, printed_before}
use Rattle.replay_run.proofs.Stamps.{AreStamped, stamped_part, made_of, stamp, NeverFalls, falls_filtered, stands_first, printed_falls, printed_resets, history_resets}
use Rattle.replay_run.proofs.RunFacts.{RunOk, asked_of, arrival_name, id_name, safe, log_once, origin, origins, one_arrival, arrival_found, came_of, IsGivenIn, given_executed, asked_as}
use Rattle.replay_run.proofs.RunsOfLines.{run_ok}
use Rattle.replay_run.proofs.Lines.{lines_run}
use Rattle.replay_run.proofs.Locality.{on_partition, legal_on, history_elsewhere, history_at}
use Rattle.replay_run.proofs.Counting.{count_before, count_filter}
use Rattle.replay_run.proofs.Answers.{trail_part, answer_named, given_at, printed_answer, answer_stands, answer_found, arrived_before}

pub answered_once : {State : Type 0} (o : Object Request State) (r : Run) → RunOk o r → (m n : Appended) (id : CallId) → Before r.appended m n → m.answers ≡ Some id → n.answers ≢ Some id
answered_once o r ok m n id before first second =
    count_before (is_answer_to id) r.appended m n (ok.of_answers.once id) before (answer_named id m first) (answer_named id n second)

less : (a b : ℕ) → nat_lt a b ≡ true → a < b
less a b e = grind (arith, nat_tests, e)

module _ (settings : Settings) (r : Run) (ok : RunOk (partition_object settings) r) where
  abbrev pub o : Object Request Partition
  o = partition_object settings

  -- Each call of a partition's trail is on an object of the partition.
  pub at_home : (p : ℕ) (x : Executed Request) → In x (executed (trail (world_at o r p))) → home x.call ≡ p
  at_home p x i =
      let from = origin o r ok.members ok.of_arrivals p x (part_in (executed (trail (world_at o r p))) (executed (world_at o r p).recorded.log) x (trail_part o r ok p) i) in
      ap (λ (k : Asked Request). home k.call) (sym from.3) ∙ (ok.of_arrivals.placed from.0 from.1).own ∙ same_number from.0.request.partition p from.2

  module _ (object : GridObject) where
    abbrev pub p : ℕ
    p = object.partition

    abbrev pub w : World Request
    w = world_at o r p

    abbrev pub log : List (Executed Request)
    log = executed w.recorded.log

    abbrev pub lines : List ℕ
    lines = reopened_at p r.reopened

    abbrev pub entries : List Printed
    entries = printed_from r p 0 lines (trail w)

    abbrev pub h : List Printed
    h = history_of object entries

    -- the trail has the lines of the log
    pub trail_stamped : AreStamped r.arrivals 0 r.lines lines (trail w)
    trail_stamped =
        let safe_at = (safe o r ok.members ok.of_arrivals p).0 in
        stamped_part r.arrivals 0 r.lines lines (trail w) w.recorded.log (subsequence_part (trail w) w.recorded.log safe_at.in_order)
        (count_filter is_reset (trail w) ∙ ap length safe_at.resets ∙ sym (count_filter is_reset w.recorded.log)) (ok.of_reopenings.stamped p)

    pub never_falls : NeverFalls r 0 h
    never_falls = falls_filtered r (is_of object) 0 entries (printed_falls r (λ a i. arrival_found r ok.of_arrivals a i) p 0 0 r.lines lines (trail w) trail_stamped)

    -- an entry is of the arrival of its call
    pub is_of_arrival : (a : Arrival) (x : Executed Request) (e : PrintedCall) → In a r.arrivals → asked_of a ≡ asked x → Prints r p x e → IsOf a e
    is_of_arrival a x e i same prints =
        let named : id_of x ≡ a.request.id = ap (λ (k : Asked Request). record { conn = k.conn; number = k.number }) (sym same) in
        let entry = sym prints.is in
        record {
          id = ap (λ (f : PrintedCall). f.id) entry ∙ named;
          request = ap (λ (f : PrintedCall). f.request) entry ∙ ap (λ (k : Asked Request). k.call) (sym same);
          now = ap (λ (f : PrintedCall). f.now) entry ∙ ap (λ (k : Asked Request). k.now) (sym same);
          line = ap (λ (f : PrintedCall). f.arrived) entry ∙ ap (λ c. unwrap_or (came_at r c) 0) named ∙ ap (λ line. unwrap_or line 0) (came_of r ok.of_arrivals a i);
        }

    -- it has the line of that arrival
    pub line_of_entry : (x : Executed Request) (e : PrintedCall) → In x log → Prints r p x e → (a : Arrival) → In a r.arrivals → arrival_name a ≡ executed_name x → e.arrived ≡ a.line
    line_of_entry x e i prints a j same = (is_of_arrival a x e j (asked_as o r ok.members ok.of_arrivals a p x j i (sym same)) prints).line

    -- two entries in order
    pub record InOrder (a b : PrintedCall) : Type 0 where
      pub first : Executed Request
      pub second : Executed Request
      pub before : Before log first second
      pub prints_first : Prints r p first a
      pub prints_second : Prints r p second b

    -- the call of an entry
    pub entry_call : (e : PrintedCall) → In (Call e) h → (is_on object e.request ≡ true) × ((x : Executed Request) × In x log × Prints r p x e)
    entry_call e i =
        let f = in_filtered (is_of object) entries (Call e) i in
        let k = printed_in r p 0 lines (trail w) e f.0 in
        (f.1, (k.0, part_in (executed (trail w)) log k.0 (trail_part o r ok p) k.1, k.2))

    pub entries_in_order : (a b : PrintedCall) → Before h (Call a) (Call b) → InOrder a b
    entries_in_order a b before =
        let k = printed_before r p 0 lines (trail w) a b (before_part h entries (Call a) (Call b) (part_filter (is_of object) entries) before) in
        record {
          first = k.0;
          second = k.1.0;
          before = before_part (executed (trail w)) log k.0 k.1.0 (trail_part o r ok p) k.1.1;
          prints_first = k.1.2;
          prints_second = k.1.3;
        }

    pub legal : IsLegal (one_object settings object.name) (nothing_of object.name) h
    legal =
        legal_on settings r object 0 lines nothing_stored (nothing_of object.name) (trail w) (at_home p) (record_at-nothing object.name)
        (safe o r ok.members ok.of_arrivals p).0.legal

    pub arrived : (e : PrintedCall) → Contains h (Call e) → (is_on object e.request ≡ true) × ((a : Arrival) × Contains r.arrivals a × IsOf a e)
    arrived e c =
        let k = entry_call e (in_contains (Call e) h c) in
        let from = origin o r ok.members ok.of_arrivals p k.1.0 k.1.1 in
        (k.0, (from.0, contains_in from.0 r.arrivals from.1, is_of_arrival from.0 k.1.0 e from.1 from.3 k.1.2))

    pub unrefused : (e : PrintedCall) (m : Appended) → Contains h (Call e) → Contains r.appended m → m.refuses ≢ Some e.id
    unrefused e m c d refused =
        let k = entry_call e (in_contains (Call e) h c) in
        ok.of_refusals.unexecuted m e.id (in_contains m r.appended d) refused p k.1.0 k.1.1 (ap (λ (f : PrintedCall). id_name f.id) k.1.2.is)

    pub once : (a b : PrintedCall) → Before h (Call a) (Call b) → a.id ≢ b.id
    once a b before same =
        let k = entries_in_order a b before in
        named_apart executed_name log k.first k.second (log_once o r ok.members ok.of_arrivals p) k.before
        (ap id_name (ap (λ (f : PrintedCall). f.id) k.prints_first.is ∙ same ∙ ap (λ (f : PrintedCall). f.id) (sym k.prints_second.is)))

    -- an entry of the call that an answer was given to
    pub entry_of_answer : (a : Arrival) (m : Appended) (g : IsGivenIn o r p m a.request.id) (e : PrintedCall) → In a r.arrivals → is_on object a.request ≡ true
        → answer_of r a.request.id ≡ Some m → In (Call e) entries → Prints r p g.call e
        → Contains h (Call e) × IsOf a e × (e.reply ≡ m.bytes) × (e.answered ≡ Some m.line)
    entry_of_answer a m g e i its found j prints =
        let is = is_of_arrival a g.call e i (asked_as o r ok.members ok.of_arrivals a p g.call i (given_executed m a.request.id g) (ap id_name g.call_is)) prints in (
          contains_in (Call e) h (in_filter (is_of object) entries (Call e) j (ap (is_on object) is.request ∙ its)),
          is,
          ap (λ (f : PrintedCall). f.reply) (sym prints.is) ∙ sym g.reply,
          ap (λ (f : PrintedCall). f.answered) (sym prints.is) ∙ ap (λ c. option_map (λ (n : Appended). n.line) (answer_of r c)) g.call_is ∙ ap (λ n. option_map (λ (n : Appended). n.line) n) found,
        )

    pub answered_there : (a : Arrival) (m : Appended) (g : IsGivenIn o r p m a.request.id) → In a r.arrivals → is_on object a.request ≡ true → answer_of r a.request.id ≡ Some m
        → (e : PrintedCall) × Contains h (Call e) × IsOf a e × (e.reply ≡ m.bytes) × (e.answered ≡ Some m.line)
    answered_there a m g i its found =
        let k = in_printed r p 0 lines (trail w) g.call (answer_stands o r ok p m a.request.id g) in
        let e = entry_of_answer a m g k.0 i its found k.1 k.2 in
        (k.0, e.0, e.1, e.2, e.3)

    pub answered : (a : Arrival) (m : Appended) → Contains r.arrivals a → is_on object a.request ≡ true → Contains r.appended m → m.answers ≡ Some a.request.id
        → (e : PrintedCall) × Contains h (Call e) × IsOf a e × (e.reply ≡ m.bytes) × (e.answered ≡ Some m.line)
    answered a m c its d s =
        let i = in_contains a r.arrivals c in
        let j = in_contains m r.appended d in
        let there : a.request.partition ≡ p = sym (ok.of_arrivals.placed a i).own ∙ on_partition object a.request its in
        answered_there a m (subst (λ k. IsGivenIn o r k m a.request.id) there (given_at o r ok a m i j s)) i its (answer_found o r ok m a.request.id j s)

    pub given : (e : PrintedCall) (line : ℕ) → Contains h (Call e) → e.answered ≡ Some line → (m : Appended) × Contains r.appended m × (m.answers ≡ Some e.id) × (m.line ≡ line) × (m.bytes ≡ e.reply)
    given e line c s =
        let k = entry_call e (in_contains (Call e) h c) in
        let prints = k.1.2 in
        let found = printed_answer o r ok p k.1.0 line k.1.1 (ap (λ (f : PrintedCall). f.answered) prints.is ∙ s) in (
          found.message,
          contains_in found.message r.appended found.there,
          found.answers ∙ ap (λ (f : PrintedCall). Some f.id) prints.is,
          found.at_line,
          found.given.reply ∙ ap (λ (x : Executed Request). x.reply) found.is ∙ ap (λ (f : PrintedCall). f.reply) prints.is,
        )

    pub ordered : (a b : PrintedCall) (line : ℕ) → Before h (Call a) (Call b) → b.answered ≡ Some line → a.arrived ≤ line
    ordered a b line before s =
        let k = entries_in_order a b before in
        let found = printed_answer o r ok p k.second line (before_second log k.first k.second k.before) (ap (λ (f : PrintedCall). f.answered) k.prints_second.is ∙ s) in
        let by_then = arrived_before o r ok p k.first k.second found.message (id_of k.second) found.given found.is k.before in
        let at = line_of_entry k.first a (before_first log k.first k.second k.before) k.prints_first by_then.0 by_then.1 by_then.2 in
        let later = ok.of_arrivals.later by_then.0 by_then.1 in
        omega (arith, at, by_then.3, found.at_line, later)

    pub same_line : (a b : PrintedCall) (x y : Arrival) → Before h (Call a) (Call b) → a.arrived ≡ b.arrived → Contains r.arrivals x → Contains r.arrivals y → IsOf x a → IsOf y b
        → x.waits ≡ false → y.waits ≡ false → a.id.number < b.id.number
    same_line a b x y before s c d of_first of_second quiet quiet_too =
        let k = entries_in_order a b before in
        let from = origins o r ok.members ok.of_arrivals p k.first k.second k.before in
        let i = before_first r.arrivals from.0 from.1.0 from.1.1 in
        let j = before_second r.arrivals from.0 from.1.0 from.1.1 in
        let first = is_of_arrival from.0 k.first a i from.1.2 k.prints_first in
        let second = is_of_arrival from.1.0 k.second b j from.1.3 k.prints_second in
        let same_first : from.0 ≡ x = one_arrival r ok.of_arrivals from.0 x i (in_contains x r.arrivals c) (ap id_name (sym first.id ∙ of_first.id)) in
        let same_second : from.1.0 ≡ y = one_arrival r ok.of_arrivals from.1.0 y j (in_contains y r.arrivals d) (ap id_name (sym second.id ∙ of_second.id)) in
        let one_line : from.0.line ≡ from.1.0.line = sym first.line ∙ s ∙ second.line in
        let one_conn = ok.of_arrivals.of_line from.0 from.1.0 i j one_line in
        let apart = ok.of_arrivals.rising from.0 from.1.0 from.1.1 (ap (λ (e : Arrival). e.waits) same_first ∙ quiet) (ap (λ (e : Arrival). e.waits) same_second ∙ quiet_too) one_conn in
        let left = ap (λ (e : CallId). e.number) first.id in
        let right = ap (λ (e : CallId). e.number) second.id in
        omega (arith, apart, left, right)

    pub resets : reset_lines h ≡ lines
    resets = history_resets r object 0 lines (trail w) ∙ printed_resets r r.arrivals p 0 0 r.lines lines (trail w) trail_stamped

    -- the arrival of an entry's call
    pub record IsFrom (e : PrintedCall) : Type 0 where
      pub arrival : Arrival
      pub there : In arrival r.arrivals
      pub is : IsOf arrival e
      pub made : stamp r (Call e) ≡ arrival.made

    pub comes_from : (e : PrintedCall) → In (Call e) h → IsFrom e
    comes_from e i =
        let k = entry_call e i in
        let from = origin o r ok.members ok.of_arrivals p k.1.0 k.1.1 in
        let is = is_of_arrival from.0 k.1.0 e from.1 from.3 k.1.2 in
        record { arrival = from.0; there = from.1; is = is; made = ap (λ c. made_of (arrival_of r c)) is.id ∙ ap made_of (arrival_found r ok.of_arrivals from.0 from.1) }

    -- a call was answered no sooner than it was made
    pub made_by_answer : (a : PrintedCall) (line : ℕ) → In (Call a) h → a.answered ≡ Some line → stamp r (Call a) ≤ line
    made_by_answer a line i s =
        let k = entry_call a i in
        let found = printed_answer o r ok p k.1.0 line k.1.1 (ap (λ (f : PrintedCall). f.answered) k.1.2.is ∙ s) in
        let by_then = found.given.arrived found.given.call found.given.has in
        let from = comes_from a i in
        let named : arrival_name by_then.0 ≡ arrival_name from.arrival = by_then.2 ∙ ap executed_name found.is ∙ ap (λ (f : PrintedCall). id_name f.id) k.1.2.is ∙ ap id_name from.is.id in
        let one = ap (λ (e : Arrival). e.made) (one_arrival r ok.of_arrivals by_then.0 from.arrival by_then.1 from.there named) in
        let made = from.made in
        omega (arith, one, made, by_then.3, found.at_line)

    pub before_reset : (a : PrintedCall) (b : PrintedReset) (line : ℕ) → Contains h (Call a) → Contains h (Reset b) → a.answered ≡ Some line → line < b.line → Before h (Call a) (Reset b)
    before_reset a b line c d s l =
        let by_then = made_by_answer a line (in_contains (Call a) h c) s in
        stands_first r 0 h (Call a) (Reset b) never_falls (in_contains (Call a) h c) (in_contains (Reset b) h d) (omega (arith, by_then, l))

    pub after_reset : (a : PrintedCall) (b : PrintedReset) → Contains h (Call a) → Contains h (Reset b) → b.line < a.arrived → Before h (Reset b) (Call a)
    after_reset a b c d l =
        let from = comes_from a (in_contains (Call a) h c) in
        let later = ok.of_arrivals.later from.arrival from.there in
        let arrived_at = from.is.line in
        let made = from.made in
        stands_first r 0 h (Reset b) (Call a) never_falls (in_contains (Reset b) h d) (in_contains (Call a) h c) (omega (arith, later, arrived_at, made, l))

    -- the history in the object's own partition
    pub fits : Fits (one_object settings object.name) object r h
    fits = record {
      legal = legal;
      arrived = arrived;
      unrefused = unrefused;
      once = once;
      answered = answered;
      answered_once = answered_once o r ok;
      given = given;
      ordered = ordered;
      same_line = same_line;
      resets = resets;
      before_reset = before_reset;
      after_reset = after_reset;
    }

    elsewhere : (q : ℕ) → p ≢ q → history_of object (entries_of o r q) ≡ []
    elsewhere q other =
        history_elsewhere r q 0 (reopened_at q r.reopened) object (trail (world_at o r q)) (λ e. other (sym e)) (λ x i e. other (sym e ∙ at_home q x i))

    -- and in all histories of the grid's partitions, where it is one of them
    pub all_fit : p < partitions → Fits (one_object settings object.name) object r (history_of object (all_entries o r))
    all_fit within = subst (λ es. Fits (one_object settings object.name) object r es) (sym (history_at object (entries_of o r) elsewhere partitions within)) fits

-- So one thread that used one object could have seen each history that a line prints.
pub linear : (settings : Settings) (r : Run) → RunOk (partition_object settings) r → IsLinearizable settings r
linear settings r ok (Trail partition) object shown =
    subst (λ q. Fits (one_object settings object.name) object r (history_of object (entries_of (partition_object settings) r q))) (same_number object.partition partition shown) (fits settings r ok object)
linear settings r ok End object shown = all_fit settings r ok object (less object.partition partitions shown)
linear settings r ok line object shown = absurd cc

pub every_run_is_linearizable : EveryRunIsLinearizable
every_run_is_linearizable settings members backups skips lines grid =
    linear settings (after_lines (partition_object settings) skips (begun members backups) lines)
    (run_ok (lines_run skips (begun members backups) lines (grid_begun members backups grid)))
