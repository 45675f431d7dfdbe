-- On which connections a byte has arrived.
use Rattle.std.proofs.Common.{◌≡◌, ◌≢◌, ℕ, zero, suc, ◌≤◌, ◌<◌, ◌==◌, ◌&&◌, ◌||◌, Bool, true, false, not, cond, List, [], ◌∷◌, ◌++◌, length, replicate, get_or, Option, Some, None, refl, ap, sym, ◌∙◌, subst, arith, Vec, Global}
use Rattle.std.specs.Prelude.{slice_get, slice_set, is_some, option_and_then}
use Rattle.std.specs.List.{find}
use Rattle.std.proofs.lemmas.Bool.Decides.{nat_tests}
use Rattle.grid_base.specs.Objects.{Object}
use Rattle.grid_base.specs.declared.names.CallId.{CallId}
use Rattle.grid_base.specs.declared.calls.Request.{Request}
use Rattle.call_engine.specs.Calls.{Settings}
use Rattle.call_engine.specs.Objects.{partition_object}
use Rattle.object_store.specs.Partitions.{Partition}
use Rattle.partition_protocol.specs.Events as event
use Rattle.partition_protocol.specs.Service.{numbers_below}
use Rattle.partition_protocol.proofs.Lists.{on_if}
use Rattle.script_lang.specs.declared.line.Line.{Line}
use Rattle.script_lang.specs.declared.line.Line.TheVariants.{OpenConn, Arrive, Clock, Flow, FlowAll, Crash, Detect, Rebalance}
use Rattle.replay_run.specs.Runs.{Run, Connection, begun, partitions, is_connection, connection_of, takes_bytes, can_open, opened, updated, with_bytes, is_open, took_bytes, items_by, forsaken, handled_all, bytes_arrived, next_line, clock_set, event_by}
use Rattle.replay_run.specs.AfterLines.{after_line}
use Rattle.replay_run.specs.WorldCalls.{member_if_open, open_member_in}
use Rattle.replay_run.proofs.EventRuns.{Kept, takes_kept, served_in_kept, flowed_kept, flowed_in_kept, takes_in_kept, forsaken_kept}
use Rattle.replay_run.proofs.Rebalanced.{rebalanced_kept}
use Rattle.replay_run.proofs.Bounds.{event_kept}
use Rattle.replay_run.proofs.Lines.{handled_all_come}
use Rattle.masters_run.specs.Runs.{RuledRun}
use Rattle.masters_run.specs.AfterLines as ruled
use Rattle.masters_run.proofs.KeptLines.{bytes_after}
use Rattle.masters_run.proofs.RuledRuns.{line_keeps}
use Rattle.script_run.specs.Runs.{is_silent, is_new, takes}
use Rattle.script_run.specs.Grids.{has_spoken, AreSpoken}

-- whether bytes have arrived on the connection of that number
abbrev pub spoken_on : List Connection → ℕ → Bool
spoken_on ks c = has_spoken (find (is_connection c) ks)

-- a new connection is silent
spoken_opened : (ks : List Connection) (k : Connection) (c : ℕ) → k.bytes ≡ [] → spoken_on (ks ++ k ∷ []) c ≡ spoken_on ks c
spoken_opened [] k c silent = by (is_connection c k)
  where
    by : (b : Bool) → has_spoken (cond b (Some k) None) ≡ false
    by true = ap (λ (bytes : List ℕ). not (is_silent bytes)) silent
    by false = refl
spoken_opened (j ∷ ks) k c silent = by (is_connection c j) (spoken_opened ks k c silent)
  where
    by : (b : Bool) → spoken_on (ks ++ k ∷ []) c ≡ spoken_on ks c → has_spoken (cond b (Some j) (find (is_connection c) (ks ++ k ∷ []))) ≡ has_spoken (cond b (Some j) (find (is_connection c) ks))
    by true rest = refl
    by false rest = rest

-- bytes on another connection
spoken_other : (ks : List Connection) (new : Connection) (c : ℕ) → (new.conn == c) ≡ false → spoken_on (updated new ks) c ≡ spoken_on ks c
spoken_other [] new c other = refl
spoken_other (k ∷ ks) new c other = by (k.conn == new.conn) refl (is_connection c k) refl (spoken_other ks new c other)
  where
    by : (b : Bool) → (k.conn == new.conn) ≡ b → (d : Bool) → is_connection c k ≡ d → spoken_on (updated new ks) c ≡ spoken_on ks c
        → has_spoken (cond (is_connection c (cond b new k)) (Some (cond b new k)) (find (is_connection c) (updated new ks))) ≡ has_spoken (cond d (Some k) (find (is_connection c) ks))
    by true same true its rest = absurd (grind (arith, nat_tests))
    by true same false its rest = rw other rest
    by false same true its rest = rw its refl
    by false same false its rest = rw its rest

-- bytes on the connection itself
spoken_here : (ks : List Connection) (new old : Connection) (c : ℕ) → find (is_connection c) ks ≡ Some old → (new.conn == c) ≡ true → not (is_silent new.bytes) ≡ true → spoken_on (updated new ks) c ≡ true
spoken_here [] new old c found own speaks = absurd cc
spoken_here (k ∷ ks) new old c found own speaks = by (k.conn == new.conn) refl (is_connection c k) refl found (λ e. spoken_here ks new old c e own speaks)
  where
    by : (b : Bool) → (k.conn == new.conn) ≡ b → (d : Bool) → is_connection c k ≡ d → cond d (Some k) (find (is_connection c) ks) ≡ Some old → (find (is_connection c) ks ≡ Some old → spoken_on (updated new ks) c ≡ true)
        → has_spoken (cond (is_connection c (cond b new k)) (Some (cond b new k)) (find (is_connection c) (updated new ks))) ≡ true
    by true same d its found rest = rw own speaks
    by false same true its found rest = absurd (grind (arith, nat_tests))
    by false same false its found rest = rw its (rest found)

-- the connection that is found has the number
found_number : (c : ℕ) (ks : List Connection) (x : Connection) → find (is_connection c) ks ≡ Some x → x.conn ≡ c
found_number c [] x e = absurd cc
found_number c (k ∷ ks) x e = by (is_connection c k) refl e (found_number c ks x)
  where
    by : (b : Bool) → is_connection c k ≡ b → cond b (Some k) (find (is_connection c) ks) ≡ Some x → (find (is_connection c) ks ≡ Some x → x.conn ≡ c) → x.conn ≡ c
    by true is e rest = let one : k ≡ x = cc in let own : k.conn ≡ c = grind (arith, nat_tests) in sym (ap (λ (j : Connection). j.conn) one) ∙ own
    by false is e rest = rest e

-- a line that brings no bytes

module _ (o : Object Request Partition) (skips : List CallId) (r : Run) (c : ℕ) where
  abbrev Same : Run → Type 0
  Same next = has_spoken (connection_of next c) ≡ has_spoken (connection_of r c)

  kept_same : (next : Run) → Kept (next_line r) next → Same next
  kept_same next kept = ap (λ (ks : List Connection). spoken_on ks c) kept.connections

  pub spoken_kept : (line : Line) → ((k : ℕ) (bytes : List ℕ) → line ≢ Arrive k bytes) → Same (after_line o skips r line)
  spoken_kept (OpenConn k member) other = on_if Same (can_open o r k member) (opened r k member) (next_line r) (spoken_opened r.connections (record { conn = k; member = member; bytes = [] }) c refl) refl
  spoken_kept (Arrive k bytes) other = absurd (other k bytes refl)
  spoken_kept (Clock member moment) other = ap (λ (ks : List Connection). spoken_on ks c) (served_in_kept o skips (clock_set r member moment) member (numbers_below partitions)).connections
  spoken_kept (Flow partition most) other = kept_same _ (flowed_kept o skips (next_line r) partition most)
  spoken_kept (FlowAll most) other = kept_same _ (flowed_in_kept o skips (next_line r) most (numbers_below partitions))
  spoken_kept (Crash member) other = kept_same _ (takes_in_kept o skips (next_line r) (event.Crash member) (numbers_below partitions))
  spoken_kept (Detect member) other = kept_same _ (takes_in_kept o skips (next_line r) (event.Detect member) (numbers_below partitions))
  spoken_kept (Rebalance most) other = kept_same _ (rebalanced_kept o skips (next_line r) most)
  spoken_kept line other = kept_same _ (event_kept o skips (next_line r) (event_by line))

  -- bytes

  -- whether they make the connection speak
  abbrev pub spoken_by : ℕ → List ℕ → Bool
  spoken_by k bytes = has_spoken (connection_of (after_line o skips r (Arrive k bytes)) c)

  bytes_connections : (x : Connection) (bytes : List ℕ) → (forsaken (handled_all o skips (took_bytes r x bytes) x (items_by x bytes)) x.conn).connections ≡ updated (with_bytes x bytes) r.connections
  bytes_connections x bytes =
      let all = handled_all o skips (took_bytes r x bytes) x (items_by x bytes) in
      (forsaken_kept all x.conn).connections ∙ (handled_all_come o skips (took_bytes r x bytes) x (items_by x bytes)).connections

  arrived_elsewhere : (k : ℕ) (bytes : List ℕ) → (k == c) ≡ false → spoken_by k bytes ≡ has_spoken (connection_of r c)
  arrived_elsewhere k bytes other = found (connection_of r k) refl
    where
      by : (x : Connection) → x.conn ≡ k → (b : Bool) → Same (cond b (forsaken (handled_all o skips (took_bytes r x bytes) x (items_by x bytes)) x.conn) (next_line r))
      by x own true =
          let away : (x.conn == c) ≡ false = ap (λ (n : ℕ). n == c) own ∙ other in
          ap (λ (ks : List Connection). spoken_on ks c) (bytes_connections x bytes) ∙ spoken_other r.connections (with_bytes x bytes) c away
      by x own false = refl

      found : (at : Option Connection) → connection_of r k ≡ at → Same (elim at [ None ↦ next_line r | Some x ↦ bytes_arrived o skips r x bytes ])
      found None e = refl
      found (Some x) e = by x (found_number k r.connections x e) (takes_bytes o r x)

  arrived_here : (bytes : List ℕ) → 1 ≤ length bytes → spoken_by c bytes ≡ (takes o r (connection_of r c) || has_spoken (connection_of r c))
  arrived_here bytes some = found (connection_of r c) refl
    where
      speaks : (before more : List ℕ) → 1 ≤ length more → not (is_silent (before ++ more)) ≡ true
      speaks [] [] none = absurd (omega (arith, none))
      speaks [] (b ∷ more) some = refl
      speaks (b ∷ before) more some = refl

      by : (x : Connection) → connection_of r c ≡ Some x → (b : Bool)
          → has_spoken (connection_of (cond b (forsaken (handled_all o skips (took_bytes r x bytes) x (items_by x bytes)) x.conn) (next_line r)) c) ≡ (b || has_spoken (Some x))
      by x e true =
          let own : (x.conn == c) ≡ true = let same = found_number c r.connections x e in grind (arith, nat_tests) in
          ap (λ (ks : List Connection). spoken_on ks c) (bytes_connections x bytes) ∙ spoken_here r.connections (with_bytes x bytes) x c e own (speaks x.bytes bytes some)
      by x e false = ap has_spoken e

      found : (at : Option Connection) → connection_of r c ≡ at
          → has_spoken (connection_of (elim at [ None ↦ next_line r | Some x ↦ bytes_arrived o skips r x bytes ]) c) ≡ (takes o r at || has_spoken at)
      found None e = ap has_spoken e
      found (Some x) e = by x e (takes_bytes o r x)

-- places of a list

set_here : (xs : List Bool) (i : ℕ) (old new : Bool) → slice_get xs i ≡ Some old → slice_get (slice_set xs i new) i ≡ Some new
set_here [] i old new e = absurd cc
set_here (x ∷ xs) zero old new e = refl
set_here (x ∷ xs) (suc i) old new e = set_here xs i old new e

set_elsewhere : (xs : List Bool) (i k : ℕ) (new : Bool) → (i == k) ≡ false → slice_get (slice_set xs i new) k ≡ slice_get xs k
set_elsewhere [] i k new other = refl
set_elsewhere (x ∷ xs) zero zero new other = absurd (grind (arith, nat_tests))
set_elsewhere (x ∷ xs) zero (suc k) new other = refl
set_elsewhere (x ∷ xs) (suc i) zero new other = refl
set_elsewhere (x ∷ xs) (suc i) (suc k) new other = let apart : (i == k) ≡ false = grind (arith, nat_tests) in set_elsewhere xs i k new apart

silent : (n c : ℕ) → c < n → slice_get (replicate n false) c ≡ Some false
silent zero c low = absurd (omega (arith, low))
silent (suc n) zero low = refl
silent (suc n) (suc c) low = silent n c (omega (arith, low))

-- No byte has arrived at first.
pub silent_at_first : (spoken : List Bool) (members backups n : ℕ) → spoken ≡ replicate n false → 64 ≤ n → AreSpoken spoken (begun members backups)
silent_at_first spoken members backups n all enough c within = ap (λ (xs : List Bool). slice_get xs c) all ∙ silent n c (omega (arith, enough, within))

-- where every line but one of bytes leaves it, and one of bytes, with masters or without

pub are_spoken_kept : (o : Object Request Partition) (skips : List CallId) (s : RuledRun) (spoken : List Bool) (line : Line) → ((k : ℕ) (bytes : List ℕ) → line ≢ Arrive k bytes) → AreSpoken spoken s.run → AreSpoken spoken (ruled.after_line o skips s line).run
are_spoken_kept o skips s spoken line other are c within =
    are c within
    ∙ ap Some (sym (line_keeps o skips (Same o skips s.run c) (λ r h. h) (λ r p e quiet h. ap (λ (ks : List Connection). spoken_on ks c) (takes_kept o skips r p e).connections ∙ h) s line refl (spoken_kept o skips s.run c line other)))

-- bytes, to the grid by itself

taking_alone : (o : Object Request Partition) (skips : List CallId) (r : Run) (spoken : List Bool) (k : ℕ) (bytes : List ℕ) → 1 ≤ length bytes → takes o r (connection_of r k) ≡ true → AreSpoken spoken r
    → AreSpoken (slice_set spoken k true) (after_line o skips r (Arrive k bytes))
taking_alone o skips r spoken k bytes some taking are c within = by (k == c) refl
  where
    by : (b : Bool) → (k == c) ≡ b → slice_get (slice_set spoken k true) c ≡ Some (spoken_by o skips r c k bytes)
    by true own =
        let same : k ≡ c = grind (arith, nat_tests) in
        let is : spoken_by o skips r c c bytes ≡ true = arrived_here o skips r c bytes some ∙ ap (λ (t : Bool). t || has_spoken (connection_of r c)) (ap (λ (n : ℕ). takes o r (connection_of r n)) (sym same) ∙ taking) in
        subst (λ (n : ℕ). slice_get (slice_set spoken n true) c ≡ Some (spoken_by o skips r c n bytes)) (sym same) (set_here spoken c (has_spoken (connection_of r c)) true (are c within) ∙ ap Some (sym is))
    by false other = set_elsewhere spoken k c true other ∙ are c within ∙ ap Some (sym (arrived_elsewhere o skips r c k bytes other))

refusing_alone : (o : Object Request Partition) (skips : List CallId) (r : Run) (spoken : List Bool) (k : ℕ) (bytes : List ℕ) → 1 ≤ length bytes → takes o r (connection_of r k) ≡ false → AreSpoken spoken r
    → AreSpoken spoken (after_line o skips r (Arrive k bytes))
refusing_alone o skips r spoken k bytes some refusing are c within = by (k == c) refl
  where
    by : (b : Bool) → (k == c) ≡ b → slice_get spoken c ≡ Some (spoken_by o skips r c k bytes)
    by true own =
        let same : k ≡ c = grind (arith, nat_tests) in
        let is : spoken_by o skips r c c bytes ≡ has_spoken (connection_of r c) = arrived_here o skips r c bytes some ∙ ap (λ (t : Bool). t || has_spoken (connection_of r c)) (ap (λ (n : ℕ). takes o r (connection_of r n)) (sym same) ∙ refusing) in
        subst (λ (n : ℕ). slice_get spoken c ≡ Some (spoken_by o skips r c n bytes)) (sym same) (are c within ∙ ap Some (sym is))
    by false other = are c within ∙ ap Some (sym (arrived_elsewhere o skips r c k bytes other))

-- and with masters

pub are_spoken_taking : (o : Object Request Partition) (skips : List CallId) (s : RuledRun) (spoken : List Bool) (k : ℕ) (bytes : List ℕ) → 1 ≤ length bytes → takes o s.run (connection_of s.run k) ≡ true → AreSpoken spoken s.run
    → AreSpoken (slice_set spoken k true) (ruled.after_line o skips s (Arrive k bytes)).run
are_spoken_taking o skips s spoken k bytes some taking are =
    subst (λ (x : RuledRun). AreSpoken (slice_set spoken k true) x.run) (sym (bytes_after o skips s k bytes)) (taking_alone o skips s.run spoken k bytes some taking are)

pub are_spoken_refusing : (o : Object Request Partition) (skips : List CallId) (s : RuledRun) (spoken : List Bool) (k : ℕ) (bytes : List ℕ) → 1 ≤ length bytes → takes o s.run (connection_of s.run k) ≡ false → AreSpoken spoken s.run
    → AreSpoken spoken (ruled.after_line o skips s (Arrive k bytes)).run
are_spoken_refusing o skips s spoken k bytes some refusing are =
    subst (λ (x : RuledRun). AreSpoken spoken x.run) (sym (bytes_after o skips s k bytes)) (refusing_alone o skips s.run spoken k bytes some refusing are)

-- Bytes can arrive where the grid has a member for them.
pub takes_is : (settings : Settings) (r : Run) (c : ℕ) → is_some (open_member_in settings r c) ≡ takes (partition_object settings) r (connection_of r c)
takes_is settings r c = at (connection_of r c)
  where
    by : (b : Bool) (member : ℕ) → is_some (cond b (Some member) None) ≡ b
    by true member = refl
    by false member = refl

    at : (found : Option Connection) → is_some (option_and_then (member_if_open settings r) found) ≡ takes (partition_object settings) r found
    at None = refl
    at (Some k) = by (takes_bytes (partition_object settings) r k) k.member

inside : (xs : List Bool) (i : ℕ) (x : Bool) → slice_get xs i ≡ Some x → i < length xs
inside [] i x e = absurd cc
inside (y ∷ xs) zero x e = omega arith
inside (y ∷ xs) (suc i) x e = let rest = inside xs i x e in omega (arith, rest)

pub spoken_within : (spoken : List Bool) (r : Run) (c : ℕ) → AreSpoken spoken r → c ≤ 63 → c < length spoken
spoken_within spoken r c are within = inside spoken c (has_spoken (connection_of r c)) (are c within)

-- what is read of it
pub is_read : (spoken : List Bool) (r : Run) (c : ℕ) (b : Bool) → AreSpoken spoken r → c ≤ 63 → b ≡ get_or spoken c b → b ≡ has_spoken (connection_of r c)
is_read spoken r c b are within read = read ∙ of_place spoken c (has_spoken (connection_of r c)) b (are c within)
  where
    of_place : (xs : List Bool) (i : ℕ) (x d : Bool) → slice_get xs i ≡ Some x → get_or xs i d ≡ x
    of_place [] i x d e = absurd cc
    of_place (y ∷ xs) zero x d e = (let same : y ≡ x = cc in same)
    of_place (y ∷ xs) (suc i) x d e = of_place xs i x d e

-- A connection is new where it is open and hasn't spoken.

pub new_if : (found : Option Connection) (b : Bool) → is_open found ≡ true → b ≡ has_spoken found → not b ≡ is_new found
new_if None b opened spoken = absurd cc
new_if (Some k) b opened spoken = ap not spoken ∙ twice (is_silent k.bytes) ∙ sym (ap (λ t. t && is_silent k.bytes) opened)
  where
    twice : (b : Bool) → not (not b) ≡ b
    twice true = refl
    twice false = refl

pub not_new : (found : Option Connection) → is_open found ≡ false → false ≡ is_new found
not_new None closed = refl
not_new (Some k) closed = sym (ap (λ t. t && is_silent k.bytes) closed)

pub are_spoken_as : (settings : Settings) (skips : List CallId) (s : RuledRun) (old new : Vec Bool Global) (line : Line) → ((k : ℕ) (bytes : List ℕ) → line ≢ Arrive k bytes) → new ≡ old → AreSpoken old.items s.run
    → AreSpoken new.items (ruled.after_line (partition_object settings) skips s line).run
are_spoken_as settings skips s old new line other same are =
    subst (λ (xs : Vec Bool Global). AreSpoken xs.items (ruled.after_line (partition_object settings) skips s line).run) (sym same) (are_spoken_kept (partition_object settings) skips s old.items line other are)
