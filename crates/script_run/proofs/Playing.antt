-- What the grid runs at a line, and what that makes of the run of a script.
use Rattle.std.proofs.Common.{◌≡◌, ◌≢◌, ℕ, ◌+◌, ◌≤◌, true, false, cond, List, [], ◌++◌, map, refl, ap, sym, ◌∙◌, subst, arith, Vec, Global, Bool}
use Rattle.grid_base.specs.declared.names.CallId.{CallId}
use Rattle.call_engine.specs.Calls.{Settings}
use Rattle.call_engine.specs.Objects.{partition_object}
use Rattle.partition_protocol.proofs.Lists.{in_contains}
use Rattle.script_lang.specs.Limits.{most_line_bytes}
use Rattle.script_lang.specs.Lines.{IsWithin}
use Rattle.script_lang.specs.declared.line.Line.{Line}
use Rattle.script_lang.specs.declared.line.Line.TheVariants.{Arrive, Near, NearGet, NearFeed, Comment}
use Rattle.line_told.specs.declared.told.Ready.{Ready}
use Rattle.line_told.specs.declared.told.Told.{Told}
use Rattle.replay_run.specs.Appending.{new_messages}
use Rattle.replay_run.specs.Grids.{FormOf, most_arriving}
use Rattle.replay_run.specs.Runs.{Run, Appended}
use Rattle.masters_run.specs.AfterLines as ruled_after
use Rattle.masters_run.specs.Grids as ruled
use Rattle.masters_run.specs.Grids.{AreOfLine}
use Rattle.masters_run.specs.LineTold as ruled_told
use Rattle.masters_run.specs.Runs.{RuledRun}
use Rattle.masters_run.proofs.KeptLines.{comment_after}
use Rattle.script_run.specs.declared.grid.ScriptGrid.{ScriptGrid}
use Rattle.script_run.specs.declared.told.ScriptTold.{ScriptTold}
use Rattle.script_run.specs.NearClients.{NearClient}
use Rattle.script_run.specs.Outputs.{messages_in}
use Rattle.script_run.specs.Runs.{ScriptRun, ruled_of, grid_line, nears_by, is_near_connection}
use Rattle.script_run.specs.AfterLines.{noting, played, after_line}
use Rattle.script_run.specs.LineTold.{told_of, by_grid, idle, grid_told, line_told}
use Rattle.script_run.specs.Grids.{AreNear, AreSpoken, Goes, Stands, MayRun, HasTold, IsGivenUp, MayPlay, HasPlayed, IsGivenUpAt}
use Rattle.script_run.proofs.Nears.{none_noted}
use Rattle.script_run.proofs.LineMessages.{none_new}
use Rattle.script_run.proofs.RuledMessages.{in_ruled_line}
use Rattle.script_run.proofs.Spoken.{are_spoken_as}

pub if_true : {X : Type 0} (b : Bool) (x y : X) → b ≡ true → cond b x y ≡ x
if_true true x y e = refl
if_true false x y e = absurd cc

pub if_false : {X : Type 0} (b : Bool) (x y : X) → b ≡ false → cond b x y ≡ y
if_false true x y e = absurd cc
if_false false x y e = refl

-- the same of another line

pub may_run_as : {V : Type 0} {T : V → Type 0} {form : FormOf V T} {all : ScriptGrid V T} {number : ℕ} {line other : Line} → line ≡ other → MayRun form all number line → MayRun form all number other
may_run_as {form = form} {all = all} {number = number} same = subst (MayRun form all number) same

pub has_told_as : {V : Type 0} {T : V → Type 0} {form : FormOf V T} {settings : Settings} {new : ScriptGrid V T} {s : ScriptRun} {line other : Line} {told : ScriptTold} → line ≡ other → HasTold form settings new s other told → HasTold form settings new s line told
has_told_as {form = form} {settings = settings} {new = new} {s = s} {told = told} same = subst (λ l. HasTold form settings new s l told) (sym same)

pub given_up_as : {settings : Settings} {s : ScriptRun} {line other : Line} → line ≡ other → IsGivenUp settings s other → IsGivenUp settings s line
given_up_as {settings = settings} {s = s} same = subst (IsGivenUp settings s) (sym same)

-- a line of a longer text is within its limits
pub longer : (line : Line) (m a b : ℕ) → a ≤ b → IsWithin m a line → IsWithin m b line
longer (Arrive conn bytes) m a b more w = (w.0, w.1, omega (arith, more, w.2))
longer (Near conn name capacity) m a b more w = (w.0, w.1, omega (arith, more, w.2), w.3, w.4)
longer (NearGet conn key) m a b more w = (w.0, w.1, omega (arith, more, w.2))
longer line m a b more w = w

-- which line is next

pub next_number : {V : Type 0} {T : V → Type 0} {form : FormOf V T} {settings : Settings} (all : ScriptGrid V T) (number : ℕ) (line : Line) → MayRun form all number line → (s : ScriptRun) → Stands form settings all s → number ≡ s.run.lines + 1
next_number all number line may s stands = may.next ∙ ap (λ n. n + 1) (sym may.stands.goes.grid.grid.holds.lines ∙ stands.goes.grid.grid.holds.lines)

pub same_members : {V : Type 0} {T : V → Type 0} {form : FormOf V T} {settings : Settings} {all : ScriptGrid V T} {number : ℕ} {line : Line} (may : MayRun form all number line) (s : ScriptRun) → Stands form settings all s → may.run.run.members ≡ s.run.members
same_members may s stands = sym may.stands.goes.grid.grid.holds.members ∙ stands.goes.grid.grid.holds.members

-- The grid may run what the line is to it.
pub grid_may : {V : Type 0} {T : V → Type 0} {form : FormOf V T} {all : ScriptGrid V T} {number : ℕ} {line : Line} → MayPlay form all number line → ruled.MayRun form all.grid number line
grid_may may = record { settings = may.settings; run = ruled_of may.run; stands = may.goes.grid; read = may.read; next = may.next; within = may.within }

pub may_play : {V : Type 0} {T : V → Type 0} {form : FormOf V T} {all : ScriptGrid V T} {number : ℕ} {line : Line} → MayRun form all number line → MayPlay form all number line
may_play {line = line} may = record {
  settings = may.settings;
  run = may.run;
  goes = may.stands.goes;
  read = longer line may.run.run.members most_line_bytes most_arriving (omega arith) may.read;
  next = may.next;
  within = may.within;
}

-- a line at which nothing happens on the grid
pub may_count : {V : Type 0} {T : V → Type 0} {form : FormOf V T} {all : ScriptGrid V T} {number : ℕ} {line : Line} → MayRun form all number line → MayPlay form all number Comment
may_count may = record { settings = may.settings; run = may.run; goes = may.stands.goes; read = tt; next = may.next; within = may.within }

-- a line whose calls all found memory
no_skips : (settings : Settings) (s : RuledRun) (line : Line) → AreOfLine settings s line []
no_skips settings s line id there = absurd (in_contains id [] there)

-- The grid ran a line, and the messages that this told were noted.
pub has_played : {V : Type 0} {T : V → Type 0} {form : FormOf V T} {settings : Settings} (new : ScriptGrid V T) (s : ScriptRun) (line : Line) (start ready : Ready) → start.told.items ≡ [] → start.printed.items ≡ []
    → AreNear new.nears.items (map (noting (messages_in ready.told.items)) s.nears) → ruled.HasGiven form settings new.grid (ruled_of s) line start ready → HasPlayed form settings new s line ready
has_played {form = form} {settings = settings} new s line start ready none blank nears gave =
    let ran = gave.told in
    let next = played settings ran.skips s line in
    let told : ready.told.items ≡ ruled_told.line_told settings ran.skips (ruled_of s) line (ruled_of next) = ran.added ∙ ap (λ (xs : List Told). xs ++ ruled_told.line_told settings ran.skips (ruled_of s) line (ruled_of next)) none in
    let sent : messages_in ready.told.items ≡ new_messages s.run next.run = ap messages_in told ∙ in_ruled_line settings ran.skips (ruled_of s) line in
    record {
      skips = ran.skips;
      of_line = ran.of_line;
      goes = record { grid = ran.stands; nears = subst (λ (ms : List Appended). AreNear new.nears.items (map (noting ms) s.nears)) sent nears };
      told = told;
      printed = gave.printed ∙ ap (λ (xs : List ℕ). xs ++ ruled_told.line_printed settings (ruled_of s) line) blank;
    }

-- It counted one at which nothing happens.
pub has_counted : {V : Type 0} {T : V → Type 0} {form : FormOf V T} {settings : Settings} (new : ScriptGrid V T) (s : ScriptRun) → AreNear new.nears.items s.nears
    → ruled.Stands form settings new.grid (ruled_after.after_line (partition_object settings) [] (ruled_of s) Comment) → Goes form settings new (played settings [] s Comment)
has_counted {settings = settings} new s nears stands =
    let next = played settings [] s Comment in
    let same = ap (λ (x : RuledRun). x.run.appended) (comment_after (partition_object settings) [] (ruled_of s)) in
    record {
      grid = stands;
      nears = subst (λ (ms : List Appended). AreNear new.nears.items (map (noting ms) s.nears)) (sym (none_new s.run next.run same)) (none_noted new.nears.items s.nears nears);
    }

-- It was given up.
pub given_up_played : {settings : Settings} (s : ScriptRun) (line : Line) → ruled.IsGivenUp settings (ruled_of s) line → IsGivenUpAt settings s line
given_up_played s line given = record { skips = given.skips; of_line = given.of_line; full = given.full }

-- A line of a script ran.

-- The near clients have done their part.
abbrev pub mid : Settings → ScriptRun → Line → ScriptRun
mid settings s line = record s { nears = nears_by (partition_object settings) s line }

-- It is this line to the grid.
pub told_as : {V : Type 0} {T : V → Type 0} {form : FormOf V T} {settings : Settings} (new : ScriptGrid V T) (s : ScriptRun) (line asked : Line) → grid_line (partition_object settings) s line ≡ asked → (skips : List CallId)
    → AreOfLine settings (ruled_of s) asked skips → Stands form settings new (played settings skips (mid settings s line) asked)
    → (told : ScriptTold) → told_of told ≡ line_told settings skips s line (played settings skips (mid settings s line) asked) → HasTold form settings new s line told
told_as {form = form} {settings = settings} new s line asked is skips of_line stands told tells =
    let whole : after_line settings skips s line ≡ played settings skips (mid settings s line) asked = ap (played settings skips (mid settings s line)) is in
    record {
      skips = skips;
      of_line = subst (λ (l : Line). AreOfLine settings (ruled_of s) l skips) (sym is) of_line;
      stands = subst (Stands form settings new) (sym whole) stands;
      tells = tells ∙ ap (λ (next : ScriptRun). line_told settings skips s line next) (sym whole);
    }

pub given_up_at : {settings : Settings} (s : ScriptRun) (line asked : Line) → grid_line (partition_object settings) s line ≡ asked → IsGivenUpAt settings (mid settings s line) asked → IsGivenUp settings s line
given_up_at {settings = settings} s line asked is given = record {
  skips = given.skips;
  of_line = subst (λ (l : Line). AreOfLine settings (ruled_of s) l given.skips) (sym is) given.of_line;
  full = ap (λ (l : Line). (played settings given.skips (mid settings s line) l).run.full) is ∙ given.full;
}

-- nothing happens on the grid
pub told_counted : {V : Type 0} {T : V → Type 0} {form : FormOf V T} {settings : Settings} (new all : ScriptGrid V T) (s : ScriptRun) (line : Line) → grid_line (partition_object settings) s line ≡ Comment → AreSpoken all.spoken.items s.run
    → new.spoken ≡ all.spoken → Goes form settings new (played settings [] (mid settings s line) Comment) → (told : ScriptTold) → told_of told ≡ line_told settings [] s line (played settings [] (mid settings s line) Comment)
    → HasTold form settings new s line told
told_counted {settings = settings} new all s line is spoken same goes told tells =
    let still = are_spoken_as settings [] (ruled_of s) all.spoken new.spoken Comment (λ k bytes e. cc e) same spoken in
    told_as new s line Comment is [] (no_skips settings (ruled_of s) Comment) (record { goes = goes; spoken = still }) told tells

-- its condition is false
pub told_passed : {V : Type 0} {T : V → Type 0} {form : FormOf V T} {settings : Settings} (new all : ScriptGrid V T) (s : ScriptRun) (line : Line) → Stands form settings all s → grid_line (partition_object settings) s line ≡ Comment
    → nears_by (partition_object settings) s line ≡ s.nears → ((next : ScriptRun) → line_told settings [] s line next ≡ idle) → new.spoken ≡ all.spoken → Goes form settings new (played settings [] s Comment)
    → (told : ScriptTold) → told_of told ≡ idle → HasTold form settings new s line told
told_passed {form = form} {settings = settings} new all s line stands is stay says same goes told tells =
    let one : mid settings s line ≡ s = ap (λ (ns : List NearClient). record s { nears = ns }) stay in
    told_counted new all s line is stands.spoken same (subst (λ (m : ScriptRun). Goes form settings new (played settings [] m Comment)) (sym one) goes) told (tells ∙ sym (says (played settings [] (mid settings s line) Comment)))

-- A line that is none of a near client's, and brings no bytes, is the grid's.

pub record IsGrids (settings : Settings) (s : ScriptRun) (line : Line) : Type 0 where
  pub asked : grid_line (partition_object settings) s line ≡ line
  pub stay : nears_by (partition_object settings) s line ≡ s.nears
  pub says : (skips : List CallId) (next : ScriptRun) → line_told settings skips s line next ≡ grid_told settings skips s line next

pub is_grids : (settings : Settings) (s : ScriptRun) (line : Line) → ((c : ℕ) (name : List ℕ) (capacity : ℕ) → line ≢ Near c name capacity) → ((c : ℕ) (key : List ℕ) → line ≢ NearGet c key)
    → ((c most : ℕ) → line ≢ NearFeed c most) → ((c : ℕ) (bytes : List ℕ) → line ≢ Arrive c bytes) → IsGrids settings s line
is_grids settings s (Near c name capacity) begins asks feeds arrives = absurd (begins c name capacity refl)
is_grids settings s (NearGet c key) begins asks feeds arrives = absurd (asks c key refl)
is_grids settings s (NearFeed c most) begins asks feeds arrives = absurd (feeds c most refl)
is_grids settings s (Arrive c bytes) begins asks feeds arrives = absurd (arrives c bytes refl)
is_grids settings s line begins asks feeds arrives = record { asked = refl; stay = refl; says = λ skips next. refl }

-- so are bytes on a connection that is no near connection
pub is_grids_bytes : (settings : Settings) (s : ScriptRun) (c : ℕ) (bytes : List ℕ) → is_near_connection s c ≡ false → IsGrids settings s (Arrive c bytes)
is_grids_bytes settings s c bytes free = record {
  asked = if_false (is_near_connection s c) Comment (Arrive c bytes) free;
  stay = refl;
  says = λ skips next. if_false (is_near_connection s c) idle (grid_told settings skips s (Arrive c bytes) next) free;
}

stayed : {settings : Settings} {s : ScriptRun} {line : Line} → IsGrids settings s line → mid settings s line ≡ s
stayed {s = s} grids = ap (λ (ns : List NearClient). record s { nears = ns }) grids.stay

pub told_grids : {V : Type 0} {T : V → Type 0} {form : FormOf V T} {settings : Settings} (new : ScriptGrid V T) (s : ScriptRun) (line : Line) → IsGrids settings s line → (ready : Ready) (told : ScriptTold)
    → told_of told ≡ by_grid ready.told.items ready.printed.items → (ran : HasPlayed form settings new s line ready) → AreSpoken new.spoken.items (played settings ran.skips s line).run → HasTold form settings new s line told
told_grids {form = form} {settings = settings} new s line grids ready told is ran spoken =
    let next = played settings ran.skips s line in
    let one = sym (stayed grids) in
    told_as new s line line grids.asked ran.skips ran.of_line (subst (λ (m : ScriptRun). Stands form settings new (played settings ran.skips m line)) one (record { goes = ran.goes; spoken = spoken })) told
    (is ∙ (λ i. by_grid (ran.told i) (ran.printed i)) ∙ sym (grids.says ran.skips next) ∙ ap (λ (m : ScriptRun). line_told settings ran.skips s line (played settings ran.skips m line)) one)

pub given_up_grids : {settings : Settings} (s : ScriptRun) (line : Line) → IsGrids settings s line → IsGivenUpAt settings s line → IsGivenUp settings s line
given_up_grids {settings = settings} s line grids given = given_up_at s line line grids.asked (subst (λ (m : ScriptRun). IsGivenUpAt settings m line) (sym (stayed grids)) given)

-- Who has spoken is no matter of what the grid runs.
pub goes_as : {V : Type 0} {T : V → Type 0} {form : FormOf V T} {settings : Settings} {old new : ScriptGrid V T} {s : ScriptRun} → (record new { spoken = old.spoken }) ≡ old → Goes form settings old s → Goes form settings new s
goes_as {form = form} {settings = settings} {s = s} same goes = record {
  grid = subst (λ all. ruled.Stands form settings all.grid (ruled_of s)) (sym same) goes.grid;
  nears = subst (λ all. AreNear all.nears.items s.nears) (sym same) goes.nears;
}

pub may_play_as : {V : Type 0} {T : V → Type 0} {form : FormOf V T} {old new : ScriptGrid V T} {number : ℕ} {line : Line} → (record new { spoken = old.spoken }) ≡ old → MayPlay form old number line → MayPlay form new number line
may_play_as same may = record { settings = may.settings; run = may.run; goes = goes_as same may.goes; read = may.read; next = may.next; within = may.within }

-- bytes on a connection that is no near connection

pub told_bytes : {V : Type 0} {T : V → Type 0} {form : FormOf V T} {settings : Settings} (new marked : ScriptGrid V T) (s : ScriptRun) (line : Line) (c : ℕ) (bytes : List ℕ) → line ≡ Arrive c bytes → is_near_connection s c ≡ false
    → ((skips : List CallId) → AreSpoken marked.spoken.items (played settings skips s (Arrive c bytes)).run) → new.spoken ≡ marked.spoken → (ready : Ready) (told : ScriptTold) → told_of told ≡ by_grid ready.told.items ready.printed.items
    → HasPlayed form settings new s line ready → HasTold form settings new s line told
told_bytes {form = form} {settings = settings} new marked s line c bytes is free spoken same ready told tells ran =
    let these = subst (λ (l : Line). HasPlayed form settings new s l ready) is ran in
    let now = played settings these.skips s (Arrive c bytes) in
    has_told_as is
    (told_grids new s (Arrive c bytes) (is_grids_bytes settings s c bytes free) ready told tells these (subst (λ (xs : Vec Bool Global). AreSpoken xs.items now.run) (sym same) (spoken these.skips)))

pub given_up_bytes : {settings : Settings} (s : ScriptRun) (line : Line) (c : ℕ) (bytes : List ℕ) → line ≡ Arrive c bytes → is_near_connection s c ≡ false → IsGivenUpAt settings s line → IsGivenUp settings s line
given_up_bytes {settings = settings} s line c bytes is free given =
    given_up_as is (given_up_grids s (Arrive c bytes) (is_grids_bytes settings s c bytes free) (subst (IsGivenUpAt settings s) is given))

-- and on one that is
pub told_refused : {V : Type 0} {T : V → Type 0} {form : FormOf V T} {settings : Settings} (new all : ScriptGrid V T) (s : ScriptRun) (line : Line) (c : ℕ) (bytes : List ℕ) → line ≡ Arrive c bytes → Stands form settings all s
    → is_near_connection s c ≡ true → new.spoken ≡ all.spoken → Goes form settings new (played settings [] s Comment) → (told : ScriptTold) → told_of told ≡ idle → HasTold form settings new s line told
told_refused {settings = settings} new all s line c bytes is stands near same goes told tells =
    has_told_as is
    (told_passed new all s (Arrive c bytes) stands (if_true (is_near_connection s c) Comment (Arrive c bytes) near) refl
    (λ next. if_true (is_near_connection s c) idle (grid_told settings [] s (Arrive c bytes) next) near) same goes told tells)
