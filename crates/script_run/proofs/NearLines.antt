-- The lines of near clients: what they come to in the run of a script.
use Rattle.std.proofs.Common.{◌≡◌, ℕ, ◌+◌, ◌*◌, ◌≤◌, true, false, List, [], ◌∷◌, ◌++◌, length, Some, None, refl, ap, sym, ◌∙◌, subst, arith, Vec, Global, Bool}
use Rattle.std.specs.Prelude.{slice_set}
use Rattle.std.specs.List.{remove}
use Rattle.grid_base.specs.declared.names.CallId.{CallId}
use Rattle.call_engine.specs.Calls.{Settings}
use Rattle.call_engine.specs.Objects.{partition_object}
use Rattle.grid_client.specs.Nears.{Value}
use Rattle.script_lang.specs.Limits.{most_lines}
use Rattle.script_lang.specs.declared.line.Line.{Line}
use Rattle.script_lang.specs.declared.line.Line.TheVariants.{Arrive, Near, NearGet, NearFeed, Comment}
use Rattle.line_told.specs.declared.told.LineOutcome.TheVariants as outcome
use Rattle.line_told.specs.declared.told.Ready.{Ready}
use Rattle.line_told.specs.declared.told.Told.TheVariants.{Outcome}
use Rattle.replay_run.specs.Grids.{FormOf, most_arriving}
use Rattle.masters_run.specs.Grids.{AreOfLine}
use Rattle.script_run.specs.declared.client.NearClient.{NearClient as KeptClient}
use Rattle.script_run.specs.declared.grid.ScriptGrid.{ScriptGrid}
use Rattle.script_run.specs.declared.told.NearOutcome.TheVariants as near
use Rattle.script_run.specs.declared.told.ScriptTold.{ScriptTold}
use Rattle.script_run.specs.NearClients.{NearClient, opening_of, new_near, used, get_sent, missed, piece, told, fed}
use Rattle.script_run.specs.Runs.{ScriptRun, ruled_of, Look, Unmade, Hit, Miss, near_of, can_begin, look, asked_line, after_look, changed, grid_line, nears_by}
use Rattle.script_run.specs.AfterLines.{played}
use Rattle.script_run.specs.LineTold.{told_of, by_grid, by_near, idle, brought, begun_told, look_told, fed_told, line_told}
use Rattle.script_run.specs.Grids.{AreNear, AreSpoken, Goes, Stands, MayRun, HasTold, IsGivenUp, IsGivenUpAt, MayPlay, HasPlayed, HasSent, HasMissed, MaySend}
use Rattle.script_run.proofs.Nears.{none_changed}
use Rattle.script_run.proofs.Playing.{if_true, if_false, mid, told_as, told_counted, told_passed, given_up_at}
use Rattle.script_run.proofs.Sending.{is_brought}

-- What a near client sends arrives.

same_mid : (settings : Settings) (s : ScriptRun) (line : Line) (ns : List NearClient) → nears_by (partition_object settings) s line ≡ ns → mid settings s line ≡ record s { nears = ns }
same_mid settings s line ns stay = ap (λ (xs : List NearClient). record s { nears = xs }) stay

module _ {settings : Settings} (s : ScriptRun) (line : Line) (ns : List NearClient) (c : ℕ) (bytes : List ℕ) (stay : nears_by (partition_object settings) s line ≡ ns) (asked : grid_line (partition_object settings) s line ≡ Arrive c bytes) where
  given_up_sent : IsGivenUpAt settings (record s { nears = ns }) (Arrive c bytes) → IsGivenUp settings s line
  given_up_sent given = given_up_at s line (Arrive c bytes) asked (subst (λ (m : ScriptRun). IsGivenUpAt settings m (Arrive c bytes)) (sym (same_mid settings s line ns stay)) given)

  told_sent : {V : Type 0} {T : V → Type 0} {form : FormOf V T} (new : ScriptGrid V T) (skips : List CallId) → AreOfLine settings (ruled_of s) (Arrive c bytes) skips → Stands form settings new (played settings skips (record s { nears = ns }) (Arrive c bytes))
      → (it : ScriptTold) → told_of it ≡ line_told settings skips s line (played settings skips (record s { nears = ns }) (Arrive c bytes)) → HasTold form settings new s line it
  told_sent {form = form} new skips of_line stands it tells =
      let one = sym (same_mid settings s line ns stay) in
      told_as new s line (Arrive c bytes) asked skips of_line (subst (λ (m : ScriptRun). Stands form settings new (played settings skips m (Arrive c bytes))) one stands) it
      (subst (λ (m : ScriptRun). told_of it ≡ line_told settings skips s line (played settings skips m (Arrive c bytes))) one tells)

-- `near`

abbrev pub begun : ScriptRun → ℕ → List ℕ → ℕ → List NearClient
begun s c name capacity = s.nears ++ new_near c name capacity ∷ []

module _ {settings : Settings} (s : ScriptRun) (c : ℕ) (name : List ℕ) (capacity : ℕ) where
  pub given_up_begun : can_begin s c name ≡ true → IsGivenUpAt settings (record s { nears = begun s c name capacity }) (Arrive c (opening_of c name)) → IsGivenUp settings s (Near c name capacity)
  given_up_begun can given =
      given_up_sent s (Near c name capacity) (begun s c name capacity) c (opening_of c name) (if_true (can_begin s c name) (begun s c name capacity) s.nears can)
      (if_true (can_begin s c name) (Arrive c (opening_of c name)) Comment can) given

  module _ {V : Type 0} {T : V → Type 0} {form : FormOf V T} where
    pub told_not_begun : (new all : ScriptGrid V T) → Stands form settings all s → can_begin s c name ≡ false → new.spoken ≡ all.spoken → Goes form settings new (played settings [] s Comment) → (it : ScriptTold) → told_of it ≡ idle
        → HasTold form settings new s (Near c name capacity) it
    told_not_begun new all stands cannot same goes it tells =
        told_passed new all s (Near c name capacity) stands (if_false (can_begin s c name) (Arrive c (opening_of c name)) Comment cannot) (if_false (can_begin s c name) (begun s c name capacity) s.nears cannot)
        (λ next. if_false (can_begin s c name) (begun_told settings [] s.run c name next.run) idle cannot) same goes it tells

    pub told_begun : (new : ScriptGrid V T) → can_begin s c name ≡ true → (ready : Ready) (sent : HasSent form settings new (record s { nears = begun s c name capacity }) c (opening_of c name) ready)
        → (it : ScriptTold) → told_of it ≡ by_grid (slice_set ready.told.items 0 (Outcome outcome.Ran)) ready.printed.items → HasTold form settings new s (Near c name capacity) it
    told_begun new can ready sent it tells =
        let line = Near c name capacity in
        let next = played settings sent.skips (record s { nears = begun s c name capacity }) (Arrive c (opening_of c name)) in
        told_sent s line (begun s c name capacity) c (opening_of c name) (if_true (can_begin s c name) (begun s c name capacity) s.nears can) (if_true (can_begin s c name) (Arrive c (opening_of c name)) Comment can)
        new sent.skips sent.of_line sent.stands it
        (tells ∙ (λ i. by_grid (slice_set (sent.told i) 0 (Outcome outcome.Ran)) (sent.printed i)) ∙ sym (if_true (can_begin s c name) (begun_told settings sent.skips s.run c name next.run) idle can))

-- `nearget`

module _ {settings : Settings} (s : ScriptRun) (c : ℕ) (key : List ℕ) where
  pub given_up_missed : (n : NearClient) → look (partition_object settings) s c key ≡ Miss n → IsGivenUpAt settings (record s { nears = changed c (missed key) s.nears }) (Arrive c (get_sent n key).request) → IsGivenUp settings s (NearGet c key)
  given_up_missed n miss given =
      given_up_sent s (NearGet c key) (changed c (missed key) s.nears) c (get_sent n key).request (ap (λ (l : Look). after_look c key l s.nears) miss) (ap (asked_line c key) miss) given

  module _ {V : Type 0} {T : V → Type 0} {form : FormOf V T} where
    pub told_not_looked : (new all : ScriptGrid V T) → Stands form settings all s → look (partition_object settings) s c key ≡ Unmade → new.spoken ≡ all.spoken → Goes form settings new (played settings [] s Comment) → (it : ScriptTold)
        → told_of it ≡ idle → HasTold form settings new s (NearGet c key) it
    told_not_looked new all stands unmade same goes it tells =
        told_passed new all s (NearGet c key) stands (ap (asked_line c key) unmade) (ap (λ (l : Look). after_look c key l s.nears) unmade)
        (λ next. ap (look_told settings [] s.run c key next.run) unmade) same goes it tells

    -- a hit
    pub told_hit : (new all : ScriptGrid V T) (n : NearClient) (value : Value) → AreSpoken all.spoken.items s.run → look (partition_object settings) s c key ≡ Hit n value → new.spoken ≡ all.spoken
        → Goes form settings new (played settings [] (record s { nears = changed c (used key) s.nears }) Comment) → (it : ScriptTold) → told_of it ≡ by_near (near.Hit value) [] [] → HasTold form settings new s (NearGet c key) it
    told_hit new all n value spoken hit same goes it tells =
        let line = NearGet c key in
        let one = sym (same_mid settings s line (changed c (used key) s.nears) (ap (λ (l : Look). after_look c key l s.nears) hit)) in
        told_counted new all s line (ap (asked_line c key) hit) spoken same (subst (λ (m : ScriptRun). Goes form settings new (played settings [] m Comment)) one goes) it
        (tells ∙ sym (ap (look_told settings [] s.run c key (played settings [] (mid settings s line) Comment).run) hit))

    -- a miss
    pub told_missed : (new : ScriptGrid V T) (n : NearClient) → look (partition_object settings) s c key ≡ Miss n → (it : ScriptTold) → HasMissed form settings new (record s { nears = changed c (missed key) s.nears }) c (get_sent n key).request it
        → HasTold form settings new s (NearGet c key) it
    told_missed new n miss it was =
        let next = played settings was.skips (record s { nears = changed c (missed key) s.nears }) (Arrive c (get_sent n key).request) in
        told_sent s (NearGet c key) (changed c (missed key) s.nears) c (get_sent n key).request (ap (λ (l : Look). after_look c key l s.nears) miss) (ap (asked_line c key) miss)
        new was.skips was.of_line was.stands it (was.tells ∙ sym (ap (look_told settings was.skips s.run c key next.run) miss))

-- `nearfeed`

module _ {V : Type 0} {T : V → Type 0} {form : FormOf V T} {settings : Settings} (s : ScriptRun) (c most : ℕ) where
  pub told_not_fed : (new all : ScriptGrid V T) → Stands form settings all s → near_of s c ≡ None → new.spoken ≡ all.spoken → Goes form settings new (played settings [] s Comment) → (it : ScriptTold) → told_of it ≡ idle
      → HasTold form settings new s (NearFeed c most) it
  told_not_fed new all stands none same goes it tells =
      told_passed new all s (NearFeed c most) stands refl (none_changed c (fed most) s.nears none) (λ next. ap (fed_told most) none) same goes it tells

  pub told_fed : (new all : ScriptGrid V T) (n : NearClient) → AreSpoken all.spoken.items s.run → near_of s c ≡ Some n → new.spoken ≡ all.spoken
      → Goes form settings new (played settings [] (record s { nears = changed c (fed most) s.nears }) Comment) → (it : ScriptTold) → told_of it ≡ by_near (near.Fed (length (piece most n))) (told most n).heard []
      → HasTold form settings new s (NearFeed c most) it
  told_fed new all n spoken there same goes it tells = told_counted new all s (NearFeed c most) refl spoken same goes it (tells ∙ sym (ap (fed_told most) there))

-- The near clients have done their part, and one may send.

pub stands_with : {V : Type 0} {T : V → Type 0} {form : FormOf V T} {settings : Settings} {all : ScriptGrid V T} {s : ScriptRun} (nears : Vec KeptClient Global) (ns : List NearClient) → Stands form settings all s → AreNear nears.items ns
    → Stands form settings (record all { nears = nears }) (record s { nears = ns })
stands_with nears ns stands are = record { goes = record { grid = stands.goes.grid; nears = are }; spoken = stands.spoken }

-- the line is then counted
pub may_count_with : {V : Type 0} {T : V → Type 0} {form : FormOf V T} {all : ScriptGrid V T} {number : ℕ} {line : Line} (nears : Vec KeptClient Global) (ns : List NearClient) → MayRun form all number line → AreNear nears.items ns
    → MayPlay form (record all { nears = nears }) number Comment
may_count_with nears ns may are = record { settings = may.settings; run = record may.run { nears = ns }; goes = record { grid = may.stands.goes.grid; nears = are }; read = tt; next = may.next; within = may.within }

pub may_send : {V : Type 0} {T : V → Type 0} {form : FormOf V T} {settings : Settings} {all : ScriptGrid V T} {s : ScriptRun} {number c : ℕ} {bytes : List ℕ} → Stands form settings all s → c ≤ 63 → (1 ≤ length bytes) × (2 * length bytes ≤ most_arriving)
    → number ≡ s.run.lines + 1 → number ≤ most_lines → MaySend form all number c bytes
may_send {settings = settings} {s = s} stands low size at_line within = record { settings = settings; run = s; stands = stands; read = (low, size.0, size.1); next = at_line; within = within }

pub may_play_sent : {V : Type 0} {T : V → Type 0} {form : FormOf V T} {all : ScriptGrid V T} {number c : ℕ} {bytes : List ℕ} → MaySend form all number c bytes → MayPlay form all number (Arrive c bytes)
may_play_sent may = record { settings = may.settings; run = may.run; goes = may.stands.goes; read = may.read; next = may.next; within = may.within }

-- What a near client sends ran on the grid.
pub has_sent : {V : Type 0} {T : V → Type 0} {form : FormOf V T} {settings : Settings} (new marked : ScriptGrid V T) (s : ScriptRun) (c : ℕ) (bytes : List ℕ) → ((skips : List CallId) → AreSpoken marked.spoken.items (played settings skips s (Arrive c bytes)).run)
    → new.spoken ≡ marked.spoken → (ready : Ready) → HasPlayed form settings new s (Arrive c bytes) ready → HasSent form settings new s c bytes ready
has_sent {settings = settings} new marked s c bytes spoken same ready ran =
    let after = played settings ran.skips s (Arrive c bytes) in
    let brings = is_brought settings ran.skips (ruled_of s) c bytes (ruled_of after) in
    record {
      skips = ran.skips;
      of_line = ran.of_line;
      stands = record { goes = ran.goes; spoken = subst (λ (xs : Vec Bool Global). AreSpoken xs.items after.run) (sym same) (spoken ran.skips) };
      came = brings.0;
      told = ran.told ∙ brings.1;
      printed = ran.printed;
    }

-- The outcome of a get is left out.
pub has_missed : {V : Type 0} {T : V → Type 0} {form : FormOf V T} {settings : Settings} (new : ScriptGrid V T) (s : ScriptRun) (c : ℕ) (get : List ℕ) (ready : Ready) (sent : HasSent form settings new s c get ready) (it : ScriptTold)
    → told_of it ≡ record { near = Some near.Miss; heard = []; grid = remove ready.told.items 0; printed = ready.printed.items } → HasMissed form settings new s c get it
has_missed new s c get ready sent it tells = record {
  skips = sent.skips;
  of_line = sent.of_line;
  stands = sent.stands;
  tells = tells ∙ (λ i. record { near = Some near.Miss; heard = []; grid = remove (sent.told i) 0; printed = sent.printed i });
}

-- the same of other bytes
pub has_sent_as : {V : Type 0} {T : V → Type 0} {form : FormOf V T} {settings : Settings} {new : ScriptGrid V T} {s : ScriptRun} {c : ℕ} {bytes other : List ℕ} {ready : Ready} → other ≡ bytes → HasSent form settings new s c other ready → HasSent form settings new s c bytes ready
has_sent_as {form = form} {settings = settings} {new = new} {s = s} {c = c} {ready = ready} same = subst (λ (b : List ℕ). HasSent form settings new s c b ready) same

pub has_missed_as : {V : Type 0} {T : V → Type 0} {form : FormOf V T} {settings : Settings} {new : ScriptGrid V T} {s : ScriptRun} {c : ℕ} {get other : List ℕ} {it : ScriptTold} → other ≡ get → HasMissed form settings new s c other it → HasMissed form settings new s c get it
has_missed_as {form = form} {settings = settings} {new = new} {s = s} {c = c} {it = it} same = subst (λ (b : List ℕ). HasMissed form settings new s c b it) same

-- The outcome is there.
pub some_told : {V : Type 0} {T : V → Type 0} {form : FormOf V T} {settings : Settings} {new : ScriptGrid V T} {s : ScriptRun} {c : ℕ} {bytes : List ℕ} {ready : Ready} → HasSent form settings new s c bytes ready → 1 ≤ length ready.told.items
some_told sent = subst (λ n. 1 ≤ n) (sym (ap length sent.told)) (omega arith)
