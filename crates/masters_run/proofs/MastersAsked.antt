-- The masters of a partition are there, and are asked what a line asks them.
use Rattle.std.proofs.Common.{◌≡◌, ℕ, zero, suc, ◌<◌, ◌≤◌, true, false, ◌||◌, List, [], ◌∷◌, ◌++◌, length, Some, get_or, slice_get, slice_set, refl, ap, sym, ◌∙◌, subst, arith}
use Rattle.std.proofs.lemmas.Option.{slice_get-get_or, slice_get_past, slice_get_read, get_or_from_slice_get}
use Rattle.grid_base.specs.declared.calls.Request.{Request}
use Rattle.call_engine.specs.Calls.{Settings}
use Rattle.call_engine.specs.Objects.{partition_object}
use Rattle.partition_protocol.proofs.Adopt.{and_false}
use Rattle.partition_protocol.proofs.Lists.{set_get_same, set_get_other}
use Rattle.masters_protocol.specs.Machine as masters
use Rattle.masters_world.specs.Decisions.{Decision}
use Rattle.masters_world.specs.Machine.{Line, asked_by, at_once, published_by}
use Rattle.master_wire.specs.declared.decision.Decision.{Decision as Written}
use Rattle.master_log.specs.declared.masters.Masters.{Masters}
use Rattle.master_log.specs.Standing.{StandsFor, size_of}
use Rattle.master_log.specs.Laws.{published_of}
use Rattle.replay_run.specs.Runs.{partitions}
use Rattle.replay_run.specs.Grids.{FormOf}
use Rattle.replay_run.specs.WorldCalls as grid
use Rattle.masters_run.specs.declared.grid.RuledGrid.{RuledGrid}
use Rattle.masters_run.specs.Runs.{RuledRun, are_some, masters_at, ruled_at, may_send, has_full_link, meets_full_link}
use Rattle.masters_run.specs.Grids.{AreMasters, HasMastersAt}
use Rattle.masters_run.specs.Steps.{IsAmid, MayAsk, HasAskedMasters}
use Rattle.masters_run.proofs.Following.{HasPublished}
use Rattle.masters_run.proofs.RuledMasters.{asked_of, published_long_so, nothing_follows, decision_follows}

-- masters of all partitions are some
pub some_are : (ws : List (masters.Masters Decision)) → length ws ≡ partitions → are_some ws ≡ true
some_are [] e = absurd (omega (arith, e))
some_are (w ∷ ws) e = refl

-- the masters of a partition, and those of all others
pub record AreThere (settings : Settings) (all : List Masters) (s : RuledRun) (p : ℕ) : Type 0 where
  pub placed : p < partitions
  pub count : length all ≡ length s.masters
  pub whole : length s.masters ≡ partitions
  pub most : s.run.members ≤ 8
  pub each : (q : ℕ) → q < partitions → HasMastersAt settings all s q

-- Whatever run the grid stands for, it has masters, if those may be asked.
pub are_there : {V : Type 0} {T : V → Type 0} (form : FormOf V T) (all : RuledGrid V T) (p : ℕ) → MayAsk form all p → (settings : Settings) (s : RuledRun) → IsAmid form settings all s → AreThere settings all.masters.items s p
are_there form all p may settings s amid =
    let whole : length s.masters ≡ partitions = sym amid.masters.count ∙ may.amid.masters.count ∙ may.amid.masters.ruled may.ruled in
    record { placed = may.placed; count = amid.masters.count; whole = whole; most = amid.masters.most; each = amid.masters.each (some_are s.masters whole) }

-- the index is within
pub within_all : (settings : Settings) (all : List Masters) (s : RuledRun) (p : ℕ) → AreThere settings all s p → p < length all
within_all settings all s p there = let a = there.placed in let b = there.count in let c = there.whole in omega (arith, a, b, c)

-- what is read there is one of them
pub is_read : (settings : Settings) (all : List Masters) (s : RuledRun) (p : ℕ) → AreThere settings all s p → (i : ℕ) (kept : Masters) → i ≡ p → kept ≡ get_or all i kept → slice_get all p ≡ Some kept
is_read settings all s p there i kept same read = slice_get-get_or all p kept (within_all settings all s p there) ∙ ap Some (ap (λ k. get_or all k kept) (sym same) ∙ sym read)

-- and they are the partition's
pub they_are : (settings : Settings) (all : List Masters) (s : RuledRun) (p : ℕ) → AreThere settings all s p → (kept : Masters) → slice_get all p ≡ Some kept → AreMasters settings kept s p
they_are settings all s p there kept read =
    let here = there.each p there.placed in
    let same : here.masters ≡ kept = let e = sym here.there ∙ read in cc in
    subst (λ m. AreMasters settings m s p) same here.are

-- the same, as it is read
pub masters_read : {V : Type 0} {T : V → Type 0} (form : FormOf V T) (all : RuledGrid V T) (p : ℕ) → MayAsk form all p → (settings : Settings) (s : RuledRun) → IsAmid form settings all s
    → (i : ℕ) (kept : Masters) → i ≡ p → kept ≡ get_or all.masters.items i kept → AreMasters settings kept s p
masters_read form all p may settings s amid i kept same read =
    let there = are_there form all p may settings s amid in
    they_are settings all.masters.items s p there kept (is_read settings all.masters.items s p there i kept same read)

-- Masters that are asked one thing go on, where no link between them is full.
pub not_full : (settings : Settings) (s : RuledRun) (p : ℕ) (l : Line Request) (e : masters.Event Decision) → asked_by (ruled_at (partition_object settings) s p) l ≡ e ∷ [] → has_full_link (masters_at s p) ≡ false
    → meets_full_link (masters_at s p) (asked_by (ruled_at (partition_object settings) s p) l) ≡ false
not_full settings s p l e its free = ap (λ es. meets_full_link (masters_at s p) es) its ∙ and_false (may_send e || false) (has_full_link (masters_at s p)) free

length_set : (ms : List Masters) (i : ℕ) (m : Masters) → length (slice_set ms i m) ≡ length ms
length_set [] i m = refl
length_set (x ∷ ms) zero m = refl
length_set (x ∷ ms) (suc i) m = ap (λ n. suc n) (length_set ms i m)

-- The masters of a partition were asked what a line asks, and are these now; those of the others are as they were.
module _ {V : Type 0} {T : V → Type 0} (form : FormOf V T) (settings : Settings) (old : RuledGrid V T) (s : RuledRun) (p : ℕ) (l : Line Request) (amid : IsAmid form settings old s) (there : AreThere settings old.masters.items s p)
    (kept next : Masters) (are : AreMasters settings kept s p) (i : ℕ) (same : i ≡ p) (read : kept ≡ get_or old.masters.items i kept) (new : RuledGrid V T) (grid_stays : new.grid ≡ old.grid) (set : new.masters.items ≡ slice_set old.masters.items i next) where
  put : new.masters.items ≡ slice_set old.masters.items p next
  put = set ∙ ap (λ k. slice_set old.masters.items k next) same

  pub is_next : slice_get new.masters.items p ≡ Some next
  is_next = ap (λ ms. slice_get ms p) put ∙ set_get_same old.masters.items p next kept (is_read settings old.masters.items s p there i kept same read)

  pub have_asked : meets_full_link (masters_at s p) (asked_by (ruled_at (partition_object settings) s p) l) ≡ false → at_once (ruled_at (partition_object settings) s p) l ≡ []
      → StandsFor next (asked_of settings s p (are.lines ++ l ∷ [])) → size_of next ≡ s.run.members → (before : ℕ) → before ≡ length (masters_at s p).published → HasAskedMasters form settings new s p l before
  have_asked goes later stands size before was = record {
    placed = there.placed;
    grid = subst (λ x. grid.IsAmid form settings x s.run) (sym grid_stays) amid.grid;
    count = ap (λ ms. length ms) put ∙ length_set old.masters.items p next ∙ there.count;
    whole = there.whole;
    most = there.most;
    others = λ q low other. subst (λ ms. HasMastersAt settings ms s q) (sym put)
        (let here = there.each q low in record { masters = here.masters; there = set_get_other old.masters.items p q next other ∙ here.there; are = here.are });
    goes = goes;
    later = later;
    published = sym was;
    masters = next;
    there = is_next;
    lines = are.lines;
    of_lines = are.of_lines;
    size = size;
    stands = stands;
  }

-- What the code finds behind the old length of the published list is what the line published.

module _ {V : Type 0} {T : V → Type 0} (form : FormOf V T) (settings : Settings) (all : RuledGrid V T) (s : RuledRun) (p : ℕ) (l : Line Request) (before : ℕ) (h : HasAskedMasters form settings all s p l before) where
  -- Masters that are as they were published nothing.
  pub kept_publishes_nothing : (next : Masters) → slice_get all.masters.items p ≡ Some next → AreMasters settings next s p → published_by (ruled_at (partition_object settings) s p) l ≡ []
  kept_publishes_nothing next there are =
      let list = published_of h.masters (asked_of settings s p (h.lines ++ l ∷ [])) in
      let same : h.masters ≡ next = let e = sym h.there ∙ there in cc in
      let long : length list ≡ before = sym h.stands.shows.length ∙ ap (λ (m : Masters). m.published) same ∙ are.stands.shows.length ∙ published_long_so are ∙ h.published in
      nothing_follows settings h.of_lines l h.size h.stands before h.published (slice_get_past list before (omega (arith, long)))

  module _ (i : ℕ) (kept : Masters) (same : i ≡ p) (read : kept ≡ get_or all.masters.items i kept) (list : List Written) (told : (events : List (masters.Event Written)) → StandsFor kept events → list ≡ published_of kept events) where
    is_list : list ≡ published_of h.masters (asked_of settings s p (h.lines ++ l ∷ []))
    is_list =
        let events = asked_of settings s p (h.lines ++ l ∷ []) in
        let is : kept ≡ h.masters = read ∙ ap (λ k. get_or all.masters.items k kept) same ∙ get_or_from_slice_get all.masters.items p h.masters kept h.there in
        told events (subst (λ m. StandsFor m events) (sym is) h.stands) ∙ ap (λ m. published_of m events) is

    pub none_behind : length list ≤ before → published_by (ruled_at (partition_object settings) s p) l ≡ []
    none_behind past = nothing_follows settings h.of_lines l h.size h.stands before h.published (ap (λ ds. slice_get ds before) (sym is_list) ∙ slice_get_past list before past)

    pub one_behind : (decision : Written) → before < length list → decision ≡ get_or list before decision → HasPublished s.run.members (ruled_at (partition_object settings) s p) l decision
    one_behind decision within is =
        decision_follows settings h.of_lines l h.size h.stands before decision h.published (ap (λ ds. slice_get ds before) (sym is_list) ∙ slice_get_read list (length list) before decision refl within is)
