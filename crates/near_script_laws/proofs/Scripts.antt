-- The near client of a connection goes with its machine after each line of a script.
use Rattle.std.proofs.Common.{◌≡◌, ◌≢◌, ℕ, ◌+◌, ◌*◌, ◌<◌, ◌≤◌, ◌^◌, Bool, true, false, cond, not, ◌&&◌, ◌==◌, nat_lt, List, [], ◌∷◌, ◌++◌, length, map, Option, Some, None, option_map, refl, ap, sym, ◌∙◌, subst, inl, inr, ⊎_elim, arith, length-append}
use Rattle.std.specs.Prelude.{is_some}
use Rattle.std.specs.List.{find}
use Rattle.std.specs.Str.{is_utf8}
use Rattle.std.proofs.lemmas.Str.{IsUtf8-from_is_utf8}
use Rattle.grid_base.specs.declared.names.CallId.{CallId}
use Rattle.grid_client.specs.Nears.{Value}
use Rattle.message_frames.specs.Assembly.{most_messages}
use Rattle.call_engine.specs.Calls.{Settings}
use Rattle.call_engine.specs.Objects.{partition_object}
use Rattle.partition_protocol.proofs.Lists.{In, cases, contains_in}
use Rattle.partition_protocol.proofs.RowFacts.{same_number, number_other, number_cases, both_left, both_right, false_or_not, not_true, not_less}
use Rattle.script_lang.specs.Limits.{most_lines, most_line_bytes}
use Rattle.script_lang.specs.Lines.{IsWithin}
use Rattle.script_lang.specs.declared.line.Line.{Line}
use Rattle.script_lang.specs.declared.line.Line.TheVariants as line
use Rattle.replay_run.specs.Runs.{Run, Connection, Appended, connection_of, is_open, lives, takes_bytes}
use Rattle.replay_run.specs.AfterLines as alone
use Rattle.replay_run.specs.Appending.{new_messages}
use Rattle.replay_run.proofs.Growing.{Grows}
use Rattle.masters_run.specs.Runs.{RuledRun}
use Rattle.masters_run.specs.AfterLines as ruled
use Rattle.masters_run.proofs.Coming.{AllHaveCome, begun_come, line_come}
use Rattle.masters_run.proofs.KeptLines.{line_lines, bytes_after, opening_after, comment_after}
use Rattle.near_run_laws.specs.Messages.{sent_to}
use Rattle.near_run_laws.specs.Lines.{IsOthers}
use Rattle.script_run.specs.NearClients.{NearClient, is_near, new_near, opening_of, value_kept, used, missed, get_sent, fed}
use Rattle.script_run.specs.Runs.{ScriptRun, ruled_of, begun, near_of, is_near_connection, is_silent, is_new, can_begin, takes, Look, Unmade, Hit, Miss, look_at, look_of, may_look, look, asked_line, grid_line, changed, after_look, nears_by}
use Rattle.script_run.specs.AfterLines.{noting, played, after_line, after_lines}
use Rattle.script_run.proofs.ScriptLaws.{whole_line_grows, whole_lines_grow}
use Rattle.near_run_laws.proofs.Sent.{sent_to-append}
use Rattle.near_script_laws.specs.HitsStand.{AreLines}
use Rattle.near_script_laws.proofs.Within.{AreOnOne, grid_within, line_one}
use Rattle.near_script_laws.proofs.Told.{fed_bare, bare_keeps_none}
use Rattle.near_script_laws.proofs.Connections.{opens_nothing}
use Rattle.near_script_laws.proofs.Facts.{Stands, IsLive, Goes}
use Rattle.near_script_laws.proofs.Standing.{begun_stands, line_stands}
use Rattle.near_script_laws.proofs.Others.{goes_on}
use Rattle.near_script_laws.proofs.Feeding.{fed_on}
use Rattle.near_script_laws.proofs.Looking.{hit_on, missed_on}
use Rattle.near_script_laws.proofs.Opening.{begins}

-- ---- the client of a connection among those of a script

noted : (c : ℕ) (ms : List Appended) (ns : List NearClient) → find (is_near c) (map (noting ms) ns) ≡ option_map (noting ms) (find (is_near c) ns)
noted c ms [] = refl
noted c ms (n ∷ ns) = by (n.conn == c) (noted c ms ns)
  where
    by : (b : Bool) → find (is_near c) (map (noting ms) ns) ≡ option_map (noting ms) (find (is_near c) ns)
        → cond b (Some (noting ms n)) (find (is_near c) (map (noting ms) ns)) ≡ option_map (noting ms) (cond b (Some n) (find (is_near c) ns))
    by true ih = refl
    by false ih = ih

-- a change of it
changed_here : (c : ℕ) (f : NearClient → NearClient) → ((n : NearClient) → (f n).conn ≡ n.conn) → (ns : List NearClient) → find (is_near c) (changed c f ns) ≡ option_map f (find (is_near c) ns)
changed_here c f keeps [] = refl
changed_here c f keeps (n ∷ ns) = by (n.conn == c) refl (changed_here c f keeps ns)
  where
    by : (b : Bool) → (n.conn == c) ≡ b → find (is_near c) (changed c f ns) ≡ option_map f (find (is_near c) ns)
        → find (is_near c) (cond b (f n ∷ ns) (n ∷ changed c f ns)) ≡ option_map f (cond b (Some n) (find (is_near c) ns))
    by true t ih = ap (λ b. cond b (Some (f n)) (find (is_near c) ns)) (ap (λ d. d == c) (keeps n) ∙ t)
    by false t ih = ap (λ b. cond b (Some n) (find (is_near c) (changed c f ns))) t ∙ ih

-- a change of another one
changed_elsewhere : (c d : ℕ) (f : NearClient → NearClient) → ((n : NearClient) → (f n).conn ≡ n.conn) → d ≢ c → (ns : List NearClient) → find (is_near c) (changed d f ns) ≡ find (is_near c) ns
changed_elsewhere c d f keeps apart [] = refl
changed_elsewhere c d f keeps apart (n ∷ ns) = by (n.conn == d) refl (changed_elsewhere c d f keeps apart ns)
  where
    by : (b : Bool) → (n.conn == d) ≡ b → find (is_near c) (changed d f ns) ≡ find (is_near c) ns → find (is_near c) (cond b (f n ∷ ns) (n ∷ changed d f ns)) ≡ cond (n.conn == c) (Some n) (find (is_near c) ns)
    by true t ih =
        let other : (n.conn == c) ≡ false = ap (λ k. k == c) (same_number n.conn d t) ∙ number_other d c apart in
        ap (λ b. cond b (Some (f n)) (find (is_near c) ns)) (ap (λ k. k == c) (keeps n) ∙ other) ∙ sym (ap (λ b. cond b (Some n) (find (is_near c) ns)) other)
    by false t ih = ap (λ x. cond (n.conn == c) (Some n) x) ih

-- one that is there has its number
pub its_number : (c : ℕ) (ns : List NearClient) (n : NearClient) → find (is_near c) ns ≡ Some n → n.conn ≡ c
its_number c [] n e = absurd cc
its_number c (m ∷ ns) n e = by (m.conn == c) refl e (its_number c ns n)
  where
    by : (b : Bool) → (m.conn == c) ≡ b → cond b (Some m) (find (is_near c) ns) ≡ Some n → (find (is_near c) ns ≡ Some n → n.conn ≡ c) → n.conn ≡ c
    by true t f ih = (let one : m ≡ n = cc in ap (λ (x : NearClient). x.conn) (sym one)) ∙ same_number m.conn c t
    by false t f ih = ih f

-- one more
found_more : (c : ℕ) (ns : List NearClient) (n : NearClient) → find (is_near c) (ns ++ n ∷ []) ≡ elim (find (is_near c) ns) [ None ↦ cond (n.conn == c) (Some n) None | Some m ↦ Some m ]
found_more c [] n = refl
found_more c (m ∷ ns) n = by (m.conn == c) (found_more c ns n)
  where
    by : (b : Bool) → find (is_near c) (ns ++ n ∷ []) ≡ elim (find (is_near c) ns) [ None ↦ cond (n.conn == c) (Some n) None | Some k ↦ Some k ]
        → cond b (Some m) (find (is_near c) (ns ++ n ∷ [])) ≡ elim (cond b (Some m) (find (is_near c) ns)) [ None ↦ cond (n.conn == c) (Some n) None | Some k ↦ Some k ]
    by true ih = refl
    by false ih = ih

-- ---- one line

abbrev pub GoesThere : Settings → ScriptRun → ℕ → Type 0
GoesThere settings s c = (n : NearClient) → near_of s c ≡ Some n → Goes settings s.run n

module _ (settings : Settings) (skips : List CallId) (s : ScriptRun) (stands : Stands settings s.run) (c : ℕ) (goes : GoesThere settings s c) (room : length (sent_to c s.run.appended) ≤ most_messages) (lines : s.run.lines + 1 ≤ most_lines) where
  -- the run after what the grid runs at a line
  abbrev next : Line → Run
  next l = (ruled.after_line (partition_object settings) skips (ruled_of s) l).run

  -- bytes, and an opening, are the grid's own lines

  bytes_alone : (d : ℕ) (bytes : List ℕ) → next (line.Arrive d bytes) ≡ alone.after_line (partition_object settings) skips s.run (line.Arrive d bytes)
  bytes_alone d bytes = ap (λ (x : RuledRun). x.run) (bytes_after (partition_object settings) skips (ruled_of s) d bytes)

  opening_alone : (d member : ℕ) → next (line.OpenConn d member) ≡ alone.after_line (partition_object settings) skips s.run (line.OpenConn d member)
  opening_alone d member = ap (λ (x : RuledRun). x.run) (opening_after (partition_object settings) skips (ruled_of s) d member)

  comment_alone : next line.Comment ≡ alone.after_line (partition_object settings) skips s.run line.Comment
  comment_alone = ap (λ (x : RuledRun). x.run) (comment_after (partition_object settings) skips (ruled_of s))

  abbrev Step : ScriptRun → Type 0
  Step after = after.run.full ≡ false → GoesThere settings after c

  -- what has to be shown, where the grid runs that line, and these are the near clients before
  abbrev Each : Line → List NearClient → Type 0
  Each l ns = (next l).full ≡ false → (n : NearClient) → find (is_near c) ns ≡ Some n → Goes settings (next l) (noting (new_messages s.run (next l)) n)

  from_each : (l : Line) (ns : List NearClient) → Each l ns → Step (played settings skips (record s { nears = ns }) l)
  from_each l ns each going m there = by (find (is_near c) ns) refl
    where
      note : NearClient → NearClient
      note = noting (new_messages s.run (next l))

      by : (found : Option NearClient) → find (is_near c) ns ≡ found → Goes settings (next l) m
      by None e = absurd (let clash : None ≡ Some m = sym (ap (option_map note) e) ∙ sym (noted c (new_messages s.run (next l)) ns) ∙ there in cc)
      by (Some n) e =
          let one : note n ≡ m = (let both : Some (note n) ≡ Some m = sym (ap (option_map note) e) ∙ sym (noted c (new_messages s.run (next l)) ns) ∙ there in cc) in
          subst (Goes settings (next l)) one (each going n e)

  as_line : (l g : Line) (ns : List NearClient) → grid_line (partition_object settings) s l ≡ g → nears_by (partition_object settings) s l ≡ ns → Each g ns → Step (after_line settings skips s l)
  as_line l g ns runs are each =
      subst (λ h. Step (played settings skips (record s { nears = nears_by (partition_object settings) s l }) h)) (sym runs)
      (subst (λ ms. Step (played settings skips (record s { nears = ms }) g)) (sym are) (from_each g ns each))

  -- a line of others
  by_others : (l : Line) (ns : List NearClient) → ((n : NearClient) → find (is_near c) ns ≡ Some n → IsOthers c l × Goes settings s.run n) → Each l ns
  by_others l ns all going n e =
      let here = all n e in
      goes_on settings skips (ruled_of s) l n (subst (λ d. IsOthers d l) (sym (its_number c ns n e)) here.0) going here.1

  -- a line of nobody
  quiet : (ns : List NearClient) → ((n : NearClient) → find (is_near c) ns ≡ Some n → Goes settings s.run n) → Each line.Comment ns
  quiet ns all = by_others line.Comment ns (λ n e. (tt, all n e))

  -- one that is there is at no other place
  not_near : (d : ℕ) → is_near_connection s d ≡ false → (n : NearClient) → near_of s c ≡ Some n → d ≢ c
  not_near d none n there same = absurd (let clash : true ≡ false = sym (ap (λ (x : Option NearClient). is_some x) (ap (near_of s) same ∙ there)) ∙ none in cc)

  -- ---- `near`

  may_begin : (d : ℕ) (name : List ℕ) → can_begin s d name ≡ true → (k : Connection) × (connection_of s.run d ≡ Some k) × (is_open (Some k) ≡ true) × (k.bytes ≡ [])
  may_begin d name can = by (connection_of s.run d) refl (both_left (is_new (connection_of s.run d)) (is_utf8 name) (both_right (not (is_near_connection s d)) (is_new (connection_of s.run d) && is_utf8 name) can))
    where
      silent : (bytes : List ℕ) → is_silent bytes ≡ true → bytes ≡ []
      silent [] e = refl
      silent (b ∷ bytes) e = absurd cc

      by : (found : Option Connection) → connection_of s.run d ≡ found → is_new found ≡ true → (k : Connection) × (connection_of s.run d ≡ Some k) × (is_open (Some k) ≡ true) × (k.bytes ≡ [])
      by None e is = absurd cc
      by (Some k) e is = (k, e, both_left (is_open (Some k)) (is_silent k.bytes) is, silent k.bytes (both_right (is_open (Some k)) (is_silent k.bytes) is))

  near_line : (d : ℕ) (name : List ℕ) (capacity : ℕ) → d ≤ 63 → 2 * length name ≤ most_line_bytes → Step (after_line settings skips s (line.Near d name capacity))
  near_line d name capacity low short = ⊎_elim can cannot (cases (can_begin s d name))
    where
      cannot : can_begin s d name ≡ false → Step (after_line settings skips s (line.Near d name capacity))
      cannot not_so = as_line (line.Near d name capacity) line.Comment s.nears (ap (λ b. cond b (line.Arrive d (opening_of d name)) line.Comment) not_so) (ap (λ b. cond b (s.nears ++ new_near d name capacity ∷ []) s.nears) not_so) (quiet s.nears goes)

      can : can_begin s d name ≡ true → Step (after_line settings skips s (line.Near d name capacity))
      can so = as_line (line.Near d name capacity) (line.Arrive d (opening_of d name)) (s.nears ++ new_near d name capacity ∷ [])
          (ap (λ b. cond b (line.Arrive d (opening_of d name)) line.Comment) so) (ap (λ b. cond b (s.nears ++ new_near d name capacity ∷ []) s.nears) so) each
        where
          none : is_near_connection s d ≡ false
          none = false_or_not (is_near_connection s d) (λ is. absurd (let clash : false ≡ true = sym (ap (λ b. not b) is) ∙ both_left (not (is_near_connection s d)) (is_new (connection_of s.run d) && is_utf8 name) so in cc))

          utf8 : is_utf8 name ≡ true
          utf8 = both_right (is_new (connection_of s.run d)) (is_utf8 name) (both_right (not (is_near_connection s d)) (is_new (connection_of s.run d) && is_utf8 name) so)

          comes : (d ≡ c) → (next (line.Arrive d (opening_of d name))).full ≡ false → Goes settings (next (line.Arrive d (opening_of d name))) (noting (new_messages s.run (next (line.Arrive d (opening_of d name)))) (new_near d name capacity))
          comes same going = (let k = may_begin d name so in
              subst (λ (x : Run). Goes settings x (noting (new_messages s.run x) (new_near d name capacity))) (sym (bytes_alone d (opening_of d name)))
              (begins settings skips s.run stands d name capacity low short (IsUtf8-from_is_utf8 name utf8) k.0 k.1 k.3 k.2))

          each : Each (line.Arrive d (opening_of d name)) (s.nears ++ new_near d name capacity ∷ [])
          each going n e = by (near_of s c) refl
            where
              by : (found : Option NearClient) → near_of s c ≡ found → Goes settings (next (line.Arrive d (opening_of d name))) (noting (new_messages s.run (next (line.Arrive d (opening_of d name)))) n)
              by (Some m) f =
                  let one : m ≡ n = (let both : Some m ≡ Some n = sym (found_more c s.nears (new_near d name capacity) ∙ ap (λ (x : Option NearClient). elim x [ None ↦ cond (d == c) (Some (new_near d name capacity)) None | Some j ↦ Some j ]) f) ∙ e in cc) in
                  by_others (line.Arrive d (opening_of d name)) s.nears (λ j there. (not_near d none j there, goes j there)) going n (f ∙ ap Some one)
              by None f = on (d == c) refl (sym (found_more c s.nears (new_near d name capacity) ∙ ap (λ (x : Option NearClient). elim x [ None ↦ cond (d == c) (Some (new_near d name capacity)) None | Some j ↦ Some j ]) f) ∙ e)
                where
                  on : (b : Bool) → (d == c) ≡ b → cond b (Some (new_near d name capacity)) None ≡ Some n → Goes settings (next (line.Arrive d (opening_of d name))) (noting (new_messages s.run (next (line.Arrive d (opening_of d name)))) n)
                  on true t f = subst (λ (x : NearClient). Goes settings (next (line.Arrive d (opening_of d name))) (noting (new_messages s.run (next (line.Arrive d (opening_of d name)))) x)) (let one : new_near d name capacity ≡ n = cc in one) (comes (same_number d c t) going)
                  on false t f = absurd cc

  -- ---- `nearget`

  -- what a look-up comes to
  record Looked (d : ℕ) (key : List ℕ) (n : NearClient) (kept : Option Value) : Type 0 where
    whole : 8 ≤ length key
    takes_there : takes (partition_object settings) s.run (connection_of s.run d) ≡ true
    there : near_of s d ≡ Some n
    is : value_kept n key ≡ kept

  -- Each one that was made found a client, and what that keeps.
  abbrev Found : ℕ → List ℕ → Look → Type 0
  Found d key Unmade = Unit {0}
  Found d key (Hit n value) = Looked d key n (Some value)
  Found d key (Miss n) = Looked d key n None

  looked : (d : ℕ) (key : List ℕ) → Found d key (look (partition_object settings) s d key)
  looked d key = by (may_look (partition_object settings) s d key) refl
    where
      may : may_look (partition_object settings) s d key ≡ true → (n : NearClient) → near_of s d ≡ Some n → (kept : Option Value) → value_kept n key ≡ kept → Looked d key n kept
      may can n there kept is = record {
        whole = not_less (length key) 8 (not_true (nat_lt (length key) 8) (both_left (not (nat_lt (length key) 8)) (takes (partition_object settings) s.run (connection_of s.run d)) can));
        takes_there = both_right (not (nat_lt (length key) 8)) (takes (partition_object settings) s.run (connection_of s.run d)) can;
        there = there;
        is = is;
      }

      of_value : may_look (partition_object settings) s d key ≡ true → (n : NearClient) → near_of s d ≡ Some n → (kept : Option Value) → value_kept n key ≡ kept → Found d key (look_at n kept)
      of_value can n there (Some value) is = may can n there (Some value) is
      of_value can n there None is = may can n there None is

      of_client : may_look (partition_object settings) s d key ≡ true → (found : Option NearClient) → near_of s d ≡ found → Found d key (look_of key found)
      of_client can None e = tt
      of_client can (Some n) e = of_value can n e (value_kept n key) refl

      by : (b : Bool) → may_look (partition_object settings) s d key ≡ b → Found d key (cond b (look_of key (near_of s d)) Unmade)
      by true can = of_client can (near_of s d) refl
      by false cannot = tt

  -- the client at that place, where it is this one
  same_client : (d : ℕ) → d ≡ c → (n m : NearClient) → near_of s d ≡ Some n → near_of s c ≡ Some m → n ≡ m
  same_client d same n m there here = (let both : Some n ≡ Some m = sym there ∙ ap (near_of s) same ∙ here in cc)

  -- of a client that is changed: it is another one, or this one, which is changed so
  on_changed : (d : ℕ) (f : NearClient → NearClient) → ((n : NearClient) → (f n).conn ≡ n.conn) → (P : NearClient → Type 0) → (d ≢ c → (n : NearClient) → near_of s c ≡ Some n → P n) → (d ≡ c → (n : NearClient) → near_of s c ≡ Some n → P (f n))
      → (m : NearClient) → find (is_near c) (changed d f s.nears) ≡ Some m → P m
  on_changed d f keeps P other this m e = ⊎_elim here away (number_cases d c)
    where
      away : d ≢ c → P m
      away apart = other apart m (sym (changed_elsewhere c d f keeps apart s.nears) ∙ e)

      here : d ≡ c → P m
      here same = by (near_of s c) refl (sym (ap (λ k. find (is_near c) (changed k f s.nears)) same ∙ changed_here c f keeps s.nears) ∙ e)
        where
          by : (found : Option NearClient) → near_of s c ≡ found → option_map f found ≡ Some m → P m
          by None h g = absurd cc
          by (Some n) h g = subst P (let one : f n ≡ m = cc in one) (this same n h)

  hit_each : (d : ℕ) (key : List ℕ) (n : NearClient) (value : Value) → Looked d key n (Some value) → Each line.Comment (changed d (used key) s.nears)
  hit_each d key n value l = quiet (changed d (used key) s.nears) (on_changed d (used key) (λ m. refl) (Goes settings s.run) (λ apart m there. goes m there) this)
    where
      this : d ≡ c → (m : NearClient) → near_of s c ≡ Some m → Goes settings s.run (used key m)
      this same m there = by (goes m there)
        where
          kept : value_kept m key ≡ Some value
          kept = ap (λ (x : NearClient). value_kept x key) (sym (same_client d same n m l.there there)) ∙ l.is

          by : Goes settings s.run m → Goes settings s.run (used key m)
          by (inl a) = inl (hit_on settings s.run m key value kept a)
          by (inr a) = absurd (let clash : None ≡ Some value = sym (bare_keeps_none m key a.bare) ∙ kept in cc)

  miss_each : (d : ℕ) (key : List ℕ) (n : NearClient) → 2 * length key ≤ most_line_bytes → Looked d key n None → Each (line.Arrive d (get_sent n key).request) (changed d (missed key) s.nears)
  miss_each d key n short l going = on_changed d (missed key) (λ m. refl) (λ m. Goes settings (next g) (noting (new_messages s.run (next g)) m)) other this
    where
      g : Line
      g = line.Arrive d (get_sent n key).request

      other : d ≢ c → (m : NearClient) → near_of s c ≡ Some m → Goes settings (next g) (noting (new_messages s.run (next g)) m)
      other apart m there = by_others g s.nears (λ j e. (apart, goes j e)) going m there

      this : d ≡ c → (m : NearClient) → near_of s c ≡ Some m → Goes settings (next g) (noting (new_messages s.run (next g)) (missed key m))
      this same m there = by (goes m there)
        where
          one : n ≡ m
          one = same_client d same n m l.there there

          at : d ≡ m.conn
          at = same ∙ sym (its_number c s.nears m there)

          line_is : line.Arrive d (get_sent n key).request ≡ line.Arrive m.conn (get_sent m key).request
          line_is = ap (λ e. line.Arrive e (get_sent n key).request) at ∙ ap (λ (x : NearClient). line.Arrive m.conn (get_sent x key).request) one

          taking : (k : Connection) → connection_of s.run m.conn ≡ Some k → takes_bytes (partition_object settings) s.run k ≡ true
          taking k e = ap (takes (partition_object settings) s.run) (sym (ap (connection_of s.run) at ∙ e)) ∙ l.takes_there

          by : Goes settings s.run m → Goes settings (next g) (noting (new_messages s.run (next g)) (missed key m))
          by (inl a) =
              let its = (get_sent m key).request in
              let own = bytes_alone m.conn its in
              inl (subst (λ h. IsLive settings (next h) (noting (new_messages s.run (next h)) (missed key m))) (sym line_is)
              (subst (λ (x : Run). IsLive settings x (noting (new_messages s.run x) (missed key m))) (sym own)
              (missed_on settings skips s.run stands m a key l.whole short lines (taking a.connection a.there) (ap (λ (x : NearClient). value_kept x key) (sym one) ∙ l.is)
              (ap (λ (x : Run). x.full) (sym own) ∙ subst (λ h. (next h).full ≡ false) line_is going))))
          by (inr a) = absurd (let clash : false ≡ true = sym a.crashed ∙ both_right (is_open (Some a.connection)) (lives (partition_object settings) s.run a.connection.member) (taking a.connection a.there) in cc)

  get_line : (d : ℕ) (key : List ℕ) → 2 * length key ≤ most_line_bytes → Step (after_line settings skips s (line.NearGet d key))
  get_line d key short = by (look (partition_object settings) s d key) refl (looked d key)
    where
      by : (x : Look) → look (partition_object settings) s d key ≡ x → Found d key (look (partition_object settings) s d key) → Step (after_line settings skips s (line.NearGet d key))
      by Unmade e f = as_line (line.NearGet d key) line.Comment s.nears (ap (asked_line d key) e) (ap (λ (x : Look). after_look d key x s.nears) e) (quiet s.nears goes)
      by (Hit n value) e f = as_line (line.NearGet d key) line.Comment (changed d (used key) s.nears) (ap (asked_line d key) e) (ap (λ (x : Look). after_look d key x s.nears) e) (hit_each d key n value (subst (Found d key) e f))
      by (Miss n) e f = as_line (line.NearGet d key) (line.Arrive d (get_sent n key).request) (changed d (missed key) s.nears) (ap (asked_line d key) e) (ap (λ (x : Look). after_look d key x s.nears) e) (miss_each d key n short (subst (Found d key) e f))

  -- ---- `nearfeed`

  feed_line : (d most : ℕ) → Step (after_line settings skips s (line.NearFeed d most))
  feed_line d most = as_line (line.NearFeed d most) line.Comment (changed d (fed most) s.nears) refl refl (quiet (changed d (fed most) s.nears) (on_changed d (fed most) (λ m. refl) (Goes settings s.run) (λ apart m there. goes m there) this))
    where
      this : d ≡ c → (m : NearClient) → near_of s c ≡ Some m → Goes settings s.run (fed most m)
      this same m there = by (goes m there)
        where
          by : Goes settings s.run m → Goes settings s.run (fed most m)
          by (inl a) = inl (fed_on settings s.run stands m a (subst (λ d. length (sent_to d s.run.appended) ≤ most_messages) (sym (its_number c s.nears m there)) room) most)
          by (inr a) = inr (record { bare = fed_bare most m a.bare; connection = a.connection; there = a.there; crashed = a.crashed })

  -- ---- lines of others

  bytes_line : (d : ℕ) (bytes : List ℕ) → Step (after_line settings skips s (line.Arrive d bytes))
  bytes_line d bytes = ⊎_elim near other (cases (is_near_connection s d))
    where
      near : is_near_connection s d ≡ true → Step (after_line settings skips s (line.Arrive d bytes))
      near is = as_line (line.Arrive d bytes) line.Comment s.nears (ap (λ b. cond b line.Comment (line.Arrive d bytes)) is) refl (quiet s.nears goes)

      other : is_near_connection s d ≡ false → Step (after_line settings skips s (line.Arrive d bytes))
      other none = as_line (line.Arrive d bytes) (line.Arrive d bytes) s.nears (ap (λ b. cond b line.Comment (line.Arrive d bytes)) none) refl (by_others (line.Arrive d bytes) s.nears (λ n there. (not_near d none n there, goes n there)))

  -- its connection is there
  its_connection : (n : NearClient) → Goes settings s.run n → (k : Connection) × (connection_of s.run n.conn ≡ Some k)
  its_connection n (inl a) = (a.connection, a.there)
  its_connection n (inr a) = (a.connection, a.there)

  open_line : (d member : ℕ) → Step (after_line settings skips s (line.OpenConn d member))
  open_line d member = as_line (line.OpenConn d member) (line.OpenConn d member) s.nears refl refl each
    where
      each : Each (line.OpenConn d member) s.nears
      each going n there = ⊎_elim here away (number_cases d c)
        where
          away : d ≢ c → Goes settings (next (line.OpenConn d member)) (noting (new_messages s.run (next (line.OpenConn d member))) n)
          away apart = by_others (line.OpenConn d member) s.nears (λ j e. (apart, goes j e)) going n there

          here : d ≡ c → Goes settings (next (line.OpenConn d member)) (noting (new_messages s.run (next (line.OpenConn d member))) n)
          here same =
              let k = its_connection n (goes n there) in
              let none : next (line.OpenConn d member) ≡ next line.Comment =
              opening_alone d member ∙ opens_nothing (partition_object settings) skips s.run d member k.0 (ap (connection_of s.run) (same ∙ sym (its_number c s.nears n there)) ∙ k.1) ∙ sym comment_alone in
              subst (λ (x : Run). Goes settings x (noting (new_messages s.run x) n)) (sym none) (quiet s.nears goes (ap (λ (x : Run). x.full) (sym none) ∙ going) n there)

  plain : (l : Line) → grid_line (partition_object settings) s l ≡ l → nears_by (partition_object settings) s l ≡ s.nears → IsOthers c l → Step (after_line settings skips s l)
  plain l runs are others = as_line l l s.nears runs are (by_others l s.nears (λ n there. (others, goes n there)))

  pub line_goes : (members : ℕ) (l : Line) → IsWithin members most_line_bytes l → Step (after_line settings skips s l)
  line_goes members (line.Near d name capacity) within = near_line d name capacity within.0 within.2
  line_goes members (line.NearGet d key) within = get_line d key within.2
  line_goes members (line.NearFeed d most) within = feed_line d most
  line_goes members (line.Arrive d bytes) within = bytes_line d bytes
  line_goes members (line.OpenConn d member) within = open_line d member
  line_goes members (line.Grid n backups capacity) within = plain (line.Grid n backups capacity) refl refl tt
  line_goes members (line.Clock member moment) within = plain (line.Clock member moment) refl refl tt
  line_goes members (line.Flow partition most) within = plain (line.Flow partition most) refl refl tt
  line_goes members (line.FlowAll most) within = plain (line.FlowAll most) refl refl tt
  line_goes members (line.Crash member) within = plain (line.Crash member) refl refl tt
  line_goes members (line.Detect member) within = plain (line.Detect member) refl refl tt
  line_goes members (line.Rebalance most) within = plain (line.Rebalance most) refl refl tt
  line_goes members l within = plain l refl refl tt

-- ---- all lines

more_sent : (c : ℕ) (r later : Run) → Grows r later → length (sent_to c later.appended) ≤ most_messages → length (sent_to c r.appended) ≤ most_messages
more_sent c r later grows room =
    let front = grows.appended in
    let all = ap (λ xs. length (sent_to c xs)) (sym front.1) ∙ ap (λ xs. length xs) (sent_to-append c r.appended front.0) ∙ length-append (sent_to c r.appended) (sent_to c front.0) in
    omega (arith, all, room)

still_going : (r later : Run) → Grows r later → later.full ≡ false → r.full ≡ false
still_going r later grows going = false_or_not r.full (λ full. absurd (let clash : true ≡ false = sym (grows.full full) ∙ going in cc))

-- what holds after each line: of the run, of all near clients, and of the one of this connection
record Holds (settings : Settings) (members : ℕ) (s : ScriptRun) (c : ℕ) : Type 0 where
  stands : Stands settings s.run
  come : AllHaveCome members (ruled_of s)
  one : AreOnOne s.nears
  goes : GoesThere settings s c

module _ (settings : Settings) (skips : List CallId) (c members : ℕ) where
  all_lines : (s : ScriptRun) (lines : List Line) → ((l : Line) → In l lines → IsWithin members most_line_bytes l) → s.run.lines + length lines ≤ most_lines → (after_lines settings skips s lines).run.full ≡ false
      → length (sent_to c (after_lines settings skips s lines).run.appended) ≤ most_messages → Holds settings members s c → Holds settings members (after_lines settings skips s lines) c
  all_lines s [] within few going room h = h
  all_lines s (l ∷ lines) within few going room h =
      let next = after_line settings skips s l in
      let later = after_lines settings skips next lines in
      let grows = whole_lines_grow settings skips next lines in
      let once = whole_line_grows settings skips s l in
      let now = still_going next.run later.run grows going in
      let counted = line_lines (partition_object settings) skips (ruled_of s) (grid_line (partition_object settings) s l) in
      let here : IsWithin members most_line_bytes l = within l (inl refl) in
      let one_more : s.run.lines + 1 ≤ most_lines = omega (arith, few) in
      all_lines next lines (λ k i. within k (inr i)) (omega (arith, few, counted)) going room (record {
        stands = line_stands settings skips (ruled_of s) members members (grid_line (partition_object settings) s l) h.come (grid_within (partition_object settings) s members h.one l here) one_more now h.stands;
        come = line_come (partition_object settings) skips members (ruled_of s) (grid_line (partition_object settings) s l) h.come;
        one = line_one settings skips s members l here h.one;
        goes = line_goes settings skips s h.stands c h.goes (more_sent c s.run next.run once (more_sent c next.run later.run grows room)) one_more members l here now;
      })

pub every_client_goes : (settings : Settings) (members backups : ℕ) (skips : List CallId) (lines : List Line) → 1 ≤ members → members < 2 ^ 8 → AreLines members lines → (c : ℕ)
    → let s = after_lines settings skips (begun members backups) lines in s.run.full ≡ false → length (sent_to c s.run.appended) ≤ most_messages → Stands settings s.run × GoesThere settings s c
every_client_goes settings members backups skips lines some low are c going room =
    let few = are.few in
    let h = all_lines settings skips c members (begun members backups) lines (λ l i. are.each l (contains_in l lines i)) (omega (arith, few)) going room (record {
      stands = begun_stands settings members backups some low;
      come = begun_come members backups;
      one = tt;
      goes = λ n there. absurd cc;
    }) in
    (h.stands, h.goes)
