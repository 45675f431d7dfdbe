-- Reading a script to its end, its limit or a fault.
use Rattle.std.proofs.Common.{◌≡◌, ℕ, ◌+◌, ◌-◌, ◌≤◌, ◌<◌, ◌==◌, ◌&&◌, ◌||◌, nat_lt, true, false, List, [], ◌++◌, length, take, drop, Option, Some, None, refl, ap, sym, ◌∙◌, subst, arith, append-nil, append_assoc, length-append}
use Rattle.std.proofs.lemmas.Bool.Decides.{nat_tests}
use Rattle.std.proofs.lemmas.List.{take-append-drop, length-take, take-take, take_at}
use Rattle.std.proofs.Math.Seq.{take-append-add}
use Rattle.grid_base.specs.declared.names.CallId.{CallId}
use Rattle.grid_edge.proofs.Told.{more_taken}
use Rattle.grid_edge.specs.Given.{Given, found_end, after_piece}
use Rattle.partition_protocol.specs.Sequences.{IsFrontOf}
use Rattle.script_lang.specs.Limits.{most_bytes}
use Rattle.script_lang.specs.Words.{whole_lines, unfinished}
use Rattle.entry_processors.specs.Processors.{ProcessorForm}
use Rattle.replay_run.specs.Grids.{FormOf}
use Rattle.grid_cli.specs.Scripts.{lines_of}
use Rattle.grid_cli.specs.ReadScripts.{Prints}
use Rattle.grid_cli.specs.Transcripts.{transcript}
use Rattle.grid_cli.specs.Statuses.{Writes, most_piece, IsTextSoFar, StopsInLastPiece, ReadsAndWrites}
use Rattle.grid_cli.specs.Transcribing.{Concludes}
use Rattle.grid_cli.specs.Replays.{HasRead, StopsIn, Takes, last_line}
use Rattle.grid_cli.specs.declared.replay.Replay.{Replay}
use Rattle.grid_cli.specs.declared.status.LimitWhat.TheVariants.{Bytes}
use Rattle.grid_cli.specs.declared.status.Status.{Status}
use Rattle.grid_cli.specs.declared.status.Status.TheVariants.{Usage, ReadFault, Memory}
use Rattle.grid_cli.proofs.Cuts.{lines_begin, script_ended, bytes_passed}
use Rattle.grid_cli.proofs.ReplayLaws.{concluded}
use Rattle.grid_cli.proofs.TranscriberLaws.{stop_of_lines}

-- What was read and written so far. The source had given the first bytes, and has given all now; the sink had before, and has after.
pub record HasPlayed {V : Type 0} {T : V → Type 0} (form : FormOf V T) (forms : List ProcessorForm) (replay : Replay V T) (count : ℕ) (first now : Given) (before after : List ℕ) : Type 0 where
  pub skips : List CallId
  pub read : List ℕ
  pub written : List ℕ
  pub has : HasRead form forms replay skips read written
  pub read_is : now.bytes ≡ first.bytes ++ read
  pub taken : after ≡ before ++ written
  pub size : length read ≡ count

pub at_first : {V : Type 0} {T : V → Type 0} {form : FormOf V T} {forms : List ProcessorForm} (replay : Replay V T) (first : Given) (before : List ℕ) → HasRead form forms replay [] [] [] → HasPlayed form forms replay 0 first first before before
at_first replay first before has = record { skips = []; read = []; written = []; has = has; read_is = sym (append-nil first.bytes); taken = sym (append-nil before); size = refl }

-- before anything was read
nothing_stops : (forms : List ProcessorForm) (script : List ℕ) → StopsInLastPiece forms [] script [] []
nothing_stops forms script = record {
  before = [];
  piece = [];
  pieces = refl;
  size = omega arith;
  earlier = [];
  later = [];
  calls = refl;
  shown = [];
  so_far = record { within = (lines_of script, refl); lines = refl };
  front = ([], refl);
}

nothing_read : (forms : List ProcessorForm) (status : Status) (first : Given) (before : List ℕ) → ((script : List ℕ) → Writes forms status [] script [] []) → ReadsAndWrites forms status first first before before
nothing_read forms status first before writes = record {
  skips = [];
  text = [];
  text_is = sym (append-nil before);
  script = record {
    read = [];
    read_is = sym (append-nil first.bytes);
    holds = λ script may. record { writes = writes script; stops = nothing_stops forms script };
  };
}

pub nothing_played : (forms : List ProcessorForm) (first : Given) (before : List ℕ) → ReadsAndWrites forms Memory first first before before
nothing_played forms first before = nothing_read forms Memory first before (λ script. ((transcript forms [] script).text, refl))

pub nothing_said : (forms : List ProcessorForm) (first : Given) (before : List ℕ) → ReadsAndWrites forms Usage first first before before
nothing_said forms first before = nothing_read forms Usage first before (λ script. (refl, refl))

-- A front of a script is one of the bytes that are looked at, if they are no more.
front_within : (read rest : List ℕ) → length read ≤ most_bytes → IsFrontOf read (take most_bytes (read ++ rest))
front_within read rest few =
    let room : ℕ = most_bytes - length read in
    let is : length read + room ≡ most_bytes = omega arith in
    (take room rest, sym (ap (λ n. take n (read ++ rest)) (sym is) ∙ take-append-add read rest room))

-- the bytes of a piece more
read_more : (first now later : Given) (read piece : List ℕ) (room n : ℕ) → now.bytes ≡ first.bytes ++ read → later ≡ after_piece now room n piece → later.bytes ≡ first.bytes ++ (read ++ piece)
read_more first now later read piece room n before came = ap (λ (g : Given). g.bytes) came ∙ ap (λ bytes. bytes ++ piece) before ∙ append_assoc first.bytes read piece

text_so_far : {V : Type 0} {T : V → Type 0} {form : FormOf V T} {forms : List ProcessorForm} (replay : Replay V T) (skips : List CallId) (script read rest written : List ℕ) → length read ≤ most_bytes → HasRead form forms replay skips read written
    → script ≡ read ++ rest → IsTextSoFar forms skips script read written
text_so_far {form = form} {forms = forms} replay skips script read rest written few has is = record {
  within = lines_begin read has.within script (subst (λ bytes. IsFrontOf read (take most_bytes bytes)) (sym is) (front_within read rest few));
  lines = stop_of_lines form forms replay.transcriber.stage skips (whole_lines read) written has.follows None;
}

-- The run went on until this piece came, and goes no further than it.
stops_in_last : {V : Type 0} {T : V → Type 0} {form : FormOf V T} {forms : List ProcessorForm} (replay : Replay V T) (skips more : List CallId) (script read rest piece written text : List ℕ) → length read ≤ most_bytes → HasRead form forms replay skips read written
    → script ≡ read ++ rest → length piece ≤ most_piece → IsFrontOf written text → StopsInLastPiece forms (more ++ skips) script (read ++ piece) text
stops_in_last replay skips more script read rest piece written text few has is size front = record {
  before = read;
  piece = piece;
  pieces = refl;
  size = size;
  earlier = skips;
  later = more;
  calls = refl;
  shown = written;
  so_far = text_so_far replay skips script read rest written few has is;
  front = front;
}

-- a piece as it came
piece_size : (buffer : List ℕ) (n : ℕ) → length buffer ≤ most_piece → length (take n buffer) ≤ most_piece
piece_size buffer n size = omega (arith, size, length-take n buffer)

-- The source failed, and gave nothing.
pub read_failed : {V : Type 0} {T : V → Type 0} {form : FormOf V T} {forms : List ProcessorForm} (replay : Replay V T) (count : ℕ) (first now later : Given) (before after : List ℕ) → HasPlayed form forms replay count first now before after → later ≡ now → count ≤ most_bytes
    → ReadsAndWrites forms ReadFault first later before after
read_failed {forms = forms} replay count first now later before after played same few =
    let within : length played.read ≤ most_bytes = omega (arith, few, played.size) in
    record {
      skips = played.skips;
      text = played.written;
      text_is = played.taken;
      script = record {
        read = played.read;
        read_is = ap (λ (g : Given). g.bytes) same ∙ played.read_is;
        holds = λ rest may. record {
          writes = text_so_far replay played.skips (played.read ++ rest) played.read rest played.written within played.has refl;
          stops =
              subst (λ bytes. StopsInLastPiece forms played.skips (played.read ++ rest) bytes played.written) (append-nil played.read)
              (stops_in_last replay played.skips [] (played.read ++ rest) played.read rest [] played.written played.written within played.has refl (omega arith) ([], append-nil played.written));
        };
      };
    }

-- The source has ended: nothing came where there was room.
ended_here : (now later : Given) (room n : ℕ) (piece : List ℕ) → later ≡ after_piece now room n piece → n ≡ 0 → 0 < room → later.ended ≡ true
ended_here now later room n piece came none some = ap (λ (g : Given). g.ended) came ∙ ap (λ b. b || now.ended) (let found : found_end room n ≡ true = grind (arith, nat_tests) in found)

pub script_read : {V : Type 0} {T : V → Type 0} {form : FormOf V T} {forms : List ProcessorForm} (replay : Replay V T) (count : ℕ) (first now later : Given) (before after last : List ℕ) (status : Status) (buffer : List ℕ) (n : ℕ)
    → HasPlayed form forms replay count first now before after → later ≡ after_piece now (length buffer) n (take n buffer) → length buffer ≤ most_piece → 0 < length buffer → n ≡ 0 → count ≤ most_bytes
    → ((skips : List CallId) (read written : List ℕ) → HasRead form forms replay skips read written
    → (more : List CallId) × (added : List ℕ) × Concludes forms None status (more ++ skips) (whole_lines read ++ last_line (unfinished read)) (written ++ added) × (last ≡ after ++ added))
    → ReadsAndWrites forms status first later before last
script_read {forms = forms} replay count first now later before after last status buffer n played came size some none few ends =
    let within : length played.read ≤ most_bytes = omega (arith, few, played.size) in
    let taken : List ℕ = played.read ++ take n buffer in
    let same : taken ≡ played.read = ap (λ k. played.read ++ take k buffer) none ∙ append-nil played.read in
    let h = ends played.skips played.read played.written played.has in
    record {
      skips = h.0 ++ played.skips;
      text = played.written ++ h.1;
      text_is = more_taken before after last played.written h.1 played.taken h.3;
      script = record {
        read = taken;
        read_is = read_more first now later played.read (take n buffer) (length buffer) n played.read_is came;
        holds = λ rest may.
            let all : taken ++ rest ≡ played.read = ap (λ bytes. taken ++ bytes) (may (ended_here now later (length buffer) n (take n buffer) came none some)) ∙ append-nil taken ∙ same in
            record {
              writes =
                  subst (λ bytes. Writes forms status (h.0 ++ played.skips) bytes taken (played.written ++ h.1)) (sym all)
                  (concluded forms None (h.0 ++ played.skips) played.read taken (played.written ++ h.1) (whole_lines played.read ++ last_line (unfinished played.read))
                  (script_ended played.read played.has.within within) status h.2);
              stops =
                  stops_in_last replay played.skips h.0 (taken ++ rest) played.read (take n buffer ++ rest) (take n buffer) played.written (played.written ++ h.1)
                  within played.has (append_assoc played.read (take n buffer) rest) (piece_size buffer n size) (h.1, refl);
            };
      };
    }

-- A front of the bytes that came is taken.
rest_of_piece : (read buffer rest : List ℕ) (count m : ℕ) → m ≤ count → read ++ (take count buffer ++ rest) ≡ (read ++ take m buffer) ++ (drop m (take count buffer) ++ rest)
rest_of_piece read buffer rest count m within =
    let fronts : take m (take count buffer) ≡ take m buffer = take-take m count buffer within in
    ap (λ bytes. read ++ (bytes ++ rest)) (sym (take-append-drop m (take count buffer)) ∙ ap (λ bytes. bytes ++ drop m (take count buffer)) fronts)
    ∙ ap (λ bytes. read ++ bytes) (append_assoc (take m buffer) (drop m (take count buffer)) rest)
    ∙ sym (append_assoc read (take m buffer) (drop m (take count buffer) ++ rest))

pub stopped_in_piece : {V : Type 0} {T : V → Type 0} {form : FormOf V T} {forms : List ProcessorForm} (replay : Replay V T) (count : ℕ) (first now later : Given) (before after last : List ℕ) (status : Status) (buffer : List ℕ) (n m : ℕ)
    → HasPlayed form forms replay count first now before after → later ≡ after_piece now (length buffer) n (take n buffer) → length buffer ≤ most_piece → m ≤ n → count + m ≤ most_bytes → StopsIn form replay status (take m buffer) after last
    → ReadsAndWrites forms status first later before last
stopped_in_piece {forms = forms} replay count first now later before after last status buffer n m played came size within room stops =
    let front : List ℕ = played.read ++ take m buffer in
    let taken : List ℕ = played.read ++ take n buffer in
    let h = stops forms played.skips played.read played.written played.has in
    record {
      skips = h.0 ++ played.skips;
      text = played.written ++ h.1;
      text_is = more_taken before after last played.written h.1 played.taken h.3;
      script = record {
        read = taken;
        read_is = read_more first now later played.read (take n buffer) (length buffer) n played.read_is came;
        holds = λ rest may.
            let behind : List ℕ = drop m (take n buffer) ++ rest in
            let split : taken ++ rest ≡ played.read ++ (take n buffer ++ rest) = append_assoc played.read (take n buffer) rest in
            let all : taken ++ rest ≡ front ++ behind = split ∙ rest_of_piece played.read buffer rest n m within in
            record {
              writes =
                  subst (λ bytes. Writes forms status (h.0 ++ played.skips) bytes taken (played.written ++ h.1)) (sym all)
                  (h.2.writes (front ++ behind) taken (front_within front behind (omega (arith, played.size, length-append played.read (take m buffer), length-take m buffer, room))));
              stops =
                  stops_in_last replay played.skips h.0 (taken ++ rest) played.read (take n buffer ++ rest) (take n buffer) played.written (played.written ++ h.1)
                  (omega (arith, played.size, room)) played.has split (piece_size buffer n size) (h.1, refl);
            };
      };
    }

-- The piece was taken whole, and the run goes on.
pub played_on : {V : Type 0} {T : V → Type 0} {form : FormOf V T} {forms : List ProcessorForm} (replay next : Replay V T) (count : ℕ) (first now later : Given) (before after last : List ℕ) (buffer : List ℕ) (n : ℕ)
    → HasPlayed form forms replay count first now before after → later ≡ after_piece now (length buffer) n (take n buffer) → n ≤ length buffer → Takes form replay next (take n buffer) after last
    → HasPlayed form forms next (count + n) first later before last
played_on {forms = forms} replay next count first now later before after last buffer n played came within goes =
    let h = goes forms played.skips played.read played.written played.has in
    record {
      skips = h.0 ++ played.skips;
      read = played.read ++ take n buffer;
      written = played.written ++ h.1;
      has = h.2;
      read_is = read_more first now later played.read (take n buffer) (length buffer) n played.read_is came;
      taken = more_taken before after last played.written h.1 played.taken h.3;
      size = length-append played.read (take n buffer) ∙ omega (arith, played.size, length-take n buffer);
    }

-- The script has more bytes than it may.
pub limit_was_passed : {V : Type 0} {T : V → Type 0} {form : FormOf V T} {forms : List ProcessorForm} (replay next : Replay V T) (count : ℕ) (first now later : Given) (before after mid last : List ℕ) (status : Status) (buffer : List ℕ) (n m : ℕ)
    → HasPlayed form forms replay count first now before after → later ≡ after_piece now (length buffer) n (take n buffer) → length buffer ≤ most_piece → n ≤ length buffer → count ≤ most_bytes → m ≡ most_bytes - count → m < n
    → Takes form replay next (take m buffer) after mid
    → ((skips : List CallId) (read written : List ℕ) → HasRead form forms next skips read written
    → (added : List ℕ) × Concludes forms (Some Bytes) status skips (whole_lines read) (written ++ added) × (last ≡ mid ++ added))
    → ReadsAndWrites forms status first later before last
limit_was_passed {forms = forms} replay next count first now later before after mid last status buffer n m played came fits within count_within room past goes ends =
    let front : List ℕ = played.read ++ take m buffer in
    let taken : List ℕ = played.read ++ take n buffer in
    let size : length front ≡ most_bytes = length-append played.read (take m buffer) ∙ omega (arith, played.size, length-take m buffer, room, past, within) in
    let h = goes forms played.skips played.read played.written played.has in
    let e = ends (h.0 ++ played.skips) front (played.written ++ h.1) h.2 in
    record {
      skips = h.0 ++ played.skips;
      text = (played.written ++ h.1) ++ e.0;
      text_is = more_taken before mid last (played.written ++ h.1) e.0 (more_taken before after mid played.written h.1 played.taken h.3) e.2;
      script = record {
        read = taken;
        read_is = read_more first now later played.read (take n buffer) (length buffer) n played.read_is came;
        holds = λ rest may.
            let split : taken ++ rest ≡ played.read ++ (take n buffer ++ rest) = append_assoc played.read (take n buffer) rest in
            let all : taken ++ rest ≡ front ++ (drop m (take n buffer) ++ rest) = split ∙ rest_of_piece played.read buffer rest n m (omega (arith, past)) in
            let cut_off : take most_bytes (taken ++ rest) ≡ front = ap (take most_bytes) all ∙ take_at front (drop m (take n buffer) ++ rest) most_bytes size in
            let many : most_bytes < length (taken ++ rest) =
            omega (arith, played.size, length-append taken rest, length-append played.read (take n buffer), length-take n buffer, room, past, within) in
            record {
              writes =
                  concluded forms (Some Bytes) (h.0 ++ played.skips) (taken ++ rest) taken ((played.written ++ h.1) ++ e.0) (whole_lines front ++ []) (bytes_passed front h.2.within (taken ++ rest) many cut_off) status
                  (subst (λ ls. Concludes forms (Some Bytes) status (h.0 ++ played.skips) ls ((played.written ++ h.1) ++ e.0)) (sym (append-nil (whole_lines front))) e.1);
              stops =
                  stops_in_last replay played.skips h.0 (taken ++ rest) played.read (take n buffer ++ rest) (take n buffer) played.written ((played.written ++ h.1) ++ e.0)
                  (omega (arith, played.size, count_within)) played.has split (piece_size buffer n fits) (h.1 ++ e.0, sym (append_assoc played.written h.1 e.0));
            };
      };
    }

pub all_taken : {V : Type 0} {T : V → Type 0} {form : FormOf V T} (replay next : Replay V T) (buffer : List ℕ) (n m : ℕ) (after last : List ℕ) → m ≡ n → Takes form replay next (take m buffer) after last
    → Takes form replay next (take n buffer) after last
all_taken {form = form} replay next buffer n m after last all takes = subst (λ k. Takes form replay next (take k buffer) after last) all takes
