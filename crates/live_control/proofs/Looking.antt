-- Looking for the next line in what came.
use Rattle.std.proofs.Common.{◌≡◌, ℕ, ◌+◌, ◌≤◌, ◌<◌, ◌==◌, ◌⊎◌, inl, Bool, true, false, List, [], ◌∷◌, ◌++◌, length, take, drop, Option, Some, None, Err, refl, ap, sym, ◌∙◌, subst, arith, append-nil, append_assoc, length-append, vec_len}
use Rattle.std.proofs.lemmas.List.{length-take, take_all, take-append-le}
use Rattle.grid_edge.specs.Given.{Given}
use Rattle.memchr.specs.Find.{Nowhere, NoneBefore, Passes, is_byte}
use Rattle.partition_protocol.specs.Sequences.{IsFrontOf}
use Rattle.script_lang.specs.Limits.{most_bytes, most_lines}
use Rattle.script_lang.specs.Words.{newline, whole_lines, unfinished}
use Rattle.script_lang.specs.Pieces.{IsOnePiece}
use Rattle.grid_cli.specs.Scripts.{Cut, cut, lines_of, limit_in}
use Rattle.grid_cli.specs.Replays.{IsWithin, last_line, ended_line}
use Rattle.grid_cli.specs.Transcribing.{HasRoomFor}
use Rattle.grid_cli.specs.declared.status.LimitWhat.{LimitWhat}
use Rattle.grid_cli.specs.declared.status.LimitWhat.TheVariants.{Bytes}
use Rattle.grid_cli.proofs.Cuts.{lines_completed, nothing_unfinished, more_unfinished, completed, kept, passed_with_newline, passed_within, script_ended, bytes_passed, lines_begin, limit_passed_in}
use Rattle.grid_cli.proofs.ReplayEnds.{no_last_line, last_line_is, room_for_last}
use Rattle.grid_cli.proofs.ReplayLaws.{room_without_limit}
use Rattle.grid_cli.proofs.ReplaySteps.{one_end, no_end, split_at_line}
use Rattle.grid_cli.specs.Statuses.{most_piece}
use Rattle.live_control.specs.declared.lines.Came.{Came}
use Rattle.live_control.specs.declared.lines.Came.TheVariants.{Line, Nothing, Limit, Fault, NoMemory}
use Rattle.live_control.specs.declared.lines.LineReader.{LineReader}
use Rattle.live_control.specs.Reading.{ahead, IsAmid, IsAt, AreFirst, AreLinesOf, HasCome, HasLooked, ComesNext, IsKept, IsPast, IsSameBut, HasLonger, up_to}
use Rattle.live_control.proofs.Ahead.{between_front, between_rest, between_none, front_of_more, front_then, is_within, is_past}

-- before anything came
nothing_within : IsWithin []
nothing_within = record { goes_on = λ past rest. refl; few = omega arith; room = inl refl }

pub at_start : (reader : LineReader) (source : Given) → vec_len reader.piece ≡ most_piece → reader.from ≡ 0 → reader.to ≡ 0 → reader.lines ≡ 0 → reader.bytes ≡ 0 → reader.is_over ≡ false → reader.has_ended ≡ false → HasCome reader source [] [] []
at_start reader source size from to lines bytes over going = record {
  size = size;
  placed = omega (arith, from, to);
  inside = omega (arith, to);
  few = omega (arith, bytes);
  count = lines;
  at = subst (λ (b : Bool). IsAt b reader source [] [] []) (sym going) (record {
    looked = [];
    whole = sym (between_none reader.piece.items reader.from reader.to (omega (arith, from, to)));
    within = nothing_within;
    lines = refl;
    left = refl;
    bytes = bytes;
    over = over;
  });
}

-- the line is another one
pub other_line : (reader new : LineReader) (source : Given) (came : List ℕ) (given : List (List ℕ)) (rest : List ℕ) → new ≡ record reader { line = new.line } → HasCome reader source came given rest → HasCome new source came given rest
other_line reader new source came given rest is h = subst (λ (r : LineReader). HasCome r source came given rest) (sym is) (record {
  size = h.size;
  placed = h.placed;
  inside = h.inside;
  few = h.few;
  count = h.count;
  at = at_it reader.has_ended h.at;
})
  where
    at_it : (b : Bool) → IsAt b reader source came given rest → IsAt b (record reader { line = new.line }) source came given rest
    at_it true at = at
    at_it false at = record { looked = at.looked; whole = at.whole; within = at.within; lines = at.lines; left = at.left; bytes = at.bytes; over = at.over }

-- a script that has ended
pub ended_at : (reader : LineReader) (source : Given) (came : List ℕ) (given : List (List ℕ)) (rest : List ℕ) → HasCome reader source came given rest → reader.has_ended ≡ true → AreLinesOf given came × (source.ended ≡ true)
ended_at reader source came given rest h ended = subst (λ (b : Bool). IsAt b reader source came given rest) ended h.at

-- why there is no line
pub no_line : (why : Came) (reader : LineReader) (source : Given) (came : List ℕ) (given : List (List ℕ)) → HasLooked (Err why) reader source came given → ComesNext why reader source came given
no_line (Limit what) reader source came given h = h
no_line NoMemory reader source came given h = h
no_line Line reader source came given h = absurd h
no_line Nothing reader source came given h = absurd h
no_line Fault reader source came given h = absurd h

-- a script that goes on
pub amid : (reader : LineReader) (source : Given) (came : List ℕ) (given : List (List ℕ)) (rest : List ℕ) → HasCome reader source came given rest → reader.has_ended ≡ false → IsAmid reader came given rest
amid reader source came given rest h going = subst (λ (b : Bool). IsAt b reader source came given rest) going h.at

pub still_amid : (reader : LineReader) (source : Given) (came : List ℕ) (given : List (List ℕ)) (rest : List ℕ) → reader.has_ended ≡ false → IsAmid reader came given rest → IsAt reader.has_ended reader source came given rest
still_amid reader source came given rest going h = subst (λ (b : Bool). IsAt b reader source came given rest) (sym going) h

-- the lines that were given are the script's first
pub first_lines : (reader : LineReader) (source : Given) (came : List ℕ) (given : List (List ℕ)) (rest : List ℕ) → HasCome reader source came given rest → AreFirst given source came
first_lines reader source came given rest h = go reader.has_ended h.at
  where
    go : (b : Bool) → IsAt b reader source came given rest → AreFirst given source came
    go true is more may = ([], append-nil given ∙ sym (ap lines_of (ap (λ (l : List ℕ). came ++ l) (may is.1) ∙ append-nil came) ∙ ap (λ (c : Cut). c.lines) is.0))
    go false is more may =
        subst (λ (ls : List (List ℕ)). IsFrontOf ls (lines_of (came ++ more))) is.lines
        (lines_begin is.looked is.within (came ++ more) (front_then _ (take most_bytes came) _ (ahead reader, sym is.whole) (front_of_more came more)))

module _ (old : LineReader) (source : Given) (came : List ℕ) (given : List (List ℕ)) (h : HasCome old source came given old.line.items) (going : old.has_ended ≡ false) where
  pub a : IsAmid old came given old.line.items
  a = amid old source came given old.line.items h going

  pub few_lines : length given ≤ most_lines
  few_lines = subst (λ (ls : List (List ℕ)). length ls ≤ most_lines) a.lines a.within.few

  -- what a limit, or none, says of the lines
  at_lines : (bytes : List ℕ) (o : Option LimitWhat) → limit_in old.lines (old.line.items ++ bytes) ≡ o → limit_in (length (whole_lines a.looked)) (unfinished a.looked ++ bytes) ≡ o
  at_lines bytes o is = ap (λ n. limit_in n (unfinished a.looked ++ bytes)) (ap length a.lines ∙ sym h.count) ∙ (ap (λ (l : List ℕ). limit_in old.lines (l ++ bytes)) a.left ∙ is)

  room_for : (bytes : List ℕ) → limit_in old.lines (old.line.items ++ bytes) ≡ None → HasRoomFor given (old.line.items ++ bytes)
  room_for bytes none =
      subst (λ (l : List ℕ). HasRoomFor given (l ++ bytes)) a.left (subst (λ (ls : List (List ℕ)). HasRoomFor ls (unfinished a.looked ++ bytes)) a.lines
      (room_without_limit a.looked (unfinished a.looked ++ bytes) a.within (at_lines bytes None none)))

  -- bytes that weren't kept
  pub not_kept : (why : Came) (new : LineReader) (end : ℕ) → IsSameBut old new → IsKept old new end (Err why)
      → ((what : LimitWhat) → limit_in old.lines (old.line.items ++ up_to old end) ≡ Some what → (rest : List ℕ) → cut (came ++ rest) ≡ record { lines = given; limit = Some what }) → HasLooked (Err why) new source came given
  not_kept (Limit what) new end same k past = record { count = same.lines ∙ h.count; few = few_lines; past = past what k }
  not_kept NoMemory new end same k past = first_lines old source came given old.line.items h
  not_kept Line new end same k past = absurd k
  not_kept Nothing new end same k past = absurd k
  not_kept Fault new end same k past = absurd k

  -- the bytes up to the newline, and those behind it
  module _ (n : ℕ) (found : NoneBefore (Passes (is_byte newline) (ahead old)) 0 (length (ahead old)) n) (here : Passes (is_byte newline) (ahead old) n) where
    abbrev pub end : List ℕ
    end = take n (ahead old)

    inside : old.from + n < old.to
    inside = let less = found.high in omega (arith, less, Rattle.std.proofs.lemmas.List.length-drop old.from (take old.to old.piece.items), length-take old.to old.piece.items)

    pub end_is : up_to old (old.from + n) ≡ end
    end_is = between_front old.piece.items old.from old.to n (let less = inside in omega (arith, less))

    one : IsOnePiece end
    one = one_end (ahead old) n found

    all : take most_bytes came ≡ (a.looked ++ ended_line end) ++ drop (n + 1) (ahead old)
    all = a.whole ∙ (ap (λ (bytes : List ℕ). a.looked ++ bytes) (sym (split_at_line (ahead old) n found.high here)) ∙ sym (append_assoc a.looked (ended_line end) (drop (n + 1) (ahead old))))

    -- the line is whole
    pub line_found : (kept_reader : LineReader) → IsSameBut old kept_reader → HasLonger old kept_reader (old.from + n)
        → HasCome (record kept_reader { from = kept_reader.from + 1; lines = kept_reader.lines + 1 }) source came (given ++ kept_reader.line.items ∷ []) [] × HasRoomFor given kept_reader.line.items
    line_found k same longer =
        let line_is : k.line.items ≡ unfinished a.looked ++ end = longer.line ∙ (ap (λ (bytes : List ℕ). old.line.items ++ bytes) end_is ∙ ap (λ (l : List ℕ). l ++ end) (sym a.left)) in
        let room = room_for (up_to old (old.from + n)) longer.room in
        let new : LineReader = record k { from = k.from + 1; lines = k.lines + 1 } in
        let ahead_is : drop (n + 1) (ahead old) ≡ ahead new =
        sym (between_rest old.piece.items old.from old.to (n + 1))
        ∙ (ap (λ f. drop f (take old.to old.piece.items)) (let from = longer.from in omega (arith, from))
        ∙ (ap (λ t. drop (k.from + 1) (take t old.piece.items)) (sym same.to) ∙ ap (λ p. drop (k.from + 1) (take k.to p.items)) (sym same.piece))) in (
          record {
            size = ap (λ p. vec_len p) same.piece ∙ h.size;
            placed = let less = inside in let from = longer.from in let to = same.to in omega (arith, less, from, to);
            inside = let to = same.to in let less = h.inside in omega (arith, to, less);
            few = let bytes = same.bytes in let less = h.few in omega (arith, bytes, less);
            count = let lines = same.lines in let count = h.count in omega (arith, lines, count, length-append given (k.line.items ∷ []));
            at = still_amid new source came (given ++ k.line.items ∷ []) [] (same.ended ∙ going) (record {
              looked = a.looked ++ ended_line end;
              whole = all ∙ ap (λ (bytes : List ℕ). (a.looked ++ ended_line end) ++ bytes) ahead_is;
              within = completed a.looked a.within end one (room_without_limit a.looked (unfinished a.looked ++ end) a.within (ap (λ (bytes : List ℕ). limit_in (length (whole_lines a.looked)) (unfinished a.looked ++ bytes)) (sym end_is) ∙ at_lines (up_to old (old.from + n)) None longer.room));
              lines = lines_completed a.looked end one ∙ (ap (λ (ls : List (List ℕ)). ls ++ (unfinished a.looked ++ end) ∷ []) a.lines ∙ ap (λ (l : List ℕ). given ++ l ∷ []) (sym line_is));
              left = nothing_unfinished a.looked end one;
              bytes = same.bytes ∙ a.bytes;
              over = same.over ∙ a.over;
            });
          },
          subst (HasRoomFor given) (sym longer.line) room,
        )

    -- or the newline is past a limit
    pub line_past : (what : LimitWhat) → limit_in old.lines (old.line.items ++ up_to old (old.from + n)) ≡ Some what → (rest : List ℕ) → cut (came ++ rest) ≡ record { lines = given; limit = Some what }
    line_past what is rest =
        let passed = passed_with_newline a.looked a.within end what one (ap (λ (bytes : List ℕ). limit_in (length (whole_lines a.looked)) (unfinished a.looked ++ bytes)) (sym end_is) ∙ at_lines (up_to old (old.from + n)) (Some what) is) in
        let front : IsFrontOf (a.looked ++ ended_line end) (take most_bytes (came ++ rest)) = front_then _ (take most_bytes came) _ (drop (n + 1) (ahead old), sym all) (front_of_more came rest) in
        limit_passed_in (a.looked ++ ended_line end) (whole_lines a.looked) what passed (came ++ rest) front ∙ ap (λ (ls : List (List ℕ)). record { lines = ls; limit = Some what }) (append-nil (whole_lines a.looked) ∙ a.lines)

  -- no newline is ahead
  module _ (none : Nowhere (Passes (is_byte newline) (ahead old)) 0 (length (ahead old))) where
    whole_one : IsOnePiece (ahead old)
    whole_one = no_end (ahead old) none

    -- the bytes are kept
    pub bytes_kept : (k : LineReader) → IsSameBut old k → HasLonger old k old.to → HasCome k source came given k.line.items
    bytes_kept k same longer =
        let line_is : unfinished (a.looked ++ ahead old) ≡ k.line.items = (more_unfinished a.looked (ahead old) whole_one).1 ∙ (ap (λ (l : List ℕ). l ++ ahead old) a.left ∙ sym longer.line) in
        let nothing : ahead k ≡ [] = ap (λ p. drop k.from (take k.to p.items)) same.piece ∙ between_none old.piece.items k.from k.to (let from = longer.from in let to = same.to in omega (arith, from, to)) in
        record {
          size = ap (λ p. vec_len p) same.piece ∙ h.size;
          placed = let from = longer.from in let to = same.to in omega (arith, from, to);
          inside = let to = same.to in let less = h.inside in omega (arith, to, less);
          few = let bytes = same.bytes in let less = h.few in omega (arith, bytes, less);
          count = same.lines ∙ h.count;
          at = still_amid k source came given k.line.items (same.ended ∙ going) (record {
            looked = a.looked ++ ahead old;
            whole = a.whole ∙ (sym (append-nil (a.looked ++ ahead old)) ∙ ap (λ (bytes : List ℕ). (a.looked ++ ahead old) ++ bytes) (sym nothing));
            within = kept a.looked a.within (ahead old) whole_one (room_without_limit a.looked (unfinished a.looked ++ ahead old) a.within (at_lines (ahead old) None longer.room));
            lines = (more_unfinished a.looked (ahead old) whole_one).0 ∙ a.lines;
            left = line_is;
            bytes = same.bytes ∙ a.bytes;
            over = same.over ∙ a.over;
          });
        }

    -- or they are past a limit
    pub bytes_past : (what : LimitWhat) → old.from < old.to → limit_in old.lines (old.line.items ++ up_to old old.to) ≡ Some what → (rest : List ℕ) → cut (came ++ rest) ≡ record { lines = given; limit = Some what }
    bytes_past what some is rest =
        let many : 0 < length (ahead old) = let size = h.size in let less = h.inside in omega (arith, some, Rattle.std.proofs.lemmas.List.length-drop old.from (take old.to old.piece.items), length-take old.to old.piece.items, old.piece.ok.0, size, less) in
        let passed = passed_within a.looked a.within (ahead old) what whole_one many (at_lines (ahead old) (Some what) is) in
        let front : IsFrontOf (a.looked ++ ahead old) (take most_bytes (came ++ rest)) = front_then _ (take most_bytes came) _ ([], append-nil (a.looked ++ ahead old) ∙ sym a.whole) (front_of_more came rest) in
        limit_passed_in (a.looked ++ ahead old) (whole_lines a.looked) what passed (came ++ rest) front ∙ ap (λ (ls : List (List ℕ)). record { lines = ls; limit = Some what }) (append-nil (whole_lines a.looked) ∙ a.lines)

  -- where nothing is ahead
  module _ (spent : old.from ≡ old.to) where
    nothing_ahead : ahead old ≡ []
    nothing_ahead = between_none old.piece.items old.from old.to (omega (arith, spent))

    pub looked_is : take most_bytes came ≡ a.looked
    looked_is = a.whole ∙ (ap (λ (bytes : List ℕ). a.looked ++ bytes) nothing_ahead ∙ append-nil a.looked)

    -- the script has more bytes than it may
    bytes_over : old.is_over ≡ true → (rest : List ℕ) → cut (came ++ rest) ≡ record { lines = given; limit = Some Bytes }
    bytes_over over rest =
        let many : most_bytes < length came = is_past (length came) most_bytes (sym a.over ∙ over) in
        bytes_passed a.looked a.within (came ++ rest) (omega (arith, many, length-append came rest)) (take-append-le most_bytes came rest (omega (arith, many)) ∙ looked_is)
        ∙ ap (λ (ls : List (List ℕ)). record { lines = ls; limit = Some Bytes }) (append-nil (whole_lines a.looked) ∙ a.lines)

    pub past_bytes : old.is_over ≡ true → IsPast Bytes old came given
    past_bytes over = record { count = h.count; few = few_lines; past = bytes_over over }

    module _ (within : old.is_over ≡ false) where
      pub few_came : length came ≤ most_bytes
      few_came = is_within (length came) most_bytes (sym a.over ∙ within)

      pub came_is : came ≡ a.looked
      came_is = sym (take_all most_bytes came few_came) ∙ looked_is

      pub came_bytes : old.bytes ≡ length came
      came_bytes = a.bytes ∙ ap length (take_all most_bytes came few_came)

      pub lines_so_far : whole_lines came ≡ given
      lines_so_far = ap whole_lines came_is ∙ a.lines

      whole_cut : cut came ≡ record { lines = given ++ last_line old.line.items; limit = None }
      whole_cut = ap cut came_is ∙ (script_ended a.looked a.within (subst (λ (l : List ℕ). length l ≤ most_bytes) came_is few_came)
          ∙ (ap (λ (ls : List (List ℕ)). record { lines = ls ++ last_line (unfinished a.looked); limit = None }) a.lines ∙ ap (λ (l : List ℕ). record { lines = given ++ last_line l; limit = None }) a.left))

      -- the script has ended
      pub ended_without : (length old.line.items == 0) ≡ true → AreLinesOf given came
      ended_without none = whole_cut ∙ ap (λ (ls : List (List ℕ)). record { lines = ls; limit = None }) (ap (λ (ls : List (List ℕ)). given ++ ls) (no_last_line old.line.items none) ∙ append-nil given)

      pub last_room : (length old.line.items == 0) ≡ false → HasRoomFor given old.line.items
      last_room some = room_for_last given old.line.items (subst (λ (l : List ℕ). (l ≡ []) ⊎ HasRoomFor given l) a.left (subst (λ (ls : List (List ℕ)). (unfinished a.looked ≡ []) ⊎ HasRoomFor ls (unfinished a.looked)) a.lines a.within.room)) some

      pub ended_with : (length old.line.items == 0) ≡ false → source.ended ≡ true → HasCome (record old { has_ended = true; lines = old.lines + 1 }) source came (given ++ old.line.items ∷ []) []
      ended_with some at_end = record {
        size = h.size;
        placed = h.placed;
        inside = h.inside;
        few = h.few;
        count = let count = h.count in omega (arith, count, length-append given (old.line.items ∷ []));
        at = (whole_cut ∙ ap (λ (ls : List (List ℕ)). record { lines = given ++ ls; limit = None }) (last_line_is old.line.items some), at_end);
      }
