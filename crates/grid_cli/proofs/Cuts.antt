-- Cutting a script's bytes into lines as they come.
use Rattle.std.proofs.Common.{◌≡◌, ℕ, ◌-◌, ◌≤◌, ◌<◌, ◌⊎◌, inl, inr, Bool, true, false, cond, List, [], ◌∷◌, ◌++◌, length, take, Some, None, nat_lt, refl, ap, sym, ◌∙◌, subst, arith, append-nil, append_assoc, length-append}
use Rattle.std.proofs.lemmas.List.{take_all}
use Rattle.partition_protocol.specs.Sequences.{IsFrontOf}
use Rattle.script_lang.specs.Limits.{most_bytes, most_lines, most_line_bytes}
use Rattle.script_lang.specs.Words.{newline, pieces_at, fronts, last_piece, whole_lines, unfinished}
use Rattle.script_lang.specs.Pieces.{IsOnePiece}
use Rattle.script_lang.proofs.Pieces.{first_piece}
use Rattle.script_lang.proofs.LineEnds.{joined, one-append, unfinished_is_one, whole_lines-append, unfinished-append, one_piece_lines}
use Rattle.grid_cli.specs.Scripts.{Cut, stops, onto, within, cut_pieces, cut, lines_of, limit_in, behind}
use Rattle.grid_cli.specs.Transcribing.{HasRoomFor}
use Rattle.grid_cli.specs.Replays.{IsWithin, last_line, ended_line}
use Rattle.grid_cli.specs.declared.status.LimitWhat.{LimitWhat}
use Rattle.grid_cli.specs.declared.status.LimitWhat.TheVariants.{Bytes}
use Rattle.grid_cli.proofs.Tests.{within_limit, past_limit, within_room, limit_stops, last_within}

-- which lines

joined_one : (text end : List ℕ) → IsOnePiece text → IsOnePiece end → IsOnePiece (text ++ end)
joined_one text end one more = one-append text end one ∙ ap (joined text) more

pub lines_completed : (read end : List ℕ) → IsOnePiece end → whole_lines (read ++ ended_line end) ≡ whole_lines read ++ (unfinished read ++ end) ∷ []
lines_completed read end one =
    let text : List ℕ = unfinished read ++ end in
    let whole : IsOnePiece text = joined_one (unfinished read) end (unfinished_is_one read) one in
    whole_lines-append read (ended_line end)
    ∙ ap (λ bytes. whole_lines read ++ whole_lines bytes) (sym (append_assoc (unfinished read) end (newline ∷ [])))
    ∙ ap (λ ps. whole_lines read ++ fronts ps) (one-append text (newline ∷ []) whole)
    ∙ ap (λ t. whole_lines read ++ t ∷ []) (append-nil text)

pub nothing_unfinished : (read end : List ℕ) → IsOnePiece end → unfinished (read ++ ended_line end) ≡ []
nothing_unfinished read end one =
    let text : List ℕ = unfinished read ++ end in
    let whole : IsOnePiece text = joined_one (unfinished read) end (unfinished_is_one read) one in
    unfinished-append read (ended_line end)
    ∙ ap unfinished (sym (append_assoc (unfinished read) end (newline ∷ [])))
    ∙ ap last_piece (one-append text (newline ∷ []) whole)

pub more_unfinished : (read more : List ℕ) → IsOnePiece more → (whole_lines (read ++ more) ≡ whole_lines read) × (unfinished (read ++ more) ≡ unfinished read ++ more)
more_unfinished read more one =
    let whole : IsOnePiece (unfinished read ++ more) = joined_one (unfinished read) more (unfinished_is_one read) one in
    let split = one_piece_lines (unfinished read ++ more) whole in
    (whole_lines-append read more ∙ ap (λ ls. whole_lines read ++ ls) split.0 ∙ append-nil (whole_lines read), unfinished-append read more ∙ split.1)

-- one line and what follows it

cut_line : (past : Bool) (left : ℕ) (line rest : List ℕ)
    → cut_pieces past left (line ∷ pieces_at newline rest) ≡ within left line (onto line (cut_pieces past (left - 1) (pieces_at newline rest)))
cut_line past left line rest =
    let p = first_piece newline rest in
    subst (λ ps. cut_pieces past left (line ∷ ps) ≡ within left line (onto line (cut_pieces past (left - 1) ps))) (sym p.2) refl

-- A line that has a byte is cut off where it is past a limit, whether a newline ends it or not.
cut_some : (past : Bool) (left : ℕ) (line : List ℕ) (pieces : List (List ℕ)) → 0 < length line → (c : Cut) × (cut_pieces past left (line ∷ pieces) ≡ within left line c)
cut_some past left [] pieces some = absurd (omega arith)
cut_some past left (x ∷ xs) [] some = (cond past (stops Bytes) (record { lines = (x ∷ xs) ∷ []; limit = None }), refl)
cut_some past left (x ∷ xs) (p ∷ ps) some = (onto (x ∷ xs) (cut_pieces past (left - 1) (p ∷ ps)), refl)

pieces_completed : (text end rest : List ℕ) → IsOnePiece text → IsOnePiece end → pieces_at newline (text ++ (ended_line end ++ rest)) ≡ (text ++ end) ∷ pieces_at newline rest
pieces_completed text end rest one more =
    ap (λ bytes. pieces_at newline (text ++ bytes)) (append_assoc end (newline ∷ []) rest)
    ∙ ap (pieces_at newline) (sym (append_assoc text end (newline ∷ rest)))
    ∙ one-append (text ++ end) (newline ∷ rest) (joined_one text end one more)
    ∙ ap (λ t. t ∷ pieces_at newline rest) (append-nil (text ++ end))

behind_onto : (done : List (List ℕ)) (text : List ℕ) (c : Cut) → behind done (onto text c) ≡ behind (done ++ text ∷ []) c
behind_onto done text c = ap (λ ls. record { lines = ls; limit = c.limit }) (sym (append_assoc done (text ∷ []) c.lines))

module _ (read : List ℕ) (w : IsWithin read) where
  -- the rest of a script, behind these bytes and others
  behind_read : (past : Bool) (more rest : List ℕ) → cut_pieces past most_lines (pieces_at newline ((read ++ more) ++ rest))
      ≡ behind (whole_lines read) (cut_pieces past (most_lines - length (whole_lines read)) (pieces_at newline (unfinished read ++ (more ++ rest))))
  behind_read past more rest = ap (λ bytes. cut_pieces past most_lines (pieces_at newline bytes)) (append_assoc read more rest) ∙ w.goes_on past (more ++ rest)

  behind_line : (past : Bool) (end rest : List ℕ) → IsOnePiece end → cut_pieces past most_lines (pieces_at newline ((read ++ ended_line end) ++ rest))
      ≡ behind (whole_lines read) (within (most_lines - length (whole_lines read)) (unfinished read ++ end) (onto (unfinished read ++ end) (cut_pieces past (most_lines - length (whole_lines read) - 1) (pieces_at newline rest))))
  behind_line past end rest one =
      let left : ℕ = most_lines - length (whole_lines read) in
      behind_read past (ended_line end) rest
      ∙ ap (behind (whole_lines read)) (ap (cut_pieces past left) (pieces_completed (unfinished read) end rest (unfinished_is_one read) one) ∙ cut_line past left (unfinished read ++ end) rest)

  -- a newline ends a line
  pub completed : (end : List ℕ) → IsOnePiece end → HasRoomFor (whole_lines read) (unfinished read ++ end) → IsWithin (read ++ ended_line end)
  completed end one room = record {
    goes_on = λ past rest.
        let c : Cut = cut_pieces past (most_lines - length (whole_lines read) - 1) (pieces_at newline rest) in
        let fewer : most_lines - length (whole_lines read) - 1 ≡ most_lines - length (whole_lines read ++ text ∷ []) = omega (arith, length-append (whole_lines read) (text ∷ [])) in
        let lines = lines_completed read end one in
        behind_line past end rest one
        ∙ ap (behind (whole_lines read)) (within_room (most_lines - length (whole_lines read)) text (onto text c) (omega (arith, room.0)) room.1)
        ∙ behind_onto (whole_lines read) text c
        ∙ ap (λ n. behind (whole_lines read ++ text ∷ []) (cut_pieces past n (pieces_at newline rest))) fewer
        ∙ ap (λ ls. behind ls (cut_pieces past (most_lines - length ls) (pieces_at newline rest))) (sym lines)
        ∙ ap (λ bytes. behind (whole_lines (read ++ ended_line end)) (cut_pieces past (most_lines - length (whole_lines (read ++ ended_line end))) (pieces_at newline (bytes ++ rest)))) (sym (nothing_unfinished read end one));
    few = omega (arith, room.0, ap length (lines_completed read end one), length-append (whole_lines read) (text ∷ []));
    room = inl (nothing_unfinished read end one);
  }
    where
      text : List ℕ
      text = unfinished read ++ end

  -- bytes of a line
  pub kept : (more : List ℕ) → IsOnePiece more → HasRoomFor (whole_lines read) (unfinished read ++ more) → IsWithin (read ++ more)
  kept more one room = record {
    goes_on = λ past rest.
        let stay = more_unfinished read more one in
        behind_read past more rest
        ∙ ap (λ bytes. behind (whole_lines read) (cut_pieces past (most_lines - length (whole_lines read)) (pieces_at newline bytes))) (sym (append_assoc (unfinished read) more rest) ∙ ap (λ bytes. bytes ++ rest) (sym stay.1))
        ∙ ap (λ ls. behind ls (cut_pieces past (most_lines - length ls) (pieces_at newline (unfinished (read ++ more) ++ rest)))) (sym stay.0);
    few = omega (arith, w.few, ap length (more_unfinished read more one).0);
    room =
        let stay = more_unfinished read more one in
        inr (subst (λ ls. HasRoomFor ls (unfinished (read ++ more))) (sym stay.0) (subst (λ t. HasRoomFor (whole_lines read) t) (sym stay.1) room));
  }

  -- a line that its newline ends goes past a limit
  pub passed_with_newline : (end : List ℕ) (what : LimitWhat) → IsOnePiece end → limit_in (length (whole_lines read)) (unfinished read ++ end) ≡ Some what
      → (past : Bool) (rest : List ℕ) → cut_pieces past most_lines (pieces_at newline ((read ++ ended_line end) ++ rest)) ≡ behind (whole_lines read) (stops what)
  passed_with_newline end what one is past rest =
      behind_line past end rest one
      ∙ ap (behind (whole_lines read)) (limit_stops (length (whole_lines read)) (unfinished read ++ end) (unfinished read ++ end) _ what is w.few (omega arith))

  -- or a line whose newline hasn't come
  pub passed_within : (more : List ℕ) (what : LimitWhat) → IsOnePiece more → 0 < length more → limit_in (length (whole_lines read)) (unfinished read ++ more) ≡ Some what
      → (past : Bool) (rest : List ℕ) → cut_pieces past most_lines (pieces_at newline ((read ++ more) ++ rest)) ≡ behind (whole_lines read) (stops what)
  passed_within more what one some is past rest =
      let left : ℕ = most_lines - length (whole_lines read) in
      let text : List ℕ = unfinished read ++ more in
      let p = first_piece newline rest in
      let pieces : pieces_at newline (unfinished read ++ (more ++ rest)) ≡ (text ++ p.0) ∷ p.1 =
      ap (pieces_at newline) (sym (append_assoc (unfinished read) more rest)) ∙ one-append text rest (joined_one (unfinished read) more (unfinished_is_one read) one) ∙ ap (joined text) p.2 in
      let cut_off = cut_some past left (text ++ p.0) p.1 (omega (arith, length-append text p.0, length-append (unfinished read) more)) in
      behind_read past more rest
      ∙ ap (behind (whole_lines read)) (ap (cut_pieces past left) pieces ∙ cut_off.1
      ∙ limit_stops (length (whole_lines read)) text (text ++ p.0) cut_off.0 what is w.few (omega (arith, length-append text p.0)))

  -- the bytes are all that is looked at
  cut_at_end : (past : Bool) → cut_pieces past most_lines (pieces_at newline read) ≡ behind (whole_lines read) (cond past (stops Bytes) (record { lines = last_line (unfinished read); limit = None }))
  cut_at_end past =
      let left : ℕ = most_lines - length (whole_lines read) in
      ap (λ bytes. cut_pieces past most_lines (pieces_at newline bytes)) (sym (append-nil read))
      ∙ w.goes_on past []
      ∙ ap (behind (whole_lines read)) (ap (cut_pieces past left) (ap (pieces_at newline) (append-nil (unfinished read)) ∙ unfinished_is_one read) ∙ last_within past left (unfinished read) (room_left w.room))
    where
      room_left : (unfinished read ≡ []) ⊎ HasRoomFor (whole_lines read) (unfinished read) → (unfinished read ≡ []) ⊎ ((0 < most_lines - length (whole_lines read)) × (length (unfinished read) ≤ most_line_bytes))
      room_left (inl none) = inl none
      room_left (inr room) = inr (omega (arith, room.0), room.1)

  -- the lines of a script that ends with them
  pub script_ended : length read ≤ most_bytes → cut read ≡ (record { lines = whole_lines read ++ last_line (unfinished read); limit = None })
  script_ended few =
      ap (λ past. cut_pieces past most_lines (pieces_at newline (take most_bytes read))) (within_limit (length read) most_bytes few)
      ∙ ap (λ bytes. cut_pieces false most_lines (pieces_at newline bytes)) (take_all most_bytes read few)
      ∙ cut_at_end false

  -- of one that has more bytes than it may
  pub bytes_passed : (script : List ℕ) → most_bytes < length script → take most_bytes script ≡ read → cut script ≡ (record { lines = whole_lines read ++ []; limit = Some Bytes })
  bytes_passed script many is =
      ap (λ past. cut_pieces past most_lines (pieces_at newline (take most_bytes script))) (past_limit (length script) most_bytes many)
      ∙ ap (λ bytes. cut_pieces true most_lines (pieces_at newline bytes)) is
      ∙ cut_at_end true

  -- and of one that begins with them
  pub lines_begin : (script : List ℕ) → IsFrontOf read (take most_bytes script) → IsFrontOf (whole_lines read) (lines_of script)
  lines_begin script front =
      let past : Bool = nat_lt most_bytes (length script) in
      let is = ap (λ bytes. cut_pieces past most_lines (pieces_at newline bytes)) (sym front.1) ∙ w.goes_on past front.0 in
      ((cut_pieces past (most_lines - length (whole_lines read)) (pieces_at newline (unfinished read ++ front.0))).lines, sym (ap (λ (c : Cut). c.lines) is))

-- the script goes past a limit within these bytes
pub limit_passed_in : (read : List ℕ) (done : List (List ℕ)) (what : LimitWhat)
    → ((past : Bool) (rest : List ℕ) → cut_pieces past most_lines (pieces_at newline (read ++ rest)) ≡ behind done (stops what))
    → (script : List ℕ) → IsFrontOf read (take most_bytes script) → cut script ≡ (record { lines = done ++ []; limit = Some what })
limit_passed_in read done what is script front =
    let past : Bool = nat_lt most_bytes (length script) in
    ap (λ bytes. cut_pieces past most_lines (pieces_at newline bytes)) (sym front.1) ∙ is past front.0
