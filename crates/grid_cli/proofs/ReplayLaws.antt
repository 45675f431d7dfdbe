-- Where the run of a script's lines stops, whatever the script has behind the bytes that were read.
use Rattle.std.proofs.Common.{◌≡◌, ◌≢◌, ℕ, ◌<◌, ◌==◌, Bool, true, false, List, [], ◌∷◌, ◌++◌, length, Option, Some, None, ap, sym, ◌∙◌, subst, arith, append-nil, append_assoc}
use Rattle.std.proofs.lemmas.Bool.Decides.{nat_tests}
use Rattle.grid_base.specs.declared.names.CallId.{CallId}
use Rattle.partition_protocol.specs.Sequences.{IsFrontOf}
use Rattle.script_lang.specs.Limits.{most_lines}
use Rattle.script_lang.specs.Words.{newline, pieces_at, whole_lines, unfinished}
use Rattle.script_lang.specs.Pieces.{IsOnePiece}
use Rattle.entry_processors.specs.Processors.{ProcessorForm}
use Rattle.replay_run.specs.Grids.{FormOf}
use Rattle.grid_cli.specs.Scripts.{Cut, stops, cut_pieces, cut, lines_of, limit_of, limit_in, behind}
use Rattle.grid_cli.specs.Transcripts.{Transcript, Ended, Refused, TooLong, first_line, transcript}
use Rattle.grid_cli.specs.Statuses.{whole, Writes}
use Rattle.grid_cli.specs.Transcribing.{Follows, HasRoomFor, Continues, StopsAs, Concludes}
use Rattle.grid_cli.specs.Replays.{IsWithin, HasRead, StopsWithin, Takes, StopsIn, ended_line}
use Rattle.grid_cli.specs.declared.replay.Replay.{Replay}
use Rattle.grid_cli.specs.declared.status.LimitWhat.{LimitWhat}
use Rattle.grid_cli.specs.declared.status.Status.{Status}
use Rattle.grid_cli.specs.declared.status.Status.TheVariants.{Done, Usage, ScriptRefused, ReadFault, WriteFault, Limit, DoorFault, Memory}
use Rattle.grid_cli.proofs.Tests.{limit_in_none}
use Rattle.grid_cli.proofs.Cuts.{lines_completed, nothing_unfinished, more_unfinished, completed, kept, passed_with_newline, passed_within, lines_begin, limit_passed_in}
use Rattle.grid_cli.proofs.TranscriberLaws.{begins_transcript}

-- a run whose lines are all that the script has
module _ (forms : List ProcessorForm) (limit : Option LimitWhat) (skips : List CallId) (script read written : List ℕ) (lines : List (List ℕ)) (is : cut script ≡ (record { lines = lines; limit = limit })) where
  same : first_line forms skips limit lines ≡ transcript forms skips script
  same = ap (λ (c : Cut). first_line forms skips c.limit c.lines) (sym is)

  pub concluded : (status : Status) → Concludes forms limit status skips lines written → Writes forms status skips script read written
  concluded Done h = sym same ∙ h
  concluded Usage h = absurd h
  concluded (ScriptRefused line why) h = sym same ∙ h
  concluded ReadFault h = absurd h
  concluded DoorFault h = absurd h
  concluded WriteFault h = subst (λ (t : Transcript). IsFrontOf written t.text) same h
  concluded (Limit what) h = (h.0, sym same ∙ h.1)
  concluded Memory h = subst (λ (t : Transcript). IsFrontOf written t.text) same h

pub not_usage : (forms : List ProcessorForm) (limit : Option LimitWhat) (status : Status) (skips : List CallId) (lines : List (List ℕ)) (written : List ℕ) → Concludes forms limit status skips lines written → status ≢ Usage
not_usage forms limit status skips lines written h is = let P : Status → Type 0 = λ s. Concludes forms limit s skips lines written in subst P is h

pub not_door_fault : (forms : List ProcessorForm) (limit : Option LimitWhat) (status : Status) (skips : List CallId) (lines : List (List ℕ)) (written : List ℕ) → Concludes forms limit status skips lines written → status ≢ DoorFault
not_door_fault forms limit status skips lines written h is = let P : Status → Type 0 = λ s. Concludes forms limit s skips lines written in subst P is h

pub not_read_fault : (forms : List ProcessorForm) (limit : Option LimitWhat) (status : Status) (skips : List CallId) (lines : List (List ℕ)) (written : List ℕ) → Concludes forms limit status skips lines written → status ≢ ReadFault
not_read_fault forms limit status skips lines written h is = let P : Status → Type 0 = λ s. Concludes forms limit s skips lines written in subst P is h

-- a run that stopped at a line of the script
module _ (forms : List ProcessorForm) (skips : List CallId) (done : List (List ℕ)) (text written script read : List ℕ) (front : IsFrontOf (done ++ text ∷ []) (lines_of script)) where
  goes_so : (P : Transcript → Type 0) → Continues forms skips done text P → P (transcript forms skips script)
  goes_so P h = subst (λ ls. P (first_line forms skips (limit_of script) ls)) (sym (append_assoc done (text ∷ []) front.0) ∙ front.1) (h (limit_of script) front.0)

  line_writes : (status : Status) → StopsAs forms status skips done text written → Writes forms status skips script read written
  line_writes Done h = goes_so (λ t. t ≡ whole written Ended) h
  line_writes Usage h = absurd h
  line_writes (ScriptRefused line why) h = goes_so (λ t. t ≡ whole written (Refused line why)) h
  line_writes ReadFault h = absurd h
  line_writes DoorFault h = absurd h
  line_writes WriteFault h = goes_so (λ t. IsFrontOf written t.text) h
  line_writes (Limit what) h = goes_so (λ t. (line : ℕ) × (t ≡ whole written (TooLong line what))) h
  line_writes Memory h = goes_so (λ t. IsFrontOf written t.text) h

pub stops_at_line : {forms : List ProcessorForm} (status : Status) (skips : List CallId) (done : List (List ℕ)) (text written read : List ℕ) → IsWithin read → whole_lines read ≡ done ++ text ∷ []
    → StopsAs forms status skips done text written → StopsWithin forms status skips read written
stops_at_line {forms = forms} status skips done text written read within lines h = record {
  writes = λ script came front. line_writes forms skips done text written script came (subst (λ ls. IsFrontOf ls (lines_of script)) lines (lines_begin read within script front)) status h;
  runs = λ is. let P : Status → Type 0 = λ s. StopsAs forms s skips done text written in subst P is h;
  doorless = λ is. let P : Status → Type 0 = λ s. StopsAs forms s skips done text written in subst P is h;
  reads = λ is. let P : Status → Type 0 = λ s. StopsAs forms s skips done text written in subst P is h;
}

-- and however many bytes follow
pub stops_before : {forms : List ProcessorForm} (status : Status) (skips : List CallId) (read more written : List ℕ) → StopsWithin forms status skips read written → StopsWithin forms status skips (read ++ more) written
stops_before status skips read more written h = record {
  writes = λ script came front. h.writes script came (more ++ front.0, sym (append_assoc read more front.0) ∙ front.1);
  runs = h.runs;
  doorless = h.doorless;
  reads = h.reads;
}

-- a byte past a limit
pub stops_at_limit : {forms : List ProcessorForm} (what : LimitWhat) (status : Status) (skips : List CallId) (done : List (List ℕ)) (read written : List ℕ)
    → ((past : Bool) (rest : List ℕ) → cut_pieces past most_lines (pieces_at newline (read ++ rest)) ≡ behind done (stops what))
    → Concludes forms (Some what) status skips done written → StopsWithin forms status skips read written
stops_at_limit {forms = forms} what status skips done read written passed h = record {
  writes = λ script came front.
      concluded forms (Some what) skips script came written (done ++ []) (limit_passed_in read done what passed script front) status
      (subst (λ ls. Concludes forms (Some what) status skips ls written) (sym (append-nil done)) h);
  runs = not_usage forms (Some what) status skips done written h;
  doorless = not_door_fault forms (Some what) status skips done written h;
  reads = not_read_fault forms (Some what) status skips done written h;
}

-- Nothing more is written.
pub stops_for_memory : {V : Type 0} {T : V → Type 0} {form : FormOf V T} (replay : Replay V T) (bytes taken : List ℕ) → StopsIn form replay Memory bytes taken taken
stops_for_memory {form = form} replay bytes taken forms skips read written has = (
  [],
  [],
  stops_before Memory skips read bytes (written ++ []) (record {
    writes = λ script came front.
        let lines = lines_begin read has.within script front in
        subst (λ w. IsFrontOf w (transcript forms skips script).text) (sym (append-nil written))
        (subst (λ ls. IsFrontOf written (first_line forms skips (limit_of script) ls).text) lines.1
        (begins_transcript form forms replay.transcriber.stage skips (whole_lines read) written has.follows (limit_of script) lines.0));
    runs = λ is. absurd (cc is);
    doorless = λ is. absurd (cc is);
    reads = λ is. absurd (cc is);
  }),
  sym (append-nil taken),
)

-- room for a line without a limit in it
pub room_without_limit : (read text : List ℕ) → IsWithin read → limit_in (length (whole_lines read)) text ≡ None → HasRoomFor (whole_lines read) text
room_without_limit read text within none = limit_in_none (length (whole_lines read)) text none within.few

-- a line of the code

pub line_read : {V : Type 0} {T : V → Type 0} {form : FormOf V T} {forms : List ProcessorForm} (replay new : Replay V T) (skips more : List CallId) (read written added text end : List ℕ) → HasRead form forms replay skips read written → IsOnePiece end
    → limit_in (length (whole_lines read)) (unfinished read ++ end) ≡ None → text ≡ unfinished read ++ end
    → Follows form forms new.transcriber.stage (more ++ skips) (whole_lines read ++ text ∷ []) (written ++ added) → new.unfinished.items ≡ [] → HasRead form forms new (more ++ skips) (read ++ ended_line end) (written ++ added)
line_read {form = form} {forms = forms} replay new skips more read written added text end has one none text_is follows rest = record {
  follows = subst (λ ls. Follows form forms new.transcriber.stage (more ++ skips) ls (written ++ added)) (ap (λ t. whole_lines read ++ t ∷ []) text_is ∙ sym (lines_completed read end one)) follows;
  rest = rest ∙ sym (nothing_unfinished read end one);
  within = completed read has.within end one (room_without_limit read (unfinished read ++ end) has.within none);
}

pub line_stops : {forms : List ProcessorForm} (status : Status) (skips : List CallId) (read written text end : List ℕ) → IsWithin read → IsOnePiece end
    → limit_in (length (whole_lines read)) (unfinished read ++ end) ≡ None → text ≡ unfinished read ++ end
    → StopsAs forms status skips (whole_lines read) text written → StopsWithin forms status skips (read ++ ended_line end) written
line_stops status skips read written text end within one none text_is h =
    stops_at_line status skips (whole_lines read) text written (read ++ ended_line end) (completed read within end one (room_without_limit read (unfinished read ++ end) within none))
    (lines_completed read end one ∙ ap (λ t. whole_lines read ++ t ∷ []) (sym text_is)) h

-- what the call that stops at a limit says
abbrev pub ConcludesBehind : {V : Type 0} {T : V → Type 0} → FormOf V T → Replay V T → LimitWhat → Status → List ℕ → List ℕ → Type 0
ConcludesBehind form replay what status had has = (forms : List ProcessorForm) (skips : List CallId) (read written : List ℕ) → HasRead form forms replay skips read written
    → (added : List ℕ) × Concludes forms (Some what) status skips (whole_lines read) (written ++ added) × (has ≡ had ++ added)

pub limit_at_newline : {V : Type 0} {T : V → Type 0} {form : FormOf V T} (replay : Replay V T) (what : LimitWhat) (status : Status) (end had has : List ℕ) → IsOnePiece end
    → ((forms : List ProcessorForm) (skips : List CallId) (read written : List ℕ) → HasRead form forms replay skips read written → limit_in (length (whole_lines read)) (unfinished read ++ end) ≡ Some what)
    → ConcludesBehind form replay what status had has → StopsIn form replay status (ended_line end) had has
limit_at_newline replay what status end had has one passed ends forms skips read written reads =
    let e = ends forms skips read written reads in (
      [],
      e.0,
      stops_at_limit what status skips (whole_lines read) (read ++ ended_line end) (written ++ e.0) (passed_with_newline read reads.within end what one (passed forms skips read written reads)) e.1,
      e.2,
    )

pub limit_in_line : {V : Type 0} {T : V → Type 0} {form : FormOf V T} (replay : Replay V T) (what : LimitWhat) (status : Status) (more had has : List ℕ) → IsOnePiece more → 0 < length more
    → ((forms : List ProcessorForm) (skips : List CallId) (read written : List ℕ) → HasRead form forms replay skips read written → limit_in (length (whole_lines read)) (unfinished read ++ more) ≡ Some what)
    → ConcludesBehind form replay what status had has → StopsIn form replay status more had has
limit_in_line replay what status more had has one some passed ends forms skips read written reads =
    let e = ends forms skips read written reads in (
      [],
      e.0,
      stops_at_limit what status skips (whole_lines read) (read ++ more) (written ++ e.0) (passed_within read reads.within more what one some (passed forms skips read written reads)) e.1,
      e.2,
    )

-- bytes of a line that are kept
pub line_kept : {V : Type 0} {T : V → Type 0} {form : FormOf V T} (replay new : Replay V T) (more taken : List ℕ) → IsOnePiece more → new.transcriber.stage ≡ replay.transcriber.stage → new.unfinished.items ≡ replay.unfinished.items ++ more
    → ((forms : List ProcessorForm) (skips : List CallId) (read written : List ℕ) → HasRead form forms replay skips read written → limit_in (length (whole_lines read)) (unfinished read ++ more) ≡ None)
    → Takes form replay new more taken taken
line_kept {form = form} replay new more taken one stage items none forms skips read written has =
    let stay = more_unfinished read more one in (
      [],
      [],
      subst (λ text. HasRead form forms new skips (read ++ more) text) (sym (append-nil written)) (record {
        follows = subst (λ g. Follows form forms g skips (whole_lines (read ++ more)) written) (sym stage) (subst (λ ls. Follows form forms replay.transcriber.stage skips ls written) (sym stay.0) has.follows);
        rest = items ∙ ap (λ bytes. bytes ++ more) has.rest ∙ sym stay.1;
        within = kept read has.within more one (room_without_limit read (unfinished read ++ more) has.within (none forms skips read written has));
      }),
      sym (append-nil taken),
    )

pub nothing_taken : {V : Type 0} {T : V → Type 0} {form : FormOf V T} (replay : Replay V T) (taken : List ℕ) → Takes form replay replay [] taken taken
nothing_taken {form = form} replay taken forms skips read written has = (
  [],
  [],
  subst (λ bytes. HasRead form forms replay skips bytes (written ++ [])) (sym (append-nil read)) (subst (λ text. HasRead form forms replay skips read text) (sym (append-nil written)) has),
  sym (append-nil taken),
)

pub taken_empty : {V : Type 0} {T : V → Type 0} {form : FormOf V T} (replay : Replay V T) (more taken : List ℕ) → (length more == 0) ≡ true → Takes form replay replay more taken taken
taken_empty replay [] taken e = nothing_taken replay taken
taken_empty replay (x ∷ xs) taken e = absurd (grind (arith, nat_tests))

pub has_bytes : (more : List ℕ) → (length more == 0) ≡ false → 0 < length more
has_bytes [] e = absurd (cc e)
has_bytes (x ∷ xs) e = omega arith
