-- The lines of a script that were run, and how it ends.
use Rattle.std.proofs.Common.{◌≡◌, ◌⊎◌, inl, inr, ℕ, ◌+◌, true, List, [], ◌∷◌, ◌++◌, length, take, drop, Option, Some, refl, ap, sym, ◌∙◌, subst, arith, append-nil, append_assoc, length-append}
use Rattle.std.proofs.lemmas.List.{take-append-drop}
use Rattle.grid_edge.proofs.Told.{more_taken}
use Rattle.grid_edge.specs.Given.{Given}
use Rattle.partition_protocol.specs.Sequences.{IsFrontOf}
use Rattle.script_lang.specs.Words.{whole_lines}
use Rattle.script_lang.specs.declared.refusal.LineWhy.{LineWhy}
use Rattle.script_lang.specs.declared.refusal.LineWhy.TheVariants.{NoEnd}
use Rattle.grid_cli.specs.ReadScripts.{MayFollow}
use Rattle.grid_cli.specs.Scripts.{Cut, cut, lines_of}
use Rattle.grid_cli.specs.Transcripts.{refused_text, limit_text}
use Rattle.grid_cli.specs.declared.status.LimitWhat.{LimitWhat}
use Rattle.grid_cli.specs.declared.status.Status.{Status}
use Rattle.grid_cli.specs.declared.status.Status.TheVariants as status
use Rattle.live_grid.specs.declared.grid.GridPass.{GridPass}
use Rattle.live_grid.specs.declared.grid.LiveGrid.{LiveGrid}
use Rattle.live_control.specs.declared.lines.LineReader.{LineReader}
use Rattle.live_control.specs.declared.orders.Order.{Order}
use Rattle.live_control.specs.declared.orders.Order.TheVariants.{End}
use Rattle.live_control.specs.declared.serving.Ran.{Ran}
use Rattle.live_control.specs.declared.serving.Ran.TheVariants.{Goes, Ended, Refused}
use Rattle.live_control.specs.Reading.{HasCome, AreFirst, AreLinesOf}
use Rattle.live_control.specs.Running.{HasRunLine, HasGoneOn, HaveRun}
use Rattle.live_control.specs.Serving.{IsAtLine, HasEnded, HasMetRefused, HasMetNoEnd, HasMetLimit, HasTriedNext, HasRunNext, HasBrokenOff, HasRunShort, IsWhole, ServesAs, HasServed, HasRunAs, HasFailed, Serves, StopsAs, WritesLast}
use Rattle.live_control.proofs.Ahead.{more_given}
use Rattle.live_control.proofs.Looking.{first_lines}

module _ (grid : LiveGrid) (members : ℕ) where
  -- a line more was run
  pub ran_more : (number : ℕ) (lines : List (List ℕ)) (line : List ℕ) (a b c : GridPass) (shown own : List ℕ) → HaveRun grid members number lines a b shown → HasGoneOn grid members (number + length lines) line b c own
      → HaveRun grid members number (lines ++ line ∷ []) a c (shown ++ own)
  ran_more number [] line a b c shown own h g =
      let here : HasGoneOn grid members number line a c own =
      subst (λ (z : GridPass). HasGoneOn grid members number line z c own) h.0 (subst (λ (k : ℕ). HasGoneOn grid members k line b c own) (omega arith) g) in
      (c, own, [], here, (refl, refl), ap (λ (l : List ℕ). l ++ own) h.1 ∙ sym (append-nil own))
  ran_more number (x ∷ xs) line a b c shown own h g =
      let next = ran_more (number + 1) xs line h.0 b c h.2 own h.4 (subst (λ (k : ℕ). HasGoneOn grid members k line b c own) (omega arith) g) in
      (h.0, h.1, h.2 ++ own, h.3, next, ap (λ (l : List ℕ). l ++ own) h.5 ∙ append_assoc h.1 h.2 own)

  -- What was read, run and written so far
  pub record IsServing (reader : LineReader) (first source : Given) (before after : List ℕ) (old now : GridPass) : Type 0 where
    pub read : List ℕ
    pub written : List ℕ
    pub lines : List (List ℕ)
    pub come : HasCome reader source read lines []
    pub read_is : source.bytes ≡ first.bytes ++ read
    pub written_is : after ≡ before ++ written
    pub ran : HaveRun grid members 1 lines old now written

  pub at_first : (reader : LineReader) (first : Given) (before : List ℕ) (old : GridPass) → HasCome reader first [] [] [] → IsServing reader first first before before old old
  at_first reader first before old come = record {
    read = [];
    written = [];
    lines = [];
    come = come;
    read_is = sym (append-nil first.bytes);
    written_is = sym (append-nil before);
    ran = (refl, refl);
  }

  module _ (reader : LineReader) (first source : Given) (before after : List ℕ) (old now : GridPass) (s : IsServing reader first source before after old now) where
    module _ (next : LineReader) (later : Given) (more : List ℕ) (came : later.bytes ≡ source.bytes ++ more) where
      read_on : later.bytes ≡ first.bytes ++ (s.read ++ more)
      read_on = more_given first.bytes source.bytes later.bytes s.read more s.read_is came

      -- a status stands for what was done, whatever may follow what was read
      abbrev ServesSo : Status → GridPass → List ℕ → Type 0
      ServesSo status new written = (rest : List ℕ) → MayFollow later rest → ServesAs grid members ((s.read ++ more) ++ rest) old new status (s.read ++ more) written

      -- the script ended with these statuses, and this was written more
      served : (status : Status) (last : List ℕ) (new : GridPass) (own : List ℕ) → last ≡ after ++ own → ServesSo status new (s.written ++ own) → HasServed grid members status first later before last old new
      served status last new own taken serves = record {
        written = s.written ++ own;
        written_is = more_taken before after last s.written own s.written_is taken;
        script = record { read = s.read ++ more; read_is = read_on; holds = serves };
      }

      -- nothing more was written
      served_so : (status : Status) (new : GridPass) → ServesSo status new s.written → HasServed grid members status first later before after old new
      served_so status new serves = record {
        written = s.written;
        written_is = s.written_is;
        script = record { read = s.read ++ more; read_is = read_on; holds = serves };
      }

      -- a line more
      module _ (line : List ℕ) (come : HasCome next later (s.read ++ more) (s.lines ++ line ∷ []) []) where
        number_is : next.lines ≡ 1 + length s.lines
        number_is = let count = come.count in omega (arith, count, length-append s.lines (line ∷ []))

        pub went_on : (new : GridPass) (last : List ℕ) → Serves grid members next.lines line now new after last → IsServing next first later before last old new
        went_on new last g = record {
          read = s.read ++ more;
          written = s.written ++ g.0;
          lines = s.lines ++ line ∷ [];
          come = come;
          read_is = read_on;
          written_is = more_taken before after last s.written g.0 s.written_is g.2;
          ran = ran_more 1 s.lines line old now new s.written g.0 s.ran (subst (λ (k : ℕ). HasGoneOn grid members k line now new g.0) number_is g.1);
        }

        -- whatever may follow
        module _ (rest : List ℕ) (may : MayFollow later rest) where
          abbrev script : List ℕ
          script = (s.read ++ more) ++ rest

          front : IsFrontOf (s.lines ++ line ∷ []) (lines_of script)
          front = first_lines next later (s.read ++ more) (s.lines ++ line ∷ []) [] come rest may

          shorter : IsFrontOf s.lines (lines_of script)
          shorter = (line ∷ front.0, sym (append_assoc s.lines (line ∷ []) front.0) ∙ front.1)

          ended : (new : GridPass) (own : List ℕ) → HasRunAs grid members next.lines line now new own Ended → HasEnded grid members script old new (s.written ++ own)
          ended new own h = record {
            line = line;
            mid = now;
            shown = s.written;
            own = own;
            before = record { done = s.lines; first = front; ran = s.ran };
            ended = subst (λ (k : ℕ). HasRunLine grid members k line now new End own) (number_is ∙ omega arith) h;
            text = refl;
          }

          refused : (new : GridPass) (why : LineWhy) (own : List ℕ) → HasRunAs grid members next.lines line now new own (Refused why) → HasMetRefused grid members script old new next.lines why (s.written ++ own)
          refused new why own h = record {
            line = line;
            shown = s.written;
            before = record { done = s.lines; first = front; ran = subst (λ (z : GridPass). HaveRun grid members 1 s.lines old z s.written) (sym h.0) s.ran };
            refused = h.1;
            numbered = number_is ∙ omega arith;
            text = ap (λ (l : List ℕ). s.written ++ l) h.2;
          }

          -- some of the line's text was written
          broken_off : (new : GridPass) (ran : Ran) (text : List ℕ) (n : ℕ) → HasRunAs grid members next.lines line now new text ran → HasBrokenOff grid members script old new (s.written ++ take n text)
          broken_off new ran text n h = record {
            done = s.lines;
            mid = now;
            shown = s.written;
            own = text;
            part = take n text;
            first = shorter;
            ran = s.ran;
            text = refl;
            front = (drop n text, take-append-drop n text);
            broken = by_ran ran h;
          }
            where
              ran_next : (order : Order) → HasRunLine grid members next.lines line now new order text → HasRunNext grid members script old new s.lines now text
              ran_next order r = record { line = line; order = order; next = front; ran = subst (λ (k : ℕ). HasRunLine grid members k line now new order text) (number_is ∙ omega arith) r }

              by_ran : (ran : Ran) → HasRunAs grid members next.lines line now new text ran → HasRunNext grid members script old new s.lines now text ⊎ IsWhole grid members script old new (s.written ++ text)
              by_ran Goes r = inl (ran_next r.0 r.1)
              by_ran Ended r = inl (ran_next End r)
              by_ran (Refused why) r = inr (inr (inl (next.lines, why, inl (refused new why text r))))

          -- its order was carried out as far as there was memory
          run_short : (new : GridPass) → HasFailed grid members line now new → HasRunShort grid members script old new s.written
          run_short new h = record {
            done = s.lines;
            mid = now;
            first = shorter;
            ran = s.ran;
            further = tried h;
          }
            where
              tried : HasFailed grid members line now new → (new ≡ now) ⊎ HasTriedNext grid members script old new s.lines now
              tried (inl same) = inl same
              tried (inr t) = inr (record { line = line; order = t.0; next = front; ordered = t.1; tried = t.2 })

        -- the script stopped at the line
        pub stopped : (status : Status) (new : GridPass) (last : List ℕ) → StopsAs grid members next.lines line now new after last status → HasServed grid members status first later before last old new
        stopped status.Done new last h = served status.Done last new h.0 h.2 (λ rest may. ended rest may new h.0 h.1)
        stopped (status.ScriptRefused at why) new last h =
            served (status.ScriptRefused at why) last new h.1.0 h.1.2
            (λ rest may. inl (subst (λ (k : ℕ). HasMetRefused grid members ((s.read ++ more) ++ rest) old new k why (s.written ++ h.1.0)) (sym h.0) (refused rest may new why h.1.0 h.1.1)))
        stopped status.WriteFault new last h = served status.WriteFault last new (take h.3.0 h.1) h.3.2 (λ rest may. broken_off rest may new h.0 h.1 h.3.0 h.2)
        stopped status.Memory new last h = subst (λ (z : List ℕ). HasServed grid members status.Memory first later before z old new) (sym h.1) (served_so status.Memory new (λ rest may. run_short rest may new h.0))
        stopped other new last h = absurd h

      -- the last text of a script whose lines were all run
      closed : (text : List ℕ) (ends : Status) (status : Status) (last : List ℕ) → ((rest : List ℕ) → MayFollow later rest → IsFrontOf s.lines (lines_of ((s.read ++ more) ++ rest)))
          → ((rest : List ℕ) → MayFollow later rest → IsWhole grid members ((s.read ++ more) ++ rest) old now (s.written ++ text)) → ServesSo ends now (s.written ++ text)
          → WritesLast text ends after last status → HasServed grid members status first later before last old now
      closed text ends status.WriteFault last begins is serves h = served status.WriteFault last now (take h.0 text) h.2 (λ rest may. record {
        done = s.lines;
        mid = now;
        shown = s.written;
        own = text;
        part = take h.0 text;
        first = begins rest may;
        ran = s.ran;
        text = refl;
        front = (drop h.0 text, take-append-drop h.0 text);
        broken = inr (is rest may);
      })
      closed text ends status.Memory last begins is serves h = subst (λ (z : List ℕ). HasServed grid members status.Memory first later before z old now) (sym h) (served_so status.Memory now (λ rest may. record {
        done = s.lines;
        mid = now;
        first = begins rest may;
        ran = s.ran;
        further = inl refl;
      }))
      closed text ends other last begins is serves h =
          served other last now text h.1 (subst (λ (z : Status). ServesSo z now (s.written ++ text)) (sym h.0) serves)

      pub no_end : (number : ℕ) (ends : Status) (last : List ℕ) → number ≡ length s.lines → AreLinesOf s.lines (s.read ++ more) → later.ended ≡ true
          → WritesLast (refused_text number NoEnd) (status.ScriptRefused number NoEnd) after last ends → HasServed grid members ends first later before last old now
      no_end number ends last count_is all at_end h =
          closed (refused_text number NoEnd) (status.ScriptRefused number NoEnd) ends last (λ rest may. ([], append-nil s.lines ∙ sym (ap (λ (c : Cut). c.lines) (lines_are rest may)))) (λ rest may. inr (inl (number, NoEnd, inr (met rest may)))) (λ rest may. inr (met rest may)) h
        where
          lines_are : (rest : List ℕ) → MayFollow later rest → AreLinesOf s.lines ((s.read ++ more) ++ rest)
          lines_are rest may = subst (AreLinesOf s.lines) (sym (ap (λ (l : List ℕ). (s.read ++ more) ++ l) (may at_end) ∙ append-nil (s.read ++ more))) all

          met : (rest : List ℕ) → MayFollow later rest → HasMetNoEnd grid members ((s.read ++ more) ++ rest) old now number NoEnd (s.written ++ refused_text number NoEnd)
          met rest may = record {
            lines = s.lines;
            shown = s.written;
            all = lines_are rest may;
            ran = s.ran;
            numbered = count_is;
            no_end = refl;
            text = refl;
          }

      pub past_limit : (number : ℕ) (what : LimitWhat) (ends : Status) (last : List ℕ) → number ≡ length s.lines → ((rest : List ℕ) → cut ((s.read ++ more) ++ rest) ≡ record { lines = s.lines; limit = Some what })
          → WritesLast (limit_text (number + 1) what) (status.Limit what) after last ends → HasServed grid members ends first later before last old now
      past_limit number what ends last count_is past h =
          closed (limit_text (number + 1) what) (status.Limit what) ends last (λ rest may. ([], append-nil s.lines ∙ sym (ap (λ (c : Cut). c.lines) (past rest)))) (λ rest may. inr (inr (what, met rest))) (λ rest may. met rest) h
        where
          met : (rest : List ℕ) → HasMetLimit grid members ((s.read ++ more) ++ rest) old now what (s.written ++ limit_text (number + 1) what)
          met rest = record {
            lines = s.lines;
            shown = s.written;
            all = past rest;
            ran = s.ran;
            text = ap (λ k. s.written ++ limit_text (k + 1) what) count_is;
          }

      pub failed : whole_lines (s.read ++ more) ≡ s.lines → AreFirst s.lines later (s.read ++ more) → HasServed grid members status.ReadFault first later before after old now
      failed whole begins = served_so status.ReadFault now (λ rest may. record {
        first = subst (λ (ls : List (List ℕ)). IsFrontOf ls (lines_of ((s.read ++ more) ++ rest))) (sym whole) (begins rest may);
        ran = subst (λ (ls : List (List ℕ)). HaveRun grid members 1 ls old now s.written) (sym whole) s.ran;
      })

      pub no_memory : AreFirst s.lines later (s.read ++ more) → HasServed grid members status.Memory first later before after old now
      no_memory begins = served_so status.Memory now (λ rest may. record { done = s.lines; mid = now; first = begins rest may; ran = s.ran; further = inl refl })

-- before anything was read
pub nothing_served : (grid : LiveGrid) (members : ℕ) (first : Given) (before : List ℕ) (old : GridPass) → HasServed grid members status.Memory first first before before old old
nothing_served grid members first before old = record {
  written = [];
  written_is = sym (append-nil before);
  script = record {
    read = [];
    read_is = sym (append-nil first.bytes);
    holds = λ rest may. record { done = []; mid = old; first = (lines_of rest, refl); ran = (refl, refl); further = inl refl };
  };
}
