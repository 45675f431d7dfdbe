-- What was noted of a connection stays in time, as more is noted, read and answered.
use Rattle.std.proofs.Common.{◌≡◌, ℕ, ◌+◌, ◌≤◌, ⊎_elim, List, [], ◌∷◌, ◌++◌, length, All, Option, Some, None, refl, sym, ap, ◌∙◌, subst, append-nil, arith}
use Rattle.std.specs.List.{concat, sum_by}
use Rattle.std.proofs.lemmas.List.{length-append, take-append-le, take_all}
use Rattle.std.proofs.lemmas.List.Elements.{All-cons, All-head, All-nil, All-tail}
use Rattle.std.proofs.lemmas.List.Sums.{sum_by-cons}
use Rattle.loop_journal.specs.declared.entry.Entry.{Entry}
use Rattle.loop_journal.specs.declared.entry.Entry.TheVariants.{Read, Written, Started, Finished}
use Rattle.loop_journal.specs.declared.entry.NotedCall.{NotedCall}
use Rattle.loop_journal.specs.Journals.{call_in, conn_of, read_by, written_by, bytes_read, bytes_written}
use Rattle.loop_journal.proofs.Owning.{own_all, read_both, written_both}
use Rattle.live_session.specs.Starts.{Log, after_turn}
use Rattle.live_session.specs.Times.{IsNotedWhole, HasCome, HasComeWithin, IsUnansweredWithin, IsInTime}
use Rattle.live_session.specs.Turns.{HasNoted}
use Rattle.live_session.specs.declared.step.CallStep.TheVariants.{Nothing, Begun, Ended, Made}
use Rattle.live_session.proofs.Calls.{first_same, rest_same, InFirst, InSecond, in_one}

-- One entry alone

nothing_cut : {A : Type 0} (before after : List A) (x : A) → [] ≡ before ++ x ∷ after → ⊥
nothing_cut [] after x e = cc
nothing_cut (y ∷ ys) after x e = cc

only_one : {A : Type 0} (one x : A) (before after : List A) → one ∷ [] ≡ before ++ x ∷ after → (before ≡ []) × (x ≡ one)
only_one one x [] after e = (refl, sym (first_same one x [] after e))
only_one one x (y ∷ ys) after e = absurd (nothing_cut ys after x (rest_same one y [] (ys ++ x ∷ after) e))

one_of : (P : Entry → Type 0) (entry : Entry) → P entry → All P (entry ∷ [])
one_of P entry holds = All-cons P entry [] holds (All-nil P)

holds_at : (P : Entry → Type 0) (before after : List Entry) (entry : Entry) → All P (before ++ entry ∷ after) → P entry
holds_at P [] after entry all = All-head P entry after all
holds_at P (y ∷ ys) after entry all = holds_at P ys after entry (All-tail P y (ys ++ entry ∷ after) all)

same_started : (call other : NotedCall) → Started call ≡ Started other → call ≡ other
same_started call other e = cc

same_finished : (call other : NotedCall) → Finished call ≡ Finished other → call ≡ other
same_finished call other e = cc

-- What is whole

pub nothing_noted : (conn : ℕ) → IsNotedWhole conn [] [] []
nothing_noted conn = record { all_read = refl; all_written = refl }

pub noted_both : (conn : ℕ) (entries more : List Entry) (read written piece front : List ℕ) → IsNotedWhole conn entries read written → IsNotedWhole conn more piece front
    → IsNotedWhole conn (entries ++ more) (read ++ piece) (written ++ front)
noted_both conn entries more read written piece front was then = record {
  all_read = omega (arith, read_both conn entries more, was.all_read, then.all_read, length-append read piece);
  all_written = omega (arith, written_both conn entries more, was.all_written, then.all_written, length-append written front);
}

-- where no bytes moved
pub noted_still : (conn : ℕ) (entries more : List Entry) (read written : List ℕ) → IsNotedWhole conn entries read written → IsNotedWhole conn more [] []
    → IsNotedWhole conn (entries ++ more) read written
noted_still conn entries more read written was then = record {
  all_read = omega (arith, read_both conn entries more, was.all_read, then.all_read);
  all_written = omega (arith, written_both conn entries more, was.all_written, then.all_written);
}

-- where bytes were read alone, or written alone
pub noted_more_read : (conn : ℕ) (entries more : List Entry) (read written piece : List ℕ) → IsNotedWhole conn entries read written → IsNotedWhole conn more piece []
    → IsNotedWhole conn (entries ++ more) (read ++ piece) written
noted_more_read conn entries more read written piece was then =
    subst (IsNotedWhole conn (entries ++ more) (read ++ piece)) (append-nil written) (noted_both conn entries more read written piece [] was then)

pub noted_more_written : (conn : ℕ) (entries more : List Entry) (read written front : List ℕ) → IsNotedWhole conn entries read written → IsNotedWhole conn more [] front
    → IsNotedWhole conn (entries ++ more) read (written ++ front)
noted_more_written conn entries more read written front was then =
    subst (λ (r : List ℕ). IsNotedWhole conn (entries ++ more) r (written ++ front)) (append-nil read) (noted_both conn entries more read written [] front was then)

-- What is in time

pub nothing_in_time : (conn member : ℕ) (read : List ℕ) (replies : List (List ℕ)) → IsInTime conn member [] read replies
nothing_in_time conn member read replies = record {
  started = λ before after call e. absurd (nothing_cut before after (Started call) e);
  finished = λ before after call e. absurd (nothing_cut before after (Finished call) e);
}

come_longer : (conn member : ℕ) (read piece : List ℕ) (count number : ℕ) → HasComeWithin conn member read count number → HasComeWithin conn member (read ++ piece) count number
come_longer conn member read piece count number within = record {
  were_read = omega (arith, within.were_read, length-append read piece);
  come = subst (λ (text : List ℕ). HasCome conn member text number) (sym (take-append-le count read piece within.were_read)) within.come;
}

unanswered_longer : (replies more : List (List ℕ)) (count number : ℕ) → IsUnansweredWithin replies count number → IsUnansweredWithin (replies ++ more) count number
unanswered_longer replies more count number within = record {
  those_before = omega (arith, within.those_before, length-append replies more);
  none_of_it = subst (λ (l : List (List ℕ)). count ≤ length (concat l)) (sym (take-append-le number replies more within.those_before)) within.none_of_it;
}

module _ (conn member : ℕ) (entries : List Entry) (read : List ℕ) (replies : List (List ℕ)) where
  -- more was read
  pub in_time_read : (piece : List ℕ) → IsInTime conn member entries read replies → IsInTime conn member entries (read ++ piece) replies
  in_time_read piece in_time = record {
    started = λ before after call e. come_longer conn member read piece (bytes_read conn before) call.id.number (in_time.started before after call e);
    finished = in_time.finished;
  }

  -- more was answered
  pub in_time_answered : (more : List (List ℕ)) → IsInTime conn member entries read replies → IsInTime conn member entries read (replies ++ more)
  in_time_answered more in_time = record {
    started = in_time.started;
    finished = λ before after call e. unanswered_longer replies more (bytes_written conn before) call.id.number (in_time.finished before after call e);
  }

  -- What is noted behind those is in time
  pub record GoesOnInTime (more : List Entry) : Type 0 where
    pub started : (between after : List Entry) (call : NotedCall) → more ≡ between ++ Started call ∷ after → HasComeWithin conn member read (bytes_read conn (entries ++ between)) call.id.number
    pub finished : (between after : List Entry) (call : NotedCall) → more ≡ between ++ Finished call ∷ after → IsUnansweredWithin replies (bytes_written conn (entries ++ between)) call.id.number

  pub in_time_noted : (more : List Entry) → GoesOnInTime more → IsInTime conn member entries read replies → IsInTime conn member (entries ++ more) read replies
  in_time_noted more goes_on in_time = record {
    started = λ before after call e. ⊎_elim
        (λ (f : InFirst entries before (Started call)). in_time.started before f.rest call f.whole)
        (λ (s : InSecond entries more before (Started call) after).
        subst (λ (l : List Entry). HasComeWithin conn member read (bytes_read conn l) call.id.number) (sym s.before_is) (goes_on.started s.between after call s.whole))
        (in_one entries more before (Started call) after e);
    finished = λ before after call e. ⊎_elim
        (λ (f : InFirst entries before (Finished call)). in_time.finished before f.rest call f.whole)
        (λ (s : InSecond entries more before (Finished call) after).
        subst (λ (l : List Entry). IsUnansweredWithin replies (bytes_written conn l) call.id.number) (sym s.before_is) (goes_on.finished s.between after call s.whole))
        (in_one entries more before (Finished call) after e);
  }

  -- no call is noted
  pub no_calls : (more : List Entry) → All (λ (entry : Entry). call_in entry ≡ None) more → GoesOnInTime more
  no_calls more none = record {
    started = λ between after call e. absurd (never (Started call) call refl between after e);
    finished = λ between after call e. absurd (never (Finished call) call refl between after e);
  }
    where
      neither : (call : NotedCall) (noted : Option NotedCall) → noted ≡ Some call → noted ≡ None → ⊥
      neither call noted some none = cc

      never : (entry : Entry) (call : NotedCall) → call_in entry ≡ Some call → (between after : List Entry) → more ≡ between ++ entry ∷ after → ⊥
      never entry call its between after e = neither call (call_in entry) its
          (holds_at (λ (one : Entry). call_in one ≡ None) between after entry (subst (All (λ (one : Entry). call_in one ≡ None)) e none))

  -- a start is noted where the message has come
  pub one_start : (call : NotedCall) → HasComeWithin conn member read (bytes_read conn entries) call.id.number → GoesOnInTime (Started call ∷ [])
  one_start call come = record {
    started = λ between after other e.
        let only = only_one (Started call) (Started other) between after e in
        subst (λ (l : List Entry). HasComeWithin conn member read (bytes_read conn (entries ++ l)) other.id.number) (sym only.0)
        (subst (λ (l : List Entry). HasComeWithin conn member read (bytes_read conn l) other.id.number) (sym (append-nil entries))
        (subst (λ (one : NotedCall). HasComeWithin conn member read (bytes_read conn entries) one.id.number) (sym (same_started other call only.1)) come));
    finished = λ between after other e. let only = only_one (Started call) (Finished other) between after e in absurd (apart other only.1);
  }
    where
      apart : (other : NotedCall) → Finished other ≡ Started call → ⊥
      apart other e = cc

  -- a finish where nothing of its answer was written
  pub one_finish : (call : NotedCall) → IsUnansweredWithin replies (bytes_written conn entries) call.id.number → GoesOnInTime (Finished call ∷ [])
  one_finish call unanswered = record {
    started = λ between after other e. let only = only_one (Finished call) (Started other) between after e in absurd (apart other only.1);
    finished = λ between after other e.
        let only = only_one (Finished call) (Finished other) between after e in
        subst (λ (l : List Entry). IsUnansweredWithin replies (bytes_written conn (entries ++ l)) other.id.number) (sym only.0)
        (subst (λ (l : List Entry). IsUnansweredWithin replies (bytes_written conn l) other.id.number) (sym (append-nil entries))
        (subst (λ (one : NotedCall). IsUnansweredWithin replies (bytes_written conn entries) one.id.number) (sym (same_finished other call only.1)) unanswered));
  }
    where
      apart : (other : NotedCall) → Started other ≡ Finished call → ⊥
      apart other e = cc

-- the message of this number is among those that were read
pub has_come : (conn member number : ℕ) (entries : List Entry) (read written : List ℕ) → IsNotedWhole conn entries read written → HasCome conn member read number
    → HasComeWithin conn member read (bytes_read conn entries) number
has_come conn member number entries read written noted come = record {
  were_read = omega (arith, noted.all_read);
  come = subst (λ (text : List ℕ). HasCome conn member text number) (sym (take_all (bytes_read conn entries) read (omega (arith, noted.all_read)))) come;
}

-- of a call that has no reply no byte of one is written
pub is_unanswered : (conn number : ℕ) (entries : List Entry) (read written left : List ℕ) (replies : List (List ℕ)) → IsNotedWhole conn entries read written → written ++ left ≡ concat replies → number ≡ length replies
    → IsUnansweredWithin replies (bytes_written conn entries) number
is_unanswered conn number entries read written left replies noted all next = record {
  those_before = omega (arith, next);
  none_of_it = subst (λ (l : List (List ℕ)). bytes_written conn entries ≤ length (concat l)) (sym (take_all number replies (omega (arith, next))))
      (let whole : length written + length left ≡ length (concat replies) = sym (length-append written left) ∙ ap (λ (l : List ℕ). length l) all in omega (arith, noted.all_written, whole));
}

-- What a turn notes

abbrev with_entries : Log → List Entry → Log
with_entries log entries = record log { entries = entries }

-- nothing more was done
pub same_log : (log : Log) → after_turn log None [] ≡ log
same_log log = ap (λ (entries : List Entry). with_entries log entries) (append-nil log.entries)

read_of_own : (conn : ℕ) (entry : Entry) → conn_of entry ≡ conn → bytes_read conn (entry ∷ []) ≡ read_by entry
read_of_own conn entry own = ap (λ (es : List Entry). sum_by read_by es) (own_all conn (entry ∷ []) (one_of (λ (e : Entry). conn_of e ≡ conn) entry own)) ∙ omega (arith, sum_by-cons read_by entry [])

written_of_own : (conn : ℕ) (entry : Entry) → conn_of entry ≡ conn → bytes_written conn (entry ∷ []) ≡ written_by entry
written_of_own conn entry own = ap (λ (es : List Entry). sum_by written_by es) (own_all conn (entry ∷ []) (one_of (λ (e : Entry). conn_of e ≡ conn) entry own)) ∙ omega (arith, sum_by-cons written_by entry [])

-- one entry, which is whole
whole_one : (conn : ℕ) (entry : Entry) (piece front : List ℕ) → conn_of entry ≡ conn → length piece ≡ read_by entry → length front ≡ written_by entry → IsNotedWhole conn (entry ∷ []) piece front
whole_one conn entry piece front own many much = record { all_read = read_of_own conn entry own ∙ sym many; all_written = written_of_own conn entry own ∙ sym much }

-- nothing was noted
pub noted_nothing : (conn : ℕ) → HasNoted conn Nothing (record { read = []; written = [] }) []
noted_nothing conn = record { own = All-nil (λ (e : Entry). conn_of e ≡ conn); whole = nothing_noted conn; calls = All-nil (λ (e : Entry). call_in e ≡ None) }

pub noted_read : (conn count : ℕ) (piece : List ℕ) → length piece ≡ count → HasNoted conn Nothing (record { read = piece; written = [] }) (Read conn count ∷ [])
noted_read conn count piece many = record {
  own = one_of (λ (e : Entry). conn_of e ≡ conn) (Read conn count) refl;
  whole = whole_one conn (Read conn count) piece [] refl many refl;
  calls = one_of (λ (e : Entry). call_in e ≡ None) (Read conn count) refl;
}

pub noted_written : (conn count : ℕ) (front : List ℕ) → length front ≡ count → HasNoted conn Nothing (record { read = []; written = front }) (Written conn count ∷ [])
noted_written conn count front many = record {
  own = one_of (λ (e : Entry). conn_of e ≡ conn) (Written conn count) refl;
  whole = whole_one conn (Written conn count) [] front refl refl many;
  calls = one_of (λ (e : Entry). call_in e ≡ None) (Written conn count) refl;
}

pub noted_begun : (conn : ℕ) (call : NotedCall) → call.id.conn ≡ conn → HasNoted conn (Begun call) (record { read = []; written = [] }) (Started call ∷ [])
noted_begun conn call own = record { own = one_of (λ (e : Entry). conn_of e ≡ conn) (Started call) own; whole = whole_one conn (Started call) [] [] own refl refl; calls = refl }

pub noted_ended : (conn : ℕ) (call : NotedCall) → call.id.conn ≡ conn → HasNoted conn (Ended call) (record { read = []; written = [] }) (Finished call ∷ [])
noted_ended conn call own = record { own = one_of (λ (e : Entry). conn_of e ≡ conn) (Finished call) own; whole = whole_one conn (Finished call) [] [] own refl refl; calls = refl }

-- a call was started and came to its outcome
pub noted_made : (conn : ℕ) (call : NotedCall) → call.id.conn ≡ conn → HasNoted conn (Made call) (record { read = []; written = [] }) (Started call ∷ Finished call ∷ [])
noted_made conn call own = record {
  own = All-cons (λ (e : Entry). conn_of e ≡ conn) (Started call) (Finished call ∷ []) own (one_of (λ (e : Entry). conn_of e ≡ conn) (Finished call) own);
  whole = noted_both conn (Started call ∷ []) (Finished call ∷ []) [] [] [] [] (whole_one conn (Started call) [] [] own refl refl) (whole_one conn (Finished call) [] [] own refl refl);
  calls = refl;
}
