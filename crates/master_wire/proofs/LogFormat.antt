-- A log is read as it is spelled: how many decisions it has, and each of them.
use Rattle.std.proofs.Common.{◌≡◌, ℕ, zero, suc, List, [], ◌∷◌, ◌++◌, length, refl, sym, ap, subst, ◌∙◌, append_assoc}
use Rattle.std.specs.List.{flat_map}
use Rattle.std.specs.Int.{w32}
use Rattle.std.proofs.lemmas.List.{append-nil}
use Rattle.std.proofs.lemmas.List.Concat.{flat_map-cons}
use Rattle.wire_parts.specs.Parts.{IsNumber, number_at, number}
use Rattle.wire_parts.proofs.Formats.{Reads, Spells, reads_as}
use Rattle.wire_parts.proofs.Following.{Follows, reads_followed, IsDone, reads_ended}
use Rattle.wire_parts.proofs.PartFormats.{SpellsNumber, number_format}
use Rattle.master_wire.specs.declared.decision.Decision.{Decision}
use Rattle.master_wire.specs.Spelling.{decision_bytes, log_bytes, AreSpelled}
use Rattle.master_wire.specs.Reading.{decision_at, decisions_at, log_at}
use Rattle.master_wire.proofs.DecisionFormat.{both, SpellsDecision, decision_read}

-- ---- so many decisions

abbrev DecisionsAfter : List Decision → ℕ → List Decision → List ℕ → Type 0
DecisionsAfter log zero = IsDone log
DecisionsAfter log (suc n) = Follows SpellsDecision (λ d. DecisionsAfter (log ++ d ∷ []) n)

decisions_after : (n : ℕ) (log : List Decision) → Reads (decisions_at log n) (DecisionsAfter log n)
unfolding decisions_at
decisions_after zero log = reads_ended log
decisions_after (suc n) log =
    let rest = decisions_after n in
    reads_followed decision_at SpellsDecision (λ d. decisions_at (log ++ d ∷ []) n) (λ d. DecisionsAfter (log ++ d ∷ []) n) decision_read (λ d text s. rest (log ++ d ∷ []))

-- so many decisions behind these
record Behind (log : List Decision) (n : ℕ) (ds : List Decision) (text : List ℕ) : Type 0 where
  more : List Decision
  is : ds ≡ log ++ more
  count : length more ≡ n
  fit : AreSpelled more
  spelled : text ≡ flat_map decision_bytes more

to_behind : (n : ℕ) (log ds : List Decision) (text : List ℕ) → DecisionsAfter log n ds text → Behind log n ds text
to_behind zero log ds text s = record { more = []; is = s.value ∙ sym (append-nil log); count = refl; fit = tt; spelled = s.empty }
to_behind (suc n) log ds text s =
    let later = to_behind n (log ++ s.first ∷ []) ds s.back s.is_back in
    record {
      more = s.first ∷ later.more;
      is = later.is ∙ append_assoc log (s.first ∷ []) later.more;
      count = ap suc later.count;
      fit = (s.is_front.fits, later.fit);
      spelled = s.whole ∙ both s.is_front.is later.spelled ∙ sym (flat_map-cons decision_bytes s.first later.more);
    }

from_behind : (more log : List Decision) → AreSpelled more → DecisionsAfter log (length more) (log ++ more) (flat_map decision_bytes more)
from_behind [] log fit = record { value = append-nil log; empty = refl }
from_behind (d ∷ more) log fit =
    let later = from_behind more (log ++ d ∷ []) fit.1 in
    record {
      first = d;
      front = decision_bytes d;
      back = flat_map decision_bytes more;
      is_front = record { fits = fit.0; is = refl };
      is_back = subst (λ ds. DecisionsAfter (log ++ d ∷ []) (length more) ds (flat_map decision_bytes more)) (append_assoc log (d ∷ []) more) later;
      whole = flat_map-cons decision_bytes d more;
    }

-- ---- a log

abbrev pub SpellsLog : List Decision → List ℕ → Type 0
SpellsLog = Spells (λ log. IsNumber (length log) × AreSpelled log) log_bytes

abbrev LogParts : List Decision → List ℕ → Type 0
LogParts = Follows SpellsNumber (DecisionsAfter [])

to_log : (log : List Decision) (text : List ℕ) → LogParts log text → SpellsLog log text
to_log log text s =
    let b = to_behind s.first [] log s.back s.is_back in
    subst (λ ds. SpellsLog ds text) (sym b.is)
    (record { fits = (subst IsNumber (sym b.count) s.is_front.fits, b.fit); is = s.whole ∙ both (s.is_front.is ∙ ap number (sym b.count)) b.spelled })

from_log : (log : List Decision) (text : List ℕ) → SpellsLog log text → LogParts log text
from_log log text s = record {
  first = length log;
  front = number (length log);
  back = flat_map decision_bytes log;
  is_front = record { fits = s.fits.0; is = refl };
  is_back = from_behind log [] s.fits.1;
  whole = s.is;
}

pub log_read : Reads log_at SpellsLog
unfolding log_at
log_read = reads_as log_at LogParts SpellsLog to_log from_log (reads_followed (number_at w32) SpellsNumber (decisions_at []) (DecisionsAfter []) number_format.reads (λ n text s. decisions_after n []))
