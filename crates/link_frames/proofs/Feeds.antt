-- What a reader takes on, part by part and piece by piece.
use Rattle.std.proofs.Common.{◌≡◌, ℕ, ◌+◌, ◌<◌, ◌≤◌, Option, None, Some, is_some, Bool, true, false, List, [], ◌∷◌, ◌++◌, length, drop, refl, sym, ◌∙◌, ap, arith, append_assoc, append-nil}
use Rattle.std.proofs.lemmas.List.{drop-drop, length-drop}
use Rattle.link_frames.specs.Reading.{front, next_stage, Reading, ended, with_part, reading}
use Rattle.link_frames.specs.Feeding.{with_parts, IsOn, IsDone}
use Rattle.link_frames.specs.Readers.{InProgress, StandsFor, after_feed, heard, parts_of, fault_of, kept}
use Rattle.link_frames.specs.declared.fault.LinkFault.{LinkFault}
use Rattle.link_frames.specs.declared.fronts.Front.{Front}
use Rattle.link_frames.specs.declared.fronts.Front.TheVariants.{Partial, Whole, Wrong}
use Rattle.link_frames.specs.declared.parts.LinkPart.{LinkPart}
use Rattle.link_frames.specs.declared.parts.Stage.{Stage}
use Rattle.link_frames.proofs.Beginnings.{FrontCase, begun, fails, gives, front_cases}
use Rattle.link_frames.proofs.Readings.{read_as, goes_on_by, reading-append}

-- A part has some bytes, and no more than the text.
pub whole_within : (at : Stage) (text : List ℕ) (part : LinkPart) (n : ℕ) → front at text ≡ Whole part n → (0 < n) × (n ≤ length text)
whole_within at text part n whole = by_case (front_cases at text)
  where
    by_case : FrontCase at text → (0 < n) × (n ≤ length text)
    by_case (begun is) = absurd (cc (whole, is))
    by_case (fails why some is stays) = absurd (cc (whole, is))
    by_case (gives other m some within is stays) =
        let same : m ≡ n = cc (whole, is) in
        (omega (arith, same, some), omega (arith, same, within))

-- one part more

pub one_more : (at here : Stage) (bytes : List ℕ) (parts : List LinkPart) (length_ : ℕ) (part : LinkPart) (n : ℕ)
    → reading at bytes ≡ with_parts parts (reading here (drop length_ bytes))
    → front here (drop length_ bytes) ≡ Whole part n
    → reading at bytes ≡ with_parts (parts ++ part ∷ []) (reading (next_stage here) (drop (length_ + n) bytes))
one_more at here bytes parts length_ part n reads whole =
    reads
    ∙ ap (with_parts parts) (read_as here (drop length_ bytes) (Whole part n) whole)
    ∙ ap (λ (xs : List ℕ). with_parts parts (with_part part (reading (next_stage here) xs))) (drop-drop n length_ bytes)
    ∙ ap (λ (ps : List LinkPart). let r = reading (next_stage here) (drop (length_ + n) bytes) in let x : Reading = record r { parts = ps } in x)
    (sym (append_assoc parts (part ∷ []) (reading (next_stage here) (drop (length_ + n) bytes)).parts))

pub no_more : (at here : Stage) (bytes : List ℕ) (parts : List LinkPart) (length_ : ℕ) (fault : Option LinkFault)
    → reading at bytes ≡ with_parts parts (reading here (drop length_ bytes))
    → reading here (drop length_ bytes) ≡ ended fault here (drop length_ bytes)
    → reading at bytes ≡ record { parts = parts; fault = fault; stage = here; rest = drop length_ bytes }
no_more at here bytes parts length_ fault reads ends =
    reads
    ∙ ap (with_parts parts) ends
    ∙ ap (λ (ps : List LinkPart). let x : Reading = record { parts = ps; fault = fault; stage = here; rest = drop length_ bytes } in x) (append-nil parts)

-- one piece more

-- Without a fault what is kept is the rest.
kept_all : (fault : Option LinkFault) (rest : List ℕ) → fault ≡ None → kept fault rest ≡ rest
kept_all fault rest e = ap (λ f. kept f rest) e

module _ (reader : InProgress) (text piece : List ℕ) (stands : StandsFor reader text) where
  sound : reader.fault ≡ None → fault_of text ≡ None
  sound e = sym (ap (λ (r : InProgress). r.fault) stands) ∙ e

  pub fed_on : reader.fault ≡ None → heard (text ++ piece) ≡ with_parts (parts_of text) (reading reader.stage (reader.bytes ++ piece))
  fed_on e =
      reading-append _ text piece
      ∙ ap (λ f. goes_on_by f (heard text) piece) (sound e)
      ∙ ap (λ (s : Stage). with_parts (parts_of text) (reading s ((heard text).rest ++ piece))) (sym (ap (λ (r : InProgress). r.stage) stands))
      ∙ ap (λ (xs : List ℕ). with_parts (parts_of text) (reading reader.stage (xs ++ piece)))
      (sym (ap (λ (r : InProgress). r.bytes) stands ∙ kept_all (fault_of text) (heard text).rest (sound e)))

  -- A reader goes on with what is read of its bytes and the piece.
  pub stands_on : reader.fault ≡ None → StandsFor (after_feed (reading reader.stage (reader.bytes ++ piece))) (text ++ piece)
  stands_on e = sym (ap after_feed (fed_on e))

  pub given_on : reader.fault ≡ None → parts_of text ++ (reading reader.stage (reader.bytes ++ piece)).parts ≡ parts_of (text ++ piece)
  given_on e = sym (ap (λ (r : Reading). r.parts) (fed_on e))

  pub fault_on : reader.fault ≡ None → (reading reader.stage (reader.bytes ++ piece)).fault ≡ fault_of (text ++ piece)
  fault_on e = sym (ap (λ (r : Reading). r.fault) (fed_on e))

  -- After a fault nothing changes.
  fed_nowhere : (fault : LinkFault) → reader.fault ≡ Some fault → heard (text ++ piece) ≡ record (heard text) { rest = (heard text).rest ++ piece }
  fed_nowhere fault e =
      reading-append _ text piece ∙ ap (λ f. goes_on_by f (heard text) piece) (sym (ap (λ (r : InProgress). r.fault) stands) ∙ e)

  kept_none : (fault : LinkFault) (rest other : List ℕ) (f : Option LinkFault) → f ≡ Some fault → kept f rest ≡ kept f other
  kept_none fault rest other f e = ap (λ g. kept g rest) e ∙ sym (ap (λ g. kept g other) e)

  pub stands_still : (fault : LinkFault) → reader.fault ≡ Some fault → StandsFor reader (text ++ piece)
  stands_still fault e =
      stands
      ∙ ap (λ (xs : List ℕ). let x : InProgress = record { stage = (heard text).stage; fault = fault_of text; bytes = xs } in x)
      (kept_none fault (heard text).rest ((heard text).rest ++ piece) (fault_of text) (sym (ap (λ (r : InProgress). r.fault) stands) ∙ e))
      ∙ sym (ap after_feed (fed_nowhere fault e))

  pub given_none : (fault : LinkFault) → reader.fault ≡ Some fault → parts_of text ++ [] ≡ parts_of (text ++ piece)
  given_none fault e = append-nil (parts_of text) ∙ sym (ap (λ (r : Reading). r.parts) (fed_nowhere fault e))

  pub fault_stays : (fault : LinkFault) → reader.fault ≡ Some fault → reader.fault ≡ fault_of (text ++ piece)
  fault_stays fault e = ap (λ (r : InProgress). r.fault) stands ∙ sym (ap (λ (r : Reading). r.fault) (fed_nowhere fault e))

-- a fault that has shown, or none
pub a_fault : (f : Option LinkFault) → is_some f ≡ true → (fault : LinkFault) × (f ≡ Some fault)
a_fault None e = absurd cc
a_fault (Some fault) e = (fault, refl)

pub no_fault : (f : Option LinkFault) → is_some f ≡ false → f ≡ None
no_fault None e = refl
no_fault (Some fault) e = absurd cc
