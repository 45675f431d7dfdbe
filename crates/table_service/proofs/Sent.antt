-- Messages are put into an outbox one after another.
use Rattle.std.proofs.Common.{◌≡◌, ℕ, ◌+◌, true, false, not, List, [], ◌∷◌, ◌++◌, map, refl, ap, sym, ◌∙◌, add-one}
use Rattle.std.proofs.lemmas.List.{append-nil, map-append}
use Rattle.std.proofs.lemmas.List.Elements.{filter-append, All-append, All-nil, All-cons}
use Rattle.partition_table.specs.declared.row.Row.{Row}
use Rattle.partition_table.specs.Rows.{is_among}
use Rattle.partition_protocol.specs.Messages.{Sent, NewRow}
use Rattle.partition_protocol.specs.Service.{numbers_below, undetected}
use Rattle.member_wire.specs.Said.{Contents, said_with, written}
use Rattle.member_wire.specs.Spelling.{LengthsFit}
use Rattle.table_service.specs.Sending.{Tells, AllFit, row_told}

pub tells_more : (out new : List (ℕ × List ℕ)) (sent : List Sent) (last : Sent) → Tells out sent → ((k : Contents) → new ≡ out ++ written k last ∷ []) → Tells new (sent ++ last ∷ [])
tells_more out new sent last so_far one = λ k. one k ∙ ap (λ o. o ++ written k last ∷ []) (so_far k) ∙ sym (map-append (written k) sent (last ∷ []))

pub none_fit : AllFit []
none_fit = λ k. All-nil (λ s. LengthsFit (said_with k s.message))

pub fits_more : (sent : List Sent) (last : Sent) → AllFit sent → ((k : Contents) → LengthsFit (said_with k last.message)) → AllFit (sent ++ last ∷ [])
fits_more sent last so_far one = λ k. let P = λ (s : Sent). LengthsFit (said_with k s.message) in All-append P sent (last ∷ []) (so_far k) (All-cons P last [] (one k) (All-nil P))

undetected-in : (detected : List ℕ) (m : ℕ) → is_among detected m ≡ false → undetected (m + 1) detected ≡ undetected m detected ++ m ∷ []
undetected-in detected m live = rw add-one (filter-append (λ k. not (is_among detected k)) (numbers_below m) (m ∷ []) ∙ rw live refl)

undetected-out : (detected : List ℕ) (m : ℕ) → is_among detected m ≡ true → undetected (m + 1) detected ≡ undetected m detected
undetected-out detected m out = rw add-one (filter-append (λ k. not (is_among detected k)) (numbers_below m) (m ∷ []) ∙ rw out (append-nil (undetected m detected)))

abbrev to_member : Row → ℕ → Sent
to_member row m = record { to = m; message = NewRow row }

-- a member that isn't detected is told
pub row_told-in : (row : Row) (detected : List ℕ) (m : ℕ) → is_among detected m ≡ false → row_told (m + 1) row detected ≡ row_told m row detected ++ record { to = m; message = NewRow row } ∷ []
row_told-in row detected m live = ap (map (to_member row)) (undetected-in detected m live) ∙ map-append (to_member row) (undetected m detected) (m ∷ [])

-- and one that is isn't
pub row_told-out : (row : Row) (detected : List ℕ) (m : ℕ) → is_among detected m ≡ true → row_told (m + 1) row detected ≡ row_told m row detected
row_told-out row detected m out = ap (map (to_member row)) (undetected-out detected m out)
