-- The message of frames that say something says it.
use Rattle.std.proofs.Common.{◌≡◌, ℕ, List, [], ◌∷◌, ◌++◌, map, refl, ap, sym, ◌∙◌, subst, append-nil, arith, lit<}
use Rattle.std.specs.Prelude.{pos, negsuc}
use Rattle.std.specs.Int.{w32, w64, to_le_bytes}
use Rattle.std.specs.Int.RustNames.{FitsSigned}
use Rattle.std.proofs.lemmas.Int.{ints}
use Rattle.frame_codec.specs.Laws.{spelled}
use Rattle.fixed_fields.specs.Fields.{int32_bytes, int64_bytes}
use Rattle.fixed_fields.proofs.Written.{int64_read, kind_read}
use Rattle.partition_table.specs.declared.Row.{Row}
use Rattle.event_codecs.specs.Events.{invalidation_kind, rows_kind}
use Rattle.event_codecs.specs.Writing.{invalidation_frames, rows_frames, seen}
use Rattle.event_codecs.proofs.Hearing.{invalidation_heard, rows_heard}
use Rattle.request_codecs.specs.Openings.{invalidations_correlation, rows_correlation}
use Rattle.near_protocol.specs.Client.{Answer, Refusal, Invalidation, Rows, RowHeard}
use Rattle.grid_client.specs.Ties.{row_heard}
use Rattle.near_run_laws.specs.Maps.{value_in}
use Rattle.near_run_laws.specs.Messages.{row_said, AreBytesOf}
use Rattle.near_run_laws.specs.Hearings.{HasHead}
use Rattle.near_run_laws.specs.Clients.{SaysIt}
use Rattle.near_run_laws.specs.Speaking.{EveryMessageSaysIt}
use Rattle.near_run_laws.proofs.Hearings.{its_bytes, every_answer_is_heard, every_refusal_is_heard}

fits_second : FitsSigned w64 (pos 2)
fits_second = omega (arith, ints)

fits_third : FitsSigned w64 (pos 3)
fits_third = omega (arith, ints)

-- the head of an event
invalidation_head : (partition version number : ℕ) (name key : List ℕ) → HasHead (record { frames = invalidation_frames invalidations_correlation partition version number name key }) invalidation_kind invalidations_correlation
invalidation_head partition version number name key = record {
  kind_is = kind_read invalidation_kind (int64_bytes (pos 2) ++ int32_bytes (pos partition) ++ to_le_bytes w32 version ++ to_le_bytes w32 number) (lit< tt);
  correlation_is = int64_read (to_le_bytes w32 invalidation_kind) (to_le_bytes w32 invalidation_kind ++ int64_bytes (pos 2)) (int64_bytes (pos 2)) (pos 2) fits_second refl refl (int32_bytes (pos partition) ++ to_le_bytes w32 version ++ to_le_bytes w32 number);
}

rows_head : (known : List (ℕ × Row)) → HasHead (record { frames = rows_frames rows_correlation known }) rows_kind rows_correlation
rows_head known = record {
  kind_is = kind_read rows_kind (int64_bytes (pos 3) ++ int32_bytes (negsuc 0)) (lit< tt);
  correlation_is = int64_read (to_le_bytes w32 rows_kind) (to_le_bytes w32 rows_kind ++ int64_bytes (pos 3)) (int64_bytes (pos 3)) (pos 3) fits_third refl refl (int32_bytes (negsuc 0));
}

-- the rows that a client sees
rows_seen : (known : List (ℕ × Row)) → map row_said known ≡ map row_heard (map seen known)
rows_seen [] = refl
rows_seen (placed ∷ known) = ap (λ (rs : List RowHeard). row_said placed ∷ rs) (rows_seen known)

pub every_message_says_it : EveryMessageSaysIt
every_message_says_it name frames (Answer number reply) (value, is, small, writable, reply_is) =
    subst (λ fs. AreBytesOf name (spelled fs) (Answer number reply) × SaysIt name (record { frames = fs }) (Answer number reply)) (sym is)
    (let a = every_answer_is_heard number value small writable in (sym (reply_is ∙ its_bytes number value), (a.head, ap value_in reply_is ∙ a.read ∙ sym a.brings)))
every_message_says_it name frames (Refusal number) (code, first, is, small, fits) =
    subst (λ fs. AreBytesOf name (spelled fs) (Refusal number) × SaysIt name (record { frames = fs }) (Refusal number)) (sym is)
    (let a = every_refusal_is_heard number code first small fits in ((code, (first, append-nil _)), (a.head, (code, a.code_is))))
every_message_says_it name frames (Invalidation key version number) (partition, is, its, fits) =
    subst (λ fs. AreBytesOf name (spelled fs) (Invalidation key version number) × SaysIt name (record { frames = fs }) (Invalidation key version number)) (sym is)
    ((partition, refl), (invalidations_correlation, (pos partition, (invalidation_head partition version number name key, (invalidation_heard invalidations_correlation partition version number name key its fits).read))))
every_message_says_it name frames (Rows rows) (known, is, its, fits, rows_are) =
    subst (λ fs. AreBytesOf name (spelled fs) (Rows rows) × SaysIt name (record { frames = fs }) (Rows rows)) (sym is)
    ((known, (refl, rows_are)), (rows_correlation, (map seen known, (rows_head known, ((rows_heard rows_correlation known its fits).read, rows_are ∙ rows_seen known)))))
