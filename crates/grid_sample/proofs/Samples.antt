-- A sample, of its two parts.
use Rattle.std.proofs.Common.{◌≡◌, inl, inr, ⊎_elim, ℕ, ◌-◌, ◌^◌, ◌<◌, ◌≤◌, List, ◌++◌, Option, None, Some, refl, sym, subst, arith}
use Rattle.entry_processors.specs.declared.form.Form.{Form}
use Rattle.grid_cli.specs.declared.status.Status.{Status}
use Rattle.grid_cli.specs.declared.status.Status.TheVariants.{Done, WriteFault}
use Rattle.grid_edge.specs.Faults.{Rose}
use Rattle.grid_edge.proofs.Told.{more_taken}
use Rattle.live_grid.specs.declared.grid.GridPass.{GridPass}
use Rattle.live_grid.specs.declared.grid.LiveGrid.{LiveGrid}
use Rattle.sample_run.specs.declared.sample.Sampled.{Sampled}
use Rattle.sample_run.specs.declared.sample.Sampled.TheVariants.{Done as Ran}
use Rattle.sample_run.specs.declared.summary.Summary.{Summary}
use Rattle.grid_sample.specs.Samples.{sampled_text, CameTo, Writes, IsSummaryText, HasCountedAs, StopsAtCounts, HasSampled}

-- what was printed of a script whose lines all ran is a summary
pub is_summary : (number : ℕ) (sampled : Sampled) (summary : Summary) → sampled ≡ Ran summary → CameTo number sampled → IsSummaryText number (sampled_text sampled)
is_summary number sampled summary is came =
    subst (λ s. IsSummaryText number (sampled_text s)) (sym is) (record { summary = summary; came = subst (CameTo number) is came; text_is = refl })

rose_since : (old mid new : ℕ) → old ≤ mid → Rose mid new → Rose old new
rose_since old mid new up rose = ⊎_elim
    (λ (more : mid < new). inl (omega (arith, up, more)))
    (λ (last : new ≡ 2 ^ 64 - 1). inr last)
    rose

module _ (number : ℕ) (forms : List Form) (before : List ℕ) (faults : ℕ) where
  module _ (mid : List ℕ) (faults_mid : ℕ) (told : Writes before mid (IsSummaryText number)) (up : faults ≤ faults_mid) (after : List ℕ) (faults_after : ℕ) where
    -- it stopped in its second part
    pub stopped_at_counts : (status : Status) → Writes mid after (StopsAtCounts forms status) → (status ≡ WriteFault → Rose faults_mid faults_after)
        → HasSampled number forms status None before after faults faults_after
    stopped_at_counts status wrote cause = record {
      text = told.0 ++ wrote.0;
      taken = more_taken before mid after told.0 wrote.0 told.1 wrote.1;
      done = tt;
      stops = inr (record { first = told.0; second = wrote.0; parts = refl; summary = told.2; stops = wrote.2 });
      write_fault = λ fault. rose_since faults faults_mid faults_after up (cause fault);
    }

    -- it came to its end
    pub ended : (held : LiveGrid × GridPass) → Writes mid after (HasCountedAs forms held.0 held.1) → HasSampled number forms Done (Some held) before after faults faults_after
    ended held wrote = record {
      text = told.0 ++ wrote.0;
      taken = more_taken before mid after told.0 wrote.0 told.1 wrote.1;
      done = (refl, record { first = told.0; second = wrote.0; parts = refl; summary = told.2; counts = wrote.2 });
      stops = tt;
      write_fault = λ fault. absurd (cc fault);
    }
