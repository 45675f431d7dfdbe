-- What follows the outcome of a line with masters asks of the skips only which of the calls are among them that come to their end at it.
use Rattle.std.proofs.Common.{◌≡◌, ℕ, zero, suc, ◌+◌, List, [], ◌∷◌, ◌++◌, length, Option, Some, None, refl, ap, ◌∙◌}
use Rattle.grid_base.specs.Objects.{Object}
use Rattle.grid_base.specs.declared.names.CallId.{CallId}
use Rattle.grid_base.specs.declared.calls.Request.{Request}
use Rattle.object_store.specs.Partitions.{Partition}
use Rattle.call_engine.specs.Calls.{Settings}
use Rattle.call_engine.specs.Objects.{partition_object}
use Rattle.partition_protocol.specs.Events.{run}
use Rattle.partition_world.specs.declared.Link.{Link}
use Rattle.masters_world.specs.Machine.{Line, at_once, published_by}
use Rattle.line_told.specs.declared.told.Told.{Told}
use Rattle.replay_run.specs.Appending.{new_messages}
use Rattle.replay_run.specs.LineTold.{all_told}
use Rattle.masters_run.specs.Runs.{RuledRun, masters_at, ruled_at, goes, goes_in, link_between, handing_over, flowed_between}
use Rattle.masters_run.specs.LineTold.{all_published, followed, followed_in, followed_each}
use Rattle.masters_run.specs.Printing.{handed_over}
use Rattle.masters_run.proofs.Composing.{same_run}
use Rattle.masters_run.proofs.RuledGrowing.{goes_goes, goes_in_goes, between_goes}
use Rattle.masters_run.proofs.RuledRuns.{AsksNoCall, between_on}
use Rattle.masters_run.proofs.SkippedTexts.{AgreeBetween, first_agree, rest_agree}

-- So many messages are handed over between masters, and what follows each is the same.
pub record AreAlike (o : Object Request Partition) (k t : List CallId) (s : RuledRun) (p most : ℕ) : Type 0 where
  pub handed : handed_over o k s p most ≡ handed_over o t s p most
  pub told : followed_each o k s p most ≡ followed_each o t s p most

module _ (settings : Settings) (k t : List CallId) where
  abbrev o : Object Request Partition
  o = partition_object settings

  abbrev followed_to : RuledRun → ℕ → Line Request → RuledRun → List Told
  followed_to s p l next =
      let j = ruled_at o s p in
      all_published o p (length j.masters.published + 1) (run o j.world (at_once j l)) (published_by j l) ++ all_told (new_messages s.run next.run)

  followed_alike : (s : RuledRun) (p : ℕ) (l : Line Request) → AsksNoCall l → AgreeBetween settings k t s.run (goes o k s p l).run → followed o k s p l ≡ followed o t s p l
  followed_alike s p l q a = ap (followed_to s p l) (same_run (goes_goes o s p l q) k t a)

  pub followed_in_alike : (s : RuledRun) (l : Line Request) (ps : List ℕ) → AsksNoCall l → AgreeBetween settings k t s.run (goes_in o k s l ps).run → followed_in o k s l ps ≡ followed_in o t s l ps
  followed_in_alike s l [] q a = refl
  followed_in_alike s l (p ∷ ps) q a =
      let mid = goes o k s p l in
      let first = (goes_goes o s p l q).by.grows k in
      let rest = (goes_in_goes o mid l ps q).by.grows k in
      let now = first_agree settings k t s.run mid.run (goes_in o k mid l ps).run first rest a in
      let then = rest_agree settings k t s.run mid.run (goes_in o k mid l ps).run first rest a in
      ap (λ xs. xs ++ followed_in o k mid l ps) (followed_alike s p l q now)
      ∙ ap (λ xs. followed o t s p l ++ xs) (followed_in_alike mid l ps q then ∙ ap (λ (x : RuledRun). followed_in o t x l ps) (same_run (goes_goes o s p l q) k t now))

  -- `mflow`, where this is the next link

  abbrev handed_on : List CallId → RuledRun → ℕ → ℕ → Option Link → ℕ
  handed_on x s p most next = elim next [ None ↦ 0 | Some l ↦ suc (handed_over o x (goes o x s p (handing_over l)) p most) ]

  abbrev followed_on : List CallId → RuledRun → ℕ → ℕ → Option Link → List Told
  followed_on x s p most next = elim next [ None ↦ [] | Some l ↦ followed o x s p (handing_over l) ++ followed_each o x (goes o x s p (handing_over l)) p most ]

  record AreSoOn (s : RuledRun) (p most : ℕ) (next : Option Link) : Type 0 where
    handed : handed_on k s p most next ≡ handed_on t s p most next
    told : followed_on k s p most next ≡ followed_on t s p most next

  pub handed_alike : (most : ℕ) (s : RuledRun) (p : ℕ) → AgreeBetween settings k t s.run (flowed_between o k s p most).run → AreAlike o k t s p most
  handed_alike zero s p a = record { handed = refl; told = refl }
  handed_alike (suc most) s p a = let so = go (link_between (masters_at s p)) a (λ x. handed_alike most x p) in record { handed = so.handed; told = so.told }
    where
      go : (next : Option Link) → AgreeBetween settings k t s.run (between_on o k s p most next).run → ((x : RuledRun) → AgreeBetween settings k t x.run (flowed_between o k x p most).run → AreAlike o k t x p most) → AreSoOn s p most next
      go None a rest = record { handed = refl; told = refl }
      go (Some l) a rest =
          let mid = goes o k s p (handing_over l) in
          let first = (goes_goes o s p (handing_over l) tt).by.grows k in
          let more = (between_goes o mid p most).by.grows k in
          let now = first_agree settings k t s.run mid.run (flowed_between o k mid p most).run first more a in
          let is = same_run (goes_goes o s p (handing_over l) tt) k t now in
          let then = rest mid (rest_agree settings k t s.run mid.run (flowed_between o k mid p most).run first more a) in
          record {
            handed = ap (λ n. suc n) (then.handed ∙ ap (λ (x : RuledRun). handed_over o t x p most) is);
            told =
                ap (λ xs. xs ++ followed_each o k mid p most) (followed_alike s p (handing_over l) tt now)
                ∙ ap (λ xs. followed o t s p (handing_over l) ++ xs) (then.told ∙ ap (λ (x : RuledRun). followed_each o t x p most) is);
          }
