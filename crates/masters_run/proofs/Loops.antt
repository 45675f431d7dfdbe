-- What a line with masters does part by part, as its loops take it: partition after partition, or message after message.
use Rattle.std.proofs.Common.{◌≡◌, ℕ, zero, suc, ◌+◌, ◌-◌, ◌<◌, List, [], ◌∷◌, ◌++◌, length, Option, Some, None, refl, ap, sym, ◌∙◌, subst, append-nil, append_assoc, arith}
use Rattle.grid_base.specs.Objects.{Object}
use Rattle.grid_base.specs.declared.names.CallId.{CallId}
use Rattle.grid_base.specs.declared.calls.Request.{Request}
use Rattle.object_store.specs.Partitions.{Partition}
use Rattle.call_engine.specs.Calls.{Settings}
use Rattle.call_engine.specs.Objects.{partition_object}
use Rattle.partition_protocol.specs.Events.{Event}
use Rattle.partition_protocol.specs.Service.{numbers_below}
use Rattle.partition_world.specs.declared.Link.{Link}
use Rattle.masters_world.specs.Machine.{Line, at_once, published_by}
use Rattle.partition_protocol.specs.Events as event
use Rattle.line_told.specs.declared.told.Told.{Told}
use Rattle.replay_run.specs.Appending.{new_messages}
use Rattle.replay_run.specs.ScriptRuns.{IsRun, run_given_up}
use Rattle.replay_run.specs.LineTold.{all_told}
use Rattle.replay_run.proofs.EventRuns.{takes_run}
use Rattle.masters_run.specs.declared.grid.RuledGrid.{RuledGrid}
use Rattle.masters_run.specs.Runs.{RuledRun, masters_at, ruled_at, goes, goes_in, flowed, flowed_in, link_between, handing_over, flowed_between}
use Rattle.masters_run.specs.LineTold.{all_published, followed, followed_in, followed_each}
use Rattle.masters_run.specs.Printing.{handed_over}
use Rattle.masters_run.specs.Steps.{IsAmid, Onward, Tellings, HasGoneOn, GivesUp, going, following}
use Rattle.replay_run.specs.Grids.{FormOf}
use Rattle.masters_run.proofs.RuledRuns.{AsksNoCall, goes_keeps, goes_in_keeps, flowed_keeps, flowed_in_keeps, between_keeps, between_on}
use Rattle.masters_run.proofs.RuledGrowing.{goes_goes, goes_in_goes}
use Rattle.masters_run.proofs.SkippedTold.{followed_in_alike}
use Rattle.masters_run.proofs.Composing.{TellsBy, tells_by_run, gone_further, gives_up_then, gives_up_first, gone_nowhere, SameSteps, gone_as, up_as}

-- what is asked for in one partition tells by where it leads
pub one_tells : (settings : Settings) (s : RuledRun) (p : ℕ) (l : Line Request) → AsksNoCall l → TellsBy s (going settings s p l) (following settings s p l)
one_tells settings s p l q =
    let o = partition_object settings in
    let j = ruled_at o s p in
    tells_by_run s (going settings s p l)
    (λ next. all_published o p (length j.masters.published + 1) (event.run o j.world (at_once j l)) (published_by j l) ++ all_told (new_messages s.run next.run))
    (goes_goes o s p l q)

-- A run stays one.

pub goes_run : (o : Object Request Partition) (skips : List CallId) (s : RuledRun) (p : ℕ) (l : Line Request) → AsksNoCall l → IsRun o s.run → IsRun o (goes o skips s p l).run
goes_run o skips = goes_keeps o skips (IsRun o) run_given_up (λ r p e quiet h. takes_run skips r p e h quiet)

pub goes_in_run : (o : Object Request Partition) (skips : List CallId) (s : RuledRun) (l : Line Request) (ps : List ℕ) → AsksNoCall l → IsRun o s.run → IsRun o (goes_in o skips s l ps).run
goes_in_run o skips = goes_in_keeps o skips (IsRun o) run_given_up (λ r p e quiet h. takes_run skips r p e h quiet)

pub flowed_run : (o : Object Request Partition) (skips : List CallId) (s : RuledRun) (p most : ℕ) → IsRun o s.run → IsRun o (flowed o skips s p most).run
flowed_run o skips = flowed_keeps o skips (IsRun o) run_given_up (λ r p e quiet h. takes_run skips r p e h quiet)

pub flowed_in_run : (o : Object Request Partition) (skips : List CallId) (s : RuledRun) (most : ℕ) (ps : List ℕ) → IsRun o s.run → IsRun o (flowed_in o skips s most ps).run
flowed_in_run o skips = flowed_in_keeps o skips (IsRun o) run_given_up (λ r p e quiet h. takes_run skips r p e h quiet)

pub between_run : (o : Object Request Partition) (skips : List CallId) (s : RuledRun) (p most : ℕ) → IsRun o s.run → IsRun o (flowed_between o skips s p most).run
between_run o skips = between_keeps o skips (IsRun o) run_given_up (λ r p e quiet h. takes_run skips r p e h quiet)

-- the same in each partition

module _ (o : Object Request Partition) (skips : List CallId) (l : Line Request) where
  goes_in-append : (s : RuledRun) (ps qs : List ℕ) → goes_in o skips s l (ps ++ qs) ≡ goes_in o skips (goes_in o skips s l ps) l qs
  goes_in-append s [] qs = refl
  goes_in-append s (p ∷ ps) qs = goes_in-append (goes o skips s p l) ps qs

  followed_in-append : (s : RuledRun) (ps qs : List ℕ) → followed_in o skips s l (ps ++ qs) ≡ followed_in o skips s l ps ++ followed_in o skips (goes_in o skips s l ps) l qs
  followed_in-append s [] qs = refl
  followed_in-append s (p ∷ ps) qs =
      ap (λ xs. followed o skips s p l ++ xs) (followed_in-append (goes o skips s p l) ps qs)
      ∙ sym (append_assoc (followed o skips s p l) (followed_in o skips (goes o skips s p l) l ps) (followed_in o skips (goes_in o skips (goes o skips s p l) l ps) l qs))

  pub goes_in_more : (s : RuledRun) (n : ℕ) → goes_in o skips s l (numbers_below (suc n)) ≡ goes o skips (goes_in o skips s l (numbers_below n)) n l
  goes_in_more s n = goes_in-append s (numbers_below n) (n ∷ [])

  pub followed_in_more : (s : RuledRun) (n : ℕ) → followed_in o skips s l (numbers_below (suc n)) ≡ followed_in o skips s l (numbers_below n) ++ followed o skips (goes_in o skips s l (numbers_below n)) n l
  followed_in_more s n =
      followed_in-append s (numbers_below n) (n ∷ [])
      ∙ ap (λ xs. followed_in o skips s l (numbers_below n) ++ xs) (append-nil (followed o skips (goes_in o skips s l (numbers_below n)) n l))

-- in the first partitions

abbrev pub going_in : Settings → RuledRun → Line Request → ℕ → Onward
going_in settings s l n skips = goes_in (partition_object settings) skips s l (numbers_below n)

abbrev pub following_in : Settings → RuledRun → Line Request → ℕ → Tellings
following_in settings s l n skips = followed_in (partition_object settings) skips s l (numbers_below n)

-- What is asked for has gone on in so many partitions.
abbrev pub HasGoneIn : {V : Type 0} {T : V → Type 0} → FormOf V T → Settings → RuledGrid V T → RuledRun → Line Request → ℕ → List Told → List Told → Type 0
HasGoneIn form settings grid s l n earlier later = HasGoneOn form settings grid s (going_in settings s l n) (following_in settings s l n) earlier later

pub gone_in_none : {V : Type 0} {T : V → Type 0} {form : FormOf V T} {settings : Settings} (grid : RuledGrid V T) (s : RuledRun) (l : Line Request) (later : List Told) → IsAmid form settings grid s → HasGoneIn form settings grid s l 0 later later
gone_in_none grid s l later amid = gone_nowhere grid s later amid

module _ (settings : Settings) (s : RuledRun) (l : Line Request) (quiet : AsksNoCall l) where
  in_tells : (n : ℕ) → TellsBy s (going_in settings s l n) (following_in settings s l n)
  in_tells n = record { by = goes_in_goes (partition_object settings) s l (numbers_below n) quiet; alike = λ k t agree. followed_in_alike settings k t s l (numbers_below n) quiet agree }

  in_same : (n : ℕ) → SameSteps (λ k. going settings (going_in settings s l n k) n l k) (going_in settings s l (n + 1)) (λ k. following_in settings s l n k ++ following settings (going_in settings s l n k) n l k) (following_in settings s l (n + 1))
  in_same n =
      let one : suc n ≡ n + 1 = omega arith in
      record {
        leads = λ k. sym (goes_in_more (partition_object settings) k l s n) ∙ ap (λ m. going_in settings s l m k) one;
        says = λ k. sym (followed_in_more (partition_object settings) k l s n) ∙ ap (λ m. following_in settings s l m k) one;
      }

  module _ {V : Type 0} {T : V → Type 0} {form : FormOf V T} (mid new : RuledGrid V T) (n : ℕ) (earlier so_far : List Told) (a : HasGoneIn form settings mid s l n earlier so_far) where
    -- the run by then
    abbrev pub gone_in : RuledRun
    gone_in = going_in settings s l n a.skips

    -- and in one more
    pub gone_in_more : (later : List Told) → HasGoneOn form settings new gone_in (going settings gone_in n l) (following settings gone_in n l) so_far later → HasGoneIn form settings new s l (n + 1) earlier later
    gone_in_more later b =
        (gone_as (in_same n)
        (gone_further settings s (going_in settings s l n) (λ x. going settings x n l) (following_in settings s l n) (λ x. following settings x n l) (in_tells n) (λ x. one_tells settings x n l quiet) mid new earlier so_far later a b).on).0

    -- or it is given up there
    pub gives_up_in : (most : ℕ) → n < most → GivesUp gone_in (going settings gone_in n l) → GivesUp s (going_in settings s l most)
    gives_up_in most below b =
        let now = gives_up_then settings s (going_in settings s l n) (λ x. going settings x n l) (following_in settings s l n) (λ x. following settings x n l) (in_tells n) (λ x. one_tells settings x n l quiet) mid new earlier so_far [] a b
        (λ t. goes_run (partition_object settings) t gone_in n l quiet a.amid.grid.run) in
        rest (most - (n + 1)) most (omega (arith, below)) (up_as (in_same n).leads now)
      where
        rest : (more last : ℕ) → (n + 1) + more ≡ last → GivesUp s (going_in settings s l (n + 1)) → GivesUp s (going_in settings s l last)
        rest zero last e up = let same : n + 1 ≡ last = omega (arith, e) in subst (λ m. GivesUp s (going_in settings s l m)) same up
        rest (suc more) last e up =
            let before = n + 1 + more in
            let same : before + 1 ≡ last = omega (arith, e) in
            subst (λ m. GivesUp s (going_in settings s l m)) same
            (up_as (in_same before).leads
            (gives_up_first settings s (going_in settings s l before) (λ x. going settings x before l) (following_in settings s l before) (λ x. following settings x before l) (in_tells before) (λ x. one_tells settings x before l quiet) (rest more before refl up)))

-- `mflow`, message after message

module _ (o : Object Request Partition) (skips : List CallId) where
  pub between_none : (s : RuledRun) (p most : ℕ) → link_between (masters_at s p) ≡ None → flowed_between o skips s p most ≡ s
  between_none s p zero none = refl
  between_none s p (suc most) none = ap (between_on o skips s p most) none

  abbrev handed_on : RuledRun → ℕ → ℕ → Option Link → ℕ
  handed_on s p most next = elim next [ None ↦ 0 | Some l ↦ suc (handed_over o skips (goes o skips s p (handing_over l)) p most) ]

  abbrev followed_on : RuledRun → ℕ → ℕ → Option Link → List Told
  followed_on s p most next = elim next [ None ↦ [] | Some l ↦ followed o skips s p (handing_over l) ++ followed_each o skips (goes o skips s p (handing_over l)) p most ]

  pub handed_none : (s : RuledRun) (p most : ℕ) → link_between (masters_at s p) ≡ None → handed_over o skips s p most ≡ 0
  handed_none s p zero none = refl
  handed_none s p (suc most) none = ap (handed_on s p most) none

  pub each_none : (s : RuledRun) (p most : ℕ) → link_between (masters_at s p) ≡ None → followed_each o skips s p most ≡ []
  each_none s p zero none = refl
  each_none s p (suc most) none = ap (followed_on s p most) none

  -- In two parts.
  pub record AreParts (s : RuledRun) (p a b all : ℕ) : Type 0 where
    pub leads : flowed_between o skips s p all ≡ flowed_between o skips (flowed_between o skips s p a) p b
    pub says : followed_each o skips s p all ≡ followed_each o skips s p a ++ followed_each o skips (flowed_between o skips s p a) p b
    pub handed : handed_over o skips s p all ≡ handed_over o skips s p a + handed_over o skips (flowed_between o skips s p a) p b

  pub between_parts : (s : RuledRun) (p a b all : ℕ) → a + b ≡ all → AreParts s p a b all
  between_parts s p zero b all e =
      let same : all ≡ b = omega (arith, e) in
      record { leads = ap (flowed_between o skips s p) same; says = ap (followed_each o skips s p) same; handed = let more = ap (handed_over o skips s p) same in omega (arith, more) }
  between_parts s p (suc a) b zero e = absurd (omega (arith, e))
  between_parts s p (suc a) b (suc all) e = go (link_between (masters_at s p)) refl (λ x. between_parts x p a b all left)
    where
      left : a + b ≡ all
      left = omega (arith, e)

      go : (next : Option Link) → link_between (masters_at s p) ≡ next → ((x : RuledRun) → AreParts x p a b all) → AreParts s p (suc a) b (suc all)
      go None none parts =
          let stays = between_none s p (suc a) none in
          record {
            leads = between_none s p (suc all) none ∙ sym (ap (λ x. flowed_between o skips x p b) stays ∙ between_none s p b none);
            says = each_none s p (suc all) none ∙ sym ((λ i. each_none s p (suc a) none i ++ followed_each o skips (stays i) p b) ∙ each_none s p b none);
            handed =
                (let whole = handed_none s p (suc all) none in
                let first = handed_none s p (suc a) none in
                let then = ap (λ x. handed_over o skips x p b) stays ∙ handed_none s p b none in
                omega (arith, whole, first, then));
          }
      go (Some l) some parts =
          let next = goes o skips s p (handing_over l) in
          let h = parts next in
          let a_leads = ap (between_on o skips s p a) some in
          let a_says = ap (followed_on s p a) some in
          let a_handed = ap (handed_on s p a) some in
          let more : suc (handed_over o skips next p a + handed_over o skips (flowed_between o skips next p a) p b) ≡ suc (handed_over o skips next p a) + handed_over o skips (flowed_between o skips next p a) p b = omega arith in
          record {
            leads = ap (between_on o skips s p all) some ∙ h.leads ∙ sym (ap (λ x. flowed_between o skips x p b) a_leads);
            says =
                ap (followed_on s p all) some ∙ ap (λ xs. followed o skips s p (handing_over l) ++ xs) h.says
                ∙ sym ((λ i. a_says i ++ followed_each o skips (a_leads i) p b) ∙ append_assoc (followed o skips s p (handing_over l)) (followed_each o skips next p a) (followed_each o skips (flowed_between o skips next p a) p b));
            handed = ap (handed_on s p all) some ∙ ap (λ n. suc n) h.handed ∙ more ∙ sym (λ i. a_handed i + handed_over o skips (a_leads i) p b);
          }

  -- one message
  pub record IsOne (s : RuledRun) (p : ℕ) (l : Link) : Type 0 where
    pub leads : flowed_between o skips s p (suc zero) ≡ goes o skips s p (handing_over l)
    pub says : followed_each o skips s p (suc zero) ≡ followed o skips s p (handing_over l)
    pub handed : handed_over o skips s p (suc zero) ≡ 1

  pub between_one : (s : RuledRun) (p : ℕ) (l : Link) → link_between (masters_at s p) ≡ Some l → IsOne s p l
  between_one s p l some = record {
    leads = ap (between_on o skips s p zero) some;
    says = ap (followed_on s p zero) some ∙ append-nil (followed o skips s p (handing_over l));
    handed = ap (handed_on s p zero) some;
  }
