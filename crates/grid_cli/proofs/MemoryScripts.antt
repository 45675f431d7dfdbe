-- What is said of a script in memory.
use Rattle.std.proofs.Common.{◌≡◌, ℕ, zero, suc, ◌<◌, ◌==◌, ◌&&◌, ◌||◌, nat_lt, Bool, true, false, ◌⊎◌, inl, inr, min, List, [], ◌++◌, length, take, drop, refl, ap, sym, ◌∙◌, subst, arith, append-nil, append_assoc}
use Rattle.std.proofs.lemmas.Bool.Decides.{nat_tests}
use Rattle.std.proofs.lemmas.List.{append_cancel_left, take-append-drop, length-drop, length-append, nil_from_length}
use Rattle.grid_edge.specs.Given.{Given, found_end}
use Rattle.grid_edge.specs.Memory.{Input, after_read, after_failed_read}
use Rattle.grid_cli.specs.MemoryScripts.{HasReadOnce, HasReadOn, IsToldOf, HoldsInMemory}
use Rattle.grid_cli.specs.ReadScripts.{Claim, IsOfScript, Prints}

-- What was read was left at first and no longer is, and once a read has found the end, nothing is.
pub record ReadsWhatIsLeft (first now : Input) : Type 0 where
  pub read : List ℕ
  pub read_is : now.given.bytes ≡ first.given.bytes ++ read
  pub left_is : first.left ≡ read ++ now.left
  pub nothing : first.given.ended ≡ false → now.given.ended ≡ true → now.left ≡ []
  pub most : now.most ≡ first.most

none_read : (first : Input) → ReadsWhatIsLeft first first
none_read first = record {
  read = [];
  read_is = sym (append-nil first.given.bytes);
  left_is = refl;
  nothing = λ going ended. absurd (cc (sym going ∙ ended));
  most = refl;
}

-- which read found the end
ended_by : (b c : Bool) → (b || c) ≡ true → (b ≡ true) ⊎ (c ≡ true)
ended_by true c e = inl refl
ended_by false c e = inr e

-- Where nothing was left, nothing is left after a read.
still_nothing : (n : ℕ) (left : List ℕ) → left ≡ [] → drop n left ≡ []
still_nothing n left none = nil_from_length (drop n left) (let empty : length left ≡ 0 = ap (λ (l : List ℕ). length l) none in omega (arith, empty, length-drop n left))

-- a read that found the end gave nothing, and had room
found_none : (room n : ℕ) → found_end room n ≡ true → n ≡ 0
found_none room n found = grind (arith, nat_tests)

found_room : (room n : ℕ) → found_end room n ≡ true → 0 < room
found_room room n found = grind (arith, nat_tests)

-- So nothing was left.
none_left : (most room : ℕ) (left : List ℕ) → 0 < most → found_end room (min (min most room) (length left)) ≡ true → left ≡ []
none_left most room left some found =
    let none : min (min most room) (length left) ≡ 0 = found_none room (min (min most room) (length left)) found in
    let space : 0 < room = found_room room (min (min most room) (length left)) found in
    nil_from_length left (omega (arith, none, space, some))

read_once : (old new : Input) → 0 < old.most → HasReadOnce old new → ReadsWhatIsLeft old new
read_once old new some (inl failed) = subst (λ (i : Input). ReadsWhatIsLeft old i) (sym failed) (record {
  read = [];
  read_is = sym (append-nil old.given.bytes);
  left_is = refl;
  nothing = λ going ended. absurd (cc (sym going ∙ ended));
  most = refl;
})
read_once old new some (inr gave) =
    let n : ℕ = min (min old.most gave.0) (length old.left) in
    subst (λ (i : Input). ReadsWhatIsLeft old i) (sym gave.1) (record {
      read = take n old.left;
      read_is = refl;
      left_is = sym (take-append-drop n old.left);
      nothing = λ going ended. still_nothing n old.left (none_left old.most gave.0 old.left some (by_read (found_end gave.0 n) going (ended_by (found_end gave.0 n) old.given.ended ended)));
      most = refl;
    })
  where
    by_read : (b : Bool) → old.given.ended ≡ false → (b ≡ true) ⊎ (old.given.ended ≡ true) → b ≡ true
    by_read b going (inl found) = found
    by_read b going (inr ended) = absurd (cc (sym going ∙ ended))

-- reads behind others
reads_on : (first mid last : Input) → ReadsWhatIsLeft first mid → ReadsWhatIsLeft mid last → ReadsWhatIsLeft first last
reads_on first mid last one two = record {
  read = one.read ++ two.read;
  read_is = two.read_is ∙ ap (λ bytes. bytes ++ two.read) one.read_is ∙ append_assoc first.given.bytes one.read two.read;
  left_is = one.left_is ∙ ap (λ left. one.read ++ left) two.left_is ∙ sym (append_assoc one.read two.read last.left);
  nothing = λ going ended. by_first going ended mid.given.ended refl;
  most = two.most ∙ one.most;
}
  where
    none_after : mid.left ≡ [] → last.left ≡ []
    none_after none =
        let both : two.read ++ last.left ≡ [] = sym two.left_is ∙ none in
        nil_from_length last.left (let empty : length (two.read ++ last.left) ≡ 0 = ap (λ (l : List ℕ). length l) both in omega (arith, empty, length-append two.read last.left))

    by_first : first.given.ended ≡ false → last.given.ended ≡ true → (b : Bool) → mid.given.ended ≡ b → last.left ≡ []
    by_first going ended true here = none_after (one.nothing going here)
    by_first going ended false here = two.nothing here ended

pub reads : (count : ℕ) (first now : Input) → 0 < first.most → HasReadOn count first now → ReadsWhatIsLeft first now
reads zero first now some same = subst (λ (i : Input). ReadsWhatIsLeft first i) (sym same) (none_read first)
reads (suc count) first now some read =
    let before : ReadsWhatIsLeft first read.0 = reads count first read.0 some read.1 in
    reads_on first read.0 now before (read_once read.0 now (subst (λ most. 0 < most) (sym before.most) some) read.2)

-- what holds of each script that begins with what was read, at the very one
pub at_script : (Holds : (script read : List ℕ) → Type 0) (first now : Input) → first.given.ended ≡ false → ReadsWhatIsLeft first now → IsOfScript first.given now.given Holds
    → (read : List ℕ) × (first.left ≡ read ++ now.left) × Holds first.left read
at_script Holds first now going has of =
    let same : has.read ≡ of.read = append_cancel_left first.given.bytes has.read of.read (sym has.read_is ∙ of.read_is) in
    let whole : first.left ≡ of.read ++ now.left = has.left_is ∙ ap (λ bytes. bytes ++ now.left) same in
    (of.read, whole, subst (λ bytes. Holds bytes of.read) (sym whole) (of.holds now.left (has.nothing going)))

pub holds_in_memory : (Tells : Claim) → HoldsInMemory Tells
holds_in_memory Tells count first now before after some going read p =
    let of = at_script (λ script read. Tells p.skips script read p.text) first now going (reads count first now some read) p.script in
    (p.skips, of.0, p.text, of.1, p.text_is, of.2)
