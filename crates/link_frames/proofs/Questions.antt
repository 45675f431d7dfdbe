-- What an end of a link is asked tells its role and both hellos.
use Rattle.std.proofs.Common.{◌≡◌, ℕ, List, [], ◌∷◌, ◌++◌, length, drop, refl, sym, ◌∙◌, ap, append-nil}
use Rattle.std.proofs.lemmas.List.{drop_at}
use Rattle.link_frames.specs.Answers.{role_byte, question}
use Rattle.link_frames.specs.Spelling.{hello_bytes}
use Rattle.link_frames.specs.Reading.{hello_of}
use Rattle.link_frames.specs.Laws.{IsHello}
use Rattle.link_frames.specs.declared.answers.Role.{Role}
use Rattle.link_frames.specs.declared.answers.Role.TheVariants.{Calls, IsCalled}
use Rattle.link_frames.specs.declared.parts.Hello.{Hello}
use Rattle.link_frames.proofs.Written.{hello_again, length-hello_bytes}

pub same_role : (r s : Role) (xs ys : List ℕ) → role_byte r ∷ xs ≡ role_byte s ∷ ys → r ≡ s
same_role Calls Calls xs ys e = refl
same_role Calls IsCalled xs ys e = absurd cc
same_role IsCalled Calls xs ys e = absurd cc
same_role IsCalled IsCalled xs ys e = refl

pub same_texts : (r s : Role) (xs ys : List ℕ) → role_byte r ∷ xs ≡ role_byte s ∷ ys → xs ≡ ys
same_texts r s xs ys e = cc

pub same_hello : (a c : Hello) (x y : List ℕ) → IsHello a → IsHello c → hello_bytes a ++ x ≡ hello_bytes c ++ y → a ≡ c
same_hello a c x y is_a is_c e = sym (hello_again a is_a x) ∙ ap hello_of e ∙ hello_again c is_c y

pub same_rest : (a c : Hello) (x y : List ℕ) → IsHello a → IsHello c → hello_bytes a ++ x ≡ hello_bytes c ++ y → x ≡ y
same_rest a c x y is_a is_c e =
    sym (drop_at (hello_bytes a) x 78 (length-hello_bytes a is_a x)) ∙ ap (drop 78) e ∙ drop_at (hello_bytes c) y 78 (length-hello_bytes c is_c y)

pub apart : (r s : Role) (a b c d : Hello) → IsHello a → IsHello b → IsHello c → IsHello d
    → question r a b ≡ question s c d → (r ≡ s) × (a ≡ c) × (b ≡ d)
apart r s a b c d is_a is_b is_c is_d e =
    let texts = same_texts r s (hello_bytes a ++ hello_bytes b) (hello_bytes c ++ hello_bytes d) e in
    let rests = same_rest a c (hello_bytes b) (hello_bytes d) is_a is_c texts in (
      same_role r s (hello_bytes a ++ hello_bytes b) (hello_bytes c ++ hello_bytes d) e,
      same_hello a c (hello_bytes b) (hello_bytes d) is_a is_c texts,
      same_hello b d [] [] is_b is_d (append-nil (hello_bytes b) ∙ rests ∙ sym (append-nil (hello_bytes d))),
    )
