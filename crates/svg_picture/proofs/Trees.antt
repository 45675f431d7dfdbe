-- Markup that stands one behind another is markup.
use Rattle.std.proofs.Common.{◌≡◌, ℕ, Bool, true, false, cond, List, [], ◌∷◌, ◌++◌, map, refl, sym, ap, subst, ◌∙◌, append_assoc, append-nil}
use Rattle.std.specs.List.{flat_map}
use Rattle.svg_picture.specs.Markup.{Markup, nothing, text, element, markup_text, element_text, escaped_char, HasEachOnce, IsSound, IsMarkup}
use Rattle.svg_picture.specs.declared.words.Tag.{Tag}
use Rattle.svg_picture.specs.declared.words.Attribute.{Attribute}

-- one tree behind another
abbrev joined : Markup → Markup → Markup
joined nothing more = more
joined (text characters rest) more = text characters (joined rest more)
joined (element tag attributes inside rest) more = element tag attributes inside (joined rest more)

markup_text-joined : (first more : Markup) → markup_text (joined first more) ≡ markup_text first ++ markup_text more
markup_text-joined nothing more = refl
markup_text-joined (text characters rest) more =
    ap (λ bytes. flat_map escaped_char characters ++ bytes) (markup_text-joined rest more)
    ∙ sym (append_assoc (flat_map escaped_char characters) (markup_text rest) (markup_text more))
markup_text-joined (element tag attributes inside rest) more =
    ap (λ bytes. element_text tag attributes (markup_text inside) ++ bytes) (markup_text-joined rest more)
    ∙ sym (append_assoc (element_text tag attributes (markup_text inside)) (markup_text rest) (markup_text more))

sound_joined : (first more : Markup) → IsSound first → IsSound more → IsSound (joined first more)
sound_joined nothing more a b = b
sound_joined (text characters rest) more a b = sound_joined rest more a b
sound_joined (element tag attributes inside rest) more a b = (a.0, a.1, sound_joined rest more a.2 b)

pub no_markup : (bytes : List ℕ) → bytes ≡ [] → IsMarkup bytes
no_markup bytes e = record { markup = nothing; sound = tt; is = e }

pub of_text : (characters bytes : List ℕ) → bytes ≡ flat_map escaped_char characters → IsMarkup bytes
of_text characters bytes e =
    record { markup = text characters nothing; sound = tt; is = e ∙ sym (append-nil (flat_map escaped_char characters)) }

pub of_element : (tag : Tag) (attributes : List Attribute) (inside bytes : List ℕ) → HasEachOnce attributes → IsMarkup inside → bytes ≡ element_text tag attributes inside → IsMarkup bytes
of_element tag attributes inside bytes once within e = record {
  markup = element tag attributes within.markup nothing;
  sound = (once, within.sound, tt);
  is = e ∙ (ap (element_text tag attributes) within.is ∙ sym (append-nil (element_text tag attributes (markup_text within.markup))));
}

pub of_both : (first more bytes : List ℕ) → IsMarkup first → IsMarkup more → bytes ≡ first ++ more → IsMarkup bytes
of_both first more bytes a b e = record {
  markup = joined a.markup b.markup;
  sound = sound_joined a.markup b.markup a.sound b.sound;
  is = e ∙ (ap (λ front. front ++ more) a.is ∙ (ap (λ rest. markup_text a.markup ++ rest) b.is ∙ sym (markup_text-joined a.markup b.markup)));
}

-- what a failed appending leaves is what was there
pub appended : (ok : Bool) (first more added bytes : List ℕ) → IsMarkup first → IsMarkup more → added ≡ more → bytes ≡ cond ok (first ++ added) first → IsMarkup bytes
appended true first more added bytes a b e is = of_both first more bytes a b (is ∙ ap (λ rest. first ++ rest) e)
appended false first more added bytes a b e is = subst IsMarkup (sym is) a

-- characters that were looked at one by one are the characters
pub map-itself : (characters : List ℕ) → map (λ c. c) characters ≡ characters
map-itself [] = refl
map-itself (c ∷ cs) = ap (λ rest. c ∷ rest) (map-itself cs)
