use Rattle.std.proofs.Common.{◌≡◌, List, Some, None, sym, subst, ◌∙◌}
use Rattle.frame_codec.specs.declared.frames.Frame.{Frame}
use Rattle.fixed_fields.specs.Structures.{after_structure, BeginsWithStructure}
use Rattle.fixed_fields.proofs.Nesting.{after-structure, structure_from, structure_unique}
use Rattle.fixed_fields.proofs.cursor.Cursor.skip_structure.Goals as goal

pub returns-in-Some-clause-structure : goal.returns-in-Some-clause-structure
returns-in-Some-clause-structure c =
    let passed : after_structure c.self.inside.frames.now ≡ Some c.in-Some.rest.now = sym c.in-Some.ensures in
    subst (λ frames. BeginsWithStructure frames c.in-Some.rest.now) c.self.view_is (structure_from c.self.inside.frames.now c.in-Some.rest.now passed)

pub returns-in-Some-clause-only : goal.returns-in-Some-clause-only
returns-in-Some-clause-only c rest it =
    let passed : after_structure c.self.inside.frames.now ≡ Some c.in-Some.rest.now = sym c.in-Some.ensures in
    structure_unique c.args.self.now c.in-Some.rest.now rest (subst (λ frames. after_structure frames ≡ Some c.in-Some.rest.now) c.self.view_is passed) it

pub returns-in-None-clause-none : goal.returns-in-None-clause-none
returns-in-None-clause-none c rest it =
    let none : after_structure c.self.inside.frames.now ≡ None = sym c.in-None.ensures in
    let passed = after-structure c.args.self.now rest it in
    none_passed c.args.self.now rest (subst (λ frames. after_structure frames ≡ None) c.self.view_is none) passed
  where
    none_passed : (frames rest : List Frame) → after_structure frames ≡ None → after_structure frames ≡ Some rest → ⊥
    none_passed frames rest none passed = let clash : None ≡ Some rest = sym none ∙ passed in cc
