-- `parted` meets its contract: the first field, and the others after a space each. Assumes nothing.
use Prim.Native.Nat.{ℕ, ◌+◌, ◌<◌}
use mathlib.Core.Path.{◌≡◌, ap, ◌∙◌}
use mathlib.Core.List.{List, [], ◌∷◌, ◌++◌, map}
use native.Mathlib.Omega.{arith}
use lib.ListN.{length, take, get_or}
use lib.Seq.{take-length}
use Rattle.std.specs.List.{flat_map}
use Rattle.answer_text.specs.Lines.{parted}
use Rattle.text_fields.specs.declared.Field.{Field}
use Rattle.text_fields.specs.declared.Field.TheVariants.{Join}
use Rattle.text_fields.specs.declared.Writer.{Writer}
use Rattle.text_fields.specs.Fields.{spelled}
use Rattle.text_fields.specs.Writing.{Fits, Writes}
use Rattle.text_fields.proofs.Lines.{after_space, one_more, first_and_others}
use Rattle.text_fields.proofs.Steps.{step_fits, stepped}
use Rattle.text_fields.proofs.Writing.{writes_none, next_fits, both}
use Rattle.text_fields.proofs.Writer.parted.Goals as goal

-- room for the others, after the first
module _ {w v : Writer} {fs : List Field} (first : Field) (others : List Field) (e : fs ≡ first ∷ others) (h : Fits w (parted (map spelled fs))) (p : Writes w (spelled first) v) where
  whole_fits : Fits w (spelled first ++ flat_map after_space others)
  whole_fits = rw (ap (λ fs. parted (map spelled fs)) e ∙ first_and_others first others) at h

  others_fit : Fits v (flat_map after_space (take (length others) others))
  others_fit = rw (take-length others) (next_fits (spelled first) (flat_map after_space others) whole_fits p)

  module _ {x : Writer} (i : ℕ) (l : i < length others) (q : Writes v (flat_map after_space (take i others)) x) where
    next_field_fits : Fits x (after_space (get_or others i Join))
    next_field_fits = step_fits (λ i. flat_map after_space (take i others)) (λ i. after_space (get_or others i Join)) (length others) (one_more after_space others) others_fit i l q

    next_field : {y z : Writer} → Writes x (32 ∷ []) y → Writes y (spelled (get_or others i Join)) z → Writes v (flat_map after_space (take (i + 1) others)) z
    next_field s f =
        stepped (λ i. flat_map after_space (take i others)) (λ i. after_space (get_or others i Join)) (length others) (one_more after_space others) others_fit i l q
        (both (32 ∷ []) (spelled (get_or others i Join)) next_field_fits s f)

pub loop-field-init : goal.loop-field-init
loop-field-init c = writes_none c.field.new.self

pub byte-requires : goal.byte-requires
byte-requires c =
    omega (arith, next_field_fits c.in-Some.first.now c.in-Some.others.now c.in-Some.ensures.cases.0 c.requires c.field.ensures c.loop-field.field-index c.loop-field-test.true c.loop-field.invariant)

pub field-requires-in-loop-field : goal.field-requires-in-loop-field
field-requires-in-loop-field c =
    next_fits (32 ∷ []) _
    (next_field_fits c.in-Some.first.now c.in-Some.others.now c.in-Some.ensures.cases.0 c.requires c.field.ensures c.loop-field.field-index c.loop-field-test.true c.loop-field.invariant)
    c.byte.ensures

pub loop-field-preserved : goal.loop-field-preserved
loop-field-preserved c =
    next_field c.in-Some.first.now c.in-Some.others.now c.in-Some.ensures.cases.0 c.requires c.field.ensures c.loop-field.field-index c.loop-field-test.true c.loop-field.invariant c.byte.ensures c.field-in-loop-field.ensures

pub returns-after-loop-field : goal.returns-after-loop-field
returns-after-loop-field c =
    let first = c.in-Some.first.now in
    let others = c.in-Some.others.now in
    let e = c.in-Some.ensures.cases.0 in
    let all : c.loop-field.field-index ≡ length others = omega arith in
    rw (ap (λ fs. parted (map spelled fs)) e ∙ first_and_others first others)
    (both (spelled first) (flat_map after_space others) (whole_fits first others e c.requires c.field.ensures) c.field.ensures (rw (all, take-length others) at c.loop-field.invariant))
