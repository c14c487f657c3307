-- Both parts of the invariant, as the loop begins and past a field of another name: left open without these lemmas.
use Rattle.std.proofs.Common.{sym, ◌∙◌, arith}
use Rattle.std.proofs.lemmas.Iterator.Adapters.{position_from-zero}
use Rattle.common.specs.Schemas.{has_name}
use Rattle.common.proofs.Places.{passed_more, place_next}
use Rattle.common.proofs.field.first_field.Goals as goal

pub loop-place-init : goal.loop-place-init
loop-place-init c = record {
  rest = position_from-zero (has_name c.args.text.now c.args.name) c.args.fields.now;
  passed = λ k d h. absurd (omega arith);
}

pub loop-place-preserved : goal.loop-place-preserved
loop-place-preserved c =
    let test = has_name c.args.text.now c.args.name in
    record {
      rest = c.loop-place.invariant.rest ∙ place_next test _ _ _ c.loop-place-test.true (sym c.if-equals.ensures.value);
      passed = passed_more test _ _ _ c.loop-place-test.true (sym c.if-equals.ensures.value) c.loop-place.invariant.passed;
    }
