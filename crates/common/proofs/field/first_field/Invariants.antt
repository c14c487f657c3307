use Rattle.std.proofs.Common.{◌≡◌, ℕ, ◌<◌, false, drop, slice_index_or}
use Rattle.std.specs.List.{position, position_from}
use Rattle.common.specs.declared.field.Field.{Field}
use Rattle.common.specs.Schemas.{has_name}
use Rattle.common.proofs.field.first_field.Given as goal

-- The fields that were passed have other names, so that the first of the name is that of the rest.
abbrev pub invariant-loop-place : goal.invariant-loop-place
invariant-loop-place l = record {
  rest : position (has_name l.text l.name) l.fields ≡ position_from (has_name l.text l.name) l.place (drop l.place l.fields);
  passed : (k : ℕ) (d : Field) → k < l.place → has_name l.text l.name (slice_index_or l.fields k d) ≡ false;
}
