use Rattle.std.proofs.Common.{◌≡◌, take, drop}
use Rattle.index_lists.specs.Combine.{read_by}
use Rattle.index_lists.proofs.rows.select_into.Given as goal

-- The front holds the cells of the indices that were passed, and the rest is as before.
abbrev pub invariant-loop-place : goal.invariant-loop-place
invariant-loop-place g l = record {
  front : take l.place l.out ≡ read_by l.missing l.row (take l.place l.indices);
  rest : drop l.place l.out ≡ drop l.place l.initial.out;
}
