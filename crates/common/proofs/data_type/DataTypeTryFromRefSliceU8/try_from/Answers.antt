-- The check leaves these open at its limits or at half of them: one lemma tells a word by the pattern that it matched.
use Rattle.std.proofs.Common.{codes, rules}
use Rattle.common.proofs.Patterns.{spells}
use Rattle.common.proofs.data_type.DataTypeTryFromRefSliceU8.try_from.Goals as goal

pub returns-in-Int16 : goal.returns-in-Int16
returns-in-Int16 c = rw (spells c.args.word.now (codes "Int16") (search rules))

pub returns-in-Int32 : goal.returns-in-Int32
returns-in-Int32 c = rw (spells c.args.word.now (codes "Int32") (search rules))

pub returns-in-Int64 : goal.returns-in-Int64
returns-in-Int64 c = rw (spells c.args.word.now (codes "Int64") (search rules))

pub returns-in-Boolean : goal.returns-in-Boolean
returns-in-Boolean c = rw (spells c.args.word.now (codes "Boolean") (search rules))
