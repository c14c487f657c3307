-- The check leaves these open at its limits or at half of them: one lemma tells a word by the pattern that it matched.
use Rattle.std.proofs.Common.{codes, rules}
use Rattle.common.proofs.Patterns.{spells}
use Rattle.script.proofs.keyword.KeywordTryFromRefSliceU8.try_from.Goals as goal

pub returns-in-help : goal.returns-in-help
returns-in-help c = rw (spells c.args.word.now (codes "help") (search rules))

pub returns-in-116 : goal.returns-in-116
returns-in-116 c = rw (spells c.args.word.now (codes "text") (search rules))

pub returns-in-field : goal.returns-in-field
returns-in-field c = rw (spells c.args.word.now (codes "field") (search rules))

pub returns-in-schema : goal.returns-in-schema
returns-in-schema c = rw (spells c.args.word.now (codes "schema") (search rules))

pub returns-in-find : goal.returns-in-find
returns-in-find c = rw (spells c.args.word.now (codes "find") (search rules))

pub returns-in-lower : goal.returns-in-lower
returns-in-lower c = rw (spells c.args.word.now (codes "lower") (search rules))

pub returns-in-combine : goal.returns-in-combine
returns-in-combine c = rw (spells c.args.word.now (codes "combine") (search rules))
