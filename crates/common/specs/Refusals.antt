use Rattle.std.specs.Prelude.{ℕ}
use Rattle.common.specs.declared.refusal.Refusal.{Refusal}
use Rattle.common.specs.declared.refusal.Refusal.TheVariants.{FieldName, FieldType, TooManyArguments, TooManyLevels, TooFewLevels, TooManyItems, UnknownType, ValueDoesNotFit, UnknownNode, NoName, IndexPastList, IndexPastSchema, NoEqualColumn, NoSuchField, OtherFieldName, MissingField, TooManyNodes, BatchFull, ListTooShort}

-- The number of a refusal, as callers see it.
abbrev pub number : Refusal → ℕ
number FieldName = 1
number FieldType = 2
number TooManyArguments = 3
number TooManyLevels = 4
number TooFewLevels = 5
number TooManyItems = 6
number UnknownType = 7
number ValueDoesNotFit = 8
number UnknownNode = 9
number NoName = 10
number IndexPastList = 11
number IndexPastSchema = 12
number NoEqualColumn = 13
number NoSuchField = 14
number OtherFieldName = 15
number MissingField = 16
number TooManyNodes = 17
number BatchFull = 18
number ListTooShort = 19
