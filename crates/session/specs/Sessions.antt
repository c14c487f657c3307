-- What a session keeps, as plain lists.
use Rattle.std.specs.Prelude.{ℕ, min, List, [], ◌∷◌, ◌++◌, map, length, position, Some, None, Err, Option, Result}
use Rattle.std.specs.Option.{ok_or}
use Rattle.common.specs.declared.field.Field.{Field}
use Rattle.common.specs.declared.name.Name.{Name}
use Rattle.common.specs.declared.refusal.Fault.{Fault}
use Rattle.common.specs.declared.refusal.Refusal.TheVariants.{NoSuchField}
use Rattle.common.specs.Firsts.{fault, or_fault}
use Rattle.common.specs.Schemas.{has_name, schema_fault, schema_of}
use Rattle.index_lists.specs.Combine.{combine, read_by_any}
use Rattle.common.specs.declared.trouble.Trouble.{Trouble}
use Rattle.common.specs.Troubles.{Agrees}

-- The text of names, the fields given so far, and the index list that the next one is to stand on.
pub record View : Type 0 where
  pub text : List ℕ
  pub fields : List Field
  pub beneath : Option (List ℕ)

-- Another text, with no field and no list.
abbrev pub with_text : List ℕ → View
with_text t = record { text = t; fields = []; beneath = None }

-- One field more.
abbrev pub with_field : View → Field → View
with_field v f = record { text = v.text; fields = v.fields ++ f ∷ []; beneath = v.beneath }

-- Another list for the next one to stand on.
abbrev pub with_beneath : View → Option (List ℕ) → View
with_beneath v list = record { text = v.text; fields = v.fields; beneath = list }

-- The answer of a check that may find a fault, or what follows it.
abbrev pub after_fault : {X : Type 0} → Option Fault → Result X Fault → Result X Fault
after_fault None next = next
after_fault (Some f) next = Err f

-- How many fields the schema has, once it has passed its checks.
abbrev pub schema_count : View → Result ℕ Fault
schema_count v = or_fault (schema_fault v.text v.fields) (length (schema_of v.fields))

-- The first field of the name, once the schema has passed its checks.
abbrev pub find_field : View → Name → Result ℕ Fault
find_field v n = after_fault (schema_fault v.text v.fields) (ok_or (position (has_name v.text n) (schema_of v.fields)) (fault NoSuchField 0))

-- A call answers as it is defined to, refusals included, unless the machine has no memory left.
abbrev pub Answers : {X : Type 0} → Result X Fault → Result X (Trouble Fault) → Type 0
Answers given r = Agrees (λ x. x) given r

-- The length of the output list: as given, but no longer than the answer can be.
abbrev pub room_for : Option (List ℕ) → Option ℕ → ℕ
room_for None room = 0
room_for (Some upper) None = length upper
room_for (Some upper) (Some room) = min room (length upper)

-- The upper list over the one that stands.
abbrev pub combine_on : View → Option (List ℕ) → Option ℕ → Result (Option (List ℕ)) Fault
combine_on v upper room = combine upper v.beneath (room_for upper room)

-- The columns that the standing list picks from the schema, once that has passed its checks: none for an index past its end.
abbrev pub columns_of : View → Result (List (Option Field)) Fault
columns_of v = or_fault (schema_fault v.text v.fields) (read_by_any None (map Some (schema_of v.fields)) v.beneath)
