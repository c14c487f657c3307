-- What a line of a script does.
use Rattle.std.specs.Prelude.{if◌then◌else◌, length, is_ok, Ok, Err, Result}
use Rattle.std.specs.Option.{option_map}
use Rattle.std.specs.Result.{result_map_both, result_unwrap_or}
use Rattle.common.specs.declared.refusal.Fault.{Fault}
use Rattle.index_lists.specs.Combine.{counted}
use Rattle.script.specs.declared.line.Malformed.{Malformed}
use Rattle.script.specs.Lines.{Said, says_nothing, says_help, says_text, says_field, says_schema, says_find, says_lower, says_combine}
use Rattle.session.specs.declared.answer.Answer.{Answer}
use Rattle.session.specs.declared.answer.Answer.TheVariants.{Nothing, Help, Text, Field, Schema, Found, Listed}
use Rattle.session.specs.Sessions.{View, combine_on, find_field, schema_count, with_beneath, with_field, with_text}

-- What a line answers.
abbrev pub answer_to : View → Said → Result Answer Fault
answer_to v says_nothing = Ok Nothing
answer_to v says_help = Ok Help
answer_to v (says_text t) = Ok (Text (length t))
answer_to v (says_field f) = Ok (Field (length v.fields))
answer_to v says_schema = result_map_both Schema (λ e. e) (schema_count v)
answer_to v (says_find n) = result_map_both Found (λ e. e) (find_field v n)
answer_to v (says_lower l) = Ok (Listed (option_map length l))
answer_to v (says_combine u room) = result_map_both Listed (λ e. e) (counted (combine_on v u room))

-- What stands after a line that is not refused.
abbrev pub view_after : View → Said → View
view_after v says_nothing = v
view_after v says_help = v
view_after v (says_text t) = with_text t
view_after v (says_field f) = with_field v f
view_after v says_schema = v
view_after v (says_find n) = v
view_after v (says_lower l) = with_beneath v l
view_after v (says_combine u room) = with_beneath v (result_unwrap_or (combine_on v u room) v.beneath)

-- A refused line changes nothing.
abbrev pub stepped : View → Said → View
stepped v s = if is_ok (answer_to v s) then view_after v s else v

-- Neither does a line that is none.
abbrev pub stepped_by : View → Result Said Malformed → View
stepped_by v (Ok s) = stepped v s
stepped_by v (Err m) = v
