-- What a line of a script says.
use Rattle.std.specs.Prelude.{if◌then◌else◌, ℕ, ◌-◌, true, List, [], ◌∷◌, length, take, drop, Ok, vec_items, Option, Result, ◌==◌, slice_index}
use Rattle.std.specs.Option.{option_map}
use Rattle.common.specs.declared.field.Field.{Field}
use Rattle.common.specs.declared.name.Name.{Name}
use Rattle.script.specs.declared.keyword.Keyword.{Keyword}
use Rattle.script.specs.declared.keyword.Keyword.TheVariants as keyword
use Rattle.script.specs.declared.line.Line.{Line}
use Rattle.script.specs.declared.line.Line.TheVariants as parsed
use Rattle.script.specs.declared.line.Malformed.{Malformed}
use Rattle.common.specs.declared.trouble.Trouble.{Trouble}
use Rattle.common.specs.Troubles.{Agrees}
use Rattle.script.specs.Fields.{field_of}
use Rattle.script.specs.Keywords.{keyword_of}
use Rattle.script.specs.Lists.{after_list, list_of, list_words, room_of}
use Rattle.script.specs.Names.{name_of}
use Rattle.script.specs.Words.{after_word, alone, and_then, begins_with, only_word, words_of}

-- What a line says, with plain lists for its texts and its numbers.
pub data Said : Type 0 where
  says_nothing : Said
  says_help : Said
  says_text : List ℕ → Said
  says_field : Field → Said
  says_schema : Said
  says_find : Name → Said
  says_lower : Option (List ℕ) → Said
  says_combine : Option (List ℕ) → Option ℕ → Said

-- What a line that was read says.
abbrev pub said : Line → Said
said parsed.Blank = says_nothing
said parsed.Help = says_help
said (parsed.Text bytes) = says_text (vec_items bytes)
said (parsed.Field f) = says_field f
said parsed.Schema = says_schema
said (parsed.Find n) = says_find n
said (parsed.Lower l) = says_lower (option_map vec_items l)
said (parsed.Combine l n) = says_combine (option_map vec_items l) n

-- A carriage return that ends the line is left out.
abbrev pub without_return : List ℕ → List ℕ
without_return bs = if slice_index bs (length bs - 1) == 13 then take (length bs - 1) bs else bs

-- The text that follows its keyword, after one blank.
abbrev pub text_of : List ℕ → List ℕ
text_of rest = without_return (drop 1 rest)

-- `find` takes one name.
abbrev pub find_of : List ℕ → List (List ℕ) → Result Name Malformed
find_of text ws = and_then (only_word ws) (name_of text)

-- `lower` takes a list, up to the end of the line.
abbrev pub lower_of : List (List ℕ) → Result Said Malformed
lower_of ws = and_then (list_of ws) (λ l. Ok (says_lower l))

-- `combine` takes a list, which may end at the word `into`, and what follows it.
abbrev pub combine_of : List (List ℕ) → Result Said Malformed
combine_of ws = and_then (list_of (list_words true ws)) (λ l. and_then (room_of (after_list true ws)) (λ n. Ok (says_combine l n)))

-- What a keyword says, with the rest of its line.
abbrev pub keyword_says : List ℕ → List ℕ → Keyword → Result Said Malformed
keyword_says text rest keyword.Help = alone says_help (words_of rest)
keyword_says text rest keyword.Text = Ok (says_text (text_of rest))
keyword_says text rest keyword.Field = and_then (field_of text (words_of rest)) (λ f. Ok (says_field f))
keyword_says text rest keyword.Schema = alone says_schema (words_of rest)
keyword_says text rest keyword.Find = and_then (find_of text (words_of rest)) (λ n. Ok (says_find n))
keyword_says text rest keyword.Lower = lower_of (words_of rest)
keyword_says text rest keyword.Combine = combine_of (words_of rest)

-- A line with no word says nothing, and neither does one that begins with #.
abbrev pub words_say : List ℕ → List ℕ → List (List ℕ) → Result Said Malformed
words_say text rest [] = Ok says_nothing
words_say text rest (w ∷ ws) = if begins_with 35 w then Ok says_nothing else and_then (keyword_of w) (keyword_says text rest)

-- What a line says over a text of names.
abbrev pub line_of : List ℕ → List ℕ → Result Said Malformed
line_of text line = words_say text (after_word line) (words_of line)

-- What reading a line answers: what the line says, or why it is none; where memory runs out, nothing.
abbrev pub Parsed : List ℕ → List ℕ → Result Line (Trouble Malformed) → Type 0
Parsed text line r = Agrees said (line_of text line) r
