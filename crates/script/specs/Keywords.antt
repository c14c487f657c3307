-- The keywords.
use Rattle.std.specs.Prelude.{if◌then◌else◌, ℕ, List, Ok, Err, codes, Result}
use Rattle.std.specs.Str.{bytes_eq}
use Rattle.script.specs.declared.keyword.Keyword.{Keyword}
use Rattle.script.specs.declared.keyword.Keyword.TheVariants.{Help, Text, Field, Schema, Find, Lower, Combine}
use Rattle.script.specs.declared.line.Malformed.{Malformed}
use Rattle.script.specs.declared.line.Malformed.TheVariants.{UnknownKeyword}

-- The keyword that a word is.
abbrev pub keyword_of : List ℕ → Result Keyword Malformed
keyword_of w =
    if bytes_eq w (codes "help") then Ok Help
    else (if bytes_eq w (codes "text") then Ok Text
    else (if bytes_eq w (codes "field") then Ok Field
    else (if bytes_eq w (codes "schema") then Ok Schema
    else (if bytes_eq w (codes "find") then Ok Find
    else (if bytes_eq w (codes "lower") then Ok Lower
    else (if bytes_eq w (codes "combine") then Ok Combine
    else Err UnknownKeyword))))))
