-- Names in a text, and when two of them are equal.
use Rattle.std.specs.Prelude.{if◌then◌else◌, ◌≡◌, ℕ, ◌+◌, min, Bool, true, ◌&&◌, ◌||◌, List, length, take, drop, Some, None, Option, ◌==◌, nat_le}
use Rattle.std.specs.Str.{bytes_eq}
use Rattle.common.specs.declared.name.Name.{Name}

-- A name of the text lies inside its first 65,535 bytes.
abbrev pub is_name : List ℕ → Name → Bool
is_name text n = nat_le (n.start + n.len) (min (length text) 65535)

-- The bytes from its start, as many as its length.
abbrev pub bytes_at : List ℕ → Name → List ℕ
bytes_at text n = take n.len (drop n.start text)

-- The bytes of a name; none for what is no name of the text.
abbrev pub name_bytes : List ℕ → Name → Option (List ℕ)
name_bytes text n = if is_name text n then Some (bytes_at text n) else None

-- One start and one length.
abbrev pub same_place : Name → Name → Bool
same_place a b = a.start == b.start && a.len == b.len

-- Two names are equal that have one start and one length, without a look at the bytes; others where their bytes are equal.
abbrev pub same_name : List ℕ → Name → Name → Bool
same_name text a b = same_place a b || ((is_name text a && is_name text b) && bytes_eq (bytes_at text a) (bytes_at text b))

-- The law of equal names: names of a text are equal exactly when they spell the same bytes.
pub record Alike (text : List ℕ) (a b : Name) (r : Bool) : Type 0 where
  pub spells : r ≡ true → bytes_at text a ≡ bytes_at text b
  pub equal : is_name text a ≡ true → is_name text b ≡ true → bytes_at text a ≡ bytes_at text b → r ≡ true
