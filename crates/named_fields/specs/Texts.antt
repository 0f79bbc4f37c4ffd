-- Strings as an object has them.
use Rattle.std.specs.Prelude.{ℕ, ◌==◌, Bool, ◌&&◌, if◌then◌else◌, nat_le, List, [], ◌∷◌, ◌++◌, codes}
use Rattle.std.specs.List.{flat_map}
use Rattle.flat_model.specs.Texts.{byte_text}

-- a text that has no quote, no backslash and nothing but printable bytes, as a string
abbrev pub quoted : List ℕ → List ℕ
quoted text = codes "\"" ++ (text ++ codes "\"")

-- a byte from the space to the tilde
abbrev pub is_printable : ℕ → Bool
is_printable b = nat_le 32 b && nat_le b 126

-- a byte that is none of these, by its number
abbrev pub numbered : ℕ → List ℕ
numbered b = codes "\\u00" ++ byte_text b

-- a byte within a string of an object
unfoldable pub escaped_byte : ℕ → List ℕ
escaped_byte b =
    if b == 34 then codes "\\\"" else if b == 92 then codes "\\\\" else if is_printable b then b ∷ [] else numbered b

-- a text as a string of an object: any byte may stand in it
unfoldable pub escaped : List ℕ → List ℕ
escaped text = quoted (flat_map escaped_byte text)
