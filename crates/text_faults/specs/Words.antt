-- Words of a text as a sentence shows them: octets come in, one line goes out.
use Rattle.std.specs.Prelude.{◌++◌, ◌||◌, ℕ, ◌/◌, ◌%◌, List, [], ◌∷◌, false, nat_lt, cond, codes, chars, encode_utf8, flat_map, length, take}
use Rattle.std.specs.Char.{is_ascii, is_control}
use Rattle.std.specs.Fmt.{digits}
use Rattle.std.specs.Str.{is_utf8}

-- an octet in digits: a backslash and two hexadecimal digits
abbrev pub octet_digits : ℕ → List ℕ
octet_digits octet = codes "\\" ++ digits 16 false (octet / 16) ++ digits 16 false (octet % 16)

-- a character: its octets in digits, where it would end the line or move the cursor, else itself
abbrev pub character_shown : ℕ → List ℕ
character_shown c = cond (is_control c) (flat_map octet_digits (encode_utf8 c)) (encode_utf8 c)

-- an octet of what is no text: a character of ASCII, else in digits
abbrev pub raw_octet_shown : ℕ → List ℕ
raw_octet_shown octet = cond (is_ascii octet) (character_shown octet) (octet_digits octet)

-- all of these, or the first of them, at most so many, and two dots
abbrev pub cut : ℕ → (ℕ → List ℕ) → List ℕ → List ℕ
cut limit show xs =
    cond (nat_lt limit (length xs)) (flat_map show (take limit xs) ++ codes "..") (flat_map show xs)

-- a word, up to 64 of its characters where it is UTF-8, else of its octets
abbrev pub word_shown : List ℕ → List ℕ
word_shown octets = cond (is_utf8 octets) (cut 64 character_shown (chars octets)) (cut 64 raw_octet_shown octets)

-- an octet in a sentence: itself, or a backslash and two hexadecimal digits where it is no ASCII that prints
abbrev pub octet_shown : ℕ → List ℕ
octet_shown octet =
    cond (nat_lt octet 32 || nat_lt 126 octet) (octet_digits octet) (octet ∷ [])
