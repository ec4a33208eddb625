-- Frames: a string of octets with its length and the number of its octets that aren't zero. A journal stands for the
-- strings of its whole frames, up to the first that isn't whole. Where nothing was written yet there are zeros, so a
-- torn write can only lose octets, and the count tells.
use Rattle.std.specs.Prelude.{◌≡◌, ◌<◌, ◌^◌, ℕ, zero, suc, ◌+◌, ◌-◌, ◌*◌, ◌/◌, ◌%◌, Bool, true, false, cond, ◌&&◌, ◌==◌, nat_le, List, [], ◌∷◌, ◌++◌, length, take, drop, replicate}

-- a number in so many octets, none of which is zero: seven bits each, the least first, and the top bit set
abbrev pub digits : ℕ → ℕ → List ℕ
digits zero n = []
digits (suc k) n = (128 + n % 128) ∷ digits k (n / 128)

-- the number in such octets
abbrev pub number : List ℕ → ℕ
number [] = 0
number (d ∷ ds) = (d - 128) + 128 * number ds

-- so many octets are there, each with its top bit set
abbrev pub are_digits : ℕ → List ℕ → Bool
are_digits zero octets = true
are_digits (suc k) [] = false
are_digits (suc k) (d ∷ ds) = nat_le 128 d && are_digits k ds

-- how many of these octets aren't zero
abbrev pub nonzeros : List ℕ → ℕ
nonzeros [] = 0
nonzeros (x ∷ xs) = cond (x == 0) (nonzeros xs) (suc (nonzeros xs))

-- the ten octets before a string
abbrev pub header : List ℕ → List ℕ
header body = digits 5 (length body) ++ digits 5 (nonzeros body)

-- a string's frame
abbrev pub frame : List ℕ → List ℕ
frame body = header body ++ body

-- the frames of these strings
abbrev pub frames : List (List ℕ) → List ℕ
frames [] = []
frames (b ∷ bs) = frame b ++ frames bs

-- the length that a header names
abbrev pub head_length : List ℕ → ℕ
head_length octets = number (take 5 octets)

-- the count that it names
abbrev pub head_count : List ℕ → ℕ
head_count octets = number (take 5 (drop 5 octets))

-- the string behind a header
abbrev pub body_at : List ℕ → List ℕ
body_at octets = take (head_length octets) (drop 10 octets)

-- what stands behind the string
abbrev pub after : List ℕ → List ℕ
after octets = drop (head_length octets) (drop 10 octets)

-- A frame is whole where its header is, it is there in full, and as many of its octets aren't zero as the header names.
abbrev pub is_whole : List ℕ → Bool
is_whole octets =
    are_digits 10 octets && (nat_le (head_length octets) (length (drop 10 octets)) && nonzeros (body_at octets) ==
    head_count octets)

-- the strings of the whole frames, up to the first that isn't; as many as the first number at most
abbrev pub bodies : ℕ → List ℕ → List (List ℕ)
bodies zero octets = []
bodies (suc most) octets = cond (is_whole octets) (body_at octets ∷ bodies most (after octets)) []

-- what an image stands for
abbrev pub recorded : List ℕ → List (List ℕ)
recorded octets = bodies (length octets) octets

-- The frames of strings, below 2 ^ 35 octets in all, are read as these strings, with any number of zeros behind them.
abbrev pub FramesAreRead : Type 0
FramesAreRead = (bs : List (List ℕ)) (room : ℕ) → length (frames bs) < 2 ^ 35 →
    recorded (frames bs ++ replicate room 0) ≡ bs
