-- What stands in a page for text from outside, byte by byte of its UTF-8.
use Rattle.std.specs.Prelude.{ℕ, ◌-◌, ◌/◌, ◌%◌, ◌==◌, ◌&&◌, ◌||◌, Bool, nat_lt, if◌then◌else◌, List, [], ◌∷◌, ◌++◌, codes, slice_index_or}

-- two hexadecimal digits of a byte
abbrev pub digit : ℕ → ℕ
digit n = slice_index_or (codes "0123456789ABCDEF") n 48

abbrev pub two_digits : ℕ → List ℕ
two_digits b = digit (b / 16) ∷ digit (b % 16) ∷ []

-- the signs of markup, as entities; what parts words, as a blank; any other control character of ASCII, as `\x1B`; and the rest, as it is
abbrev pub stands_for : ℕ → List ℕ
stands_for b =
    if b == 60 then codes "&lt;" else
    (if b == 62 then codes "&gt;" else
    (if b == 38 then codes "&amp;" else
    (if b == 34 then codes "&quot;" else
    (if b == 39 then codes "&#39;" else
    (if (b == 9) || ((b == 10) || (b == 13)) then 32 ∷ [] else
    (if nat_lt b 32 || (b == 127) then codes "\\x" ++ two_digits b else
    b ∷ []))))))

-- U+FFFE and U+FFFF, the bytes EF BF BE and EF BF BF, are in no document: their last byte becomes that of U+FFFD
abbrev pub mended : ℕ → ℕ → ℕ → ℕ
mended before last b = if (before == 239) && ((last == 191) && nat_lt 189 b) then 189 else b

-- further control characters, U+0080 to U+009F: the bytes C2 80 to C2 9F
abbrev pub is_control : ℕ → ℕ → Bool
is_control last b = (last == 194) && (nat_lt 127 b && nat_lt b 160)

-- marks that end a line or turn its direction: U+200E, U+200F, U+2028 to U+202E and U+2066 to U+2069, the bytes E2 80 8E to E2 81 A9
abbrev pub is_mark : ℕ → ℕ → ℕ → Bool
is_mark before last b =
    (before == 226) && (((last == 128) && ((nat_lt 141 b && nat_lt b 144) || (nat_lt 167 b && nat_lt b 175))) || ((last == 129) && (nat_lt 165 b && nat_lt b 170)))

-- the last two hexadecimal digits of such a mark, by its last two bytes
abbrev pub low_of : ℕ → ℕ → ℕ
low_of last b = if last == 128 then b - 128 else b - 64

-- a byte of such a character that is not its last
abbrev pub is_begun : ℕ → ℕ → ℕ → ℕ → Bool
is_begun last b next after = is_control b next || (is_mark b next after || is_mark last b next)

-- what stands for a last byte: such a character is written as its number
abbrev pub stands_for_last : ℕ → ℕ → ℕ → List ℕ
stands_for_last before last b =
    if is_control last b then codes "\\x" ++ two_digits b else
    (if is_mark before last b then codes "\\u20" ++ two_digits (low_of last b) else stands_for (mended before last b))

-- what stands for a byte between two before and two behind it
abbrev pub stands_at : ℕ → ℕ → ℕ → ℕ → ℕ → List ℕ
stands_at before last b next after = if is_begun last b next after then [] else stands_for_last before last b

-- what stands for a text behind two bytes
unfoldable pub escaped_behind : ℕ → ℕ → List ℕ → List ℕ
escaped_behind before last [] = []
escaped_behind before last (b ∷ bs) = stands_at before last b (slice_index_or bs 0 0) (slice_index_or bs 1 0) ++ escaped_behind last b bs

-- what stands for a text
abbrev pub escaped : List ℕ → List ℕ
escaped text = escaped_behind 0 0 text

-- three dots, U+2026
abbrev pub ellipsis : List ℕ
ellipsis = 226 ∷ 128 ∷ 166 ∷ []
