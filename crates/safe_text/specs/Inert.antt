-- Text in which nothing is markup, and which HTML and XML may hold.
use Rattle.std.specs.Prelude.{ℕ, ◌==◌, ◌&&◌, ◌||◌, not, nat_lt, if◌then◌else◌, Bool, true, false, List, [], ◌∷◌, take, codes}

abbrev pub is_same_text : List ℕ → List ℕ → Bool
is_same_text [] [] = true
is_same_text [] (y ∷ ys) = false
is_same_text (x ∷ xs) [] = false
is_same_text (x ∷ xs) (y ∷ ys) = (x == y) && is_same_text xs ys

-- what stands behind an `&` ends an entity
abbrev pub ends_entity : List ℕ → Bool
ends_entity bs =
    is_same_text (take 3 bs) (codes "lt;") || (is_same_text (take 3 bs) (codes "gt;") || (is_same_text (take 4 bs) (codes "amp;")
    || (is_same_text (take 5 bs) (codes "quot;") || is_same_text (take 4 bs) (codes "#39;"))))

-- `<`, `>`, `"`, `'`, and the control characters of ASCII
abbrev pub is_active : ℕ → Bool
is_active b = (b == 60) || ((b == 62) || ((b == 34) || ((b == 39) || (nat_lt b 32 || (b == 127)))))

-- no byte of it is active, and each `&` begins an entity
unfoldable pub is_inert : List ℕ → Bool
is_inert [] = true
is_inert (b ∷ bs) = (if b == 38 then ends_entity bs else not (is_active b)) && is_inert bs
