-- A frame's eight places follow from its bytes: the places past them are 0.
use Rattle.std.proofs.Common.{◌≡◌, ℕ, ◌-◌, ◌≤◌, List, ◌++◌, length, take, drop, arith, refl, length-take}
use Rattle.std.specs.Prelude.{replicate}
use Rattle.std.proofs.lemmas.List.{take-append-drop}
use Rattle.can_frame.specs.declared.frame.Frame.TheInside.{Inside}

-- the first places and the zeros after them are the whole
padded_list : (n : ℕ) (xs : List ℕ) → n ≤ 8 → length xs ≡ 8 → drop n xs ≡ replicate (8 - n) 0 → take n xs ++ replicate (8 - n) 0 ≡ xs
padded_list n xs hn hl hd = rw (← hd) (take-append-drop n xs)

length_front : (n : ℕ) (xs : List ℕ) → n ≤ 8 → length xs ≡ 8 → length (take n xs) ≡ n
length_front n xs hn hl = grind (arith, length-take)

-- a frame's fields follow from its value
pub padded_back : (a : Inside) → a.len ≤ 8 → length a.room ≡ 8 → drop a.len a.room ≡ replicate (8 - a.len) 0
    → record { id = a.id; len = length (take a.len a.room); room = take a.len a.room ++ replicate (8 - length (take a.len a.room)) 0 } ≡ a
padded_back a hn hl hd = rw (length_front a.len a.room hn hl, padded_list a.len a.room hn hl hd) refl
