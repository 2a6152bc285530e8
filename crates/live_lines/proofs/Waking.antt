-- A list of which each element up to an index was changed.
use Rattle.std.proofs.Common.{ℕ, ◌≡◌, ◌+◌, ◌<◌, List, [], ◌∷◌, ◌++◌, length, set, take, drop, get_or, map, arith, ap, sym, refl, ◌∙◌, get_or-drop}
use Rattle.std.proofs.lemmas.List.{take_more, take_more_set, drop-set-lt, drop-drop}

map_more : {A : Type 0} (f : A → A) (xs : List A) (x : A) → map f (xs ++ x ∷ []) ≡ map f xs ++ f x ∷ []
map_more f [] x = refl
map_more f (y ∷ xs) x = ap (λ (r : List _). f y ∷ r) (map_more f xs x)

-- the element at the index is as it was
still : {A : Type 0} (xs ys : List A) (i : ℕ) (d : A) → drop i ys ≡ drop i xs → get_or ys i d ≡ get_or xs i d
still xs ys i d e =
    let at : i + 0 ≡ i = omega arith in
    sym (get_or-drop i ys 0 d ∙ ap (λ k. get_or ys k d) at) ∙ ap (λ (l : List _). get_or l 0 d) e ∙ get_or-drop i xs 0 d ∙ ap (λ k. get_or xs k d) at

-- one more is changed
pub one_more_changed : {A : Type 0} (f : A → A) (xs ys : List A) (i : ℕ) (x v : A) → i < length xs → i < length ys → take i ys ≡ map f (take i xs)
    → drop i ys ≡ drop i xs → v ≡ f (get_or ys i x) → take (i + 1) (set ys i v) ≡ map f (take (i + 1) xs)
one_more_changed f xs ys i x v lx ly front back new =
    take_more_set ys i v ly ∙ (λ k. front k ++ new k ∷ []) ∙ sym (map_more f (take i xs) (get_or ys i x)) ∙ ap (λ y. map f (take i xs ++ y ∷ [])) (still xs ys i x back)
    ∙ ap (map f) (sym (take_more xs i x lx))

-- those behind it are as they were
pub others_as_they_were : {A : Type 0} (xs ys : List A) (i : ℕ) (v : A) → drop i ys ≡ drop i xs → drop (i + 1) (set ys i v) ≡ drop (i + 1) xs
others_as_they_were xs ys i v back =
    drop-set-lt (i + 1) ys i v (omega arith) ∙ sym (drop-drop 1 i ys) ∙ ap (drop 1) back ∙ drop-drop 1 i xs
