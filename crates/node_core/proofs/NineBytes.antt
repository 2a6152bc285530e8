use Rattle.std.proofs.Common.{◌≡◌, ℕ, List, [], ◌∷◌, ◌++◌, length, set, arith, ap, ◌∙◌}
use Rattle.std.proofs.lemmas.List.{set-append_right}

-- two bytes written after the first seven
pub nine_bytes : (piece : List ℕ) (x y : ℕ) → length piece ≡ 7 → set (set (piece ++ 0 ∷ 0 ∷ []) 7 x) 8 y ≡ piece ++ x ∷ y ∷ []
nine_bytes piece x y h =
    let first : set (piece ++ 0 ∷ 0 ∷ []) 7 x ≡ piece ++ x ∷ 0 ∷ [] = set-append_right piece (0 ∷ 0 ∷ []) 7 7 x h (omega arith) in
    let second : set (piece ++ x ∷ 0 ∷ []) 8 y ≡ piece ++ x ∷ y ∷ [] = set-append_right piece (x ∷ 0 ∷ []) 7 8 y h (omega arith) in
    ap (λ l. set l 8 y) first ∙ second
