-- Laws of cutting and joining.
use Rattle.std.proofs.Common.{◌≡◌, ℕ, zero, suc, ◌+◌, ◌-◌, ◌*◌, ◌<◌, ◌≤◌, List, [], ◌∷◌, ◌++◌, length, get_or, take, drop, arith, refl, sym, ap, ◌∙◌, ⊎_elim, length-append, length-drop}
use Rattle.std.specs.Prelude.{replicate}
use Rattle.std.specs.List.{concat}
use Rattle.std.proofs.lemmas.List.{take-append-le, take_at, take_all, take-take, take-append-drop, drop-append-le, drop-drop, length-replicate, length-take-le, nil_from_length}
use Rattle.std.proofs.lemmas.Bool.{cases_lt}
use Rattle.transport.specs.Pieces.{packet_count, first_piece, first_pieces, pieces, joined}

-- a piece has seven bytes
pub length-first_piece : (bytes : List ℕ) → length (first_piece bytes) ≡ 7
length-first_piece bytes =
    length-take-le 7 (bytes ++ replicate 7 255) (omega (arith, length-append bytes (replicate 7 255), length-replicate {A = ℕ} 7 255))

-- where seven bytes or more are left, they are the piece
pub first_piece-full : (bytes : List ℕ) → 7 ≤ length bytes → first_piece bytes ≡ take 7 bytes
first_piece-full bytes h = take-append-le 7 bytes (replicate 7 255) h

-- the pieces together have seven bytes each
pub length-concat-first_pieces : (n : ℕ) (bytes : List ℕ) → length (concat (first_pieces n bytes)) ≡ 7 * n
length-concat-first_pieces zero bytes = refl
length-concat-first_pieces (suc n) bytes =
    omega (arith, length-append (first_piece bytes) (concat (first_pieces n (drop 7 bytes))), length-first_piece bytes, length-concat-first_pieces n (drop 7 bytes))

pub take-append-ge : (n : ℕ) (xs ys : List ℕ) → take (length xs + n) (xs ++ ys) ≡ xs ++ take n ys
take-append-ge n [] ys = let e : 0 + n ≡ n = omega arith in ap (λ k. take k ys) e
take-append-ge n (x ∷ xs) ys = let e : suc (length xs) + n ≡ suc (length xs + n) = omega arith in rw e (ap (λ (l : List ℕ). x ∷ l) (take-append-ge n xs ys))

one_piece_is_enough : (bytes rest : List ℕ) → length bytes ≤ 7 → take (length bytes) (first_piece bytes ++ rest) ≡ bytes
one_piece_is_enough bytes rest h =
    let inner : length bytes ≤ length (first_piece bytes) = omega (arith, length-first_piece bytes) in
    take-append-le (length bytes) (first_piece bytes) rest inner ∙ take-take (length bytes) 7 (bytes ++ replicate 7 255) h ∙ take_at bytes (replicate 7 255) (length bytes) refl

-- with pieces enough, the pieces one after another begin with the bytes
pub take-concat-first_pieces : (n : ℕ) (bytes : List ℕ) → length bytes ≤ 7 * n → take (length bytes) (concat (first_pieces n bytes)) ≡ bytes
take-concat-first_pieces zero bytes h =
    let empty : bytes ≡ [] = nil_from_length bytes (omega arith) in
    rw empty refl
take-concat-first_pieces (suc n) bytes h = ⊎_elim
    (λ (short : length bytes < 7). one_piece_is_enough bytes (concat (first_pieces n (drop 7 bytes))) (omega arith))
    (λ (full : 7 ≤ length bytes).
    let left : length (drop 7 bytes) ≡ length bytes - 7 = length-drop 7 bytes in
    let again = take-concat-first_pieces n (drop 7 bytes) (omega arith) in
    let front : length (take 7 bytes) ≡ 7 = length-take-le 7 bytes full in
    let count : length bytes ≡ length (take 7 bytes) + length (drop 7 bytes) = omega arith in
    rw (first_piece-full bytes full) (ap (λ k. take k (take 7 bytes ++ concat (first_pieces n (drop 7 bytes)))) count ∙ take-append-ge (length (drop 7 bytes)) (take 7 bytes) (concat (first_pieces n (drop 7 bytes))) ∙ ap (λ (l : List ℕ). take 7 bytes ++ l) again ∙ take-append-drop 7 bytes))
    (cases_lt (length bytes) 7)

-- joining the pieces of a payload gives it back
pub joined-pieces : (payload : List ℕ) → joined (length payload) (pieces payload) ≡ payload
joined-pieces payload = take-concat-first_pieces (packet_count (length payload)) payload (omega arith)

-- whole pieces one after another are the bytes that they were cut from
pub concat-pieces : (n : ℕ) (bytes : List ℕ) → length bytes ≡ 7 * n → concat (pieces bytes) ≡ bytes
concat-pieces n bytes h =
    let count : packet_count (length bytes) ≡ n = omega arith in
    let size : length (concat (pieces bytes)) ≤ length bytes = omega (arith, length-concat-first_pieces (packet_count (length bytes)) bytes) in
    sym (take_all (length bytes) (concat (pieces bytes)) size) ∙ joined-pieces bytes

-- there are as many pieces as packets
pub length-first_pieces : (n : ℕ) (bytes : List ℕ) → length (first_pieces n bytes) ≡ n
length-first_pieces zero bytes = refl
length-first_pieces (suc n) bytes = ap suc (length-first_pieces n (drop 7 bytes))

one_whole_piece : (piece : List ℕ) → length piece ≡ 7 → first_piece piece ≡ piece
one_whole_piece piece h = take_at piece (replicate 7 255) 7 h

-- seven bytes more are one piece more
pub first_pieces-push : (n : ℕ) (bytes piece : List ℕ) → length bytes ≡ 7 * n → length piece ≡ 7 → first_pieces (suc n) (bytes ++ piece) ≡ first_pieces n bytes ++ piece ∷ []
first_pieces-push zero bytes piece h l =
    let empty : bytes ≡ [] = nil_from_length bytes (omega arith) in
    rw empty (ap (λ (p : List ℕ). p ∷ []) (one_whole_piece piece l))
first_pieces-push (suc n) bytes piece h l =
    let full : 7 ≤ length bytes = omega arith in
    let longer : 7 ≤ length (bytes ++ piece) = omega (arith, length-append bytes piece) in
    let left : length (drop 7 bytes) ≡ 7 * n = omega (arith, length-drop 7 bytes) in
    let again = first_pieces-push n (drop 7 bytes) piece left l in
    let head : first_piece (bytes ++ piece) ≡ first_piece bytes = first_piece-full (bytes ++ piece) longer ∙ take-append-le 7 bytes piece full ∙ sym (first_piece-full bytes full) in
    rw (head, drop-append-le 7 bytes piece full) (ap (λ (p : List (List ℕ)). first_piece bytes ∷ p) again)

-- seven bytes more after whole pieces are one piece more
pub pieces-push : (n : ℕ) (bytes piece : List ℕ) → length bytes ≡ 7 * n → length piece ≡ 7 → pieces (bytes ++ piece) ≡ pieces bytes ++ piece ∷ []
pieces-push n bytes piece h l =
    let before : packet_count (length bytes) ≡ n = omega arith in
    let after : packet_count (length (bytes ++ piece)) ≡ suc n = omega (arith, length-append bytes piece) in
    rw (after, before) (first_pieces-push n bytes piece h l)

-- the piece at a place begins seven bytes later for each piece before it
pub get_or-first_pieces : (n k : ℕ) (bytes d : List ℕ) → k < n → get_or (first_pieces n bytes) k d ≡ first_piece (drop (7 * k) bytes)
get_or-first_pieces zero k bytes d h = absurd (omega arith)
get_or-first_pieces (suc n) zero bytes d h = refl
get_or-first_pieces (suc n) (suc k) bytes d h =
    let place : 7 * suc k ≡ 7 + 7 * k = omega arith in
    get_or-first_pieces n k (drop 7 bytes) d (omega arith) ∙ ap first_piece (drop-drop (7 * k) 7 bytes ∙ ap (λ j. drop j bytes) (sym place))
