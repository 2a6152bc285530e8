-- A packet that is written over FF bytes.
use Rattle.std.proofs.Common.{◌≡◌, ℕ, zero, suc, ◌+◌, ◌-◌, ◌<◌, ◌≤◌, List, [], ◌∷◌, ◌++◌, length, take, drop, arith, refl, sym, ap, ◌∙◌}
use Rattle.std.specs.Prelude.{replicate, slice_index_or}
use borrow.Rule.Slice.PartMut.{post_of}
use Rattle.transport.specs.Pieces.{packet_count, packet, pieces, first_piece}
use Rattle.transport.specs.Cutting.{take-append-ge, get_or-first_pieces}

drop_take_fill : (w : ℕ) → w ≤ 7 → drop {A = ℕ} w (replicate 7 255) ≡ take {A = ℕ} (7 - w) (replicate 7 255)
drop_take_fill zero h = refl
drop_take_fill (suc zero) h = refl
drop_take_fill (suc (suc zero)) h = refl
drop_take_fill (suc (suc (suc zero))) h = refl
drop_take_fill (suc (suc (suc (suc zero)))) h = refl
drop_take_fill (suc (suc (suc (suc (suc zero))))) h = refl
drop_take_fill (suc (suc (suc (suc (suc (suc zero)))))) h = refl
drop_take_fill (suc (suc (suc (suc (suc (suc (suc w))))))) h =
    let e : w ≡ 0 = omega arith in
    rw e refl

-- bytes that are fewer than seven and FF after them are their first piece
filled : (xs : List ℕ) → length xs < 7 → xs ++ drop (length xs) (replicate 7 255) ≡ first_piece xs
filled xs short =
    let split : 7 ≡ length xs + (7 - length xs) = omega arith in
    let tail : drop (length xs) (replicate 7 255) ≡ take (7 - length xs) (replicate 7 255) = drop_take_fill (length xs) (omega arith) in
    let right : take 7 (xs ++ replicate 7 255) ≡ xs ++ take (7 - length xs) (replicate 7 255) = ap (λ k. take k (xs ++ replicate 7 255)) split ∙ take-append-ge (7 - length xs) xs (replicate 7 255) in
    rw tail (sym right)

-- what `filled_packet` writes
pub filled_bytes : (piece new : List ℕ) (number : ℕ) → length piece < 7 → new ≡ piece
    → number ∷ (new ++ post_of 1 (length piece + 1 - 1) (number ∷ replicate 7 255)) ≡ number ∷ first_piece piece
filled_bytes piece new number short same =
    let size : length piece + 1 - 1 ≡ length piece = omega arith in
    rw (same, size) (ap (λ (l : List ℕ). number ∷ l) (filled piece short))

-- the bytes of a packet behind its number are the piece of that number
pub piece_of_packet : (payload bytes : List ℕ) (number : ℕ) → 1 ≤ number → number ≤ packet_count (length payload) → bytes ≡ packet payload number
    → drop 1 bytes ≡ slice_index_or (pieces payload) (number - 1) []
piece_of_packet payload bytes number least most same =
    ap (drop 1) same ∙ sym (get_or-first_pieces (packet_count (length payload)) (number - 1) payload [] (omega arith))
