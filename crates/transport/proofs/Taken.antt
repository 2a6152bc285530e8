-- A piece that was taken, by its number.
use Rattle.std.proofs.Common.{◌≡◌, ℕ, zero, suc, ◌-◌, ◌*◌, ◌/◌, ◌<◌, ◌≤◌, Bool, true, false, List, [], length, take, drop, arith, refl, sym, ap, ◌∙◌, length-drop}
use Rattle.std.specs.Prelude.{bytes_eq, slice_index_or, slice_range}
use Rattle.std.proofs.lemmas.List.{drop-drop}
use Rattle.transport.specs.Cutting.{first_piece-full}
use Rattle.std.proofs.lemmas.Bool.Decides.{nat_tests}
use Rattle.std.specs.Prelude.{Option, Some, None, nat_le, ◌&&◌, if◌then◌else◌}
use Rattle.transport.specs.Assembling.{has_piece}
use Rattle.transport.proofs.Steps.{length-pieces}
use Rattle.transport.specs.Pieces.{packet_count, first_pieces, pieces}

-- the piece at a place of as many full ones
piece_at : (count place : ℕ) (bytes : List ℕ) → length bytes ≡ 7 * count → place < count → slice_index_or (first_pieces count bytes) place [] ≡ take 7 (drop (7 * place) bytes)
piece_at zero place bytes whole below = absurd (omega arith)
piece_at (suc count) zero bytes whole below = first_piece-full bytes (omega arith)
piece_at (suc count) (suc place) bytes whole below =
    piece_at count place (drop 7 bytes) (omega (arith, length-drop 7 bytes)) (omega arith) ∙ ap (take 7) (drop-drop (7 * place) 7 bytes ∙ ap (λ (n : ℕ). drop n bytes) (omega arith))

pub piece_there : (bytes piece : List ℕ) (number : ℕ) → length bytes ≡ 7 * packet_count (length bytes) → 0 < number → 7 * number ≤ length bytes
    → bytes_eq (slice_range bytes (7 * number - 7) (7 * number)) piece ≡ has_piece (Some (pieces bytes)) number piece
piece_there bytes piece zero whole some there = absurd (omega arith)
piece_there bytes piece (suc place) whole some there =
    let seven : 7 * suc place - (7 * suc place - 7) ≡ 7 = omega arith in
    let start : 7 * suc place - 7 ≡ 7 * place = omega arith in
    let below : place < packet_count (length bytes) = omega arith in
    let same : place ≡ suc place - 1 = omega arith in
    let is : slice_range bytes (7 * suc place - 7) (7 * suc place) ≡ slice_index_or (pieces bytes) (suc place - 1) [] =
    ap (λ (n : ℕ). take n (drop (7 * suc place - 7) bytes)) seven ∙ (ap (λ (n : ℕ). take 7 (drop n bytes)) start
    ∙ (sym (piece_at (packet_count (length bytes)) place bytes whole below) ∙ ap (λ (n : ℕ). slice_index_or (pieces bytes) n []) same)) in
    let low : nat_le 1 (suc place) ≡ true = grind (arith, nat_tests) in
    let high : nat_le (suc place) (length (pieces bytes)) ≡ true = grind (arith, nat_tests, length-pieces bytes) in
    rw (is, low, high) refl

and_false : (b : Bool) → (b && false) ≡ false
and_false true = refl
and_false false = refl

pub none_there : (bytes piece : List ℕ) (number : ℕ) → length bytes ≡ 7 * packet_count (length bytes) → length bytes < 7 * number
    → false ≡ has_piece (Some (pieces bytes)) number piece
none_there bytes piece number whole past =
    let high : nat_le number (length (pieces bytes)) ≡ false = grind (arith, nat_tests, length-pieces bytes) in
    rw (high) (sym (and_false (nat_le 1 number)))

pub none_at_zero : (bytes piece : List ℕ) (number : ℕ) → number ≡ 0 → false ≡ has_piece (Some (pieces bytes)) number piece
none_at_zero bytes piece number e = rw (e) refl

-- how many pieces were taken
pub count_taken : (broken : Bool) (len : ℕ) (bytes : List ℕ) (taken : Option (List (List ℕ))) → len ≡ length bytes → len ≡ 7 * packet_count len → (if broken then None else Some (pieces bytes)) ≡ taken
    → (parts : List (List ℕ)) → taken ≡ Some parts → len / 7 ≡ length parts
count_taken true len bytes taken same whole is parts e = absurd cc
count_taken false len bytes taken same whole is parts e =
    let parts_are : pieces bytes ≡ parts = cc in
    omega (arith, length-pieces bytes, ap length parts_are)
