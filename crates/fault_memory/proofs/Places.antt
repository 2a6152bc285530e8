use Rattle.std.proofs.Common.{◌≡◌, ℕ, zero, suc, ◌<◌, ◌≤◌, inl, inr, Bool, true, false, not, ◌||◌, cond, ltb, List, [], ◌∷◌, ◌++◌, length, get_or, Some, None, arith, refl, sym, ◌∙◌, ap}
use Rattle.std.specs.List.{filter, find, list_any, position, position_or_len, remove, slice_get, IsDistinct}
use Rattle.std.specs.Option.{is_some}
use Rattle.std.proofs.lemmas.Bool.{cases_order, lt-ltb, le-ltb, ltb-true, ltb-false}
use Rattle.std.proofs.lemmas.List.Folds.{find_at, list_any-append}
use Rattle.std.proofs.lemmas.List.Quantifiers.{position-Some}
use Rattle.std.proofs.lemmas.Map.Keys.{apart_from_distinct}
use Rattle.std.proofs.lemmas.Option.{slice_get-get_or, slice_get_past, slice_get_cases}
use Rattle.trouble_code.specs.Code.{Code, code, same_fault}
use Rattle.fault_memory.specs.Changes.{is_fault, without}
use Rattle.fault_memory.proofs.Lawful.{same_fault-flips, same_fault_is_equivalence}

-- ---- a place that `position` found, or none

some_if : (b : Bool) (n i : ℕ) → cond b (Some n) None ≡ Some i → (b ≡ true) × (n ≡ i)
some_if true n i h = (refl, (cc))
some_if false n i h = cc

none_if : (b : Bool) (n : ℕ) → cond b (Some n) None ≡ None → b ≡ false
none_if true n h = cc
none_if false n h = refl

pub place_within : (p : Code → Bool) (xs : List Code) (i : ℕ) → position p xs ≡ Some i → i < length xs
place_within p xs i h =
    let w = some_if (ltb (position_or_len p xs) (length xs)) (position_or_len p xs) i h in
    let lt : position_or_len p xs < length xs = ltb-true _ _ w.0 in
    omega (arith, w.1)

pub find_from_place : (p : Code → Bool) (xs : List Code) (i : ℕ) (x : Code) → position p xs ≡ Some i → x ≡ get_or xs i x → find p xs ≡ Some x
find_from_place p xs i x h e =
    let w = some_if (ltb (position_or_len p xs) (length xs)) (position_or_len p xs) i h in
    let there : slice_get xs i ≡ Some (get_or xs i x) = slice_get-get_or xs i x (place_within p xs i h) in
    find_at p xs ∙ ap (slice_get xs) w.1 ∙ there ∙ ap (λ y. Some y) (sym e)

pub find_from_no_place : (p : Code → Bool) (xs : List Code) → position p xs ≡ None → find p xs ≡ None
find_from_no_place p xs h =
    let past : length xs ≤ position_or_len p xs = ltb-false _ _ (none_if _ _ h) in
    find_at p xs ∙ slice_get_past xs (position_or_len p xs) past

-- some code passes exactly where one is found
any_from_find : (p : Code → Bool) (xs : List Code) → list_any p xs ≡ is_some (find p xs)
any_from_find p [] = refl
any_from_find p (x ∷ xs) = any_at (p x) (any_from_find p xs)
  where
    any_at : (b : Bool) → list_any p xs ≡ is_some (find p xs) → (b || list_any p xs) ≡ is_some (cond b (Some x) (find p xs))
    any_at true h = refl
    any_at false h = h

is_some_if : (b : Bool) (n : ℕ) → is_some (cond b (Some n) None) ≡ b
is_some_if true n = refl
is_some_if false n = refl

-- as `position` tells it
pub any_from_position : (p : Code → Bool) (xs : List Code) → list_any p xs ≡ is_some (position p xs)
any_from_position p xs =
    let n : ℕ = position_or_len p xs in
    elim (slice_get_cases xs n).1 [
      | inl w ↦
          let within : n < length xs = w.1 in
          rw (any_from_find p xs, find_at p xs, w.2, is_some_if (ltb n (length xs)) n, lt-ltb n (length xs) within) refl
      | inr w ↦
          let past : length xs ≤ n = w.0 in
          rw (any_from_find p xs, find_at p xs, w.1, is_some_if (ltb n (length xs)) n, le-ltb n (length xs) past) refl
    ]

pub any_from_place : (p : Code → Bool) (xs : List Code) (i : ℕ) → position p xs ≡ Some i → list_any p xs ≡ true
any_from_place p xs i h = rw (any_from_position p xs, h) refl

pub none_from_no_place : (p : Code → Bool) (xs : List Code) → position p xs ≡ None → list_any p xs ≡ false
none_from_no_place p xs h = rw (any_from_position p xs, h) refl

-- the three lists of a memory
pub none_of_three : (p : Code → Bool) (a b c : List Code) → list_any p a ≡ false → position p b ≡ None → position p c ≡ None → list_any p (a ++ (b ++ c)) ≡ false
none_of_three p a b c ha hb hc =
    rw (list_any-append p a (b ++ c), list_any-append p b c, ha, none_from_no_place p b hb, none_from_no_place p c hc) refl

-- ---- the list without the code that was found

-- no other code of a list whose codes are apart is of the same fault
others_differ : (spn fmi : ℕ) (xs : List Code) (i k : ℕ) (d : Code) → IsDistinct same_fault xs → i < length xs → is_fault spn fmi (get_or xs i d) ≡ true → k < length xs → (i ≡ k → ⊥) → is_fault spn fmi (get_or xs k d) ≡ false
others_differ spn fmi xs i k d apart li found lk ne =
    let c : Code = get_or xs i d in
    let e : Code = get_or xs k d in
    let differ : same_fault c e ≡ false = (elim (cases_order i k) [
      | inl same ↦ absurd (ne same)
      | inr w ↦
          elim w [
            | inl lt ↦ apart_from_distinct same_fault xs i k d apart lt lk
            | inr gt ↦ same_fault-flips c e ∙ apart_from_distinct same_fault xs k i d apart gt li
          ]
    ]) in
    let alike : same_fault (code spn fmi 0) e ≡ same_fault c e = same_fault_is_equivalence.congr (code spn fmi 0) c e found in
    alike ∙ differ

all_stay : (p : Code → Bool) (xs : List Code) → ((k : ℕ) (d : Code) → k < length xs → p (get_or xs k d) ≡ false) → filter (λ c. not (p c)) xs ≡ xs
all_stay p [] h = refl
all_stay p (x ∷ xs) h =
    let here : p x ≡ false = h 0 x (omega arith) in
    rw (here, all_stay p xs (λ k d lt. h (suc k) d (omega arith))) refl

one_goes : (p : Code → Bool) (xs : List Code) (i : ℕ) → i < length xs → ((d : Code) → p (get_or xs i d) ≡ true) → ((k : ℕ) (d : Code) → k < length xs → (i ≡ k → ⊥) → p (get_or xs k d) ≡ false) → filter (λ c. not (p c)) xs ≡ remove xs i
one_goes p [] i lt found others = absurd (omega arith)
one_goes p (x ∷ xs) zero lt found others =
    let here : p x ≡ true = found x in
    rw (here, all_stay p xs (λ k d l. others (suc k) d (omega arith) (λ e. omega arith))) refl
one_goes p (x ∷ xs) (suc i) lt found others =
    let here : p x ≡ false = others 0 x (omega arith) (λ e. omega arith) in
    rw (here, one_goes p xs i (omega arith) found (λ k d l ne. others (suc k) d (omega arith) (λ e. ne (omega arith)))) refl

-- the place found is that of the one code that goes
pub without_from_place : (spn fmi : ℕ) (xs : List Code) (i : ℕ) → IsDistinct same_fault xs → position (is_fault spn fmi) xs ≡ Some i → without spn fmi xs ≡ remove xs i
without_from_place spn fmi xs i apart h =
    let lt : i < length xs = place_within (is_fault spn fmi) xs i h in
    let found : ((d : Code) → is_fault spn fmi (get_or xs i d) ≡ true) = λ d. (position-Some (is_fault spn fmi) xs i d h).1 in
    one_goes (is_fault spn fmi) xs i lt found (λ k d lk ne. others_differ spn fmi xs i k d apart lt (found d) lk ne)
