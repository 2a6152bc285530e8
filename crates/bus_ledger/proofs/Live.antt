-- The numbers of the live seats.
use Rattle.std.proofs.Common.{ℕ, suc, zero, ◌≡◌, ◌+◌, ◌<◌, ◌≤◌, Bool, cond, not, List, [], ◌∷◌, ◌++◌, map, length, get_or, set, true, false, refl, sym, ap, ◌∙◌, arith, ◌==◌, nat_eq, eq-eqb}
use Rattle.std.proofs.lemmas.Bool.{ne_eqb}
use Rattle.std.specs.List.{filter, count_by}
use Rattle.std.proofs.lemmas.List.Sums.{sum_by-cons}
use Rattle.bus_ledger.specs.BusValue.{SeatValue, SeatBook, book_at}
use Rattle.bus_ledger.specs.Inside.{seat_of, live_numbers}

-- a seat that stays as live as it was
pub live_set : (n : ℕ) (xs : List SeatBook) (k : ℕ) (y : SeatBook) → y.seat.live ≡ (book_at xs k).seat.live → live_numbers n (set xs k y) ≡ live_numbers n xs
live_set n [] k y e = refl
live_set n (x ∷ xs) zero y e = rw e refl
live_set n (x ∷ xs) (suc k) y e = ap (λ (l : List ℕ). cond x.seat.live (n ∷ l) l) (live_set (suc n) xs k y e)

-- a seat that is added
pub live_push : (n m : ℕ) (xs : List SeatBook) (y : SeatBook) → m ≡ n + length xs → y.seat.live ≡ true → live_numbers n (xs ++ y ∷ []) ≡ live_numbers n xs ++ m ∷ []
live_push n m [] y e live = rw live (let same : n ≡ m = omega arith in ap (λ (v : ℕ). v ∷ []) same)
live_push n m (x ∷ xs) y e live =
    let rest = live_push (suc n) m xs y (omega arith) live in
    let rest' : live_numbers (suc n) (xs ++ y ∷ []) ≡ live_numbers (suc n) xs ++ m ∷ [] = rest in
    elim x.seat.live as (λ v. cond v (n ∷ live_numbers (suc n) (xs ++ y ∷ [])) (live_numbers (suc n) (xs ++ y ∷ [])) ≡ cond v (n ∷ live_numbers (suc n) xs) (live_numbers (suc n) xs) ++ m ∷ [])
    [ true ↦ ap (λ (l : List ℕ). n ∷ l) rest' | false ↦ rest' ]

-- no number is below the first
live_low_at : (n : ℕ) (l : List ℕ) (v : Bool) (i : ℕ) → ((j : ℕ) → j < length l → n < get_or l j 0) → i < length (cond v (n ∷ l) l) → n ≤ get_or (cond v (n ∷ l) l) i 0
live_low_at n l true zero low h = omega arith
live_low_at n l true (suc i) low h = let g : n < get_or l i 0 = low i (omega arith) in omega arith
live_low_at n l false i low h = let g : n < get_or l i 0 = low i h in omega arith

pub live_low : (n : ℕ) (xs : List SeatBook) (i : ℕ) → i < length (live_numbers n xs) → n ≤ get_or (live_numbers n xs) i 0
live_low n [] i h = absurd (omega arith)
live_low n (x ∷ xs) i h = live_low_at n (live_numbers (suc n) xs) x.seat.live i (λ j g. let low = live_low (suc n) xs j g in omega arith) h

-- a number is that of a live seat
live_sound_at : (n : ℕ) (l : List ℕ) (x : SeatBook) (xs : List SeatBook) (v : Bool) (i k : ℕ) → x.seat.live ≡ v
    → ((j : ℕ) → j < length l → n < get_or l j 0)
    → ((j m : ℕ) → j < length l → get_or l j 0 ≡ suc n + m → (m < length xs) × ((book_at xs m).seat.live ≡ true))
    → i < length (cond v (n ∷ l) l) → get_or (cond v (n ∷ l) l) i 0 ≡ n + k → (k < length (x ∷ xs)) × ((book_at (x ∷ xs) k).seat.live ≡ true)
live_sound_at n l x xs true zero zero e low rest h is = (omega arith, e)
live_sound_at n l x xs true zero (suc k) e low rest h is = absurd (omega arith)
live_sound_at n l x xs true (suc i) zero e low rest h is = let g = low i (omega arith) in absurd (omega arith)
live_sound_at n l x xs true (suc i) (suc k) e low rest h is = let r = rest i k (omega arith) (omega arith) in (omega arith, r.1)
live_sound_at n l x xs false i zero e low rest h is = let g = low i h in absurd (omega arith)
live_sound_at n l x xs false i (suc k) e low rest h is = let r = rest i k h (omega arith) in (omega arith, r.1)

pub live_sound : (n : ℕ) (xs : List SeatBook) (i k : ℕ) → i < length (live_numbers n xs) → get_or (live_numbers n xs) i 0 ≡ n + k → (k < length xs) × ((book_at xs k).seat.live ≡ true)
live_sound n [] i k h is = absurd (omega arith)
live_sound n (x ∷ xs) i k h is =
    live_sound_at n (live_numbers (suc n) xs) x xs x.seat.live i k refl (λ j g. let low = live_low (suc n) xs j g in omega arith) (λ j m g e. live_sound (suc n) xs j m g e) h is

-- the numbers ascend
live_rises_at : (n : ℕ) (l : List ℕ) (v : Bool) (i j : ℕ)
    → ((j : ℕ) → j < length l → n < get_or l j 0)
    → ((i j : ℕ) → i ≤ j → j < length l → get_or l i 0 ≤ get_or l j 0)
    → i ≤ j → j < length (cond v (n ∷ l) l) → get_or (cond v (n ∷ l) l) i 0 ≤ get_or (cond v (n ∷ l) l) j 0
live_rises_at n l true zero zero low rest le h = omega arith
live_rises_at n l true zero (suc j) low rest le h = let g = low j (omega arith) in omega arith
live_rises_at n l true (suc i) zero low rest le h = absurd (omega arith)
live_rises_at n l true (suc i) (suc j) low rest le h = rest i j (omega arith) (omega arith)
live_rises_at n l false i j low rest le h = rest i j le h

pub live_rises : (n : ℕ) (xs : List SeatBook) (i j : ℕ) → i ≤ j → j < length (live_numbers n xs) → get_or (live_numbers n xs) i 0 ≤ get_or (live_numbers n xs) j 0
live_rises n [] i j le h = absurd (omega arith)
live_rises n (x ∷ xs) i j le h = live_rises_at n (live_numbers (suc n) xs) x.seat.live i j (λ j g. let low = live_low (suc n) xs j g in omega arith) (λ i j l g. live_rises (suc n) xs i j l g) le h

-- each live seat's number is there
pub record LiveAt (l : List ℕ) (m : ℕ) : Type 0 where
  pub index : ℕ
  pub within : index < length l
  pub is : get_or l index 0 ≡ m

later : (l : List ℕ) (n m : ℕ) (v : Bool) → LiveAt l m → LiveAt (cond v (n ∷ l) l) m
later l n m true a = record { index = suc a.index; within = (let w = a.within in omega arith); is = a.is }
later l n m false a = a

pub live_complete : (n : ℕ) (xs : List SeatBook) (k m : ℕ) → m ≡ n + k → (book_at xs k).seat.live ≡ true → LiveAt (live_numbers n xs) m
live_complete n [] k m e live = absurd cc
live_complete n (x ∷ xs) zero m e live = rw live (record { index = 0; within = omega arith; is = omega arith })
live_complete n (x ∷ xs) (suc k) m e live = later (live_numbers (suc n) xs) n m x.seat.live (live_complete (suc n) xs k m (omega arith) live)

-- there are as many as live seats
live_count_at : (n c : ℕ) (l : List ℕ) (v : Bool) → length l ≡ c → length (cond v (n ∷ l) l) ≡ cond v 1 0 + c
live_count_at n c l true e = omega arith
live_count_at n c l false e = omega arith

pub live_count : (n : ℕ) (xs : List SeatBook) → length (live_numbers n xs) ≡ count_by (λ (s : SeatValue). s.live) (map seat_of xs)
live_count n [] = refl
live_count n (x ∷ xs) =
    live_count_at n _ (live_numbers (suc n) xs) x.seat.live (live_count (suc n) xs)
    ∙ sym (sum_by-cons (λ (s : SeatValue). cond s.live 1 0) (seat_of x) (map seat_of xs))

-- a seat that is given up
abbrev other : ℕ → ℕ → Bool
other m j = not (j == m)

is_other : (m j : ℕ) → m < j → other m j ≡ true
is_other m j h = let f : nat_eq j m ≡ false = ne_eqb j m (λ e. omega arith) in rw f refl

is_same : (m j : ℕ) → j ≡ m → other m j ≡ false
is_same m j e = let f : nat_eq j m ≡ true = eq-eqb j m e in rw f refl

is_other_below : (m j : ℕ) → j < m → other m j ≡ true
is_other_below m j h = let f : nat_eq j m ≡ false = ne_eqb j m (λ e. omega arith) in rw f refl

keeps_above : (m n : ℕ) (xs : List SeatBook) → m < n → filter (other m) (live_numbers n xs) ≡ live_numbers n xs
keeps_above m n [] h = refl
keeps_above m n (x ∷ xs) h =
    let rest = keeps_above m (suc n) xs (omega arith) in
    let o = is_other m n h in
    elim x.seat.live as (λ v. filter (other m) (cond v (n ∷ live_numbers (suc n) xs) (live_numbers (suc n) xs)) ≡ cond v (n ∷ live_numbers (suc n) xs) (live_numbers (suc n) xs))
    [ true ↦ rw o (ap (λ (l : List ℕ). n ∷ l) rest) | false ↦ rest ]

pub live_left : (n : ℕ) (xs : List SeatBook) (k m : ℕ) (y : SeatBook) → m ≡ n + k → k < length xs → y.seat.live ≡ false → live_numbers n (set xs k y) ≡ filter (other m) (live_numbers n xs)
live_left n [] k m y e in' gone = absurd (omega arith)
live_left n (x ∷ xs) zero m y e in' gone =
    let rest = keeps_above m (suc n) xs (omega arith) in
    let s = is_same m n (omega arith) in
    rw gone (elim x.seat.live as (λ v. live_numbers (suc n) xs ≡ filter (other m) (cond v (n ∷ live_numbers (suc n) xs) (live_numbers (suc n) xs)))
    [ true ↦ rw s (sym rest) | false ↦ sym rest ])
live_left n (x ∷ xs) (suc k) m y e in' gone =
    let rest = live_left (suc n) xs k m y (omega arith) (omega arith) gone in
    let o = is_other_below m n (omega arith) in
    elim x.seat.live as (λ v. cond v (n ∷ live_numbers (suc n) (set xs k y)) (live_numbers (suc n) (set xs k y)) ≡ filter (other m) (cond v (n ∷ live_numbers (suc n) xs) (live_numbers (suc n) xs)))
    [ true ↦ rw o (ap (λ (l : List ℕ). n ∷ l) rest) | false ↦ rest ]
