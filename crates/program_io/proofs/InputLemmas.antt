-- What was read of an input by a reader that gives no more than so many bytes.
use Rattle.std.proofs.Common.{◌≡◌, ◌+◌, ◌<◌, ◌≤◌, ℕ, List, [], ◌++◌, length, take, Option, Some, None, IfSome, option_map, ap, subst, ◌∙◌, arith, ⊎_elim}
use Rattle.std.proofs.lemmas.Bool.{cases_lt}
use Rattle.std.proofs.lemmas.List.{length-take-le, take_all}

-- read into an empty vector, it is the input's first bytes
first_known : (known : Option (List ℕ)) (n : ℕ) (old new : List ℕ) → old ≡ []
    → IfSome (option_map (take n) known) (λ xs. new ≡ old ++ xs) → IfSome known (λ input. new ≡ take n input)
first_known None n old new e h = tt
first_known (Some xs) n old new e h = h ∙ ap (λ o. o ++ take n xs) e

pub first_bytes : {X : Type 0} (remaining : X → Option (List ℕ)) (x y : X) (m n : ℕ) (old new : List ℕ) → x ≡ y → m ≡ n → old ≡ []
    → IfSome (option_map (take m) (remaining x)) (λ xs. new ≡ old ++ xs) → IfSome (remaining y) (λ input. new ≡ take n input)
first_bytes remaining x y m n old new reader most empty h =
    let P : ℕ → Type 0 = λ k. IfSome (remaining y) (λ input. new ≡ take k input) in
    let Q : _ → Type 0 = λ z. IfSome (remaining z) (λ input. new ≡ take m input) in
    subst P most (subst Q reader (first_known (remaining x) m old new empty h))

fewer : (n : ℕ) (xs : List ℕ) → length (take (n + 1) xs) ≤ n → length xs ≤ n + 1
fewer n xs h = ⊎_elim (λ past. absurd (more past)) (λ small. small) (cases_lt (n + 1) (length xs))
  where
    more : n + 1 < length xs → ⊥
    more past = let all : length (take (n + 1) xs) ≡ n + 1 = length-take-le (n + 1) xs (omega arith) in omega arith

-- fewer bytes than it may give are all of the input
pub all_bytes : (known : Option (List ℕ)) (n : ℕ) (items : List ℕ) → IfSome known (λ input. items ≡ take (n + 1) input) → length items ≤ n
    → IfSome known (λ bytes. items ≡ bytes)
all_bytes None n items h small = tt
all_bytes (Some xs) n items h small =
    let few : length (take (n + 1) xs) ≤ n = subst (λ ys. length ys ≤ n) h small in h ∙ take_all (n + 1) xs (fewer n xs few)

-- where it gave more, the input has more
pub more_bytes : (known : Option (List ℕ)) (n : ℕ) (items : List ℕ) → IfSome known (λ input. items ≡ take (n + 1) input) → n < length items
    → IfSome known (λ bytes. n < length bytes)
more_bytes None n items h many = tt
more_bytes (Some xs) n items h many = ⊎_elim (λ past. past) (λ small. absurd (none small)) (cases_lt n (length xs))
  where
    none : length xs ≤ n → ⊥
    none small =
        let same : items ≡ xs = h ∙ take_all (n + 1) xs (omega arith) in
        let far : n < length xs = subst (λ ys. n < length ys) same many in omega arith
