-- Frames that were written as the lines of a log, one after another.
use Rattle.std.proofs.Common.{◌≡◌, ℕ, suc, zero, ◌+◌, ◌*◌, ◌-◌, ◌^◌, ◌<◌, ◌≤◌, ◌∙◌, List, [], ◌∷◌, ◌++◌, Option, Some, None, length, map, take, slice_get, option_map, min, ap, arith, append_assoc, append-nil, refl, subst, sym}
use Rattle.std.specs.Io.KnownBytes.{Appends}
use Rattle.std.proofs.KnownBytes.{Appends-trans}
use Rattle.can_frame.specs.FrameValue.{FrameValue}
use Rattle.candump_line.specs.LineText.{line_text}
use Rattle.script_run.specs.Telling.{log_from}

-- one frame more
log_more : (bus : List ℕ) (period i : ℕ) (fs : List FrameValue) (f : FrameValue)
    → log_from bus period i (fs ++ f ∷ []) ≡ log_from bus period i fs ++ (line_text ((i + length fs) * period) bus f ++ 10 ∷ [])
unfolding log_from
log_more bus period i [] f =
    let at : i ≡ i + 0 = omega arith in append-nil _ ∙ ap (λ k. line_text (k * period) bus f ++ 10 ∷ []) at
log_more bus period i (x ∷ fs) f =
    let at : i + 1 + length fs ≡ i + suc (length fs) = omega arith in
    ap (λ t. (line_text (i * period) bus x ++ 10 ∷ []) ++ t) (log_more bus period (i + 1) fs f ∙ ap (λ k. log_from bus period (i + 1) fs ++ (line_text (k * period) bus f ++ 10 ∷ [])) at)
    ∙ sym (append_assoc (line_text (i * period) bus x ++ 10 ∷ []) (log_from bus period (i + 1) fs) (line_text ((i + suc (length fs)) * period) bus f ++ 10 ∷ []))

taken_more : {X : Type 0} (f : X → FrameValue) (xs : List X) (i : ℕ) (v : FrameValue) → option_map f (slice_get xs i) ≡ Some v → take (suc i) (map f xs) ≡ take i (map f xs) ++ v ∷ []
taken_more f [] i v is = absurd cc
taken_more f (x ∷ xs) zero v is = (let e : f x ≡ v = cc in ap (λ y. y ∷ []) e)
taken_more f (x ∷ xs) (suc i) v is = ap (λ ys. f x ∷ ys) (taken_more f xs i v is)

taken_length : {X : Type 0} (f : X → FrameValue) (xs : List X) (i : ℕ) (v : FrameValue) → option_map f (slice_get xs i) ≡ Some v → length (take i (map f xs)) ≡ i
taken_length f [] i v is = absurd cc
taken_length f (x ∷ xs) zero v is = refl
taken_length f (x ∷ xs) (suc i) v is = ap suc (taken_length f xs i v is)

pub logged_more : {X : Type 0} (f : X → FrameValue) (xs : List X) (bus : List ℕ) (period i time : ℕ) (v : FrameValue) (a b c : Option (List ℕ)) → option_map f (slice_get xs i) ≡ Some v
    → time ≡ min (i * period) (2 ^ 64 - 1) → time < 10 ^ 16 → Appends a b (log_from bus period 0 (take i (map f xs))) → Appends b c (line_text time bus v ++ 10 ∷ [])
    → Appends a c (log_from bus period 0 (take (i + 1) (map f xs)))
logged_more f xs bus period i time v a b c is at small h one =
    let plain : time ≡ i * period = omega arith in
    let long : length (take i (map f xs)) ≡ i = taken_length f xs i v is in
    let place : i ≡ 0 + length (take i (map f xs)) = omega arith in
    let next : suc i ≡ i + 1 = omega arith in
    let when : time ≡ (0 + length (take i (map f xs))) * period = plain ∙ ap (λ k. k * period) place in
    let text : log_from bus period 0 (take i (map f xs)) ++ (line_text time bus v ++ 10 ∷ []) ≡ log_from bus period 0 (take (i + 1) (map f xs)) =
    ap (λ k. log_from bus period 0 (take i (map f xs)) ++ (line_text k bus v ++ 10 ∷ [])) when ∙ sym (log_more bus period 0 (take i (map f xs)) v) ∙ ap (log_from bus period 0) (sym (taken_more f xs i v is)) ∙ ap (λ k. log_from bus period 0 (take k (map f xs))) next in
    subst (λ t. Appends a c t) text (Appends-trans a b c _ _ h one)

-- nothing stands behind the last one
pub logged_all : {X : Type 0} (f : X → FrameValue) (xs : List X) (i n : ℕ) → option_map f (slice_get xs i) ≡ None → i ≤ n → take i (map f xs) ≡ take n (map f xs)
logged_all f [] zero zero is l = refl
logged_all f [] zero (suc n) is l = refl
logged_all f [] (suc i) zero is l = refl
logged_all f [] (suc i) (suc n) is l = refl
logged_all f (x ∷ xs) zero n is l = absurd cc
logged_all f (x ∷ xs) (suc i) zero is l = absurd (omega arith)
logged_all f (x ∷ xs) (suc i) (suc n) is l = ap (λ ys. f x ∷ ys) (logged_all f xs i n is (omega arith))
