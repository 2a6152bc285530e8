-- Texts that are split at a slash.
use Rattle.std.proofs.Common.{ℕ, ◌≡◌, List, ◌∷◌, ◌++◌, Option, Some, None, IfSome, Bor, arith}
use Rattle.std.proofs.lemmas.Str.Pattern.{IsSplitOnceResult, split_parts}

pub split_around : (text : List ℕ) (r : Option (Bor (List ℕ) × Bor (List ℕ))) → IsSplitOnceResult 47 text r → IfSome r (λ x. text ≡ x.0.now ++ 47 ∷ x.1.now)
split_around text None h = tt
split_around text (Some x) h = (split_parts 47 text (Some x) h (omega arith)).0
