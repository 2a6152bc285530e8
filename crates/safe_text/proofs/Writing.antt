-- A text is written byte by byte.
use Rattle.std.proofs.Common.{◌≡◌, ℕ, List, [], ◌∷◌, ◌++◌, Option, Some, None, length, arith, refl, sym, ap, ◌∙◌, append_assoc}
use Rattle.std.specs.Prelude.{slice_index_or}
use Rattle.std.proofs.lemmas.List.{append-nil}
use Rattle.std.specs.Io.KnownBytes.{Appends, Keeps, append_known}
use Rattle.safe_text.specs.Escape.{stands_at, escaped, escaped_behind}

-- nothing is written yet
pub begun : (a : Option (List ℕ)) (text : List ℕ) → Keeps (append_known a (escaped text)) (append_known a (escaped_behind 0 0 text))
begun None text = tt
begun (Some a) text = refl

-- a byte more
pub byte_more : (a b c : Option (List ℕ)) (whole rest : List ℕ) (before last byte : ℕ)
    → Keeps (append_known a whole) (append_known b (escaped_behind before last (byte ∷ rest)))
    → Appends b c (stands_at before last byte (slice_index_or rest 0 0) (slice_index_or rest 1 0))
    → Keeps (append_known a whole) (append_known c (escaped_behind last byte rest))
unfolding escaped_behind
byte_more None b c whole rest before last byte h k = tt
byte_more (Some a) None c whole rest before last byte h k = absurd h
byte_more (Some a) (Some b) None whole rest before last byte h k = absurd k
byte_more (Some a) (Some b) (Some c) whole rest before last byte h k =
    let behind = escaped_behind last byte rest in
    let here = stands_at before last byte (slice_index_or rest 0 0) (slice_index_or rest 1 0) in
    ap (λ l. l ++ behind) k ∙ append_assoc b here behind ∙ h

-- all is written
pub all_written : (a b : Option (List ℕ)) (text whole rest : List ℕ) (before last : ℕ) → whole ≡ text → length rest ≡ 0
    → Keeps (append_known a (escaped whole)) (append_known b (escaped_behind before last rest)) → Appends a b (escaped text)
unfolding escaped_behind
all_written None b text whole rest before last e n h = tt
all_written (Some a) None text whole rest before last e n h = absurd h
all_written (Some a) (Some b) text whole [] before last e n h = sym (append-nil b) ∙ h ∙ ap (λ t. a ++ escaped t) e
all_written (Some a) (Some b) text whole (x ∷ xs) before last e n h = absurd (omega (arith, n))
