-- Where a frame stands among those that were written.
use Rattle.std.proofs.Common.{◌≡◌, ◌≢◌, ℕ, ◌+◌, ◌-◌, ◌<◌, Bool, true, ◌&&◌, nat_eq, List, [], ◌∷◌, ◌++◌, Some, length, replicate, get_or, slice_get, arith, refl, sym, ap, ◌∙◌}
use Rattle.std.proofs.lemmas.Bool.{and_parts, eqb-true}
use Rattle.std.proofs.lemmas.Option.{slice_get_read}
use Rattle.std.specs.Cmp.Lexicographic.{pointwise, same_text}
use Rattle.can_frame.specs.FrameValue.{FrameValue}
use borrow.Author.Count.{below_more}

pub stands_at : (items : List FrameValue) (n place : ℕ) (x f : FrameValue) → n ≡ length items → place < n → x ≡ get_or items place x → x ≡ f
    → slice_get items place ≡ Some f
stands_at items n place x f e l at same = slice_get_read items n place x e l at ∙ ap (λ (y : FrameValue). Some y) same

pub stands_nowhere : (items : List FrameValue) (n place : ℕ) (x f : FrameValue) → n ≡ length items → place < n → x ≡ get_or items place x → x ≢ f
    → ((k : ℕ) → k < place → slice_get items k ≢ Some f) → (k : ℕ) → k < place + 1 → slice_get items k ≢ Some f
stands_nowhere items n place x f e l at other before =
    let here : slice_get items place ≢ Some f = λ same. other (let read : Some x ≡ Some f = sym (slice_get_read items n place x e l at) ∙ same in cc) in
    below_more (λ k. slice_get items k ≢ Some f) place before here

-- ---- frames that are the same

cut : (xs ys p q : List ℕ) → length xs ≡ length ys → xs ++ p ≡ ys ++ q → xs ≡ ys
cut [] [] p q l e = refl
cut [] (y ∷ ys) p q l e = absurd (omega arith)
cut (x ∷ xs) [] p q l e = absurd (omega arith)
cut (x ∷ xs) (y ∷ ys) p q l e =
    let first : x ≡ y = cc in
    let rest : xs ++ p ≡ ys ++ q = cc in
    let more : xs ≡ ys = cut xs ys p q (omega arith) rest in
    rw (first, more) refl

same_parts : (f g : FrameValue) → f.id ≡ g.id → f.bytes ≡ g.bytes → f ≡ g
same_parts f g e b = λ i. record { id = e i; bytes = b i }

pub same_frame : (f g : FrameValue)
    → (nat_eq f.id g.id && (pointwise nat_eq (f.bytes ++ replicate (8 - length f.bytes) 0) (g.bytes ++ replicate (8 - length g.bytes) 0) && nat_eq (length f.bytes) (length g.bytes))) ≡ true
    → f ≡ g
same_frame f g e =
    let one : (nat_eq f.id g.id ≡ true) × (_ ≡ true) = and_parts (nat_eq f.id g.id) _ e in
    let two : (pointwise nat_eq (f.bytes ++ replicate (8 - length f.bytes) 0) (g.bytes ++ replicate (8 - length g.bytes) 0) ≡ true) × (nat_eq (length f.bytes) (length g.bytes) ≡ true) =
    and_parts _ _ one.1 in
    same_parts f g (eqb-true f.id g.id one.0)
    (cut f.bytes g.bytes _ _ (eqb-true (length f.bytes) (length g.bytes) two.1) (same_text _ _ (sym two.0)))
