-- Writes one after the other.
use Rattle.std.proofs.Common.{◌≡◌, ℕ, ◌+◌, ◌<◌, List, [], ◌∷◌, ◌++◌, Option, Some, None, length, take, get_or, arith, sym, ap, rules, ◌∙◌, append_assoc}
use Rattle.std.proofs.lemmas.List.{append-nil, take_all, take_more}
use Rattle.std.proofs.lemmas.List.Concat.{flat_map-append}
use Rattle.std.specs.List.{flat_map}
use Rattle.std.specs.Io.KnownBytes.{Appends}
use Rattle.garage.specs.declared.snapshot.RowLine.{RowLine}
use Rattle.report.specs.Text.{row_text}

pub appends_more : (a b c : Option (List ℕ)) (xs ys : List ℕ) → Appends a b xs → Appends b c ys → Appends a c (xs ++ ys)
appends_more None b c xs ys h k = search rules
appends_more (Some a) None c xs ys h k = absurd h
appends_more (Some a) (Some b) None xs ys h k = absurd k
appends_more (Some a) (Some b) (Some c) xs ys h k = k ∙ ap (λ l. l ++ ys) h ∙ append_assoc a xs ys

-- nothing was written yet
pub nothing_yet : (a : Option (List ℕ)) → Appends a a []
nothing_yet None = search rules
nothing_yet (Some a) = sym (append-nil a)

-- six writes in a row
pub appends_six : (a b c d e f g : Option (List ℕ)) (t u v w x y whole : List ℕ)
    → Appends a b t → Appends b c u → Appends c d v → Appends d e w → Appends e f x → Appends f g y
    → t ++ (u ++ (v ++ (w ++ (x ++ y)))) ≡ whole → Appends a g whole
appends_six a b c d e f g t u v w x y whole h i j k l m is =
    rw (← is) (appends_more a b g t _ h (appends_more b c g u _ i (appends_more c d g v _ j (appends_more d e g w _ k (appends_more e f g x y l m)))))

-- the columns of a line, in the order in which they are written
pub columns : (n a d e f w s z : List ℕ)
    → (n ++ s) ++ ((a ++ s) ++ ((d ++ s) ++ ((e ++ s) ++ ((f ++ s) ++ (w ++ z))))) ≡ n ++ s ++ a ++ s ++ d ++ s ++ e ++ s ++ f ++ s ++ w ++ z
columns n a d e f w s z = simp append_assoc

-- the lamps, then the number of codes and the line's end
pub lamps_then_codes : (a b c : Option (List ℕ)) (xs ys zs : List ℕ) → Appends a b xs → Appends b c (ys ++ zs) → Appends a c ((xs ++ ys) ++ zs)
lamps_then_codes a b c xs ys zs h k = rw (append_assoc xs ys zs) (appends_more a b c xs (ys ++ zs) h k)

-- one line more
pub row_more : (a b c : Option (List ℕ)) (rows : List RowLine) (i : ℕ) (row : RowLine) → i < length rows → row ≡ get_or rows i row
    → Appends a b (flat_map row_text (take i rows)) → Appends b c (row_text row) → Appends a c (flat_map row_text (take (i + 1) rows))
row_more a b c rows i row l is h k =
    let here : take (i + 1) rows ≡ take i rows ++ row ∷ [] = take_more rows i row l ∙ ap (λ y. take i rows ++ y ∷ []) (sym is) in
    let one : flat_map row_text (row ∷ []) ≡ row_text row = append-nil (row_text row) in
    rw (here, flat_map-append row_text (take i rows) (row ∷ []), one) (appends_more a b c _ _ h k)

-- all lines, and the last one
pub total_last : (a b c : Option (List ℕ)) (rows : List RowLine) (n : ℕ) (total : List ℕ) → n ≡ length rows → Appends a b (flat_map row_text (take n rows)) → Appends b c total
    → Appends a c (flat_map row_text rows ++ total)
total_last a b c rows n total e h k = appends_more a b c _ total (rw (← take_whole rows n e) h) k
  where
    take_whole : (rows : List RowLine) (n : ℕ) → n ≡ length rows → take n rows ≡ rows
    take_whole rows n e = take_all n rows (omega (arith, e))
