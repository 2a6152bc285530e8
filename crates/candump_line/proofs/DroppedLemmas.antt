-- The words of a line that tells of dropped frames.
use Rattle.std.proofs.Common.{◌≡◌, ℕ, ◌^◌, ◌<◌, ◌≤◌, List, [], ◌∷◌, ◌++◌, length, drop, Option, Some, None, Bor, MatchOption, option_map, arith, refl, ap, sym, ◌∙◌}
use Rattle.std.specs.Prelude.{codes, ◌≢◌}
use Rattle.std.specs.Fmt.{decimal}
use Rattle.std.specs.Str.Parse.{IsNumeral, digits_value}
use Rattle.std.proofs.lemmas.Fmt.{decimal_is_IsNumeral}
use Rattle.std.proofs.lemmas.List.{length-append}
use Rattle.candump_line.specs.Forms.{TellsDropped}
use Rattle.candump_line.specs.Words.{front_word}
use Rattle.candump_line.proofs.WordLemmas.{cons_same, first_of}

pub next_left : (left rest : List (List ℕ)) (r : Option (Bor (List ℕ))) → MatchOption r ((left ≡ []) × (rest ≡ [])) (λ word. left ≡ word.now ∷ rest) → rest ≡ drop 1 left
next_left left rest r h = (first_of left rest r h).1

-- the count is the second word behind the mark, the bus the sixth
pub dropped_parts : (left : List (List ℕ)) (bus : List ℕ) (count : ℕ) → TellsDropped (codes "DROPCOUNT:" ∷ left) bus count
    → (front_word (drop 1 left) ≡ decimal count) × (front_word (drop 1 (drop 1 (drop 1 (drop 1 (drop 1 left))))) ≡ 39 ∷ (bus ++ 39 ∷ []))
dropped_parts left bus count h =
    let same = (cons_same (codes "DROPCOUNT:") (codes "DROPCOUNT:") left (codes "dropped" ∷ decimal count ∷ codes "CAN" ∷ h.frames ∷ codes "on" ∷ (39 ∷ (bus ++ 39 ∷ [])) ∷ h.more) h.laid).1 in
    (ap (λ ws. front_word (drop 1 ws)) same, ap (λ ws. front_word (drop 1 (drop 1 (drop 1 (drop 1 (drop 1 ws)))))) same)

pub count_told : (text word : List ℕ) (n count : ℕ) → text ≡ word → word ≡ decimal count → (IsNumeral 10 text → digits_value 10 text < 2 ^ 32 → n ≡ digits_value 10 text) → count < 2 ^ 32 → n ≡ count
count_told text word n count e is told small =
    let numeral = decimal_is_IsNumeral count (omega (arith, small)) in
    let same : text ≡ decimal count = e ∙ is in
    let reads = rw same at told in
    reads numeral.0 (omega (arith, numeral.1, small)) ∙ numeral.1

same_push : (xs ys : List ℕ) (c : ℕ) → xs ++ c ∷ [] ≡ ys ++ c ∷ [] → xs ≡ ys
same_push [] [] c e = refl
same_push [] (y ∷ ys) c e = absurd (omega (arith, ap length e, length-append ys (c ∷ [])))
same_push (x ∷ xs) [] c e = absurd (omega (arith, ap length e, length-append xs (c ∷ [])))
same_push (x ∷ xs) (y ∷ ys) c e =
    let same = cons_same x y (xs ++ c ∷ []) (ys ++ c ∷ []) e in
    ap (λ t. t ∷ xs) same.0 ∙ ap (λ t. y ∷ t) (same_push xs ys c same.1)

pub name_cut : (text name : List ℕ) (r : Option (Bor (List ℕ))) → MatchOption r ((front : List ℕ) → text ≢ front ++ (39 ∷ [])) (λ x. text ≡ x.now ++ (39 ∷ [])) → text ≡ name ++ 39 ∷ []
    → MatchOption r ⊥ (λ inner. inner.now ≡ name)
name_cut text name None h e = h name e
name_cut text name (Some x) h e = same_push x.now name 39 (sym h ∙ e)

pub pair_told : (r : Option (Bor (List ℕ))) (n count : ℕ) (bus : List ℕ) → MatchOption r ⊥ (λ inner. inner.now ≡ bus) → n ≡ count
    → ◌≡◌ {A = Option (Option (List ℕ) × ℕ)} (Some (option_map (λ b. b.now) r, n)) (Some (Some bus, count))
pair_told None n count bus h e = absurd h
pair_told (Some x) n count bus h e = rw (h, e) refl
