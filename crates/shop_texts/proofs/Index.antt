-- The most exact row is the last that gives what no row gives more of.
use Rattle.std.proofs.Common.{◌≡◌, ◌↔◌, ℕ, ◌+◌, ◌<◌, ◌≤◌, ◌&&◌, Bool, true, false, ◌*◌, cond, ltb, ltb-true, ltb-false, append_assoc, nat_eq, if◌then◌else◌, Option, None, Some, is_some, List, [], ◌∷◌, ◌++◌, length, refl, ap, ◌∙◌, arith}
use Rattle.std.proofs.lemmas.List.Elements.{All-nil, All-cons, All-push, All-weaker, All-head, All-tail}
use Rattle.std.specs.Prelude.{slice_index_or}
use Rattle.std.specs.HashMap.{HashMap, get, Updates}
use Rattle.std.specs.List.{All}
use Rattle.std.specs.Bool.{then_some}
use Rattle.std.specs.Option.{option_eq}
use Rattle.shop_texts.specs.Exact.{is_given_as, fits, exactness, NoneFits, IsPlaceOf}
use Rattle.shop_texts.specs.Index.{is_same, key_of_row, exactness_of, IsKeyOf, NoneGives, IsLastRow, IsIndexed}
use Rattle.shop_texts.specs.declared.unit_key.UnitKey.{UnitKey}
use Rattle.shop_texts.specs.declared.unit_row.UnitRow.{UnitRow}
use Rattle.name_field.specs.Fields.{fields_of}

-- where a row is for the unit, it is less exact than this
abbrev pub IsBelow : ℕ → ℕ → UnitRow → Type 0
IsBelow name limit row = fits row name ≡ true → exactness row < limit

bit_within : (t : Bool) (n : ℕ) → (if t then n else 0) ≤ n
bit_within true n = omega arith
bit_within false n = omega arith

pub at_most_31 : (rows : List UnitRow) (name : ℕ) → All (IsBelow name 32) rows
at_most_31 rows name = All-weaker (λ row. exactness row < 32) (IsBelow name 32) (λ row h yes. h) rows (each rows)
  where
    each : (rows : List UnitRow) → All (λ row. exactness row < 32) rows
    each [] = All-nil (λ row. exactness row < 32)
    each (row ∷ rows) = All-cons (λ row. exactness row < 32) row rows
        (omega (
          arith,
          bit_within (is_some row.name) 16,
          bit_within (is_some row.function) 8,
          bit_within (is_some row.industry_group) 4,
          bit_within (is_some row.vehicle_system) 2,
          bit_within (is_some row.manufacturer) 1,
        )) (each rows)

pub none_fits : (rows : List UnitRow) (name : ℕ) → All (IsBelow name 0) rows → NoneFits rows name
none_fits rows name h = All-weaker (IsBelow name 0) (λ row. fits row name ≡ false) (λ row below. no row below (fits row name) refl) rows h
  where
    no : (row : UnitRow) → IsBelow name 0 row → (t : Bool) → fits row name ≡ t → fits row name ≡ false
    no row below true e = let l = below e in absurd (omega (arith, l))
    no row below false e = e

less : (name exact : ℕ) (key : UnitKey) → IsKeyOf name exact key → (row : UnitRow) → IsBelow name (exact + 1) row → is_same (key_of_row row) key ≡ false → IsBelow name exact row
less name exact key is row below differs for_it = go (exactness row < exact) (ltb (exactness row) exact) refl
  where
    go : (A : Type 0) (t : Bool) → ltb (exactness row) exact ≡ t → exactness row < exact
    go A true e = ltb-true (exactness row) exact e
    go A false e =
        let at_least : exact ≤ exactness row = ltb-false (exactness row) exact e in
        let at_most = below for_it in
        let same : exactness row ≡ exact = omega (arith, at_least, at_most) in
        let gives : is_same (key_of_row row) key ≡ true = (is row).1 (for_it, same) in
        absurd cc

-- no row gives this, so none that is for the unit is so exact
pub passed : (rows : List UnitRow) (name exact : ℕ) (key : UnitKey) → IsKeyOf name exact key → All (IsBelow name (exact + 1)) rows → NoneGives key rows → All (IsBelow name exact) rows
passed rows name exact key is below none k d l = less name exact key is (slice_index_or rows k d) (below k d l) (none k d l)

front : {X : Type 0} (P : X → Type 0) (xs ys : List X) → All P (xs ++ ys) → All P xs
front P [] ys h = All-nil P
front P (x ∷ xs) ys h = All-cons P x xs (All-head P x (xs ++ ys) h) (front P xs ys (All-tail P x (xs ++ ys) h))

back : {X : Type 0} (P : X → Type 0) (xs ys : List X) → All P (xs ++ ys) → All P ys
back P [] ys h = h
back P (x ∷ xs) ys h = back P xs ys (All-tail P x (xs ++ ys) h)

-- the last row that gives this is the most exact, where none that is for the unit is more exact
pub found : (rows : List UnitRow) (name exact place : ℕ) (key : UnitKey) → IsKeyOf name exact key → All (IsBelow name (exact + 1)) rows → IsLastRow rows key (Some place) → IsPlaceOf rows name place
found rows name exact place key is below last =
    let before = last.0 in
    let row = last.1 in
    let behind = last.2 in
    let given = (is row).0 last.5 in
    let all : All (IsBelow name (exact + 1)) (before ++ row ∷ behind) = rw (← last.3) below in
    let earlier : All (IsBelow name (exact + 1)) before = front (IsBelow name (exact + 1)) before (row ∷ behind) all in
    let later : All (IsBelow name (exact + 1)) behind = All-tail (IsBelow name (exact + 1)) row behind (back (IsBelow name (exact + 1)) before (row ∷ behind) all) in (
      before,
      row,
      behind,
      record {
        parts = last.3;
        is_for = given.0;
        not_less = All-weaker (IsBelow name (exact + 1)) (λ other. fits other name ≡ true → exactness other ≤ exactness row) (λ other b yes. let l = b yes in omega (arith, l, given.1)) before earlier;
        more = (λ k d l yes. let m = passed behind name exact key is later last.6 k d l yes in omega (arith, m, given.1));
      },
      last.4,
    )

-- a row more
pub indexed_more : {S : Type 0} (rows : List UnitRow) (row : UnitRow) (old new : HashMap UnitKey ℕ S) → IsIndexed rows old → Updates is_same old new (key_of_row row) (Some (length rows))
    → IsIndexed (rows ++ row ∷ []) new
indexed_more rows row old new was updates key = rw (updates.0 key) (go (is_same (key_of_row row) key) refl (get is_same old key) (was key))
  where
    go : (t : Bool) → is_same (key_of_row row) key ≡ t → (o : Option ℕ) → IsLastRow rows key o → IsLastRow (rows ++ row ∷ []) key (cond t (Some (length rows)) o)
    go true e o h = (rows, row, [], refl, refl, e, All-nil (λ row. is_same (key_of_row row) key ≡ false))
    go false e None h = All-push (λ row. is_same (key_of_row row) key ≡ false) rows row h e
    go false e (Some place) h = (
      h.0,
      h.1,
      h.2 ++ row ∷ [],
      ap (λ l. l ++ row ∷ []) h.3 ∙ append_assoc h.0 (h.1 ∷ h.2) (row ∷ []),
      h.4,
      h.5,
      All-push (λ row. is_same (key_of_row row) key ≡ false) h.2 row h.6 e,
    )

-- a value is given, and as this number, exactly where its part of a key is the same
part : (t : Bool) (n : ℕ) (given : Option ℕ) → (option_eq nat_eq given (then_some t n) ≡ true) ↔ ((is_given_as given n ≡ true) × (is_some given ≡ t))
part true n None = (λ e. absurd cc, λ h. absurd cc)
part true n (Some g) = (λ e. (e, refl), λ h. h.0)
part false n None = (λ e. (refl, refl), λ h. refl)
part false n (Some g) = (λ e. absurd cc, λ h. absurd cc)

abbrev bit : Bool → ℕ
bit t = if t then 1 else 0

bit_same : (t u : Bool) → bit t ≡ bit u → t ≡ u
bit_same true true e = refl
bit_same true false e = absurd (omega arith)
bit_same false true e = absurd (omega arith)
bit_same false false e = refl

times : (t : Bool) (n : ℕ) → (if t then n else 0) ≡ n * bit t
times true n = omega arith
times false n = omega arith

bit_most : (t : Bool) → bit t ≤ 1
bit_most true = omega arith
bit_most false = omega arith

both : (a b : Bool) → (a && b ≡ true) ↔ ((a ≡ true) × (b ≡ true))
both true b = (λ e. (refl, e), λ h. h.1)
both false b = (λ e. absurd cc, λ h. absurd cc)

-- what so exact rows give
exact_parts : (a b c d e v w x y z : Bool) → exactness_of v w x y z ≡ exactness_of a b c d e → (v ≡ a) × (w ≡ b) × (x ≡ c) × (y ≡ d) × (z ≡ e)
exact_parts a b c d e v w x y z same =
    let first : bit v ≡ bit a = omega (arith, same, times a 16, times b 8, times c 4, times d 2, times e 1, times v 16, times w 8, times x 4, times y 2, times z 1, bit_most a, bit_most b, bit_most c, bit_most d, bit_most e, bit_most v, bit_most w, bit_most x, bit_most y, bit_most z) in
    let second : bit w ≡ bit b = omega (arith, same, times a 16, times b 8, times c 4, times d 2, times e 1, times v 16, times w 8, times x 4, times y 2, times z 1, bit_most a, bit_most b, bit_most c, bit_most d, bit_most e, bit_most v, bit_most w, bit_most x, bit_most y, bit_most z) in
    let third : bit x ≡ bit c = omega (arith, same, times a 16, times b 8, times c 4, times d 2, times e 1, times v 16, times w 8, times x 4, times y 2, times z 1, bit_most a, bit_most b, bit_most c, bit_most d, bit_most e, bit_most v, bit_most w, bit_most x, bit_most y, bit_most z) in
    let fourth : bit y ≡ bit d = omega (arith, same, times a 16, times b 8, times c 4, times d 2, times e 1, times v 16, times w 8, times x 4, times y 2, times z 1, bit_most a, bit_most b, bit_most c, bit_most d, bit_most e, bit_most v, bit_most w, bit_most x, bit_most y, bit_most z) in
    let fifth : bit z ≡ bit e = omega (arith, same, times a 16, times b 8, times c 4, times d 2, times e 1, times v 16, times w 8, times x 4, times y 2, times z 1, bit_most a, bit_most b, bit_most c, bit_most d, bit_most e, bit_most v, bit_most w, bit_most x, bit_most y, bit_most z) in
    (bit_same v a first, bit_same w b second, bit_same x c third, bit_same y d fourth, bit_same z e fifth)

pub key_is : (a b c d e : Bool) (name : ℕ) (key : UnitKey) → key.name ≡ then_some a name → key.function ≡ then_some b (fields_of name).function
    → key.industry_group ≡ then_some c (fields_of name).industry_group → key.vehicle_system ≡ then_some d (fields_of name).vehicle_system
    → key.manufacturer ≡ then_some e (fields_of name).manufacturer → IsKeyOf name (exactness_of a b c d e) key
key_is a b c d e name key n f g s m row =
    let pn = part a name row.name in
    let pf = part b (fields_of name).function row.function in
    let pg = part c (fields_of name).industry_group row.industry_group in
    let ps = part d (fields_of name).vehicle_system row.vehicle_system in
    let pm = part e (fields_of name).manufacturer row.manufacturer in
    rw (n, f, g, s, m) (
      λ all.
          let h = (both _ _).0 all in
          let i = (both _ _).0 h.1 in
          let j = (both _ _).0 i.1 in
          let k = (both _ _).0 j.1 in
          let v = pn.0 h.0 in
          let w = pf.0 i.0 in
          let x = pg.0 j.0 in
          let y = ps.0 k.0 in
          let z = pm.0 k.1 in
          ((both _ _).1 (v.0, (both _ _).1 (w.0, (both _ _).1 (x.0, (both _ _).1 (y.0, z.0)))), rw (v.1, w.1, x.1, y.1, z.1) refl),
      λ all.
          let h = (both _ _).0 all.0 in
          let i = (both _ _).0 h.1 in
          let j = (both _ _).0 i.1 in
          let k = (both _ _).0 j.1 in
          let same = exact_parts a b c d e (is_some row.name) (is_some row.function) (is_some row.industry_group) (is_some row.vehicle_system) (is_some row.manufacturer) all.1 in
          (both _ _).1 (pn.1 (h.0, same.0), (both _ _).1 (pf.1 (i.0, same.1), (both _ _).1 (pg.1 (j.0, same.2), (both _ _).1 (ps.1 (k.0, same.3), pm.1 (k.1, same.4))))),
    )
