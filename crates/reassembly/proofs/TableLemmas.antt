-- Tables of addresses after one change.
use Rattle.std.proofs.Common.{◌≡◌, ℕ, ◌<◌, ◌==◌, true, false, List, [], ◌∷◌, length, Option, Some, None, refl, sym, ap, ◌∙◌, subst, arith}
use Rattle.std.specs.Prelude.{slice_set, replicate}
use Rattle.std.proofs.lemmas.Bool.{eqb-true}
use Rattle.std.proofs.lemmas.List.{get_or-set_same, length-replicate, length-set, set-set}
use Rattle.reassembly.specs.TableLaws.{at-empty, written_back}
use Rattle.reassembly.specs.Tables.{TableValue, at, empty_table, slots_of, has_slots, IsTable}

-- nothing, written where nothing is, changes nothing
pub nothing_written : {X : Type 0} (i : ℕ) → slice_set (empty_table {X = X}) i None ≡ empty_table
nothing_written {X} i = ap (slice_set (empty_table {X = X}) i) (sym (at-empty {X = X} i)) ∙ written_back (empty_table {X = X}) i

-- memory that was filled with nothing is an empty table
pub filled_slots : {X : Type 0} (items : List (Option X)) → items ≡ replicate 256 None → slots_of items ≡ empty_table
unfolding empty_table
filled_slots items e = rw e refl

pub filled_has : {X : Type 0} (items : List (Option X)) → items ≡ replicate 256 None → has_slots items ≡ true
filled_has items e = rw e refl

pub filled_table : {X : Type 0} (items : List (Option X)) → items ≡ replicate 256 None → IsTable items
filled_table {X} items e = record { places = λ h. ap length e ∙ length-replicate {A = Option X} 256 None }

pub empty_slots : {X : Type 0} (items : List (Option X)) → items ≡ [] → slots_of items ≡ empty_table
empty_slots items e = rw e refl

-- memory that is not empty is the table
pub full_slots : {X : Type 0} (items : List (Option X)) → (length items == 0) ≡ false → slots_of items ≡ items
full_slots [] e = absurd cc
full_slots (x ∷ xs) e = refl

pub full_places : {X : Type 0} (items : List (Option X)) → IsTable items → (length items == 0) ≡ false → length items ≡ 256
full_places [] t e = absurd cc
full_places (x ∷ xs) t e = t.places refl

pub made_slots : {X : Type 0} (items : List (Option X)) → has_slots items ≡ true → slots_of items ≡ items
made_slots [] e = absurd cc
made_slots (x ∷ xs) e = refl

-- a place that is written leaves the memory of the table
pub has-set : {X : Type 0} (items : List (Option X)) (i : ℕ) (v : Option X) → has_slots (slice_set items i v) ≡ has_slots items
has-set [] i v = refl
has-set {X} (x ∷ xs) i v = go (slice_set (x ∷ xs) i v) (length-set (x ∷ xs) i v)
  where
    go : (ys : List (Option X)) → length ys ≡ length (x ∷ xs) → has_slots ys ≡ true
    go [] e = absurd (omega (arith, e))
    go (y ∷ ys) e = refl

pub table-set : {X : Type 0} (items : List (Option X)) (i : ℕ) (v : Option X) → IsTable items → IsTable (slice_set items i v)
table-set items i v t = record { places = λ h. length-set items i v ∙ t.places (sym (has-set items i v) ∙ h) }

pub slots-set : {X : Type 0} (items : List (Option X)) (i : ℕ) (v : Option X) → has_slots items ≡ true → slots_of (slice_set items i v) ≡ slice_set (slots_of items) i v
slots-set {X} items i v h = made_slots (slice_set items i v) (has-set items i v ∙ h) ∙ ap (λ (t : List (Option X)). slice_set t i v) (sym (made_slots items h))

-- what is taken out of an empty table
pub none_there : {X : Type 0} (len : ℕ) (items : List (Option X)) (i : ℕ) → len ≡ length items → (len == 0) ≡ true → ◌≡◌ {A = Option X} None (at (slots_of items) i)
none_there {X} len [] i same e = sym (at-empty {X = X} i)
none_there len (x ∷ xs) i same e = let none : len ≡ 0 = eqb-true len 0 e in absurd (omega (arith, same))

pub none_left : {X : Type 0} (len : ℕ) (items : List (Option X)) (i : ℕ) → len ≡ length items → (len == 0) ≡ true
    → ◌≡◌ {A = TableValue X} (record { slots = slots_of items; is_made = has_slots items }) (record { slots = slice_set (slots_of items) i None; is_made = has_slots items })
none_left {X} len [] i same e = ap (λ (t : List (Option X)). record { slots = t; is_made = false }) (sym (nothing_written {X = X} i))
none_left len (x ∷ xs) i same e = let none : len ≡ 0 = eqb-true len 0 e in absurd (omega (arith, same))

-- memory that is taken leaves an empty table empty
pub made_anew : {X : Type 0} (len : ℕ) (old new : List (Option X)) → len ≡ length old → (len == 0) ≡ true → new ≡ replicate 256 None → slots_of new ≡ slots_of old
made_anew len [] new same e filled = filled_slots new filled
made_anew len (x ∷ xs) new same e filled = let none : len ≡ 0 = eqb-true len 0 e in absurd (omega (arith, same))

-- what was taken out and is put back
pub put_back : {X : Type 0} (t u v now : List (Option X)) (i : ℕ) (x y : X) → u ≡ slice_set t i None → v ≡ slice_set u i (Some y) → y ≡ x → at t i ≡ Some x → t ≡ now → v ≡ now
put_back {X} t u v now i x y left put same there now_is =
    put ∙ (ap (λ (w : List (Option X)). slice_set w i (Some y)) left
    ∙ (set-set t i None (Some y) ∙ (ap (λ (z : X). slice_set t i (Some z)) same ∙ (ap (slice_set t i) (sym there) ∙ (written_back t i ∙ now_is)))))

-- and what is put there instead
pub put_instead : {X : Type 0} (t u v now : List (Option X)) (i : ℕ) (x : X) (o : Option X) → u ≡ slice_set t i None → v ≡ slice_set u i (Some x) → Some x ≡ o → t ≡ now → v ≡ slice_set now i o
put_instead {X} t u v now i x o left put is now_is =
    put ∙ (ap (λ (w : List (Option X)). slice_set w i (Some x)) left ∙ (set-set t i None (Some x) ∙ (ap (slice_set t i) is ∙ ap (λ (w : List (Option X)). slice_set w i o) now_is)))

-- what is put into memory is there
pub put_there : {X : Type 0} (items : List (Option X)) (i : ℕ) (v : Option X) → IsTable items → has_slots items ≡ true → i < 256 → at (slots_of (slice_set items i v)) i ≡ v
put_there {X} items i v t h below =
    ap (λ (s : List (Option X)). at s i) (made_slots (slice_set items i v) (has-set items i v ∙ h))
    ∙ get_or-set_same items i v None (subst (λ (n : ℕ). i < n) (sym (t.places h)) below)
