-- Laws of tables of addresses.
use Rattle.std.proofs.Common.{◌≡◌, ◌≢◌, ℕ, Bool, true, false, ◌<◌, ◌≤◌, ◌==◌, List, length, Option, None, if◌then◌else◌, refl, sym, ap, ◌∙◌, subst, ⊎_elim}
use Rattle.std.specs.Prelude.{slice_set, slice_index_or}
use Rattle.std.proofs.lemmas.Bool.{cases_eq, cases_lt, eq-eqb, eqb-true, ne_eqb}
use Rattle.std.proofs.lemmas.List.{get_or-set_same, get_or-set_other, get_or-replicate, get_or_past, set-get_or, set-set, set_past, length-replicate}
use Rattle.reassembly.specs.Pairs.{pair_at, pairs_from, with_pair}
use Rattle.reassembly.specs.Tables.{at, empty_table}

-- the written place has what was written, each other place what it had
pub item-set : {X : Type 0} (d : X) (t : List X) (i a : ℕ) (v : X) → i < length t → slice_index_or (slice_set t i v) a d ≡ (if i == a then v else slice_index_or t a d)
item-set d t i a v h = ⊎_elim same other (cases_eq i a)
  where
    same : i ≡ a → slice_index_or (slice_set t i v) a d ≡ (if i == a then v else slice_index_or t a d)
    same e = rw (eq-eqb i a e, ← e) (get_or-set_same t i v d h)

    other : (i ≡ a → ⊥) → slice_index_or (slice_set t i v) a d ≡ (if i == a then v else slice_index_or t a d)
    other ne = let apart : a ≢ i = λ e. ne (sym e) in rw (ne_eqb i a ne) (get_or-set_other t i a v d apart)

pub at-set : {X : Type 0} (t : List (Option X)) (i a : ℕ) (v : Option X) → i < length t → at (slice_set t i v) a ≡ (if i == a then v else at t a)
at-set t i a v h = item-set None t i a v h

-- an empty table has nothing anywhere
pub at-empty : {X : Type 0} (a : ℕ) → at (empty_table {X = X}) a ≡ None
unfolding empty_table
at-empty {X} a = ⊎_elim (λ h. get_or-replicate 256 a None None h) (λ h. get_or_past (empty_table {X = X}) a None h) (cases_lt a 256)

-- an empty table has 256 places
pub places-empty : (X : Type 0) → length (empty_table {X = X}) ≡ 256
unfolding empty_table
places-empty X = length-replicate {A = Option X} 256 None

-- what is there, written back, changes nothing
pub written_back : {X : Type 0} (t : List (Option X)) (i : ℕ) → slice_set t i (at t i) ≡ t
written_back t i = set-get_or t i None

-- what was of a pair, written back, undoes what was written there
pub pair_restored : {X : Type 0} (pairs : List (List (Option X))) (s d : ℕ) (v : Option X) → with_pair (with_pair pairs s d v) s d (pair_at pairs s d) ≡ pairs
pair_restored {X} pairs s d v = ⊎_elim within past (cases_lt s (length pairs))
  where
    row : List (Option X)
    row = pairs_from pairs s

    within : s < length pairs → with_pair (with_pair pairs s d v) s d (pair_at pairs s d) ≡ pairs
    within h =
        ap (λ (r : List (Option X)). slice_set (slice_set pairs s (slice_set row d v)) s (slice_set r d (at row d))) (get_or-set_same pairs s (slice_set row d v) empty_table h)
        ∙ (set-set pairs s (slice_set row d v) (slice_set (slice_set row d v) d (at row d))
        ∙ (ap (λ (r : List (Option X)). slice_set pairs s r) (set-set row d v (at row d) ∙ written_back row d) ∙ set-get_or pairs s empty_table))

    past : length pairs ≤ s → with_pair (with_pair pairs s d v) s d (pair_at pairs s d) ≡ pairs
    past h = let same : slice_set pairs s (slice_set row d v) ≡ pairs = set_past pairs s (slice_set row d v) h in
        ap (λ (p : List (List (Option X))). slice_set p s (slice_set (pairs_from p s) d (at row d))) same ∙ set_past pairs s (slice_set row d (at row d)) h

-- at the place that is tested for, one number is the other
at_place : {X : Type 0} (f : ℕ → X) (i a : ℕ) (y : X) → (if i == a then f i else y) ≡ (if i == a then f a else y)
at_place {X} f i a y = go (i == a) refl
  where
    go : (b : Bool) → (i == a) ≡ b → (if b then f i else y) ≡ (if b then f a else y)
    go true e = ap f (eqb-true i a e)
    go false e = refl

-- one place of a table is changed
pub changed_place : {X : Type 0} (t : List (Option X)) (known : ℕ → Option X) (change : Option X → Option X) (i : ℕ) → length t ≡ 256 → i < 256
    → ((a : ℕ) → a < 256 → at t a ≡ known a) → (a : ℕ) → a < 256 → at (slice_set t i (change (at t i))) a ≡ (if i == a then change (known a) else known a)
changed_place t known change i len lt same a below =
    at-set t i a (change (at t i)) (subst (λ (v : ℕ). i < v) (sym len) lt)
    ∙ (rw (same i lt, same a below) (at_place (λ v. change (known v)) i a (known a)))

-- one place of a table is written
pub written_place : {X : Type 0} (t : List (Option X)) (known new : ℕ → Option X) (i : ℕ) (v : Option X) → length t ≡ 256 → i < 256 → v ≡ new i
    → ((a : ℕ) → a < 256 → at t a ≡ known a) → (a : ℕ) → a < 256 → at (slice_set t i v) a ≡ (if i == a then new a else known a)
written_place t known new i v len lt e same a below =
    at-set t i a v (subst (λ (x : ℕ). i < x) (sym len) lt) ∙ (rw (e, same a below) (at_place new i a (known a)))
