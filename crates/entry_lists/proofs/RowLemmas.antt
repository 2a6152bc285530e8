-- The rows after one change.
use Rattle.std.proofs.Common.{◌≡◌, ℕ, Bool, true, false, ◌==◌, ◌||◌, nat_eq, List, [], ◌∷◌, ◌++◌, Option, Some, None, is_some, if◌then◌else◌, unwrap_or, cond, map, length, take, arith, refl, sym, ap, ◌∙◌, subst}
use Rattle.std.specs.Option.{option_map, option_map_or}
use Rattle.std.specs.List.{list_any}
use Rattle.std.specs.Cmp.{nat_eq_equiv}
use Rattle.std.specs.Map.{set_value}
use Rattle.std.proofs.lemmas.Map.{lookup-set_value, keys-set_value}
use Rattle.std.proofs.lemmas.List.{map-append, take_all, take_at}
use Rattle.std.proofs.lemmas.Bool.{ne_eqb, eqb-true}
use Rattle.bus_model.specs.Heard.{with_name}
use Rattle.entry_lists.specs.KeptValue.{KeptValue, nothing_kept, kept_under, with_row, changed_under}

-- the key of an entry
abbrev pub named : ℕ × KeptValue → ℕ
named e = e.0

-- the value under one NAME after a change under another
pub kept_under-changed : (f : KeptValue → KeptValue) (rows : List (ℕ × KeptValue)) (n m : ℕ)
    → kept_under (changed_under f rows n) m ≡ (if n == m then option_map f (kept_under rows m) else kept_under rows m)
kept_under-changed f rows n m = go (kept_under rows n) refl
  where
    absent : kept_under rows n ≡ None → (b : Bool) → (n == m) ≡ b → kept_under rows m ≡ (if b then option_map f (kept_under rows m) else kept_under rows m)
    absent none false i = refl
    absent none true i =
        let e : n ≡ m = eqb-true n m i in
        let gone : kept_under rows m ≡ None = subst (λ (v : ℕ). kept_under rows v ≡ None) e none in
        rw (gone) refl

    present : (k : KeptValue) → kept_under rows n ≡ Some k → (b : Bool) → (n == m) ≡ b
        → cond b (Some (f k)) (kept_under rows m) ≡ (if b then option_map f (kept_under rows m) else kept_under rows m)
    present k some false i = refl
    present k some true i =
        let e : n ≡ m = eqb-true n m i in
        let there : kept_under rows m ≡ Some k = subst (λ (v : ℕ). kept_under rows v ≡ Some k) e some in
        rw (there) refl

    go : (o : Option KeptValue) → kept_under rows n ≡ o
        → kept_under (option_map_or (λ kept. set_value (nat_eq n) rows (f kept)) o rows) m ≡ (if n == m then option_map f (kept_under rows m) else kept_under rows m)
    go None none = absent none (n == m) refl
    go (Some k) some =
        lookup-set_value nat_eq_equiv (nat_eq n) (λ x y h. nat_eq_equiv.congr n x y h) m (f k) rows (rw (some) refl) ∙ present k some (n == m) refl

-- no NAME comes or goes by a change
pub names-changed : (f : KeptValue → KeptValue) (rows : List (ℕ × KeptValue)) (n : ℕ) → map named (changed_under f rows n) ≡ map named rows
names-changed f rows n = go (kept_under rows n)
  where
    go : (o : Option KeptValue) → map named (option_map_or (λ kept. set_value (nat_eq n) rows (f kept)) o rows) ≡ map named rows
    go None = refl
    go (Some k) = keys-set_value (nat_eq n) rows (f k)

-- whether the NAME has a row
pub has_row-names : (rows : List (ℕ × KeptValue)) (n : ℕ) → is_some (kept_under rows n) ≡ list_any (λ m. m == n) (map named rows)
has_row-names [] n = refl
has_row-names (e ∷ rows) n = rw (nat_eq_equiv.symm n e.0) (go (nat_eq e.0 n) (has_row-names rows n))
  where
    go : (b : Bool) → is_some (kept_under rows n) ≡ list_any (λ m. m == n) (map named rows)
        → is_some (cond b (Some e.1) (kept_under rows n)) ≡ (b || list_any (λ m. m == n) (map named rows))
    go true ih = refl
    go false ih = ih

-- a row that is not there goes last
lookup-push : (rows : List (ℕ × KeptValue)) (n m : ℕ) (k : KeptValue) → kept_under rows n ≡ None
    → kept_under (rows ++ (n, k) ∷ []) m ≡ (if n == m then Some k else kept_under rows m)
lookup-push [] n m k none = rw (nat_eq_equiv.symm m n) refl
lookup-push (e ∷ rows) n m k none = go (nat_eq n e.0) (nat_eq m e.0) refl refl none (lookup-push rows n m k)
  where
    go : (b c : Bool) → nat_eq n e.0 ≡ b → nat_eq m e.0 ≡ c → cond b (Some e.1) (kept_under rows n) ≡ None
        → (kept_under rows n ≡ None → kept_under (rows ++ (n, k) ∷ []) m ≡ (if n == m then Some k else kept_under rows m))
        → cond c (Some e.1) (kept_under (rows ++ (n, k) ∷ []) m) ≡ (if n == m then Some k else cond c (Some e.1) (kept_under rows m))
    go true c i j h ih = absurd cc
    go false false i j h ih = ih h
    go false true i j h ih =
        let ne : (n == m) ≡ false = ne_eqb n m (λ e2. let q : nat_eq n e.0 ≡ true = subst (λ (v : ℕ). nat_eq v e.0 ≡ true) (sym e2) j in cc) in
        rw (ne) refl

-- what is kept once a NAME has a row
pub kept_under-with_row : (rows : List (ℕ × KeptValue)) (n m : ℕ)
    → kept_under (with_row rows n) m ≡ (if n == m then Some (unwrap_or (kept_under rows m) nothing_kept) else kept_under rows m)
kept_under-with_row rows n m = go (kept_under rows n) refl
  where
    there : (k : KeptValue) → kept_under rows n ≡ Some k → (b : Bool) → (n == m) ≡ b
        → kept_under rows m ≡ (if b then Some (unwrap_or (kept_under rows m) nothing_kept) else kept_under rows m)
    there k some false i = refl
    there k some true i =
        let found : kept_under rows m ≡ Some k = subst (λ (v : ℕ). kept_under rows v ≡ Some k) (eqb-true n m i) some in
        rw (found) refl

    absent : kept_under rows n ≡ None → (b : Bool) → (n == m) ≡ b
        → (if b then Some nothing_kept else kept_under rows m) ≡ (if b then Some (unwrap_or (kept_under rows m) nothing_kept) else kept_under rows m)
    absent none false i = refl
    absent none true i =
        let gone : kept_under rows m ≡ None = subst (λ (v : ℕ). kept_under rows v ≡ None) (eqb-true n m i) none in
        rw (gone) refl

    go : (o : Option KeptValue) → kept_under rows n ≡ o
        → kept_under (cond (is_some o) rows (rows ++ (n, nothing_kept) ∷ [])) m ≡ (if n == m then Some (unwrap_or (kept_under rows m) nothing_kept) else kept_under rows m)
    go None none = lookup-push rows n m nothing_kept none ∙ absent none (n == m) refl
    go (Some k) some = there k some (n == m) refl

-- a new NAME goes last
pub names-with_row : (rows : List (ℕ × KeptValue)) (n : ℕ) → map named (with_row rows n) ≡ with_name n (map named rows)
names-with_row rows n = rw (has_row-names rows n) (go (list_any (λ m. m == n) (map named rows)))
  where
    go : (b : Bool) → map named (cond b rows (rows ++ (n, nothing_kept) ∷ [])) ≡ (if b then map named rows else map named rows ++ n ∷ [])
    go true = refl
    go false = map-append named rows ((n, nothing_kept) ∷ [])

-- a look-up that found nothing
pub not_found : (rows : List (ℕ × KeptValue)) (n : ℕ) (found : Bool) → found ≡ false → found ≡ is_some (kept_under rows n) → kept_under rows n ≡ None
not_found rows n found test was = go (kept_under rows n) (sym was ∙ test)
  where
    go : (o : Option KeptValue) → is_some o ≡ false → o ≡ None
    go None h = refl
    go (Some x) h = absurd (cc)

-- an empty row goes last where a look-up found none
pub name_added : (rows new : List (ℕ × KeptValue)) (n : ℕ) (found : Bool) → found ≡ false → found ≡ is_some (kept_under rows n)
    → new ≡ rows ++ (n, nothing_kept) ∷ [] → new ≡ with_row rows n
name_added rows new n found test was added =
    added ∙ sym (ap (λ (o : Option KeptValue). cond (is_some o) rows (rows ++ (n, nothing_kept) ∷ [])) (not_found rows n found test was))

-- the rows before a row was added
pub rows_before : (rows : List (ℕ × KeptValue)) (n : ℕ) → take (length rows) (with_row rows n) ≡ rows
rows_before rows n = go (is_some (kept_under rows n))
  where
    go : (b : Bool) → take (length rows) (cond b rows (rows ++ (n, nothing_kept) ∷ [])) ≡ rows
    go true = take_all (length rows) rows (omega arith)
    go false = take_at rows ((n, nothing_kept) ∷ []) (length rows) refl
