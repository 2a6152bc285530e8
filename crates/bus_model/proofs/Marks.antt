-- The path is the wire as its readings mark it.
use Rattle.std.proofs.Common.{◌≡◌, ◌≢◌, ℕ, suc, zero, ◌+◌, ◌<◌, ◌==◌, Bool, true, false, List, [], ◌∷◌, ◌++◌, length, take, drop, reverse, slice_get, Some, if◌then◌else◌, sym, refl, ap, ap₂, ◌∙◌, subst, inl, inr, arith, append_assoc, append-nil}
use Rattle.std.proofs.lemmas.Bool.{ne_eqb}
use Rattle.std.proofs.lemmas.List.{length_push, length-append, length-reverse, reverse-append, reverse-reverse}
use Rattle.bus_model.specs.Expected.{Missed, Own, Received, Reception, passed, readings}
use Rattle.bus_model.specs.Machine.{IsAt, Station, World}
use Rattle.bus_model.specs.Marks.{IsMarkedBy, marked, marked_count, positions, without_own}
use Rattle.bus_model.specs.Traffic.{Item, is_station}
use Rattle.bus_model.proofs.Lookback.{Every, every_front, every_rest, same_test}
use Rattle.bus_model.proofs.Path.{Marked}
use Rattle.bus_model.proofs.SeatLaw.{IsNotNamed, every_heard}
use Rattle.bus_model.proofs.Whose.{IsFrom, MissedForeign, WorldNumbers}
use Rattle.bus_model.proofs.Worlds.{WorldLaw}

abbrev pub is_own : ℕ → Item → Bool
is_own y e = e.seat == y

abbrev pub IsForeign : ℕ → Item → Type 0
IsForeign y e = is_own y e ≡ false

-- whose frames stand on the path
abbrev pub Sorted : ℕ → List Reception → Type 0
Sorted y [] = Unit {0}
Sorted y (Own e ∷ path) = (is_own y e ≡ true) × Sorted y path
Sorted y (Received e ∷ path) = IsForeign y e × Sorted y path
Sorted y (Missed es ∷ path) = Every (IsForeign y) es × Sorted y path

-- ---- seats and NAMEs

below : {A : Type 0} (xs : List A) (y : ℕ) (s : A) → slice_get xs y ≡ Some s → y < length xs
below [] y s h = cc
below (x ∷ xs) zero s h = omega arith
below (x ∷ xs) (suc y) s h = let l = below xs y s h in omega arith

own_is : (st : List ℕ) (w : World) (y : ℕ) (s : Station) (e : Item) → WorldLaw st w → WorldNumbers st w → IsAt w y s → IsFrom w.stations w.seats e → e.name ≡ s.settings.name → is_own y e ≡ true
own_is st w y s e law numbers at from n = elim from [
  | inl h ↦ (let z : h.0 ≡ y = law.distinct h.0 y h.1 s h.2 at (sym h.4 ∙ n) in rw (h.3 ∙ z) (same_test y))
  | inr h ↦ (let a : is_station st e.name ≡ false = ap (is_station st) h.4 ∙ numbers.names h.0 h.1 h.2 in let b : is_station st e.name ≡ true = ap (is_station st) n ∙ (law.stations y s at).law.named in cc)
]

foreign_is : (st : List ℕ) (w : World) (y : ℕ) (s : Station) (e : Item) → WorldLaw st w → WorldNumbers st w → IsAt w y s → IsFrom w.stations w.seats e → e.name ≢ s.settings.name → IsForeign y e
foreign_is st w y s e law numbers at from n = elim from [
  | inl h ↦ ne_eqb e.seat y (λ z. n (h.4 ∙ ap (λ (u : Station). u.settings.name) (one h.0 h.1 h.2 (sym h.3 ∙ z))))
  | inr h ↦ (let k : e.seat ≡ length w.stations + h.0 = h.3 ∙ numbers.numbers h.0 h.1 h.2 in let l = below w.stations y s at in ne_eqb e.seat y (λ z. omega arith))
]
  where
    one : (z : ℕ) (t : Station) → slice_get w.stations z ≡ Some t → z ≡ y → t ≡ s
    one z t h e = let k : slice_get w.stations y ≡ Some t = subst (λ (n : ℕ). slice_get w.stations n ≡ Some t) e h in cc

foreign_all : (st : List ℕ) (w : World) (y : ℕ) (s : Station) (es : List Item) → WorldLaw st w → WorldNumbers st w → IsAt w y s → Every (IsFrom w.stations w.seats) es → Every (IsNotNamed s.settings.name) es → Every (IsForeign y) es
foreign_all st w y s [] law numbers at from n = tt
foreign_all st w y s (e ∷ es) law numbers at from n = (foreign_is st w y s e law numbers at from.0 n.0, foreign_all st w y s es law numbers at from.1 n.1)

sorted_is : (st : List ℕ) (w : World) (y : ℕ) (s : Station) (path : List Reception) → WorldLaw st w → WorldNumbers st w → IsAt w y s → Every (IsFrom w.stations w.seats) (passed path) → Marked s.settings.name path → MissedForeign s.settings.name path → Sorted y path
sorted_is st w y s [] law numbers at from mk ms = tt
sorted_is st w y s (Own e ∷ path) law numbers at from mk ms = (own_is st w y s e law numbers at from.0 mk.0.name, sorted_is st w y s path law numbers at from.1 mk.1 ms)
sorted_is st w y s (Received e ∷ path) law numbers at from mk ms = (foreign_is st w y s e law numbers at from.0 mk.0, sorted_is st w y s path law numbers at from.1 mk.1 ms)
sorted_is st w y s (Missed es ∷ path) law numbers at from mk ms = (
  foreign_all st w y s es law numbers at (every_front (IsFrom w.stations w.seats) es (passed path) from) ms.0,
  sorted_is st w y s path law numbers at (every_rest (IsFrom w.stations w.seats) es (passed path) from) mk ms.1,
)

-- ---- positions

positions_append : (y : ℕ) (later older : List Item) → positions y (later ++ older) ≡ positions y older ++ positions y later
positions_append y [] older = sym (append-nil (positions y older))
positions_append y (e ∷ later) older = go (is_own y e) (positions_append y later older)
  where
    go : (b : Bool) → positions y (later ++ older) ≡ positions y older ++ positions y later → (if b then positions y (later ++ older) else positions y (later ++ older) ++ e ∷ []) ≡ positions y older ++ (if b then positions y later else positions y later ++ e ∷ [])
    go true ih = ih
    go false ih = ap (λ (l : List Item). l ++ e ∷ []) ih ∙ append_assoc (positions y older) (positions y later) (e ∷ [])

positions_foreign : (y : ℕ) (es : List Item) → Every (IsForeign y) es → positions y es ≡ reverse es
positions_foreign y [] h = refl
positions_foreign y (e ∷ es) h = rw (h.0, positions_foreign y es h.1) (sym (reverse-append (e ∷ []) es))

positions_missed : (y : ℕ) (es older : List Item) → Every (IsForeign y) es → positions y (es ++ older) ≡ positions y older ++ reverse es
positions_missed y es older h = positions_append y es older ∙ ap (λ (l : List Item). positions y older ++ l) (positions_foreign y es h)

counted : (y : ℕ) (path : List Reception) → Sorted y path → length (positions y (passed path)) ≡ marked_count (readings path)
counted y [] h = refl
counted y (Own e ∷ path) h = rw h.0 (counted y path h.1)
counted y (Received e ∷ path) h = rw h.0 (length_push (positions y (passed path)) e ∙ ap (λ (n : ℕ). n + 1) (counted y path h.1))
counted y (Missed es ∷ path) h =
    ap length (positions_missed y es (passed path) h.0)
    ∙ (length-append (positions y (passed path)) (reverse es) ∙ ap₂ ◌+◌ (counted y path h.1) (length-reverse es))

-- ---- lists

drop_front : (xs ys : List Item) → drop (length xs) (xs ++ ys) ≡ ys
drop_front [] ys = refl
drop_front (x ∷ xs) ys = drop_front xs ys

take_front : (xs ys : List Item) → take (length xs) (xs ++ ys) ≡ xs
take_front [] ys = refl
take_front (x ∷ xs) ys = ap (λ (l : List Item). x ∷ l) (take_front xs ys)

get_after : (xs ys : List Item) (e : Item) → slice_get (xs ++ e ∷ ys) (length xs) ≡ Some e
get_after [] ys e = refl
get_after (x ∷ xs) ys e = get_after xs ys e

-- ---- marks

marks : (y : ℕ) (path : List Reception) (rest : List Item) → Sorted y path → marked (readings path) (positions y (passed path) ++ rest) ≡ without_own path
marks y [] rest h = refl
marks y (Own e ∷ path) rest h = rw h.0 (marks y path rest h.1)
marks y (Received e ∷ path) rest h =
    let n = counted y path h.1 in
    let ps = positions y (passed path) in
    let shape : (ps ++ e ∷ []) ++ rest ≡ ps ++ e ∷ rest = append_assoc ps (e ∷ []) rest in
    let at : slice_get (ps ++ e ∷ rest) (marked_count (readings path)) ≡ Some e = subst (λ (k : ℕ). slice_get (ps ++ e ∷ rest) k ≡ Some e) n (get_after ps rest e) in
    rw (h.0, shape, at) (ap (λ (l : List Reception). Received e ∷ l) (marks y path (e ∷ rest) h.1))
marks y (Missed es ∷ path) rest h =
    let n = counted y path h.1 in
    let ps = positions y (passed path) in
    let shape : positions y (es ++ passed path) ++ rest ≡ ps ++ (reverse es ++ rest) = ap (λ (l : List Item). l ++ rest) (positions_missed y es (passed path) h.0) ∙ append_assoc ps (reverse es) rest in
    let gone : drop (marked_count (readings path)) (ps ++ (reverse es ++ rest)) ≡ reverse es ++ rest = subst (λ (k : ℕ). drop k (ps ++ (reverse es ++ rest)) ≡ reverse es ++ rest) n (drop_front ps (reverse es ++ rest)) in
    let first : take (length es) (reverse es ++ rest) ≡ reverse es = subst (λ (k : ℕ). take k (reverse es ++ rest) ≡ reverse es) (length-reverse es) (take_front (reverse es) rest) in
    rw (shape, gone, first, reverse-reverse es) (ap (λ (l : List Reception). Missed es ∷ l) (marks y path (reverse es ++ rest) h.1))

pub path_marked : (st : List ℕ) (w : World) (y : ℕ) (s : Station) → WorldLaw st w → WorldNumbers st w → IsAt w y s → IsMarkedBy y (readings s.path) w.wire s.path
path_marked st w y s law numbers at =
    let here = law.stations y s at in
    let from = every_heard (IsFrom w.stations w.seats) s.settings.name w.wire (passed s.path) here.law.past numbers.wire' in
    let sorted = sorted_is st w y s s.path law numbers at from here.marked (numbers.posts y s at).missed' in
    record {
      later = here.law.past.ahead;
      along = here.law.past.reach;
      marks = sym (ap (λ (l : List Item). marked (readings s.path) l) (ap (positions y) here.law.past.reach ∙ positions_append y here.law.past.ahead (passed s.path)) ∙ marks y s.path (positions y here.law.past.ahead) sorted);
      frames = refl;
    }
