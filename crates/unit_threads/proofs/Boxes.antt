-- A unit in a box that hears: what is said of it, with its count of events, at the vtable that it was handed over with.
use Rattle.std.proofs.Common.{◌≡◌, ℕ, ◌+◌, Bool, Result, Ok, IfOk, refl, sym, ap, ◌∙◌, subst}
use Rattle.std.specs.declared.alloc.Global.{Global}
use Rattle.std.specs.declared.dyn_box.DynBox.{DynBox}
use Rattle.fault_memory.specs.Memory.{MemoryValue}
use Rattle.unit_trait.specs.declared.question.Question.{Question}
use Rattle.journal.specs.Journal.{Adds, GarageValue, with_event}
use Rattle.journal.specs.declared.event.Event.TheVariants.{Turned}
use Rattle.garage.specs.Answers.{Hears, counted_hearing}
use Rattle.garage.specs.Hearing.{HasHeardAll, HearsMany}
use Rattle.garage.specs.declared.answers.HeardOne.{HeardOne}
use Rattle.garage.specs.declared.answers.HeardOne.TheVariants as heard
use Rattle.garage.proofs.HearLemmas.{many_more, many_none, many_same}
use Rattle.unit_threads.specs.Turns.{BoxHeard, IsTurnInBox, asked_at, begun_by, sitting_at}

-- one more hearing, at one vtable
one_more : {X : Type 0} (name_of : X → ℕ) (memory_of : X → MemoryValue) (answers : X → Question → Bool → X → Type 0) (k n : ℕ) (a b c : GarageValue) (p : X × ℕ) (u v : X) (e e' : ℕ) (h : HeardOne)
    → HearsMany (sitting_at k name_of memory_of) (asked_at answers) n a p b (u, e) → Hears b k (memory_of u) (answers u) u h c (memory_of v) v → name_of v ≡ name_of u → e' ≡ counted_hearing e h
    → (m : ℕ) × HearsMany (sitting_at k name_of memory_of) (asked_at answers) m a p c (v, e')
one_more name_of memory_of answers k n a b c p u v e e' (heard.Frame f) before h name count = (
  n + 1,
  many_more (sitting_at k name_of memory_of) (asked_at answers) n (n + 1) f a b c p (u, e) (v, e') refl before
      (record { next = h.0; answer = h.1.0; adds = h.1.1; memory = h.1.2; asked_it = h.1.3; seat = refl; name = name; counted = count }),
)
one_more {X} name_of memory_of answers k n a b c p u v e e' heard.Nothing before h name count =
    let same : ◌≡◌ {A = X × ℕ} (v, e') (u, e) = subst (λ (x : X). ◌≡◌ {A = X × ℕ} (v, e') (x, e)) h.3 (subst (λ (i : ℕ). ◌≡◌ {A = X × ℕ} (v, e') (v, i)) count refl) in
    (n, many_same (sitting_at k name_of memory_of) (asked_at answers) n a b c p (u, e) (v, e') before h.1 same)

pub box_none : {I : Type 0} {D : I → Type 0} (name_of : (i : I) → D i → ℕ) (memory_of : (i : I) → D i → MemoryValue) (answers : (i : I) → D i → Question → Bool → D i → Type 0) (k : ℕ) (g : GarageValue) (b : DynBox I Global D) (e : ℕ)
    → BoxHeard name_of memory_of answers k g b e g b e
box_none name_of memory_of answers k g b e = (b.value, 0, refl, many_none (sitting_at k (name_of b.vtable) (memory_of b.vtable)) (asked_at (answers b.vtable)) g (b.value, e))

-- one more hearing of the box
pub box_more : {I : Type 0} {D : I → Type 0} (name_of : (i : I) → D i → ℕ) (memory_of : (i : I) → D i → MemoryValue) (answers : (i : I) → D i → Question → Bool → D i → Type 0) (k j : ℕ) (a g g' : GarageValue) (init b b' : DynBox I Global D) (e0 e e' : ℕ) (h : HeardOne) (v : D b.vtable)
    → BoxHeard name_of memory_of answers k a init e0 g b e → j ≡ k → b' ≡ record b { value = v } → Hears g j (memory_of b.vtable b.value) (answers b.vtable b.value) b.value h g' (memory_of b'.vtable b'.value) v → name_of b'.vtable b'.value ≡ name_of b.vtable b.value → e' ≡ counted_hearing e h
    → BoxHeard name_of memory_of answers k a init e0 g' b' e'
box_more {I} {D} name_of memory_of answers k j a g g' init b b' e0 e e' h v before seat same hears name count =
    let u = before.0 in
    let now : DynBox I Global D = record init { value = u } in
    let R : DynBox I Global D → Type 0 = λ x. (w : D x.vtable) → b' ≡ record x { value = w } → Hears g j (memory_of x.vtable x.value) (answers x.vtable x.value) x.value h g' (memory_of b'.vtable b'.value) w → name_of b'.vtable b'.value ≡ name_of x.vtable x.value
    → BoxHeard name_of memory_of answers k a init e0 g' b' e' in
    let at_now : R now = λ w is hears' name'.
    (let memory : memory_of b'.vtable b'.value ≡ memory_of init.vtable w = ap (λ (y : DynBox I Global D). memory_of y.vtable y.value) is in
    let named : name_of b'.vtable b'.value ≡ name_of init.vtable w = ap (λ (y : DynBox I Global D). name_of y.vtable y.value) is in
    let here = subst (λ (i : ℕ). Hears g i (memory_of init.vtable u) (answers init.vtable u) u h g' (memory_of b'.vtable b'.value) w) seat hears' in
    let m = one_more (name_of init.vtable) (memory_of init.vtable) (answers init.vtable) k before.1 a g g' (init.value, e0) u w e e' h before.3
    (subst (λ (x : MemoryValue). Hears g k (memory_of init.vtable u) (answers init.vtable u) u h g' x w) memory here) (sym named ∙ name') count in
    (w, m.0, is, m.1)) in
    subst R (sym before.2) at_now v same hears name

pub box_same : {I : Type 0} {D : I → Type 0} (name_of : (i : I) → D i → ℕ) (memory_of : (i : I) → D i → MemoryValue) (answers : (i : I) → D i → Question → Bool → D i → Type 0) (k : ℕ) (a g g' : GarageValue) (init b b' : DynBox I Global D) (e0 e e' : ℕ)
    → BoxHeard name_of memory_of answers k a init e0 g b e → g' ≡ g → b' ≡ b → e' ≡ e → BoxHeard name_of memory_of answers k a init e0 g' b' e'
box_same {I} {D} name_of memory_of answers k a g g' init b b' e0 e e' h same box count =
    subst (λ (v : GarageValue). BoxHeard name_of memory_of answers k a init e0 v b' e') (sym same)
    (subst (λ (x : DynBox I Global D). BoxHeard name_of memory_of answers k a init e0 g x e') (sym box) (subst (λ (n : ℕ). BoxHeard name_of memory_of answers k a init e0 g b n) (sym count) h))

-- a whole turn
pub turn_in_box : {I : Type 0} {D : I → Type 0} (name_of : (i : I) → D i → ℕ) (wants : (i : I) → D i → Bool) (memory_of : (i : I) → D i → MemoryValue) (answers : (i : I) → D i → Question → Bool → D i → Type 0) (k j i : ℕ) (a b c d : GarageValue) (box x y z : DynBox I Global D) (e e' : ℕ)
    → BoxHeard name_of memory_of answers k a box e b x e' → HasHeardAll k b → j ≡ k → i ≡ k → c ≡ begun_by j (wants x.vtable x.value) (memory_of x.vtable x.value) b → Adds c (Turned i) d → y ≡ x → z ≡ y → IsTurnInBox name_of wants memory_of answers k a box e d z
turn_in_box {I} {D} name_of wants memory_of answers k j i a b c d box x y z e e' heard all seat seat' begun turned same same' =
    let is : z ≡ x = same' ∙ same in
    subst (λ (w : DynBox I Global D). IsTurnInBox name_of wants memory_of answers k a box e d w) (sym is) (record {
      heard = b;
      events = e';
      box = heard;
      all = all;
      turned = turned.adds ∙ (ap (λ (n : ℕ). with_event (Turned n) c) seat' ∙ ap (λ (v : GarageValue). with_event (Turned k) v) (begun ∙ ap (λ (n : ℕ). begun_by n (wants x.vtable x.value) (memory_of x.vtable x.value) b) seat));
    })

-- the same of what was handed over and is given back
pub box_of : {I : Type 0} {D : I → Type 0} (name_of : (i : I) → D i → ℕ) (wants : (i : I) → D i → Bool) (memory_of : (i : I) → D i → MemoryValue) (answers : (i : I) → D i → Question → Bool → D i → Type 0) (k j e e' : ℕ) (a a' b b' : GarageValue) (x x' y y' : DynBox I Global D)
    → IsTurnInBox name_of wants memory_of answers j a' x' e' b' y' → j ≡ k → a' ≡ a → x' ≡ x → e' ≡ e → b ≡ b' → y ≡ y' → IsTurnInBox name_of wants memory_of answers k a x e b y
box_of {I} {D} name_of wants memory_of answers k j e e' a a' b b' x x' y y' turn seat start box count last back =
    subst (λ (w : DynBox I Global D). IsTurnInBox name_of wants memory_of answers k a x e b w) (sym back)
    (subst (λ (v : GarageValue). IsTurnInBox name_of wants memory_of answers k a x e v y') (sym last)
    (subst (λ (n : ℕ). IsTurnInBox name_of wants memory_of answers k a x n b' y') count
    (subst (λ (w : DynBox I Global D). IsTurnInBox name_of wants memory_of answers k a w e' b' y') box
    (subst (λ (v : GarageValue). IsTurnInBox name_of wants memory_of answers k v x' e' b' y') start
    (subst (λ (n : ℕ). IsTurnInBox name_of wants memory_of answers n a' x' e' b' y') seat turn)))))

pub of_ok : {T E : Type 0} (r : Result T E) (x : T) (P : T → Type 0) → r ≡ Ok x → IfOk r P → P x
of_ok {T} {E} r x P e h = subst (λ (y : Result T E). IfOk y P) e h
