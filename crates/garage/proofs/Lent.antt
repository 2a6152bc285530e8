-- A boxed value that was lent and came back.
use Rattle.std.proofs.Common.{◌≡◌, refl, subst, ap, ◌∙◌, IfErr, IfOk, OnErr, OnOk, Result, Ok, Err}
use Rattle.std.specs.declared.alloc.Global.{Global}
use Rattle.std.specs.declared.dyn_box.DynBox.{DynBox}

-- the box with that value in it
abbrev boxed : {I : Type 0} {D : I → Type 0} → DynBox I Global D → ((i : I) × D i) → DynBox I Global D
boxed b s = record { ptr = b.ptr; vtable = s.0; alloc = b.alloc; value = s.1 }

-- what was said of the lent value is said of the one in the box
pub lent : {I : Type 0} {D : I → Type 0} (R : (i : I) → D i → D i → Type 0) (b : DynBox I Global D) (q : (i : I) × D i) (v : D q.0) → q ≡ (b.vtable, b.value) → R q.0 q.1 v
    → (u : D b.vtable) × (record { ptr = b.ptr; vtable = q.0; alloc = b.alloc; value = v } ≡ record b { value = u }) × R b.vtable b.value u
lent {I} {D} R b q v e r =
    let back : DynBox I Global D = record { ptr = b.ptr; vtable = q.0; alloc = b.alloc; value = v } in
    subst (λ (s : (i : I) × D i). (u : D s.0) × (back ≡ record { ptr = b.ptr; vtable = s.0; alloc = b.alloc; value = u }) × R s.0 s.1 u) e (v, refl, r)

-- the same, where another is said to have come back
pub lent_as : {I : Type 0} {D : I → Type 0} (R : (i : I) → D i → D i → Type 0) (b : DynBox I Global D) (q : (i : I) × D i) (v w : D q.0) → ◌≡◌ {A = (i : I) × D i} (q.0, v) (q.0, w) → q ≡ (b.vtable, b.value) → R q.0 q.1 w
    → (u : D b.vtable) × (record { ptr = b.ptr; vtable = q.0; alloc = b.alloc; value = v } ≡ record b { value = u }) × R b.vtable b.value u
lent_as R b q v w same e r = let l = lent R b q w e r in (l.0, ap (boxed b) same ∙ l.1, l.2)

-- one that came back as it was
pub given_back : {I : Type 0} {D : I → Type 0} (b : DynBox I Global D) (q : (i : I) × D i) (v : D q.0) → (q.0, v) ≡ q → q ≡ (b.vtable, b.value)
    → record { ptr = b.ptr; vtable = q.0; alloc = b.alloc; value = v } ≡ b
given_back b q v same e = ap (boxed b) (same ∙ e)

pub on_err : {T E P : Type 0} (r : Result T E) → P → OnErr r P
on_err (Ok x) p = tt
on_err (Err e) p = p

pub on_ok_of : {T E P Q : Type 0} (r : Result T E) → (P → Q) → OnOk r P → OnOk r Q
on_ok_of (Ok x) f p = f p
on_ok_of (Err e) f p = tt

pub if_err_of : {T E : Type 0} {P Q : E → Type 0} (r : Result T E) → ((e : E) → P e → Q e) → IfErr r P → IfErr r Q
if_err_of (Ok x) f p = tt
if_err_of (Err e) f p = f e p

pub if_err_is : {T E : Type 0} (r : Result T E) (P : E → Type 0) (e : E) → r ≡ Err e → P e → IfErr r P
if_err_is r P e is p = rw is p

pub if_ok_of : {T E : Type 0} {P Q : T → Type 0} (r : Result T E) → ((x : T) → P x → Q x) → IfOk r P → IfOk r Q
if_ok_of (Ok x) f p = f x p
if_ok_of (Err e) f p = tt

pub on_ok_if : {T E : Type 0} {P : T → Type 0} {Q : Type 0} (r : Result T E) → ((x : T) → P x → Q) → IfOk r P → OnOk r Q
on_ok_if (Ok x) f p = f x p
on_ok_if (Err e) f p = tt
