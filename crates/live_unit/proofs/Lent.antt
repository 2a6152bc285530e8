-- A boxed unit that was lent to a call and came back.
use Rattle.std.proofs.Common.{◌≡◌, refl, subst, ap, ◌∙◌, OnErr, IfOk, Result, Ok, Err}
use Rattle.std.specs.declared.alloc.Global.{Global}
use Rattle.std.specs.declared.dyn_box.DynBox.{DynBox}

-- the box with that value in it
abbrev boxed : {I : Type 0} {D : I → Type 0} → DynBox I Global D → ((i : I) × D i) → DynBox I Global D
boxed b s = record { ptr = b.ptr; vtable = s.0; alloc = b.alloc; value = s.1 }

-- what was said of the lent unit is said of the one in the box
pub lent : {I : Type 0} {D : I → Type 0} (R : (i : I) → D i → D i → Type 0) (b : DynBox I Global D) (q : (i : I) × D i) (v : D q.0) → q ≡ (b.vtable, b.value) → R q.0 q.1 v
    → (u : D b.vtable) × (record { ptr = b.ptr; vtable = q.0; alloc = b.alloc; value = v } ≡ record b { value = u }) × R b.vtable b.value u
lent {I} {D} R b q v e r =
    let back : DynBox I Global D = record { ptr = b.ptr; vtable = q.0; alloc = b.alloc; value = v } in
    subst (λ (s : (i : I) × D i). (u : D s.0) × (back ≡ record { ptr = b.ptr; vtable = s.0; alloc = b.alloc; value = u }) × R s.0 s.1 u) e (v, refl, r)

-- the same, where another is said to have come back
pub lent_as : {I : Type 0} {D : I → Type 0} (R : (i : I) → D i → D i → Type 0) (b : DynBox I Global D) (q : (i : I) × D i) (v w : D q.0) → ◌≡◌ {A = (i : I) × D i} (q.0, v) (q.0, w) → q ≡ (b.vtable, b.value) → R q.0 q.1 w
    → (u : D b.vtable) × (record { ptr = b.ptr; vtable = q.0; alloc = b.alloc; value = v } ≡ record b { value = u }) × R b.vtable b.value u
lent_as R b q v w same e r = let l = lent R b q w e r in (l.0, ap (boxed b) same ∙ l.1, l.2)

-- the same of a call that may be refused
pub lent_if_ok : {I T E : Type 0} {D : I → Type 0} (r : Result T E) (R : T → (i : I) → D i → D i → Type 0) (b : DynBox I Global D) (q : (i : I) × D i) (v : D q.0) → q ≡ (b.vtable, b.value)
    → IfOk r (λ h. (w : D q.0) × ◌≡◌ {A = (i : I) × D i} (q.0, v) (q.0, w) × R h q.0 q.1 w)
    → IfOk r (λ h. (u : D b.vtable) × (record { ptr = b.ptr; vtable = q.0; alloc = b.alloc; value = v } ≡ record b { value = u }) × R h b.vtable b.value u)
lent_if_ok (Ok h) R b q v e x = lent_as (R h) b q v x.0 x.1 e x.2
lent_if_ok (Err e') R b q v e x = tt

-- one that came back as it was
given_back : {I : Type 0} {D : I → Type 0} (b : DynBox I Global D) (q : (i : I) × D i) (v : D q.0) → (q.0, v) ≡ q → q ≡ (b.vtable, b.value)
    → record { ptr = b.ptr; vtable = q.0; alloc = b.alloc; value = v } ≡ b
given_back b q v same e = ap (boxed b) (same ∙ e)

pub given_back_on_err : {I T E : Type 0} {D : I → Type 0} (r : Result T E) (b : DynBox I Global D) (q : (i : I) × D i) (v : D q.0) → q ≡ (b.vtable, b.value) → OnErr r ((q.0, v) ≡ q)
    → OnErr r (record { ptr = b.ptr; vtable = q.0; alloc = b.alloc; value = v } ≡ b)
given_back_on_err (Ok x) b q v e same = tt
given_back_on_err (Err x) b q v e same = given_back b q v same e

-- what holds anyhow holds of a call that was refused
pub on_err : {T E P : Type 0} (r : Result T E) → P → OnErr r P
on_err (Ok x) p = tt
on_err (Err e) p = p
