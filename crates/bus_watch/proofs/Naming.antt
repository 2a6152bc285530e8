-- A reading that was taken, once the bus is named; and what was told of it.
use Rattle.std.proofs.Common.{◌≡◌, ℕ, List, Option, Some, refl, sym, ap, ◌∙◌, subst}
use Rattle.std.specs.Borrow.{Bor}
use Rattle.std.specs.Prelude.{Result, Ok, Err, IfOk}
use Rattle.address_claim.specs.Frames.{claim_frame_value}
use Rattle.can_frame.specs.declared.reading.Reading.{Reading}
use Rattle.can_frame.specs.declared.reading.Reading.TheVariants.{Frame}
use Rattle.parameter_group.specs.Group.{Group}
use Rattle.bus_watch.specs.Followed.{Followed, followed_with, bus_after, renamed, with_bus, with_bus_name}
use Rattle.bus_watch.specs.Told.{Assumed, IsToldAs}
use Rattle.bus_watch.specs.WatchValue.{Takes, Tells, WatchValue}
use Rattle.bus_watch.specs.declared.change.Changes.{Changes}
use Rattle.bus_watch.proofs.Steps.{told_of_assumed}

-- a watch that knows another thing of the bus
abbrev pub knowing : WatchValue → Followed → WatchValue
knowing w f = record w { followed = f }

pub takes_knowing : (old mid new : WatchValue) (x : Reading) (at : Option ℕ) (f : Followed) → Takes old mid x at old.followed → new ≡ knowing mid f → Takes old new x at f
takes_knowing old mid new x at f t e = subst (λ (w : WatchValue). Takes old w x at f) (sym e) (record {
  stands = λ b h s. (let now = t.stands b h s in record {
    listener = now.listener;
    shows = now.shows;
    time = now.time;
    contests = now.contests;
    lists = now.lists;
    runs = now.runs;
    kept = now.kept;
    units = now.units;
    told = now.told;
    before = now.before;
    partly = now.partly;
    pairs = now.pairs;
  });
  followed = refl;
})

pub tells_knowing : (old mid new : WatchValue) (x : Reading) (f : Followed) (c : Changes) → Tells old mid x c → new ≡ knowing mid f → Tells old new x c
tells_knowing old mid new x f c t e = subst (λ (w : WatchValue). Tells old w x c) (sym e) (λ b h s. t b h s)

-- the bus is named where it was not
pub named_takes : (old mid new : WatchValue) (x : Reading) (at : Option ℕ) (o : Option (List ℕ)) (bus : Option (Bor (List ℕ))) → Takes old mid x at old.followed → renamed o old.followed.bus ≡ bus_after old.followed.bus bus
    → new ≡ knowing mid (with_bus_name o mid.followed) → Takes old new x at (with_bus bus old.followed)
named_takes old mid new x at o bus t name e =
    let f : with_bus_name o mid.followed ≡ with_bus bus old.followed =
    ap (with_bus_name o) t.followed ∙ ap (λ (b : Option (List ℕ)). record old.followed { bus = b }) name in
    takes_knowing old mid new x at (with_bus bus old.followed) t (e ∙ ap (knowing mid) f)

-- also where a frame is followed
pub named_frame : (old mid new : WatchValue) (x : Reading) (at : Option ℕ) (g : Group) (o : Option (List ℕ)) → Takes old mid x at (followed_with at g old.followed)
    → new ≡ knowing mid (with_bus_name o mid.followed) → Takes old new x at (followed_with at g (with_bus_name o old.followed))
named_frame old mid new x at g o t e = subst (λ (w : WatchValue). Takes old w x at (followed_with at g (with_bus_name o old.followed))) (sym e) (record {
  stands = λ b h s. (let now = t.stands b h s in record {
    listener = now.listener;
    shows = now.shows;
    time = now.time;
    contests = now.contests;
    lists = now.lists;
    runs = now.runs;
    kept = now.kept;
    units = now.units;
    told = now.told;
    before = now.before;
    partly = now.partly;
    pairs = now.pairs;
  });
  followed = ap (with_bus_name o) t.followed;
})

pub named_tells : (old mid new : WatchValue) (x : Reading) (o : Option (List ℕ)) (c : Changes) → Tells old mid x c → new ≡ knowing mid (with_bus_name o mid.followed) → Tells old new x c
named_tells old mid new x o c t e = tells_knowing old mid new x (with_bus_name o mid.followed) c t e

-- ---- at a call's answer

pub told_assumed_ok : {E : Type 0} (result : Result Changes E) (old new : WatchValue) (name address : ℕ) (x : Reading) → x ≡ Frame (claim_frame_value name (Some address))
    → IfOk result (λ c. Tells old new x c) → IfOk result (λ c. IsToldAs (Assumed name address) old new c)
told_assumed_ok (Ok c) old new name address x e t = told_of_assumed old new name address x c e t
told_assumed_ok (Err r) old new name address x e t = tt

-- a reading that was worked out
pub tells_as_ok : {E : Type 0} (result : Result Changes E) (start old new : WatchValue) (x y : Reading) → start ≡ old → x ≡ y → IfOk result (λ c. Tells start new x c) → IfOk result (λ c. Tells old new y c)
tells_as_ok (Ok c) start old new x y same e t = subst (λ (v : Reading). Tells old new v c) e (subst (λ (w : WatchValue). Tells w new x c) same t)
tells_as_ok (Err r) start old new x y same e t = tt
