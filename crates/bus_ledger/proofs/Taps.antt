-- The windows of a bus, one for each station.
use Rattle.std.proofs.Common.{ℕ, suc, zero, ◌≡◌, ◌<◌, List, [], ◌∷◌, map, length, set, refl, sym, ap, ◌∙◌, subst, arith}
use Rattle.std.proofs.lemmas.List.{length-map}
use Rattle.bus_ledger.specs.BusValue.{BusValue, IsStation}
use Rattle.bus_ledger.specs.Inside.{bus_value_of, tap_at, IsKept}
use Rattle.bus_ledger.specs.Window.{pushed, WindowValue, size_of, taken_in, window_in, window_of}
use Rattle.can_frame.specs.FrameValue.{FrameValue}
use Rattle.bus_ledger.specs.declared.bus.Bus.TheInside.{Inside}
use Rattle.bus_ledger.proofs.Windows.{taken_size}

-- windows of the same sizes
pub same_sizes : (ws xs : List WindowValue) → length ws ≡ length xs → ((y : ℕ) → y < length ws → (window_in ws y).size ≡ (window_in xs y).size) → map size_of ws ≡ map size_of xs
same_sizes [] [] e h = refl
same_sizes [] (x ∷ xs) e h = absurd (omega arith)
same_sizes (w ∷ ws) [] e h = absurd (omega arith)
same_sizes (w ∷ ws) (x ∷ xs) e h =
    let first : w.size ≡ x.size = h 0 (omega arith) in
    let rest = same_sizes ws xs (omega arith) (λ y l. h (suc y) (omega arith)) in
    ap (λ (n : ℕ). n ∷ map size_of ws) first ∙ ap (λ (l : List ℕ). x.size ∷ l) rest

-- as many windows as stations
pub stations_are : (a : Inside) (v : BusValue) → bus_value_of a ≡ v → length v.traffic.windows ≡ length a.receive_windows.items
stations_are a v is = ap (λ (b : BusValue). length b.traffic.windows) (sym is) ∙ length-map a.receive_windows.items size_of

pub station_within : (a : Inside) (v : BusValue) (y : ℕ) → bus_value_of a ≡ v → IsStation v.traffic y → y < length a.receive_windows.items
station_within a v y is h = let n = stations_are a v is in omega arith

-- a station's window as callers see it
pub tap_is : (a : Inside) (v : BusValue) (y : ℕ) → bus_value_of a ≡ v → IsKept a → IsStation v.traffic y → tap_at a y ≡ window_of v.traffic y
tap_is a v y is kept h = kept.receive_windows y (station_within a v y is h) ∙ ap (λ (b : BusValue). window_of b.traffic y) is

-- each window took in the frame that seat k carried
pub record Takes (old new : List WindowValue) (k : ℕ) (f : FrameValue) : Type 0 where
  pub many : length new ≡ length old
  pub each : (y : ℕ) → y < length old → window_in new y ≡ taken_in y k f (window_in old y)

-- a frame from outside came into each
pub record Pushes (old new : List WindowValue) (f : FrameValue) : Type 0 where
  pub many : length new ≡ length old
  pub each : (y : ℕ) → y < length old → window_in new y ≡ pushed f (window_in old y)

pub takes_sizes : (old new : List WindowValue) (k : ℕ) (f : FrameValue) → Takes old new k f → map size_of new ≡ map size_of old
takes_sizes old new k f t =
    let n = t.many in
    same_sizes new old t.many (λ y h. ap (λ (w : WindowValue). w.size) (t.each y (omega arith)) ∙ taken_size y k f (window_in old y))

pub pushes_sizes : (old new : List WindowValue) (f : FrameValue) → Pushes old new f → map size_of new ≡ map size_of old
pushes_sizes old new f t =
    let n = t.many in
    same_sizes new old t.many (λ y h. ap (λ (w : WindowValue). w.size) (t.each y (omega arith)))

-- a window replaced by one of the same size
pub set_sizes : (ws : List WindowValue) (y : ℕ) (w : WindowValue) → w.size ≡ (window_in ws y).size → map size_of (set ws y w) ≡ map size_of ws
set_sizes [] y w e = refl
set_sizes (x ∷ xs) zero w e = ap (λ (n : ℕ). n ∷ map size_of xs) e
set_sizes (x ∷ xs) (suc y) w e = ap (λ (l : List ℕ). x.size ∷ l) (set_sizes xs y w e)

-- the same where the windows were handed over as a slice, which came back
pub takes_of : (ws read now back : List WindowValue) (k : ℕ) (f : FrameValue) → read ≡ ws → length now ≡ length read → back ≡ now
    → ((y : ℕ) → y < length read → window_in now y ≡ taken_in y k f (window_in read y)) → Takes ws back k f
takes_of ws read now back k f same long is each =
    subst (λ (l : List WindowValue). Takes ws l k f) (sym is) (subst (λ (l : List WindowValue). Takes l now k f) same (record { many = long; each = each }))

pub pushes_of : (ws read now back : List WindowValue) (f : FrameValue) → read ≡ ws → length now ≡ length read → back ≡ now
    → ((y : ℕ) → y < length read → window_in now y ≡ pushed f (window_in read y)) → Pushes ws back f
pushes_of ws read now back f same long is each =
    subst (λ (l : List WindowValue). Pushes ws l f) (sym is) (subst (λ (l : List WindowValue). Pushes l now f) same (record { many = long; each = each }))
