-- A unit that has heard all but the last frame of the wire.
use Rattle.std.proofs.Common.{◌≡◌, ◌-◌, ◌+◌, ◌≤◌, ℕ, suc, zero, List, [], ◌∷◌, length, slice_get, Option, Some, None, arith, sym, ap, ◌∙◌, refl}
use Rattle.std.specs.Option.{option_map}
use Rattle.can_frame.specs.FrameValue.{FrameValue}
use Rattle.bus_ledger.specs.BusValue.{seat_at}
use Rattle.bus_ledger.specs.declared.traffic.CarriedFrame.{CarriedFrame}
use Rattle.journal.specs.Journal.{GarageValue, state_of}
use Rattle.journal.specs.Steps.{next_for}
use Rattle.garage.specs.Hearing.{HasHeardAll, last_frame}

none_past : (xs : List CarriedFrame) (i : ℕ) → length xs ≤ i → slice_get xs i ≡ None
none_past [] i h = refl
none_past (x ∷ xs) zero h = absurd (omega arith)
none_past (x ∷ xs) (suc i) h = none_past xs i (omega arith)

-- a seat that has heard so many frames as there are has heard all
pub heard_all : (g : GarageValue) (k : ℕ) → length (state_of g).traffic.wire ≤ (seat_at (state_of g).traffic k).heard → HasHeardAll k g
heard_all g k h = ap (λ (o : Option CarriedFrame). option_map (λ (c : CarriedFrame). c.frame) o) (none_past (state_of g).traffic.wire (seat_at (state_of g).traffic k).heard h)

-- one that has heard all but one has the last one before it
pub next_is_last : (g : GarageValue) (k : ℕ) (f : FrameValue) → (seat_at (state_of g).traffic k).heard + 1 ≡ length (state_of g).traffic.wire → last_frame g ≡ Some f → next_for (state_of g) k ≡ Some f
next_is_last g k f one last =
    let i = (seat_at (state_of g).traffic k).heard in
    let place : i ≡ length (state_of g).traffic.wire - 1 = omega arith in
    ap (λ (n : ℕ). option_map (λ (c : CarriedFrame). c.frame) (slice_get (state_of g).traffic.wire n)) place ∙ last

-- where there is a frame, it is the last one
pub last_is : (g : GarageValue) (wire : List CarriedFrame) (n : ℕ) (o : Option FrameValue) (f : FrameValue) → wire ≡ (state_of g).traffic.wire → n + 1 ≡ length wire → o ≡ option_map (λ (c : CarriedFrame). c.frame) (slice_get wire n) → o ≡ Some f → last_frame g ≡ Some f
last_is g wire n o f same count is some =
    let place : length wire - 1 ≡ n = omega arith in
    ap (λ (w : List CarriedFrame). option_map (λ (c : CarriedFrame). c.frame) (slice_get w (length w - 1))) (sym same)
    ∙ (ap (λ (i : ℕ). option_map (λ (c : CarriedFrame). c.frame) (slice_get wire i)) place ∙ (sym is ∙ some))
