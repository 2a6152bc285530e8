-- A carry for which the journal has no room.
use Rattle.std.proofs.Common.{◌≡◌, ◌+◌, ◌<◌, length, Result, Err, IsErrOf, sym, ap, ◌∙◌, subst, arith}
use Rattle.std.specs.Prelude.{◌↔◌}
use Rattle.bus_ledger.specs.Newcomers.{live_units}
use Rattle.journal.specs.Journal.{GarageValue}
use Rattle.garage.specs.Inside.{garage_value_of, Stands}
use Rattle.garage.specs.Room.{IsFull}
use Rattle.garage.specs.declared.error.GarageError.{GarageError}
use Rattle.garage.specs.declared.error.GarageError.TheVariants.{BookFull}
use Rattle.garage.specs.declared.garage.Garage.TheInside.{Inside}

-- what a garage without room for its next event is to its callers
full_of : (a : Inside) (v : GarageValue) → garage_value_of a ≡ v → Stands a → a.limit < length a.journal + (a.live + 1) → IsFull v
full_of a v is stands h =
    let lives = ap live_units stands.traffic in
    let live = stands.live in
    let now : IsFull (garage_value_of a) = omega arith in
    subst IsFull is now

full_back : (a : Inside) (v : GarageValue) → garage_value_of a ≡ v → Stands a → IsFull v → a.limit < length a.journal + (a.live + 1)
full_back a v is stands full =
    let lives = ap live_units stands.traffic in
    let live = stands.live in
    let now : IsFull (garage_value_of a) = subst IsFull (sym is) full in
    omega arith

-- a call that answers what `check_room` did
pub full_told : {T U : Type 0} (a : Inside) (v : GarageValue) (y : Result T GarageError) (x : Result U GarageError) (e : GarageError) → garage_value_of a ≡ v → Stands a → y ≡ Err e → x ≡ Err e
    → (IsErrOf y BookFull ↔ (a.limit < length a.journal + (a.live + 1))) → IsErrOf x BookFull ↔ IsFull v
full_told a v y x e is stands refused told room = (
  (λ h. full_of a v is stands (room.0 (let same : e ≡ BookFull = cc in refused ∙ ap Err same))),
  (λ full. (let h : y ≡ Err BookFull = room.1 (full_back a v is stands full) in let same : e ≡ BookFull = cc in told ∙ ap Err same)),
)
