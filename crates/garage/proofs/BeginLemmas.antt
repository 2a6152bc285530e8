-- A DM1 that a unit begins.
use Rattle.std.proofs.Common.{ℕ, ◌≡◌, ◌-◌, ◌<◌, Bool, true, false, IsErrOf, Option, Some, None, Result, Ok, Err, IfSome, length, get_or, refl, sym, ap, subst, ◌∙◌, List}
use Rattle.std.specs.Prelude.{◌↔◌}
use Rattle.std.specs.Option.{IsNone, IsSome}
use Rattle.fault_memory.specs.Memory.{MemoryValue}
use Rattle.dm_messages.specs.declared.kind.Kind.TheVariants.{Dm1}
use Rattle.node_core.specs.Beginning.{begins}
use Rattle.node_core.specs.NodeValue.{NodeValue, is_open}
use Rattle.node_core.specs.declared.error.NodeError.{NodeError}
use Rattle.node_core.specs.declared.error.NodeError.TheVariants.{OutOfMemory, Unclaimed}
use Rattle.node_core.specs.declared.heard.Begun.{Begun}
use Rattle.node_core.specs.declared.heard.Started.{Started}
use Rattle.node_core.specs.declared.heard.Started.TheVariants as started
use Rattle.node_core.specs.declared.out.Out.{Out}
use Rattle.node_core.specs.declared.session.OpenSession.{OpenSession}
use Rattle.journal.specs.State.{UnitState, unit_at}
use Rattle.journal.specs.Journal.{GarageValue, state_of}
use Rattle.garage.specs.Calls.{BeginsFull}
use Rattle.garage.specs.Causes.{BeginsWith}
use Rattle.garage.specs.Room.{IsFull}
use Rattle.garage.specs.declared.error.GarageError.{GarageError}
use Rattle.garage.specs.declared.error.GarageError.TheVariants.{BookFull}
use Rattle.garage.specs.declared.answers.Begin.{Begin}
use Rattle.garage.specs.Inside.{garage_value_of, Stands}
use Rattle.garage.specs.declared.garage.Place.{Place}
use Rattle.garage.specs.declared.garage.Garage.TheInside.{Inside}
use Rattle.garage.proofs.Standing.{state, unit_is}

-- what was begun, by an address that is held
begins_at : (held : Option ℕ) (session : Option OpenSession) (memory : MemoryValue) (st : Started) (b : Begun) (put : List Out) → st ≡ started.Begun b put
    → ((◌≡◌ {A = Result Started NodeError} (Ok st) (Err Unclaimed)) ↔ IsNone held) → IfSome held (λ source. st ≡ begins session Dm1 memory source)
    → (source : ℕ) × (x : Begun) × (held ≡ Some source) × (started.Begun x put ≡ begins session Dm1 memory source)
begins_at None session memory st b put is unclaimed did = let clash = unclaimed.1 refl in absurd cc
begins_at (Some source) session memory st b put is unclaimed did = (source, b, refl, sym is ∙ did)

-- so the unit on that seat begins, as callers see the garage
pub begins_with : (a : Inside) (v : GarageValue) (seat : ℕ) (x : Place) (memory : MemoryValue) (st : Started) (b : Begun) (put : List Out) → garage_value_of a ≡ v → Stands a
    → seat - a.stations < length a.places.items → x ≡ get_or a.places.items (seat - a.stations) x → st ≡ started.Begun b put
    → ((◌≡◌ {A = Result Started NodeError} (Ok st) (Err Unclaimed)) ↔ IsNone x.node.claimer.held) → IfSome x.node.claimer.held (λ source. st ≡ begins x.node.session Dm1 memory source)
    → BeginsWith (unit_at (state_of v) seat).node memory put
begins_with a v seat x memory st b put is stands h read began unclaimed did =
    let same : x.node ≡ (unit_at (state a) seat).node = sym (ap (λ (u : UnitState). u.node) (unit_is a seat x stands h read)) in
    let here : BeginsWith (unit_at (state a) seat).node memory put =
    subst (λ (n : NodeValue). BeginsWith n memory put) same (begins_at x.node.claimer.held x.node.session memory st b put began unclaimed did) in
    subst (λ (g : GarageValue). BeginsWith (unit_at (state_of g) seat).node memory put) is here

-- the same, as the fields stand, of an equal memory
pub begins_inside : (a : Inside) (v : GarageValue) (seat : ℕ) (memory given : MemoryValue) (put : List Out) → garage_value_of a ≡ v → memory ≡ given
    → BeginsWith (unit_at (state_of v) seat).node given put → BeginsWith (unit_at (state a) seat).node memory put
begins_inside a v seat memory given put is same h =
    subst (λ (m : MemoryValue). BeginsWith (unit_at (state a) seat).node m put) (sym same)
    (subst (λ (g : GarageValue). BeginsWith (unit_at (state_of g) seat).node given put) (sym is) h)

-- where memory is refused for what is begun, an address is held and no session is open, so the journal's room alone decides
pub full_unbegun : (v : GarageValue) (seat : ℕ) (n : NodeValue) (st : Result Started NodeError) (r : Result Begin GarageError) → (unit_at (state_of v) seat).node ≡ n → st ≡ Err OutOfMemory
    → ((st ≡ Err Unclaimed) ↔ IsNone n.claimer.held) → ((st ≡ Ok started.Held) ↔ (IsSome n.claimer.held × (is_open n.session Dm1 ≡ true))) → (IsErrOf r BookFull ↔ IsFull v) → BeginsFull v seat r
full_unbegun v seat n st r at memory unclaimed opened room = (λ h. (holds, shut, room.0 h), λ all. room.1 all.2)
  where
    claimed : (held : Option ℕ) → ((st ≡ Err Unclaimed) ↔ IsNone held) → IsSome held
    claimed None u = (let clash = u.1 refl in absurd cc)
    claimed (Some a) u = refl

    holds : IsSome (unit_at (state_of v) seat).node.claimer.held
    holds = subst (λ (m : NodeValue). IsSome m.claimer.held) (sym at) (claimed n.claimer.held unclaimed)

    none : (b : Bool) → is_open n.session Dm1 ≡ b → b ≡ false
    none true e = (let clash = opened.1 (claimed n.claimer.held unclaimed, e) in absurd cc)
    none false e = refl

    shut : is_open (unit_at (state_of v) seat).node.session Dm1 ≡ false
    shut = ap (λ (m : NodeValue). is_open m.session Dm1) at ∙ none (is_open n.session Dm1) refl
