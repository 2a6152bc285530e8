-- A lane of which a frame is to go is due; and what holds of what was answered, through what follows.
use Rattle.std.proofs.Common.{◌≡◌, ℕ, Bool, true, false, Option, Some, None, Result, Ok, Err, if◌then◌else◌, refl, ap, ◌∙◌, subst}
use Rattle.std.specs.Prelude.{OnOk}
use Rattle.live_unit.specs.Times.{lane_due}
use Rattle.live_unit.specs.declared.queue.Lane.{Lane}
use Rattle.live_station.specs.Turns.{order_due}
use Rattle.live_station.specs.Losses.{watch_due}
use Rattle.live_station.specs.Working.{WorkingValue, deed_turn, free_turn_behind, is_settled, is_to_ask_claims, order_turn, outlook_of, turn_at, turn_behind}
use Rattle.live_station.specs.declared.loss.Watch.{Watch}
use Rattle.live_station.specs.declared.open.OpenOrder.{OpenOrder}
use Rattle.live_station.specs.declared.turn.Deed.{Deed}
use Rattle.live_station.specs.declared.turn.Deed.TheVariants as deed
use Rattle.live_station.specs.declared.turn.Turn.{Turn}
use Rattle.live_station.specs.declared.turn.Turn.TheVariants as turn

abbrev WritesNone : Turn → Type 0
WritesNone (turn.Writes lane) = ⊥
WritesNone _ = Unit {0}

by_case : (b : Bool) (x y : Turn) → WritesNone x → WritesNone y → WritesNone (if b then x else y)
by_case true x y p q = p
by_case false x y p q = q

deed_writes : (o : OpenOrder) (d : Deed) → WritesNone (deed_turn o d)
deed_writes o deed.Nothing = tt
deed_writes o (deed.Request to) = tt
deed_writes o (deed.Command name address part) = tt
deed_writes o (deed.Ends finding) = tt

order_writes : (now : ℕ) (s : WorkingValue) (going : Option OpenOrder) → WritesNone (order_turn now s going)
order_writes now s None = tt
order_writes now s (Some o) = deed_writes o (order_due o (outlook_of s o.order) now)

behind_writes : (now : ℕ) (s : WorkingValue) (due : Option Watch) → WritesNone (free_turn_behind due now s)
behind_writes now s None = by_case (is_to_ask_claims now s) turn.AsksClaims _ tt (order_writes now s s.order)
behind_writes now s (Some w) = tt

free_writes : (now : ℕ) (s : WorkingValue) → WritesNone (turn_behind None now s)
free_writes now s =
    by_case (is_settled now s) _ turn.Rests (behind_writes now s (watch_due s.station now s.losses)) tt

pub writes_due : (now : ℕ) (s : WorkingValue) (lane : Lane) → turn_at now s ≡ turn.Writes lane → lane_due s.clock now s.queue ≡ Some lane
writes_due now s lane e = go (lane_due s.clock now s.queue) e
  where
    go : (o : Option Lane) → turn_behind o now s ≡ turn.Writes lane → o ≡ Some lane
    go (Some l) f = (let same : l ≡ lane = cc in ap (λ (x : Lane). Some x) same)
    go None f = absurd (subst WritesNone f (free_writes now s))

pub on_ok_map : {A E : Type 0} (r : Result A E) (P Q : Type 0) → (P → Q) → OnOk r P → OnOk r Q
on_ok_map (Ok x) P Q f p = f p
on_ok_map (Err e) P Q f p = tt
