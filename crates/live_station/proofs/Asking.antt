-- A packet is asked for again twice at most.
use Rattle.std.proofs.Common.{◌≡◌, ℕ, ◌==◌, ◌+◌, min, nat_le, Bool, true, false, if◌then◌else◌, arith, refl}
use Rattle.std.proofs.lemmas.Bool.{eq-eqb, le-leb}
use Rattle.dm_messages.specs.View.{pgn_of_kind}
use Rattle.live_unit.specs.declared.aborting.TheConstants.{ASKED_TOO_OFTEN}
use Rattle.station_table.specs.declared.session.Session.{Session}
use Rattle.transport.specs.declared.control.Control.TheVariants.{Abort}
use Rattle.live_station.specs.Losses.{control_again, is_asked_enough, next_packet, times_again, watch_asked, watch_passed}
use Rattle.live_station.specs.declared.loss.TheConstants.{LEFT_ALONE}
use Rattle.live_station.specs.declared.loss.Watch.{Watch}

twice_is_enough : (b : Bool) (n : ℕ) → b ≡ true → nat_le 2 (if b then min ((if b then min (n + 1) 255 else 0) + 1) 255 else 0) ≡ true
twice_is_enough true n e = le-leb 2 _ (omega arith)
twice_is_enough false n e = absurd cc

given_up : (j : Session) (w : Watch) → is_asked_enough j w ≡ true → (reason : ℕ) × (control_again j w ≡ Abort reason (pgn_of_kind j.kind))
given_up j w e = (if w.ended then ASKED_TOO_OFTEN else LEFT_ALONE, rw e refl)

pub given_up_behind_two : (j : Session) (w : Watch) (first second between behind number other : ℕ)
    → (reason : ℕ) × (control_again j (watch_passed other behind (watch_asked j second (watch_passed number between (watch_asked j first w)))) ≡ Abort reason (pgn_of_kind j.kind))
given_up_behind_two j w first second between behind number other =
    given_up j (watch_passed other behind (watch_asked j second (watch_passed number between (watch_asked j first w))))
    (twice_is_enough (next_packet j == next_packet j) (times_again j w) (eq-eqb (next_packet j) (next_packet j) refl))
