-- A packet that is the next one is none that comes again.
use Rattle.std.proofs.Common.{◌≡◌, ℕ, suc, Bool, true, false, ◌&&◌, List, length, Option, Some, arith, refl}
use Rattle.std.specs.Prelude.{nat_le}
use Rattle.std.proofs.lemmas.Bool.Decides.{nat_tests}
use Rattle.reassembly.specs.Pacing.{fate_of, is_over_if, lets_come_if, packet_number, paced, step_of, was_read}
use Rattle.reassembly.specs.Partials.{PartialValue}
use Rattle.reassembly.specs.declared.paces.Fate.TheVariants.{Read}
use Rattle.reassembly.specs.declared.pacing.Pace.{Pace}
use Rattle.reassembly.specs.declared.pacing.Silence.{Silence}

and_false : (b : Bool) → (b && false) ≡ false
and_false true = refl
and_false false = refl

not_read : (bytes : List ℕ) (half : PartialValue ℕ) → packet_number bytes ≡ suc (length half.pieces) → was_read bytes (Some half) ≡ false
not_read bytes half next =
    let past : nat_le (packet_number bytes) (length half.pieces) ≡ false = grind (arith, nat_tests) in
    rw (past) (and_false (nat_le 1 (packet_number bytes)))

pub next_is_read : (silence : Silence) (now : Option ℕ) (bytes : List ℕ) (pace : Option Pace) (half : PartialValue ℕ) → packet_number bytes ≡ suc (length half.pieces) → is_over_if (paced silence now (step_of bytes) pace) ≡ false
    → fate_of silence now bytes pace (Some half) ≡ Read
next_is_read silence now bytes pace half next timely = rw (timely, not_read bytes half next, and_false (lets_come_if pace (packet_number bytes))) refl
