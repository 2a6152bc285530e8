use Rattle.std.proofs.Common.{◌≡◌, ◌≤◌, ◌-◌, ◌/◌, ◌^◌, arith, lit<}
use Rattle.std.proofs.Math.Nat.{pow-le-pow_right}
use Rattle.std.proofs.lemmas.Nat.Bits.{ones_shr}
use Rattle.vehicle.proofs.field_bits.FieldBits.greatest.Goals as goal

pub returns : goal.returns
returns c =
    let size = c.args.self.now.size in
    let same : 32 - (32 - size) ≡ size = omega arith in
    let all : (2 ^ 32 - 1) / 2 ^ (32 - size) ≡ 2 ^ size - 1 = rw same at (ones_shr 32 (32 - size) (omega arith)) in
    let two : 2 ^ 1 ≤ 2 ^ size = pow-le-pow_right (lit< tt) {i = 1} {j = size} (omega arith) in
    record { all = all; some = rw all (omega arith) }
