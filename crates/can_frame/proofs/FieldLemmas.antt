use Rattle.std.proofs.Common.{◌≡◌, ℕ, ◌+◌, ◌*◌, ◌/◌, ◌%◌, ◌^◌, ◌<◌, bit_or, arith, ap}
use Rattle.std.proofs.lemmas.Nat.{or_shifted}
use Rattle.can_frame.specs.Fields.{pdu2_number}

-- the priority, the 18 bits in the middle and the source, joined by shifts and `|`
pub joined_bits : (p m s : ℕ) → p < 8 → m < 2 ^ 18 → s < 256 → bit_or (bit_or (p * 2 ^ 26 % 2 ^ 32) (m * 2 ^ 8 % 2 ^ 32)) s ≡ pdu2_number p m s
joined_bits p m s hp hm hs =
    let first : p * 2 ^ 26 % 2 ^ 32 ≡ p * 2 ^ 26 = omega arith in
    let second : m * 2 ^ 8 % 2 ^ 32 ≡ m * 2 ^ 8 = omega arith in
    let both : bit_or (p * 2 ^ 26) (m * 2 ^ 8) ≡ p * 2 ^ 26 + m * 2 ^ 8 = or_shifted p 26 (m * 2 ^ 8) (omega arith) in
    let one : p * 2 ^ 26 + m * 2 ^ 8 ≡ (p * 2 ^ 18 + m) * 2 ^ 8 = omega arith in
    let last : bit_or ((p * 2 ^ 18 + m) * 2 ^ 8) s ≡ (p * 2 ^ 18 + m) * 2 ^ 8 + s = or_shifted (p * 2 ^ 18 + m) 8 s (omega arith) in
    rw (first, second, both, one, last) (omega arith)

-- a byte joined to a number whose low byte is 0
pub or_low : (m d : ℕ) → m % 256 ≡ 0 → d < 256 → bit_or m d ≡ m + d
or_low m d hm hd =
    let shape : m ≡ m / 256 * 2 ^ 8 = omega arith in
    let e : bit_or (m / 256 * 2 ^ 8) d ≡ m / 256 * 2 ^ 8 + d = or_shifted (m / 256) 8 d hd in
    rw (ap (λ x. bit_or x d) shape, e) (omega arith)
