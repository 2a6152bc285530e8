use Rattle.std.proofs.Common.{ℕ, ◌≡◌, ◌≢◌, ◌<◌, ◌∙◌, arith, sym}
use borrow.Author.Count.{below_more}
use Rattle.std.specs.Int.{bit_at}
use Rattle.vehicle.specs.Moving.{bit_of, place}
use Rattle.vehicle.proofs.FieldLemmas.{one_place, tested}
use Rattle.vehicle.proofs.field_bits.FieldBits.put.Goals as goal

pub loop-bit-preserved : goal.loop-bit-preserved
loop-bit-preserved c =
    let f = c.args.self.now in
    let last = c.loop-bit.bit in
    let more = c.put_bit.new.bytes in
    let P : ℕ → Type 0 = λ i. bit_of more (place f i) ≡ bit_at c.args.value i in
    let here : P last = rw c.place.ensures at c.put_bit.ensures.here ∙ tested c.args.value last in
    let others : (n : ℕ) → n ≢ place f last → bit_of more n ≡ bit_of c.loop-bit.bytes n = rw c.place.ensures at c.put_bit.ensures.others in
    let before : (i : ℕ) → i < last → P i =
    λ i below. others (place f i) (λ e. absurd (let same : i ≡ last = one_place f.order f.start f.size i last (omega arith) (omega arith) e in omega arith)) ∙ c.loop-bit.invariant.shows i below in
    record {
      shows = below_more P last before here;
      others = λ n apart. others n (λ e. apart last (omega arith) (sym e)) ∙ c.loop-bit.invariant.others n (λ i below. apart i (omega arith));
    }
