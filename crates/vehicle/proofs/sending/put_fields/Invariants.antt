use Rattle.std.proofs.Common.{ℕ, ◌≡◌, take}
use Rattle.std.specs.List.{All}
use Rattle.vehicle.specs.Moving.{IsUncovered, Shows, bit_of, value_at}
use Rattle.vehicle.proofs.sending.put_fields.Given as goal

-- the fields so far say what they are to, and no other bit changed
abbrev pub invariant-loop-field : goal.invariant-loop-field
invariant-loop-field l = record {
  shows : All (λ f. Shows f.bits (value_at f.motion l.count) l.bytes) (take l.field-index l.fields);
  others : (n : ℕ) → All (λ f. IsUncovered f.bits n) (take l.field-index l.fields) → bit_of l.bytes n ≡ bit_of l.fn.bytes n;
  none : l.field-index ≡ 0 → l.bytes ≡ l.fn.bytes;
}
