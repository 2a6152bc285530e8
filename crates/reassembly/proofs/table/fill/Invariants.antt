use Rattle.std.proofs.Common.{◌≡◌, ◌≤◌, None, vec_len, vec_capacity}
use Rattle.std.specs.Prelude.{replicate}
use Rattle.reassembly.proofs.table.fill.Given as goal

abbrev pub invariant-loop : goal.invariant-loop
invariant-loop g l = record { items : l.slots.items ≡ replicate l.counter None; len : vec_len l.slots ≡ l.counter; room : 256 ≤ vec_capacity l.slots }
