use Rattle.std.proofs.Common.{◌≡◌, ◌≤◌, vec_len, vec_capacity}
use Rattle.std.specs.Prelude.{replicate}
use Rattle.reassembly.specs.Tables.{empty_table}
use Rattle.bus_watch.proofs.half_texts.no_sources.Given as goal

-- so many tables are there
abbrev pub invariant-loop : goal.invariant-loop
invariant-loop l = record { items : l.sources.items ≡ replicate l.counter empty_table; len : vec_len l.sources ≡ l.counter; room : 256 ≤ vec_capacity l.sources }
