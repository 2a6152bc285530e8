use Rattle.std.proofs.Common.{◌≡◌, ◌+◌, ◌-◌, ◌*◌, ◌≤◌, ◌++◌, length, take, vec_len, vec_capacity}
use Rattle.dm_messages.specs.View.{codes_bytes}
use Rattle.dm_messages.proofs.writing.write_groups.Given as goal

-- the codes so far are written, and there is room for the others
abbrev pub invariant-loop-code : goal.invariant-loop-code
invariant-loop-code l = record {
  written : l.bytes.items ≡ l.initial.bytes.items ++ codes_bytes (take l.code-index l.codes);
  room : vec_len l.bytes + 4 * (length l.codes - l.code-index) ≤ vec_capacity l.bytes;
}
