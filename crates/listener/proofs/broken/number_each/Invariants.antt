use Rattle.std.proofs.Common.{◌≡◌, ◌++◌, take, drop}
use Rattle.listener.specs.Broken.{broken_count, with_numbers}
use Rattle.listener.proofs.broken.number_each.Given as goal

-- those before the index are with_numbers, and the rest goes on from there
abbrev pub invariant-loop-message : goal.invariant-loop-message
invariant-loop-message l =
    (take l.message-index l.messages ++ with_numbers l.count (drop l.message-index l.messages) ≡ with_numbers l.before l.initial.messages)
    × (broken_count l.count (drop l.message-index l.messages) ≡ broken_count l.before l.initial.messages)
