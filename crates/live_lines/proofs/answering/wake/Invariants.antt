use Rattle.std.proofs.Common.{◌≡◌, take, drop, map}
use Rattle.live_lines.specs.Own.{woken}
use Rattle.live_lines.proofs.answering.wake.Given as goal

-- those before the index are asked for where their time has come, those from it on are as they were
abbrev pub invariant-loop-one : goal.invariant-loop-one
invariant-loop-one l =
    (take l.one-index l.all ≡ map (woken l.now) (take l.one-index l.initial.all)) × (drop l.one-index l.all ≡ drop l.one-index l.initial.all)
