use Rattle.std.proofs.Common.{◌≡◌, ◌≤◌, string_bytes}
use Rattle.std.specs.Option.{unwrap_or}
use Rattle.live_lines.proofs.PlayingLemmas.{HasPlayed}
use Rattle.live_lines.proofs.playback.Playback.write_until.Given as goal

-- what went so far was written, and nothing else changed
abbrev pub invariant-loop : goal.invariant-loop
invariant-loop g l =
    HasPlayed g.B.OnBus.does (string_bytes l.fn.self.ear.bus) l.fn.self.ear.number (unwrap_or l.fn.self.clock l.fn.until) l.now l.fn.self.on_bus l.self.on_bus
    (g.W.Write.contents l.fn.writer) (g.W.Write.contents l.writer)
    × (l.now ≤ l.fn.until)
    × (l.until ≡ l.fn.until)
    × (l.self.ear ≡ l.fn.self.ear)
    × (l.self.clock ≡ l.fn.self.clock)
    × (l.self.is_timed ≡ l.fn.self.is_timed)
