use Rattle.std.proofs.Common.{◌<◌, ◌≤◌, ◌+◌, ◌∙◌, max, refl, rules, string_bytes, subst}
use Rattle.live_lines.proofs.PlayingLemmas.{WentSo, all_played, begun, begun_early, more_played, played_later}
use Rattle.live_lines.proofs.playback.Playback.write_until.Goals as goal

pub loop-init : goal.loop-init
loop-init g c = (
  begun g.B.OnBus.does _ _ c.args.self.now.clock c.args.until _ _ _ c.unwrap_or-now.ensures,
  begun_early c.args.self.now.clock c.args.until _ c.unwrap_or-now.ensures c.requires.late,
  refl,
  refl,
  refl,
  refl,
)

pub loop-preserved-then-branch : goal.loop-preserved-then-branch
loop-preserved-then-branch g c =
    let went = subst (λ e. WentSo g.B.OnBus.does (string_bytes e.bus) e.number c.loop.now c.in_ok-go.field-0 c.loop.self.on_bus c.go.new.self.on_bus
    (g.W.Write.contents c.loop.writer) (g.W.Write.contents c.go.new.writer)) c.loop.invariant.3 c.in_ok-go.ensures.went in (
      more_played g.B.OnBus.does _ _ _ _ _ _ _ _ _ _ went.0 c.loop.invariant.0 went.2 went.3,
      c.loop.invariant.1,
      refl,
      c.go.ensures.same.0 ∙ c.loop.invariant.3,
      c.go.ensures.same.1 ∙ c.loop.invariant.4,
      c.go.ensures.same.2 ∙ c.loop.invariant.5,
    )

pub returns-then-next-until-clause-played : goal.returns-then-next-until-clause-played
returns-then-next-until-clause-played g c =
    let went = subst (λ e. WentSo g.B.OnBus.does (string_bytes e.bus) e.number c.loop.now c.in_ok-go.field-0 c.loop.self.on_bus c.go.new.self.on_bus
    (g.W.Write.contents c.loop.writer) (g.W.Write.contents c.go.new.writer)) c.loop.invariant.3 c.in_ok-go.ensures.went in
    let late : c.args.until < max c.next.result c.saturating_add.result = search rules in
    let near : c.saturating_add.result ≤ c.loop.now + 1 = search rules in
    all_played (record { does = g.B.OnBus.does; looks = g.B.OnBus.looks }) _ _ _ c.loop.now c.args.until c.next.result c.saturating_add.result _ _ _ _ _ _ went.0
    (went.1 ∙ c.if-branch.false) c.loop.invariant.1 near late c.next.ensures c.loop.invariant.0 went.2 went.3

pub loop-preserved : goal.loop-preserved
loop-preserved g c =
    let went = subst (λ e. WentSo g.B.OnBus.does (string_bytes e.bus) e.number c.loop.now c.in_ok-go.field-0 c.loop.self.on_bus c.go.new.self.on_bus
    (g.W.Write.contents c.loop.writer) (g.W.Write.contents c.go.new.writer)) c.loop.invariant.3 c.in_ok-go.ensures.went in
    let ahead : c.loop.now ≤ c.max-next.result = search rules in
    let early : c.max-next.result ≤ c.args.until = search rules in (
      played_later g.B.OnBus.does _ _ _ c.loop.now c.max-next.result _ _ _ _ ahead (more_played g.B.OnBus.does _ _ _ _ _ _ _ _ _ _ went.0 c.loop.invariant.0 went.2 went.3),
      early,
      refl,
      c.go.ensures.same.0 ∙ c.loop.invariant.3,
      c.go.ensures.same.1 ∙ c.loop.invariant.4,
      c.go.ensures.same.2 ∙ c.loop.invariant.5,
    )
