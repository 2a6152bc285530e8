use Rattle.std.proofs.Common.{◌∙◌, ap, string_bytes, sym}
use Rattle.live_lines.proofs.PlayingLemmas.{heard_line, passed_over, stands_on, stands_still}
use Rattle.live_lines.proofs.playback.Playback.take.Goals as goal

pub returns-in_ok-play-clause-played : goal.returns-in_ok-play-clause-played
returns-in_ok-play-clause-played g c =
    let same = c.in_ok-tell_missed.ensures.same in
    let bus = ap (λ e. string_bytes e.bus) same.0 ∙ c.in_ok-heard.ensures.bus in
    let all = heard_line (record { does = g.B.OnBus.does; looks = g.B.OnBus.looks }) (string_bytes c.args.self.now.ear.bus) _ _ c.play.new.self.ear.number _ _ c.args.self.now.clock _
    c.args.self.now.is_timed _ c.in_ok-heard.heard.missed c.in_ok-heard.heard.frame c.in-Some.frame _ _ _ _ _ _
    c.in_ok-heard.ensures.bus bus (sym (ap (λ e. e.number) (c.play.ensures.same ∙ same.0))) (sym (ap (λ e. e.number) c.play.ensures.same)) same.1 same.2 c.in-Some.is
    c.in_ok-tell_missed.ensures.told c.in_ok-play.ensures.played in (
      c.in_ok-heard.heard,
      all.0,
      c.in_ok-heard.ensures.read,
      all.1,
      all.2,
      stands_on c.in_ok-heard.heard.frame c.in-Some.frame _ _ _ _ _ _ c.in-Some.is same.1 same.2 c.in_ok-play.ensures.stands,
    )

pub returns-in_default-clause-played : goal.returns-in_default-clause-played
returns-in_default-clause-played g c =
    let same = c.in_ok-tell_missed.ensures.same in
    let all = passed_over (record { does = g.B.OnBus.does; looks = g.B.OnBus.looks }) (string_bytes c.args.self.now.ear.bus) _ c.tell_missed.new.self.ear.number _ c.args.self.now.clock
    c.args.self.now.is_timed c.in_ok-heard.heard.missed c.in_ok-heard.heard.frame _ _ _ _
    c.in_ok-heard.ensures.bus (sym (ap (λ e. e.number) same.0)) c.in_default.is c.in_ok-tell_missed.ensures.told in
    (c.in_ok-heard.heard, all.0, c.in_ok-heard.ensures.read, all.1, all.2, stands_still c.in_ok-heard.heard.frame _ _ _ _ c.in_default.is same.1 same.2)
