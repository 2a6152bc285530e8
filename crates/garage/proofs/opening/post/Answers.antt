use Rattle.std.proofs.Common.{ℕ, ◌≡◌, ◌+◌, ◌<◌, ◌^◌, Some, arith, sym, ap, subst, ◌∙◌, below_more}
use Rattle.address_claim.specs.Frames.{claim_frame_value}
use Rattle.station_table.specs.Reactions.{own_claim}
use Rattle.station_table.specs.StationValue.{StationValue}
use Rattle.garage.specs.Inside.{ArePostsOf}
use Rattle.garage.specs.Opening.{setting_in}
use Rattle.garage.specs.declared.opening.Setting.{Setting}
use Rattle.garage.proofs.Posting.{posting_starts, posting_more, posts_more, setting_read}
use Rattle.garage.proofs.opening.post.Goals as goal

pub loop-seat-init : goal.loop-seat-init
loop-seat-init c = (
  (let none = c.in_ok-posts.ensures.len in omega arith, λ y h. absurd (omega arith)),
  λ y h. absurd (omega arith),
  posting_starts c.args.settings.now c.args.bus.now c.requires.new c.requires.spares,
)

pub loop-seat-preserved : goal.loop-seat-preserved
loop-seat-preserved c =
    let settings = c.args.settings.now in
    let i = c.loop-seat.seat in
    let x = c.index-settings-seat.result in
    let h = c.loop-seat-test.true in
    let s : x ≡ setting_in settings i = setting_read settings i x c.index-settings-seat.is h in
    let new = c.new-station.ensures.value in
    let claim = c.start.ensures.frame ∙ (ap (λ (v : StationValue). own_claim v.claimer) new ∙ ap (λ (z : Setting). claim_frame_value z.name (Some z.address)) s) in
    let small : (setting_in settings i).name < 2 ^ 64 = subst (λ (n : ℕ). n < 2 ^ 64) (ap (λ (v : StationValue). v.claimer.name) new ∙ ap (λ (z : Setting). z.name) s) c.start.ensures.name_fits in
    let inv = c.loop-seat.invariant in (
      subst (λ l. ArePostsOf l settings (i + 1)) (sym c.in_ok-push.ensures.items) (posts_more c.loop-seat.posts.items settings i _ inv.0 (cc (new, s, c.new-lists.ensures))),
      below_more _ _ inv.1 small,
      posting_more settings c.args.bus.now.traffic c.loop-seat.bus c.queue_reserved.new.self i c.start.result inv.2 h c.queue_reserved.ensures.traffic claim c.queue_reserved.ensures.spares,
    )
