use Rattle.std.proofs.Common.{rules, arith, refl, ◌≡◌, ◌<◌, length, true}
use Rattle.station_c.specs.HeardSeries.{HearsNone, tells_all}
use Rattle.station_c.specs.declared.status.Status.TheVariants.{Done}
use Rattle.station_c.proofs.Hearing.{heard_more, told_more}
use Rattle.station_c.proofs.SeriesLemmas.{at_place, untouched}
use Rattle.station_c.proofs.exports.hearing.series.hear_each.Goals as goal

pub loop-place-init : goal.loop-place-init
loop-place-init c = (HearsNone c.args.listener.now, (refl, refl))

-- the frame that was refused is the one at the place
pub returns-then-ne-clause-id_too_large : goal.returns-then-ne-clause-id_too_large
returns-then-ne-clause-id_too_large c = λ e.
    let low : c.loop-place.place < length c.args.frames.now = omega arith in at_place _ _ _ _ low (c.hear_one-status.ensures.id_too_large e)

pub returns-then-ne-clause-too_long : goal.returns-then-ne-clause-too_long
returns-then-ne-clause-too_long c = λ e.
    let low : c.loop-place.place < length c.args.frames.now = omega arith in at_place _ _ _ _ low (c.hear_one-status.ensures.too_long e)

pub returns-then-ne-clause-out_of_memory : goal.returns-then-ne-clause-out_of_memory
returns-then-ne-clause-out_of_memory c = λ e.
    let low : c.loop-place.place < length c.args.frames.now = omega arith in at_place _ _ _ _ low (c.hear_one-status.ensures.out_of_memory e)

-- the frame at the place was taken behind those before it, and all is told of it or not
pub loop-place-preserved : goal.loop-place-preserved
loop-place-preserved c =
    let low : c.loop-place.place < length c.args.frames.now = omega arith in let timed : c.loop-place.place < length c.args.logged.now = omega arith in
    let high : c.loop-place.place < length c.loop-place.heard = omega arith in
    let done : c.hear_one-status.result ≡ Done = search rules in let one = c.hear_one-status.ensures.heard done in
    let told : tells_all c.hear_one-status.new.heard ≡ true = search rules in (
      heard_more _ _ _ _ _ _ _ _ _ _ low timed high c.loop-place.invariant.0 c.loop-place.invariant.1.1 one.0 one.1 one.2,
      (
        untouched c.loop-place.heard c.args.heard.now c.loop-place.place c.hear_one-status.new.heard c.loop-place.invariant.1.0,
        told_more _ _ _ true high c.loop-place.invariant.1.1 told,
      ),
    )

pub returns-then-not-tells_all-clause-series : goal.returns-then-not-tells_all-clause-series
returns-then-not-tells_all-clause-series c =
    let low : c.loop-place.place < length c.args.frames.now = omega arith in let timed : c.loop-place.place < length c.args.logged.now = omega arith in
    let high : c.loop-place.place < length c.loop-place.heard = omega arith in
    let done : c.hear_one-status.result ≡ Done = search rules in let one = c.hear_one-status.ensures.heard done in
    heard_more _ _ _ _ _ _ _ _ _ _ low timed high c.loop-place.invariant.0 c.loop-place.invariant.1.1 one.0 one.1 one.2
