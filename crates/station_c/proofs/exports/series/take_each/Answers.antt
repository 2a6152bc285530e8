use Rattle.std.proofs.Common.{rules, arith, refl, subst, ◌≡◌, ◌+◌, ◌<◌, length, take, slice_set}
use Rattle.station_table.specs.Reactions.{silent}
use Rattle.station_table.specs.declared.reaction.Reaction.{Reaction}
use Rattle.station_c.specs.Series.{TakesFrames, TakesNone, reaction_told}
use Rattle.station_c.specs.declared.status.Status.TheVariants.{Done}
use Rattle.station_c.proofs.SeriesLemmas.{at_place, one_more, untouched}
use Rattle.station_c.proofs.exports.series.take_each.Goals as goal

pub loop-place-init : goal.loop-place-init
loop-place-init c = (TakesNone c.args.station.now, c.nothing.ensures, refl)

-- the frame that was refused is the one at the place
pub returns-then-ne-clause-id_too_large : goal.returns-then-ne-clause-id_too_large
returns-then-ne-clause-id_too_large c = λ e.
    let low : c.loop-place.place < length c.args.frames.now = omega arith in at_place _ _ _ _ low (c.take_one-status.ensures.id_too_large e)

pub returns-then-ne-clause-too_long : goal.returns-then-ne-clause-too_long
returns-then-ne-clause-too_long c = λ e.
    let low : c.loop-place.place < length c.args.frames.now = omega arith in at_place _ _ _ _ low (c.take_one-status.ensures.too_long e)

pub returns-then-ne-clause-out_of_memory : goal.returns-then-ne-clause-out_of_memory
returns-then-ne-clause-out_of_memory c = λ e.
    let low : c.loop-place.place < length c.args.frames.now = omega arith in at_place _ _ _ _ low (c.take_one-status.ensures.out_of_memory e)

-- the frame at the place was taken behind those before it
pub returns-then-not-says_nothing-clause-series : goal.returns-then-not-says_nothing-clause-series
returns-then-not-says_nothing-clause-series c =
    let low : c.loop-place.place < length c.args.frames.now = omega arith in let high : c.loop-place.place < length c.loop-place.changes = omega arith in
    let done : c.take_one-status.result ≡ Done = search rules in let one = c.take_one-status.ensures.taken done in
    one_more _ _ _ _ _ _ _ _ _ low high c.loop-place.invariant.0 one.0 one.1 one.2

pub loop-place-preserved : goal.loop-place-preserved
loop-place-preserved c =
    let low : c.loop-place.place < length c.args.frames.now = omega arith in let high : c.loop-place.place < length c.loop-place.changes = omega arith in
    let done : c.take_one-status.result ≡ Done = search rules in let one = c.take_one-status.ensures.taken done in
    let nothing : reaction_told c.take_one-status.new.reply ≡ silent = search rules in (
      subst (λ (r : Reaction). TakesFrames c.args.station.now (take (c.loop-place.place + 1) c.args.frames.now)
          (take (c.loop-place.place + 1) (slice_set c.loop-place.changes c.loop-place.place c.take_one-status.new.change)) r c.take_one-status.new.station) nothing
          (one_more _ _ _ _ _ _ _ _ _ low high c.loop-place.invariant.0 one.0 one.1 one.2),
      nothing,
      untouched c.loop-place.changes c.args.changes.now c.loop-place.place c.take_one-status.new.change c.loop-place.invariant.2,
    )
