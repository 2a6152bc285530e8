use Rattle.std.proofs.Common.{subst}
use Rattle.can_frame.specs.FrameValue.{FrameValue}
use Rattle.can_frame.specs.declared.reading.Reading.TheVariants.{Frame}
use Rattle.station_c.specs.Series.{TakesReading, reaction_told}
use Rattle.station_c.proofs.SeriesLemmas.{took}
use Rattle.station_c.proofs.exports.series.take_one.Goals as goal

-- the frame that was taken is the one of the record
pub returns-in-Ok-clause-taken : goal.returns-in-Ok-clause-taken
returns-in-Ok-clause-taken c = λ done.
    let read = c.in-Ok.ensures.ok in (
      read.1,
      read.2,
      subst (λ (f : FrameValue). TakesReading c.args.station.now (Frame f) c.tell.new.change (reaction_told c.tell.new.reply) c.take.new.self) read.0
          (took _ _ _ c.take.result c.tell.result c.tell.new.reply c.tell.new.change _ _ c.take.ensures.stands c.take.ensures.lists c.take.ensures.keep
          c.take.ensures.answer c.take.ensures.change c.tell.ensures.refused c.tell.ensures.done done),
    )
