use Rattle.std.proofs.Common.{arith, refl, sym, subst, ◌<◌, length, take}
use Rattle.station_c.specs.Lines.{ReadsLines, ReadsNone, ReadsOther, TellsAt}
use Rattle.station_c.specs.declared.log_records.ReadRecord.{ReadRecord}
use Rattle.station_c.specs.declared.told.LineContent.{LineContent}
use Rattle.station_c.specs.declared.told.LineContent.TheVariants as told
use Rattle.station_c.proofs.LineLemmas.{one_frame_more}
use Rattle.station_c.proofs.SeriesLemmas.{untouched}
use Rattle.station_c.proofs.exports.logs.read_lines.Goals as goal

pub loop-count-init : goal.loop-count-init
loop-count-init c =
    record { lines = ReadsNone c.args.text.now c.args.bus.now; within = omega arith; few = omega arith; room = omega arith; frames = refl; logged = refl }

-- a line that tells nothing
pub loop-count-preserved-in-Nothing : goal.loop-count-preserved-in-Nothing
loop-count-preserved-in-Nothing c =
    let i = c.loop-count.invariant in
    let tells : TellsAt c.args.text.now c.args.bus.now c.loop-count.from c.in-Some.to told.Nothing =
    subst (λ (r : LineContent). TellsAt c.args.text.now c.args.bus.now c.loop-count.from c.in-Some.to r) c.in-Nothing.is c.in-Some.ensures.tells in record {
      lines = ReadsOther _ _ _ _ _ _ _ told.Nothing i.lines tells tt;
      within = c.in-Some.ensures.within.1;
      few = omega (arith, i.few, c.in-Some.ensures.within.0);
      room = i.room;
      frames = i.frames;
      logged = i.logged;
    }

-- the frame of a line stands behind those before
pub loop-count-preserved : goal.loop-count-preserved
loop-count-preserved c =
    let i = c.loop-count.invariant in
    let low : c.loop-count.count < length c.loop-count.frames = omega arith in let high : c.loop-count.count < length c.loop-count.logged = omega arith in
    let tells : TellsAt c.args.text.now c.args.bus.now c.loop-count.from c.in-Some.to (told.Frame c.in-Frame.time c.in-Frame.frame) =
    subst (λ (r : LineContent). TellsAt c.args.text.now c.args.bus.now c.loop-count.from c.in-Some.to r) c.in-Frame.is c.in-Some.ensures.tells in record {
      lines = one_frame_more _ _ _ _ _ _ _ _ _ _ _ i.lines tells c.of.ensures low high;
      within = c.in-Some.ensures.within.1;
      few = omega (arith, i.few, c.in-Some.ensures.within.0);
      room = omega arith;
      frames = untouched c.loop-count.frames c.args.frames.now c.loop-count.count _ i.frames;
      logged = untouched c.loop-count.logged c.args.logged.now c.loop-count.count _ i.logged;
    }

-- a line at which the reading stops
pub returns-in-Missed-clause-lines : goal.returns-in-Missed-clause-lines
returns-in-Missed-clause-lines c =
    let tells : TellsAt c.args.text.now c.args.bus.now c.loop-count.from c.in-Some.to (told.Missed c.in-Missed.missed) =
    subst (λ (r : LineContent). TellsAt c.args.text.now c.args.bus.now c.loop-count.from c.in-Some.to r) c.in-Missed.is c.in-Some.ensures.tells in
    subst (λ (r : ReadRecord). ReadsLines c.args.text.now c.args.bus.now r.bytes r.lines (take r.frames c.loop-count.frames) (take r.frames c.loop-count.logged) (told.Missed c.in-Missed.missed))
    (sym c.frames-in-Missed.ensures) (ReadsOther _ _ _ _ _ _ _ (told.Missed c.in-Missed.missed) c.loop-count.invariant.lines tells tt)

pub returns-in-Bad-clause-lines : goal.returns-in-Bad-clause-lines
returns-in-Bad-clause-lines c =
    let tells : TellsAt c.args.text.now c.args.bus.now c.loop-count.from c.in-Some.to (told.Bad c.in-Bad.why) =
    subst (λ (r : LineContent). TellsAt c.args.text.now c.args.bus.now c.loop-count.from c.in-Some.to r) c.in-Bad.is c.in-Some.ensures.tells in
    subst (λ (r : ReadRecord). ReadsLines c.args.text.now c.args.bus.now r.bytes r.lines (take r.frames c.loop-count.frames) (take r.frames c.loop-count.logged) (told.Bad c.in-Bad.why))
    (sym c.frames-in-Bad.ensures) (ReadsOther _ _ _ _ _ _ _ (told.Bad c.in-Bad.why) c.loop-count.invariant.lines tells tt)
