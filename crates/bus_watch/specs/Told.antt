-- What all the lines say that a watch was told, newest first.
use Rattle.std.specs.Prelude.{◌≡◌, ℕ, zero, suc, List, [], ◌∷◌, Some, None}
use Rattle.address_claim.specs.Frames.{claim_frame_value}
use Rattle.bus_model.specs.OverheardChanged.{change_overheard}
use Rattle.bus_model.specs.declared.overheard.Overheard.{Overheard}
use Rattle.can_frame.specs.declared.reading.Reading.{Reading}
use Rattle.can_frame.specs.declared.reading.Reading.TheVariants.{Frame, Gap}
use Rattle.candump_line.specs.declared.line.Line.{Line}
use Rattle.listener.specs.Paced.{half_heard}
use Rattle.reassembly.specs.Pairs.{no_pairs}
use Rattle.bus_watch.specs.Followed.{Followed, followed_after, reading_by, time_by}
use Rattle.bus_watch.specs.Runs.{Moment, readings_in, with_moment}
use Rattle.bus_watch.specs.Tellings.{is_news, told_of}
use Rattle.bus_watch.specs.declared.change.Changes.{Changes}
pub use Rattle.bus_watch.specs.WatchValue.{Beginning}
use Rattle.bus_watch.specs.WatchValue.{WatchValue, StandsInRuns}

-- a line, that a NAME is taken to hold an address, or to hold none
pub data Told : Type 0 where
  Read : Line → Told
  Assumed : (name address : ℕ) → Told
  Addressless : (name : ℕ) → Told

-- the readings of what was told with their times, newest first, and what is known of the bus by it
pub record Said : Type 0 where
  pub moments : List Moment
  pub followed : Followed

-- as many gaps as there were before
abbrev pub gaps_before : ℕ → List Moment
gaps_before zero = []
gaps_before (suc n) = record { reading = Gap 0; time = None } ∷ gaps_before n

abbrev pub nothing_said : Beginning → Said
nothing_said b = record {
  moments = gaps_before b.gaps;
  followed = record { skips_bad = b.skips_bad; silence = b.silence; bus = b.bus; packets = no_pairs };
}

-- a line is its reading; what is assumed is read as a claim, or cannot claim
abbrev pub said_with : Told → Said → Said
said_with (Read l) before = record {
  moments = with_moment (reading_by (half_heard (readings_in before.moments)) before.followed l) (time_by before.followed l) before.moments;
  followed = followed_after before.followed l;
}
said_with (Assumed name address) before = record before { moments = with_moment (Frame (claim_frame_value name (Some address))) None before.moments }
said_with (Addressless name) before = record before { moments = with_moment (Frame (claim_frame_value name None)) None before.moments }

abbrev pub all_said : Beginning → List Told → Said
all_said b [] = nothing_said b
all_said b (t ∷ older) = said_with t (all_said b older)

-- the readings alone
abbrev pub readings_said : Beginning → List Told → List Reading
readings_said b ts = readings_in (all_said b ts).moments

-- what the next one changes, with those before it
abbrev pub change_said : Beginning → Told → List Told → Overheard
change_said b (Read l) older = change_overheard (reading_by (half_heard (readings_said b older)) (all_said b older).followed l) (readings_said b older)
change_said b (Assumed name address) older = change_overheard (Frame (claim_frame_value name (Some address))) (readings_said b older)
change_said b (Addressless name) older = change_overheard (Frame (claim_frame_value name None)) (readings_said b older)

-- a watch that began so, and was told this
pub record StandsForAll (b : Beginning) (told : List Told) (w : WatchValue) : Type 0 where
  pub heard : StandsInRuns b w (all_said b told).moments
  pub followed : w.followed ≡ (all_said b told).followed

-- what is told of one more line, or of what is assumed: of what it changed, where that is news
abbrev pub IsToldAs : Told → WatchValue → WatchValue → Changes → Type 0
IsToldAs next old new told =
    (b : Beginning) (ts : List Told) → StandsForAll b ts old
    → told ≡ told_of b.selection.unclaimed (is_news old.told old.lists new.lists (change_said b next ts)) (change_said b next ts)
