-- What one who takes part in a bus wrote comes back to it from there, as all frames do: so it tells its own from another's.
use Rattle.std.specs.Prelude.{ℕ, ◌≡◌, ◌≢◌, ◌+◌, ◌<◌, ◌++◌, ◌&&◌, Bool, true, false, nat_le, nat_lt, List, [], ◌∷◌, drop, length, slice_get, IfNone, IfSome, Option, Some, if◌then◌else◌}
use Rattle.can_frame.specs.FrameValue.{FrameValue}
use Rattle.live_unit.specs.declared.echo.TheConstants.{MOST_WRITTEN}

-- the frames that were written and have not come back, and whether one came back since all of them are kept
pub record EchoValue : Type 0 where
  pub written : List FrameValue
  pub comes_back : Bool

abbrev pub nothing_written : EchoValue
nothing_written = record { written = []; comes_back = false }

-- a frame was written: the newest are kept. Where the oldest is not, nobody is judged until one comes back
abbrev pub with_written : FrameValue → EchoValue → EchoValue
with_written f e = record {
  written = (if nat_le MOST_WRITTEN (length e.written) then drop 1 e.written else e.written) ++ f ∷ [];
  comes_back = e.comes_back && nat_lt (length e.written) MOST_WRITTEN;
}

-- a frame from its own address came back, and those written before it do not any more; or it is somebody else's, which is told once one came back
pub record HearsOwn (f : FrameValue) (stranger : Bool) (e e' : EchoValue) : Type 0 where
  pub place : Option ℕ
  pub known : IfSome place (λ k. (slice_get e.written k ≡ Some f) × (stranger ≡ false) × (e' ≡ record { written = drop (k + 1) e.written; comes_back = true }))
  pub unknown : IfNone place (((k : ℕ) → k < length e.written → slice_get e.written k ≢ Some f) × (stranger ≡ e.comes_back) × (e' ≡ e))
