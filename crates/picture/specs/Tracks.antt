-- What a track has of the spans that it was told.
use Rattle.std.specs.Prelude.{◌≡◌, ℕ, ◌≤◌, List, length}
use Rattle.picture.specs.Spans.{AreDrawnAs}
use Rattle.picture.specs.declared.span.Span.{Span}

-- the spans that are kept, and how many may be
pub record TrackValue : Type 0 where
  pub spans : List Span
  pub most : ℕ

-- as many as may be kept are kept as they were told; of more, neighbours are joined
pub record Keeps (told : List Span) (track : TrackValue) : Type 0 where
  pub exact : length told ≤ track.most → track.spans ≡ told
  pub drawn : AreDrawnAs told track.spans
