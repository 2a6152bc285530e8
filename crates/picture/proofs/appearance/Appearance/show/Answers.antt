use Rattle.std.proofs.Common.{refl}
use Rattle.picture.proofs.Appearing.{shown_once_more}
use Rattle.picture.proofs.appearance.Appearance.show.Goals as goal

pub returns : goal.returns
returns c heard h =
    shown_once_more heard _ _ _ c.first_with-first.ensures.none c.first_with-first.ensures.some c.times_with-times.ensures.on c.times_with-times.ensures.off refl refl h
