use Rattle.std.proofs.Common.{refl}
use Rattle.watch_page.proofs.Listing.{none_is_listed}
use Rattle.watch_page.proofs.unit_list.UnitList.new.Goals as goal

pub returns : goal.returns
returns c so = none_is_listed so _ c.new.ensures.items refl
