-- No unit is listed at first.
use Rattle.std.proofs.Common.{◌≡◌, ℕ, List, [], length, get_or, replicate}
use Rattle.std.proofs.lemmas.List.{get_or-replicate, length-replicate}
use Rattle.picture.specs.declared.unit.DrawnUnit.{DrawnUnit}
use Rattle.watch_page.specs.Listing.{Lists}
use Rattle.watch_page.specs.declared.unit_list.Listed.{Listed}
use Rattle.watch_page.specs.declared.unit_list.TheConstants.{ORDERS}
use Rattle.watch_page.specs.declared.unit_list.UnitList.{UnitList}

pub none_is_listed : (so : DrawnUnit → Listed) (list : UnitList) → list.listed.items ≡ [] → list.counts ≡ replicate ORDERS 0 → Lists so [] list
none_is_listed so list none zeros = record {
  items = none;
  room = rw zeros (length-replicate {A = ℕ} ORDERS 0);
  counts = λ order within. rw zeros (get_or-replicate {A = ℕ} ORDERS order 0 0 within);
}
