-- An order that the station obeys.
use Rattle.std.specs.Prelude.{◌≡◌, ◌≤◌, length, Ok}
use Rattle.station_table.specs.StationValue.{StationValue}
use Rattle.station_table.specs.declared.reaction.Reaction.{Reaction}
use Rattle.journal.specs.Steps.{order_answer}
use Rattle.journal.specs.declared.order.Order.{Order}
use Rattle.garage.specs.declared.orders.TheConstants.{MOST_ORDERED}

-- this is what the order makes it queue, not more frames than there is room for
pub record Obeys (s : StationValue) (o : Order) (r : Reaction) : Type 0 where
  pub queues : order_answer s o ≡ Ok r
  pub few : length r.put ≤ MOST_ORDERED
