use Rattle.std.specs.Prelude.{◌≡◌, ◌+◌, ◌≤◌, true, length}
use Rattle.shared_groups.specs.Outgoing.{is_carried, packets_to_send}
use Rattle.shared_groups.specs.declared.outgoing.Outgoing.TheInside.{Inside}

-- the parts that went and may go are among those that the message has, and an identifier carries its group
pub record HasParts (o : Inside) : Type 0 where
  pub few : length o.payload ≤ 1785
  pub last : o.last ≤ packets_to_send o.payload
  pub next : o.next ≤ o.last + 1
  pub gone : o.gone ≤ packets_to_send o.payload
  pub carried : is_carried o.pgn ≡ true
