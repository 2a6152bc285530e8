use Rattle.std.specs.Prelude.{◌≡◌, ◌*◌, ◌≤◌, vec_len, vec_capacity}
use Rattle.transport.specs.Pieces.{packet_count}
use Rattle.transport.specs.declared.assembly.Assembly.TheInside.{Inside}

-- the bytes are whole pieces, at most those of the size, and there is room for all of them
pub record HasRoom (a : Inside) : Type 0 where
  pub least : 9 ≤ a.size
  pub most : a.size ≤ 1785
  pub whole : vec_len a.bytes ≡ 7 * packet_count (vec_len a.bytes)
  pub within : packet_count (vec_len a.bytes) ≤ packet_count a.size
  pub room : 7 * packet_count a.size ≤ vec_capacity a.bytes
