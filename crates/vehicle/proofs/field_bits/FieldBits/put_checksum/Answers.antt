use Rattle.std.proofs.Common.{sym}
use Rattle.vehicle.proofs.field_bits.FieldBits.put_checksum.Goals as goal

pub returns-clause-checked : goal.returns-clause-checked
returns-clause-checked c =
    record {
      without = c.put.new.bytes;
      count = sym c.put-2.auto.bytes;
      zero = c.put.ensures.shows;
      same = λ n none. sym (c.put-2.ensures.others n none);
      shows = rw c.checksum.ensures at c.put-2.ensures.shows;
    }
