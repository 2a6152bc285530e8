use Rattle.std.proofs.Common.{◌≡◌, ◌∙◌, refl, ap, length}
use Rattle.vehicle.specs.Moving.{bit_of}
use Rattle.vehicle.proofs.FieldLemmas.{shown_still}
use Rattle.vehicle.proofs.send_line.SendLine.frame.Goals as goal

pub returns-clause-moved : goal.returns-clause-moved
returns-clause-moved c =
    let s = c.args.self.now in
    let began : c.copy_from_slice.new.self ≡ s.bytes.items = c.copy_from_slice.ensures.after ∙ c.as_slice.ensures.value in
    rw (c.of.ensures, c.id-id.ensures) (record {
      id_is = refl;
      size = c.put_checksum.auto.bytes ∙ c.put_fields.auto.bytes ∙ ap length began;
      still = λ n still. c.put_checksum.ensures.others n still.1 ∙ c.put_fields.ensures.others n (rw c.as_slice-2.ensures.value still.0) ∙ ap (λ bytes. bit_of bytes n) began;
      moved = shown_still s.fields.items s.checksum c.args.count c.put_fields.new.bytes c.put_checksum.new.bytes s.room.sum_apart c.put_checksum.ensures.others (rw c.as_slice-2.ensures.value at c.put_fields.ensures.shows);
      checked = rw c.id-id.ensures at c.put_checksum.ensures.checked;
    })
