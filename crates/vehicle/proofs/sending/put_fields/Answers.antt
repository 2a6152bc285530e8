use Rattle.std.proofs.Common.{List, arith, ◌∙◌, subst}
use Rattle.std.specs.List.{All}
use Rattle.std.proofs.lemmas.List.{take_all}
use Rattle.vehicle.specs.Moving.{Shows, value_at}
use Rattle.vehicle.specs.declared.moving_field.MovingField.{MovingField}
use Rattle.vehicle.proofs.FieldLemmas.{shown_more, others_more}
use Rattle.vehicle.proofs.sending.put_fields.Goals as goal

pub loop-field-preserved : goal.loop-field-preserved
loop-field-preserved c =
    let fs = c.args.fields.now in
    let i = c.loop-field.field-index in
    let f = c.field-item.result in
    record {
      shows = shown_more fs i c.args.count f c.loop-field.bytes c.put.new.bytes (omega arith) c.field-item.is c.requires.apart c.loop-field.invariant.shows c.put.ensures.others (rw c.value.ensures at c.put.ensures.shows);
      others = λ n none. c.put.ensures.others n (others_more fs i f n (omega arith) c.field-item.is none).1 ∙ c.loop-field.invariant.others n (others_more fs i f n (omega arith) c.field-item.is none).0;
      none = λ e. absurd (omega arith);
    }

pub returns-clause-shows : goal.returns-clause-shows
returns-clause-shows c =
    let all = take_all c.loop-field.field-index c.args.fields.now c.loop-field-test.false in
    let P : List MovingField → Type 0 = λ fs. All (λ f. Shows f.bits (value_at f.motion c.args.count) c.loop-field.bytes) fs in
    subst P all c.loop-field.invariant.shows
