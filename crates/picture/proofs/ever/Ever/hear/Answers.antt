use Rattle.std.proofs.Common.{refl, arith}
use Rattle.picture.proofs.KeepingCodes.{all_go_on, lists_kept_as, same_kept}
use Rattle.picture.proofs.ever.Ever.hear.Goals as goal

pub returns : goal.returns
returns c told h =
    let old = c.args.self.now.codes.items in
    let kept = c.hear_kept.new.kept.items in
    let many = c.hear_kept.ensures.as_many in
    let each = c.hear_kept.ensures.each in
    let same = same_kept old kept many (λ k d b. (each k d b).same) in
    record {
      lit = c.hear.ensures told c.args.codes.now h.lit;
      listed = rw c.max-self.ensures
          (c.in_ok-more.ensures told c.args.lamps c.args.self.now.more (all_go_on old kept c.args.codes.now c.args.time.now told c.args.lamps many each h.listed.appear)
          (λ z. lists_kept_as old kept told same (h.listed.complete z)) (λ some. omega (arith, many, h.listed.full some)));
      heard = refl;
    }
