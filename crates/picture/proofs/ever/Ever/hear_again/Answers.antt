use Rattle.std.proofs.Common.{refl}
use Rattle.picture.proofs.Going.{keeps_again}
use Rattle.picture.proofs.ever.Ever.hear_again.Goals as goal

pub returns : goal.returns
returns c m older h = record {
  lit = c.hear_again.ensures m older h.lit;
  listed = keeps_again c.args.self.now.codes.items c.hear_kept_again.new.kept.items c.args.self.now.more c.args.time.now m older c.hear_kept_again.ensures.as_many c.hear_kept_again.ensures.each h.listed;
  heard = refl;
}
