use Rattle.std.proofs.Common.{refl}
use Rattle.picture.proofs.KeepingCodes.{unseen}
use Rattle.picture.proofs.ever.begin.Goals as goal

pub returns : goal.returns
returns c = record {
  one = record { code = c.args.code; seen = c.hear.new.self };
  more = c.in_ok-push.ensures.items;
  same = refl;
  later = λ heard none. c.hear.ensures heard (unseen heard c.never-seen.result none c.never-seen.ensures);
}
