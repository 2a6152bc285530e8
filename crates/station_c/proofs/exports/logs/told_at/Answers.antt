-- The line at a place of a text.
use Rattle.std.proofs.Common.{◌≡◌, ℕ, ◌+◌, ◌-◌, List, Some, drop, length, take, refl, ap, ◌∙◌, subst, arith}
use Rattle.std.proofs.lemmas.List.{length-drop, take_all}
use Rattle.memchr.specs.Find.{IsFirstByte, is_byte}
use Rattle.station_c.proofs.exports.logs.told_at.Goals as goal

-- all that stands behind a place
all_behind : (text : List ℕ) (from : ℕ) → take (length text - from) (drop from text) ≡ drop from text
all_behind text from = let behind : length (drop from text) ≡ length text - from = length-drop from text in take_all (length text - from) (drop from text) (omega (arith, behind))

-- the line ends at the first line feed, and tells what was read of it
pub returns-clause-tells : goal.returns-clause-tells
returns-clause-tells c =
    let same = all_behind c.args.text.now c.args.from in
    record {
      end = c.in_ok-end.end;
      first = subst (λ (rest : List ℕ). IsFirstByte (is_byte 10) rest (Some c.in_ok-end.end)) same c.in_ok-end.ensures;
      behind = refl;
      said = c.read_line-said.result;
      reads = record {
        logged = λ digits ticks bus f end fraction fits name frame ends line.
            c.read_line-said.ensures.reads digits ticks bus f end fraction fits name frame ends (ap (take (c.in_ok-end.end + 1)) same ∙ line);
      };
      tells = c.of.ensures;
    }
