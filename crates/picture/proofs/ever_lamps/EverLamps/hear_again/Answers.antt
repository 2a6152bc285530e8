use Rattle.trouble_code.specs.declared.lamps.LampName.TheVariants.{Malfunction, RedStop, Amber, Protect}
use Rattle.picture.proofs.Going.{lamp_again}
use Rattle.picture.proofs.ever_lamps.EverLamps.hear_again.Goals as goal

pub returns : goal.returns
returns c m older h = record {
  red = lamp_again RedStop m older _ _ _ c.hear_again.ensures h.red;
  amber = lamp_again Amber m older _ _ _ c.hear_again-2.ensures h.amber;
  malfunction = lamp_again Malfunction m older _ _ _ c.hear_again-3.ensures h.malfunction;
  protect = lamp_again Protect m older _ _ _ c.hear_again-4.ensures h.protect;
}
