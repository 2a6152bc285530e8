use Rattle.std.proofs.Common.{◌-◌}
use Rattle.std.specs.List.{All}
use Rattle.shop_texts.proofs.Index.{IsBelow}
use Rattle.shop_texts.proofs.unit_texts.UnitTexts.place_of.Given as goal

abbrev pub invariant-loop-less : goal.invariant-loop-less
invariant-loop-less l = All (IsBelow l.fn.name (32 - l.less)) l.self-inside.rows.items
