use Rattle.std.proofs.Common.{sym}
use Rattle.shop_texts.proofs.Exact.{text_found}
use Rattle.shop_texts.proofs.unit_texts.UnitTexts.text_of.Goals as goal

pub returns-in-Some-clause-found : goal.returns-in-Some-clause-found
returns-in-Some-clause-found c = text_found _ _ _ _ _ _ (sym c.self.view_is) c.in-Some.ensures.found c.index.ensures c.as_str.ensures.value
