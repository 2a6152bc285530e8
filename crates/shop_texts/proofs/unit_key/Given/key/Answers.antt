use Rattle.std.proofs.Common.{ap, ◌∙◌}
use Rattle.std.specs.Bool.{then_some}
use Rattle.shop_texts.proofs.Index.{key_is}
use Rattle.shop_texts.proofs.unit_key.Given.key.Goals as goal

pub returns : goal.returns
returns c =
    let said = c.fields-fields.ensures.value in
    key_is _ _ _ _ _ c.args.name _ c.then_some.ensures (c.then_some-2.ensures ∙ ap (λ f. then_some c.args.self.function f.function) said)
    (c.then_some-3.ensures ∙ ap (λ f. then_some c.args.self.industry_group f.industry_group) said)
    (c.then_some-4.ensures ∙ ap (λ f. then_some c.args.self.vehicle_system f.vehicle_system) said)
    (c.then_some-5.ensures ∙ ap (λ f. then_some c.args.self.manufacturer f.manufacturer) said)
