use Rattle.std.proofs.Common.{rules, sym, ◌∙◌}
use Rattle.std.proofs.lemmas.Slice.Eq.{slice_eq-Decides}
use Rattle.trouble_code.specs.Code.{Code}
use Rattle.station_c.proofs.saving.is_same_codes.Goals as goal

pub returns : goal.returns
returns c e =
    sym c.as_slice.ensures
    ∙ (slice_eq-Decides (λ (a b : Code). search rules) c.as_slice.result.now c.as_slice-2.result.now c.eq.result c.eq.ensures).0 e
    ∙ c.as_slice-2.ensures
