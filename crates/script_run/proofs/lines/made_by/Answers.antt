use Rattle.std.proofs.Common.{◌≡◌, Ok, Err, refl, ap, inl, inr, rules, ⊎_elim}
use Rattle.script_answer.specs.declared.refusal.Refusal.TheVariants.{Garage}
use Rattle.script_line.specs.declared.command.Command.TheVariants as command
use Rattle.script_run.specs.Lines.{IsNotMade, setting_meant}
use Rattle.script_run.proofs.lines.made_by.Goals as goal

pub returns-in_err-with_two-in-Garage2 : goal.returns-in_err-with_two-in-Garage2
returns-in_err-with_two-in-Garage2 c =
    let e = c.in_err-with_two-in-Garage2.field-0.0 in
    let told : c.from_residual-in_err-with_two-in-Garage2.result ≡ Err (Garage e) = search rules in
    let first : setting_meant c.in-Garage2.first ≡ Ok c.in_ok-setting_of-in-Garage2.field-0 = search rules in
    let second : setting_meant c.in-Garage2.second ≡ Ok c.in_ok-setting_of-in-Garage2-2.field-0 = search rules in
    let err = c.in_err-with_two-in-Garage2.ensures in
    let why : IsNotMade (command.Garage2 c.in-Garage2.limit c.in-Garage2.first c.in-Garage2.second) e = (
      _,
      _,
      first,
      second,
      ⊎_elim (λ bad. inl (bad, err.bad_setting.0 (ap Err bad))) (⊎_elim (λ same. let both = err.name_in_use.0 (ap Err same) in inr (inl (same, both.0, both.1))) (λ short. inr (inr short))) err.only,
    ) in
    rw told (inr (e, refl, rw c.in-Garage2.is why))
