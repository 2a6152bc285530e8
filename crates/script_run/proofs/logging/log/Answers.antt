use Rattle.std.proofs.Common.{◌≡◌, ◌≢◌, [], IfSome, rules}
use Rattle.script_run.specs.Telling.{IsToldIf}
use Rattle.script_run.specs.declared.line_reporter.LineForm.TheVariants as form
use Rattle.script_run.proofs.Ending.{logged_of_input}
use Rattle.script_run.proofs.Relaying.{none_told, some_told}
use Rattle.script_run.proofs.logging.log.Goals as goal

pub returns-then-branch-clause-bad : goal.returns-then-branch-clause-bad
returns-then-branch-clause-bad g c =
    let is : IfSome (g.R.Read.remaining c.args.reader.now) (λ bytes. c.as_str.result.now ≡ bytes) = search rules in
    λ bad. logged_of_input _ c.as_str.result.now form.Answer _ _ c.in-Ok.wire (λ told. IsToldIf c.in_ok-report_lines.field-0 told) (λ told. told ≢ []) _ _ _ _ is
    (λ told h. some_told _ told c.if-branch.true h) c.in-Ok.ensures c.in_ok-report_lines.ensures.told

pub returns-clause-accepted : goal.returns-clause-accepted
returns-clause-accepted g c =
    let is : IfSome (g.R.Read.remaining c.args.reader.now) (λ bytes. c.as_str.result.now ≡ bytes) = search rules in
    logged_of_input _ c.as_str.result.now form.Answer _ _ c.in-Ok.wire (λ told. IsToldIf c.in_ok-report_lines.field-0 told) (λ told. told ≡ []) _ _ _ _ is
    (λ told h. none_told _ told c.if-branch.false h) c.in-Ok.ensures c.in_ok-report_lines.ensures.told
